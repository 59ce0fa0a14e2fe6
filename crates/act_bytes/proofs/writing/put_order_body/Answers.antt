use Rattle.act_bytes.specs.Spelling.{order_bytes}
use Rattle.act_bytes.proofs.Putting.{then-puts}
use Rattle.act_bytes.proofs.writing.put_order_body.Goals as goal

pub returns-in-Place : goal.returns-in-Place
unfolding order_bytes
returns-in-Place c =
    let first = then-puts (then-puts c.put_u16-end.ensures c.put_u8-end.ensures) c.put_u8-end-in-Place.ensures in
    let numbers = then-puts (then-puts (then-puts (then-puts first c.put_u64-end.ensures) c.put_u64-end-in-Place.ensures) c.put_u64-end-in-Place-2.ensures) c.put_u64-end-in-Place-3.ensures in
    rw (c.in-Place.is, ← c.get-in-Place.ensures.value, ← c.side_byte.ensures) (then-puts numbers c.put_u16-in-Place.ensures)

pub returns-in-Match : goal.returns-in-Match
unfolding order_bytes
returns-in-Match c = rw (c.in-Match.is, ← c.get-in-Match.ensures, ← c.as_slice.ensures) (then-puts (then-puts c.put_u32-end.ensures c.put_u64-end-in-Match.ensures) c.put_fills.ensures)
