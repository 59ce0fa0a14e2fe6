use Rattle.std.proofs.Common.{◌≡◌, ℕ, ◌+◌, ◌-◌, arith, ap, take, drop, ◌∙◌}
use Rattle.byteorder.specs.Endian.{big_number}
use Rattle.journal_store.proofs.Cutting.{batched, cut-batch, batch-counted}
use Rattle.journal_store.proofs.payload.count_of_batch.Goals as goal

pub returns-then-bytes-lt4-clause-none : goal.returns-then-bytes-lt4-clause-none
returns-then-bytes-lt4-clause-none c = λ batch gate more is are. omega (arith, (batched batch gate more c.args.bytes.now is are).room)

pub returns-then-bytes-size-clause-none : goal.returns-then-bytes-size-clause-none
returns-then-bytes-size-clause-none c = λ batch gate more is are. let room = (batched batch gate more c.args.bytes.now is are).room in omega (arith, room, c.first_u32-size.ensures, c.if-bytes-size.true)

pub returns-in-Some-clause-some : goal.returns-in-Some-clause-some
returns-in-Some-clause-some c =
    cut-batch c.args.bytes.now c.in-Some.count (4 + c.first_u32-size.result - 4) (λ i. omega (arith, c.type_inv.bytes i)) (omega (arith, c.first_u32-size.ensures)) (omega (arith, c.if-bytes-size.false, c.if-bytes-lt4.false))
    c.in-Some.ensures.some c.if-count-ge1.true c.if-count-le-MAX_PAYLOADS.true

pub returns-in_default-clause-none : goal.returns-in_default-clause-none
returns-in_default-clause-none c = λ batch gate more is are.
    let size : 4 + c.first_u32-size.result - 4 ≡ big_number 4 c.args.bytes.now = omega (arith, c.first_u32-size.ensures) in
    let same = batch-counted c.in-Some.count c.args.bytes.now _ c.in-Some.ensures.some (ap (λ (n : ℕ). take n (drop 4 c.args.bytes.now)) size) batch gate more is are in
    omega (arith, same, is.at_least, is.at_most, c.if-count-le-MAX_PAYLOADS.false)

pub returns-in_default-2-clause-none : goal.returns-in_default-2-clause-none
returns-in_default-2-clause-none c = λ batch gate more is are.
    let size : 4 + c.first_u32-size.result - 4 ≡ big_number 4 c.args.bytes.now = omega (arith, c.first_u32-size.ensures) in
    let same = batch-counted c.in-Some.count c.args.bytes.now _ c.in-Some.ensures.some (ap (λ (n : ℕ). take n (drop 4 c.args.bytes.now)) size) batch gate more is are in
    omega (arith, same, is.at_least, is.at_most, c.if-count-ge1.false)

pub returns-in_default-3-clause-none : goal.returns-in_default-3-clause-none
returns-in_default-3-clause-none c = λ batch gate more is are.
    let size : 4 + c.first_u32-size.result - 4 ≡ big_number 4 c.args.bytes.now = omega (arith, c.first_u32-size.ensures) in
    let b = batched batch gate more c.args.bytes.now is are in
    c.in_default.ensures.none batch is.payloads (ap (λ (n : ℕ). take n (drop 4 c.args.bytes.now)) size ∙ b.inner)
