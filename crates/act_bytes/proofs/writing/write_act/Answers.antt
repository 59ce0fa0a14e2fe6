use Rattle.std.proofs.Common.{arith}
use Rattle.act_bytes.proofs.Rooms.{has-room}
use Rattle.act_bytes.proofs.Lengths.{length-body}
use Rattle.act_bytes.proofs.Putting.{puts-act}
use Rattle.act_bytes.proofs.writing.write_act.Goals as goal

pub put_body-requires-clause-fields : goal.put_body-requires-clause-fields
put_body-requires-clause-fields c = has-room c.args.act.now.command c.requires

pub put_body-requires-clause-room : goal.put_body-requires-clause-room
put_body-requires-clause-room c = omega (arith, length-body c.args.act.now.command c.requires, c.put_u64-end.ensures.place, c.put_u16-end.ensures.place, c.put_u8-end.ensures.place)

pub returns-clause-spells : goal.returns-clause-spells
returns-clause-spells c = record {
  moment = omega arith;
  account = omega (arith, c.get.ensures);
  may_be_act = c.requires;
  bytes =
      puts-act c.args.into.now c.put_u64-end.new.into c.put_u16-end.new.into c.put_u8-end.new.into c.put_body.new.into c.put_u64-end.result c.put_u16-end.result c.put_u8-end.result c.put_body.result c.args.act.now c.get.result c.kind_of.result
      c.put_u64-end.ensures c.put_u16-end.ensures c.put_u8-end.ensures c.put_body.ensures c.get.ensures c.kind_of.ensures;
}
