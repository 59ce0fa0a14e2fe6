use Rattle.std.proofs.Common.{arith}
use Rattle.condition_table.proofs.table.Conditions.reserve.Goals as goal

pub invariant_of-self : goal.invariant_of-self
invariant_of-self c =
    (omega (arith, c.in_err-reserve.ensures.len), c.self.invariant.1, omega (arith, c.in_err-reserve.ensures.len), rw c.in_err-reserve.ensures.items c.self.invariant.3)

pub invariant_of-self-in_err-reserve-2 : goal.invariant_of-self-in_err-reserve-2
invariant_of-self-in_err-reserve-2 c =
    (omega arith, c.self.invariant.1, omega arith, rw (c.in_ok-reserve.ensures.items, c.in_err-reserve-2.ensures.items) c.self.invariant.3)

pub invariant_of-self-2 : goal.invariant_of-self-2
invariant_of-self-2 c =
    (omega arith, c.self.invariant.1, omega arith, rw (c.in_ok-reserve.ensures.items, c.in_ok-reserve-2.ensures.items) c.self.invariant.3)
