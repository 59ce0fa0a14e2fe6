use Rattle.std.proofs.Common.{arith}
use Rattle.order_table.proofs.orders.Orders.reserve.Goals as goal

pub invariant_of-self : goal.invariant_of-self
invariant_of-self c =
    (omega (arith, c.in_err-reserve.ensures.len), c.self.invariant.1, c.self.invariant.2, rw c.in_err-reserve.ensures.items c.self.invariant.3, c.self.invariant.4)

pub invariant_of-self-2 : goal.invariant_of-self-2
invariant_of-self-2 c =
    (omega (arith, c.in_ok-reserve.ensures.len), c.self.invariant.1, c.self.invariant.2, rw c.in_ok-reserve.ensures.items c.self.invariant.3, c.self.invariant.4)
