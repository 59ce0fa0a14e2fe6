use Rattle.std.proofs.Common.{◌≡◌, ◌+◌, ◌<◌, ◌≤◌, length, sym, ◌∙◌, subst, arith}
use Rattle.order_table.specs.declared.orders.TheConstants.{MAX_NONCE}
use Rattle.order_table.specs.Orders.{OrdersView, nonce_of}
use Rattle.order_table.proofs.Nonces.{read-nonce, within-set}
use Rattle.order_table.proofs.orders.Orders.bump.Goals as goal

pub invariant_of-self : goal.invariant_of-self
invariant_of-self c =
    let nonces = c.self.inside.nonces.items in
    let number : c.from.result ≡ c.args.a = c.from.ensures ∙ c.get.ensures in
    let below = subst (λ (v : OrdersView). nonce_of v c.args.a < MAX_NONCE) (sym c.self.view_is) c.requires in
    let inside : c.args.a < length nonces = omega (arith, number, c.get.ensures, c.get.type_inv, c.self.invariant.2, c.self.inside.nonces.ok) in
    let read = read-nonce nonces c.args.a c.index_mut.result.now (rw number at c.index_mut.ensures.value) inside in
    let most : c.index_mut.result.now + 1 ≤ MAX_NONCE = omega (arith, read, below) in
    (c.self.invariant.0, c.self.invariant.1, c.self.invariant.2, c.self.invariant.3, within-set nonces c.from.result (c.index_mut.result.now + 1) most c.self.invariant.4)
