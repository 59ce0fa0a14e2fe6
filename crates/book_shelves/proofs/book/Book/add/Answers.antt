use Rattle.std.proofs.Common.{◌<◌, All, arith, length, subst, sym}
use Rattle.book_shelves.specs.Shelves.{BookView}
use Rattle.book_shelves.proofs.Ascent.{IsAscending-push}
use Rattle.book_shelves.proofs.book.Book.add.Goals as goal

pub invariant_of-self : goal.invariant_of-self
invariant_of-self c =
    let orders = c.self.inside.orders.items in
    let above = subst (λ (v : BookView). All (λ n. n < c.args.o) v.orders) (sym c.self.view_is) c.requires.above in
    let below : length orders < c.self.inside.limit = subst (λ (v : BookView). length v.orders < v.limit) (sym c.self.view_is) c.requires.below in
    (omega (arith, c.push_reserved.ensures.len, below, c.self.inside.orders.ok), rw c.push_reserved.ensures.items (IsAscending-push orders c.args.o c.self.invariant.1 above))
