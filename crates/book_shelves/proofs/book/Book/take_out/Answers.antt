use Rattle.std.proofs.Common.{◌≡◌, ◌∙◌, ap, arith, sym}
use Rattle.book_shelves.specs.Shelves.{BookView, without}
use Rattle.book_shelves.proofs.Ascent.{IsAscending-filter, found, missed, without-absent}
use Rattle.book_shelves.proofs.book.Book.take_out.Goals as goal

pub invariant_of-self : goal.invariant_of-self
invariant_of-self c =
    let orders = c.self.inside.orders.items in
    let taken : c.remove.new.self.items ≡ without c.args.o orders = c.remove.ensures.items ∙ found orders c.args.o c.in-Ok.place c.self.invariant.1 (rw c.deref.ensures.value at c.in-Ok.ensures.position) in
    (omega (arith, c.remove.ensures.len, c.self.invariant.0), rw taken (IsAscending-filter _ orders c.self.invariant.1))

pub returns-in-Ok-clause-orders : goal.returns-in-Ok-clause-orders
returns-in-Ok-clause-orders c =
    let orders = c.self.inside.orders.items in
    let taken : c.remove.new.self.items ≡ without c.args.o orders = c.remove.ensures.items ∙ found orders c.args.o c.in-Ok.place c.self.invariant.1 (rw c.deref.ensures.value at c.in-Ok.ensures.position) in
    taken ∙ ap (λ (v : BookView). without c.args.o v.orders) c.self.view_is

pub returns-in_default-clause-orders : goal.returns-in_default-clause-orders
returns-in_default-clause-orders c =
    let orders = c.self.inside.orders.items in
    let same = without-absent c.args.o orders (missed orders c.args.o c.in_default.field-0 c.self.invariant.1 (rw c.deref.ensures.value at c.in_default.ensures.position)) in
    ap (λ (v : BookView). v.orders) (sym c.self.view_is) ∙ (sym same ∙ ap (λ (v : BookView). without c.args.o v.orders) c.self.view_is)
