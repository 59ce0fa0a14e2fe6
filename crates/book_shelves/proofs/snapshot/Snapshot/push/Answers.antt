use Rattle.std.proofs.Common.{◌<◌, All, List, subst, sym}
use Rattle.book_shelves.specs.declared.offer.Offer.{Offer}
use Rattle.book_shelves.proofs.Ascent.{IsSnapshot-push}
use Rattle.book_shelves.proofs.snapshot.Snapshot.push.Goals as goal

pub invariant_of-self-2 : goal.invariant_of-self-2
invariant_of-self-2 c =
    let above = subst (λ (offers : List Offer). All (λ before. before.order < c.args.offer.order) offers) (sym c.self.view_is) c.requires.above in
    rw c.in_ok-push.ensures.items (IsSnapshot-push c.self.inside.offers.items c.args.offer c.self.invariant above c.requires.within)
