use Rattle.std.proofs.Common.{◌≤◌, length}
use Rattle.std.proofs.lemmas.List.{length-map}
use Rattle.book_propose.specs.Pricing.{priced}
use Rattle.book_propose.specs.declared.terms.TheConstants.{MAX_MAKERS}
use Rattle.book_propose.proofs.Insertion.{kept-inside, kept-outside}
use Rattle.book_propose.proofs.ranking.keep.Goals as goal

pub returns-in_ok-insert : goal.returns-in_ok-insert
returns-in_ok-insert c kept few best_is =
    let place_is = rw c.deref.ensures.value at c.place_of-place.ensures.value in
    rw (c.truncate.ensures.items, c.in_ok-insert.ensures.items) (kept-inside c.args.taker.now c.args.offer kept MAX_MAKERS c.place_of-place.result c.effective-price.result c.side.result c.args.best.now.items best_is c.side.ensures c.effective-price.ensures place_is)

pub returns-else-place-lt-MAX_MAKERS : goal.returns-else-place-lt-MAX_MAKERS
returns-else-place-lt-MAX_MAKERS c kept few best_is =
    let place_is = rw c.deref.ensures.value at c.place_of-place.ensures.value in
    let best_few : length c.args.best.now.items ≤ MAX_MAKERS = rw (best_is, length-map kept (priced c.args.taker.now)) few in
    kept-outside c.args.taker.now c.args.offer kept MAX_MAKERS c.place_of-place.result c.effective-price.result c.side.result c.args.best.now.items best_is c.side.ensures c.effective-price.ensures place_is best_few c.if-place-lt-MAX_MAKERS.false
