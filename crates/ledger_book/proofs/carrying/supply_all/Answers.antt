use Rattle.std.proofs.Common.{List, sym, ◌∙◌, subst}
use Rattle.std.proofs.lemmas.List.{take_all}
use Rattle.ledger_book.specs.declared.posting.Posting.{Posting}
use Rattle.ledger_book.proofs.Movements.{AreSuppliesCarried, supplies_whole, supplies_first, supplies_again}
use Rattle.ledger_book.proofs.carrying.supply_all.Goals as goal
use Rattle.ledger_book.proofs.carrying.supply_all.Goals.{then-not-is_collection_in, else-not-is_collection_in}

pub loop-place-preserved : goal.loop-place-preserved
loop-place-preserved c =
    let p = c.index-postings-place.result in
    let old = c.args.supplies.now.entries in
    let ps = c.args.postings.now in
    let i = c.loop-place.place in
    elim c.if-not-is_collection_in.branch [
      | then-not-is_collection_in w ↦ rw w.supplies-is record {
        carried = supplies_first old c.loop-place.supplies.entries w.supply.new.supplies.entries ps i p c.loop-place-test.true c.index-postings-place.is (sym c.is_collection_in.ensures ∙ w.if-not-is_collection_in.true) w.supply.ensures.here w.supply.ensures.other c.loop-place.invariant.carried;
        names = w.supply.ensures.names ∙ c.loop-place.invariant.names;
      }
      | else-not-is_collection_in w ↦ rw w.supplies-is record {
        carried = supplies_again old c.loop-place.supplies.entries ps i p c.loop-place-test.true c.index-postings-place.is (sym c.is_collection_in.ensures ∙ w.if-not-is_collection_in.false) c.loop-place.invariant.carried;
        names = c.loop-place.invariant.names;
      }
    ]

pub returns-clause-supplies : goal.returns-clause-supplies
returns-clause-supplies c =
    let ps = c.args.postings.now in
    let all = take_all c.loop-place.place ps c.loop-place-test.false in
    supplies_whole c.args.supplies.now.entries c.loop-place.supplies.entries ps
    (subst (λ (front : List Posting). AreSuppliesCarried c.args.supplies.now.entries c.loop-place.supplies.entries ps front) all c.loop-place.invariant.carried)
