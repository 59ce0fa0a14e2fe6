use Rattle.std.proofs.Common.{sym, ◌∙◌, arith}
use Rattle.std.specs.Map.{keys_of}
use Rattle.ledger_book.specs.Ledger.{rows}
use Rattle.ledger_book.proofs.Numbers.{number_found, number_none}
use Rattle.ledger_book.proofs.Places.{placed_under, placed_nowhere, placed_next}
use Rattle.ledger_book.proofs.keeping.place_all.Goals as goal
use Rattle.ledger_book.proofs.keeping.place_all.Goals.{in-Some+in_ok-place, in_default}

pub loop-posting-preserved : goal.loop-posting-preserved
loop-posting-preserved c =
    let p = c.posting-item.result in
    let ps = c.args.postings.now in
    let ks = keys_of c.args.supplies.now.entries in
    let i = c.loop-posting.posting-index in
    let rs = rows c.loop-posting.accounts.items in
    elim c.match-get_index_of.branch [
      | in-Some+in_ok-place w ↦ rw w.accounts-is record {
        same = λ a n. w.place.ensures.same a n ∙ c.loop-posting.invariant.same a n;
        longer = omega (arith, w.place.ensures.longer, c.loop-posting.invariant.longer);
        placed = placed_next rs (rows w.place.new.accounts.items) ks ps i p c.loop-posting-test.true c.posting-item.is w.place.ensures.stays c.loop-posting.invariant.placed
            (placed_under (rows w.place.new.accounts.items) ks p w.in-Some.number (number_found ks p.collection w.in-Some.number (sym c.get_index_of.ensures.index ∙ w.in-Some.is)).0 w.in_ok-place.ensures.ok);
      }
      | in_default w ↦ rw w.accounts-is record {
        same = c.loop-posting.invariant.same;
        longer = c.loop-posting.invariant.longer;
        placed = placed_next rs rs ks ps i p c.loop-posting-test.true c.posting-item.is (λ a n there. there) c.loop-posting.invariant.placed
            (placed_nowhere rs ks p (number_none ks p.collection (sym c.get_index_of.ensures.index ∙ w.in_default.is)).1);
      }
    ]
