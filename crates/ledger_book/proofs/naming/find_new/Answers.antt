use Rattle.std.proofs.Common.{◌≡◌, ◌+◌, List, [], drop, insert, sym, ◌∙◌, ap, arith}
use Rattle.std.specs.Prelude.{cond, not}
use Rattle.std.specs.List.{prefix_len}
use Rattle.std.specs.Map.{keys_of}
use Rattle.std.specs.Ordering.{is_lt}
use Rattle.std.proofs.lemmas.Bool.{cond-true, cond-false}
use Rattle.std.proofs.lemmas.List.Sums.{prefix_len-le-length}
use Rattle.collection_keys.specs.Collections.{Pairs}
use Rattle.collection_keys.specs.Comparing.{collection_cmp}
use Rattle.ledger_book.specs.Naming.{named_from, placed, is_new}
use Rattle.ledger_book.proofs.Fresh.{placed-is, named_more}
use Rattle.ledger_book.proofs.naming.find_new.Goals as goal
use Rattle.ledger_book.proofs.naming.find_new.Goals.{then-is_new+in_ok-insert, else-is_new}

pub insert-requires : goal.insert-requires
insert-requires c =
    let k = c.posting-item.result.collection in
    grind (arith, c.place_of-place.ensures, c.deref-then-is_new.ensures.value, prefix_len-le-length (λ (j : Pairs). not (is_lt (collection_cmp k j))) c.loop-posting.coming.items)

pub loop-posting-preserved : goal.loop-posting-preserved
loop-posting-preserved c =
    let p = c.posting-item.result in
    let k = p.collection in
    let ps = c.args.postings.now in
    let old = keys_of c.args.supplies.now.entries in
    let found = c.loop-posting.coming.items in
    let told = ap (λ (ks : List Pairs). is_new old ps ks p) (sym c.deref.ensures.value) ∙ sym c.is_new.ensures in
    let goes_on : (next : List Pairs) → next ≡ cond (is_new old ps found p) (placed k found) found → named_from old ps next (drop (c.loop-posting.posting-index + 1) ps) ≡ named_from old ps [] ps
    = λ next step. named_more old ps ps found next c.loop-posting.posting-index p c.loop-posting-test.true c.posting-item.is step ∙ c.loop-posting.invariant in
    elim c.if-is_new.branch [
      | then-is_new+in_ok-insert w ↦
          let place = w.place_of-place.ensures ∙ ap (prefix_len (λ (j : Pairs). not (is_lt (collection_cmp k j)))) w.deref-then-is_new.ensures.value in
          goes_on c.if-is_new.coming.items (ap (λ v. v.items) w.coming-is ∙ w.in_ok-insert.ensures.items ∙ ap (λ n. insert found n k) place ∙ sym (placed-is k found) ∙ sym (cond-true _ (placed k found) found (told ∙ w.if-is_new.true)))
      | else-is_new w ↦ goes_on c.if-is_new.coming.items (ap (λ v. v.items) w.coming-is ∙ sym (cond-false _ (placed k found) found (told ∙ w.if-is_new.false)))
    ]
