use Rattle.std.proofs.Common.{◌≡◌, ◌∙◌, ℕ, true, [], ap, subst, take, ◌<◌}
use Rattle.std.proofs.lemmas.Result.{err_from_is_err_and}
use Rattle.collection_keys.specs.Collections.{Pairs, joined}
use Rattle.collection_keys.specs.Comparing.{same_collection}
use Rattle.ledger_book.specs.Ledger.{amount_at}
use Rattle.ledger_book.specs.Postings.{debit}
use Rattle.split_merge.specs.Splitting.{parts_of}
use Rattle.split_merge.proofs.Apart.{same_set, unpaid, untaken_at}
use Rattle.split_merge.proofs.Paying.{posted_more}
use Rattle.split_merge.proofs.Shortage.{none_short_more, short_there}
use Rattle.split_merge.proofs.merge.take_parts.Goals as goal

pub take-requires-clause-unpaid : goal.take-requires-clause-unpaid
take-requires-clause-unpaid c =
    rw c.loop-place.invariant.postings
    (unpaid c.args.a c.args.amount (parts_of c.args.parent.now c.args.c (take c.loop-place.place c.args.sets.now)) c.args.a c.part_of.result)

pub take-requires-clause-untaken : goal.take-requires-clause-untaken
take-requires-clause-untaken c =
    let f : ℕ → Pairs = λ i. joined c.args.parent.now c.args.c i in
    let same : (i j : ℕ) → same_collection (f i) (f j) ≡ true → i ≡ j
    = λ i j yes. same_set c.args.parent.now c.args.c (λ n. c.part_of_joined.ensures.same c.args.parent.now c.args.c n c.requires.free) i j ((c.same_exactly_where_equal.ensures.same (f i) (f j)).0 yes) in
    let some = subst (λ (n : ℕ). 0 < n) c.bits-bits.ensures.value c.bits-bits.ensures.nonempty in
    rw (c.loop-place.invariant.postings, c.part_of.ensures)
    (untaken_at c.args.a c.args.amount f c.args.sets.now c.loop-place.place c.index-sets-place.result same c.requires.apart c.loop-place-test.true c.index-sets-place.is some)

pub returns-in_err-take-clause-short : goal.returns-in_err-take-clause-short
returns-in_err-take-clause-short c =
    let f : ℕ → Pairs = λ i. joined c.args.parent.now c.args.c i in
    let held : Pairs → ℕ = amount_at c.args.l.now c.args.a in
    let p = err_from_is_err_and c.from_residual.result c.from_residual.ensures.1 in
    rw (p.1, p.2)
    (short_there held c.args.amount f c.args.sets.now c.loop-place.place c.index-sets-place.result c.part_of.result c.in_err-take.field-0.0
    c.loop-place-test.true c.index-sets-place.is c.part_of.ensures c.loop-place.invariant.enough c.in_err-take.ensures.short)

pub loop-place-preserved : goal.loop-place-preserved
loop-place-preserved c =
    let f : ℕ → Pairs = λ i. joined c.args.parent.now c.args.c i in
    let held : Pairs → ℕ = amount_at c.args.l.now c.args.a in
    record {
      postings = posted_more (λ k. debit c.args.a k c.args.amount) f [] c.loop-place.s.postings _ c.args.sets.now c.loop-place.place c.index-sets-place.result c.part_of.result c.loop-place-test.true c.index-sets-place.is c.part_of.ensures (ap (λ s. s.postings) c.in_ok-take.ensures.ok) c.loop-place.invariant.postings;
      vault = c.in_ok-take.ensures.vault ∙ c.loop-place.invariant.vault;
      enough = none_short_more held c.args.amount f c.args.sets.now c.loop-place.place c.index-sets-place.result c.part_of.result c.loop-place-test.true c.index-sets-place.is c.part_of.ensures c.loop-place.invariant.enough c.in_ok-take.ensures.short;
      funded = c.in_ok-take.ensures.funded c.loop-place.invariant.funded;
      within = c.in_ok-take.ensures.within;
    }
