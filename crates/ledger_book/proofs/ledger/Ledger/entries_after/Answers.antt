use Rattle.std.proofs.Common.{List, sym, ◌∙◌, subst, take, arith}
use Rattle.std.proofs.lemmas.List.{take_all}
use Rattle.ledger_book.specs.Entries.{HasEntries, held_after}
use Rattle.ledger_book.specs.Ledger.{LedgerView, amount_at}
use Rattle.ledger_book.specs.declared.posting.Posting.{Posting}
use Rattle.ledger_book.proofs.Counted.{entries_some}
use Rattle.ledger_book.proofs.Mixed.{mixed, mixed_first, mixed_again, mixed_not_yet, mixed_whole}
use Rattle.ledger_book.proofs.ledger.Ledger.entries_after.Goals as goal
use Rattle.ledger_book.proofs.ledger.Ledger.entries_after.Goals.{then-not-is_position_in, else-not-is_position_in}

pub loop-place-init : goal.loop-place-init
unfolding amount_at
loop-place-init c =
    let had = subst (λ (l : LedgerView). HasEntries (amount_at l) c.self.inside.entries) c.self.view_is c.self.invariant.2 in
    record { counted = rw c.from-entries.ensures had; few = omega arith }

pub counted-entries-requires-clause-some : goal.counted-entries-requires-clause-some
counted-entries-requires-clause-some c =
    let p = c.index-postings-place.result in
    let held = amount_at c.args.self.now in
    let before = sym c.is_position_in.ensures ∙ c.if-not-is_position_in.true in
    λ more. entries_some (mixed held (held_after held c.args.postings.now) (take c.loop-place.place c.args.postings.now)) c.loop-place.entries p.account p.collection
    (omega (arith, more, mixed_not_yet held (held_after held c.args.postings.now) (take c.loop-place.place c.args.postings.now) p.account p.collection before))
    c.loop-place.invariant.counted

pub counted-entries-requires-clause-few : goal.counted-entries-requires-clause-few
counted-entries-requires-clause-few c = omega arith

pub loop-place-preserved : goal.loop-place-preserved
loop-place-preserved c =
    let p = c.index-postings-place.result in
    let held = amount_at c.args.self.now in
    let ps = c.args.postings.now in
    let new = held_after held ps in
    let i = c.loop-place.place in
    elim c.if-not-is_position_in.branch [
      | then-not-is_position_in w ↦ rw w.entries-is record {
        counted = mixed_first held new ps i p c.loop-place.entries w.counted-entries.result c.loop-place-test.true c.index-postings-place.is (sym c.is_position_in.ensures ∙ w.if-not-is_position_in.true) w.counted-entries.ensures c.loop-place.invariant.counted;
        few = grind (arith, w.counted-entries.ensures, c.loop-place.invariant.few);
      }
      | else-not-is_position_in w ↦ rw w.entries-is record {
        counted = mixed_again held new ps i p c.loop-place.entries c.loop-place-test.true c.index-postings-place.is (sym c.is_position_in.ensures ∙ w.if-not-is_position_in.false) c.loop-place.invariant.counted;
        few = omega (arith, c.loop-place.invariant.few);
      }
    ]

pub returns : goal.returns
returns c =
    let held = amount_at c.args.self.now in
    let ps = c.args.postings.now in
    let all = take_all c.loop-place.place ps c.loop-place-test.false in
    mixed_whole held ps c.loop-place.entries
    (subst (λ (front : List Posting). HasEntries (mixed held (held_after held ps) front) c.loop-place.entries) all c.loop-place.invariant.counted)
