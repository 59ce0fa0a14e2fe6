use Rattle.std.proofs.Common.{◌≡◌, ℕ, ◌*◌, ◌≤◌, ◌++◌, drop, Some}
use Rattle.std.specs.Prelude.{map, slice_get}
use Rattle.collection_keys.specs.Collections.{Pairs}
use Rattle.convert_positions.specs.Converting.{no_of, chosen, chosen_from, short_from, short_question}
use Rattle.convert_positions.specs.Questions.{conditions_in}
use Rattle.ledger_book.specs.Ledger.{amount_at}
use Rattle.ledger_book.specs.Postings.{debit, credits, debits, AreWithin, IsFunded}
use Rattle.convert_positions.proofs.taking.take_chosen.Given as goal

abbrev pub invariant-loop-place : goal.invariant-loop-place
invariant-loop-place l =
    let cs = conditions_in l.e.events l.event in
    record {
      postings : l.s.postings ++ map (λ c. debit l.a (no_of c) l.amount) (chosen_from l.set l.place (drop l.place cs)) ≡ map (λ c. debit l.a (no_of c) l.amount) (chosen l.set cs);
      short : short_question (amount_at l.l l.a) l.amount l.set cs ≡ short_from (amount_at l.l l.a) l.amount l.set l.place (drop l.place cs);
      unpaid : (b : ℕ) (k : Pairs) → credits l.s.postings b k ≡ 0;
      untaken : (place c : ℕ) → l.place ≤ place → slice_get cs place ≡ Some c → debits l.s.postings l.a (no_of c) ≡ 0;
      vault : l.s.vault ≡ l.fn.s.vault;
      funded : IsFunded (amount_at l.l) l.s.postings;
      within : AreWithin (l.place * l.amount) l.s.postings;
    }
