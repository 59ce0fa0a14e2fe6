use Rattle.std.proofs.Common.{◌≡◌, ℕ, ◌+◌, ◌*◌, ◌++◌, drop}
use Rattle.std.specs.Prelude.{map}
use Rattle.collection_keys.specs.Collections.{Pairs}
use Rattle.convert_positions.specs.Converting.{yes_of, others, others_from}
use Rattle.convert_positions.specs.Questions.{conditions_in}
use Rattle.ledger_book.specs.Postings.{credit, AreWithin, IsFunded}
use Rattle.convert_positions.proofs.paying.pay_others.Given as goal

abbrev pub invariant-loop-place : goal.invariant-loop-place
invariant-loop-place l =
    let cs = conditions_in l.e.events l.event in
    record {
      postings : l.s.postings ++ map (λ c. credit l.a (yes_of c) l.each) (others_from l.set l.place (drop l.place cs)) ≡ l.fn.s.postings ++ map (λ c. credit l.a (yes_of c) l.each) (others l.set cs);
      vault : l.s.vault ≡ l.fn.s.vault;
      funded : (held : ℕ → Pairs → ℕ) → IsFunded held l.fn.s.postings → IsFunded held l.s.postings;
      within : (most : ℕ) → AreWithin most l.fn.s.postings → AreWithin (most + l.place * l.each) l.s.postings;
    }
