-- What is held, against the supplies.
use Rattle.std.proofs.Common.{ℕ, ◌≤◌, [], refl, arith, inl, inr}
use Rattle.std.proofs.lemmas.Bool.{cases_lt}
use Rattle.collection_keys.specs.Collections.{Pairs}
use Rattle.ledger_book.specs.Ledger.{IsBalanced, IsSound}
use Rattle.ledger_book.proofs.Sums.{sum_below-term}

-- an account holds no more than all of them
pub held_within : (n : ℕ) (held : ℕ → Pairs → ℕ) (supplied : Pairs → ℕ) (a : ℕ) (k : Pairs) → IsBalanced n held supplied → held a k ≤ supplied k
held_within n held supplied a k balanced =
    elim (cases_lt a n) [
      | inl below ↦ omega (arith, balanced.sums k, sum_below-term n a (λ b. held b k) below)
      | inr past ↦ omega (arith, balanced.past a k past)
    ]

-- a ledger that keeps nothing
pub sound_none : IsSound [] [] 0
sound_none = record {
  balanced = record { past = λ a k past. refl; sums = λ k. refl; within = λ k. omega arith };
  behind = λ a n behind. refl;
  idle = λ k. refl;
  fits = omega arith;
}
