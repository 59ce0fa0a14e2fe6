-- What holds at the start, and after each accepted act where it held before, holds of each legal history.
use Rattle.std.proofs.Common.{◌≡◌, ℕ, zero, suc, ◌≤◌, List, [], ◌∷◌, ◌++◌, length, take, ap, sym, subst, ◌∙◌, arith, add-one, inl, inr}
use Rattle.std.proofs.lemmas.List.{take_all, take_more}
use Rattle.std.proofs.lemmas.Option.{slice_get_cases}
use Rattle.command_words.specs.declared.act.Act.{Act}
use Rattle.settle_core.specs.Bounds.{Bounds}
use Rattle.settle_core.specs.Legal.{IsAccepted, IsLegal}

-- an accepted act keeps it
abbrev pub IsKeptBy : Bounds → (List Act → Type 0) → Type 0
IsKeptBy limits P = (history : List Act) (act : Act) → P history → IsAccepted limits history act → P (history ++ act ∷ [])

-- it holds of the first acts
legal-front : (limits : Bounds) (P : List Act → Type 0) → P [] → IsKeptBy limits P → (history : List Act) → IsLegal limits history → (n : ℕ) → n ≤ length history → P (take n history)
legal-front limits P start step history legal zero few = start
legal-front limits P start step history legal (suc n) few =
    elim ((slice_get_cases history n).1) [
      | inl found ↦
          let longer : take (suc n) history ≡ take n history ++ found.0 ∷ []
          = rw (← add-one) (take_more history n found.0 few) ∙ ap (λ (act : Act). take n history ++ act ∷ []) found.3 in
          subst P (sym longer) (step (take n history) found.0 (legal-front limits P start step history legal n (omega arith)) (legal n found.0 found.2))
      | inr past ↦ absurd (omega (arith, past.0))
    ]

pub legal-all : (limits : Bounds) (P : List Act → Type 0) → P [] → IsKeptBy limits P → (history : List Act) → IsLegal limits history → P history
legal-all limits P start step history legal =
    subst P (take_all (length history) history (omega arith)) (legal-front limits P start step history legal (length history) (omega arith))
