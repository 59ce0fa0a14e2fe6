-- When one posting more is funded.
use Rattle.std.proofs.Common.{ℕ, ◌+◌, ◌≤◌, List, [], ◌∷◌, ◌++◌, ◌∙◌, subst, arith, inl, inr}
use Rattle.std.proofs.lemmas.Bool.{cases_Bool, cond-true, cond-false}
use Rattle.std.proofs.lemmas.List.Sums.{sum_by_push}
use Rattle.collection_keys.specs.Collections.{Pairs}
use Rattle.ledger_book.specs.Ledger.{Position, same_position}
use Rattle.ledger_book.specs.Postings.{paid_to_account, taken_from_account, credits, debits, IsFunded}
use Rattle.ledger_book.specs.declared.posting.Posting.{Posting}
use Rattle.ledger_book.proofs.Positions.{position_Decides, at, paid_here, taken_here}

-- a posting that takes no more than is there then is funded
pub funded-more : (held : ℕ → Pairs → ℕ) (ps : List Posting) (p : Posting) → IsFunded held ps
    → debits ps p.account p.collection + p.taken ≤ held p.account p.collection + credits ps p.account p.collection + p.paid
    → IsFunded held (ps ++ p ∷ [])
funded-more held ps p funded fits a k =
    let paid = sum_by_push (paid_to_account a k) ps p in
    let taken = sum_by_push (taken_from_account a k) ps p in
    elim (cases_Bool (same_position (at p) (a, k))) [
      | inl same ↦
          let here : debits ps a k + p.taken ≤ held a k + credits ps a k + p.paid
          = subst (λ (q : Position). debits ps q.0 q.1 + p.taken ≤ held q.0 q.1 + credits ps q.0 q.1 + p.paid) ((position_Decides (at p) (a, k)).0 same) fits in
          omega (arith, here, paid, taken, taken_here p a k ∙ cond-true _ p.taken 0 same, paid_here p a k ∙ cond-true _ p.paid 0 same)
      | inr other ↦ omega (arith, funded a k, paid, taken, taken_here p a k ∙ cond-false _ p.taken 0 other)
    ]
