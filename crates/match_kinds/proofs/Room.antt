-- What is within a bound is within a larger one, and what is posted maker after maker.
use Rattle.std.proofs.Common.{◌≡◌, ℕ, ◌+◌, ◌<◌, ◌≤◌, List, [], ◌∷◌, ◌++◌, length, take, get_or, ap, sym, ◌∙◌, append_assoc, arith}
use Rattle.std.specs.Prelude.{map}
use Rattle.std.proofs.lemmas.List.{map_more}
use Rattle.ledger_book.specs.Postings.{AreWithin}
use Rattle.ledger_book.specs.declared.posting.Posting.{Posting}
use Rattle.match_kinds.specs.declared.part.Part.{Part}

pub within_larger : (most more : ℕ) (ps : List Posting) → most ≤ more → AreWithin most ps → AreWithin more ps
within_larger most more ps larger within a k = let here = within a k in record { paid = omega arith; taken = omega arith }

-- one posting more
pub posted_more : (post : Part → Posting) (old before now : List Posting) (makers : List Part) (i : ℕ) (m : Part) (p : Posting) → i < length makers → m ≡ get_or makers i m → p ≡ post m
    → now ≡ before ++ p ∷ [] → before ≡ old ++ map post (take i makers) → now ≡ old ++ map post (take (i + 1) makers)
posted_more post old before now makers i m p inside item is last so_far =
    last
    ∙ ap (λ (q : Posting). before ++ q ∷ []) (is ∙ ap post item)
    ∙ ap (λ (ps : List Posting). ps ++ post (get_or makers i m) ∷ []) so_far
    ∙ append_assoc old (map post (take i makers)) (post (get_or makers i m) ∷ [])
    ∙ ap (λ (ps : List Posting). old ++ ps) (sym (map_more post makers i m inside))
