-- What is posted part after part.
use Rattle.std.proofs.Common.{◌≡◌, ℕ, ◌+◌, ◌*◌, ◌<◌, List, [], ◌∷◌, ◌++◌, length, take, get_or, ap, sym, ◌∙◌, append_assoc, arith}
use Rattle.std.specs.Prelude.{map}
use Rattle.std.proofs.lemmas.List.{map_more, map_push}
use Rattle.collection_keys.specs.Collections.{Pairs}
use Rattle.ledger_book.specs.declared.posting.Posting.{Posting}

-- one part more
pub posted_more : (post : Pairs → Posting) (f : ℕ → Pairs) (old before now : List Posting) (sets : List ℕ) (i set : ℕ) (k : Pairs) → i < length sets → set ≡ get_or sets i set → k ≡ f set
    → now ≡ before ++ post k ∷ [] → before ≡ old ++ map post (map f (take i sets)) → now ≡ old ++ map post (map f (take (i + 1) sets))
posted_more post f old before now sets i set k inside item is last so_far =
    let here : k ≡ f (get_or sets i set) = is ∙ ap f item in
    last
    ∙ (ap (λ (j : Pairs). before ++ post j ∷ []) here
    ∙ (ap (λ (ps : List Posting). ps ++ post (f (get_or sets i set)) ∷ []) so_far
    ∙ (append_assoc old (map post (map f (take i sets))) (post (f (get_or sets i set)) ∷ [])
    ∙ ap (λ (ps : List Posting). old ++ ps) (sym (ap (map post) (map_more f sets i set inside) ∙ map_push post (map f (take i sets)) (f (get_or sets i set)))))))

-- so many amounts and one more are that many and one
pub one_more : (n amount : ℕ) → n * amount + amount ≡ (n + 1) * amount
one_more n amount = grind arith
