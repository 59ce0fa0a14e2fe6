-- Bytes with a size in front and a closed gate behind.
use Rattle.std.proofs.Common.{◌≡◌, ℕ, ◌+◌, ◌≤◌, List, [], ◌∷◌, ◌++◌, sym, ◌∙◌, ap, arith, length, take, drop, length-append, append_assoc, append-nil}
use Rattle.std.proofs.lemmas.List.{take_all}
use Rattle.std.proofs.Math.ListN.{drop_of_length-le}
use Rattle.std.proofs.Math.Seq.{take-append_seam, drop-append_seam}

-- a vector whose bytes were written whole
pub written-whole : (len : ℕ) (new items : List ℕ) → length items ≡ length new → length new ≤ len → take len (new ++ drop (length new) items) ≡ new
written-whole len new items long inside =
    ap (λ (xs : List ℕ). take len (new ++ xs)) (drop_of_length-le items (omega (arith, long))) ∙ (ap (take len) (append-nil new) ∙ take_all len new inside)

-- a payload put behind the others
pub put-behind : (before old size payload head now : List ℕ) (end : ℕ) → length head ≡ 4 → old ≡ head ++ before ++ 0 ∷ [] → end + 1 ≡ length old
    → now ≡ ((take end old ++ size) ++ payload) ++ 0 ∷ []
    → drop 4 now ≡ (before ++ (size ++ payload)) ++ 0 ∷ []
put-behind before old size payload head now end four is last made =
    let front : take end old ≡ head ++ before =
    let long : end ≡ length (head ++ before) = omega (arith, last, ap length is, length-append (head ++ before) (0 ∷ [])) in
    ap (take end) is ∙ (ap (λ (n : ℕ). take n ((head ++ before) ++ 0 ∷ [])) long ∙ take-append_seam (head ++ before) (0 ∷ [])) in
    let all : now ≡ head ++ ((before ++ (size ++ payload)) ++ 0 ∷ []) =
    made
    ∙ (ap (λ (xs : List ℕ). ((xs ++ size) ++ payload) ++ 0 ∷ []) front
    ∙ (ap (λ (xs : List ℕ). xs ++ 0 ∷ []) (append_assoc (head ++ before) size payload ∙ append_assoc head before (size ++ payload))
    ∙ append_assoc head (before ++ (size ++ payload)) (0 ∷ []))) in
    ap (drop 4) all ∙ (ap (λ (n : ℕ). drop n (head ++ ((before ++ (size ++ payload)) ++ 0 ∷ []))) (sym four) ∙ drop-append_seam head ((before ++ (size ++ payload)) ++ 0 ∷ []))
