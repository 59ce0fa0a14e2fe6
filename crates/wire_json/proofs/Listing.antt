-- Lists of numbers with commas between them, one number after the other.
use Rattle.std.proofs.Common.{◌≡◌, ℕ, zero, suc, ◌+◌, ◌<◌, ◌==◌, if◌then◌else◌, List, [], ◌∷◌, ◌++◌, length, take, get_or, refl, ap, sym, ◌∙◌, append_assoc, arith}
use Rattle.std.specs.Prelude.{codes, decimal}
use Rattle.std.proofs.lemmas.List.{take_more}
use Rattle.std.proofs.lemmas.Bool.Decides.{nat_tests}
use Rattle.wire_json.specs.Members.{listed}

-- what stands before a number behind others
abbrev gap : List ℕ → List ℕ
gap [] = []
gap (n ∷ ns) = codes ","

listed-last : (ns : List ℕ) (last : ℕ) → listed (ns ++ last ∷ []) ≡ listed ns ++ gap ns ++ decimal last
listed-last [] last = refl
listed-last (n ∷ []) last = refl
listed-last (n ∷ m ∷ ns) last =
    ap (λ (t : List ℕ). decimal n ++ codes "," ++ t) (listed-last (m ∷ ns) last) ∙ simp append_assoc

gap-take : (ns : List ℕ) (k : ℕ) → k < length ns → gap (take k ns) ≡ (if k == 0 then [] else codes ",")
gap-take [] k few = absurd (omega arith)
gap-take (n ∷ ns) zero few = refl
gap-take (n ∷ ns) (suc k) few = grind (arith, nat_tests)

-- one number more
listed-more : (ns : List ℕ) (k : ℕ) → k < length ns
    → listed (take (k + 1) ns) ≡ listed (take k ns) ++ (if k == 0 then [] else codes ",") ++ decimal (get_or ns k 0)
listed-more ns k few =
    ap listed (take_more ns k 0 few) ∙ listed-last (take k ns) (get_or ns k 0)
    ∙ ap (λ (t : List ℕ). listed (take k ns) ++ t ++ decimal (get_or ns k 0)) (gap-take ns k few)

regroup : (a b c d : List ℕ) → a ++ b ++ c ++ d ≡ a ++ (b ++ c ++ d)
regroup a b c d = simp append_assoc

-- the same behind what stood there before
pub listed-step : (old before after ns : List ℕ) (k : ℕ) → k < length ns → before ≡ old ++ listed (take k ns)
    → after ≡ before ++ (if k == 0 then [] else codes ",") ++ decimal (get_or ns k 0) → after ≡ old ++ listed (take (k + 1) ns)
listed-step old before after ns k few so-far last =
    let pause : List ℕ = if k == 0 then [] else codes "," in
    last ∙ ap (λ (t : List ℕ). t ++ pause ++ decimal (get_or ns k 0)) so-far
    ∙ regroup old (listed (take k ns)) pause (decimal (get_or ns k 0))
    ∙ ap (λ (t : List ℕ). old ++ t) (sym (listed-more ns k few))
