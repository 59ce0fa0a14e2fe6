-- Images of images, one after another.
use Rattle.std.proofs.Common.{◌≡◌, ℕ, zero, suc, ◌<◌, Bool, List, [], ◌∷◌, refl, arith, ◌++◌, length, get_or, sym, ◌∙◌, ap, subst}
use Rattle.std.specs.Prelude.{All, Contains, slice_get, Some}
use Rattle.std.proofs.lemmas.Option.{slice_get-get_or}
use Rattle.std.proofs.lemmas.List.Elements.{All-append, All-weaker, All-contains, Contains-get_or}
use Rattle.journal_disk.specs.Images.{IsTorn, IsCut}
use Rattle.journal_disk.specs.Memory.{Image}
use Rattle.journal_disk.specs.declared.call.Call.{Call}
use Rattle.journal_disk.specs.declared.call.Call.TheVariants.{Write, Cut}

-- what a change may leave of one of these
abbrev pub IsLeft : (List ℕ → List ℕ → Type 0) → List (List ℕ) → List ℕ → Type 0
IsLeft part images image = (before : List ℕ) × Contains images before × part before image

pub left-more : (part : List ℕ → List ℕ → Type 0) (images done each : List (List ℕ)) (i : ℕ) (d before : List ℕ) → i < length images → before ≡ get_or images i d
    → All (IsLeft part images) done → All (part before) each → All (IsLeft part images) (done ++ each)
left-more part images done each i d before inside is so_far more =
    let there : Contains images before = subst (Contains images) (sym is) (Contains-get_or images i d inside) in
    All-append (IsLeft part images) done each so_far (All-weaker (part before) (IsLeft part images) (λ image left. (before, there, left)) each more)

-- the first image is the first of those before
pub first-more : (images done each : List (List ℕ)) (i : ℕ) (d before : List ℕ) → i < length images → before ≡ get_or images i d → (i ≡ 0 → done ≡ []) → (0 < i → slice_get done 0 ≡ slice_get images 0) → slice_get each 0 ≡ Some before → slice_get (done ++ each) 0 ≡ slice_get images 0
first-more images done each zero d before inside is none kept first =
    ap (λ (xs : List (List ℕ)). slice_get (xs ++ each) 0) (none refl) ∙ (first ∙ (ap Some is ∙ sym (slice_get-get_or images 0 d inside)))
first-more [] [] each (suc i) d before inside is none kept first = absurd (omega (arith, inside))
first-more (x ∷ xs) [] each (suc i) d before inside is none kept first = let there = kept (omega arith) in cc
first-more images (y ∷ ys) each (suc i) d before inside is none kept first = kept (omega arith)

-- images after a write, and after a cut
pub torn-images : (first : List ℕ) (all older : List Call) (at : ℕ) (written : List ℕ) (ok : Bool) (items shown after : List (List ℕ)) → all ≡ Write at written ok ∷ older → shown ≡ items
    → All (Image first older) items → All (IsLeft (IsTorn at (length written)) shown) after → All (Image first all) after
torn-images first all older at written ok items shown after is same before left =
    subst (λ (calls : List Call). All (Image first calls) after) (sym is) (
    All-weaker (IsLeft (IsTorn at (length written)) shown) (Image first (Write at written ok ∷ older)) (λ image one. (one.0, All-contains (Image first older) items one.0 before (subst (λ (xs : List (List ℕ)). Contains xs one.0) same one.1), one.2)) after left
    )

pub cut-images : (first : List ℕ) (all older : List Call) (len : ℕ) (ok : Bool) (items shown after : List (List ℕ)) → all ≡ Cut len ok ∷ older → shown ≡ items
    → All (Image first older) items → All (IsLeft (IsCut len) shown) after → All (Image first all) after
cut-images first all older len ok items shown after is same before left =
    subst (λ (calls : List Call). All (Image first calls) after) (sym is) (
    All-weaker (IsLeft (IsCut len) shown) (Image first (Cut len ok ∷ older)) (λ image one. (one.0, All-contains (Image first older) items one.0 before (subst (λ (xs : List (List ℕ)). Contains xs one.0) same one.1), one.2)) after left
    )
