-- Fronts and lengths of images that are listed.
use Rattle.std.proofs.Common.{◌≡◌, ℕ, ◌+◌, ◌≤◌, ◌<◌, Bool, true, false, List, [], ◌∷◌, ◌++◌, length, take, get_or, min, sym, ◌∙◌, ap, subst, arith, below_more, length-take}
use Rattle.std.specs.Prelude.{All, Contains, slice_get, Some}
use Rattle.std.proofs.Math.Seq.{take-length}
use Rattle.std.proofs.lemmas.List.{length-take-le, take_all, take_min, get_or-take}
use Rattle.std.proofs.lemmas.List.Elements.{All-more, All-weaker, All-contains, Contains-append_left, Contains-append_right}
use Rattle.std.proofs.lemmas.Option.{slice_get_within, get_or_from_slice_get}
use Rattle.journal_disk.specs.Images.{IsTorn, IsCut, overlaid}
use Rattle.journal_disk.specs.Laws.{length-overlaid}
use Rattle.journal_disk.specs.Memory.{contents, Image, HasLength, HasFronts}
use Rattle.journal_disk.specs.declared.call.Call.{Call}
use Rattle.journal_disk.specs.declared.call.Call.TheVariants.{Write, Cut}

-- a front of the whole of a write is one of its parts
pub front-torn : (place count len : ℕ) (before whole : List ℕ) → IsTorn place count before whole → length before ≤ len → len ≤ length whole → IsTorn place count before (take len whole)
front-torn place count len before whole torn long short =
    record {
      at_least = omega (arith, length-take len whole);
      at_most = omega (arith, length-take len whole, torn.at_most);
      below = λ i first within. get_or-take len whole i 0 (omega (arith, within, long)) ∙ torn.below i first within;
      above = λ i past within. get_or-take len whole i 0 (omega (arith, within, long)) ∙ torn.above i past within;
    }

-- each front shorter than this is listed
abbrev pub FrontsBelow : ℕ → ℕ → List ℕ → List (List ℕ) → Type 0
FrontsBelow end least bytes images = (len : ℕ) → least ≤ len → len < end → Contains images (take len bytes)

pub fronts-more : (end least : ℕ) (bytes : List ℕ) (done more : List (List ℕ)) → FrontsBelow end least bytes done → Contains more (take end bytes) → FrontsBelow (end + 1) least bytes (done ++ more)
fronts-more end least bytes done more so_far here len from below =
    below_more (λ n. least ≤ n → Contains (done ++ more) (take n bytes)) end (λ n under long. Contains-append_left done more (take n bytes) (so_far n long under)) (λ long. Contains-append_right done more (take end bytes) here) len below from

pub fronts-push : (end least : ℕ) (bytes image : List ℕ) (done : List (List ℕ)) → FrontsBelow end least bytes done → image ≡ take end bytes → FrontsBelow (end + 1) least bytes (done ++ image ∷ [])
fronts-push end least bytes image done so_far is = fronts-more end least bytes done (image ∷ []) so_far (0, omega arith, is)

-- the first image stays the first
pub first-stays : (done more : List (List ℕ)) (image : List ℕ) → slice_get done 0 ≡ Some image → slice_get (done ++ more) 0 ≡ Some image
first-stays [] more image is = cc
first-stays (x ∷ done) more image is = is

contains-first : (images : List (List ℕ)) (image : List ℕ) → slice_get images 0 ≡ Some image → Contains images image
contains-first images image is = (0, slice_get_within images 0 image is, get_or_from_slice_get images 0 image image is)

-- the whole, which is listed first, is the longest front
pub fronts-whole : (end least : ℕ) (bytes : List ℕ) (images : List (List ℕ)) → FrontsBelow end least bytes images → length bytes ≤ end → slice_get images 0 ≡ Some bytes → HasFronts least bytes images
fronts-whole end least bytes images so_far far first len long short =
    below_more (λ n. least ≤ n → Contains images (take n bytes)) (length bytes) (λ n under from. so_far n from (omega (arith, under, far))) (λ from. subst (Contains images) (sym (take-length bytes)) (contains-first images bytes first)) len (omega (arith, short)) long

-- what is listed of one image more
pub same-more : (images done each : List (List ℕ)) (i : ℕ) (d before : List ℕ) → i < length images → before ≡ get_or images i d → All (Contains done) (take i images) → slice_get each 0 ≡ Some before → All (Contains (done ++ each)) (take (i + 1) images)
same-more images done each i d before inside is so_far first =
    All-more (Contains (done ++ each)) images i d inside
    (All-weaker (Contains done) (Contains (done ++ each)) (Contains-append_left done each) (take i images) so_far)
    (subst (Contains (done ++ each)) is (Contains-append_right done each before (contains-first each before first)))

pub fronts-each : (least : List ℕ → ℕ) (whole : List ℕ → List ℕ) (images done each : List (List ℕ)) (i : ℕ) (d before : List ℕ) → i < length images → before ≡ get_or images i d
    → All (λ image. HasFronts (least image) (whole image) done) (take i images) → HasFronts (least before) (whole before) each → All (λ image. HasFronts (least image) (whole image) (done ++ each)) (take (i + 1) images)
fronts-each least whole images done each i d before inside is so_far more =
    let Has : List (List ℕ) → List ℕ → Type 0 = λ listed image. HasFronts (least image) (whole image) listed in
    All-more (Has (done ++ each)) images i d inside
    (All-weaker (Has done) (Has (done ++ each)) (λ image there len long short. Contains-append_left done each (take len (whole image)) (there len long short)) (take i images) so_far)
    (subst (Has (done ++ each)) is (λ len long short. Contains-append_right done each (take len (whole before)) (more len long short)))

-- what is listed at the end of the loop
pub at_end : (P : List ℕ → Type 0) (i : ℕ) (images : List (List ℕ)) → length images ≤ i → All P (take i images) → All P images
at_end P i images past so_far = subst (All P) (take_all i images past) so_far

-- the whole is one of its fronts
contains-whole : (least : ℕ) (bytes : List ℕ) (images : List (List ℕ)) → HasFronts least bytes images → least ≤ length bytes → Contains images bytes
contains-whole least bytes images fronts long = subst (Contains images) (take-length bytes) (fronts (length bytes) long (omega arith))

-- a front that is listed has its length
has-length : (least len : ℕ) (bytes : List ℕ) (images : List (List ℕ)) → HasFronts least bytes images → least ≤ len → len ≤ length bytes → HasLength len images
has-length least len bytes images fronts long short = (take len bytes, fronts len long short, length-take-le len bytes short)

-- what is listed after a write
pub torn-contents : (first : List ℕ) (older : List Call) (at : ℕ) (written : List ℕ) (ok : Bool) (images after : List (List ℕ)) → Contains images (contents first older)
    → All (Contains after) images → All (λ before. HasFronts (length before) (overlaid at written before) after) images → Contains after (contents first (Write at written ok ∷ older))
torn-contents first older at written true images after there same fronts =
    let was : List ℕ = contents first older in
    let whole : HasFronts (length was) (overlaid at written was) after = All-contains (λ before. HasFronts (length before) (overlaid at written before) after) images was fronts there in
    contains-whole (length was) (overlaid at written was) after whole (omega (arith, length-overlaid at written was))
torn-contents first older at written false images after there same fronts = All-contains (Contains after) images (contents first older) same there

pub torn-lengths : (first : List ℕ) (older : List Call) (at : ℕ) (written : List ℕ) (ok : Bool) (images after : List (List ℕ)) → ((image : List ℕ) → Image first older image → HasLength (length image) images)
    → All (λ before. HasFronts (length before) (overlaid at written before) after) images → (image : List ℕ) → Image first (Write at written ok ∷ older) image → HasLength (length image) after
torn-lengths first older at written ok images after lengths fronts image left =
    let before : List ℕ = left.0 in
    let torn : IsTorn at (length written) before image = left.2 in
    let listed : HasLength (length before) images = lengths before left.1 in
    let other : List ℕ = listed.0 in
    let whole : HasFronts (length other) (overlaid at written other) after = All-contains (λ bytes. HasFronts (length bytes) (overlaid at written bytes) after) images other fronts listed.1 in
    let same : length other ≡ length before = listed.2 in
    has-length (length other) (length image) (overlaid at written other) after whole (omega (arith, torn.at_least)) (omega (arith, torn.at_most, length-overlaid at written other))

-- what is listed after a cut
pub cut-contents : (first : List ℕ) (older : List Call) (len : ℕ) (ok : Bool) (images after : List (List ℕ)) → Contains images (contents first older)
    → All (λ before. HasFronts (min len (length before)) before after) images → Contains after (contents first (Cut len ok ∷ older))
cut-contents first older len true images after there fronts =
    let was : List ℕ = contents first older in
    let front : HasFronts (min len (length was)) was after = All-contains (λ before. HasFronts (min len (length before)) before after) images was fronts there in
    subst (Contains after) (take_min len was) (front (min len (length was)) (omega arith) (omega arith))
cut-contents first older len false images after there fronts =
    let was : List ℕ = contents first older in
    contains-whole (min len (length was)) was after (All-contains (λ before. HasFronts (min len (length before)) before after) images was fronts there) (omega arith)

pub cut-lengths : (first : List ℕ) (older : List Call) (len : ℕ) (ok : Bool) (images after : List (List ℕ)) → ((image : List ℕ) → Image first older image → HasLength (length image) images)
    → All (λ before. HasFronts (min len (length before)) before after) images → (image : List ℕ) → Image first (Cut len ok ∷ older) image → HasLength (length image) after
cut-lengths first older len ok images after lengths fronts image left =
    let before : List ℕ = left.0 in
    let cut : IsCut len before image = left.2 in
    let listed : HasLength (length before) images = lengths before left.1 in
    let other : List ℕ = listed.0 in
    let front : HasFronts (min len (length other)) other after = All-contains (λ bytes. HasFronts (min len (length bytes)) bytes after) images other fronts listed.1 in
    let same : length other ≡ length before = listed.2 in
    has-length (min len (length other)) (length image) other after front (omega (arith, cut.at_least)) (omega (arith, ap (λ (bytes : List ℕ). length bytes) cut.front, length-take (length image) before))
