-- What each call of a disk may do.
use Rattle.std.specs.Prelude.{◌≡◌, ◌⊎◌, ℕ, ◌≤◌, ⊤, List, length, take, drop, ◌++◌, Result, Ok, Err, OnOk}
use Rattle.journal_disk.specs.Drive.{Drive, IsStored}
use Rattle.journal_disk.specs.Images.{IsTorn, IsCut, overlaid}

-- time goes on, and a disk stays honest, or not
pub record GoesOn (old new : Drive) : Type 0 where
  pub honest : new.honest ≡ old.honest
  pub moment : old.moment ≤ new.moment

-- a read gives the same, and there is no image that there wasn't before
pub record Leaves (old new : Drive) : Type 0 where
  pub bytes : new.bytes ≡ old.bytes
  pub image : (image : List ℕ) → new.image image → old.image image
  pub since : (moment : ℕ) (image : List ℕ) → moment ≤ old.moment → new.image_since moment image → old.image_since moment image

-- an image that a part of a change may leave of one that was there
abbrev pub LeftOf : (List ℕ → List ℕ → Type 0) → Drive → List ℕ → Type 0
LeftOf part old image = (before : List ℕ) × old.image before × part before image

-- each image, at each moment of the call too, is what a part of the change may leave of one that was there
pub record Changes (part : List ℕ → List ℕ → Type 0) (old new : Drive) : Type 0 where
  pub image : (image : List ℕ) → new.image image → LeftOf part old image
  pub since : (moment : ℕ) (image : List ℕ) → moment ≤ old.moment → new.image_since moment image → old.image_since moment image ⊎ LeftOf part old image

-- what a read gives after a change: the whole of it, or where it failed any part
abbrev pub ReadsAs : {T E : Type 0} → Result T E → List ℕ → (List ℕ → Type 0) → List ℕ → Type 0
ReadsAs (Ok x) whole part bytes = bytes ≡ whole
ReadsAs (Err e) whole part bytes = part bytes

pub record Writes {T E : Type 0} (place : ℕ) (written : List ℕ) (result : Result T E) (old new : Drive) : Type 0 where
  pub changes : Changes (IsTorn place (length written)) old new
  pub bytes : ReadsAs result (overlaid place written old.bytes) (IsTorn place (length written) old.bytes) new.bytes

pub record Cuts {T E : Type 0} (len : ℕ) (result : Result T E) (old new : Drive) : Type 0 where
  pub changes : Changes (IsCut len) old new
  pub bytes : ReadsAs result (take len old.bytes) (IsCut len old.bytes) new.bytes

-- after a sync that succeeded a crash leaves what a read gives
pub record Syncs {T E : Type 0} (result : Result T E) (old new : Drive) : Type 0 where
  pub leaves : Leaves old new
  pub stored : OnOk result (IsStored new)

-- a read gives the bytes from a place on, as many as there are up to the piece, whose rest stays as it was
abbrev pub Reads : {E : Type 0} → ℕ → Result ℕ E → List ℕ → List ℕ → List ℕ → Type 0
Reads place (Ok n) bytes piece filled =
    (n ≡ length (take (length piece) (drop place bytes))) × (filled ≡ take (length piece) (drop place bytes) ++ drop n piece)
Reads place (Err e) bytes piece filled = ⊤

-- A change of a disk on which nothing was pending, with the sync after it: at each moment since it began a crash
-- leaves what a part of the change may leave of the bytes; and where it succeeded the whole of it is stored.
pub record Keeps {T E : Type 0} (part : List ℕ → List ℕ → Type 0) (whole : List ℕ) (result : Result T E) (old new : Drive) : Type 0 where
  pub image : (image : List ℕ) → new.image image → part old.bytes image
  pub since : (moment : ℕ) (image : List ℕ) → moment ≤ old.moment → new.image_since moment image → old.image_since moment image ⊎ part old.bytes image
  pub bytes : OnOk result (new.bytes ≡ whole)
  pub stored : OnOk result (IsStored new)
