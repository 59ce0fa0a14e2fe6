-- What contracts see of a disk.
use Rattle.std.specs.Prelude.{◌≡◌, ℕ, ◌≤◌, Bool, true, false, List, []}

-- An image is what may be read of the disk after a crash.
pub record Drive : Type 1 where
  -- what a read gives
  pub bytes : List ℕ
  -- the images that a crash now may leave
  pub image : List ℕ → Type 0
  -- a moment, which no call makes lower
  pub moment : ℕ
  -- the images that a crash at some moment from a given one till now may have left
  pub image_since : ℕ → List ℕ → Type 0
  pub faults : ℕ
  -- whether the disk tells that all that is said of its bytes and images holds of it
  pub honest : Bool

-- this holds of an honest disk
abbrev pub Honestly : Drive → Type 0 → Type 0
Honestly drive fact = drive.honest ≡ true → fact

-- What a read gives is one of the images; the images of now are among those since any moment till now, and since the
-- present moment there are no others.
pub record IsDrive (drive : Drive) : Type 0 where
  pub bytes : Honestly drive (drive.image drive.bytes)
  pub now : (moment : ℕ) (image : List ℕ) → moment ≤ drive.moment → drive.image image → drive.image_since moment image
  pub at_present : (image : List ℕ) → drive.image_since drive.moment image → drive.image image

-- nothing is pending: a crash now leaves what a read gives
abbrev pub IsStored : Drive → Type 0
IsStored drive = (image : List ℕ) → drive.image image → image ≡ drive.bytes

-- a disk that tells nothing of its bytes and images, and not that it is honest
abbrev pub told_by_none : ℕ → Drive
told_by_none faults = record {
  bytes = [];
  image = λ image. ⊥;
  moment = 0;
  image_since = λ moment image. ⊥;
  faults = faults;
  honest = false;
}

pub none-is_drive : (faults : ℕ) → IsDrive (told_by_none faults)
none-is_drive faults = record { bytes = λ honest. cc; now = λ moment image before there. there; at_present = λ image there. there }
