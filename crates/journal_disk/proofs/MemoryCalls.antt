-- What a call more of a disk in memory leaves.
use Rattle.std.proofs.Common.{◌≡◌, ℕ, List, ◌∷◌, refl, sym, ◌∙◌, ap, subst, Bool, true, false, inl, inr}
use Rattle.journal_disk.specs.Drive.{IsStored}
use Rattle.journal_disk.specs.Memory.{MemoryDiskView, contents, Image, ImageSince, drive_at, drive_of}
use Rattle.journal_disk.specs.MemoryLaws.{contents-image, image-since}
use Rattle.journal_disk.specs.Steps.{Leaves, Changes}
use Rattle.journal_disk.specs.declared.call.Call.{Call}
use Rattle.journal_disk.specs.declared.call.Call.TheVariants.{Read, Sync}

-- a call more that changes nothing
quiet : (first : List ℕ) (call : Call) (calls : List Call) (moment : ℕ) (image : List ℕ)
    → (Image first (call ∷ calls) image → ImageSince first calls moment image)
    → ImageSince first (call ∷ calls) moment image → ImageSince first calls moment image
quiet first call calls moment image now (inl at_last) = now at_last
quiet first call calls moment image now (inr before) = before.1

-- A call more, as it is kept: `calls` are those that are kept now, and `before` those that were kept before.
-- A read and a sync leave the disk as it was.
pub leaves-read : (c : MemoryDiskView) (first : List ℕ) (calls before : List Call) (faults at len : ℕ) (ok : Bool) → first ≡ c.first → calls ≡ Read at len ok ∷ before → before ≡ c.calls → Leaves (drive_of c) (drive_at first calls faults)
leaves-read c first calls before faults at len ok same kept old =
    let now : calls ≡ Read at len ok ∷ c.calls = kept ∙ ap (λ (cs : List Call). Read at len ok ∷ cs) old in
    subst (λ (f : List ℕ). Leaves (drive_of c) (drive_at f calls faults)) (sym same) (
    subst (λ (cs : List Call). Leaves (drive_of c) (drive_at c.first cs faults)) (sym now) (record {
      bytes = refl;
      image = λ image there. there;
      since = λ moment image early since. quiet c.first (Read at len ok) c.calls moment image (λ there. image-since c.first c.calls moment image there) since;
    })
    )

synced : (first : List ℕ) (calls : List Call) (ok : Bool) (image : List ℕ) → Image first (Sync ok ∷ calls) image → Image first calls image
synced first calls true image now = subst (Image first calls) (sym now) (contents-image first calls)
synced first calls false image now = now

pub leaves-sync : (c : MemoryDiskView) (first : List ℕ) (calls before : List Call) (faults : ℕ) (ok : Bool) → first ≡ c.first → calls ≡ Sync ok ∷ before → before ≡ c.calls → Leaves (drive_of c) (drive_at first calls faults)
leaves-sync c first calls before faults ok same kept old =
    let now : calls ≡ Sync ok ∷ c.calls = kept ∙ ap (λ (cs : List Call). Sync ok ∷ cs) old in
    subst (λ (f : List ℕ). Leaves (drive_of c) (drive_at f calls faults)) (sym same) (
    subst (λ (cs : List Call). Leaves (drive_of c) (drive_at c.first cs faults)) (sym now) (record {
      bytes = refl;
      image = λ image there. synced c.first c.calls ok image there;
      since = λ moment image early since. quiet c.first (Sync ok) c.calls moment image (λ there. image-since c.first c.calls moment image (synced c.first c.calls ok image there)) since;
    })
    )

-- after a sync that succeeded a crash leaves what a read gives
pub stored-sync : (first : List ℕ) (calls before : List Call) (faults : ℕ) (ok : Bool) → ok ≡ true → calls ≡ Sync ok ∷ before → IsStored (drive_at first calls faults)
stored-sync first calls before faults ok done kept =
    subst (λ (cs : List Call). IsStored (drive_at first cs faults)) (sym (kept ∙ ap (λ (b : Bool). Sync b ∷ before) done)) (λ image now. now)

-- a change of which nothing was kept, for want of memory
pub changes-same : (part : List ℕ → List ℕ → Type 0) (c : MemoryDiskView) (first : List ℕ) (calls : List Call) (faults : ℕ) → ((x : List ℕ) → part x x) → first ≡ c.first → calls ≡ c.calls → Changes part (drive_of c) (drive_at first calls faults)
changes-same part c first calls faults itself same now =
    subst (λ (f : List ℕ). Changes part (drive_of c) (drive_at f calls faults)) (sym same) (
    subst (λ (cs : List Call). Changes part (drive_of c) (drive_at c.first cs faults)) (sym now) (record {
      image = λ image there. (image, there, itself image);
      since = λ moment image early since. inl since;
    })
    )

pub same-contents : (c : MemoryDiskView) (first : List ℕ) (calls : List Call) → first ≡ c.first → calls ≡ c.calls → contents first calls ≡ contents c.first c.calls
same-contents c first calls same now = ap (λ (f : List ℕ). contents f calls) same ∙ ap (contents c.first) now
