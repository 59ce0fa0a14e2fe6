-- What opening a journal leaves, call by call.
use Rattle.std.proofs.Common.{◌≡◌, ◌⊎◌, ℕ, ◌<◌, ◌≤◌, true, false, List, [], ◌∷◌, ◌++◌, refl, sym, ◌∙◌, ap, subst, arith, inl, inr, length, take, drop, length-take}
use Rattle.std.specs.Prelude.{Result}
use Rattle.std.proofs.lemmas.List.{length-drop, take-append-drop, drop_at, take-take}
use Rattle.std.proofs.Math.Seq.{take-append_seam}
use Rattle.journal_disk.specs.Drive.{Drive, IsStored}
use Rattle.journal_disk.specs.Steps.{GoesOn, Leaves}
use Rattle.journal_store.specs.Format.{header}
use Rattle.journal_store.proofs.FormatLaws.{length-header}
use Rattle.journal_store.specs.Found.{StandsAs}
use Rattle.journal_store.specs.Format.{empty_bytes}
use Rattle.journal_store.specs.Opening.{Begins, IsHead, HasOpened}
use Rattle.journal_store.specs.declared.opening.Head.{Head}
use Rattle.journal_store.specs.declared.opening.Head.TheVariants.{Short, Header, Other}
use Rattle.journal_store.specs.Reader.{Unread, IsFrontOf}
use Rattle.journal_store.specs.Stands.{Stands, IsFresh, Makes}
use Rattle.journal_store.proofs.Unique.{one-list}
use Rattle.journal_store.specs.declared.limits.TheConstants.{VERSION}
use Rattle.journal_store.proofs.Cutting.{some-first}
use Rattle.journal_store.proofs.Standing.{stands-first}

-- a window behind the header, of which nothing was read
abbrev pub unread : Unread
unread = record { place = 16; bytes = []; is_last = false }

-- calls that change nothing
pub begins-left : (old new : Drive) → Leaves old new → IsStored old → Begins old new
begins-left old new leaves stored = record {
  image = λ image now list stands. subst (λ (xs : List ℕ). Stands xs list) (sym (stored image (leaves.image image now))) stands;
  since = λ moment image early since. inl (leaves.since moment image early since);
}

stands-empty : (bytes image : List ℕ) → length bytes ≤ 17 → Stands image [] → StandsAs bytes image
stands-empty bytes image short stands = λ list is. subst (Stands image) (one-list bytes [] list (inl (short, refl)) is) stands

early_or : {A B C D : Type 0} → A ⊎ B → (A → C) → (B → D) → C ⊎ D
early_or (inl early) first onward = inl (first early)
early_or (inr late) first onward = inr (onward late)

-- an empty journal was made
pub begins-made : {T E : Type 0} (result : Result T E) (old middle new : Drive) → Leaves old middle → GoesOn old middle → length old.bytes ≤ 17 → Makes result middle new → Begins old new
begins-made result old middle new leaves goes short makes = record {
  image = λ image now. stands-empty old.bytes image short (makes.image image now);
  since = λ moment image early since.
      early_or (makes.since moment image (omega (arith, early, goes.moment)) since) (λ there. leaves.since moment image early there) (λ stands. stands-empty old.bytes image short stands);
}

pub fresh : (old middle : Drive) → old.honest ≡ true → Leaves old middle → GoesOn old middle → IsStored middle → length old.bytes ≤ 17 → IsFresh middle
fresh old middle honest leaves goes stored short = record { honest = goes.honest ∙ honest; stored = stored; short = omega (arith, ap length leaves.bytes, short) }

-- the disk has a journal
pub opened-journal : (old new : Drive) → Leaves old new → IsStored new → 17 < length old.bytes → take 16 old.bytes ≡ header VERSION → HasOpened old new unread
opened-journal old new leaves stored long begins =
    let first = some-first (drop 16 old.bytes) (omega (arith, long, length-drop 16 old.bytes)) in
    let bytes : new.bytes ≡ header VERSION ++ first.0 ∷ first.1 = leaves.bytes ∙ (sym (take-append-drop 16 old.bytes) ∙ (λ i. begins i ++ first.2 i)) in
    let window : IsFrontOf new.bytes unread = record { beyond = drop 16 new.bytes; front = refl; last = λ (is : false ≡ true). cc } in
    record { stored = stored; opens = inl (long, begins, leaves.bytes); stands = stands-first new.bytes first.1 first.0 16 unread bytes refl window }

-- an empty journal was made, whose gate is in the window
pub opened-empty : (old new : Drive) → IsStored new → length old.bytes ≤ 17 → new.bytes ≡ empty_bytes → HasOpened old new (record { place = 16; bytes = 0 ∷ []; is_last = true })
opened-empty old new stored short bytes =
    let w : Unread = record { place = 16; bytes = 0 ∷ []; is_last = true } in
    let window : IsFrontOf new.bytes w = record {
      beyond = [];
      front = ap (drop 16) bytes ∙ drop_at (header VERSION) (0 ∷ []) 16 (length-header VERSION);
      last = λ (is : true ≡ true). refl;
    } in
    record { stored = stored; opens = inr (short, bytes); stands = stands-first new.bytes [] 0 16 w bytes refl window }

-- the part of a piece that a read filled
pub read-front : (bytes filled piece : List ℕ) (n len : ℕ) → len ≡ length (take n bytes) → filled ≡ take n bytes ++ drop len piece → take len filled ≡ take n bytes
read-front bytes filled piece n len long are =
    ap (take len) are ∙ (ap (λ (k : ℕ). take k (take n bytes ++ drop len piece)) long ∙ take-append_seam (take n bytes) (drop len piece))

first-of-front : (front bytes : List ℕ) → front ≡ take 18 bytes → take 16 bytes ≡ take 16 front
first-of-front front bytes is = sym (take-take 16 18 bytes (omega arith)) ∙ ap (take 16) (sym is)

-- the first 18 bytes tell what all begin with
pub head-of-all : (head : Head) (front bytes : List ℕ) → front ≡ take 18 bytes → IsHead head front → IsHead head bytes
head-of-all Short front bytes is head = omega (arith, head, ap length is, length-take 18 bytes)
head-of-all Header front bytes is head = (omega (arith, head.0, ap length is, length-take 18 bytes), first-of-front front bytes is ∙ head.1)
head-of-all Other front bytes is head = (omega (arith, head.0, ap length is, length-take 18 bytes), λ same. head.1 (sym (first-of-front front bytes is) ∙ same))
