-- The questions of an event from a place on: one place further.
use Rattle.std.proofs.Common.{◌≡◌, ℕ, zero, suc, ◌+◌, ◌<◌, true, false, List, [], ◌∷◌, ◌++◌, Some, length, drop, refl, sym, ◌∙◌, ap, add-one, append_assoc}
use Rattle.std.specs.Prelude.{map, ◌==◌, nat_lt, slice_get}
use Rattle.std.specs.Int.{bit_at}
use Rattle.std.proofs.lemmas.List.{drop_more}
use Rattle.collection_keys.specs.Collections.{Pairs}
use Rattle.convert_positions.specs.Converting.{no_of, chosen_from, others_from, short_from}
use Rattle.ledger_book.specs.declared.posting.Posting.{Posting}

-- what is left of a list from an element on
drop_at : (cs : List ℕ) (place c : ℕ) → slice_get cs place ≡ Some c → drop place cs ≡ c ∷ drop (suc place) cs
drop_at [] place c is = cc
drop_at (x ∷ xs) zero c is = let same : x ≡ c = cc in ap (λ (n : ℕ). n ∷ xs) same
drop_at (x ∷ xs) (suc place) c is = drop_at xs place c is

-- ---- the chosen ones

pub chosen-here : (set place c : ℕ) (cs : List ℕ) → slice_get cs place ≡ Some c → (bit_at set place == 1) ≡ true
    → chosen_from set place (drop place cs) ≡ c ∷ chosen_from set (place + 1) (drop (place + 1) cs)
chosen-here set place c cs is there = rw (drop_at cs place c is, there, add-one place) refl

pub chosen-elsewhere : (set place : ℕ) (cs : List ℕ) → place < length cs → (bit_at set place == 1) ≡ false
    → chosen_from set place (drop place cs) ≡ chosen_from set (place + 1) (drop (place + 1) cs)
chosen-elsewhere set place cs inside absent = rw (drop_more cs place 0 inside, absent, add-one place) refl

-- ---- the others

pub others-here : (set place c : ℕ) (cs : List ℕ) → slice_get cs place ≡ Some c → (bit_at set place == 1) ≡ false
    → others_from set place (drop place cs) ≡ c ∷ others_from set (place + 1) (drop (place + 1) cs)
others-here set place c cs is absent = rw (drop_at cs place c is, absent, add-one place) refl

pub others-elsewhere : (set place : ℕ) (cs : List ℕ) → place < length cs → (bit_at set place == 1) ≡ true
    → others_from set place (drop place cs) ≡ others_from set (place + 1) (drop (place + 1) cs)
others-elsewhere set place cs inside there = rw (drop_more cs place 0 inside, there, add-one place) refl

-- ---- the first that is short

pub short-here : (held : Pairs → ℕ) (amount set place c : ℕ) (cs : List ℕ) → slice_get cs place ≡ Some c → (bit_at set place == 1) ≡ true
    → nat_lt (held (no_of c)) amount ≡ true → short_from held amount set place (drop place cs) ≡ Some (place, held (no_of c))
short-here held amount set place c cs is there short = rw (drop_at cs place c is, there, short) refl

pub short-later : (held : Pairs → ℕ) (amount set place c : ℕ) (cs : List ℕ) → slice_get cs place ≡ Some c → (bit_at set place == 1) ≡ true → nat_lt (held (no_of c)) amount ≡ false
    → short_from held amount set place (drop place cs) ≡ short_from held amount set (place + 1) (drop (place + 1) cs)
short-later held amount set place c cs is there enough = rw (drop_at cs place c is, there, enough, add-one place) refl

pub short-elsewhere : (held : Pairs → ℕ) (amount set place : ℕ) (cs : List ℕ) → place < length cs → (bit_at set place == 1) ≡ false
    → short_from held amount set place (drop place cs) ≡ short_from held amount set (place + 1) (drop (place + 1) cs)
short-elsewhere held amount set place cs inside absent = rw (drop_more cs place 0 inside, absent, add-one place) refl

-- ---- postings

-- what is posted for the first of some, and then for the rest
pub posted_more : (post : ℕ → Posting) (before all : List Posting) (c : ℕ) (some rest : List ℕ) → some ≡ c ∷ rest → before ++ map post some ≡ all → (before ++ post c ∷ []) ++ map post rest ≡ all
posted_more post before all c some rest first so_far =
    append_assoc before (post c ∷ []) (map post rest) ∙ (ap (λ (xs : List ℕ). before ++ map post xs) (sym first) ∙ so_far)
