-- Reading items one after the other, as a loop does.
use Rattle.std.proofs.Common.{◌≡◌, ℕ, suc, ◌-◌, ◌+◌, ◌≤◌, ◌<◌, List, [], ◌∷◌, ◌++◌, Option, Some, None, refl, sym, ap, ◌∙◌, append_assoc, arith, append-nil}
use Rattle.act_bytes.specs.declared.fault.ReadFault.{ReadFault}
use Rattle.act_bytes.specs.declared.fault.ReadFault.TheVariants.{Memory, NoAct}
use Rattle.act_bytes.specs.Reading.{◌>>=◌, Field, GivesNone, next_items}

-- what was read before, and what is still read
abbrev pub with_front : {A : Type 0} → List A → Option (List A × List ℕ) → Option (List A × List ℕ)
with_front front read = read >>= λ x. Some (front ++ x.0, x.1)

regroup : {A : Type 0} (front : List A) (item : A) (read : Option (List A × List ℕ)) → with_front front (read >>= λ x. Some (item ∷ x.0, x.1)) ≡ with_front (front ++ item ∷ []) read
regroup {A = A} front item (Some x) = ap (λ (items : List A). Some (items, x.1)) (simp append_assoc)
regroup front item None = refl

pub goes_on : {A : Type 0} (field : Field A) (front : List A) (count i : ℕ) (bytes : List ℕ) (item : A) (after : List ℕ) (total : Option (List A × List ℕ)) → i < count → field bytes ≡ Some (item, after)
    → with_front front (next_items field (count - i) bytes) ≡ total → with_front (front ++ item ∷ []) (next_items field (count - (i + 1)) after) ≡ total
unfolding next_items
goes_on field front count i bytes item after total less is so_far =
    let k : count - i ≡ suc (count - (i + 1)) = omega arith in
    let one : with_front front (next_items field (count - i) bytes) ≡ with_front (front ++ item ∷ []) (next_items field (count - (i + 1)) after) = rw (k, is) (regroup front item (next_items field (count - (i + 1)) after)) in
    sym one ∙ so_far

pub ends : {A : Type 0} (field : Field A) (fault : ReadFault) (front : List A) (count i : ℕ) (bytes : List ℕ) (total : Option (List A × List ℕ)) → i < count → GivesNone fault (field bytes)
    → with_front front (next_items field (count - i) bytes) ≡ total → GivesNone fault total
unfolding next_items
ends field Memory front count i bytes total less is so_far = tt
ends field NoAct front count i bytes total less is so_far =
    let k : count - i ≡ suc (count - (i + 1)) = omega arith in
    let one : with_front front (next_items field (count - i) bytes) ≡ None = rw (k, is) refl in
    sym so_far ∙ one

pub is_done : {A : Type 0} (field : Field A) (front : List A) (count i : ℕ) (bytes : List ℕ) (total : Option (List A × List ℕ)) → count ≤ i → with_front front (next_items field (count - i) bytes) ≡ total → total ≡ Some (front, bytes)
unfolding next_items
is_done {A = A} field front count i bytes total most so_far =
    let k : count - i ≡ 0 = omega arith in
    let one : with_front front (next_items field (count - i) bytes) ≡ Some (front, bytes) = rw k (ap (λ (items : List A). Some (items, bytes)) (append-nil front)) in
    sym so_far ∙ one
