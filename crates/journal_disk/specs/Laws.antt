-- Laws of images.
use Rattle.std.proofs.Common.{◌≡◌, ℕ, ◌+◌, ◌-◌, List, ◌++◌, length, take, drop, replicate, get_or, refl, sym, ◌∙◌, ap, arith, max, length-append, length-take, length-drop}
use Rattle.std.proofs.lemmas.List.{length-replicate, take_min, get_or_append_left, get_or-append_right, get_or-take, get_or-drop}
use Rattle.std.proofs.Math.Seq.{take-length}
use Rattle.journal_disk.specs.Images.{IsTorn, IsCut, grown, overlaid}

-- a change of which nothing happened
pub torn-itself : (place count : ℕ) (bytes : List ℕ) → IsTorn place count bytes bytes
torn-itself place count bytes = record { at_least = omega arith; at_most = omega arith; below = λ i first within. refl; above = λ i past within. refl }

pub cut-itself : (len : ℕ) (bytes : List ℕ) → IsCut len bytes bytes
cut-itself len bytes = record { at_least = omega arith; front = sym (take-length bytes) }

-- the whole of a cut is one of its parts
pub taken-cut : (len : ℕ) (bytes : List ℕ) → IsCut len bytes (take len bytes)
taken-cut len bytes = record {
  at_least = omega (arith, length-take len bytes);
  front = sym (ap (λ (n : ℕ). take n bytes) (length-take len bytes) ∙ take_min len bytes);
}

length-grown : (end : ℕ) (bytes : List ℕ) → length (grown end bytes) ≡ max (length bytes) end
length-grown end bytes = omega (arith, length-append bytes (replicate (end - length bytes) 0), length-replicate {A = ℕ} (end - length bytes) 0)

pub length-overlaid : (place : ℕ) (written bytes : List ℕ) → length (overlaid place written bytes) ≡ max (length bytes) (place + length written)
length-overlaid place written bytes =
    let g : List ℕ = grown (place + length written) bytes in
    omega (arith, length-append (take place g ++ written) (drop (place + length written) g), length-append (take place g) written, length-take place g, length-drop (place + length written) g, length-grown (place + length written) bytes)

-- the whole of a write is one of its parts
pub overlaid-torn : (place : ℕ) (written bytes : List ℕ) → IsTorn place (length written) bytes (overlaid place written bytes)
overlaid-torn place written bytes =
    let end : ℕ = place + length written in
    let g : List ℕ = grown end bytes in
    record {
      at_least = omega (arith, length-overlaid place written bytes);
      at_most = omega (arith, length-overlaid place written bytes);
      below = λ i first within.
          get_or_append_left (take place g ++ written) (drop end g) 0 i (omega (arith, length-append (take place g) written, length-take place g, length-grown end bytes))
          ∙ (get_or_append_left (take place g) written 0 i (omega (arith, length-take place g, length-grown end bytes))
          ∙ (get_or-take place g i 0 first
          ∙ get_or_append_left bytes (replicate (end - length bytes) 0) 0 i within));
      above = λ i past within.
          get_or-append_right (take place g ++ written) (drop end g) end i 0 (omega (arith, length-append (take place g) written, length-take place g, length-grown end bytes)) past
          ∙ (get_or-drop end g (i - end) 0
          ∙ (ap (λ (n : ℕ). get_or g n 0) (omega (arith, past))
          ∙ get_or_append_left bytes (replicate (end - length bytes) 0) 0 i within));
    }
