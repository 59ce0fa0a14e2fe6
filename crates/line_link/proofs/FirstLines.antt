-- What the first line of bytes, and the rest behind it, say of all their lines.
use Rattle.std.proofs.Common.{◌≡◌, ◌==◌, ℕ, ◌+◌, ◌<◌, ◌≤◌, cond, false, List, [], ◌∷◌, ◌++◌, length, map, refl, sym, ap, ◌∙◌, arith, append_assoc, append-nil, ⊎_elim}
use Rattle.std.proofs.lemmas.Bool.{cases_Bool, cond-false}
use Rattle.std.proofs.lemmas.List.Sums.{sum_by-append, sum_by-cons}
use Rattle.line_link.specs.declared.line_reader.TheConstants.{NEWLINE}
use Rattle.line_link.specs.Lines.{Heard, heard_of, heard_lines, lines, newlines, onto_first, IsFirstLine}

pub newlines-append : (xs ys : List ℕ) → newlines (xs ++ ys) ≡ newlines xs + newlines ys
newlines-append xs ys = sum_by-append _ xs ys

pub newlines-cons : (byte : ℕ) (bytes : List ℕ) → newlines (byte ∷ bytes) ≡ cond (byte == NEWLINE) 1 0 + newlines bytes
newlines-cons byte bytes = sum_by-cons _ byte bytes

-- of bytes without a newline the first is none
first_of_none : (byte : ℕ) (bytes : List ℕ) → newlines (byte ∷ bytes) ≡ 0 → ((byte == NEWLINE) ≡ false) × (newlines bytes ≡ 0)
first_of_none byte bytes none =
    ⊎_elim
    (λ newline. absurd (let more : newlines (byte ∷ bytes) ≡ 1 + newlines bytes = newlines-cons byte bytes ∙ ap (λ b. cond b 1 0 + newlines bytes) newline in omega (arith, more)))
    (λ other. (other, let same : newlines (byte ∷ bytes) ≡ 0 + newlines bytes = newlines-cons byte bytes ∙ ap (λ b. cond b 1 0 + newlines bytes) other in omega (arith, same)))
    (cases_Bool (byte == NEWLINE))

-- bytes up to a newline are the first line
lines-newline : (text rest : List ℕ) → newlines text ≡ 0 → lines (text ++ NEWLINE ∷ rest) ≡ text ∷ lines rest
lines-newline [] rest none = refl
lines-newline (byte ∷ text) rest none =
    let parts = first_of_none byte text none in
    cond-false _ _ _ parts.0 ∙ ap (onto_first byte) (lines-newline text rest parts.1)

-- bytes without a newline are one line
lines-last : (byte : ℕ) (text : List ℕ) → newlines (byte ∷ text) ≡ 0 → lines (byte ∷ text) ≡ (byte ∷ text) ∷ []
lines-last byte [] none = cond-false _ _ _ (first_of_none byte [] none).0
lines-last byte (next ∷ text) none =
    let parts = first_of_none byte (next ∷ text) none in
    cond-false _ _ _ parts.0 ∙ ap (onto_first byte) (lines-last next text parts.1)

heard-last : (line : Heard) (bytes rest text : List ℕ) → line ≡ heard_of text → newlines text ≡ 0 → bytes ≡ text → rest ≡ [] → 0 < length text
    → heard_lines bytes ≡ line ∷ heard_lines rest
heard-last line bytes rest [] is_heard none whole nothing some = absurd (omega arith)
heard-last line bytes rest (byte ∷ text) is_heard none whole nothing some =
    ap heard_lines whole ∙ ap (map heard_of) (lines-last byte text none) ∙ ap (λ h. h ∷ []) (sym is_heard)
    ∙ ap (λ l. line ∷ heard_lines l) (sym nothing)

-- the first line is heard first, and then those of the rest
pub first-heard : (line : Heard) (bytes rest : List ℕ) → IsFirstLine line bytes rest → heard_lines bytes ≡ line ∷ heard_lines rest
first-heard line bytes rest first =
    ⊎_elim
    (λ ended. ap heard_lines ended ∙ ap (map heard_of) (lines-newline first.text rest first.is_one) ∙ ap (λ h. h ∷ heard_lines rest) (sym first.is_heard))
    (λ last. heard-last line bytes rest first.text first.is_heard first.is_one last.0 last.1 last.2)
    first.ends

newlines-more : (rest : List ℕ) → newlines (NEWLINE ∷ rest) ≡ 1 + newlines rest
newlines-more rest = newlines-cons NEWLINE rest

-- the first line is a front of the bytes with one newline at the most
pub first-split : (line : Heard) (bytes rest : List ℕ) → IsFirstLine line bytes rest → (front : List ℕ) × (bytes ≡ front ++ rest) × (newlines front ≤ 1)
first-split line bytes rest first =
    ⊎_elim
    (λ ended. (
      first.text ++ NEWLINE ∷ [],
      ended ∙ sym (append_assoc first.text (NEWLINE ∷ []) rest),
      omega (arith, newlines-append first.text (NEWLINE ∷ []), first.is_one, newlines-more []),
    ))
    (λ last. (first.text, last.0 ∙ sym (ap (λ l. first.text ++ l) last.1 ∙ append-nil first.text), omega (arith, first.is_one)))
    first.ends
