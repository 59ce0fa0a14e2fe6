-- What is pending up to its newline belongs to the line that has begun, and so does all of it where it has no newline.
use Rattle.std.proofs.Common.{◌≡◌, ◌≤◌, ◌+◌, ◌-◌, ℕ, List, ◌∷◌, ◌++◌, take, drop, sym, ap, ◌∙◌, arith, length-take}
use Rattle.std.proofs.lemmas.List.{drop-drop, drop-take}
use Rattle.line_link.specs.declared.line_reader.TheConstants.{NEWLINE}
use Rattle.line_link.proofs.Begun.{newlines-nowhere, newlines-before, split-newline}
use Rattle.line_link.proofs.line_reader.LineReader.take_part.Goals as goal

-- what is pending after a byte is taken
after_byte : (items : List ℕ) (start end at : ℕ) → start + (at + 1) ≤ end
    → take (end - (start + (at + 1))) (drop (start + (at + 1)) items)
    ≡ drop (at + 1) (take (end - start) (drop start items))
after_byte items start end at within =
    let long : end - start ≡ (at + 1) + (end - (start + (at + 1))) = omega arith in
    ap (take (end - (start + (at + 1)))) (sym (drop-drop (at + 1) start items))
    ∙ sym (drop-take (at + 1) (end - (start + (at + 1))) (drop start items))
    ∙ ap (λ n. drop (at + 1) (take n (drop start items))) (sym long)

pub returns-in_default-clause-open : goal.returns-in_default-clause-open
returns-in_default-clause-open c =
    let none = rw c.deref.ensures.value at c.in_default.ensures in
    let longer = rw c.deref.ensures.value at c.extended.ensures.value in
    rw (← c.self.view_is) (λ _. record { is_part = newlines-nowhere _ none; longer = longer })

pub returns-clause-ended : goal.returns-clause-ended
returns-clause-ended c =
    let found = rw c.deref.ensures.value at c.in-Some.ensures in
    let whole = rw c.deref.ensures.value at c.extended-2.ensures.value in
    let inside = c.self.inside in
    let at = c.in-Some.at in
    let pending = take (inside.end - inside.start) (drop inside.start inside.piece.items) in
    let high = found.0.high in
    let left = after_byte inside.piece.items inside.start inside.end at (omega (arith, length-take (inside.end - inside.start) (drop inside.start inside.piece.items))) in
    rw (← c.self.view_is) (λ _. record {
      part = take at pending;
      is_part = newlines-before pending at (omega arith) found.0.before;
      split = split-newline pending at high found.1 ∙ ap (λ l. take at pending ++ NEWLINE ∷ l) (sym left);
      whole = whole;
    })
