-- The bytes that were given are the front of those that were left, and none are given only where none were left.
use Rattle.std.proofs.Common.{◌≡◌, ◌≤◌, ◌+◌, ◌-◌, ℕ, List, [], ◌++◌, length, take, drop, sym, ap, ◌∙◌, arith, take-append-drop, length-drop, length-append}
use Rattle.std.proofs.lemmas.List.{take_at, drop-drop, take_rest, length-take-le, nil_from_length}
use Rattle.line_link.proofs.memory_source.MemorySourceSource.read.Goals as goal

front_and_rest : (items piece tail : List ℕ) (at n : ℕ)
    → n + at ≤ length items → piece ≡ take n (take (length items - at) (drop at items))
    → drop at items ≡ take n (piece ++ tail) ++ drop (at + n) items
front_and_rest items piece tail at n fits e =
    let same : piece ≡ take n (drop at items) = e ∙ ap (take n) (take_rest items at) in
    let long : length piece ≡ n = ap length same ∙ length-take-le n (drop at items) (omega (arith, length-drop at items)) in
    sym (ap (λ l. l ++ drop (at + n) items) (take_at piece tail n long ∙ same)
    ∙ ap (λ l. take n (drop at items) ++ l) (sym (drop-drop n at items)) ∙ take-append-drop n (drop at items))

none_left : (items : List ℕ) (at n : ℕ) → length items ≤ at + n → drop (at + n) items ≡ []
none_left items at n past = nil_from_length _ (omega (arith, length-drop (at + n) items))

pub returns-clause-bytes : goal.returns-clause-bytes
returns-clause-bytes c =
    let after = rw c.deref.ensures.value at c.copy_from_slice.ensures.after in
    let rest = rw c.deref.ensures.value at c.min.ensures in
    let items = c.self.inside.bytes.items in
    let at = c.self.inside.at in
    let long = length-take-le (length items - at) (drop at items) (omega (arith, length-drop at items)) in (
      rw (← c.self.view_is) (front_and_rest items _ _ at c.min-n.result (omega (arith, length-drop at items)) after),
      λ none room. none_left items at c.min-n.result (omega (arith, length-drop at items, length-drop c.min-n.result c.args.into.now, length-append {A = ℕ})),
    )
