-- The unread part of a buffer.
use Rattle.std.proofs.Common.{◌≡◌, ℕ, ◌+◌, ◌-◌, ◌<◌, ◌≤◌, Bool, true, List, ◌++◌, sym, ◌∙◌, ap, arith, length, take, drop, length-take}
use Rattle.std.specs.Prelude.{nat_lt}
use Rattle.std.proofs.lemmas.Bool.Decides.{nat_tests}
use Rattle.std.proofs.lemmas.List.{drop-take, drop-drop, take-append-drop}
use Rattle.std.proofs.Math.ListN.{drop_of_length-le}
use Rattle.std.proofs.Math.Seq.{take-append_seam}
use Rattle.journal_store.specs.Reader.{IsFrontOf}
use Rattle.journal_store.specs.declared.window.TheConstants.{WINDOW_BYTES}

pub skipped : (buffer : List ℕ) (start end count : ℕ) → start + count ≤ end
    → take (end - (start + count)) (drop (start + count) buffer) ≡ drop count (take (end - start) (drop start buffer))
skipped buffer start end count room =
    let long : count + (end - (start + count)) ≡ end - start = omega (arith, room) in
    ap (take (end - (start + count))) (sym (drop-drop count start buffer))
    ∙ (sym (drop-take count (end - (start + count)) (drop start buffer)) ∙ ap (λ (n : ℕ). drop count (take n (drop start buffer))) long)

pub filled : (image buffer now piece : List ℕ) (place len : ℕ) (last : Bool) → length piece ≡ WINDOW_BYTES → last ≡ nat_lt len WINDOW_BYTES
    → len ≡ length (take (length piece) (drop place image)) → now ≡ take (length piece) (drop place image) ++ drop len piece → buffer ≡ now
    → IsFrontOf image (record { place = place; bytes = take (len - 0) (drop 0 buffer); is_last = last })
filled image buffer now piece place len last long ends read are is =
    let behind : List ℕ = drop place image in
    let n : ℕ = length piece in
    let same : take (len - 0) buffer ≡ take n behind =
    ap (take (len - 0)) (is ∙ are) ∙ (ap (λ (k : ℕ). take k (take n behind ++ drop len piece)) (omega (arith, read)) ∙ take-append_seam (take n behind) (drop len piece)) in
    record {
      beyond = drop n behind;
      front = sym (take-append-drop n behind) ∙ ap (λ (xs : List ℕ). xs ++ drop n behind) (sym same);
      last = λ (done : last ≡ true).
          let short : len < WINDOW_BYTES = grind (arith, nat_tests, done, ends) in
          drop_of_length-le behind (omega (arith, short, long, read, length-take n behind));
    }
