-- The fronts that were written one after the other are one front.
use Rattle.std.proofs.Common.{◌≡◌, ℕ, ◌≤◌, ◌+◌, ◌-◌, List, length, take, drop, Option, sym, ap, subst, ◌∙◌, arith, rules, length-drop}
use Rattle.std.proofs.lemmas.List.{drop-drop, take_rest}
use Rattle.std.proofs.Math.Seq.{take-add}
use Rattle.std.specs.Io.KnownBytes.{Appends}
use Rattle.std.proofs.KnownBytes.{Appends-trans}
use Rattle.line_link.proofs.sink.write_all.Goals as goal

front_and_next : (old mid new : Option (List ℕ)) (bytes rest : List ℕ) (done n : ℕ)
    → done ≤ length bytes → rest ≡ drop done bytes → n ≤ length rest
    → Appends old mid (take done bytes) → Appends mid new (take n rest)
    → (x : ℕ) × (x ≤ length bytes) × (take (length rest - n) (drop n rest) ≡ drop x bytes) × Appends old new (take x bytes)
front_and_next old mid new bytes rest done n within is fits before here =
    let next = subst (λ l. Appends mid new (take n l)) is here in (
      done + n,
      omega (arith, ap length is, length-drop done bytes),
      take_rest rest n ∙ ap (drop n) is ∙ drop-drop n done bytes,
      subst (Appends old new) (sym (take-add done n bytes)) (Appends-trans old mid new _ _ before next),
    )

pub loop-rest-preserved : goal.loop-rest-preserved
loop-rest-preserved g c =
    let clauses = c.in-Ok.ensures in
    let so_far = c.loop-rest.invariant.front in
    record {
      front = front_and_next _ _ _ _ c.loop-rest.rest.now so_far.0 c.in-Ok.n so_far.1 so_far.2 clauses.bound so_far.3 clauses.bytes;
      never_falls = search rules;
      kept = search rules;
    }
