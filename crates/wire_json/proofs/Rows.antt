-- What a value that was kept tells of what it was read from.
use Rattle.std.proofs.Common.{◌≡◌, Option, Some, None, Ok, Err, Bool, true, sym, ◌∙◌, ap, inl, inr}
use Rattle.std.proofs.lemmas.Bool.{cases_Bool, cond-true, cond-false}
use Rattle.command_words.specs.declared.line_fault.LineFault.TheVariants.{OutOfRange}
use Rattle.wire_json.specs.Request.{of_kind, in_range, kind_then_range}

-- what was kept of its kind
pub kind-ok : {X : Type 0} (o : Option X) (x : X) → of_kind o ≡ Ok x → o ≡ Some x
kind-ok None x kept = cc
kind-ok (Some y) x kept = let same : y ≡ x = cc in ap Some same

-- what was kept of its range
pub range-ok : {X : Type 0} (test : X → Bool) (x y : X) → in_range test x ≡ Ok y → x ≡ y
range-ok test x y kept =
    elim (cases_Bool (test x)) [
      | inl fits ↦ let same : Ok x ≡ Ok y = sym (cond-true _ _ _ fits) ∙ kept in cc
      | inr unfit ↦ let fault : Err OutOfRange ≡ Ok y = sym (cond-false _ _ _ unfit) ∙ kept in cc
    ]

-- what was kept of its kind and its range was of its kind, and is in its range
pub kept-kind : {X : Type 0} (test : X → Bool) (o : Option X) (x : X) → kind_then_range test o ≡ Ok x → o ≡ Some x
kept-kind test None x kept = cc
kept-kind test (Some y) x kept = ap Some (range-ok test y x kept)

pub kept-ranges : {X : Type 0} (test : X → Bool) (o : Option X) (x : X) → kind_then_range test o ≡ Ok x → test x ≡ true
kept-ranges test None x kept = cc
kept-ranges test (Some y) x kept =
    elim (cases_Bool (test y)) [
      | inl fits ↦ let same : Ok y ≡ Ok x = sym (cond-true _ _ _ fits) ∙ kept in let equal : y ≡ x = cc in rw (← equal) fits
      | inr unfit ↦ let fault : Err OutOfRange ≡ Ok x = sym (cond-false _ _ _ unfit) ∙ kept in cc
    ]
