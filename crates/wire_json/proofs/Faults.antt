-- A fault of a part is the fault of the whole.
use Rattle.std.proofs.Common.{◌≡◌, ℕ, ◌^◌, Option, Some, None, Result, Ok, Err, Bool, false, refl, sym, ◌∙◌, ap, inl, inr, arith}
use Rattle.std.specs.Prelude.{nat_le, nat_lt}
use Rattle.std.proofs.Math.Bool.{and-false}
use Rattle.std.proofs.lemmas.Bool.{cases_Bool, cond-true, cond-false}
use Rattle.order_rules.specs.declared.side.Side.{Side}
use Rattle.command_words.specs.declared.command.Command.{Command}
use Rattle.command_words.specs.declared.command.Command.TheVariants.{Place}
use Rattle.command_words.specs.declared.line_fault.LineFault.{LineFault}
use Rattle.command_words.specs.declared.line_fault.LineFault.TheVariants.{NotCommand, OutOfRange, Memory}
use Rattle.command_words.specs.declared.ranges.TheConstants.{MAX_ORDER_FEE}
use Rattle.command_words.specs.Command.{in_ranges}
use Rattle.command_words.specs.Ranges.{is_account}
use Rattle.wire_json.specs.declared.request.Request.{Request}
use Rattle.wire_json.specs.Kinds.{◌>>=◌}
use Rattle.wire_json.specs.Request.{request_by, is_ranged, in_range, kind_then_range, ReadsAs}

-- it is enough where memory isn't wanting
fault_of : {X Y : Type 0} (fault : LineFault) (part : Result X LineFault) (whole : Result Y LineFault) → (part ≡ Err fault → whole ≡ Err fault)
    → ReadsAs {X = X} (Err fault) part → ReadsAs {X = Y} (Err fault) whole
fault_of Memory part whole same is = tt
fault_of _ part whole same is = same is

-- a part out of its range puts the whole out of its ranges
range-fault : {X Y : Type 0} (test : X → Bool) (part : X) (all : Y → Bool) (whole : Y) (fault : LineFault) → (test part ≡ false → all whole ≡ false) → in_range test part ≡ Err fault → in_range all whole ≡ Err fault
range-fault {X = X} {Y = Y} test part all whole fault both is =
    elim (cases_Bool (test part)) [
      | inl fits ↦ let kept : Ok part ≡ Err fault = sym (cond-true _ _ _ fits) ∙ is in cc
      | inr unfit ↦
          let one : Result X LineFault = Err OutOfRange in
          let out : one ≡ Err fault = sym (cond-false _ _ _ unfit) ∙ is in
          let same : OutOfRange ≡ fault = cc in
          cond-false _ _ _ (both unfit) ∙ ap Err same
    ]

-- a fee that isn't of sixteen bits
above-fee : (fee : ℕ) → nat_lt fee (2 ^ 16) ≡ false → nat_le fee MAX_ORDER_FEE ≡ false
above-fee fee unfit = grind arith

pub fee-fault : (fault : LineFault) (market set : ℕ) (side : Side) (making taking expires nonce fee : ℕ) → ReadsAs {X = ℕ} (Err fault) (in_range (λ fee. nat_lt fee (2 ^ 16)) fee)
    → ReadsAs {X = Command} (Err fault) (in_range in_ranges (Place market set side making taking expires nonce fee))
fee-fault fault market set side making taking expires nonce fee =
    fault_of fault _ _ (range-fault (λ fee. nat_lt fee (2 ^ 16)) fee in_ranges (Place market set side making taking expires nonce fee) fault (λ unfit. simp (above-fee fee unfit, and-false)))

-- the command of a request
asked-fault : (fault : LineFault) (account : ℕ) (o : Option Command) → kind_then_range in_ranges o ≡ Err fault → kind_then_range is_ranged (o >>= λ command. Some (request_by account command)) ≡ Err fault
asked-fault fault account None is =
    let one : Result Command LineFault = Err NotCommand in
    let out : one ≡ Err fault = is in
    let same : NotCommand ≡ fault = cc in
    ap Err same
asked-fault fault account (Some command) is = range-fault in_ranges command is_ranged (request_by account command) fault (λ unfit. rw unfit (and-false (is_account account))) is

pub command-fault : (fault : LineFault) (account : ℕ) (o : Option Command) → ReadsAs {X = Command} (Err fault) (kind_then_range in_ranges o)
    → ReadsAs {X = Request} (Err fault) (kind_then_range is_ranged (o >>= λ command. Some (request_by account command)))
command-fault fault account o = fault_of fault _ _ (asked-fault fault account o)

pub account-fault : (fault : LineFault) (account : ℕ) (command : Command) → ReadsAs {X = ℕ} (Err fault) (in_range is_account account)
    → ReadsAs {X = Request} (Err fault) (in_range is_ranged (request_by account command))
account-fault fault account command = fault_of fault _ _ (range-fault is_account account is_ranged (request_by account command) fault (λ unfit. rw unfit refl))
