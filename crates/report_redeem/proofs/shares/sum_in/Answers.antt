use Rattle.std.proofs.Common.{◌≡◌, ℕ, sym, ◌∙◌, arith, take}
use Rattle.std.specs.Int.{bit_at}
use Rattle.std.proofs.lemmas.List.Sums.{sum_by-take-le}
use Rattle.std.proofs.lemmas.Nat.Bits.{shr_and_one, bit_at-lt}
use Rattle.report_redeem.proofs.Weights.{weighted_more, weighted-le-sum}
use Rattle.report_redeem.proofs.shares.sum_in.Goals as goal
use Rattle.report_redeem.proofs.shares.sum_in.Goals.{then-bits-slot-eq1, else-bits-slot-eq1}

pub loop-slot-preserved : goal.loop-slot-preserved
loop-slot-preserved c =
    let ns = c.args.numerators.now in
    let i = c.loop-slot.slot in
    let bits = c.bits-bits.result in
    let bit = shr_and_one bits i in
    let few = bit_at-lt bits i in
    let fits = c.type_inv.numerators i in
    elim c.if-bits-slot-eq1.branch [
      | then-bits-slot-eq1 w ↦
          let more = weighted_more ns (bit_at bits) i 0 1 c.loop-slot-test.true (sym bit ∙ w.if-bits-slot-eq1.true) in
          record { sum = omega arith; within = omega arith }
      | else-bits-slot-eq1 w ↦
          let out : bit_at bits i ≡ 0 = omega arith in
          let more = weighted_more ns (bit_at bits) i 0 0 c.loop-slot-test.true out in
          record { sum = omega arith; within = omega arith }
    ]

pub returns-clause-within : goal.returns-clause-within
returns-clause-within c =
    let ns = c.args.numerators.now in
    let i = c.loop-slot.slot in
    omega (arith, weighted-le-sum (take i ns) (bit_at c.bits-bits.result) (bit_at-lt c.bits-bits.result), sum_by-take-le (λ (n : ℕ). n) ns i)
