use Rattle.std.proofs.Common.{◌≡◌, ℕ, ◌*◌, ◌-◌, ◌≤◌, inl, inr, ap, arith}
use Rattle.std.specs.Prelude.{count_ones, length}
use Rattle.std.proofs.Math.Nat.{eq-zero-or-pos}
use Rattle.std.proofs.lemmas.Nat.{ones-le, zero_from_ones}
use Rattle.convert_positions.proofs.Counting.{length-chosen}
use Rattle.convert_positions.proofs.Room.{few_times}
use Rattle.convert_positions.specs.Converting.{chosen}
use Rattle.convert_positions.proofs.paying.cash_of.Goals as goal

pub overflow_sub-set : goal.overflow_sub-set
overflow_sub-set c =
    elim (eq-zero-or-pos (count_ones c.args.set)) [
      | inl none ↦ absurd (omega (arith, c.requires.some, zero_from_ones c.args.set none))
      | inr some ↦ some
    ]

pub returns-clause-value : goal.returns-clause-value
returns-clause-value c conditions choice =
    let n : c.from.result ≡ length (chosen c.args.set conditions) - 1 = omega (arith, length-chosen c.args.set conditions choice.inside) in
    ap (λ (n : ℕ). n * c.args.each) n

pub returns-clause-within : goal.returns-clause-within
returns-clause-within c =
    let few : c.from.result ≤ 31 = omega (arith, ones-le 32 c.args.set) in
    few_times c.from.result 31 c.args.each few
