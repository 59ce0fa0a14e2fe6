use Rattle.std.proofs.Common.{◌≡◌, ◌*◌, ◌≤◌, ◌^◌, take}
use Rattle.std.specs.Int.{bit_at}
use Rattle.condition_table.specs.Shares.{weighted}
use Rattle.report_redeem.proofs.shares.sum_in.Given as goal

abbrev pub invariant-loop-slot : goal.invariant-loop-slot
invariant-loop-slot l = record {
  sum : l.sum ≡ weighted (take l.slot l.numerators) (bit_at l.bits);
  within : l.sum ≤ l.slot * 2 ^ 32;
}
