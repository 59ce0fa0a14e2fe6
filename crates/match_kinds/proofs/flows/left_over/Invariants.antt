use Rattle.std.proofs.Common.{◌+◌, ◌*◌, ◌≤◌, take}
use Rattle.condition_sets.specs.declared.amount.TheConstants.{MAX_AMOUNT}
use Rattle.match_kinds.proofs.Shortness.{AreSums, IsEnoughTo}
use Rattle.match_kinds.proofs.flows.left_over.Given as goal

abbrev pub invariant-loop-index : goal.invariant-loop-index
invariant-loop-index l = record {
  sums : AreSums l.taker (take l.index l.makers) l.all.paid_in l.all.paid_out l.all.taken_in l.all.taken_out;
  paid_in_within : l.all.paid_in ≤ (l.index + 1) * MAX_AMOUNT;
  paid_out_within : l.all.paid_out ≤ l.index * MAX_AMOUNT;
  taken_in_within : l.all.taken_in ≤ l.index * MAX_AMOUNT;
  taken_out_within : l.all.taken_out ≤ l.index * MAX_AMOUNT;
  paid_enough : l.all.paid_out ≤ l.all.paid_in;
  taken_enough : l.all.taken_out ≤ l.all.taken_in;
  so_far : IsEnoughTo l.taker l.makers l.index;
}
