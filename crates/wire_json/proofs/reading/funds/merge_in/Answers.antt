use Rattle.std.proofs.Common.{sym, ◌∙◌}
use Rattle.std.specs.List.{list_all}
use Rattle.command_words.specs.Ranges.{is_bits, is_condition, is_pair}
use Rattle.wire_json.proofs.Rows.{kind-ok, range-ok}
use Rattle.wire_json.proofs.reading.funds.merge_in.Goals as goal

pub returns : goal.returns
returns c =
    let whole = kind-ok _ _ c.in_ok-exactly.ensures in
    let parent = kind-ok _ _ c.in_ok-parent.ensures in
    let condition = kind-ok _ _ c.in_ok-condition.ensures in
    let sets = kind-ok _ _ c.in_ok-sets.ensures in
    let amount = kind-ok _ _ c.in_ok-amount.ensures in
    let same_parent = sym c.as_slice.ensures ∙ range-ok (list_all is_pair) _ _ c.in_ok-parent-2.ensures in
    let same_condition = range-ok is_condition _ _ c.in_ok-condition-2.ensures in
    let same_sets = sym c.as_slice-2.ensures ∙ range-ok (list_all is_bits) _ _ c.in_ok-sets-2.ensures in
    rw (whole, parent, condition, sets, amount, same_parent, same_condition, same_sets) c.ranged.ensures
