use Rattle.std.proofs.Common.{sym, ◌∙◌}
use Rattle.std.specs.List.{list_all}
use Rattle.command_words.specs.Ranges.{is_account, is_pair}
use Rattle.wire_json.proofs.Rows.{kind-ok, range-ok}
use Rattle.wire_json.proofs.reading.funds.move_in.Goals as goal

pub returns : goal.returns
returns c =
    let whole = kind-ok _ _ c.in_ok-exactly.ensures in
    let to = kind-ok _ _ c.in_ok-to.ensures in
    let key = kind-ok _ _ c.in_ok-key.ensures in
    let amount = kind-ok _ _ c.in_ok-amount.ensures in
    let same_to = range-ok is_account _ _ c.in_ok-to-2.ensures in
    let same_key = sym c.as_slice.ensures ∙ range-ok (list_all is_pair) _ _ c.in_ok-key-2.ensures in
    rw (whole, to, key, amount, same_to, same_key) c.ranged.ensures
