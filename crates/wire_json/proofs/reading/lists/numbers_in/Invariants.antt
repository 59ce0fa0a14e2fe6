use Rattle.std.proofs.Common.{◌≡◌, drop}
use Rattle.serde_json.specs.View.{items_view}
use Rattle.wire_json.specs.Kinds.{each, whole_in}
use Rattle.wire_json.proofs.Lists.{with_front}
use Rattle.wire_json.proofs.reading.lists.numbers_in.Given as goal

abbrev pub invariant-loop-item : goal.invariant-loop-item
invariant-loop-item l = with_front l.numbers (each whole_in (items_view (drop l.item-index l.items))) ≡ each whole_in (items_view l.items)
