use Rattle.std.proofs.Common.{sym, ◌∙◌}
use Rattle.collection_keys.proofs.Placing.{part_at, part_nowhere}
use Rattle.collection_keys.proofs.collection.Collection.part.Goals as goal

pub returns-in_err-place : goal.returns-in_err-place
returns-in_err-place c =
    c.from_residual.ensures ∙ sym (part_nowhere c.args.self.now c.args.c (sym c.in_err-place.ensures))

pub returns : goal.returns
returns c = sym (part_at c.args.self.now c.args.c c.in_ok-place.place c.pair.result (sym c.in_ok-place.ensures) c.pair.ensures)
