use Rattle.std.proofs.Common.{sym, ◌∙◌}
use Rattle.settle_core.proofs.Parts.{repeated-end, repeated-here, repeated-past}
use Rattle.settle_core.proofs.rules.first_repeated.Goals as goal

pub returns-then-is_named : goal.returns-then-is_named
returns-then-is_named c =
    sym (c.loop-index.invariant ∙ repeated-here c.args.makers.now c.loop-index.index c.index-makers-index.result c.loop-index-test.true c.index-makers-index.is (sym c.is_named.ensures ∙ c.if-is_named.true))

pub loop-index-preserved : goal.loop-index-preserved
loop-index-preserved c =
    c.loop-index.invariant ∙ repeated-past c.args.makers.now c.loop-index.index c.index-makers-index.result c.loop-index-test.true c.index-makers-index.is (sym c.is_named.ensures ∙ c.if-is_named.false)

pub returns : goal.returns
returns c = sym (c.loop-index.invariant ∙ repeated-end c.args.makers.now c.loop-index.index c.loop-index-test.false)
