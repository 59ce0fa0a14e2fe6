use Rattle.std.proofs.Common.{List, ◌++◌, [], ◌∷◌, take, Option, subst, sym, ap, ◌∙◌, append-nil}
use Rattle.std.proofs.lemmas.List.{take_all}
use Rattle.command_words.specs.declared.act.Act.{Act}
use Rattle.order_table.specs.declared.order.Placed.{Placed}
use Rattle.settle_core.specs.Exchange.{ExchangeView}
use Rattle.settle_core.specs.Kept.{AreOrdersOf}
use Rattle.settle_core.specs.Matches.{part_by, parts_in}
use Rattle.settle_core.specs.Orders.{placed}
use Rattle.settle_core.proofs.Parts.{parts-more}
use Rattle.settle_core.proofs.Staging.{placed-found, placed-missed}
use Rattle.settle_core.proofs.exchange.Exchange.parts_of.Goals as goal
use Rattle.settle_core.proofs.exchange.Exchange.parts_of.Goals.{in-Some+in_ok-push, in_default}

pub loop-maker-preserved : goal.loop-maker-preserved
loop-maker-preserved c =
    let e = c.self.inside in
    let h = c.args.self.now.history in
    let makers = c.args.makers.now in
    let i = c.loop-maker.maker-index in
    let m = c.maker-item.result in
    let are : AreOrdersOf e.limits e.orders h = subst (λ (acts : List Act). AreOrdersOf e.limits e.orders acts) (ap (λ (s : ExchangeView). s.history) c.self.view_is) c.self.invariant.1 in
    let more = parts-more (placed h) makers i m c.loop-maker-test.true c.maker-item.is in
    elim c.match-get.branch [
      | in-Some+in_ok-push w ↦
          let found = placed-found e.limits e.orders h m.0 w.in-Some.facts are w.in-Some.ensures.value in
          ap (λ (ps : _). ps.items) w.parts-is ∙ w.in_ok-push.ensures.items
          ∙ (λ j. c.loop-maker.invariant j ++ w.part_of.ensures j ∷ [])
          ∙ sym (more ∙ ap (λ (o : Option Placed). parts_in (placed h) (take i makers) ++ part_by o m.1) found)
      | in_default w ↦
          let missed = placed-missed e.limits e.orders h m.0 are (sym c.get.ensures.value ∙ w.in_default.is) in
          ap (λ (ps : _). ps.items) w.parts-is ∙ c.loop-maker.invariant
          ∙ sym (more ∙ ap (λ (o : Option Placed). parts_in (placed h) (take i makers) ++ part_by o m.1) missed ∙ append-nil (parts_in (placed h) (take i makers)))
    ]

pub returns : goal.returns
returns c = c.loop-maker.invariant ∙ ap (parts_in (placed c.args.self.now.history)) (take_all c.loop-maker.maker-index c.args.makers.now c.loop-maker-test.false)
