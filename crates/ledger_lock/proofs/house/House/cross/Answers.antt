use Rattle.std.proofs.Common.{◌≡◌, ℕ, false, length, refl, sym, ◌∙◌, ap, subst}
use Rattle.command_words.specs.declared.command.Command.TheVariants.{Cross}
use Rattle.command_words.specs.declared.reply.Reply.TheVariants.{Crossed}
use Rattle.settle_core.specs.Bounds.{Bounds}
use Rattle.settle_core.specs.Crossings.{turn}
use Rattle.settle_core.specs.Exchange.{ExchangeView, asked}
use Rattle.ledger_lock.specs.Turns.{EndsForRoom, TurnedBy}
use Rattle.ledger_lock.specs.declared.turned.Turned.TheVariants.{Acted, Over, Stopped}
use Rattle.ledger_lock.proofs.Crossings.{amid-more, amid-start, over-answered, stopped-answered}
use Rattle.ledger_lock.proofs.Ends.{by-code}
use Rattle.ledger_lock.proofs.house.House.cross.Goals as goal

pub loop-turns-init : goal.loop-turns-init
loop-turns-init c = record { amid = amid-start c.args.self.now.limits c.args.market c.args.now c.args.self.now.history; limits = refl }

pub returns-in-Over-clause-answered : goal.returns-in-Over-clause-answered
returns-in-Over-clause-answered c =
    let turns = c.loop-turns.turns in
    let now = c.loop-turns.self in
    let after = c.turn.new.self.history in
    let q = asked c.args.self.now c.args.account (Cross c.args.market) c.args.now in
    let lsn : length c.history.result.now ≡ length q.history = ap length c.history.ensures.value ∙ ap (λ (s : ExchangeView). length s.history) c.self.view_is in
    let turned = subst (λ (b : Bounds). TurnedBy (turn b now.history c.args.market c.args.now) c.args.now now.history Over after) c.loop-turns.invariant.limits c.in-Over.ensures.turned in
    over-answered q c.args.market turns c.crossed.result now.history after refl c.requires c.loop-turns.invariant.amid c.loop-turns-test.true turned
    (c.crossed.ensures ∙ ap (λ (n : ℕ). Crossed turns n false 0) lsn)

pub returns-in-Stopped-clause-answered : goal.returns-in-Stopped-clause-answered
returns-in-Stopped-clause-answered c =
    let turns = c.loop-turns.turns in
    let now = c.loop-turns.self in
    let after = c.turn.new.self.history in
    let refusal = c.in-Stopped.refusal in
    let q = asked c.args.self.now c.args.account (Cross c.args.market) c.args.now in
    let lsn : length c.history.result.now ≡ length q.history = ap length c.history.ensures.value ∙ ap (λ (s : ExchangeView). length s.history) c.self.view_is in
    let turned = subst (λ (b : Bounds). TurnedBy (turn b now.history c.args.market c.args.now) c.args.now now.history (Stopped refusal) after) c.loop-turns.invariant.limits c.in-Stopped.ensures.turned in
    stopped-answered q c.args.market turns refusal c.crossed-in-Stopped.result now.history after refl c.requires c.loop-turns.invariant.amid c.loop-turns-test.true turned
    (c.crossed-in-Stopped.ensures ∙ (ap (λ (n : ℕ). Crossed turns n false c.code.result) lsn ∙ ap (λ (n : ℕ). Crossed turns (length q.history) false n) c.code.ensures))

pub loop-turns-preserved : goal.loop-turns-preserved
loop-turns-preserved c =
    let now = c.loop-turns.self in
    let after = c.turn.new.self.history in
    let turned = subst (λ (b : Bounds). TurnedBy (turn b now.history c.args.market c.args.now) c.args.now now.history Acted after) c.loop-turns.invariant.limits c.in-Acted.ensures.turned in
    record {
      amid = amid-more c.args.self.now.limits c.args.market c.args.now c.loop-turns.turns c.args.self.now.history now.history after c.loop-turns.invariant.amid turned;
      limits = c.turn.ensures.limits ∙ c.loop-turns.invariant.limits;
    }

pub returns-in-Stopped-clause-stop : goal.returns-in-Stopped-clause-stop
returns-in-Stopped-clause-stop c =
    subst EndsForRoom (sym (c.crossed-in-Stopped.ensures ∙ ap (λ (n : ℕ). Crossed c.loop-turns.turns (length c.history.result.now) false n) c.code.ensures)) (by-code c.in-Stopped.refusal c.in-Stopped.ensures.room)
