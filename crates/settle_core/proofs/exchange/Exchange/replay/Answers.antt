use Rattle.std.proofs.Common.{◌≡◌, ℕ, ◌<◌, List, length, take, get_or, Some, None, refl, sym, ◌∙◌, ap, subst, arith, length-take}
use Rattle.std.specs.Prelude.{option_map}
use Rattle.std.proofs.lemmas.Option.{slice_get-get_or}
use Rattle.command_words.specs.Refusal.{code_of}
use Rattle.command_words.specs.declared.act.Act.{Act}
use Rattle.settle_core.specs.Bounds.{Bounds}
use Rattle.settle_core.specs.Legal.{IsLegal}
use Rattle.settle_core.specs.Replay.{IsStopped, IsFirstRefused, IsNoHistory}
use Rattle.settle_core.specs.Verdict.{question_of, verdict}
use Rattle.settle_core.specs.Exchange.{ExchangeView, IsSame}
use Rattle.settle_core.specs.declared.replay.ReplayFault.{ReplayFault}
use Rattle.settle_core.specs.declared.replay.ReplayFault.TheVariants.{Illegal, Memory}
use Rattle.settle_core.proofs.exchange.Exchange.replay.Goals as goal

-- an act that is stopped over the legal acts before it is the first that is refused
stopped : (limits : Bounds) (acts : List Act) (act : Act) (index : ℕ) (fault : ReplayFault) → index < length acts → act ≡ get_or acts index act
    → IsLegal limits (take index acts) → IsStopped limits (take index acts) act fault → IsNoHistory limits acts fault
stopped limits acts act index (Illegal lsn code) inside is legal stop =
    let here : index ≡ lsn = omega (arith, stop.0, length-take index acts) in
    subst (λ (n : ℕ). IsFirstRefused limits acts n code) here (record {
      act = act;
      placed = slice_get-get_or acts index act inside ∙ ap Some (sym is);
      legal = legal;
      refused = stop.1;
    })
stopped limits acts act index Memory inside is legal stop = tt

-- no act of a legal history is refused
never : (limits : Bounds) (acts : List Act) (fault : ReplayFault) → IsNoHistory limits acts fault → IsLegal limits acts → fault ≡ Memory
never limits acts (Illegal lsn code) first legal =
    let accepted = legal lsn first.act first.placed in
    let none : option_map code_of (verdict (question_of limits (take lsn acts) first.act)) ≡ None = rw accepted.accepted refl in
    let both = sym none ∙ first.refused in
    cc
never limits acts Memory first legal = refl

same-legal : (old new : ExchangeView) → IsSame old new → IsLegal new.limits new.history → IsLegal old.limits old.history
same-legal old new same legal =
    subst (λ (b : Bounds). IsLegal b old.history) same.limits (subst (λ (h : List Act). IsLegal new.limits h) same.history legal)

pub returns-in-Err-redo-clause-illegal : goal.returns-in-Err-redo-clause-illegal
returns-in-Err-redo-clause-illegal c =
    let now : IsLegal c.redo.new.self.limits c.redo.new.self.history = subst (λ (s : ExchangeView). IsLegal s.limits s.history) c.exchange.view_is c.exchange.invariant.0.legal in
    let before = same-legal c.loop-act.exchange c.redo.new.self c.in-Err-redo.ensures.same now in
    let legal = subst (λ (h : List Act). IsLegal c.args.limits h) c.loop-act.invariant.history (subst (λ (b : Bounds). IsLegal b c.loop-act.exchange.history) c.loop-act.invariant.limits before) in
    let stop = subst (λ (h : List Act). IsStopped c.args.limits h c.act-item.result c.in-Err-redo.fault) c.loop-act.invariant.history (subst (λ (b : Bounds). IsStopped b c.loop-act.exchange.history c.act-item.result c.in-Err-redo.fault) c.loop-act.invariant.limits c.in-Err-redo.ensures.stopped) in
    stopped c.args.limits c.args.acts.now c.act-item.result c.loop-act.act-index c.in-Err-redo.fault c.loop-act-test.true c.act-item.is legal stop

pub returns-in-Err-redo-clause-legal : goal.returns-in-Err-redo-clause-legal
returns-in-Err-redo-clause-legal c = never c.args.limits c.args.acts.now c.in-Err-redo.fault (returns-in-Err-redo-clause-illegal c)
