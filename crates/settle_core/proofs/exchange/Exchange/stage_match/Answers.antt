use Rattle.std.proofs.Common.{◌≡◌, List, All, Option, Some, None, subst, sym, ap, ◌∙◌, Err}
use Rattle.command_words.specs.declared.act.Act.{Act}
use Rattle.command_words.specs.declared.refusal.Refusal.{Refusal}
use Rattle.ledger_book.specs.Ledger.{amount_at}
use Rattle.match_kinds.specs.Matching.{IsMaker, IsPart}
use Rattle.match_kinds.specs.Settling.{MatchedBy, fault_of, match_postings, sums_of}
use Rattle.match_kinds.specs.declared.part.Part.{Part}
use Rattle.match_kinds.specs.declared.settle.MatchSums.{MatchSums}
use Rattle.order_table.specs.declared.order.Placed.{Placed}
use Rattle.settle_core.specs.Exchange.{ExchangeView}
use Rattle.settle_core.specs.Kept.{AreOrdersOf, IsKept}
use Rattle.settle_core.specs.Matches.{matched_in, part_of, parts_in, sums_in}
use Rattle.settle_core.specs.Orders.{placed}
use Rattle.settle_core.specs.Postings.{balance}
use Rattle.settle_core.specs.Rules.{funding_refusals}
use Rattle.settle_core.specs.Verdict.{AnsweredBy, first_some}
use Rattle.settle_core.proofs.Staging.{placed-found, planned, staged-refused, staged-right}
use Rattle.settle_core.proofs.exchange.Exchange.stage_match.Goals as goal

pub plan_match-requires-clause-some : goal.plan_match-requires-clause-some
plan_match-requires-clause-some c =
    let e = c.self.inside in
    let h = c.args.self.now.history in
    let same = ap (λ (s : ExchangeView). s.history) c.self.view_is in
    let kept : IsKept e.limits e.events e.conditions e.ledger h = subst (λ (acts : List Act). IsKept e.limits e.events e.conditions e.ledger acts) same c.self.invariant.0 in
    let are : AreOrdersOf e.limits e.orders h = subst (λ (acts : List Act). AreOrdersOf e.limits e.orders acts) same c.self.invariant.1 in
    let order = c.in-Some.order in
    (planned e.limits h c.args.now c.args.taker c.args.fill c.args.makers.now order.placed c.deref.result.now kept.legal c.requires.ranges c.requires.right
    (placed-found e.limits e.orders h c.args.taker order are c.in-Some.ensures.value) (c.deref.ensures.value ∙ c.in_ok-parts.ensures)).some

pub plan_match-requires-clause-few : goal.plan_match-requires-clause-few
plan_match-requires-clause-few c =
    let e = c.self.inside in
    let h = c.args.self.now.history in
    let same = ap (λ (s : ExchangeView). s.history) c.self.view_is in
    let kept : IsKept e.limits e.events e.conditions e.ledger h = subst (λ (acts : List Act). IsKept e.limits e.events e.conditions e.ledger acts) same c.self.invariant.0 in
    let are : AreOrdersOf e.limits e.orders h = subst (λ (acts : List Act). AreOrdersOf e.limits e.orders acts) same c.self.invariant.1 in
    let order = c.in-Some.order in
    (planned e.limits h c.args.now c.args.taker c.args.fill c.args.makers.now order.placed c.deref.result.now kept.legal c.requires.ranges c.requires.right
    (placed-found e.limits e.orders h c.args.taker order are c.in-Some.ensures.value) (c.deref.ensures.value ∙ c.in_ok-parts.ensures)).few

pub plan_match-requires-clause-taker : goal.plan_match-requires-clause-taker
plan_match-requires-clause-taker c =
    let e = c.self.inside in
    let h = c.args.self.now.history in
    let same = ap (λ (s : ExchangeView). s.history) c.self.view_is in
    let kept : IsKept e.limits e.events e.conditions e.ledger h = subst (λ (acts : List Act). IsKept e.limits e.events e.conditions e.ledger acts) same c.self.invariant.0 in
    let are : AreOrdersOf e.limits e.orders h = subst (λ (acts : List Act). AreOrdersOf e.limits e.orders acts) same c.self.invariant.1 in
    let order = c.in-Some.order in
    subst IsPart (sym c.part_of-part.ensures)
    (planned e.limits h c.args.now c.args.taker c.args.fill c.args.makers.now order.placed c.deref.result.now kept.legal c.requires.ranges c.requires.right
    (placed-found e.limits e.orders h c.args.taker order are c.in-Some.ensures.value) (c.deref.ensures.value ∙ c.in_ok-parts.ensures)).taken

pub plan_match-requires-clause-makers : goal.plan_match-requires-clause-makers
plan_match-requires-clause-makers c =
    let e = c.self.inside in
    let h = c.args.self.now.history in
    let same = ap (λ (s : ExchangeView). s.history) c.self.view_is in
    let kept : IsKept e.limits e.events e.conditions e.ledger h = subst (λ (acts : List Act). IsKept e.limits e.events e.conditions e.ledger acts) same c.self.invariant.0 in
    let are : AreOrdersOf e.limits e.orders h = subst (λ (acts : List Act). AreOrdersOf e.limits e.orders acts) same c.self.invariant.1 in
    let order = c.in-Some.order in
    subst (λ (p : Part). All (IsMaker p) c.deref.result.now) (sym c.part_of-part.ensures)
    (planned e.limits h c.args.now c.args.taker c.args.fill c.args.makers.now order.placed c.deref.result.now kept.legal c.requires.ranges c.requires.right
    (placed-found e.limits e.orders h c.args.taker order are c.in-Some.ensures.value) (c.deref.ensures.value ∙ c.in_ok-parts.ensures)).made

pub returns-in-Ok-clause-verdict : goal.returns-in-Ok-clause-verdict
returns-in-Ok-clause-verdict c =
    let e = c.self.inside in
    let h = c.args.self.now.history in
    let same = ap (λ (s : ExchangeView). s.history) c.self.view_is in
    let kept : IsKept e.limits e.events e.conditions e.ledger h = subst (λ (acts : List Act). IsKept e.limits e.events e.conditions e.ledger acts) same c.self.invariant.0 in
    let are : AreOrdersOf e.limits e.orders h = subst (λ (acts : List Act). AreOrdersOf e.limits e.orders acts) same c.self.invariant.1 in
    let order = c.in-Some.order in
    let none : fault_of (amount_at e.ledger) order.placed.market (part_of order.placed c.args.fill) c.deref.result.now ≡ None
    = subst (λ (p : Part). fault_of (amount_at e.ledger) order.placed.market p c.deref.result.now ≡ None) c.part_of-part.ensures c.in-Ok.ensures.fault in
    staged-right e.limits e.events e.conditions e.ledger h order.placed c.args.taker c.args.fill c.args.makers.now c.deref.result.now kept
    (placed-found e.limits e.orders h c.args.taker order are c.in-Some.ensures.value) (c.deref.ensures.value ∙ c.in_ok-parts.ensures) none

pub returns-in-Ok-clause-postings : goal.returns-in-Ok-clause-postings
returns-in-Ok-clause-postings c =
    let e = c.self.inside in
    let h = c.args.self.now.history in
    let same = ap (λ (s : ExchangeView). s.history) c.self.view_is in
    let are : AreOrdersOf e.limits e.orders h = subst (λ (acts : List Act). AreOrdersOf e.limits e.orders acts) same c.self.invariant.1 in
    let order = c.in-Some.order in
    let parts : c.deref.result.now ≡ parts_in (placed h) c.args.makers.now = c.deref.ensures.value ∙ c.in_ok-parts.ensures in
    c.in-Ok.ensures.postings
    ∙ (λ i. match_postings order.placed.market (c.part_of-part.ensures i) (parts i))
    ∙ sym (ap (λ (o : Option Placed). matched_in o c.args.fill (parts_in (placed h) c.args.makers.now)) (placed-found e.limits e.orders h c.args.taker order are c.in-Some.ensures.value))

pub returns-in-Ok-clause-sums : goal.returns-in-Ok-clause-sums
returns-in-Ok-clause-sums c =
    let e = c.self.inside in
    let h = c.args.self.now.history in
    let same = ap (λ (s : ExchangeView). s.history) c.self.view_is in
    let are : AreOrdersOf e.limits e.orders h = subst (λ (acts : List Act). AreOrdersOf e.limits e.orders acts) same c.self.invariant.1 in
    let order = c.in-Some.order in
    let parts : c.deref.result.now ≡ parts_in (placed h) c.args.makers.now = c.deref.ensures.value ∙ c.in_ok-parts.ensures in
    ap (λ (o : Option Placed). sums_in o c.args.fill (parts_in (placed h) c.args.makers.now)) (placed-found e.limits e.orders h c.args.taker order are c.in-Some.ensures.value)
    ∙ sym (ap (λ (sums : MatchSums). Some sums) (c.in-Ok.ensures.sums ∙ (λ i. sums_of (c.part_of-part.ensures i) (parts i))))

pub returns-clause-verdict : goal.returns-clause-verdict
returns-clause-verdict c =
    let e = c.self.inside in
    let h = c.args.self.now.history in
    let same = ap (λ (s : ExchangeView). s.history) c.self.view_is in
    let kept : IsKept e.limits e.events e.conditions e.ledger h = subst (λ (acts : List Act). IsKept e.limits e.events e.conditions e.ledger acts) same c.self.invariant.0 in
    let are : AreOrdersOf e.limits e.orders h = subst (λ (acts : List Act). AreOrdersOf e.limits e.orders acts) same c.self.invariant.1 in
    let order = c.in-Some.order in
    let by : MatchedBy (fault_of (amount_at e.ledger) order.placed.market (part_of order.placed c.args.fill) c.deref.result.now) (Err c.in-Err.fault)
    = subst (λ (p : Part). MatchedBy (fault_of (amount_at e.ledger) order.placed.market p c.deref.result.now) (Err c.in-Err.fault)) c.part_of-part.ensures c.in-Err.ensures.fault in
    subst (λ (r : Refusal). AnsweredBy {X = MatchSums} (first_some (funding_refusals (placed h) (balance h) c.args.taker c.args.fill c.args.makers.now)) (Err r)) (sym c.refused.ensures)
    (staged-refused MatchSums e.limits e.events e.conditions e.ledger h order.placed c.args.taker c.args.fill c.args.makers.now c.deref.result.now c.in-Err.fault kept
    (placed-found e.limits e.orders h c.args.taker order are c.in-Some.ensures.value) (c.deref.ensures.value ∙ c.in_ok-parts.ensures) by)
