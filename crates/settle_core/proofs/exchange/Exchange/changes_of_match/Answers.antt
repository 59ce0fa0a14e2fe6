use Rattle.std.proofs.Common.{◌≡◌, ◌==◌, List, length, true, Some, None, Err, refl, rules, tests, sym, subst, ap, ◌∙◌}
use Rattle.std.specs.Prelude.{slice_get}
use Rattle.command_words.specs.declared.reply.Reply.TheVariants.{Matched}
use Rattle.condition_sets.specs.declared.names.TheConstants.{OPERATOR}
use Rattle.ledger_book.specs.declared.posting.Posting.{Posting}
use Rattle.match_kinds.specs.declared.settle.MatchSums.{MatchSums}
use Rattle.settle_core.specs.Matches.{matched_in, parts_in, sums_in}
use Rattle.settle_core.specs.OrderRules.{match_refusals}
use Rattle.settle_core.specs.Orders.{nonce, order_state, placed}
use Rattle.settle_core.specs.Postings.{balance}
use Rattle.settle_core.specs.Rules.{funding_refusals}
use Rattle.settle_core.specs.Verdict.{AnsweredBy, first_some}
use Rattle.settle_core.specs.declared.changes.Changes.{Changes}
use Rattle.settle_core.proofs.Staging.{match-last, match-refused, match-reply, match-unstaged}
use Rattle.settle_core.proofs.Verdicts.{answered-err}
use Rattle.settle_core.proofs.exchange.Exchange.changes_of_match.Goals as goal

pub returns-in-Some-clause-verdict : goal.returns-in-Some-clause-verdict
returns-in-Some-clause-verdict c =
    let s = c.args.self.now in
    let operator : (c.args.account == OPERATOR) ≡ true = search (rules, tests) in
    let is : first_some (match_refusals (order_state s.history) (nonce s.history) c.args.now c.args.taker c.args.fill c.args.makers.now) ≡ Some c.in-Some.refusal
    = subst (λ ms. first_some (match_refusals (order_state s.history) (nonce s.history) c.args.now c.args.taker c.args.fill ms) ≡ Some c.in-Some.refusal) c.as_slice.ensures (sym c.match_refusal.ensures ∙ c.in-Some.is) in
    answered-err Changes _ c.in-Some.refusal (match-refused s.limits s.history c.args.account c.args.taker c.args.fill c.args.makers.now c.args.now c.in-Some.refusal operator is)

pub returns-in-Err-clause-verdict : goal.returns-in-Err-clause-verdict
returns-in-Err-clause-verdict c =
    let s = c.args.self.now in
    let operator : (c.args.account == OPERATOR) ≡ true = search (rules, tests) in
    let none : first_some (match_refusals (order_state s.history) (nonce s.history) c.args.now c.args.taker c.args.fill c.args.makers.now) ≡ None
    = subst (λ ms. first_some (match_refusals (order_state s.history) (nonce s.history) c.args.now c.args.taker c.args.fill ms) ≡ None) c.as_slice.ensures (sym c.match_refusal.ensures ∙ c.in_default.is) in
    let by : AnsweredBy {X = MatchSums} (first_some (funding_refusals (placed s.history) (balance s.history) c.args.taker c.args.fill c.args.makers.now)) (Err c.in-Err.refusal)
    = subst (λ ms. AnsweredBy {X = MatchSums} (first_some (funding_refusals (placed s.history) (balance s.history) c.args.taker c.args.fill ms)) (Err c.in-Err.refusal)) c.as_slice-2.ensures c.in-Err.ensures.verdict in
    match-unstaged MatchSums Changes s.limits s.history c.args.account c.args.taker c.args.fill c.args.makers.now c.args.now c.in-Err.refusal operator none by

pub returns-in-Some-refusal_at_last-clause-verdict : goal.returns-in-Some-refusal_at_last-clause-verdict
returns-in-Some-refusal_at_last-clause-verdict c =
    let s = c.args.self.now in
    let ps : List Posting = c.stage_match.new.staged.postings in
    let operator : (c.args.account == OPERATOR) ≡ true = search (rules, tests) in
    let none : first_some (match_refusals (order_state s.history) (nonce s.history) c.args.now c.args.taker c.args.fill c.args.makers.now) ≡ None
    = subst (λ ms. first_some (match_refusals (order_state s.history) (nonce s.history) c.args.now c.args.taker c.args.fill ms) ≡ None) c.as_slice.ensures (sym c.match_refusal.ensures ∙ c.in_default.is) in
    let funded : first_some (funding_refusals (placed s.history) (balance s.history) c.args.taker c.args.fill c.args.makers.now) ≡ None
    = subst (λ ms. first_some (funding_refusals (placed s.history) (balance s.history) c.args.taker c.args.fill ms) ≡ None) c.as_slice-2.ensures c.in-Ok.ensures.verdict in
    let posted = subst (λ ms. ps ≡ matched_in (slice_get (placed s.history) c.args.taker) c.args.fill (parts_in (placed s.history) ms)) c.as_slice-2.ensures c.in-Ok.ensures.postings in
    let last = match-last s.limits s.history c.args.account c.args.taker c.args.fill c.args.makers.now c.args.now ps operator none funded posted in
    answered-err Changes _ c.in-Some-refusal_at_last.refusal (last ∙ (sym c.refusal_at_last.ensures ∙ c.in-Some-refusal_at_last.is))

pub returns-in-None-clause-verdict : goal.returns-in-None-clause-verdict
returns-in-None-clause-verdict c =
    let s = c.args.self.now in
    let ps : List Posting = c.stage_match.new.staged.postings in
    let operator : (c.args.account == OPERATOR) ≡ true = search (rules, tests) in
    let none : first_some (match_refusals (order_state s.history) (nonce s.history) c.args.now c.args.taker c.args.fill c.args.makers.now) ≡ None
    = subst (λ ms. first_some (match_refusals (order_state s.history) (nonce s.history) c.args.now c.args.taker c.args.fill ms) ≡ None) c.as_slice.ensures (sym c.match_refusal.ensures ∙ c.in_default.is) in
    let funded : first_some (funding_refusals (placed s.history) (balance s.history) c.args.taker c.args.fill c.args.makers.now) ≡ None
    = subst (λ ms. first_some (funding_refusals (placed s.history) (balance s.history) c.args.taker c.args.fill ms) ≡ None) c.as_slice-2.ensures c.in-Ok.ensures.verdict in
    let posted = subst (λ ms. ps ≡ matched_in (slice_get (placed s.history) c.args.taker) c.args.fill (parts_in (placed s.history) ms)) c.as_slice-2.ensures c.in-Ok.ensures.postings in
    match-last s.limits s.history c.args.account c.args.taker c.args.fill c.args.makers.now c.args.now ps operator none funded posted ∙ (sym c.refusal_at_last.ensures ∙ c.in-None.is)

pub returns-in-None-clause-changes : goal.returns-in-None-clause-changes
returns-in-None-clause-changes c =
    let s = c.args.self.now in
    let ps : List Posting = c.stage_match.new.staged.postings in
    let sums : MatchSums = c.in-Ok.sums in
    let many : c.len.result ≡ length s.history = search (rules, tests) in
    let given = subst (λ ms. sums_in (slice_get (placed s.history) c.args.taker) c.args.fill (parts_in (placed s.history) ms) ≡ Some sums) c.as_slice-2.ensures c.in-Ok.ensures.sums in
    record {
      postings = subst (λ ms. ps ≡ matched_in (slice_get (placed s.history) c.args.taker) c.args.fill (parts_in (placed s.history) ms)) c.as_slice-2.ensures c.in-Ok.ensures.postings;
      vault = c.in-Ok.ensures.vault ∙ ap (λ staged. staged.vault) c.in_ok-staged.ensures;
      funded = c.in-Ok.ensures.funded;
      numerators = refl;
      reply = ap (λ n. Matched sums.fee sums.got n sums.refund) many ∙ match-reply s.history c.args.account c.args.taker c.args.fill c.args.makers.now sums given;
    }
