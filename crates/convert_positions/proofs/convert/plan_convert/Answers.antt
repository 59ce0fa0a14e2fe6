use Rattle.std.proofs.Common.{◌≡◌, ◌∙◌, ℕ, ◌-◌, ◌*◌, ◌++◌, List, Some, ap, append_assoc, arith}
use Rattle.std.specs.Prelude.{map, slice_get, option_map}
use Rattle.condition_sets.specs.declared.names.TheConstants.{OPERATOR}
use Rattle.convert_positions.proofs.Made.{at_event}
use Rattle.convert_positions.proofs.Room.{within_larger, few_times}
use Rattle.convert_positions.specs.Converting.{no_of, chosen, paid_for, fee_of, out_of}
use Rattle.convert_positions.specs.Questions.{conditions_of}
use Rattle.event_table.specs.Events.{facts_of}
use Rattle.ledger_book.specs.Ledger.{amount_at}
use Rattle.ledger_book.specs.Postings.{debit}
use Rattle.ledger_book.specs.declared.posting.Posting.{Posting}
use Rattle.convert_positions.proofs.convert.plan_convert.Goals as goal

pub pay-requires-2-clause-within : goal.pay-requires-2-clause-within
pay-requires-2-clause-within c =
    let so_far = c.in-Some.facts.questions * c.args.amount in
    within_larger _ _ _ (omega (arith, c.fee_of-fee.ensures.within, c.get-2.ensures.value, c.get-2.ensures.within, few_times c.in-Some.facts.questions 32 c.args.amount c.in-Some.ensures.questions.1))
    (c.in_ok-paid.ensures.within so_far c.in_ok-take_chosen.ensures.within)

all_posted : (a amount set : ℕ) (cs ds : List ℕ) (out more fee part : ℕ) (taken paid all : List Posting) → cs ≡ ds → out ≡ more → fee ≡ part
    → taken ≡ map (λ n. debit a (no_of n) amount) (chosen set cs) → paid ≡ taken ++ paid_for a out set cs → all ≡ paid ++ paid_for OPERATOR fee set cs
    → all ≡ map (λ n. debit a (no_of n) amount) (chosen set ds) ++ (paid_for a more set ds ++ paid_for OPERATOR part set ds)
all_posted a amount set cs ds out more fee part taken paid all same_conditions same_out same_fee took gave last =
    let in_parts : all ≡ map (λ n. debit a (no_of n) amount) (chosen set cs) ++ (paid_for a out set cs ++ paid_for OPERATOR fee set cs)
    = last ∙ (ap (λ (ps : List Posting). ps ++ paid_for OPERATOR fee set cs) (gave ∙ ap (λ (ps : List Posting). ps ++ paid_for a out set cs) took)
    ∙ append_assoc (map (λ n. debit a (no_of n) amount) (chosen set cs)) (paid_for a out set cs) (paid_for OPERATOR fee set cs)) in
    rw (← same_conditions, ← same_out, ← same_fee) in_parts

pub returns-clause-postings : goal.returns-clause-postings
returns-clause-postings c =
    at_event (slice_get c.args.e.now.events c.args.event) _ _ c.requires.choice (λ view is _.
    let found : Some c.in-Some.facts ≡ Some (facts_of view) = c.in-Some.ensures.value ∙ ap (option_map facts_of) is in
    let same : c.in-Some.facts ≡ facts_of view = cc in
    let bips : c.in-Some.facts.bips ≡ view.bips = ap (λ f. f.bips) same in
    let fee : c.fee_of-fee.result ≡ fee_of c.args.amount view.bips = c.fee_of-fee.ensures.value ∙ ap (fee_of c.args.amount) bips in
    let out : c.get-2.result - c.fee_of-fee.result ≡ out_of c.args.amount view.bips = ap (λ (n : ℕ). n - c.fee_of-fee.result) c.get-2.ensures.value ∙ ap (λ (n : ℕ). c.args.amount - n) fee in
    all_posted c.args.a c.args.amount c.args.set (conditions_of (slice_get c.args.e.now.events c.args.event)) view.conditions _ (out_of c.args.amount view.bips) _ (fee_of c.args.amount view.bips)
    c.take_chosen.new.s.postings c.pay.new.s.postings c.pay-2.new.s.postings (ap conditions_of is) out fee
    c.in_ok-take_chosen.ensures.ok c.in_ok-paid.ensures.ok c.in_ok-pay.ensures.ok)

pub returns-clause-funded : goal.returns-clause-funded
returns-clause-funded c =
    let held = amount_at c.args.l.now in
    c.in_ok-pay.ensures.funded held (c.in_ok-paid.ensures.funded held c.in_ok-take_chosen.ensures.funded)
