use Rattle.std.proofs.Common.{◌≡◌, ◌≢◌, ◌∙◌, ℕ, ◌+◌, ◌*◌, ◌++◌, ◌∷◌, [], true, false, List, Option, Some, ap, sym, subst, drop, length, ◌<◌, arith}
use Rattle.std.specs.Prelude.{map, ◌==◌, Err}
use Rattle.std.specs.Int.{bit_at}
use Rattle.std.proofs.lemmas.Result.{err_from_is_err_and}
use Rattle.collection_keys.specs.Collections.{Pairs}
use Rattle.convert_positions.proofs.Places.{chosen-here, chosen-elsewhere, short-elsewhere, posted_more}
use Rattle.convert_positions.proofs.Room.{within_larger, few_times}
use Rattle.convert_positions.proofs.Shortage.{short_there, none_there}
use Rattle.convert_positions.proofs.Untaken.{unpaid_more, untaken_more}
use Rattle.convert_positions.specs.Converting.{no_of, chosen, chosen_from}
use Rattle.convert_positions.specs.Questions.{conditions_in}
use Rattle.ledger_book.specs.Ledger.{amount_at}
use Rattle.ledger_book.specs.Planning.{PlannedBy}
use Rattle.ledger_book.specs.Postings.{debit, credits, debits, AreWithin, IsFunded}
use Rattle.ledger_book.specs.declared.posting.Posting.{Posting}
use Rattle.convert_positions.proofs.taking.take_chosen.Goals as goal
use Rattle.convert_positions.proofs.taking.take_chosen.Goals.{then-is_chosen+in_ok-take, else-is_chosen}

pub returns-in_err-take-clause-short : goal.returns-in_err-take-clause-short
returns-in_err-take-clause-short c =
    let p = err_from_is_err_and c.from_residual.result c.from_residual.ensures.1 in
    rw (p.1, p.2)
    (subst (λ (o : Option (ℕ × ℕ)). PlannedBy o (Err c.in_err-take.field-0.0)) (sym c.loop-place.invariant.short)
    (short_there (amount_at c.args.l.now c.args.a) c.args.amount c.args.set c.loop-place.place c.condition_at.result (conditions_in c.args.e.now.events c.args.event) c.no_of-no.result c.in_err-take.field-0.0
    c.condition_at.ensures (sym c.is_chosen.ensures ∙ c.if-is_chosen.true) c.no_of-no.ensures c.in_err-take.ensures.short))

pub loop-place-preserved : goal.loop-place-preserved
loop-place-preserved c =
    let held : Pairs → ℕ = amount_at c.args.l.now c.args.a in
    let cs : List ℕ = conditions_in c.args.e.now.events c.args.event in
    let place = c.loop-place.place in
    let set = c.args.set in
    let amount = c.args.amount in
    let post : ℕ → Posting = λ n. debit c.args.a (no_of n) amount in
    let ps = c.loop-place.s.postings in
    elim c.if-is_chosen.branch [
      | then-is_chosen+in_ok-take w ↦
          let n = w.condition_at.result in
          let is = w.condition_at.ensures in
          let there : (bit_at set place == 1) ≡ true = sym c.is_chosen.ensures ∙ w.if-is_chosen.true in
          let last : c.if-is_chosen.s.postings ≡ ps ++ post n ∷ []
          = ap (λ s. s.postings) (w.s-is ∙ w.in_ok-take.ensures.ok) ∙ ap (λ (k : Pairs). ps ++ debit c.args.a k amount ∷ []) w.no_of-no.ensures in
          record {
            postings = rw last (posted_more post ps (map post (chosen set cs)) n (chosen_from set place (drop place cs)) (chosen_from set (place + 1) (drop (place + 1) cs)) (chosen-here set place n cs is there) c.loop-place.invariant.postings);
            short = c.loop-place.invariant.short ∙ none_there held amount set place n cs w.no_of-no.result is there w.no_of-no.ensures w.in_ok-take.ensures.short;
            unpaid = λ b k. subst (λ (qs : List Posting). credits qs b k ≡ 0) (sym last) (unpaid_more ps c.args.a (no_of n) amount b k (c.loop-place.invariant.unpaid b k));
            untaken = λ later d after at.
                let other : n ≢ d = λ same. let here : place ≡ later = c.requires.distinct place later n is (at ∙ ap (λ (x : ℕ). Some x) (sym same)) in omega arith in
                subst (λ (qs : List Posting). debits qs c.args.a (no_of d) ≡ 0) (sym last) (untaken_more ps c.args.a n amount d other (c.loop-place.invariant.untaken later d (omega arith) at));
            vault = ap (λ s. s.vault) w.s-is ∙ w.in_ok-take.ensures.vault ∙ c.loop-place.invariant.vault;
            funded = subst (λ s. IsFunded (amount_at c.args.l.now) s.postings) (sym w.s-is) (w.in_ok-take.ensures.funded c.loop-place.invariant.funded);
            within = subst (λ s. AreWithin ((place + 1) * amount) s.postings) (sym w.s-is) w.in_ok-take.ensures.within;
          }
      | else-is_chosen w ↦
          let inside : place < length cs = omega arith in
          let absent : (bit_at set place == 1) ≡ false = sym c.is_chosen.ensures ∙ w.if-is_chosen.false in
          rw w.s-is record {
            postings = ap (λ (xs : List ℕ). ps ++ map post xs) (sym (chosen-elsewhere set place cs inside absent)) ∙ c.loop-place.invariant.postings;
            short = c.loop-place.invariant.short ∙ short-elsewhere held amount set place cs inside absent;
            unpaid = c.loop-place.invariant.unpaid;
            untaken = λ later d after at. c.loop-place.invariant.untaken later d (omega arith) at;
            vault = c.loop-place.invariant.vault;
            funded = c.loop-place.invariant.funded;
            within = within_larger (place * amount) ((place + 1) * amount) ps (few_times place (place + 1) amount (omega arith)) c.loop-place.invariant.within;
          }
    ]
