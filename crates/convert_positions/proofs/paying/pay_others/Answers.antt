use Rattle.std.proofs.Common.{◌≡◌, ◌∙◌, ℕ, ◌+◌, ◌-◌, ◌*◌, ◌++◌, ◌∷◌, [], true, false, List, ap, sym, subst, drop, length, ◌<◌, arith}
use Rattle.std.specs.Prelude.{map, ◌==◌}
use Rattle.std.specs.Int.{bit_at}
use Rattle.collection_keys.specs.Collections.{Pairs}
use Rattle.convert_positions.proofs.Places.{others-here, others-elsewhere, posted_more}
use Rattle.convert_positions.proofs.Room.{within_larger, one_more, few_times}
use Rattle.convert_positions.specs.Converting.{yes_of, others, others_from}
use Rattle.convert_positions.specs.Questions.{conditions_in}
use Rattle.ledger_book.specs.Postings.{credit, AreWithin, IsFunded}
use Rattle.ledger_book.specs.declared.posting.Posting.{Posting}
use Rattle.ledger_book.specs.declared.staged.TheConstants.{MAX_POSTED}
use Rattle.convert_positions.proofs.paying.pay_others.Goals as goal
use Rattle.convert_positions.proofs.paying.pay_others.Goals.{then-not-is_chosen+in_ok-credit, else-not-is_chosen}

pub credit-requires-clause-net : goal.credit-requires-clause-net
credit-requires-clause-net c =
    let most = MAX_POSTED - 63 * c.args.each in
    c.net_amounts_grow_by_each_posting.ensures.credit _ _ _ _ _ (c.loop-place.invariant.within most c.requires.within)
    (omega (arith, few_times c.loop-place.place 31 c.args.each (omega arith)))

pub loop-place-preserved : goal.loop-place-preserved
loop-place-preserved c =
    let cs : List ℕ = conditions_in c.args.e.now.events c.args.event in
    let place = c.loop-place.place in
    let set = c.args.set in
    let each = c.args.each in
    let post : ℕ → Posting = λ n. credit c.args.a (yes_of n) each in
    let ps = c.loop-place.s.postings in
    elim c.if-not-is_chosen.branch [
      | then-not-is_chosen+in_ok-credit w ↦
          let n = w.condition_at.result in
          let absent : (bit_at set place == 1) ≡ false = sym c.is_chosen.ensures ∙ w.if-not-is_chosen.true in
          let last : c.if-not-is_chosen.s.postings ≡ ps ++ post n ∷ []
          = ap (λ s. s.postings) (w.s-is ∙ w.in_ok-credit.ensures.ok) ∙ ap (λ (k : Pairs). ps ++ credit c.args.a k each ∷ []) w.yes_of.ensures in
          record {
            postings = rw last (posted_more post ps (c.args.s.now.postings ++ map post (others set cs)) n (others_from set place (drop place cs)) (others_from set (place + 1) (drop (place + 1) cs)) (others-here set place n cs w.condition_at.ensures absent) c.loop-place.invariant.postings);
            vault = ap (λ s. s.vault) (w.s-is ∙ w.in_ok-credit.ensures.ok) ∙ c.loop-place.invariant.vault;
            funded = λ held funded. subst (λ s. IsFunded held s.postings) (sym w.s-is) (w.in_ok-credit.ensures.funded held (c.loop-place.invariant.funded held funded));
            within = λ most within. subst (λ s. AreWithin (most + (place + 1) * each) s.postings) (sym w.s-is)
                (within_larger (most + place * each + each) (most + (place + 1) * each) _ (omega (arith, one_more place each)) (w.in_ok-credit.ensures.within (most + place * each) (c.loop-place.invariant.within most within)));
          }
      | else-not-is_chosen w ↦
          let inside : place < length cs = omega arith in
          let there : (bit_at set place == 1) ≡ true = sym c.is_chosen.ensures ∙ w.if-not-is_chosen.false in
          rw w.s-is record {
            postings = ap (λ (xs : List ℕ). ps ++ map post xs) (sym (others-elsewhere set place cs inside there)) ∙ c.loop-place.invariant.postings;
            vault = c.loop-place.invariant.vault;
            funded = c.loop-place.invariant.funded;
            within = λ most within. within_larger (most + place * each) (most + (place + 1) * each) ps (omega (arith, one_more place each)) (c.loop-place.invariant.within most within);
          }
    ]

pub returns-clause-within : goal.returns-clause-within
returns-clause-within c most within =
    let end : c.loop-place.place ≡ c.args.questions = omega arith in
    subst (λ (n : ℕ). AreWithin (most + n * c.args.each) c.loop-place.s.postings) end (c.loop-place.invariant.within most within)
