use Rattle.std.proofs.Common.{ℕ, ◌+◌, ◌*◌, ◌≡◌, ◌++◌, ◌∷◌, [], ap, ◌∙◌, subst}
use Rattle.collection_keys.specs.Collections.{Pairs, joined}
use Rattle.ledger_book.specs.Postings.{credit, AreWithin}
use Rattle.split_merge.proofs.Paying.{posted_more, one_more}
use Rattle.split_merge.proofs.split.pay_parts.Goals as goal

pub loop-set-preserved : goal.loop-set-preserved
loop-set-preserved c =
    let f : ℕ → Pairs = λ i. joined c.args.parent.now c.args.c i in
    let so_far : ℕ = (c.loop-set.set-index + 1) * c.args.amount in
    let last = subst (λ (n : ℕ). c.credit.new.self.postings ≡ c.loop-set.s.postings ++ credit c.args.a c.part_of.result n ∷ []) c.get.ensures.value (ap (λ s. s.postings) c.in_ok-credit.ensures.ok) in
    let within = subst (λ (n : ℕ). AreWithin (so_far + n) c.credit.new.self.postings) c.get.ensures.value (c.in_ok-credit.ensures.within so_far c.loop-set.invariant.within) in
    record {
      postings = posted_more (λ k. credit c.args.a k c.args.amount) f c.args.s.now.postings c.loop-set.s.postings _ c.args.sets.now c.loop-set.set-index c.set-item.result c.part_of.result c.loop-set-test.true c.set-item.is c.part_of.ensures last c.loop-set.invariant.postings;
      vault = ap (λ s. s.vault) c.in_ok-credit.ensures.ok ∙ c.loop-set.invariant.vault;
      funded = λ held funded. c.in_ok-credit.ensures.funded held (c.loop-set.invariant.funded held funded);
      within = subst (λ (most : ℕ). AreWithin most c.credit.new.self.postings) (one_more (c.loop-set.set-index + 1) c.args.amount) within;
    }
