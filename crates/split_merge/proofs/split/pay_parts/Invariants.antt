use Rattle.std.proofs.Common.{◌≡◌, ℕ, ◌+◌, ◌*◌, ◌++◌, take}
use Rattle.std.specs.Prelude.{map}
use Rattle.collection_keys.specs.Collections.{Pairs}
use Rattle.ledger_book.specs.Postings.{credit, AreWithin, IsFunded}
use Rattle.split_merge.specs.Splitting.{parts_of}
use Rattle.split_merge.proofs.split.pay_parts.Given as goal

abbrev pub invariant-loop-set : goal.invariant-loop-set
invariant-loop-set l = record {
  postings : l.s.postings ≡ l.fn.s.postings ++ map (λ k. credit l.fn.a k l.fn.amount) (parts_of l.parent l.c (take l.set-index l.sets));
  vault : l.s.vault ≡ l.fn.s.vault;
  funded : (held : ℕ → Pairs → ℕ) → IsFunded held l.fn.s.postings → IsFunded held l.s.postings;
  within : AreWithin ((l.set-index + 1) * l.fn.amount) l.s.postings;
}
