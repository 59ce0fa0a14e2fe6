use Rattle.std.proofs.Common.{◌≡◌, ℕ, ◌+◌, ◌*◌, ◌++◌, take}
use Rattle.std.specs.Prelude.{map}
use Rattle.collection_keys.specs.Collections.{Pairs}
use Rattle.condition_sets.specs.declared.amount.TheConstants.{MAX_AMOUNT}
use Rattle.condition_sets.specs.declared.names.TheConstants.{OPERATOR}
use Rattle.ledger_book.specs.Postings.{credit, AreWithin, IsFunded}
use Rattle.match_kinds.specs.Matching.{maker_fee, taken_asset}
use Rattle.match_kinds.proofs.proceeds.stage_fees.Given as goal

abbrev pub invariant-loop-maker : goal.invariant-loop-maker
invariant-loop-maker l = record {
  postings : l.s.postings ≡ l.fn.s.postings ++ map (λ m. credit OPERATOR (taken_asset l.market m) (maker_fee m)) (take l.maker-index l.makers);
  vault : l.s.vault ≡ l.fn.s.vault;
  funded : (held : ℕ → Pairs → ℕ) → IsFunded held l.fn.s.postings → IsFunded held l.s.postings;
  within : AreWithin ((66 + l.maker-index) * MAX_AMOUNT) l.s.postings;
}
