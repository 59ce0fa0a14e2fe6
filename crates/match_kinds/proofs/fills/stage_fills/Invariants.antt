use Rattle.std.proofs.Common.{◌≡◌, ◌+◌, ◌*◌, [], ◌∷◌, take, drop}
use Rattle.std.specs.List.{flat_map}
use Rattle.condition_sets.specs.declared.amount.TheConstants.{MAX_AMOUNT}
use Rattle.ledger_book.specs.Ledger.{amount_at}
use Rattle.ledger_book.specs.Postings.{debit, AreWithin, IsFunded}
use Rattle.match_kinds.specs.Matching.{paid_asset}
use Rattle.match_kinds.specs.Settling.{maker_postings, unfunded_from}
use Rattle.match_kinds.proofs.fills.stage_fills.Given as goal

abbrev pub invariant-loop-index : goal.invariant-loop-index
invariant-loop-index l = record {
  postings : l.s.postings ≡ debit l.taker.account (paid_asset l.market l.taker) l.taker.fill ∷ flat_map (maker_postings l.market) (take l.index l.makers);
  vault : l.s.vault ≡ l.fn.s.vault;
  so_far : unfunded_from (amount_at l.l) l.market 1 [] l.makers
      ≡ unfunded_from (amount_at l.l) l.market (l.index + 1) (flat_map (maker_postings l.market) (take l.index l.makers)) (drop l.index l.makers);
  funded : IsFunded (amount_at l.l) l.s.postings;
  within : AreWithin (MAX_AMOUNT + l.index * (2 * MAX_AMOUNT)) l.s.postings;
}
