use Rattle.std.proofs.Common.{◌≡◌, ◌*◌, take, None}
use Rattle.std.specs.Prelude.{map}
use Rattle.ledger_book.specs.Ledger.{amount_at}
use Rattle.ledger_book.specs.Planning.{first_short}
use Rattle.ledger_book.specs.Postings.{debit, AreWithin, IsFunded}
use Rattle.split_merge.specs.Splitting.{parts_of}
use Rattle.split_merge.proofs.merge.take_parts.Given as goal

abbrev pub invariant-loop-place : goal.invariant-loop-place
invariant-loop-place l = record {
  postings : l.s.postings ≡ map (λ k. debit l.fn.a k l.fn.amount) (parts_of l.parent l.c (take l.place l.sets));
  vault : l.s.vault ≡ l.fn.s.vault;
  enough : first_short (amount_at l.l l.fn.a) l.fn.amount (parts_of l.parent l.c (take l.place l.sets)) ≡ None;
  funded : IsFunded (amount_at l.l) l.s.postings;
  within : AreWithin (l.place * l.fn.amount) l.s.postings;
}
