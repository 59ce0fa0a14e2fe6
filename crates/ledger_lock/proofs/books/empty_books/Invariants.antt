use Rattle.std.proofs.Common.{◌≡◌, [], length, All}
use Rattle.ledger_lock.proofs.books.empty_books.Given as goal

abbrev pub invariant-loop-condition : goal.invariant-loop-condition
invariant-loop-condition l = record {
  as_many : length l.books.items ≡ l._condition;
  empty : All (λ book. book.orders ≡ []) l.books.items;
  limit : All (λ book. book.limit ≡ l.limit) l.books.items;
}
