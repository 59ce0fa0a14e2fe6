use Rattle.std.proofs.Common.{◌∷◌, [], ℕ, length, take, ◌∙◌, ap, arith, length-append}
use Rattle.std.specs.Map.{keys_of}
use Rattle.std.proofs.lemmas.List.{take-append-le}
use Rattle.collection_keys.specs.Collections.{Pairs}
use Rattle.ledger_book.specs.Ledger.{supply_in}
use Rattle.ledger_book.proofs.Fresh.{next_fresh}
use Rattle.ledger_book.proofs.Given.{keys_new, supply_new, entries_new}
use Rattle.ledger_book.proofs.naming.number_all.Goals as goal

pub loop-collection-preserved : goal.loop-collection-preserved
loop-collection-preserved c =
    let k = c.collection-item.result in
    let i = c.loop-collection.collection-index in
    let es = c.loop-collection.supplies.entries in
    let old = c.args.supplies.now.entries in
    let absent = next_fresh (keys_of old) c.args.coming.now (keys_of es) i k c.requires c.loop-collection-test.true c.collection-item.is c.loop-collection.invariant.names in
    let added = c.in_ok-insert.ensures.entries ∙ entries_new es k absent in
    record {
      front = ap (take (length old)) added ∙ take-append-le (length old) es ((k, 0) ∷ []) c.loop-collection.invariant.longer ∙ c.loop-collection.invariant.front;
      longer = omega (arith, ap (length {A = Pairs × ℕ}) added, length-append es ((k, 0) ∷ []), c.loop-collection.invariant.longer);
      same = λ q. ap (λ es. supply_in es q) c.in_ok-insert.ensures.entries ∙ supply_new es k q absent ∙ c.loop-collection.invariant.same q;
      names = ap keys_of c.in_ok-insert.ensures.entries ∙ keys_new (keys_of old) c.args.coming.now es k i c.loop-collection-test.true c.collection-item.is c.loop-collection.invariant.names absent;
    }
