use Rattle.std.proofs.Common.{◌≡◌, ◌==◌, false, arith, sym, ◌∙◌}
use Rattle.std.specs.Map.{keys_of}
use Rattle.std.proofs.lemmas.Bool.Decides.{nat_tests}
use Rattle.ledger_book.specs.Naming.{has, is_change}
use Rattle.ledger_book.specs.Postings.{credits, debits}
use Rattle.ledger_book.proofs.Fresh.{has_swapped}
use Rattle.ledger_book.proofs.Given.{has_name, new_by, named_by}
use Rattle.ledger_book.proofs.naming.is_new.Goals as goal

pub returns-then-contains_key : goal.returns-then-contains_key
returns-then-contains_key c =
    let k = c.args.posting.now.collection in
    named_by (is_change c.args.postings.now c.args.posting.now) (has (keys_of c.args.supplies.now.entries) k) (has c.args.coming.now k) (has_name c.args.supplies.now.entries k ∙ (sym c.contains_key.ensures ∙ c.if-contains_key.true))

pub returns : goal.returns
returns c =
    let p = c.args.posting.now in
    let ps = c.args.postings.now in
    let change : (credits ps p.account p.collection == debits ps p.account p.collection) ≡ false = grind (arith, nat_tests, c.if-paid-taken.false, c.credits-paid.ensures, c.debits-taken.ensures) in
    new_by (credits ps p.account p.collection) (debits ps p.account p.collection) (has (keys_of c.args.supplies.now.entries) p.collection) (has c.args.coming.now p.collection) c.contains.result
    change (has_name c.args.supplies.now.entries p.collection ∙ (sym c.contains_key.ensures ∙ c.if-contains_key.false)) (c.contains.ensures.value ∙ has_swapped c.args.coming.now p.collection)
