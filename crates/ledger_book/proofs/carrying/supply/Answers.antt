use Rattle.std.proofs.Common.{◌+◌, ap, sym, ◌∙◌}
use Rattle.std.specs.Option.{is_some}
use Rattle.std.proofs.lemmas.Map.Made.{is_some-lookup}
use Rattle.std.specs.Map.{keys_of}
use Rattle.collection_keys.specs.Comparing.{same_collection}
use Rattle.ledger_book.specs.Ledger.{supply_in}
use Rattle.ledger_book.proofs.Given.{has_name, keys_same}
use Rattle.ledger_book.proofs.carrying.supply.Goals as goal

pub returns-in_default-clause-here : goal.returns-in_default-clause-here
returns-in_default-clause-here c =
    let k = c.args.collection.now in
    let none = sym (c.copied.ensures ∙ c.get.ensures.value) ∙ c.in_default.is in
    ap (λ n. supply_in c.args.supplies.now.entries k + n) (sym (c.requires.unnamed (sym (is_some-lookup (same_collection k) c.args.supplies.now.entries) ∙ ap is_some none)))

pub returns-clause-names : goal.returns-clause-names
returns-clause-names c =
    let k = c.args.collection.now in
    let es = c.args.supplies.now.entries in
    let some = sym (c.copied.ensures ∙ c.get.ensures.value) ∙ c.in-Some.is in
    ap keys_of c.in-Ok.ensures.entries ∙ keys_same es k c.moved.result (has_name es k ∙ ap is_some some)
