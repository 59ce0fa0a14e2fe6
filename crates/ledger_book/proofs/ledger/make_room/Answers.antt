use Rattle.std.proofs.Common.{List, sym, ◌∙◌, subst}
use Rattle.std.specs.Map.{keys_of}
use Rattle.collection_keys.specs.Collections.{Pairs}
use Rattle.ledger_book.specs.Naming.{AreFresh}
use Rattle.ledger_book.proofs.Fresh.{new_names-fresh}
use Rattle.ledger_book.proofs.ledger.make_room.Goals as goal

pub number_all-requires : goal.number_all-requires
number_all-requires c =
    let old = keys_of c.truncate.new.self.entries in
    subst (λ (ks : List Pairs). AreFresh old ks) (sym (c.deref.ensures.value ∙ c.in_ok-coming.ensures)) (new_names-fresh old c.args.postings.now)
