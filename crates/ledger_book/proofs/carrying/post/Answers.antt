use Rattle.std.proofs.Common.{sym, ◌∙◌, ap, arith}
use Rattle.std.specs.Map.{keys_of}
use Rattle.std.specs.Option.{is_some}
use Rattle.std.proofs.lemmas.Map.Entries.{length-keys_of}
use Rattle.ledger_book.specs.Ledger.{rows}
use Rattle.ledger_book.proofs.Numbers.{number_found, number_none}
use Rattle.ledger_book.proofs.Places.{placed_here, amount_found, amount_elsewhere, apart_behind}
use Rattle.ledger_book.proofs.Rows.{kept_within, put-stays}
use Rattle.ledger_book.proofs.carrying.post.Goals as goal

pub returns-in_default-clause-here : goal.returns-in_default-clause-here
returns-in_default-clause-here c =
    let ks = keys_of c.args.supplies.now.entries in
    let k = c.args.posting.now.collection in
    omega (arith, c.requires.unnamed (number_none ks k (sym c.get_index_of.ensures.index ∙ c.in_default.is)).1)

pub unreachable-requires : goal.unreachable-requires
unreachable-requires c =
    let ks = keys_of c.args.supplies.now.entries in
    let p = c.args.posting.now in
    let found = number_found ks p.collection c.in-Some.number (sym c.get_index_of.ensures.index ∙ c.in-Some.is) in
    let there = placed_here (rows c.args.accounts.now) ks p c.in-Some.number found.0 found.1 c.requires.placed in
    let none = ap is_some (sym c.kept.ensures ∙ c.in_default-kept.is) in
    cc

pub moved-requires-clause-low : goal.moved-requires-clause-low
moved-requires-clause-low c =
    let ks = keys_of c.args.supplies.now.entries in
    let p = c.args.posting.now in
    let found = number_found ks p.collection c.in-Some.number (sym c.get_index_of.ensures.index ∙ c.in-Some.is) in
    let had = amount_found (rows c.args.accounts.now) ks p.account p.collection c.in-Some.number c.in-Some-kept.amount found.0 (sym c.kept.ensures ∙ c.in-Some-kept.is) in
    omega (arith, had, c.requires.low, c.credits-paid.ensures, c.debits-taken.ensures)

pub moved-requires-clause-high : goal.moved-requires-clause-high
moved-requires-clause-high c =
    let ks = keys_of c.args.supplies.now.entries in
    let p = c.args.posting.now in
    let found = number_found ks p.collection c.in-Some.number (sym c.get_index_of.ensures.index ∙ c.in-Some.is) in
    let had = amount_found (rows c.args.accounts.now) ks p.account p.collection c.in-Some.number c.in-Some-kept.amount found.0 (sym c.kept.ensures ∙ c.in-Some-kept.is) in
    omega (arith, had, c.requires.high, c.credits-paid.ensures, c.debits-taken.ensures)

pub keep-requires : goal.keep-requires
keep-requires c =
    kept_within c.args.accounts.now c.args.posting.now.account c.in-Some.number (ap is_some (sym c.kept.ensures ∙ c.in-Some-kept.is))

pub returns-clause-here : goal.returns-clause-here
returns-clause-here c =
    let ks = keys_of c.args.supplies.now.entries in
    let p = c.args.posting.now in
    let found = number_found ks p.collection c.in-Some.number (sym c.get_index_of.ensures.index ∙ c.in-Some.is) in
    let had = amount_found (rows c.args.accounts.now) ks p.account p.collection c.in-Some.number c.in-Some-kept.amount found.0 (sym c.kept.ensures ∙ c.in-Some-kept.is) in
    let comes = amount_found (rows c.keep.new.accounts) ks p.account p.collection c.in-Some.number c.moved.result found.0 c.in-Ok.ensures.here in
    omega (arith, had, comes, c.moved.ensures, c.credits-paid.ensures, c.debits-taken.ensures)

pub returns-clause-other : goal.returns-clause-other
returns-clause-other c =
    let ks = keys_of c.args.supplies.now.entries in
    let p = c.args.posting.now in
    let found = number_found ks p.collection c.in-Some.number (sym c.get_index_of.ensures.index ∙ c.in-Some.is) in
    λ a k apart. amount_elsewhere (rows c.args.accounts.now) (rows c.keep.new.accounts) ks p c.in-Some.number found.0 found.1 c.in-Ok.ensures.other a k apart

pub returns-clause-behind : goal.returns-clause-behind
returns-clause-behind c =
    let ks = keys_of c.args.supplies.now.entries in
    let p = c.args.posting.now in
    let found = number_found ks p.collection c.in-Some.number (sym c.get_index_of.ensures.index ∙ c.in-Some.is) in
    λ a n past. c.in-Ok.ensures.other a n (apart_behind a p.account n c.in-Some.number (omega (arith, past, found.2, length-keys_of c.args.supplies.now.entries)))

pub returns-clause-stays : goal.returns-clause-stays
returns-clause-stays c =
    put-stays (rows c.args.accounts.now) (rows c.keep.new.accounts) c.args.posting.now.account c.in-Some.number c.in-Ok.ensures.other c.moved.result c.in-Ok.ensures.here
