use Rattle.std.proofs.Common.{◌≡◌, List, ℕ, sym, ◌∙◌, ap, subst, arith}
use Rattle.std.specs.BTreeMap.{BTreeMap}
use Rattle.std.specs.Map.{keys_of}
use Rattle.std.specs.Option.{unwrap_or}
use Rattle.std.specs.Prelude.{Option, take}
use Rattle.std.proofs.lemmas.Map.Entries.{length-keys_of}
use Rattle.ledger_book.specs.Ledger.{LedgerView, amount_at, rows, kept, kept_or_none, amount_in, supply_in, number_in}
use Rattle.ledger_book.proofs.Held.{held_within}
use Rattle.ledger_book.proofs.Numbers.{number_found, number_none}
use Rattle.ledger_book.proofs.Soundness.{amount_numbered}
use Rattle.ledger_book.proofs.ledger.Ledger.balance.Goals as goal

pub returns-in_default-clause-value : goal.returns-in_default-clause-value
unfolding amount_at
returns-in_default-clause-value c =
    let a = c.args.a in
    let k = c.args.k.now in
    let rs = rows c.self.inside.accounts.items in
    let ss = c.self.inside.supplies.entries in
    let sound = c.self.invariant.0 in
    let past = (number_none (keys_of ss) k (sym c.get_index_of.ensures.index ∙ c.in_default.is)).0 in
    let none = sound.behind a (number_in (keys_of ss) k) (omega (arith, past, sound.fits, length-keys_of ss)) in
    subst (λ (l : LedgerView). 0 ≡ amount_at l a k) c.self.view_is (sym none ∙ amount_numbered rs ss c.self.inside.named sound a k)

pub returns-clause-value : goal.returns-clause-value
unfolding amount_at
returns-clause-value c =
    let a = c.args.a in
    let k = c.args.k.now in
    let rs = rows c.self.inside.accounts.items in
    let ss = c.self.inside.supplies.entries in
    let at = (number_found (keys_of ss) k c.in-Some.number (sym c.get_index_of.ensures.index ∙ c.in-Some.is)).0 in
    let is = c.kept.ensures ∙ ap (λ (ms : List (BTreeMap ℕ ℕ)). kept (rows ms) a c.in-Some.number) c.deref.ensures.value in
    let found : c.unwrap_or.result ≡ amount_in rs (keys_of ss) a k
    = c.unwrap_or.ensures ∙ ap (λ (o : Option ℕ). unwrap_or o 0) is ∙ ap (kept_or_none rs a) (sym at) in
    subst (λ (l : LedgerView). c.unwrap_or.result ≡ amount_at l a k) c.self.view_is (found ∙ amount_numbered rs ss c.self.inside.named c.self.invariant.0 a k)

pub returns-clause-within : goal.returns-clause-within
returns-clause-within c =
    let a = c.args.a in
    let k = c.args.k.now in
    let rs = rows c.self.inside.accounts.items in
    let ss = c.self.inside.supplies.entries in
    let sound = c.self.invariant.0 in
    let at = (number_found (keys_of ss) k c.in-Some.number (sym c.get_index_of.ensures.index ∙ c.in-Some.is)).0 in
    let is = c.kept.ensures ∙ ap (λ (ms : List (BTreeMap ℕ ℕ)). kept (rows ms) a c.in-Some.number) c.deref.ensures.value in
    let found : c.unwrap_or.result ≡ amount_in rs (keys_of ss) a k
    = c.unwrap_or.ensures ∙ ap (λ (o : Option ℕ). unwrap_or o 0) is ∙ ap (kept_or_none rs a) (sym at) in
    let front = take c.self.inside.named ss in
    omega (arith, found, amount_numbered rs ss c.self.inside.named sound a k, held_within _ (amount_in rs (keys_of front)) (supply_in front) a k sound.balanced, sound.balanced.within k)
