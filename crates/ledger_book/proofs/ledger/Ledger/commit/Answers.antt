use Rattle.std.proofs.Common.{◌≡◌, ◌+◌, ◌<◌, ◌≤◌, ℕ, List, length, take, sym, ◌∙◌, ap, subst, arith}
use Rattle.std.specs.BTreeMap.{BTreeMap}
use Rattle.std.specs.Map.{keys_of}
use Rattle.collection_keys.specs.Collections.{Pairs}
use Rattle.ledger_book.specs.Entries.{HasEntries, held_after}
use Rattle.ledger_book.specs.Ledger.{LedgerView, amount_at, names, rows, kept, amount_in, supply_in, IsSound}
use Rattle.ledger_book.specs.Postings.{minted, burnt}
use Rattle.ledger_book.specs.declared.posting.Posting.{Posting}
use Rattle.ledger_book.proofs.Counted.{entries_equal}
use Rattle.ledger_book.proofs.Rows.{given_back, length-rows}
use Rattle.ledger_book.proofs.Soundness.{planned, supplies_low, supplies_high, supplies_still, amounts_low, amounts_high, amounts_still, amounts_after, supplies_after, named_after, kept_behind, amount_named, sound_after}
use Rattle.ledger_book.proofs.ledger.Ledger.commit.Goals as goal

pub overflow_cast-self : goal.overflow_cast-self
overflow_cast-self c =
    let first : c.deref.result.now ≡ c.args.s.postings = c.deref.ensures.value ∙ c.into_parts-postings.ensures.postings in
    let has = subst (λ (qs : List Posting). HasEntries (held_after (amount_at c.args.self.now) qs) c.entries_after.result) first c.entries_after.ensures in
    let within = subst (λ (l : LedgerView). c.entries_after.result ≤ l.limit) (sym c.self.view_is) (c.requires.entries c.entries_after.result has) in
    omega (arith, within)

pub supply_all-requires-clause-low : goal.supply_all-requires-clause-low
supply_all-requires-clause-low c =
    let ps = c.args.s.postings in
    let inner = c.self.inside in
    let rs = rows inner.accounts.items in
    let ss = inner.supplies.entries in
    let sound = c.self.invariant.0 in
    let plan = planned rs ss inner.named inner.vault inner.limit ps c.args.self.now sound c.self.view_is c.requires.ready c.requires.funded c.requires.admitted in
    supplies_low rs ss inner.named ps sound plan c.deref-2.result.now (c.deref-2.ensures.value ∙ c.into_parts-postings.ensures.postings)

pub supply_all-requires-clause-high : goal.supply_all-requires-clause-high
supply_all-requires-clause-high c =
    let ps = c.args.s.postings in
    let inner = c.self.inside in
    let rs = rows inner.accounts.items in
    let ss = inner.supplies.entries in
    let sound = c.self.invariant.0 in
    let plan = planned rs ss inner.named inner.vault inner.limit ps c.args.self.now sound c.self.view_is c.requires.ready c.requires.funded c.requires.admitted in
    supplies_high rs ss inner.named ps sound plan c.deref-2.result.now (c.deref-2.ensures.value ∙ c.into_parts-postings.ensures.postings)

pub supply_all-requires-clause-unnamed : goal.supply_all-requires-clause-unnamed
supply_all-requires-clause-unnamed c =
    let ps = c.args.s.postings in
    let inner = c.self.inside in
    let rs = rows inner.accounts.items in
    let ss = inner.supplies.entries in
    let sound = c.self.invariant.0 in
    let plan = planned rs ss inner.named inner.vault inner.limit ps c.args.self.now sound c.self.view_is c.requires.ready c.requires.funded c.requires.admitted in
    supplies_still rs ss inner.named ps sound plan c.deref-2.result.now (c.deref-2.ensures.value ∙ c.into_parts-postings.ensures.postings)

pub post_all-requires-clause-low : goal.post_all-requires-clause-low
post_all-requires-clause-low c =
    let ps = c.args.s.postings in
    let inner = c.self.inside in
    let rs = rows inner.accounts.items in
    let ss = inner.supplies.entries in
    let sound = c.self.invariant.0 in
    let plan = planned rs ss inner.named inner.vault inner.limit ps c.args.self.now sound c.self.view_is c.requires.ready c.requires.funded c.requires.admitted in
    amounts_low rs ss inner.named ps sound plan (rows c.deref_mut.result.now) (ap rows c.deref_mut.ensures.value) (keys_of c.supply_all.new.supplies.entries) c.supply_all.ensures.names c.deref-3.result.now (c.deref-3.ensures.value ∙ c.into_parts-postings.ensures.postings)

pub post_all-requires-clause-high : goal.post_all-requires-clause-high
post_all-requires-clause-high c =
    let ps = c.args.s.postings in
    let inner = c.self.inside in
    let rs = rows inner.accounts.items in
    let ss = inner.supplies.entries in
    let sound = c.self.invariant.0 in
    let plan = planned rs ss inner.named inner.vault inner.limit ps c.args.self.now sound c.self.view_is c.requires.ready c.requires.funded c.requires.admitted in
    amounts_high rs ss inner.named ps sound plan (rows c.deref_mut.result.now) (ap rows c.deref_mut.ensures.value) (keys_of c.supply_all.new.supplies.entries) c.supply_all.ensures.names c.deref-3.result.now (c.deref-3.ensures.value ∙ c.into_parts-postings.ensures.postings)

pub post_all-requires-clause-unnamed : goal.post_all-requires-clause-unnamed
post_all-requires-clause-unnamed c =
    let ps = c.args.s.postings in
    let inner = c.self.inside in
    let rs = rows inner.accounts.items in
    let ss = inner.supplies.entries in
    let sound = c.self.invariant.0 in
    let plan = planned rs ss inner.named inner.vault inner.limit ps c.args.self.now sound c.self.view_is c.requires.ready c.requires.funded c.requires.admitted in
    amounts_still rs ss inner.named ps sound plan (rows c.deref_mut.result.now) (ap rows c.deref_mut.ensures.value) (keys_of c.supply_all.new.supplies.entries) c.supply_all.ensures.names c.deref-3.result.now (c.deref-3.ensures.value ∙ c.into_parts-postings.ensures.postings)

pub overflow_cast-self-2 : goal.overflow_cast-self-2
unfolding names
overflow_cast-self-2 c =
    let ps = c.args.s.postings in
    let inner = c.self.inside in
    let rs = rows inner.accounts.items in
    let ss = inner.supplies.entries in
    let sound = c.self.invariant.0 in
    let plan = planned rs ss inner.named inner.vault inner.limit ps c.args.self.now sound c.self.view_is c.requires.ready c.requires.funded c.requires.admitted in
    let few = subst (λ (l : LedgerView). length (names l) + length ps < 4294967296) (sym c.self.view_is) c.requires.few in
    omega (arith, few, c.len.ensures.len, named_after rs ss inner.named ps sound plan c.supply_all.new.supplies.entries c.supply_all.ensures.names)

pub invariant_of-self : goal.invariant_of-self
unfolding amount_at
invariant_of-self c =
    let ps = c.args.s.postings in
    let inner = c.self.inside in
    let rs = rows inner.accounts.items in
    let ss = inner.supplies.entries in
    let sound = c.self.invariant.0 in
    let plan = planned rs ss inner.named inner.vault inner.limit ps c.args.self.now sound c.self.view_is c.requires.ready c.requires.funded c.requires.admitted in
    let ts = c.supply_all.new.supplies.entries in
    let next = rows c.post_all.new.accounts in
    let old = inner.accounts in
    let first : c.deref.result.now ≡ c.args.s.postings = c.deref.ensures.value ∙ c.into_parts-postings.ensures.postings in
    let has = subst (λ (qs : List Posting). HasEntries (held_after (amount_at c.args.self.now) qs) c.entries_after.result) first c.entries_after.ensures in
    let within = subst (λ (l : LedgerView). c.entries_after.result ≤ l.limit) (sym c.self.view_is) (c.requires.entries c.entries_after.result has) in
    let counted = subst (λ (l : LedgerView). HasEntries (held_after (amount_at l) ps) c.entries_after.result) (sym c.self.view_is) has in
    let back = given_back old.len c.post_all.new.accounts old.items (omega arith) (omega arith) in
    let long : length next ≡ length rs = omega (arith, length-rows c.post_all.new.accounts, length-rows old.items, ap (length {A = BTreeMap ℕ ℕ}) c.deref_mut.ensures.value) in
    let amounts = amounts_after rs ss inner.named ps sound plan (rows c.deref_mut.result.now) (ap rows c.deref_mut.ensures.value) (keys_of c.supply_all.new.supplies.entries) c.supply_all.ensures.names c.deref-3.result.now (c.deref-3.ensures.value ∙ c.into_parts-postings.ensures.postings) next c.post_all.ensures.amounts in
    let supplies : (k : Pairs) → supply_in ts k + burnt ps k ≡ supply_in (take inner.named ss) k + minted ps k
    = supplies_after rs ss inner.named ps sound plan c.deref-2.result.now (c.deref-2.ensures.value ∙ c.into_parts-postings.ensures.postings) ts c.supply_all.ensures.supplies in
    let behind : (a n : ℕ) → length ss ≤ n → kept next a n ≡ kept rs a n
    = kept_behind rs (rows c.deref_mut.result.now) next ss ts (ap rows c.deref_mut.ensures.value) c.supply_all.ensures.names c.post_all.ensures.behind in
    let after = sound_after rs next ss ts inner.named ps sound long c.supply_all.ensures.names plan.admitted amounts supplies behind in
    let named = subst (λ n. IsSound next ts n) (sym c.len.ensures.len) after in
    let equal : (a : ℕ) (k : Pairs) → amount_in next (keys_of (take c.len.result ts)) a k ≡ held_after (amount_in rs (keys_of (take inner.named ss))) ps a k
    = λ a k. omega (arith, amount_named next ss ts c.len.result c.len.ensures.len c.supply_all.ensures.names a k, amounts a k) in
    let entries = entries_equal (held_after (amount_in rs (keys_of (take inner.named ss))) ps) (amount_in next (keys_of (take c.len.result ts))) c.entries_after.result equal counted in (
      subst (λ (ms : List (BTreeMap ℕ ℕ)). IsSound (rows ms) ts c.len.result) (sym back) named,
      c.changed-self-inside.ensures.within,
      subst (λ (ms : List (BTreeMap ℕ ℕ)). HasEntries (amount_in (rows ms) (keys_of (take c.len.result ts))) c.entries_after.result) (sym back) entries,
      within,
    )

pub returns-clause-balances : goal.returns-clause-balances
unfolding amount_at
returns-clause-balances c =
    let ps = c.args.s.postings in
    let inner = c.self.inside in
    let rs = rows inner.accounts.items in
    let ss = inner.supplies.entries in
    let sound = c.self.invariant.0 in
    let plan = planned rs ss inner.named inner.vault inner.limit ps c.args.self.now sound c.self.view_is c.requires.ready c.requires.funded c.requires.admitted in
    let ts = c.supply_all.new.supplies.entries in
    let next = rows c.post_all.new.accounts in
    let old = inner.accounts in
    let back = given_back old.len c.post_all.new.accounts old.items (omega arith) (omega arith) in
    let amounts = amounts_after rs ss inner.named ps sound plan (rows c.deref_mut.result.now) (ap rows c.deref_mut.ensures.value) (keys_of c.supply_all.new.supplies.entries) c.supply_all.ensures.names c.deref-3.result.now (c.deref-3.ensures.value ∙ c.into_parts-postings.ensures.postings) next c.post_all.ensures.amounts in
    λ a k.
    let held = ap (λ (ms : List (BTreeMap ℕ ℕ)). amount_in (rows ms) (keys_of (take c.len.result ts)) a k) back in
    let at = held ∙ amount_named next ss ts c.len.result c.len.ensures.len c.supply_all.ensures.names a k in
    let before = ap (λ (l : LedgerView). amount_at l a k) c.self.view_is in
    omega (arith, at, amounts a k, before)
