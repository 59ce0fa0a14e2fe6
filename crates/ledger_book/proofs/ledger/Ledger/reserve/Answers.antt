use Rattle.std.proofs.Common.{List, ℕ, ◌∙◌, ap}
use Rattle.std.specs.Map.{keys_of}
use Rattle.std.specs.Prelude.{take}
use Rattle.collection_keys.specs.Collections.{Pairs}
use Rattle.ledger_book.specs.Ledger.{LedgerView, rows, amount_in, supply_in, amount_at, supply_at, names}
use Rattle.ledger_book.proofs.Counted.{entries_equal}
use Rattle.ledger_book.proofs.Rows.{longer-rows}
use Rattle.ledger_book.proofs.Soundness.{amount_with_room, sound_with_room}
use Rattle.ledger_book.proofs.ledger.Ledger.reserve.Goals as goal

pub invariant_of-self : goal.invariant_of-self
invariant_of-self c =
    let rs = rows c.self.inside.accounts.items in
    let next = rows c.make_room.new.accounts.items in
    let ss = c.self.inside.supplies.entries in
    let ts = c.make_room.new.supplies.entries in
    let m = c.self.inside.named in
    let room = c.make_room.ensures in (
      sound_with_room rs next ss ts m c.self.invariant.0 room.front room.within room.idle room.same (longer-rows c.self.inside.accounts.items c.make_room.new.accounts.items room.longer),
      c.self.invariant.1,
      entries_equal (amount_in rs (keys_of (take m ss))) (amount_in next (keys_of (take m ts))) c.self.inside.entries (amount_with_room rs next ss ts m room.front room.same) c.self.invariant.2,
      c.self.invariant.3,
    )

pub returns-clause-same : goal.returns-clause-same
unfolding amount_at supply_at names
returns-clause-same c =
    let rs = rows c.self.inside.accounts.items in
    let next = rows c.make_room.new.accounts.items in
    let ss = c.self.inside.supplies.entries in
    let ts = c.make_room.new.supplies.entries in
    let room = c.make_room.ensures in
    record {
      amounts = λ a k. amount_with_room rs next ss ts c.self.inside.named room.front room.same a k ∙ ap (λ (l : LedgerView). amount_at l a k) c.self.view_is;
      supplies = λ k. ap (λ (es : List (Pairs × ℕ)). supply_in es k) room.front ∙ ap (λ (l : LedgerView). supply_at l k) c.self.view_is;
      names = ap keys_of room.front ∙ ap names c.self.view_is;
      vault = ap (λ (l : LedgerView). l.vault) c.self.view_is;
      limit = ap (λ (l : LedgerView). l.limit) c.self.view_is;
    }
