use Rattle.std.proofs.Common.{ℕ, ◌+◌, ◌-◌, ◌≤◌, List, ◌∙◌, ap, arith, length, drop, take, length-take}
use Rattle.journal_store.specs.Reader.{Unread}
use Rattle.journal_store.proofs.Windows.{skipped}
use Rattle.journal_store.proofs.window.Window.skip.Goals as goal

pub returns : goal.returns
returns c =
    let w = c.self.inside in
    let unread = take (w.end - w.start) (drop w.start w.buffer.items) in
    let room : w.start + c.args.count ≤ w.end =
    omega (arith, c.requires.within, ap (λ (u : Unread). length u.bytes) c.self.view_is, length-take (w.end - w.start) (drop w.start w.buffer.items), c.self.invariant.order) in
    ap (λ (bytes : List ℕ). let u : Unread = record { place = w.place + c.args.count; bytes = bytes; is_last = w.is_last } in u) (skipped w.buffer.items w.start w.end c.args.count room)
    ∙ ap (λ (v : Unread). let u : Unread = record { place = v.place + c.args.count; bytes = drop c.args.count v.bytes; is_last = v.is_last } in u) c.self.view_is
