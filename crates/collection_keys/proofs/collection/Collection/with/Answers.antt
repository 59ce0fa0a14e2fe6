use Rattle.std.proofs.Common.{◌≡◌, ◌<◌, ℕ, Option, Some, None, false, arith}
use Rattle.std.specs.Option.{is_some}
use Rattle.collection_keys.specs.Collections.{part, IsPair}
use Rattle.collection_keys.specs.declared.collection.TheConstants.{MAX_PAIRS}
use Rattle.collection_keys.proofs.Storing.{stored-joined}
use Rattle.collection_keys.proofs.collection.Collection.with.Goals as goal

none-from : (o : Option ℕ) → is_some o ≡ false → o ≡ None
none-from None h = cc
none-from (Some i) h = cc

pub invariant_of-result : goal.invariant_of-result
invariant_of-result c =
    let k = c.args.self.now in
    let none : part k c.args.c ≡ None = none-from (part k c.args.c) (cc) in
    let room : c.self.inside.len < MAX_PAIRS = omega arith in
    let pair : IsPair (c.args.c, c.args.set) = record { condition = omega arith; some = omega arith; not_all = omega arith } in
    (stored-joined k c.self.inside.pairs c.put_at.new.pairs c.self.inside.len c.count_below.result c.args.c c.args.set c.self.invariant c.self.view_is
    room none pair c.count_below.ensures (rw (← c.get.ensures.value, ← c.bits.ensures.value) c.put_at.ensures)).0

pub returns-clause-ok : goal.returns-clause-ok
returns-clause-ok c =
    let k = c.args.self.now in
    let none : part k c.args.c ≡ None = none-from (part k c.args.c) (cc) in
    let room : c.self.inside.len < MAX_PAIRS = omega arith in
    let pair : IsPair (c.args.c, c.args.set) = record { condition = omega arith; some = omega arith; not_all = omega arith } in
    (stored-joined k c.self.inside.pairs c.put_at.new.pairs c.self.inside.len c.count_below.result c.args.c c.args.set c.self.invariant c.self.view_is
    room none pair c.count_below.ensures (rw (← c.get.ensures.value, ← c.bits.ensures.value) c.put_at.ensures)).1
