use Rattle.std.proofs.Common.{◌≡◌, ℕ, ◌+◌, ◌-◌, ◌<◌, List, length, take, drop, min, subst, arith}
use Rattle.std.specs.Prelude.{slice_range}
use Rattle.std.proofs.lemmas.List.{length-take, length-drop}
use Rattle.std.proofs.lemmas.Result.{on_ok_weaker}
use Rattle.std.proofs.lemmas.Slice.Zip.{AllZip-long}
use Rattle.act_bytes.specs.Spelling.{Spells}
use Rattle.command_words.specs.declared.act.Act.{Act}
use Rattle.exchange_top.specs.Holds.{SpellAll}
use Rattle.exchange_top.proofs.Stores.{IsNext, stored-more, either-holds, either-since}
use Rattle.exchange_top.proofs.storing.store_some.Goals as goal

-- the batch spells the acts behind those that are stored
next : (history : List Act) (count from to : ℕ) (list batch : List (List ℕ)) → from ≡ count → to ≡ min (length history) (from + 64) → count < length history
    → SpellAll list (take count history) → SpellAll batch (slice_range history from to) → IsNext history count (to - count) list batch
next history count from to list batch same end few spelled more = record {
  spelled = spelled;
  next = subst (λ (n : ℕ). SpellAll batch (slice_range history n to)) same more;
  within = omega (arith, same, end, few);
}

pub returns-clause-ok : goal.returns-clause-ok
returns-clause-ok g c = λ stored.
    let is = next c.args.history.now c.args.journal.now.count c.count-from.result c.min-to.result stored.list c.spell_all.new.batch c.count-from.ensures c.min-to.ensures c.requires.some stored.spelled c.spell_all.ensures in
    on_ok_weaker c.append.result (stored-more g.D.Disk.drive c.args.history.now c.args.journal.now.count _ stored.list c.spell_all.new.batch c.append.new.self is) (c.append.ensures.ok stored.list stored.kept)

pub returns-clause-image : goal.returns-clause-image
returns-clause-image g c = λ image stored now.
    let is = next c.args.history.now c.args.journal.now.count c.count-from.result c.min-to.result stored.list c.spell_all.new.batch c.count-from.ensures c.min-to.ensures c.requires.some stored.spelled c.spell_all.ensures in
    either-holds c.args.history.now c.args.journal.now.count _ stored.list c.spell_all.new.batch image is (c.append.ensures.image stored.list image stored.kept now)

pub returns-clause-since : goal.returns-clause-since
returns-clause-since g c = λ moment image stored early since.
    let is = next c.args.history.now c.args.journal.now.count c.count-from.result c.min-to.result stored.list c.spell_all.new.batch c.count-from.ensures c.min-to.ensures c.requires.some stored.spelled c.spell_all.ensures in
    either-since c.args.history.now c.args.journal.now.count _ stored.list c.spell_all.new.batch image is (c.append.ensures.since stored.list moment image stored.kept early since)

pub returns-clause-count : goal.returns-clause-count
returns-clause-count g c =
    let many = c.min-to.result - c.count-from.result in
    let rest = drop c.count-from.result c.args.history.now in
    on_ok_weaker c.append.result
    (λ counted. omega (arith, counted, AllZip-long Spells c.spell_all.new.batch (take many rest) c.spell_all.ensures, length-take many rest, length-drop c.count-from.result c.args.history.now))
    c.append.ensures.count
