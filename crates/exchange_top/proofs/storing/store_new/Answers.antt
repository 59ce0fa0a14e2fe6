use Rattle.std.proofs.Common.{◌≡◌, length, take, ◌∙◌, ap, inl, arith}
use Rattle.settle_core.specs.Exchange.{ExchangeView}
use Rattle.exchange_top.proofs.Stores.{front-holds, front-same, front-stored, since-front, stored-count, stored-holds, goes_on-same, goes_on-trans}
use Rattle.exchange_top.proofs.storing.store_new.Goals as goal

pub batches-init : goal.batches-init
batches-init g c = record {
  stored = λ before front kept. front-stored g.D.Disk.drive before c.args.house.now.history c.args.journal.now front kept;
  since = λ before moment image front kept early now. inl now;
  at_least = omega arith;
  within = c.requires.at_least;
  sound = c.requires.sound;
  never_falls = omega arith;
  goes_on = goes_on-same (g.D.Disk.drive c.args.journal.now.disk);
}

pub batches-preserved : goal.batches-preserved
batches-preserved g c =
    let drive = g.D.Disk.drive in
    let history = c.args.house.now.history in
    let was = c.batches.invariant in
    let same : c.history-acts.result.now ≡ history = c.history-acts.ensures.value ∙ ap (λ (s : ExchangeView). s.history) c.exchange.ensures in
    let told = rw same at c.in_ok-store_some.ensures in
    record {
      stored = λ before front kept. told.ok (was.stored before front kept);
      since = λ before moment image front kept early now.
          since-front (length before) c.batches.journal.count history history image (front-same history) (omega (arith, was.at_least, stored-count drive before c.args.journal.now kept))
          (λ earlier. was.since before moment image front kept early earlier)
          (told.since moment image (was.stored before front kept) (omega (arith, early, was.goes_on.moment)) now);
      at_least = omega (arith, was.at_least, was.within, told.count);
      within = omega (arith, told.count);
      sound = told.sound;
      never_falls = omega (arith, was.never_falls, told.never_falls);
      goes_on = goes_on-trans (drive c.args.journal.now.disk) (drive c.batches.journal.disk) (drive c.store_some.new.journal.disk) was.goes_on told.goes_on;
    }

pub returns-in_err-store_some-clause-image : goal.returns-in_err-store_some-clause-image
returns-in_err-store_some-clause-image g c = λ before image front kept now.
    let history = c.args.house.now.history in
    let was = c.batches.invariant in
    let same : c.history-acts.result.now ≡ history = c.history-acts.ensures.value ∙ ap (λ (s : ExchangeView). s.history) c.exchange.ensures in
    let told = rw same at c.in_err-store_some.ensures in
    front-holds (length before) c.batches.journal.count history history image (front-same history) (omega (arith, was.at_least, stored-count g.D.Disk.drive before c.args.journal.now kept))
    (told.image image (was.stored before front kept) now)

pub returns-in_err-store_some-clause-since : goal.returns-in_err-store_some-clause-since
returns-in_err-store_some-clause-since g c = λ before moment image front kept early now.
    let history = c.args.house.now.history in
    let was = c.batches.invariant in
    let same : c.history-acts.result.now ≡ history = c.history-acts.ensures.value ∙ ap (λ (s : ExchangeView). s.history) c.exchange.ensures in
    let told = rw same at c.in_err-store_some.ensures in
    since-front (length before) c.batches.journal.count history history image (front-same history) (omega (arith, was.at_least, stored-count g.D.Disk.drive before c.args.journal.now kept))
    (λ earlier. was.since before moment image front kept early earlier)
    (told.since moment image (was.stored before front kept) (omega (arith, early, was.goes_on.moment)) now)

pub returns-clause-image : goal.returns-clause-image
returns-clause-image g c = λ before image front kept now.
    let was = c.batches.invariant in
    let stored = was.stored before front kept in
    record {
      acts = c.batches.journal.count;
      held = stored-holds g.D.Disk.drive (take c.batches.journal.count c.args.house.now.history) c.batches.journal image stored now;
      at_least = omega (arith, was.at_least, stored-count g.D.Disk.drive before c.args.journal.now kept);
      within = was.within;
    }
