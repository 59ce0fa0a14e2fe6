use Rattle.std.proofs.Common.{◌≡◌, ℕ, List, Err, refl, sym, ◌∙◌, ap, subst, arith}
use Rattle.std.specs.Io.KnownBytes.{Appends}
use Rattle.outside_faults.proofs.Told.{IfTold-weaker}
use Rattle.line_link.specs.LineReader.{LineReaderView, heard, untold}
use Rattle.line_link.specs.Lines.{AppendsFront}
use Rattle.line_link.specs.declared.status.Status.TheVariants.{Done, ReadFault, InputLimit}
use Rattle.command_words.specs.declared.act.Act.{Act}
use Rattle.settle_core.specs.Bounds.{Bounds}
use Rattle.settle_core.specs.Legal.{IsLegal}
use Rattle.exchange_top.specs.Run.{outside, Served}
use Rattle.exchange_top.specs.Talk.{Turn, AnsweredLine}
use Rattle.exchange_top.specs.declared.ended.Ended.{Ended}
use Rattle.exchange_top.proofs.Runs.{IsTurn, serving-init, serving-step, serving-end, serving-all, serving-whole, serving-taken, serving-cut, serving-lost}
use Rattle.exchange_top.proofs.Stores.{front-longer, held-first, storing-init, storing-more}
use Rattle.exchange_top.proofs.serving.serve.Goals as goal

-- the limits that the exchange has are those of the run, and the text is the reader's
line-answered : (limits here : Bounds) (history after : List Act) (turn : Turn) (line : List ℕ → Turn) (told text : List ℕ) → here ≡ limits → told ≡ text → line text ≡ turn
    → AnsweredLine here history (line told).line (line told).moment (line told).reply after → AnsweredLine limits history turn.line turn.moment turn.reply after
line-answered limits here history after turn line told text same read is answered =
    subst (λ (t : Turn). AnsweredLine limits history t.line t.moment t.reply after) is
    (subst (λ (bytes : List ℕ). AnsweredLine limits history (line bytes).line (line bytes).moment (line bytes).reply after) read
    (subst (λ (b : Bounds). AnsweredLine b history (line told).line (line told).moment (line told).reply after) same answered))

pub lines-init : goal.lines-init
lines-init g c = record {
  serving = serving-init c.args.house.history c.args.desk.reader _ c.requires.reader;
  storing = storing-init g.D.Disk.drive c.args.house.history c.args.journal c.requires.stored;
  sound = c.requires.sound;
  count = c.requires.count;
  limits = c.requires.limits;
  limit = ap (λ (r : LineReaderView). r.limit) c.requires.reader;
  few = omega (arith, ap untold c.requires.reader);
  read_faults = omega arith;
  write_faults = omega arith;
  disk_faults = omega arith;
}

pub store_new-requires-clause-at_least : goal.store_new-requires-clause-at_least
store_new-requires-clause-at_least g c = omega (arith, c.lines.invariant.count, front-longer c.lines.house.history c.answer_line-reply.new.house.history c.answer_line-reply.ensures.front)

pub returns-in-Err-End-clause-served : goal.returns-in-Err-End-clause-served
returns-in-Err-End-clause-served g c =
    let left = g.R.Source.left in
    let before = outside (left c.args.source.now) (g.W.Sink.held c.args.sink.now) (g.C.Clock.may_have_told c.args.clock.now) in
    let now = outside (left c.lines.source) (g.W.Sink.held c.lines.sink) (g.C.Clock.may_have_told c.lines.clock) in
    let next = outside (left c.next.new.source) (g.W.Sink.held c.lines.sink) (g.C.Clock.may_have_told c.lines.clock) in
    let first = c.args.house.history in
    let s = c.lines.invariant.serving in
    let read = serving-all first c.lines.lines c.lines.house.history c.lines.desk.reader before now (left c.next.new.source) s (c.in-Err-End.ensures.end (ap Err c.in-Err-End.field-0-is)) in
    let legal = subst (λ (limits : Bounds). IsLegal limits c.lines.house.history) c.lines.invariant.limits c.end.ensures.legal in
    subst (λ (e : Ended g.row.D.Denot). Served g.D.Disk.drive c.args.journal.disk first e before next) (sym c.end.ensures.value)
    (serving-end g.D.Disk.drive g.D.Disk.is_drive c.args.journal.disk first Done c.lines.lines c.lines.house.history c.lines.desk.reader c.lines.journal before now (left c.next.new.source)
    s c.lines.invariant.storing (held-first g.D.Disk.drive g.D.Disk.is_drive first c.args.journal c.requires.stored) legal read (λ whole. whole))

pub returns-in-Err-ReadFault-clause-served : goal.returns-in-Err-ReadFault-clause-served
returns-in-Err-ReadFault-clause-served g c =
    let left = g.R.Source.left in
    let before = outside (left c.args.source.now) (g.W.Sink.held c.args.sink.now) (g.C.Clock.may_have_told c.args.clock.now) in
    let now = outside (left c.lines.source) (g.W.Sink.held c.lines.sink) (g.C.Clock.may_have_told c.lines.clock) in
    let next = outside (left c.next.new.source) (g.W.Sink.held c.lines.sink) (g.C.Clock.may_have_told c.lines.clock) in
    let first = c.args.house.history in
    let s = c.lines.invariant.serving in
    let read = serving-whole first c.lines.lines c.next.new.self.taken c.lines.house.history c.lines.desk.reader before now (left c.next.new.source) s c.in-Err-ReadFault.ensures.taken c.in-Err-ReadFault.ensures.none_taken in
    let legal = subst (λ (limits : Bounds). IsLegal limits c.lines.house.history) c.lines.invariant.limits c.end-in-Err-ReadFault.ensures.legal in
    subst (λ (e : Ended g.row.D.Denot). Served g.D.Disk.drive c.args.journal.disk first e before next) (sym c.end-in-Err-ReadFault.ensures.value)
    (serving-end g.D.Disk.drive g.D.Disk.is_drive c.args.journal.disk first ReadFault c.lines.lines c.lines.house.history c.lines.desk.reader c.lines.journal before now (left c.next.new.source)
    s c.lines.invariant.storing (held-first g.D.Disk.drive g.D.Disk.is_drive first c.args.journal c.requires.stored) legal read (λ whole. whole))

pub returns-in-Err-InputLimit-clause-served : goal.returns-in-Err-InputLimit-clause-served
returns-in-Err-InputLimit-clause-served g c =
    let left = g.R.Source.left in
    let before = outside (left c.args.source.now) (g.W.Sink.held c.args.sink.now) (g.C.Clock.may_have_told c.args.clock.now) in
    let now = outside (left c.lines.source) (g.W.Sink.held c.lines.sink) (g.C.Clock.may_have_told c.lines.clock) in
    let next = outside (left c.next.new.source) (g.W.Sink.held c.lines.sink) (g.C.Clock.may_have_told c.lines.clock) in
    let first = c.args.house.history in
    let s = c.lines.invariant.serving in
    let read = serving-whole first c.lines.lines c.next.new.self.taken c.lines.house.history c.lines.desk.reader before now (left c.next.new.source) s c.in-Err-InputLimit.ensures.taken c.in-Err-InputLimit.ensures.none_taken in
    let legal = subst (λ (limits : Bounds). IsLegal limits c.lines.house.history) c.lines.invariant.limits c.end-in-Err-InputLimit.ensures.legal in
    subst (λ (e : Ended g.row.D.Denot). Served g.D.Disk.drive c.args.journal.disk first e before next) (sym c.end-in-Err-InputLimit.ensures.value)
    (serving-end g.D.Disk.drive g.D.Disk.is_drive c.args.journal.disk first InputLimit c.lines.lines c.lines.house.history c.lines.desk.reader c.lines.journal before now (left c.next.new.source)
    s c.lines.invariant.storing (held-first g.D.Disk.drive g.D.Disk.is_drive first c.args.journal c.requires.stored) legal read (λ whole. whole))

pub returns-in-Err-clause-served : goal.returns-in-Err-clause-served
returns-in-Err-clause-served g c =
    let left = g.R.Source.left in
    let before = outside (left c.args.source.now) (g.W.Sink.held c.args.sink.now) (g.C.Clock.may_have_told c.args.clock.now) in
    let now = outside (left c.lines.source) (g.W.Sink.held c.lines.sink) (g.C.Clock.may_have_told c.lines.clock) in
    let next = outside (left c.next.new.source) (g.W.Sink.held c.lines.sink) (g.C.Clock.may_have_told c.now-now.new.self) in
    let first = c.args.house.history in
    let history = c.lines.house.history in
    let after = c.answer_line-reply.new.house.history in
    let turn_of : List ℕ → Turn = λ text. record { line = heard c.in-Ok.line text; moment = c.now-now.result; reply = c.answer_line-reply.result } in
    let turn = turn_of c.next.new.self.text in
    let is : IsTurn history after turn c.lines.desk.reader c.next.new.self now next = record {
      line = c.in-Ok.ensures.line;
      took = c.in-Ok.ensures.taken;
      tick = c.now-now.ensures;
      answered = line-answered _ _ history after turn turn_of _ _ c.lines.invariant.limits c.text.ensures refl c.answer_line-reply.ensures.answered;
      stopped = c.answer_line-reply.ensures.stop;
    } in
    let legal = subst (λ (limits : Bounds). IsLegal limits after) (c.answer_line-reply.ensures.limits ∙ c.lines.invariant.limits) c.end-in-Err.ensures.legal in
    subst (λ (e : Ended g.row.D.Denot). Served g.D.Disk.drive c.args.journal.disk first e before next) (sym c.end-in-Err.ensures.value)
    (serving-lost g.D.Disk.drive g.D.Disk.is_drive c.args.journal.disk first c.lines.lines history after turn c.lines.desk.reader c.next.new.self c.lines.journal c.store_new.new.journal before now next
    c.lines.invariant.serving c.lines.invariant.storing (held-first g.D.Disk.drive g.D.Disk.is_drive first c.args.journal c.requires.stored) legal is refl
    (λ stored image there. c.in-Err.ensures.image history image c.answer_line-reply.ensures.front stored there)
    (λ stored moment image early there. c.in-Err.ensures.since history moment image c.answer_line-reply.ensures.front stored early there)
    c.in-Err.ensures.goes_on)

pub lines-preserved : goal.lines-preserved
lines-preserved g c =
    let left = g.R.Source.left in
    let held = g.W.Sink.held in
    let before = outside (left c.args.source.now) (held c.args.sink.now) (g.C.Clock.may_have_told c.args.clock.now) in
    let now = outside (left c.lines.source) (held c.lines.sink) (g.C.Clock.may_have_told c.lines.clock) in
    let next = outside (left c.next.new.source) (held c.write_all.new.sink) (g.C.Clock.may_have_told c.now-now.new.self) in
    let first = c.args.house.history in
    let history = c.lines.house.history in
    let after = c.answer_line-reply.new.house.history in
    let turn_of : List ℕ → Turn = λ text. record { line = heard c.in-Ok.line text; moment = c.now-now.result; reply = c.answer_line-reply.result } in
    let turn = turn_of c.next.new.self.text in
    let is : IsTurn history after turn c.lines.desk.reader c.next.new.self now next = record {
      line = c.in-Ok.ensures.line;
      took = c.in-Ok.ensures.taken;
      tick = c.now-now.ensures;
      answered = line-answered _ _ history after turn turn_of _ _ c.lines.invariant.limits c.text.ensures refl c.answer_line-reply.ensures.answered;
      stopped = c.answer_line-reply.ensures.stop;
    } in
    let written = subst (λ (text : List ℕ). Appends (held c.lines.sink) (held c.write_all.new.sink) text) (c.as_slice.ensures ∙ c.spell.ensures) c.in-Ok-write_all.ensures.ok in
    record {
      serving = serving-step first c.lines.lines history after turn c.lines.desk.reader c.next.new.self before now next c.lines.invariant.serving is written;
      storing = storing-more g.D.Disk.drive c.args.journal.disk first history after c.lines.journal c.store_new.new.journal c.lines.invariant.storing c.answer_line-reply.ensures.front
          (λ stored. c.in-Ok-store_new.ensures.ok history c.answer_line-reply.ensures.front stored)
          (λ stored moment image early there. c.in-Ok-store_new.ensures.since history moment image c.answer_line-reply.ensures.front stored early there)
          c.in-Ok-store_new.ensures.goes_on;
      sound = c.in-Ok-store_new.ensures.sound;
      count = c.in-Ok-store_new.ensures.count;
      limits = c.answer_line-reply.ensures.limits ∙ c.lines.invariant.limits;
      limit = c.in-Ok.ensures.limit ∙ c.lines.invariant.limit;
      few = omega (arith, c.in-Ok.ensures.progress, c.lines.invariant.few);
      read_faults = omega (arith, c.in-Ok.ensures.never_falls, c.lines.invariant.read_faults);
      write_faults = omega (arith, c.in-Ok-write_all.ensures.cause.never_falls, c.lines.invariant.write_faults);
      disk_faults = omega (arith, c.in-Ok-store_new.ensures.never_falls, c.lines.invariant.disk_faults);
    }

pub returns-in-Err-write_all-clause-served : goal.returns-in-Err-write_all-clause-served
returns-in-Err-write_all-clause-served g c =
    let left = g.R.Source.left in
    let held = g.W.Sink.held in
    let before = outside (left c.args.source.now) (held c.args.sink.now) (g.C.Clock.may_have_told c.args.clock.now) in
    let now = outside (left c.lines.source) (held c.lines.sink) (g.C.Clock.may_have_told c.lines.clock) in
    let next = outside (left c.next.new.source) (held c.write_all.new.sink) (g.C.Clock.may_have_told c.now-now.new.self) in
    let first = c.args.house.history in
    let history = c.lines.house.history in
    let after = c.answer_line-reply.new.house.history in
    let turn_of : List ℕ → Turn = λ text. record { line = heard c.in-Ok.line text; moment = c.now-now.result; reply = c.answer_line-reply.result } in
    let turn = turn_of c.next.new.self.text in
    let is : IsTurn history after turn c.lines.desk.reader c.next.new.self now next = record {
      line = c.in-Ok.ensures.line;
      took = c.in-Ok.ensures.taken;
      tick = c.now-now.ensures;
      answered = line-answered _ _ history after turn turn_of _ _ c.lines.invariant.limits c.text.ensures refl c.answer_line-reply.ensures.answered;
      stopped = c.answer_line-reply.ensures.stop;
    } in
    let legal = subst (λ (limits : Bounds). IsLegal limits after) (c.answer_line-reply.ensures.limits ∙ c.lines.invariant.limits) c.end-in-Err-write_all.ensures.legal in
    let front = subst (λ (text : List ℕ). AppendsFront (held c.lines.sink) (held c.write_all.new.sink) text) (c.as_slice.ensures ∙ c.spell.ensures) c.in-Err-write_all.ensures.err in
    subst (λ (e : Ended g.row.D.Denot). Served g.D.Disk.drive c.args.journal.disk first e before next) (sym c.end-in-Err-write_all.ensures.value)
    (serving-cut g.D.Disk.drive g.D.Disk.is_drive c.args.journal.disk first c.lines.lines history after turn c.lines.desk.reader c.next.new.self c.store_new.new.journal before now next
    c.lines.invariant.serving
    (storing-more g.D.Disk.drive c.args.journal.disk first history after c.lines.journal c.store_new.new.journal c.lines.invariant.storing c.answer_line-reply.ensures.front
    (λ stored. c.in-Ok-store_new.ensures.ok history c.answer_line-reply.ensures.front stored)
    (λ stored moment image early there. c.in-Ok-store_new.ensures.since history moment image c.answer_line-reply.ensures.front stored early there)
    c.in-Ok-store_new.ensures.goes_on)
    (held-first g.D.Disk.drive g.D.Disk.is_drive first c.args.journal c.requires.stored) legal is front)

pub returns-in-Err-InputLimit-clause-input_limit : goal.returns-in-Err-InputLimit-clause-input_limit
returns-in-Err-InputLimit-clause-input_limit g c = λ same.
    let left = g.R.Source.left in
    let before = outside (left c.args.source.now) (g.W.Sink.held c.args.sink.now) (g.C.Clock.may_have_told c.args.clock.now) in
    let now = outside (left c.lines.source) (g.W.Sink.held c.lines.sink) (g.C.Clock.may_have_told c.lines.clock) in
    let told = c.in-Err-InputLimit.ensures in
    let full = told.input_limit (ap Err c.in-Err-InputLimit.field-0-is) in
    IfTold-weaker (left c.args.source.now) (left c.next.new.source) _ _ (λ input rest whole. omega (arith, whole, full, told.limit, c.lines.invariant.limit))
    (serving-taken c.args.house.history c.lines.lines c.next.new.self.taken c.lines.house.history c.lines.desk.reader before now (left c.next.new.source) c.lines.invariant.serving told.taken)

pub returns-in-Err-ReadFault-clause-below_limit : goal.returns-in-Err-ReadFault-clause-below_limit
returns-in-Err-ReadFault-clause-below_limit g c = λ same.
    let left = g.R.Source.left in
    let before = outside (left c.args.source.now) (g.W.Sink.held c.args.sink.now) (g.C.Clock.may_have_told c.args.clock.now) in
    let now = outside (left c.lines.source) (g.W.Sink.held c.lines.sink) (g.C.Clock.may_have_told c.lines.clock) in
    let told = c.in-Err-ReadFault.ensures in
    let less = (told.read_fault (ap Err c.in-Err-ReadFault.field-0-is)).1 in
    IfTold-weaker (left c.args.source.now) (left c.next.new.source) _ _ (λ input rest whole. omega (arith, whole, less, told.limit, c.lines.invariant.limit))
    (serving-taken c.args.house.history c.lines.lines c.next.new.self.taken c.lines.house.history c.lines.desk.reader before now (left c.next.new.source) c.lines.invariant.serving told.taken)
