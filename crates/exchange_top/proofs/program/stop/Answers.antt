use Rattle.std.proofs.Common.{ℕ, List, ◌∙◌, sym, ap, subst}
use Rattle.std.specs.Io.KnownBytes.{Appends}
use Rattle.line_link.specs.Lines.{AppendsFront}
use Rattle.line_link.specs.declared.status.Status.{Status}
use Rattle.exchange_top.specs.EndText.{end_text}
use Rattle.exchange_top.specs.Run.{Says}
use Rattle.exchange_top.specs.declared.ended.Ended.{Ended}
use Rattle.exchange_top.proofs.Endings.{says-whole, says-cut}
use Rattle.exchange_top.proofs.program.stop.Goals as goal

pub returns-in-Ok-clause-says : goal.returns-in-Ok-clause-says
returns-in-Ok-clause-says g c =
    λ honest bytes stops.
    let text = c.as_slice.ensures ∙ (c.write_end.ensures ∙ ap end_text c.status-status.ensures) in
    let held = g.W.Sink.held in
    let all = subst (λ (text : List ℕ). Appends (held c.args.sink.now) (held c.write_all.new.sink) text) text c.in-Ok.ensures.ok in
    subst (λ (e : Ended g.row.D.Denot). Says e.status honest bytes (held c.args.sink.now) (held c.write_all.new.sink)) (sym c.unopened.ensures)
    (subst (λ (s : Status). Says s honest bytes (held c.args.sink.now) (held c.write_all.new.sink)) (sym c.status-status.ensures) (says-whole c.args.failed.why honest bytes (held c.args.sink.now) (held c.write_all.new.sink) all))

pub returns-clause-says : goal.returns-clause-says
returns-clause-says g c =
    λ honest bytes stops.
    let text = c.as_slice.ensures ∙ (c.write_end.ensures ∙ ap end_text c.status-status.ensures) in
    let held = g.W.Sink.held in
    let front = subst (λ (text : List ℕ). AppendsFront (held c.args.sink.now) (held c.write_all.new.sink) text) text c.in-Err.ensures.err in
    subst (λ (e : Ended g.row.D.Denot). Says e.status honest bytes (held c.args.sink.now) (held c.write_all.new.sink)) (sym c.unopened-in-Err.ensures)
    (says-cut c.args.failed.why honest bytes (held c.args.sink.now) (held c.write_all.new.sink) stops front)
