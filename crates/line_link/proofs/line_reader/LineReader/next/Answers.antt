-- The line in progress begins without bytes, and grows by what is pending until a newline or the end comes.
use Rattle.std.proofs.Common.{◌≡◌, ◌<◌, ◌+◌, length, List, ℕ, Result, Ok, Err, IfOk, OnOk, OnErr, sym, ap, subst, ◌∙◌, inl, inr, rules}
use Rattle.line_link.specs.declared.line_reader.Line.{Line}
use Rattle.line_link.specs.declared.line_reader.ReadEnd.{ReadEnd}
use Rattle.line_link.specs.LineReader.{heard, at_least, LengthensLine}
use Rattle.line_link.specs.Lines.{newlines}
use Rattle.line_link.proofs.Begun.{begun-on, takes-on, first-ended, first-last, no-line}
use Rattle.line_link.proofs.line_reader.LineReader.next.Goals as goal

-- a call that answers this answer, where it is Ok
if_ok : (r : Result Line ReadEnd) (begun : Line) (P : Line → Type 0) (some : Type 0) → IfOk r (λ told. told ≡ begun) → OnOk r some → (some → P begun) → IfOk r P
if_ok (Ok told) begun P some same has then = subst P (sym same) (then has)
if_ok (Err end) begun P some same has then = tt

on_err : {T E : Type 0} (r : Result T E) (P : Type 0) → P → OnErr r P
on_err (Ok x) P holds = tt
on_err (Err e) P holds = holds

pub loop-self-preserved : goal.loop-self-preserved
loop-self-preserved g c =
    let filled = c.in_ok-fill.ensures in
    let left = g.S.Source.left in
    let longer = c.take_part.ensures.open c.loop-self-test.true in
    let same = filled.rest.1 in
    record {
      begun = begun-on (left c.args.source.now) (left c.loop-self.source) (left c.fill.new.source) c.args.self.now.pending c.loop-self.self.pending c.fill.new.self.pending _ _
          c.loop-self.invariant.begun (subst (λ (text : List ℕ). LengthensLine (heard c.loop-self.line c.loop-self.self.text) c.loop-self.self.pending (heard c.take_part.new.line text)) (sym same) longer) filled.bytes.0;
      passed = inr (elim c.loop-self.invariant.passed [ inl first ↦ ap newlines (sym first) ∙ longer.is_part | inr none ↦ none ]);
      took = takes-on (left c.args.source.now) (left c.loop-self.source) (left c.fill.new.source) c.fill.new.self.pending _ c.loop-self.self.taken c.fill.new.self.taken
          c.loop-self.invariant.took filled.bytes.0 (filled.taken ∙ ap (λ n. n + length c.fill.new.self.pending) c.take_part.ensures.counts.0);
      no_text = λ is. same ∙ c.take_part.ensures.too_long is;
      progress = search rules;
      limit = search rules;
      within = search rules;
      never_falls = search rules;
      kept = search rules;
    }

pub returns-clause-line : goal.returns-clause-line
returns-clause-line g c =
    first-ended (g.S.Source.left c.args.source.now) (g.S.Source.left c.loop-self.source) c.args.self.now.pending c.loop-self.self.pending c.take_part.new.self.pending _ _
    c.loop-self.invariant.begun (c.take_part.ensures.ended c.loop-self-test.false)

pub returns-then-branch-eq0-clause-line : goal.returns-then-branch-eq0-clause-line
returns-then-branch-eq0-clause-line g c =
    let filled = c.in_ok-fill.ensures in
    let left = g.S.Source.left in
    let longer = c.take_part.ensures.open c.loop-self-test.true in
    let same = filled.rest.1 in
    if_ok c.last.result c.take_part.new.line _ (0 < at_least (heard c.take_part.new.line c.fill.new.self.text)) c.last.ensures.ok c.last.ensures.some (λ some.
    first-last (left c.args.source.now) (left c.loop-self.source) (left c.fill.new.source) c.args.self.now.pending c.loop-self.self.pending c.fill.new.self.pending _ _
    c.loop-self.invariant.begun (subst (λ (text : List ℕ). LengthensLine (heard c.loop-self.line c.loop-self.self.text) c.loop-self.self.pending (heard c.take_part.new.line text)) (sym same) longer) filled.bytes.0
    (sym filled.bytes.1 ∙ c.if-branch-eq0.true) (filled.end (ap (λ n. Ok n) c.if-branch-eq0.true)) some)

pub returns-in_err-fill-clause-none_taken : goal.returns-in_err-fill-clause-none_taken
returns-in_err-fill-clause-none_taken g c =
    let left = g.S.Source.left in
    let longer = c.take_part.ensures.open c.loop-self-test.true in
    on_err c.from_residual.result _ (no-line (left c.args.source.now) (left c.loop-self.source) (left c.fill.new.source) c.args.self.now.pending c.loop-self.self.pending _ _
    c.loop-self.invariant.begun longer c.in_err-fill.ensures.err.0)
