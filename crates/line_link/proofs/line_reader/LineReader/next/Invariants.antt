-- What was pending and left at the call is the line in progress, and then what is pending and left now.
use Rattle.std.proofs.Common.{◌≡◌, ◌⊎◌, ◌+◌, ◌-◌, ◌≤◌, ◌++◌, []}
use Rattle.outside_faults.specs.Told.{IfTold}
use Rattle.line_link.specs.LineReader.{heard, at_least, untold, Takes}
use Rattle.line_link.specs.Lines.{newlines}
use Rattle.line_link.specs.declared.line_reader.Line.TheVariants.{TooLong}
use Rattle.line_link.proofs.Begun.{HasBegun}
use Rattle.line_link.proofs.line_reader.LineReader.next.Given as goal

abbrev pub invariant-loop-self : goal.invariant-loop-self
invariant-loop-self g l = record {
  begun : IfTold (g.S.Source.left l.fn.source) (g.S.Source.left l.source) (λ before after.
      HasBegun (l.fn.self.pending ++ before) (heard l.line l.self.text) (l.self.pending ++ after));
  passed : (l.self.pending ≡ l.fn.self.pending) ⊎ (newlines l.fn.self.pending ≡ 0);
  took : IfTold (g.S.Source.left l.fn.source) (g.S.Source.left l.source) (Takes l.fn.self.taken l.self.taken);
  no_text : l.line ≡ TooLong → l.self.text ≡ [];
  progress : untold l.self + at_least (heard l.line l.self.text) ≤ untold l.fn.self;
  limit : l.self.limit ≡ l.fn.self.limit;
  within : l.self.taken ≤ l.self.limit;
  never_falls : g.S.Source.read_faults l.fn.source ≤ g.S.Source.read_faults l.source;
  kept : g.S.Source.kept_by_read l.source ≡ g.S.Source.kept_by_read l.fn.source;
}

-- each turn takes a byte of the source
abbrev pub decreases-loop-self : goal.decreases-loop-self
decreases-loop-self g l = l.self.limit - l.self.taken
