use Rattle.std.proofs.Common.{sym, subst}
use Rattle.command_words.specs.Clock.{ListClockView, Counts}
use Rattle.command_words.proofs.Moments.{Counts-more}
use Rattle.command_words.proofs.clock.ListClockClock.now.Goals as goal

pub returns-clause-told : goal.returns-clause-told
returns-clause-told c =
    λ moments told.
    let counted = subst (λ (t : ListClockView). Counts t.first moments t.next) (sym c.self.view_is) told in
    rw c.saturating_add-self-inside.ensures (Counts-more c.self.inside.first moments c.self.inside.next counted)
