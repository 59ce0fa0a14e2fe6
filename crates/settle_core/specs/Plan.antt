-- What contracts see of a plan.
use Rattle.std.specs.Prelude.{Option}
use Rattle.command_words.specs.declared.act.Act.{Act}
use Rattle.settle_core.specs.declared.changes.Changes.{Changes}

-- the act to be, the copy of it until that is taken, and the changes that it makes with the reply to it
pub record PlanView : Type 0 where
  pub act : Act
  pub copy : Option Act
  pub changes : Changes
