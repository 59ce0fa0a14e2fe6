use Rattle.line_link.proofs.FirstLines.{first-heard}
use Rattle.line_link.proofs.laws.first_is_heard_first.Goals as goal

pub returns : goal.returns
returns c = first-heard
