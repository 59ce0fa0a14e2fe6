use Rattle.report_redeem.proofs.Again.{named_again-paid}
use Rattle.report_redeem.proofs.laws.named_again_pays_nothing.Goals as goal

pub returns : goal.returns
returns c held a parent k ns sets i j set free = named_again-paid held a parent k ns set free sets i j
