use Rattle.act_bytes.proofs.Unique.{one-act}
use Rattle.act_bytes.proofs.laws.one_act.Goals as goal

pub returns : goal.returns
returns c = one-act
