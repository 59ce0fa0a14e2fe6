use Rattle.act_bytes.proofs.Unique.{one-spelling}
use Rattle.act_bytes.proofs.laws.one_spelling.Goals as goal

pub returns : goal.returns
returns c = one-spelling
