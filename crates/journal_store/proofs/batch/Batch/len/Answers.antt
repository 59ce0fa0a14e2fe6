use Rattle.std.proofs.Common.{◌∙◌, sym, ap, length}
use Rattle.journal_store.proofs.Payloads.{length-payloads_in}
use Rattle.journal_store.proofs.batch.Batch.len.Goals as goal

pub returns-clause-value : goal.returns-clause-value
returns-clause-value c = sym (length-payloads_in c.self.inside.count _) ∙ ap length c.self.view_is
