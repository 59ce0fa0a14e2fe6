use Rattle.std.proofs.Common.{arith, ap, length, drop, ◌∷◌, [], length-append}
use Rattle.journal_store.specs.Batches.{payloads_in}
use Rattle.journal_store.proofs.Payloads.{length-payloads_in}
use Rattle.journal_store.specs.Format.{batch_bytes}
use Rattle.journal_store.proofs.Sized.{body-within, length-batch}
use Rattle.journal_store.proofs.batch.Batch.as_slice.Goals as goal

pub returns-clause-within : goal.returns-clause-within
returns-clause-within c =
    let ps = payloads_in c.self.inside.count (drop 4 c.self.inside.bytes.items) in
    omega (arith, ap length c.as_slice.ensures.value, ap length c.self.invariant.formed, length-append (batch_bytes ps) (0 ∷ []), length-batch ps, body-within ps c.self.invariant.payloads, length-payloads_in c.self.inside.count (drop 4 c.self.inside.bytes.items), c.self.invariant.few)

pub returns-clause-few : goal.returns-clause-few
returns-clause-few c =
    omega (arith, length-payloads_in c.self.inside.count (drop 4 c.self.inside.bytes.items), ap length c.self.view_is, c.self.invariant.few)
