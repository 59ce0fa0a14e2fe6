use Rattle.std.proofs.Common.{ℕ, ◌+◌, ◌≤◌, ◌∙◌, ap, arith, List, length, drop, ◌++◌, ◌∷◌, [], length-append}
use Rattle.journal_store.specs.Batches.{payloads_in}
use Rattle.journal_store.proofs.Payloads.{length-payloads_in}
use Rattle.journal_store.specs.Format.{batch_bytes, body}
use Rattle.journal_store.proofs.Sized.{body-within, length-batch}
use Rattle.journal_store.proofs.Ready.{bytes-of, bytes-more, ready, ready-payloads, fine-more}
use Rattle.journal_store.proofs.batch.Batch.push.Goals as goal

pub put-requires-clause-some : goal.put-requires-clause-some
put-requires-clause-some c =
    let ps = payloads_in c.self.inside.count (drop 4 c.self.inside.bytes.items) in
    grind (arith, ap length c.self.invariant.formed, length-append (batch_bytes ps) (0 ∷ []), length-batch ps)

pub put-requires-clause-most : goal.put-requires-clause-most
put-requires-clause-most c =
    let ps = payloads_in c.self.inside.count (drop 4 c.self.inside.bytes.items) in
    let few : c.self.inside.count + 1 ≤ 64 = omega (arith, length-payloads_in c.self.inside.count (drop 4 c.self.inside.bytes.items), ap length c.self.view_is, c.requires.room) in
    grind (arith, few, ap length c.self.invariant.formed, length-append (batch_bytes ps) (0 ∷ []), length-batch ps, body-within ps c.self.invariant.payloads, length-payloads_in c.self.inside.count (drop 4 c.self.inside.bytes.items), c.requires.payload.at_most)

pub invariant_of-self : goal.invariant_of-self
invariant_of-self c =
    let ps = payloads_in c.self.inside.count (drop 4 c.self.inside.bytes.items) in
    let long = length-payloads_in c.self.inside.count (drop 4 c.self.inside.bytes.items) in
    let bytes = bytes-more ps c.args.payload.now c.put.new.bytes.items (c.put.ensures.bytes (body ps) (bytes-of ps c.self.inside.bytes.items c.self.invariant.formed)) in
    ready (ps ++ c.args.payload.now ∷ []) c.put.new.bytes (c.self.inside.count + 1) (fine-more ps c.args.payload.now c.self.invariant.payloads c.requires.payload) (omega (arith, length-append ps (c.args.payload.now ∷ []), long)) (omega (arith, long, ap length c.self.view_is, c.requires.room)) bytes (omega (arith, c.put.ensures.room, c.self.invariant.room))

pub returns : goal.returns
returns c =
    let ps = payloads_in c.self.inside.count (drop 4 c.self.inside.bytes.items) in
    let long = length-payloads_in c.self.inside.count (drop 4 c.self.inside.bytes.items) in
    let bytes = bytes-more ps c.args.payload.now c.put.new.bytes.items (c.put.ensures.bytes (body ps) (bytes-of ps c.self.inside.bytes.items c.self.invariant.formed)) in
    ready-payloads (ps ++ c.args.payload.now ∷ []) c.put.new.bytes.items (c.self.inside.count + 1) (fine-more ps c.args.payload.now c.self.invariant.payloads c.requires.payload) (omega (arith, length-append ps (c.args.payload.now ∷ []), long)) bytes
    ∙ ap (λ (qs : List (List ℕ)). qs ++ c.args.payload.now ∷ []) c.self.view_is
