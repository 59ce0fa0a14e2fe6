use Rattle.std.proofs.Common.{arith, ap, ◌∙◌, take, drop}
use Rattle.std.proofs.lemmas.List.{take_rest}
use Rattle.journal_store.proofs.Cutting.{payload-number, payload-room, cut-payload}
use Rattle.journal_store.proofs.payload.split_payload.Goals as goal
use Rattle.journal_store.proofs.payload.split_payload.Goals.{then-size-eq0-via-then-size-eq0, then-size-eq0-via-else-size-eq0+then-size-gt-MAX_PAYLOAD, then-size-eq0-via-else-size-eq0+else-size-gt-MAX_PAYLOAD+then-bytes-size}

pub returns-then-bytes-lt2-clause-none : goal.returns-then-bytes-lt2-clause-none
returns-then-bytes-lt2-clause-none c = λ p us is are. omega (arith, payload-room c.args.bytes.now p us are)

pub returns-then-size-eq0-clause-none : goal.returns-then-size-eq0-clause-none
returns-then-size-eq0-clause-none c = λ p us is are.
    let room = payload-room c.args.bytes.now p us are in
    let number = payload-number c.args.bytes.now p us is are in
    elim c.then-size-eq0.branch [
      | then-size-eq0-via-then-size-eq0 w ↦ grind (arith, room, number, is.at_least, is.at_most, w.if-size-eq0.true)
      | then-size-eq0-via-else-size-eq0+then-size-gt-MAX_PAYLOAD w ↦ grind (arith, room, number, is.at_least, is.at_most)
      | then-size-eq0-via-else-size-eq0+else-size-gt-MAX_PAYLOAD+then-bytes-size w ↦ grind (arith, room, number, is.at_least, is.at_most)
    ]

pub returns-clause-bytes : goal.returns-clause-bytes
returns-clause-bytes c =
    cut-payload c.args.bytes.now _ _ c.first_u16-size.result (λ i. omega (arith, c.type_inv.bytes i)) (omega (arith, c.first_u16-size.ensures)) (omega (arith, c.if-bytes-size.false, c.if-bytes-lt2.false)) (c.split_at.ensures.front ∙ ap (take c.first_u16-size.result) (take_rest c.args.bytes.now 2))
    (c.split_at.ensures.back ∙ ap (drop c.first_u16-size.result) (take_rest c.args.bytes.now 2))
