use Rattle.std.proofs.Common.{◌∙◌, ap, arith, List, ℕ, ◌++◌, ◌∷◌, []}
use Rattle.journal_store.proofs.Ready.{ready-none}
use Rattle.journal_store.proofs.batch.Batch.new.Goals as goal

pub invariant_of-result : goal.invariant_of-result
invariant_of-result c =
    ready-none c.append.new.bytes (c.append.ensures.bytes ∙ ap (λ (xs : List ℕ). xs ++ 0 ∷ 0 ∷ 0 ∷ 0 ∷ 0 ∷ []) c.in_ok-bytes.ensures.items) (omega (arith, c.append.ensures.room, c.in_ok-bytes.ensures.capacity))
