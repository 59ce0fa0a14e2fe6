use Rattle.std.proofs.Common.{◌∙◌, ap, arith, List, ℕ, ◌++◌, ◌∷◌, []}
use Rattle.journal_store.proofs.Ready.{ready-none}
use Rattle.journal_store.proofs.batch.Batch.clear.Goals as goal

pub invariant_of-self : goal.invariant_of-self
invariant_of-self c =
    ready-none c.append.new.bytes (c.append.ensures.bytes ∙ ap (λ (xs : List ℕ). xs ++ 0 ∷ 0 ∷ 0 ∷ 0 ∷ 0 ∷ []) c.clear.ensures.items) (omega (arith, c.append.ensures.room, c.clear.ensures.capacity, c.self.invariant.room))
