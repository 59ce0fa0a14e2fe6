use Rattle.std.proofs.Common.{arith, sym}
use Rattle.std.proofs.lemmas.Bool.Decides.{Decides-eqb}
use Rattle.std.proofs.lemmas.Slice.Eq.{slice_eq-Decides}
use Rattle.journal_store.specs.Format.{header}
use Rattle.journal_store.proofs.opening.head_of.Goals as goal

pub returns-then-starts_with : goal.returns-then-starts_with
unfolding header
returns-then-starts_with c = (omega (arith, c.if-bytes-le17.false), sym ((slice_eq-Decides Decides-eqb _ _ _ c.starts_with.ensures.value).0 c.if-starts_with.true))

pub returns-else-starts_with : goal.returns-else-starts_with
unfolding header
returns-else-starts_with c = (
  omega (arith, c.if-bytes-le17.false),
  λ same. let yes = (slice_eq-Decides Decides-eqb _ _ _ c.starts_with.ensures.value).1 (sym same) in cc (yes, c.if-starts_with.false),
)
