use Rattle.std.proofs.Common.{◌≡◌, ℕ, zero, suc, ◌+◌, Option, None, Some, get_or, replicate, refl, arith}
use Rattle.order_table.proofs.Counting.{counted-new, has_count-new}
use Rattle.order_table.proofs.orders.Orders.new.Goals as goal

-- a clone of none is none
only-none : (Q : Option ℕ → Type 0) → ((n : ℕ) → Q (Some n) → ⊥) → (y : Option ℕ) → Q y → y ≡ None
only-none Q none None is = refl
only-none Q none (Some n) is = absurd (none n is)

-- each of so many equal items
each-same : {X : Type 0} (x : X) (n i : ℕ) → get_or (replicate n x) i x ≡ x
each-same x zero i = refl
each-same x (suc n) zero = refl
each-same x (suc n) (suc i) = each-same x n i

pub invariant_of-result : goal.invariant_of-result
invariant_of-result c =
    let counts : c.in_ok-counts.counts.items ≡ replicate (c.from.result + 1) None = c.in_ok-counts.ensures.items_if_clones_equal (only-none _ (λ n is. is)) in
    let nonces : c.in_ok-nonces.nonces.items ≡ replicate 65_536 0 = c.in_ok-nonces.ensures.items_if_clones_equal (λ y same. same) in (
      omega (arith, c.new.ensures.len),
      omega (arith, c.in_ok-counts.ensures.len, c.from.ensures),
      c.in_ok-nonces.ensures.len,
      rw (c.new.ensures.items, counts) (counted-new (c.from.result + 1) c.args.limit),
      λ a. let none : ℕ = 0 in rw (nonces, each-same none 65_536 a) (omega arith),
    )

pub returns-clause-markets : goal.returns-clause-markets
returns-clause-markets c = λ d.
    let counts : c.in_ok-counts.counts.items ≡ replicate (c.from.result + 1) None = c.in_ok-counts.ensures.items_if_clones_equal (only-none _ (λ n is. is)) in
    rw counts (has_count-new (c.from.result + 1) d)

pub returns-clause-nonces : goal.returns-clause-nonces
returns-clause-nonces c = λ a.
    let nonces : c.in_ok-nonces.nonces.items ≡ replicate 65_536 0 = c.in_ok-nonces.ensures.items_if_clones_equal (λ y same. same) in
    rw nonces (each-same 0 65_536 a)
