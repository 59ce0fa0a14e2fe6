-- Nonces stay within their highest.
use Rattle.std.proofs.Common.{◌≡◌, ℕ, zero, suc, ◌<◌, ◌≤◌, List, [], ◌∷◌, length, get_or, arith}
use Rattle.std.specs.Prelude.{slice_set}
use Rattle.order_table.specs.Counts.{AreWithin}
use Rattle.order_table.specs.declared.orders.TheConstants.{MAX_NONCE}

-- what is read at a place is what stands there, whatever is read past the end
pub read-nonce : (nonces : List ℕ) (a n : ℕ) → n ≡ get_or nonces a n → a < length nonces → n ≡ get_or nonces a 0
read-nonce [] a n is inside = absurd (omega (arith, inside))
read-nonce (x ∷ xs) zero n is inside = is
read-nonce (x ∷ xs) (suc a) n is inside = read-nonce xs a n is (omega (arith, inside))

-- one that is within can be put anywhere
nonce-set : (nonces : List ℕ) (a n b : ℕ) → n ≤ MAX_NONCE → ((c : ℕ) → get_or nonces c 0 ≤ MAX_NONCE) → get_or (slice_set nonces a n) b 0 ≤ MAX_NONCE
nonce-set [] a n b most so_far = so_far b
nonce-set (x ∷ xs) zero n zero most so_far = most
nonce-set (x ∷ xs) zero n (suc b) most so_far = so_far (suc b)
nonce-set (x ∷ xs) (suc a) n zero most so_far = so_far 0
nonce-set (x ∷ xs) (suc a) n (suc b) most so_far = nonce-set xs a n b most (λ c. so_far (suc c))

pub within-set : (nonces : List ℕ) (a n : ℕ) → n ≤ MAX_NONCE → AreWithin nonces → AreWithin (slice_set nonces a n)
within-set nonces a n most so_far = λ b. nonce-set nonces a n b most so_far
