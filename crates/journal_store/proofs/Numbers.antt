-- Numbers of two and of four bytes, and the bytes that spell them.
use Rattle.std.proofs.Common.{◌≡◌, ℕ, ◌+◌, ◌*◌, ◌/◌, ◌%◌, ◌<◌, ◌≤◌, List, [], ◌∷◌, ◌++◌, sym, ap, arith, length, drop, get_or}
use Rattle.byteorder.specs.Endian.{big_bytes, big_number}

two : (a b n : ℕ) → a < 256 → b < 256 → n ≡ a * 256 + b → (n / 256 % 256) ∷ (n % 256) ∷ [] ≡ a ∷ b ∷ []
two a b n x y is =
    let first : n / 256 % 256 ≡ a = omega arith in
    let second : n % 256 ≡ b = omega arith in
    λ i. first i ∷ second i ∷ []

four : (a b c d n : ℕ) → a < 256 → b < 256 → c < 256 → d < 256 → n ≡ a * 16777216 + b * 65536 + c * 256 + d
    → (n / 16777216 % 256) ∷ (n / 65536 % 256) ∷ (n / 256 % 256) ∷ (n % 256) ∷ [] ≡ a ∷ b ∷ c ∷ d ∷ []
four a b c d n x y z w is =
    let first : n / 16777216 % 256 ≡ a = omega arith in
    let second : n / 65536 % 256 ≡ b = omega arith in
    let third : n / 256 % 256 ≡ c = omega arith in
    let fourth : n % 256 ≡ d = omega arith in
    λ i. first i ∷ second i ∷ third i ∷ fourth i ∷ []

pub spelt-two : (bytes : List ℕ) → ((i : ℕ) → get_or bytes i 0 < 256) → 2 ≤ length bytes → bytes ≡ big_bytes 2 (big_number 2 bytes) ++ drop 2 bytes
spelt-two [] small long = absurd (omega arith)
spelt-two (a ∷ []) small long = absurd (omega arith)
spelt-two (a ∷ b ∷ xs) small long =
    let e = two a b (big_number 2 (a ∷ b ∷ xs)) (small 0) (small 1) (omega arith) in
    ap (λ (ys : List ℕ). ys ++ xs) (sym e)

pub spelt-four : (bytes : List ℕ) → ((i : ℕ) → get_or bytes i 0 < 256) → 4 ≤ length bytes → bytes ≡ big_bytes 4 (big_number 4 bytes) ++ drop 4 bytes
spelt-four [] small long = absurd (omega arith)
spelt-four (a ∷ []) small long = absurd (omega arith)
spelt-four (a ∷ b ∷ []) small long = absurd (omega arith)
spelt-four (a ∷ b ∷ c ∷ []) small long = absurd (omega arith)
spelt-four (a ∷ b ∷ c ∷ d ∷ xs) small long =
    let e = four a b c d (big_number 4 (a ∷ b ∷ c ∷ d ∷ xs)) (small 0) (small 1) (small 2) (small 3) (omega arith) in
    ap (λ (ys : List ℕ). ys ++ xs) (sym e)
