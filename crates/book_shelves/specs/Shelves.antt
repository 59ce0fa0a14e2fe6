-- Offers and books: open orders by ascending numbers. This project's own.
use Rattle.std.specs.Prelude.{⊤, ℕ, ◌==◌, ◌<◌, ◌≤◌, not, List, [], ◌∷◌, All, filter, map}
use Rattle.book_shelves.specs.declared.offer.Offer.{Offer}

-- what contracts see of a book: the numbers of its orders, how many there may be, and how many more find room without
-- memory
pub record BookView : Type 0 where
  pub orders : List ℕ
  pub limit : ℕ
  pub room : ℕ

-- each number is below all behind it
abbrev pub IsAscending : List ℕ → Type 0
IsAscending [] = ⊤
IsAscending (n ∷ behind) = All (λ m. n < m) behind × IsAscending behind

-- the numbers of offers, in their order
abbrev pub numbers_of : List Offer → List ℕ
numbers_of offers = map (λ offer. offer.order) offers

-- the offers stand by ascending numbers, and of none more is left than its limit makes
pub record IsSnapshot (offers : List Offer) : Type 0 where
  pub ascends : IsAscending (numbers_of offers)
  pub within : All (λ offer. offer.rest ≤ offer.limit.making) offers

-- the orders but the one of this number, in their order
abbrev pub without : ℕ → List ℕ → List ℕ
without o orders = filter (λ n. not (n == o)) orders
