-- How many positions have an amount that isn't 0.
use Rattle.std.specs.Prelude.{◌≡◌, ◌==◌, ℕ, suc, ◌+◌, ◌-◌, ◌<◌, ◌&&◌, ⊤, Bool, true, false, not, if◌then◌else◌, List, [], ◌∷◌, length}
use Rattle.std.specs.List.{list_any}
use Rattle.collection_keys.specs.Collections.{Pairs}
use Rattle.collection_keys.specs.Comparing.{same_collection}
use Rattle.ledger_book.specs.Naming.{is_change}
use Rattle.ledger_book.specs.Postings.{credits, debits}
use Rattle.ledger_book.specs.declared.posting.Posting.{Posting}

-- whether a position, an account and a collection, is among these
abbrev pub has_position : List (ℕ × Pairs) → ℕ → Pairs → Bool
has_position ps a k = list_any (λ p. (p.0 == a) && same_collection p.1 k) ps

-- none of these positions stands twice
abbrev pub PositionsApart : List (ℕ × Pairs) → Type 0
PositionsApart [] = ⊤
PositionsApart (p ∷ ps) = (has_position ps p.0 p.1 ≡ false) × PositionsApart ps

-- these are the positions of which an amount isn't 0, each once
pub record AreEntries (held : ℕ → Pairs → ℕ) (ps : List (ℕ × Pairs)) : Type 0 where
  pub apart : PositionsApart ps
  pub among : (a : ℕ) (k : Pairs) → 0 < held a k → has_position ps a k ≡ true
  pub each : (a : ℕ) (k : Pairs) → has_position ps a k ≡ true → 0 < held a k

-- so many positions have an amount that isn't 0
abbrev pub HasEntries : (ℕ → Pairs → ℕ) → ℕ → Type 0
HasEntries held n = (ps : List (ℕ × Pairs)) × AreEntries held ps × (length ps ≡ n)

-- what is held of a position after postings
abbrev pub held_after : (ℕ → Pairs → ℕ) → List Posting → ℕ → Pairs → ℕ
held_after held ps a k = (held a k + credits ps a k) - debits ps a k

-- whether a posting is to a position
abbrev pub is_to : Posting → Posting → Bool
is_to p q = (p.account == q.account) && same_collection p.collection q.collection

abbrev pub entries_among : List Posting → List Posting → ℕ
entries_among all [] = 0
entries_among all (p ∷ ps) = if is_change all p && not (list_any (is_to p) ps) then suc (entries_among all ps) else entries_among all ps

-- of how many positions postings leave an amount that isn't 0: a position counts at its last posting
abbrev pub entries_of : List Posting → ℕ
entries_of ps = entries_among ps ps
