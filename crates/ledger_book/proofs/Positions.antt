-- When two positions are the same, and what a posting moves at one.
use Rattle.std.proofs.Common.{◌≡◌, ℕ, Bool, true, false, refl, ap}
use Rattle.std.specs.Bool.{Decides}
use Rattle.std.specs.Prelude.{◌==◌, ◌&&◌, cond}
use Rattle.std.specs.Cmp.Lexicographic.{pointwise_decides}
use Rattle.std.proofs.lemmas.Bool.{and_parts, and_from, eqb-true, eq-eqb}
use Rattle.collection_keys.specs.Collections.{Pairs}
use Rattle.collection_keys.specs.Comparing.{same_pair, same_collection}
use Rattle.ledger_book.specs.Ledger.{Position, same_position}
use Rattle.ledger_book.specs.Postings.{paid_to_account, taken_from_account}
use Rattle.ledger_book.specs.declared.posting.Posting.{Posting}

pair_Decides : (p q : ℕ × ℕ) → Decides (same_pair p q) (p ≡ q)
pair_Decides p q = (
  λ h. let both = and_parts _ _ h in λ i. (eqb-true p.0 q.0 both.0 i, eqb-true p.1 q.1 both.1 i),
  λ e. and_from _ _ (eq-eqb p.0 q.0 (ap (λ (r : ℕ × ℕ). r.0) e)) (eq-eqb p.1 q.1 (ap (λ (r : ℕ × ℕ). r.1) e)),
)

-- collections are the same exactly where their pairs are
pub collection_Decides : (j k : Pairs) → Decides (same_collection j k) (j ≡ k)
collection_Decides j k = pointwise_decides pair_Decides j k

-- and positions
pub position_Decides : (p q : Position) → Decides (same_position p q) (p ≡ q)
position_Decides p q = (
  λ h. let both = and_parts _ _ h in λ i. (eqb-true p.0 q.0 both.0 i, (collection_Decides p.1 q.1).0 both.1 i),
  λ e. and_from _ _ (eq-eqb p.0 q.0 (ap (λ (r : Position). r.0) e)) ((collection_Decides p.1 q.1).1 (ap (λ (r : Position). r.1) e)),
)

-- the position of a posting
abbrev pub at : Posting → Position
at p = (p.account, p.collection)

nested : (c d : Bool) (m : ℕ) → cond c (cond d m 0) 0 ≡ cond (c && d) m 0
nested true d m = refl
nested false d m = refl

-- what a posting moves at a position, by whether that is its own
pub paid_here : (p : Posting) (a : ℕ) (k : Pairs) → paid_to_account a k p ≡ cond (same_position (at p) (a, k)) p.paid 0
paid_here p a k = nested (p.account == a) (same_collection p.collection k) p.paid

pub taken_here : (p : Posting) (a : ℕ) (k : Pairs) → taken_from_account a k p ≡ cond (same_position (at p) (a, k)) p.taken 0
taken_here p a k = nested (p.account == a) (same_collection p.collection k) p.taken
