-- Amounts of which those are changed already that some postings are to, and how many of them aren't 0.
use Rattle.std.proofs.Common.{◌≡◌, ℕ, ◌+◌, ◌-◌, ◌<◌, ◌≤◌, List, [], ◌∷◌, Bool, true, false, length, take, get_or, suc, refl, sym, ◌∙◌, ap, subst, arith, inl, inr}
use Rattle.std.specs.Prelude.{◌==◌, ◌&&◌, ◌||◌, cond, not}
use Rattle.std.proofs.lemmas.Bool.{cases_Bool, cond-true, cond-false}
use Rattle.std.proofs.lemmas.Bool.Decides.{nat_tests}
use Rattle.collection_keys.specs.Collections.{Pairs}
use Rattle.ledger_book.specs.Entries.{HasEntries, held_after, entries_among, entries_of}
use Rattle.ledger_book.specs.Ledger.{Position, same_position}
use Rattle.ledger_book.specs.Naming.{is_change}
use Rattle.ledger_book.specs.Postings.{credits, debits, IsFunded}
use Rattle.ledger_book.specs.declared.posting.Posting.{Posting}
use Rattle.ledger_book.proofs.Carried.{seen, seen_more, seen_here, other_way}
use Rattle.ledger_book.proofs.Counted.{one, entries_equal, entries_moved, entries_none}
use Rattle.ledger_book.proofs.Movements.{nothing_at}
use Rattle.ledger_book.proofs.Positions.{position_Decides, at}

-- whether one of these postings is to a position
abbrev pub is_among : List Posting → Position → Bool
is_among ps q = seen same_position position_Decides at ps q

-- the new amount of a position that one of these postings is to, and the old one of any other
abbrev pub mixed : (ℕ → Pairs → ℕ) → (ℕ → Pairs → ℕ) → List Posting → ℕ → Pairs → ℕ
mixed old new front a k = cond (is_among front (a, k)) (new a k) (old a k)

-- a posting to a position that was among them before changes nothing
pub mixed_again : (old new : ℕ → Pairs → ℕ) (ps : List Posting) (i : ℕ) (p : Posting) (n : ℕ) → i < length ps → p ≡ get_or ps i p
    → is_among (take i ps) (at p) ≡ true → HasEntries (mixed old new (take i ps)) n → HasEntries (mixed old new (take (i + 1) ps)) n
mixed_again old new ps i p n below is before has =
    entries_equal (mixed old new (take i ps)) (mixed old new (take (i + 1) ps)) n
    (λ a k. elim (cases_Bool (same_position (at p) (a, k))) [
      | inl here ↦
          let both = subst (λ (q : Position). is_among (take (i + 1) ps) q ≡ is_among (take i ps) q) ((position_Decides (at p) (a, k)).0 here)
          (seen_here same_position position_Decides at ps i p below is ∙ sym before) in
          ap (λ b. cond b (new a k) (old a k)) both
      | inr differ ↦ ap (λ b. cond b (new a k) (old a k)) (sym (seen_more same_position position_Decides at ps i p (a, k) below is differ))
    ])
    has

-- the first posting to a position changes that one
pub mixed_first : (old new : ℕ → Pairs → ℕ) (ps : List Posting) (i : ℕ) (p : Posting) (n m : ℕ) → i < length ps → p ≡ get_or ps i p
    → is_among (take i ps) (at p) ≡ false → m + one (old p.account p.collection) ≡ n + one (new p.account p.collection)
    → HasEntries (mixed old new (take i ps)) n → HasEntries (mixed old new (take (i + 1) ps)) m
mixed_first old new ps i p n m below is before step has =
    let was = cond-false (is_among (take i ps) (at p)) (new p.account p.collection) (old p.account p.collection) before in
    let comes = cond-true (is_among (take (i + 1) ps) (at p)) (new p.account p.collection) (old p.account p.collection) (seen_here same_position position_Decides at ps i p below is) in
    entries_moved (mixed old new (take i ps)) (mixed old new (take (i + 1) ps)) n m p.account p.collection
    (λ a k differ. ap (λ b. cond b (new a k) (old a k)) (sym (seen_more same_position position_Decides at ps i p (a, k) below is differ)))
    (omega (arith, step, ap one was, ap one comes))
    has

-- what a position has that none of these postings is to
pub mixed_not_yet : (old new : ℕ → Pairs → ℕ) (front : List Posting) (a : ℕ) (k : Pairs) → is_among front (a, k) ≡ false → mixed old new front a k ≡ old a k
mixed_not_yet old new front a k before = cond-false (is_among front (a, k)) (new a k) (old a k) before

-- when all postings are through, each amount is the new one
pub mixed_whole : (held : ℕ → Pairs → ℕ) (ps : List Posting) (n : ℕ) → HasEntries (mixed held (held_after held ps) ps) n → HasEntries (held_after held ps) n
mixed_whole held ps n has =
    entries_equal (mixed held (held_after held ps) ps) (held_after held ps) n
    (λ a k. elim (cases_Bool (is_among ps (a, k))) [
      | inl there ↦ sym (cond-true (is_among ps (a, k)) (held_after held ps a k) (held a k) there)
      | inr absent ↦
          let none = nothing_at ps a k absent in
          let left : held_after held ps a k ≡ held a k = omega (arith, none.0, none.1) in
          left ∙ sym (cond-false (is_among ps (a, k)) (held_after held ps a k) (held a k) absent)
    ])
    has

abbrev nobody : ℕ → Pairs → ℕ
nobody a k = 0

abbrev net : List Posting → ℕ → Pairs → ℕ
net ps a k = credits ps a k - debits ps a k

counted_by : (change later : Bool) (n : ℕ) → cond (change && not later) (suc n) n ≡ cond later n (cond change (suc n) n)
counted_by true true n = refl
counted_by true false n = refl
counted_by false true n = refl
counted_by false false n = refl

one_by : (c d n : ℕ) → d ≤ c → cond (not (c == d)) (suc n) n ≡ n + one (c - d)
one_by c d n more = grind (arith, nat_tests, more)

counted_from : (all ps : List Posting) → IsFunded nobody all → HasEntries (mixed nobody (net all) ps) (entries_among all ps)
counted_from all [] funded = entries_none
counted_from all (p ∷ ps) funded =
    let f = mixed nobody (net all) ps in
    let g = mixed nobody (net all) (p ∷ ps) in
    let n = entries_among all ps in
    let rest : HasEntries f n = counted_from all ps funded in
    let by = counted_by (is_change all p) (is_among ps (at p)) n in
    let others : (a : ℕ) (k : Pairs) → same_position (at p) (a, k) ≡ false → g a k ≡ f a k
    = λ a k differ. ap (λ b. cond (b || is_among ps (a, k)) (net all a k) 0) (other_way same_position position_Decides at (at p) (a, k) differ) in
    let here : g p.account p.collection ≡ net all p.account p.collection
    = ap (λ b. cond (b || is_among ps (at p)) (net all p.account p.collection) 0) ((position_Decides (at p) (at p)).1 refl) in
    let more : debits all p.account p.collection ≤ credits all p.account p.collection = omega (arith, funded p.account p.collection) in
    elim (cases_Bool (is_among ps (at p))) [
      | inl later ↦
          let was : f p.account p.collection ≡ net all p.account p.collection = cond-true (is_among ps (at p)) (net all p.account p.collection) 0 later in
          entries_moved f g n (entries_among all (p ∷ ps)) p.account p.collection others
          (omega (arith, ap one was, ap one here, by ∙ cond-true (is_among ps (at p)) n (cond (is_change all p) (suc n) n) later)) rest
      | inr last ↦
          let was : f p.account p.collection ≡ 0 = cond-false (is_among ps (at p)) (net all p.account p.collection) 0 last in
          entries_moved f g n (entries_among all (p ∷ ps)) p.account p.collection others
          (omega (
            arith,
            ap one was,
            ap one here,
            by ∙ cond-false (is_among ps (at p)) n (cond (is_change all p) (suc n) n) last,
            one_by (credits all p.account p.collection) (debits all p.account p.collection) n more,
          )) rest
    ]

-- what postings leave where nobody held anything
pub counted_whole : (ps : List Posting) → IsFunded nobody ps → HasEntries (net ps) (entries_of ps)
counted_whole ps funded =
    entries_equal (mixed nobody (net ps) ps) (net ps) (entries_of ps)
    (λ a k. elim (cases_Bool (is_among ps (a, k))) [
      | inl there ↦ sym (cond-true (is_among ps (a, k)) (net ps a k) 0 there)
      | inr absent ↦
          let none = nothing_at ps a k absent in
          let left : net ps a k ≡ 0 = omega (arith, none.0, none.1) in
          left ∙ sym (cond-false (is_among ps (a, k)) (net ps a k) 0 absent)
    ])
    (counted_from ps ps funded)
