-- The number of positions that have an amount other than 0: that it is one number, and how it moves with a position.
use Rattle.std.proofs.Common.{◌≡◌, ℕ, ◌+◌, ◌<◌, ◌≤◌, List, [], ◌∷◌, Bool, true, false, length, refl, sym, ◌∙◌, ap, subst, arith, inl, inr}
use Rattle.std.specs.Prelude.{◌||◌, cond, nat_lt}
use Rattle.std.proofs.lemmas.Bool.{cases_Bool, cases_lt, cond_both, or_from, or_left, or_right}
use Rattle.std.proofs.lemmas.Bool.Decides.{nat_tests}
use Rattle.collection_keys.specs.Collections.{Pairs}
use Rattle.ledger_book.specs.Entries.{has_position, PositionsApart, HasEntries}
use Rattle.ledger_book.specs.Ledger.{Position, same_position}
use Rattle.ledger_book.proofs.Carried.{other_way}
use Rattle.ledger_book.proofs.Positions.{position_Decides, at}

or_later : (a b : Bool) → a ≡ false → (a || b) ≡ true → b ≡ true
or_later true b none there = cc
or_later false b none there = there

-- these without the first that is one position
abbrev removed : Position → List Position → List Position
removed q [] = []
removed q (p ∷ ps) = cond (same_position p q) ps (p ∷ removed q ps)

has-removed : (q : Position) (ps : List Position) (a : ℕ) (k : Pairs) → same_position q (a, k) ≡ false → has_position (removed q ps) a k ≡ has_position ps a k
has-removed q [] a k differ = refl
has-removed q (p ∷ ps) a k differ =
    cond_both (same_position p q) ps (p ∷ removed q ps) (λ (rest : List Position). has_position rest a k ≡ has_position (p ∷ ps) a k)
    (λ here.
    let none : same_position p (a, k) ≡ false = subst (λ (r : Position). same_position r (a, k) ≡ false) (sym ((position_Decides p q).0 here)) differ in
    sym (ap (λ b. b || has_position ps a k) none))
    (λ apart. ap (λ b. same_position p (a, k) || b) (has-removed q ps a k differ))

length-removed : (q : Position) (ps : List Position) → has_position ps q.0 q.1 ≡ true → length ps ≡ length (removed q ps) + 1
length-removed q [] there = cc
length-removed q (p ∷ ps) there =
    cond_both (same_position p q) ps (p ∷ removed q ps) (λ (rest : List Position). length (p ∷ ps) ≡ length rest + 1)
    (λ here. omega arith)
    (λ apart. omega (arith, length-removed q ps (or_later (same_position p q) (has_position ps q.0 q.1) apart there)))

apart-removed : (q : Position) (ps : List Position) → PositionsApart ps → PositionsApart (removed q ps)
apart-removed q [] apart = tt
apart-removed q (p ∷ ps) apart =
    cond_both (same_position p q) ps (p ∷ removed q ps) PositionsApart
    (λ here. apart.1)
    (λ differ. (has-removed q ps p.0 p.1 (other_way same_position position_Decides at p q differ) ∙ apart.0, apart-removed q ps apart.1))

removed-none : (q : Position) (ps : List Position) → PositionsApart ps → has_position (removed q ps) q.0 q.1 ≡ false
removed-none q [] apart = refl
removed-none q (p ∷ ps) apart =
    cond_both (same_position p q) ps (p ∷ removed q ps) (λ (rest : List Position). has_position rest q.0 q.1 ≡ false)
    (λ here. subst (λ (r : Position). has_position ps r.0 r.1 ≡ false) ((position_Decides p q).0 here) apart.0)
    (λ differ. or_from (same_position p q) (has_position (removed q ps) q.0 q.1) differ (removed-none q ps apart.1))

-- of positions that are apart there are no more than of those among which they are
no_more : (ps qs : List Position) → PositionsApart ps → ((a : ℕ) (k : Pairs) → has_position ps a k ≡ true → has_position qs a k ≡ true) → length ps ≤ length qs
no_more [] qs apart among = omega arith
no_more (p ∷ ps) qs apart among =
    let there : has_position qs p.0 p.1 ≡ true = among p.0 p.1 (or_left (same_position p p) (has_position ps p.0 p.1) ((position_Decides p p).1 refl)) in
    let rest : length ps ≤ length (removed p qs)
    = no_more ps (removed p qs) apart.1 (λ a k later.
    elim (cases_Bool (same_position p (a, k))) [
      | inl here ↦
          let none = subst (λ (r : Position). has_position ps r.0 r.1 ≡ false) ((position_Decides p (a, k)).0 here) apart.0 in
          cc
      | inr differ ↦ has-removed p qs a k differ ∙ among a k (or_right (same_position p (a, k)) (has_position ps a k) later)
    ]) in
    omega (arith, rest, length-removed p qs there)

-- there is one number of entries
pub one_number : (held : ℕ → Pairs → ℕ) (n m : ℕ) → HasEntries held n → HasEntries held m → n ≡ m
one_number held n m (ps, are, is) (qs, are-2, is-2) =
    omega (
      arith,
      is,
      is-2,
      no_more ps qs are.apart (λ a k there. are-2.among a k (are.each a k there)),
      no_more qs ps are-2.apart (λ a k there. are.among a k (are-2.each a k there)),
    )

-- amounts that are 0 at the same positions have as many entries
pub entries_same : (f g : ℕ → Pairs → ℕ) (n : ℕ) → ((a : ℕ) (k : Pairs) → 0 < f a k → 0 < g a k) → ((a : ℕ) (k : Pairs) → 0 < g a k → 0 < f a k)
    → HasEntries f n → HasEntries g n
entries_same f g n forth back (ps, are, is) = (
  ps,
  record { apart = are.apart; among = λ a k more. are.among a k (back a k more); each = λ a k there. forth a k (are.each a k there) },
  is,
)

pub entries_equal : (f g : ℕ → Pairs → ℕ) (n : ℕ) → ((a : ℕ) (k : Pairs) → g a k ≡ f a k) → HasEntries f n → HasEntries g n
entries_equal f g n equal = entries_same f g n (λ a k more. omega (arith, more, equal a k)) (λ a k more. omega (arith, more, equal a k))

-- where an amount isn't 0, there is an entry
pub entries_some : (f : ℕ → Pairs → ℕ) (n a : ℕ) (k : Pairs) → 0 < f a k → HasEntries f n → 0 < n
entries_some f n a k more ([], are, is) = let none = are.among a k more in cc
entries_some f n a k more (p ∷ ps, are, is) = omega (arith, is)

-- an amount comes to be other than 0
entries_born : (f g : ℕ → Pairs → ℕ) (n a : ℕ) (k : Pairs) → f a k ≡ 0 → 0 < g a k
    → ((b : ℕ) (j : Pairs) → same_position (a, k) (b, j) ≡ false → g b j ≡ f b j) → HasEntries f n → HasEntries g (n + 1)
entries_born f g n a k before after others (ps, are, is) = (
  (a, k) ∷ ps,
  record {
    apart = (
      elim (cases_Bool (has_position ps a k)) [
        | inl there ↦ absurd (omega (arith, are.each a k there, before))
        | inr none ↦ none
      ],
      are.apart,
    );
    among = λ b j more.
        elim (cases_Bool (same_position (a, k) (b, j))) [
          | inl here ↦ or_left (same_position (a, k) (b, j)) (has_position ps b j) here
          | inr differ ↦ or_right (same_position (a, k) (b, j)) (has_position ps b j) (are.among b j (omega (arith, more, others b j differ)))
        ];
    each = λ b j there.
        elim (cases_Bool (same_position (a, k) (b, j))) [
          | inl here ↦ subst (λ (q : Position). 0 < g q.0 q.1) ((position_Decides (a, k) (b, j)).0 here) after
          | inr differ ↦ omega (arith, others b j differ, are.each b j (or_later (same_position (a, k) (b, j)) (has_position ps b j) differ there))
        ];
  },
  omega (arith, is),
)

-- an amount comes to be 0
entries_gone : (f g : ℕ → Pairs → ℕ) (n a : ℕ) (k : Pairs) → 0 < f a k → g a k ≡ 0
    → ((b : ℕ) (j : Pairs) → same_position (a, k) (b, j) ≡ false → g b j ≡ f b j) → HasEntries f (n + 1) → HasEntries g n
entries_gone f g n a k before after others (ps, are, is) = (
  removed (a, k) ps,
  record {
    apart = apart-removed (a, k) ps are.apart;
    among = λ b j more.
        elim (cases_Bool (same_position (a, k) (b, j))) [
          | inl here ↦
              let none = subst (λ (q : Position). g q.0 q.1 ≡ 0) ((position_Decides (a, k) (b, j)).0 here) after in
              absurd (omega (arith, none, more))
          | inr differ ↦ has-removed (a, k) ps b j differ ∙ are.among b j (omega (arith, more, others b j differ))
        ];
    each = λ b j there.
        elim (cases_Bool (same_position (a, k) (b, j))) [
          | inl here ↦
              let none = subst (λ (q : Position). has_position (removed (a, k) ps) q.0 q.1 ≡ false) ((position_Decides (a, k) (b, j)).0 here) (removed-none (a, k) ps are.apart) in
              cc
          | inr differ ↦ omega (arith, others b j differ, are.each b j (sym (has-removed (a, k) ps b j differ) ∙ there))
        ];
  },
  omega (arith, is, length-removed (a, k) ps (are.among a k before)),
)

-- whether an amount is an entry
abbrev pub one : ℕ → ℕ
one x = cond (nat_lt 0 x) 1 0

-- where only one position changes, its entry alone comes or goes
pub entries_moved : (f g : ℕ → Pairs → ℕ) (n m a : ℕ) (k : Pairs)
    → ((b : ℕ) (j : Pairs) → same_position (a, k) (b, j) ≡ false → g b j ≡ f b j) → m + one (f a k) ≡ n + one (g a k) → HasEntries f n → HasEntries g m
entries_moved f g n m a k others step has =
    elim (cases_lt 0 (f a k)) [
      | inl before ↦
          elim (cases_lt 0 (g a k)) [
            | inl after ↦ to (grind (arith, nat_tests, before, after, step)) (still (λ more. after) (λ more. before))
            | inr none ↦ entries_gone f g m a k before (omega (arith, none)) others (from (grind (arith, nat_tests, before, none, step)))
          ]
      | inr before ↦
          elim (cases_lt 0 (g a k)) [
            | inl after ↦ to (grind (arith, nat_tests, before, after, step)) (entries_born f g n a k (omega (arith, before)) after others has)
            | inr none ↦ to (grind (arith, nat_tests, before, none, step)) (still (λ more. absurd (omega (arith, more, before))) (λ more. absurd (omega (arith, more, none))))
          ]
    ]
  where
    to : {i : ℕ} → i ≡ m → HasEntries g i → HasEntries g m
    to same there = subst (HasEntries g) same there

    from : n ≡ m + 1 → HasEntries f (m + 1)
    from same = subst (HasEntries f) same has

    still : (0 < f a k → 0 < g a k) → (0 < g a k → 0 < f a k) → HasEntries g n
    still forth back =
        entries_same f g n
        (λ b j more. elim (cases_Bool (same_position (a, k) (b, j))) [
          | inl here ↦ subst (λ (q : Position). 0 < f q.0 q.1 → 0 < g q.0 q.1) ((position_Decides (a, k) (b, j)).0 here) forth more
          | inr differ ↦ omega (arith, more, others b j differ)
        ])
        (λ b j more. elim (cases_Bool (same_position (a, k) (b, j))) [
          | inl here ↦ subst (λ (q : Position). 0 < g q.0 q.1 → 0 < f q.0 q.1) ((position_Decides (a, k) (b, j)).0 here) back more
          | inr differ ↦ omega (arith, more, others b j differ)
        ])
        has

-- nobody holds anything
pub entries_none : HasEntries (λ a k. 0) 0
entries_none = ([], record { apart = tt; among = λ a k more. absurd (omega (arith, more)); each = λ a k there. cc }, refl)
