-- What holds of each legal history: what is posted and reported is right, and at each lawful outcome the vault covers what
-- all holdings are worth.
use Rattle.std.proofs.Common.{◌≡◌, ℕ, suc, ◌+◌, ◌*◌, ◌<◌, ◌≤◌, Bool, true, false, cond, List, [], ◌∷◌, ◌++◌, length, Option, Some, None, All, refl, sym, ap, subst, ◌∙◌, arith, length-append, append-nil, append_assoc}
use Rattle.std.specs.Prelude.{◌==◌, sum, slice_get, MatchOption}
use Rattle.std.proofs.lemmas.Bool.{eqb-true}
use Rattle.std.proofs.lemmas.List.Elements.{All-weaker}
use Rattle.std.proofs.lemmas.Option.{slice_get_within}
use Rattle.collection_keys.specs.Collections.{Pairs, part}
use Rattle.condition_table.specs.Conditions.{IsReport}
use Rattle.condition_table.specs.Shares.{weighted}
use Rattle.condition_table.specs.declared.facts.Facts.{Facts}
use Rattle.coverage_law.proofs.Needs.{paid-append, taken-append, paid-same, taken-same, paid-weighted, taken-weighted}
use Rattle.coverage_law.proofs.Weights.{weighted-le, weighted-sum, weighted-constant}
use Rattle.coverage_law.proofs.Worths.{prepared-worth, prepared-denominator, reported-worth, reported-denominator}
use Rattle.coverage_law.specs.Need.{paid_worth, taken_worth}
use Rattle.coverage_law.specs.Outcomes.{Outcome, with_slot}
use Rattle.coverage_law.specs.Worth.{Results, worth, denominator, prepared, reported}
use Rattle.ledger_book.specs.Postings.{IsFunded}
use Rattle.ledger_book.specs.declared.posting.Posting.{Posting}
use Rattle.settle_core.specs.Book.{Payouts, numerators_on}
use Rattle.settle_core.proofs.Known.{AreKnown, known-later, known-none}
use Rattle.settle_core.proofs.Lists.{holds-before}
use Rattle.settle_core.proofs.Orderly.{AreRight, numerators-more}

-- what is known of these conditions
abbrev pub known_of : List Facts → List Payouts → Results
known_of conditions reports = record { conditions = length conditions; numerators = numerators_on reports }

-- At an outcome all that was paid to accounts and out of the vault is worth at most what was taken and paid in.
abbrev pub IsPaidWithin : List Facts → List Payouts → List Posting → ℕ → ℕ → Outcome → Type 0
IsPaidWithin conditions reports ps paid_in paid_out outcome =
    let r = known_of conditions reports in
    paid_worth (worth r outcome) ps + paid_out * denominator r ≤ taken_worth (worth r outcome) ps + paid_in * denominator r

-- it is worth exactly that
abbrev pub IsPaidExactly : List Facts → List Payouts → List Posting → ℕ → ℕ → Outcome → Type 0
IsPaidExactly conditions reports ps paid_in paid_out outcome =
    let r = known_of conditions reports in
    paid_worth (worth r outcome) ps + paid_out * denominator r ≡ taken_worth (worth r outcome) ps + paid_in * denominator r

-- no position is below 0, what is posted is of prepared conditions, and the vault covers what is held at each outcome that is
-- lawful; before any report it is exactly that where it won
pub record IsSettled (conditions : List Facts) (reports : List Payouts) (ps : List Posting) (paid_in paid_out : ℕ) (IsOne HasWon : Outcome → Type 0) : Type 0 where
  pub above : IsFunded (λ a k. 0) ps
  pub known : AreKnown (length conditions) ps
  pub within : (outcome : Outcome) → IsOne outcome → IsPaidWithin conditions reports ps paid_in paid_out outcome
  pub exact : reports ≡ [] → (outcome : Outcome) → IsOne outcome → HasWon outcome → IsPaidExactly conditions reports ps paid_in paid_out outcome

-- ---- at the start

pub settled-start : (IsOne HasWon : Outcome → Type 0) → IsSettled [] [] [] 0 0 IsOne HasWon
unfolding paid_worth taken_worth
settled-start IsOne HasWon = record {
  above = λ a k. omega arith;
  known = known-none 0;
  within = λ outcome lawful. omega arith;
  exact = λ none outcome lawful won. refl;
}

-- ---- fewer outcomes

-- what holds at some outcomes holds at fewer
pub settled-fewer : (conditions : List Facts) (reports : List Payouts) (ps : List Posting) (paid_in paid_out : ℕ) (IsOne HasWon IsOne' HasWon' : Outcome → Type 0) → IsSettled conditions reports ps paid_in paid_out IsOne HasWon
    → ((outcome : Outcome) → IsOne' outcome → IsOne outcome) → ((outcome : Outcome) → HasWon' outcome → HasWon outcome) → IsSettled conditions reports ps paid_in paid_out IsOne' HasWon'
settled-fewer conditions reports ps paid_in paid_out IsOne HasWon IsOne' HasWon' so_far one won = record {
  above = so_far.above;
  known = so_far.known;
  within = λ outcome lawful. so_far.within outcome (one outcome lawful);
  exact = λ none outcome lawful wins. so_far.exact none outcome (one outcome lawful) (won outcome wins);
}

-- ---- a command that posts

-- sums of worth grow by what is posted
pub settled-posted : (conditions : List Facts) (reports : List Payouts) (ps qs : List Posting) (paid_in paid_out more_in more_out : ℕ) (IsOne HasWon : Outcome → Type 0) → IsSettled conditions reports ps paid_in paid_out IsOne HasWon
    → IsFunded (λ a k. 0) (ps ++ qs) → AreKnown (length conditions) (ps ++ qs)
    → ((outcome : Outcome) → IsOne outcome → IsPaidWithin conditions reports qs more_in more_out outcome)
    → (reports ≡ [] → (outcome : Outcome) → IsOne outcome → HasWon outcome → IsPaidExactly conditions reports qs more_in more_out outcome)
    → IsSettled conditions reports (ps ++ qs) (paid_in + more_in) (paid_out + more_out) IsOne HasWon
settled-posted conditions reports ps qs paid_in paid_out more_in more_out IsOne HasWon so_far above known within exact = record {
  above = above;
  known = known;
  within = λ outcome lawful.
      let v : Pairs → ℕ = worth (known_of conditions reports) outcome in
      omega (arith, so_far.within outcome lawful, within outcome lawful, paid-append v ps qs, taken-append v ps qs);
  exact = λ none outcome lawful won.
      let v : Pairs → ℕ = worth (known_of conditions reports) outcome in
      omega (arith, so_far.exact none outcome lawful won, exact none outcome lawful won, paid-append v ps qs, taken-append v ps qs);
}

-- ---- a condition is prepared

-- nothing is reported on a condition that isn't there
unreported : (conditions : List Facts) (reports : List Payouts) → AreRight conditions (numerators_on reports) → (o : Option (List ℕ)) → numerators_on reports (length conditions) ≡ o → o ≡ None
unreported conditions reports right None is = refl
unreported conditions reports right (Some ns) is =
    absurd (past (slice_get conditions (length conditions)) refl (right (length conditions) ns is))
  where
    past : (o : Option Facts) → slice_get conditions (length conditions) ≡ o → MatchOption o ⊥ (λ f. IsReport f.slots ns) → ⊥
    past None at right = right
    past (Some f) at right = absurd (omega (arith, slice_get_within conditions (length conditions) f at))

-- one condition more, on which nothing is reported
prepared-known : (conditions : List Facts) (f : Facts) (reports : List Payouts) → AreRight conditions (numerators_on reports) → known_of (conditions ++ f ∷ []) reports ≡ prepared (known_of conditions reports)
prepared-known conditions f reports right =
    let many : length (conditions ++ f ∷ []) ≡ suc (length conditions) = length-append conditions (f ∷ []) ∙ omega arith in
    let same : (c : ℕ) → numerators_on reports c ≡ cond (c == length conditions) None (numerators_on reports c) = λ c. each c (c == length conditions) refl in
    λ i. record { conditions = many i; numerators = λ c. same c i }
  where
    each : (c : ℕ) (b : Bool) → (c == length conditions) ≡ b → numerators_on reports c ≡ cond b None (numerators_on reports c)
    each c true is = ap (numerators_on reports) (eqb-true c (length conditions) is) ∙ unreported conditions reports right (numerators_on reports (length conditions)) refl
    each c false is = refl

pub settled-prepared : (conditions : List Facts) (reports : List Payouts) (ps : List Posting) (paid_in paid_out : ℕ) (IsOne HasWon : Outcome → Type 0) (f : Facts) → AreRight conditions (numerators_on reports)
    → IsSettled conditions reports ps paid_in paid_out IsOne HasWon → IsSettled (conditions ++ f ∷ []) reports ps paid_in paid_out IsOne HasWon
settled-prepared conditions reports ps paid_in paid_out IsOne HasWon f right so_far = record {
  above = so_far.above;
  known = known-later (length conditions) (length (conditions ++ f ∷ [])) ps (omega (arith, length-append conditions (f ∷ []))) so_far.known;
  within = λ outcome lawful.
      let so : IsPaidWithin conditions reports ps paid_in paid_out outcome = so_far.within outcome lawful in
      omega (arith, so, paid outcome, taken outcome, whole);
  exact = λ none outcome lawful won.
      let so : IsPaidExactly conditions reports ps paid_in paid_out outcome = so_far.exact none outcome lawful won in
      omega (arith, so, paid outcome, taken outcome, whole);
}
  where
    same : known_of (conditions ++ f ∷ []) reports ≡ prepared (known_of conditions reports)
    same = prepared-known conditions f reports right

    each : (outcome : Outcome) → All (λ p. worth (known_of (conditions ++ f ∷ []) reports) outcome p.collection ≡ worth (known_of conditions reports) outcome p.collection) ps
    each outcome =
        All-weaker (λ (p : Posting). (c : ℕ) → length conditions ≤ c → part p.collection c ≡ None) (λ (p : Posting). worth (known_of (conditions ++ f ∷ []) reports) outcome p.collection ≡ worth (known_of conditions reports) outcome p.collection)
        (λ p is. ap (λ r. worth r outcome p.collection) same ∙ prepared-worth (known_of conditions reports) outcome p.collection (is (length conditions) (omega arith))) ps so_far.known

    paid : (outcome : Outcome) → paid_worth (worth (known_of (conditions ++ f ∷ []) reports) outcome) ps ≡ paid_worth (worth (known_of conditions reports) outcome) ps
    paid outcome = paid-same (worth (known_of (conditions ++ f ∷ []) reports) outcome) (worth (known_of conditions reports) outcome) ps (each outcome)

    taken : (outcome : Outcome) → taken_worth (worth (known_of (conditions ++ f ∷ []) reports) outcome) ps ≡ taken_worth (worth (known_of conditions reports) outcome) ps
    taken outcome = taken-same (worth (known_of (conditions ++ f ∷ []) reports) outcome) (worth (known_of conditions reports) outcome) ps (each outcome)

    den : denominator (known_of (conditions ++ f ∷ []) reports) ≡ denominator (known_of conditions reports)
    den = ap denominator same ∙ prepared-denominator (known_of conditions reports)

    whole : (paid_in * denominator (known_of (conditions ++ f ∷ []) reports) ≡ paid_in * denominator (known_of conditions reports)) × (paid_out * denominator (known_of (conditions ++ f ∷ []) reports) ≡ paid_out * denominator (known_of conditions reports))
    whole = (ap (λ n. paid_in * n) den, ap (λ n. paid_out * n) den)

-- so are several
pub settled-all : (conditions : List Facts) (reports : List Payouts) (ps : List Posting) (paid_in paid_out : ℕ) (IsOne HasWon : Outcome → Type 0) (fs : List Facts) → AreRight conditions (numerators_on reports)
    → IsSettled conditions reports ps paid_in paid_out IsOne HasWon → IsSettled (conditions ++ fs) reports ps paid_in paid_out IsOne HasWon
settled-all conditions reports ps paid_in paid_out IsOne HasWon [] right so_far =
    subst (λ (cs : List Facts). IsSettled cs reports ps paid_in paid_out IsOne HasWon) (sym (append-nil conditions)) so_far
settled-all conditions reports ps paid_in paid_out IsOne HasWon (f ∷ fs) right so_far =
    subst (λ (cs : List Facts). IsSettled cs reports ps paid_in paid_out IsOne HasWon) (append_assoc conditions (f ∷ []) fs)
    (settled-all (conditions ++ f ∷ []) reports ps paid_in paid_out IsOne HasWon fs
    (λ c ns is. holds-before (λ (g : Facts). IsReport g.slots ns) conditions (f ∷ []) c (right c ns is))
    (settled-prepared conditions reports ps paid_in paid_out IsOne HasWon f right so_far))

-- ---- a report

-- a product in another order
turned : (x y z : ℕ) → x * (y * z) ≡ y * (x * z)
turned x y z = omega arith

reported-known : (conditions : List Facts) (reports : List Payouts) (c : ℕ) (ns : List ℕ) → numerators_on reports c ≡ None
    → known_of conditions (reports ++ record { condition = c; numerators = ns } ∷ []) ≡ reported (known_of conditions reports) c ns
reported-known conditions reports c ns none = λ i. record { conditions = length conditions; numerators = λ d. numerators-more reports c ns d none i }

-- something stands behind a list
not-none : {X : Type 0} (xs : List X) (x : X) → xs ++ x ∷ [] ≡ [] → ⊥
not-none xs x none = absurd (omega (arith, ap length none, length-append xs (x ∷ [])))

pub settled-reported : (conditions : List Facts) (reports : List Payouts) (ps : List Posting) (paid_in paid_out : ℕ) (IsOne HasWon : Outcome → Type 0) (c : ℕ) (f : Facts) (ns : List ℕ)
    → IsSettled conditions reports ps paid_in paid_out IsOne HasWon → slice_get conditions c ≡ Some f → numerators_on reports c ≡ None → IsReport f.slots ns
    → ((outcome : Outcome) (s : ℕ) → IsOne outcome → s < f.slots → IsOne (with_slot outcome c s))
    → IsSettled conditions (reports ++ record { condition = c; numerators = ns } ∷ []) ps paid_in paid_out IsOne HasWon
settled-reported conditions reports ps paid_in paid_out IsOne HasWon c f ns so_far at none is stays = record {
  above = so_far.above;
  known = so_far.known;
  within = λ outcome lawful.
      let each : weighted ns (λ s. paid outcome s + paid_out * den) ≤ weighted ns (λ s. taken outcome s + paid_in * den)
      = weighted-le ns (λ s. paid outcome s + paid_out * den) (λ s. taken outcome s + paid_in * den)
      (λ s inside. so_far.within (with_slot outcome c s) (stays outcome s lawful (omega (arith, inside, is.each)))) in
      omega (
        arith,
        each,
        weighted-sum ns (paid outcome) (λ s. paid_out * den),
        weighted-sum ns (taken outcome) (λ s. paid_in * den),
        weighted-constant ns (paid_out * den),
        weighted-constant ns (paid_in * den),
        all_paid outcome,
        all_taken outcome,
        parts paid_out,
        parts paid_in,
      );
  exact = λ nothing outcome lawful won. absurd (not-none reports (record { condition = c; numerators = ns }) nothing);
}
  where
    r : Results
    r = known_of conditions reports

    den : ℕ
    den = denominator r

    paid : Outcome → ℕ → ℕ
    paid outcome s = paid_worth (worth r (with_slot outcome c s)) ps

    taken : Outcome → ℕ → ℕ
    taken outcome s = taken_worth (worth r (with_slot outcome c s)) ps

    inside : c < length conditions
    inside = slice_get_within conditions c f at

    same : known_of conditions (reports ++ record { condition = c; numerators = ns } ∷ []) ≡ reported r c ns
    same = reported-known conditions reports c ns none

    value : (outcome : Outcome) → worth (known_of conditions (reports ++ record { condition = c; numerators = ns } ∷ [])) outcome ≡ (λ k. weighted ns (λ s. worth r (with_slot outcome c s) k))
    value outcome = ap (λ x. worth x outcome) same ∙ (λ i k. reported-worth r outcome k c ns inside none i)

    all_paid : (outcome : Outcome) → paid_worth (worth (known_of conditions (reports ++ record { condition = c; numerators = ns } ∷ [])) outcome) ps ≡ weighted ns (paid outcome)
    all_paid outcome = ap (λ v. paid_worth v ps) (value outcome) ∙ paid-weighted ns (λ s. worth r (with_slot outcome c s)) ps

    all_taken : (outcome : Outcome) → taken_worth (worth (known_of conditions (reports ++ record { condition = c; numerators = ns } ∷ [])) outcome) ps ≡ weighted ns (taken outcome)
    all_taken outcome = ap (λ v. taken_worth v ps) (value outcome) ∙ taken-weighted ns (λ s. worth r (with_slot outcome c s)) ps

    -- the same number of denominators, as often as all numerators say
    parts : (n : ℕ) → n * denominator (known_of conditions (reports ++ record { condition = c; numerators = ns } ∷ [])) ≡ sum ns * (n * den)
    parts n = ap (λ x. n * x) (ap denominator same ∙ reported-denominator r c ns inside none) ∙ turned n (sum ns) den
