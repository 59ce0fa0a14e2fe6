-- What a legal history keeps of its markets and orders: each market is of a prepared condition of two slots, and each order
-- of a market, with a fee's rate.
use Rattle.std.proofs.Common.{◌≡◌, ℕ, ◌≤◌, Bool, true, false, List, [], ◌∷◌, ◌++◌, length, Option, Some, None, All, refl, sym, subst, ◌∙◌, arith, inl, inr}
use Rattle.std.specs.Prelude.{◌==◌, ◌||◌, ◌&&◌, not, nat_le, slice_get, MatchOption}
use Rattle.std.specs.List.{list_any}
use Rattle.std.proofs.lemmas.Bool.{and_parts, cases_Bool, eqb-true}
use Rattle.std.proofs.lemmas.Bool.Decides.{nat_tests}
use Rattle.std.proofs.lemmas.List.Elements.{All-append, All-cons, All-nil, All-weaker}
use Rattle.std.proofs.lemmas.Option.{slice_get_cases}
use Rattle.command_words.proofs.Acts.{act-ranges}
use Rattle.command_words.specs.Command.{in_ranges}
use Rattle.command_words.specs.declared.act.Act.{Act}
use Rattle.command_words.specs.declared.command.Command.{Command}
use Rattle.command_words.specs.declared.command.Command.TheVariants.{Market, Place}
use Rattle.command_words.specs.Ranges.{is_amount, is_byte, is_condition}
use Rattle.command_words.specs.declared.ranges.TheConstants.{MAX_NUMBER, MAX_ORDER_FEE}
use Rattle.condition_sets.specs.declared.amount.TheConstants.{MAX_AMOUNT}
use Rattle.condition_table.specs.declared.facts.Facts.{Facts}
use Rattle.fee_rules.specs.declared.fees.TheConstants.{MAX_RATE}
use Rattle.order_table.specs.declared.order.Placed.{Placed}
use Rattle.settle_core.specs.Book.{conditions, events, prepared_by}
use Rattle.settle_core.specs.Bounds.{Bounds}
use Rattle.settle_core.specs.Legal.{IsAccepted, IsLegal}
use Rattle.settle_core.specs.Orders.{is_market, opened_by, placed}
use Rattle.settle_core.specs.Placing.{placed_by}
use Rattle.settle_core.specs.Refusals.{Question, isnt_two}
use Rattle.settle_core.specs.Verdict.{question_of}
use Rattle.settle_core.proofs.Histories.{conditions-more, market-more, placed-more}
use Rattle.settle_core.proofs.Inductions.{legal-all}
use Rattle.settle_core.proofs.Lists.{holds-before}
use Rattle.settle_core.proofs.Verdicts.{AreNone, earlier, earlier-none, accepted-open_market, accepted-prepared, accepted-proper}

-- a condition of two slots
abbrev pub HasTwoSlots : List Facts → ℕ → Type 0
HasTwoSlots prepared c = MatchOption (slice_get prepared c) ⊥ (λ f. f.slots ≡ 2)

-- an order of a market, with amounts and a rate
pub record IsOfMarket (history : List Act) (order : Placed) : Type 0 where
  pub market : is_market history order.market ≡ true
  pub making : 1 ≤ order.limit.making
  pub taking : 1 ≤ order.limit.taking
  pub rate : order.rate ≤ MAX_RATE

pub record AreTraded (history : List Act) : Type 0 where
  pub markets : (c : ℕ) → is_market history c ≡ true → HasTwoSlots (conditions history) c
  pub orders : All (IsOfMarket history) (placed history)

-- ---- one act more

or-left : (a b : Bool) → a ≡ true → (a || b) ≡ true
or-left true b e = refl
or-left false b e = cc

or-right : (a b : Bool) → a ≡ false → (a || b) ≡ true → b ≡ true
or-right true b e either = cc
or-right false b e either = either

not-not : (b : Bool) → not b ≡ false → b ≡ true
not-not true e = refl
not-not false e = cc

-- a market that is opened is of a condition of two slots
opened-two : (limits : Bounds) (history : List Act) (account moment : ℕ) (command : Command) → AreNone (earlier (question_of limits history (record { account = account; command = command; moment = moment })))
    → (c : ℕ) → list_any (λ market. market == c) (opened_by command) ≡ true → HasTwoSlots (conditions history) c
opened-two limits history account moment (Market condition) none c opens =
    let q : Question = question_of limits history (record { account = account; command = Market condition; moment = moment }) in
    let same : condition ≡ c = eqb-true condition c (first (condition == c) opens) in
    subst (λ (d : ℕ). HasTwoSlots (conditions history) d) same (by (slice_get (conditions history) condition) refl (accepted-prepared q none) (accepted-proper q none))
  where
    first : (b : Bool) → (b || false) ≡ true → b ≡ true
    first true e = refl
    first false e = cc

    by : (o : Option Facts) → slice_get (conditions history) condition ≡ o → nat_le (length (conditions history)) condition ≡ false → isnt_two o ≡ false → MatchOption o ⊥ (λ f. f.slots ≡ 2)
    by None at there two = elim ((slice_get_cases (conditions history) condition).1) [
      | inl found ↦ absurd (clash (sym at ∙ found.2))
      | inr past ↦ absurd (grind (arith, nat_tests, there, past.0))
    ]
      where
        clash : {x : Facts} → ◌≡◌ {A = Option Facts} None (Some x) → ⊥
        clash e = cc
    by (Some f) at there two = eqb-true f.slots 2 (not-not (f.slots == 2) two)
opened-two limits history account moment command none c opens = cc

-- an order that is placed is of a market
placed-market : (limits : Bounds) (history : List Act) (account moment : ℕ) (command : Command) → in_ranges command ≡ true → AreNone (earlier (question_of limits history (record { account = account; command = command; moment = moment })))
    → All (IsOfMarket history) (placed_by account command)
placed-market limits history account moment (Place market set side making taking expires nonce fee) ranges none =
    let q : Question = question_of limits history (record { account = account; command = Place market set side making taking expires nonce fee; moment = moment }) in
    All-cons (IsOfMarket history) _ [] (record { market = not-not (is_market history market) (accepted-open_market q none); making = (amounts ranges).0; taking = (amounts ranges).1; rate = (amounts ranges).2 }) (All-nil (IsOfMarket history))
  where
    some : (n : ℕ) → is_amount n ≡ true → 1 ≤ n
    some n range =
        let least : nat_le 1 n ≡ true = (and_parts (nat_le 1 n) (nat_le n MAX_AMOUNT) range).0 in
        grind (arith, nat_tests, least)

    amounts : in_ranges (Place market set side making taking expires nonce fee) ≡ true → (1 ≤ making) × (1 ≤ taking) × (fee ≤ MAX_RATE)
    amounts ranges =
        let one = (and_parts (is_condition market) (is_byte set && (is_amount making && (is_amount taking && (nat_le expires MAX_NUMBER && (nat_le nonce MAX_NUMBER && nat_le fee MAX_ORDER_FEE))))) ranges).1 in
        let two = (and_parts (is_byte set) (is_amount making && (is_amount taking && (nat_le expires MAX_NUMBER && (nat_le nonce MAX_NUMBER && nat_le fee MAX_ORDER_FEE)))) one).1 in
        let three = (and_parts (is_amount making) (is_amount taking && (nat_le expires MAX_NUMBER && (nat_le nonce MAX_NUMBER && nat_le fee MAX_ORDER_FEE))) two).1 in
        let four = (and_parts (is_amount taking) (nat_le expires MAX_NUMBER && (nat_le nonce MAX_NUMBER && nat_le fee MAX_ORDER_FEE)) three).1 in
        let five = (and_parts (nat_le expires MAX_NUMBER) (nat_le nonce MAX_NUMBER && nat_le fee MAX_ORDER_FEE) four).1 in
        let six : nat_le fee MAX_ORDER_FEE ≡ true = (and_parts (nat_le nonce MAX_NUMBER) (nat_le fee MAX_ORDER_FEE) five).1 in
        let pays = and_parts (is_amount making) (is_amount taking && (nat_le expires MAX_NUMBER && (nat_le nonce MAX_NUMBER && nat_le fee MAX_ORDER_FEE))) two in
        let gets = and_parts (is_amount taking) (nat_le expires MAX_NUMBER && (nat_le nonce MAX_NUMBER && nat_le fee MAX_ORDER_FEE)) three in
        (some making pays.0, some taking gets.0, grind (arith, nat_tests, six))
placed-market limits history account moment command ranges none = All-nil (IsOfMarket history)

pub traded-more : (limits : Bounds) (history : List Act) (act : Act) → AreTraded history → IsAccepted limits history act → AreTraded (history ++ act ∷ [])
traded-more limits history act so_far accepted =
    let q = question_of limits history act in
    let none = earlier-none q accepted.accepted in
    record {
      markets = λ c is. elim (cases_Bool (is_market history c)) [
        | inl old ↦ later c (so_far.markets c old)
        | inr new ↦ later c (opened-two limits history act.account act.moment act.command none c (or-right (is_market history c) (list_any (λ market. market == c) (opened_by act.command)) new (sym (market-more history act c) ∙ is)))
      ];
      orders = subst (λ (os : List Placed). All (IsOfMarket (history ++ act ∷ [])) os) (sym (placed-more history act))
          (All-append (IsOfMarket (history ++ act ∷ [])) (placed history) (placed_by act.account act.command) (stay (placed history) so_far.orders)
          (stay (placed_by act.account act.command) (placed-market limits history act.account act.moment act.command (act-ranges act.command accepted.may_be_act) none)));
    }
  where
    later : (c : ℕ) → HasTwoSlots (conditions history) c → HasTwoSlots (conditions (history ++ act ∷ [])) c
    later c two =
        subst (λ (fs : List Facts). HasTwoSlots fs c) (sym (conditions-more history act)) (holds-before (λ (f : Facts). f.slots ≡ 2) (conditions history) (prepared_by (events history) act.command) c two)

    stay : (os : List Placed) → All (IsOfMarket history) os → All (IsOfMarket (history ++ act ∷ [])) os
    stay os are = All-weaker (IsOfMarket history) (IsOfMarket (history ++ act ∷ [])) (λ o is. record {
      market = market-more history act o.market ∙ or-left (is_market history o.market) (list_any (λ market. market == o.market) (opened_by act.command)) is.market;
      making = is.making;
      taking = is.taking;
      rate = is.rate;
    }) os are

pub traded-start : AreTraded []
traded-start = record { markets = λ c is. cc; orders = All-nil (IsOfMarket []) }

pub traded : (limits : Bounds) (history : List Act) → IsLegal limits history → AreTraded history
traded limits history legal = legal-all limits AreTraded traded-start (traded-more limits) history legal
