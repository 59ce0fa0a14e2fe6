-- A supply is what all accounts hold together.
use Rattle.std.proofs.Common.{Option, None, subst, ◌≡◌, ◌==◌, ℕ, zero, suc, ◌+◌, ◌-◌, ◌^◌, ◌<◌, ◌≤◌, Bool, true, false, cond, List, [], ◌∷◌, ◌++◌, refl, sym, ap, ◌∙◌, arith, inl, inr}
use Rattle.std.specs.Prelude.{All, ◌&&◌, fold, map, slice_get, Some, sum_by}
use Rattle.std.proofs.lemmas.Bool.{cases_order, cond-true, cond-false}
use Rattle.std.proofs.lemmas.Bool.Decides.{nat_tests}
use Rattle.std.proofs.lemmas.List.Elements.{All-append, All-cons, All-head, All-nil, All-tail}
use Rattle.std.proofs.lemmas.List.Sums.{sum_by-cons}
use Rattle.std.proofs.lemmas.Option.{get_or_from_slice_get, slice_get_within}
use Rattle.collection_keys.specs.Collections.{Pairs, joined, root}
use Rattle.command_words.proofs.Acts.{act-ranges}
use Rattle.command_words.specs.Command.{in_ranges, may_be_act}
use Rattle.command_words.specs.Ranges.{is_account, is_amount, is_key}
use Rattle.command_words.specs.declared.act.Act.{Act}
use Rattle.command_words.specs.declared.command.Command.{Command}
use Rattle.command_words.specs.declared.command.Command.TheVariants.{Deposit, Withdraw, Move, Split, Merge, Redeem, Convert, Match, Place}
use Rattle.condition_sets.specs.declared.names.TheConstants.{OPERATOR}
use Rattle.convert_positions.specs.Converting.{cash_of, chosen, fee_of, no_of, others, out_of, paid_for, yes_of}
use Rattle.event_table.specs.Events.{EventView}
use Rattle.ledger_book.specs.Postings.{credit, debit, credits, debits, paid_to, taken_from}
use Rattle.ledger_book.specs.declared.posting.Posting.{Posting}
use Rattle.match_kinds.specs.declared.part.Part.{Part}
use Rattle.order_table.specs.declared.order.Placed.{Placed}
use Rattle.report_redeem.specs.Redeeming.{Redeemed, postings_for, redeemed}
use Rattle.split_merge.specs.Splitting.{parts_of}
use Rattle.std.specs.List.{flat_map}
use Rattle.settle_core.specs.Book.{Book, blank, converted_in, entered, held_in, postings, postings_of, redeemed_in, told_on}
use Rattle.settle_core.specs.Bounds.{Bounds}
use Rattle.settle_core.specs.Keys.{whole_in}
use Rattle.settle_core.specs.Legal.{IsLegal}
use Rattle.settle_core.specs.Matches.{matched_in, part_by, part_of, parts_in}
use Rattle.settle_core.specs.Placing.{placed_by}
use Rattle.settle_core.specs.Postings.{supply, over_accounts, held_by_all}
use Rattle.settle_core.proofs.Coverage.{settled}
use Rattle.settle_core.proofs.Histories.{legal-acts}
use Rattle.settle_core.proofs.Matched.{matched-each}

-- ---- sums over accounts

over-zero : (n : ℕ) → over_accounts n (λ a. 0) ≡ 0
unfolding over_accounts
over-zero zero = refl
over-zero (suc n) = omega (arith, over-zero n)

over-sum : (n : ℕ) (f g : ℕ → ℕ) → over_accounts n (λ a. f a + g a) ≡ over_accounts n f + over_accounts n g
unfolding over_accounts
over-sum zero f g = refl
over-sum (suc n) f g = omega (arith, over-sum n f g)

over-same : (n : ℕ) (f g : ℕ → ℕ) → ((a : ℕ) → f a ≡ g a) → over_accounts n f ≡ over_accounts n g
over-same n f g same = ap (over_accounts n) (λ i a. same a i)

-- one account has something, and the others nothing
over-past : (n b x : ℕ) → n ≤ b → over_accounts n (λ a. cond (b == a) x 0) ≡ 0
unfolding over_accounts
over-past zero b x past = refl
over-past (suc n) b x past =
    let other : (b == n) ≡ false = grind (arith, nat_tests) in
    let none : cond (b == n) x 0 ≡ 0 = cond-false _ x 0 other in
    omega (arith, over-past n b x (omega arith), none)

over-one : (n b x : ℕ) → b < n → over_accounts n (λ a. cond (b == a) x 0) ≡ x
unfolding over_accounts
over-one zero b x inside = absurd (omega arith)
over-one (suc n) b x inside =
    elim (cases_order b n) [
      | inl same ↦
          let own : (b == n) ≡ true = grind (arith, nat_tests) in
          let all : cond (b == n) x 0 ≡ x = cond-true _ x 0 own in
          omega (arith, over-past n b x (omega arith), all)
      | inr other ↦ elim other [
        | inl lower ↦
            let not_own : (b == n) ≡ false = grind (arith, nat_tests) in
            let none : cond (b == n) x 0 ≡ 0 = cond-false _ x 0 not_own in
            omega (arith, over-one n b x lower, none)
        | inr higher ↦ absurd (omega arith)
      ]
    ]

-- what postings to accounts below a number sum up to, account by account
over-postings : (n : ℕ) (f : Posting → ℕ) (ps : List Posting) → All (λ p. p.account < n) ps → over_accounts n (λ a. sum_by (λ p. cond (p.account == a) (f p) 0) ps) ≡ sum_by f ps
over-postings n f [] fits = over-zero n
over-postings n f (p ∷ ps) fits =
    let first = over-one n p.account (f p) (All-head (λ (q : Posting). q.account < n) p ps fits) in
    let rest = over-postings n f ps (All-tail (λ (q : Posting). q.account < n) p ps fits) in
    over-same n (λ a. sum_by (λ q. cond (q.account == a) (f q) 0) (p ∷ ps)) (λ a. cond (p.account == a) (f p) 0 + sum_by (λ q. cond (q.account == a) (f q) 0) ps) (λ a. sum_by-cons (λ q. cond (q.account == a) (f q) 0) p ps)
    ∙ (over-sum n (λ a. cond (p.account == a) (f p) 0) (λ a. sum_by (λ q. cond (q.account == a) (f q) 0) ps)
    ∙ ((λ i. first i + rest i) ∙ sym (sum_by-cons f p ps)))

-- ---- the accounts of what a legal history posts

abbrev AreOfAccounts : List Posting → Type 0
AreOfAccounts ps = All (λ p. p.account < 2 ^ 16) ps

account-within : (n : ℕ) → is_account n ≡ true → n < 2 ^ 16
account-within n is = grind (arith, nat_tests, is)

none-of : AreOfAccounts []
none-of = All-nil (λ (p : Posting). p.account < 2 ^ 16)

one-of : (p : Posting) (ps : List Posting) → p.account < 2 ^ 16 → AreOfAccounts ps → AreOfAccounts (p ∷ ps)
one-of p ps fits others = All-cons (λ (q : Posting). q.account < 2 ^ 16) p ps fits others

credits-of : (a amount : ℕ) (parts : List Pairs) → a < 2 ^ 16 → AreOfAccounts (map (λ k. credit a k amount) parts)
credits-of a amount [] fits = none-of
credits-of a amount (k ∷ ks) fits = one-of (credit a k amount) _ fits (credits-of a amount ks fits)

debits-of : (a amount : ℕ) (parts : List Pairs) (behind : List Posting) → a < 2 ^ 16 → AreOfAccounts behind → AreOfAccounts (map (λ k. debit a k amount) parts ++ behind)
debits-of a amount [] behind fits others = others
debits-of a amount (k ∷ ks) behind fits others = one-of (debit a k amount) _ fits (debits-of a amount ks behind fits others)

first_true : (a b : Bool) → (a && b) ≡ true → a ≡ true
first_true true b both = refl
first_true false b both = cc

redeems-of : (a : ℕ) (parent : Pairs) (c : ℕ) (rs : List Redeemed) → a < 2 ^ 16 → AreOfAccounts (flat_map (postings_for a parent c) rs)
redeems-of a parent c [] fits = none-of
redeems-of a parent c (r ∷ rs) fits =
    let rest = flat_map (postings_for a parent c) rs in
    one-of (debit a (joined parent c r.set) r.burnt) (credit a parent r.paid ∷ rest) fits (one-of (credit a parent r.paid) rest fits (redeems-of a parent c rs fits))

redemption-of : (b : Book) (a : ℕ) (parent : Pairs) (c : ℕ) (sets : List ℕ) (o : Option (List ℕ)) → a < 2 ^ 16 → AreOfAccounts (redeemed_in b a parent c sets o)
redemption-of b a parent c sets None fits = none-of
redemption-of b a parent c sets (Some ns) fits = redeems-of a parent c (redeemed (held_in b) a parent c ns sets) fits

-- what an account and the operator are paid and what the one gives of a conversion
paid-of : (a each set : ℕ) (cs : List ℕ) → a < 2 ^ 16 → AreOfAccounts (paid_for a each set cs)
paid-of a each set cs fits = credited (others set cs)
  where
    credited : (ds : List ℕ) → AreOfAccounts (map (λ c. credit a (yes_of c) each) ds ++ credit a root (cash_of each set cs) ∷ [])
    credited [] = one-of (credit a root (cash_of each set cs)) [] fits none-of
    credited (d ∷ ds) = one-of (credit a (yes_of d) each) _ fits (credited ds)

conversion-of : (a set amount : ℕ) (o : Option EventView) → a < 2 ^ 16 → AreOfAccounts (converted_in o a set amount)
conversion-of a set amount None fits = none-of
conversion-of a set amount (Some event) fits =
    All-append (λ (p : Posting). p.account < 2 ^ 16) _ _ (taken (chosen set event.conditions))
    (All-append (λ (p : Posting). p.account < 2 ^ 16) _ _ (paid-of a (out_of amount event.bips) set event.conditions fits) (paid-of OPERATOR (fee_of amount event.bips) set event.conditions (omega arith)))
  where
    taken : (ds : List ℕ) → AreOfAccounts (map (λ c. debit a (no_of c) amount) ds)
    taken [] = none-of
    taken (d ∷ ds) = one-of (debit a (no_of d) amount) _ fits (taken ds)

-- orders of such accounts, and what is posted to them
abbrev AreByAccounts : List Placed → Type 0
AreByAccounts orders = All (λ o. o.account < 2 ^ 16) orders

placed-of : (a : ℕ) (command : Command) → a < 2 ^ 16 → AreByAccounts (placed_by a command)
placed-of a (Place market set side making taking expires nonce fee) fits = All-cons (λ (o : Placed). o.account < 2 ^ 16) _ [] fits (All-nil (λ (o : Placed). o.account < 2 ^ 16))
placed-of a command fits = All-nil (λ (o : Placed). o.account < 2 ^ 16)

order-of : (orders : List Placed) (n : ℕ) (order : Placed) → AreByAccounts orders → slice_get orders n ≡ Some order → order.account < 2 ^ 16
order-of orders n order by at =
    subst (λ (o : Placed). o.account < 2 ^ 16) (get_or_from_slice_get orders n order order at) (by n order (slice_get_within orders n order at))

made-of : (orders : List Placed) (makers : List (ℕ × ℕ)) → AreByAccounts orders → All (λ m. m.account < 2 ^ 16) (parts_in orders makers)
made-of orders [] fits = All-nil (λ (m : Part). m.account < 2 ^ 16)
made-of orders (m ∷ ms) fits = by (slice_get orders m.0) refl (made-of orders ms fits)
  where
    by : (o : Option Placed) → slice_get orders m.0 ≡ o → All (λ p. p.account < 2 ^ 16) (parts_in orders ms) → All (λ p. p.account < 2 ^ 16) (part_by o m.1 ++ parts_in orders ms)
    by None at rest = rest
    by (Some order) at rest = All-cons (λ (p : Part). p.account < 2 ^ 16) (part_of order m.1) (parts_in orders ms) (order-of orders m.0 order fits at) rest

match-of : (orders : List Placed) (taker fill : ℕ) (makers : List (ℕ × ℕ)) (o : Option Placed) → AreByAccounts orders → slice_get orders taker ≡ o → AreOfAccounts (matched_in o fill (parts_in orders makers))
match-of orders taker fill makers None fits at = none-of
match-of orders taker fill makers (Some order) fits at =
    matched-each (λ (p : Posting). p.account < 2 ^ 16) (λ a. a < 2 ^ 16) order.market (λ a side token amount of. (of, of)) (part_of order fill) (parts_in orders makers)
    (omega arith) (order-of orders taker order fits at) (made-of orders makers fits)

posts-of-account : (b : Book) (a : ℕ) (command : Command) → a < 2 ^ 16 → in_ranges command ≡ true → AreByAccounts b.placed → AreOfAccounts (postings_of b a command)
posts-of-account b a (Deposit to amount) fits ranges orders = one-of (credit to root amount) [] (account-within to (first_true (is_account to) (is_amount amount) ranges)) none-of
posts-of-account b a (Split parent condition sets amount) fits ranges orders =
    one-of (debit a (whole_in b.conditions parent condition sets) amount) _ fits (credits-of a amount (parts_of parent condition sets) fits)
posts-of-account b a (Merge parent condition sets amount) fits ranges orders =
    debits-of a amount (parts_of parent condition sets) _ fits (one-of (credit a (whole_in b.conditions parent condition sets) amount) [] fits none-of)
posts-of-account b a (Withdraw amount) fits ranges orders = one-of (debit a root amount) [] fits none-of
posts-of-account b a (Move to key amount) fits ranges orders =
    one-of (debit a key amount) (credit to key amount ∷ []) fits (one-of (credit to key amount) [] (account-within to (first_true (is_account to) (is_key key && is_amount amount) ranges)) none-of)
posts-of-account b a (Redeem parent condition sets) fits ranges orders = redemption-of b a parent condition sets (told_on b condition) fits
posts-of-account b a (Convert event set amount) fits ranges orders = conversion-of a set amount (slice_get b.events event) fits
posts-of-account b a (Match taker fill makers) fits ranges orders = match-of b.placed taker fill makers (slice_get b.placed taker) orders refl
posts-of-account b a command fits ranges orders = none-of

abbrev MayBeActs : List Act → Type 0
MayBeActs acts = All (λ act. may_be_act act.command ≡ true) acts

all-of-accounts : (acts : List Act) (b : Book) → MayBeActs acts → All (λ act. is_account act.account ≡ true) acts → AreByAccounts b.placed → AreOfAccounts b.postings → AreOfAccounts (fold entered b acts).postings
all-of-accounts [] b askable fits orders so_far = so_far
all-of-accounts (act ∷ acts) b askable fits orders so_far =
    let here = account-within act.account (All-head (λ (x : Act). is_account x.account ≡ true) act acts fits) in
    let posts = posts-of-account b act.account act.command here (act-ranges act.command (All-head (λ (x : Act). may_be_act x.command ≡ true) act acts askable)) orders in
    all-of-accounts acts (entered b act) (All-tail (λ (x : Act). may_be_act x.command ≡ true) act acts askable) (All-tail (λ (x : Act). is_account x.account ≡ true) act acts fits)
    (All-append (λ (o : Placed). o.account < 2 ^ 16) b.placed (placed_by act.account act.command) orders (placed-of act.account act.command here))
    (All-append (λ (p : Posting). p.account < 2 ^ 16) b.postings (postings_of b act.account act.command) so_far posts)

-- ---- the law

over-difference : (n : ℕ) (f g : ℕ → ℕ) → ((a : ℕ) → g a ≤ f a) → over_accounts n (λ a. f a - g a) + over_accounts n g ≡ over_accounts n f
unfolding over_accounts
over-difference zero f g within = refl
over-difference (suc n) f g within = omega (arith, over-difference n f g within, within n)

pub supply-held : (limits : Bounds) (history : List Act) (k : Pairs) → IsLegal limits history → All (λ act. is_account act.account ≡ true) history → held_by_all history k ≡ supply history k
supply-held limits history k legal fits =
    let ps = postings history in
    let within = all-of-accounts history blank (legal-acts limits history legal) fits (All-nil (λ (o : Placed). o.account < 2 ^ 16)) (All-nil (λ (p : Posting). p.account < 2 ^ 16)) in
    omega (arith, over-postings (2 ^ 16) (paid_to k) ps within, over-postings (2 ^ 16) (taken_from k) ps within, over-difference (2 ^ 16) (λ a. credits ps a k) (λ a. debits ps a k) (λ a. omega (arith, (settled limits history legal).above a k)))
