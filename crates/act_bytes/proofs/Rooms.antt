-- What may be an act's command has room in each of its fields.
use Rattle.std.proofs.Common.{◌≡◌, ℕ, ◌^◌, ◌<◌, ◌&&◌, Bool, true, leb, List, [], ◌∷◌, length, arith}
use Rattle.std.specs.List.{list_all, AllByRecursion}
use Rattle.std.proofs.lemmas.Bool.{and_parts, leb-true, ltb-true}
use Rattle.std.proofs.lemmas.Bool.Decides.{nat_tests}
use Rattle.collection_keys.specs.Collections.{is_ascending}
use Rattle.condition_sets.specs.declared.amount.TheConstants.{MAX_AMOUNT}
use Rattle.condition_sets.specs.declared.names.TheConstants.{MAX_CONDITION, MAX_EVENT}
use Rattle.command_words.specs.declared.ranges.TheConstants.{MAX_NUMBER, MAX_KEY, MAX_SETS, MAX_MAKERS}
use Rattle.command_words.specs.Command.{may_be_act, in_ranges}
use Rattle.collection_keys.specs.Collections.{Pairs}
use Rattle.command_words.specs.Ranges.{is_account, is_amount, is_bits, is_condition, is_event, is_fill, is_key, is_makers, is_order, is_pair, is_payout, is_payouts, is_sets, is_short, has_up_to}
use Rattle.command_words.specs.declared.command.Command.{Command}
use Rattle.command_words.specs.declared.command.Command.TheVariants.{Deposit, Withdraw, Move, Prepare, Event, Split, Merge, Report, Answer, Redeem, Convert, Market, Place, Cancel, Bump, Match, Lapse, Cross, Balance, Order, Vault}
use Rattle.act_bytes.specs.Bodies.{IsKey, IsSets, IsFills, IsCondition, IsEvent, IsNamed, HasRoom}

account-room : (n : ℕ) → is_account n ≡ true → n < 2 ^ 16
account-room n is = ltb-true n (2 ^ 16) is

order-room : (n : ℕ) → is_order n ≡ true → n < 2 ^ 32
order-room n is = ltb-true n (2 ^ 32) is

amount-room : (n : ℕ) → is_amount n ≡ true → n < 2 ^ 64
amount-room n is = omega (arith, leb-true n MAX_AMOUNT (and_parts (leb 1 n) (leb n MAX_AMOUNT) is).1)

number-room : (n : ℕ) → leb n MAX_NUMBER ≡ true → n < 2 ^ 64
number-room n is = omega (arith, leb-true n MAX_NUMBER is)

condition-room : (n : ℕ) → is_condition n ≡ true → IsCondition n
condition-room n is = (omega (arith, leb-true n MAX_CONDITION is), is)

event-room : (n : ℕ) → is_event n ≡ true → IsEvent n
event-room n is = (omega (arith, leb-true n MAX_EVENT is), is)

-- what each item of a list passes is a room of each
all-room : {A : Type 0} (test : A → Bool) (Fits : A → Type 0) → ((x : A) → test x ≡ true → Fits x) → (xs : List A) → list_all test xs ≡ true → AllByRecursion Fits xs
all-room test Fits each [] is = tt
all-room test Fits each (x ∷ xs) is = let both = and_parts (test x) (list_all test xs) is in (each x both.0, all-room test Fits each xs both.1)

key-room : (key : Pairs) → is_key key ≡ true → IsKey key
key-room key is =
    let parts = and_parts (list_all is_pair key) (leb (length key) MAX_KEY && is_ascending key) is in
    let few = and_parts (leb (length key) MAX_KEY) (is_ascending key) parts.1 in
    (omega (arith, leb-true (length key) MAX_KEY few.0), all-room is_pair _ (λ p yes. grind (arith, nat_tests)) key parts.0)

sets-room : (sets : List ℕ) → is_sets sets ≡ true → IsSets sets
sets-room sets is =
    let parts = and_parts (list_all is_bits sets) (has_up_to MAX_SETS sets) is in
    (grind (arith, nat_tests), all-room is_bits _ (λ n yes. grind (arith, nat_tests)) sets parts.0)

payouts-room : (payouts : List ℕ) → is_payouts payouts ≡ true → IsSets payouts
payouts-room payouts is =
    let parts = and_parts (list_all is_payout payouts) (has_up_to MAX_SETS payouts) is in
    (grind (arith, nat_tests), all-room is_payout _ (λ n yes. grind (arith, nat_tests)) payouts parts.0)

makers-room : (makers : List (ℕ × ℕ)) → is_makers makers ≡ true → IsFills makers
makers-room makers is =
    let parts = and_parts (list_all is_fill makers) (has_up_to MAX_MAKERS makers) is in
    (grind (arith, nat_tests), all-room is_fill _ (λ f yes. grind (arith, nat_tests)) makers parts.0)

named-room : (parent : Pairs) (condition : ℕ) (sets : List ℕ) → is_key parent ≡ true → is_condition condition ≡ true → is_sets sets ≡ true → IsNamed parent condition sets
named-room parent condition sets key is named = ((key-room parent key, condition-room condition is), sets-room sets named)

split-room : (parent : Pairs) (condition : ℕ) (sets : List ℕ) (amount : ℕ) → may_be_act (Split parent condition sets amount) ≡ true → HasRoom (Split parent condition sets amount)
split-room parent condition sets amount is =
    let whole = and_parts (in_ranges (Split parent condition sets amount)) (is_short parent) is in
    let first = and_parts (is_key parent) (is_condition condition && (is_sets sets && is_amount amount)) whole.0 in
    let second = and_parts (is_condition condition) (is_sets sets && is_amount amount) first.1 in
    let last = and_parts (is_sets sets) (is_amount amount) second.1 in
    (named-room parent condition sets first.0 second.0 last.0, amount-room amount last.1)

pub has-room : (command : Command) → may_be_act command ≡ true → HasRoom command
has-room (Deposit to amount) is = grind (arith, nat_tests)
has-room (Withdraw amount) is = grind (arith, nat_tests)
has-room (Move to key amount) is =
    let whole = and_parts (in_ranges (Move to key amount)) (is_short key) is in
    let first = and_parts (is_account to) (is_key key && is_amount amount) whole.0 in
    let last = and_parts (is_key key) (is_amount amount) first.1 in
    ((account-room to first.0, key-room key last.0), amount-room amount last.1)
has-room (Prepare oracle question slots) is = grind (arith, nat_tests)
has-room (Event oracle questions fee) is = grind (arith, nat_tests)
has-room (Split parent condition sets amount) is = split-room parent condition sets amount is
has-room (Merge parent condition sets amount) is = split-room parent condition sets amount is
has-room (Report condition payouts) is =
    let whole = and_parts (in_ranges (Report condition payouts)) true is in
    let last = and_parts (is_condition condition) (is_payouts payouts) whole.0 in
    (condition-room condition last.0, payouts-room payouts last.1)
has-room (Answer event question answer) is = grind (arith, nat_tests)
has-room (Redeem parent condition sets) is =
    let whole = and_parts (in_ranges (Redeem parent condition sets)) (is_short parent) is in
    let first = and_parts (is_key parent) (is_condition condition && is_sets sets) whole.0 in
    let last = and_parts (is_condition condition) (is_sets sets) first.1 in
    named-room parent condition sets first.0 last.0 last.1
has-room (Convert event set amount) is = grind (arith, nat_tests)
has-room (Market condition) is = grind (arith, nat_tests)
has-room (Place market set side making taking expires nonce fee) is = grind (arith, nat_tests)
has-room (Cancel order) is = grind (arith, nat_tests)
has-room Bump is = tt
has-room (Match taker fill makers) is =
    let whole = and_parts (in_ranges (Match taker fill makers)) true is in
    let first = and_parts (is_order taker) (is_amount fill && is_makers makers) whole.0 in
    let last = and_parts (is_amount fill) (is_makers makers) first.1 in
    ((order-room taker first.0, amount-room fill last.0), makers-room makers last.1)
has-room (Lapse order) is = grind (arith, nat_tests)
has-room (Cross market) is = tt
has-room (Balance holder key) is = tt
has-room (Order order) is = tt
has-room Vault is = tt
