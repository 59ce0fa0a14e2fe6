-- A body is far shorter than the most that it may be.
use Rattle.std.proofs.Common.{◌≡◌, ℕ, ◌≤◌, ◌&&◌, Bool, true, List, ◌++◌, length, refl, arith, length-append}
use Rattle.std.specs.List.{list_all}
use Rattle.std.proofs.lemmas.Bool.{and_parts, leb-true}
use Rattle.std.proofs.lemmas.Bool.Decides.{nat_tests}
use Rattle.byteorder.specs.Endian.{big_bytes}
use Rattle.collection_keys.specs.declared.collection.TheConstants.{MAX_PAIRS}
use Rattle.command_words.specs.declared.ranges.TheConstants.{MAX_SETS}
use Rattle.command_words.specs.Command.{may_be_act, in_ranges}
use Rattle.collection_keys.specs.Collections.{Pairs}
use Rattle.command_words.specs.Ranges.{is_amount, is_bits, is_condition, is_key, is_makers, is_order, is_payout, is_payouts, is_sets, is_short, has_up_to}
use Rattle.command_words.specs.declared.command.Command.{Command}
use Rattle.command_words.specs.declared.command.Command.TheVariants.{Deposit, Withdraw, Move, Prepare, Event, Split, Merge, Report, Answer, Redeem, Convert, Market, Place, Cancel, Bump, Match, Lapse, Cross, Balance, Order, Vault}
use Rattle.act_bytes.specs.Spelling.{pair_bytes, key_bytes, sets_bytes, fill_bytes, fills_bytes, order_bytes, condition_bytes, body_bytes}
use Rattle.act_bytes.proofs.Putting.{length-items}

length-key : (key : Pairs) → is_short key ≡ true → length (key_bytes key) ≤ 25
unfolding key_bytes
length-key key short = omega (arith, leb-true (length key) MAX_PAIRS short, length-items pair_bytes 6 (λ p. refl) key)

few : (most : ℕ) (test : ℕ → Bool) (sets : List ℕ) → (list_all test sets && has_up_to most sets) ≡ true → length sets ≤ most
few most test sets is = grind (arith, nat_tests)

length-sets : (sets : List ℕ) → length sets ≤ 32 → length (sets_bytes sets) ≤ 129
unfolding sets_bytes
length-sets sets least = omega (arith, length-items (big_bytes 4) 4 (λ set. refl) sets)

length-fills : (fills : List (ℕ × ℕ)) → is_makers fills ≡ true → length (fills_bytes fills) ≤ 193
unfolding fills_bytes
length-fills fills is =
    let least : length fills ≤ 16 = grind (arith, nat_tests) in
    omega (arith, length-items fill_bytes 12 (λ f. refl) fills)

length-named : (parent : Pairs) (condition : ℕ) (sets : List ℕ) → is_short parent ≡ true → is_sets sets ≡ true → length (key_bytes parent ++ big_bytes 2 condition ++ sets_bytes sets) ≤ 200
length-named parent condition sets short is = simp length-append (omega (arith, length-key parent short, length-sets sets (few MAX_SETS is_bits sets is)))

length-split : (parent : Pairs) (condition : ℕ) (sets : List ℕ) (amount : ℕ) → may_be_act (Split parent condition sets amount) ≡ true → length (key_bytes parent ++ big_bytes 2 condition ++ sets_bytes sets ++ big_bytes 8 amount) ≤ 500
length-split parent condition sets amount is =
    let whole = and_parts (in_ranges (Split parent condition sets amount)) (is_short parent) is in
    let first = and_parts (is_key parent) (is_condition condition && (is_sets sets && is_amount amount)) whole.0 in
    let second = and_parts (is_condition condition) (is_sets sets && is_amount amount) first.1 in
    let last = and_parts (is_sets sets) (is_amount amount) second.1 in
    omega (arith, length-append (key_bytes parent ++ big_bytes 2 condition ++ sets_bytes sets) (big_bytes 8 amount), length-named parent condition sets whole.1 last.0)

pub length-body : (command : Command) → may_be_act command ≡ true → length (body_bytes command) ≤ 500
unfolding body_bytes condition_bytes order_bytes
length-body (Deposit to amount) is = omega arith
length-body (Withdraw amount) is = omega arith
length-body (Move to key amount) is =
    let whole = and_parts (in_ranges (Move to key amount)) (is_short key) is in
    simp length-append (omega (arith, length-key key whole.1))
length-body (Prepare oracle question slots) is = omega arith
length-body (Event oracle questions fee) is = omega arith
length-body (Split parent condition sets amount) is = length-split parent condition sets amount is
length-body (Merge parent condition sets amount) is = length-split parent condition sets amount is
length-body (Report condition payouts) is =
    let whole = and_parts (in_ranges (Report condition payouts)) true is in
    let last = and_parts (is_condition condition) (is_payouts payouts) whole.0 in
    simp length-append (omega (arith, length-sets payouts (few MAX_SETS is_payout payouts last.1)))
length-body (Answer event question answer) is = omega arith
length-body (Redeem parent condition sets) is =
    let whole = and_parts (in_ranges (Redeem parent condition sets)) (is_short parent) is in
    let first = and_parts (is_key parent) (is_condition condition && is_sets sets) whole.0 in
    let last = and_parts (is_condition condition) (is_sets sets) first.1 in
    omega (arith, length-named parent condition sets whole.1 last.1)
length-body (Convert event set amount) is = omega arith
length-body (Market condition) is = omega arith
length-body (Place market set side making taking expires nonce fee) is = omega arith
length-body (Cancel order) is = omega arith
length-body Bump is = omega arith
length-body (Match taker fill makers) is =
    let whole = and_parts (in_ranges (Match taker fill makers)) true is in
    let first = and_parts (is_order taker) (is_amount fill && is_makers makers) whole.0 in
    let last = and_parts (is_amount fill) (is_makers makers) first.1 in
    simp length-append (omega (arith, length-fills makers last.1))
length-body (Lapse order) is = omega arith
length-body (Cross market) is = omega arith
length-body (Balance holder key) is = omega arith
length-body (Order order) is = omega arith
length-body Vault is = omega arith
