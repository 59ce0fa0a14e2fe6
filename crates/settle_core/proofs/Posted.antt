-- How much a command posts.
use Rattle.std.proofs.Common.{Option, None, Some, ◌≡◌, ℕ, suc, ◌+◌, ◌*◌, ◌≤◌, ◌&&◌, true, List, [], ◌∷◌, ◌++◌, length, refl, arith, inl, inr, length-append}
use Rattle.std.specs.Int.{bit_at}
use Rattle.std.specs.Prelude.{◌==◌, ⊤, map, nat_le, slice_get, MatchOption}
use Rattle.std.specs.List.{list_all}
use Rattle.std.proofs.lemmas.Bool.{and_parts, cases_Bool}
use Rattle.std.proofs.lemmas.Bool.Decides.{nat_tests}
use Rattle.std.proofs.lemmas.List.{length-map}
use Rattle.collection_keys.specs.Collections.{Pairs, joined, root}
use Rattle.command_words.specs.Command.{in_ranges, makes_act}
use Rattle.command_words.specs.Ranges.{is_amount, is_bits, is_condition, is_fill, is_key, is_makers, is_order, is_sets, has_up_to}
use Rattle.command_words.specs.Reply.{IsSound, rests_of}
use Rattle.command_words.specs.declared.act.Act.{Act}
use Rattle.command_words.specs.declared.act.TheConstants.{MAX_HISTORY}
use Rattle.command_words.specs.declared.command.Command.{Command}
use Rattle.command_words.specs.declared.command.Command.TheVariants.{Deposit, Withdraw, Move, Split, Merge, Redeem, Convert, Match, Cross, Balance, Order, Vault}
use Rattle.command_words.specs.declared.ranges.TheConstants.{MAX_MAKERS, MAX_SETS}
use Rattle.condition_sets.specs.declared.names.TheConstants.{OPERATOR}
use Rattle.convert_positions.proofs.Counting.{chosen-some}
use Rattle.convert_positions.specs.Converting.{IsChoice, cash_of, chosen, chosen_from, fee_of, no_of, others, others_from, out_of, paid_for, yes_of}
use Rattle.event_table.specs.Events.{EventView}
use Rattle.ledger_book.specs.Postings.{credit, debit}
use Rattle.ledger_book.specs.declared.posting.Posting.{Posting}
use Rattle.match_kinds.specs.declared.settle.MatchSums.{MatchSums}
use Rattle.report_redeem.proofs.Redemptions.{redeemed-many, sums-many}
use Rattle.split_merge.specs.Splitting.{parts_of, split_postings, merge_postings}
use Rattle.settle_core.specs.Book.{Book, book, converted_in, events, held_in, postings_of, redeemed_in, sums_in, told, told_on}
use Rattle.order_table.specs.Orders.{OrderView}
use Rattle.settle_core.specs.Kept.{most_posted}
use Rattle.settle_core.specs.Matches.{parts_in, sums_in as match_sums}
use Rattle.settle_core.specs.Orders.{orders, placed}
use Rattle.settle_core.specs.Keys.{whole_in}
use Rattle.settle_core.specs.Reply.{accepted_reply, converted_reply, matched_reply, ordered_reply}
use Rattle.settle_core.proofs.Matched.{matched-few}

sets-few : (sets : List ℕ) → is_sets sets ≡ true → length sets ≤ MAX_SETS
sets-few sets is =
    let most = (and_parts (nat_le 1 (length sets)) (nat_le (length sets) MAX_SETS) (and_parts (list_all is_bits sets) (has_up_to MAX_SETS sets) is).1).1 in
    grind (arith, nat_tests, most)

-- and at least one
sets-some : (sets : List ℕ) → is_sets sets ≡ true → 1 ≤ length sets
sets-some sets is =
    let least = (and_parts (nat_le 1 (length sets)) (nat_le (length sets) MAX_SETS) (and_parts (list_all is_bits sets) (has_up_to MAX_SETS sets) is).1).0 in
    grind (arith, nat_tests, least)

sets-in : (parent : Pairs) (condition : ℕ) (sets : List ℕ) (amount : ℕ) → (is_key parent && (is_condition condition && (is_sets sets && is_amount amount))) ≡ true → length sets ≤ MAX_SETS
sets-in parent condition sets amount ranges =
    let one = (and_parts (is_key parent) (is_condition condition && (is_sets sets && is_amount amount)) ranges).1 in
    let two = (and_parts (is_condition condition) (is_sets sets && is_amount amount) one).1 in
    sets-few sets (and_parts (is_sets sets) (is_amount amount) two).0

-- as many parts as sets
parts-many : (parent : Pairs) (condition : ℕ) (sets : List ℕ) → length (parts_of parent condition sets) ≡ length sets
parts-many parent condition sets = length-map sets (λ (set : ℕ). joined parent condition set)

split-many : (a : ℕ) (whole : Pairs) (parts : List Pairs) (amount : ℕ) → length (split_postings a whole parts amount) ≡ length parts + 1
split-many a whole parts amount = omega (arith, length-map parts (λ (k : Pairs). credit a k amount))

merge-many : (a : ℕ) (whole : Pairs) (parts : List Pairs) (amount : ℕ) → length (merge_postings a whole parts amount) ≡ length parts + 1
merge-many a whole parts amount = omega (arith, length-append (map (λ (k : Pairs). debit a k amount) parts) (credit a whole amount ∷ []), length-map parts (λ (k : Pairs). debit a k amount))

pub sets-redeemed : (parent : Pairs) (condition : ℕ) (sets : List ℕ) → (is_key parent && (is_condition condition && is_sets sets)) ≡ true → length sets ≤ MAX_SETS
sets-redeemed parent condition sets ranges =
    let one = (and_parts (is_key parent) (is_condition condition && is_sets sets) ranges).1 in
    sets-few sets (and_parts (is_condition condition) (is_sets sets) one).1

pub redeemed-some : (parent : Pairs) (condition : ℕ) (sets : List ℕ) → (is_key parent && (is_condition condition && is_sets sets)) ≡ true → 1 ≤ length sets
redeemed-some parent condition sets ranges =
    let one = (and_parts (is_key parent) (is_condition condition && is_sets sets) ranges).1 in
    sets-some sets (and_parts (is_condition condition) (is_sets sets) one).1

redeemed-few : (b : Book) (a : ℕ) (parent : Pairs) (condition : ℕ) (sets : List ℕ) (o : Option (List ℕ)) → length sets ≤ MAX_SETS → length (redeemed_in b a parent condition sets o) ≤ most_posted
redeemed-few b a parent condition sets None few = omega arith
redeemed-few b a parent condition sets (Some ns) few = omega (arith, few, redeemed-many (held_in b) a parent condition ns sets)

-- a redemption's sums are as many as its sets
pub sums-few : (b : Book) (a : ℕ) (parent : Pairs) (condition : ℕ) (sets : List ℕ) (o : Option (List ℕ)) → length sets ≤ MAX_SETS → length (sums_in b a parent condition sets o) ≤ MAX_SETS
sums-few b a parent condition sets None few = omega arith
sums-few b a parent condition sets (Some ns) few = omega (arith, few, sums-many (held_in b) a parent condition ns sets)

-- each question is chosen or one of the others
parted-many : (set place : ℕ) (cs : List ℕ) → length (chosen_from set place cs) + length (others_from set place cs) ≡ length cs
parted-many set place [] = omega arith
parted-many set place (c ∷ cs) =
    elim (cases_Bool (bit_at set place == 1)) [
      | inl here ↦ rw here (omega (arith, parted-many set (suc place) cs))
      | inr other ↦ rw other (omega (arith, parted-many set (suc place) cs))
    ]

paid-many : (a each set : ℕ) (cs : List ℕ) → length (paid_for a each set cs) ≡ length (others set cs) + 1
paid-many a each set cs =
    omega (
      arith,
      length-append (map (λ c. credit a (yes_of c) each) (others set cs)) (credit a root (cash_of each set cs) ∷ []),
      length-map (others set cs) (λ (c : ℕ). credit a (yes_of c) each),
    )

-- a conversion takes NO of some questions, and pays YES of the others and cash to two accounts
converted-many : (a set amount : ℕ) (event : EventView) → length (converted_in (Some event) a set amount) + length (chosen set event.conditions) ≡ 2 * length event.conditions + 2
converted-many a set amount event =
    let cs = event.conditions in
    let out = paid_for a (out_of amount event.bips) set cs in
    let fee = paid_for OPERATOR (fee_of amount event.bips) set cs in
    let taken : List Posting = map (λ c. debit a (no_of c) amount) (chosen set cs) in
    omega (
      arith,
      length-append taken (out ++ fee),
      length-append out fee,
      length-map (chosen set cs) (λ (c : ℕ). debit a (no_of c) amount),
      paid-many a (out_of amount event.bips) set cs,
      paid-many OPERATOR (fee_of amount event.bips) set cs,
      parted-many set 0 cs,
    )

pub converted-some : (a set amount : ℕ) (event : EventView) → 1 ≤ length (converted_in (Some event) a set amount)
converted-some a set amount event = omega (arith, converted-many a set amount event, parted-many set 0 event.conditions)

-- a set that chooses questions of an event chooses one at least
abbrev pub AreChoices : List EventView → Command → Type 0
AreChoices made (Convert event set amount) = MatchOption (slice_get made event) ⊤ (λ e. (length e.conditions ≤ 32) × IsChoice (length e.conditions) set)
AreChoices made command = ⊤

converted-few : (a set amount : ℕ) (o : Option EventView) → MatchOption o ⊤ (λ e. (length e.conditions ≤ 32) × IsChoice (length e.conditions) set) → length (converted_in o a set amount) ≤ most_posted
converted-few a set amount None fits = omega arith
converted-few a set amount (Some event) fits = omega (arith, fits.0, converted-many a set amount event, chosen-some set event.conditions fits.1)

-- a match has one maker at least, and few
pub makers-some : (taker fill : ℕ) (makers : List (ℕ × ℕ)) → in_ranges (Match taker fill makers) ≡ true → 1 ≤ length makers
makers-some taker fill makers ranges =
    let one = (and_parts (is_order taker) (is_amount fill && is_makers makers) ranges).1 in
    let two = (and_parts (is_amount fill) (is_makers makers) one).1 in
    let many = (and_parts (list_all is_fill makers) (has_up_to MAX_MAKERS makers) two).1 in
    let least : nat_le 1 (length makers) ≡ true = (and_parts (nat_le 1 (length makers)) (nat_le (length makers) MAX_MAKERS) many).0 in
    grind (arith, nat_tests, least)

pub makers-few : (taker fill : ℕ) (makers : List (ℕ × ℕ)) → in_ranges (Match taker fill makers) ≡ true → length makers ≤ MAX_MAKERS
makers-few taker fill makers ranges =
    let one = (and_parts (is_order taker) (is_amount fill && is_makers makers) ranges).1 in
    let two = (and_parts (is_amount fill) (is_makers makers) one).1 in
    let many = (and_parts (list_all is_fill makers) (has_up_to MAX_MAKERS makers) two).1 in
    let most : nat_le (length makers) MAX_MAKERS ≡ true = (and_parts (nat_le 1 (length makers)) (nat_le (length makers) MAX_MAKERS) many).1 in
    grind (arith, nat_tests, most)

-- a command in its ranges posts few
pub posted-few : (b : Book) (a : ℕ) (command : Command) → in_ranges command ≡ true → AreChoices b.events command → length (postings_of b a command) ≤ most_posted
posted-few b a (Deposit to amount) ranges choices = omega arith
posted-few b a (Split parent condition sets amount) ranges choices =
    omega (arith, split-many a (whole_in b.conditions parent condition sets) (parts_of parent condition sets) amount, parts-many parent condition sets, sets-in parent condition sets amount ranges)
posted-few b a (Merge parent condition sets amount) ranges choices =
    omega (arith, merge-many a (whole_in b.conditions parent condition sets) (parts_of parent condition sets) amount, parts-many parent condition sets, sets-in parent condition sets amount ranges)
posted-few b a (Withdraw amount) ranges choices = omega arith
posted-few b a (Move to key amount) ranges choices = omega arith
posted-few b a (Redeem parent condition sets) ranges choices = redeemed-few b a parent condition sets (told_on b condition) (sets-redeemed parent condition sets ranges)
posted-few b a (Convert event set amount) ranges choices = converted-few a set amount (slice_get b.events event) choices
posted-few b a (Match taker fill makers) ranges choices = omega (arith, makers-few taker fill makers ranges, matched-few b.placed (slice_get b.placed taker) fill makers)
posted-few b a command ranges choices = omega arith

-- the reply to a conversion
converted-sound : (lsn set amount : ℕ) (o : Option EventView) → lsn ≤ MAX_HISTORY → IsSound (converted_reply lsn o set amount)
converted-sound lsn set amount None within = within
converted-sound lsn set amount (Some event) within = within

-- the reply to a match
matched-sound : (lsn : ℕ) (o : Option MatchSums) → lsn ≤ MAX_HISTORY → IsSound (matched_reply lsn o)
matched-sound lsn None within = within
matched-sound lsn (Some sums) within = within

-- the reply to an accepted command in its ranges
pub reply-sound : (history : List Act) (a : ℕ) (command : Command) → in_ranges command ≡ true → length history ≤ MAX_HISTORY → IsSound (accepted_reply history a command)
reply-sound history a (Redeem parent condition sets) ranges within = (within, sums-few (book history) a parent condition sets (told history condition) (sets-redeemed parent condition sets ranges))
reply-sound history a (Convert event set amount) ranges within = converted-sound (length history) set amount (slice_get (events history) event) within
reply-sound history a (Match taker fill makers) ranges within = matched-sound (length history) (match_sums (slice_get (placed history) taker) fill (parts_in (placed history) makers)) within
reply-sound history a (Order order) ranges within = by (slice_get (orders history) order)
  where
    by : (o : Option OrderView) → IsSound (ordered_reply (length history) o)
    by None = within
    by (Some o) = within
reply-sound history a command ranges within = within

-- the reply to an accepted command that makes an act rests on that act
pub accepted-rests : (history : List Act) (a : ℕ) (command : Command) → makes_act command ≡ true → rests_of (accepted_reply history a command) ≡ length history + 1
accepted-rests history a (Cross market) acts = cc
accepted-rests history a (Balance holder key) acts = cc
accepted-rests history a (Order order) acts = cc
accepted-rests history a Vault acts = cc
accepted-rests history a (Convert event set amount) acts = by (slice_get (events history) event)
  where
    by : (o : Option EventView) → rests_of (converted_reply (length history) o set amount) ≡ length history + 1
    by None = refl
    by (Some e) = refl
accepted-rests history a (Match taker fill makers) acts = by (match_sums (slice_get (placed history) taker) fill (parts_in (placed history) makers))
  where
    by : (o : Option MatchSums) → rests_of (matched_reply (length history) o) ≡ length history + 1
    by None = refl
    by (Some sums) = refl
accepted-rests history a command acts = refl
