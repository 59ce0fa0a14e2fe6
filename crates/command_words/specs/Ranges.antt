-- The ranges of numbers and lists that commands have as members.
use Rattle.std.specs.Prelude.{ℕ, ◌^◌, ◌&&◌, Bool, nat_lt, nat_le, List, length}
use Rattle.std.specs.List.{list_all}
use Rattle.collection_keys.specs.declared.collection.TheConstants.{MAX_PAIRS}
use Rattle.collection_keys.specs.Collections.{is_ascending}
use Rattle.condition_sets.specs.declared.amount.TheConstants.{MAX_AMOUNT}
use Rattle.condition_sets.specs.declared.names.TheConstants.{MAX_CONDITION, MAX_EVENT}
use Rattle.condition_sets.specs.declared.slot_count.TheConstants.{MIN_SLOTS, MAX_SLOTS}
use Rattle.command_words.specs.declared.ranges.TheConstants.{MAX_SETS, MAX_KEY, MAX_PAYOUT, MAX_MAKERS}

-- an account is a number of 16 bits
abbrev pub is_account : ℕ → Bool
is_account n = nat_lt n (2 ^ 16)

-- an order is a number of 32 bits
abbrev pub is_order : ℕ → Bool
is_order n = nat_lt n (2 ^ 32)

abbrev pub is_condition : ℕ → Bool
is_condition n = nat_le n MAX_CONDITION

abbrev pub is_event : ℕ → Bool
is_event n = nat_le n MAX_EVENT

-- an amount, or a fill, that a command names is from 1 to 10^15
abbrev pub is_amount : ℕ → Bool
is_amount n = nat_le 1 n && nat_le n MAX_AMOUNT

-- the bits of an index set, or of questions
abbrev pub is_bits : ℕ → Bool
is_bits n = nat_lt n (2 ^ 32)

abbrev pub is_byte : ℕ → Bool
is_byte n = nat_lt n 256

abbrev pub is_slots : ℕ → Bool
is_slots n = nat_le MIN_SLOTS n && nat_le n MAX_SLOTS

-- a list of at least one item, and of so many at the most
abbrev pub has_up_to : {X : Type 0} → ℕ → List X → Bool
has_up_to most items = nat_le 1 (length items) && nat_le (length items) most

abbrev pub is_pair : ℕ × ℕ → Bool
is_pair p = is_condition p.0 && is_bits p.1

-- a key: pairs of a condition and the bits of an index set, the conditions ascending
abbrev pub is_key : List (ℕ × ℕ) → Bool
is_key key = list_all is_pair key && (nat_le (length key) MAX_KEY && is_ascending key)

-- a key that has as few pairs as a collection
abbrev pub is_short : List (ℕ × ℕ) → Bool
is_short key = nat_le (length key) MAX_PAIRS

-- a list of sets
abbrev pub is_sets : List ℕ → Bool
is_sets sets = list_all is_bits sets && has_up_to MAX_SETS sets

abbrev pub is_payout : ℕ → Bool
is_payout n = nat_le n MAX_PAYOUT

-- the numerators of a report
abbrev pub is_payouts : List ℕ → Bool
is_payouts payouts = list_all is_payout payouts && has_up_to MAX_SETS payouts

abbrev pub is_fill : ℕ × ℕ → Bool
is_fill f = is_order f.0 && is_amount f.1

-- the orders of the makers, each with its fill
abbrev pub is_makers : List (ℕ × ℕ) → Bool
is_makers makers = list_all is_fill makers && has_up_to MAX_MAKERS makers
