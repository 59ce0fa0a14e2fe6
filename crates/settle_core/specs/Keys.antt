-- The keys and the sets that commands name.
-- Source: Gnosis Conditional Tokens, developer documentation.
use Rattle.std.specs.Prelude.{◌==◌, ℕ, ◌+◌, ◌^◌, ◌&&◌, Bool, true, false, not, nat_lt, nat_le, if◌then◌else◌, List, length, slice_get, Option, Some, None, is_some}
use Rattle.std.specs.List.{list_any}
use Rattle.collection_keys.specs.Collections.{Pairs, root, part}
use Rattle.collection_keys.specs.declared.collection.TheConstants.{MAX_PAIRS}
use Rattle.command_words.specs.declared.command.Command.{Command}
use Rattle.command_words.specs.declared.command.Command.TheVariants.{Move, Split, Merge, Redeem, Balance}
use Rattle.condition_sets.specs.Sets.{first_overlap, union_of}
use Rattle.condition_sets.specs.declared.partition.Union.{Union}
use Rattle.condition_sets.specs.declared.partition.Union.TheVariants.{Full, Part}
use Rattle.split_merge.specs.Splitting.{whole_of}
use Rattle.condition_table.specs.declared.facts.Facts.{Facts}

-- ---- what a command names

-- the key of a collection that the command names, as its parent or as its position; the root where it names none
abbrev pub key_of : Command → Pairs
key_of (Move to key amount) = key
key_of (Split parent condition sets amount) = parent
key_of (Merge parent condition sets amount) = parent
key_of (Redeem parent condition sets) = parent
key_of (Balance holder key) = key
key_of command = root

-- a condition with sets of its slots
pub record Sets : Type 0 where
  pub condition : ℕ
  pub sets : List ℕ

-- the condition of which the command names sets, and these
abbrev pub sets_of : Command → Option Sets
sets_of (Split parent condition sets amount) = Some (record { condition = condition; sets = sets })
sets_of (Merge parent condition sets amount) = Some (record { condition = condition; sets = sets })
sets_of (Redeem parent condition sets) = Some (record { condition = condition; sets = sets })
sets_of command = None

-- ---- whether they are right

-- a condition past the last is named
abbrev pub is_unprepared : List Facts → ℕ → Bool
is_unprepared prepared condition = nat_le (length prepared) condition

abbrev pub key_is_unprepared : List Facts → Pairs → Bool
key_is_unprepared prepared key = list_any (λ p. is_unprepared prepared p.0) key

abbrev pub sets_are_unprepared : List Facts → Option Sets → Bool
sets_are_unprepared prepared None = false
sets_are_unprepared prepared (Some s) = is_unprepared prepared s.condition

-- bits that are no set of slots which is neither empty nor full, of a condition that is prepared
abbrev pub is_improper_of : Option Facts → ℕ → Bool
is_improper_of None bits = false
is_improper_of (Some facts) bits = not (nat_lt 0 bits && nat_lt (bits + 1) (2 ^ facts.slots))

abbrev pub is_improper : List Facts → ℕ → ℕ → Bool
is_improper prepared condition bits = is_improper_of (slice_get prepared condition) bits

abbrev pub key_is_improper : List Facts → Pairs → Bool
key_is_improper prepared key = list_any (λ p. is_improper prepared p.0 p.1) key

abbrev pub sets_are_improper : List Facts → Option Sets → Bool
sets_are_improper prepared None = false
sets_are_improper prepared (Some s) = list_any (is_improper prepared s.condition) s.sets

-- sets that are no partition: fewer than two, or two that meet
abbrev pub is_no_partition : List ℕ → Bool
is_no_partition sets = if nat_lt (length sets) 2 then true else is_some (first_overlap sets)

-- the key has the condition already
abbrev pub is_held : Pairs → Option Sets → Bool
is_held key None = false
is_held key (Some s) = is_some (part key s.condition)

-- how many pairs a key may have: a parent gets one more
abbrev pub most_pairs : Option Sets → ℕ
most_pairs None = MAX_PAIRS
most_pairs (Some s) = 3

-- ---- what is split and merged

abbrev pub slots_of : Option Facts → ℕ
slots_of None = 0
slots_of (Some facts) = facts.slots

-- what sets of a condition are together: every slot, or some
abbrev pub union_in : List Facts → ℕ → List ℕ → Union
union_in prepared condition sets = if union_of sets + 1 == 2 ^ slots_of (slice_get prepared condition) then Full else Part (union_of sets)

-- the collection that is split, and that is merged to
abbrev pub whole_in : List Facts → Pairs → ℕ → List ℕ → Pairs
whole_in prepared parent condition sets = whole_of (union_in prepared condition sets) parent condition
