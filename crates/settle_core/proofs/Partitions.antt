-- What is split and merged where that is accepted: proper sets of a prepared condition, which are apart, and which the
-- parent hasn't.
use Rattle.std.proofs.Common.{◌≡◌, ℕ, ◌+◌, ◌<◌, ◌^◌, Bool, true, false, List, [], ◌∷◌, length, All, Option, Some, None, refl, arith, inl, inr}
use Rattle.std.specs.Prelude.{nat_lt, cond, is_some, slice_get}
use Rattle.std.specs.List.{list_any}
use Rattle.std.proofs.lemmas.Bool.{or_parts, leb-false, ltb-true, ltb-false, and_parts, not-false}
use Rattle.std.proofs.lemmas.List.Elements.{All-nil, All-cons}
use Rattle.std.proofs.lemmas.Option.{slice_get_cases}
use Rattle.collection_keys.specs.Collections.{Pairs, part}
use Rattle.condition_sets.specs.Sets.{IsProper, AreApart, first_overlap}
use Rattle.condition_sets.proofs.Unions.{AreApart_from_none}
use Rattle.command_words.specs.declared.act.Act.{Act}
use Rattle.command_words.specs.declared.command.Command.TheVariants.{Split, Merge, Redeem}
use Rattle.settle_core.specs.Book.{conditions}
use Rattle.settle_core.specs.Bounds.{Bounds}
use Rattle.settle_core.specs.Keys.{is_unprepared, key_is_unprepared, is_improper, is_improper_of, key_is_improper, is_no_partition}
use Rattle.settle_core.specs.Refusals.{Question}
use Rattle.condition_table.specs.declared.facts.Facts.{Facts}
use Rattle.settle_core.proofs.Verdicts.{AreNone, earlier, accepted-prepared, accepted-proper, accepted-partition, accepted-free}

-- Sets that may be split and merged: of a prepared condition that the parent hasn't, each of them proper for it, at least
-- two, and none sharing a slot with those before it.
pub record IsPartition (prepared : List Facts) (parent : Pairs) (condition : ℕ) (sets : List ℕ) : Type 0 where
  pub facts : Facts
  pub is_prepared : slice_get prepared condition ≡ Some facts
  pub proper : All (IsProper facts.slots) sets
  pub several : 1 < length sets
  pub apart : AreApart sets
  pub free : part parent condition ≡ None

-- what isn't something is nothing
pub is_none : {X : Type 0} (o : Option X) → is_some o ≡ false → o ≡ None
is_none None none = refl
is_none (Some x) none = cc

-- a set that isn't improper is proper
proper-one : (facts : Facts) (bits : ℕ) → is_improper_of (Some facts) bits ≡ false → IsProper facts.slots bits
proper-one facts bits proper =
    let both = and_parts (nat_lt 0 bits) (nat_lt (bits + 1) (2 ^ facts.slots)) (not-false _ proper) in
    record { nonempty = ltb-true _ _ both.0; not_full = ltb-true _ _ both.1 }

-- the same of each of some
proper-each : (prepared : List Facts) (condition : ℕ) (facts : Facts) (sets : List ℕ) → slice_get prepared condition ≡ Some facts
    → list_any (is_improper prepared condition) sets ≡ false → All (IsProper facts.slots) sets
proper-each prepared condition facts [] is proper = All-nil (IsProper facts.slots)
proper-each prepared condition facts (x ∷ xs) is proper =
    let parts = or_parts (is_improper prepared condition x) (list_any (is_improper prepared condition) xs) proper in
    All-cons (IsProper facts.slots) x xs (proper-one facts x (rw is at parts.0)) (proper-each prepared condition facts xs is parts.1)

-- sets that aren't no partition are neither few nor do they meet
several-apart : (few meet : Bool) → cond few true meet ≡ false → (few ≡ false) × (meet ≡ false)
several-apart true meet none = cc
several-apart false meet none = (refl, none)

-- What may be redeemed: sets of a prepared condition that the parent hasn't, each of them proper for it.
pub record IsChoice (prepared : List Facts) (parent : Pairs) (condition : ℕ) (sets : List ℕ) : Type 0 where
  pub facts : Facts
  pub is_prepared : slice_get prepared condition ≡ Some facts
  pub proper : All (IsProper facts.slots) sets
  pub free : part parent condition ≡ None

-- what no refusal names may be
pub choice-of : (prepared : List Facts) (parent : Pairs) (condition : ℕ) (sets : List ℕ) → is_unprepared prepared condition ≡ false
    → list_any (is_improper prepared condition) sets ≡ false → is_some (part parent condition) ≡ false → IsChoice prepared parent condition sets
choice-of prepared parent condition sets there proper free =
    let inside : condition < length prepared = leb-false _ _ there in
    elim ((slice_get_cases prepared condition).1) [
      | inl found ↦ record {
        facts = found.0;
        is_prepared = found.2;
        proper = proper-each prepared condition found.0 sets found.2 proper;
        free = is_none (part parent condition) free;
      }
      | inr past ↦ absurd (omega (arith, past.0))
    ]

-- what no refusal names is a partition
pub partition-of : (prepared : List Facts) (parent : Pairs) (condition : ℕ) (sets : List ℕ) → is_unprepared prepared condition ≡ false
    → list_any (is_improper prepared condition) sets ≡ false → is_no_partition sets ≡ false → is_some (part parent condition) ≡ false → IsPartition prepared parent condition sets
partition-of prepared parent condition sets there proper apart free =
    let is = choice-of prepared parent condition sets there proper free in
    let parts = several-apart (nat_lt (length sets) 2) (is_some (first_overlap sets)) apart in
    record {
      facts = is.facts;
      is_prepared = is.is_prepared;
      proper = is.proper;
      several = ltb-false (length sets) 2 parts.0;
      apart = AreApart_from_none sets (is_none (first_overlap sets) parts.1);
      free = is.free;
    }

-- what an accepted redemption names may be
pub accepted-redeem : (limits : Bounds) (history : List Act) (account moment : ℕ) (parent : Pairs) (condition : ℕ) (sets : List ℕ)
    → AreNone (earlier (record { limits = limits; history = history; account = account; command = Redeem parent condition sets; moment = moment }))
    → IsChoice (conditions history) parent condition sets
accepted-redeem limits history account moment parent condition sets none =
    let q : Question = record { limits = limits; history = history; account = account; command = Redeem parent condition sets; moment = moment } in
    let there = or_parts (key_is_unprepared (conditions history) parent) (is_unprepared (conditions history) condition) (accepted-prepared q none) in
    let proper = or_parts (key_is_improper (conditions history) parent) (list_any (is_improper (conditions history) condition) sets) (accepted-proper q none) in
    choice-of (conditions history) parent condition sets there.1 proper.1 (accepted-free q none)

-- an accepted split's sets are one
pub accepted-split : (limits : Bounds) (history : List Act) (account moment : ℕ) (parent : Pairs) (condition : ℕ) (sets : List ℕ) (amount : ℕ)
    → AreNone (earlier (record { limits = limits; history = history; account = account; command = Split parent condition sets amount; moment = moment }))
    → IsPartition (conditions history) parent condition sets
accepted-split limits history account moment parent condition sets amount none =
    let q : Question = record { limits = limits; history = history; account = account; command = Split parent condition sets amount; moment = moment } in
    let there = or_parts (key_is_unprepared (conditions history) parent) (is_unprepared (conditions history) condition) (accepted-prepared q none) in
    let proper = or_parts (key_is_improper (conditions history) parent) (list_any (is_improper (conditions history) condition) sets) (accepted-proper q none) in
    partition-of (conditions history) parent condition sets there.1 proper.1 (accepted-partition q none) (accepted-free q none)

-- an accepted merge's sets are one too
pub accepted-merge : (limits : Bounds) (history : List Act) (account moment : ℕ) (parent : Pairs) (condition : ℕ) (sets : List ℕ) (amount : ℕ)
    → AreNone (earlier (record { limits = limits; history = history; account = account; command = Merge parent condition sets amount; moment = moment }))
    → IsPartition (conditions history) parent condition sets
accepted-merge limits history account moment parent condition sets amount none =
    let q : Question = record { limits = limits; history = history; account = account; command = Merge parent condition sets amount; moment = moment } in
    let there = or_parts (key_is_unprepared (conditions history) parent) (is_unprepared (conditions history) condition) (accepted-prepared q none) in
    let proper = or_parts (key_is_improper (conditions history) parent) (list_any (is_improper (conditions history) condition) sets) (accepted-proper q none) in
    partition-of (conditions history) parent condition sets there.1 proper.1 (accepted-partition q none) (accepted-free q none)
