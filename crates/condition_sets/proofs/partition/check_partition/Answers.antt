use Rattle.std.proofs.Common.{◌≡◌, ◌≤◌, ℕ, List, length, slice_index, take, Some, None, refl, ap, sym, arith, ◌∙◌}
use Rattle.std.specs.Int.Bits.{bit_and, bit_or}
use Rattle.std.proofs.lemmas.Bool.{false≢true}
use Rattle.std.proofs.lemmas.List.{get_or_default, take_all}
use Rattle.std.proofs.lemmas.List.Sums.{fold_more}
use Rattle.condition_sets.specs.Sets.{meets_earlier, union_of, first_overlap}
use Rattle.condition_sets.specs.Places.{first_place}
use Rattle.condition_sets.proofs.Unions.{AreApart_from_none, none_overlaps_more, first_overlap_is, union_is_full}
use Rattle.condition_sets.proofs.partition.check_partition.Goals as goal

-- at the end of the loop no place overlaps
none_overlaps_at_end : (sets : List ℕ) (place : ℕ) → length sets ≤ place → place ≤ length sets → first_place (meets_earlier sets) place ≡ None → first_overlap sets ≡ None
none_overlaps_at_end sets place past within none = let same : place ≡ length sets = omega arith in rw (← same) none

pub loop-place-init : goal.loop-place-init
loop-place-init c = record { union_is = refl; none_overlaps = refl }

pub returns-then-union-bits-ne0-clause-overlap : goal.returns-then-union-bits-ne0-clause-overlap
returns-then-union-bits-ne0-clause-overlap c =
    let sets = c.args.sets.now in
    let set : c.bits.result ≡ slice_index sets c.loop-place.place
    = c.bits.ensures.value ∙ c.index-sets-place.is ∙ get_or_default sets c.loop-place.place c.index-sets-place.result 0 c.loop-place-test.true in
    let found : first_overlap sets ≡ Some c.loop-place.place
    = first_overlap_is sets c.loop-place.place c.loop-place-test.true c.loop-place.invariant.none_overlaps
    (λ apart. c.if-union-bits-ne0.true (rw (c.loop-place.invariant.union_is, set) apart)) in
    λ place. (λ same. cc, λ some. cc)

pub loop-place-preserved : goal.loop-place-preserved
loop-place-preserved c =
    let sets = c.args.sets.now in
    let place = c.loop-place.place in
    let set : c.index-sets-place.result ≡ slice_index sets place
    = c.index-sets-place.is ∙ get_or_default sets place c.index-sets-place.result 0 c.loop-place-test.true in
    let apart : bit_and (union_of (take place sets)) (slice_index sets place) ≡ 0
    = rw (← c.loop-place.invariant.union_is, ← set, ← c.bits.ensures.value) c.if-union-bits-ne0.false in
    record {
      union_is = rw (c.loop-place.invariant.union_is, c.bits-union.ensures.value, set) (sym (fold_more bit_or 0 sets place 0 c.loop-place-test.true));
      none_overlaps = none_overlaps_more sets place c.loop-place.invariant.none_overlaps apart;
    }

pub returns-in-Some-clause-overlap : goal.returns-in-Some-clause-overlap
returns-in-Some-clause-overlap c =
    let none = none_overlaps_at_end c.args.sets.now c.loop-place.place c.loop-place-test.false c.loop-place.auto.place-end c.loop-place.invariant.none_overlaps in
    λ place. (λ same. cc, λ some. cc)

pub returns-in-Some-clause-apart : goal.returns-in-Some-clause-apart
returns-in-Some-clause-apart c =
    AreApart_from_none c.args.sets.now
    (none_overlaps_at_end c.args.sets.now c.loop-place.place c.loop-place-test.false c.loop-place.auto.place-end c.loop-place.invariant.none_overlaps)

pub returns-in-Some-clause-part : goal.returns-in-Some-clause-part
returns-in-Some-clause-part c =
    let sets = c.args.sets.now in
    let union : c.loop-place.union ≡ union_of sets
    = c.loop-place.invariant.union_is ∙ ap union_of (take_all c.loop-place.place sets c.loop-place-test.false) in
    λ set same.
    let is : set ≡ c.loop-place.union = cc c.in-Some.ensures.value in
    (is ∙ union, rw is (c.in-Some.ensures.valid.0 refl))

pub returns-in-None-clause-overlap : goal.returns-in-None-clause-overlap
returns-in-None-clause-overlap c =
    let none = none_overlaps_at_end c.args.sets.now c.loop-place.place c.loop-place-test.false c.loop-place.auto.place-end c.loop-place.invariant.none_overlaps in
    λ place. (λ same. cc, λ some. cc)

pub returns-in-None-clause-apart : goal.returns-in-None-clause-apart
returns-in-None-clause-apart c =
    AreApart_from_none c.args.sets.now
    (none_overlaps_at_end c.args.sets.now c.loop-place.place c.loop-place-test.false c.loop-place.auto.place-end c.loop-place.invariant.none_overlaps)

pub returns-in-None-clause-full : goal.returns-in-None-clause-full
returns-in-None-clause-full c =
    let sets = c.args.sets.now in
    let union : c.loop-place.union ≡ union_of sets
    = c.loop-place.invariant.union_is ∙ ap union_of (take_all c.loop-place.place sets c.loop-place-test.false) in
    λ same. union_is_full c.args.slots sets (omega arith) c.requires (λ proper. false≢true (c.in-None.ensures.valid.1 (rw union proper)))
