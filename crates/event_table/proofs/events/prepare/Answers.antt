use Rattle.std.proofs.Common.{◌≡◌, ◌+◌, [], ◌∷◌, ◌++◌, length, ◌∙◌, append_assoc, arith, length-append}
use Rattle.std.proofs.lemmas.List.{replicate_more}
use Rattle.event_table.specs.Events.{question_facts}
use Rattle.event_table.proofs.Questions.{facts-push, length-numbers_from, length-questions_from, numbers_from-push, still_new}
use Rattle.event_table.proofs.events.prepare.Goals as goal

pub prepare-condition-requires-clause-within : goal.prepare-condition-requires-clause-within
prepare-condition-requires-clause-within c =
    let count : length c.loop-place.conditions.facts ≡ length c.args.conditions.now.facts + c.loop-place.place = rw c.loop-place.invariant.facts (simp (length-append, length-questions_from)) in
    omega arith

pub push_reserved-requires : goal.push_reserved-requires
push_reserved-requires c =
    let count : length c.loop-place.list.items ≡ c.loop-place.place = rw c.loop-place.invariant.list (length-numbers_from _ _) in
    omega (arith, c.loop-place.list.ok)

pub loop-place-preserved : goal.loop-place-preserved
loop-place-preserved c =
    let inv = c.loop-place.invariant in
    let count : length c.loop-place.conditions.facts ≡ length c.args.conditions.now.facts + c.loop-place.place = rw inv.facts (simp (length-append, length-questions_from)) in
    let prepared : c.prepare-condition.new.self.facts ≡ c.loop-place.conditions.facts ++ question_facts c.args.event c.loop-place.place ∷ [] = rw (c.from.ensures, c.from-in-loop-place.ensures, c.two_slots.ensures) at c.prepare-condition.ensures.facts in
    record {
      list = rw (c.push_reserved.ensures.items, inv.list, c.prepare-condition.ensures.number, count) (numbers_from-push _ _);
      list_room = c.push_reserved.ensures.capacity ∙ inv.list_room;
      facts = rw (prepared, inv.facts) (facts-push _ _ _);
      numerators = rw (c.prepare-condition.ensures.numerators, inv.numerators, append_assoc, replicate_more);
      limit = c.prepare-condition.ensures.limit ∙ inv.limit;
      room = omega arith;
      new = λ k above below. rw prepared (still_new c.loop-place.conditions.facts c.args.event c.loop-place.place k (omega arith) (inv.new k (omega arith) below));
    }
