use Rattle.std.proofs.Common.{◌≡◌, ℕ, ◌+◌, ◌<◌, ◌≤◌, ◌++◌, length, replicate, None, vec_capacity}
use Rattle.condition_table.specs.Conditions.{place_of}
use Rattle.event_table.specs.Events.{numbers_from, question_facts, questions_from}
use Rattle.event_table.proofs.events.prepare.Given as goal

abbrev pub invariant-loop-place : goal.invariant-loop-place
invariant-loop-place l = record {
  list : l.list.items ≡ numbers_from (length l.initial.conditions.facts) l.place;
  list_room : vec_capacity l.list ≡ vec_capacity l.initial.list;
  facts : l.conditions.facts ≡ l.initial.conditions.facts ++ questions_from l.event 0 l.place;
  numerators : l.conditions.numerators ≡ l.initial.conditions.numerators ++ replicate l.place None;
  limit : l.conditions.limit ≡ l.initial.conditions.limit;
  room : l.conditions.room + l.place ≡ l.initial.conditions.room;
  new : (k : ℕ) → l.place ≤ k → k < l.questions → place_of (question_facts l.event k) l.conditions.facts ≡ None;
}
