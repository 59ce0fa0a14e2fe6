-- What an answer rests on, and what it adds to the history.
use Rattle.std.proofs.Common.{◌≡◌, ◌⊎◌, ℕ, ◌≤◌, List, [], ◌∷◌, length, Option, Some, None, Bool, true, false, Result, Ok, Err, refl, ap, inl, inr, arith, length-append}
use Rattle.std.specs.Prelude.{MatchBool, slice_get}
use Rattle.line_link.specs.Lines.{Heard, kept, too_long}
use Rattle.command_words.specs.Reply.{rests_of}
use Rattle.command_words.specs.declared.act.Act.{Act}
use Rattle.command_words.specs.declared.command.Command.{Command}
use Rattle.command_words.specs.declared.command.Command.TheVariants.{Cross, Balance, Order, Vault}
use Rattle.command_words.specs.declared.refusal.Refusal.{Refusal}
use Rattle.command_words.specs.declared.line_fault.LineFault.{LineFault}
use Rattle.command_words.specs.declared.reply.Reply.{Reply}
use Rattle.command_words.specs.declared.reply.Reply.TheVariants.{Bad}
use Rattle.settle_core.specs.Bounds.{Bounds}
use Rattle.settle_core.specs.Orders.{orders}
use Rattle.settle_core.specs.Reply.{Answered, IsCutShort, act_of, crossing_in, granted_history, granted_reply, history_by, ordered_reply, reply_by}
use Rattle.settle_core.specs.Refusals.{Question}
use Rattle.settle_core.specs.Verdict.{verdict}
use Rattle.settle_core.specs.declared.limits.TheConstants.{MAX_TURNS}
use Rattle.settle_core.proofs.Posted.{accepted-rests}
use Rattle.exchange_top.specs.Holds.{IsFront}
use Rattle.exchange_top.proofs.Stores.{front-same}
use Rattle.wire_json.specs.Request.{request}
use Rattle.exchange_top.specs.Talk.{AnsweredLine, AnsweredRequest, is_unread}
use Rattle.wire_json.specs.declared.request.Request.{Request}

-- the history goes on, and the reply rests on no more than it has then
pub record IsSmallStep (before after : List Act) (reply : Reply) : Type 0 where
  pub step : IsFront before after
  pub rests : rests_of reply ≤ length after

-- nothing is added, and the reply rests on nothing
quiet-step : (before after : List Act) (reply : Reply) → rests_of reply ≡ 0 → after ≡ before → IsSmallStep before after reply
quiet-step before after reply none same = record { step = rw same (front-same before); rests = omega (arith, none) }

-- what the rules give to a command that is accepted
granted-step : (q : Question) (command : Command) → IsSmallStep q.history (granted_history q command) (granted_reply q command)
granted-step q (Cross market) =
    let acts = (crossing_in q market MAX_TURNS).acts in
    record { step = (acts, refl); rests = omega (arith, length-append q.history acts) }
granted-step q (Order order) = record { step = front-same q.history; rests = omega (arith, reading (slice_get (orders q.history) order)) }
  where
    reading : (o : Option _) → rests_of (ordered_reply (length q.history) o) ≡ length q.history
    reading None = refl
    reading (Some v) = refl
granted-step q (Balance holder key) = record { step = front-same q.history; rests = omega arith }
granted-step q Vault = record { step = front-same q.history; rests = omega arith }
granted-step q command = record { step = (act_of q ∷ [], refl); rests = omega (arith, length-append {A = Act} q.history (act_of q ∷ []), accepted-rests q.history q.account command refl) }

given-step : (given : Option Refusal) (q : Question) → IsSmallStep q.history (history_by given q) (reply_by given q)
given-step None q = granted-step q q.command
given-step (Some refusal) q = record { step = front-same q.history; rests = omega arith }

-- a crossing that ended where memory was wanting
cut-step : (q : Question) (reply : Reply) (after : List Act) → IsCutShort q reply after → IsSmallStep q.history after reply
cut-step q reply after cut =
    let acts = (crossing_in q cut.market cut.turns).acts in
    record { step = (acts, cut.history); rests = omega (arith, ap rests_of cut.told, ap length cut.history, length-append q.history acts) }

same-step : (before after next : List Act) (reply told : Reply) → next ≡ after → told ≡ reply → IsSmallStep before after reply → IsSmallStep before next told
same-step before after next reply told same equal small = rw (same, equal) small

answered-step : (q : Question) (reply : Reply) (after : List Act) → Answered q reply after → IsSmallStep q.history after reply
answered-step q reply after (inl ruled) = same-step q.history (history_by (verdict q) q) after (reply_by (verdict q) q) reply ruled.1 ruled.0 (given-step (verdict q) q)
answered-step q reply after (inr (inl none)) = quiet-step q.history after reply (ap rests_of none.0) none.1
answered-step q reply after (inr (inr cut)) = cut-step q reply after cut

by_test : {A B : Type 0} (b : Bool) → MatchBool b A B → ((b ≡ true) × A) ⊎ B
by_test true one = inl (refl, one)
by_test false other = inr other

request-step : (limits : Bounds) (history after : List Act) (read : Result Request LineFault) (moment : ℕ) (reply : Reply)
    → AnsweredRequest limits history read moment reply after → IsSmallStep history after reply
request-step limits history after (Ok r) moment reply answered =
    answered-step (record { limits = limits; history = history; account = r.account; command = r.command; moment = moment }) reply after answered
request-step limits history after (Err fault) moment reply answered = quiet-step history after reply (ap rests_of answered.0) answered.1

unread-rests : (reply : Reply) → is_unread reply ≡ true → rests_of reply ≡ 0
unread-rests (Bad fault) unread = refl
unread-rests reply unread = cc

-- each line makes a small step
pub line-step : (limits : Bounds) (history after : List Act) (line : Heard) (moment : ℕ) (reply : Reply)
    → AnsweredLine limits history line moment reply after → IsSmallStep history after reply
line-step limits history after too_long moment reply answered = quiet-step history after reply (ap rests_of answered.0) answered.1
line-step limits history after (kept text) moment reply answered =
    elim (by_test (is_unread reply) answered) [
      | inl unread ↦ quiet-step history after reply (unread-rests reply unread.0) unread.1
      | inr read ↦ request-step limits history after (request text) moment reply read
    ]
