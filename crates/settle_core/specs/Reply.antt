-- The replies, and what the history is after them.
use Rattle.std.specs.Prelude.{◌≡◌, ◌⊎◌, ℕ, ◌+◌, ◌<◌, true, false, if◌then◌else◌, List, [], ◌∷◌, ◌++◌, length, slice_get, Option, Some, None}
use Rattle.command_words.specs.declared.command.Command.{Command}
use Rattle.command_words.specs.declared.command.Command.TheVariants.{Prepare, Event, Redeem, Convert, Place, Bump, Match, Cross, Balance, Order, Vault}
use Rattle.command_words.specs.declared.act.Act.{Act}
use Rattle.command_words.specs.declared.refusal.Refusal.{Refusal}
use Rattle.command_words.specs.declared.refusal.Refusal.TheVariants.{Memory}
use Rattle.command_words.specs.declared.reply.Reply.{Reply}
use Rattle.command_words.specs.declared.reply.Reply.TheVariants.{Done, Prepared, EventMade, Redeemed, Converted, Placed, Bumped, Matched, Crossed, Balanced, Ordered, Vaulted, Refused}
use Rattle.command_words.specs.Command.{makes_act}
use Rattle.command_words.specs.Refusal.{code_of}
use Rattle.convert_positions.specs.Converting.{cash_of, out_of}
use Rattle.event_table.specs.Events.{EventView}
use Rattle.match_kinds.specs.declared.settle.MatchSums.{MatchSums}
use Rattle.settle_core.specs.Crossings.{Crossing, crossing}
use Rattle.settle_core.specs.declared.limits.TheConstants.{MAX_TURNS}
use Rattle.settle_core.specs.Book.{book, conditions, events, sums_in, told}
use Rattle.order_table.specs.Orders.{OrderView, is_open}
use Rattle.settle_core.specs.Matches.{parts_in, sums_in as match_sums}
use Rattle.settle_core.specs.Orders.{nonce, orders, placed}
use Rattle.settle_core.specs.Postings.{vault, balance}
use Rattle.settle_core.specs.Refusals.{Question}
use Rattle.settle_core.specs.Verdict.{verdict}

-- the reply to a conversion in an event: what the caller gets of each of the others' YES, and in cash
abbrev pub converted_reply : ℕ → Option EventView → ℕ → ℕ → Reply
converted_reply lsn None set amount = Done lsn
converted_reply lsn (Some event) set amount = Converted lsn (out_of amount event.bips) (cash_of (out_of amount event.bips) set event.conditions)

-- the reply to a question for an order: what was filled of it, and whether it is open
abbrev pub ordered_reply : ℕ → Option OrderView → Reply
ordered_reply rests None = Ordered 0 false rests
ordered_reply rests (Some order) = Ordered order.filled (is_open order) rests

-- the reply to a match: the taker's fee, what it got before that, and its refund
abbrev pub matched_reply : ℕ → Option MatchSums → Reply
matched_reply lsn None = Done lsn
matched_reply lsn (Some sums) = Matched sums.fee sums.got lsn sums.refund

-- the reply to an accepted command of an account, over the acts before it
abbrev pub accepted_reply : List Act → ℕ → Command → Reply
accepted_reply history a (Prepare oracle question slots) = Prepared (length (conditions history)) (length history)
accepted_reply history a (Event oracle questions fee) = EventMade (length (events history)) (length (conditions history)) (length history)
accepted_reply history a (Redeem parent condition sets) = Redeemed (length history) (sums_in (book history) a parent condition sets (told history condition))
accepted_reply history a (Convert event set amount) = converted_reply (length history) (slice_get (events history) event) set amount
accepted_reply history a (Place market set side making taking expires nonce fee) = Placed (length history) (length (orders history))
accepted_reply history a Bump = Bumped (length history) (nonce history a + 1)
accepted_reply history a (Match taker fill makers) = matched_reply (length history) (match_sums (slice_get (placed history) taker) fill (parts_in (placed history) makers))
accepted_reply history a (Order order) = ordered_reply (length history) (slice_get (orders history) order)
accepted_reply history a (Balance holder key) = Balanced (balance history holder key) (length history)
accepted_reply history a Vault = Vaulted (length history) (vault history)
accepted_reply history a command = Done (length history)

-- the act that an accepted command becomes
abbrev pub act_of : Question → Act
act_of q = record { moment = q.moment; account = q.account; command = q.command }

-- the crossing of a market that is asked for, of so many turns at the most
abbrev pub crossing_in : Question → ℕ → ℕ → Crossing
crossing_in q market turns = crossing q.limits market q.moment turns q.history

-- the reply to it, over so many acts
abbrev pub crossed_reply : ℕ → Crossing → Reply
crossed_reply lsn c = Crossed (length c.acts) lsn c.more c.stop

-- the reply to a command that is accepted, and the history that it leaves: a crossing goes on by the acts of its turns, and any
-- other command by its own act, where it makes one
abbrev pub granted_reply : Question → Command → Reply
granted_reply q (Cross market) = crossed_reply (length q.history) (crossing_in q market MAX_TURNS)
granted_reply q command = accepted_reply q.history q.account command

abbrev pub granted_history : Question → Command → List Act
granted_history q (Cross market) = q.history ++ (crossing_in q market MAX_TURNS).acts
granted_history q command = if makes_act command then q.history ++ act_of q ∷ [] else q.history

abbrev pub reply_by : Option Refusal → Question → Reply
reply_by None q = granted_reply q q.command
reply_by (Some refusal) q = Refused refusal (length q.history)

-- the reply that the rules give
abbrev pub reply_to : Question → Reply
reply_to q = reply_by (verdict q) q

abbrev pub history_by : Option Refusal → Question → List Act
history_by None q = granted_history q q.command
history_by (Some refusal) q = q.history

-- the history that the rules leave: a refused command changes nothing
abbrev pub history_after : Question → List Act
history_after q = history_by (verdict q) q

-- what is answered where memory was wanting: it may come at any time
abbrev pub no_memory : Reply
no_memory = Refused Memory 0

-- the reply to a refusal over a history of this length
abbrev pub refused_reply : Refusal → ℕ → Reply
refused_reply Memory rests = no_memory
refused_reply refusal rests = Refused refusal rests

-- A crossing that may be made ended where memory was wanting, after turns of which each made an act.
pub record IsCutShort (q : Question) (reply : Reply) (after : List Act) : Type 0 where
  pub market : ℕ
  pub turns : ℕ
  pub asks : q.command ≡ Cross market
  pub granted : verdict q ≡ None
  pub fewer : turns < MAX_TURNS
  pub goes_on : (crossing_in q market turns).more ≡ true
  pub told : reply ≡ Crossed (length (crossing_in q market turns).acts) (length q.history) false (code_of Memory)
  pub history : after ≡ q.history ++ (crossing_in q market turns).acts

-- A question is answered, and this is the history afterwards: by the rules; or memory was wanting, and nothing changes, but for
-- the earlier turns of a crossing.
abbrev pub Answered : Question → Reply → List Act → Type 0
Answered q reply after =
    ((reply ≡ reply_to q) × (after ≡ history_after q)) ⊎ (((reply ≡ no_memory) × (after ≡ q.history)) ⊎ IsCutShort q reply after)
