-- The talk: what each line is answered, and the history that the answers leave.
use Rattle.std.specs.Prelude.{◌≡◌, ℕ, Bool, true, false, MatchBool, List, [], ◌∷◌, Result, Ok, Err}
use Rattle.line_link.specs.Lines.{Heard, kept, too_long}
use Rattle.command_words.specs.declared.act.Act.{Act}
use Rattle.command_words.specs.declared.line_fault.LineFault.{LineFault}
use Rattle.command_words.specs.declared.line_fault.LineFault.TheVariants.{TooLong, Memory}
use Rattle.command_words.specs.declared.reply.Reply.{Reply}
use Rattle.command_words.specs.declared.reply.Reply.TheVariants.{Bad}
use Rattle.settle_core.specs.Bounds.{Bounds}
use Rattle.settle_core.specs.Reply.{Answered}
use Rattle.wire_json.specs.Request.{request}
use Rattle.wire_json.specs.declared.request.Request.{Request}

-- one line with its answer: what was heard, the moment that was taken for it, and the reply
pub record Turn : Type 0 where
  pub line : Heard
  pub moment : ℕ
  pub reply : Reply

abbrev pub is_memory_fault : LineFault → Bool
is_memory_fault Memory = true
is_memory_fault fault = false

-- whether a reply says that memory was wanting as the line was read
abbrev pub is_unread : Reply → Bool
is_unread (Bad fault) = is_memory_fault fault
is_unread reply = false

-- a line is answered with a fault, which changes nothing
abbrev pub AnsweredFault : List Act → LineFault → Reply → List Act → Type 0
AnsweredFault history fault reply after = (reply ≡ Bad fault) × (after ≡ history)

-- a request is answered by the rules of the exchange, and a faulty line with its fault
abbrev pub AnsweredRequest : Bounds → List Act → Result Request LineFault → ℕ → Reply → List Act → Type 0
AnsweredRequest limits history (Ok r) moment reply after = Answered (record { limits = limits; history = history; account = r.account; command = r.command; moment = moment }) reply after
AnsweredRequest limits history (Err fault) moment reply after = AnsweredFault history fault reply after

-- A line is answered at a moment over a history, and this is the history afterwards. Want of memory may be answered
-- to any line that isn't too long, and changes nothing.
abbrev pub AnsweredLine : Bounds → List Act → Heard → ℕ → Reply → List Act → Type 0
AnsweredLine limits history too_long moment reply after = AnsweredFault history TooLong reply after
AnsweredLine limits history (kept text) moment reply after =
    MatchBool (is_unread reply) (after ≡ history) (AnsweredRequest limits history (request text) moment reply after)

-- the turns lead, one after another, from the first history to the last
abbrev pub IsTalk : Bounds → List Act → List Turn → List Act → Type 0
IsTalk limits first [] last = last ≡ first
IsTalk limits first (turn ∷ turns) last =
    (next : List Act) × AnsweredLine limits first turn.line turn.moment turn.reply next × IsTalk limits next turns last
