-- What the rules answer, and what is answered for want of memory.
use Rattle.std.proofs.Common.{◌≡◌, true, List, [], ◌∷◌, ◌++◌, length, Some, None, Err, refl, sym, ◌∙◌, ap, inl, inr}
use Rattle.command_words.specs.Command.{is_reading, makes_act}
use Rattle.command_words.specs.declared.act.Act.{Act}
use Rattle.command_words.specs.declared.command.Command.{Command}
use Rattle.command_words.specs.declared.command.Command.TheVariants.{Cross, Balance, Order, Vault}
use Rattle.command_words.specs.declared.refusal.Refusal.{Refusal}
use Rattle.command_words.specs.declared.refusal.Refusal.TheVariants.{Memory}
use Rattle.command_words.specs.declared.reply.Reply.{Reply}
use Rattle.settle_core.specs.Refusals.{Question}
use Rattle.settle_core.specs.Reply.{Answered, accepted_reply, act_of, granted_history, granted_reply, history_by, refused_reply, reply_by}
use Rattle.settle_core.specs.Verdict.{verdict, AnsweredBy}

-- a refusal by the verdict, or for want of memory
pub refused-answered : (X : Type 0) (q : Question) (refusal : Refusal) (after : List Act) → AnsweredBy {X = X} (verdict q) (Err refusal) → after ≡ q.history
    → Answered q (refused_reply refusal (length q.history)) after
refused-answered X q Memory after by same = inr (inl (refl, same))
refused-answered X q refusal after by same = inl (rw by refl, rw by same)

pub verdict-answered : (q : Question) (refusal : Refusal) (after : List Act) → verdict q ≡ Some refusal → after ≡ q.history
    → Answered q (refused_reply refusal (length q.history)) after
verdict-answered q Memory after by same = inr (inl (refl, same))
verdict-answered q refusal after by same = inl (rw by refl, rw by same)

granted : (q : Question) (reply : Reply) (after : List Act) → verdict q ≡ None → reply ≡ granted_reply q q.command → after ≡ granted_history q q.command → Answered q reply after
granted q reply after none told went = inl (told ∙ sym (ap (λ given. reply_by given q) none), went ∙ sym (ap (λ given. history_by given q) none))

-- a command that becomes an act
pub act-answered : (q : Question) (reply : Reply) (after : List Act) → makes_act q.command ≡ true → verdict q ≡ None → reply ≡ accepted_reply q.history q.account q.command
    → after ≡ q.history ++ act_of q ∷ [] → Answered q reply after
act-answered q reply after acts none told went = granted q reply after none (told ∙ sym (reply_is q.command acts)) (went ∙ sym (history_is q.command acts))
  where
    reply_is : (command : Command) → makes_act command ≡ true → granted_reply q command ≡ accepted_reply q.history q.account command
    reply_is (Cross market) acts = cc
    reply_is command acts = refl

    history_is : (command : Command) → makes_act command ≡ true → granted_history q command ≡ q.history ++ act_of q ∷ []
    history_is (Cross market) acts = cc
    history_is (Balance holder key) acts = cc
    history_is (Order order) acts = cc
    history_is Vault acts = cc
    history_is command acts = refl

-- a reading
pub reading-answered : (q : Question) (reply : Reply) → is_reading q.command ≡ true → verdict q ≡ None → reply ≡ accepted_reply q.history q.account q.command → Answered q reply q.history
reading-answered q reply reads none told = granted q reply q.history none (told ∙ sym (reply_is q.command reads)) (history_is q.command reads)
  where
    reply_is : (command : Command) → is_reading command ≡ true → granted_reply q command ≡ accepted_reply q.history q.account command
    reply_is (Cross market) reads = cc
    reply_is command reads = refl

    history_is : (command : Command) → is_reading command ≡ true → q.history ≡ granted_history q command
    history_is (Balance holder key) reads = refl
    history_is (Order order) reads = refl
    history_is Vault reads = refl
    history_is command reads = cc
