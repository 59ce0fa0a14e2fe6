-- What a crossing has done so far, and how it ends.
use Rattle.std.proofs.Common.{◌≡◌, ℕ, zero, suc, ◌+◌, ◌-◌, ◌<◌, true, false, List, [], ◌∷◌, ◌++◌, length, Option, Some, None, Result, Ok, Err, refl, sym, ◌∙◌, ap, subst, inl, inr, arith, append_assoc, append-nil, length-append}
use Rattle.command_words.specs.Refusal.{code_of}
use Rattle.command_words.specs.declared.act.Act.{Act}
use Rattle.command_words.specs.declared.command.Command.{Command}
use Rattle.command_words.specs.declared.command.Command.TheVariants.{Cross}
use Rattle.command_words.specs.declared.refusal.Refusal.{Refusal}
use Rattle.command_words.specs.declared.refusal.Refusal.TheVariants.{Memory}
use Rattle.command_words.specs.declared.reply.Reply.{Reply}
use Rattle.command_words.specs.declared.reply.Reply.TheVariants.{Crossed}
use Rattle.settle_core.specs.Bounds.{Bounds}
use Rattle.settle_core.specs.Crossings.{Crossing, after_turn, crossing, turn, with_act}
use Rattle.settle_core.specs.Refusals.{Question}
use Rattle.settle_core.specs.Reply.{Answered, crossed_reply, crossing_in, granted_history, granted_reply, history_by, reply_by}
use Rattle.settle_core.specs.Verdict.{verdict}
use Rattle.settle_core.specs.declared.limits.TheConstants.{MAX_TURNS}
use Rattle.ledger_lock.specs.Turns.{TurnedBy, operator_act}
use Rattle.ledger_lock.specs.declared.turned.Turned.TheVariants.{Acted, Over, Stopped}

-- ---- turn by turn

none-taken : (limits : Bounds) (market now : ℕ) (history : List Act) → crossing limits market now zero history ≡ record { acts = []; more = true; stop = 0 }
unfolding crossing
none-taken limits market now history = refl

one-more : (limits : Bounds) (market now turns : ℕ) (history : List Act) → crossing limits market now (suc turns) history ≡ after_turn now (turn limits history market now) (λ act. crossing limits market now turns (history ++ act ∷ []))
unfolding crossing
one-more limits market now turns history = refl

-- a crossing behind some acts
abbrev behind : List Act → Crossing → Crossing
behind acts c = record { acts = acts ++ c.acts; more = c.more; stop = c.stop }

-- turns that make acts each, and then others
parted : (limits : Bounds) (market now turns more : ℕ) (history : List Act) → (crossing limits market now turns history).more ≡ true
    → crossing limits market now (turns + more) history ≡ behind (crossing limits market now turns history).acts (crossing limits market now more (history ++ (crossing limits market now turns history).acts))
parted limits market now zero more history goes_on =
    let none = none-taken limits market now history in
    let same : zero + more ≡ more = omega arith in
    rw (none, same) (ap (λ (h : List Act). crossing limits market now more h) (sym (append-nil history)))
parted limits market now (suc turns) more history goes_on =
    let next : suc turns + more ≡ suc (turns + more) = omega arith in
    rw (next, one-more limits market now (turns + more) history, one-more limits market now turns history)
    (by (λ act. parted limits market now turns more (history ++ act ∷ [])) (turn limits history market now)
    (subst (λ (c : Crossing). c.more ≡ true) (one-more limits market now turns history) goes_on))
  where
    first : ℕ → Act → Crossing
    first n act = crossing limits market now n (history ++ act ∷ [])

    by : ((act : Act) → (first turns act).more ≡ true → first (turns + more) act ≡ behind (first turns act).acts (crossing limits market now more ((history ++ act ∷ []) ++ (first turns act).acts)))
        → (t : Option (Result Command Refusal)) → (after_turn now t (first turns)).more ≡ true
        → after_turn now t (first (turns + more)) ≡ behind (after_turn now t (first turns)).acts (crossing limits market now more (history ++ (after_turn now t (first turns)).acts))
    by later None is = cc
    by later (Some (Err refusal)) is = cc
    by later (Some (Ok command)) is =
        let act = operator_act now command in
        let acts = (first turns act).acts in
        ap (with_act act) (later act is)
        ∙ ap (λ (h : List Act). behind (act ∷ acts) (crossing limits market now more h)) (append_assoc history (act ∷ []) acts)

-- So many turns were taken, each of which made an act, and this is the history then.
pub record IsAmid (limits : Bounds) (market now turns : ℕ) (first history : List Act) : Type 0 where
  pub more : (crossing limits market now turns first).more ≡ true
  pub stop : (crossing limits market now turns first).stop ≡ 0
  pub acts : history ≡ first ++ (crossing limits market now turns first).acts
  pub many : length (crossing limits market now turns first).acts ≡ turns

pub amid-start : (limits : Bounds) (market now : ℕ) (history : List Act) → IsAmid limits market now 0 history history
amid-start limits market now history =
    let none = none-taken limits market now history in
    record { more = rw none refl; stop = rw none refl; acts = rw none (sym (append-nil history)); many = rw none refl }

-- what the crossing comes to with some turns more
goes-on : (limits : Bounds) (market now turns more : ℕ) (first history : List Act) → IsAmid limits market now turns first history
    → crossing limits market now (turns + suc more) first
    ≡ behind (crossing limits market now turns first).acts (after_turn now (turn limits history market now) (λ act. crossing limits market now more (history ++ act ∷ [])))
goes-on limits market now turns more first history amid =
    parted limits market now turns (suc more) first amid.more
    ∙ (ap (λ (h : List Act). behind (crossing limits market now turns first).acts (crossing limits market now (suc more) h)) (sym amid.acts)
    ∙ ap (behind (crossing limits market now turns first).acts) (one-more limits market now more history))

pub amid-more : (limits : Bounds) (market now turns : ℕ) (first history after : List Act) → IsAmid limits market now turns first history → TurnedBy (turn limits history market now) now history Acted after
    → IsAmid limits market now (turns + 1) first after
amid-more limits market now turns first history after amid turned =
    let act = operator_act now turned.0 in
    let acts = (crossing limits market now turns first).acts in
    let is : crossing limits market now (turns + 1) first ≡ record { acts = acts ++ act ∷ []; more = true; stop = 0 }
    = goes-on limits market now turns 0 first history amid
    ∙ (ap (λ (t : Option (Result Command Refusal)). behind acts (after_turn now t (λ a. crossing limits market now 0 (history ++ a ∷ [])))) turned.1
    ∙ ap (λ (c : Crossing). behind acts (with_act act c)) (none-taken limits market now (history ++ act ∷ []))) in
    record {
      more = rw is refl;
      stop = rw is refl;
      acts = rw is (turned.2 ∙ (ap (λ (h : List Act). h ++ act ∷ []) amid.acts ∙ append_assoc first acts (act ∷ [])));
      many = rw is (omega (arith, amid.many, length-append acts (act ∷ [])));
    }

-- ---- how it ends

-- the crossing is over where a turn comes to this
ended : (limits : Bounds) (market now turns : ℕ) (first history : List Act) (t : Option (Result Command Refusal)) → IsAmid limits market now turns first history → turns < MAX_TURNS → turn limits history market now ≡ t
    → crossing limits market now MAX_TURNS first
    ≡ behind (crossing limits market now turns first).acts (after_turn now t (λ act. crossing limits market now (MAX_TURNS - turns - 1) (history ++ act ∷ [])))
ended limits market now turns first history t amid fewer is =
    let more = MAX_TURNS - turns - 1 in
    let all : MAX_TURNS ≡ turns + suc more = omega (arith, fewer) in
    ap (λ (n : ℕ). crossing limits market now n first) all
    ∙ (goes-on limits market now turns more first history amid
    ∙ ap (λ (t : Option (Result Command Refusal)). behind (crossing limits market now turns first).acts (after_turn now t (λ act. crossing limits market now more (history ++ act ∷ [])))) is)

-- a crossing that isn't refused is answered by what it comes to
by-crossing : (q : Question) (market : ℕ) (c : Crossing) (reply : Reply) (after : List Act) → q.command ≡ Cross market → verdict q ≡ None → crossing_in q market MAX_TURNS ≡ c
    → reply ≡ crossed_reply (length q.history) c → after ≡ q.history ++ c.acts → Answered q reply after
by-crossing q market c reply after asks granted is told went =
    let reply_is : reply_by (verdict q) q ≡ crossed_reply (length q.history) c
    = ap (λ g. reply_by g q) granted ∙ (ap (granted_reply q) asks ∙ ap (crossed_reply (length q.history)) is) in
    let history_is : history_by (verdict q) q ≡ q.history ++ c.acts
    = ap (λ g. history_by g q) granted ∙ (ap (granted_history q) asks ∙ ap (λ (d : Crossing). q.history ++ d.acts) is) in
    inl (told ∙ sym reply_is, went ∙ sym history_is)

-- all turns were taken
pub all-taken : (q : Question) (market : ℕ) (reply : Reply) (after : List Act) → q.command ≡ Cross market → verdict q ≡ None
    → IsAmid q.limits market q.moment MAX_TURNS q.history after → reply ≡ Crossed MAX_TURNS (length q.history) true 0 → Answered q reply after
all-taken q market reply after asks granted amid told =
    let c = crossing_in q market MAX_TURNS in
    let is : crossed_reply (length q.history) c ≡ Crossed MAX_TURNS (length q.history) true 0 = rw (amid.many, amid.more, amid.stop) refl in
    by-crossing q market c reply after asks granted refl (told ∙ sym is) amid.acts

-- nothing more is proposed
pub over-answered : (q : Question) (market turns : ℕ) (reply : Reply) (history after : List Act) → q.command ≡ Cross market → verdict q ≡ None
    → IsAmid q.limits market q.moment turns q.history history → turns < MAX_TURNS → TurnedBy (turn q.limits history market q.moment) q.moment history Over after
    → reply ≡ Crossed turns (length q.history) false 0 → Answered q reply after
over-answered q market turns reply history after asks granted amid fewer turned told =
    let acts = (crossing_in q market turns).acts in
    let is = ended q.limits market q.moment turns q.history history None amid fewer turned.0 in
    by-crossing q market (behind acts (record { acts = []; more = false; stop = 0 })) reply after asks granted is
    (rw (append-nil acts, amid.many) told) (rw (append-nil acts) (turned.1 ∙ amid.acts))

-- a turn is refused, or memory was wanting in it
pub stopped-answered : (q : Question) (market turns : ℕ) (refusal : Refusal) (reply : Reply) (history after : List Act) → q.command ≡ Cross market → verdict q ≡ None
    → IsAmid q.limits market q.moment turns q.history history → turns < MAX_TURNS → TurnedBy (turn q.limits history market q.moment) q.moment history (Stopped refusal) after
    → reply ≡ Crossed turns (length q.history) false (code_of refusal) → Answered q reply after
stopped-answered q market turns Memory reply history after asks granted amid fewer turned told =
    inr (inr (record {
      market = market;
      turns = turns;
      asks = asks;
      granted = granted;
      fewer = fewer;
      goes_on = amid.more;
      told = rw amid.many told;
      history = turned ∙ amid.acts;
    }))
stopped-answered q market turns refusal reply history after asks granted amid fewer turned told =
    let acts = (crossing_in q market turns).acts in
    let is = ended q.limits market q.moment turns q.history history (Some (Err refusal)) amid fewer turned.0 in
    by-crossing q market (behind acts (record { acts = []; more = false; stop = code_of refusal })) reply after asks granted is
    (rw (append-nil acts, amid.many) told) (rw (append-nil acts) (turned.1 ∙ amid.acts))
