-- A body that is read is the body that was written, and what was written is read again.
use Rattle.std.proofs.Common.{◌≡◌, ℕ, ◌^◌, ◌<◌, Bool, true, false, cond, eqb, List, [], ◌∷◌, ◌++◌, Option, Some, None, refl, sym, ap, subst, ◌∙◌, arith, inl, inr}
use Rattle.std.specs.Prelude.{◌⊎◌, ⊤}
use Rattle.std.specs.Int.{w16, w64, to_be_bytes}
use Rattle.std.proofs.lemmas.Bool.{eqb-true}
use Rattle.command_words.specs.Command.{makes_act}
use Rattle.command_words.specs.Ranges.{is_condition, is_event}
use Rattle.command_words.specs.declared.command.Command.{Command}
use Rattle.command_words.specs.declared.command.Command.TheVariants.{Deposit, Withdraw, Move, Prepare, Event, Split, Merge, Report, Answer, Redeem, Convert, Market, Place, Cancel, Bump, Match, Lapse, Cross, Balance, Order, Vault}
use Rattle.order_rules.specs.declared.side.Side.{Side}
use Rattle.order_rules.specs.declared.side.Side.TheVariants.{Buy, Sell}
use Rattle.act_bytes.specs.Spelling.{key_bytes, sets_bytes, fills_bytes, answer_byte, side_byte, kind_of, order_bytes, condition_bytes, body_bytes}
use Rattle.act_bytes.specs.Reading.{Field, made, ◌and◌, first_byte, next_number, answer_of, side_of, next_answer, next_side, next_key, next_sets, next_fills, next_condition, next_event, next_named, next_deposit, next_withdraw, next_move, next_prepare, next_event_body, next_split, next_merge, next_report, next_answer_body, next_redeem, next_convert, next_market, next_place, next_cancel, next_bump, next_match, next_lapse, next_order_body, next_condition_body, next_body}
use Rattle.act_bytes.specs.Bodies.{IsKey, IsSets, IsFills, IsCondition, IsNamed, HasRoom}
use Rattle.act_bytes.proofs.Fields.{IsBytes, some_is, Takes, IsField, byte-field, u16-field, u32-field, u64-field, and-field, checked-field, told-field, nothing-field, counted-field, made-takes, made-again}

chosen : {A : Type 0} (b : Bool) (x y z : A) → cond b x y ≡ z → ((b ≡ true) × (x ≡ z)) ⊎ ((b ≡ false) × (y ≡ z))
chosen true x y z e = inl (refl, e)
chosen false x y z e = inr (refl, e)

none-is : {B : Type 0} (word : B) → None ≡ Some word → ⊥
none-is word e = cc

-- ---- the fields of acts

key-field : IsField next_key key_bytes IsKey
unfolding next_key key_bytes
key-field = counted-field (and-field u16-field u32-field)

sets-field : IsField next_sets sets_bytes IsSets
unfolding next_sets sets_bytes
sets-field = counted-field u32-field

fills-field : IsField next_fills fills_bytes IsFills
unfolding next_fills fills_bytes
fills-field = counted-field (and-field u32-field u64-field)

condition-field : IsField next_condition (to_be_bytes w16) (λ n. (n < 2 ^ 16) × (is_condition n ≡ true))
condition-field = checked-field is_condition u16-field

event-field : IsField next_event (to_be_bytes w16) (λ n. (n < 2 ^ 16) × (is_event n ≡ true))
event-field = checked-field is_event u16-field

-- a row of two words, told by 0 and by 1
two-words : {B : Type 0} (n : ℕ) (first second word : B) → cond (eqb n 0) (Some first) (cond (eqb n 1) (Some second) None) ≡ Some word → ((n ≡ 0) × (first ≡ word)) ⊎ ((n ≡ 1) × (second ≡ word))
two-words n first second word e =
    elim (chosen (eqb n 0) (Some first) (cond (eqb n 1) (Some second) None) (Some word) e) [
      | inl here ↦ inl (eqb-true n 0 here.0, some_is first word here.1)
      | inr later ↦ elim (chosen (eqb n 1) (Some second) None (Some word) later.1) [
        | inl here ↦ inr (eqb-true n 1 here.0, some_is second word here.1)
        | inr none ↦ absurd (none-is word none.1)
      ]
    ]

answer-right : (n : ℕ) (answer : Bool) → answer_of n ≡ Some answer → answer_byte answer ≡ n
answer-right n answer e =
    elim (two-words n false true answer e) [
      | inl here ↦ ap answer_byte (sym here.1) ∙ sym here.0
      | inr here ↦ ap answer_byte (sym here.1) ∙ sym here.0
    ]

answer-left : (answer : Bool) → answer_of (answer_byte answer) ≡ Some answer
answer-left false = refl
answer-left true = refl

answer-room : (answer : Bool) → answer_byte answer < 256
answer-room false = omega arith
answer-room true = omega arith

answer-field : IsField next_answer (λ answer. answer_byte answer ∷ []) (λ answer. ⊤)
answer-field = told-field answer_of answer_byte (record { right = answer-right; left = answer-left; room = answer-room }) byte-field

side-right : (n : ℕ) (side : Side) → side_of n ≡ Some side → side_byte side ≡ n
side-right n side e =
    elim (two-words n Buy Sell side e) [
      | inl here ↦ ap side_byte (sym here.1) ∙ sym here.0
      | inr here ↦ ap side_byte (sym here.1) ∙ sym here.0
    ]

side-left : (side : Side) → side_of (side_byte side) ≡ Some side
side-left Buy = refl
side-left Sell = refl

side-room : (side : Side) → side_byte side < 256
side-room Buy = omega arith
side-room Sell = omega arith

side-field : IsField next_side (λ side. side_byte side ∷ []) (λ side. ⊤)
side-field = told-field side_of side_byte (record { right = side-right; left = side-left; room = side-room }) byte-field

named-field : IsField next_named (λ x. key_bytes x.0.0 ++ to_be_bytes w16 x.0.1 ++ sets_bytes x.1) (λ x. IsNamed x.0.0 x.0.1 x.1)
unfolding next_named
named-field = and-field (and-field key-field condition-field) sets-field

-- ---- reading what was written

-- the bytes of a command of the kind of a number, with others behind them
pub record IsBodyOf (kind : ℕ) (bytes : List ℕ) (command : Command) (rest : List ℕ) : Type 0 where
  pub number : kind_of command ≡ kind
  pub takes : Takes bytes (body_bytes command) rest

-- commands of one kind are made of the values of one field
record IsKind {A : Type 0} (kind : ℕ) (f : A → Command) (bytes-of : A → List ℕ) : Type 0 where
  number : (x : A) → kind_of (f x) ≡ kind
  body : (x : A) → body_bytes (f x) ≡ bytes-of x

kind-takes : {A : Type 0} {field : Field A} {bytes-of : A → List ℕ} {Fits : A → Type 0} (kind : ℕ) (f : A → Command) → IsField field bytes-of Fits → IsKind kind f bytes-of
    → (bytes rest : List ℕ) (command : Command) → IsBytes bytes → made f field bytes ≡ Some (command, rest) → IsBodyOf kind bytes command rest
kind-takes kind f law is bytes rest command fits e =
    let m = made-takes f law bytes rest command fits e in
    let takes : Takes bytes (body_bytes (f m.0)) rest = subst (λ (text : List ℕ). Takes bytes text rest) (sym (is.body m.0)) m.2 in
    subst (λ (c : Command). IsBodyOf kind bytes c rest) m.1 (record { number = is.number m.0; takes = takes })

or-else : (kind n : ℕ) (bytes rest : List ℕ) (command : Command) (x y : Option (Command × List ℕ)) → (x ≡ Some (command, rest) → IsBodyOf n bytes command rest) → (y ≡ Some (command, rest) → IsBodyOf kind bytes command rest)
    → cond (eqb kind n) x y ≡ Some (command, rest) → IsBodyOf kind bytes command rest
or-else kind n bytes rest command x y here later e =
    elim (chosen (eqb kind n) x y (Some (command, rest)) e) [
      | inl is ↦ subst (λ (k : ℕ). IsBodyOf k bytes command rest) (sym (eqb-true kind n is.0)) (here is.1)
      | inr is ↦ later is.1
    ]

-- ---- kinds 1 to 5

deposit-takes : (bytes rest : List ℕ) (command : Command) → IsBytes bytes → next_deposit bytes ≡ Some (command, rest) → IsBodyOf 1 bytes command rest
unfolding next_deposit body_bytes
deposit-takes = kind-takes 1 (λ x. Deposit x.0 x.1) (and-field u16-field u64-field) (record { number = λ x. refl; body = λ x. refl })

withdraw-takes : (bytes rest : List ℕ) (command : Command) → IsBytes bytes → next_withdraw bytes ≡ Some (command, rest) → IsBodyOf 2 bytes command rest
unfolding next_withdraw body_bytes
withdraw-takes = kind-takes 2 (λ amount. Withdraw amount) u64-field (record { number = λ x. refl; body = λ x. refl })

move-takes : (bytes rest : List ℕ) (command : Command) → IsBytes bytes → next_move bytes ≡ Some (command, rest) → IsBodyOf 3 bytes command rest
unfolding next_move body_bytes
move-takes = kind-takes 3 (λ x. Move x.0.0 x.0.1 x.1) (and-field (and-field u16-field key-field) u64-field) (record { number = λ x. refl; body = λ x. refl })

prepare-takes : (bytes rest : List ℕ) (command : Command) → IsBytes bytes → next_prepare bytes ≡ Some (command, rest) → IsBodyOf 4 bytes command rest
unfolding next_prepare body_bytes
prepare-takes = kind-takes 4 (λ x. Prepare x.0.0 x.0.1 x.1) (and-field (and-field u16-field u64-field) byte-field) (record { number = λ x. refl; body = λ x. refl })

event-takes : (bytes rest : List ℕ) (command : Command) → IsBytes bytes → next_event_body bytes ≡ Some (command, rest) → IsBodyOf 5 bytes command rest
unfolding next_event_body body_bytes
event-takes = kind-takes 5 (λ x. Event x.0.0 x.0.1 x.1) (and-field (and-field u16-field byte-field) u16-field) (record { number = λ x. refl; body = λ x. refl })

-- ---- kinds of conditions, 6 to 11

split-takes : (bytes rest : List ℕ) (command : Command) → IsBytes bytes → next_split bytes ≡ Some (command, rest) → IsBodyOf 6 bytes command rest
unfolding next_split body_bytes condition_bytes
split-takes = kind-takes 6 (λ x. Split x.0.0.0 x.0.0.1 x.0.1 x.1) (and-field named-field u64-field) (record { number = λ x. refl; body = λ x. refl })

merge-takes : (bytes rest : List ℕ) (command : Command) → IsBytes bytes → next_merge bytes ≡ Some (command, rest) → IsBodyOf 7 bytes command rest
unfolding next_merge body_bytes condition_bytes
merge-takes = kind-takes 7 (λ x. Merge x.0.0.0 x.0.0.1 x.0.1 x.1) (and-field named-field u64-field) (record { number = λ x. refl; body = λ x. refl })

report-takes : (bytes rest : List ℕ) (command : Command) → IsBytes bytes → next_report bytes ≡ Some (command, rest) → IsBodyOf 8 bytes command rest
unfolding next_report body_bytes condition_bytes
report-takes = kind-takes 8 (λ x. Report x.0 x.1) (and-field condition-field sets-field) (record { number = λ x. refl; body = λ x. refl })

answer-takes : (bytes rest : List ℕ) (command : Command) → IsBytes bytes → next_answer_body bytes ≡ Some (command, rest) → IsBodyOf 9 bytes command rest
unfolding next_answer_body body_bytes condition_bytes
answer-takes = kind-takes 9 (λ x. Answer x.0.0 x.0.1 x.1) (and-field (and-field event-field byte-field) answer-field) (record { number = λ x. refl; body = λ x. refl })

redeem-takes : (bytes rest : List ℕ) (command : Command) → IsBytes bytes → next_redeem bytes ≡ Some (command, rest) → IsBodyOf 10 bytes command rest
unfolding next_redeem body_bytes condition_bytes
redeem-takes = kind-takes 10 (λ x. Redeem x.0.0 x.0.1 x.1) named-field (record { number = λ x. refl; body = λ x. refl })

convert-takes : (bytes rest : List ℕ) (command : Command) → IsBytes bytes → next_convert bytes ≡ Some (command, rest) → IsBodyOf 11 bytes command rest
unfolding next_convert body_bytes condition_bytes
convert-takes = kind-takes 11 (λ x. Convert x.0.0 x.0.1 x.1) (and-field (and-field event-field u32-field) u64-field) (record { number = λ x. refl; body = λ x. refl })

-- ---- kinds of orders, 12 to 17

place-field : IsField (next_condition and first_byte and next_side and next_number w64 and next_number w64 and next_number w64 and next_number w64 and next_number w16)
    (λ x. to_be_bytes w16 x.0.0.0.0.0.0.0 ++ x.0.0.0.0.0.0.1 ∷ [] ++ side_byte x.0.0.0.0.0.1 ∷ [] ++ to_be_bytes w64 x.0.0.0.0.1 ++ to_be_bytes w64 x.0.0.0.1 ++ to_be_bytes w64 x.0.0.1 ++ to_be_bytes w64 x.0.1 ++ to_be_bytes w16 x.1)
    (λ x. ((((((IsCondition x.0.0.0.0.0.0.0 × (x.0.0.0.0.0.0.1 < 256)) × ⊤) × (x.0.0.0.0.1 < 2 ^ 64)) × (x.0.0.0.1 < 2 ^ 64)) × (x.0.0.1 < 2 ^ 64)) × (x.0.1 < 2 ^ 64)) × (x.1 < 2 ^ 16))
place-field = and-field (and-field (and-field (and-field (and-field (and-field (and-field condition-field byte-field) side-field) u64-field) u64-field) u64-field) u64-field) u16-field

market-takes : (bytes rest : List ℕ) (command : Command) → IsBytes bytes → next_market bytes ≡ Some (command, rest) → IsBodyOf 12 bytes command rest
unfolding next_market body_bytes condition_bytes order_bytes
market-takes = kind-takes 12 (λ condition. Market condition) condition-field (record { number = λ x. refl; body = λ x. refl })

place-takes : (bytes rest : List ℕ) (command : Command) → IsBytes bytes → next_place bytes ≡ Some (command, rest) → IsBodyOf 13 bytes command rest
unfolding next_place body_bytes condition_bytes order_bytes
place-takes = kind-takes 13 (λ x. Place x.0.0.0.0.0.0.0 x.0.0.0.0.0.0.1 x.0.0.0.0.0.1 x.0.0.0.0.1 x.0.0.0.1 x.0.0.1 x.0.1 x.1) place-field (record { number = λ x. refl; body = λ x. refl })

cancel-takes : (bytes rest : List ℕ) (command : Command) → IsBytes bytes → next_cancel bytes ≡ Some (command, rest) → IsBodyOf 14 bytes command rest
unfolding next_cancel body_bytes condition_bytes order_bytes
cancel-takes = kind-takes 14 (λ order. Cancel order) u32-field (record { number = λ x. refl; body = λ x. refl })

bump-takes : (bytes rest : List ℕ) (command : Command) → IsBytes bytes → next_bump bytes ≡ Some (command, rest) → IsBodyOf 15 bytes command rest
unfolding next_bump body_bytes condition_bytes order_bytes
bump-takes = kind-takes 15 (λ x. Bump) nothing-field (record { number = λ x. refl; body = λ x. refl })

match-takes : (bytes rest : List ℕ) (command : Command) → IsBytes bytes → next_match bytes ≡ Some (command, rest) → IsBodyOf 16 bytes command rest
unfolding next_match body_bytes condition_bytes order_bytes
match-takes = kind-takes 16 (λ x. Match x.0.0 x.0.1 x.1) (and-field (and-field u32-field u64-field) fills-field) (record { number = λ x. refl; body = λ x. refl })

lapse-takes : (bytes rest : List ℕ) (command : Command) → IsBytes bytes → next_lapse bytes ≡ Some (command, rest) → IsBodyOf 17 bytes command rest
unfolding next_lapse body_bytes condition_bytes order_bytes
lapse-takes = kind-takes 17 (λ order. Lapse order) u32-field (record { number = λ x. refl; body = λ x. refl })

-- ---- all kinds

order-body-takes : (kind : ℕ) (bytes rest : List ℕ) (command : Command) → IsBytes bytes → next_order_body kind bytes ≡ Some (command, rest) → IsBodyOf kind bytes command rest
unfolding next_order_body
order-body-takes kind bytes rest command fits =
    or-else kind 12 bytes rest command _ _ (market-takes bytes rest command fits)
    (or-else kind 13 bytes rest command _ _ (place-takes bytes rest command fits)
    (or-else kind 14 bytes rest command _ _ (cancel-takes bytes rest command fits)
    (or-else kind 15 bytes rest command _ _ (bump-takes bytes rest command fits)
    (or-else kind 16 bytes rest command _ _ (match-takes bytes rest command fits)
    (or-else kind 17 bytes rest command _ _ (lapse-takes bytes rest command fits)
    (λ e. absurd cc))))))

condition-body-takes : (kind : ℕ) (bytes rest : List ℕ) (command : Command) → IsBytes bytes → next_condition_body kind bytes ≡ Some (command, rest) → IsBodyOf kind bytes command rest
unfolding next_condition_body
condition-body-takes kind bytes rest command fits =
    or-else kind 6 bytes rest command _ _ (split-takes bytes rest command fits)
    (or-else kind 7 bytes rest command _ _ (merge-takes bytes rest command fits)
    (or-else kind 8 bytes rest command _ _ (report-takes bytes rest command fits)
    (or-else kind 9 bytes rest command _ _ (answer-takes bytes rest command fits)
    (or-else kind 10 bytes rest command _ _ (redeem-takes bytes rest command fits)
    (or-else kind 11 bytes rest command _ _ (convert-takes bytes rest command fits)
    (order-body-takes kind bytes rest command fits))))))

pub body-takes : (kind : ℕ) (bytes rest : List ℕ) (command : Command) → IsBytes bytes → next_body kind bytes ≡ Some (command, rest) → IsBodyOf kind bytes command rest
unfolding next_body
body-takes kind bytes rest command fits =
    or-else kind 1 bytes rest command _ _ (deposit-takes bytes rest command fits)
    (or-else kind 2 bytes rest command _ _ (withdraw-takes bytes rest command fits)
    (or-else kind 3 bytes rest command _ _ (move-takes bytes rest command fits)
    (or-else kind 4 bytes rest command _ _ (prepare-takes bytes rest command fits)
    (or-else kind 5 bytes rest command _ _ (event-takes bytes rest command fits)
    (condition-body-takes kind bytes rest command fits)))))

pub body-again : (command : Command) (rest : List ℕ) → makes_act command ≡ true → HasRoom command → next_body (kind_of command) (body_bytes command ++ rest) ≡ Some (command, rest)
unfolding next_body next_condition_body next_order_body body_bytes condition_bytes order_bytes next_deposit next_withdraw next_move next_prepare next_event_body next_split next_merge next_report next_answer_body next_redeem next_convert next_market next_place next_cancel next_bump next_match next_lapse
body-again (Deposit to amount) rest act room = made-again (λ x. Deposit x.0 x.1) (and-field u16-field u64-field) (to, amount) rest room
body-again (Withdraw amount) rest act room = made-again (λ amount. Withdraw amount) u64-field amount rest room
body-again (Move to key amount) rest act room = made-again (λ x. Move x.0.0 x.0.1 x.1) (and-field (and-field u16-field key-field) u64-field) ((to, key), amount) rest room
body-again (Prepare oracle question slots) rest act room = made-again (λ x. Prepare x.0.0 x.0.1 x.1) (and-field (and-field u16-field u64-field) byte-field) ((oracle, question), slots) rest room
body-again (Event oracle questions fee) rest act room = made-again (λ x. Event x.0.0 x.0.1 x.1) (and-field (and-field u16-field byte-field) u16-field) ((oracle, questions), fee) rest room
body-again (Split parent condition sets amount) rest act room = made-again (λ x. Split x.0.0.0 x.0.0.1 x.0.1 x.1) (and-field named-field u64-field) (((parent, condition), sets), amount) rest room
body-again (Merge parent condition sets amount) rest act room = made-again (λ x. Merge x.0.0.0 x.0.0.1 x.0.1 x.1) (and-field named-field u64-field) (((parent, condition), sets), amount) rest room
body-again (Report condition payouts) rest act room = made-again (λ x. Report x.0 x.1) (and-field condition-field sets-field) (condition, payouts) rest room
body-again (Answer event question answer) rest act room = made-again (λ x. Answer x.0.0 x.0.1 x.1) (and-field (and-field event-field byte-field) answer-field) ((event, question), answer) rest room
body-again (Redeem parent condition sets) rest act room = made-again (λ x. Redeem x.0.0 x.0.1 x.1) named-field ((parent, condition), sets) rest room
body-again (Convert event set amount) rest act room = made-again (λ x. Convert x.0.0 x.0.1 x.1) (and-field (and-field event-field u32-field) u64-field) ((event, set), amount) rest room
body-again (Market condition) rest act room = made-again (λ condition. Market condition) condition-field condition rest room
body-again (Place market set side making taking expires nonce fee) rest act room = made-again (λ x. Place x.0.0.0.0.0.0.0 x.0.0.0.0.0.0.1 x.0.0.0.0.0.1 x.0.0.0.0.1 x.0.0.0.1 x.0.0.1 x.0.1 x.1) place-field (((((((market, set), side), making), taking), expires), nonce), fee) rest room
body-again (Cancel order) rest act room = made-again (λ order. Cancel order) u32-field order rest room
body-again Bump rest act room = made-again (λ x. Bump) nothing-field tt rest room
body-again (Match taker fill makers) rest act room = made-again (λ x. Match x.0.0 x.0.1 x.1) (and-field (and-field u32-field u64-field) fills-field) ((taker, fill), makers) rest room
body-again (Lapse order) rest act room = made-again (λ order. Lapse order) u32-field order rest room
body-again (Cross market) rest act room = absurd cc
body-again (Balance holder key) rest act room = absurd cc
body-again (Order order) rest act room = absurd cc
body-again Vault rest act room = absurd cc
