-- Reading an act from left to right, field by field.
use Rattle.std.specs.Prelude.{◌≡◌, ℕ, zero, suc, ◌==◌, ◌&&◌, Bool, true, false, List, [], ◌∷◌, length, take, drop, Option, Some, None, Result, Ok, Err, nat_lt, if◌then◌else◌, ⊤}
use Rattle.std.specs.Int.{Width, w16, w32, w64, byte_len, from_be_bytes}
use Rattle.command_words.specs.Command.{may_be_act}
use Rattle.collection_keys.specs.Collections.{Pairs}
use Rattle.command_words.specs.Ranges.{is_condition, is_event}
use Rattle.command_words.specs.declared.act.Act.{Act}
use Rattle.command_words.specs.declared.command.Command.{Command}
use Rattle.command_words.specs.declared.command.Command.TheVariants.{Deposit, Withdraw, Move, Prepare, Event, Split, Merge, Report, Answer, Redeem, Convert, Market, Place, Cancel, Bump, Match, Lapse}
use Rattle.order_rules.specs.declared.side.Side.{Side}
use Rattle.order_rules.specs.declared.side.Side.TheVariants.{Buy, Sell}
use Rattle.act_bytes.specs.declared.fault.ReadFault.{ReadFault}
use Rattle.act_bytes.specs.declared.fault.ReadFault.TheVariants.{Memory, NoAct}

infixl 10 ◌>>=◌
abbrev pub ◌>>=◌ : {A B : Type 0} → Option A → (A → Option B) → Option B
(Some x) >>= f = f x
None >>= f = None

-- Reading gives nothing, or memory ran out.
abbrev pub GivesNone : {Y : Type 0} → ReadFault → Option Y → Type 0
GivesNone Memory read = ⊤
GivesNone NoAct read = read ≡ None

-- What a function returned, seen by view, is what reading gives, unless memory ran out.
abbrev pub Gives : {X Y : Type 0} → (X → Y) → Result X ReadFault → Option Y → Type 0
Gives view (Ok x) read = read ≡ Some (view x)
Gives view (Err fault) read = GivesNone fault read

-- A field is a value at the front of the bytes, with the bytes behind it.
abbrev pub Field : Type 0 → Type 0
Field A = List ℕ → Option (A × List ℕ)

-- ---- numbers

abbrev pub first_byte : Field ℕ
first_byte [] = None
first_byte (byte ∷ rest) = Some (byte, rest)

abbrev pub next_number : Width → Field ℕ
next_number w bytes = if nat_lt (length bytes) (byte_len w) then None else Some (from_be_bytes w (take (byte_len w) bytes), drop (byte_len w) bytes)

-- ---- fields made of others

-- one behind the other
infixl 20 ◌and◌
abbrev pub ◌and◌ : {A B : Type 0} → Field A → Field B → Field (A × B)
(first and second) bytes = do
  x ← first bytes
  y ← second x.1
  Some ((x.0, y.0), y.1)

-- what is made of a value
abbrev pub made : {A B : Type 0} → (A → B) → Field A → Field B
made f field bytes = do
  x ← field bytes
  Some (f x.0, x.1)

-- a value that passes a test
abbrev pub passed : {A : Type 0} → (A → Bool) → A → Option A
passed test x = if test x then Some x else None

abbrev pub checked : {A : Type 0} → (A → Bool) → Field A → Field A
checked test field bytes = do
  x ← field bytes
  y ← passed test x.0
  Some (y, x.1)

-- a word that a number stands for
abbrev pub told : {A B : Type 0} → (A → Option B) → Field A → Field B
told tell field bytes = do
  x ← field bytes
  y ← tell x.0
  Some (y, x.1)

-- nothing at all
abbrev pub nothing : Field ⊤
nothing bytes = Some (tt, bytes)

-- so many of a kind
unfoldable pub next_items : {A : Type 0} → Field A → ℕ → Field (List A)
next_items item zero bytes = Some ([], bytes)
next_items item (suc n) bytes = do
  first ← item bytes
  others ← next_items item n first.1
  Some (first.0 ∷ others.0, others.1)

-- as many of a kind as the first byte says
abbrev pub counted : {A : Type 0} → Field A → Field (List A)
counted item bytes = do
  count ← first_byte bytes
  next_items item count.0 count.1

-- ---- the fields of acts

abbrev pub next_pair : Field (ℕ × ℕ)
next_pair = next_number w16 and next_number w32

unfoldable pub next_key : Field Pairs
next_key = counted next_pair

unfoldable pub next_sets : Field (List ℕ)
next_sets = counted (next_number w32)

abbrev pub next_fill : Field (ℕ × ℕ)
next_fill = next_number w32 and next_number w64

unfoldable pub next_fills : Field (List (ℕ × ℕ))
next_fills = counted next_fill

abbrev pub next_condition : Field ℕ
next_condition = checked is_condition (next_number w16)

abbrev pub next_event : Field ℕ
next_event = checked is_event (next_number w16)

abbrev pub answer_of : ℕ → Option Bool
answer_of n = if n == 0 then Some false else if n == 1 then Some true else None

abbrev pub next_answer : Field Bool
next_answer = told answer_of first_byte

abbrev pub side_of : ℕ → Option Side
side_of n = if n == 0 then Some Buy else if n == 1 then Some Sell else None

abbrev pub next_side : Field Side
next_side = told side_of first_byte

-- a parent, a condition and sets of it
unfoldable pub next_named : Field ((Pairs × ℕ) × List ℕ)
next_named = next_key and next_condition and next_sets

-- ---- bodies

unfoldable pub next_deposit : Field Command
next_deposit = made (λ x. Deposit x.0 x.1) (next_number w16 and next_number w64)

unfoldable pub next_withdraw : Field Command
next_withdraw = made (λ amount. Withdraw amount) (next_number w64)

unfoldable pub next_move : Field Command
next_move = made (λ x. Move x.0.0 x.0.1 x.1) (next_number w16 and next_key and next_number w64)

unfoldable pub next_prepare : Field Command
next_prepare = made (λ x. Prepare x.0.0 x.0.1 x.1) (next_number w16 and next_number w64 and first_byte)

unfoldable pub next_event_body : Field Command
next_event_body = made (λ x. Event x.0.0 x.0.1 x.1) (next_number w16 and first_byte and next_number w16)

unfoldable pub next_split : Field Command
next_split = made (λ x. Split x.0.0.0 x.0.0.1 x.0.1 x.1) (next_named and next_number w64)

unfoldable pub next_merge : Field Command
next_merge = made (λ x. Merge x.0.0.0 x.0.0.1 x.0.1 x.1) (next_named and next_number w64)

unfoldable pub next_report : Field Command
next_report = made (λ x. Report x.0 x.1) (next_condition and next_sets)

unfoldable pub next_answer_body : Field Command
next_answer_body = made (λ x. Answer x.0.0 x.0.1 x.1) (next_event and first_byte and next_answer)

unfoldable pub next_redeem : Field Command
next_redeem = made (λ x. Redeem x.0.0 x.0.1 x.1) next_named

unfoldable pub next_convert : Field Command
next_convert = made (λ x. Convert x.0.0 x.0.1 x.1) (next_event and next_number w32 and next_number w64)

unfoldable pub next_market : Field Command
next_market = made (λ condition. Market condition) next_condition

unfoldable pub next_place : Field Command
next_place =
    made (λ x. Place x.0.0.0.0.0.0.0 x.0.0.0.0.0.0.1 x.0.0.0.0.0.1 x.0.0.0.0.1 x.0.0.0.1 x.0.0.1 x.0.1 x.1)
    (next_condition and first_byte and next_side and next_number w64 and next_number w64 and next_number w64 and next_number w64 and next_number w16)

unfoldable pub next_cancel : Field Command
next_cancel = made (λ order. Cancel order) (next_number w32)

unfoldable pub next_bump : Field Command
next_bump = made (λ x. Bump) nothing

unfoldable pub next_match : Field Command
next_match = made (λ x. Match x.0.0 x.0.1 x.1) (next_number w32 and next_number w64 and next_fills)

unfoldable pub next_lapse : Field Command
next_lapse = made (λ order. Lapse order) (next_number w32)

-- a body of a kind of orders
unfoldable pub next_order_body : ℕ → Field Command
next_order_body kind bytes =
    if kind == 12 then next_market bytes
    else if kind == 13 then next_place bytes
    else if kind == 14 then next_cancel bytes
    else if kind == 15 then next_bump bytes
    else if kind == 16 then next_match bytes
    else if kind == 17 then next_lapse bytes
    else None

-- a body of a kind of conditions or of orders
unfoldable pub next_condition_body : ℕ → Field Command
next_condition_body kind bytes =
    if kind == 6 then next_split bytes
    else if kind == 7 then next_merge bytes
    else if kind == 8 then next_report bytes
    else if kind == 9 then next_answer_body bytes
    else if kind == 10 then next_redeem bytes
    else if kind == 11 then next_convert bytes
    else next_order_body kind bytes

-- a body of the kind of this number
unfoldable pub next_body : ℕ → Field Command
next_body kind bytes =
    if kind == 1 then next_deposit bytes
    else if kind == 2 then next_withdraw bytes
    else if kind == 3 then next_move bytes
    else if kind == 4 then next_prepare bytes
    else if kind == 5 then next_event_body bytes
    else next_condition_body kind bytes

-- ---- acts

-- a moment, an account and the number of a kind
abbrev pub next_head : Field ((ℕ × ℕ) × ℕ)
next_head = next_number w64 and next_number w16 and first_byte

-- nothing stands behind a command that may be that of an act
abbrev pub is_whole : Command × List ℕ → Bool
is_whole x = (length x.1 == 0) && may_be_act x.0

-- the act that all of the bytes spell
unfoldable pub act_in : List ℕ → Option Act
act_in bytes = do
  head ← next_head bytes
  body ← next_body head.0.1 head.1
  whole ← passed is_whole body
  Some (record { moment = head.0.0.0; account = head.0.0.1; command = whole.0 })
