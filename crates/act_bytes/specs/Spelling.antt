-- The bytes of an act. Numbers stand with their highest byte first.
use Rattle.std.specs.Prelude.{◌≡◌, ℕ, ◌^◌, ◌<◌, Bool, true, false, List, [], ◌∷◌, ◌++◌, length}
use Rattle.std.specs.List.{flat_map}
use Rattle.byteorder.specs.Endian.{big_bytes}
use Rattle.command_words.specs.Command.{may_be_act}
use Rattle.collection_keys.specs.Collections.{Pairs}
use Rattle.command_words.specs.declared.act.Act.{Act}
use Rattle.command_words.specs.declared.command.Command.{Command}
use Rattle.command_words.specs.declared.command.Command.TheVariants.{Deposit, Withdraw, Move, Prepare, Event, Split, Merge, Report, Answer, Redeem, Convert, Market, Place, Cancel, Bump, Match, Lapse, Cross, Balance, Order, Vault}
use Rattle.order_rules.specs.declared.side.Side.{Side}
use Rattle.order_rules.specs.declared.side.Side.TheVariants.{Buy, Sell}

-- ---- lists: how many items there are, in one byte, and each item

-- a pair of a key: its condition in two bytes, and the bits of its set in four
abbrev pub pair_bytes : ℕ × ℕ → List ℕ
pair_bytes p = big_bytes 2 p.0 ++ big_bytes 4 p.1

unfoldable pub key_bytes : Pairs → List ℕ
key_bytes key = length key ∷ flat_map pair_bytes key

-- sets, or the numerators of a report, of four bytes each
unfoldable pub sets_bytes : List ℕ → List ℕ
sets_bytes sets = length sets ∷ flat_map (big_bytes 4) sets

-- a maker's order in four bytes, and its fill in eight
abbrev pub fill_bytes : ℕ × ℕ → List ℕ
fill_bytes f = big_bytes 4 f.0 ++ big_bytes 8 f.1

unfoldable pub fills_bytes : List (ℕ × ℕ) → List ℕ
fills_bytes fills = length fills ∷ flat_map fill_bytes fills

-- ---- words of one byte

abbrev pub answer_byte : Bool → ℕ
answer_byte false = 0
answer_byte true = 1

abbrev pub side_byte : Side → ℕ
side_byte Buy = 0
side_byte Sell = 1

-- ---- commands

-- the number of the command's kind
abbrev pub kind_of : Command → ℕ
kind_of (Deposit to amount) = 1
kind_of (Withdraw amount) = 2
kind_of (Move to key amount) = 3
kind_of (Prepare oracle question slots) = 4
kind_of (Event oracle questions fee) = 5
kind_of (Split parent condition sets amount) = 6
kind_of (Merge parent condition sets amount) = 7
kind_of (Report condition payouts) = 8
kind_of (Answer event question answer) = 9
kind_of (Redeem parent condition sets) = 10
kind_of (Convert event set amount) = 11
kind_of (Market condition) = 12
kind_of (Place market set side making taking expires nonce fee) = 13
kind_of (Cancel order) = 14
kind_of Bump = 15
kind_of (Match taker fill makers) = 16
kind_of (Lapse order) = 17
kind_of (Cross market) = 18
kind_of (Balance holder key) = 19
kind_of (Order order) = 20
kind_of Vault = 21

-- what stands behind the kinds of orders, 12 to 17; nothing stands behind those that make no act
unfoldable pub order_bytes : Command → List ℕ
order_bytes (Market condition) = big_bytes 2 condition
order_bytes (Place market set side making taking expires nonce fee) =
    big_bytes 2 market ++ set ∷ [] ++ side_byte side ∷ [] ++ big_bytes 8 making ++ big_bytes 8 taking ++ big_bytes 8 expires ++ big_bytes 8 nonce ++ big_bytes 2 fee
order_bytes (Cancel order) = big_bytes 4 order
order_bytes (Match taker fill makers) = big_bytes 4 taker ++ big_bytes 8 fill ++ fills_bytes makers
order_bytes (Lapse order) = big_bytes 4 order
order_bytes command = []

-- what stands behind the kinds of conditions, 6 to 11, and behind those of orders
unfoldable pub condition_bytes : Command → List ℕ
condition_bytes (Split parent condition sets amount) = key_bytes parent ++ big_bytes 2 condition ++ sets_bytes sets ++ big_bytes 8 amount
condition_bytes (Merge parent condition sets amount) = key_bytes parent ++ big_bytes 2 condition ++ sets_bytes sets ++ big_bytes 8 amount
condition_bytes (Report condition payouts) = big_bytes 2 condition ++ sets_bytes payouts
condition_bytes (Answer event question answer) = big_bytes 2 event ++ question ∷ [] ++ answer_byte answer ∷ []
condition_bytes (Redeem parent condition sets) = key_bytes parent ++ big_bytes 2 condition ++ sets_bytes sets
condition_bytes (Convert event set amount) = big_bytes 2 event ++ big_bytes 4 set ++ big_bytes 8 amount
condition_bytes command = order_bytes command

-- what stands behind the kind
unfoldable pub body_bytes : Command → List ℕ
body_bytes (Deposit to amount) = big_bytes 2 to ++ big_bytes 8 amount
body_bytes (Withdraw amount) = big_bytes 8 amount
body_bytes (Move to key amount) = big_bytes 2 to ++ key_bytes key ++ big_bytes 8 amount
body_bytes (Prepare oracle question slots) = big_bytes 2 oracle ++ big_bytes 8 question ++ slots ∷ []
body_bytes (Event oracle questions fee) = big_bytes 2 oracle ++ questions ∷ [] ++ big_bytes 2 fee
body_bytes command = condition_bytes command

-- an act: its moment in eight bytes, its account in two, the number of its kind in one, and its body
unfoldable pub spelling : Act → List ℕ
spelling act = big_bytes 8 act.moment ++ big_bytes 2 act.account ++ kind_of act.command ∷ body_bytes act.command

-- The bytes spell the act: its command may be that of an act, and each number has room.
pub record Spells (spelled : List ℕ) (act : Act) : Type 0 where
  pub moment : act.moment < 2 ^ 64
  pub account : act.account < 2 ^ 16
  pub may_be_act : may_be_act act.command ≡ true
  pub bytes : spelled ≡ spelling act
