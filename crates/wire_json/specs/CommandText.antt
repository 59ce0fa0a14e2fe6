-- The commands as JSON objects: the members of each and their kinds, whatever the size of the numbers. Each object has
-- the members "do", the command's name, and "by", the account that asks; a row counts them with its own.
use Rattle.std.specs.Prelude.{ℕ, if◌then◌else◌, List, codes, Option, Some, None}
use Rattle.std.specs.Str.{bytes_eq}
use Rattle.serde_json.specs.Data.{Data}
use Rattle.command_words.specs.declared.command.Command.{Command}
use Rattle.command_words.specs.declared.command.Command.TheVariants.{Deposit, Withdraw, Move, Prepare, Event, Split, Merge, Report, Answer, Redeem, Convert, Market, Place, Cancel, Bump, Match, Lapse, Cross, Balance, Order, Vault}
use Rattle.wire_json.specs.Kinds.{◌>>=◌, exactly, number_at, truth_at, side_at, numbers_at, pairs_at}

-- ---- funds and conditions

abbrev pub deposit_in : Data → Option Command
deposit_in d = do
  whole ← exactly 4 d
  to ← number_at (codes "to") d
  amount ← number_at (codes "amount") d
  Some (Deposit to amount)

abbrev pub withdraw_in : Data → Option Command
withdraw_in d = do
  whole ← exactly 3 d
  amount ← number_at (codes "amount") d
  Some (Withdraw amount)

abbrev pub move_in : Data → Option Command
move_in d = do
  whole ← exactly 5 d
  to ← number_at (codes "to") d
  key ← pairs_at (codes "key") d
  amount ← number_at (codes "amount") d
  Some (Move to key amount)

abbrev pub prepare_in : Data → Option Command
prepare_in d = do
  whole ← exactly 5 d
  oracle ← number_at (codes "oracle") d
  question ← number_at (codes "question") d
  slots ← number_at (codes "slots") d
  Some (Prepare oracle question slots)

abbrev pub event_in : Data → Option Command
event_in d = do
  whole ← exactly 5 d
  oracle ← number_at (codes "oracle") d
  questions ← number_at (codes "questions") d
  fee ← number_at (codes "fee") d
  Some (Event oracle questions fee)

abbrev pub split_in : Data → Option Command
split_in d = do
  whole ← exactly 6 d
  parent ← pairs_at (codes "parent") d
  condition ← number_at (codes "condition") d
  sets ← numbers_at (codes "sets") d
  amount ← number_at (codes "amount") d
  Some (Split parent condition sets amount)

abbrev pub merge_in : Data → Option Command
merge_in d = do
  whole ← exactly 6 d
  parent ← pairs_at (codes "parent") d
  condition ← number_at (codes "condition") d
  sets ← numbers_at (codes "sets") d
  amount ← number_at (codes "amount") d
  Some (Merge parent condition sets amount)

-- ---- outcomes

abbrev pub report_in : Data → Option Command
report_in d = do
  whole ← exactly 4 d
  condition ← number_at (codes "condition") d
  payouts ← numbers_at (codes "payouts") d
  Some (Report condition payouts)

abbrev pub answer_in : Data → Option Command
answer_in d = do
  whole ← exactly 5 d
  event ← number_at (codes "event") d
  question ← number_at (codes "question") d
  answer ← truth_at (codes "yes") d
  Some (Answer event question answer)

abbrev pub redeem_in : Data → Option Command
redeem_in d = do
  whole ← exactly 5 d
  parent ← pairs_at (codes "parent") d
  condition ← number_at (codes "condition") d
  sets ← numbers_at (codes "sets") d
  Some (Redeem parent condition sets)

abbrev pub convert_in : Data → Option Command
convert_in d = do
  whole ← exactly 5 d
  event ← number_at (codes "event") d
  set ← number_at (codes "set") d
  amount ← number_at (codes "amount") d
  Some (Convert event set amount)

-- ---- orders

abbrev pub market_in : Data → Option Command
market_in d = do
  whole ← exactly 3 d
  condition ← number_at (codes "condition") d
  Some (Market condition)

abbrev pub place_in : Data → Option Command
place_in d = do
  whole ← exactly 10 d
  market ← number_at (codes "market") d
  set ← number_at (codes "set") d
  side ← side_at (codes "side") d
  making ← number_at (codes "making") d
  taking ← number_at (codes "taking") d
  expires ← number_at (codes "expires") d
  nonce ← number_at (codes "nonce") d
  fee ← number_at (codes "fee") d
  Some (Place market set side making taking expires nonce fee)

abbrev pub cancel_in : Data → Option Command
cancel_in d = do
  whole ← exactly 3 d
  order ← number_at (codes "order") d
  Some (Cancel order)

abbrev pub bump_in : Data → Option Command
bump_in d = do
  whole ← exactly 2 d
  Some Bump

abbrev pub match_in : Data → Option Command
match_in d = do
  whole ← exactly 5 d
  taker ← number_at (codes "taker") d
  fill ← number_at (codes "fill") d
  makers ← pairs_at (codes "makers") d
  Some (Match taker fill makers)

abbrev pub lapse_in : Data → Option Command
lapse_in d = do
  whole ← exactly 3 d
  order ← number_at (codes "order") d
  Some (Lapse order)

abbrev pub cross_in : Data → Option Command
cross_in d = do
  whole ← exactly 3 d
  market ← number_at (codes "market") d
  Some (Cross market)

-- ---- readings

abbrev pub balance_in : Data → Option Command
balance_in d = do
  whole ← exactly 4 d
  holder ← number_at (codes "of") d
  key ← pairs_at (codes "key") d
  Some (Balance holder key)

abbrev pub order_in : Data → Option Command
order_in d = do
  whole ← exactly 3 d
  order ← number_at (codes "order") d
  Some (Order order)

abbrev pub vault_in : Data → Option Command
vault_in d = do
  whole ← exactly 2 d
  Some Vault

-- ---- by name

abbrev pub reading_in : List ℕ → Data → Option Command
reading_in name d =
    if bytes_eq name (codes "balance") then balance_in d
    else (if bytes_eq name (codes "order") then order_in d
    else (if bytes_eq name (codes "vault") then vault_in d
    else None))

abbrev pub trade_in : List ℕ → Data → Option Command
trade_in name d =
    if bytes_eq name (codes "market") then market_in d
    else (if bytes_eq name (codes "place") then place_in d
    else (if bytes_eq name (codes "cancel") then cancel_in d
    else (if bytes_eq name (codes "bump") then bump_in d
    else (if bytes_eq name (codes "match") then match_in d
    else (if bytes_eq name (codes "lapse") then lapse_in d
    else (if bytes_eq name (codes "cross") then cross_in d
    else reading_in name d))))))

abbrev pub outcome_in : List ℕ → Data → Option Command
outcome_in name d =
    if bytes_eq name (codes "report") then report_in d
    else (if bytes_eq name (codes "answer") then answer_in d
    else (if bytes_eq name (codes "redeem") then redeem_in d
    else (if bytes_eq name (codes "convert") then convert_in d
    else trade_in name d)))

-- the command of this name, where the object has just its members and each is of its kind
abbrev pub command_in : List ℕ → Data → Option Command
command_in name d =
    if bytes_eq name (codes "deposit") then deposit_in d
    else (if bytes_eq name (codes "withdraw") then withdraw_in d
    else (if bytes_eq name (codes "move") then move_in d
    else (if bytes_eq name (codes "prepare") then prepare_in d
    else (if bytes_eq name (codes "event") then event_in d
    else (if bytes_eq name (codes "split") then split_in d
    else (if bytes_eq name (codes "merge") then merge_in d
    else outcome_in name d))))))
