-- What a command is by itself, before any history.
use Rattle.std.specs.Prelude.{◌==◌, ◌&&◌, ◌||◌, Bool, true, false, nat_lt, nat_le}
use Rattle.command_words.specs.declared.ranges.TheConstants.{MAX_NUMBER, MIN_QUESTIONS, MAX_QUESTIONS, MAX_EVENT_FEE, MAX_ORDER_FEE}
use Rattle.command_words.specs.Ranges.{is_account, is_amount, is_bits, is_byte, is_condition, is_event, is_key, is_makers, is_order, is_payouts, is_sets, is_short, is_slots}
use Rattle.command_words.specs.declared.command.Command.{Command}
use Rattle.command_words.specs.declared.command.Command.TheVariants.{Deposit, Withdraw, Move, Prepare, Event, Split, Merge, Report, Answer, Redeem, Convert, Market, Place, Cancel, Match, Lapse, Cross, Balance, Order, Vault}

-- whether the command becomes an act of the history where it is accepted
abbrev pub makes_act : Command → Bool
makes_act (Cross market) = false
makes_act (Balance holder key) = false
makes_act (Order order) = false
makes_act Vault = false
makes_act command = true

-- whether the command asks for something that is so already
abbrev pub is_reading : Command → Bool
is_reading (Balance holder key) = true
is_reading (Order order) = true
is_reading Vault = true
is_reading command = false

-- whether each member of a command about orders and matches lies in its range; other commands have none that may not
abbrev pub order_in_ranges : Command → Bool
order_in_ranges (Place market set side making taking expires nonce fee) =
    is_condition market && (is_byte set && (is_amount making && (is_amount taking && (nat_le expires MAX_NUMBER && (nat_le nonce MAX_NUMBER && nat_le fee MAX_ORDER_FEE)))))
order_in_ranges (Cancel order) = is_order order
order_in_ranges (Match taker fill makers) = is_order taker && (is_amount fill && is_makers makers)
order_in_ranges (Lapse order) = is_order order
order_in_ranges (Cross market) = is_condition market
order_in_ranges (Order order) = is_order order
order_in_ranges command = true

-- the same of a command about conditions, events and markets
abbrev pub condition_in_ranges : Command → Bool
condition_in_ranges (Prepare oracle question slots) = is_account oracle && (nat_le question MAX_NUMBER && is_slots slots)
condition_in_ranges (Event oracle questions fee) = is_account oracle && (nat_le MIN_QUESTIONS questions && (nat_le questions MAX_QUESTIONS && nat_le fee MAX_EVENT_FEE))
condition_in_ranges (Report condition payouts) = is_condition condition && is_payouts payouts
condition_in_ranges (Answer event question answer) = is_event event && nat_lt question MAX_QUESTIONS
condition_in_ranges (Redeem parent condition sets) = is_key parent && (is_condition condition && is_sets sets)
condition_in_ranges (Convert event set amount) = is_event event && (is_bits set && is_amount amount)
condition_in_ranges (Market condition) = is_condition condition
condition_in_ranges command = order_in_ranges command

-- the same of any command
abbrev pub in_ranges : Command → Bool
in_ranges (Deposit to amount) = is_account to && is_amount amount
in_ranges (Withdraw amount) = is_amount amount
in_ranges (Move to key amount) = is_account to && (is_key key && is_amount amount)
in_ranges (Split parent condition sets amount) = is_key parent && (is_condition condition && (is_sets sets && is_amount amount))
in_ranges (Merge parent condition sets amount) = is_key parent && (is_condition condition && (is_sets sets && is_amount amount))
in_ranges (Balance holder key) = is_account holder && is_key key
in_ranges command = condition_in_ranges command

-- whether an act's command may have this form: keys as short as a collection, and the token of a set 1 or 2
abbrev pub is_act_form : Command → Bool
is_act_form (Move to key amount) = is_short key
is_act_form (Split parent condition sets amount) = is_short parent
is_act_form (Merge parent condition sets amount) = is_short parent
is_act_form (Redeem parent condition sets) = is_short parent
is_act_form (Place market set side making taking expires nonce fee) = (set == 1) || (set == 2)
is_act_form command = true

-- whether the command may be that of an act
abbrev pub may_be_act : Command → Bool
may_be_act command = makes_act command && (in_ranges command && is_act_form command)
