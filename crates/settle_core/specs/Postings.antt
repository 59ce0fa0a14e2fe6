-- What accounts hold, by what was posted to them.
-- Source: Gnosis Conditional Tokens, developer documentation.
use Rattle.std.specs.Prelude.{ℕ, zero, suc, ◌+◌, ◌-◌, ◌^◌, List, sum_by}
use Rattle.collection_keys.specs.Collections.{Pairs}
use Rattle.command_words.specs.declared.command.Command.{Command}
use Rattle.command_words.specs.declared.command.Command.TheVariants.{Deposit, Withdraw}
use Rattle.command_words.specs.declared.act.Act.{Act}
use Rattle.ledger_book.specs.Postings.{minted, burnt}
use Rattle.settle_core.specs.Book.{book, held_in, postings}

-- what all accounts hold of a collection
abbrev pub supply : List Act → Pairs → ℕ
supply history k = minted (postings history) k - burnt (postings history) k

-- what one account holds of a collection
abbrev pub balance : List Act → ℕ → Pairs → ℕ
balance history a k = held_in (book history) a k

-- the sum over the accounts below a number
unfoldable pub over_accounts : ℕ → (ℕ → ℕ) → ℕ
over_accounts zero f = 0
over_accounts (suc n) f = over_accounts n f + f n

-- what all accounts together hold of a collection, of which there are 2^16
abbrev pub held_by_all : List Act → Pairs → ℕ
held_by_all history k = over_accounts (2 ^ 16) (λ a. balance history a k)

-- what a command pays into the vault where it is accepted
abbrev pub deposit_of : Command → ℕ
deposit_of (Deposit to amount) = amount
deposit_of command = 0

-- what a command pays out of the vault where it is accepted
abbrev pub withdrawal_of : Command → ℕ
withdrawal_of (Withdraw amount) = amount
withdrawal_of command = 0

-- all that was paid into the vault, and all that was paid out
abbrev pub deposited : List Act → ℕ
deposited history = sum_by (λ act. deposit_of act.command) history

abbrev pub withdrawn : List Act → ℕ
withdrawn history = sum_by (λ act. withdrawal_of act.command) history

-- what the vault holds
abbrev pub vault : List Act → ℕ
vault history = deposited history - withdrawn history
