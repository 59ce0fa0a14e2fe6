-- The orders that commands place, as their makers name them.
-- Source: Polymarket CTF Exchange, first published source; that markets have two tokens of numbers 1 and 2 is our own.
use Rattle.std.specs.Prelude.{◌==◌, ℕ, if◌then◌else◌, List, [], ◌∷◌}
use Rattle.command_words.specs.declared.command.Command.{Command}
use Rattle.command_words.specs.declared.command.Command.TheVariants.{Place}
use Rattle.order_rules.specs.declared.token.Token.{Token}
use Rattle.order_rules.specs.declared.token.Token.TheVariants.{Yes, No}
use Rattle.order_table.specs.declared.order.Placed.{Placed}

-- the token of a set: 1 for YES, and 2 for NO
abbrev pub token_of : ℕ → Token
token_of set = if set == 1 then Yes else No

-- the order that a command of an account places
abbrev pub placed_by : ℕ → Command → List Placed
placed_by account (Place market set side making taking expires nonce fee) =
    record { account = account; market = market; token = token_of set; limit = record { side = side; making = making; taking = taking }; expires = expires; nonce = nonce; rate = fee } ∷ []
placed_by account command = []
