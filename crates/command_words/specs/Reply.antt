-- What a reply rests on.
use Rattle.std.specs.Prelude.{ℕ, ◌+◌, ◌≤◌, ⊤, length}
use Rattle.command_words.specs.declared.act.TheConstants.{MAX_HISTORY}
use Rattle.command_words.specs.declared.ranges.TheConstants.{MAX_SETS}
use Rattle.command_words.specs.declared.reply.Reply.{Reply}
use Rattle.command_words.specs.declared.reply.Reply.TheVariants.{Done, Prepared, EventMade, Redeemed, Converted, Placed, Bumped, Matched, Crossed, Balanced, Ordered, Vaulted, Refused, Bad}

-- how many acts of the history a reply rests on
abbrev pub rests_of : Reply → ℕ
rests_of (Done lsn) = lsn + 1
rests_of (Prepared condition lsn) = lsn + 1
rests_of (EventMade event first lsn) = lsn + 1
rests_of (Redeemed lsn paid) = lsn + 1
rests_of (Converted lsn out paid) = lsn + 1
rests_of (Placed lsn order) = lsn + 1
rests_of (Bumped lsn nonce) = lsn + 1
rests_of (Matched fee got lsn refund) = lsn + 1
rests_of (Crossed acts lsn more stop) = lsn + acts
rests_of (Balanced amount rests) = rests
rests_of (Ordered filled live rests) = rests
rests_of (Vaulted rests vault) = rests
rests_of (Refused refusal rests) = rests
rests_of (Bad fault) = 0

-- the numbers of acts in a reply are within the longest history, and a redemption pays as many sums as it may name sets
abbrev pub IsSound : Reply → Type 0
IsSound (Done lsn) = lsn ≤ MAX_HISTORY
IsSound (Prepared condition lsn) = lsn ≤ MAX_HISTORY
IsSound (EventMade event first lsn) = lsn ≤ MAX_HISTORY
IsSound (Redeemed lsn paid) = (lsn ≤ MAX_HISTORY) × (length paid ≤ MAX_SETS)
IsSound (Converted lsn out paid) = lsn ≤ MAX_HISTORY
IsSound (Placed lsn order) = lsn ≤ MAX_HISTORY
IsSound (Bumped lsn nonce) = lsn ≤ MAX_HISTORY
IsSound (Matched fee got lsn refund) = lsn ≤ MAX_HISTORY
IsSound (Crossed acts lsn more stop) = (acts ≤ MAX_HISTORY) × (lsn ≤ MAX_HISTORY)
IsSound (Balanced amount rests) = rests ≤ MAX_HISTORY
IsSound (Ordered filled live rests) = rests ≤ MAX_HISTORY
IsSound (Vaulted rests vault) = rests ≤ MAX_HISTORY
IsSound (Refused refusal rests) = rests ≤ MAX_HISTORY
IsSound (Bad fault) = ⊤
