-- Whether each number of a command has room in its field.
use Rattle.std.specs.Prelude.{◌≡◌, ℕ, ◌^◌, ◌<◌, ⊤, true, List, length}
use Rattle.std.specs.List.{AllByRecursion}
use Rattle.collection_keys.specs.Collections.{Pairs}
use Rattle.command_words.specs.Ranges.{is_condition, is_event}
use Rattle.command_words.specs.declared.command.Command.{Command}
use Rattle.command_words.specs.declared.command.Command.TheVariants.{Deposit, Withdraw, Move, Prepare, Event, Split, Merge, Report, Answer, Redeem, Convert, Market, Place, Cancel, Match, Lapse}

-- one byte tells how many items a list has, and each has room
abbrev pub HasFew : {A : Type 0} → (A → Type 0) → List A → Type 0
HasFew Fits items = (length items < 256) × AllByRecursion Fits items

abbrev pub IsKey : Pairs → Type 0
IsKey key = HasFew (λ p. (p.0 < 2 ^ 16) × (p.1 < 2 ^ 32)) key

abbrev pub IsSets : List ℕ → Type 0
IsSets sets = HasFew (λ set. set < 2 ^ 32) sets

abbrev pub IsFills : List (ℕ × ℕ) → Type 0
IsFills fills = HasFew (λ f. (f.0 < 2 ^ 32) × (f.1 < 2 ^ 64)) fills

abbrev pub IsCondition : ℕ → Type 0
IsCondition n = (n < 2 ^ 16) × (is_condition n ≡ true)

abbrev pub IsEvent : ℕ → Type 0
IsEvent n = (n < 2 ^ 16) × (is_event n ≡ true)

abbrev pub IsNamed : Pairs → ℕ → List ℕ → Type 0
IsNamed parent condition sets = (IsKey parent × IsCondition condition) × IsSets sets

-- each number of a command has room in its field
abbrev pub HasRoom : Command → Type 0
HasRoom (Deposit to amount) = (to < 2 ^ 16) × (amount < 2 ^ 64)
HasRoom (Withdraw amount) = amount < 2 ^ 64
HasRoom (Move to key amount) = ((to < 2 ^ 16) × IsKey key) × (amount < 2 ^ 64)
HasRoom (Prepare oracle question slots) = ((oracle < 2 ^ 16) × (question < 2 ^ 64)) × (slots < 256)
HasRoom (Event oracle questions fee) = ((oracle < 2 ^ 16) × (questions < 256)) × (fee < 2 ^ 16)
HasRoom (Split parent condition sets amount) = IsNamed parent condition sets × (amount < 2 ^ 64)
HasRoom (Merge parent condition sets amount) = IsNamed parent condition sets × (amount < 2 ^ 64)
HasRoom (Report condition payouts) = IsCondition condition × IsSets payouts
HasRoom (Answer event question answer) = (IsEvent event × (question < 256)) × ⊤
HasRoom (Redeem parent condition sets) = IsNamed parent condition sets
HasRoom (Convert event set amount) = (IsEvent event × (set < 2 ^ 32)) × (amount < 2 ^ 64)
HasRoom (Market condition) = IsCondition condition
HasRoom (Place market set side making taking expires nonce fee) =
    ((((((IsCondition market × (set < 256)) × ⊤) × (making < 2 ^ 64)) × (taking < 2 ^ 64)) × (expires < 2 ^ 64)) × (nonce < 2 ^ 64)) × (fee < 2 ^ 16)
HasRoom (Cancel order) = order < 2 ^ 32
HasRoom (Match taker fill makers) = ((taker < 2 ^ 32) × (fill < 2 ^ 64)) × IsFills makers
HasRoom (Lapse order) = order < 2 ^ 32
HasRoom command = ⊤
