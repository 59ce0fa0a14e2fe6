-- What a conversion posts.
-- Source: Polymarket, NegRiskAdapter: converting positions.
use Rattle.std.specs.Prelude.{◌≡◌, ◌==◌, ℕ, suc, ◌-◌, ◌*◌, ◌/◌, ◌^◌, ◌<◌, ◌&&◌, ⊤, nat_lt, if◌then◌else◌, List, [], ◌∷◌, ◌++◌, length, map, Option, Some, None, Result, Ok, Err}
use Rattle.std.specs.Int.{bit_at}
use Rattle.collection_keys.specs.Collections.{Pairs, root, joined}
use Rattle.condition_sets.specs.declared.names.TheConstants.{OPERATOR}
use Rattle.convert_positions.specs.declared.convert.Converted.{Converted}
use Rattle.ledger_book.specs.Postings.{credit, debit}
use Rattle.ledger_book.specs.declared.plan_fault.PlanFault.{PlanFault}
use Rattle.ledger_book.specs.declared.plan_fault.PlanFault.TheVariants.{Short, Memory}
use Rattle.ledger_book.specs.declared.posting.Posting.{Posting}

-- the shares of a question's condition: set 1 is YES, and set 2 is NO
abbrev pub yes_of : ℕ → Pairs
yes_of condition = joined root condition 1

abbrev pub no_of : ℕ → Pairs
no_of condition = joined root condition 2

-- ---- which questions

-- the conditions of an event's questions from a place on, those whose bit is in the set
abbrev pub chosen_from : ℕ → ℕ → List ℕ → List ℕ
chosen_from set place [] = []
chosen_from set place (c ∷ cs) = if bit_at set place == 1 then c ∷ chosen_from set (suc place) cs else chosen_from set (suc place) cs

abbrev pub chosen : ℕ → List ℕ → List ℕ
chosen set conditions = chosen_from set 0 conditions

-- and those whose bit isn't
abbrev pub others_from : ℕ → ℕ → List ℕ → List ℕ
others_from set place [] = []
others_from set place (c ∷ cs) = if bit_at set place == 1 then others_from set (suc place) cs else c ∷ others_from set (suc place) cs

abbrev pub others : ℕ → List ℕ → List ℕ
others set conditions = others_from set 0 conditions

-- a set of an event's questions, of which there are so many: not empty, and inside
pub record IsChoice (questions set : ℕ) : Type 0 where
  pub some : 0 < set
  pub inside : set < 2 ^ questions

-- the first chosen question from a place on of whose NO less is held than the amount, by its place, and what is held
abbrev pub short_from : (Pairs → ℕ) → ℕ → ℕ → ℕ → List ℕ → Option (ℕ × ℕ)
short_from held amount set place [] = None
short_from held amount set place (c ∷ cs) =
    if (bit_at set place == 1) && nat_lt (held (no_of c)) amount then Some (place, held (no_of c)) else short_from held amount set (suc place) cs

abbrev pub short_question : (Pairs → ℕ) → ℕ → ℕ → List ℕ → Option (ℕ × ℕ)
short_question held amount set conditions = short_from held amount set 0 conditions

-- ---- what is posted

-- the part of an amount that account 0 gets, rounded down, and what is left for the caller
abbrev pub fee_of : ℕ → ℕ → ℕ
fee_of amount bips = amount * bips / 10000

abbrev pub out_of : ℕ → ℕ → ℕ
out_of amount bips = amount - fee_of amount bips

-- the cash that comes with so much of each of the others' YES
abbrev pub cash_of : ℕ → ℕ → List ℕ → ℕ
cash_of each set conditions = (length (chosen set conditions) - 1) * each

-- an account is paid so much of each of the others' YES, and the cash
abbrev pub paid_for : ℕ → ℕ → ℕ → List ℕ → List Posting
paid_for account each set conditions = map (λ c. credit account (yes_of c) each) (others set conditions) ++ credit account root (cash_of each set conditions) ∷ []

-- the NO of each chosen question is taken, and the caller and account 0 are paid
abbrev pub convert_postings : ℕ → ℕ → ℕ → ℕ → List ℕ → List Posting
convert_postings a amount bips set conditions =
    map (λ c. debit a (no_of c) amount) (chosen set conditions)
    ++ (paid_for a (out_of amount bips) set conditions ++ paid_for OPERATOR (fee_of amount bips) set conditions)

-- what is answered: how much of each of the others' YES the caller got, and how much cash
abbrev pub converted_of : ℕ → ℕ → ℕ → List ℕ → Converted
converted_of amount bips set conditions = record { out = out_of amount bips; paid = cash_of (out_of amount bips) set conditions }

-- a conversion is planned where nothing is short, and is short only at the first place that is, want of memory aside
abbrev pub ConvertedBy : Option (ℕ × ℕ) → Result Converted PlanFault → Type 0
ConvertedBy short (Ok converted) = short ≡ None
ConvertedBy short (Err (Short have place)) = short ≡ Some (place, have)
ConvertedBy short (Err Memory) = ⊤
