-- The text of each reply: one JSON object with its members in ascending order of their names, and a newline.
use Rattle.std.specs.Prelude.{ℕ, Bool, List, [], ◌∷◌, ◌++◌, codes}
use Rattle.command_words.specs.Refusal.{code_of, fault_code}
use Rattle.command_words.specs.declared.refusal.Refusal.{Refusal}
use Rattle.command_words.specs.declared.refusal.Refusal.TheVariants.{NotAllowed, NoCondition, AlreadyPrepared, TableFull, BadSet, BadPartition, Held, TooDeep, AlreadyReported, BadPayouts, NotReported, NoEvent, Determined, NoMarket, NoOrder, NotOpen, OrderExpired, NonceOld, SelfMatch, RepeatedOrder, WrongPair, NotCrossing, Overfill, Unfunded, ExchangeShort, TooLittle, Funded, VaultLimit, SupplyLimit, EntriesLimit, HistoryFull, Busy, Memory}
use Rattle.command_words.specs.declared.line_fault.LineFault.{LineFault}
use Rattle.command_words.specs.declared.line_fault.LineFault.TheVariants as fault
use Rattle.command_words.specs.declared.reply.Reply.{Reply}
use Rattle.command_words.specs.declared.reply.Reply.TheVariants.{Done, Prepared, EventMade, Redeemed, Converted, Placed, Bumped, Matched, Crossed, Balanced, Ordered, Vaulted, Refused, Bad}
use Rattle.wire_json.specs.Members.{Member, number, truth, numbers, word, object}

abbrev pub number_member : List ℕ → ℕ → Member
number_member name n = record { name = name; content = number n }

abbrev pub truth_member : List ℕ → Bool → Member
truth_member name b = record { name = name; content = truth b }

abbrev pub word_member : List ℕ → List ℕ → Member
word_member name w = record { name = name; content = word w }

abbrev pub refusal_name : Refusal → List ℕ
refusal_name NotAllowed = codes "NotAllowed"
refusal_name NoCondition = codes "NoCondition"
refusal_name AlreadyPrepared = codes "AlreadyPrepared"
refusal_name TableFull = codes "TableFull"
refusal_name BadSet = codes "BadSet"
refusal_name BadPartition = codes "BadPartition"
refusal_name Held = codes "Held"
refusal_name TooDeep = codes "TooDeep"
refusal_name AlreadyReported = codes "AlreadyReported"
refusal_name BadPayouts = codes "BadPayouts"
refusal_name NotReported = codes "NotReported"
refusal_name NoEvent = codes "NoEvent"
refusal_name (Determined winner) = codes "Determined"
refusal_name NoMarket = codes "NoMarket"
refusal_name (NoOrder place) = codes "NoOrder"
refusal_name (NotOpen filled place) = codes "NotOpen"
refusal_name (OrderExpired place) = codes "OrderExpired"
refusal_name (NonceOld nonce place) = codes "NonceOld"
refusal_name (SelfMatch place) = codes "SelfMatch"
refusal_name (RepeatedOrder place) = codes "RepeatedOrder"
refusal_name (WrongPair place) = codes "WrongPair"
refusal_name (NotCrossing maker place taker) = codes "NotCrossing"
refusal_name (Overfill place remaining) = codes "Overfill"
refusal_name (Unfunded have place) = codes "Unfunded"
refusal_name (ExchangeShort place) = codes "ExchangeShort"
refusal_name (TooLittle floor got) = codes "TooLittle"
refusal_name (Funded have) = codes "Funded"
refusal_name (VaultLimit vault) = codes "VaultLimit"
refusal_name (SupplyLimit supply) = codes "SupplyLimit"
refusal_name EntriesLimit = codes "EntriesLimit"
refusal_name HistoryFull = codes "HistoryFull"
refusal_name (Busy capacity) = codes "Busy"
refusal_name Memory = codes "Memory"

abbrev pub fault_name : LineFault → List ℕ
fault_name fault.TooLong = codes "TooLong"
fault_name fault.NotJson = codes "NotJson"
fault_name fault.NotCommand = codes "NotCommand"
fault_name fault.OutOfRange = codes "OutOfRange"
fault_name fault.Memory = codes "Memory"

-- the members of a refusal whose names come before "code"
abbrev pub first_members : Refusal → List Member
first_members (Busy capacity) = number_member (codes "capacity") capacity ∷ []
first_members refusal = []

abbrev pub place_member : ℕ → Member
place_member place = number_member (codes "place") place

-- those whose names come between "error" and "rests"
abbrev pub middle_members : Refusal → List Member
middle_members (NoOrder place) = place_member place ∷ []
middle_members (NotOpen filled place) = number_member (codes "filled") filled ∷ place_member place ∷ []
middle_members (OrderExpired place) = place_member place ∷ []
middle_members (NonceOld nonce place) = number_member (codes "nonce") nonce ∷ place_member place ∷ []
middle_members (SelfMatch place) = place_member place ∷ []
middle_members (RepeatedOrder place) = place_member place ∷ []
middle_members (WrongPair place) = place_member place ∷ []
middle_members (NotCrossing maker place taker) = number_member (codes "maker") maker ∷ place_member place ∷ []
middle_members (Overfill place remaining) = place_member place ∷ number_member (codes "remaining") remaining ∷ []
middle_members (Unfunded have place) = number_member (codes "have") have ∷ place_member place ∷ []
middle_members (ExchangeShort place) = place_member place ∷ []
middle_members (TooLittle floor got) = number_member (codes "floor") floor ∷ number_member (codes "got") got ∷ []
middle_members (Funded have) = number_member (codes "have") have ∷ []
middle_members refusal = []

-- those whose names come behind "rests"
abbrev pub last_members : Refusal → List Member
last_members (Determined winner) = number_member (codes "winner") winner ∷ []
last_members (NotCrossing maker place taker) = number_member (codes "taker") taker ∷ []
last_members (VaultLimit vault) = number_member (codes "vault") vault ∷ []
last_members (SupplyLimit supply) = number_member (codes "supply") supply ∷ []
last_members refusal = []

-- a number and a name, as every refusal and every fault has them
abbrev pub named_members : ℕ → List ℕ → List Member
named_members code name = number_member (codes "code") code ∷ word_member (codes "error") name ∷ []

-- want of memory rests on nothing
abbrev pub refusal_members : Refusal → ℕ → List Member
refusal_members Memory rests = named_members (code_of Memory) (refusal_name Memory)
refusal_members refusal rests =
    first_members refusal ++ named_members (code_of refusal) (refusal_name refusal)
    ++ middle_members refusal ++ number_member (codes "rests") rests ∷ last_members refusal

abbrev pub reply_members : Reply → List Member
reply_members (Done lsn) = number_member (codes "lsn") lsn ∷ []
reply_members (Prepared condition lsn) = number_member (codes "condition") condition ∷ number_member (codes "lsn") lsn ∷ []
reply_members (EventMade event first lsn) = number_member (codes "event") event ∷ number_member (codes "first") first ∷ number_member (codes "lsn") lsn ∷ []
reply_members (Redeemed lsn paid) = number_member (codes "lsn") lsn ∷ record { name = codes "paid"; content = numbers paid } ∷ []
reply_members (Converted lsn out paid) = number_member (codes "lsn") lsn ∷ number_member (codes "out") out ∷ number_member (codes "paid") paid ∷ []
reply_members (Placed lsn order) = number_member (codes "lsn") lsn ∷ number_member (codes "order") order ∷ []
reply_members (Bumped lsn nonce) = number_member (codes "lsn") lsn ∷ number_member (codes "nonce") nonce ∷ []
reply_members (Matched fee got lsn refund) =
    number_member (codes "fee") fee ∷ number_member (codes "got") got ∷ number_member (codes "lsn") lsn ∷ number_member (codes "refund") refund ∷ []
reply_members (Crossed acts lsn more stop) =
    number_member (codes "acts") acts ∷ number_member (codes "lsn") lsn ∷ truth_member (codes "more") more ∷ number_member (codes "stop") stop ∷ []
reply_members (Balanced amount rests) = number_member (codes "amount") amount ∷ number_member (codes "rests") rests ∷ []
reply_members (Ordered filled live rests) = number_member (codes "filled") filled ∷ truth_member (codes "live") live ∷ number_member (codes "rests") rests ∷ []
reply_members (Vaulted rests vault) = number_member (codes "rests") rests ∷ number_member (codes "vault") vault ∷ []
reply_members (Refused refusal rests) = refusal_members refusal rests
reply_members (Bad fault) = named_members (fault_code fault) (fault_name fault)

unfoldable pub text_of : Reply → List ℕ
text_of reply = object (reply_members reply)
