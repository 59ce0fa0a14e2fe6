-- The refusals and the faults of lines, by their numbers.
use Rattle.std.specs.Prelude.{ℕ}
use Rattle.command_words.specs.declared.line_fault.LineFault.{LineFault}
use Rattle.command_words.specs.declared.line_fault.LineFault.TheVariants as fault
use Rattle.command_words.specs.declared.refusal.Refusal.{Refusal}
use Rattle.command_words.specs.declared.refusal.Refusal.TheVariants.{NotAllowed, NoCondition, AlreadyPrepared, TableFull, BadSet, BadPartition, Held, TooDeep, AlreadyReported, BadPayouts, NotReported, NoEvent, Determined, NoMarket, NoOrder, NotOpen, OrderExpired, NonceOld, SelfMatch, RepeatedOrder, WrongPair, NotCrossing, Overfill, Unfunded, ExchangeShort, TooLittle, Funded, VaultLimit, SupplyLimit, EntriesLimit, HistoryFull, Busy, Memory}

abbrev pub code_of : Refusal → ℕ
code_of NotAllowed = 5
code_of NoCondition = 6
code_of AlreadyPrepared = 7
code_of TableFull = 8
code_of BadSet = 9
code_of BadPartition = 10
code_of Held = 11
code_of TooDeep = 12
code_of AlreadyReported = 13
code_of BadPayouts = 14
code_of NotReported = 15
code_of NoEvent = 16
code_of (Determined winner) = 17
code_of NoMarket = 18
code_of (NoOrder place) = 19
code_of (NotOpen filled place) = 20
code_of (OrderExpired place) = 21
code_of (NonceOld nonce place) = 22
code_of (SelfMatch place) = 23
code_of (RepeatedOrder place) = 24
code_of (WrongPair place) = 25
code_of (NotCrossing maker place taker) = 26
code_of (Overfill place remaining) = 27
code_of (Unfunded have place) = 28
code_of (ExchangeShort place) = 29
code_of (TooLittle floor got) = 30
code_of (Funded have) = 31
code_of (VaultLimit vault) = 32
code_of (SupplyLimit supply) = 33
code_of EntriesLimit = 34
code_of HistoryFull = 35
code_of (Busy capacity) = 36
code_of Memory = 37

abbrev pub fault_code : LineFault → ℕ
fault_code fault.TooLong = 1
fault_code fault.NotJson = 2
fault_code fault.NotCommand = 3
fault_code fault.OutOfRange = 4
fault_code fault.Memory = 37
