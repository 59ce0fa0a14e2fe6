-- The numbers with which the program ends.
use Rattle.std.specs.Prelude.{ℕ}
use Rattle.line_link.specs.declared.status.Status.{Status}
use Rattle.line_link.specs.declared.status.Status.TheVariants.{Done, Words, ReadFault, WriteFault, DiskFault, NotJournal, Cut, NotAct, Illegal, InputLimit, Memory}

abbrev pub number_of : Status → ℕ
number_of Done = 0
number_of Words = 2
number_of ReadFault = 3
number_of WriteFault = 4
number_of DiskFault = 5
number_of NotJournal = 6
number_of (Cut place lsn) = 7
number_of (NotAct place lsn) = 7
number_of (Illegal place lsn code) = 7
number_of InputLimit = 8
number_of Memory = 9
