use Rattle.journal_store.proofs.Agreeing.{foreign-follows, foreign-breaks}
use Rattle.journal_store.proofs.FoundLaws.{no-list}
use Rattle.journal_store.proofs.laws.nothing_of_foreign.Goals as goal

pub returns-clause-list : goal.returns-clause-list
returns-clause-list c = no-list

pub returns-clause-payload : goal.returns-clause-payload
returns-clause-payload c = foreign-follows

pub returns-clause-place : goal.returns-clause-place
returns-clause-place c = foreign-breaks
