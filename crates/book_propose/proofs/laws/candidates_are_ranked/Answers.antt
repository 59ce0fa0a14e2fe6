use Rattle.book_propose.specs.Candidates.{candidates}
use Rattle.book_propose.proofs.Insertion.{length-ranked}
use Rattle.book_propose.proofs.Order.{in_order, members}
use Rattle.book_propose.proofs.laws.candidates_are_ranked.Goals as goal

pub returns-clause-in_order : goal.returns-clause-in_order
returns-clause-in_order c offers taker snapshot = in_order taker offers snapshot

pub returns-clause-members : goal.returns-clause-members
returns-clause-members c offers taker o = members taker offers o

pub returns-clause-as_many : goal.returns-clause-as_many
returns-clause-as_many c offers taker = length-ranked taker (candidates taker offers)
