use Rattle.book_propose.proofs.Fronts.{fillings-front, longest}
use Rattle.book_propose.proofs.laws.makers_are_the_longest_front.Goals as goal

pub returns-clause-front : goal.returns-clause-front
returns-clause-front c taker left makers = fillings-front taker left makers

pub returns-clause-longest : goal.returns-clause-longest
returns-clause-longest c taker left makers fs front = longest taker left makers fs front
