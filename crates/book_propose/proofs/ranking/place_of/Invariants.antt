use Rattle.std.proofs.Common.{◌≡◌, false}
use Rattle.std.specs.List.{AllWithin}
use Rattle.book_propose.specs.Pricing.{comes_before}
use Rattle.book_propose.proofs.ranking.place_of.Given as goal

abbrev pub invariant-loop-index : goal.invariant-loop-index
invariant-loop-index l = AllWithin (λ other. comes_before l.side l.candidate other ≡ false) l.others 0 l.index
