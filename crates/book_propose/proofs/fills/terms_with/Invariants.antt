use Rattle.std.proofs.Common.{◌≡◌, ◌-◌, ◌≤◌, All, drop, map, take}
use Rattle.condition_sets.specs.declared.amount.TheConstants.{MAX_AMOUNT}
use Rattle.book_propose.specs.Proposals.{fillings, terms_of}
use Rattle.book_propose.proofs.fills.terms_with.Given as goal

abbrev pub invariant-loop-candidate : goal.invariant-loop-candidate
invariant-loop-candidate l =
    let offers = map (λ m. m.offer) l.makers in
    let fs = fillings l.taker l.taker.rest offers in
    record {
      so_far : l.terms ≡ terms_of l.taker (take l.candidate-index fs);
      rest : drop l.candidate-index fs ≡ fillings l.taker (l.taker.rest - l.terms.fill) (drop l.candidate-index offers);
      within : l.terms.fill ≤ l.taker.rest;
      each : All (λ m. (1 ≤ m.1) × (m.1 ≤ MAX_AMOUNT)) l.terms.makers;
    }
