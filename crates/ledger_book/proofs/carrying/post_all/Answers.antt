use Rattle.std.proofs.Common.{List, refl, sym, ◌∙◌, subst, arith}
use Rattle.std.specs.Map.{keys_of}
use Rattle.std.proofs.lemmas.List.{take_all}
use Rattle.ledger_book.specs.Ledger.{rows, amount_in}
use Rattle.ledger_book.specs.declared.posting.Posting.{Posting}
use Rattle.ledger_book.proofs.Movements.{AreAmountsCarried, amounts_whole, amounts_not_yet, amounts_first, amounts_again}
use Rattle.ledger_book.proofs.Places.{placed_at, are_placed-stay}
use Rattle.ledger_book.proofs.carrying.post_all.Goals as goal
use Rattle.ledger_book.proofs.carrying.post_all.Goals.{then-not-is_position_in, else-not-is_position_in}

pub loop-place-init : goal.loop-place-init
loop-place-init c = record { carried = λ q. refl; placed = c.requires.placed; behind = λ a n past. refl }

pub post-requires-clause-low : goal.post-requires-clause-low
post-requires-clause-low c =
    let p = c.index-postings-place.result in
    let ks = keys_of c.args.supplies.now.entries in
    omega (arith, c.requires.low p.account p.collection, amounts_not_yet (amount_in (rows c.args.accounts.now) ks) (amount_in (rows c.loop-place.accounts) ks) c.args.postings.now c.loop-place.place p (sym c.is_position_in.ensures ∙ c.if-not-is_position_in.true) c.loop-place.invariant.carried)

pub post-requires-clause-high : goal.post-requires-clause-high
post-requires-clause-high c =
    let p = c.index-postings-place.result in
    let ks = keys_of c.args.supplies.now.entries in
    omega (arith, c.requires.high p.account p.collection, amounts_not_yet (amount_in (rows c.args.accounts.now) ks) (amount_in (rows c.loop-place.accounts) ks) c.args.postings.now c.loop-place.place p (sym c.is_position_in.ensures ∙ c.if-not-is_position_in.true) c.loop-place.invariant.carried)

pub post-requires-clause-placed : goal.post-requires-clause-placed
post-requires-clause-placed c =
    placed_at (rows c.loop-place.accounts) (keys_of c.args.supplies.now.entries) c.args.postings.now c.loop-place.place c.index-postings-place.result c.loop-place-test.true c.index-postings-place.is c.loop-place.invariant.placed

pub loop-place-preserved : goal.loop-place-preserved
loop-place-preserved c =
    let p = c.index-postings-place.result in
    let ks = keys_of c.args.supplies.now.entries in
    let old = amount_in (rows c.args.accounts.now) ks in
    let now = amount_in (rows c.loop-place.accounts) ks in
    let ps = c.args.postings.now in
    let i = c.loop-place.place in
    elim c.if-not-is_position_in.branch [
      | then-not-is_position_in w ↦ rw w.accounts-is record {
        carried = amounts_first old now (amount_in (rows w.post.new.accounts) ks) ps i p c.loop-place-test.true c.index-postings-place.is (sym c.is_position_in.ensures ∙ w.if-not-is_position_in.true) w.post.ensures.here w.post.ensures.other c.loop-place.invariant.carried;
        placed = are_placed-stay (rows c.loop-place.accounts) (rows w.post.new.accounts) ks ps w.post.ensures.stays c.loop-place.invariant.placed;
        behind = λ a n past. w.post.ensures.behind a n past ∙ c.loop-place.invariant.behind a n past;
      }
      | else-not-is_position_in w ↦ rw w.accounts-is record {
        carried = amounts_again old now ps i p c.loop-place-test.true c.index-postings-place.is (sym c.is_position_in.ensures ∙ w.if-not-is_position_in.false) c.loop-place.invariant.carried;
        placed = c.loop-place.invariant.placed;
        behind = c.loop-place.invariant.behind;
      }
    ]

pub returns-clause-amounts : goal.returns-clause-amounts
returns-clause-amounts c =
    let ks = keys_of c.args.supplies.now.entries in
    let old = amount_in (rows c.args.accounts.now) ks in
    let now = amount_in (rows c.loop-place.accounts) ks in
    let ps = c.args.postings.now in
    let all = take_all c.loop-place.place ps c.loop-place-test.false in
    amounts_whole old now ps (subst (λ (front : List Posting). AreAmountsCarried old now ps front) all c.loop-place.invariant.carried)
