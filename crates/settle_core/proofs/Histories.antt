-- What one act more does to a history.
use Rattle.std.proofs.Common.{◌≡◌, ℕ, ◌+◌, ◌<◌, List, [], ◌∷◌, ◌++◌, length, take, get_or, Some, true, sym, ◌∙◌, ap, subst, inl, inr, arith, length-append, append-nil}
use Rattle.std.specs.Prelude.{◌==◌, ◌||◌, slice_get, sum_by, All}
use Rattle.std.specs.List.{flat_map, list_any}
use Rattle.std.proofs.lemmas.Bool.{cases_lt}
use Rattle.std.proofs.lemmas.List.{get_or_append_left, take-append-le}
use Rattle.std.proofs.lemmas.Grind.{flat_map-append}
use Rattle.std.proofs.lemmas.List.Folds.{list_any-append}
use Rattle.std.proofs.lemmas.List.Sums.{fold-append, sum_by_push, sum_by-append}
use Rattle.std.proofs.lemmas.Option.{slice_get_within, slice_get-get_or}
use Rattle.std.proofs.Math.Seq.{get_or-append_seam, take-append_seam}
use Rattle.command_words.specs.declared.act.Act.{Act}
use Rattle.command_words.specs.Command.{may_be_act}
use Rattle.settle_core.specs.Bounds.{Bounds}
use Rattle.settle_core.specs.Legal.{IsAccepted, IsLegal}
use Rattle.ledger_book.specs.declared.posting.Posting.{Posting}
use Rattle.settle_core.specs.Book.{Book, answered_by, answers, blank, book, conditions, entered, events, events_after, numerators_on, postings, postings_of, prepared_by, reported_by, reports, told}
use Rattle.settle_core.specs.Orders.{is_market, opened_by, placed}
use Rattle.settle_core.specs.Placing.{placed_by}
use Rattle.settle_core.specs.Postings.{deposit_of, deposited, withdrawal_of, withdrawn}

-- the value in a Some
some_value : {X : Type 0} (x y : X) → Some x ≡ Some y → x ≡ y
some_value x y e = cc

-- an element that is there before one more comes
before_last : {X : Type 0} (xs : List X) (last x : X) (place : ℕ) → place < length xs → slice_get (xs ++ last ∷ []) place ≡ Some x → slice_get xs place ≡ Some x
before_last xs last x place inside at =
    let longer : place < length (xs ++ last ∷ []) = simp length-append (omega arith) in
    slice_get-get_or xs place x inside ∙ (ap Some (sym (get_or_append_left xs (last ∷ []) x place inside)) ∙ (sym (slice_get-get_or (xs ++ last ∷ []) place x longer) ∙ at))

-- the element that came last
at_last : {X : Type 0} (xs : List X) (last x : X) (place : ℕ) → place ≡ length xs → slice_get (xs ++ last ∷ []) place ≡ Some x → last ≡ x
at_last xs last x place end at =
    let longer : place < length (xs ++ last ∷ []) = simp length-append (omega arith) in
    let seam : get_or (xs ++ last ∷ []) place x ≡ last = rw end (get_or-append_seam xs last [] x) in
    some_value last x (ap Some (sym seam) ∙ (sym (slice_get-get_or (xs ++ last ∷ []) place x longer) ∙ at))

-- an accepted act keeps a history legal
pub IsLegal-more : (limits : Bounds) (history : List Act) (act : Act) → IsLegal limits history → IsAccepted limits history act → IsLegal limits (history ++ act ∷ [])
IsLegal-more limits history act legal accepted place other at =
    elim (cases_lt place (length history)) [
      | inl inside ↦ rw (take-append-le place history (act ∷ []) (omega arith)) (legal place other (before_last history act other place inside at))
      | inr past ↦
          let within : place < length (history ++ act ∷ []) = slice_get_within (history ++ act ∷ []) place other at in
          let end : place ≡ length history = omega (arith, length-append history (act ∷ [])) in
          let taken : take place (history ++ act ∷ []) ≡ history = rw end (take-append_seam history (act ∷ [])) in
          let P : List Act → Type 0 = λ acts. IsAccepted limits acts other in
          subst P (sym taken) (subst (IsAccepted limits history) (at_last history act other place end at) accepted)
    ]

-- each act of a legal history may be one
pub legal-acts : (limits : Bounds) (history : List Act) → IsLegal limits history → All (λ act. may_be_act act.command ≡ true) history
legal-acts limits history legal place act inside = (legal place (get_or history place act) (slice_get-get_or history place act inside)).may_be_act

-- one act more is entered behind the others
pub book-more : (history : List Act) (act : Act) → book (history ++ act ∷ []) ≡ entered (book history) act
book-more history act = fold-append entered blank history (act ∷ [])

-- an act more pays its deposit into the vault, and its withdrawal out of it
pub deposited-more : (history : List Act) (act : Act) → deposited (history ++ act ∷ []) ≡ deposited history + deposit_of act.command
deposited-more history act = sum_by_push (λ (a : Act). deposit_of a.command) history act

pub withdrawn-more : (history : List Act) (act : Act) → withdrawn (history ++ act ∷ []) ≡ withdrawn history + withdrawal_of act.command
withdrawn-more history act = sum_by_push (λ (a : Act). withdrawal_of a.command) history act

-- an act more prepares its condition
pub conditions-more : (history : List Act) (act : Act) → conditions (history ++ act ∷ []) ≡ conditions history ++ prepared_by (events history) act.command
conditions-more history act = ap (λ (b : Book). b.conditions) (book-more history act)

-- and is entered into the events
pub events-more : (history : List Act) (act : Act) → events (history ++ act ∷ []) ≡ events_after (length (conditions history)) (events history) act.command
events-more history act = ap (λ (b : Book). b.events) (book-more history act)

-- an act more places its order behind the others, and opens its market
pub placed-more : (history : List Act) (act : Act) → placed (history ++ act ∷ []) ≡ placed history ++ placed_by act.account act.command
placed-more history act = ap (λ (b : Book). b.placed) (book-more history act)

pub market-more : (history : List Act) (act : Act) (c : ℕ) → is_market (history ++ act ∷ []) c ≡ (is_market history c || list_any (λ market. market == c) (opened_by act.command))
market-more history act c =
    ap (list_any (λ market. market == c)) (flat_map-append (λ (x : Act). opened_by x.command) history (act ∷ []) ∙ ap (λ (more : List ℕ). flat_map (λ (x : Act). opened_by x.command) history ++ more) (append-nil (opened_by act.command)))
    ∙ list_any-append (λ market. market == c) (flat_map (λ (x : Act). opened_by x.command) history) (opened_by act.command)

-- an act more tells behind what was told
pub told-more : (history : List Act) (act : Act) → told (history ++ act ∷ []) ≡ numerators_on ((reports history ++ reported_by act.command) ++ (answers history ++ answered_by (events history) act.command))
told-more history act = ap (λ (b : Book). numerators_on (b.reports ++ b.answers)) (book-more history act)

-- an act more posts behind the others, which adds to every sum over what was posted
pub postings-more : (history : List Act) (act : Act) → postings (history ++ act ∷ []) ≡ postings history ++ postings_of (book history) act.account act.command
postings-more history act = ap (λ (b : Book). b.postings) (book-more history act)

pub sum-more : (f : Posting → ℕ) (history : List Act) (act : Act) → sum_by f (postings (history ++ act ∷ [])) ≡ sum_by f (postings history) + sum_by f (postings_of (book history) act.account act.command)
sum-more f history act = ap (sum_by f) (postings-more history act) ∙ sum_by-append f (postings history) (postings_of (book history) act.account act.command)

-- an act more adds as many postings as it posts
pub length-more : (history : List Act) (act : Act) → length (postings (history ++ act ∷ [])) ≡ length (postings history) + length (postings_of (book history) act.account act.command)
length-more history act = ap length (postings-more history act) ∙ length-append (postings history) (postings_of (book history) act.account act.command)
