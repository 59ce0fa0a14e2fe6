-- What each image holds that a run may leave, can be paid, and is fair.
use Rattle.std.proofs.Common.{◌≡◌, ℕ, zero, suc, List, [], ◌∷◌, take, Some, refl, sym, ap, subst}
use Rattle.std.specs.Prelude.{slice_get}
use Rattle.command_words.specs.declared.act.Act.{Act}
use Rattle.journal_store.proofs.Unique.{one-list}
use Rattle.settle_core.proofs.Coverage.{can-pay}
use Rattle.settle_core.proofs.Fair.{fair}
use Rattle.settle_core.specs.Bounds.{Bounds, standard}
use Rattle.settle_core.specs.Legal.{IsAccepted, IsLegal}
use Rattle.exchange_top.proofs.Recoveries.{one-history}
use Rattle.exchange_top.specs.Holds.{Holds, HoldsFront, SpellAll}
use Rattle.exchange_top.specs.Run.{AllAreFair, AllCanPay, HoldsAnswered}
use Rattle.exchange_top.specs.Talk.{Turn}

-- an image holds one history
one-held : (image : List ℕ) (history other : List Act) → Holds image history → Holds image other → history ≡ other
one-held image history other one two =
    one-history two.0 history other (subst (λ (list : List (List ℕ)). SpellAll list history) (one-list image one.0 two.0 one.1 two.1) one.2) two.2

-- what is there in a front is there in the whole, behind the same
in-front : {X : Type 0} (n place : ℕ) (xs : List X) (x : X) → slice_get (take n xs) place ≡ Some x → (slice_get xs place ≡ Some x) × (take place (take n xs) ≡ take place xs)
in-front zero place xs x at = cc
in-front (suc n) place [] x at = cc
in-front (suc n) zero (y ∷ ys) x at = (at, refl)
in-front (suc n) (suc place) (y ∷ ys) x at =
    let rest = in-front n place ys x at in
    (rest.0, ap (λ zs. y ∷ zs) rest.1)

-- a front of a legal history is legal
front-legal : (limits : Bounds) (history : List Act) (n : ℕ) → IsLegal limits history → IsLegal limits (take n history)
front-legal limits history n legal place act at =
    let there = in-front n place history act at in
    subst (λ (before : List Act). IsAccepted limits before act) (sym there.1) (legal place act there.0)

-- what an image holds that holds a front of a legal history is legal
front-held : (history : List Act) (n : ℕ) (image : List ℕ) (held : List Act) → IsLegal standard history → Holds image (take n history) → Holds image held → IsLegal standard held
front-held history n image held legal front holds =
    subst (λ (h : List Act). IsLegal standard h) (one-held image (take n history) held front holds) (front-legal standard history n legal)

-- whatever history one of these images holds is legal
abbrev pub AllAreLegal : (List ℕ → Type 0) → Type 0
AllAreLegal images = (image : List ℕ) (history : List Act) → images image → Holds image history → IsLegal standard history

pub answered-legal : (images : List ℕ → Type 0) (turns : List Turn) (history : List Act) → IsLegal standard history → ((image : List ℕ) → images image → HoldsAnswered turns history image) → AllAreLegal images
answered-legal images turns history legal kept image held now holds =
    let answered = kept image now in
    front-held history answered.acts image held legal answered.held holds

pub fronts-legal : (images : List ℕ → Type 0) (least : ℕ) (history : List Act) → IsLegal standard history → ((image : List ℕ) → images image → HoldsFront least history image) → AllAreLegal images
fronts-legal images least history legal since image held now holds =
    let front = since image now in
    front-held history front.acts image held legal front.held holds

-- so it can be paid, and is fair
pub all-pay : (images : List ℕ → Type 0) → AllAreLegal images → AllCanPay images
all-pay images legal image history now holds =
    let is = legal image history now holds in
    (is, can-pay standard history is)

pub all-fair : (images : List ℕ → Type 0) → AllAreLegal images → AllAreFair images
all-fair images legal image history now holds = fair standard history (legal image history now holds)
