-- Bytes give no history for one reason.
use Rattle.std.proofs.Common.{◌≡◌, ◌⊎◌, ℕ, List, ◌∷◌, ◌++◌, length, refl, sym, ◌∙◌, ap, subst, inl, inr}
use Rattle.std.specs.Prelude.{Some}
use Rattle.act_bytes.specs.Spelling.{Spells}
use Rattle.act_bytes.proofs.Unique.{one-act}
use Rattle.command_words.specs.declared.act.Act.{Act}
use Rattle.journal_store.specs.Found.{OneFollows}
use Rattle.journal_store.proofs.Agreeing.{one-follows, before-break, foreign-follows, foreign-breaks}
use Rattle.journal_store.proofs.FoundLaws.{one-break}
use Rattle.settle_core.specs.Bounds.{Bounds}
use Rattle.settle_core.specs.Replay.{IsRefused}
use Rattle.exchange_top.specs.Damage.{IsCutAt, IsNoActAt, IsIllegalAt}
use Rattle.exchange_top.specs.Holds.{SpellAll}
use Rattle.exchange_top.specs.Recovery.{Stops, IsExcused}
use Rattle.exchange_top.specs.declared.recovery.OpenFault.{OpenFault}
use Rattle.exchange_top.specs.declared.recovery.OpenFault.TheVariants.{Disk, NotJournal, Cut, NotAct, Illegal, Memory}
use Rattle.exchange_top.proofs.Recoveries.{one-history, SpellsAt, spells-at, illegal-passed}

-- a payload with more behind it, in a list that spells a history
inside : (list whole more : List (List ℕ)) (payload : List ℕ) (history : List Act) → whole ≡ list ++ payload ∷ more → SpellAll whole history → SpellsAt list payload history
inside list whole more payload history same spelled = spells-at list payload more history (subst (λ (ps : List (List ℕ)). SpellAll ps history) same spelled)

no_act-passed : (limits : Bounds) (bytes : List ℕ) (place lsn : ℕ) (stops : IsNoActAt limits bytes place lsn) (history : List Act) → SpellsAt stops.list stops.payload history → ⊥
no_act-passed limits bytes place lsn stops history at = stops.no_act at.act at.spells

-- each pair of reasons
cut-cut : (limits : Bounds) (bytes : List ℕ) (p n q m : ℕ) → IsCutAt limits bytes p n → IsCutAt limits bytes q m → Cut p n ≡ Cut q m
cut-cut limits bytes p n q m one two =
    let same = one-break bytes one.list two.list p q one.breaks two.breaks in
    let acts = one-history two.list one.history two.history (subst (λ (ps : List (List ℕ)). SpellAll ps one.history) same.0 one.spelled) two.spelled in
    let lsn = one.counted ∙ (ap length acts ∙ sym two.counted) in
    λ i. Cut (same.1 i) (lsn i)

cut-no_act : (limits : Bounds) (bytes : List ℕ) (p n q m : ℕ) → IsCutAt limits bytes p n → IsNoActAt limits bytes q m → ⊥
cut-no_act limits bytes p n q m one two =
    let more = before-break bytes two.list one.list two.payload q p two.follows one.breaks in
    no_act-passed limits bytes q m two one.history (inside two.list one.list more.0 two.payload one.history more.1 one.spelled)

cut-illegal : (limits : Bounds) (bytes : List ℕ) (p n q m code : ℕ) → IsCutAt limits bytes p n → IsIllegalAt limits bytes q m code → ⊥
cut-illegal limits bytes p n q m code one two =
    let more = before-break bytes two.list one.list two.payload q p two.follows one.breaks in
    illegal-passed limits bytes q m code two one.history one.legal (inside two.list one.list more.0 two.payload one.history more.1 one.spelled)

no_act-by : (limits : Bounds) (bytes : List ℕ) (p n q m : ℕ) (one : IsNoActAt limits bytes p n) (two : IsNoActAt limits bytes q m) → OneFollows one.list one.payload p two.list two.payload q → NotAct p n ≡ NotAct q m
no_act-by limits bytes p n q m one two (inl same) =
    let acts = one-history two.list one.history two.history (subst (λ (ps : List (List ℕ)). SpellAll ps one.history) same.0 one.spelled) two.spelled in
    let lsn = one.counted ∙ (ap length acts ∙ sym two.counted) in
    λ i. NotAct (same.2 i) (lsn i)
no_act-by limits bytes p n q m one two (inr (inl later)) = absurd (no_act-passed limits bytes p n one two.history (inside one.list two.list later.0 one.payload two.history later.1 two.spelled))
no_act-by limits bytes p n q m one two (inr (inr later)) = absurd (no_act-passed limits bytes q m two one.history (inside two.list one.list later.0 two.payload one.history later.1 one.spelled))

no_act-illegal : (limits : Bounds) (bytes : List ℕ) (p n q m code : ℕ) (one : IsNoActAt limits bytes p n) (two : IsIllegalAt limits bytes q m code) → OneFollows one.list one.payload p two.list two.payload q → ⊥
no_act-illegal limits bytes p n q m code one two (inl same) = one.no_act two.act (subst (λ (payload : List ℕ). Spells payload two.act) (sym same.1) two.spells)
no_act-illegal limits bytes p n q m code one two (inr (inl later)) = no_act-passed limits bytes p n one two.history (inside one.list two.list later.0 one.payload two.history later.1 two.spelled)
no_act-illegal limits bytes p n q m code one two (inr (inr later)) = illegal-passed limits bytes q m code two one.history one.legal (inside two.list one.list later.0 two.payload one.history later.1 one.spelled)

some-same : (a b : ℕ) → Some a ≡ Some b → a ≡ b
some-same a b same = cc

one-code : (limits : Bounds) (history : List Act) (act : Act) (code other : ℕ) → IsRefused limits history act code → IsRefused limits history act other → code ≡ other
one-code limits history act code other one two = some-same code other (sym one ∙ two)

illegal-by : (limits : Bounds) (bytes : List ℕ) (p n c q m d : ℕ) (one : IsIllegalAt limits bytes p n c) (two : IsIllegalAt limits bytes q m d) → OneFollows one.list one.payload p two.list two.payload q → Illegal p n c ≡ Illegal q m d
illegal-by limits bytes p n c q m d one two (inl same) =
    let acts = one-history two.list one.history two.history (subst (λ (ps : List (List ℕ)). SpellAll ps one.history) same.0 one.spelled) two.spelled in
    let lsn = one.counted ∙ (ap length acts ∙ sym two.counted) in
    let act = one-act two.payload one.act two.act (subst (λ (payload : List ℕ). Spells payload one.act) same.1 one.spells) two.spells in
    let refused = subst (λ (a : Act). IsRefused limits two.history a c) act (subst (λ (h : List Act). IsRefused limits h one.act c) acts one.refused) in
    let code = one-code limits two.history two.act c d refused two.refused in
    λ i. Illegal (same.2 i) (lsn i) (code i)
illegal-by limits bytes p n c q m d one two (inr (inl later)) = absurd (illegal-passed limits bytes p n c one two.history two.legal (inside one.list two.list later.0 one.payload two.history later.1 two.spelled))
illegal-by limits bytes p n c q m d one two (inr (inr later)) = absurd (illegal-passed limits bytes q m d two one.history one.legal (inside two.list one.list later.0 two.payload one.history later.1 one.spelled))

-- bytes stop a journal for one reason
pub one-damage : (limits : Bounds) (bytes : List ℕ) (why other : OpenFault) → Stops limits bytes why → Stops limits bytes other → IsExcused why ⊎ (IsExcused other ⊎ (why ≡ other))
one-damage limits bytes Disk other one two = inl tt
one-damage limits bytes NotJournal Disk one two = inr (inl tt)
one-damage limits bytes NotJournal NotJournal one two = inr (inr refl)
one-damage limits bytes NotJournal (Cut q m) one two = absurd (foreign-breaks bytes two.list q one two.breaks)
one-damage limits bytes NotJournal (NotAct q m) one two = absurd (foreign-follows bytes two.list two.payload q one two.follows)
one-damage limits bytes NotJournal (Illegal q m d) one two = absurd (foreign-follows bytes two.list two.payload q one two.follows)
one-damage limits bytes NotJournal Memory one two = inr (inl tt)
one-damage limits bytes (Cut p n) Disk one two = inr (inl tt)
one-damage limits bytes (Cut p n) NotJournal one two = absurd (foreign-breaks bytes one.list p two one.breaks)
one-damage limits bytes (Cut p n) (Cut q m) one two = inr (inr (cut-cut limits bytes p n q m one two))
one-damage limits bytes (Cut p n) (NotAct q m) one two = absurd (cut-no_act limits bytes p n q m one two)
one-damage limits bytes (Cut p n) (Illegal q m d) one two = absurd (cut-illegal limits bytes p n q m d one two)
one-damage limits bytes (Cut p n) Memory one two = inr (inl tt)
one-damage limits bytes (NotAct p n) Disk one two = inr (inl tt)
one-damage limits bytes (NotAct p n) NotJournal one two = absurd (foreign-follows bytes one.list one.payload p two one.follows)
one-damage limits bytes (NotAct p n) (Cut q m) one two = absurd (cut-no_act limits bytes q m p n two one)
one-damage limits bytes (NotAct p n) (NotAct q m) one two = inr (inr (no_act-by limits bytes p n q m one two (one-follows bytes one.list two.list one.payload two.payload p q one.follows two.follows)))
one-damage limits bytes (NotAct p n) (Illegal q m d) one two = absurd (no_act-illegal limits bytes p n q m d one two (one-follows bytes one.list two.list one.payload two.payload p q one.follows two.follows))
one-damage limits bytes (NotAct p n) Memory one two = inr (inl tt)
one-damage limits bytes (Illegal p n c) Disk one two = inr (inl tt)
one-damage limits bytes (Illegal p n c) NotJournal one two = absurd (foreign-follows bytes one.list one.payload p two one.follows)
one-damage limits bytes (Illegal p n c) (Cut q m) one two = absurd (cut-illegal limits bytes q m p n c two one)
one-damage limits bytes (Illegal p n c) (NotAct q m) one two = absurd (no_act-illegal limits bytes q m p n c two one (one-follows bytes two.list one.list two.payload one.payload q p two.follows one.follows))
one-damage limits bytes (Illegal p n c) (Illegal q m d) one two = inr (inr (illegal-by limits bytes p n c q m d one two (one-follows bytes one.list two.list one.payload two.payload p q one.follows two.follows)))
one-damage limits bytes (Illegal p n c) Memory one two = inr (inl tt)
one-damage limits bytes Memory other one two = inl tt
