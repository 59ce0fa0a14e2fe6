-- Readings of one journal agree.
use Rattle.std.proofs.Common.{◌≡◌, ◌⊎◌, ℕ, List, [], ◌∷◌, ◌++◌, length, take, refl, sym, ◌∙◌, ap, inl, inr, append_assoc, append-nil}
use Rattle.std.specs.Prelude.{All}
use Rattle.std.proofs.lemmas.Grind.{flat_map-append}
use Rattle.std.proofs.lemmas.List.Concat.{flat_map-cons}
use Rattle.std.proofs.lemmas.List.Elements.{All-head, All-tail, All-append, All-cons, All-nil}
use Rattle.std.proofs.Math.Seq.{take-append_seam}
use Rattle.journal_store.specs.Format.{header, IsBatch, batch_bytes, open_gates, payloads}
use Rattle.journal_store.specs.Found.{Follows, Breaks, IsForeign, OneFollows}
use Rattle.journal_store.specs.declared.limits.TheConstants.{VERSION}
use Rattle.journal_store.proofs.FormatLaws.{length-header, payloads-more}
use Rattle.journal_store.proofs.FoundLaws.{inner-bytes, first-of}
use Rattle.journal_store.proofs.Unique.{same-batch, later-bytes, open-first}

-- one place of a list, or one behind the other
abbrev Meets : List (List ℕ) → List ℕ → List (List ℕ) → List ℕ → Type 0
Meets xs x ys y = ((xs ≡ ys) × (x ≡ y)) ⊎ (((more : List (List ℕ)) × (ys ≡ xs ++ x ∷ more)) ⊎ ((more : List (List ℕ)) × (xs ≡ ys ++ y ∷ more)))

head-same : {X : Type 0} (x y : X) (xs ys : List X) → x ∷ xs ≡ y ∷ ys → x ≡ y
head-same x y xs ys same = cc

tail-same : {X : Type 0} (x y : X) (xs ys : List X) → x ∷ xs ≡ y ∷ ys → xs ≡ ys
tail-same x y xs ys same = cc

meets-more : (z w x y : List ℕ) (xs ys : List (List ℕ)) → z ≡ w → Meets xs x ys y → Meets (z ∷ xs) x (w ∷ ys) y
meets-more z w x y xs ys first (inl same) = inl (λ i. first i ∷ same.0 i, same.1)
meets-more z w x y xs ys first (inr (inl later)) = inr (inl (later.0, λ i. sym first i ∷ later.1 i))
meets-more z w x y xs ys first (inr (inr later)) = inr (inr (later.0, λ i. first i ∷ later.1 i))

meet : (xs ys : List (List ℕ)) (x y : List ℕ) (us vs : List (List ℕ)) → xs ++ x ∷ us ≡ ys ++ y ∷ vs → Meets xs x ys y
meet [] [] x y us vs same = inl (refl, head-same x y us vs same)
meet [] (w ∷ ys) x y us vs same = inr (inl (ys, ap (λ (p : List ℕ). p ∷ ys) (sym (head-same x w us (ys ++ y ∷ vs) same))))
meet (z ∷ xs) [] x y us vs same = inr (inr (xs, ap (λ (p : List ℕ). p ∷ xs) (head-same z y (xs ++ x ∷ us) vs same)))
meet (z ∷ xs) (w ∷ ys) x y us vs same =
    meets-more z w x y xs ys (head-same z w (xs ++ x ∷ us) (ys ++ y ∷ vs) same) (meet xs ys x y us vs (tail-same z w (xs ++ x ∷ us) (ys ++ y ∷ vs) same))

-- a payload in a batch behind others, as one of all payloads
abbrev MeetsIn : List (List (List ℕ)) → List (List ℕ) → List ℕ → List (List (List ℕ)) → List (List ℕ) → List ℕ → Type 0
MeetsIn bs xs x cs ys y =
    ((bs ≡ cs) × (payloads bs ++ xs ≡ payloads cs ++ ys) × (x ≡ y))
    ⊎ (((more : List (List ℕ)) × (payloads cs ++ ys ≡ (payloads bs ++ xs) ++ x ∷ more)) ⊎ ((more : List (List ℕ)) × (payloads bs ++ xs ≡ (payloads cs ++ ys) ++ y ∷ more)))

cons-payloads : (b : List (List ℕ)) (bs : List (List (List ℕ))) (xs : List (List ℕ)) → payloads (b ∷ bs) ++ xs ≡ b ++ (payloads bs ++ xs)
cons-payloads b bs xs = ap (λ (ps : List (List ℕ)). ps ++ xs) (flat_map-cons (λ (batch : List (List ℕ)). batch) b bs) ∙ append_assoc b (payloads bs) xs

first-in : (xs ys : List (List ℕ)) (x y : List ℕ) → Meets xs x ys y → MeetsIn [] xs x [] ys y
first-in xs ys x y (inl same) = inl (refl, same.0, same.1)
first-in xs ys x y (inr (inl later)) = inr (inl later)
first-in xs ys x y (inr (inr later)) = inr (inr later)

behind-first : (c : List (List ℕ)) (cs : List (List (List ℕ))) (xs ys us : List (List ℕ)) (x : List ℕ) → xs ++ x ∷ us ≡ c → payloads (c ∷ cs) ++ ys ≡ xs ++ x ∷ (us ++ (payloads cs ++ ys))
behind-first c cs xs ys us x same =
    cons-payloads c cs ys ∙ (ap (λ (ps : List (List ℕ)). ps ++ (payloads cs ++ ys)) (sym same) ∙ append_assoc xs (x ∷ us) (payloads cs ++ ys))

in-more : (b c : List (List ℕ)) (bs cs : List (List (List ℕ))) (xs ys more : List (List ℕ)) (x : List ℕ) → b ≡ c → payloads cs ++ ys ≡ (payloads bs ++ xs) ++ x ∷ more → payloads (c ∷ cs) ++ ys ≡ (payloads (b ∷ bs) ++ xs) ++ x ∷ more
in-more b c bs cs xs ys more x first later =
    cons-payloads c cs ys
    ∙ ((λ i. sym first i ++ later i)
    ∙ (sym (append_assoc b (payloads bs ++ xs) (x ∷ more)) ∙ ap (λ (ps : List (List ℕ)). ps ++ x ∷ more) (sym (cons-payloads b bs xs))))

meets-in-more : (b c : List (List ℕ)) (bs cs : List (List (List ℕ))) (xs ys : List (List ℕ)) (x y : List ℕ) → b ≡ c → MeetsIn bs xs x cs ys y → MeetsIn (b ∷ bs) xs x (c ∷ cs) ys y
meets-in-more b c bs cs xs ys x y first (inl same) =
    inl (λ i. first i ∷ same.0 i, cons-payloads b bs xs ∙ ((λ i. first i ++ same.1 i) ∙ sym (cons-payloads c cs ys)), same.2)
meets-in-more b c bs cs xs ys x y first (inr (inl later)) = inr (inl (later.0, in-more b c bs cs xs ys later.0 x first later.1))
meets-in-more b c bs cs xs ys x y first (inr (inr later)) = inr (inr (later.0, in-more c b cs bs ys xs later.0 y (sym first) later.1))

meet-in : (bs cs : List (List (List ℕ))) (xs ys us vs : List (List ℕ)) (x y : List ℕ) (later after : List (List (List ℕ))) → bs ++ (xs ++ x ∷ us) ∷ later ≡ cs ++ (ys ++ y ∷ vs) ∷ after → MeetsIn bs xs x cs ys y
meet-in [] [] xs ys us vs x y later after same = first-in xs ys x y (meet xs ys x y us vs (head-same (xs ++ x ∷ us) (ys ++ y ∷ vs) later after same))
meet-in [] (c ∷ cs) xs ys us vs x y later after same =
    inr (inl (us ++ (payloads cs ++ ys), behind-first c cs xs ys us x (head-same (xs ++ x ∷ us) c later (cs ++ (ys ++ y ∷ vs) ∷ after) same)))
meet-in (b ∷ bs) [] xs ys us vs x y later after same =
    inr (inr (vs ++ (payloads bs ++ xs), behind-first b bs ys xs vs y (sym (head-same b (ys ++ y ∷ vs) (bs ++ (xs ++ x ∷ us) ∷ later) after same))))
meet-in (b ∷ bs) (c ∷ cs) xs ys us vs x y later after same =
    meets-in-more b c bs cs xs ys x y (head-same b c (bs ++ (xs ++ x ∷ us) ∷ later) (cs ++ (ys ++ y ∷ vs) ∷ after) same)
    (meet-in bs cs xs ys us vs x y later after (tail-same b c (bs ++ (xs ++ x ∷ us) ∷ later) (cs ++ (ys ++ y ∷ vs) ∷ after) same))

-- of two fronts of the same bytes one begins with the other
record Leads (bs cs : List (List (List ℕ))) (us vs : List ℕ) : Type 0 where
  later : List (List (List ℕ))
  formed : All IsBatch later
  whole_is : cs ≡ bs ++ later
  behind_is : us ≡ open_gates later ++ vs

leads-more : (b c : List (List ℕ)) (bs cs : List (List (List ℕ))) (us vs : List ℕ) → b ≡ c → Leads bs cs us vs → Leads (b ∷ bs) (c ∷ cs) us vs
leads-more b c bs cs us vs first l = record { later = l.later; formed = l.formed; whole_is = λ i. sym first i ∷ l.whole_is i; behind_is = l.behind_is }

leads-either : (b c : List (List ℕ)) (bs cs : List (List (List ℕ))) (us vs : List ℕ) → b ≡ c → Leads bs cs us vs ⊎ Leads cs bs vs us → Leads (b ∷ bs) (c ∷ cs) us vs ⊎ Leads (c ∷ cs) (b ∷ bs) vs us
leads-either b c bs cs us vs first (inl one) = inl (leads-more b c bs cs us vs first one)
leads-either b c bs cs us vs first (inr two) = inr (leads-more c b cs bs vs us (sym first) two)

lead : (bs cs : List (List (List ℕ))) (us vs : List ℕ) → All IsBatch bs → All IsBatch cs → open_gates bs ++ us ≡ open_gates cs ++ vs → Leads bs cs us vs ⊎ Leads cs bs vs us
lead [] cs us vs fine good same = inl (record { later = cs; formed = good; whole_is = refl; behind_is = same })
lead (b ∷ bs) [] us vs fine good same = inr (record { later = b ∷ bs; formed = fine; whole_is = refl; behind_is = sym same })
lead (b ∷ bs) (c ∷ cs) us vs fine good same =
    let inner = later-bytes 1 1 (batch_bytes b ++ (open_gates bs ++ us)) (batch_bytes c ++ (open_gates cs ++ vs)) (sym (open-first b bs us) ∙ (same ∙ open-first c cs vs)) in
    let both = same-batch b c (open_gates bs ++ us) (open_gates cs ++ vs) (All-head IsBatch b bs fine) (All-head IsBatch c cs good) inner in
    leads-either b c bs cs us vs both.0 (lead bs cs us vs (All-tail IsBatch b bs fine) (All-tail IsBatch c cs good) both.1)

-- what is no journal has no gates
no-journal : (bytes us : List ℕ) (bs : List (List (List ℕ))) → IsForeign bytes → bytes ≡ header VERSION ++ open_gates bs ++ us → ⊥
no-journal bytes us bs foreign are =
    let whole : bytes ≡ header VERSION ++ (open_gates bs ++ us) = are ∙ append_assoc (header VERSION) (open_gates bs) us in
    foreign.other (ap (take 16) whole ∙ (ap (λ (n : ℕ). take n (header VERSION ++ (open_gates bs ++ us))) (sym (length-header VERSION)) ∙ take-append_seam (header VERSION) (open_gates bs ++ us)))

-- the batches up to that of a payload that follows
abbrev up_to : (list : List (List ℕ)) (payload : List ℕ) (place : ℕ) (image : List ℕ) → Follows list payload place image → List (List (List ℕ))
up_to list payload place image f = f.before ++ (f.told ++ payload ∷ f.waiting) ∷ []

up_to-formed : (list : List (List ℕ)) (payload : List ℕ) (place : ℕ) (image : List ℕ) (f : Follows list payload place image) → All IsBatch (up_to list payload place image f)
up_to-formed list payload place image f = All-append IsBatch f.before ((f.told ++ payload ∷ f.waiting) ∷ []) f.formed (All-cons IsBatch (f.told ++ payload ∷ f.waiting) [] f.batch (All-nil IsBatch))

up_to-payloads : (list : List (List ℕ)) (payload : List ℕ) (place : ℕ) (image : List ℕ) (f : Follows list payload place image) (later : List (List (List ℕ)))
    → payloads (up_to list payload place image f ++ later) ≡ list ++ payload ∷ (f.waiting ++ payloads later)
up_to-payloads list payload place image f later =
    let batch : List (List ℕ) = f.told ++ payload ∷ f.waiting in
    flat_map-append (λ (b : List (List ℕ)). b) (f.before ++ batch ∷ []) later
    ∙ (ap (λ (ps : List (List ℕ)). ps ++ payloads later) (payloads-more f.before batch ∙ sym (append_assoc (payloads f.before) f.told (payload ∷ f.waiting)))
    ∙ (append_assoc (payloads f.before ++ f.told) (payload ∷ f.waiting) (payloads later) ∙ ap (λ (ps : List (List ℕ)). ps ++ payload ∷ (f.waiting ++ payloads later)) (sym f.listed)))

follows-by : (image : List ℕ) (list other : List (List ℕ)) (payload next : List ℕ) (place elsewhere : ℕ) (one : Follows list payload place image) (two : Follows other next elsewhere image)
    → MeetsIn one.before one.told payload two.before two.told next → OneFollows list payload place other next elsewhere
follows-by image list other payload next place elsewhere one two (inl same) =
    inl (
      one.listed ∙ (same.1 ∙ sym two.listed),
      same.2,
      one.placed ∙ (ap (λ (bs : List (List (List ℕ))). length (header VERSION ++ open_gates bs)) same.0 ∙ sym two.placed),
    )
follows-by image list other payload next place elsewhere one two (inr (inl later)) =
    inr (inl (later.0, two.listed ∙ (later.1 ∙ ap (λ (ps : List (List ℕ)). ps ++ payload ∷ later.0) (sym one.listed))))
follows-by image list other payload next place elsewhere one two (inr (inr later)) =
    inr (inr (later.0, one.listed ∙ (later.1 ∙ ap (λ (ps : List (List ℕ)). ps ++ next ∷ later.0) (sym two.listed))))

swap-in : (bs cs : List (List (List ℕ))) (xs ys : List (List ℕ)) (x y : List ℕ) → MeetsIn bs xs x cs ys y → MeetsIn cs ys y bs xs x
swap-in bs cs xs ys x y (inl same) = inl (sym same.0, sym same.1, sym same.2)
swap-in bs cs xs ys x y (inr (inl later)) = inr (inr later)
swap-in bs cs xs ys x y (inr (inr later)) = inr (inl later)

meet-lead : (image : List ℕ) (list other : List (List ℕ)) (payload next : List ℕ) (place elsewhere : ℕ) (one : Follows list payload place image) (two : Follows other next elsewhere image)
    → Leads (up_to list payload place image one) (up_to other next elsewhere image two) (one.gate ∷ one.rest) (two.gate ∷ two.rest) → MeetsIn one.before one.told payload two.before two.told next
meet-lead image list other payload next place elsewhere one two l =
    meet-in one.before two.before one.told two.told one.waiting two.waiting payload next l.later []
    (sym (l.whole_is ∙ append_assoc one.before ((one.told ++ payload ∷ one.waiting) ∷ []) l.later))

follows-either : (image : List ℕ) (list other : List (List ℕ)) (payload next : List ℕ) (place elsewhere : ℕ) (one : Follows list payload place image) (two : Follows other next elsewhere image)
    → Leads (up_to list payload place image one) (up_to other next elsewhere image two) (one.gate ∷ one.rest) (two.gate ∷ two.rest)
    ⊎ Leads (up_to other next elsewhere image two) (up_to list payload place image one) (two.gate ∷ two.rest) (one.gate ∷ one.rest)
    → MeetsIn one.before one.told payload two.before two.told next
follows-either image list other payload next place elsewhere one two (inl l) = meet-lead image list other payload next place elsewhere one two l
follows-either image list other payload next place elsewhere one two (inr l) =
    swap-in two.before one.before two.told one.told next payload (meet-lead image other list next payload elsewhere place two one l)

pub one-follows : (image : List ℕ) (list other : List (List ℕ)) (payload next : List ℕ) (place elsewhere : ℕ) → Follows list payload place image → Follows other next elsewhere image → OneFollows list payload place other next elsewhere
one-follows image list other payload next place elsewhere one two =
    let bs = up_to list payload place image one in
    let cs = up_to other next elsewhere image two in
    follows-by image list other payload next place elsewhere one two
    (follows-either image list other payload next place elsewhere one two
    (lead bs cs (one.gate ∷ one.rest) (two.gate ∷ two.rest) (up_to-formed list payload place image one) (up_to-formed other next elsewhere image two)
    (inner-bytes bs cs (one.gate ∷ one.rest) (two.gate ∷ two.rest) image one.bytes two.bytes)))

-- a payload that follows is one of those before the place where the bytes break off
none-later : (later : List (List (List ℕ))) (gate : ℕ) (behind rest : List ℕ) → All IsBatch later
    → ((batch : List (List ℕ)) (next : ℕ) (more : List ℕ) → IsBatch batch → behind ≡ batch_bytes batch ++ next ∷ more → ⊥) → 1 ∷ behind ≡ open_gates later ++ gate ∷ rest → later ≡ []
none-later [] gate behind rest formed torn same = refl
none-later (b ∷ bs) gate behind rest formed torn same =
    let next = first-of bs gate rest in
    absurd (torn b next.0 next.1 (All-head IsBatch b bs formed) (later-bytes 1 1 behind (batch_bytes b ++ (open_gates bs ++ gate ∷ rest)) (same ∙ open-first b bs (gate ∷ rest)) ∙ ap (λ (xs : List ℕ). batch_bytes b ++ xs) next.2))

before-by : (image : List ℕ) (list other : List (List ℕ)) (payload : List ℕ) (place elsewhere : ℕ) (f : Follows list payload place image) (b : Breaks other elsewhere image)
    → Leads (up_to list payload place image f) b.batches (f.gate ∷ f.rest) (1 ∷ b.rest) ⊎ Leads b.batches (up_to list payload place image f) (1 ∷ b.rest) (f.gate ∷ f.rest)
    → (more : List (List ℕ)) × (other ≡ list ++ payload ∷ more)
before-by image list other payload place elsewhere f b (inl l) =
    (f.waiting ++ payloads l.later, b.listed ∙ (ap payloads l.whole_is ∙ up_to-payloads list payload place image f l.later))
before-by image list other payload place elsewhere f b (inr l) =
    let none = none-later l.later f.gate b.rest f.rest l.formed b.torn l.behind_is in
    let same : up_to list payload place image f ≡ b.batches = l.whole_is ∙ (ap (λ (bs : List (List (List ℕ))). b.batches ++ bs) none ∙ append-nil b.batches) in
    (f.waiting ++ payloads [], b.listed ∙ (ap payloads (sym same ∙ sym (append-nil (up_to list payload place image f))) ∙ up_to-payloads list payload place image f []))

pub before-break : (image : List ℕ) (list other : List (List ℕ)) (payload : List ℕ) (place elsewhere : ℕ) → Follows list payload place image → Breaks other elsewhere image → (more : List (List ℕ)) × (other ≡ list ++ payload ∷ more)
before-break image list other payload place elsewhere f b =
    let bs = up_to list payload place image f in
    before-by image list other payload place elsewhere f b
    (lead bs b.batches (f.gate ∷ f.rest) (1 ∷ b.rest) (up_to-formed list payload place image f) b.formed (inner-bytes bs b.batches (f.gate ∷ f.rest) (1 ∷ b.rest) image f.bytes b.bytes))

-- what is no journal has no payload and no gate
pub foreign-follows : (bytes : List ℕ) (list : List (List ℕ)) (payload : List ℕ) (place : ℕ) → IsForeign bytes → Follows list payload place bytes → ⊥
foreign-follows bytes list payload place foreign f = no-journal bytes (f.gate ∷ f.rest) (up_to list payload place bytes f) foreign f.bytes

pub foreign-breaks : (bytes : List ℕ) (list : List (List ℕ)) (place : ℕ) → IsForeign bytes → Breaks list place bytes → ⊥
foreign-breaks bytes list place foreign b = no-journal bytes (1 ∷ b.rest) b.batches foreign b.bytes
