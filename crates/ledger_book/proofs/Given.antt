-- Names given one after another, and found.
use Rattle.std.proofs.Common.{◌≡◌, ℕ, ◌+◌, ◌<◌, List, [], ◌∷◌, ◌++◌, Bool, true, false, length, take, get_or, refl, sym, ◌∙◌, ap, inl, inr, append_assoc}
use Rattle.std.specs.Prelude.{◌==◌, ◌&&◌, ◌||◌, cond, not, None, Option, Some, unwrap_or}
use Rattle.std.specs.Option.{is_some}
use Rattle.std.specs.Map.{lookup, keys_of}
use Rattle.std.proofs.lemmas.Bool.{cases_Bool, cond-true, cond-false, or_parts}
use Rattle.std.proofs.lemmas.List.{take_more}
use Rattle.std.proofs.lemmas.Map.Made.{is_some-lookup}
use Rattle.indexmap.specs.IndexMap.{insert_entry}
use Rattle.collection_keys.specs.Collections.{Pairs}
use Rattle.collection_keys.specs.Comparing.{same_collection}
use Rattle.ledger_book.specs.Ledger.{supply_in}
use Rattle.ledger_book.specs.Naming.{has}

pub is_none : {X : Type 0} (o : Option X) → is_some o ≡ false → o ≡ None
is_none None none = refl
is_none (Some x) none = cc

-- a collection without a name has no supply that is kept
pub unnamed : (es : List (Pairs × ℕ)) (k : Pairs) → has (keys_of es) k ≡ false → lookup (same_collection k) es ≡ None
unnamed es k absent = is_none (lookup (same_collection k) es) (is_some-lookup (same_collection k) es ∙ absent)

pub has_name : (es : List (Pairs × ℕ)) (k : Pairs) → has (keys_of es) k ≡ is_some (lookup (same_collection k) es)
has_name es k = sym (is_some-lookup (same_collection k) es)

and_true : (change old found : Bool) → change ≡ true → old ≡ false → (change && (not old && not found)) ≡ not found
and_true true false found is none = refl
and_true true true found is none = cc
and_true false old found is none = cc

-- whether a posting names, by what was found out on the way
pub new_by : (paid taken : ℕ) (old found told : Bool) → (paid == taken) ≡ false → old ≡ false → told ≡ found → not told ≡ (not (paid == taken) && (not old && not found))
new_by paid taken old found told change none is =
    ap not is ∙ sym (and_true (not (paid == taken)) old found (ap not change) none)

and_none : (change found : Bool) → false ≡ (change && (not true && not found))
and_none true found = refl
and_none false found = refl

pub named_by : (change old found : Bool) → old ≡ true → false ≡ (change && (not old && not found))
named_by change true found there = and_none change found
named_by change false found there = cc

-- a name more
pub keys_new : (old ks : List Pairs) (es : List (Pairs × ℕ)) (k : Pairs) (i : ℕ) → i < length ks → k ≡ get_or ks i k → keys_of es ≡ old ++ take i ks
    → has (keys_of es) k ≡ false → keys_of (insert_entry same_collection es k 0) ≡ old ++ take (i + 1) ks
keys_new old ks es k i below is given absent =
    keys_insert es k absent ∙ ap (λ (js : List Pairs). js ++ k ∷ []) given ∙ append_assoc old (take i ks) (k ∷ [])
    ∙ ap (λ (js : List Pairs). old ++ js) (ap (λ (j : Pairs). take i ks ++ j ∷ []) is ∙ sym (take_more ks i k below))
  where
    keys_insert : (fs : List (Pairs × ℕ)) (j : Pairs) → has (keys_of fs) j ≡ false → keys_of (insert_entry same_collection fs j 0) ≡ keys_of fs ++ j ∷ []
    keys_insert [] j none = refl
    keys_insert (f ∷ fs) j none =
        let parts = or_parts (same_collection j f.0) (has (keys_of fs) j) none in
        ap keys_of (cond-false (same_collection j f.0) ((f.0, 0) ∷ fs) (f ∷ insert_entry same_collection fs j 0) parts.0) ∙ ap (λ (js : List Pairs). f.0 ∷ js) (keys_insert fs j parts.1)

-- it changes no supply
pub supply_new : (es : List (Pairs × ℕ)) (k q : Pairs) → has (keys_of es) k ≡ false → supply_in (insert_entry same_collection es k 0) q ≡ supply_in es q
supply_new [] k q absent =
    elim (cases_Bool (same_collection q k)) [
      | inl same ↦ ap (λ o. unwrap_or o 0) (cond-true (same_collection q k) (Some 0) None same)
      | inr differ ↦ ap (λ o. unwrap_or o 0) (cond-false (same_collection q k) (Some 0) None differ)
    ]
supply_new (e ∷ es) k q absent =
    let parts = or_parts (same_collection k e.0) (has (keys_of es) k) absent in
    ap (λ (fs : List (Pairs × ℕ)). supply_in fs q) (cond-false (same_collection k e.0) ((e.0, 0) ∷ es) (e ∷ insert_entry same_collection es k 0) parts.0)
    ∙ behind (same_collection q e.0) (supply_new es k q parts.1)
  where
    behind : (b : Bool) → supply_in (insert_entry same_collection es k 0) q ≡ supply_in es q
        → unwrap_or (cond b (Some e.1) (lookup (same_collection q) (insert_entry same_collection es k 0))) 0 ≡ unwrap_or (cond b (Some e.1) (lookup (same_collection q) es)) 0
    behind true rest = refl
    behind false rest = rest

-- a name that is there keeps its place
pub keys_same : (es : List (Pairs × ℕ)) (k : Pairs) (v : ℕ) → has (keys_of es) k ≡ true → keys_of (insert_entry same_collection es k v) ≡ keys_of es
keys_same [] k v there = cc
keys_same (e ∷ es) k v there =
    elim (cases_Bool (same_collection k e.0)) [
      | inl same ↦ ap keys_of (cond-true (same_collection k e.0) ((e.0, v) ∷ es) (e ∷ insert_entry same_collection es k v) same)
      | inr differ ↦
          let later : has (keys_of es) k ≡ true = sym (ap (λ b. b || has (keys_of es) k) differ) ∙ there in
          ap keys_of (cond-false (same_collection k e.0) ((e.0, v) ∷ es) (e ∷ insert_entry same_collection es k v) differ) ∙ ap (λ (js : List Pairs). e.0 ∷ js) (keys_same es k v later)
    ]

-- it is put behind the others
pub entries_new : (es : List (Pairs × ℕ)) (k : Pairs) → has (keys_of es) k ≡ false → insert_entry same_collection es k 0 ≡ es ++ (k, 0) ∷ []
entries_new [] k absent = refl
entries_new (e ∷ es) k absent =
    let parts = or_parts (same_collection k e.0) (has (keys_of es) k) absent in
    cond-false (same_collection k e.0) ((e.0, 0) ∷ es) (e ∷ insert_entry same_collection es k 0) parts.0 ∙ ap (λ (fs : List (Pairs × ℕ)). e ∷ fs) (entries_new es k parts.1)
