-- Lists of postings of which each key is carried out once, at the first posting that has it, by the net of all.
use Rattle.std.proofs.Common.{◌≡◌, ℕ, ◌+◌, ◌<◌, List, [], ◌∷◌, Bool, true, false, length, take, get_or, refl, sym, ◌∙◌, ap, subst, arith, inl, inr}
use Rattle.std.specs.Bool.{Decides}
use Rattle.std.specs.List.{list_any}
use Rattle.std.specs.Prelude.{◌||◌, ◌&&◌, cond, sum_by}
use Rattle.std.proofs.lemmas.Bool.{cases_Bool, or_parts}
use Rattle.std.proofs.lemmas.List.Folds.{list_any_more}
use Rattle.std.proofs.lemmas.List.Sums.{sum_by-cons}
use Rattle.ledger_book.specs.declared.posting.Posting.{Posting}

pub or_true : (b : Bool) → (b || true) ≡ true
or_true true = refl
or_true false = refl

pub and_second : (a b : Bool) → (a && b) ≡ false → a ≡ true → b ≡ false
and_second true b none is = none
and_second false b none is = cc

or_false : (b : Bool) → (b || false) ≡ b
or_false true = refl
or_false false = refl

moved_by : (b c : Bool) (x y t m : ℕ) → b ≡ c → x + cond b t 0 ≡ y + cond b m 0 → x + cond c t 0 ≡ y + cond c m 0
moved_by true true x y t m same at = at
moved_by false false x y t m same at = at
moved_by true false x y t m same at = cc
moved_by false true x y t m same at = cc

moved_once : (b c : Bool) (w x y t m : ℕ) → b ≡ false → c ≡ true → x + cond b t 0 ≡ y + cond b m 0 → w + t ≡ x + m → w + cond c t 0 ≡ y + cond c m 0
moved_once false true w x y t m before after at step = omega (arith, at, step)
moved_once true c w x y t m before after at step = cc
moved_once false false w x y t m before after at step = cc

moved_whole : (b : Bool) (x y t m : ℕ) → (b ≡ false → (t ≡ 0) × (m ≡ 0)) → x + cond b t 0 ≡ y + cond b m 0 → x + t ≡ y + m
moved_whole true x y t m none at = at
moved_whole false x y t m none at = omega (arith, (none refl).0, (none refl).1, at)

module _ {K : Type 0} (same : K → K → Bool) (exact : (j k : K) → Decides (same j k) (j ≡ k)) (at : Posting → K) where
  -- whether one of these postings has the key
  abbrev pub seen : List Posting → K → Bool
  seen ps q = list_any (λ p. same q (at p)) ps

  -- the keys of the postings so far have moved by the net of all, and the others not at all
  abbrev pub IsCarried : (K → ℕ) → (K → ℕ) → (K → ℕ) → (K → ℕ) → List Posting → Type 0
  IsCarried old now paid taken front = (q : K) → now q + cond (seen front q) (taken q) 0 ≡ old q + cond (seen front q) (paid q) 0

  pub other_way : (j k : K) → same j k ≡ false → same k j ≡ false
  other_way j k apart =
      elim (cases_Bool (same k j)) [
        | inl tied ↦ let back = (exact j k).1 (sym ((exact k j).0 tied)) in cc
        | inr differ ↦ differ
      ]

  seen_next : (ps : List Posting) (i : ℕ) (p : Posting) (q : K) → i < length ps → p ≡ get_or ps i p → seen (take (i + 1) ps) q ≡ (seen (take i ps) q || same q (at p))
  seen_next ps i p q below is = list_any_more (λ r. same q (at r)) ps i p below ∙ ap (λ (r : Posting). seen (take i ps) q || same q (at r)) (sym is)

  pub seen_more : (ps : List Posting) (i : ℕ) (p : Posting) (q : K) → i < length ps → p ≡ get_or ps i p → same (at p) q ≡ false → seen (take i ps) q ≡ seen (take (i + 1) ps) q
  seen_more ps i p q below is apart =
      sym (seen_next ps i p q below is ∙ ap (λ b. seen (take i ps) q || b) (other_way (at p) q apart) ∙ or_false (seen (take i ps) q))

  pub seen_here : (ps : List Posting) (i : ℕ) (p : Posting) → i < length ps → p ≡ get_or ps i p → seen (take (i + 1) ps) (at p) ≡ true
  seen_here ps i p below is =
      seen_next ps i p (at p) below is ∙ ap (λ b. seen (take i ps) (at p) || b) ((exact (at p) (at p)).1 refl) ∙ or_true (seen (take i ps) (at p))

  -- a posting whose key was carried out before changes nothing
  pub carried_again : (old now paid taken : K → ℕ) (ps : List Posting) (i : ℕ) (p : Posting) → i < length ps → p ≡ get_or ps i p
      → seen (take i ps) (at p) ≡ true
      → IsCarried old now paid taken (take i ps) → IsCarried old now paid taken (take (i + 1) ps)
  carried_again old now paid taken ps i p below is before carried q =
      elim (cases_Bool (same (at p) q)) [
        | inl here ↦
            let both : seen (take i ps) q ≡ seen (take (i + 1) ps) q
            = subst (λ (k : K). seen (take i ps) k ≡ seen (take (i + 1) ps) k) ((exact (at p) q).0 here) (before ∙ sym (seen_here ps i p below is)) in
            moved_by _ _ (now q) (old q) (taken q) (paid q) both (carried q)
        | inr apart ↦ moved_by _ _ (now q) (old q) (taken q) (paid q) (seen_more ps i p q below is apart) (carried q)
      ]

  -- the first posting of a key carries it out
  pub carried_first : (old now new paid taken : K → ℕ) (ps : List Posting) (i : ℕ) (p : Posting) → i < length ps → p ≡ get_or ps i p
      → seen (take i ps) (at p) ≡ false
      → new (at p) + taken (at p) ≡ now (at p) + paid (at p)
      → ((q : K) → same (at p) q ≡ false → new q ≡ now q)
      → IsCarried old now paid taken (take i ps) → IsCarried old new paid taken (take (i + 1) ps)
  carried_first old now new paid taken ps i p below is before step others carried q =
      elim (cases_Bool (same (at p) q)) [
        | inl here ↦
            subst (λ (k : K). new k + cond (seen (take (i + 1) ps) k) (taken k) 0 ≡ old k + cond (seen (take (i + 1) ps) k) (paid k) 0) ((exact (at p) q).0 here)
            (moved_once _ _ (new (at p)) (now (at p)) (old (at p)) (taken (at p)) (paid (at p)) before (seen_here ps i p below is) (carried (at p)) step)
        | inr apart ↦ rw (others q apart) (moved_by _ _ (now q) (old q) (taken q) (paid q) (seen_more ps i p q below is apart) (carried q))
      ]

  -- what is at a key that no posting has yet
  pub carried_not_yet : (old now paid taken : K → ℕ) (front : List Posting) (q : K) → seen front q ≡ false → IsCarried old now paid taken front → now q ≡ old q
  carried_not_yet old now paid taken front q before carried =
      let at_q = subst (λ (b : Bool). now q + cond b (taken q) 0 ≡ old q + cond b (paid q) 0) before (carried q) in
      omega (arith, at_q)

  -- postings without a key move nothing at it
  pub unseen_none : (f : Posting → ℕ) (q : K) → ((p : Posting) → same q (at p) ≡ false → f p ≡ 0) → (ps : List Posting) → seen ps q ≡ false → sum_by f ps ≡ 0
  unseen_none f q none [] unseen = refl
  unseen_none f q none (p ∷ ps) unseen =
      let parts = or_parts (same q (at p)) (seen ps q) unseen in
      omega (arith, sum_by-cons f p ps, none p parts.0, unseen_none f q none ps parts.1)

  -- when all postings are through, each key has moved by the net of all
  pub carried_whole : (old now paid taken : K → ℕ) (ps : List Posting) (q : K) → (seen ps q ≡ false → (taken q ≡ 0) × (paid q ≡ 0))
      → IsCarried old now paid taken ps → now q + taken q ≡ old q + paid q
  carried_whole old now paid taken ps q none carried = moved_whole (seen ps q) (now q) (old q) (taken q) (paid q) none (carried q)
