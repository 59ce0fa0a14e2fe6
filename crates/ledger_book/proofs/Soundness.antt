-- What a ledger keeps, when room is made and when postings are carried out.
use Rattle.std.proofs.Common.{◌≡◌, ℕ, ◌+◌, ◌≤◌, ◌++◌, List, false, length, take, sym, ◌∙◌, ap, subst, arith, inl, inr, length-append}
use Rattle.std.specs.Map.{keys_of}
use Rattle.std.specs.Option.{unwrap_or}
use Rattle.std.specs.Prelude.{Option, None}
use Rattle.std.proofs.lemmas.List.{take_all}
use Rattle.std.proofs.lemmas.Map.Entries.{length-keys_of}
use Rattle.condition_sets.specs.declared.amount.TheConstants.{MAX_AMOUNT}
use Rattle.collection_keys.specs.Collections.{Pairs}
use Rattle.ledger_book.specs.Ledger.{LedgerView, IsReady, amount_at, supply_at, names, Rows, kept, kept_or_none, amount_in, number_in, supply_in, IsBalanced, IsSound}
use Rattle.ledger_book.specs.Naming.{has, new_names}
use Rattle.ledger_book.specs.Postings.{credits, debits, minted, burnt, IsFunded}
use Rattle.ledger_book.specs.Staging.{oversupplied}
use Rattle.ledger_book.specs.declared.posting.Posting.{Posting}
use Rattle.ledger_book.proofs.Fresh.{length-new_names}
use Rattle.ledger_book.proofs.Net.{net_low, net_high, net_balanced, net_still, net_unnamed}
use Rattle.ledger_book.proofs.Numbers.{number_front}
use Rattle.ledger_book.proofs.Rows.{kept_past}
use Rattle.ledger_book.proofs.Supplies.{within_limit}
use Rattle.ledger_book.proofs.Sums.{sum_below-same, sum_below-more}

-- a position has the same amount whether or not the collections count that are to be named
pub amount_numbered : (rs : Rows) (ss : List (Pairs × ℕ)) (m : ℕ) → IsSound rs ss m → (a : ℕ) (k : Pairs) → amount_in rs (keys_of ss) a k ≡ amount_in rs (keys_of (take m ss)) a k
amount_numbered rs ss m sound a k =
    elim (number_front m ss k sound.fits) [
      | inl same ↦ ap (kept_or_none rs a) (sym same)
      | inr later ↦
          sound.behind a (number_in (keys_of ss) k) later.0
          ∙ sym (sound.behind a (number_in (keys_of (take m ss)) k) (omega (arith, later.1)))
    ]

-- room changes no amount
pub amount_with_room : (rs next : Rows) (ss ts : List (Pairs × ℕ)) (m : ℕ) → take m ts ≡ take m ss → ((a n : ℕ) → kept_or_none next a n ≡ kept_or_none rs a n)
    → (a : ℕ) (k : Pairs) → amount_in next (keys_of (take m ts)) a k ≡ amount_in rs (keys_of (take m ss)) a k
amount_with_room rs next ss ts m front same a k =
    ap (λ (es : List (Pairs × ℕ)). amount_in next (keys_of es) a k) front ∙ same a (number_in (keys_of (take m ss)) k)

-- and keeps all sound
pub sound_with_room : (rs next : Rows) (ss ts : List (Pairs × ℕ)) (m : ℕ) → IsSound rs ss m
    → take m ts ≡ take m ss → m ≤ length ts → ((k : Pairs) → supply_in ts k ≡ supply_in (take m ss) k)
    → ((a n : ℕ) → kept_or_none next a n ≡ kept_or_none rs a n) → length rs ≤ length next → IsSound next ts m
sound_with_room rs next ss ts m sound front fits idle same longer =
    let ks = keys_of (take m ss) in
    record {
      balanced = subst (λ (es : List (Pairs × ℕ)). IsBalanced (length next) (amount_in next (keys_of es)) (supply_in es)) (sym front) record {
        past = λ a k past. kept_past next a (number_in ks k) past;
        sums = λ k.
            omega (
              arith,
              sound.balanced.sums k,
              sum_below-more (length rs) (length next) (λ a. amount_in rs ks a k) longer (λ a past. sound.balanced.past a k past),
              sum_below-same (length next) (λ a. amount_in next ks a k) (λ a. amount_in rs ks a k) (λ a. same a (number_in ks k)),
            );
        within = sound.balanced.within;
      };
      behind = λ a n past. same a n ∙ sound.behind a n past;
      idle = λ k. idle k ∙ ap (λ (es : List (Pairs × ℕ)). supply_in es k) (sym front);
      fits = fits;
    }

-- so does carrying postings out, when all that have a number are named
pub sound_after : (rs next : Rows) (ss ts : List (Pairs × ℕ)) (m : ℕ) (ps : List Posting) → IsSound rs ss m
    → length next ≡ length rs → keys_of ts ≡ keys_of ss
    → ((k : Pairs) → supply_in (take m ss) k + minted ps k ≤ MAX_AMOUNT + burnt ps k)
    → ((a : ℕ) (k : Pairs) → amount_in next (keys_of ss) a k + debits ps a k ≡ amount_in rs (keys_of (take m ss)) a k + credits ps a k)
    → ((k : Pairs) → supply_in ts k + burnt ps k ≡ supply_in (take m ss) k + minted ps k)
    → ((a n : ℕ) → length ss ≤ n → kept next a n ≡ kept rs a n) → IsSound next ts (length ts)
sound_after rs next ss ts m ps sound long names admitted amounts supplies behind =
    let whole : take (length ts) ts ≡ ts = take_all (length ts) ts (omega arith) in
    let as_long : length ts ≡ length ss = omega (arith, ap (length {A = Pairs}) names, length-keys_of ts, length-keys_of ss) in
    let balanced : IsBalanced (length rs) (amount_in next (keys_of ss)) (supply_in ts)
    = net_balanced (length rs) (amount_in rs (keys_of (take m ss))) (amount_in next (keys_of ss)) (supply_in (take m ss)) (supply_in ts) ps sound.balanced admitted
    (λ a k past. kept_past next a (number_in (keys_of ss) k) (omega (arith, long, past))) amounts supplies in
    let renamed = subst (λ (ks : List Pairs). IsBalanced (length rs) (amount_in next ks) (supply_in ts)) (sym names) balanced in
    let at = subst (λ n. IsBalanced n (amount_in next (keys_of ts)) (supply_in ts)) (sym long) renamed in
    record {
      balanced = subst (λ (es : List (Pairs × ℕ)). IsBalanced (length next) (amount_in next (keys_of es)) (supply_in es)) (sym whole) at;
      behind = λ a n past.
          ap (λ (o : Option ℕ). unwrap_or o 0) (behind a n (omega (arith, as_long, past)))
          ∙ sound.behind a n (omega (arith, as_long, past, sound.fits));
      idle = λ k. ap (λ (es : List (Pairs × ℕ)). supply_in es k) (sym whole);
      fits = omega arith;
    }

-- when postings may be carried out: they are funded, no supply is above its limit, and each collection has its number
pub record IsPlanned (rs : Rows) (ss : List (Pairs × ℕ)) (m : ℕ) (ps : List Posting) : Type 0 where
  pub funded : IsFunded (amount_in rs (keys_of (take m ss))) ps
  pub admitted : (k : Pairs) → supply_in (take m ss) k + minted ps k ≤ MAX_AMOUNT + burnt ps k
  pub numbered : keys_of ss ≡ keys_of (take m ss) ++ new_names (keys_of (take m ss)) ps

-- the same of what contracts see
pub planned : (rs : Rows) (ss : List (Pairs × ℕ)) (m v t : ℕ) (ps : List Posting) (l : LedgerView) → IsSound rs ss m
    → record { rows = rs; supplies = take m ss; numbered = keys_of ss; vault = v; limit = t } ≡ l
    → IsReady l ps → IsFunded (amount_at l) ps → oversupplied (supply_at l) ps ≡ None → IsPlanned rs ss m ps
unfolding amount_at supply_at names
planned rs ss m v t ps l sound view ready funded admitted = record {
  funded = subst (λ (w : LedgerView). IsFunded (amount_at w) ps) (sym view) funded;
  admitted = within_limit (supply_in (take m ss)) ps (subst (λ (w : LedgerView). oversupplied (supply_at w) ps ≡ None) (sym view) admitted) sound.balanced.within;
  numbered = subst (λ (w : LedgerView). w.numbered ≡ names w ++ new_names (names w) ps) (sym view) ready.numbered;
}

module _ (rs : Rows) (ss : List (Pairs × ℕ)) (m : ℕ) (ps : List Posting) (sound : IsSound rs ss m) (plan : IsPlanned rs ss m ps) where
  pub supplies_low : (qs : List Posting) → qs ≡ ps → (k : Pairs) → burnt qs k ≤ supply_in ss k + minted qs k
  supplies_low qs is k =
      omega (
        arith,
        ap (λ (rs : List Posting). burnt rs k) is,
        ap (λ (rs : List Posting). minted rs k) is,
        sound.idle k,
        net_low (length rs) (amount_in rs (keys_of (take m ss))) (supply_in (take m ss)) ps sound.balanced plan.funded k,
      )

  pub supplies_high : (qs : List Posting) → qs ≡ ps → (k : Pairs) → supply_in ss k + minted qs k ≤ MAX_AMOUNT + burnt qs k
  supplies_high qs is k =
      omega (arith, ap (λ (rs : List Posting). burnt rs k) is, ap (λ (rs : List Posting). minted rs k) is, sound.idle k, plan.admitted k)

  pub supplies_still : (qs : List Posting) → qs ≡ ps → (k : Pairs) → has (keys_of ss) k ≡ false → minted qs k ≡ burnt qs k
  supplies_still qs is k absent =
      omega (
        arith,
        ap (λ (rs : List Posting). burnt rs k) is,
        ap (λ (rs : List Posting). minted rs k) is,
        net_unnamed (keys_of (take m ss)) ps k (ap (λ (ks : List Pairs). has ks k) (sym plan.numbered) ∙ absent),
      )

  -- what the postings leave of a supply
  pub supplies_after : (qs : List Posting) → qs ≡ ps → (ts : List (Pairs × ℕ)) → ((k : Pairs) → supply_in ts k + burnt qs k ≡ supply_in ss k + minted qs k)
      → (k : Pairs) → supply_in ts k + burnt ps k ≡ supply_in (take m ss) k + minted ps k
  supplies_after qs is ts moved k =
      omega (arith, moved k, ap (λ (rs : List Posting). burnt rs k) is, ap (λ (rs : List Posting). minted rs k) is, sound.idle k)

  module _ (os : Rows) (same : os ≡ rs) (ks : List Pairs) (named : ks ≡ keys_of ss) (qs : List Posting) (is : qs ≡ ps) where
    -- a position has the amount that contracts see
    amount_is : (a : ℕ) (k : Pairs) → amount_in os ks a k ≡ amount_in rs (keys_of (take m ss)) a k
    amount_is a k =
        ap (λ (r : Rows). amount_in r ks a k) same ∙ ap (λ (js : List Pairs). amount_in rs js a k) named ∙ amount_numbered rs ss m sound a k

    paid_is : (a : ℕ) (k : Pairs) → credits qs a k ≡ credits ps a k
    paid_is a k = ap (λ (rs : List Posting). credits rs a k) is

    taken_is : (a : ℕ) (k : Pairs) → debits qs a k ≡ debits ps a k
    taken_is a k = ap (λ (rs : List Posting). debits rs a k) is

    pub amounts_low : (a : ℕ) (k : Pairs) → debits qs a k ≤ amount_in os ks a k + credits qs a k
    amounts_low a k = omega (arith, amount_is a k, paid_is a k, taken_is a k, plan.funded a k)

    pub amounts_high : (a : ℕ) (k : Pairs) → amount_in os ks a k + credits qs a k ≤ MAX_AMOUNT + debits qs a k
    amounts_high a k =
        omega (
          arith,
          amount_is a k,
          paid_is a k,
          taken_is a k,
          net_high (length rs) (amount_in rs (keys_of (take m ss))) (supply_in (take m ss)) ps sound.balanced plan.funded plan.admitted a k,
        )

    pub amounts_still : (a : ℕ) (k : Pairs) → has ks k ≡ false → credits qs a k ≡ debits qs a k
    amounts_still a k absent =
        omega (
          arith,
          paid_is a k,
          taken_is a k,
          net_still (keys_of (take m ss)) ps a k (ap (λ (js : List Pairs). has js k) (sym plan.numbered ∙ sym named) ∙ absent),
        )

    -- what the postings leave of a position
    pub amounts_after : (next : Rows) → ((a : ℕ) (k : Pairs) → amount_in next ks a k + debits qs a k ≡ amount_in os ks a k + credits qs a k)
        → (a : ℕ) (k : Pairs) → amount_in next (keys_of ss) a k + debits ps a k ≡ amount_in rs (keys_of (take m ss)) a k + credits ps a k
    amounts_after next moved a k =
        omega (arith, moved a k, ap (λ (js : List Pairs). amount_in next js a k) named, amount_is a k, paid_is a k, taken_is a k)

  -- how many collections have a name then
  pub named_after : (ts : List (Pairs × ℕ)) → keys_of ts ≡ keys_of ss → length ts ≤ length (keys_of (take m ss)) + length ps
  named_after ts named =
      omega (
        arith,
        length-keys_of ts,
        ap (length {A = Pairs}) (named ∙ plan.numbered),
        length-append (keys_of (take m ss)) (new_names (keys_of (take m ss)) ps),
        length-new_names (keys_of (take m ss)) ps,
      )

-- when all that have a number are named, a position's amount is the one under that number
pub amount_named : (next : Rows) (ss ts : List (Pairs × ℕ)) (n : ℕ) → n ≡ length ts → keys_of ts ≡ keys_of ss
    → (a : ℕ) (k : Pairs) → amount_in next (keys_of (take n ts)) a k ≡ amount_in next (keys_of ss) a k
amount_named next ss ts n at named a k =
    ap (λ (es : List (Pairs × ℕ)). amount_in next (keys_of es) a k) (take_all n ts (omega (arith, at))) ∙ ap (λ (ks : List Pairs). amount_in next ks a k) named

-- what is kept behind all numbers stays
pub kept_behind : (rs os next : Rows) (ss ts : List (Pairs × ℕ)) → os ≡ rs → keys_of ts ≡ keys_of ss
    → ((a n : ℕ) → length ts ≤ n → kept next a n ≡ kept os a n) → (a n : ℕ) → length ss ≤ n → kept next a n ≡ kept rs a n
kept_behind rs os next ss ts same named behind a n past =
    behind a n (omega (arith, past, ap (length {A = Pairs}) named, length-keys_of ts, length-keys_of ss)) ∙ ap (λ (r : Rows). kept r a n) same
