-- What a match pays and takes, whatever collections are worth.
use Rattle.std.proofs.Common.{◌≡◌, ◌≢◌, ℕ, ◌+◌, ◌-◌, ◌*◌, List, [], ◌∷◌, ◌++◌, Option, None, refl, ap, arith}
use Rattle.std.specs.Prelude.{map, sum_by, All}
use Rattle.std.specs.List.{flat_map}
use Rattle.std.proofs.lemmas.List.Elements.{All-head, All-tail}
use Rattle.std.proofs.lemmas.List.Sums.{sum_by-append, sum_by-cons}
use Rattle.collection_keys.specs.Collections.{Pairs, root}
use Rattle.condition_sets.specs.declared.names.TheConstants.{OPERATOR}
use Rattle.ledger_book.specs.Postings.{credit, debit}
use Rattle.ledger_book.specs.declared.posting.Posting.{Posting}
use Rattle.match_kinds.specs.Matching.{IsMaker, IsPart, all_paid_out, all_taken_in, all_taken_out, flow_by, flow_of, gets_in, got_of, kind_with, made_of, maker_fee, merged_by, minted_by, paid_asset, pairs_merged, pairs_minted, pays_in, refund_of, taken_asset, taker_fee, taking_by, token_of}
use Rattle.match_kinds.specs.Settling.{maker_postings, match_postings, short_place}
use Rattle.match_kinds.specs.declared.part.Part.{Part}
use Rattle.match_kinds.proofs.Prices.{maker_fee-le, taker-fee-le}
use Rattle.match_kinds.proofs.Shortness.{none_short}
use Rattle.order_rules.specs.Kinds.{kind_of}
use Rattle.order_rules.specs.declared.kinds.MatchKind.{MatchKind}
use Rattle.order_rules.specs.declared.side.Side.{Side}
use Rattle.order_rules.specs.declared.side.Side.TheVariants.{Buy, Sell}
use Rattle.order_rules.specs.declared.token.Token.{Token}
use Rattle.order_rules.specs.declared.token.Token.TheVariants.{Yes, No}

-- ---- worths

-- so many of a worth, in two parts
parted : (n a b v : ℕ) → n ≡ a + b → n * v ≡ a * v + b * v
parted n a b v parts = let scaled : n * v ≡ (a + b) * v = ap (λ (k : ℕ). k * v) parts in omega (arith, scaled)

cons-parted : {X : Type 0} (f : X → ℕ) (x : X) (xs : List X) (v : ℕ) → sum_by f (x ∷ xs) * v ≡ f x * v + sum_by f xs * v
cons-parted f x xs v = parted (sum_by f (x ∷ xs)) (f x) (sum_by f xs) v (sum_by-cons f x xs)

module _ (value : Pairs → ℕ) (market : ℕ) where
  abbrev pair : ℕ
  pair = value (token_of market Yes) + value (token_of market No)

  -- ---- one maker

  abbrev given : Side → Token → Side → Token → ℕ → ℕ → ℕ
  given s t r u fill taking =
      let flow = flow_by (kind_of s t r u) fill taking in
      fill * value (pays_in market r u) + merged_by (kind_of s t r u) fill * value root + minted_by (kind_of s t r u) taking * pair
      + flow.paid_out * value (pays_in market s t) + flow.taken_out * value (gets_in market s t)

  abbrev gotten : Side → Token → Side → Token → ℕ → ℕ → ℕ
  gotten s t r u fill taking =
      let flow = flow_by (kind_of s t r u) fill taking in
      taking * value (gets_in market r u) + minted_by (kind_of s t r u) taking * value root + merged_by (kind_of s t r u) fill * pair
      + flow.paid_in * value (pays_in market s t) + flow.taken_in * value (gets_in market s t)

  one-balanced : (s : Side) (t : Token) (r : Side) (u : Token) (fill taking : ℕ) → kind_of s t r u ≢ None → given s t r u fill taking ≡ gotten s t r u fill taking
  one-balanced Buy Yes Buy Yes fill taking some = absurd (some refl)
  one-balanced Buy Yes Buy No fill taking some = omega arith
  one-balanced Buy No Buy Yes fill taking some = omega arith
  one-balanced Buy No Buy No fill taking some = absurd (some refl)
  one-balanced Buy Yes Sell Yes fill taking some = omega arith
  one-balanced Buy Yes Sell No fill taking some = absurd (some refl)
  one-balanced Buy No Sell Yes fill taking some = absurd (some refl)
  one-balanced Buy No Sell No fill taking some = omega arith
  one-balanced Sell Yes Buy Yes fill taking some = omega arith
  one-balanced Sell Yes Buy No fill taking some = absurd (some refl)
  one-balanced Sell No Buy Yes fill taking some = absurd (some refl)
  one-balanced Sell No Buy No fill taking some = omega arith
  one-balanced Sell Yes Sell Yes fill taking some = absurd (some refl)
  one-balanced Sell Yes Sell No fill taking some = omega arith
  one-balanced Sell No Sell Yes fill taking some = omega arith
  one-balanced Sell No Sell No fill taking some = absurd (some refl)

  -- ---- all makers

  abbrev paid : Posting → ℕ
  paid p = p.paid * value p.collection

  abbrev taken : Posting → ℕ
  taken p = p.taken * value p.collection

  abbrev fee_of_maker : Part → Posting
  fee_of_maker m = credit OPERATOR (taken_asset market m) (maker_fee m)

  fees-untaken : (ms : List Part) → sum_by taken (map fee_of_maker ms) ≡ 0
  fees-untaken [] = refl
  fees-untaken (m ∷ ms) = omega (arith, fees-untaken ms, sum_by-cons taken (fee_of_maker m) (map fee_of_maker ms))

  module _ (taker : Part) where
    abbrev kind : Part → Option MatchKind
    kind m = kind_with taker m

    abbrev vp : ℕ
    vp = value (paid_asset market taker)

    abbrev vt : ℕ
    vt = value (taken_asset market taker)

    abbrev Balanced : List Part → Type 0
    Balanced ms =
        sum_by taken (flat_map (maker_postings market) ms) + pairs_merged taker ms * value root + pairs_minted taker ms * pair
        + all_paid_out taker ms * vp + all_taken_out taker ms * vt
        ≡ sum_by paid (flat_map (maker_postings market) ms) + sum_by paid (map fee_of_maker ms) + pairs_minted taker ms * value root + pairs_merged taker ms * pair
        + sum_by (λ m. (flow_of taker m).paid_in) ms * vp + all_taken_in taker ms * vt

    all-balanced : (ms : List Part) → All (IsMaker taker) ms → Balanced ms
    all-balanced [] makers = omega arith
    all-balanced (m ∷ ms) makers =
        let maker = All-head (IsMaker taker) m ms makers in
        let rest = all-balanced ms (All-tail (IsMaker taker) m ms makers) in
        let one = one-balanced taker.limit.side taker.token m.limit.side m.token m.fill (taking_by m) maker.kind in
        let net : ℕ = taking_by m - maker_fee m in
        let v = value (taken_asset market m) in
        let within = maker_fee-le m maker.part in
        let got : taking_by m * v ≡ net * v + maker_fee m * v = parted (taking_by m) net (maker_fee m) v (omega (arith, within)) in
        let d : Posting = debit m.account (paid_asset market m) m.fill in
        let e : Posting = credit m.account (taken_asset market m) net in
        let behind : List Posting = flat_map (maker_postings market) ms in
        omega (
          arith,
          rest,
          one,
          got,
          sum_by-cons taken d (e ∷ behind),
          sum_by-cons taken e behind,
          sum_by-cons paid d (e ∷ behind),
          sum_by-cons paid e behind,
          sum_by-cons paid (fee_of_maker m) (map fee_of_maker ms),
          cons-parted (λ (x : Part). merged_by (kind x) x.fill) m ms (value root),
          cons-parted (λ (x : Part). merged_by (kind x) x.fill) m ms pair,
          cons-parted (λ (x : Part). minted_by (kind x) (taking_by x)) m ms (value root),
          cons-parted (λ (x : Part). minted_by (kind x) (taking_by x)) m ms pair,
          cons-parted (λ (x : Part). (flow_of taker x).paid_in) m ms vp,
          cons-parted (λ (x : Part). (flow_of taker x).paid_out) m ms vp,
          cons-parted (λ (x : Part). (flow_of taker x).taken_in) m ms vt,
          cons-parted (λ (x : Part). (flow_of taker x).taken_out) m ms vt,
        )

    -- ---- the whole match

    pub balanced : (makers : List Part) → IsPart taker → All (IsMaker taker) makers → short_place taker makers ≡ None
        → sum_by paid (match_postings market taker makers) + pairs_minted taker makers * value root + pairs_merged taker makers * pair
        ≡ sum_by taken (match_postings market taker makers) + pairs_merged taker makers * value root + pairs_minted taker makers * pair
    balanced makers part are_makers none =
        let enough = none_short taker makers none in
        let all = all-balanced makers are_makers in
        let within = taker-fee-le taker.limit.side taker.rate (made_of taker makers) (got_of taker makers) part.rate in
        let refund : ℕ = refund_of taker makers in
        let got : ℕ = got_of taker makers in
        let fee : ℕ = taker_fee taker makers in
        let net : ℕ = got - fee in
        let in_all : ℕ = sum_by (λ m. (flow_of taker m).paid_in) makers in
        let out : refund + all_paid_out taker makers ≡ taker.fill + in_all = omega (arith, enough.0) in
        let paid_whole : (refund + all_paid_out taker makers) * vp ≡ (taker.fill + in_all) * vp = ap (λ (k : ℕ). k * vp) out in
        let through : got + all_taken_out taker makers ≡ all_taken_in taker makers = omega (arith, enough.1) in
        let taken_whole : (got + all_taken_out taker makers) * vt ≡ all_taken_in taker makers * vt = ap (λ (k : ℕ). k * vt) through in
        let charged : got * vt ≡ net * vt + fee * vt = parted got net fee vt (omega (arith, within)) in
        let first : Posting = debit taker.account (paid_asset market taker) taker.fill in
        let back : Posting = credit taker.account (paid_asset market taker) refund in
        let gets : Posting = credit taker.account (taken_asset market taker) net in
        let charge : Posting = credit OPERATOR (taken_asset market taker) fee in
        let fills : List Posting = flat_map (maker_postings market) makers in
        let charges : List Posting = map fee_of_maker makers in
        let fees : List Posting = charges ++ charge ∷ [] in
        omega (
          arith,
          all,
          paid_whole,
          taken_whole,
          charged,
          fees-untaken makers,
          sum_by-cons paid first (fills ++ back ∷ gets ∷ fees),
          sum_by-append paid fills (back ∷ gets ∷ fees),
          sum_by-cons paid back (gets ∷ fees),
          sum_by-cons paid gets fees,
          sum_by-append paid charges (charge ∷ []),
          sum_by-cons paid charge [],
          sum_by-cons taken first (fills ++ back ∷ gets ∷ fees),
          sum_by-append taken fills (back ∷ gets ∷ fees),
          sum_by-cons taken back (gets ∷ fees),
          sum_by-cons taken gets fees,
          sum_by-append taken charges (charge ∷ []),
          sum_by-cons taken charge [],
        )
