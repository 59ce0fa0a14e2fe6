use Rattle.std.proofs.Common.{◌^◌}
use Rattle.std.specs.Prelude.{nat_lt}
use Rattle.command_words.specs.Ranges.{is_byte, is_condition}
use Rattle.std.proofs.lemmas.Result.{err_from_is_err_and}
use Rattle.wire_json.proofs.Faults.{fee-fault}
use Rattle.wire_json.proofs.Rows.{kind-ok, range-ok}
use Rattle.wire_json.proofs.reading.orders.place_in.Goals as goal

pub returns-in_err-fee-2 : goal.returns-in_err-fee-2
returns-in_err-fee-2 c =
    let p = err_from_is_err_and c.from_residual-in_err-fee-2.result c.from_residual-in_err-fee-2.ensures.1 in
    let whole = kind-ok _ _ c.in_ok-exactly.ensures in
    let market = kind-ok _ _ c.in_ok-market.ensures in
    let set = kind-ok _ _ c.in_ok-set.ensures in
    let side = kind-ok _ _ c.in_ok-side.ensures in
    let making = kind-ok _ _ c.in_ok-making.ensures in
    let taking = kind-ok _ _ c.in_ok-taking.ensures in
    let expires = kind-ok _ _ c.in_ok-expires.ensures in
    let nonce = kind-ok _ _ c.in_ok-nonce.ensures in
    let fee = kind-ok _ _ c.in_ok-fee.ensures in
    let unfit = c.in_err-fee-2.ensures in
    rw (p.1, p.2, whole, market, set, side, making, taking, expires, nonce, fee) (fee-fault c.in_err-fee-2.field-0.0 c.in_ok-market.market c.in_ok-set.set c.in_ok-side.side c.in_ok-making.making c.in_ok-taking.taking c.in_ok-expires.expires c.in_ok-nonce.nonce c.in_ok-fee.fee unfit)

pub returns : goal.returns
returns c =
    let whole = kind-ok _ _ c.in_ok-exactly.ensures in
    let market = kind-ok _ _ c.in_ok-market.ensures in
    let set = kind-ok _ _ c.in_ok-set.ensures in
    let side = kind-ok _ _ c.in_ok-side.ensures in
    let making = kind-ok _ _ c.in_ok-making.ensures in
    let taking = kind-ok _ _ c.in_ok-taking.ensures in
    let expires = kind-ok _ _ c.in_ok-expires.ensures in
    let nonce = kind-ok _ _ c.in_ok-nonce.ensures in
    let fee = kind-ok _ _ c.in_ok-fee.ensures in
    let same_market = range-ok is_condition _ _ c.in_ok-market-2.ensures in
    let same_set = range-ok is_byte _ _ c.in_ok-set-2.ensures in
    let same_fee = range-ok (λ fee. nat_lt fee (2 ^ 16)) _ _ c.in_ok-fee-2.ensures in
    rw (whole, market, set, side, making, taking, expires, nonce, fee, same_market, same_set, same_fee) c.ranged.ensures
