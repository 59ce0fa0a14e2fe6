use Rattle.std.proofs.Common.{◌≡◌, ℕ, ◌+◌, ◌-◌, List, [], ◌∷◌, ◌++◌, refl, ◌∙◌, ap, arith, length, drop, take, length-append, length-take-le}
use Rattle.byteorder.specs.Endian.{big_bytes}
use Rattle.journal_store.specs.Format.{payload_bytes}
use Rattle.journal_store.proofs.Sizes.{put-behind}
use Rattle.journal_store.proofs.batch.put.Goals as goal

pub returns-clause-bytes : goal.returns-clause-bytes
unfolding payload_bytes
returns-clause-bytes c =
    λ before is.
    let payload = c.args.payload.now in
    let size : List ℕ = big_bytes 2 (length payload) in
    let head : List ℕ = big_bytes 4 (length before) in
    let end : ℕ = c.len-end.result - 1 in
    let made : c.append-3.new.bytes.items ≡ ((take end c.args.bytes.now.items ++ size) ++ payload) ++ 0 ∷ [] =
    c.append-3.ensures.bytes ∙ ap (λ (xs : List ℕ). xs ++ 0 ∷ []) (c.append-2.ensures.bytes ∙ ap (λ (xs : List ℕ). xs ++ payload) (c.append.ensures.bytes ∙ (ap (λ (xs : List ℕ). xs ++ c.write_u16.new.buf) c.truncate.ensures.items ∙ ap (λ (xs : List ℕ). take end c.args.bytes.now.items ++ xs) c.write_u16.ensures))) in
    let last : end + 1 ≡ length c.args.bytes.now.items = grind (arith, c.len-end.ensures, c.requires.some) in
    let second : length c.append-2.new.bytes.items ≡ end + 2 + length payload =
    grind (arith, ap length c.append-2.ensures.bytes, length-append c.append.new.bytes.items payload, ap length c.append.ensures.bytes, length-append c.truncate.new.self.items c.write_u16.new.buf, ap length c.truncate.ensures.items, length-take-le end c.args.bytes.now.items, ap length c.write_u16.ensures, last) in
    let long : c.len-body.result - 4 ≡ length (before ++ (size ++ payload)) =
    grind (arith, c.len-body.ensures, second, last, ap length is, length-append head (before ++ 0 ∷ []), length-append before (0 ∷ []), length-append before (size ++ payload), length-append size payload) in
    c.set_size.ensures.bytes
    ∙ (ap (λ (n : ℕ). big_bytes 4 n ++ drop 4 c.append-3.new.bytes.items) long
    ∙ ap (λ (xs : List ℕ). big_bytes 4 (length (before ++ (size ++ payload))) ++ xs) (put-behind before c.args.bytes.now.items size payload head c.append-3.new.bytes.items end refl is last made))
