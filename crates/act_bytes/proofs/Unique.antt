-- An act is read from exactly the bytes that spell it, so they spell no other.
use Rattle.std.proofs.Common.{◌≡◌, ℕ, ◌^◌, ◌<◌, ◌&&◌, ◌==◌, List, [], ◌∷◌, ◌++◌, length, Some, None, refl, sym, ap, subst, ◌∙◌, append_assoc, append-nil, arith}
use Rattle.std.specs.Int.{w16, w64, to_be_bytes}
use Rattle.std.proofs.lemmas.Bool.{and_parts, eqb-true}
use Rattle.std.proofs.lemmas.Option.{cond_some}
use Rattle.std.proofs.lemmas.List.{nil_from_length}
use Rattle.command_words.specs.Command.{makes_act, in_ranges, is_act_form, may_be_act}
use Rattle.command_words.specs.declared.act.Act.{Act}
use Rattle.command_words.specs.declared.command.Command.{Command}
use Rattle.command_words.specs.declared.command.Command.TheVariants.{Deposit, Withdraw, Move, Prepare, Event, Split, Merge, Report, Answer, Redeem, Convert, Market, Place, Cancel, Bump, Match, Lapse, Cross, Balance, Order, Vault}
use Rattle.act_bytes.specs.Spelling.{kind_of, body_bytes, spelling, Spells}
use Rattle.act_bytes.specs.Reading.{◌>>=◌, passed, next_head, next_body, is_whole, act_in}
use Rattle.act_bytes.proofs.Fields.{IsBytes, bind_some, some_is, IsField, byte-field, u16-field, u64-field, and-field}
use Rattle.act_bytes.proofs.Bodies.{body-takes, body-again}
use Rattle.act_bytes.proofs.Rooms.{has-room}

-- the bytes of a moment, an account and the number of a kind
abbrev head_bytes : (ℕ × ℕ) × ℕ → List ℕ
head_bytes x = (to_be_bytes w64 x.0.0 ++ to_be_bytes w16 x.0.1) ++ x.1 ∷ []

head-field : IsField next_head head_bytes (λ x. ((x.0.0 < 2 ^ 64) × (x.0.1 < 2 ^ 16)) × (x.1 < 256))
head-field = and-field (and-field u64-field u16-field) byte-field

kind-room : (command : Command) → kind_of command < 256
kind-room (Deposit to amount) = omega arith
kind-room (Withdraw amount) = omega arith
kind-room (Move to key amount) = omega arith
kind-room (Prepare oracle question slots) = omega arith
kind-room (Event oracle questions fee) = omega arith
kind-room (Split parent condition sets amount) = omega arith
kind-room (Merge parent condition sets amount) = omega arith
kind-room (Report condition payouts) = omega arith
kind-room (Answer event question answer) = omega arith
kind-room (Redeem parent condition sets) = omega arith
kind-room (Convert event set amount) = omega arith
kind-room (Market condition) = omega arith
kind-room (Place market set side making taking expires nonce fee) = omega arith
kind-room (Cancel order) = omega arith
kind-room Bump = omega arith
kind-room (Match taker fill makers) = omega arith
kind-room (Lapse order) = omega arith
kind-room (Cross market) = omega arith
kind-room (Balance holder key) = omega arith
kind-room (Order order) = omega arith
kind-room Vault = omega arith

abbrev act_of : (ℕ × ℕ) × ℕ → Command × List ℕ → Act
act_of head body = record { moment = head.0.0; account = head.0.1; command = body.0 }

pub is-spelled : (bytes : List ℕ) (act : Act) → IsBytes bytes → act_in bytes ≡ Some act → Spells bytes act
unfolding act_in spelling
is-spelled bytes act fits e =
    let a = bind_some (next_head bytes) (λ head. next_body head.0.1 head.1 >>= λ body. passed is_whole body >>= λ whole. Some (act_of head.0 whole)) act e in
    let b = bind_some (next_body a.0.0.1 a.0.1) (λ body. passed is_whole body >>= λ whole. Some (act_of a.0.0 whole)) act a.2 in
    let c = bind_some (passed is_whole b.0) (λ whole. Some (act_of a.0.0 whole)) act b.2 in
    let yes = cond_some (is_whole b.0) b.0 c.0 c.1 in
    let tests = and_parts (length b.0.1 == 0) (may_be_act b.0.0) yes.0 in
    let head = head-field.takes bytes a.0.1 a.0.0 fits a.1 in
    let body = body-takes a.0.0.1 a.0.1 b.0.1 b.0.0 head.0.rest_fits b.1 in
    let nothing : b.0.1 ≡ [] = nil_from_length b.0.1 (eqb-true (length b.0.1) 0 tests.0) in
    let front : List ℕ = to_be_bytes w64 a.0.0.0.0 ++ to_be_bytes w16 a.0.0.0.1 in
    let rest : a.0.1 ≡ body_bytes b.0.0 = body.takes.parts ∙ (ap (λ (r : List ℕ). body_bytes b.0.0 ++ r) nothing ∙ append-nil (body_bytes b.0.0)) in
    let whole : bytes ≡ front ++ kind_of b.0.0 ∷ body_bytes b.0.0 =
    head.0.parts ∙ (ap (λ (r : List ℕ). (front ++ a.0.0.1 ∷ []) ++ r) rest ∙ (append_assoc front (a.0.0.1 ∷ []) (body_bytes b.0.0) ∙ ap (λ (k : ℕ). front ++ k ∷ body_bytes b.0.0) (sym body.number))) in
    subst (λ (made : Act). Spells bytes made) (ap (act_of a.0.0) yes.1 ∙ some_is (act_of a.0.0 c.0) act c.2) (record {
      moment = head.1.0.0;
      account = head.1.0.1;
      may_be_act = tests.1;
      bytes = whole;
    })

pub is-read : (bytes : List ℕ) (act : Act) → Spells bytes act → act_in bytes ≡ Some act
unfolding act_in spelling
is-read bytes act spells =
    let body : List ℕ = body_bytes act.command in
    let head : (ℕ × ℕ) × ℕ = ((act.moment, act.account), kind_of act.command) in
    let front : List ℕ = to_be_bytes w64 act.moment ++ to_be_bytes w16 act.account in
    let regrouped : bytes ≡ head_bytes head ++ (body ++ []) =
    spells.bytes ∙ (sym (append_assoc front (kind_of act.command ∷ []) body) ∙ ap (λ (r : List ℕ). head_bytes head ++ r) (sym (append-nil body))) in
    let first = head-field.again head (body ++ []) ((spells.moment, spells.account), kind-room act.command) in
    let second = body-again act.command [] (and_parts (makes_act act.command) (in_ranges act.command && is_act_form act.command) spells.may_be_act).0 (has-room act.command spells.may_be_act) in
    let may = spells.may_be_act in
    ap act_in regrouped ∙ rw (first, second, may) refl

pub is-none : (bytes : List ℕ) → act_in bytes ≡ None → (act : Act) → Spells bytes act → ⊥
is-none bytes none act spells = let read = is-read bytes act spells in cc

pub one-spelling : (act : Act) (bytes other : List ℕ) → Spells bytes act → Spells other act → bytes ≡ other
one-spelling act bytes other one two = one.bytes ∙ sym two.bytes

pub one-act : (bytes : List ℕ) (act other : Act) → Spells bytes act → Spells bytes other → act ≡ other
one-act bytes act other one two = some_is act other (sym (is-read bytes act one) ∙ is-read bytes other two)
