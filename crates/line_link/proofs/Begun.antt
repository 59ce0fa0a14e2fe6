-- A line that has begun, as its bytes come in parts.
use Rattle.std.proofs.Common.{◌≡◌, ◌==◌, ℕ, ◌+◌, ◌<◌, ◌≤◌, suc, cond, true, false, List, [], ◌∷◌, ◌++◌, length, take, drop, Option, Some, None, refl, sym, ap, subst, ◌∙◌, arith, inl, inr, append_assoc, append-nil, length-append, ⊎_elim}
use Rattle.std.specs.Io.KnownBytes.{Consumes, IsAtEnd, Keeps}
use Rattle.std.proofs.lemmas.Bool.{cases_lt, false_from_ne_true, eqb-true}
use Rattle.std.proofs.lemmas.List.{drop_more, get_or-take, length-take-le, take-append-drop, append_cancel_right, nil_from_length}
use Rattle.outside_faults.specs.Told.{IfTold}
use Rattle.line_link.specs.declared.line_reader.TheConstants.{MAX_LINE, NEWLINE}
use Rattle.line_link.specs.LineReader.{lengthened, at_least, Takes, TakesNoLine, EndsLine, LengthensLine}
use Rattle.line_link.specs.Lines.{Heard, kept, too_long, heard_of, newlines, IsFirstLine}
use Rattle.memchr.specs.Find.{Nowhere, Passes, is_byte}
use Rattle.line_link.proofs.FirstLines.{newlines-append, newlines-cons}

pub heard_of-short : (line : List ℕ) → length line ≤ MAX_LINE → heard_of line ≡ kept line
heard_of-short line short = grind arith

pub heard_of-long : (line : List ℕ) → MAX_LINE < length line → heard_of line ≡ too_long
heard_of-long line long = grind arith

-- a line of which nothing is heard but that it was kept has no bytes
kept-nil : (text : List ℕ) → heard_of text ≡ kept [] → text ≡ []
kept-nil text nothing =
    ⊎_elim
    (λ long. absurd (let no : too_long ≡ kept [] = sym (heard_of-long text long) ∙ nothing in cc))
    (λ short. let same : kept text ≡ kept [] = sym (heard_of-short text short) ∙ nothing in cc)
    (cases_lt MAX_LINE (length text))

-- bytes that come in two parts
pub lengthened-heard : (xs ys : List ℕ) → lengthened (heard_of xs) ys ≡ heard_of (xs ++ ys)
lengthened-heard xs ys =
    ⊎_elim
    (λ long. ap (λ h. lengthened h ys) (heard_of-long xs long) ∙ sym (heard_of-long (xs ++ ys) (omega (arith, length-append {A = ℕ}))))
    (λ short. ap (λ h. lengthened h ys) (heard_of-short xs short))
    (cases_lt MAX_LINE (length xs))

-- a line has at least as many bytes as are heard of it
pub at_least-heard : (text : List ℕ) → at_least (heard_of text) ≤ length text
at_least-heard text =
    ⊎_elim
    (λ long. subst (λ h. at_least h ≤ length text) (sym (heard_of-long text long)) (omega arith))
    (λ short. subst (λ h. at_least h ≤ length text) (sym (heard_of-short text short)) (omega arith))
    (cases_lt MAX_LINE (length text))

-- bytes among which a search finds no newline have none
pub newlines-nowhere : (part : List ℕ) → Nowhere (Passes (is_byte NEWLINE) part) 0 (length part) → newlines part ≡ 0
newlines-nowhere [] none = refl
newlines-nowhere (byte ∷ part) none =
    let other : (byte == NEWLINE) ≡ false = false_from_ne_true _ (none 0 (omega arith) (omega arith)) in
    let after : newlines part ≡ 0 = newlines-nowhere part (λ k low high. none (suc k) (omega arith) (omega arith)) in
    let same : newlines (byte ∷ part) ≡ 0 + newlines part = newlines-cons byte part ∙ ap (λ b. cond b 1 0 + newlines part) other in
    omega (arith, same)

-- the bytes before a place have no newline where none stands below that place
pub newlines-before : (pending : List ℕ) (at : ℕ) → at ≤ length pending → Nowhere (Passes (is_byte NEWLINE) pending) 0 at → newlines (take at pending) ≡ 0
newlines-before pending at within before = newlines-nowhere (take at pending) (λ k low high.
    let below : k < at = omega (arith, length-take-le at pending within) in
    subst (λ byte. (byte == NEWLINE) ≡ true → ⊥) (sym (get_or-take at pending k 0 below)) (before k low below))

-- the bytes up to a newline, the newline, and what stands behind it
pub split-newline : (pending : List ℕ) (at : ℕ) → at < length pending → Passes (is_byte NEWLINE) pending at
    → pending ≡ take at pending ++ NEWLINE ∷ drop (at + 1) pending
split-newline pending at within here =
    sym (take-append-drop at pending)
    ∙ ap (λ l. take at pending ++ l) (drop_more pending at 0 within ∙ ap (λ byte. byte ∷ drop (at + 1) pending) (eqb-true _ _ here))

-- a line has begun at the front of the bytes, of which this is the rest
pub record HasBegun (bytes : List ℕ) (line : Heard) (rest : List ℕ) : Type 0 where
  pub text : List ℕ
  pub is_heard : line ≡ heard_of text
  pub is_one : newlines text ≡ 0
  pub split : bytes ≡ text ++ rest

-- all that was pending belongs to the line
HasBegun-longer : (bytes : List ℕ) (begun next : Heard) (pending rest : List ℕ) → HasBegun bytes begun (pending ++ rest) → LengthensLine begun pending next → HasBegun bytes next rest
HasBegun-longer bytes begun next pending rest has longer = record {
  text = has.text ++ pending;
  is_heard = longer.longer ∙ ap (λ h. lengthened h pending) has.is_heard ∙ lengthened-heard has.text pending;
  is_one = omega (arith, newlines-append has.text pending, has.is_one, longer.is_part);
  split = has.split ∙ sym (append_assoc has.text pending rest);
}

-- the line goes on in bytes that come
pub begun-on : (old mid new : Option (List ℕ)) (before pending got : List ℕ) (begun next : Heard)
    → IfTold old mid (λ first rest. HasBegun (before ++ first) begun (pending ++ rest)) → LengthensLine begun pending next → Consumes mid new got
    → IfTold old new (λ first rest. HasBegun (before ++ first) next (got ++ rest))
begun-on None mid new before pending got begun next told longer consumed = tt
begun-on (Some x) None new before pending got begun next told longer consumed = absurd told
begun-on (Some x) (Some y) None before pending got begun next told longer consumed = absurd consumed
begun-on (Some x) (Some y) (Some z) before pending got begun next told longer consumed =
    subst (HasBegun (before ++ x) next) consumed (HasBegun-longer (before ++ x) begun next pending y told longer)

pub takes-on : (old mid new : Option (List ℕ)) (got : List ℕ) (first count counted : ℕ)
    → IfTold old mid (Takes first count) → Consumes mid new got → counted ≡ count + length got → IfTold old new (Takes first counted)
takes-on None mid new got first count counted told consumed more = tt
takes-on (Some x) None new got first count counted told consumed more = absurd told
takes-on (Some x) (Some y) None got first count counted told consumed more = absurd consumed
takes-on (Some x) (Some y) (Some z) got first count counted told consumed more = record {
  since = told.since ++ got;
  bytes = told.bytes ∙ ap (λ l. told.since ++ l) consumed ∙ sym (append_assoc told.since got z);
  counted = omega (arith, told.counted, more, length-append told.since got);
}

-- the line ends in the pending bytes
pub first-ended : (old new : Option (List ℕ)) (before pending left : List ℕ) (begun line : Heard)
    → IfTold old new (λ first rest. HasBegun (before ++ first) begun (pending ++ rest)) → EndsLine begun pending line left
    → IfTold old new (λ first rest. IsFirstLine line (before ++ first) (left ++ rest))
first-ended None new before pending left begun line told ended = tt
first-ended (Some x) None before pending left begun line told ended = absurd told
first-ended (Some x) (Some y) before pending left begun line told ended =
    let whole = told.text ++ ended.part in
    record {
      text = whole;
      is_heard = ended.whole ∙ ap (λ h. lengthened h ended.part) told.is_heard ∙ lengthened-heard told.text ended.part;
      is_one = omega (arith, newlines-append told.text ended.part, told.is_one, ended.is_part);
      ends = inl (told.split ∙ ap (λ l. told.text ++ (l ++ y)) ended.split
          ∙ ap (λ l. told.text ++ l) (append_assoc ended.part (NEWLINE ∷ left) y)
          ∙ sym (append_assoc told.text ended.part (NEWLINE ∷ (left ++ y))));
    }

-- the line ends with the bytes of the source
pub first-last : (old mid new : Option (List ℕ)) (before pending got : List ℕ) (begun line : Heard)
    → IfTold old mid (λ first rest. HasBegun (before ++ first) begun (pending ++ rest)) → LengthensLine begun pending line → Consumes mid new got
    → length got ≡ 0 → IsAtEnd new → 0 < at_least line
    → IfTold old new (λ first rest. IsFirstLine line (before ++ first) (got ++ rest))
first-last None mid new before pending got begun line told longer consumed none end some = tt
first-last (Some x) None new before pending got begun line told longer consumed none end some = absurd told
first-last (Some x) (Some y) None before pending got begun line told longer consumed none end some = absurd consumed
first-last (Some x) (Some y) (Some z) before pending got begun line told longer consumed none end some =
    let has = HasBegun-longer (before ++ x) begun line pending y told longer in
    let nothing : got ++ z ≡ [] = ap (λ l. l ++ z) (nil_from_length got none) ∙ end in
    let long : at_least line ≤ length has.text = subst (λ h. at_least h ≤ length has.text) (sym has.is_heard) (at_least-heard has.text) in
    record {
      text = has.text;
      is_heard = has.is_heard;
      is_one = has.is_one;
      ends = inr (has.split ∙ ap (λ l. has.text ++ l) (consumed ∙ nothing) ∙ append-nil has.text, nothing, omega (arith, long));
    }

-- a line without bytes that goes on to the end is none
pub nothing-left : (old mid new : Option (List ℕ)) (before pending got : List ℕ) (begun : Heard)
    → IfTold old mid (λ first rest. HasBegun (before ++ first) begun (pending ++ rest)) → LengthensLine begun pending (kept []) → Consumes mid new got
    → length got ≡ 0 → IsAtEnd new → IfTold old new (λ first rest. (before ++ first ≡ []) × (rest ≡ []))
nothing-left None mid new before pending got begun told longer consumed none end = tt
nothing-left (Some x) None new before pending got begun told longer consumed none end = absurd told
nothing-left (Some x) (Some y) None before pending got begun told longer consumed none end = absurd consumed
nothing-left (Some x) (Some y) (Some z) before pending got begun told longer consumed none end =
    let has = HasBegun-longer (before ++ x) begun (kept []) pending y told longer in
    let nothing : got ++ z ≡ [] = ap (λ l. l ++ z) (nil_from_length got none) ∙ end in
    (has.split ∙ ap (λ l. l ++ y) (kept-nil has.text (sym has.is_heard)) ∙ consumed ∙ nothing, end)

-- where no line ended by then and nothing more was taken, none ends in what was taken
pub no-line : (old mid new : Option (List ℕ)) (before pending : List ℕ) (begun next : Heard)
    → IfTold old mid (λ first rest. HasBegun (before ++ first) begun (pending ++ rest)) → LengthensLine begun pending next → Keeps mid new
    → IfTold old new (TakesNoLine before)
no-line None mid new before pending begun next told longer same = tt
no-line (Some x) None new before pending begun next told longer same = absurd told
no-line (Some x) (Some y) None before pending begun next told longer same = absurd same
no-line (Some x) (Some y) (Some z) before pending begun next told longer same = λ since taken.
    let has = HasBegun-longer (before ++ x) begun next pending y told longer in
    let whole = append_cancel_right (before ++ since) has.text z (append_assoc before since z ∙ ap (λ l. before ++ l) (sym taken) ∙ has.split ∙ ap (λ l. has.text ++ l) (sym same)) in
    ap newlines whole ∙ has.is_one
