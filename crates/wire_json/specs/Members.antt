-- JSON objects without spaces, member by member.
-- Source: RFC 8259.
use Rattle.std.specs.Prelude.{ℕ, ◌&&◌, Bool, true, if◌then◌else◌, List, [], ◌∷◌, ◌++◌, fold, codes, decimal}
use Rattle.std.specs.Ordering.{nat_cmp, is_lt}
use Rattle.std.specs.Cmp.Lexicographic.{slice_cmp}

-- the value of a member: a number, a truth value, a list of numbers, or a word that needs no escape
pub data Content : Type 0 where
  number : ℕ → Content
  truth : Bool → Content
  numbers : List ℕ → Content
  word : List ℕ → Content

pub record Member : Type 0 where
  pub name : List ℕ
  pub content : Content

-- numbers with commas between them
abbrev pub listed : List ℕ → List ℕ
listed [] = []
listed (n ∷ []) = decimal n
listed (n ∷ m ∷ ns) = decimal n ++ codes "," ++ listed (m ∷ ns)

abbrev pub content_text : Content → List ℕ
content_text (number n) = decimal n
content_text (truth b) = if b then codes "true" else codes "false"
content_text (numbers ns) = codes "[" ++ listed ns ++ codes "]"
content_text (word w) = codes "\"" ++ w ++ codes "\""

-- what stands before a member: the first one opens the object
abbrev pub separator : List ℕ → List ℕ
separator [] = codes "{"
separator (byte ∷ bytes) = codes ","

-- a member put behind those of an object that is begun
unfoldable pub put : List ℕ → Member → List ℕ
put text m = text ++ separator text ++ codes "\"" ++ m.name ++ codes "\":" ++ content_text m.content

-- the text of an object of at least one member, and a newline
abbrev pub object : List Member → List ℕ
object members = fold put [] members ++ codes "}\n"

-- each name is above the one before it
abbrev pub names_ascend : List Member → Bool
names_ascend [] = true
names_ascend (m ∷ []) = true
names_ascend (m ∷ n ∷ ms) = is_lt (slice_cmp nat_cmp m.name n.name) && names_ascend (n ∷ ms)
