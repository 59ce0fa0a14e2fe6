-- The words after the program's name.
use Rattle.std.specs.Prelude.{Bool, false, List, [], ◌∷◌, codes, String, string_bytes}
use Rattle.std.specs.Str.{bytes_eq}
use Rattle.std.specs.declared.alloc.Global.{Global}

-- the one word run
abbrev pub is_run : List (String Global) → Bool
is_run [] = false
is_run (word ∷ []) = bytes_eq (string_bytes word) (codes "run")
is_run (word ∷ other ∷ words) = false
