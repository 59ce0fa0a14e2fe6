-- The bytes of a window on a disk.
use Rattle.std.specs.Prelude.{◌≡◌, ℕ, ◌≤◌, List, length}
use Rattle.journal_store.specs.declared.window.TheConstants.{WINDOW_BYTES}

-- the unread part of a buffer
pub record IsPart (start end : ℕ) (buffer : List ℕ) : Type 0 where
  pub order : start ≤ end
  pub within : end ≤ WINDOW_BYTES
  pub long : length buffer ≡ WINDOW_BYTES
