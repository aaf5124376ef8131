-- What contracts see of a line that is put together: its text so far, and for how many more bytes there is
-- room.
use Rattle.std.specs.Prelude.{◌≡◌, ℕ, ◌+◌, ◌≤◌, List, ◌++◌}
use Rattle.byte_streams.specs.Spaced.{after_spaces}

pub record Draft : Type 0 where
  pub text : List ℕ
  pub room : ℕ

-- a text was put behind a line, which took at most that many bytes
pub record AddsText (old new : Draft) (text : List ℕ) (most : ℕ) : Type 0 where
  pub added : new.text ≡ old.text ++ text
  pub left : old.room ≤ new.room + most

-- words were put behind a line, each with a space before it
abbrev pub AddsWords : Draft → Draft → List (List ℕ) → ℕ → Type 0
AddsWords old new words most = AddsText old new (after_spaces words) most
