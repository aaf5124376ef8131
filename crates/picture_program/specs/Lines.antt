-- The lines of bytes.
use Rattle.std.specs.Prelude.{ℕ, zero, suc, ◌==◌, if◌then◌else◌, List, [], ◌∷◌}

-- the bytes up to the first newline, and those behind it
abbrev pub first_line : List ℕ → List ℕ
first_line [] = []
first_line (b ∷ bs) = if b == 10 then [] else b ∷ first_line bs

abbrev pub after_line : List ℕ → List ℕ
after_line [] = []
after_line (b ∷ bs) = if b == 10 then bs else after_line bs

-- the bytes behind the first n lines, and the line that comes next
abbrev pub after_lines : ℕ → List ℕ → List ℕ
after_lines zero bytes = bytes
after_lines (suc n) bytes = after_line (after_lines n bytes)

abbrev pub line_at : ℕ → List ℕ → List ℕ
line_at n bytes = first_line (after_lines n bytes)
