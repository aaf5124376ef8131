-- Words by their places: what the steps of reading promise each other.
use Rattle.std.specs.Prelude.{ℕ, List, [], slice_index_or, Option, Some, None, bytes_eq, if◌then◌else◌}

-- the word at a place
abbrev pub word_at : List (List ℕ) → ℕ → List ℕ
word_at words i = slice_index_or words i []

-- of seven words, the one behind the first of the second, the fourth and the sixth that is this name
abbrev pub value_of : List (List ℕ) → List ℕ → Option (List ℕ)
value_of words name = if bytes_eq (word_at words 1) name then Some (word_at words 2) else if bytes_eq
    (word_at words 3) name then Some (word_at words 4) else if bytes_eq
    (word_at words 5) name then Some (word_at words 6) else None
