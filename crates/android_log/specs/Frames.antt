-- Frames of a stack: a line with spaces, `at `, and the frame's text. Its name goes up to an offset, a file, or the
-- arguments.
use Rattle.std.specs.Prelude.{ℕ, ◌+◌, ◌==◌, ◌&&◌, ◌||◌, Bool, true, if◌then◌else◌, nat_eq, List, [], ◌∷◌, Option, None, take, drop}
use Rattle.std.specs.List.{prefix_len, starts_with}
use Rattle.android_log.specs.Format.{frame_word, offset_word, file_word, runtime_classes}
use Rattle.android_log.specs.Parts.{after, begins_with_one, is_space}

-- the frame's text, of a line that is one
abbrev pub frame_of : List ℕ → Option (List ℕ)
frame_of line = if prefix_len is_space line == 0 then None else after frame_word (drop (prefix_len is_space line) line)

-- an offset or a file begins here
abbrev pub ends_name : List ℕ → Bool
ends_name text = starts_with nat_eq text offset_word || starts_with nat_eq text file_word

-- the name ends here; its first byte is none of arguments
abbrev pub is_end : List ℕ → Bool
is_end [] = true
is_end (b ∷ bs) = b == 40 || (b == 32 && ends_name (b ∷ bs))

-- how many bytes stand before its end
abbrev pub before_end : List ℕ → ℕ
before_end [] = 0
before_end (b ∷ bs) = if is_end (b ∷ bs) then 0 else before_end bs + 1

abbrev pub name_len : List ℕ → ℕ
name_len [] = 0
name_len (b ∷ bs) = if b == 32 && ends_name (b ∷ bs) then 0 else before_end bs + 1

-- how many bytes there are without the spaces at the end
abbrev pub trimmed_len : List ℕ → ℕ
trimmed_len [] = 0
trimmed_len (b ∷ bs) = if is_space b && trimmed_len bs == 0 then 0 else trimmed_len bs + 1

-- the name in a frame's text
abbrev pub name_of : List ℕ → List ℕ
name_of text = take (trimmed_len (take (name_len text) text)) (take (name_len text) text)

-- the runtime's own frames
abbrev pub is_runtimes : List ℕ → Bool
is_runtimes name = begins_with_one runtime_classes name
