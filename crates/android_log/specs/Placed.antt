-- Where a line of a logcat has its tag, and what stands before and behind it. The process stands in brackets behind the
-- tag, or it is the first word of digits before it; then the second is the thread.
use Rattle.std.specs.Prelude.{ℕ, ◌+◌, ◌==◌, ◌&&◌, Bool, not, if◌then◌else◌, filter, List, [], ◌∷◌, Option, Some, None, take, drop, length}
use Rattle.std.specs.List.{prefix_len, slice_split}
use Rattle.android_log.specs.Format.{bracket_end, bracket_word, colon_word, tag_word}
use Rattle.android_log.specs.Parts.{◌>>=◌, after, is_digit, is_space}

-- a line with a tag: its process and its thread, each with no digits where there is none, and what stands behind the tag
pub record Heard : Type 0 where
  pub process : List ℕ
  pub thread : List ℕ
  pub body : List ℕ

-- spaces and a colon end a tag
abbrev pub colon_end : List ℕ → Option (List ℕ)
colon_end text = after colon_word (drop (prefix_len is_space text) text)

-- and so does a process in brackets, with spaces before it: its digits, and what stands behind
abbrev pub digits_end : List ℕ → Option (List ℕ × List ℕ)
digits_end text = if prefix_len is_digit text == 0 then None else do
  rest ← after bracket_end (drop (prefix_len is_digit text) text)
  Some (take (prefix_len is_digit text) text, rest)

abbrev pub bracket_process : List ℕ → Option (List ℕ × List ℕ)
bracket_process text = do
  a ← after bracket_word text
  digits_end (drop (prefix_len is_space a) a)

-- a tag's ending: the process in brackets, or no digits, and what stands behind
abbrev pub or_brackets : Option (List ℕ) → List ℕ → Option (List ℕ × List ℕ)
or_brackets None text = bracket_process text
or_brackets (Some rest) text = Some ([], rest)

abbrev pub tag_at : List ℕ → Option (List ℕ × List ℕ)
tag_at text = do
  a ← after tag_word text
  or_brackets (colon_end a) a

-- the first tag of a line that goes on there: its place, and its ending
abbrev pub or_on : ℕ → Option (List ℕ × List ℕ) → Option (ℕ × List ℕ × List ℕ) → Option (ℕ × List ℕ × List ℕ)
or_on at None on = on
or_on at (Some t) on = Some (at, t.0, t.1)

abbrev pub tag_from : ℕ → List ℕ → Option (ℕ × List ℕ × List ℕ)
tag_from at [] = None
tag_from at (b ∷ bs) = or_on at (tag_at (b ∷ bs)) (tag_from (at + 1) bs)

-- words of digits
abbrev pub is_number_word : List ℕ → Bool
is_number_word word = not (length word == 0) && prefix_len is_digit word == length word

abbrev pub number_words : List ℕ → List (List ℕ)
number_words front = filter is_number_word (slice_split (λ b. b == 32) front)

-- the first word of some, and the second
abbrev pub first_of : List (List ℕ) → List ℕ
first_of [] = []
first_of (w ∷ ws) = w

abbrev pub rest_of_words : List (List ℕ) → List (List ℕ)
rest_of_words [] = []
rest_of_words (w ∷ ws) = ws

-- a line with its tag, by what stands before it
abbrev pub with_words : List (List ℕ) → List ℕ → Heard
with_words words body = record { process = first_of words; thread = first_of (rest_of_words words); body = body }

abbrev pub heard_behind : List ℕ → List ℕ → List ℕ → Heard
heard_behind front [] body = with_words (number_words front) body
heard_behind front (d ∷ ds) body = record { process = d ∷ ds; thread = []; body = body }

-- a line with its tag, where it has one
abbrev pub as_heard : List ℕ → Option (ℕ × List ℕ × List ℕ) → Option Heard
as_heard line None = None
as_heard line (Some t) = Some (heard_behind (take t.0 line) t.1 t.2)

abbrev pub heard_in : List ℕ → Option Heard
heard_in line = as_heard line (tag_from 0 line)
