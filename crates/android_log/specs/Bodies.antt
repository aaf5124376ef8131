-- What a line says, behind the tag where there is one: a mark, a frame of a stack, the Java type of a handle, or
-- another note. A line that begins as a mark and is none is odd.
use Rattle.std.specs.Prelude.{ℕ, ◌==◌, Bool, true, not, if◌then◌else◌, List, [], ◌∷◌, Option, Some, None, take, drop, length}
use Rattle.std.specs.List.{prefix_len}
use Rattle.android_log.specs.declared.marks.Kind.{Kind}
use Rattle.android_log.specs.declared.marks.Mark.{Mark}
use Rattle.android_log.specs.declared.bodies.Body.{Body}
use Rattle.android_log.specs.declared.bodies.Body.TheVariants as body
use Rattle.android_log.specs.Format.{java_word, key_word, managed_word, other_kinds, type_end, type_word}
use Rattle.android_log.specs.Frames.{frame_of}
use Rattle.android_log.specs.Marks.{kind_at, mark_behind}
use Rattle.android_log.specs.Parts.{◌>>=◌, after, begins_with_one, hex_at}

pub data Said : Type 0 where
  mark : Mark → List ℕ → Said
  frame : List ℕ → Said
  javas : ℕ → List ℕ → Said
  odd : Said
  note : Said

-- the bytes before the first colon, and before the first backtick
abbrev pub colon_place : List ℕ → ℕ
colon_place text = prefix_len (λ b. not (b == 58)) text

abbrev pub tick_place : List ℕ → ℕ
tick_place text = prefix_len (λ b. not (b == 96)) text

-- behind the key of a type's line, whose end is a colon, stand the Java type and the managed type between backticks
abbrev pub managed_ends : List ℕ → Option (List ℕ)
managed_ends text = do
  rest ← after type_end (drop (tick_place text) text)
  if length rest == 0 then Some rest else None

abbrev pub names_at : List ℕ → Option (List ℕ)
names_at text = do
  a ← after java_word text
  b ← after managed_word (drop (tick_place a) a)
  e ← managed_ends b
  Some (take (tick_place a) a)

-- the handle of a type's line, and the Java type
abbrev pub type_of : List ℕ → Option (ℕ × List ℕ)
type_of line = do
  a ← after type_word line
  h ← hex_at a
  b ← after key_word h.1
  n ← names_at (drop (colon_place b) b)
  Some (h.0, n)

-- what it says that begins as no mark, and is no frame
abbrev pub as_type : Option (ℕ × List ℕ) → Said
as_type None = note
as_type (Some t) = javas t.0 t.1

abbrev pub as_frame : List ℕ → Option (List ℕ) → Said
as_frame line None = as_type (type_of line)
as_frame line (Some text) = frame text

-- what it says that begins as a mark
abbrev pub as_mark : Option (Mark × List ℕ) → Said
as_mark None = odd
as_mark (Some m) = mark m.0 m.1

abbrev pub as_kind : List ℕ → Option (Kind × List ℕ) → Said
as_kind line None = as_frame line (frame_of line)
as_kind line (Some k) = as_mark (mark_behind k.0 k.1)

-- what a line says
abbrev pub said : List ℕ → Said
said line = as_kind line (kind_at line)

-- a line's body as contracts see it
abbrev pub shown : Body → Said
shown (body.Mark m rest) = mark m rest.now
shown (body.Frame text) = frame text.now
shown (body.Type h name) = javas h name.now
shown body.Odd = odd
shown body.Note = note

-- a note that is never the place of a mark before it: it is empty, or of another kind
abbrev pub is_other : List ℕ → Bool
is_other [] = true
is_other (b ∷ bs) = begins_with_one other_kinds (b ∷ bs)
