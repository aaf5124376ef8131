-- A mark: a reference came or went. It is read from the front: what kind of mark it is, both counts, of one that comes
-- what it was made from, and the reference's own handle. Behind ` from ` stands what its line says of the place.
use Rattle.std.specs.Prelude.{ℕ, Bool, true, false, List, Option, Some, None}
use Rattle.android_log.specs.declared.marks.Kind.{Kind}
use Rattle.android_log.specs.declared.marks.Kind.TheVariants.{StrongComes, StrongGoes, WeakComes, WeakGoes}
use Rattle.android_log.specs.declared.marks.Mark.{Mark}
use Rattle.android_log.specs.Format.{strong_comes, strong_goes, weak_comes, weak_goes, grefc_word, gwrefc_word, from_word, new_word, gone_word, kind_word, rest_word}
use Rattle.android_log.specs.Parts.{◌>>=◌, after, byte_at, decimal_at, hex_at}

-- whether the reference comes, and whether it is strong
abbrev pub comes : Kind → Bool
comes StrongComes = true
comes StrongGoes = false
comes WeakComes = true
comes WeakGoes = false

abbrev pub is_strong : Kind → Bool
is_strong StrongComes = true
is_strong StrongGoes = true
is_strong WeakComes = false
is_strong WeakGoes = false

-- the kind that a text begins with, and what stands behind its word
abbrev pub or_kind : Option (List ℕ) → Kind → Option (Kind × List ℕ) → Option (Kind × List ℕ)
or_kind None k other = other
or_kind (Some rest) k other = Some (k, rest)

abbrev pub kind_at : List ℕ → Option (Kind × List ℕ)
kind_at text = or_kind (after strong_comes text) StrongComes
    (or_kind (after strong_goes text) StrongGoes
    (or_kind (after weak_comes text) WeakComes
    (or_kind (after weak_goes text) WeakGoes None)))

-- both counts
abbrev pub counts_at : List ℕ → Option (ℕ × ℕ × List ℕ)
counts_at text = do
  a ← after grefc_word text
  g ← decimal_at a
  b ← after gwrefc_word g.1
  w ← decimal_at b
  Some (g.0, w.0, w.1)

-- a handle with its kind, one byte
abbrev pub handle_at : List ℕ → Option (ℕ × ℕ × List ℕ)
handle_at text = do
  h ← hex_at text
  a ← after kind_word h.1
  k ← byte_at a
  Some (h.0, k.0, k.1)

-- the handles of a reference that comes: what it was made from, and its own; and what its line says of the place
abbrev pub made_at : List ℕ → Option (ℕ × ℕ × ℕ × List ℕ)
made_at text = do
  a ← after from_word text
  f ← handle_at a
  b ← after new_word f.2
  h ← handle_at b
  r ← after rest_word h.2
  Some (f.0, f.1, h.0, r)

-- that of one that goes
abbrev pub gone_at : List ℕ → Option (ℕ × ℕ × ℕ × List ℕ)
gone_at text = do
  a ← after gone_word text
  h ← handle_at a
  r ← after rest_word h.2
  Some (0, 0, h.0, r)

abbrev pub handles_at : Bool → List ℕ → Option (ℕ × ℕ × ℕ × List ℕ)
handles_at true text = made_at text
handles_at false text = gone_at text

-- a mark of that kind, behind its word
abbrev pub mark_behind : Kind → List ℕ → Option (Mark × List ℕ)
mark_behind k text = do
  c ← counts_at text
  h ← handles_at (comes k) c.2
  Some (record { kind = k; grefc = c.0; gwrefc = c.1; from = h.0; from_kind = h.1; handle = h.2 }, h.3)
