-- The last mark of each thread, behind which lines may tell its place.
use Rattle.std.specs.Prelude.{ℕ, false, List, [], ◌∷◌, ◌++◌, Option, Some, None, length, slice_get, slice_set}
use Rattle.std.specs.BTreeMap.{insert_entry, is_at}
use Rattle.std.specs.Map.{lookup}
use Rattle.std.specs.Ordering.{nat_cmp}
use Rattle.android_lives.specs.declared.threads.Pending.{Pending}

-- where the last mark of each thread is kept, and these marks
pub record Threaded : Type 0 where
  pub places : List (ℕ × ℕ)
  pub marks : List Pending

abbrev pub none_threaded : Threaded
none_threaded = record { places = []; marks = [] }

abbrev pub place_of : Threaded → ℕ → Option ℕ
place_of t thread = lookup (is_at (nat_cmp thread)) t.places

abbrev pub mark_in : Threaded → Option ℕ → Option Pending
mark_in t None = None
mark_in t (Some i) = slice_get t.marks i

-- the last mark of a thread, where it has one
abbrev pub last_mark : Threaded → ℕ → Option Pending
last_mark t thread = mark_in t (place_of t thread)

-- a mark in another's place
abbrev pub with_mark_at : Threaded → ℕ → Pending → Threaded
with_mark_at t i p = record t { marks = slice_set t.marks i p }

abbrev pub with_mark_in : Threaded → ℕ → Pending → Option ℕ → Threaded
with_mark_in t thread p (Some i) = with_mark_at t i p
with_mark_in t thread p None = record { places = insert_entry nat_cmp t.places thread (length t.marks); marks = t.marks ++ p ∷ [] }

-- a thread's last mark is that
abbrev pub with_mark : Threaded → ℕ → Pending → Threaded
with_mark t thread p = with_mark_in t thread p (place_of t thread)

-- no line tells the mark's place from now on
abbrev pub closed : Pending → Pending
closed p = record p { takes_frames = false; takes_note = false }

abbrev pub closed_in : Threaded → Option ℕ → Option Pending → Threaded
closed_in t (Some i) (Some p) = with_mark_at t i (closed p)
closed_in t _ _ = t

abbrev pub with_closed : Threaded → ℕ → Threaded
with_closed t thread = closed_in t (place_of t thread) (last_mark t thread)
