-- The references of one strength: which life each handle that is live leads to, and which handles a line made.
use Rattle.std.specs.Prelude.{ℕ, ◌&&◌, not, Bool, true, false, List, [], Option, is_some}
use Rattle.std.specs.BTreeMap.{insert_entry, is_at}
use Rattle.std.specs.BTreeSet.{insert_key}
use Rattle.std.specs.Map.{lookup, remove_entry}
use Rattle.std.specs.List.{list_any}
use Rattle.std.specs.Ordering.{nat_cmp}
use Rattle.android_lives.specs.Tallies.{Told, has_older, untold, without_older}

-- the live handles rise, each with the place of its life; the handles that were made rise
pub record Held : Type 0 where
  pub live : List (ℕ × ℕ)
  pub made : List ℕ
  pub tally : Told

abbrev pub none_held : Held
none_held = record { live = []; made = []; tally = untold }

-- the life that a handle leads to; whether a line made it
abbrev pub life_of : Held → ℕ → Option ℕ
life_of s h = lookup (is_at (nat_cmp h)) s.live

abbrev pub is_live : Held → ℕ → Bool
is_live s h = is_some (life_of s h)

abbrev pub was_made : Held → ℕ → Bool
was_made s h = list_any (is_at (nat_cmp h)) s.made

-- a handle that comes leads to a life from now on
abbrev pub with_handle : Held → ℕ → ℕ → Held
with_handle s h i = record s { live = insert_entry nat_cmp s.live h i; made = insert_key nat_cmp s.made h }

-- a handle that goes leads to none. One that no line made stood before the log, as long as some of those are left; and
-- else it goes where it isn't live.
abbrev pub gone_by : Held → ℕ → Bool → Bool → Held
gone_by s h true older = record s { live = remove_entry (is_at (nat_cmp h)) s.live }
gone_by s h false true = record s { tally = without_older s.tally }
gone_by s h false false = s

abbrev pub stood_before : Held → ℕ → Bool
stood_before s h = not (was_made s h) && has_older s.tally

abbrev pub without_handle : Held → ℕ → Held
without_handle s h = gone_by s h (is_live s h) (stood_before s h)

abbrev pub goes_wrongly : Held → ℕ → Bool
goes_wrongly s h = not (is_live s h) && not (stood_before s h)

-- a handle is used that a line made, where it isn't live
abbrev pub is_stale : Held → ℕ → Bool
is_stale s h = not (is_live s h) && was_made s h
