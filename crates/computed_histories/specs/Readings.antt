-- Whether each entry of a history may come when it comes, its reads among them, and whether it is linked, by computing.
-- (SGen's bridge header: while bridge processing is in progress, the reading of a weak link to a bridge object waits.)
use Rattle.std.specs.Prelude.{ℕ, ◌^◌, ◌↔◌, Bool, true, false, not, ◌&&◌, nat_eq, nat_lt, nat_le, IsTrue, List, [], ◌∷◌}
use Rattle.std.specs.Prelude.{length, map, slice_get, Option}
use Rattle.std.specs.List.{list_any, list_all}
use Rattle.joint_machine.specs.declared.names.Thread.{Thread}
use Rattle.joint_machine.specs.declared.lines.Act.TheVariants as act
use Rattle.joint_machine.specs.declared.events.Op.{Op}
use Rattle.joint_machine.specs.declared.events.Op.TheVariants as op
use Rattle.joint_machine.specs.declared.events.Reply.{Reply}
use Rattle.joint_machine.specs.declared.events.Reply.TheVariants as says
use Rattle.joint_machine.specs.Control.{last_line}
use Rattle.joint_machine.specs.Heaps.{slot}
use Rattle.joint_machine.specs.Histories.{Finished}
use Rattle.joint_machine.specs.Linked.{Linkage, opening_linkage}
use Rattle.joint_machine.specs.LinkedHistories.{linked_end, managed_end, IsLinkedBy, HasQueued}
use Rattle.joint_machine.specs.Managed.{Managed, read_cell}
use Rattle.joint_machine.specs.PeerReplay.{is_thread}
use Rattle.joint_machine.specs.Lines.{is_read}
use Rattle.joint_machine.specs.Readers.{is_managed_entry, MayBePending, MayBeUnset, entry_after, AllMayComeReading}
use Rattle.joint_machine.specs.Run.{thread_number}
use Rattle.joint_machine.specs.Told.{Told, nothing, snap_of, resolution_of, Noted}
use Rattle.computed_histories.specs.Callers.{caller_allows}
use Rattle.computed_histories.specs.Histories.{may_come, is_numbered_from, is_whole}
use Rattle.computed_histories.specs.Lines.{is_event}
use Rattle.computed_histories.specs.Lists.{has, has_that, is_empty, implies, count_from}
use Rattle.computed_histories.specs.Replies.{same_reply}

-- the places of a list
abbrev pub places : List Noted → List ℕ
places ns = count_from 0 (length ns)

-- whether an event snaps, or ends, cycle k, or sets cell k
abbrev pub snaps_cycle : Op → ℕ → Bool
snaps_cycle (op.Snap c) k = nat_eq c.0 k
snaps_cycle _ k = false

abbrev pub ends_cycle : Op → ℕ → Bool
ends_cycle (op.Resolve c) k = nat_eq c.0 k
ends_cycle (op.Abandon c) k = nat_eq c.0 k
ends_cycle _ k = false

abbrev pub sets_cell : Op → ℕ → Bool
sets_cell (op.Line (act.Weak c v)) k = nat_eq c.0 k
sets_cell _ k = false

-- whether an entry frees the object
abbrev pub frees_object : Told → ℕ → Bool
frees_object (snap_of freed candidates dead) m = has freed m
frees_object (resolution_of answers freed) m = has freed m
frees_object _ m = false

-- the same of the entry at a place
abbrev pub is_managed_at : List Noted → ℕ → Bool
is_managed_at ns i = has_that is_managed_entry (slice_get ns i)

abbrev pub snaps_cycle_at : List Noted → ℕ → ℕ → Bool
snaps_cycle_at ns i k = has_that (λ n. snaps_cycle n.entry.made.op k) (slice_get ns i)

abbrev pub ends_cycle_at : List Noted → ℕ → ℕ → Bool
ends_cycle_at ns i k = has_that (λ n. ends_cycle n.entry.made.op k) (slice_get ns i)

abbrev pub sets_cell_at : List Noted → ℕ → ℕ → Bool
sets_cell_at ns i k = has_that (λ n. sets_cell n.entry.made.op k && same_reply n.entry.made.reply says.Ok)
    (slice_get ns i)

abbrev pub is_callers_at : List Noted → ℕ → Thread → Bool
is_callers_at ns i t = has_that (λ n. is_thread n.entry.made.caller t) (slice_get ns i)

abbrev pub frees_object_at : List Noted → ℕ → ℕ → Bool
frees_object_at ns i m = has_that (λ n. frees_object n.told m) (slice_get ns i)

-- whether some entry of the caller stands from place j on and before place i
abbrev pub is_known_from : List Noted → Thread → ℕ → ℕ → Bool
is_known_from ns t i j = list_any (λ x. nat_le j x && nat_lt x i && is_callers_at ns x t) (places ns)

-- whether a managed entry later than one place stands at or before the caller's last entry before another
abbrev pub is_later_known : List Noted → Thread → ℕ → ℕ → Bool
is_later_known ns t i from = list_any (λ j. nat_lt from j && is_managed_at ns j && is_known_from ns t i j) (places ns)

-- whether a read may answer `pending`, or `unset`
abbrev pub may_be_pending : List Noted → ℕ → Thread → ℕ → Bool
may_be_pending ns i t k =
    list_any (λ snap. snaps_cycle_at ns snap k && list_all
    (λ j. implies (nat_lt j snap && is_managed_at ns j) (nat_lt j i)) (places ns)) (places ns)
    && not (list_any (λ end. ends_cycle_at ns end k && is_later_known ns t i end) (places ns))

abbrev pub may_be_unset : List Noted → List (Option ℕ) → ℕ → Thread → ℕ → Bool
may_be_unset ns cells i t k =
    not (list_any (λ set. sets_cell_at ns set k && is_later_known ns t i set) (places ns))
    && not (list_any (λ set. sets_cell_at ns set k && nat_lt set i && is_callers_at ns set t) (places ns))
    && not (has_that (λ m. list_any (λ j. frees_object_at ns j m && nat_lt j i) (places ns)) (slot cells k))

-- whether a reply is that of a read
abbrev pub is_read_reply : List Noted → List (Option ℕ) → Managed → ℕ → Thread → ℕ → Reply → Bool
is_read_reply ns cells s i t k (says.Pending c) = is_empty (slot s.pins (thread_number t)) && may_be_pending ns i t c.0
is_read_reply ns cells s i t k says.Unset = is_empty (slot s.pins (thread_number t)) && may_be_unset ns cells i t k
is_read_reply ns cells s i t k reply = same_reply reply (read_cell s (thread_number t) k).reply

abbrev pub reads_rightly : List Noted → List (Option ℕ) → Managed → ℕ → Thread → Op → Reply → Bool
reads_rightly ns cells s i t (op.Line (act.Read c)) reply = is_read_reply ns cells s i t c.0 reply
reads_rightly ns cells s i t (op.Line (act.Await c)) reply = is_read_reply ns cells s i t c.0 reply
reads_rightly ns cells s i t _ reply = true

-- whether nothing is told
abbrev pub is_bare : Told → Bool
is_bare nothing = true
is_bare _ = false

-- a reader's entry may come next, but for its reply
abbrev pub reader_may_come : Linkage → Noted → Bool
reader_may_come s n =
    is_event n.entry.made.caller n.entry.made.op
    && nat_le (last_line s.control n.entry.made.caller) n.entry.made.index
    && nat_lt n.entry.made.index (2 ^ 32)
    && caller_allows s.control s.managed.managed s.peer.peers.issued n.entry.made.caller
    n.entry.made.index n.entry.made.op n.entry.made.reply n.entry.made.cites n.told
    && is_bare n.told

-- an entry of any list may come next
abbrev pub entry_may_come : Bool → List Noted → List (Option ℕ) → Linkage → Noted → Bool
entry_may_come true ns cells s n = reader_may_come s n && reads_rightly ns cells
    s.managed.managed n.entry.number n.entry.made.caller n.entry.made.op n.entry.made.reply
entry_may_come false ns cells s n = may_come s n

-- each entry of the list may come when it comes
abbrev pub all_may_come_reading : List Noted → List (Option ℕ) → Linkage → List Noted → Bool
all_may_come_reading whole cells s [] = true
all_may_come_reading whole cells s (n ∷ ns) = entry_may_come
    (is_read n.entry.made.op) whole cells s n && all_may_come_reading whole cells (entry_after s n) ns

-- the history that notes make: their entries, and the lists of what was freed and queued
abbrev pub finished_of : List Noted → Finished
finished_of noted = record {
  entries = map (λ n. n.entry) noted;
  freed_managed = map (λ m. record { 0 = m }) (managed_end noted).heap.freed;
  freed_peers = map (λ p. record { 0 = p }) (linked_end noted).peer.peers.heap.freed;
  notices = map (λ m. record { 0 = m }) (managed_end noted).notices;
}

-- whether the history that notes make is linked by them
abbrev pub is_linked : List Noted → Bool
is_linked noted = is_numbered_from 0 (map (λ n. n.entry) noted) && all_may_come_reading noted
    (managed_end noted).cells opening_linkage noted && is_whole (linked_end noted)

-- each test tells exactly what its definition says
abbrev pub PendingIsTested : Type 0
PendingIsTested = (ns : List Noted) (i : ℕ) (t : Thread) (k : ℕ)
    → IsTrue (may_be_pending ns i t k) ↔ MayBePending ns i t k

abbrev pub UnsetIsTested : Type 0
UnsetIsTested = (ns : List Noted) (cells : List (Option ℕ)) (i : ℕ) (t : Thread) (k : ℕ)
    → IsTrue (may_be_unset ns cells i t k) ↔ MayBeUnset ns cells i t k

abbrev pub ReadingIsTested : Type 0
ReadingIsTested = (whole : List Noted) (cells : List (Option ℕ)) (s : Linkage) (ns : List Noted)
    → IsTrue (all_may_come_reading whole cells s ns) ↔ AllMayComeReading whole cells s ns

abbrev pub LinkedIsTested : Type 0
LinkedIsTested = (noted : List Noted) → IsTrue (is_linked noted) ↔ IsLinkedBy (finished_of noted) noted

-- and that history's list has every notice that was queued
abbrev pub LinkedHasQueued : Type 0
LinkedHasQueued = (noted : List Noted) → HasQueued (finished_of noted) noted
