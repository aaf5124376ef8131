-- The tests of lock-free reads tell what the definitions say: each fact is on places of the list, which are finitely
-- many.
use Rattle.std.proofs.Common.{◌≡◌, ℕ, ◌^◌, ◌<◌, ◌≤◌, ◌⊎◌, inl, inr, Bool, true, false, ◌&&◌, nat_eq, nat_lt, nat_le, List, [], ◌∷◌, length, map, take, slice_get, Option, Some, refl, ap, subst, arith}
use Rattle.std.specs.List.{Contains, list_any, list_all}
use Rattle.std.proofs.lemmas.Option.{slice_get_within}
use Rattle.joint_machine.specs.declared.names.Thread.{Thread}
use Rattle.joint_machine.specs.declared.lines.Act.TheVariants as act
use Rattle.joint_machine.specs.declared.events.Op.{Op}
use Rattle.joint_machine.specs.declared.events.Op.TheVariants as op
use Rattle.joint_machine.specs.declared.events.Reply.{Reply}
use Rattle.joint_machine.specs.declared.events.Reply.TheVariants as says
use Rattle.joint_machine.specs.Control.{last_line}
use Rattle.joint_machine.specs.Heaps.{slot}
use Rattle.joint_machine.specs.Linked.{Linkage, opening_linkage}
use Rattle.joint_machine.specs.LinkedHistories.{linked_end, managed_end, IsLinkedBy}
use Rattle.joint_machine.specs.Managed.{Managed, read_cell}
use Rattle.joint_machine.specs.PeerReplay.{is_thread}
use Rattle.joint_machine.specs.Places.{At}
use Rattle.joint_machine.specs.Lines.{is_read}
use Rattle.joint_machine.specs.Readers.{is_managed_entry, ReadsCell, SetsCell, FreesObject, HasEventAt, IsManagedAt, EndsCycleAt, SetsCellAt, IsCallersAt, FreesObjectAt, HasKnownFrom, MayBePending}
use Rattle.joint_machine.specs.Readers.{MayBeUnset, IsReadReply, ReaderMayCome, EntryMayCome, entry_after, AllMayComeReading}
use Rattle.joint_machine.specs.Run.{thread_number}
use Rattle.joint_machine.specs.Told.{Told, nothing, snap_of, resolution_of, Noted}
use Rattle.computed_histories.specs.Lists.{has_that, implies}
use Rattle.computed_histories.specs.Readings.{places, snaps_cycle, ends_cycle, sets_cell, frees_object, is_managed_at, snaps_cycle_at, ends_cycle_at, sets_cell_at, is_callers_at, frees_object_at}
use Rattle.computed_histories.specs.Readings.{is_known_from, is_later_known, may_be_pending, may_be_unset, is_read_reply, reads_rightly, is_bare, reader_may_come, entry_may_come, all_may_come_reading}
use Rattle.computed_histories.specs.Readings.{finished_of, is_linked, PendingIsTested, UnsetIsTested, ReadingIsTested, LinkedIsTested, LinkedHasQueued}
use Rattle.computed_histories.specs.Replies.{same_reply}
use Rattle.computed_histories.proofs.Telling.{Tells, tested, always, never, like, isn't, and2, and3, and5, same, less, upto, empty, that, implied, is_true}
use Rattle.computed_histories.proofs.Reaching.{all_in, any_in, member, counted}
use Rattle.computed_histories.proofs.CallerTests.{caller}
use Rattle.computed_histories.proofs.HistoryTests.{comes, numbered, whole, mapped_m, mapped_p}
use Rattle.computed_histories.proofs.LineTests.{tells_event}
use Rattle.computed_histories.proofs.ReplyTests.{replies}
use Rattle.computed_histories.proofs.SideTests.{threads}

-- places
in_places : (ns : List Noted) (i : ℕ) (n : Noted) → slice_get ns i ≡ Some n → Contains (places ns) i
in_places ns i n e = let l = slice_get_within ns i n e in (member nat_eq same (places ns) i).holds ((counted 0 (length ns) i).passes (omega arith, omega arith))

-- some place has it, where it is about an entry of the list
some_place : (ns : List Noted) (test : ℕ → Bool) (P : ℕ → Type 0) → ((i : ℕ) → Tells (test i) (P i)) → ((i : ℕ) → P i → Contains (places ns) i) → Tells (list_any test (places ns)) ((i : ℕ) × P i)
some_place ns test P t within = like (λ p. (p.0, p.2)) (λ p. (p.0, within p.0 p.1, p.1)) (any_in (places ns) test P t)

-- what an event does
abbrev cycle_named : Op → ℕ
cycle_named (op.Resolve d) = d.0
cycle_named (op.Abandon d) = d.0
cycle_named (op.Snap d) = d.0
cycle_named _ = 0

snaps : (o : Op) (k : ℕ) → Tells (snaps_cycle o k) (o ≡ op.Snap record { 0 = k })
snaps (op.Snap c) k = like (λ e. λ i. op.Snap record { 0 = e i }) inside (same c.0 k)
  where
    inside : op.Snap c ≡ op.Snap record { 0 = k } → c.0 ≡ k
    inside e = ap cycle_named e
snaps _ k = never (λ e. cc)

ends : (o : Op) (k : ℕ) → Tells (ends_cycle o k) ((o ≡ op.Resolve record { 0 = k }) ⊎ (o ≡ op.Abandon record { 0 = k }))
ends (op.Resolve c) k = like (λ e. inl (λ i. op.Resolve record { 0 = e i })) inside (same c.0 k)
  where
    inside : (op.Resolve c ≡ op.Resolve record { 0 = k }) ⊎ (op.Resolve c ≡ op.Abandon record { 0 = k }) → c.0 ≡ k
    inside (inl e) = ap cycle_named e
    inside (inr e) = cc
ends (op.Abandon c) k = like (λ e. inr (λ i. op.Abandon record { 0 = e i })) inside (same c.0 k)
  where
    inside : (op.Abandon c ≡ op.Resolve record { 0 = k }) ⊎ (op.Abandon c ≡ op.Abandon record { 0 = k }) → c.0 ≡ k
    inside (inl e) = cc
    inside (inr e) = ap cycle_named e
ends _ k = never (λ s. elim s [ inl e ↦ cc | inr e ↦ cc ])

sets : (o : Op) (k : ℕ) → Tells (sets_cell o k) (SetsCell o k)
sets (op.Line (act.Weak c v)) k = same c.0 k
sets _ k = never (λ z. z)

frees : (told : Told) (m : ℕ) → Tells (frees_object told m) (FreesObject told m)
frees (snap_of freed candidates dead) m = member nat_eq same freed m
frees (resolution_of given freed) m = member nat_eq same freed m
frees _ m = never (λ z. z)

-- the same of the entry at a place
stands : (ns : List Noted) (i : ℕ) (test : Noted → Bool) (Is : Noted → Type 0) → ((n : Noted) → Tells (test n) (Is n)) → Tells (has_that test (slice_get ns i)) (At ns i Is)
stands ns i test Is t = like (λ p. record { element = p.0; there = p.1; is = p.2 }) (λ r. (r.element, r.there, r.is)) (that (slice_get ns i) test Is t)

managed_at : (ns : List Noted) (i : ℕ) → Tells (is_managed_at ns i) (IsManagedAt ns i)
managed_at ns i = stands ns i is_managed_entry (λ n. is_managed_entry n ≡ true) (λ n. is_true (is_managed_entry n))

snaps_at : (ns : List Noted) (i k : ℕ) → Tells (snaps_cycle_at ns i k) (HasEventAt ns i (op.Snap record { 0 = k }))
snaps_at ns i k = stands ns i (λ n. snaps_cycle n.entry.made.op k) (λ n. n.entry.made.op ≡ op.Snap record { 0 = k }) (λ n. snaps n.entry.made.op k)

ends_at : (ns : List Noted) (i k : ℕ) → Tells (ends_cycle_at ns i k) (EndsCycleAt ns i k)
ends_at ns i k = stands ns i (λ n. ends_cycle n.entry.made.op k)
    (λ n. (n.entry.made.op ≡ op.Resolve record { 0 = k }) ⊎ (n.entry.made.op ≡ op.Abandon record { 0 = k })) (λ n. ends n.entry.made.op k)

sets_at : (ns : List Noted) (i k : ℕ) → Tells (sets_cell_at ns i k) (SetsCellAt ns i k)
sets_at ns i k = stands ns i (λ n. sets_cell n.entry.made.op k && same_reply n.entry.made.reply says.Ok)
    (λ n. SetsCell n.entry.made.op k × (n.entry.made.reply ≡ says.Ok)) (λ n. and2 (sets n.entry.made.op k) (replies n.entry.made.reply says.Ok))

callers_at : (ns : List Noted) (i : ℕ) (t : Thread) → Tells (is_callers_at ns i t) (IsCallersAt ns i t)
callers_at ns i t = stands ns i (λ n. is_thread n.entry.made.caller t) (λ n. n.entry.made.caller ≡ t) (λ n. threads n.entry.made.caller t)

frees_at : (ns : List Noted) (i m : ℕ) → Tells (frees_object_at ns i m) (FreesObjectAt ns i m)
frees_at ns i m = stands ns i (λ n. frees_object n.told m) (λ n. FreesObject n.told m) (λ n. frees n.told m)

-- what the caller knows
known_from : (ns : List Noted) (t : Thread) (i j : ℕ) → Tells (is_known_from ns t i j) (HasKnownFrom ns t i j)
known_from ns t i j = like (λ p. (p.0, p.1.0, p.1.1, p.1.2)) (λ r. (r.0, (r.1, r.2, r.3)))
    (some_place ns (λ x. nat_le j x && nat_lt x i && is_callers_at ns x t) (λ x. (j ≤ x) × (x < i) × IsCallersAt ns x t)
    (λ x. and3 (upto j x) (less x i) (callers_at ns x t)) (λ x p. in_places ns x p.2.element p.2.there))

abbrev IsLaterKnown : List Noted → Thread → ℕ → ℕ → Type 0
IsLaterKnown ns t i from = (j : ℕ) × (from < j) × IsManagedAt ns j × HasKnownFrom ns t i j

later_known : (ns : List Noted) (t : Thread) (i from : ℕ) → Tells (is_later_known ns t i from) (IsLaterKnown ns t i from)
later_known ns t i from = like (λ p. (p.0, p.1.0, p.1.1, p.1.2)) (λ r. (r.0, (r.1, r.2, r.3)))
    (some_place ns (λ j. nat_lt from j && is_managed_at ns j && is_known_from ns t i j)
    (λ j. (from < j) × IsManagedAt ns j × HasKnownFrom ns t i j) (λ j. and3 (less from j) (managed_at ns j) (known_from ns t i j))
    (λ j p. in_places ns j p.1.element p.1.there))

-- pending
pub pending : (ns : List Noted) (i : ℕ) (t : Thread) (k : ℕ) → Tells (may_be_pending ns i t k) (MayBePending ns i t k)
pending ns i t k = like
    (λ p. record { snap = p.0.0; snaps = p.0.1.0; early = λ j b m. p.0.1.1 j (in_places ns j m.element m.there) (b, m); unknown = λ end j e l m h. p.1 (end, (e, (j, l, m, h))) })
    (λ r. ((r.snap, (r.snaps, λ j c b. r.early j b.0 b.1)), λ q. r.unknown q.0 q.1.1.0 q.1.0 q.1.1.1 q.1.1.2 q.1.1.3))
    (and2
    (some_place ns (λ snap. snaps_cycle_at ns snap k && list_all (λ j. implies (nat_lt j snap && is_managed_at ns j) (nat_lt j i)) (places ns))
    (λ snap. HasEventAt ns snap (op.Snap record { 0 = k }) × ((j : ℕ) → Contains (places ns) j → (j < snap) × IsManagedAt ns j → j < i))
    (λ snap. and2 (snaps_at ns snap k) (all_in (places ns) (λ j. implies (nat_lt j snap && is_managed_at ns j) (nat_lt j i))
    (λ j. (j < snap) × IsManagedAt ns j → j < i) (λ j. implied (and2 (less j snap) (managed_at ns j)) (less j i))))
    (λ snap p. in_places ns snap p.0.element p.0.there))
    (isn't (some_place ns (λ end. ends_cycle_at ns end k && is_later_known ns t i end) (λ end. EndsCycleAt ns end k × IsLaterKnown ns t i end)
    (λ end. and2 (ends_at ns end k) (later_known ns t i end)) (λ end p. in_places ns end p.0.element p.0.there))))

-- unset
pub unset : (ns : List Noted) (cells : List (Option ℕ)) (i : ℕ) (t : Thread) (k : ℕ) → Tells (may_be_unset ns cells i t k) (MayBeUnset ns cells i t k)
unset ns cells i t k = like
    (λ p. record { unknown = λ set j s l m h. p.0 (set, (s, (j, l, m, h))); not_own = λ set s b c. p.1 (set, (s, b, c)); target_unfreed = λ m j e f l. p.2 (m, e, (j, (f, l))) })
    (λ r. (λ q. r.unknown q.0 q.1.1.0 q.1.0 q.1.1.1 q.1.1.2 q.1.1.3, λ q. r.not_own q.0 q.1.0 q.1.1 q.1.2, λ q. r.target_unfreed q.0 q.2.0 q.1 q.2.1.0 q.2.1.1))
    (and3
    (isn't (some_place ns (λ set. sets_cell_at ns set k && is_later_known ns t i set) (λ set. SetsCellAt ns set k × IsLaterKnown ns t i set)
    (λ set. and2 (sets_at ns set k) (later_known ns t i set)) (λ set p. in_places ns set p.0.element p.0.there)))
    (isn't (some_place ns (λ set. sets_cell_at ns set k && nat_lt set i && is_callers_at ns set t) (λ set. SetsCellAt ns set k × (set < i) × IsCallersAt ns set t)
    (λ set. and3 (sets_at ns set k) (less set i) (callers_at ns set t)) (λ set p. in_places ns set p.0.element p.0.there)))
    (isn't (that (slot cells k) (λ m. list_any (λ j. frees_object_at ns j m && nat_lt j i) (places ns)) (λ m. (j : ℕ) × (FreesObjectAt ns j m × (j < i)))
    (λ m. some_place ns (λ j. frees_object_at ns j m && nat_lt j i) (λ j. FreesObjectAt ns j m × (j < i)) (λ j. and2 (frees_at ns j m) (less j i)) (λ j p. in_places ns j p.0.element p.0.there)))))

-- a read's reply
read_reply : (ns : List Noted) (cells : List (Option ℕ)) (s : Managed) (i : ℕ) (t : Thread) (k : ℕ) (reply : Reply) → Tells (is_read_reply ns cells s i t k reply) (IsReadReply ns cells s i t k reply)
read_reply ns cells s i t k (says.Pending c) = and2 (empty (slot s.pins (thread_number t))) (pending ns i t c.0)
read_reply ns cells s i t k says.Unset = and2 (empty (slot s.pins (thread_number t))) (unset ns cells i t k)
read_reply ns cells s i t k reply = replies reply (read_cell s (thread_number t) k).reply

rightly : (ns : List Noted) (cells : List (Option ℕ)) (s : Managed) (i : ℕ) (t : Thread) (o : Op) (reply : Reply)
    → Tells (reads_rightly ns cells s i t o reply) ((k : ℕ) → ReadsCell o k → IsReadReply ns cells s i t k reply)
rightly ns cells s i t (op.Line (act.Read c)) reply = like (λ p k e. subst (λ x. IsReadReply ns cells s i t x reply) e p) (λ f. f c.0 refl) (read_reply ns cells s i t c.0 reply)
rightly ns cells s i t (op.Line (act.Await c)) reply = like (λ p k e. subst (λ x. IsReadReply ns cells s i t x reply) e p) (λ f. f c.0 refl) (read_reply ns cells s i t c.0 reply)
rightly ns cells s i t _ reply = always (λ k e. absurd e)

bare : (told : Told) → Tells (is_bare told) (told ≡ nothing)
bare nothing = always refl
bare _ = never (λ e. cc)

-- entries
reader_comes : (s : Linkage) (n : Noted) → Tells (reader_may_come s n) (ReaderMayCome s n)
reader_comes s n = like (λ p. record { event = p.0; line = p.1; short = p.2; order = p.3; bare = p.4 }) (λ r. (r.event, r.line, r.short, r.order, r.bare))
    (and5 (tells_event n.entry.made.caller n.entry.made.op) (upto (last_line s.control n.entry.made.caller) n.entry.made.index) (less n.entry.made.index (2 ^ 32))
    (caller s.control s.managed.managed s.peer.peers.issued n.entry.made.caller n.entry.made.index n.entry.made.op n.entry.made.reply n.entry.made.cites n.told) (bare n.told))

entry_comes : (b : Bool) (ns : List Noted) (cells : List (Option ℕ)) (s : Linkage) (n : Noted) → Tells (entry_may_come b ns cells s n) (EntryMayCome b ns cells s n)
entry_comes true ns cells s n = and2 (reader_comes s n) (rightly ns cells s.managed.managed n.entry.number n.entry.made.caller n.entry.made.op n.entry.made.reply)
entry_comes false ns cells s n = comes s n

pub all_reading : (ns : List Noted) (cells : List (Option ℕ)) (s : Linkage) (rest : List Noted) → Tells (all_may_come_reading ns cells s rest) (AllMayComeReading ns cells s rest)
all_reading ns cells s [] = always tt
all_reading ns cells s (n ∷ rest) = and2 (entry_comes (is_read n.entry.made.op) ns cells s n) (all_reading ns cells (entry_after s n) rest)

-- a linked history
pub linked : (noted : List Noted) → Tells (is_linked noted) (IsLinkedBy (finished_of noted) noted)
linked noted = like
    (λ p. record {
      same = refl;
      numbers = p.0;
      lawful = p.1;
      whole = p.2;
      freed_managed = mapped_m (managed_end noted).heap.freed;
      freed_peers = mapped_p (linked_end noted).peer.peers.heap.freed;
      notices = ap (take (managed_end noted).taken) (mapped_m (managed_end noted).notices);
    })
    (λ r. (r.numbers, r.lawful, r.whole))
    (and3 (numbered 0 (map (λ n. n.entry) noted)) (all_reading noted (managed_end noted).cells opening_linkage noted) (whole (linked_end noted)))

-- as the contracts state it
pub pending_tested : PendingIsTested
pending_tested ns i t k = tested (pending ns i t k)

pub unset_tested : UnsetIsTested
unset_tested ns cells i t k = tested (unset ns cells i t k)

pub reading_tested : ReadingIsTested
reading_tested ns cells s rest = tested (all_reading ns cells s rest)

pub linked_tested : LinkedIsTested
linked_tested noted = tested (linked noted)

pub linked_has_queued : LinkedHasQueued
linked_has_queued noted = mapped_m (managed_end noted).notices
