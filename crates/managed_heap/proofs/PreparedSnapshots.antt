-- From what was prepared to the snapshot: the rows that go may be freed, what pins hold stays, what the cycle owes is
-- ready, and the state after it is the definition's.
use Rattle.std.proofs.Common.{◌≡◌, ℕ, ◌+◌, ◌≤◌, ◌↔◌, ◌⊎◌, inr, Bool, false, List, [], length, map, Option, Some, None, refl, sym, subst, ◌∙◌}
use Rattle.std.specs.Prelude.{Contains}
use Rattle.joint_machine.specs.declared.names.MNum.{MNum}
use Rattle.joint_machine.specs.declared.names.PNum.{PNum}
use Rattle.joint_machine.specs.Cycles.{IsSnapshot}
use Rattle.joint_machine.specs.Heaps.{Heap, IsLive, HasField, InSlot, with_freed}
use Rattle.joint_machine.specs.Histories.{managed_numbers}
use Rattle.joint_machine.specs.Managed.{Managed, OpenCycle, IsManagedRoot, ManagedEdge, with_snapshot}
use Rattle.joint_machine.specs.ManagedReplay.{ManagedReplay}
use Rattle.joint_machine.specs.PinsTold.{no_pins, with_pins}
use Rattle.joint_machine.specs.Walks.{Reached}
use Rattle.joint_machine.proofs.HeapLemmas.{IsLive-left}
use Rattle.joint_machine.proofs.WalkLemmas.{Reached-start}
use Rattle.bridge_graph.specs.Parts.{Part, NodeLeads}
use Rattle.finaliser_queue.specs.Queue.{Queue}
use Rattle.heap_rules.specs.Tidy.{CanFree}
use Rattle.reachability.specs.Marks.{HasMark}
use Rattle.row_heap.specs.Rows.{HeapRows}
use Rattle.managed_heap.specs.declared.rows.Header.{Header}
use Rattle.managed_heap.specs.Dues.{HasDue}
use Rattle.managed_heap.specs.Graphs.{HasDeadField, IsDeadGraph, node_of}
use Rattle.managed_heap.specs.Rows.{rows_of}
use Rattle.managed_heap.specs.Snapshots.{Prepares}
use Rattle.managed_heap.specs.Snapping.{TakesSnapshot}
use Rattle.managed_heap.proofs.DeadGraphs.{IsDeadGraph-made}
use Rattle.managed_heap.proofs.TakingSnapshots.{AreSlotMarks, IsSnapshot-found, CanFree-found, HasDue-found, marks-still, snapped-is}

-- what was marked first is what slots and pins reach
slot-marks : (s : Managed) (w : HeapRows) (freed candidates dead : List ℕ) → (p : Prepares s.heap s.pins s.held w freed candidates dead) → AreSlotMarks p.marked s
slot-marks s w freed candidates dead p = record { heap = p.same; plain = p.plain; marks = p.slots }

pub prepared-snapshot : (s : Managed) (w : HeapRows) (freed candidates dead : List ℕ) → s.cycle ≡ None
    → Prepares s.heap s.pins s.held w freed candidates dead → IsSnapshot s (s.cycles + 1) freed candidates dead
prepared-snapshot s w freed candidates dead closed p = IsSnapshot-found p.marked w s freed candidates dead closed (slot-marks s w freed candidates dead p) p.finds

pub prepared-free : (s : Managed) (w : HeapRows) (freed candidates dead : List ℕ) → w.heap ≡ s.heap → Prepares s.heap s.pins s.held w freed candidates dead → CanFree w.heap freed
prepared-free s w freed candidates dead e p = CanFree-found p.marked w s freed candidates dead (e ∙ sym p.same) (slot-marks s w freed candidates dead p) p.finds

-- a pin is a root, so what it holds isn't freed
pub pins-left : (s : Managed) (w : HeapRows) (freed candidates dead : List ℕ) → s.cycle ≡ None → ((x : ℕ) → Contains s.pins (Some x) → IsLive s.heap x)
    → Prepares s.heap s.pins s.held w freed candidates dead → (x : ℕ) → Contains s.pins (Some x) → IsLive (with_freed s.heap freed) x
pins-left s w freed candidates dead closed live p x c =
    let root : IsManagedRoot s x = inr c in
    IsLive-left s.heap freed x (live x c)
    (λ g. (((prepared-snapshot s w freed candidates dead closed p).frees x).0 g).1 (Reached-start (IsManagedRoot s) (ManagedEdge s) x root))

-- where there is no candidate, the marks are those of what slots and pins reach
pub prepared-still : (s : Managed) (w u : HeapRows) (freed candidates dead : List ℕ) → Prepares s.heap s.pins s.held w freed candidates dead → candidates ≡ []
    → ((x : ℕ) → HasMark u.marks x ↔ (HasMark w.marks x × (Contains freed x → ⊥))) → (x : ℕ) → HasMark u.marks x ↔ Reached (IsManagedRoot s) (HasField (with_freed s.heap freed)) x
prepared-still s w u freed candidates dead p none marks = marks-still p.marked w u s freed candidates dead (slot-marks s w freed candidates dead p) p.finds none marks

pub prepared-due : (s : Managed) (w u : HeapRows) (freed candidates dead : List ℕ) (spare n : ℕ) → Prepares s.heap s.pins s.held w freed candidates dead → u.heap ≡ with_freed s.heap freed
    → ((x : ℕ) → HasMark u.marks x ↔ Reached (λ z. InSlot (with_freed s.heap freed) z ⊎ Contains s.pins (Some z)) (HasField (with_freed s.heap freed)) x) → length candidates ≤ spare
    → HasDue u spare (record { number = n; candidates = candidates; dead = dead })
prepared-due s w u freed candidates dead spare n p eu marks l = HasDue-found p.marked w u s freed candidates dead spare n (slot-marks s w freed candidates dead p) p.finds eu marks l

-- the graph was made over the objects before, and its rows stay
pub prepared-graph : (s : Managed) (pins : List (Option ℕ)) (w : HeapRows) (freed candidates : List ℕ) (ds : List MNum) (g : Part)
    → s.cycle ≡ None → Prepares s.heap pins s.held w freed candidates (managed_numbers ds) → g.nodes ≡ map (node_of s.heap s.held) ds
    → ((a k : ℕ) → NodeLeads g.edges a k ↔ HasDeadField s.heap (managed_numbers ds) a k) → IsDeadGraph (with_snapshot s freed candidates (managed_numbers ds)) (managed_numbers ds) g
prepared-graph s pins w freed candidates ds g closed p nodes edges =
    let snapshot = prepared-snapshot (record s { pins = pins }) w freed candidates (managed_numbers ds) closed p in
    IsDeadGraph-made (with_snapshot s freed candidates (managed_numbers ds)) s.heap ds g refl
    (λ m c. (let l = (snapshot.leaves m).0 c in IsLive-left s.heap freed m l.0 l.2)) nodes edges

-- the snapshot, from the parts of a side
pub takes-prepared : (h k : Heap) (headers : List Header) (ps : List (PNum × MNum)) (cells pins : List (Option ℕ)) (q r : Queue)
    (cycle after : Option OpenCycle) (n : ℕ) (b : Bool) (w : HeapRows) (freed candidates : List ℕ) (ds : List MNum) (first count : ℕ) (g : Part)
    → cycle ≡ None → Prepares h pins (map (λ (i : Header). i.handle) headers) w freed candidates (managed_numbers ds) → k ≡ with_freed h freed → r.queued ≡ q.queued → r.taken ≡ q.taken
    → after ≡ Some record { number = n + 1; candidates = candidates; dead = managed_numbers ds } → first ≡ length h.freed → count ≡ length candidates
    → g.nodes ≡ map (node_of h (map (λ (i : Header). i.handle) headers)) ds → ((a k : ℕ) → NodeLeads g.edges a k ↔ HasDeadField h (managed_numbers ds) a k)
    → TakesSnapshot (rows_of h headers ps cells no_pins q cycle n b) (rows_of k headers ps cells no_pins r after (n + 1) false) pins freed (n + 1) first count g
takes-prepared h k headers ps cells pins q r cycle after n b w freed candidates ds first count g closed p ek queued taken opened before counted nodes edges =
    let s : ManagedReplay = rows_of h headers ps cells no_pins q cycle n b in
    let state = snapped-is h k headers ps cells no_pins q r cycle after n b freed candidates (managed_numbers ds) ek queued taken opened in
    record {
      candidates = candidates;
      dead = managed_numbers ds;
      snapshot = prepared-snapshot (with_pins s pins).managed w freed candidates (managed_numbers ds) closed p;
      state = state;
      before = before;
      counted = counted;
      pictured = subst (λ (z : ManagedReplay). IsDeadGraph z.managed (managed_numbers ds) g) (sym state) (prepared-graph s.managed pins w freed candidates ds g closed p nodes edges);
    }
