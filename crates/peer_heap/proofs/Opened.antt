-- A begin and an end of a marking, as the replay has them. The begin keeps the peers and handles of its moment, and its
-- roots are grey. At the end none is grey, so the peers without a mark are those that the definition's sweep frees.
use Rattle.std.proofs.Common.{◌≡◌, ℕ, ◌+◌, true, List, [], length, drop, Option, Some, None, refl, sym, ap, subst, ◌∙◌}
use Rattle.joint_machine.specs.declared.names.Thread.{Thread}
use Rattle.joint_machine.specs.Heaps.{IsLive, with_freed}
use Rattle.joint_machine.specs.PeerReplay.{PeerReplay, Marking, IsSweep, begun, cleared_rows, strong_peers, swept_of}
use Rattle.row_heap.specs.Marks.{AreWhite}
use Rattle.row_heap.specs.Rows.{HeapRows}
use Rattle.marking_laws.specs.Slices.{AreMarksGoing}
use Rattle.marking_laws.proofs.SliceEvents.{going-begun, going-sweep}
use Rattle.peer_heap.specs.Marking.{AreRootsGrey, IsRoot, with_marking}
use Rattle.peer_heap.specs.Marks.{IsGoing}
use Rattle.peer_heap.specs.Rows.{Rows}

-- the marking of a begin at which the peers and handles were these
abbrev pub begun_with : ℕ → Thread → Rows → Marking
begun_with n by v = record { number = n; by = by; heap = v.rows.heap; refs = v.rows.refs; strong_peers = strong_peers v.issued v.table; brought = []; blackened = 0 }

-- the rows after the marks of a begin
abbrev pub with_begun : Rows → HeapRows → Rows
with_begun v w = record v { rows = record v.rows { follows = true; marks = w.marks; links = w.links } }

pub opened-state : (s : PeerReplay) (v w kept : Rows) (n : ℕ) (by : Thread) → kept ≡ v → w ≡ with_begun v w.rows
    → (begun (with_marking s v None n) None by).state ≡ with_marking s w (Some (begun_with (n + 1) by kept)) (n + 1)
opened-state s v w kept n by same rest =
    let here : (begun (with_marking s v None n) None by).state ≡ with_marking s (with_begun v w.rows) (Some (begun_with (n + 1) by v)) (n + 1) = refl in
    here ∙ (ap (λ z. with_marking s z (Some (begun_with (n + 1) by v)) (n + 1)) (sym rest) ∙ ap (λ z. with_marking s w (Some (begun_with (n + 1) by z)) (n + 1)) (sym same))

pub opened-going : (s : PeerReplay) (v w : Rows) (n head : ℕ) (by : Thread) (mk : Marking) → w ≡ with_begun v w.rows
    → AreRootsGrey (IsRoot v.rows.heap (strong_peers v.issued v.table)) w.rows.marks w.rows.links head → ((p : ℕ) → IsRoot v.rows.heap (strong_peers v.issued v.table) p → IsLive v.rows.heap p)
    → (begun (with_marking s v None n) None by).state.marking ≡ Some mk → IsGoing (begun (with_marking s v None n) None by).state mk w.rows head
opened-going s v w n head by mk rest roots live e =
    let t = with_marking s v None n in
    let follows : w.rows.follows ≡ true = ap (λ (z : Rows). z.rows.follows) rest in
    let right = going-begun t by mk w.rows.marks roots.greys e (λ p. ((λ u. (let r = (roots.marked p).0 u in (live p r, r))), (λ r. (roots.marked p).1 r.1))) roots.grey in
    record { greys = roots.greys; chained = roots.chained; right = subst (λ f. AreMarksGoing (begun t None by).state mk f w.rows.marks roots.greys) (sym follows) right }

-- the rows after a sweep
abbrev pub with_swept : Rows → HeapRows → Rows
with_swept v w = (let freed = drop (length v.rows.heap.freed) w.heap.freed in
    record v { rows = record v.rows { heap = with_freed v.rows.heap freed; links = w.links }; table = cleared_rows freed v.issued v.table })

pub closed-state : (s : PeerReplay) (v w : Rows) (o : Option Marking) (n : ℕ) (mk : Marking) → w ≡ with_swept v w.rows
    → (swept_of (with_marking s v o n) mk (drop (length v.rows.heap.freed) w.rows.heap.freed)).state ≡ with_marking s w None n
closed-state s v w o n mk rest =
    let here : (swept_of (with_marking s v o n) mk (drop (length v.rows.heap.freed) w.rows.heap.freed)).state ≡ with_marking s (with_swept v w.rows) None n = refl in
    here ∙ ap (λ z. with_marking s z None n) (sym rest)

pub closed-sweep : (s : PeerReplay) (v : Rows) (o : Option Marking) (n : ℕ) (mk : Marking) (freed : List ℕ)
    → AreMarksGoing (with_marking s v o n) mk v.rows.follows v.rows.marks [] → AreWhite v.rows freed → IsSweep (with_marking s v o n) mk freed
closed-sweep s v o n mk freed right white = going-sweep (with_marking s v o n) mk v.rows.follows v.rows.marks freed right white.rises white.exact
