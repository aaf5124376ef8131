-- The events of a mirrored cycle, as the replay has them: references come to stand and go, and handles are weakened and
-- restored. The rows did each; the state is the one after it, and an open marking goes on.
use Rattle.std.proofs.Common.{◌≡◌, ℕ, Bool, true, List, [], ◌∷◌, ◌++◌, length, Option, Some, None, if◌then◌else◌, refl, sym, ap, subst, ◌∙◌}
use Rattle.joint_machine.specs.declared.names.Cycle.{Cycle}
use Rattle.joint_machine.specs.declared.names.HNum.{HNum}
use Rattle.joint_machine.specs.declared.names.Thread.TheVariants.{C}
use Rattle.joint_machine.specs.declared.events.Op.TheVariants as op
use Rattle.joint_machine.specs.declared.events.Reply.TheVariants as says
use Rattle.joint_machine.specs.Components.{End}
use Rattle.joint_machine.specs.Heaps.{Heap, Answered, IsLive, answer, numbered_set}
use Rattle.joint_machine.specs.Peers.{held, peer_of, strong}
use Rattle.joint_machine.specs.PeerReplay.{PeerReplay, Marking, Mirror, brought_to, mirrored, peer_answer, renewed_on, restored_by, withdrawn}
use Rattle.joint_machine.specs.Told.{nothing, references_of}
use Rattle.joint_laws.specs.PeerInvariants.{PeerInvariant}
use Rattle.marking_laws.specs.Slices.{AreMarksGoing}
use Rattle.marking_laws.proofs.SliceEvents.{going-brought, going-same, going-stood}
use Rattle.peer_heap.specs.Marks.{IsGoing, IsShaded}
use Rattle.peer_heap.specs.Mirroring.{IsRemoved, IsRenewed, strong_row, weak_row, with_cleared, with_row, with_stood}
use Rattle.peer_heap.specs.MirrorLaws.{renewed_more, state_of}
use Rattle.peer_heap.specs.Rows.{Rows}
use Rattle.peer_heap.proofs.Going.{going-side, open-shades}

-- references come to stand where none stood
pub stood-refs : (v w : Rows) (refs : List (End × End)) → v.rows.refs ≡ [] → w ≡ with_stood v refs → w.rows.refs ≡ refs
stood-refs v w refs none put = ap (λ (z : Rows). z.rows.refs) put ∙ ap (λ l. l ++ refs) none

pub stood-answer : (v w : Rows) (ms : List ℕ) (mk : Option Marking) (n : ℕ) (k : Cycle) (snap : ℕ) (refs : List (End × End)) → v.rows.refs ≡ [] → w ≡ with_stood v refs
    → peer_answer (state_of v None ms mk n) C (op.Mirror k) (Some snap) (references_of refs) ≡ answer (says.Refs (length refs))
    (state_of w (Some record { cycle = k.0; snap = snap; weakened = []; restored = []; renewed = [] }) (ms ++ k.0 ∷ []) mk n)
stood-answer v w ms mk n k snap refs none put =
    let mirror : Mirror = record { cycle = k.0; snap = snap; weakened = []; restored = []; renewed = [] } in
    let here : state_of (with_stood v refs) (Some mirror) (ms ++ k.0 ∷ []) mk n ≡ record (state_of v (Some mirror) (ms ++ k.0 ∷ []) mk n) { refs = refs } = ap
    (λ l. record (state_of v (Some mirror) (ms ++ k.0 ∷ []) mk n) { refs = l ++ refs }) none in
    ap (λ (s : PeerReplay). answer (says.Refs (length refs)) s) (sym here ∙ ap (λ z. state_of z (Some mirror) (ms ++ k.0 ∷ []) mk n) (sym put))

-- a handle is weak
pub weakened-answer : (v w : Rows) (m : Mirror) (ms : List ℕ) (mk : Option Marking) (n : ℕ) (h : HNum) (cites : Option ℕ) → w ≡ with_row v h.0 weak_row
    → peer_answer (state_of v (Some m) ms mk n) C (op.Weaken h) cites nothing ≡ answer says.Ok (state_of w (Some (record m { weakened = m.weakened ++ h.0 ∷ [] })) ms mk n)
weakened-answer v w m ms mk n h cites put = ap (λ z. answer says.Ok (state_of z (Some (record m { weakened = m.weakened ++ h.0 ∷ [] })) ms mk n)) (sym put)

-- a cleared handle is gone
pub removed-answer : (v w : Rows) (m : Mirror) (ms : List ℕ) (mk : Option Marking) (n : ℕ) (h : HNum) (cites : Option ℕ) → IsRemoved v h.0 w
    → peer_answer (state_of v (Some m) ms mk n) C (op.Restore h) cites nothing ≡ answer says.Cleared (state_of w (Some (record m { restored = m.restored ++ h.0 ∷ [] })) ms mk n)
removed-answer v w m ms mk n h cites r =
    let s = state_of v (Some m) ms mk n in
    ap (λ o. restored_by s h.0 o) r.tabled
    ∙ (ap (λ (b : Bool). if b then answer says.Cleared (withdrawn s h.0) else renewed_on s h.0 (peer_of v.issued h.0)) r.cleared
    ∙ ap (λ z. answer says.Cleared (state_of z (Some (record m { restored = m.restored ++ h.0 ∷ [] })) ms mk n)) (sym r.rest))

-- another one leaves the table too, and one on its peer comes in its place, which is brought back
pub renewed-answer : (v w : Rows) (m : Mirror) (ms : List ℕ) (mk : Option Marking) (n : ℕ) (h g : HNum) (cites : Option ℕ) (r : IsRenewed v h.0 g w)
    → peer_answer (state_of v (Some m) ms mk n) C (op.Restore h) cites nothing ≡ answer (says.Renewed g) (state_of w (Some (renewed_more m h.0 g.0)) ms (brought_to mk r.peer) n)
renewed-answer v w m ms mk n h g cites r =
    let s = state_of v (Some m) ms mk n in
    let after : Rows = record v {
      rows = record v.rows { marks = w.rows.marks; links = w.rows.links };
      issued = v.issued ++ record { peer = r.peer; hold = held; strength = strong } ∷ [];
      table = numbered_set v.table h.0 None ++ Some strong_row ∷ [];
    } in
    let given : ℕ → Answered PeerReplay = λ k. (let name : HNum = record { 0 = k } in answer (says.Renewed name) (state_of after (Some (renewed_more m h.0 k)) ms (brought_to mk r.peer) n)) in
    ap (λ o. restored_by s h.0 o) r.tabled
    ∙ (ap (λ (z : Bool). if z then answer says.Cleared (withdrawn s h.0) else renewed_on s h.0 (peer_of v.issued h.0)) r.kept
    ∙ (ap (renewed_on s h.0) r.issued
    ∙ (ap given (sym r.number)
    ∙ ap (λ z. answer (says.Renewed g) (state_of z (Some (renewed_more m h.0 g.0)) ms (brought_to mk r.peer) n)) (sym r.rest))))

-- where references come to stand, none is followed
pub stood-going : (v w : Rows) (m : Option Mirror) (ms : List ℕ) (mk : Marking) (o : Option Marking) (n head k snap : ℕ) (refs : List (End × End)) → v.rows.refs ≡ []
    → w ≡ with_stood v refs → IsGoing (state_of v m ms o n) mk v.rows head → IsGoing (mirrored (state_of v m ms o n) k (Some snap) refs) mk w.rows head
stood-going v w m ms mk o n head k snap refs none put g =
    let s = state_of v m ms o n in
    subst (λ (z : Rows). IsGoing (mirrored s k (Some snap) refs) mk z.rows head) (sym put)
    record { greys = g.greys; chained = g.chained; right = going-stood s mk v.rows.follows v.rows.marks g.greys k snap refs none g.right }

-- and a peer that gets another handle is shaded
pub renewed-going : (v w : Rows) (m later : Option Mirror) (ms : List ℕ) (mk : Marking) (n before after h : ℕ) (g : HNum) (r : IsRenewed v h g w)
    → IsShaded true (λ k. k ≡ r.peer) v.rows before w.rows after → IsLive v.rows.heap r.peer → PeerInvariant (state_of v m ms (Some mk) n) → IsGoing (state_of v m ms (Some mk) n) mk v.rows before
    → IsGoing (state_of w later ms (brought_to (Some mk) r.peer) n) (record mk { brought = mk.brought ++ r.peer ∷ [] }) w.rows after
renewed-going v w m later ms mk n before after h g r sh live kept was =
    let s = state_of v m ms (Some mk) n in
    let more : Marking = record mk { brought = mk.brought ++ r.peer ∷ [] } in
    let heap = ap (λ (z : Rows). z.rows.heap) r.rest in
    let y = open-shades true (λ k. k ≡ r.peer) v.rows.marks v.rows.links before w.rows.marks w.rows.links after refl sh.shaded was.greys was.chained in
    let right = going-brought s mk v.rows.follows v.rows.marks w.rows.marks was.greys y.waits r.peer (going-side s mk v.rows before kept refl was) live y.shades in
    let moved = going-same (record s { marking = Some more }) (state_of w later ms (Some more) n) more v.rows.follows w.rows.marks y.waits
    (ap (λ (z : Heap). z.fields) heap) (ap (λ (z : Heap). z.freed) heap) (ap (λ (z : Rows). z.rows.refs) r.rest) right in
    record { greys = y.waits; chained = y.chained; right = subst (λ f. AreMarksGoing (state_of w later ms (Some more) n) more f w.rows.marks y.waits) (sym sh.follows) moved }

-- the references go
pub gone-answer : (v w : Rows) (m : Mirror) (ms : List ℕ) (mk : Option Marking) (n : ℕ) (k : Cycle) (cites : Option ℕ) → w ≡ with_cleared v w.rows
    → peer_answer (state_of v (Some m) ms mk n) C (op.Clear k) cites nothing ≡ answer says.Ok (state_of w None ms mk n)
gone-answer v w m ms mk n k cites put = ap (λ z. answer says.Ok (state_of z None ms mk n)) (sym put)
