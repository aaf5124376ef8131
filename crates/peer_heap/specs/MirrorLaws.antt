-- The laws of a mirrored cycle: what the rows do is what the replay does, an open marking goes on, and each restore is
-- owed. (This project's own.)
use Rattle.std.specs.Prelude.{◌≡◌, ℕ, ◌+◌, ◌-◌, ◌≤◌, Bool, true, List, [], ◌∷◌, ◌++◌, length, Contains, Option, Some}
use Rattle.std.specs.Prelude.{None}
use Rattle.joint_machine.specs.declared.names.Cycle.{Cycle}
use Rattle.joint_machine.specs.declared.names.HNum.{HNum}
use Rattle.joint_machine.specs.declared.names.Thread.{Thread}
use Rattle.joint_machine.specs.declared.names.Thread.TheVariants.{C}
use Rattle.joint_machine.specs.declared.events.Op.{Op}
use Rattle.joint_machine.specs.declared.events.Op.TheVariants as op
use Rattle.joint_machine.specs.declared.events.Reply.{Reply}
use Rattle.joint_machine.specs.declared.events.Reply.TheVariants as says
use Rattle.joint_machine.specs.Components.{End}
use Rattle.joint_machine.specs.Heaps.{IsLive, answer}
use Rattle.joint_machine.specs.Peers.{Issued}
use Rattle.joint_machine.specs.PeerReplay.{PeerReplay, Marking, Mirror, brought_to, mirrored, peer_answer}
use Rattle.joint_machine.specs.Told.{nothing, references_of}
use Rattle.joint_laws.specs.PeerInvariants.{PeerInvariant}
use Rattle.row_heap.specs.Rows.{HeapRows}
use Rattle.peer_heap.specs.Marks.{IsGoing, IsShaded, MarksAfter}
use Rattle.peer_heap.specs.Mirroring.{IsRemoved, IsRenewed, weak_row, with_cleared, with_row, with_stood}
use Rattle.peer_heap.specs.Mirrors.{IsDue, given_at, mirrored_at, weakened_at, restored_at}
use Rattle.peer_heap.specs.Rows.{Rows, peers_in}
use Rattle.peer_heap.specs.Steps.{IsPeerStep}

-- a state with these parts
abbrev pub state_of : Rows → Option Mirror → List ℕ → Option Marking → ℕ → PeerReplay
state_of v mirror mirrors marking markings =
    record {
      peers = peers_in v;
      table = v.table;
      refs = v.rows.refs;
      mirror = mirror;
      mirrors = mirrors;
      marking = marking;
      markings = markings;
    }

-- a cycle that just came to be mirrored; one with a further handle weakened; one with a further handle restored; and
-- one where that gave another
abbrev pub fresh_mirror : ℕ → ℕ → Mirror
fresh_mirror k snap = record { cycle = k; snap = snap; weakened = []; restored = []; renewed = [] }

abbrev pub weakened_more : Mirror → ℕ → Mirror
weakened_more m h = record m { weakened = m.weakened ++ h ∷ [] }

abbrev pub restored_more : Mirror → ℕ → Mirror
restored_more m h = record m { restored = m.restored ++ h ∷ [] }

abbrev pub renewed_more : Mirror → ℕ → ℕ → Mirror
renewed_more m h given = record m { restored = m.restored ++ h ∷ []; renewed = m.renewed ++ given ∷ [] }

-- what the rows do is what the replay does
pub record MirroredRowsGoOn : Type 0 where
  pub stands : (v w : Rows) (ms : List ℕ) (mk : Option Marking) (n : ℕ) (k : Cycle) (snap : ℕ) (refs : List (End × End))
      → v.rows.refs ≡ [] → w ≡ with_stood v refs
      → peer_answer (state_of v None ms mk n) C (op.Mirror k) (Some snap) (references_of refs) ≡ answer
      (says.Refs (length refs)) (state_of w (Some (fresh_mirror k.0 snap)) (ms ++ k.0 ∷ []) mk n)
  pub weakens : (v w : Rows) (m : Mirror) (ms : List ℕ) (mk : Option Marking) (n : ℕ) (h : HNum) (cites : Option ℕ)
      → w ≡ with_row v h.0 weak_row
      → peer_answer (state_of v (Some m) ms mk n) C (op.Weaken h) cites nothing ≡ answer says.Ok
      (state_of w (Some (weakened_more m h.0)) ms mk n)
  pub removes : (v w : Rows) (m : Mirror) (ms : List ℕ) (mk : Option Marking) (n : ℕ) (h : HNum) (cites : Option ℕ)
      → IsRemoved v h.0 w
      → peer_answer (state_of v (Some m) ms mk n) C (op.Restore h) cites nothing ≡ answer says.Cleared
      (state_of w (Some (restored_more m h.0)) ms mk n)
  pub restores : (v w : Rows) (m : Mirror) (ms : List ℕ) (mk : Option Marking)
      (n : ℕ) (h g : HNum) (cites : Option ℕ) (r : IsRenewed v h.0 g w)
      → peer_answer (state_of v (Some m) ms mk n) C (op.Restore h) cites nothing ≡ answer
      (says.Renewed g) (state_of w (Some (renewed_more m h.0 g.0)) ms (brought_to mk r.peer) n)
  pub clears : (v w : Rows) (m : Mirror) (ms : List ℕ) (mk : Option Marking) (n : ℕ) (k : Cycle) (cites : Option ℕ)
      → w ≡ with_cleared v w.rows
      → peer_answer (state_of v (Some m) ms mk n) C
      (op.Clear k) cites nothing ≡ answer says.Ok (state_of w None ms mk n)

-- a marking goes on: where references come to stand, none of which it follows; and where a restored peer is shaded
pub record MirrorsGoOn : Type 0 where
  pub standing : (v w : Rows) (m : Option Mirror) (ms : List ℕ) (mk : Marking) (o : Option Marking)
      (n head k snap : ℕ) (refs : List (End × End)) → v.rows.refs ≡ [] → w ≡ with_stood v refs
      → IsGoing (state_of v m ms o n) mk v.rows head
      → IsGoing (mirrored (state_of v m ms o n) k (Some snap) refs) mk w.rows head
  pub restoring : (v w : Rows) (m later : Option Mirror) (ms : List ℕ) (mk : Marking) (n before after h : ℕ)
      (g : HNum) (r : IsRenewed v h g w) → IsShaded true (λ k. k ≡ r.peer) v.rows before w.rows after
      → IsLive v.rows.heap r.peer → PeerInvariant (state_of v m ms (Some mk) n)
      → IsGoing (state_of v m ms (Some mk) n) mk v.rows before
      → IsGoing (state_of w later ms (brought_to (Some mk) r.peer) n)
      (record mk { brought = mk.brought ++ r.peer ∷ [] }) w.rows after

-- a mirrored cycle owes no restore at first, one more after a weaken, and one less after a restore, where one is owed
pub record RestoresAreOwed : Type 0 where
  pub first : (k snap : ℕ) → IsDue (fresh_mirror k snap) 0
  pub weakens : (m : Mirror) (due h : ℕ) → IsDue m due → IsDue (weakened_more m h) (due + 1)
  pub some : (m : Mirror) (due h : ℕ) → IsDue m due → Contains m.weakened h → (Contains m.restored h → ⊥) → 1 ≤ due
  pub restores : (m : Mirror) (due h : ℕ) → IsDue m due → Contains m.weakened h
      → (Contains m.restored h → ⊥) → IsDue (restored_more m h) (due - 1)

-- a list of issued handles has at most one after it
abbrev pub HasFurther : List Issued → List Issued → Type 0
HasFurther old new = (more : List Issued) × (new ≡ old ++ more) × (length more ≤ 1)

-- a step leaves a mirrored cycle as it is: handles stay as they were issued, the room for references stays, and its
-- entry mirrors no cycle, and weakens and restores no handle
pub record StepsLeaveMirrors : Type 0 where
  pub issued : (s : PeerReplay) (t : Thread) (o : Op) (cites : Option ℕ) → IsPeerStep t o
      → HasFurther s.peers.issued (peer_answer s t o cites nothing).state.peers.issued
  pub room : (b : Bool) (t : Thread) (old : HeapRows) (before : ℕ) (o : Op) (r : Reply) (new : HeapRows) (after : ℕ)
      → MarksAfter b t old before o r new after → (new.room ≡ old.room) × (new.temps ≡ old.temps)
  pub mirrors : (t : Thread) (o : Op) → IsPeerStep t o → mirrored_at o ≡ []
  pub weakens : (t : Thread) (o : Op) → IsPeerStep t o → weakened_at o ≡ []
  pub restores : (t : Thread) (o : Op) → IsPeerStep t o → restored_at o ≡ []
  pub gives : (t : Thread) (o : Op) (r : Reply) → IsPeerStep t o → given_at o r ≡ []
