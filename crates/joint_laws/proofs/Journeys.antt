-- What is carried along while a cycle is open: where its snapshot stands in the run, what was seen since, what its own
-- marking has seen, and after the own sweep what that freed.
use Rattle.std.proofs.Common.{◌≡◌, ℕ, ◌+◌, ◌-◌, Bool, true, false, ◌||◌, List, [], ◌∷◌, ◌++◌, length, Option, Some, None, refl, sym, ap, subst, ◌∙◌}
use Rattle.std.specs.Prelude.{if◌then◌else◌, min, nat_lt}
use Rattle.joint_machine.specs.declared.names.Thread.{Thread}
use Rattle.joint_machine.specs.declared.names.Thread.TheVariants.{C}
use Rattle.joint_machine.specs.declared.names.Cycle.{Cycle}
use Rattle.joint_machine.specs.declared.lines.Act.{Act}
use Rattle.joint_machine.specs.declared.lines.Act.TheVariants as act
use Rattle.joint_machine.specs.declared.events.Op.{Op}
use Rattle.joint_machine.specs.declared.events.Op.TheVariants as op
use Rattle.joint_machine.specs.declared.events.Reply.{Reply}
use Rattle.joint_machine.specs.declared.events.Reply.TheVariants as says
use Rattle.joint_machine.specs.declared.events.Made.{Made}
use Rattle.joint_machine.specs.Control.{OpenSnap}
use Rattle.joint_machine.specs.Headline.{SnapsAt}
use Rattle.joint_machine.specs.Heaps.{Answered, answer, slot}
use Rattle.joint_machine.specs.Joint.{Joint}
use Rattle.joint_machine.specs.Lines.{is_peer_event}
use Rattle.joint_machine.specs.Linked.{Linkage, MayCome, linkage_after, peer_after}
use Rattle.joint_machine.specs.Managed.{Managed, OpenCycle}
use Rattle.joint_machine.specs.PeerReplay.{PeerReplay, TableRow, Marking, row_of, bring_by, untabled, peer_thread_line, is_thread, sliced, begun, swept_of, swept, restored_by, peer_answer}
use Rattle.joint_machine.specs.Run.{Moment, thread_number}
use Rattle.joint_machine.specs.Told.{Told, Noted, slice_of, sweep_of}
use Rattle.joint_machine.proofs.Deciding.{none_some}
use Rattle.joint_laws.proofs.ManagedEntries.{ManagedStep-entry}
use Rattle.joint_laws.proofs.ManagedMoves.{GoesOn}
use Rattle.joint_laws.proofs.ManagedSteps.{ManagedStep, going_on, snapping, resolving, abandoning}
use Rattle.joint_laws.proofs.JointRuns.{Stands, state_of}
use Rattle.joint_laws.proofs.Watching.{IsWatched, at-more, watched-next}
use Rattle.joint_laws.proofs.MarkSteps.{IsSweptWatch}
use Rattle.joint_laws.proofs.Restores.{restored-any}

-- only a mirror and a clear change the references
module _ (s : PeerReplay) where
  sliced-refs : (x : Option Marking) (t : Thread) (n : ℕ) (closure : List ℕ) → (sliced s x t n closure).state.refs ≡ s.refs
  sliced-refs None t n closure = refl
  sliced-refs (Some mk) t n closure = by (is_thread t mk.by)
    where
      by : (b : Bool) → (if b
          then (let black = mk.blackened + min n (length closure - mk.blackened) in
          answer (if nat_lt black (length closure) then says.More else says.Done) (record s { marking = Some (record mk { blackened = black }) }))
          else answer (says.MarkOpen record { 0 = mk.number }) s).state.refs ≡ s.refs
      by true = refl
      by false = refl

  begun-refs : (x : Option Marking) (t : Thread) → (begun s x t).state.refs ≡ s.refs
  begun-refs None t = refl
  begun-refs (Some mk) t = refl

  swept-refs : (x : Option Marking) (t : Thread) (freed : List ℕ) → (swept s x t freed).state.refs ≡ s.refs
  swept-refs None t freed = refl
  swept-refs (Some mk) t freed = by (is_thread t C || is_thread t mk.by)
    where
      by : (b : Bool) → (if b then swept_of s mk freed else answer (says.MarkOpen record { 0 = mk.number }) s).state.refs ≡ s.refs
      by true = refl
      by false = refl

  restored-refs : (h : ℕ) (x : Option TableRow) → (restored_by s h x).state.refs ≡ s.refs
  restored-refs h x = restored-any (λ a. a.state.refs ≡ s.refs) s h x refl refl (λ p. refl)

  bring-refs : (a : Answered PeerReplay) (r : Reply) → (bring_by a r).state.refs ≡ a.state.refs
  bring-refs a (says.P p) = refl
  bring-refs a _ = refl

  untabled-refs : (o : Option ℕ) → (untabled s o).refs ≡ s.refs
  untabled-refs None = refl
  untabled-refs (Some h) = refl

  line-refs : (u : ℕ) (a : Act) → (peer_thread_line s u a).state.refs ≡ s.refs
  line-refs u (act.UnGlobal g) = untabled-refs (slot s.peers.names g.0)
  line-refs u (act.WRead v g) = bring-refs _ _
  line-refs u _ = refl

  answer-refs : (t : Thread) (o : Op) (cites : Option ℕ) (told : Told) → ((k : Cycle) → o ≡ op.Mirror k → ⊥) → ((k : Cycle) → o ≡ op.Clear k → ⊥) → (peer_answer s t o cites told).state.refs ≡ s.refs
  answer-refs t (op.Line (act.Slice n)) cites (slice_of closure) m c = sliced-refs s.marking t n closure
  answer-refs t (op.Line (act.Slice n)) cites _ m c = sliced-refs s.marking t n []
  answer-refs t (op.Line a) cites told m c = line-refs (thread_number t) a
  answer-refs t (op.Land h x) cites told m c = bring-refs _ _
  answer-refs t (op.Mirror k) cites told m c = absurd (m k refl)
  answer-refs t op.Begin cites told m c = begun-refs s.marking t
  answer-refs t op.Sweep cites (sweep_of freed) m c = swept-refs s.marking t freed
  answer-refs t op.Sweep cites _ m c = swept-refs s.marking t []
  answer-refs t (op.Restore h) cites told m c = restored-refs h.0 (row_of s h.0)
  answer-refs t (op.Clear k) cites told m c = absurd (c k refl)
  answer-refs t _ cites told m c = refl

refs-by : (s : Linkage) (m : Made) (told : Told) (b : Bool) → ((k : Cycle) → m.op ≡ op.Mirror k → ⊥) → ((k : Cycle) → m.op ≡ op.Clear k → ⊥) → (peer_after s.peer m told b).refs ≡ s.peer.refs
refs-by s m told true p c = answer-refs s.peer m.caller m.op m.cites told p c
refs-by s m told false p c = refl

pub refs-entry : (s : Linkage) (n : Noted) → ((k : Cycle) → n.entry.made.op ≡ op.Mirror k → ⊥) → ((k : Cycle) → n.entry.made.op ≡ op.Clear k → ⊥) → (linkage_after s n).peer.refs ≡ s.peer.refs
refs-entry s n p c = refs-by s n.entry.made n.told (is_peer_event n.entry.made.caller n.entry.made.op) p c

-- while a cycle stays open the managed objects go on
pub goes-open : (s : Linkage) (n : Noted) (may : MayCome s n) (w : Stands s) (c e : OpenCycle) → s.managed.managed.cycle ≡ Some c
    → (linkage_after s n).managed.managed.cycle ≡ Some e → GoesOn s.managed.managed (linkage_after s n).managed.managed
goes-open s n may w c e o q = by (ManagedStep-entry s n may w.kept.managed)
  where
    by : ManagedStep s.managed.managed (linkage_after s n).managed.managed → GoesOn s.managed.managed (linkage_after s n).managed.managed
    by (going_on g) = g
    by (snapping p) = absurd (none_some c (sym p.snapshot.closed ∙ o))
    by (resolving p) = absurd (none_some e (sym (ap (λ (z : Managed). z.cycle) p.is) ∙ q))
    by (abandoning p) = absurd (none_some e (sym (ap (λ (z : Managed). z.cycle) p.is) ∙ q))

-- a cycle that is open before its own sweep
pub record IsOnTheWay (past : List Moment) (s : Linkage) (w : Stands s) (o : OpenSnap) : Type 0 where
  pub snap : ℕ
  pub freed : List ℕ
  pub cycle : OpenCycle
  pub open_now : s.managed.managed.cycle ≡ Some cycle
  pub snaps : SnapsAt past snap o.cycle freed cycle.candidates
  pub watched : IsWatched past snap cycle.candidates (state_of s w)

-- and one after it
pub record IsBehindSweep (past : List Moment) (s : Linkage) (o : OpenSnap) : Type 0 where
  pub snap : ℕ
  pub freed : List ℕ
  pub cycle : OpenCycle
  pub open_now : s.managed.managed.cycle ≡ Some cycle
  pub snaps : SnapsAt past snap o.cycle freed cycle.candidates
  pub swept : IsSweptWatch past snap cycle s

unfoldable pub way-next : (s : Linkage) (n : Noted) (may : MayCome s n) (w : Stands s) (v : Stands (linkage_after s n)) (past : List Moment) (o : OpenSnap) (m : Moment)
    → m.after ≡ state_of (linkage_after s n) v → (e : OpenCycle) → (linkage_after s n).managed.managed.cycle ≡ Some e
    → IsOnTheWay past s w o → IsOnTheWay (past ++ m ∷ []) (linkage_after s n) v o
way-next s n may w v past o m after e q k =
    let g = goes-open s n may w k.cycle e k.open_now q in
    record {
      snap = k.snap;
      freed = k.freed;
      cycle = k.cycle;
      open_now = g.cycle ∙ k.open_now;
      snaps = at-more past (m ∷ []) k.snap k.snaps;
      watched = watched-next s n may w v g past k.snap k.cycle.candidates k.watched m after;
    }

unfoldable pub way-rests : (s t : Linkage) (w : Stands s) (v : Stands t) (past : List Moment) (o : OpenSnap) → state_of t v ≡ state_of s w → IsOnTheWay past s w o → IsOnTheWay past t v o
way-rests s t w v past o same k = record {
  snap = k.snap;
  freed = k.freed;
  cycle = k.cycle;
  open_now = ap (λ (z : Joint). z.graph.managed.cycle) same ∙ k.open_now;
  snaps = k.snaps;
  watched = subst (λ z. IsWatched past k.snap k.cycle.candidates z) (sym same) k.watched;
}
