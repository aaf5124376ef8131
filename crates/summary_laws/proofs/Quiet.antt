-- An event of one side makes, removes and frees nothing on the other.
use Rattle.std.proofs.Common.{◌≡◌, ℕ, Bool, true, false, ◌||◌, List, [], Option, Some, None, refl, sym, ap, ◌∙◌}
use Rattle.joint_machine.specs.declared.names.Thread.{Thread}
use Rattle.joint_machine.specs.declared.names.Thread.TheVariants.{M, P, C}
use Rattle.joint_machine.specs.declared.lines.Act.TheVariants as act
use Rattle.joint_machine.specs.declared.events.Op.{Op}
use Rattle.joint_machine.specs.declared.events.Op.TheVariants as op
use Rattle.joint_machine.specs.declared.events.Reply.{Reply}
use Rattle.joint_machine.specs.Heaps.{Answered}
use Rattle.joint_machine.specs.Lines.{IsEvent, is_peer_event}
use Rattle.joint_machine.specs.Linked.{Linkage, SideLawful}
use Rattle.joint_machine.specs.PeerReplay.{PeerReplay, Marking, is_thread, swept}
use Rattle.joint_machine.specs.Told.{Told, snap_of, resolution_of, sweep_of}
use Rattle.joint_machine.proofs.Deciding.{test-cases}
use Rattle.joint_laws.proofs.LinkedEntries.{entry}
use Rattle.joint_laws.proofs.SpansTold.{HasSpan, plain-entry}
use Rattle.run_summary.specs.Tallies.{opens_cycle, makes_managed, makes_peer, makes_handle, removes_handle, freed_managed, freed_peers}
use Rattle.summary_laws.proofs.ManagedCounts.{plain-none}
use Rattle.summary_laws.proofs.PeerCounts.{plain-none as plain-none_peers}

-- nothing of the peers
pub record LeavesPeers (o : Op) (r : Reply) : Type 0 where
  pub makes : makes_peer o r ≡ false
  pub gives : makes_handle o r ≡ false
  pub takes : removes_handle o r ≡ false

-- nothing of the managed side
pub record LeavesManaged (o : Op) (r : Reply) : Type 0 where
  pub makes : makes_managed o r ≡ false
  pub opens : opens_cycle o ≡ false

none-both : {A : Type 0} → true ≡ false → A
none-both e = absurd (let f : ⊥ = cc in f)

pub managed-leaves : (t : Thread) (o : Op) (r : Reply) → IsEvent t o → is_peer_event t o ≡ false → LeavesPeers o r
managed-leaves (M u) (op.Line (act.NewPeer v n)) r e b = absurd e.0.1
managed-leaves (M u) (op.Line (act.Global g v)) r e b = absurd e.0.1
managed-leaves (M u) (op.Line (act.WGlobal g v)) r e b = absurd e.0.1
managed-leaves (M u) (op.Line (act.UnGlobal g)) r e b = absurd e.0.1
managed-leaves C (op.Line (act.NewPeer v n)) r e b = absurd e.0
managed-leaves C (op.Line (act.Global g v)) r e b = absurd e.0
managed-leaves C (op.Line (act.WGlobal g v)) r e b = absurd e.0
managed-leaves C (op.Line (act.UnGlobal g)) r e b = absurd e.0
managed-leaves (P u) (op.Line a) r e b = none-both b
managed-leaves t (op.Make sort n) r e b = none-both b
managed-leaves t (op.Grip x) r e b = none-both b
managed-leaves t (op.Release h) r e b = none-both b
managed-leaves t (op.Restore h) r e b = none-both b
managed-leaves t o r e b = record { makes = refl; gives = refl; takes = refl }

pub peers-leave : (t : Thread) (o : Op) (r : Reply) → IsEvent t o → is_peer_event t o ≡ true → LeavesManaged o r
peers-leave (P u) (op.Line (act.New v kind n)) r e b = absurd e.0.1
peers-leave (M u) (op.Line a) r e b = none-both (sym b)
peers-leave C (op.Line a) r e b = none-both (sym b)
peers-leave t (op.Adopt v kind n p h) r e b = none-both (sym b)
peers-leave t (op.Meet v sort n p h) r e b = none-both (sym b)
peers-leave t (op.Snap k) r e b = none-both (sym b)
peers-leave t o r e b = record { makes = refl; opens = refl }

-- what is freed is told by a reply of its own side
pub record FreesOwn (b : Bool) (r : Reply) : Type 0 where
  pub peers : b ≡ false → freed_peers r ≡ 0
  pub managed : b ≡ true → freed_managed r ≡ 0

swept-none : (s : PeerReplay) (x : Option Marking) (t : Thread) (freed : List ℕ) → freed_managed (swept s x t freed).reply ≡ 0
swept-none s None t freed = refl
swept-none s (Some mk) t freed = test-cases (λ (a : Answered PeerReplay). freed_managed a.reply ≡ 0) (is_thread t C || is_thread t mk.by) _ _ refl refl

module _ (s : Linkage) (line : ℕ) (reply : Reply) (cites : Option ℕ) where
  plainly : (t : Thread) (o : Op) (told : Told) → (HasSpan o → ⊥) → SideLawful (is_peer_event t o) s (entry t line o reply cites) told → FreesOwn (is_peer_event t o) reply
  plainly t o told out w = (let p = plain-entry s line reply cites t o told out w in record { peers = λ e. plain-none_peers reply p.plain; managed = λ e. plain-none reply p.plain })

  pub frees-own : (t : Thread) (o : Op) (told : Told) → IsEvent t o → SideLawful (is_peer_event t o) s (entry t line o reply cites) told → FreesOwn (is_peer_event t o) reply
  frees-own C (op.Line (act.Finalise n)) told e w = record { peers = λ b. ap freed_peers w.replies; managed = λ b. none-both (sym b) }
  frees-own (M u) (op.Line (act.Finalise n)) told e w = absurd e.0.1
  frees-own (P u) (op.Line (act.Finalise n)) told e w = absurd e.0.1
  frees-own t (op.Snap k) (snap_of freed candidates dead) e w = record { peers = λ b. ap freed_peers w.replies; managed = λ b. none-both (sym b) }
  frees-own t (op.Snap k) told e w = absurd w.allowed
  frees-own t (op.Resolve k) (resolution_of alive freed) e w = record { peers = λ b. ap freed_peers w.replies; managed = λ b. none-both (sym b) }
  frees-own t (op.Resolve k) told e w = absurd w.allowed
  frees-own t op.Sweep (sweep_of freed) e w = record { peers = λ b. none-both b; managed = λ b. ap freed_managed w.replies ∙ swept-none s.peer s.peer.marking t freed }
  frees-own t op.Sweep told e w = record { peers = λ b. none-both b; managed = λ b. ap freed_managed w.replies ∙ swept-none s.peer s.peer.marking t [] }
  frees-own t o told e w = plainly t o told (λ z. z) w
