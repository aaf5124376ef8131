-- The driver's calls on the handles of its mirrored cycle: what each asks of the side under the peer lock holds by
-- where the driver stands, since the candidates' handles are those that its seat has seen; and what each leaves the
-- driver with.
use Rattle.std.proofs.Common.{◌≡◌, ℕ, ◌<◌, ◌^◌, Bool, false, List, length, Some, None, refl, sym, ap, ◌∙◌, subst}
use Rattle.joint_machine.specs.declared.names.Cycle.{Cycle}
use Rattle.joint_machine.specs.declared.names.HNum.{HNum}
use Rattle.joint_machine.specs.declared.names.Thread.TheVariants.{C}
use Rattle.joint_machine.specs.declared.events.Op.TheVariants as op
use Rattle.joint_machine.specs.declared.events.Reply.{Reply}
use Rattle.joint_machine.specs.declared.events.Reply.TheVariants as says
use Rattle.joint_machine.specs.Control.{OpenSnap, weakening, restoring, IsCandidateHandle, DriverAllows}
use Rattle.joint_machine.specs.Managed.{Managed, candidates_of}
use Rattle.joint_machine.specs.PeerReplay.{PeerReplay, MayClear, MayRestore, MayWeaken}
use Rattle.joint_machine.specs.Sides.{Side, peer_rules}
use Rattle.joint_machine.specs.Told.{Answer, nothing}
use Rattle.known_laws.proofs.Conditions.{all_may_be_cleared, next_may_be_restored, next_may_be_weakened}
use Rattle.global_handles.specs.declared.Back.{Back}
use Rattle.peer_heap.specs.Cycles.{reply_of}
use Rattle.peer_heap.specs.Mirrors.{AreTargetsRestored}
use Rattle.order_table.specs.declared.views.View.{View}
use Rattle.order_table.specs.Views.{OrderId, Shown, Owns}
use Rattle.joint_history.specs.Callers.{HoldsPass}
use Rattle.joint_history.specs.Driven.{DriverStands, driver_entry}
use Rattle.joint_history.specs.DriverHandles.{MakesClear, MakesRestore, MakesWeaken, MayClearCycle, MayRestoreHandle, MayWeakenHandle}
use Rattle.joint_history.specs.Locked.{Drew, PeerKnows}
use Rattle.seat_calls.specs.Passing.{Lends, Returns}
use Rattle.dead_parts.proofs.ClearTargets.{targets_here}
use Rattle.joint_history.proofs.DeadParts.{candidate_handle_on, count_same}
use Rattle.joint_history.proofs.DriverPeerSteps.{DrivenUnderPeers, IsUnderPeers, driven_peers}

-- `weaken`
pub may_weaken : (side : PeerReplay) (o : OpenSnap) (count snap h : ℕ) (weakened : Bool) (seen : Managed)
    → IsUnderPeers side (weakening o count weakened false) seen → IsCandidateHandle seen count h → o.snap ≡ snap → MayWeaken side h (Some snap)
may_weaken side o count snap h weakened seen u cand same = subst (λ (n : ℕ). MayWeaken side h (Some n)) same (subst (λ (s : PeerReplay). MayWeaken s h (Some o.snap)) u.peer
    (next_may_be_weakened u.state u.kept o count h weakened false u.stood (candidate_handle_on seen u.state.managed.managed u.dead u.kept.kept.managed.managed count h cand)))

weaken_allowed : (side : PeerReplay) (o : OpenSnap) (count snap h : ℕ) (weakened : Bool) (seen : Managed) (u : IsUnderPeers side (weakening o count weakened false) seen)
    → IsCandidateHandle seen count h → o.snap ≡ snap
    → DriverAllows (weakening o count weakened false) u.state.managed.managed u.state.peer.peers.issued (op.Weaken record { 0 = h }) says.Ok (Some snap) nothing
weaken_allowed side o count snap h weakened seen u cand same = (ap Some (sym same), refl, candidate_handle_on seen u.state.managed.managed u.dead u.kept.kept.managed.managed count h cand)

-- `restore`
candidate_here : (side : PeerReplay) (o : OpenSnap) (answers : List Answer) (h : ℕ) (seen : Managed) (u : IsUnderPeers side (restoring o answers) seen)
    → IsCandidateHandle seen (length answers) h → IsCandidateHandle u.state.managed.managed (length answers) h
candidate_here side o answers h seen u cand = candidate_handle_on seen u.state.managed.managed u.dead u.kept.kept.managed.managed (length answers) h cand

pub may_restore : (side : PeerReplay) (o : OpenSnap) (answers : List Answer) (h : ℕ) (seen : Managed)
    → IsUnderPeers side (restoring o answers) seen → IsCandidateHandle seen (length answers) h → MayRestore side h
may_restore side o answers h seen u cand = subst (λ (s : PeerReplay). MayRestore s h) u.peer (next_may_be_restored u.state u.kept o answers h u.stood (candidate_here side o answers h seen u cand))

restore_allowed : (side : PeerReplay) (o : OpenSnap) (answers : List Answer) (h : ℕ) (reply : Reply) (seen : Managed) (u : IsUnderPeers side (restoring o answers) seen)
    → IsCandidateHandle seen (length answers) h
    → DriverAllows (restoring o answers) u.state.managed.managed u.state.peer.peers.issued (op.Restore record { 0 = h }) reply None nothing
restore_allowed side o answers h reply seen u cand = (refl, candidate_here side o answers h seen u cand)

-- `clear`
pub may_clear : (side : PeerReplay) (o : OpenSnap) (answers : List Answer) (k : ℕ) (seen : Managed)
    → IsUnderPeers side (restoring o answers) seen → length answers ≡ length (candidates_of seen) → o.cycle ≡ k → MayClear side k
may_clear side o answers k seen u all same = subst (MayClear side) same (subst (λ (s : PeerReplay). MayClear s o.cycle) u.peer
    (all_may_be_cleared u.state u.kept o answers u.stood (all ∙ count_same seen u.state.managed.managed u.dead)))

clear_allowed : (side : PeerReplay) (o : OpenSnap) (answers : List Answer) (k : ℕ) (seen : Managed) (u : IsUnderPeers side (restoring o answers) seen)
    → length answers ≡ length (candidates_of seen) → o.cycle ≡ k
    → DriverAllows (restoring o answers) u.state.managed.managed u.state.peer.peers.issued (op.Clear record { 0 = k }) says.Ok None nothing
clear_allowed side o answers k seen u all same = (refl, all ∙ count_same seen u.state.managed.managed u.dead, same)

pub targets_restored : (side : PeerReplay) (o : OpenSnap) (answers : List Answer) (seen : Managed)
    → IsUnderPeers side (restoring o answers) seen → length answers ≡ length (candidates_of seen) → AreTargetsRestored side
targets_restored side o answers seen u all = subst AreTargetsRestored u.peer (targets_here u.state u.kept o answers u.stood (all ∙ count_same seen u.state.managed.managed u.dead))

-- after a draw under the lock
module _ (locked mine mine1 locked2 mine2 : View) (order : OrderId) (seat seat' : Shown) (old new : Side PeerReplay) (index : ℕ) (pass : HoldsPass C mine)
    (owns : Owns locked 1) (short : index < 2 ^ 32) (ks : PeerKnows locked old) (l : Lends C locked mine seat.view mine1) (b : Returns C seat'.view mine1 locked2 mine2) where
  -- the weakening
  with_weaken : (n snap : ℕ) (h : HNum) → Drew peer_rules 1 order seat seat' old new (driver_entry n index (op.Weaken h) says.Ok (Some snap)) nothing
      → (o : OpenSnap) (count : ℕ) (weakened : Bool) (m : Managed) → DriverStands mine index (weakening o count weakened false) m
      → IsCandidateHandle m count h.0 → o.snap ≡ snap → DrivenUnderPeers mine locked2 mine2 old new index
      (weakening o count weakened false) m (driver_entry n index (op.Weaken h) says.Ok (Some snap)) nothing
  with_weaken n snap h d o count weakened m s cand same =
      driven_peers locked mine mine1 locked2 mine2 order seat seat' old new index (weakening o count weakened false) m
      (driver_entry n index (op.Weaken h) says.Ok (Some snap)) nothing pass owns refl refl short ks s
      (λ u. weaken_allowed old.state o count snap h.0 weakened m u cand same) l d b

  pub weaken_made : (n snap : ℕ) (h : HNum) → Drew peer_rules 1 order seat seat' old new (driver_entry n index (op.Weaken h) says.Ok (Some snap)) nothing → MakesWeaken mine mine2 index snap h n
  weaken_made n snap h d o count weakened m s cand same = let w = (with_weaken n snap h d o count weakened m s cand same).driven in (w.makes, w.stands)

  pub weaken_knows : (n snap : ℕ) (h : HNum) → Drew peer_rules 1 order seat seat' old new (driver_entry n index (op.Weaken h) says.Ok (Some snap)) nothing
      → MayWeakenHandle mine index snap h.0 → PeerKnows locked2 new
  weaken_knows n snap h d w = (with_weaken n snap h d w.opened w.count w.weakened w.seen w.stands w.next w.same).knows

  -- the restore
  with_restore : (n : ℕ) (h : HNum) (back : Back) → Drew peer_rules 1 order seat seat' old new (driver_entry n index (op.Restore h) (reply_of back) None) nothing
      → (o : OpenSnap) (answers : List Answer) (m : Managed) → DriverStands mine index (restoring o answers) m
      → IsCandidateHandle m (length answers) h.0 → DrivenUnderPeers mine locked2 mine2 old new index (restoring o answers) m (driver_entry n index (op.Restore h) (reply_of back) None) nothing
  with_restore n h back d o answers m s cand =
      driven_peers locked mine mine1 locked2 mine2 order seat seat' old new index (restoring o answers) m
      (driver_entry n index (op.Restore h) (reply_of back) None) nothing pass owns refl refl short ks s
      (λ u. restore_allowed old.state o answers h.0 (reply_of back) m u cand) l d b

  pub restore_made : (n : ℕ) (h : HNum) (back : Back) → Drew peer_rules 1 order seat seat' old new (driver_entry n index (op.Restore h) (reply_of back) None) nothing
      → MakesRestore mine mine2 index h back n
  restore_made n h back d o answers m s cand = let w = (with_restore n h back d o answers m s cand).driven in (w.makes, w.stands)

  pub restore_knows : (n : ℕ) (h : HNum) (back : Back) → Drew peer_rules 1 order seat seat' old new (driver_entry n index (op.Restore h) (reply_of back) None) nothing
      → MayRestoreHandle mine index h.0 → PeerKnows locked2 new
  restore_knows n h back d w = (with_restore n h back d w.opened w.answers w.seen w.stands w.next).knows

  -- the clear
  with_clear : (n : ℕ) (k : Cycle) → Drew peer_rules 1 order seat seat' old new (driver_entry n index (op.Clear k) says.Ok None) nothing
      → (o : OpenSnap) (answers : List Answer) (m : Managed) → DriverStands mine index (restoring o answers) m
      → length answers ≡ length (candidates_of m) → o.cycle ≡ k.0 → DrivenUnderPeers mine locked2 mine2 old new index (restoring o answers) m (driver_entry n index (op.Clear k) says.Ok None) nothing
  with_clear n k d o answers m s all same =
      driven_peers locked mine mine1 locked2 mine2 order seat seat' old new index (restoring o answers) m (driver_entry n index (op.Clear k) says.Ok None) nothing pass owns refl refl short ks s
      (λ u. clear_allowed old.state o answers k.0 m u all same) l d b

  pub clear_made : (n : ℕ) (k : Cycle) → Drew peer_rules 1 order seat seat' old new (driver_entry n index (op.Clear k) says.Ok None) nothing → MakesClear mine mine2 index k n
  clear_made n k d o answers m s all same = let w = (with_clear n k d o answers m s all same).driven in (w.makes, w.stands)

  pub clear_knows : (n : ℕ) (k : Cycle) → Drew peer_rules 1 order seat seat' old new (driver_entry n index (op.Clear k) says.Ok None) nothing → MayClearCycle mine index k.0 → PeerKnows locked2 new
  clear_knows n k d w = (with_clear n k d w.opened w.answers w.seen w.stands w.all w.same).knows
