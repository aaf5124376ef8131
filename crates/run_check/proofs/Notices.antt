-- Behind a past in order no more notices were taken than were queued, and no more were queued than objects were freed:
-- each notice is one of a freed object.
use Rattle.std.proofs.Common.{◌≡◌, ℕ, ◌+◌, ◌≤◌, Bool, true, false, List, [], ◌∷◌, ◌++◌, length, Option, Some, None, refl, sym, ap, ◌∙◌, subst, arith, length-append, true≢false}
use Rattle.std.specs.Prelude.{filter}
use Rattle.std.proofs.lemmas.List.Sums.{count_by-le-length, length-filter}
use Rattle.joint_machine.specs.declared.names.Thread.{Thread}
use Rattle.joint_machine.specs.declared.lines.Act.{Act}
use Rattle.joint_machine.specs.declared.lines.Act.TheVariants as act
use Rattle.joint_machine.specs.declared.events.Op.{Op}
use Rattle.joint_machine.specs.declared.events.Op.TheVariants as op
use Rattle.joint_machine.specs.Histories.{Finished}
use Rattle.joint_machine.specs.Lines.{IsEvent, is_peer_event, is_read}
use Rattle.joint_machine.specs.Linked.{Linkage, MayCome, SideLawful, linkage_after, managed_after}
use Rattle.joint_machine.specs.Managed.{Managed, holds_handle, managed_line}
use Rattle.joint_machine.specs.ManagedReplay.{ManagedAllows, ManagedReplay, managed_answer}
use Rattle.joint_machine.specs.Run.{thread_number}
use Rattle.joint_machine.specs.Heaps.{place}
use Rattle.joint_machine.specs.Told.{Noted, Told, contraction_of, nothing, phase_of, resolution_of, snap_of}
use Rattle.joint_laws.specs.ManagedInvariants.{ReplayInvariant}
use Rattle.joint_laws.proofs.ManagedMoves.{managed_line-goes_on}
use Rattle.joint_laws.proofs.NoticesTold.{notices-go}
use Rattle.check_laws.specs.Behind.{AllInOrder, RepliesBehind, SideReplies, state_of}
use Rattle.check_laws.proofs.Keeping.{after-other, after-read}
use Rattle.check_laws.proofs.Ordering.{order_tested}
use Rattle.run_check.specs.Judging.{IsStepped}
use Rattle.run_check.proofs.PastFacts.{replay_kept}
use Rattle.run_check.proofs.Stepping.{stepped-goes_on}
use Rattle.run_check.proofs.Untouched.{line-leaves, stepped-leaves, take-leaves, weak-notices}

pub record NoticesFit (s : Managed) : Type 0 where
  pub taken : s.taken ≤ length s.notices
  pub few : length s.notices ≤ length s.heap.freed

abbrev AreFew : Managed → Type 0
AreFew s = length s.notices ≤ length s.heap.freed

few-same : (s t : Managed) → t.notices ≡ s.notices → t.heap.freed ≡ s.heap.freed → AreFew s → AreFew t
few-same s t n f l = (let a = ap length n in let b = ap length f in omega (arith, a, b, l))

line-notices : (s : Managed) (t : ℕ) (a : Act) → is_read (op.Line a) ≡ false → (managed_line s t a).state.notices ≡ s.notices
line-notices s t (act.Weak k v) e = weak-notices s k.0 (place t v.0)
line-notices s t (act.Take v) e = (take-leaves s t (place t v.0)).notices
line-notices s t (act.Read k) e = absurd (true≢false e)
line-notices s t (act.Await k) e = absurd (true≢false e)
line-notices s t a e = (line-leaves s t a tt e).notices

stepped-few : (s : ManagedReplay) (c : Thread) (o : Op) (told : Told) → ReplayInvariant s → IsEvent c o → is_peer_event c o ≡ false
    → is_read o ≡ false → IsStepped o → ManagedAllows s o told → AreFew s.managed → AreFew (managed_answer s c o told).state.managed
stepped-few s c o told k v p e w a l = few-same s.managed (managed_answer s c o told).state.managed (stepped-leaves s c o told w e).notices (stepped-goes_on s c o told k v p w a).freed l

few-on : (s : ManagedReplay) (c : Thread) (o : Op) (told : Told) → ReplayInvariant s → IsEvent c o → is_peer_event c o ≡ false
    → is_read o ≡ false → ManagedAllows s o told → AreFew s.managed → AreFew (managed_answer s c o told).state.managed
few-on s c (op.Line x) told k v p e a l =
    few-same s.managed (managed_answer s c (op.Line x) told).state.managed (line-notices s.managed (thread_number c) x e)
    (managed_line-goes_on s.managed (thread_number c) x k.managed.places k.managed.cells).freed l
few-on s c (op.Snap z) (snap_of freed candidates dead) k v p e a l = (let q = length-append s.managed.heap.freed freed in omega (arith, q, l))
few-on s c (op.Snap z) told k v p e a l = absurd a
few-on s c (op.Contract z) (contraction_of comps heavy xrefs) k v p e a l = l
few-on s c (op.Contract z) told k v p e a l = absurd a
few-on s c (op.Resolve z) (resolution_of alive freed) k v p e a l = (
    let q = length-append s.managed.heap.freed freed in
    let r = length-append s.managed.notices (filter (holds_handle s.managed) freed) in
    let f = length-filter (holds_handle s.managed) freed in
    let g = count_by-le-length (holds_handle s.managed) freed in
    omega (arith, q, r, f, g, l))
few-on s c (op.Resolve z) told k v p e a l = absurd a
few-on s c (op.Abandon z) told k v p e a l = l
few-on s c (op.Refused z) (phase_of phase) k v p e a l = l
few-on s c (op.Refused z) told k v p e a l = absurd a
few-on s c o told k v p e a l = stepped-few s c o told k v p e tt a l

few-by : (s : Linkage) (n : Noted) (b : Bool) → is_peer_event n.entry.made.caller n.entry.made.op ≡ b → ReplayInvariant s.managed
    → IsEvent n.entry.made.caller n.entry.made.op → is_read n.entry.made.op ≡ false → SideLawful b s n.entry.made n.told
    → AreFew s.managed.managed → AreFew (managed_after s.managed n.entry.made n.told b).managed
few-by s n true p k v e w l = l
few-by s n false p k v e w l = few-on s.managed n.entry.made.caller n.entry.made.op n.told k v p e w.allowed l

fit-on : (h : Finished) (past : List Noted) (n : Noted) → AllInOrder h (n ∷ past) → (b : Bool) → is_read n.entry.made.op ≡ b
    → NoticesFit (state_of past).managed.managed → NoticesFit (state_of (n ∷ past)).managed.managed
fit-on h past n o true e w = subst (λ (z : Linkage). NoticesFit z.managed.managed) (sym (after-read (state_of past) n e)) (record { taken = w.taken; few = w.few })
fit-on h past n o false e w =
    let s = state_of past in
    let q : SideReplies h past n = subst (λ b. RepliesBehind b h past n) e o.0.replies in
    let m : MayCome s n = (order_tested s n).0 (record { turn = o.0.turn; cites = o.0.cites; replies = q.replies }) in
    subst (λ (z : Linkage). NoticesFit z.managed.managed) (sym (after-other s n e)) (record {
      taken = (notices-go s n).within w.taken;
      few = few-by s n (is_peer_event n.entry.made.caller n.entry.made.op) refl (replay_kept h past o.1) m.event e m.lawful w.few;
    })

pub notices_fit : (h : Finished) (past : List Noted) → AllInOrder h past → NoticesFit (state_of past).managed.managed
notices_fit h [] o = record { taken = omega arith; few = omega arith }
notices_fit h (n ∷ past) o = fit-on h past n o (is_read n.entry.made.op) refl (notices_fit h past o.1)
