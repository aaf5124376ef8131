-- Each entry that may come is a step of the joint machine, or leaves the joint state as it is. So the joint projection
-- of a lawful list of entries is a run.
use Rattle.std.proofs.Common.{◌≡◌, ℕ, zero, suc, ◌-◌, ◌⊎◌, inl, inr, Bool, true, false, List, [], ◌++◌, length, map, replicate, Option, Some, None, refl, sym, ap, subst, ◌∙◌, arith, append-nil}
use Rattle.std.specs.Prelude.{Contains, All}
use Rattle.joint_machine.specs.declared.names.Thread.{Thread}
use Rattle.joint_machine.specs.declared.names.Thread.TheVariants.{M, P, C}
use Rattle.joint_machine.specs.declared.names.Cycle.{Cycle}
use Rattle.joint_machine.specs.declared.names.HNum.{HNum}
use Rattle.joint_machine.specs.declared.names.PhaseWord.{PhaseWord}
use Rattle.joint_machine.specs.Joined.{answers_at, answers_so_far}
use Rattle.joint_machine.proofs.Members.{Contains-nil, Contains-cons_cases, All-members}
use Rattle.joint_machine.specs.declared.lines.Act.{Act}
use Rattle.joint_machine.specs.declared.lines.Act.TheVariants as act
use Rattle.joint_machine.specs.declared.events.Op.{Op}
use Rattle.joint_machine.specs.declared.events.Op.TheVariants as op
use Rattle.joint_machine.specs.declared.events.Reply.{Reply}
use Rattle.joint_machine.specs.Control.{Doing, Stand, idle, snapped, contracted, weakening, marked, restoring, restored, control_after, stand_after, DriverAllows}
use Rattle.joint_machine.specs.Cycles.{IsResolution, IsAnsweredAlive, resolve_reply}
use Rattle.joint_machine.specs.Heaps.{Answered, place, slot}
use Rattle.joint_machine.specs.Joint.{Joint, JointMarking, twin_of}
use Rattle.joint_machine.specs.Lines.{IsEvent, is_peer_event}
use Rattle.joint_machine.specs.Linked.{Linkage, SideLawful, PeerLawful, managed_after, peer_after}
use Rattle.joint_machine.specs.Managed.{Managed, OpenCycle, managed_line, adopted, met, given_up, candidates_of, resolved as resolved_state}
use Rattle.joint_machine.specs.ManagedReplay.{ManagedReplay, MayResolve, registered, adopt_by, meet_by, give_by}
use Rattle.joint_machine.specs.PeerReplay.{PeerReplay, row_of, restored_by, MayRestore}
use Rattle.joint_machine.specs.Run.{JointEvent, on_managed, is_joint}
use Rattle.joint_machine.specs.Told.{Told, nothing, snap_of, contraction_of, references_of, slice_of, sweep_of, resolution_of, phase_of, Answer}
use Rattle.joint_machine.proofs.HeapLemmas.{adopt_by-managed, adopt_by-reply, candidates_of-open}
use Rattle.joint_laws.specs.JointAgreement.{AreTold, Agrees, Flags, joint_as}
use Rattle.joint_laws.specs.LinkedInvariants.{OwnersInvariant, doing_in}
use Rattle.joint_laws.proofs.ManagedMoves.{GoesOn, GoesOn-stay, managed_line-goes_on, adopted-goes_on, met-goes_on, given_up-goes_on}
use Rattle.joint_laws.proofs.ManagedSteps.{meet_by-managed, meet_by-reply, give_by-managed, give_by-reply, twin-live}
use Rattle.joint_laws.proofs.JointManaged.{joint-resolution}
use Rattle.joint_laws.proofs.JointSteps.{Steps, retold, step-begin, step-sweep}
use Rattle.joint_laws.proofs.JointLines.{step-line, step-make, step-grip, step-land, step-release}
use Rattle.joint_laws.proofs.JointRests.{Rests, rests-still, rests-sliced, rests-mirrored, rests-cleared, rests-weakened}
use Rattle.joint_laws.proofs.JointRestores.{step-restore}
use Rattle.joint_laws.proofs.JointTargets.{twin-same}
use Rattle.joint_laws.proofs.LinkedQuiet.{BothInvariants, threads-callers}
use Rattle.joint_laws.proofs.LinkedThreads.{release-hand}
use Rattle.joint_laws.proofs.LinkedDriver.{one_cycle}
use Rattle.joint_laws.proofs.LinkedEntries.{Of, entry, Allows}

-- an entry is a step of the joint machine, or leaves its state as it is
pub data Outcome (m : Managed) (s : PeerReplay) (flags : Flags) (answers : List (Option Answer)) (jm : Option JointMarking)
    (t : Thread) (o : Op) (reply : Reply) (told : Told) (n : Managed) (u : PeerReplay) : Type 0 where
  moves : is_joint o ≡ true → Steps m s flags answers jm t o reply told n u → Outcome m s flags answers jm t o reply told n u
  rests : is_joint o ≡ false → Rests m s flags jm n u → flags.answers ≡ answers → Outcome m s flags answers jm t o reply told n u

abbrev candidates_by : Option OpenCycle → List ℕ
candidates_by o = elim o [ None ↦ [] | Some c ↦ c.candidates ]

-- where each candidate has had its restore, what they answered is the whole list
all-so-far : (answers : List Answer) (c : ℕ) → length answers ≡ c → answers_so_far answers c ≡ map Some answers
all-so-far answers c e = ap (λ n. map Some answers ++ replicate n None) (let z : c - length answers ≡ 0 = omega (arith, e) in z) ∙ append-nil (map Some answers)

replicate-member : {A : Type 0} (n : ℕ) (a : Option A) → Contains (replicate n None) a → a ≡ None
replicate-member zero a w = absurd (Contains-nil a w)
replicate-member (suc n) a w = elim (Contains-cons_cases None (replicate n None) a w) [ inl e ↦ sym e | inr d ↦ replicate-member n a d ]

-- a line that is no slice
joint-line : (a : Act) → ((n : ℕ) → a ≡ act.Slice n → ⊥) → is_joint (op.Line a) ≡ true
joint-line (act.Slice n) no_slice = absurd (no_slice n refl)
joint-line _ no_slice = refl

managed-slice : (u : ℕ) (a : Act) → IsEvent (M u) (op.Line a) → (n : ℕ) → a ≡ act.Slice n → ⊥
managed-slice u a e n f = (subst (λ z. IsEvent (M u) (op.Line z)) f e).0.1

driver-slice : (a : Act) → IsEvent C (op.Line a) → (n : ℕ) → a ≡ act.Slice n → ⊥
driver-slice a e n f = (subst (λ z. IsEvent C (op.Line z)) f e).0

module _ (s : Linkage) (k : Of s) (flags : Flags) (jm : Option JointMarking) (ag : Agrees s.peer flags jm)
    (tl : AreTold s.control.stand s.managed.managed flags) (number line : ℕ) (reply : Reply) (cites : Option ℕ) where
  abbrev r : ManagedReplay
  r = s.managed

  abbrev q : PeerReplay
  q = s.peer

  abbrev ds : List Doing
  ds = s.control.doing

  abbrev d : Stand
  d = s.control.stand

  -- the driver's event may come at the stand x
  abbrev May : Stand → Op → Told → Type 0
  May x o told = DriverAllows x r.managed q.peers.issued o reply cites told

  abbrev j : Joint
  j = joint_as r.managed q flags jm

  -- what restores have answered by the driver's stand after the entry
  abbrev Then : Thread → Op → Told → Managed → List (Option Answer)
  Then t o told m = answers_at (control_after s.control t number line o reply told).stand (length (candidates_of m))

  abbrev Out : Thread → Op → Told → Bool → Type 0
  Out t o told b = Outcome r.managed q flags (Then t o told (managed_after r (entry t line o reply cites) told b).managed) jm t o reply told
      (managed_after r (entry t line o reply cites) told b).managed (peer_after q (entry t line o reply cites) told b)

  -- a managed entry that goes on
  computed : (t : Thread) (o : Op) (told : Told) (u : ManagedReplay) → is_joint o ≡ true → GoesOn r.managed u.managed → answers_at d (length (candidates_of r.managed)) ≡ Then t o told r.managed
      → JointEvent j t o reply told (joint_as u.managed q flags jm) → Outcome r.managed q flags (Then t o told u.managed) jm t o reply told u.managed q
  computed t o told u e g still event = moves e (record {
    flags_after = flags;
    told_after = tl ∙ still ∙ ap (λ c. answers_at (control_after s.control t number line o reply told).stand (length (candidates_by c))) (sym g.cycle);
    marking_after = jm;
    event = event;
    agrees = record { removed = ag.removed; markings = ag.markings };
  })

  same-managed : (m n : Managed) → m ≡ n → joint_as m q flags jm ≡ joint_as n q flags jm
  same-managed m n e = ap (λ z. joint_as z q flags jm) e

  goes-as : (m n : Managed) → n ≡ m → GoesOn r.managed m → GoesOn r.managed n
  goes-as m n e g = subst (λ z. GoesOn r.managed z) (sym e) g

  resolve-by : (x : Stand) (n : ℕ) (alive : List Answer) (freed : List ℕ) → BothInvariants r q ds x → AreTold x r.managed flags
      → May x (op.Resolve record { 0 = n }) (resolution_of alive freed) → MayResolve r n alive freed → reply ≡ resolve_reply r.managed freed
      → (kn : Cycle) → kn.0 ≡ n → Steps r.managed q flags [] jm C (op.Resolve kn) reply (resolution_of alive freed) (resolved_state r.managed alive freed) q
  resolve-by (restored o answers clear) n alive freed kx tx w p e kn same_n =
      let same_cycle : p.cycle ≡ kx.driver.cycle = one_cycle r.managed p.cycle kx.driver.cycle p.open_cycle.0 kx.driver.opened.cycle in
      let exact : IsResolution r.managed kx.driver.cycle.dead (IsAnsweredAlive kx.driver.cycle.candidates answers) freed =
      subst (λ (z : OpenCycle). IsResolution r.managed z.dead (IsAnsweredAlive z.candidates answers) freed) same_cycle
      (subst (λ z. IsResolution r.managed p.cycle.dead (IsAnsweredAlive p.cycle.candidates z) freed) w.2 p.resolution) in
      let all : length answers ≡ length (candidates_of r.managed) = kx.driver.all ∙ ap length (sym (candidates_of-open r.managed kx.driver.cycle kx.driver.opened.cycle)) in
      record {
        flags_after = record { removed = flags.removed; answers = [] };
        told_after = refl;
        marking_after = jm;
        event = record {
          cycle = kx.driver.cycle;
          open_cycle = (kx.driver.opened.cycle, ap (λ (z : OpenCycle). z.number) (sym same_cycle) ∙ (p.open_cycle.1 ∙ sym same_n));
          answers = alive;
          all_answered = tx ∙ (all-so-far answers (length (candidates_of r.managed)) all ∙ ap (map Some) (sym w.2));
          resolution = joint-resolution r q ds o answers clear kx flags jm freed exact;
          replies = e;
          state = refl;
        };
        agrees = record { removed = ag.removed; markings = ag.markings };
      }
  resolve-by idle n alive freed kx tx w p e kn same_n = absurd w
  resolve-by (snapped o) n alive freed kx tx w p e kn same_n = absurd w
  resolve-by (contracted o comps heavy xrefs) n alive freed kx tx w p e kn same_n = absurd w
  resolve-by (weakening o count seen sw) n alive freed kx tx w p e kn same_n = absurd w
  resolve-by (marked o) n alive freed kx tx w p e kn same_n = absurd w
  resolve-by (restoring o answers) n alive freed kx tx w p e kn same_n = absurd w

  -- a step that leaves what restores have answered
  stepped : (t : Thread) (o : Op) (told : Told) (n : Managed) (u : PeerReplay) (answers : List (Option Answer)) → is_joint o ≡ true
      → flags.answers ≡ answers → Steps r.managed q flags flags.answers jm t o reply told n u → Outcome r.managed q flags answers jm t o reply told n u
  stepped t o told n u answers e f w = moves e (retold r.managed q flags flags.answers answers jm t o reply told n u f w)

  -- no restore has answered where a cycle may be abandoned
  none-told : (c : ℕ) → All (λ (a : Option Answer). a ≡ None) (replicate c None)
  none-told c = All-members (λ (a : Option Answer). a ≡ None) (replicate c None) (λ a w. replicate-member c a w)

  abandon-told : (x : Stand) (n : Cycle) → AreTold x r.managed flags → May x (op.Abandon n) nothing → All (λ (a : Option Answer). a ≡ None) flags.answers
  abandon-told (snapped o) n tx w = subst (λ z. All (λ (a : Option Answer). a ≡ None) z) (sym tx) (none-told (length (candidates_of r.managed)))
  abandon-told (contracted o comps heavy xrefs) n tx w = subst (λ z. All (λ (a : Option Answer). a ≡ None) z) (sym tx) (none-told (length (candidates_of r.managed)))
  abandon-told idle n tx w = absurd w
  abandon-told (weakening o count seen sw) n tx w = absurd w
  abandon-told (marked o) n tx w = absurd w
  abandon-told (restoring o answers) n tx w = absurd w
  abandon-told (restored o answers clear) n tx w = absurd w

  restore-by : (x : Stand) (h : HNum) (told : Told) → BothInvariants r q ds x → AreTold x r.managed flags → May x (op.Restore h) told
      → MayRestore q h.0 → reply ≡ (restored_by q h.0 (row_of q h.0)).reply
      → Steps r.managed q flags (answers_at (stand_after x number (op.Restore h) reply nothing) (length (candidates_of r.managed))) jm C
      (op.Restore h) reply nothing r.managed (restored_by q h.0 (row_of q h.0)).state
  restore-by (restoring o answers) h told kx tx w p e = step-restore r q ds o answers kx flags jm ag h.0 w.1 tx (row_of q h.0) p.row reply refl p.tabled e
  restore-by idle h told kx tx w p e = absurd w
  restore-by (snapped o) h told kx tx w p e = absurd w
  restore-by (contracted o comps heavy xrefs) h told kx tx w p e = absurd w
  restore-by (weakening o count seen sw) h told kx tx w p e = absurd w
  restore-by (marked o) h told kx tx w p e = absurd w
  restore-by (restored o answers clear) h told kx tx w p e = absurd w

  -- the driver's other entries leave what restores have answered
  contract-told : (x : Stand) (c : ℕ) (n : Cycle) (told : Told) → May x (op.Contract n) told → answers_at x c ≡ answers_at (stand_after x number (op.Contract n) reply told) c
  contract-told (snapped o) c n (contraction_of comps heavy xrefs) w = refl
  contract-told (snapped o) c n _ w = refl
  contract-told idle c n told w = absurd w
  contract-told (contracted o comps heavy xrefs) c n told w = absurd w
  contract-told (weakening o count seen sw) c n told w = absurd w
  contract-told (marked o) c n told w = absurd w
  contract-told (restoring o answers) c n told w = absurd w
  contract-told (restored o answers clear) c n told w = absurd w

  mirror-told : (x : Stand) (c : ℕ) (n : Cycle) (told : Told) → May x (op.Mirror n) told → answers_at x c ≡ answers_at (stand_after x number (op.Mirror n) reply told) c
  mirror-told (contracted o comps heavy xrefs) c n told w = refl
  mirror-told idle c n told w = absurd w
  mirror-told (snapped o) c n told w = absurd w
  mirror-told (weakening o count seen sw) c n told w = absurd w
  mirror-told (marked o) c n told w = absurd w
  mirror-told (restoring o answers) c n told w = absurd w
  mirror-told (restored o answers clear) c n told w = absurd w

  weaken-told : (x : Stand) (h : HNum) (c : ℕ) (told : Told) → May x (op.Weaken h) told → answers_at x c ≡ answers_at (stand_after x number (op.Weaken h) reply told) c
  weaken-told (weakening o count seen sw) h c told w = refl
  weaken-told idle h c told w = absurd w
  weaken-told (snapped o) h c told w = absurd w
  weaken-told (contracted o comps heavy xrefs) h c told w = absurd w
  weaken-told (marked o) h c told w = absurd w
  weaken-told (restoring o answers) h c told w = absurd w
  weaken-told (restored o answers clear) h c told w = absurd w

  begin-told : (x : Stand) (c : ℕ) (told : Told) → May x op.Begin told → answers_at x c ≡ answers_at (stand_after x number op.Begin reply told) c
  begin-told (weakening o count seen sw) c told w = refl
  begin-told idle c told w = absurd w
  begin-told (snapped o) c told w = absurd w
  begin-told (contracted o comps heavy xrefs) c told w = absurd w
  begin-told (marked o) c told w = absurd w
  begin-told (restoring o answers) c told w = absurd w
  begin-told (restored o answers clear) c told w = absurd w

  sweep-told : (x : Stand) (c : ℕ) (told : Told) → May x op.Sweep told → answers_at x c ≡ answers_at (stand_after x number op.Sweep reply told) c
  sweep-told (weakening o count seen sw) c told w = refl
  sweep-told (marked o) c told w = ap (λ n. replicate n None) (omega arith)
  sweep-told idle c told w = absurd w
  sweep-told (snapped o) c told w = absurd w
  sweep-told (contracted o comps heavy xrefs) c told w = absurd w
  sweep-told (restoring o answers) c told w = absurd w
  sweep-told (restored o answers clear) c told w = absurd w

  clear-told : (x : Stand) (c : ℕ) (n : Cycle) (told : Told) → May x (op.Clear n) told → answers_at x c ≡ answers_at (stand_after x number (op.Clear n) reply told) c
  clear-told (restoring o answers) c n told w = refl
  clear-told idle c n told w = absurd w
  clear-told (snapped o) c n told w = absurd w
  clear-told (contracted o comps heavy xrefs) c n told w = absurd w
  clear-told (weakening o count seen sw) c n told w = absurd w
  clear-told (marked o) c n told w = absurd w
  clear-told (restored o answers clear) c n told w = absurd w

  refused-told : (x : Stand) (c : ℕ) (y : PhaseWord) (told : Told) → answers_at x c ≡ answers_at (stand_after x number (op.Refused y) reply told) c
  refused-told idle c y told = refl
  refused-told (snapped o) c y told = refl
  refused-told (contracted o comps heavy xrefs) c y told = refl
  refused-told (weakening o count seen sw) c y told = refl
  refused-told (marked o) c y told = refl
  refused-told (restoring o answers) c y told = refl
  refused-told (restored o answers clear) c y told = refl

  peer-line : (u : ℕ) (a : Act) (told : Told) → PeerLawful q (entry (P u) line (op.Line a) reply cites) told → Out (P u) (op.Line a) told true
  peer-line u (act.Slice n) (slice_of closure) w = rests refl (rests-sliced r.managed q flags jm ag q.marking (P u) n closure refl) tl
  peer-line u (act.Slice n) _ w = rests refl (rests-sliced r.managed q flags jm ag q.marking (P u) n [] refl) tl
  peer-line u a told w = stepped (P u) (op.Line a) told _ _ _ refl tl (step-line r q ds d k flags jm ag u a reply told (λ n e. (let f : ⊥ = cc in f)) w.replies)

  thread-told : (t : Thread) (o : Op) (told : Told) → Allows s (entry t line o reply cites) told
      → (o ≡ op.Begin) ⊎ (o ≡ op.Sweep) → answers_at d (length (candidates_of r.managed)) ≡ Then t o told r.managed
  thread-told (M u) o told x e = refl
  thread-told (P u) o told x e = refl
  thread-told C op.Begin told x e = begin-told d (length (candidates_of r.managed)) told x
  thread-told C op.Sweep told x e = sweep-told d (length (candidates_of r.managed)) told x
  thread-told C o told x e = absurd (elim e [ inl f ↦ (let g : ⊥ = cc in g) | inr f ↦ (let g : ⊥ = cc in g) ])

  begin : (t : Thread) (told : Told) → PeerLawful q (entry t line op.Begin reply cites) told → Allows s (entry t line op.Begin reply cites) told → Out t op.Begin told true
  begin t told w x = stepped t op.Begin told _ _ _ refl (tl ∙ thread-told t op.Begin told x (inl refl)) (step-begin r q ds d k flags jm ag t reply told w.replies)

  sweep : (t : Thread) (told : Told) → IsEvent t op.Sweep → PeerLawful q (entry t line op.Sweep reply cites) told → Allows s (entry t line op.Sweep reply cites) told → Out t op.Sweep told true
  sweep t (sweep_of freed) e w x = stepped t op.Sweep (sweep_of freed) _ _ _ refl (tl ∙ thread-told t op.Sweep (sweep_of freed) x (inr refl))
      (step-sweep r q ds d k flags jm ag t reply (sweep_of freed) e w.allowed w.replies)
  sweep t told e w x = stepped t op.Sweep told _ _ _ refl (tl ∙ thread-told t op.Sweep told x (inr refl)) (step-sweep r q ds d k flags jm ag t reply told e w.allowed w.replies)

  pub outcome : (t : Thread) (o : Op) (told : Told) → IsEvent t o → SideLawful (is_peer_event t o) s (entry t line o reply cites) told → Allows s (entry t line o reply cites) told
      → OwnersInvariant (managed_after r (entry t line o reply cites) told (is_peer_event t o)) (peer_after q (entry t line o reply cites) told (is_peer_event t o)) → Out t o told (is_peer_event t o)
  outcome (M u) (op.Line a) told e w x after =
      let no_slice = managed-slice u a e in
      computed (M u) (op.Line a) told (record r { managed = (managed_line r.managed u a).state }) (joint-line a no_slice)
      (managed_line-goes_on r.managed u a k.managed.managed.places k.managed.managed.cells) refl (record { joint = joint-line a no_slice; replies = w.replies; state = refl })
  outcome (P u) (op.Line a) told e w x after = peer-line u a told w
  outcome C (op.Line a) told e w x after =
      let no_slice = driver-slice a e in
      computed C (op.Line a) told (record r { managed = (managed_line r.managed 0 a).state }) (joint-line a no_slice)
      (managed_line-goes_on r.managed 0 a k.managed.managed.places k.managed.managed.cells) refl (record { joint = joint-line a no_slice; replies = w.replies; state = refl })
  outcome (M u) (op.Make sort n) told e w x after = stepped (M u) (op.Make sort n) told _ _ _ refl tl (step-make r q ds d k flags jm ag u sort n reply told w.replies)
  outcome (P u) (op.Make sort n) told e w x after = absurd e.0
  outcome C (op.Make sort n) told e w x after = absurd e.0
  outcome (M u) (op.Adopt v kind n p h) told e w x after =
      let a : Answered Managed = adopted r.managed (place u v.0) kind n h.0 in
      let m = adopt_by-managed r p.0 h.0 a.state a.reply in
      computed (M u) (op.Adopt v kind n p h) told (adopt_by r p.0 h.0 a.state a.reply).state refl
      (goes-as a.state _ m (adopted-goes_on r.managed (place u v.0) kind n h.0 k.managed.managed.places)) refl
      (record { joint = refl; replies = w.replies ∙ adopt_by-reply r p.0 h.0 a.state a.reply; state = same-managed _ a.state m })
  outcome (P u) (op.Adopt v kind n p h) told e w x after = absurd e.0
  outcome C (op.Adopt v kind n p h) told e w x after = absurd e.0
  outcome (M u) (op.Lend v y) told e w x after = computed (M u) (op.Lend v y) told r refl (GoesOn-stay r.managed) refl (record { joint = refl; replies = w.replies; state = refl })
  outcome (P u) (op.Lend v y) told e w x after = absurd e.0
  outcome C (op.Lend v y) told e w x after = absurd e.0
  outcome (M u) (op.Land h y) told e w x after = stepped (M u) (op.Land h y) told _ _ _ refl tl (step-land r q ds d k flags jm ag u h y reply told w.replies)
  outcome (P u) (op.Land h y) told e w x after = absurd e.0
  outcome C (op.Land h y) told e w x after = absurd e.0
  outcome (M u) (op.Grip y) told e w x after = stepped (M u) (op.Grip y) told _ _ _ refl tl (step-grip r q ds d k flags jm ag u y reply told w.replies)
  outcome (P u) (op.Grip y) told e w x after = absurd e.0
  outcome C (op.Grip y) told e w x after = absurd e.0
  outcome (M u) (op.Meet v sort n p h) told e w x after =
      let a : Answered Managed = met r.managed (place u v.0) h.0 sort n (registered r.registry p.0) in
      let m = meet_by-managed r p.0 h.0 a.state a.reply in
      let twin : registered r.registry p.0 ≡ twin_of j p.0 = sym (twin-same r q ds d k flags jm p.0) in
      computed (M u) (op.Meet v sort n p h) told (meet_by r p.0 h.0 a.state a.reply).state refl
      (goes-as a.state _ m (met-goes_on r.managed (place u v.0) h.0 sort n (registered r.registry p.0) k.managed.managed.places (λ y f. twin-live r p.0 y k.managed f))) refl
      (record {
        joint = refl;
        replies = w.replies ∙ (meet_by-reply r p.0 h.0 a.state a.reply ∙ ap (λ z. (met r.managed (place u v.0) h.0 sort n z).reply) twin);
        state = same-managed _ a.state m ∙ ap (λ z. (on_managed j (met r.managed (place u v.0) h.0 sort n z)).state) twin;
      })
  outcome (P u) (op.Meet v sort n p h) told e w x after = absurd e.0
  outcome C (op.Meet v sort n p h) told e w x after = absurd e.0
  outcome (M u) (op.Give v) told e w x after =
      let a : Answered Managed = given_up r.managed (place u v.0) in
      let o = slot r.managed.heap.vars (place u v.0) in
      let m = give_by-managed r o a in
      computed (M u) (op.Give v) told (give_by r o a).state refl (goes-as a.state _ m (given_up-goes_on r.managed (place u v.0))) refl
      (record { joint = refl; replies = w.replies ∙ give_by-reply r o a; state = same-managed _ a.state m })
  outcome (P u) (op.Give v) told e w x after = absurd e.0
  outcome C (op.Give v) told e w x after = absurd e.0
  outcome (M u) (op.Release h) told e w x after = stepped (M u) (op.Release h) told _ _ _ refl tl
      (step-release r q ds d k flags jm ag u h reply told ((threads-callers r q ds d k).loose u h.0 (release-hand (doing_in ds u) (M u) line h cites x)) w.replies)
  outcome (P u) (op.Release h) told e w x after = absurd e
  outcome C (op.Release h) told e w x after = absurd e
  outcome C (op.Snap n) (snap_of freed candidates dead) e w x after = moves refl (record {
    flags_after = record { removed = flags.removed; answers = replicate (length candidates) None };
    told_after = refl;
    marking_after = jm;
    event = record { snapshot = w.allowed; replies = w.replies; state = refl };
    agrees = record { removed = ag.removed; markings = ag.markings };
  })
  outcome C (op.Snap n) told e w x after = absurd w.allowed
  outcome (M u) (op.Snap n) told e w x after = absurd e
  outcome (P u) (op.Snap n) told e w x after = absurd e
  outcome C (op.Contract n) (contraction_of comps heavy xrefs) e w x after = rests refl (rests-still r.managed q flags jm ag)
      (tl ∙ contract-told d (length (candidates_of r.managed)) n (contraction_of comps heavy xrefs) x)
  outcome C (op.Contract n) told e w x after = absurd w.allowed
  outcome (M u) (op.Contract n) told e w x after = absurd e
  outcome (P u) (op.Contract n) told e w x after = absurd e
  outcome C (op.Mirror n) (references_of refs) e w x after = rests refl (rests-mirrored r.managed q flags jm ag n.0 cites refs)
      (tl ∙ mirror-told d (length (candidates_of r.managed)) n (references_of refs) x)
  outcome C (op.Mirror n) told e w x after = absurd w.allowed
  outcome (M u) (op.Mirror n) told e w x after = absurd e
  outcome (P u) (op.Mirror n) told e w x after = absurd e
  outcome C (op.Weaken h) nothing e w x after = rests refl (rests-weakened r.managed q flags jm ag h.0 w.allowed.strong_now) (tl ∙ weaken-told d h (length (candidates_of r.managed)) nothing x)
  outcome C (op.Weaken h) told e w x after = absurd w.allowed
  outcome (M u) (op.Weaken h) told e w x after = absurd e
  outcome (P u) (op.Weaken h) told e w x after = absurd e
  outcome t op.Begin told e w x after = begin t told w x
  outcome t op.Sweep told e w x after = sweep t told e w x
  outcome C (op.Restore h) nothing e w x after = moves refl (restore-by d h nothing k tl x w.allowed w.replies)
  outcome C (op.Restore h) told e w x after = absurd w.allowed
  outcome (M u) (op.Restore h) told e w x after = absurd e
  outcome (P u) (op.Restore h) told e w x after = absurd e
  outcome C (op.Clear n) told e w x after = rests refl (rests-cleared r.managed q flags jm ag) (tl ∙ clear-told d (length (candidates_of r.managed)) n told x)
  outcome (M u) (op.Clear n) told e w x after = absurd e
  outcome (P u) (op.Clear n) told e w x after = absurd e
  outcome C (op.Resolve n) (resolution_of alive freed) e w x after = moves refl (resolve-by d n.0 alive freed k tl x w.allowed w.replies n refl)
  outcome C (op.Resolve n) told e w x after = absurd w.allowed
  outcome (M u) (op.Resolve n) told e w x after = absurd e
  outcome (P u) (op.Resolve n) told e w x after = absurd e
  outcome C (op.Abandon n) nothing e w x after = moves refl (record {
    flags_after = record { removed = flags.removed; answers = [] };
    told_after = refl;
    marking_after = jm;
    event = record { cycle = w.allowed.0; open_cycle = w.allowed.1; none_answered = abandon-told d n tl x; replies = w.replies; state = refl };
    agrees = record { removed = ag.removed; markings = ag.markings };
  })
  outcome C (op.Abandon n) told e w x after = absurd w.allowed
  outcome (M u) (op.Abandon n) told e w x after = absurd e
  outcome (P u) (op.Abandon n) told e w x after = absurd e
  outcome C (op.Refused y) (phase_of phase) e w x after = rests refl (rests-still r.managed q flags jm ag) (tl ∙ refused-told d (length (candidates_of r.managed)) y (phase_of phase))
  outcome C (op.Refused y) told e w x after = absurd w.allowed
  outcome (M u) (op.Refused y) told e w x after = absurd e
  outcome (P u) (op.Refused y) told e w x after = absurd e
