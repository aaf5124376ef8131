-- What is known of the run at the driver's stand is known at the next stand too, at each entry that may come; and at a
-- resolution it makes the cycle complete.
use Rattle.std.proofs.Common.{◌≡◌, ℕ, Bool, true, false, List, [], ◌∷◌, ◌++◌, length, Option, Some, None, refl, ap, subst, ◌∙◌}
use Rattle.std.specs.Prelude.{slice_get}
use Rattle.joint_machine.specs.declared.names.Thread.{Thread}
use Rattle.joint_machine.specs.declared.names.Thread.TheVariants.{M, P, C}
use Rattle.joint_machine.specs.declared.names.Cycle.{Cycle}
use Rattle.joint_machine.specs.declared.names.HNum.{HNum}
use Rattle.joint_machine.specs.declared.names.PhaseWord.{PhaseWord}
use Rattle.joint_machine.specs.declared.lines.Act.{Act}
use Rattle.joint_machine.specs.declared.events.Op.{Op}
use Rattle.joint_machine.specs.declared.events.Op.TheVariants as op
use Rattle.joint_machine.specs.declared.events.Reply.{Reply}
use Rattle.joint_machine.specs.Control.{OpenSnap, Stand, idle, snapped, contracted, weakening, marked, restoring, restored, stand_after, DriverAllows}
use Rattle.joint_machine.specs.Cycles.{IsResolution, IsAnsweredAlive}
use Rattle.joint_machine.specs.Headline.{IsCompleteCycle}
use Rattle.joint_machine.specs.Lines.{IsEvent}
use Rattle.joint_machine.specs.Linked.{Linkage, MayCome, linkage_after}
use Rattle.joint_machine.specs.Managed.{OpenCycle}
use Rattle.joint_machine.specs.ManagedReplay.{MayResolve}
use Rattle.joint_machine.specs.PeerReplay.{Marking, begun, swept, SweepAllows}
use Rattle.joint_machine.specs.Run.{Moment, is_joint}
use Rattle.joint_machine.specs.Told.{Told, Noted, snap_of, contraction_of, sweep_of, resolution_of, Answer}
use Rattle.joint_laws.specs.LinkedInvariants.{DriverInvariant}
use Rattle.joint_laws.proofs.AtResolutions.{complete-cycle}
use Rattle.joint_laws.proofs.Journeys.{way-next, way-rests}
use Rattle.joint_laws.proofs.JourneyStands.{Journey, behind-rests, behind-next}
use Rattle.joint_laws.proofs.JourneySteps.{IsInside, stay-next, stay-rests}
use Rattle.joint_laws.proofs.JourneyTurns.{moment_of, snap-turn, begin-turn, sweep-turn}
use Rattle.joint_laws.proofs.JointRuns.{Stands, state_of, IsTraced}
use Rattle.joint_laws.proofs.LinkedDriver.{one_cycle}
use Rattle.joint_laws.proofs.LinkedEntries.{entry}
use Rattle.joint_laws.proofs.PeerHeaps.{heap-entry}

-- what is none of the driver's restores, mirrors and clears
inside-managed : (u : ℕ) (o : Op) → IsEvent (M u) o → IsInside o
inside-managed u o e = record { no_restore = λ h f. subst (λ z. IsEvent (M u) z) f e; no_mirror = λ k f. subst (λ z. IsEvent (M u) z) f e; no_clear = λ k f. subst (λ z. IsEvent (M u) z) f e }

inside-peer : (u : ℕ) (o : Op) → IsEvent (P u) o → IsInside o
inside-peer u o e = record { no_restore = λ h f. subst (λ z. IsEvent (P u) z) f e; no_mirror = λ k f. subst (λ z. IsEvent (P u) z) f e; no_clear = λ k f. subst (λ z. IsEvent (P u) z) f e }

module _ (s : Linkage) (w : Stands s) (past : List Moment) (number line : ℕ) (reply : Reply) (cites : Option ℕ) where
  abbrev noted : Thread → Op → Told → Noted
  noted t o told = record { entry = record { number = number; made = entry t line o reply cites }; told = told }

  abbrev After : Thread → Op → Told → Linkage
  After t o told = linkage_after s (noted t o told)

  abbrev d : Stand
  d = s.control.stand

  -- the driver's event may come at the stand x
  abbrev May : Stand → Op → Told → Type 0
  May x o told = DriverAllows x s.managed.managed s.peer.peers.issued o reply cites told

  -- after a step of the joint machine, at the stand y
  abbrev Next : (t : Thread) (o : Op) (told : Told) → Stands (After t o told) → Stand → Type 0
  Next t o told v y = Journey (past ++ moment_of s (noted t o told) w v ∷ []) (After t o told) v y

  -- after an entry that is none
  abbrev Rest : (t : Thread) (o : Op) (told : Told) → Stands (After t o told) → Stand → Type 0
  Rest t o told v y = Journey past (After t o told) v y

  abbrev Kept : (t : Thread) (o : Op) (told : Told) → Stand → Type 0
  Kept t o told y = DriverInvariant (After t o told).managed (After t o told).peer y

  -- the begin of the own marking
  none-open : (o : OpenSnap) (count : ℕ) (seen sw : Bool) (told : Told) (x : Option Marking) → reply ≡ (begun s.peer x C).reply
      → May (weakening o count seen sw) op.Begin told → x ≡ None
  none-open o count seen sw told None e a = refl
  none-open o count seen sw told (Some mk) e a = absurd (subst (λ z. DriverAllows (weakening o count seen sw) s.managed.managed s.peer.peers.issued op.Begin z cites told) e a)

  begin-by : length s.peer.peers.heap.vars ≡ 72 → length s.peer.peers.heap.statics ≡ 16 → (told : Told) → MayCome s (noted C op.Begin told)
      → (v : Stands (After C op.Begin told)) → (x : Stand) → May x op.Begin told
      → Kept C op.Begin told (stand_after x number op.Begin reply told) → Journey past s w x → Next C op.Begin told v (stand_after x number op.Begin reply told)
  begin-by vars statics told may v (weakening o count seen sw) a to k =
      let none : s.peer.marking ≡ None = none-open o count seen sw told s.peer.marking may.lawful.replies a in
      let goes = heap-entry s (noted C op.Begin told) in
      begin-turn s (noted C op.Begin told) w v past o may to k (ap (λ z. (begun s.peer z C).state) none) refl refl
      (may.lawful.replies ∙ ap (λ z. (begun s.peer z C).reply) none) (goes.vars ∙ vars) (goes.statics ∙ statics)
  begin-by vars statics told may v idle a to k = absurd a
  begin-by vars statics told may v (snapped o) a to k = absurd a
  begin-by vars statics told may v (contracted o comps heavy xrefs) a to k = absurd a
  begin-by vars statics told may v (marked o) a to k = absurd a
  begin-by vars statics told may v (restoring o answers) a to k = absurd a
  begin-by vars statics told may v (restored o answers clear) a to k = absurd a

  -- a sweep of the driver's, of a peer thread's marking or of the own one
  sweep-by : ((i : ℕ) (x : Moment) → slice_get past i ≡ Some x → IsTraced x) → (told : Told) → MayCome s (noted C op.Sweep told)
      → (v : Stands (After C op.Sweep told)) → (x : Stand) → May x op.Sweep told
      → Kept C op.Sweep told (stand_after x number op.Sweep reply told) → Journey past s w x → Next C op.Sweep told v (stand_after x number op.Sweep reply told)
  sweep-by traced told may v (weakening o count seen sw) a to k = way-next s (noted C op.Sweep told) may w v past o (moment_of s (noted C op.Sweep told) w v) refl to.cycle to.opened.cycle k
  sweep-by traced (sweep_of freed) may v (marked o) a to k =
      let n = noted C op.Sweep (sweep_of freed) in
      let allowed = subst (λ z. SweepAllows s.peer z C (sweep_of freed)) k.open_mark may.lawful.allowed in
      let grows = ap (λ z. (swept s.peer z C freed).state.peers.heap.freed) k.open_mark in
      sweep-turn s n w v past o may traced to k freed _ allowed.1 grows refl (may.lawful.replies ∙ ap (λ z. (swept s.peer z C freed).reply) k.open_mark) refl
  sweep-by traced told may v (marked o) a to k = absurd (subst (λ z. SweepAllows s.peer z C told) k.open_mark may.lawful.allowed)
  sweep-by traced told may v idle a to k = absurd a
  sweep-by traced told may v (snapped o) a to k = absurd a
  sweep-by traced told may v (contracted o comps heavy xrefs) a to k = absurd a
  sweep-by traced told may v (restoring o answers) a to k = absurd a
  sweep-by traced told may v (restored o answers clear) a to k = absurd a

  stays : (t : Thread) (o : Op) (told : Told) → IsInside o → MayCome s (noted t o told) → (v : Stands (After t o told)) → Kept t o told d → Journey past s w d → Next t o told v d
  stays t o told i may v to k = stay-next s (noted t o told) may w v i past (moment_of s (noted t o told) w v) refl d to k

  line-inside : (a : Act) → IsInside (op.Line a)
  line-inside a = record { no_restore = λ h e. cc; no_mirror = λ k e. cc; no_clear = λ k e. cc }

  -- a restore, which is a step
  restore-by : (h : HNum) (told : Told) → MayCome s (noted C (op.Restore h) told) → (v : Stands (After C (op.Restore h) told)) → (x : Stand)
      → May x (op.Restore h) told → Kept C (op.Restore h) told (stand_after x number (op.Restore h) reply told) → Journey past s w x
      → Next C (op.Restore h) told v (stand_after x number (op.Restore h) reply told)
  restore-by h told may v (restoring o answers) a to k = behind-next s (noted C (op.Restore h) told) may w v past o (moment_of s (noted C (op.Restore h) told) w v) to.cycle to.opened.cycle k
  restore-by h told may v idle a to k = absurd a
  restore-by h told may v (snapped o) a to k = absurd a
  restore-by h told may v (contracted o comps heavy xrefs) a to k = absurd a
  restore-by h told may v (weakening o count seen sw) a to k = absurd a
  restore-by h told may v (marked o) a to k = absurd a
  restore-by h told may v (restored o answers clear) a to k = absurd a

  pub journey-moves : length s.peer.peers.heap.vars ≡ 72 → length s.peer.peers.heap.statics ≡ 16 → ((i : ℕ) (x : Moment) → slice_get past i ≡ Some x → IsTraced x)
      → (t : Thread) (o : Op) (told : Told) → MayCome s (noted t o told) → (v : Stands (After t o told)) → is_joint o ≡ true
      → Journey past s w d → Next t o told v (After t o told).control.stand
  journey-moves vars statics traced (M u) o told may v j k = stays (M u) o told (inside-managed u o may.event) may v v.kept.driver k
  journey-moves vars statics traced (P u) o told may v j k = stays (P u) o told (inside-peer u o may.event) may v v.kept.driver k
  journey-moves vars statics traced C (op.Line a) told may v j k = stays C (op.Line a) told (line-inside a) may v v.kept.driver k
  journey-moves vars statics traced C (op.Make sort n) told may v j k = absurd may.event.0
  journey-moves vars statics traced C (op.Adopt x kind n p h) told may v j k = absurd may.event.0
  journey-moves vars statics traced C (op.Lend x y) told may v j k = absurd may.event.0
  journey-moves vars statics traced C (op.Land h y) told may v j k = absurd may.event.0
  journey-moves vars statics traced C (op.Grip y) told may v j k = absurd may.event.0
  journey-moves vars statics traced C (op.Meet x sort n p h) told may v j k = absurd may.event.0
  journey-moves vars statics traced C (op.Give x) told may v j k = absurd may.event.0
  journey-moves vars statics traced C (op.Release h) told may v j k = absurd may.event
  journey-moves vars statics traced C (op.Snap c) (snap_of freed candidates dead) may v j k = snap-turn s (noted C (op.Snap c) (snap_of freed candidates dead)) w v past
      (record { cycle = c.0; snap = number }) c.0 freed candidates dead may.lawful.allowed refl refl refl refl
  journey-moves vars statics traced C (op.Snap c) told may v j k = absurd may.lawful.allowed
  journey-moves vars statics traced C op.Begin told may v j k = begin-by vars statics told may v d may.order v.kept.driver k
  journey-moves vars statics traced C op.Sweep told may v j k = sweep-by traced told may v d may.order v.kept.driver k
  journey-moves vars statics traced C (op.Resolve c) told may v j k = tt
  journey-moves vars statics traced C (op.Abandon c) told may v j k = tt
  journey-moves vars statics traced C (op.Contract c) told may v j k = (let f : false ≡ true = j in cc)
  journey-moves vars statics traced C (op.Mirror c) told may v j k = (let f : false ≡ true = j in cc)
  journey-moves vars statics traced C (op.Weaken h) told may v j k = (let f : false ≡ true = j in cc)
  journey-moves vars statics traced C (op.Restore h) told may v j k = restore-by h told may v d may.order v.kept.driver k
  journey-moves vars statics traced C (op.Clear c) told may v j k = (let f : false ≡ true = j in cc)
  journey-moves vars statics traced C (op.Refused x) told may v j k = (let f : false ≡ true = j in cc)

  -- the driver's entries that are no steps
  contract-by : (c : Cycle) (comps : List (List ℕ)) (heavy : List ℕ) (xrefs : List (ℕ × ℕ)) (v : Stands (After C (op.Contract c) (contraction_of comps heavy xrefs)))
      → state_of (After C (op.Contract c) (contraction_of comps heavy xrefs)) v ≡ state_of s w → (x : Stand) → May x (op.Contract c) (contraction_of comps heavy xrefs)
      → Journey past s w x → Rest C (op.Contract c) (contraction_of comps heavy xrefs) v (stand_after x number (op.Contract c) reply (contraction_of comps heavy xrefs))
  contract-by c comps heavy xrefs v same (snapped o) a k = way-rests s (After C (op.Contract c) (contraction_of comps heavy xrefs)) w v past o same k
  contract-by c comps heavy xrefs v same idle a k = absurd a
  contract-by c comps heavy xrefs v same (contracted o cs hs xs) a k = absurd a
  contract-by c comps heavy xrefs v same (weakening o count seen sw) a k = absurd a
  contract-by c comps heavy xrefs v same (marked o) a k = absurd a
  contract-by c comps heavy xrefs v same (restoring o answers) a k = absurd a
  contract-by c comps heavy xrefs v same (restored o answers clear) a k = absurd a

  mirror-by : (c : Cycle) (told : Told) (v : Stands (After C (op.Mirror c) told)) → state_of (After C (op.Mirror c) told) v ≡ state_of s w → (x : Stand)
      → May x (op.Mirror c) told → Journey past s w x → Rest C (op.Mirror c) told v (stand_after x number (op.Mirror c) reply told)
  mirror-by c told v same (contracted o comps heavy xrefs) a k = way-rests s (After C (op.Mirror c) told) w v past o same k
  mirror-by c told v same idle a k = absurd a
  mirror-by c told v same (snapped o) a k = absurd a
  mirror-by c told v same (weakening o count seen sw) a k = absurd a
  mirror-by c told v same (marked o) a k = absurd a
  mirror-by c told v same (restoring o answers) a k = absurd a
  mirror-by c told v same (restored o answers clear) a k = absurd a

  weaken-by : (h : HNum) (told : Told) (v : Stands (After C (op.Weaken h) told)) → state_of (After C (op.Weaken h) told) v ≡ state_of s w → (x : Stand)
      → May x (op.Weaken h) told → Journey past s w x → Rest C (op.Weaken h) told v (stand_after x number (op.Weaken h) reply told)
  weaken-by h told v same (weakening o count seen sw) a k = way-rests s (After C (op.Weaken h) told) w v past o same k
  weaken-by h told v same idle a k = absurd a
  weaken-by h told v same (snapped o) a k = absurd a
  weaken-by h told v same (contracted o comps heavy xrefs) a k = absurd a
  weaken-by h told v same (marked o) a k = absurd a
  weaken-by h told v same (restoring o answers) a k = absurd a
  weaken-by h told v same (restored o answers clear) a k = absurd a

  clear-by : (c : Cycle) (told : Told) → MayCome s (noted C (op.Clear c) told) → (v : Stands (After C (op.Clear c) told)) → (x : Stand)
      → May x (op.Clear c) told → Kept C (op.Clear c) told (stand_after x number (op.Clear c) reply told) → Journey past s w x
      → Rest C (op.Clear c) told v (stand_after x number (op.Clear c) reply told)
  clear-by c told may v (restoring o answers) a to k = behind-rests s (noted C (op.Clear c) told) may w v past o to.cycle to.opened.cycle k
  clear-by c told may v idle a to k = absurd a
  clear-by c told may v (snapped o) a to k = absurd a
  clear-by c told may v (contracted o comps heavy xrefs) a to k = absurd a
  clear-by c told may v (weakening o count seen sw) a to k = absurd a
  clear-by c told may v (marked o) a to k = absurd a
  clear-by c told may v (restored o answers clear) a to k = absurd a

  rests : (t : Thread) (o : Op) (told : Told) → IsInside o → MayCome s (noted t o told) → (v : Stands (After t o told))
      → state_of (After t o told) v ≡ state_of s w → (x : Stand) → Kept t o told x → Journey past s w x → Rest t o told v x
  rests t o told i may v same x to k = stay-rests s (noted t o told) may w v i past same x to k

  refused-inside : (y : PhaseWord) → IsInside (op.Refused y)
  refused-inside y = record { no_restore = λ h e. cc; no_mirror = λ k e. cc; no_clear = λ k e. cc }

  refused-by : (y : PhaseWord) (told : Told) → MayCome s (noted C (op.Refused y) told) → (v : Stands (After C (op.Refused y) told))
      → state_of (After C (op.Refused y) told) v ≡ state_of s w → (x : Stand) → Kept C (op.Refused y) told (stand_after x number (op.Refused y) reply told) → Journey past s w x
      → Rest C (op.Refused y) told v (stand_after x number (op.Refused y) reply told)
  refused-by y told may v same (weakening o count seen sw) to k = way-rests s (After C (op.Refused y) told) w v past o same k
  refused-by y told may v same idle to k = tt
  refused-by y told may v same (snapped o) to k = way-rests s (After C (op.Refused y) told) w v past o same k
  refused-by y told may v same (contracted o comps heavy xrefs) to k = way-rests s (After C (op.Refused y) told) w v past o same k
  refused-by y told may v same (marked o) to k = rests C (op.Refused y) told (refused-inside y) may v same (marked o) to k
  refused-by y told may v same (restoring o answers) to k = rests C (op.Refused y) told (refused-inside y) may v same (restoring o answers) to k
  refused-by y told may v same (restored o answers clear) to k = rests C (op.Refused y) told (refused-inside y) may v same (restored o answers clear) to k

  pub journey-rests : (t : Thread) (o : Op) (told : Told) → MayCome s (noted t o told) → (v : Stands (After t o told))
      → is_joint o ≡ false → state_of (After t o told) v ≡ state_of s w → Journey past s w d → Rest t o told v (After t o told).control.stand
  journey-rests (M u) o told may v j same k = rests (M u) o told (inside-managed u o may.event) may v same d v.kept.driver k
  journey-rests (P u) o told may v j same k = rests (P u) o told (inside-peer u o may.event) may v same d v.kept.driver k
  journey-rests C (op.Line a) told may v j same k = rests C (op.Line a) told (line-inside a) may v same d v.kept.driver k
  journey-rests C (op.Contract c) (contraction_of comps heavy xrefs) may v j same k = contract-by c comps heavy xrefs v same d may.order k
  journey-rests C (op.Contract c) told may v j same k = absurd may.lawful.allowed
  journey-rests C (op.Mirror c) told may v j same k = mirror-by c told v same d may.order k
  journey-rests C (op.Weaken h) told may v j same k = weaken-by h told v same d may.order k
  journey-rests C (op.Restore h) told may v j same k = (let f : true ≡ false = j in cc)
  journey-rests C (op.Clear c) told may v j same k = clear-by c told may v d may.order v.kept.driver k
  journey-rests C (op.Refused y) told may v j same k = refused-by y told may v same d v.kept.driver k
  journey-rests C (op.Make sort n) told may v j same k = (let f : true ≡ false = j in cc)
  journey-rests C (op.Adopt x kind n p h) told may v j same k = (let f : true ≡ false = j in cc)
  journey-rests C (op.Lend x y) told may v j same k = (let f : true ≡ false = j in cc)
  journey-rests C (op.Land h y) told may v j same k = (let f : true ≡ false = j in cc)
  journey-rests C (op.Grip y) told may v j same k = (let f : true ≡ false = j in cc)
  journey-rests C (op.Meet x sort n p h) told may v j same k = (let f : true ≡ false = j in cc)
  journey-rests C (op.Give x) told may v j same k = (let f : true ≡ false = j in cc)
  journey-rests C (op.Release h) told may v j same k = (let f : true ≡ false = j in cc)
  journey-rests C (op.Snap c) told may v j same k = (let f : true ≡ false = j in cc)
  journey-rests C op.Begin told may v j same k = (let f : true ≡ false = j in cc)
  journey-rests C op.Sweep told may v j same k = (let f : true ≡ false = j in cc)
  journey-rests C (op.Resolve c) told may v j same k = (let f : true ≡ false = j in cc)
  journey-rests C (op.Abandon c) told may v j same k = (let f : true ≡ false = j in cc)

  -- at a resolution
  complete-by : (more : List Moment) (n : ℕ) (alive : List Answer) (freed : List ℕ) (x : Stand) → May x (op.Resolve record { 0 = n }) (resolution_of alive freed)
      → MayResolve s.managed n alive freed → DriverInvariant s.managed s.peer x → Journey past s w x → IsCompleteCycle (past ++ more) (length past) n freed
  complete-by more n alive freed (restored o answers clear) a p kept k =
      let same_cycle : p.cycle ≡ kept.cycle = one_cycle s.managed.managed p.cycle kept.cycle p.open_cycle.0 kept.opened.cycle in
      let exact : IsResolution s.managed.managed kept.cycle.dead (IsAnsweredAlive kept.cycle.candidates answers) freed =
      subst (λ (z : OpenCycle). IsResolution s.managed.managed z.dead (IsAnsweredAlive z.candidates answers) freed) same_cycle
      (subst (λ z. IsResolution s.managed.managed p.cycle.dead (IsAnsweredAlive p.cycle.candidates z) freed) a.2 p.resolution) in
      subst (λ z. IsCompleteCycle (past ++ more) (length past) z freed) a.0 (complete-cycle s w past more o answers kept k freed exact)
  complete-by more n alive freed idle a p kept k = absurd a
  complete-by more n alive freed (snapped o) a p kept k = absurd a
  complete-by more n alive freed (contracted o comps heavy xrefs) a p kept k = absurd a
  complete-by more n alive freed (weakening o count seen sw) a p kept k = absurd a
  complete-by more n alive freed (marked o) a p kept k = absurd a
  complete-by more n alive freed (restoring o answers) a p kept k = absurd a

  resolved-by : (t : Thread) (c : Cycle) (alive : List Answer) (freed : List ℕ) (more : List Moment)
      → MayCome s (noted t (op.Resolve c) (resolution_of alive freed)) → Journey past s w d → IsCompleteCycle (past ++ more) (length past) c.0 freed
  resolved-by C c alive freed more may k = complete-by more c.0 alive freed d may.order may.lawful.allowed w.kept.driver k
  resolved-by (M u) c alive freed more may k = absurd may.event
  resolved-by (P u) c alive freed more may k = absurd may.event

  pub journey-resolves : (t : Thread) (o : Op) (told : Told) (n : ℕ) (alive : List Answer) (freed : List ℕ) (more : List Moment) → MayCome s (noted t o told)
      → o ≡ op.Resolve record { 0 = n } → told ≡ resolution_of alive freed → Journey past s w d → IsCompleteCycle (past ++ more) (length past) n freed
  journey-resolves t o told n alive freed more may e f k =
      resolved-by t (record { 0 = n }) alive freed more (subst (λ z. MayCome s (noted t (op.Resolve record { 0 = n }) z)) f (subst (λ z. MayCome s (noted t z told)) e may)) k
