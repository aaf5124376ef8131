-- The driver's entries on the handles of its candidates: each is weakened, then restored, and then the references are
-- cleared.
use Rattle.std.proofs.Common.{◌≡◌, ℕ, ◌+◌, ◌<◌, ◌≤◌, Bool, true, false, List, [], ◌∷◌, ◌++◌, length, length-append, Option, Some, None, refl, sym, ap, ◌∙◌, subst, arith}
use Rattle.std.specs.Prelude.{◌↔◌, IsTrue}
use Rattle.std.proofs.lemmas.List.{length-map, map-append}
use Rattle.std.proofs.lemmas.Option.{slice_get_within}
use Rattle.joint_machine.specs.declared.names.Cycle.{Cycle}
use Rattle.joint_machine.specs.declared.names.HNum.{HNum}
use Rattle.joint_machine.specs.declared.names.Thread.TheVariants.{C}
use Rattle.joint_machine.specs.declared.events.Made.{Made}
use Rattle.joint_machine.specs.declared.events.Op.{Op}
use Rattle.joint_machine.specs.declared.events.Op.TheVariants as op
use Rattle.joint_machine.specs.declared.events.Reply.TheVariants as says
use Rattle.joint_machine.specs.Control.{OpenSnap, Stand, idle, weakening, restoring, restored, IsCandidateHandle, answer_in, stand_after}
use Rattle.joint_machine.specs.Histories.{Finished}
use Rattle.joint_machine.specs.Lines.{IsEvent, is_peer_event, is_read}
use Rattle.joint_machine.specs.Linked.{Linkage}
use Rattle.joint_model.specs.Listed.{answer_of, answers_of}
use Rattle.joint_machine.specs.Managed.{Managed, candidates_of}
use Rattle.joint_machine.specs.PeerReplay.{PeerReplay, MayClear, MayRestore, MayWeaken}
use Rattle.joint_machine.specs.Sides.{AddsLawful, peer_rules}
use Rattle.joint_machine.specs.Told.{Answer, Noted, nothing}
use Rattle.joint_machine.specs.PinsTold.{no_pins}
use Rattle.joint_laws.specs.LinkedInvariants.{given_at}
use Rattle.known_laws.specs.Driving.{PastInvariant}
use Rattle.known_laws.specs.Known.{pinned}
use Rattle.known_laws.proofs.Conditions.{all_may_be_cleared, next_may_be_restored, next_may_be_weakened}
use Rattle.check_laws.specs.Behind.{RepliesBehind, SideReplies, state_of}
use Rattle.check_laws.specs.Order.{CallersData, ClearData, ClearTurn, DriverData, RestoreTurn, WeakenCites, WeakenTurn}
use Rattle.caller_turns.specs.Shapes.{next_place}
use Rattle.bridge_graph.specs.Handles.{handles_of}
use Rattle.global_handles.specs.Rows.{back_of}
use Rattle.peer_heap.specs.Cycles.{clears, reply_of, reserve_left, reserve_over, restores, weakens}
use Rattle.peer_heap.specs.Mirrors.{AreTargetsRestored}
use Rattle.peer_heap.specs.Sides.{Reserve, seen}
use Rattle.dead_parts.proofs.ClearTargets.{targets_here}
use Rattle.run_check.specs.declared.cycles.OpenCycle.{OpenCycle as Kept}
use Rattle.run_check.specs.declared.replays.Replay.{Replay}
use Rattle.run_check.specs.Cycles.{CycleFollows, HasCycle, IsAtHandle, IsOpenHere}
use Rattle.run_check.specs.Follows.{LeftFits}
use Rattle.run_check.specs.Going.{HasGoneOn, HasPut}
use Rattle.run_check.specs.Judging.{AnswersRightly, MayNotReply, MayReply, next_noted}
use Rattle.run_check.proofs.DriverEntries.{cites-is, driver-is, driver-names, driver-right, driver-wrong, turn-is}
use Rattle.run_check.proofs.Opened.{candidate-listed, candidates-are, opened-on}
use Rattle.run_check.proofs.Drawing.{drawing}
use Rattle.run_check.proofs.PeerEntries.{Keeps, compared, known}

-- what the past keeps, and its managed objects
pub kept-at : (h : Finished) (past : List Noted) (m : Made) (old : Replay) (ready : MayReply h past old m) → m.caller ≡ C → (o : Op) → m.op ≡ o → is_peer_event C o ≡ true
    → PastInvariant (pinned (state_of past) no_pins)
kept-at h past m old ready driver o is on = (known h past m old ready (ap (λ t. is_peer_event t m.op) driver ∙ (ap (λ x. is_peer_event C x) is ∙ on))).kept

-- where something follows, something is kept
abbrev pub HasOpen : Linkage → Option Kept → Type 0
HasOpen s o = (x : Kept) × (o ≡ Some x) × IsOpenHere s x

-- where the driver weakens
pub record AtWeakening (stand : Stand) (s : Managed) (h : ℕ) (cites : Option ℕ) : Type 0 where
  pub opened : OpenSnap
  pub count : ℕ
  pub weakened : Bool
  pub stands : stand ≡ weakening opened count weakened false
  pub candidate : IsCandidateHandle s count h
  pub cited : cites ≡ Some opened.snap

at-weakening : (stand : Stand) (s : Managed) (h : ℕ) (cites : Option ℕ) → WeakenTurn stand s h → WeakenCites stand cites → AtWeakening stand s h cites
at-weakening (weakening o count weakened swept) s h cites t c =
    record { opened = o; count = count; weakened = weakened; stands = ap (λ b. weakening o count weakened b) t.0; candidate = t.1; cited = c }
at-weakening _ s h cites t c = absurd t

module _ (h : Finished) (m : Made) (old : Replay) (g : HNum) (is : m.op ≡ op.Weaken g) where
  module _ (past : List Noted) (ready : MayReply h past old m) where
    weaken-driver : m.caller ≡ C
    weaken-driver = driver-is m.caller (subst (IsEvent m.caller) is ready.next.turn.event)

    weaken-at : AtWeakening (state_of past).control.stand (state_of past).managed.managed g.0 m.cites
    weaken-at = at-weakening _ _ g.0 m.cites (turn-is h past m old ready (op.Weaken g) is weaken-driver) (cites-is h past m old ready (op.Weaken g) is weaken-driver)

    weaken-kept : PastInvariant (pinned (state_of past) no_pins)
    weaken-kept = kept-at h past m old ready weaken-driver (op.Weaken g) is refl

    left-fits : LeftFits (weakening weaken-at.opened weaken-at.count weaken-at.weakened false) (length (candidates_of (state_of past).managed.managed)) old.peers.reserve.left
    left-fits = subst (λ d. LeftFits d (length (candidates_of (state_of past).managed.managed)) old.peers.reserve.left) weaken-at.stands ready.sides.peers.reserve.left

    fewer : weaken-at.count < length (candidates_of (state_of past).managed.managed)
    fewer = slice_get_within (candidates_of (state_of past).managed.managed) weaken-at.count weaken-at.candidate.0 weaken-at.candidate.1

  pub weaken-may : ((past : List Noted) × MayReply h past old m) → (cites : ℕ) → m.cites ≡ Some cites → MayWeaken old.peers.state g.0 (Some cites)
  weaken-may w cites e =
      let a = weaken-at w.0 w.1 in
      subst (λ (p : PeerReplay). MayWeaken p g.0 (Some cites)) (sym w.1.sides.peers.state)
      (subst (λ c. MayWeaken (state_of w.0).peer g.0 c) (sym a.cited ∙ e)
      (next_may_be_weakened (pinned (state_of w.0) no_pins) (weaken-kept w.0 w.1) a.opened a.count g.0 a.weakened false a.stands a.candidate))

  -- a citation is there
  pub weaken-cites : m.cites ≡ None → ((past : List Noted) × MayReply h past old m) → ⊥
  weaken-cites e w = (let f : None ≡ Some (weaken-at w.0 w.1).opened.snap = sym e ∙ (weaken-at w.0 w.1).cited in cc)

  -- the cycle behind it
  gone-on : (past : List Noted) (ready : MayReply h past old m) (o : Option Kept) (new : Option Kept) → CycleFollows (state_of past) o → HasGoneOn o new → (t : Linkage)
      → t.managed ≡ (state_of past).managed
      → t.control.stand ≡ weakening (weaken-at past ready).opened ((weaken-at past ready).count + 1) true false → CycleFollows t new
  gone-on past ready None new f g t e d =
      absurd (let x : idle ≡ weakening (weaken-at past ready).opened (weaken-at past ready).count (weaken-at past ready).weakened false = sym f ∙ (weaken-at past ready).stands in cc)
  gone-on past ready (Some o) new f p t e d =
      let s = state_of past in
      let a = weaken-at past ready in
      let x = p.0 in
      let same = p.2.rest in
      let stood : IsAtHandle o.graph.nodes o.place a.count = subst (λ z. IsAtHandle o.graph.nodes o.place (next_place z)) a.stands f.next in
      let there = candidate-listed s o f (weaken-kept past ready) a.count g.0 a.candidate in
      subst (CycleFollows t) (sym p.1)
      (opened-on s t e o x f (ap (λ (z : Kept). z.graph) same) (ap (λ (z : Kept). z.candidates) same)
      (subst (λ z. HasCycle z x) (sym d) (ap (λ (z : Kept). z.cycle.0) same ∙ subst (λ z. HasCycle z o) a.stands f.stands))
      (subst (λ z. IsAtHandle o.graph.nodes x.place (next_place z)) (sym d) (p.2.next a.count there stood))
      (ap (λ (z : Kept). answers_of z.alive.values) same ∙ (f.given ∙ (ap given_at a.stands ∙ sym (ap given_at d))))
      (ap (λ (z : Kept). z.alive.room + length z.alive.values) same ∙ f.room))

  pub weaken-answers : (new : Replay) (cites : ℕ) (b : Bool) → m.cites ≡ Some cites
      → AddsLawful peer_rules drawing old.draw new.draw (seen old.peers) (seen new.peers) (weakens m.index g cites) nothing
      → Keeps old new → HasGoneOn old.cycle new.cycle → new.peers.reserve ≡ reserve_left old.peers.reserve → (IsTrue b ↔ (m.reply ≡ says.Ok)) → AnswersRightly h m old new b
  weaken-answers new cites b cited adds keeps gone reserve same =
      compared h m old new says.Ok b same
      (λ past ready e. (let a = weaken-at past ready in
      let d = weakening a.opened (a.count + 1) true false in (
        nothing,
        driver-right h past m old ready (op.Weaken g) is (weaken-driver past ready) refl says.Ok nothing new (Some cites) cited adds tt tt e keeps
            (driver-names h past m old ready (op.Weaken g) is (weaken-driver past ready) refl says.Ok nothing new (Some cites) cited adds tt tt e (λ x. x)) d
            (ap (λ z. stand_after z (length past) (op.Weaken g) m.reply nothing) a.stands) (ap (λ (r : Reserve). r.waiting) reserve ∙ ready.sides.peers.reserve.none_waits)
            (let f = left-fits past ready in let l = fewer past ready in let q = ap (λ (r : Reserve). r.left) reserve in omega (arith, f, l, q))
            (gone-on past ready old.cycle new.cycle ready.sides.cycle gone),
      )))
      (λ past ready n. driver-wrong h past m old ready (op.Weaken g) is (weaken-driver past ready) refl says.Ok nothing new (Some cites) cited adds tt tt n)

-- where it restores
pub record AtRestoring (stand : Stand) (s : Managed) (h : ℕ) : Type 0 where
  pub opened : OpenSnap
  pub answers : List Answer
  pub stands : stand ≡ restoring opened answers
  pub candidate : IsCandidateHandle s (length answers) h

at-restoring : (stand : Stand) (s : Managed) (h : ℕ) → RestoreTurn stand s h → AtRestoring stand s h
at-restoring (restoring o answers) s h t = record { opened = o; answers = answers; stands = refl; candidate = t }
at-restoring _ s h t = absurd t

-- the answer that it gives
answer-given : (b : Option HNum) → answer_of b ≡ answer_in (reply_of (back_of b))
answer-given None = refl
answer-given (Some g) = refl

module _ (h : Finished) (m : Made) (old : Replay) (g : HNum) (is : m.op ≡ op.Restore g) where
  module _ (past : List Noted) (ready : MayReply h past old m) where
    restore-driver : m.caller ≡ C
    restore-driver = driver-is m.caller (subst (IsEvent m.caller) is ready.next.turn.event)

    restore-at : AtRestoring (state_of past).control.stand (state_of past).managed.managed g.0
    restore-at = at-restoring _ _ g.0 (turn-is h past m old ready (op.Restore g) is restore-driver)

    restore-cites : m.cites ≡ None
    restore-cites = cites-is h past m old ready (op.Restore g) is restore-driver

    restore-kept : PastInvariant (pinned (state_of past) no_pins)
    restore-kept = kept-at h past m old ready restore-driver (op.Restore g) is refl

  pub restore-may : ((past : List Noted) × MayReply h past old m) → MayRestore old.peers.state g.0
  restore-may w =
      let a = restore-at w.0 w.1 in
      subst (λ (p : PeerReplay). MayRestore p g.0) (sym w.1.sides.peers.state) (next_may_be_restored (pinned (state_of w.0) no_pins) (restore-kept w.0 w.1) a.opened a.answers g.0 a.stands a.candidate)

  -- there is room for its answer
  pub restore-room : ((past : List Noted) × MayReply h past old m) → (o : Kept) → old.cycle ≡ Some o → 1 ≤ o.alive.room
  restore-room w o e =
      let s = state_of w.0 in
      let a = restore-at w.0 w.1 in
      let f : IsOpenHere s o = subst (CycleFollows s) e w.1.sides.cycle in
      let within = slice_get_within (candidates_of s.managed.managed) (length a.answers) a.candidate.0 a.candidate.1 in
      let many = candidates-are s o f in
      let count = ap length (f.given ∙ ap given_at a.stands) in
      let values = length-map o.alive.values answer_of in
      let room = f.room in
      omega (arith, within, many, count, values, room)

  put-on : (past : List Noted) (ready : MayReply h past old m) (back : Option HNum) (o : Option Kept) (new : Option Kept) → CycleFollows (state_of past) o → HasPut o new back
      → (t : Linkage) → t.managed ≡ (state_of past).managed
      → t.control.stand ≡ restoring (restore-at past ready).opened ((restore-at past ready).answers ++ answer_in (reply_of (back_of back)) ∷ []) → CycleFollows t new
  put-on past ready back None new f p t e d = absurd (let x : idle ≡ restoring (restore-at past ready).opened (restore-at past ready).answers = sym f ∙ (restore-at past ready).stands in cc)
  put-on past ready back (Some o) new f p t e d =
      let s = state_of past in
      let a = restore-at past ready in
      let x = p.0 in
      let mid = p.2.mid in
      let put = p.2.rest in
      let same = p.2.goes.rest in
      let nodes : mid.graph.nodes ≡ o.graph.nodes = ap (λ (z : Kept). z.graph.nodes) put in
      let stood : IsAtHandle o.graph.nodes o.place (length a.answers) = subst (λ z. IsAtHandle o.graph.nodes o.place (next_place z)) a.stands f.next in
      let there = candidate-listed s o f (restore-kept past ready) (length a.answers) g.0 a.candidate in
      let moved : IsAtHandle mid.graph.nodes x.place (length a.answers + 1) =
      p.2.goes.next (length a.answers) (subst (λ ns. length a.answers < length (handles_of ns)) (sym nodes) there)
      (subst (λ i. IsAtHandle mid.graph.nodes i (length a.answers)) (sym (ap (λ (z : Kept). z.place) put)) (subst (λ ns. IsAtHandle ns o.place (length a.answers)) (sym nodes) stood)) in
      let longer = length-append a.answers (answer_in (reply_of (back_of back)) ∷ []) in
      let values : x.alive.values ≡ o.alive.values ++ back ∷ [] = ap (λ (z : Kept). z.alive.values) same ∙ p.2.values in
      subst (CycleFollows t) (sym p.1)
      (opened-on s t e o x f (ap (λ (z : Kept). z.graph) same ∙ ap (λ (z : Kept). z.graph) put) (ap (λ (z : Kept). z.candidates) same ∙ ap (λ (z : Kept). z.candidates) put)
      (subst (λ z. HasCycle z x) (sym d) (ap (λ (z : Kept). z.cycle.0) same ∙ (ap (λ (z : Kept). z.cycle.0) put ∙ subst (λ z. HasCycle z o) a.stands f.stands)))
      (subst (λ z. IsAtHandle o.graph.nodes x.place (next_place z)) (sym d)
      (subst (IsAtHandle o.graph.nodes x.place) (sym longer) (subst (λ ns. IsAtHandle ns x.place (length a.answers + 1)) nodes moved)))
      (ap answers_of values
      ∙ (map-append answer_of o.alive.values (back ∷ [])
      ∙ (ap (λ l. l ++ answer_of back ∷ []) (f.given ∙ ap given_at a.stands)
      ∙ (ap (λ z. a.answers ++ z ∷ []) (answer-given back) ∙ sym (ap given_at d)))))
      (let room = f.room in
      let mid_room = p.2.room in
      let now = ap (λ (z : Kept). z.alive.room) same in
      let count = ap length values in
      let more = length-append o.alive.values (back ∷ []) in
      omega (arith, room, mid_room, now, count, more)))

  pub restore-answers : (new : Replay) (back : Option HNum) (b : Bool) → AddsLawful peer_rules drawing old.draw new.draw (seen old.peers) (seen new.peers) (restores m.index g (back_of back)) nothing
      → Keeps old new → HasPut old.cycle new.cycle back → new.peers.reserve ≡ old.peers.reserve → (IsTrue b ↔ (m.reply ≡ reply_of (back_of back))) → AnswersRightly h m old new b
  restore-answers new back b adds keeps put reserve same =
      compared h m old new (reply_of (back_of back)) b same
      (λ past ready e. (let a = restore-at past ready in
      let reply = reply_of (back_of back) in
      let d = restoring a.opened (a.answers ++ answer_in reply ∷ []) in (
        nothing,
        driver-right h past m old ready (op.Restore g) is (restore-driver past ready) refl reply nothing new None (restore-cites past ready) adds tt tt e keeps
            (driver-names h past m old ready (op.Restore g) is (restore-driver past ready) refl reply nothing new None (restore-cites past ready) adds tt tt e (λ x. x)) d
            (ap (λ z. stand_after z (length past) (op.Restore g) m.reply nothing) a.stands ∙ ap (λ r. restoring a.opened (a.answers ++ answer_in r ∷ [])) (sym e))
            (ap (λ (r : Reserve). r.waiting) reserve ∙ ready.sides.peers.reserve.none_waits) tt (put-on past ready back old.cycle new.cycle ready.sides.cycle put),
      )))
      (λ past ready n. driver-wrong h past m old ready (op.Restore g) is (restore-driver past ready) refl (reply_of (back_of back)) nothing new None (restore-cites past ready) adds tt tt n)

-- where it clears
pub record AtClearing (stand : Stand) (candidates : ℕ) : Type 0 where
  pub opened : OpenSnap
  pub answers : List Answer
  pub stands : stand ≡ restoring opened answers
  pub all : length answers ≡ candidates

at-clearing : (stand : Stand) (c : ℕ) → ClearTurn stand c → AtClearing stand c
at-clearing (restoring o answers) c t = record { opened = o; answers = answers; stands = refl; all = t }
at-clearing _ c t = absurd t

module _ (h : Finished) (m : Made) (old : Replay) (k : Cycle) (is : m.op ≡ op.Clear k) where
  module _ (past : List Noted) (ready : MayReply h past old m) where
    clear-driver : m.caller ≡ C
    clear-driver = driver-is m.caller (subst (IsEvent m.caller) is ready.next.turn.event)

    clear-at : AtClearing (state_of past).control.stand (length (candidates_of (state_of past).managed.managed))
    clear-at = at-clearing _ _ (turn-is h past m old ready (op.Clear k) is clear-driver)

    clear-cites : m.cites ≡ None
    clear-cites = cites-is h past m old ready (op.Clear k) is clear-driver

    clear-kept : PastInvariant (pinned (state_of past) no_pins)
    clear-kept = kept-at h past m old ready clear-driver (op.Clear k) is refl

    -- the cycle that is kept is the driver's
    clear-cycle : (o : Kept) → old.cycle ≡ Some o → o.cycle.0 ≡ clear-at.opened.cycle
    clear-cycle o e = (let f : IsOpenHere (state_of past) o = subst (CycleFollows (state_of past)) e ready.sides.cycle in subst (λ d. HasCycle d o) clear-at.stands f.stands)

    -- a clear of another one is wrong
    other-wrong : (o : Kept) → old.cycle ≡ Some o → (o.cycle.0 ≡ k.0 → ⊥) → MayNotReply h past m
    other-wrong o e n told r =
        let side : SideReplies h past (next_noted past m told) = subst (λ b. RepliesBehind b h past (next_noted past m told)) (ap is_read is) r in
        let stated : DriverData (state_of past).control.stand (state_of past).managed.managed (state_of past).peer.peers.issued (op.Clear k) m.reply told =
        subst (λ x. CallersData (state_of past) C x m.reply told) is (subst (λ t. CallersData (state_of past) t m.op m.reply told) clear-driver side.replies.driven) in
        n (clear-cycle o e ∙ subst (λ d. ClearData d k.0) clear-at.stands stated)

  module _ (o : Kept) (kept : old.cycle ≡ Some o) (same_cycle : o.cycle.0 ≡ k.0) where
    clear-same : (past : List Noted) (ready : MayReply h past old m) → (clear-at past ready).opened.cycle ≡ k.0
    clear-same past ready = sym (clear-cycle past ready o kept) ∙ same_cycle

    pub clear-may : ((past : List Noted) × MayReply h past old m) → MayClear old.peers.state k.0
    clear-may w =
        let a = clear-at w.0 w.1 in
        subst (λ (p : PeerReplay). MayClear p k.0) (sym w.1.sides.peers.state)
        (subst (MayClear (state_of w.0).peer) (clear-same w.0 w.1) (all_may_be_cleared (pinned (state_of w.0) no_pins) (clear-kept w.0 w.1) a.opened a.answers a.stands a.all))

    pub clear-targets : ((past : List Noted) × MayReply h past old m) → AreTargetsRestored old.peers.state
    clear-targets w =
        (let a = clear-at w.0 w.1 in subst AreTargetsRestored (sym w.1.sides.peers.state) (targets_here (pinned (state_of w.0) no_pins) (clear-kept w.0 w.1) a.opened a.answers a.stands a.all))

    cleared-on : (past : List Noted) (ready : MayReply h past old m) (p : Kept) → p ≡ record o { place = p.place } → IsAtHandle p.graph.nodes p.place 0 → (t : Linkage)
        → t.managed ≡ (state_of past).managed
        → t.control.stand ≡ restored (clear-at past ready).opened (clear-at past ready).answers (length past) → IsOpenHere t p
    cleared-on past ready p rest first t e d =
        let s = state_of past in
        let a = clear-at past ready in
        let f : IsOpenHere s o = subst (CycleFollows s) kept ready.sides.cycle in
        opened-on s t e o p f (ap (λ (z : Kept). z.graph) rest) (ap (λ (z : Kept). z.candidates) rest)
        (subst (λ z. HasCycle z p) (sym d) (ap (λ (z : Kept). z.cycle.0) rest ∙ clear-cycle past ready o kept))
        (subst (λ z. IsAtHandle o.graph.nodes p.place (next_place z)) (sym d) (subst (λ ns. IsAtHandle ns p.place 0) (ap (λ (z : Kept). z.graph.nodes) rest) first))
        (ap (λ (z : Kept). answers_of z.alive.values) rest ∙ (f.given ∙ (ap given_at a.stands ∙ sym (ap given_at d))))
        (ap (λ (z : Kept). z.alive.room + length z.alive.values) rest ∙ f.room)

    pub clear-answers : (new : Replay) (p : Kept) (b : Bool) → AddsLawful peer_rules drawing old.draw new.draw (seen old.peers) (seen new.peers) (clears m.index k) nothing
        → Keeps old new → new.cycle ≡ Some p → p ≡ record o { place = p.place } → IsAtHandle p.graph.nodes p.place 0 → new.peers.reserve ≡ reserve_over old.peers.reserve
        → (IsTrue b ↔ (m.reply ≡ says.Ok)) → AnswersRightly h m old new b
    clear-answers new p b adds keeps there rest first reserve same =
        compared h m old new says.Ok b same
        (λ past ready e. (let a = clear-at past ready in
        let stated : DriverData (state_of past).control.stand (state_of past).managed.managed (state_of past).peer.peers.issued
        (op.Clear k) says.Ok nothing = subst (λ d. ClearData d k.0) (sym a.stands) (clear-same past ready) in (
          nothing,
          driver-right h past m old ready (op.Clear k) is (clear-driver past ready) refl says.Ok nothing new None (clear-cites past ready) adds tt stated e keeps
              (driver-names h past m old ready (op.Clear k) is (clear-driver past ready) refl says.Ok nothing new None (clear-cites past ready) adds tt stated e (λ x. x))
              (restored a.opened a.answers (length past))
              (ap (λ z. stand_after z (length past) (op.Clear k) m.reply nothing) a.stands) (ap (λ (r : Reserve). r.waiting) reserve ∙ ready.sides.peers.reserve.none_waits) tt
              (λ t managed stands. subst (CycleFollows t) (sym there) (cleared-on past ready p rest first t managed stands)),
        )))
        (λ past ready n. (let a = clear-at past ready in
        driver-wrong h past m old ready (op.Clear k) is (clear-driver past ready) refl says.Ok nothing new None (clear-cites past ready) adds tt
        (subst (λ d. ClearData d k.0) (sym a.stands) (clear-same past ready)) n))
