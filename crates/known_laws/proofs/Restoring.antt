-- The restores of a past since its latest snap are the driver's answers, each of the candidate in its place. A snap
-- begins anew, a restore of the driver takes the next candidate's handle, no other entry is one, and no other entry
-- changes a candidate's handle. So what a resolve tells is what the restores answered, and it frees what no candidate
-- whose restore answered alive leads to.
use Rattle.std.proofs.Common.{Bool, true, false, true≢false, ◌≡◌, ⊎_elim, ℕ, List, [], ◌∷◌, ◌++◌, length, map, Option, Some, None, refl, sym, ap, ◌∙◌, subst}
use Rattle.known_laws.proofs.Later.{side_after, reader_after_is, kept_end}
use Rattle.known_laws.proofs.Pinned.{kept_pinned}
use Rattle.known_laws.proofs.Unpinned.{allows_same}
use Rattle.known_laws.proofs.Coming.{event_of, turn_of, side_of}
use Rattle.known_laws.specs.Known.{Comes, given, pinned, without_pins, managed_past}
use Rattle.joint_machine.specs.Linked.{ManagedLawful, Linkage, MayCome, SideLawful, managed_after, linkage_after}
use Rattle.joint_machine.specs.Lines.{is_read, IsEvent, is_peer_event}
use Rattle.joint_machine.specs.PinsTold.{bare_told, no_pins, pins_told, with_pins}
use Rattle.std.specs.Prelude.{◌↔◌, Contains, slice_get, option_map}
use Rattle.std.proofs.lemmas.Option.{same_Some, slice_get-map}
use Rattle.std.proofs.lemmas.List.{map-append, length-map}
use Rattle.joint_machine.specs.declared.names.Thread.{Thread}
use Rattle.joint_machine.specs.declared.names.Thread.TheVariants.{M, P, C}
use Rattle.joint_machine.specs.declared.names.Cycle.{Cycle}
use Rattle.joint_machine.specs.declared.events.Op.{Op}
use Rattle.joint_machine.specs.declared.events.Op.TheVariants as op
use Rattle.joint_machine.specs.declared.events.Reply.{Reply}
use Rattle.joint_machine.specs.declared.events.Made.{Made}
use Rattle.joint_machine.specs.Control.{Stand, idle, snapped, contracted, weakening, marked, restoring, restored, CallerAllows, stand_after, control_after, answer_in, IsCandidateHandle, DriverAllows}
use Rattle.joint_machine.specs.Cycles.{IsAnsweredAlive}
use Rattle.joint_machine.specs.Managed.{Managed, OpenCycle, Holds, handle_of, candidates_of, resolved}
use Rattle.joint_machine.specs.Peers.{Issued}
use Rattle.joint_machine.specs.Components.{Rises}
use Rattle.joint_machine.proofs.Members.{Contains-at}
use Rattle.joint_laws.proofs.Renewing.{renewed-given}
use Rattle.joint_machine.specs.ManagedReplay.{ManagedReplay, ManagedAllows, MayResolve, managed_answer}
use Rattle.joint_machine.specs.Run.{thread_number}
use Rattle.joint_machine.specs.Told.{Told, Noted, contraction_of, resolution_of, phase_of, Answer, said_alive, said_cleared}
use Rattle.joint_machine.proofs.Deciding.{none_some}
use Rattle.joint_machine.proofs.HeapLemmas.{candidates_of-open, IsLive-left}
use Rattle.joint_machine.proofs.Numbered.{push-at_cases, numbered-within}
use Rattle.joint_laws.proofs.LinkedEntries.{Of}
use Rattle.joint_laws.proofs.ManagedMoves.{managed_line-goes_on}
use Rattle.known_laws.specs.Pasts.{Lawful, end_of}
use Rattle.known_laws.specs.Citations.{RestoredHoldTheNew, restores_after, restores_in, AreRestored, WasRestoredAlive, FreesByRestores, ResolvesFreeByRestores, ResolvesFreeCleared}
use Rattle.known_laws.specs.Driving.{PastInvariant}
use Rattle.known_laws.proofs.Facts.{resolve_frees_cleared}
use Rattle.known_laws.proofs.KnownPasts.{past_invariant_holds}
use Rattle.known_laws.proofs.FrozenPasts.{goes_by}
use Rattle.known_laws.proofs.MirrorStands.{SameCandidates, goes-same}

-- by where the driver stands: none since the snap, or those whose answers it has
abbrev RestoredBy : Managed → List (ℕ × Answer) → Stand → Type 0
RestoredBy m rs idle = Unit {0}
RestoredBy m rs (snapped o) = rs ≡ []
RestoredBy m rs (contracted o comps heavy xrefs) = rs ≡ []
RestoredBy m rs (weakening o count x y) = rs ≡ []
RestoredBy m rs (marked o) = rs ≡ []
RestoredBy m rs (restoring o answers) = AreRestored m rs answers
RestoredBy m rs (restored o answers clear) = AreRestored m rs answers

restored-on : (m n : Managed) (rs : List (ℕ × Answer)) (answers : List Answer) → SameCandidates m n → AreRestored m rs answers → AreRestored n rs answers
restored-on m n rs answers c r = record { same = r.same; in_turn = λ i g a e. c.there i g (r.in_turn i g a e) }

by-on : (m n : Managed) (rs : List (ℕ × Answer)) (st : Stand) → SameCandidates m n → RestoredBy m rs st → RestoredBy n rs st
by-on m n rs (restoring o answers) c r = restored-on m n rs answers c r
by-on m n rs (restored o answers clear) c r = restored-on m n rs answers c r
by-on m n rs idle c r = tt
by-on m n rs (snapped o) c r = r
by-on m n rs (contracted o comps heavy xrefs) c r = r
by-on m n rs (weakening o count x y) c r = r
by-on m n rs (marked o) c r = r

none-restored : (m : Managed) (rs : List (ℕ × Answer)) → rs ≡ [] → AreRestored m rs []
none-restored m rs e = subst (λ z. AreRestored m z []) (sym e) (record { same = refl; in_turn = λ i g a q. absurd (cc) })

-- one restore more
restore-push : (m : Managed) (rs : List (ℕ × Answer)) (answers : List Answer) (h : ℕ) (a : Answer)
    → AreRestored m rs answers → IsCandidateHandle m (length answers) h → AreRestored m (rs ++ (h, a) ∷ []) (answers ++ a ∷ [])
restore-push m rs answers h a r c = record {
  same = map-append (λ (z : ℕ × Answer). z.1) rs ((h, a) ∷ []) ∙ ap (λ l. l ++ a ∷ []) r.same;
  in_turn = λ i g b e. ⊎_elim
      (λ q. r.in_turn i g b q)
      (λ (q : (i ≡ length rs) × ((h, a) ≡ (g, b))).
      let n : i ≡ length answers = q.0 ∙ (sym (length-map rs (λ (z : ℕ × Answer). z.1)) ∙ ap length r.same) in
      let s : h ≡ g = ap (λ (z : ℕ × Answer). z.0) q.1 in
      subst (IsCandidateHandle m i) s (subst (λ z. IsCandidateHandle m z h) (sym n) c))
      (push-at_cases rs (h, a) i (g, b) e);
}

restore-by : (m : Managed) (i : List Issued) (rs : List (ℕ × Answer)) (num : ℕ) (reply : Reply) (cites : Option ℕ) (told : Told) (st : Stand) (h : ℕ)
    → DriverAllows st m i (op.Restore record { 0 = h }) reply cites told → RestoredBy m rs st
    → RestoredBy m (rs ++ (h, answer_in reply) ∷ []) (stand_after st num (op.Restore record { 0 = h }) reply told)
restore-by m i rs num reply cites told (restoring o answers) h a r = restore-push m rs answers h (answer_in reply) r a.1
restore-by m i rs num reply cites told _ h a r = absurd a

-- the events that begin no restores anew, and are none
abbrev IsStill : Op → Type 0
IsStill (op.Snap k) = ⊥
IsStill (op.Restore h) = ⊥
IsStill (op.Resolve k) = ⊥
IsStill (op.Abandon k) = ⊥
IsStill _ = Unit {0}

still-by : (m : Managed) (rs : List (ℕ × Answer)) (num : ℕ) (reply : Reply) (st : Stand) (o : Op) (told : Told) → IsStill o → RestoredBy m rs st → RestoredBy m rs (stand_after st num o reply told)
still-by m rs num reply st (op.Snap k) told i r = absurd i
still-by m rs num reply st (op.Restore h) told i r = absurd i
still-by m rs num reply st (op.Resolve k) told i r = absurd i
still-by m rs num reply st (op.Abandon k) told i r = absurd i
still-by m rs num reply (snapped o) (op.Contract k) (contraction_of comps heavy xrefs) i r = r
still-by m rs num reply (contracted o comps heavy xrefs) (op.Mirror k) told i r = r
still-by m rs num reply (weakening o count x y) (op.Weaken h) told i r = r
still-by m rs num reply (weakening o count x y) op.Sweep told i r = r
still-by m rs num reply (weakening o count x y) op.Begin told i r = r
still-by m rs num reply (weakening o count x y) (op.Refused w) told i r = r
still-by m rs num reply (marked o) op.Sweep told i r = none-restored m rs r
still-by m rs num reply (restoring o answers) (op.Clear k) told i r = r
still-by m rs num reply st _ told i r = r

restores-still : (o : Op) (reply : Reply) (rs : List (ℕ × Answer)) → IsStill o → restores_after o reply rs ≡ rs
restores-still (op.Snap k) reply rs i = absurd i
restores-still (op.Restore h) reply rs i = absurd i
restores-still o reply rs i = refl

-- another thread's events are still
other-still : (t : Thread) (o : Op) → (t ≡ C → ⊥) → IsEvent t o → IsStill o
other-still C o n e = absurd (n refl)
other-still (M u) (op.Snap k) n e = e
other-still (P u) (op.Snap k) n e = e
other-still (M u) (op.Restore h) n e = e
other-still (P u) (op.Restore h) n e = e
other-still (M u) (op.Resolve k) n e = e
other-still (P u) (op.Resolve k) n e = e
other-still (M u) (op.Abandon k) n e = e
other-still (P u) (op.Abandon k) n e = e
other-still t o n e = tt

restored-step : (s : Linkage) (n : Noted) (rs : List (ℕ × Answer)) → Of s → MayCome s n → RestoredBy s.managed.managed rs s.control.stand
    → RestoredBy (linkage_after s n).managed.managed (restores_after n.entry.made.op n.entry.made.reply rs) (linkage_after s n).control.stand
restored-step s n rs k may r = by n.entry.made.caller n.entry.made.op n.told may.event may.lawful may.order
  where
    made : Thread → Op → Made
    made t o = record { caller = t; index = n.entry.made.index; op = o; reply = n.entry.made.reply; cites = n.entry.made.cites }

    R : Thread → Op → Told → ManagedReplay
    R t o told = managed_after s.managed (made t o) told (is_peer_event t o)

    Goal : Thread → Op → Told → Type 0
    Goal t o told = RestoredBy (R t o told).managed (restores_after o n.entry.made.reply rs) (control_after s.control t n.entry.number n.entry.made.index o n.entry.made.reply told).stand

    Allows : Thread → Op → Told → Type 0
    Allows t o told = CallerAllows s.control s.managed.managed s.peer.peers.issued t n.entry.made.index o n.entry.made.reply n.entry.made.cites told

    others : (t : Thread) (o : Op) (told : Told) → (t ≡ C → ⊥) → IsEvent t o → SideLawful (is_peer_event t o) s (made t o) told
        → RestoredBy (R t o told).managed (restores_after o n.entry.made.reply rs) s.control.stand
    others t o told x e l = subst (λ z. RestoredBy (R t o told).managed z s.control.stand) (sym (restores-still o n.entry.made.reply rs (other-still t o x e)))
        (by-on s.managed.managed (R t o told).managed rs s.control.stand
        (goes-same s.managed.managed (R t o told).managed k.managed.managed (goes_by s.managed (made t o) told (is_peer_event t o) s refl x e k.managed l)) r)

    still : (o : Op) (told : Told) → IsStill o → RestoredBy s.managed.managed rs (stand_after s.control.stand n.entry.number o n.entry.made.reply told)
    still o told i = still-by s.managed.managed rs n.entry.number n.entry.made.reply s.control.stand o told i r

    by : (t : Thread) (o : Op) (told : Told) → IsEvent t o → SideLawful (is_peer_event t o) s (made t o) told → Allows t o told → Goal t o told
    by (M x) o told e l a = others (M x) o told (λ z. cc) e l
    by (P x) o told e l a = others (P x) o told (λ z. cc) e l
    by C (op.Line x) told e l a = by-on s.managed.managed (R C (op.Line x) told).managed rs s.control.stand
        (goes-same s.managed.managed (R C (op.Line x) told).managed k.managed.managed (managed_line-goes_on s.managed.managed (thread_number C) x k.managed.managed.places k.managed.managed.cells)) r
    by C (op.Snap c) told e l a = refl
    by C (op.Contract c) (contraction_of comps heavy xrefs) e l a = still (op.Contract c) (contraction_of comps heavy xrefs) tt
    by C (op.Contract c) told e l a = absurd l.allowed
    by C (op.Mirror c) told e l a = still (op.Mirror c) told tt
    by C (op.Weaken h) told e l a = still (op.Weaken h) told tt
    by C op.Begin told e l a = still op.Begin told tt
    by C op.Sweep told e l a = still op.Sweep told tt
    by C (op.Restore h) told e l a = restore-by s.managed.managed s.peer.peers.issued rs n.entry.number n.entry.made.reply n.entry.made.cites told s.control.stand h.0 a r
    by C (op.Clear c) told e l a = still (op.Clear c) told tt
    by C (op.Resolve c) told e l a = tt
    by C (op.Abandon c) told e l a = tt
    by C (op.Refused w) (phase_of p) e l a = still (op.Refused w) (phase_of p) tt
    by C (op.Refused w) told e l a = absurd l.allowed
    by C _ told e l a = absurd a

-- a line begins and ends no restores
restores-read : (o : Op) (reply : Reply) (rs : List (ℕ × Answer)) → is_read o ≡ true → restores_after o reply rs ≡ rs
restores-read (op.Snap k) reply rs e = absurd (true≢false (sym e))
restores-read (op.Restore h) reply rs e = absurd (true≢false (sym e))
restores-read o reply rs e = refl

pinned_candidates : (m : Managed) (p : List (Option ℕ)) → SameCandidates m (record m { pins = p })
pinned_candidates m p = record { candidates = refl; there = λ i h w. w; back = λ i h w. w }

restored_in : (h : List Noted) → Lawful h → RestoredBy (end_of h).managed.managed (restores_in h) (end_of h).control.stand
restored_in [] l = tt
restored_in (x ∷ h) l = by (restored_in h l.1) (is_read x.entry.made.op) refl l.0.comes
  where
    s : Linkage
    s = end_of h

    Goal : Linkage → List (ℕ × Answer) → Type 0
    Goal z rs = RestoredBy z.managed.managed rs z.control.stand

    by : RestoredBy s.managed.managed (restores_in h) s.control.stand → (r : Bool) → is_read x.entry.made.op ≡ r → Comes r s x → Goal (end_of (x ∷ h)) (restores_in (x ∷ h))
    by q true e w =
        let a = reader_after_is s x e w in
        let z : Goal (linkage_after s a.note) (restores_after a.note.entry.made.op a.note.entry.made.reply (restores_in h)) = restored-step s a.note (restores_in h) (kept_end h l.1) a.comes q in
        subst (λ z. Goal z (restores_in (x ∷ h))) (sym a.same)
        (subst (Goal (linkage_after s a.note)) (ap (λ o. restores_after o a.note.entry.made.reply (restores_in h)) a.line.1 ∙ sym (restores-read x.entry.made.op x.entry.made.reply (restores_in h) e))
        z)
    by q false e w =
        let a = side_after s x e in
        let g = given s x.told in
        let m = linkage_after g (without_pins x) in
        let z = restored-step g (without_pins x) (restores_in h) (kept_pinned s _ w.stand (kept_end h l.1)) w.comes
        (by-on s.managed.managed g.managed.managed (restores_in h) s.control.stand (pinned_candidates s.managed.managed _) q) in
        subst (λ z. Goal z (restores_in (x ∷ h))) (sym a.same) (by-on m.managed.managed (pinned m a.pins).managed.managed
        (restores_in (x ∷ h)) m.control.stand (pinned_candidates m.managed.managed a.pins) z)

-- the restore in a place, by the answer in it
restore-at : (rs : List (ℕ × Answer)) (i : ℕ) (a : Answer) → slice_get (map (λ r. r.1) rs) i ≡ Some a → (g : ℕ) × (slice_get rs i ≡ Some (g, a))
restore-at rs i a e = by (slice_get rs i) refl
  where
    f : ℕ × Answer → Answer
    f r = r.1

    by : (o : Option (ℕ × Answer)) → slice_get rs i ≡ o → (g : ℕ) × (slice_get rs i ≡ Some (g, a))
    by None q = absurd (none_some a (ap (option_map f) (sym q) ∙ (sym (slice_get-map f rs i) ∙ e)))
    by (Some r) q = (r.0, q ∙ (λ k. Some (r.0, same_Some r.1 a (ap (option_map f) (sym q) ∙ (sym (slice_get-map f rs i) ∙ e)) k)))

module _ (m : Managed) (c : OpenCycle) (o : m.cycle ≡ Some c) (rs : List (ℕ × Answer)) (answers : List Answer) (r : AreRestored m rs answers) where
  alive-to : (x : ℕ) → IsAnsweredAlive c.candidates answers x → WasRestoredAlive m rs x
  alive-to x w =
      let g = restore-at rs w.0 (said_alive w.2.0) (ap (λ l. slice_get l w.0) r.same ∙ w.2.1) in
      let h = r.in_turn w.0 g.0 (said_alive w.2.0) g.1 in
      let at : slice_get (candidates_of m) w.0 ≡ Some x = ap (λ l. slice_get l w.0) (candidates_of-open m c o) ∙ w.1 in
      record {
        place = w.0;
        handle = g.0;
        candidate = at;
        holds = subst (λ z. handle_of m z ≡ Some g.0) (same_Some _ _ (sym h.1 ∙ at)) h.2;
        answer = said_alive w.2.0;
        answered = g.1;
        kept = (w.2.0, refl);
      }

  alive-from : (x : ℕ) → WasRestoredAlive m rs x → IsAnsweredAlive c.candidates answers x
  alive-from x w = (
    w.place,
    ap (λ l. slice_get l w.place) (sym (candidates_of-open m c o)) ∙ w.candidate,
    (w.kept.0, ap (λ l. slice_get l w.place) (sym r.same) ∙ (slice_get-map (λ (z : ℕ × Answer). z.1) rs w.place ∙ (ap (option_map (λ (z : ℕ × Answer). z.1)) w.answered ∙ ap (λ z. Some z) w.kept.1))),
  )

resolve-by : (s : ManagedReplay) (i : List Issued) (rs : List (ℕ × Answer)) (st : Stand) (k : Cycle) (reply : Reply) (cites : Option ℕ) (told : Told)
    → RestoredBy s.managed rs st → DriverAllows st s.managed i (op.Resolve k) reply cites told → ManagedAllows s (op.Resolve k) told → FreesByRestores s.managed rs told k.0
resolve-by s i rs (restored o answers clear) k reply cites (resolution_of alive freed) r a w =
    let q : AreRestored s.managed rs alive = subst (AreRestored s.managed rs) (sym a.2) r in
    record {
      cycle = w.cycle;
      open_cycle = w.open_cycle;
      answers = alive;
      freed = freed;
      tells = refl;
      restored = q;
      one_each = sym (length-map rs (λ (z : ℕ × Answer). z.1)) ∙ (ap length q.same ∙ w.answers);
      frees = λ m. (
        λ c. let f = (w.resolution.frees m).0 c in (f.0, λ z. f.1 (z.0, alive-from s.managed w.cycle w.open_cycle.0 rs alive q z.0 z.1, z.2)),
        λ c. (w.resolution.frees m).1 (c.0, λ z. c.1 (z.0, alive-to s.managed w.cycle w.open_cycle.0 rs alive q z.0 z.1, z.2)),
      );
    }
resolve-by s i rs (restored o answers clear) k reply cites told r a w = absurd a
resolve-by s i rs st k reply cites told r a w = absurd a

-- what a resolve asks for, it asks for without pins
resolve_allowed : (x : Noted) (h : List Noted) (l : Lawful (x ∷ h)) (k : Cycle) → x.entry.made.op ≡ op.Resolve k → ManagedAllows (end_of h).managed (op.Resolve k) (bare_told x.told)
resolve_allowed x h l k e =
    let w = side_of x h l (ap is_read e) in
    let p : is_peer_event x.entry.made.caller x.entry.made.op ≡ false = ap (is_peer_event x.entry.made.caller) e in
    let a : ManagedLawful (given (end_of h) x.told).managed x.entry.made (bare_told x.told) = subst (λ b. SideLawful b (given (end_of h) x.told) x.entry.made (bare_told x.told)) p w.comes.lawful in
    allows_same (end_of h).managed.managed.pins (given (end_of h) x.told).managed (op.Resolve k) (bare_told x.told) refl
    (subst (λ o. ManagedAllows (given (end_of h) x.told).managed o (bare_told x.told)) e a.allowed)

pub resolves_free_by_restores : ResolvesFreeByRestores
resolves_free_by_restores x h l k e = by x.entry.made.caller (subst (IsEvent x.entry.made.caller) e (event_of x h l))
    (subst (λ o. CallerAllows (end_of h).control (end_of h).managed.managed
    (end_of h).peer.peers.issued x.entry.made.caller x.entry.made.index o x.entry.made.reply x.entry.made.cites (bare_told x.told)) e (turn_of x h l))
  where
    by : (t : Thread) → IsEvent t (op.Resolve k) → CallerAllows (end_of h).control (end_of h).managed.managed
        (end_of h).peer.peers.issued t x.entry.made.index (op.Resolve k) x.entry.made.reply x.entry.made.cites (bare_told x.told)
        → FreesByRestores (end_of h).managed.managed (restores_in h) (bare_told x.told) k.0
    by C v a = resolve-by (end_of h).managed (end_of h).peer.peers.issued (restores_in h) (end_of h).control.stand k
        x.entry.made.reply x.entry.made.cites (bare_told x.told) (restored_in h l.1) a (resolve_allowed x h l k e)
    by (M u) v a = absurd v
    by (P u) v a = absurd v

-- the resolve of a past, by where the driver stands behind it
cleared-by : (s : Linkage) → PastInvariant s → (rs : List (ℕ × Answer)) (st : Stand) (k : Cycle) (reply : Reply) (cites : Option ℕ) (answers : List Answer) (freed : List ℕ)
    → s.control.stand ≡ st → RestoredBy s.managed.managed rs st → DriverAllows st s.managed.managed s.peer.peers.issued (op.Resolve k) reply cites (resolution_of answers freed)
    → ManagedAllows s.managed (op.Resolve k) (resolution_of answers freed) → (i g m : ℕ) (a : Answer)
    → slice_get rs i ≡ Some (g, a) → slice_get (candidates_of s.managed.managed) i ≡ Some m → Contains freed m ↔ (a ≡ said_cleared)
cleared-by s kept rs (restored o told clear) k reply cites answers freed e r w v i g m a at c =
    let v' : MayResolve s.managed k.0 told freed = subst (λ z. MayResolve s.managed k.0 z freed) w.2 v in
    let answered : slice_get told i ≡ Some a = ap (λ l. slice_get l i) (sym r.same) ∙ (slice_get-map (λ (z : ℕ × Answer). z.1) rs i ∙ ap (option_map (λ (z : ℕ × Answer). z.1)) at) in
    let f = resolve_frees_cleared s kept o told clear e k.0 freed v' i m c in
    (λ d. same_Some _ _ (sym answered ∙ f.0 d), λ d. f.1 (answered ∙ ap Some d))
cleared-by s kept rs st k reply cites answers freed e r w v i g m a at c = absurd w

pub resolves_free_cleared : ResolvesFreeCleared
resolves_free_cleared x h l k e answers freed t = by x.entry.made.caller (subst (IsEvent x.entry.made.caller) e (event_of x h l))
    (subst (λ o. CallerAllows (end_of h).control (end_of h).managed.managed (end_of h).peer.peers.issued x.entry.made.caller x.entry.made.index o x.entry.made.reply x.entry.made.cites
    (resolution_of answers freed)) e (subst (λ z. CallerAllows (end_of h).control (end_of h).managed.managed
    (end_of h).peer.peers.issued x.entry.made.caller x.entry.made.index x.entry.made.op x.entry.made.reply x.entry.made.cites z) t (turn_of x h l)))
  where
    Frees : Type 0
    Frees = (i g m : ℕ) (a : Answer) → slice_get (restores_in h) i ≡ Some (g, a) → slice_get (candidates_of (end_of h).managed.managed) i ≡ Some m → Contains freed m ↔ (a ≡ said_cleared)

    by : (u : Thread) → IsEvent u (op.Resolve k) → CallerAllows (end_of h).control (end_of h).managed.managed
        (end_of h).peer.peers.issued u x.entry.made.index (op.Resolve k) x.entry.made.reply x.entry.made.cites (resolution_of answers freed) → Frees
    by C v a = cleared-by (end_of h) (past_invariant_holds h l.1) (restores_in h) (end_of h).control.stand k x.entry.made.reply x.entry.made.cites answers freed refl
        (restored_in h l.1) a (subst (ManagedAllows (end_of h).managed (op.Resolve k)) t (resolve_allowed x h l k e))
    by (M u) v a = absurd v
    by (P u) v a = absurd v

-- after the resolve each candidate whose restore answered alive holds the handle that the restore gave
resolved_holds : (h : List Noted) (x : Noted) (k : Cycle) (answers : List Answer) (freed : List ℕ) (m n : ℕ)
    → bare_told x.told ≡ resolution_of answers freed → (t : Thread) → IsEvent t (op.Resolve k) → Holds (resolved (end_of h).managed.managed answers freed) m n
    → Holds (managed_past (end_of h).managed (record { caller = t; index = x.entry.made.index; op = op.Resolve k; reply = x.entry.made.reply; cites = x.entry.made.cites }) x.told
    (is_peer_event t (op.Resolve k)) false).managed m n
resolved_holds h x k answers freed m n e C v w = subst (λ z. Holds (with_pins (managed_answer (with_pins (end_of h).managed (pins_told x.told)) C (op.Resolve k) z).state no_pins).managed m n)
    (sym e) (record { live = w.live; held = w.held })
resolved_holds h x k answers freed m n e (M u) v w = absurd v
resolved_holds h x k answers freed m n e (P u) v w = absurd v

pub restored_hold_the_new : RestoredHoldTheNew
restored_hold_the_new x h l k e i g m n at c =
    let f = resolves_free_by_restores x h l k e in
    let freed = resolves_free_cleared x h l k e f.answers f.freed f.tells i g m (said_alive n) at c in
    let s = (end_of h).managed.managed in
    let kept = (kept_end h l.1).managed.managed in
    let cut = kept.dead f.cycle f.open_cycle.0 in
    let own : candidates_of s ≡ f.cycle.candidates = candidates_of-open s f.cycle f.open_cycle.0 in
    let b = ((cut.candidates m).0 (Contains-at f.cycle.candidates i m (subst (λ z. slice_get z i ≡ Some m) own c))).1 in
    let within = numbered-within s.held m (Some b.0) b.1.held in
    let answered : slice_get f.answers i ≡ Some (said_alive n) = ap (λ z. slice_get z i) (sym f.restored.same)
    ∙ (slice_get-map (λ (z : ℕ × Answer). z.1) (restores_in h) i ∙ ap (option_map (λ (z : ℕ × Answer). z.1)) at) in
    subst (λ o. Holds (managed_past (end_of h).managed (record { caller = x.entry.made.caller; index = x.entry.made.index; op = o; reply = x.entry.made.reply; cites = x.entry.made.cites }) x.told
    (is_peer_event x.entry.made.caller o) (is_read o)).managed m n) (sym e)
    (resolved_holds h x k f.answers f.freed m n f.tells x.entry.made.caller (subst (IsEvent x.entry.made.caller) e (event_of x h l)) (record {
      live = IsLive-left s.heap f.freed m b.1.live (λ q. not_cleared n (freed.0 q));
      held = renewed-given s.held (candidates_of s) f.answers m n (subst Rises (sym own) cut.rise) within.0 within.1 (record { place = i; candidate = c; answer = answered });
    }))
  where
    not_cleared : (n : ℕ) → said_alive n ≡ said_cleared → ⊥
    not_cleared n e = cc
