-- The mirror is as the driver's stand says. Another thread's entry leaves the mirror alone, and the candidates with
-- their handles, since nobody names the dead part. A mirror begins with nothing weakened; a weaken and a restore of the
-- driver take the handle of the next candidate; a begin comes when all are weakened; after a clear none stands.
use Rattle.std.proofs.Common.{◌≡◌, ⊎_elim, ℕ, ◌+◌, ◌<◌, true, List, [], ◌∷◌, ◌++◌, length, Option, Some, None, refl, sym, ap, ◌∙◌, subst, arith, length-append, append-nil}
use Rattle.std.specs.Prelude.{Contains, ◌↔◌, slice_get}
use Rattle.std.proofs.lemmas.Option.{same_Some}
use Rattle.std.proofs.lemmas.List.Elements.{Contains-append_cases, Contains-append_left, Contains-append_right}
use Rattle.joint_machine.specs.declared.names.Thread.{Thread}
use Rattle.joint_machine.specs.declared.names.Thread.TheVariants.{M, P, C}
use Rattle.joint_machine.specs.declared.events.Op.{Op}
use Rattle.joint_machine.specs.declared.events.Op.TheVariants as op
use Rattle.joint_machine.specs.declared.events.Made.{Made}
use Rattle.joint_machine.specs.declared.events.Reply.{Reply}
use Rattle.joint_machine.specs.declared.events.Reply.TheVariants as says
use Rattle.joint_machine.specs.Control.{CallerAllows, OpenSnap, Stand, idle, snapped, contracted, weakening, marked, restoring, restored, stand_after, control_after, IsCandidateHandle, answer_in}
use Rattle.joint_machine.specs.Control.{DriverAllows}
use Rattle.joint_machine.specs.Lines.{IsEvent, is_peer_event}
use Rattle.joint_machine.specs.Linked.{Linkage, MayCome, SideLawful, managed_after, peer_after, linkage_after}
use Rattle.joint_machine.specs.Managed.{Managed, OpenCycle, handle_of, candidates_of}
use Rattle.joint_machine.specs.ManagedReplay.{ManagedReplay}
use Rattle.joint_machine.specs.PeerReplay.{PeerReplay, Mirror, mirrored, row_of, with_weakened, with_restored, TableRow, restored_by, withdrawn, with_given}
use Rattle.joint_machine.specs.Run.{thread_number}
use Rattle.joint_machine.specs.Told.{Told, Noted, nothing, contraction_of, references_of, phase_of, Answer, said_alive, said_cleared, handles_given}
use Rattle.joint_machine.proofs.HeapLemmas.{candidates_of-open}
use Rattle.joint_machine.proofs.Members.{Contains-nil, Contains-here, Contains-cons_cases, Contains-at, last-or}
use Rattle.joint_laws.specs.ManagedInvariants.{ManagedInvariant}
use Rattle.joint_laws.proofs.LinkedEntries.{Of}
use Rattle.joint_laws.proofs.ManagedKeeping.{dead-held, cut_on}
use Rattle.joint_laws.proofs.ManagedMoves.{GoesOn, managed_line-goes_on}
use Rattle.known_laws.specs.Driving.{IsMirrorOf, MirrorFits}
use Rattle.known_laws.proofs.FrozenPasts.{goes_by}
use Rattle.known_laws.proofs.PeerKeeps.{unmirroring, same_mirror_after}
use Rattle.joint_laws.proofs.ManagedEntries.{handle-same}
use Rattle.joint_machine.specs.Components.{End}
use Rattle.joint_machine.specs.Peers.{next_handle}
use Rattle.joint_machine.proofs.Deciding.{none_some}
use Rattle.joint_laws.proofs.Restores.{restored-cases}

-- the candidates and their handles are the same
pub record SameCandidates (m n : Managed) : Type 0 where
  pub candidates : candidates_of n ≡ candidates_of m
  pub there : (i h : ℕ) → IsCandidateHandle m i h → IsCandidateHandle n i h
  pub back : (i h : ℕ) → IsCandidateHandle n i h → IsCandidateHandle m i h

pub same_candidates : (m : Managed) → SameCandidates m m
same_candidates m = record { candidates = refl; there = λ i h w. w; back = λ i h w. w }

-- while a cycle stays open its candidates keep their handles
pub goes-same : (s u : Managed) → ManagedInvariant s → GoesOn s u → SameCandidates s u
goes-same s u k g = record {
  candidates = same;
  there = λ i h w. (w.0, subst (λ z. slice_get z i ≡ Some w.0) (sym same) w.1, handle w.0 (Contains-at (candidates_of s) i w.0 w.1) ∙ w.2);
  back = λ i h w. let at : slice_get (candidates_of s) i ≡ Some w.0 = subst (λ z. slice_get z i ≡ Some w.0) same w.1 in (w.0, at, sym (handle w.0 (Contains-at (candidates_of s) i w.0 at)) ∙ w.2);
}
  where
    same : candidates_of u ≡ candidates_of s
    same = ap (λ (o : Option OpenCycle). elim o [ None ↦ [] | Some c ↦ c.candidates ]) g.cycle

    by : (x : Option OpenCycle) → s.cycle ≡ x → (m : ℕ) → Contains (candidates_of s) m → handle_of u m ≡ handle_of s m
    by None e m c = absurd (Contains-nil m (subst (λ (o : Option OpenCycle). Contains (elim o [ None ↦ [] | Some c ↦ c.candidates ]) m) e c))
    by (Some c) e m w =
        let d = (((k.dead c e).candidates m).0 (subst (λ z. Contains z m) (candidates_of-open s c e) w)).0 in
        handle-same s u m ((k.dead c e).live m d) ((cut_on s u k g c e).live m d) (dead-held s u k g c e m d)

    handle : (m : ℕ) → Contains (candidates_of s) m → handle_of u m ≡ handle_of s m
    handle m c = by s.cycle refl m c

mirror_on : (r r' : ManagedReplay) (s s' : PeerReplay) (o : OpenSnap) (a : ℕ) (b : List Answer)
    → SameCandidates r.managed r'.managed → s'.mirror ≡ s.mirror → IsMirrorOf r s o a b → IsMirrorOf r' s' o a b
mirror_on r r' s s' o a b c e m = record {
  mirror = m.mirror;
  stands = e ∙ m.stands;
  cycle = m.cycle;
  snap = m.snap;
  weak_ones = λ h. (λ x. let w = (m.weak_ones h).0 x in (w.0, w.1, c.there w.0 h w.2), λ w. (m.weak_ones h).1 (w.0, w.1, c.back w.0 h w.2));
  back = λ h. (λ x. let w = (m.back h).0 x in (w.0, w.1, c.there w.0 h w.2), λ w. (m.back h).1 (w.0, w.1, c.back w.0 h w.2));
  weak_count = m.weak_count;
  given = m.given;
}

fits_on : (r r' : ManagedReplay) (s s' : PeerReplay) (st : Stand) → SameCandidates r.managed r'.managed → s'.mirror ≡ s.mirror → MirrorFits r s st → MirrorFits r' s' st
fits_on r r' s s' (weakening o count x y) c e m = mirror_on r r' s s' o count [] c e m
fits_on r r' s s' (marked o) c e m = subst (λ z. IsMirrorOf r' s' o (length z) []) (sym c.candidates) (mirror_on r r' s s' o _ [] c e m)
fits_on r r' s s' (restoring o answers) c e m = subst (λ z. IsMirrorOf r' s' o (length z) answers) (sym c.candidates) (mirror_on r r' s s' o _ answers c e m)
fits_on r r' s s' idle c e m = tt
fits_on r r' s s' (snapped o) c e m = tt
fits_on r r' s s' (contracted o comps heavy xrefs) c e m = tt
fits_on r r' s s' (restored o answers clear) c e m = tt

-- the next candidate's handle is put into a list
pushed : (m : Managed) (xs : List ℕ) (n h : ℕ) → ((g : ℕ) → Contains xs g ↔ ((l : ℕ) × (l < n) × IsCandidateHandle m l g))
    → IsCandidateHandle m n h → (g : ℕ) → Contains (xs ++ h ∷ []) g ↔ ((l : ℕ) × (l < n + 1) × IsCandidateHandle m l g)
pushed m xs n h f c g = (
  λ w. ⊎_elim
      (λ p. let z = (f g).0 p in let l = z.1 in (z.0, omega (arith, l), z.2))
      (λ p. ⊎_elim (λ (e : h ≡ g). (n, omega arith, subst (IsCandidateHandle m n) e c)) (λ q. absurd (Contains-nil g q)) (Contains-cons_cases h [] g p))
      (Contains-append_cases xs (h ∷ []) g w),
  λ w. ⊎_elim
      (λ p. Contains-append_left xs (h ∷ []) g ((f g).1 (w.0, p, w.2)))
      (λ (p : w.0 ≡ n). Contains-append_right xs (h ∷ []) g (subst (Contains (h ∷ [])) (one (subst (λ l. IsCandidateHandle m l g) p w.2)) (Contains-here h [])))
      (last-or w.0 n w.1),
)
  where
    one : IsCandidateHandle m n g → h ≡ g
    one d = let same : c.0 ≡ d.0 = same_Some _ _ (sym c.1 ∙ d.1) in same_Some _ _ (sym c.2 ∙ (ap (handle_of m) same ∙ d.2))

none_yet : (m : Managed) (g : ℕ) → Contains [] g ↔ ((l : ℕ) × (l < 0) × IsCandidateHandle m l g)
none_yet m g = (λ w. absurd (Contains-nil g w), λ w. let l = w.1 in absurd (omega (arith, l)))

-- the handle that one answer gave
abbrev pub given_by : Answer → List ℕ
given_by (said_alive h) = h ∷ []
given_by said_cleared = []

given-more : (answers : List Answer) (b : Answer) → handles_given (answers ++ b ∷ []) ≡ handles_given answers ++ given_by b
given-more [] (said_alive h) = refl
given-more [] said_cleared = refl
given-more (said_alive h ∷ answers) b = ap (λ z. h ∷ z) (given-more answers b)
given-more (said_cleared ∷ answers) b = given-more answers b

-- a mirror in which a handle was restored, with that answer
pub record IsRestoredOf (m n : Mirror) (h : ℕ) (b : Answer) : Type 0 where
  pub cycle : n.cycle ≡ m.cycle
  pub snap : n.snap ≡ m.snap
  pub weakened : n.weakened ≡ m.weakened
  pub restored : n.restored ≡ m.restored ++ h ∷ []
  pub renewed : n.renewed ≡ m.renewed ++ given_by b

module _ (r : ManagedReplay) (s : PeerReplay) where
  begun_mirror : (o : OpenSnap) (k : ℕ) (refs : List (End × End)) (cites : Option ℕ) → o.cycle ≡ k → cites ≡ Some o.snap → IsMirrorOf r (mirrored s k cites refs) o 0 []
  begun_mirror o k refs cites e f = subst (λ c. IsMirrorOf r (mirrored s k c refs) o 0 []) (sym f) (record {
    mirror = record { cycle = k; snap = o.snap; weakened = []; restored = []; renewed = [] };
    stands = refl;
    cycle = sym e;
    snap = refl;
    weak_ones = none_yet r.managed;
    back = none_yet r.managed;
    weak_count = refl;
    given = refl;
  })

  weakened_mirror : (t : PeerReplay) (o : OpenSnap) (n : ℕ) (b : List Answer) (h : ℕ) → ((m : Mirror) → s.mirror ≡ Some m → t.mirror ≡ Some (record m { weakened = m.weakened ++ h ∷ [] }))
      → IsCandidateHandle r.managed n h → IsMirrorOf r s o n b → IsMirrorOf r t o (n + 1) b
  weakened_mirror t o n b h e c m = record {
    mirror = record m.mirror { weakened = m.mirror.weakened ++ h ∷ [] };
    stands = e m.mirror m.stands;
    cycle = m.cycle;
    snap = m.snap;
    weak_ones = pushed r.managed m.mirror.weakened n h m.weak_ones c;
    back = m.back;
    weak_count = length-append m.mirror.weakened (h ∷ []) ∙ ap (λ z. z + 1) m.weak_count;
    given = m.given;
  }

  restored_mirror : (t : PeerReplay) (o : OpenSnap) (a : ℕ) (answers : List Answer) (b : Answer) (h : ℕ)
      → ((m : Mirror) → s.mirror ≡ Some m → (n : Mirror) × (t.mirror ≡ Some n) × IsRestoredOf m n h b)
      → IsCandidateHandle r.managed (length answers) h → IsMirrorOf r s o a answers → IsMirrorOf r t o a (answers ++ b ∷ [])
  restored_mirror t o a answers b h e c m =
      let now = e m.mirror m.stands in
      let n : Mirror = now.0 in
      let x = now.2 in
      let one : length (answers ++ b ∷ []) ≡ length answers + 1 = length-append answers (b ∷ []) in
      record {
        mirror = n;
        stands = now.1;
        cycle = x.cycle ∙ m.cycle;
        snap = x.snap ∙ m.snap;
        weak_ones = subst (λ ws. (g : ℕ) → Contains ws g ↔ ((l : ℕ) × (l < a) × IsCandidateHandle r.managed l g)) (sym x.weakened) m.weak_ones;
        back = subst (λ ws. (g : ℕ) → Contains ws g ↔ ((l : ℕ) × (l < length (answers ++ b ∷ [])) × IsCandidateHandle r.managed l g)) (sym x.restored)
            (subst (λ k. (g : ℕ) → Contains (m.mirror.restored ++ h ∷ []) g ↔ ((l : ℕ) × (l < k) × IsCandidateHandle r.managed l g))
            (sym one) (pushed r.managed m.mirror.restored (length answers) h m.back c));
        weak_count = ap length x.weakened ∙ m.weak_count;
        given = x.renewed ∙ (ap (λ z. z ++ given_by b) m.given ∙ sym (given-more answers b));
      }

-- what a restore does to the mirror
restored-mirror : (s : PeerReplay) (h : ℕ) (x : Option TableRow) (row : TableRow) (reply : Reply) → x ≡ Some row → reply ≡ (restored_by s h x).reply
    → (m : Mirror) → s.mirror ≡ Some m → (n : Mirror) × ((restored_by s h x).state.mirror ≡ Some n) × IsRestoredOf m n h (answer_in reply)
restored-mirror s h x row reply e q m f = restored-cases (λ a. reply ≡ a.reply → (n : Mirror) × (a.state.mirror ≡ Some n) × IsRestoredOf m n h (answer_in reply)) s h x
    (λ g r. absurd (none_some row (sym g ∙ e)))
    (λ y g c r. out r)
    (λ g r. out r)
    (λ y p g c l r. (
      record m { restored = m.restored ++ h ∷ []; renewed = m.renewed ++ next_handle s.peers ∷ [] },
      ap (λ z. with_given (with_restored z h) (next_handle s.peers)) f,
      record { cycle = refl; snap = refl; weakened = refl; restored = refl; renewed = ap (λ z. m.renewed ++ given_by (answer_in z)) (sym r) },
    ))
    q
  where
    out : reply ≡ says.Cleared → (n : Mirror) × ((withdrawn s h).mirror ≡ Some n) × IsRestoredOf m n h (answer_in reply)
    out r = (
      record m { restored = m.restored ++ h ∷ [] },
      ap (λ z. with_restored z h) f,
      record { cycle = refl; snap = refl; weakened = refl; restored = refl; renewed = sym (append-nil m.renewed) ∙ ap (λ z. m.renewed ++ given_by (answer_in z)) (sym r) },
    )

-- the driver's entries
module _ (r : ManagedReplay) (s t : PeerReplay) (num : ℕ) (reply : Reply) (cites : Option ℕ) (told : Told) where
  mirror-fits : (st : Stand) (k : ℕ) (refs : List (End × End)) → t ≡ mirrored s k cites refs
      → DriverAllows st r.managed s.peers.issued (op.Mirror record { 0 = k }) reply cites (references_of refs)
      → MirrorFits r t (stand_after st num (op.Mirror record { 0 = k }) reply told)
  mirror-fits (contracted o comps heavy xrefs) k refs e a = subst (λ z. IsMirrorOf r z o 0 []) (sym e) (begun_mirror r s o k refs cites a.0 a.1)
  mirror-fits _ k refs e a = absurd a

  weaken-fits : (st : Stand) (h : ℕ) → ((m : Mirror) → s.mirror ≡ Some m → t.mirror ≡ Some (record m { weakened = m.weakened ++ h ∷ [] }))
      → DriverAllows st r.managed s.peers.issued (op.Weaken record { 0 = h }) reply cites told → MirrorFits r s st → MirrorFits r t (stand_after st num (op.Weaken record { 0 = h }) reply told)
  weaken-fits (weakening o count x y) h e a m = weakened_mirror r s t o count [] h e a.2 m
  weaken-fits _ h e a m = absurd a

  begin-fits : (st : Stand) (reply : Reply) → t.mirror ≡ s.mirror → DriverAllows st r.managed s.peers.issued op.Begin reply cites told
      → MirrorFits r s st → MirrorFits r t (stand_after st num op.Begin reply told)
  begin-fits (weakening o count x y) (says.Mark j) e a m = subst (λ n. IsMirrorOf r t o n []) a.0 (mirror_on r r s t o count [] (same_candidates r.managed) e m)
  begin-fits (weakening o count x y) _ e a m = absurd a
  begin-fits _ reply e a m = absurd a

  sweep-fits : (st : Stand) → t.mirror ≡ s.mirror → DriverAllows st r.managed s.peers.issued op.Sweep reply cites told
      → MirrorFits r s st → MirrorFits r t (stand_after st num op.Sweep reply told)
  sweep-fits (weakening o count x y) e a m = mirror_on r r s t o count [] (same_candidates r.managed) e m
  sweep-fits (marked o) e a m = mirror_on r r s t o _ [] (same_candidates r.managed) e m
  sweep-fits _ e a m = absurd a

  restore-fits : (st : Stand) (h : ℕ) → ((m : Mirror) → s.mirror ≡ Some m → (n : Mirror) × (t.mirror ≡ Some n) × IsRestoredOf m n h (answer_in reply))
      → DriverAllows st r.managed s.peers.issued (op.Restore record { 0 = h }) reply cites told → MirrorFits r s st → MirrorFits r t (stand_after st num (op.Restore record { 0 = h }) reply told)
  restore-fits (restoring o answers) h e a m = restored_mirror r s t o _ answers (answer_in reply) h e a.1 m
  restore-fits _ h e a m = absurd a

  clear-fits : (st : Stand) (k : ℕ) → DriverAllows st r.managed s.peers.issued (op.Clear record { 0 = k }) reply cites told
      → MirrorFits r t (stand_after st num (op.Clear record { 0 = k }) reply told)
  clear-fits (restoring o answers) k a = tt
  clear-fits _ k a = absurd a

contract-fits : (r : ManagedReplay) (s : PeerReplay) (m : Managed) (num : ℕ) (reply : Reply) (cites : Option ℕ) (comps : List (List ℕ)) (heavy : List ℕ) (xrefs : List (ℕ × ℕ)) (st : Stand) (k : ℕ)
    → DriverAllows st m s.peers.issued (op.Contract record { 0 = k }) reply cites (contraction_of comps heavy xrefs)
    → MirrorFits r s (stand_after st num (op.Contract record { 0 = k }) reply (contraction_of comps heavy xrefs))
contract-fits r s m num reply cites comps heavy xrefs (snapped o) k a = tt
contract-fits r s m num reply cites comps heavy xrefs _ k a = absurd a

pub mirror-step : (s : Linkage) (n : Noted) → Of s → MayCome s n → MirrorFits s.managed s.peer s.control.stand
    → MirrorFits (linkage_after s n).managed (linkage_after s n).peer (linkage_after s n).control.stand
mirror-step s n k may fits = by n.entry.made.caller n.entry.made.op n.told may.event may.lawful may.order
  where
    num : ℕ
    num = n.entry.number

    made : Thread → Op → Made
    made t o = record { caller = t; index = n.entry.made.index; op = o; reply = n.entry.made.reply; cites = n.entry.made.cites }

    R : Thread → Op → Told → ManagedReplay
    R t o told = managed_after s.managed (made t o) told (is_peer_event t o)

    S : Thread → Op → Told → PeerReplay
    S t o told = peer_after s.peer (made t o) told (is_peer_event t o)

    Goal : Thread → Op → Told → Type 0
    Goal t o told = MirrorFits (R t o told) (S t o told) (control_after s.control t num n.entry.made.index o n.entry.made.reply told).stand

    Allows : Thread → Op → Told → Type 0
    Allows t o told = CallerAllows s.control s.managed.managed s.peer.peers.issued t n.entry.made.index o n.entry.made.reply n.entry.made.cites told

    others : (t : Thread) (o : Op) (told : Told) → (t ≡ C → ⊥) → IsEvent t o → SideLawful (is_peer_event t o) s (made t o) told → MirrorFits (R t o told) (S t o told) s.control.stand
    others t o told x e l = fits_on s.managed (R t o told) s.peer (S t o told) s.control.stand
        (goes-same s.managed.managed (R t o told).managed k.managed.managed (goes_by s.managed (made t o) told (is_peer_event t o) s refl x e k.managed l))
        (same_mirror_after s.peer (made t o) told (is_peer_event t o) (unmirroring t o x e)).mirror fits

    by : (t : Thread) (o : Op) (told : Told) → IsEvent t o → SideLawful (is_peer_event t o) s (made t o) told → Allows t o told → Goal t o told
    by (M x) o told e l a = others (M x) o told (λ z. cc) e l
    by (P x) o told e l a = others (P x) o told (λ z. cc) e l
    by C (op.Line x) told e l a = fits_on s.managed (R C (op.Line x) told) s.peer s.peer s.control.stand
        (goes-same s.managed.managed (R C (op.Line x) told).managed k.managed.managed (managed_line-goes_on s.managed.managed (thread_number C) x k.managed.managed.places k.managed.managed.cells))
        refl fits
    by C (op.Snap c) told e l a = tt
    by C (op.Contract c) (contraction_of comps heavy xrefs) e l a = contract-fits _ s.peer s.managed.managed num n.entry.made.reply n.entry.made.cites comps heavy xrefs s.control.stand c.0 a
    by C (op.Contract c) told e l a = absurd l.allowed
    by C (op.Mirror c) (references_of refs) e l a = mirror-fits s.managed s.peer
        (S C (op.Mirror c) (references_of refs)) num n.entry.made.reply n.entry.made.cites (references_of refs) s.control.stand c.0 refs refl a
    by C (op.Mirror c) told e l a = absurd l.allowed
    by C (op.Weaken h) told e l a = weaken-fits s.managed s.peer
        (S C (op.Weaken h) told) num n.entry.made.reply n.entry.made.cites told s.control.stand h.0 (λ m q. ap (λ z. with_weakened z h.0) q) a fits
    by C op.Begin told e l a = begin-fits s.managed s.peer (S C op.Begin told) num n.entry.made.reply n.entry.made.cites told s.control.stand n.entry.made.reply
        (same_mirror_after s.peer (made C op.Begin) told true tt).mirror a fits
    by C op.Sweep told e l a = sweep-fits s.managed s.peer (S C op.Sweep told) num n.entry.made.reply n.entry.made.cites told s.control.stand
        (same_mirror_after s.peer (made C op.Sweep) told true tt).mirror a fits
    by C (op.Restore h) nothing e l a = restore-fits s.managed s.peer (S C (op.Restore h) nothing) num n.entry.made.reply n.entry.made.cites nothing s.control.stand h.0
        (restored-mirror s.peer h.0 (row_of s.peer h.0) l.allowed.row n.entry.made.reply l.allowed.tabled l.replies) a fits
    by C (op.Restore h) told e l a = absurd l.allowed
    by C (op.Clear c) told e l a = clear-fits s.managed s.peer (S C (op.Clear c) told) num n.entry.made.reply n.entry.made.cites told s.control.stand c.0 a
    by C (op.Resolve c) told e l a = tt
    by C (op.Abandon c) told e l a = tt
    by C (op.Refused w) told e l a = refusal told s.control.stand fits
      where
        refusal : (told : Told) (st : Stand) → MirrorFits s.managed s.peer st → MirrorFits (R C (op.Refused w) told) s.peer (stand_after st num (op.Refused w) n.entry.made.reply told)
        refusal (phase_of p) (weakening o count x y) f = f
        refusal (phase_of p) idle f = tt
        refusal (phase_of p) (snapped o) f = tt
        refusal (phase_of p) (contracted o comps heavy xrefs) f = tt
        refusal (phase_of p) (marked o) f = f
        refusal (phase_of p) (restoring o answers) f = f
        refusal (phase_of p) (restored o answers clear) f = tt
        refusal _ (weakening o count x y) f = f
        refusal _ idle f = tt
        refusal _ (snapped o) f = tt
        refusal _ (contracted o comps heavy xrefs) f = tt
        refusal _ (marked o) f = f
        refusal _ (restoring o answers) f = f
        refusal _ (restored o answers clear) f = tt
    by C _ told e l a = absurd a
