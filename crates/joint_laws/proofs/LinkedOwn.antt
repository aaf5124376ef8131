-- All stays kept at the driver's own marking, at its restores and at the clear.
use Rattle.std.proofs.Common.{◌≡◌, ℕ, ◌+◌, inl, inr, Bool, true, false, List, [], ◌∷◌, ◌++◌, length, Option, Some, None, refl, sym, ap, subst, ◌∙◌, arith}
use Rattle.std.specs.Prelude.{slice_get}
use Rattle.std.proofs.lemmas.Option.{slice_get_within, same_Some}
use Rattle.joint_machine.specs.declared.names.Thread.TheVariants.{C}
use Rattle.joint_machine.specs.declared.names.Cycle.{Cycle}
use Rattle.joint_machine.specs.declared.names.HNum.{HNum}
use Rattle.joint_machine.specs.declared.names.Marking.{Marking as MarkingNumber}
use Rattle.joint_machine.specs.declared.events.Op.TheVariants as op
use Rattle.joint_machine.specs.declared.events.Reply.{Reply}
use Rattle.joint_machine.specs.declared.events.Reply.TheVariants as says
use Rattle.joint_machine.specs.Control.{Doing, OpenSnap, Stand, idle, snapped, contracted, weakening, marked, restoring, restored, stand_after, answer_in, IsCandidateHandle, DriverAllows}
use Rattle.joint_machine.specs.Managed.{candidates_of, Holds}
use Rattle.joint_machine.specs.Heaps.{Answered, answer, numbered_at}
use Rattle.joint_machine.specs.ManagedReplay.{ManagedReplay}
use Rattle.joint_machine.specs.Peers.{Issued, held, strong, peer_of, next_handle}
use Rattle.joint_machine.specs.PeerReplay.{PeerReplay, TableRow, Marking, row_of, begun, swept, swept_of, restored_by, with_restored, withdrawn, given_anew, fresh_row, MayRestore, SweepAllows}
use Rattle.joint_machine.specs.PeerReplay.{IsSweep, strong_peers}
use Rattle.joint_machine.specs.Told.{Told, sweep_of, said_alive, said_cleared, Answer}
use Rattle.joint_laws.specs.PeerInvariants.{IsTabled, IsIssued, PeerInvariant}
use Rattle.joint_laws.specs.LinkedInvariants.{HasStrength, IsHeldOne, IsReplaced, IsVirgin, IsLoose, OwnersInvariant, CallersInvariant, doing_in, HasInHand, hands, IsWeakening, IsRestoring}
use Rattle.joint_machine.proofs.Numbered.{slot-named, numbered-within, numbered_set-length, numbered-push_cases, numbered-push_new}
use Rattle.joint_machine.proofs.Deciding.{none_some}
use Rattle.joint_machine.proofs.HeapLemmas.{candidates_of-open}
use Rattle.joint_laws.proofs.HandlesAlike.{HandlesAlike, HandlesAlike-then, nothing_touched, OwnersInvariant-peer, IsLoose-peer, IsReplaced-peer}
use Rattle.joint_laws.proofs.DriverPeerSteps.{Only, HandlesAlike-only, mirrored-closed}
use Rattle.joint_laws.proofs.DriverHandles.{callers_same, mirrored_changed, restored-stands, given-stands, owners_touched, not_in_hand, handles_restored, emptied-untabled}
use Rattle.joint_laws.proofs.PeerQuiet.{HandlesAlike-same, HandlesAlike-issued, IsQuiet}
use Rattle.joint_laws.proofs.PeerQuietEvents.{quiet-begun}
use Rattle.joint_laws.proofs.PeerEntries.{swept_told, peer_of-issued}
use Rattle.joint_laws.proofs.Restores.{restored-cases, renewal}
use Rattle.joint_laws.proofs.Hands.{put-cleared, put-alive, given-hand, CallersInvariant-cons}
use Rattle.joint_laws.proofs.LinkedQuiet.{BothInvariants, kept-quiet}
use Rattle.joint_laws.proofs.LinkedSweeps.{kept-swept, kept-own_swept}
use Rattle.joint_laws.proofs.LinkedDriver.{turn}

-- the own marking begins: all candidates' handles are weak
own_begin : (r : ManagedReplay) (s : PeerReplay) (ds : List Doing) (o : OpenSnap) (count : ℕ) (seen sw : Bool) (x : Option Marking)
    → BothInvariants r s ds (weakening o count seen sw) → s.marking ≡ x → count ≡ length (candidates_of r.managed) → x ≡ None
    → PeerInvariant (begun s x C).state → BothInvariants r (begun s x C).state ds (marked o)
own_begin r s ds o count seen sw (Some mk) k e w n m = absurd (none_some mk (sym n))
own_begin r s ds o count seen sw None k e w n m =
    let t : PeerReplay = (begun s None C).state in
    let q : IsQuiet (λ h. ⊥) s t = quiet-begun (λ h. ⊥) s None C e in
    let now : BothInvariants r t ds (weakening o count seen sw) = kept-quiet (λ h. ⊥) r s t ds (weakening o count seen sw) k q m (λ u h p g y v z. v) in
    let v : IsWeakening r t o count = now.driver in
    record {
      managed = k.managed;
      peer = m;
      owners = now.owners;
      callers = now.callers;
      driver = record {
        cycle = v.cycle;
        opened = v.opened;
        mirror = v.mirror;
        handles = λ l x h f g. elim (v.handles l x h f g) [
          | inl a ↦ a.1
          | inr a ↦ absurd (omega (arith, a.0, slice_get_within v.cycle.candidates l x f, w, ap length (candidates_of-open r.managed v.cycle v.opened.cycle)))
        ];
        marking = record { number = s.markings + 1; by = C; heap = s.peers.heap; refs = s.refs; strong_peers = strong_peers s.peers.issued s.table; brought = []; blackened = 0 };
        own = refl;
        by_driver = refl;
      };
    }

none-open : (s : PeerReplay) (x : Option Marking) (j : MarkingNumber) → says.Mark j ≡ (begun s x C).reply → x ≡ None
none-open s None j e = refl
none-open s (Some mk) j e = (let f : ⊥ = cc in absurd f)

pub kept-own_begin : (r : ManagedReplay) (s : PeerReplay) (ds : List Doing) (d : Stand) (number : ℕ) (reply : Reply) (told : Told) (cites : Option ℕ)
    → BothInvariants r s ds d → DriverAllows d r.managed s.peers.issued op.Begin reply cites told → reply ≡ (begun s s.marking C).reply
    → PeerInvariant (begun s s.marking C).state → BothInvariants r (begun s s.marking C).state ds (stand_after d number op.Begin reply told)
kept-own_begin r s ds (weakening o count seen sw) number (says.Mark j) told cites k w e m = own_begin r s ds o count seen sw s.marking k refl w.0 (none-open s s.marking j e) m
kept-own_begin r s ds (weakening o count seen sw) number _ told cites k w e m = absurd w
kept-own_begin r s ds idle number reply told cites k w e m = absurd w
kept-own_begin r s ds (snapped o) number reply told cites k w e m = absurd w
kept-own_begin r s ds (contracted o comps heavy xrefs) number reply told cites k w e m = absurd w
kept-own_begin r s ds (marked o) number reply told cites k w e m = absurd w
kept-own_begin r s ds (restoring o answers) number reply told cites k w e m = absurd w
kept-own_begin r s ds (restored o answers clear) number reply told cites k w e m = absurd w

-- the driver sweeps a peer thread's marking, or its own
driver-case : (s t : PeerReplay) (x : Option Marking) (told : Told) → s.marking ≡ x → SweepAllows s x C told → t ≡ (swept s x C (swept_told told)).state
    → (mk : Marking) × (freed : List ℕ) × (s.marking ≡ Some mk) × IsSweep s mk freed × (t ≡ (swept_of s mk freed).state)
driver-case s t None told e w f = absurd w
driver-case s t (Some mk) (sweep_of freed) e w f = (mk, freed, e, w.1, f)
driver-case s t (Some mk) _ e w f = absurd w

pub kept-own_sweep : (r : ManagedReplay) (s t : PeerReplay) (ds : List Doing) (d : Stand) (number : ℕ) (reply : Reply) (told seen_told : Told) (cites : Option ℕ)
    → BothInvariants r s ds d → DriverAllows d r.managed s.peers.issued op.Sweep reply cites told → SweepAllows s s.marking C told
    → t ≡ (swept s s.marking C (swept_told told)).state → BothInvariants r t ds (stand_after d number op.Sweep reply seen_told)
kept-own_sweep r s t ds (weakening o count seen sw) number reply told seen_told cites k w a f =
    let c = driver-case s t s.marking told refl a f in
    let now = kept-swept r s ds (weakening o count seen sw) k c.0 c.1 c.2 c.3 (λ x q. (let bad : weakening o count seen sw ≡ marked x = q in cc)) in
    subst (λ z. BothInvariants r z ds (weakening o count true true)) (sym c.4) (record { managed = now.managed; peer = now.peer; owners = now.owners; callers = now.callers; driver = now.driver })
kept-own_sweep r s t ds (marked o) number reply told seen_told cites k w a f =
    let c = driver-case s t s.marking told refl a f in
    subst (λ z. BothInvariants r z ds (restoring o [])) (sym c.4) (kept-own_swept r s ds (marked o) k c.0 c.1 c.2 c.3 o refl k.driver)
kept-own_sweep r s t ds idle number reply told seen_told cites k w a f = absurd w
kept-own_sweep r s t ds (snapped o) number reply told seen_told cites k w a f = absurd w
kept-own_sweep r s t ds (contracted o comps heavy xrefs) number reply told seen_told cites k w a f = absurd w
kept-own_sweep r s t ds (restoring o answers) number reply told seen_told cites k w a f = absurd w
kept-own_sweep r s t ds (restored o answers clear) number reply told seen_told cites k w a f = absurd w

-- a restore, by whether the handle's peer was freed
module _ (r : ManagedReplay) (s : PeerReplay) (ds : List Doing) (o : OpenSnap) (answers : List Answer) (h : ℕ)
    (k : BothInvariants r s ds (restoring o answers)) (w : IsCandidateHandle r.managed (length answers) h) (row : TableRow) (u : IsTabled s.table h row) where
  v : IsRestoring r s o answers
  v = k.driver

  c : (m : ℕ) × (slice_get v.cycle.candidates (length answers) ≡ Some m) × Holds r.managed m h
  c = turn r v.cycle (length answers) h k.managed v.opened.cycle w

  held_row : IsHeldOne s h
  held_row = k.owners.held_ones c.0 h c.2

  gone : PeerReplay
  gone = withdrawn s h

  alike-gone : HandlesAlike (Only h) s (withdrawn s h)
  alike-gone = HandlesAlike-only s (withdrawn s h) h None refl refl refl

  -- no hand has the candidate's handle
  unhanded : (t g : ℕ) → HasInHand (doing_in (hands (restoring o answers) ds) t) g → Only h g → ⊥
  unhanded t g x same = not_in_hand r s (withdrawn s h) v.cycle (length answers) c.0 h k.managed k.owners v.opened.cycle c.1 c.2 alike-gone (hands (restoring o answers) ds) k.callers t g x same

  owners-gone : OwnersInvariant r (withdrawn s h)
  owners-gone = owners_touched r s (withdrawn s h) v.cycle (length answers) c.0 h k.managed k.owners v.opened.cycle c.1 c.2 alike-gone

  callers-gone : CallersInvariant r (withdrawn s h) (hands (restoring o answers) ds)
  callers-gone = callers_same (Only h) r s (withdrawn s h) alike-gone refl (λ p i. i) (λ y l. l) (λ y p q. q) (hands (restoring o answers) ds) k.callers unhanded

  -- no restore gave the candidate's handle
  avoids : (i g : ℕ) → slice_get answers i ≡ Some (said_alive g) → g ≡ h → ⊥
  avoids i g e same = (let x = given-hand answers ds i g e in unhanded x.0 g x.2 same)

  -- it was cleared
  cleared-at : PeerInvariant (withdrawn s h) → row.cleared ≡ true → BothInvariants r (withdrawn s h) ds (restoring o (answers ++ said_cleared ∷ []))
  cleared-at m e = record {
    managed = k.managed;
    peer = m;
    owners = owners-gone;
    callers = subst (CallersInvariant r (withdrawn s h)) (sym (put-cleared answers ds)) callers-gone;
    driver = record {
      cycle = v.cycle;
      opened = v.opened;
      mirror = mirrored_changed (Only h) r s (withdrawn s h) v.cycle alike-gone k.owners refl (λ q. restored-stands s.mirror h q) v.mirror;
      handles = handles_restored r s (withdrawn s h) v.cycle answers c.0 h k.managed k.owners v.opened.cycle c.1 c.2 alike-gone said_cleared avoids v.handles (inr (
        refl,
        record {
          untabled = λ y q. emptied-untabled s (withdrawn s h) h y refl q;
          freed = λ i q. k.peer.handles.cleared h row i u q e;
        },
      ));
    };
  }

  -- its peer has a new handle
  module _ (p : ℕ) (leads : peer_of s.peers.issued h ≡ Some p) where
    abbrev next : ℕ
    next = next_handle s.peers

    abbrev new : Issued
    new = record { peer = p; hold = held; strength = strong }

    anew : PeerReplay
    anew = given_anew (withdrawn s h) p

    places : length (withdrawn s h).table ≡ length (withdrawn s h).peers.issued
    places = numbered_set-length s.table h None ∙ k.peer.handles.places

    alike-anew : HandlesAlike nothing_touched (withdrawn s h) (given_anew (withdrawn s h) p)
    alike-anew = HandlesAlike-issued (withdrawn s h) (given_anew (withdrawn s h) p) new places refl refl refl (λ e. refl)

    alike : HandlesAlike (Only h) s (given_anew (withdrawn s h) p)
    alike = HandlesAlike-then (Only h) s (withdrawn s h) (given_anew (withdrawn s h) p) alike-gone alike-anew

    new-issued : IsIssued (given_anew (withdrawn s h) p).peers.issued next new
    new-issued = numbered-push_new s.peers.issued new

    new-strong : HasStrength (given_anew (withdrawn s h) p) next strong
    new-strong =
        let place : next ≡ length (withdrawn s h).table + 1 = omega (arith, places) in (
          record { strength = strong; cleared = false },
          subst (λ z. IsTabled ((withdrawn s h).table ++ fresh_row new ∷ []) z (record { strength = strong; cleared = false }))
              (sym place) (numbered-push_new (withdrawn s h).table (fresh_row new)),
          refl,
        )

    on_peer : held_row.0.peer ≡ p
    on_peer = same_Some held_row.0.peer p (sym (peer_of-issued s.peers.issued h held_row.0 held_row.1) ∙ leads)

    replaced : IsReplaced (given_anew (withdrawn s h) p) h next
    replaced = record {
      untabled = λ y q. elim (numbered-push_cases (withdrawn s h).table (fresh_row new) h (Some y) q) [
        | inl old ↦ emptied-untabled s (withdrawn s h) h y refl old
        | inr e ↦ (let i = numbered-within s.peers.issued h held_row.0 held_row.1 in omega (arith, i.1, e.0, places))
      ];
      strong_one = new-strong;
      held_one = (new, new-issued, refl);
      old = held_row.0;
      was = alike.issued_on h held_row.0 held_row.1;
      new = new;
      is = new-issued;
      same = sym on_peer;
    }

    -- a peer just made has another one
    apart-virgin : (q g : ℕ) → IsVirgin r (withdrawn s h) q g → p ≡ q → ⊥
    apart-virgin q g x e = x.pairs c.0 (k.owners.registered c.0 q (record { handle = h; holds = c.2; row = held_row.0; is_issued = held_row.1; leads = on_peer ∙ e }))

    unissued : (g : ℕ) → IsHeldOne (withdrawn s h) g → g ≡ next → ⊥
    unissued g x e = (let l = numbered-within s.peers.issued g x.0 x.1 in omega (arith, l.1, e))

    callers-anew : CallersInvariant r (given_anew (withdrawn s h) p) (hands (restoring o answers) ds)
    callers-anew = record {
      loose = λ t g x. IsLoose-peer nothing_touched r (withdrawn s h) (given_anew (withdrawn s h) p) alike-anew g (λ e. e) (callers-gone.loose t g x);
      apart = callers-gone.apart;
      peers = λ t g q x. (let i = callers-gone.peers t g q x in (i.0, alike-anew.issued_on g i.0 i.1, i.2));
      virgins = λ t g q x. (
          let y = callers-gone.virgins t g q x in
          record {
            slots = y.slots;
            fields = y.fields;
            handles = λ a i e l. elim (numbered-push_cases s.peers.issued new a i e) [
              | inl old ↦ y.handles a i old l
              | inr fresh ↦ absurd (apart-virgin q g y (ap (λ (z : Issued). z.peer) fresh.1 ∙ l))
            ];
            pairs = y.pairs;
            unadopted = y.unadopted;
          });
      lent_ones = callers-gone.lent_ones;
    }

    new-loose : IsLoose r (given_anew (withdrawn s h) p) next
    new-loose = record { strong_one = new-strong; held_one = (new, new-issued, refl); unowned = λ m q. unissued next (owners-gone.held_ones m next q) refl }

    renewed-at : PeerInvariant (given_anew (withdrawn s h) p) → BothInvariants r (given_anew (withdrawn s h) p) ds (restoring o (answers ++ said_alive next ∷ []))
    renewed-at m = record {
      managed = k.managed;
      peer = m;
      owners = OwnersInvariant-peer nothing_touched r (withdrawn s h) (given_anew (withdrawn s h) p) alike-anew owners-gone (λ x g q y. q) (λ g q y. y);
      callers = subst (CallersInvariant r (given_anew (withdrawn s h) p)) (sym (put-alive answers next ds))
          (CallersInvariant-cons r (given_anew (withdrawn s h) p) (hands (restoring o answers) ds) next callers-anew new-loose (λ t x. unissued next (callers-gone.loose t next x).held_one refl));
      driver = record {
        cycle = v.cycle;
        opened = v.opened;
        mirror = mirrored_changed (Only h) r s (given_anew (withdrawn s h) p) v.cycle alike k.owners refl (λ q. restored-stands s.mirror h (given-stands (with_restored s.mirror h) next q)) v.mirror;
        handles = handles_restored r s (given_anew (withdrawn s h) p) v.cycle answers c.0 h k.managed k.owners v.opened.cycle c.1 c.2 alike
            (said_alive next) avoids v.handles (inl (next, refl, replaced));
      };
    }

restored-at : (r : ManagedReplay) (s : PeerReplay) (ds : List Doing) (o : OpenSnap) (answers : List Answer) (h : ℕ) (x : Option TableRow) (row : TableRow) (reply : Reply)
    → BothInvariants r s ds (restoring o answers) → IsCandidateHandle r.managed (length answers) h → row_of s h ≡ x → x ≡ Some row
    → reply ≡ (restored_by s h x).reply → PeerInvariant (restored_by s h x).state → BothInvariants r (restored_by s h x).state ds (restoring o (answers ++ answer_in reply ∷ []))
restored-at r s ds o answers h x row reply k w e f g m = subst (λ z. BothInvariants r (restored_by s h x).state ds (restoring o (answers ++ answer_in z ∷ [])))
    (sym g) (restored-cases Q s h x missing cleared unissued fresh m)
  where
    Q : Answered PeerReplay → Type 0
    Q a = PeerInvariant a.state → BothInvariants r a.state ds (restoring o (answers ++ answer_in a.reply ∷ []))

    tabled : (y : TableRow) → x ≡ Some y → IsTabled s.table h y
    tabled y q = slot-named (numbered_at s.table h) y (e ∙ q)

    missing : x ≡ None → Q (answer says.Cleared s)
    missing q n = absurd (none_some row (sym q ∙ f))

    cleared : (y : TableRow) → x ≡ Some y → y.cleared ≡ true → Q (answer says.Cleared (withdrawn s h))
    cleared y q c n = cleared-at r s ds o answers h k w y (tabled y q) n c

    unissued : peer_of s.peers.issued h ≡ None → Q (answer says.Cleared (withdrawn s h))
    unissued q n = (let i = held_row r s ds o answers h k w row (tabled row f) in absurd (none_some _ (sym q ∙ peer_of-issued s.peers.issued h i.0 i.1)))

    fresh : (y : TableRow) (p : ℕ) → x ≡ Some y → y.cleared ≡ false → peer_of s.peers.issued h ≡ Some p → Q (renewal s h p)
    fresh y p q c l n = renewed-at r s ds o answers h k w y (tabled y q) p l n

pub kept-restore : (r : ManagedReplay) (s : PeerReplay) (ds : List Doing) (d : Stand) (number : ℕ) (h : HNum) (reply : Reply) (told : Told) (cites : Option ℕ)
    → BothInvariants r s ds d → DriverAllows d r.managed s.peers.issued (op.Restore h) reply cites told → MayRestore s h.0 → reply ≡ (restored_by s h.0 (row_of s h.0)).reply
    → PeerInvariant (restored_by s h.0 (row_of s h.0)).state → BothInvariants r (restored_by s h.0 (row_of s h.0)).state ds (stand_after d number (op.Restore h) reply told)
kept-restore r s ds (restoring o answers) number h reply told cites k w p e m = restored-at r s ds o answers h.0 (row_of s h.0) p.row reply k w.1 refl p.tabled e m
kept-restore r s ds idle number h reply told cites k w p e m = absurd w
kept-restore r s ds (snapped o) number h reply told cites k w p e m = absurd w
kept-restore r s ds (contracted o comps heavy xrefs) number h reply told cites k w p e m = absurd w
kept-restore r s ds (weakening o count seen sw) number h reply told cites k w p e m = absurd w
kept-restore r s ds (marked o) number h reply told cites k w p e m = absurd w
kept-restore r s ds (restored o answers clear) number h reply told cites k w p e m = absurd w

-- the references go
pub kept-clear : (r : ManagedReplay) (s : PeerReplay) (ds : List Doing) (d : Stand) (n number : ℕ) (c : Cycle) (reply : Reply) (told : Told) (cites : Option ℕ)
    → BothInvariants r s ds d → DriverAllows d r.managed s.peers.issued (op.Clear record { 0 = n }) reply cites told → PeerInvariant (record s { refs = []; mirror = None })
    → BothInvariants r (record s { refs = []; mirror = None }) ds (stand_after d number (op.Clear c) reply told)
kept-clear r s ds (restoring o answers) n number c reply told cites k w m =
    let t : PeerReplay = record s { refs = []; mirror = None } in
    let a = HandlesAlike-same s t refl refl refl in
    let v : IsRestoring r s o answers = k.driver in
    record {
      managed = k.managed;
      peer = m;
      owners = OwnersInvariant-peer nothing_touched r s t a k.owners (λ x h y q. y) (λ h q y. y);
      callers = callers_same nothing_touched r s t a refl (λ p i. i) (λ x l. l) (λ x p y. y) (hands (restoring o answers) ds) k.callers (λ u h x y. y);
      driver = record {
        cycle = v.cycle;
        opened = v.opened;
        none = refl;
        all = w.1 ∙ ap length (candidates_of-open r.managed v.cycle v.opened.cycle);
        handles = λ l x h e q. elim (v.handles l x h e q) [
          | inl f ↦ inl (f.0, f.1, IsReplaced-peer nothing_touched r s t a h f.0 (λ y. y) (λ y. y) (k.owners.held_ones x h q) f.2)
          | inr f ↦ elim f [
            | inl g ↦ inr (inl (g.0, record { untabled = g.1.untabled; freed = g.1.freed }))
            | inr g ↦ inr (inr g)
          ]
        ];
        closed = λ x y p q cx cy walk rx ry l. mirrored-closed r s v.cycle k.managed k.peer k.owners v.opened.cycle v.mirror x y p q cx cy walk rx ry l;
      };
    }
kept-clear r s ds idle n number c reply told cites k w m = absurd w
kept-clear r s ds (snapped o) n number c reply told cites k w m = absurd w
kept-clear r s ds (contracted o comps heavy xrefs) n number c reply told cites k w m = absurd w
kept-clear r s ds (weakening o count seen sw) n number c reply told cites k w m = absurd w
kept-clear r s ds (marked o) n number c reply told cites k w m = absurd w
kept-clear r s ds (restored o answers clear) n number c reply told cites k w m = absurd w
