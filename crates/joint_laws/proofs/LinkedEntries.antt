-- All stays kept at each entry that may come, so it holds at every state of a lawful list of entries.
use Rattle.std.proofs.Common.{◌≡◌, ℕ, inl, inr, Bool, true, List, [], Option, Some, refl, sym, ap, ◌∙◌, arith}
use Rattle.std.proofs.lemmas.Option.{same_Some}
use Rattle.joint_machine.specs.declared.names.Thread.{Thread}
use Rattle.joint_machine.specs.declared.names.Thread.TheVariants.{M, P, C}
use Rattle.joint_machine.specs.declared.lines.Act.{Act}
use Rattle.joint_machine.specs.declared.lines.Act.TheVariants as act
use Rattle.joint_machine.specs.declared.events.Op.{Op}
use Rattle.joint_machine.specs.declared.events.Op.TheVariants as op
use Rattle.joint_machine.specs.declared.events.Reply.{Reply}
use Rattle.joint_machine.specs.declared.events.Made.{Made}
use Rattle.joint_machine.specs.Control.{Doing, Stand, CallerAllows, control_after}
use Rattle.joint_machine.specs.Heaps.{place, slot, numbered_at}
use Rattle.joint_machine.specs.Managed.{managed_line, given_up}
use Rattle.joint_machine.specs.Peers.{Issued}
use Rattle.joint_machine.specs.Lines.{IsEvent, is_peer_event}
use Rattle.joint_machine.specs.Linked.{Linkage, MayCome, SideLawful, PeerLawful, opening_linkage, linkage_after, managed_after, peer_after}
use Rattle.joint_machine.specs.ManagedReplay.{ManagedReplay, registered}
use Rattle.joint_machine.specs.PeerReplay.{PeerReplay, peer_thread_line, sliced, begun}
use Rattle.joint_machine.specs.Told.{Told, Noted, nothing, snap_of, contraction_of, references_of, slice_of, sweep_of, resolution_of, phase_of}
use Rattle.joint_laws.specs.LinkedInvariants.{doing_in, HasMadePair, OwnersInvariant, hands}
use Rattle.joint_machine.proofs.Members.{Contains-nil}
use Rattle.joint_machine.proofs.Numbered.{numbered-within}
use Rattle.joint_laws.proofs.ManagedMoves.{met_by}
use Rattle.joint_laws.proofs.ManagedSteps.{meet_by-reply, give_by-reply}
use Rattle.joint_laws.proofs.HandleKeeping.{held-raw}
use Rattle.joint_laws.proofs.Adopting.{ReplayInvariant-opening}
use Rattle.joint_laws.proofs.ReplayKeeping.{ReplayInvariant-step}
use Rattle.joint_laws.proofs.PeerMoves.{PeerInvariant-opening}
use Rattle.joint_laws.proofs.PeerEvents.{line-event}
use Rattle.joint_laws.proofs.PeerEntries.{PeerInvariant-step, sliced-kept, begun-kept, cleared-kept}
use Rattle.joint_laws.proofs.PeerQuietEvents.{IsRawOne, quiet-line, quiet-begun, quiet-sliced}
use Rattle.joint_laws.proofs.DriverPeers.{made-in_hand}
use Rattle.joint_laws.proofs.LinkedQuiet.{BothInvariants, kept-quiet, kept-free}
use Rattle.joint_laws.proofs.LinkedThreads.{adopt-hand, land-hand, meet-hand, release-hand, kept-managed_line}
use Rattle.joint_laws.proofs.LinkedMaking.{kept-make, kept-grip, kept-land, kept-lend, kept-release}
use Rattle.joint_laws.proofs.LinkedAdopting.{kept-adopt, kept-meet, kept-give}
use Rattle.joint_laws.proofs.LinkedSweeps.{sweep-case, kept-peer_sweep}
use Rattle.joint_laws.proofs.LinkedDriver.{kept-snap, kept-contract, kept-resolve, kept-abandon, kept-refused, safe-mirror, kept-mirrored, kept-weaken}
use Rattle.joint_laws.proofs.LinkedOwn.{kept-own_begin, kept-own_sweep, kept-restore, kept-clear}
use Rattle.joint_laws.proofs.Hands.{CallersInvariant-opening}

-- the parts of a state, and after an entry
abbrev pub Of : Linkage → Type 0
Of s = BothInvariants s.managed s.peer s.control.doing s.control.stand

abbrev pub Then : Linkage → ℕ → Made → Told → Bool → Type 0
Then s number m told b = BothInvariants (managed_after s.managed m told b) (peer_after s.peer m told b)
    (control_after s.control m.caller number m.index m.op m.reply told).doing (control_after s.control m.caller number m.index m.op m.reply told).stand

abbrev pub entry : Thread → ℕ → Op → Reply → Option ℕ → Made
entry t line o reply cites = record { caller = t; index = line; op = o; reply = reply; cites = cites }

abbrev pub Allows : Linkage → Made → Told → Type 0
Allows s m told = CallerAllows s.control s.managed.managed s.peer.peers.issued m.caller m.index m.op m.reply m.cites told

-- a raw handle isn't the one of a pair just made
raw_apart : (r : ManagedReplay) (s : PeerReplay) (ds : List Doing) (d : Stand) → BothInvariants r s ds d → (u h p g : ℕ) → HasMadePair (doing_in (hands d ds) u) h p → IsRawOne s g → g ≡ h → ⊥
raw_apart r s ds d k u h p g m raw e =
    let l = (k.callers.loose u h (made-in_hand (doing_in (hands d ds) u) h p m)).held_one in
    let same : raw.0 ≡ l.0 = same_Some raw.0 l.0 (sym raw.1 ∙ (ap (λ z. numbered_at s.peers.issued z) e ∙ l.1)) in
    held-raw raw.0 (ap (λ (z : Issued). z.hold) same ∙ l.2) raw.2

module _ (s : Linkage) (k : Of s) (number line : ℕ) (reply : Reply) (cites : Option ℕ) where
  abbrev ds : List Doing
  ds = s.control.doing

  abbrev d : Stand
  d = s.control.stand

  -- a peer thread's line
  peer_line : (u : ℕ) (a : Act) → BothInvariants s.managed (peer_thread_line s.peer u a).state ds d
  peer_line u a = kept-quiet (IsRawOne s.peer) s.managed s.peer (peer_thread_line s.peer u a).state ds d k
      (quiet-line s.peer u a k.peer) (line-event s.peer u a k.peer) (raw_apart s.managed s.peer ds d k)

  slice : (u n : ℕ) (closure : List ℕ) → BothInvariants s.managed (sliced s.peer s.peer.marking (P u) n closure).state ds d
  slice u n closure = kept-quiet (λ h. ⊥) s.managed s.peer (sliced s.peer s.peer.marking (P u) n closure).state ds d k
      (quiet-sliced (λ h. ⊥) s.peer s.peer.marking (P u) n closure refl) (sliced-kept s.peer s.peer.marking (P u) n closure k.peer refl) (λ v h p g x y z. y)

  peer_thread : (u : ℕ) (a : Act) (told : Told) → Then s number (entry (P u) line (op.Line a) reply cites) told true
  peer_thread u (act.Slice n) (slice_of closure) = slice u n closure
  peer_thread u (act.Slice n) _ = slice u n []
  peer_thread u a told = peer_line u a

  -- a marking begins for a peer thread
  peer_begin : (u : ℕ) (told : Told) → Then s number (entry (P u) line op.Begin reply cites) told true
  peer_begin u told = kept-quiet (λ h. ⊥) s.managed s.peer (begun s.peer s.peer.marking (P u)).state ds d k
      (quiet-begun (λ h. ⊥) s.peer s.peer.marking (P u) refl) (begun-kept s.peer s.peer.marking (P u) k.peer refl) (λ v h p g x y z. y)

  peer_sweep : (u : ℕ) (told : Told) → PeerLawful s.peer (entry (P u) line op.Sweep reply cites) told → Then s number (entry (P u) line op.Sweep reply cites) told true
  peer_sweep u (sweep_of freed) w = kept-peer_sweep s.managed s.peer _ ds d u k (sweep-case s.peer s.peer.marking (P u) (sweep_of freed) refl w.allowed)
  peer_sweep u told w = kept-peer_sweep s.managed s.peer _ ds d u k (sweep-case s.peer s.peer.marking (P u) told refl w.allowed)

  own_sweep : (told : Told) → PeerLawful s.peer (entry C line op.Sweep reply cites) told
      → Allows s (entry C line op.Sweep reply cites) told → Then s number (entry C line op.Sweep reply cites) told true
  own_sweep (sweep_of freed) w a = kept-own_sweep s.managed s.peer _ ds d number reply (sweep_of freed) (sweep_of freed) cites k a w.allowed refl
  own_sweep told w a = kept-own_sweep s.managed s.peer _ ds d number reply told told cites k a w.allowed refl

  pub step : (t : Thread) (o : Op) (told : Told) → IsEvent t o → SideLawful (is_peer_event t o) s (entry t line o reply cites) told
      → Allows s (entry t line o reply cites) told → Then s number (entry t line o reply cites) told (is_peer_event t o)
  step (M u) (op.Line a) told e w x =
      kept-free (record s.managed { managed = (managed_line s.managed.managed u a).state }) s.peer ds d u
      (kept-managed_line s.managed s.peer ds d u a k (ReplayInvariant-step s.managed (M u) (op.Line a) told k.managed w.allowed))
  step (P u) (op.Line a) told e w x = peer_thread u a told
  step C (op.Line a) told e w x = kept-managed_line s.managed s.peer ds d 0 a k (ReplayInvariant-step s.managed C (op.Line a) told k.managed w.allowed)
  step (M u) (op.Make sort n) told e w x = kept-make s.managed s.peer ds d u number line k sort n reply w.replies
  step (P u) (op.Make sort n) told e w x = absurd e.0
  step C (op.Make sort n) told e w x = absurd e.0
  step (M u) (op.Adopt v kind n p h) nothing e w x = kept-adopt s.managed s.peer ds d u number line k
      (place u v.0) kind n p.0 h.0 (adopt-hand (doing_in ds u) (M u) line v kind n p h cites x) w.allowed
  step (M u) (op.Adopt v kind n p h) told e w x = absurd w.allowed
  step (P u) (op.Adopt v kind n p h) told e w x = absurd e.0
  step C (op.Adopt v kind n p h) told e w x = absurd e.0
  step (M u) (op.Lend v y) told e w x = kept-lend s.managed s.peer ds d u number line k v y (place u v.0) reply w.replies
  step (P u) (op.Lend v y) told e w x = absurd e.0
  step C (op.Lend v y) told e w x = absurd e.0
  step (M u) (op.Land h y) told e w x = kept-land s.managed s.peer ds d u number line k y.0 h.0 (land-hand (doing_in ds u) (M u) line h y cites x)
  step (P u) (op.Land h y) told e w x = absurd e.0
  step C (op.Land h y) told e w x = absurd e.0
  step (M u) (op.Grip y) told e w x = kept-grip s.managed s.peer ds d u number line k y reply w.replies
  step (P u) (op.Grip y) told e w x = absurd e.0
  step C (op.Grip y) told e w x = absurd e.0
  step (M u) (op.Meet v sort n p h) nothing e w x =
      let hand = meet-hand (doing_in ds u) (M u) line v p h sort n cites x in
      let a = met_by s.managed.managed (place u v.0) h.0 sort n (registered s.managed.registry p.0) s.managed.managed.cycle in
      kept-meet s.managed s.peer ds d u number line k v p h sort n (place u v.0) hand.0 hand.1 w.allowed reply (w.replies ∙ meet_by-reply s.managed p.0 h.0 a.state a.reply)
  step (M u) (op.Meet v sort n p h) told e w x = absurd w.allowed
  step (P u) (op.Meet v sort n p h) told e w x = absurd e.0
  step C (op.Meet v sort n p h) told e w x = absurd e.0
  step (M u) (op.Give v) told e w x =
      kept-give s.managed s.peer ds d u number line k v (place u v.0) reply (ReplayInvariant-step s.managed (M u) (op.Give v) told k.managed w.allowed)
      (w.replies ∙ give_by-reply s.managed (slot s.managed.managed.heap.vars (place u v.0)) (given_up s.managed.managed (place u v.0)))
  step (P u) (op.Give v) told e w x = absurd e.0
  step C (op.Give v) told e w x = absurd e.0
  step (M u) (op.Release h) told e w x = kept-release s.managed s.peer ds d u number line k h.0 (release-hand (doing_in ds u) (M u) line h cites x)
  step (P u) (op.Release h) told e w x = absurd e
  step C (op.Release h) told e w x = absurd e
  step C (op.Snap n) (snap_of freed candidates dead) e w x = kept-snap s.managed s.peer ds d n.0 number freed candidates dead reply cites k x w.allowed
      (ReplayInvariant-step s.managed C (op.Snap n) (snap_of freed candidates dead) k.managed w.allowed)
  step C (op.Snap n) told e w x = absurd w.allowed
  step (M u) (op.Snap n) told e w x = absurd e
  step (P u) (op.Snap n) told e w x = absurd e
  step C (op.Contract n) (contraction_of comps heavy xrefs) e w x = kept-contract s.managed s.peer ds d n.0 number n reply comps heavy xrefs cites k x w.allowed
      (ReplayInvariant-step s.managed C (op.Contract n) (contraction_of comps heavy xrefs) k.managed w.allowed)
  step C (op.Contract n) told e w x = absurd w.allowed
  step (M u) (op.Contract n) told e w x = absurd e
  step (P u) (op.Contract n) told e w x = absurd e
  step C (op.Mirror n) (references_of refs) e w x = kept-mirrored s.managed s.peer ds d n.0 number n reply cites refs k x
      (PeerInvariant-step s.peer C (op.Mirror n) cites (references_of refs) k.peer w.allowed (safe-mirror s.managed s.peer ds d n reply cites (references_of refs) k x))
  step C (op.Mirror n) told e w x = absurd w.allowed
  step (M u) (op.Mirror n) told e w x = absurd e
  step (P u) (op.Mirror n) told e w x = absurd e
  step C (op.Weaken h) nothing e w x = kept-weaken s.managed s.peer ds d number h reply nothing cites k x w.allowed (PeerInvariant-step s.peer C (op.Weaken h) cites nothing k.peer w.allowed tt)
  step C (op.Weaken h) told e w x = absurd w.allowed
  step (M u) (op.Weaken h) told e w x = absurd e
  step (P u) (op.Weaken h) told e w x = absurd e
  step (M u) op.Begin told e w x = absurd (elim e [ inl f ↦ f | inr f ↦ f ])
  step (P u) op.Begin told e w x = peer_begin u told
  step C op.Begin told e w x = kept-own_begin s.managed s.peer ds d number reply told cites k x w.replies (begun-kept s.peer s.peer.marking C k.peer refl)
  step (M u) op.Sweep told e w x = absurd (elim e [ inl f ↦ f | inr f ↦ f ])
  step (P u) op.Sweep told e w x = peer_sweep u told w
  step C op.Sweep told e w x = own_sweep told w x
  step C (op.Restore h) nothing e w x = kept-restore s.managed s.peer ds d number h reply nothing cites k x w.allowed w.replies
      (PeerInvariant-step s.peer C (op.Restore h) cites nothing k.peer w.allowed tt)
  step C (op.Restore h) told e w x = absurd w.allowed
  step (M u) (op.Restore h) told e w x = absurd e
  step (P u) (op.Restore h) told e w x = absurd e
  step C (op.Clear n) told e w x = kept-clear s.managed s.peer ds d n.0 number n reply told cites k x (cleared-kept s.peer k.peer)
  step (M u) (op.Clear n) told e w x = absurd e
  step (P u) (op.Clear n) told e w x = absurd e
  step C (op.Resolve n) (resolution_of alive freed) e w x = kept-resolve s.managed s.peer ds d n.0 alive freed reply cites k x w.allowed
      (ReplayInvariant-step s.managed C (op.Resolve n) (resolution_of alive freed) k.managed w.allowed)
  step C (op.Resolve n) told e w x = absurd w.allowed
  step (M u) (op.Resolve n) told e w x = absurd e
  step (P u) (op.Resolve n) told e w x = absurd e
  step C (op.Abandon n) nothing e w x = kept-abandon s.managed s.peer ds d n.0 reply cites nothing k x (ReplayInvariant-step s.managed C (op.Abandon n) nothing k.managed w.allowed)
  step C (op.Abandon n) told e w x = absurd w.allowed
  step (M u) (op.Abandon n) told e w x = absurd e
  step (P u) (op.Abandon n) told e w x = absurd e
  step C (op.Refused r) (phase_of phase) e w x = kept-refused s.managed s.peer ds d number r reply (phase_of phase) k
  step C (op.Refused r) told e w x = absurd w.allowed
  step (M u) (op.Refused r) told e w x = absurd e
  step (P u) (op.Refused r) told e w x = absurd e

pub BothInvariants-entry : (s : Linkage) (n : Noted) → MayCome s n → Of s → Of (linkage_after s n)
BothInvariants-entry s n w k = step s k n.entry.number n.entry.made.index n.entry.made.reply n.entry.made.cites n.entry.made.caller n.entry.made.op n.told w.event w.lawful w.order

pub BothInvariants-opening : Of opening_linkage
BothInvariants-opening = record {
  managed = ReplayInvariant-opening;
  peer = PeerInvariant-opening;
  owners = nobody;
  callers = CallersInvariant-opening opening_linkage.managed opening_linkage.peer 9;
  driver = record { closed = refl; none = refl };
}
  where
    nothing_there : {A : Type 0} (n : ℕ) (x : A) → numbered_at [] n ≡ Some x → ⊥
    nothing_there n x e = (let w = numbered-within [] n x e in omega (arith, w.0, w.1))

    nobody : OwnersInvariant opening_linkage.managed opening_linkage.peer
    nobody = record {
      held_ones = λ m h q. absurd (nothing_there m (Some h) q.held);
      strong_ones = λ m h q n. absurd (nothing_there m (Some h) q.held);
      weak_ones = λ h w q. absurd (nothing_there h (Some w.0) w.1);
      registered = λ m p w. absurd (nothing_there m (Some w.handle) w.holds.held);
      pairs = λ p m c. absurd (Contains-nil (p, m) c);
      adopted = λ h c. absurd (Contains-nil h c);
    }
