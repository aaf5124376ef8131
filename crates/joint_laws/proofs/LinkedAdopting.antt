-- All stays kept at the entries that adopt and give up handles, and at a meeting.
use Rattle.std.proofs.Common.{◌≡◌, ℕ, Bool, true, false, List, [], ◌∷◌, ◌++◌, Option, Some, None, set, refl, sym, subst, ◌∙◌}
use Rattle.std.specs.Prelude.{Contains, if◌then◌else◌}
use Rattle.joint_machine.specs.declared.names.Kind.{Kind}
use Rattle.joint_machine.specs.declared.names.Sort.{Sort}
use Rattle.joint_machine.specs.declared.names.Var.{Var}
use Rattle.joint_machine.specs.declared.names.PNum.{PNum}
use Rattle.joint_machine.specs.declared.names.HNum.{HNum}
use Rattle.joint_machine.specs.declared.events.Op.TheVariants as op
use Rattle.joint_machine.specs.declared.events.Reply.{Reply}
use Rattle.joint_machine.specs.declared.events.Reply.TheVariants as says
use Rattle.joint_machine.specs.Control.{Doing, free, given, met, Stand, doing_after}
use Rattle.joint_machine.specs.Heaps.{IsLive, Answered, answer, slot, is_full, next_number, numbered_set, with_var}
use Rattle.joint_machine.specs.Managed.{Managed, OpenCycle, Holds, handle_of, managed_name, with_row, adopted, twin_met, twin_kind, twin_fields, given_up, without_handle, handle_reply}
use Rattle.joint_machine.specs.ManagedReplay.{ManagedReplay, registered, with_twin, without_twins, adopt_by, meet_by, give_by}
use Rattle.joint_machine.specs.Peers.{Issued}
use Rattle.joint_machine.specs.PeerReplay.{PeerReplay}
use Rattle.joint_machine.proofs.Deciding.{none_some}
use Rattle.joint_laws.specs.ManagedInvariants.{ReplayInvariant}
use Rattle.joint_laws.specs.PeerInvariants.{IsIssued}
use Rattle.joint_laws.specs.LinkedInvariants.{doing_in, HasInHand, HasPeer, HasMadePair, IsLoose, CallersInvariant, hands}
use Rattle.joint_laws.proofs.Registered.{registered-some}
use Rattle.joint_laws.proofs.ManagedMoves.{GoesOn, GoesOn-row, emptied-goes_on, twinned-goes_on, met_by}
use Rattle.joint_laws.proofs.Adopting.{took-by, ReplayInvariant-plainly, HoldsSame-as}
use Rattle.joint_laws.proofs.DriverPeers.{made-in_hand, made-has_peer}
use Rattle.joint_laws.proofs.DriverManaged.{driver_goes_on}
use Rattle.joint_laws.proofs.DriverPeerSteps.{holds-handle_of}
use Rattle.joint_laws.proofs.OwnersManaged.{OwnersAlike, owners_taken, callers_taken, owners_gave, callers_gave, gave-loose}
use Rattle.joint_laws.proofs.Hands.{CallersInvariant-free, put_down}
use Rattle.joint_laws.proofs.LinkedQuiet.{BothInvariants, kept-alike, kept-doing, kept-free, place_in, in_place, hands-set, threads-callers}

module _ (r : ManagedReplay) (s : PeerReplay) (ds : List Doing) (d : Stand) (u number line : ℕ) (k : BothInvariants r s ds d) where
  -- a new row takes the handle that the thread has in hand, on a peer without a pair
  take-by : (v : ℕ) (kind : Kind) (n p h : ℕ) (o : Option ℕ) → (Contains r.adopted h → ⊥) → HasInHand (doing_in ds u) h
      → (i : Issued) → IsIssued s.peers.issued h i → i.peer ≡ p → ((m : ℕ) → o ≡ Some m → ⊥) → registered r.registry p ≡ o
      → BothInvariants (record r { managed = with_row r.managed v kind n (Some h); registry = with_twin r.registry p (next_number r.managed.heap) o; adopted = r.adopted ++ h ∷ [] }) s
      (set ds u free) d
  take-by v kind n p h (Some m) virgin w i q e none f = absurd (none m refl)
  take-by v kind n p h None virgin w i q e none f =
      let at = in_place ds d (λ z. HasInHand z h) u w in
      let loose = k.callers.loose (place_in d u) h at in
      record {
        managed = took-by r v kind n p h k.managed virgin None f;
        peer = k.peer;
        owners = owners_taken r s v kind n p h k.managed virgin loose i q e k.owners;
        callers = subst (CallersInvariant (record r { managed = with_row r.managed v kind n (Some h); registry = r.registry ++ (p, next_number r.managed.heap) ∷ []; adopted = r.adopted ++ h ∷ [] }) s)
            (sym (hands-set ds d u free))
            (callers_taken r s v kind n p h k.managed virgin loose i q e (set (hands d ds) (place_in d u) free)
            (CallersInvariant-free r s (hands d ds) (place_in d u) k.callers) (put_down r s (hands d ds) (place_in d u) h k.callers at));
        driver = driver_goes_on r (record r { managed = with_row r.managed v kind n (Some h); registry = r.registry ++ (p, next_number r.managed.heap) ∷ []; adopted = r.adopted ++ h ∷ [] })
            s k.managed.managed (GoesOn-row r.managed v kind n (Some h) k.managed.managed.places) d k.driver;
      }

  adopt-by : (v : ℕ) (kind : Kind) (n p h : ℕ) (b : Bool) → HasMadePair (doing_in ds u) h p → (Contains r.adopted h → ⊥)
      → (let a = if b then answer says.Full r.managed else answer (managed_name (next_number r.managed.heap)) (with_row r.managed v kind n (Some h)) in
      BothInvariants (adopt_by r p h a.state a.reply).state s (set ds u free) d)
  adopt-by v kind n p h true w virgin = kept-free r s ds d u k
  adopt-by v kind n p h false w virgin =
      let own = threads-callers r s ds d k in
      let i = own.peers u h p (made-has_peer (doing_in ds u) h p w) in
      let fresh = own.virgins u h p w in
      take-by v kind n p h (registered r.registry p) virgin (made-in_hand (doing_in ds u) h p w) i.0 i.1 i.2 (λ m e. fresh.pairs m (registered-some r.registry p m e)) refl

  pub kept-adopt : (v : ℕ) (kind : Kind) (n p h : ℕ) → HasMadePair (doing_in ds u) h p → (Contains r.adopted h → ⊥)
      → BothInvariants (adopt_by r p h (adopted r.managed v kind n h).state (adopted r.managed v kind n h).reply).state s (set ds u free) d
  kept-adopt v kind n p h w virgin = adopt-by v kind n p h (is_full r.managed.heap.fields) w virgin

-- the thread has met, and keeps the handle in hand
kept-met : (r : ManagedReplay) (s : PeerReplay) (ds : List Doing) (d : Stand) (u number line h : ℕ)
    → BothInvariants r s ds d → HasInHand (doing_in ds u) h → BothInvariants r s (set ds u (met number line h)) d
kept-met r s ds d u number line h k w = kept-doing r s ds d u (met number line h) k (record {
  loose = λ g e. subst (λ z. IsLoose r s z) e (k.callers.loose (place_in d u) h (in_place ds d (λ z. HasInHand z h) u w));
  apart = λ g v e x. k.callers.apart v (place_in d u) g x (subst (λ z. HasInHand (doing_in (hands d ds) (place_in d u)) z) e (in_place ds d (λ z. HasInHand z h) u w));
  peers = λ g p e. absurd e;
  virgins = λ g p e. absurd e;
  lent_ones = λ g e. absurd e;
})

module _ (r : ManagedReplay) (s : PeerReplay) (ds : List Doing) (d : Stand) (u number line : ℕ) (k : BothInvariants r s ds d) (v : Var) (p : PNum) (h : HNum)
    (sort : Sort) (n place : ℕ) (w : HasInHand (doing_in ds u) h.0) (on : HasPeer (doing_in ds u) h.0 p.0) (virgin : Contains r.adopted h.0 → ⊥) where
  abbrev Met : ManagedReplay → Reply → Type 0
  Met t reply = BothInvariants t s (set ds u (doing_after number line (op.Meet v sort n p h) reply)) d

  room : (b : Bool) → registered r.registry p.0 ≡ None
      → (let a = if b then answer says.Full r.managed else answer (says.New record { 0 = next_number r.managed.heap }) (with_row r.managed place (twin_kind sort) (twin_fields sort n) (Some h.0)) in
      Met (meet_by r p.0 h.0 a.state a.reply).state a.reply)
  room true e = kept-met r s ds d u number line h.0 k w
  room false e =
      let i = (threads-callers r s ds d k).peers u h.0 p.0 on in
      take-by r s ds d u number line k place (twin_kind sort) (twin_fields sort n) p.0 h.0 (registered r.registry p.0) virgin w i.0 i.1 i.2 (λ m f. none_some m (sym e ∙ f)) refl

  twin : (o : Option ℕ) → registered r.registry p.0 ≡ o → r.managed.cycle ≡ None → (let a = twin_met r.managed place h.0 sort n o in Met (meet_by r p.0 h.0 a.state a.reply).state a.reply)
  twin None e c = room (is_full r.managed.heap.fields) e
  twin (Some m) e c =
      let live : IsLive r.managed.heap m = (k.managed.pairs p.0 m (registered-some r.registry p.0 m e)).1.live in
      let t : ManagedReplay = record r { managed = record r.managed { heap = with_var r.managed.heap place (Some m) } } in
      let alike : OwnersAlike r t = record {
        on = λ x g q. record { live = record { made = q.live.made; kept = q.live.kept }; held = q.held };
        back = λ x g q. record { live = record { made = q.live.made; kept = q.live.kept }; held = q.held };
        registry = refl;
        adopted = refl;
        cycle = refl;
      } in
      let goes : GoesOn r.managed t.managed = twinned-goes_on r.managed place m c live in
      kept-met t s ds d u number line h.0 (kept-alike r t s ds d k alike goes (ReplayInvariant-plainly r t.managed k.managed goes (HoldsSame-as r.managed t.managed refl))) w

  cycle : (o : Option OpenCycle) → r.managed.cycle ≡ o → (let a = met_by r.managed place h.0 sort n (registered r.registry p.0) o in Met (meet_by r p.0 h.0 a.state a.reply).state a.reply)
  cycle None e = twin (registered r.registry p.0) refl e
  cycle (Some c) e = kept-met r s ds d u number line h.0 k w

  pub kept-meet : (reply : Reply) → (let a = met_by r.managed place h.0 sort n (registered r.registry p.0) r.managed.cycle in reply ≡ a.reply → Met (meet_by r p.0 h.0 a.state a.reply).state reply)
  kept-meet reply e =
      let a : Answered Managed = met_by r.managed place h.0 sort n (registered r.registry p.0) r.managed.cycle in
      subst (λ z. Met (meet_by r p.0 h.0 a.state a.reply).state z) (sym e) (cycle r.managed.cycle refl)

-- the row in a variable gives its handle up
module _ (r : ManagedReplay) (s : PeerReplay) (ds : List Doing) (d : Stand) (u number line : ℕ) (k : BothInvariants r s ds d) (v : Var) (place : ℕ) where
  abbrev Gave : ManagedReplay → Reply → Type 0
  Gave t reply = BothInvariants t s (set ds u (doing_after number line (op.Give v) reply)) d

  abbrev without : ℕ → ManagedReplay
  without m = record r { managed = record r.managed { held = numbered_set r.managed.held m None }; registry = without_twins r.registry (m ∷ []) }

  gave-kept : (m : ℕ) → slot r.managed.heap.vars place ≡ Some m → ReplayInvariant (without m) → BothInvariants (without m) s ds d
  gave-kept m e w = record {
    managed = w;
    peer = k.peer;
    owners = owners_gave r s place m k.managed e k.owners;
    callers = callers_gave r s place m k.managed e (hands d ds) k.callers;
    driver = driver_goes_on r (without m) s k.managed.managed (emptied-goes_on r.managed place m e) d k.driver;
  }

  by_handle : (m : ℕ) (o : Option ℕ) (reply : Reply) → slot r.managed.heap.vars place ≡ Some m → ReplayInvariant (without m)
      → handle_of r.managed m ≡ o → reply ≡ elim o [ None ↦ says.Plain | Some h ↦ says.H record { 0 = h } ] → Gave (without m) reply
  by_handle m None reply e w q f = subst (λ z. Gave (without m) z) (sym f) (kept-free (without m) s ds d u (gave-kept m e w))
  by_handle m (Some h) reply e w q f =
      let had = holds-handle_of r.managed m h k.managed.managed.places q in
      subst (λ z. Gave (without m) z) (sym f)
      (kept-doing (without m) s ds d u (given number line h) (gave-kept m e w) (record {
        loose = λ g x. subst (λ z. IsLoose (without m) s z) x (gave-loose r s place m k.managed e k.owners h had);
        apart = λ g t x y. absurd ((k.callers.loose t g y).unowned m (subst (λ z. Holds r.managed m z) x had));
        peers = λ g p x. absurd x;
        virgins = λ g p x. absurd x;
        lent_ones = λ g x. absurd x;
      }))

  by_row : (o : Option ℕ) (reply : Reply) → slot r.managed.heap.vars place ≡ o → ReplayInvariant (give_by r o (answer reply (without_handle r.managed o))).state
      → reply ≡ elim o [ None ↦ says.Empty | Some x ↦ elim (handle_of r.managed x) [ None ↦ says.Plain | Some h ↦ says.H record { 0 = h } ] ]
      → Gave (give_by r o (answer reply (without_handle r.managed o))).state reply
  by_row None reply e w f = subst (λ z. Gave r z) (sym f) (kept-free r s ds d u k)
  by_row (Some m) reply e w f = by_handle m (handle_of r.managed m) reply e w refl f

  pub kept-give : (reply : Reply) → ReplayInvariant (give_by r (slot r.managed.heap.vars place) (given_up r.managed place)).state
      → reply ≡ handle_reply r.managed place → Gave (give_by r (slot r.managed.heap.vars place) (given_up r.managed place)).state reply
  kept-give reply w e = subst (λ z. Gave (give_by r (slot r.managed.heap.vars place) (answer z (without_handle r.managed (slot r.managed.heap.vars place)))).state reply) e
      (by_row (slot r.managed.heap.vars place) reply refl (subst (λ z. ReplayInvariant
      (give_by r (slot r.managed.heap.vars place) (answer z (without_handle r.managed (slot r.managed.heap.vars place)))).state) (sym e) w) e)
