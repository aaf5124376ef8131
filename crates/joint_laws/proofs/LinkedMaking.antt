-- All stays kept at the entries that make a pair, grip a peer, lend and land, and release.
use Rattle.std.proofs.Common.{◌≡◌, ℕ, inr, Bool, true, false, ◌||◌, List, ◌++◌, map, Option, Some, None, set, refl, sym, subst, ◌∙◌}
use Rattle.std.specs.Prelude.{Contains, if◌then◌else◌}
use Rattle.joint_machine.specs.declared.names.Sort.{Sort}
use Rattle.joint_machine.specs.declared.names.Var.{Var}
use Rattle.joint_machine.specs.declared.names.StaticNo.{StaticNo}
use Rattle.joint_machine.specs.declared.events.Op.TheVariants as op
use Rattle.joint_machine.specs.declared.events.Reply.{Reply}
use Rattle.joint_machine.specs.declared.events.Reply.TheVariants as says
use Rattle.joint_machine.specs.Control.{Doing, free, made, lent, gripped, Stand, doing_after}
use Rattle.joint_machine.specs.Heaps.{answer, slot, is_full, next_number}
use Rattle.joint_machine.specs.Managed.{Holds, handle_of, handle_reply}
use Rattle.joint_machine.specs.ManagedReplay.{ManagedReplay}
use Rattle.joint_machine.specs.Peers.{Peers, held, strong, with_handle, with_peer, pair_made, peer_gripped, landed, next_handle, issued_since, handles_full}
use Rattle.joint_machine.specs.PeerReplay.{PeerReplay, fresh_row, on_table, brings, untabled, table_target}
use Rattle.joint_laws.specs.PeerInvariants.{IsTabled, PeerInvariant}
use Rattle.joint_laws.specs.LinkedInvariants.{doing_in, HasInHand, HasMadePair, HasLent, IsLoose, IsVirgin, CallersInvariant, hands, given_at}
use Rattle.joint_machine.proofs.Numbered.{slot-Contains}
use Rattle.joint_laws.proofs.HandlesAlike.{OwnersInvariant-peer}
use Rattle.joint_laws.proofs.DriverPeers.{driver_on}
use Rattle.joint_laws.proofs.DriverPeerSteps.{Only, HandlesAlike-only, holds-handle_of}
use Rattle.joint_laws.proofs.DriverHandles.{callers_same, emptied-untabled}
use Rattle.joint_laws.proofs.PeerEvents.{pair-event, grip-event, land-event}
use Rattle.joint_laws.proofs.PeerMoves.{kept-gone}
use Rattle.joint_laws.proofs.PeerQuietEvents.{quiet-pair, quiet-grip, quiet-gripped, quiet-land}
use Rattle.joint_laws.proofs.Hands.{CallersInvariant-free, put_down, given-apart}
use Rattle.joint_laws.proofs.LinkedQuiet.{BothInvariants, kept-quiet, kept-doing, kept-free, place_in, in_place, hands-set, threads-callers}
use Rattle.joint_laws.proofs.LinkedThreads.{made-virgin, new-loose, new-apart, new-peer}

-- the peer side after peers changed
abbrev on_peers : PeerReplay → Peers → PeerReplay
on_peers s g = record s { peers = g; table = s.table ++ map fresh_row (issued_since s.peers g) }

no_via : (ds : List Doing) → (u h p g : ℕ) → HasMadePair (doing_in ds u) h p → ⊥ → g ≡ h → ⊥
no_via ds u h p g w v e = v

module _ (r : ManagedReplay) (s : PeerReplay) (ds : List Doing) (d : Stand) (u number line : ℕ) (k : BothInvariants r s ds d) where
  make-by : (sort : Sort) (n : ℕ) (b : Bool) (reply : Reply)
      → (let a = if b then answer says.Full s.peers else answer (says.Made record { 0 = next_number s.peers.heap } record { 0 = next_handle s.peers })
      (with_handle (with_peer s.peers sort n) (next_number s.peers.heap) held strong) in
      reply ≡ a.reply → BothInvariants r (on_table s a).state (set ds u (doing_after number line (op.Make sort n) reply)) d)
  make-by sort n true reply e =
      let t : PeerReplay = on_peers s s.peers in
      let now = kept-quiet (λ h. ⊥) r s t ds d k (quiet-pair (λ h. ⊥) s sort n true k.peer.handles.places) (pair-event s sort n true k.peer) (no_via (hands d ds)) in
      subst (λ z. BothInvariants r t (set ds u (doing_after number line (op.Make sort n) z)) d) (sym e) (kept-free r t ds d u now)
  make-by sort n false reply e =
      let g : Peers = with_handle (with_peer s.peers sort n) (next_number s.peers.heap) held strong in
      let t : PeerReplay = on_peers s g in
      let now = kept-quiet (λ h. ⊥) r s t ds d k (quiet-pair (λ h. ⊥) s sort n false k.peer.handles.places) (pair-event s sort n false k.peer) (no_via (hands d ds)) in
      let p = next_number s.peers.heap in
      let h = next_handle s.peers in
      subst (λ z. BothInvariants r t (set ds u (doing_after number line (op.Make sort n) z)) d) (sym e)
      (kept-doing r t ds d u (made number line p h sort n) now (record {
        loose = λ x w. subst (λ z. IsLoose r t z) w (new-loose r s ds d k p g refl);
        apart = λ x v w q. absurd (new-apart r s ds d k p g refl x v w q);
        peers = λ x q w. new-peer r s ds d k p g refl x q w.0 w.1;
        virgins = λ x q w. subst (λ z. IsVirgin r t z x) w.1 (subst (λ z. IsVirgin r t p z) w.0 (made-virgin r s ds d sort n k));
        lent_ones = λ x w. absurd w;
      }))

  pub kept-make : (sort : Sort) (n : ℕ) (reply : Reply) → reply ≡ (pair_made s.peers sort n).reply
      → BothInvariants r (on_table s (pair_made s.peers sort n)).state (set ds u (doing_after number line (op.Make sort n) reply)) d
  kept-make sort n reply e = make-by sort n (is_full s.peers.heap.fields || handles_full s.peers) reply e

  -- a grip, by what the static has and whether there is room
  grip-by : (x : StaticNo) (p : ℕ) (sort : Sort) (f : ℕ) (b : Bool) (reply : Reply) → slot s.peers.heap.statics x.0 ≡ Some p
      → PeerInvariant (on_table s (if b then answer says.Full s.peers else answer (says.Gripped record { 0 = p } record { 0 = next_handle s.peers } sort f) (with_handle s.peers p held strong))).state
      → (let a = if b then answer says.Full s.peers else answer (says.Gripped record { 0 = p } record { 0 = next_handle s.peers } sort f) (with_handle s.peers p held strong) in
      reply ≡ a.reply → BothInvariants r (on_table s a).state (set ds u (doing_after number line (op.Grip x) reply)) d)
  grip-by x p sort f true reply q m e =
      let t : PeerReplay = on_peers s s.peers in
      let now = kept-quiet (λ h. ⊥) r s t ds d k (quiet-gripped (λ h. ⊥) s p true says.Ok k.peer.handles.places (inr (slot-Contains s.peers.heap.statics x.0 p q))) m (no_via (hands d ds)) in
      subst (λ z. BothInvariants r t (set ds u (doing_after number line (op.Grip x) z)) d) (sym e) (kept-free r t ds d u now)
  grip-by x p sort f false reply q m e =
      let g : Peers = with_handle s.peers p held strong in
      let t : PeerReplay = on_peers s g in
      let now = kept-quiet (λ h. ⊥) r s t ds d k (quiet-gripped (λ h. ⊥) s p false says.Ok k.peer.handles.places (inr (slot-Contains s.peers.heap.statics x.0 p q))) m (no_via (hands d ds)) in
      let h = next_handle s.peers in
      subst (λ z. BothInvariants r t (set ds u (doing_after number line (op.Grip x) z)) d) (sym e)
      (kept-doing r t ds d u (gripped number line p h sort f) now (record {
        loose = λ y w. subst (λ z. IsLoose r t z) w (new-loose r s ds d k p g refl);
        apart = λ y v w c. absurd (new-apart r s ds d k p g refl y v w c);
        peers = λ y c w. new-peer r s ds d k p g refl y c w.0 w.1;
        virgins = λ y c w. absurd w;
        lent_ones = λ y w. absurd w;
      }))

  grip-at : (x : StaticNo) (o : Option ℕ) (reply : Reply) → slot s.peers.heap.statics x.0 ≡ o → reply ≡ (peer_gripped s.peers o).reply
      → BothInvariants r (on_table s (peer_gripped s.peers o)).state (set ds u (doing_after number line (op.Grip x) reply)) d
  grip-at x None reply q e =
      let t : PeerReplay = on_peers s s.peers in
      let now = kept-quiet (λ h. ⊥) r s t ds d k (quiet-grip (λ h. ⊥) s x.0 None k.peer.handles.places q) (grip-event s x.0 None k.peer q) (no_via (hands d ds)) in
      subst (λ z. BothInvariants r t (set ds u (doing_after number line (op.Grip x) z)) d) (sym e) (kept-free r t ds d u now)
  grip-at x (Some p) reply q e = grip-by x p _ _ (handles_full s.peers) reply q (grip-event s x.0 (Some p) k.peer q) e

  pub kept-grip : (x : StaticNo) (reply : Reply) → reply ≡ (peer_gripped s.peers (slot s.peers.heap.statics x.0)).reply
      → BothInvariants r (on_table s (peer_gripped s.peers (slot s.peers.heap.statics x.0))).state (set ds u (doing_after number line (op.Grip x) reply)) d
  kept-grip x reply e = grip-at x (slot s.peers.heap.statics x.0) reply refl e

  -- a land reads a handle that was adopted, so it leads to no peer just made
  pub kept-land : (x h : ℕ) → HasLent (doing_in ds u) h → BothInvariants r (brings (on_table s (landed s.peers x (table_target s h)))).state (set ds u free) d
  kept-land x h w =
      let now = kept-quiet (Only h) r s _ ds d k (quiet-land (Only h) s x h (table_target s h) refl refl) (land-event s x h (table_target s h) k.peer refl)
      (λ v g p y m same e. (k.callers.virgins v g p m).unadopted (subst (λ z. Contains r.adopted z) (sym same ∙ e) ((threads-callers r s ds d k).lent_ones u h w))) in
      kept-free r _ ds d u now

  -- a lend tells a handle that a row holds, which was adopted
  lend-reply : (v : Var) (x : StaticNo) (o : Option ℕ) (reply : Reply)
      → reply ≡ elim o [ None ↦ says.Empty | Some y ↦ elim (handle_of r.managed y) [ None ↦ says.Plain | Some h ↦ says.H record { 0 = h } ] ]
      → BothInvariants r s (set ds u (doing_after number line (op.Lend v x) reply)) d
  lend-reply v x None reply e = subst (λ z. BothInvariants r s (set ds u (doing_after number line (op.Lend v x) z)) d) (sym e) (kept-free r s ds d u k)
  lend-reply v x (Some y) reply e = by (handle_of r.managed y) refl e
    where
      by : (o : Option ℕ) → handle_of r.managed y ≡ o → reply ≡ elim o [ None ↦ says.Plain | Some h ↦ says.H record { 0 = h } ]
          → BothInvariants r s (set ds u (doing_after number line (op.Lend v x) reply)) d
      by None q f = subst (λ z. BothInvariants r s (set ds u (doing_after number line (op.Lend v x) z)) d) (sym f) (kept-free r s ds d u k)
      by (Some h) q f =
          let had = k.managed.adopted y h (holds-handle_of r.managed y h k.managed.managed.places q) in
          subst (λ z. BothInvariants r s (set ds u (doing_after number line (op.Lend v x) z)) d) (sym f)
          (kept-doing r s ds d u (lent number line h x.0) k (record {
            loose = λ g w. absurd w;
            apart = λ g w t. absurd t;
            peers = λ g p w. absurd w;
            virgins = λ g p w. absurd w;
            lent_ones = λ g w. subst (λ z. Contains r.adopted z) w had;
          }))

  pub kept-lend : (v : Var) (x : StaticNo) (place : ℕ) (reply : Reply) → reply ≡ handle_reply r.managed place → BothInvariants r s (set ds u (doing_after number line (op.Lend v x) reply)) d
  kept-lend v x place reply e = lend-reply v x (slot r.managed.heap.vars place) reply e

  -- a release takes a loose handle from the table
  pub kept-release : (h : ℕ) → HasInHand (doing_in ds u) h → BothInvariants r (untabled s (Some h)) (set ds u free) d
  kept-release h w =
      let t : PeerReplay = untabled s (Some h) in
      let a = HandlesAlike-only s t h None refl refl refl in
      let at = in_place ds d (λ z. HasInHand z h) u w in
      let loose = k.callers.loose (place_in d u) h at in
      let unowned : (m g : ℕ) → Only h g → Holds r.managed m g → ⊥ = λ m g same q. loose.unowned m (subst (λ z. Holds r.managed m z) same q) in
      record {
        managed = k.managed;
        peer = kept-gone s h k.peer;
        owners = OwnersInvariant-peer (Only h) r s t a k.owners unowned (λ g q same. emptied-untabled s t h q.0 refl (subst (λ z. IsTabled t.table z q.0) same q.1));
        callers = subst (CallersInvariant r t) (sym (hands-set ds d u free))
            (callers_same (Only h) r s t a refl (λ p i. i) (λ x l. l) (λ x p c. c) (set (hands d ds) (place_in d u) free) (CallersInvariant-free r s (hands d ds) (place_in d u) k.callers)
            (λ v g x same. put_down r s (hands d ds) (place_in d u) h k.callers at v (subst (λ z. HasInHand (doing_in (set (hands d ds) (place_in d u) free) v) z) same x)));
        driver = driver_on (Only h) r s t a k.owners unowned refl refl d (λ i g e same. given-apart r s (given_at d) ds k.callers i g u e (subst (λ z. HasInHand (doing_in ds u) z) (sym same) w))
            (λ o e mk f q. (mk, f, q)) (λ c answers all handles closed x y p q cx cy walk rx ry l. closed x y p q cx cy walk rx ry l) k.driver;
      }
