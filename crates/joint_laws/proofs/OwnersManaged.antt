-- Owners and what threads have in hand at the managed entries: where rows hold the same handles; where a new row takes
-- a handle that one thread had in hand; and where a row in a slot gives its handle up.
use Rattle.std.proofs.Common.{◌≡◌, ◌≢◌, ℕ, ◌≤◌, inl, inr, List, [], ◌∷◌, ◌++◌, length, Option, Some, None, refl, sym, ap, subst, ◌∙◌}
use Rattle.std.specs.Prelude.{Contains}
use Rattle.std.proofs.lemmas.Bool.{cases_eq}
use Rattle.std.proofs.lemmas.Option.{same_Some}
use Rattle.std.proofs.lemmas.List.Elements.{Contains-append_left, Contains-push, Contains-push_cases}
use Rattle.joint_machine.specs.declared.names.Kind.{Kind}
use Rattle.joint_machine.specs.Control.{Doing}
use Rattle.joint_machine.specs.Heaps.{numbered_at, numbered_set, slot}
use Rattle.joint_machine.specs.Managed.{OpenCycle, Holds, IsManagedRoot, candidates_of}
use Rattle.joint_machine.specs.ManagedReplay.{ManagedReplay, without_twins}
use Rattle.joint_machine.specs.Peers.{Issued, strong}
use Rattle.joint_machine.specs.PeerReplay.{PeerReplay}
use Rattle.joint_laws.specs.ManagedInvariants.{ReplayInvariant}
use Rattle.joint_laws.specs.PeerInvariants.{IsIssued}
use Rattle.joint_laws.specs.LinkedInvariants.{HasStrength, IsHeldOne, IsRowOf, OwnersInvariant, doing_in, HasInHand, IsLoose, CallersInvariant}
use Rattle.joint_machine.proofs.Members.{Contains-here, Contains-nil, Contains-cons_cases}
use Rattle.joint_machine.proofs.Numbered.{numbered-within, numbered_set-same, numbered_set-other, slot-Contains}
use Rattle.joint_machine.proofs.Deciding.{none_some}
use Rattle.joint_laws.proofs.Registered.{without_twins-parts, without_twins-keeps}
use Rattle.joint_laws.proofs.Adopting.{held-cases, pair-cases, new-live, new-held, stays-live, pushed-still, grows, after, newest, pushed}
use Rattle.joint_laws.proofs.DriverPeers.{made-in_hand}

-- rows hold the same handles, and the registry, the adopted handles and the open cycle are the same
pub record OwnersAlike (r u : ManagedReplay) : Type 0 where
  pub on : (m h : ℕ) → Holds r.managed m h → Holds u.managed m h
  pub back : (m h : ℕ) → Holds u.managed m h → Holds r.managed m h
  pub registry : u.registry ≡ r.registry
  pub adopted : u.adopted ≡ r.adopted
  pub cycle : u.managed.cycle ≡ r.managed.cycle

abbrev candidates_by : Option OpenCycle → List ℕ
candidates_by o = elim o [ None ↦ [] | Some c ↦ c.candidates ]

module _ (r u : ManagedReplay) (s : PeerReplay) (a : OwnersAlike r u) where
  candidates_same : candidates_of u.managed ≡ candidates_of r.managed
  candidates_same = ap candidates_by a.cycle

  row_on : (m p : ℕ) → IsRowOf r.managed s.peers.issued m p → IsRowOf u.managed s.peers.issued m p
  row_on m p w = record { handle = w.handle; holds = a.on m w.handle w.holds; row = w.row; is_issued = w.is_issued; leads = w.leads }

  row_back : (m p : ℕ) → IsRowOf u.managed s.peers.issued m p → IsRowOf r.managed s.peers.issued m p
  row_back m p w = record { handle = w.handle; holds = a.back m w.handle w.holds; row = w.row; is_issued = w.is_issued; leads = w.leads }

  pub owners_alike : OwnersInvariant r s → OwnersInvariant u s
  owners_alike k = record {
    held_ones = λ m h q. k.held_ones m h (a.back m h q);
    strong_ones = λ m h q n. k.strong_ones m h (a.back m h q) (λ c. n (subst (λ z. Contains z m) (sym candidates_same) c));
    weak_ones = λ h w q. (let t = k.weak_ones h w q in (t.0, a.on t.0 h t.1, subst (λ z. Contains z t.0) (sym candidates_same) t.2));
    registered = λ m p w. subst (λ z. Contains z (p, m)) (sym a.registry) (k.registered m p (row_back m p w));
    pairs = λ p m c. row_on m p (k.pairs p m (subst (λ z. Contains z (p, m)) a.registry c));
    adopted = λ h c. k.adopted h (subst (λ z. Contains z h) a.adopted c);
  }

  pub callers_alike : (ds : List Doing) → CallersInvariant r s ds → CallersInvariant u s ds
  callers_alike ds k = record {
    loose = λ t h w. (let l = k.loose t h w in record { strong_one = l.strong_one; held_one = l.held_one; unowned = λ m q. l.unowned m (a.back m h q) });
    apart = k.apart;
    peers = k.peers;
    virgins = λ t h p w. (
        let v = k.virgins t h p w in
        record {
          slots = v.slots;
          fields = v.fields;
          handles = v.handles;
          pairs = λ m c. v.pairs m (subst (λ z. Contains z (p, m)) a.registry c);
          unadopted = λ c. v.unadopted (subst (λ z. Contains z h) a.adopted c);
        });
    lent_ones = λ t h w. subst (λ z. Contains z h) (sym a.adopted) (k.lent_ones t h w);
  }

-- a new row takes a loose handle on a peer without a pair
module _ (r : ManagedReplay) (s : PeerReplay) (v : ℕ) (kind : Kind) (n p h : ℕ) (k : ReplayInvariant r)
    (virgin : Contains r.adopted h → ⊥) (loose : IsLoose r s h) (i : Issued) (q : IsIssued s.peers.issued h i) (on_peer : i.peer ≡ p) where
  abbrev taken : ManagedReplay
  taken = record r { managed = after r v kind n p h k virgin; registry = pushed r v kind n p h k virgin; adopted = r.adopted ++ h ∷ [] }

  old_on : (m g : ℕ) → Holds r.managed m g → Holds taken.managed m g
  old_on m g w = record { live = stays-live r taken.managed k (grows r v kind n p h k virgin) m w.live; held = pushed-still r.managed.held (Some h) m g w.held }

  row_old : (m x : ℕ) → IsRowOf r.managed s.peers.issued m x → IsRowOf taken.managed s.peers.issued m x
  row_old m x w = record { handle = w.handle; holds = old_on m w.handle w.holds; row = w.row; is_issued = w.is_issued; leads = w.leads }

  row_new : IsRowOf taken.managed s.peers.issued (newest r v kind n p h k virgin) p
  row_new = record { handle = h; holds = record { live = new-live r v kind n p h k virgin; held = new-held r v kind n p h k virgin }; row = i; is_issued = q; leads = on_peer }

  registered_taken : OwnersInvariant r s → (m x : ℕ) → IsRowOf taken.managed s.peers.issued m x → Contains taken.registry (x, m)
  registered_taken o m x w = elim (held-cases r v kind n p h k virgin m w.handle w.holds) [
    | inl old ↦ Contains-append_left r.registry ((p, newest r v kind n p h k virgin) ∷ []) (x, m)
        (o.registered m x (record { handle = w.handle; holds = old; row = w.row; is_issued = w.is_issued; leads = w.leads }))
    | inr new ↦ (
        let same : i ≡ w.row = same_Some i w.row (sym q ∙ (ap (λ z. numbered_at s.peers.issued z) new.1 ∙ w.is_issued)) in
        let peers : p ≡ x = sym on_peer ∙ (ap (λ (z : Issued). z.peer) same ∙ w.leads) in
        let pair : (p, newest r v kind n p h k virgin) ≡ (x, m) = λ j. (peers j, (sym new.0) j) in
        subst (λ z. Contains taken.registry z) pair (Contains-push r.registry (p, newest r v kind n p h k virgin)))
  ]

  pub owners_taken : OwnersInvariant r s → OwnersInvariant taken s
  owners_taken o = record {
    held_ones = λ m g w. elim (held-cases r v kind n p h k virgin m g w) [ inl old ↦ o.held_ones m g old | inr new ↦ subst (IsHeldOne s) new.1 loose.held_one ];
    strong_ones = λ m g w out. elim (held-cases r v kind n p h k virgin m g w) [ inl old ↦ o.strong_ones m g old out | inr new ↦ subst (λ z. HasStrength s z strong) new.1 loose.strong_one ];
    weak_ones = λ g w u. (let t = o.weak_ones g w u in (t.0, old_on t.0 g t.1, t.2));
    registered = registered_taken o;
    pairs = λ x m c. elim (pair-cases r v kind n p h k virgin x m c) [
      | inl old ↦ row_old m x (o.pairs x m old)
      | inr new ↦ subst (λ z. IsRowOf taken.managed s.peers.issued m z) new.0 (subst (λ z. IsRowOf taken.managed s.peers.issued z p) new.1 row_new)
    ];
    adopted = λ g c. elim (Contains-push_cases r.adopted h g c) [ inl old ↦ o.adopted g old | inr e ↦ subst (λ z. z ≤ length s.peers.issued) e (numbered-within s.peers.issued h i q).1 ];
  }

  pub callers_taken : (ds : List Doing) → CallersInvariant r s ds → ((t : ℕ) → HasInHand (doing_in ds t) h → ⊥) → CallersInvariant taken s ds
  callers_taken ds c none = record {
    loose = λ t g w. (
        let l = c.loose t g w in
        record {
          strong_one = l.strong_one;
          held_one = l.held_one;
          unowned = λ m u. elim (held-cases r v kind n p h k virgin m g u) [
            | inl old ↦ l.unowned m old
            | inr new ↦ none t (subst (λ z. HasInHand (doing_in ds t) z) (sym new.1) w)
          ];
        });
    apart = c.apart;
    peers = c.peers;
    virgins = λ t g x w. (
        let u = c.virgins t g x w in
        let other : h ≡ g → ⊥ = λ e. none t (subst (λ z. HasInHand (doing_in ds t) z) (sym e) (made-in_hand (doing_in ds t) g x w)) in
        record {
          slots = u.slots;
          fields = u.fields;
          handles = u.handles;
          pairs = λ m d. elim (pair-cases r v kind n p h k virgin x m d) [
            | inl old ↦ u.pairs m old
            | inr new ↦ other (u.handles h i q (on_peer ∙ new.0))
          ];
          unadopted = λ d. elim (Contains-push_cases r.adopted h g d) [ inl old ↦ u.unadopted old | inr e ↦ other e ];
        });
    lent_ones = λ t g w. Contains-append_left r.adopted (h ∷ []) g (c.lent_ones t g w);
  }

-- a row in a variable gives its handle up
module _ (r : ManagedReplay) (s : PeerReplay) (v m : ℕ) (k : ReplayInvariant r) (e : slot r.managed.heap.vars v ≡ Some m) where
  abbrev gave : ManagedReplay
  gave = record r { managed = record r.managed { held = numbered_set r.managed.held m None }; registry = without_twins r.registry (m ∷ []) }

  root : IsManagedRoot r.managed m
  root = inl (inl (slot-Contains r.managed.heap.vars v m e))

  -- it is no candidate
  candidate-none : (o : Option OpenCycle) → r.managed.cycle ≡ o → Contains (candidates_by o) m → ⊥
  candidate-none None q c = Contains-nil m c
  candidate-none (Some c) q d = (k.managed.dead c q).unnamed m root (((k.managed.dead c q).candidates m).0 d).0

  pub no_candidate : Contains (candidates_of r.managed) m → ⊥
  no_candidate c = candidate-none r.managed.cycle refl c

  other : (x h : ℕ) → Holds gave.managed x h → (x ≢ m) × Holds r.managed x h
  other x h q = elim (cases_eq x m) [
    | inl same ↦ absurd (none_some h (numbered_set-same r.managed.held m None (Some h) (subst (λ z. numbered_at gave.managed.held z ≡ Some (Some h)) same q.held)))
    | inr ne ↦ (ne, record { live = q.live; held = sym (numbered_set-other r.managed.held m x None ne) ∙ q.held })
  ]

  still : (x h : ℕ) → x ≢ m → Holds r.managed x h → Holds gave.managed x h
  still x h ne q = record { live = q.live; held = numbered_set-other r.managed.held m x None ne ∙ q.held }

  not_in : (x : ℕ) → x ≢ m → Contains (m ∷ []) x → ⊥
  not_in x ne c = elim (Contains-cons_cases m [] x c) [ inl q ↦ ne (sym q) | inr d ↦ Contains-nil x d ]

  pub owners_gave : OwnersInvariant r s → OwnersInvariant gave s
  owners_gave o = record {
    held_ones = λ x h q. o.held_ones x h (other x h q).1;
    strong_ones = λ x h q n. o.strong_ones x h (other x h q).1 n;
    weak_ones = λ h w q. (
        let t = o.weak_ones h w q in
        (t.0, still t.0 h (λ same. no_candidate (subst (λ z. Contains (candidates_of r.managed) z) same t.2)) t.1, t.2));
    registered = λ x p w. (
        let u = other x w.handle w.holds in
        without_twins-keeps r.registry (m ∷ []) p x (o.registered x p (record { handle = w.handle; holds = u.1; row = w.row; is_issued = w.is_issued; leads = w.leads })) (not_in x u.0));
    pairs = λ p x c. (
        let u = without_twins-parts r.registry (m ∷ []) p x c in
        let w = o.pairs p x u.0 in
        record {
          handle = w.handle;
          holds = still x w.handle (λ same. u.1 (subst (λ z. Contains (m ∷ []) z) (sym same) (Contains-here m []))) w.holds;
          row = w.row;
          is_issued = w.is_issued;
          leads = w.leads;
        });
    adopted = o.adopted;
  }

  pub callers_gave : (ds : List Doing) → CallersInvariant r s ds → CallersInvariant gave s ds
  callers_gave ds c = record {
    loose = λ t h w. (let l = c.loose t h w in record { strong_one = l.strong_one; held_one = l.held_one; unowned = λ x q. l.unowned x (other x h q).1 });
    apart = c.apart;
    peers = c.peers;
    virgins = λ t h p w. (
        let u = c.virgins t h p w in
        record { slots = u.slots; fields = u.fields; handles = u.handles; pairs = λ x d. u.pairs x (without_twins-parts r.registry (m ∷ []) p x d).0; unadopted = u.unadopted });
    lent_ones = c.lent_ones;
  }

  -- the handle that it gave up is loose
  pub gave-loose : OwnersInvariant r s → (h : ℕ) → Holds r.managed m h → IsLoose gave s h
  gave-loose o h q = record {
    strong_one = o.strong_ones m h q no_candidate;
    held_one = o.held_ones m h q;
    unowned = λ x w. (let u = other x h w in u.0 (k.alone x m h u.1 q));
  }
