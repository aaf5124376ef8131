-- The peers, as the threads that made them know them: which variables are empty; that the peer of a handle stands in no
-- variable and has nothing in a field; and that each filled static has its group's peer.
use Rattle.std.proofs.Common.{◌≡◌, ◌≢◌, ℕ, zero, suc, ◌+◌, ◌<◌, ◌≤◌, ◌⊎◌, inl, inr, Bool, true, false, List, [], ◌∷◌, ◌++◌, length, Option, Some, None, set, replicate, nat_le, refl, sym, ap, subst}
use Rattle.std.proofs.Common.{◌∙◌, arith, length-append}
use Rattle.std.specs.Prelude.{Contains, if◌then◌else◌}
use Rattle.std.proofs.Math.ListN.{length-set}
use Rattle.std.proofs.lemmas.Bool.{cases_eq}
use Rattle.joint_machine.specs.declared.names.Sort.{Sort}
use Rattle.joint_machine.specs.declared.lines.Act.TheVariants as act
use Rattle.joint_machine.specs.declared.events.Op.{Op}
use Rattle.joint_machine.specs.declared.events.Op.TheVariants as op
use Rattle.joint_machine.specs.declared.events.Entry.{Entry}
use Rattle.joint_machine.specs.declared.events.Reply.TheVariants as says
use Rattle.joint_machine.specs.Heaps.{Heap, Answered, answer, slot, place, numbered_at, fields_of, field_set, field_stored, with_field, with_var, with_static, with_object, next_number}
use Rattle.joint_machine.specs.Peers.{Peers, Issued, held, strong, peer_of, with_peer, with_handle}
use Rattle.joint_machine.proofs.Deciding.{none_some, some-same, test-cases}
use Rattle.joint_machine.proofs.Numbered.{numbered-within, numbered-push_cases, numbered-push_old}
use Rattle.joint_laws.specs.PeerInvariants.{IsIssued}
use Rattle.joint_laws.proofs.Fields.{with_field-other, with_field-length, with_object-old, with_object-new}
use Rattle.generated_laws.proofs.Showing.{Group, slot-set_here, slot-set_other, one-place}

-- which of a peer thread's variables may be filled
pub record Filled : Type 0 where
  pub a : Bool
  pub b : Bool

abbrev pub filled : Filled → ℕ → Bool
filled f zero = f.a
filled f (suc zero) = f.b
filled f (suc (suc n)) = false

abbrev pub fill : Filled → ℕ → Bool → Filled
fill f zero x = record f { a = x }
fill f (suc zero) x = record f { b = x }
fill f (suc (suc n)) x = f

abbrev pub none_filled : Filled
none_filled = record { a = false; b = false }

-- one entry of a peer thread, and all that are left
abbrev pub PeerStep : Filled → Op → (Filled → Type 0) → Type 0
PeerStep f (op.Line (act.NewPeer v n)) go = (v.0 < 2) × go (fill f v.0 true)
PeerStep f (op.Line (act.Set v i w)) go = go f
PeerStep f (op.Line (act.Drop v)) go = (v.0 < 2) × go (fill f v.0 false)
PeerStep f o go = ⊥

abbrev pub PeerGoing : List Entry → Filled → Type 0
PeerGoing [] f = (v : ℕ) → filled f v ≡ false
PeerGoing (e ∷ es) f = PeerStep f e.made.op (PeerGoing es)

-- a static of the peer heap, and its group
abbrev pub PeerStaticIs : Option ℕ → Option Group → Type 0
PeerStaticIs None None = Unit {0}
PeerStaticIs (Some q) (Some g) = (g.peer ≡ q) × (g.turned ≡ true)
PeerStaticIs _ _ = ⊥

pub record ArePeersShown (p : Peers) (fills : ℕ → Filled) (groups : List (Option Group)) : Type 0 where
  pub size : length p.heap.vars ≡ 72
  pub shelf : length p.heap.statics ≡ 16
  pub vars : (t v : ℕ) → v < 8 → filled (fills t) v ≡ false → slot p.heap.vars (place t v) ≡ None
  pub unnamed : (n : ℕ) (i : Issued) → IsIssued p.issued n i → (v : ℕ) → slot p.heap.vars v ≡ Some i.peer → ⊥
  pub bare : (n : ℕ) (i : Issued) (q : ℕ) → IsIssued p.issued n i → Contains (fields_of p.heap i.peer) (Some q) → ⊥
  pub made : (n : ℕ) (i : Issued) → IsIssued p.issued n i → i.peer ≤ length p.heap.fields
  pub holds : (n : ℕ) (i : Issued) → IsIssued p.issued n i → i.hold ≡ held
  pub statics : (y : ℕ) → y < 16 → PeerStaticIs (slot p.heap.statics y) (slot groups (16 + y))

fill-same : (f : Filled) (v : ℕ) (x : Bool) → v < 2 → filled (fill f v x) v ≡ x
fill-same f zero x l = refl
fill-same f (suc zero) x l = refl
fill-same f (suc (suc n)) x l = absurd (omega (arith, l))

fill-other : (f : Filled) (v w : ℕ) (x : Bool) → w ≢ v → filled (fill f v x) w ≡ filled f w
fill-other f zero zero x n = absurd (n refl)
fill-other f zero (suc zero) x n = refl
fill-other f zero (suc (suc w)) x n = refl
fill-other f (suc zero) zero x n = refl
fill-other f (suc zero) (suc zero) x n = absurd (n refl)
fill-other f (suc zero) (suc (suc w)) x n = refl
fill-other f (suc (suc v)) w x n = refl

-- a variable of a peer thread gets a new peer, or is emptied
module _ (old vars : List (Option ℕ)) (fills next : ℕ → Filled) (t v : ℕ) (x : Bool) (o : Option ℕ) (few : t ≤ 8) (small : v < 2) (len : length old ≡ 72) (is : vars ≡ set old (place t v) o)
    (empties : x ≡ false → o ≡ None) (same : (u : ℕ) → u ≢ t → next u ≡ fills u) (here : next t ≡ fill (fills t) v x)
    (was : (u w : ℕ) → w < 8 → filled (fills u) w ≡ false → slot old (place u w) ≡ None) where
  vars-filled : (u w : ℕ) → w < 8 → filled (next u) w ≡ false → slot vars (place u w) ≡ None
  vars-filled u w l e = elim (cases_eq u t) [
    | inr n ↦ ap (λ z. slot z (place u w)) is ∙ (slot-set_other old (place t v) (place u w) o (λ q. n (one-place u t w v l (omega (arith, small)) q).0)
        ∙ was u w l (ap (λ z. filled z w) (sym (same u n)) ∙ e))
    | inl q ↦ elim (cases_eq w v) [
      | inl r ↦ (
          let off : x ≡ false = sym (fill-same (fills t) v x small) ∙ (ap (λ z. filled (fill (fills t) v x) z) (sym r) ∙ (ap (λ z. filled z w) (sym here) ∙ (ap (λ z. filled (next z) w) (sym q) ∙ e)))
          in
          ap (λ z. slot z (place u w)) is ∙ (ap (λ k. slot (set old (place t v) o) k) (ap (λ k. place k w) q ∙ ap (λ k. place t k) r)
          ∙ (slot-set_here old (place t v) o (omega (arith, len, few, small)) ∙ empties off)))
      | inr r ↦
          ap (λ z. slot z (place u w)) is ∙ (slot-set_other old (place t v) (place u w) o (λ f. r (one-place u t w v l (omega (arith, small)) f).1)
          ∙ was u w l (ap (λ z. filled (fills z) w) q ∙ (sym (fill-other (fills t) v w x r) ∙ (ap (λ z. filled z w) (sym here) ∙ (ap (λ z. filled (next z) w) (sym q) ∙ e)))))
    ]
  ]

-- what a slot has after a write it had before, or it is what was written
slot-cases : (xs : List (Option ℕ)) (i k : ℕ) (o : Option ℕ) (z : ℕ) → slot (set xs i o) k ≡ Some z → (slot xs k ≡ Some z) ⊎ (o ≡ Some z)
slot-cases xs i k o z e = elim (cases_eq k i) [
  | inr n ↦ inl (sym (slot-set_other xs i k o n) ∙ e)
  | inl q ↦ written xs i (ap (λ n. slot (set xs i o) n) (sym q) ∙ e) q
]
  where
    written : (ys : List (Option ℕ)) (j : ℕ) → slot (set xs i o) i ≡ Some z → k ≡ i → (slot xs k ≡ Some z) ⊎ (o ≡ Some z)
    written ys j f q = here xs i f
      where
        here : (zs : List (Option ℕ)) (n : ℕ) → slot (set zs n o) n ≡ Some z → (slot xs k ≡ Some z) ⊎ (o ≡ Some z)
        here [] n f = absurd (none_some z f)
        here (y ∷ zs) zero f = inr f
        here (y ∷ zs) (suc n) f = here zs n f

module _ (p : Peers) (fills next : ℕ → Filled) (groups : List (Option Group)) (w : ArePeersShown p fills groups) where
  -- a further peer in a variable
  pub peer-shown : (t v n : ℕ) → t ≤ 8 → v < 2 → (sort : Sort) → ((u : ℕ) → u ≢ t → next u ≡ fills u) → next t ≡ fill (fills t) v true
      → ArePeersShown (let grown = with_peer p sort n in record grown { heap = with_var grown.heap (place t v) (Some (next_number p.heap)) }) next groups
  peer-shown t v n few small sort same here = record {
    size = length-set p.heap.vars (place t v) (Some (next_number p.heap)) ∙ w.size;
    shelf = w.shelf;
    vars = vars-filled p.heap.vars (set p.heap.vars (place t v) (Some (next_number p.heap))) fills next t v true (Some (next_number p.heap)) few small w.size refl (λ e. absurd (cc)) same here w.vars;
    unnamed = λ m i e u f. elim (slot-cases p.heap.vars (place t v) u (Some (next_number p.heap)) i.peer f) [
      | inl c ↦ w.unnamed m i e u c
      | inr c ↦ (let q = some-same (next_number p.heap) i.peer c in let l = w.made m i e in omega (arith, q, l))
    ];
    bare = λ m i q e c. w.bare m i q e (subst (λ fs. Contains fs (Some q)) (with_object-old p.heap n i.peer (w.made m i e)) c);
    made = λ m i e. (let l = w.made m i e in let g = length-append p.heap.fields (replicate n None ∷ []) in omega (arith, l, g));
    holds = w.holds;
    statics = w.statics;
  }

  -- a variable is emptied
  pub peer-dropped : (t v : ℕ) → t ≤ 8 → v < 2 → ((u : ℕ) → u ≢ t → next u ≡ fills u)
      → next t ≡ fill (fills t) v false → ArePeersShown (record p { heap = with_var p.heap (place t v) None }) next groups
  peer-dropped t v few small same here = record {
    size = length-set p.heap.vars (place t v) None ∙ w.size;
    shelf = w.shelf;
    vars = vars-filled p.heap.vars (set p.heap.vars (place t v) None) fills next t v false None few small w.size refl (λ e. refl) same here w.vars;
    unnamed = λ m i e u f. elim (slot-cases p.heap.vars (place t v) u None i.peer f) [ inl c ↦ w.unnamed m i e u c | inr c ↦ none_some i.peer c ];
    bare = w.bare;
    made = w.made;
    holds = w.holds;
    statics = w.statics;
  }

-- a write changes the fields of the one object that its variable names
record KeepsOthers (h k : Heap) (v : ℕ) : Type 0 where
  pub fields : (y : ℕ) → (slot h.vars v ≡ Some y → ⊥) → fields_of k y ≡ fields_of h y
  pub vars : k.vars ≡ h.vars
  pub statics : k.statics ≡ h.statics
  pub made : length k.fields ≡ length h.fields

module _ (h : Heap) (v i : ℕ) where
  all-kept : KeepsOthers h h v
  all-kept = record { fields = λ y n. refl; vars = refl; statics = refl; made = refl }

  wrote : (x : ℕ) (o : Option ℕ) → slot h.vars v ≡ Some x → KeepsOthers h (with_field h x i o) v
  wrote x o e = record { fields = λ y n. with_field-other h x i o y (λ q. n (e ∙ ap Some (sym q))); vars = refl; statics = refl; made = with_field-length h x i o }

  stored-keeps : (x : ℕ) (w : Option ℕ) → slot h.vars v ≡ Some x → KeepsOthers h (field_stored h x i w).state v
  stored-keeps x None e = wrote x None e
  stored-keeps x (Some u) e = by (slot h.vars u)
    where
      by : (o : Option ℕ) → KeepsOthers h (elim o as (λ z. Answered Heap) [ None ↦ answer says.Empty h | Some y ↦ answer says.Ok (with_field h x i (Some y)) ]).state v
      by None = all-kept
      by (Some y) = wrote x (Some y) e

  set-keeps : (w : Option ℕ) → KeepsOthers h (field_set h v i w).state v
  set-keeps w = by (slot h.vars v) refl
    where
      by : (o : Option ℕ) → slot h.vars v ≡ o → KeepsOthers h (elim o as (λ z. Answered Heap)
          [ None ↦ answer says.Empty h | Some x ↦ if nat_le (length (fields_of h x)) i then answer says.Range h else field_stored h x i w ]).state v
      by None e = all-kept
      by (Some x) e = test-cases (λ (a : Answered Heap). KeepsOthers h a.state v) (nat_le (length (fields_of h x)) i) _ _ all-kept (stored-keeps x w e)

-- a further handle: what is issued is old, or the new one
issued-cases : (p : Peers) (q : ℕ) (n : ℕ) (i : Issued) → IsIssued (p.issued ++ record { peer = q; hold = held; strength = strong } ∷ []) n i
    → IsIssued p.issued n i ⊎ ((n ≡ length p.issued + 1) × (record { peer = q; hold = held; strength = strong } ≡ i))
issued-cases p q n i e = numbered-push_cases p.issued (record { peer = q; hold = held; strength = strong }) n i e

-- where handles led they lead
pub peer_of-grows : (issued : List Issued) (new : Issued) (h q : ℕ) → peer_of issued h ≡ Some q → peer_of (issued ++ new ∷ []) h ≡ Some q
peer_of-grows issued new h q e = by (numbered_at issued h) refl
  where
    by : (o : Option Issued) → numbered_at issued h ≡ o → peer_of (issued ++ new ∷ []) h ≡ Some q
    by None f = absurd (none_some q (sym (ap (λ z. elim z [ None ↦ None | Some i ↦ Some i.peer ]) f) ∙ e))
    by (Some i) f = ap (λ z. elim z [ None ↦ None | Some j ↦ Some j.peer ]) (numbered-push_old issued new h (numbered-within issued h i f).1) ∙ e

-- a further handle on a peer on which one was issued before
pub record IsReissued (old new : List Issued) : Type 0 where
  pub place : ℕ
  pub was : Issued
  pub is_issued : IsIssued old place was
  pub grown : new ≡ old ++ record { peer = was.peer; hold = held; strength = strong } ∷ []

-- no handle was issued, or one on such a peer
abbrev pub IsIssuedOn : List Issued → List Issued → Type 0
IsIssuedOn old new = (new ≡ old) ⊎ IsReissued old new

pub peer_of-on : (old new : List Issued) (h q : ℕ) → IsIssuedOn old new → peer_of old h ≡ Some q → peer_of new h ≡ Some q
peer_of-on old new h q (inl e) f = ap (λ l. peer_of l h) e ∙ f
peer_of-on old new h q (inr w) f = ap (λ l. peer_of l h) w.grown ∙ peer_of-grows old (record { peer = w.was.peer; hold = held; strength = strong }) h q f

-- each handle has its peer from one that was issued before, and is held if that is
record IsBefore (old : List Issued) (i : Issued) : Type 0 where
  pub place : ℕ
  pub was : Issued
  pub is_issued : IsIssued old place was
  pub same : was.peer ≡ i.peer
  pub holds : was.hold ≡ held → i.hold ≡ held

before-on : (old new : List Issued) (n : ℕ) (i : Issued) → IsIssuedOn old new → IsIssued new n i → IsBefore old i
before-on old new n i (inl e) f = record { place = n; was = i; is_issued = subst (λ l. IsIssued l n i) e f; same = refl; holds = λ h. h }
before-on old new n i (inr w) f = elim (numbered-push_cases old (record { peer = w.was.peer; hold = held; strength = strong }) n i (subst (λ l. IsIssued l n i) w.grown f)) [
  | inl c ↦ record { place = n; was = i; is_issued = c; same = refl; holds = λ h. h }
  | inr c ↦ record { place = w.place; was = w.was; is_issued = w.is_issued; same = ap (λ (z : Issued). z.peer) c.1; holds = λ h. ap (λ (z : Issued). z.hold) (sym c.1) }
]

module _ (p : Peers) (fills : ℕ → Filled) (groups : List (Option Group)) (w : ArePeersShown p fills groups) where
  pub set-shown : (v i : ℕ) (u : Option ℕ) → ArePeersShown (record p { heap = (field_set p.heap v i u).state }) fills groups
  set-shown v i u =
      let k = set-keeps p.heap v i u in
      record {
        size = ap length k.vars ∙ w.size;
        shelf = ap length k.statics ∙ w.shelf;
        vars = λ t x l e. ap (λ z. slot z (place t x)) k.vars ∙ w.vars t x l e;
        unnamed = λ n j e x f. w.unnamed n j e x (ap (λ z. slot z x) (sym k.vars) ∙ f);
        bare = λ n j q e c. w.bare n j q e (subst (λ fs. Contains fs (Some q)) (k.fields j.peer (w.unnamed n j e v)) c);
        made = λ n j e. (let l = w.made n j e in let g = k.made in omega (arith, l, g));
        holds = w.holds;
        statics = λ y l. subst (λ z. PeerStaticIs (slot z y) (slot groups (16 + y))) (sym k.statics) (w.statics y l);
      }

  -- a further peer with a handle
  pub pair-shown : (sort : Sort) (n : ℕ) → ((v z : ℕ) → slot p.heap.vars v ≡ Some z → z ≤ length p.heap.fields)
      → ArePeersShown (with_handle (with_peer p sort n) (next_number p.heap) held strong) fills groups
  pair-shown sort n named = record {
    size = w.size;
    shelf = w.shelf;
    vars = w.vars;
    unnamed = λ m i e v f. elim (issued-cases p (next_number p.heap) m i e) [
      | inl c ↦ w.unnamed m i c v f
      | inr c ↦ (let q = ap (λ (z : Issued). z.peer) c.1 in let l = named v i.peer f in absurd (omega (arith, q, l)))
    ];
    bare = λ m i q e c. elim (issued-cases p (next_number p.heap) m i e) [
      | inl d ↦ w.bare m i q d (subst (λ fs. Contains fs (Some q)) (with_object-old p.heap n i.peer (w.made m i d)) c)
      | inr d ↦ with_object-new p.heap n q (subst (λ z. Contains (fields_of (with_object p.heap n) z) (Some q)) (sym (ap (λ (z : Issued). z.peer) d.1)) c)
    ];
    made = λ m i e. (let g = length-append p.heap.fields (replicate n None ∷ []) in elim (issued-cases p (next_number p.heap) m i e) [
      | inl c ↦ (let l = w.made m i c in omega (arith, l, g))
      | inr c ↦ (let q = ap (λ (z : Issued). z.peer) c.1 in omega (arith, q, g))
    ]);
    holds = λ m i e. elim (issued-cases p (next_number p.heap) m i e) [ inl c ↦ w.holds m i c | inr c ↦ ap (λ (z : Issued). z.hold) (sym c.1) ];
    statics = w.statics;
  }

  -- a static comes to hold a group's peer
  pub land-shown : (y q : ℕ) (g : Group) → y < 16 → length groups ≡ 32 → g.peer ≡ q → g.turned ≡ true
      → ArePeersShown (record p { heap = with_static p.heap y (Some q) }) fills (set groups (16 + y) (Some g))
  land-shown y q g small spots leads turned = record {
    size = w.size;
    shelf = length-set p.heap.statics y (Some q) ∙ w.shelf;
    vars = w.vars;
    unnamed = w.unnamed;
    bare = w.bare;
    made = w.made;
    holds = w.holds;
    statics = λ c l. elim (cases_eq c y) [
      | inl e ↦
          subst (λ z. PeerStaticIs (slot (set p.heap.statics y (Some q)) z) (slot (set groups (16 + y) (Some g)) (16 + z))) (sym e)
          (subst (λ z. PeerStaticIs z (slot (set groups (16 + y) (Some g)) (16 + y))) (sym (slot-set_here p.heap.statics y (Some q) (let s = w.shelf in omega (arith, small, s))))
          (subst (PeerStaticIs (Some q)) (sym (slot-set_here groups (16 + y) (Some g) (omega (arith, small, spots)))) (leads, turned)))
      | inr n ↦
          subst (λ z. PeerStaticIs z (slot (set groups (16 + y) (Some g)) (16 + c))) (sym (slot-set_other p.heap.statics y c (Some q) n))
          (subst (PeerStaticIs (slot p.heap.statics c)) (sym (slot-set_other groups (16 + y) (16 + c) (Some g) (λ e. n (omega (arith, e))))) (w.statics c l))
    ];
  }

  -- a group of the managed statics
  pub regrouped : (i : ℕ) (g : Group) → i < 16 → ArePeersShown p fills (set groups i (Some g))
  regrouped i g small = record {
    size = w.size;
    shelf = w.shelf;
    vars = w.vars;
    unnamed = w.unnamed;
    bare = w.bare;
    made = w.made;
    holds = w.holds;
    statics = λ c l. subst (PeerStaticIs (slot p.heap.statics c)) (sym (slot-set_other groups i (16 + c) (Some g) (λ e. omega (arith, e, small)))) (w.statics c l);
  }

  -- nothing that is shown changed, but that a handle may have been issued on a peer that has one
  pub still-peers : (k : Peers) → k.heap.fields ≡ p.heap.fields → k.heap.vars ≡ p.heap.vars → k.heap.statics ≡ p.heap.statics → IsIssuedOn p.issued k.issued → ArePeersShown k fills groups
  still-peers k f v c i =
      let old : (n : ℕ) (j : Issued) → IsIssued k.issued n j → IsBefore p.issued j = λ n j e. before-on p.issued k.issued n j i e in
      record {
        size = ap length v ∙ w.size;
        shelf = ap length c ∙ w.shelf;
        vars = λ t x l e. ap (λ z. slot z (place t x)) v ∙ w.vars t x l e;
        unnamed = λ n j e x q. (let b = old n j e in w.unnamed b.place b.was b.is_issued x (ap (λ z. slot z x) (sym v) ∙ (q ∙ ap Some (sym b.same))));
        bare = λ n j q e d. (
            let b = old n j e in
            w.bare b.place b.was q b.is_issued (subst (λ z. Contains (fields_of p.heap z) (Some q)) (sym b.same)
            (subst (λ fs. Contains fs (Some q)) (ap (λ (fs : List (List (Option ℕ))). elim (numbered_at fs j.peer) [ None ↦ [] | Some gs ↦ gs ]) f) d)));
        made = λ n j e. (let b = old n j e in let l = w.made b.place b.was b.is_issued in let s = b.same in let g = ap length f in omega (arith, l, s, g));
        holds = λ n j e. (let b = old n j e in b.holds (w.holds b.place b.was b.is_issued));
        statics = λ y l. subst (λ z. PeerStaticIs (slot z y) (slot groups (16 + y))) (sym c) (w.statics y l);
      }
