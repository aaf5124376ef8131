-- The managed objects, as the threads that made them know them: each variable names what its thread has there, no two
-- name the same, and each filled static names a group of two objects that no other static's group has.
use Rattle.std.proofs.Common.{◌≡◌, ◌≢◌, ℕ, ◌+◌, ◌<◌, ◌≤◌, ◌⊎◌, inl, inr, Bool, true, false, List, [], ◌∷◌, ◌++◌, length, Option, Some, None, set, replicate, refl, sym, ap, subst, ◌∙◌, arith}
use Rattle.std.proofs.Common.{length-append}
use Rattle.std.specs.Prelude.{Contains}
use Rattle.std.proofs.Math.ListN.{length-set}
use Rattle.std.proofs.lemmas.Bool.{cases_eq}
use Rattle.joint_machine.specs.declared.names.Kind.{Kind}
use Rattle.joint_machine.specs.Heaps.{slot, place, numbered_at, fields_of, with_field, with_var, next_number}
use Rattle.joint_machine.specs.Managed.{Managed, with_row}
use Rattle.joint_machine.proofs.Deciding.{some-same}
use Rattle.joint_machine.proofs.Numbered.{set-at_here, set-at_other, numbered-within, numbered-push_old, numbered-push_new, numbered_set-here, numbered_set-length}
use Rattle.joint_laws.proofs.Fields.{with_field-other, with_object-old}
use Rattle.generated_laws.proofs.Pictures.{Seen, seen, at, put, Mind, at-put_same, at-put_other}

abbrev pub number_of : Option Seen → Option ℕ
number_of None = None
number_of (Some x) = Some x.number

-- two objects of which one has the other in its only field, and one holds a handle on that peer; it is turned where
-- that is the one with the field
pub record Group : Type 0 where
  pub bridge : ℕ
  pub plain : ℕ
  pub peer : ℕ
  pub turned : Bool

abbrev pub Joined : Managed → ℕ → ℕ → Bool → Type 0
Joined m bridge plain false = (fields_of m.heap plain ≡ Some bridge ∷ []) × (fields_of m.heap bridge ≡ [])
Joined m bridge plain true = (fields_of m.heap bridge ≡ Some plain ∷ []) × (fields_of m.heap plain ≡ [])

pub record IsGroup (m : Managed) (g : Group) : Type 0 where
  pub holds : (h : ℕ) × (numbered_at m.held g.bridge ≡ Some (Some h))
  pub none : numbered_at m.held g.plain ≡ Some None
  pub joined : Joined m g.bridge g.plain g.turned

abbrev pub Names : Group → ℕ → Type 0
Names g z = (z ≡ g.bridge) ⊎ (z ≡ g.plain)

-- a static of the managed heap, and its group
abbrev pub StaticIs : Option ℕ → Option Group → Type 0
StaticIs None None = Unit {0}
StaticIs (Some z) (Some g) = (z ≡ g.plain) × (g.turned ≡ false)
StaticIs _ _ = ⊥

-- the groups of the managed heap's statics stand at the first sixteen places, those of the peer heap's behind them
pub record IsShown (m : Managed) (minds : ℕ → Mind) (groups : List (Option Group)) : Type 0 where
  pub places : length m.held ≡ length m.heap.fields
  pub size : length m.heap.vars ≡ 72
  pub shelf : length m.heap.statics ≡ 16
  pub spots : length groups ≡ 32
  pub vars : (t v : ℕ) → v < 8 → slot m.heap.vars (place t v) ≡ number_of (at (minds t).slots v)
  pub objects : (t v : ℕ) (x : Seen) → at (minds t).slots v ≡ Some x → (fields_of m.heap x.number ≡ x.fields) × (numbered_at m.held x.number ≡ Some x.handle)
  pub apart : (t v u w : ℕ) (x y : Seen) → at (minds t).slots v ≡ Some x → at (minds u).slots w ≡ Some y → x.number ≡ y.number → (t ≡ u) × (v ≡ w)
  pub unpinned : (z : ℕ) → Contains m.pins (Some z) → ⊥
  pub groups_are : (i : ℕ) (g : Group) → slot groups i ≡ Some g → IsGroup m g
  pub statics : (y : ℕ) → y < 16 → StaticIs (slot m.heap.statics y) (slot groups y)
  pub disjoint : (i j : ℕ) (g k : Group) (z : ℕ) → slot groups i ≡ Some g → slot groups j ≡ Some k → Names g z → Names k z → i ≡ j
  pub fresh : (t v : ℕ) (x : Seen) (i : ℕ) (g : Group) → (minds t).stored ≡ false → at (minds t).slots v ≡ Some x → slot groups i ≡ Some g → Names g x.number → ⊥

-- a place is that of one variable alone
pub one-place : (t u v w : ℕ) → v < 8 → w < 8 → place t v ≡ place u w → (t ≡ u) × (v ≡ w)
one-place t u v w a b e = (omega (arith, a, b, e), omega (arith, a, b, e))

pub slot-set_here : {X : Type 0} (xs : List (Option X)) (i : ℕ) (o : Option X) → i < length xs → slot (set xs i o) i ≡ o
slot-set_here xs i o l = ap (λ z. elim z [ None ↦ None | Some y ↦ y ]) (set-at_here xs i o l)

pub slot-set_other : {X : Type 0} (xs : List (Option X)) (i k : ℕ) (o : Option X) → k ≢ i → slot (set xs i o) k ≡ slot xs k
slot-set_other xs i k o n = ap (λ z. elim z [ None ↦ None | Some y ↦ y ]) (set-at_other xs i k o n)

-- what is named by a group was made
group-held : (m : Managed) (g : Group) (z : ℕ) → IsGroup m g → Names g z → (o : Option ℕ) × (numbered_at m.held z ≡ Some o)
group-held m g z w (inl e) = (Some w.holds.0, ap (numbered_at m.held) e ∙ w.holds.1)
group-held m g z w (inr e) = (None, ap (numbered_at m.held) e ∙ w.none)

-- a group stays one where its two objects keep their fields and handles
group-stays : (m k : Managed) (g : Group) → IsGroup m g → ((z : ℕ) → Names g z → fields_of k.heap z ≡ fields_of m.heap z)
    → ((z : ℕ) → Names g z → numbered_at k.held z ≡ numbered_at m.held z) → IsGroup k g
group-stays m k g w f h = record {
  holds = (w.holds.0, h g.bridge (inl refl) ∙ w.holds.1);
  none = h g.plain (inr refl) ∙ w.none;
  joined = by g.turned w.joined;
}
  where
    by : (b : Bool) → Joined m g.bridge g.plain b → Joined k g.bridge g.plain b
    by false j = (f g.plain (inr refl) ∙ j.0, f g.bridge (inl refl) ∙ j.1)
    by true j = (f g.bridge (inl refl) ∙ j.0, f g.plain (inr refl) ∙ j.1)

-- what a thread has after it put something into a variable
module _ (minds next : ℕ → Mind) (t v : ℕ) (s : Option Seen) (small : v < 3) (same : (u : ℕ) → u ≢ t → next u ≡ minds u) (slots : (next t).slots ≡ put (minds t).slots v s) where
  at-cases : (u w : ℕ) (x : Seen) → at (next u).slots w ≡ Some x → ((u ≡ t) × (w ≡ v) × (s ≡ Some x)) ⊎ (at (minds u).slots w ≡ Some x)
  at-cases u w x e = elim (cases_eq u t) [
    | inr n ↦ inr (ap (λ (m : Mind). at m.slots w) (sym (same u n)) ∙ e)
    | inl q ↦ (
        let there : at (put (minds t).slots v s) w ≡ Some x = ap (λ z. at z w) (sym slots) ∙ (ap (λ k. at (next k).slots w) (sym q) ∙ e) in
        elim (cases_eq w v) [
          | inl r ↦ inl (q, r, sym (at-put_same (minds t).slots v s small) ∙ (ap (λ k. at (put (minds t).slots v s) k) (sym r) ∙ there))
          | inr r ↦ inr (ap (λ k. at (minds k).slots w) q ∙ (sym (at-put_other (minds t).slots v w s r) ∙ there))
        ])
  ]

  vars-after : (old vars : List (Option ℕ)) → t ≤ 8 → length old ≡ 72 → vars ≡ set old (place t v) (number_of s) → ((u w : ℕ) → w < 8 → slot old (place u w) ≡ number_of (at (minds u).slots w))
      → (u w : ℕ) → w < 8 → slot vars (place u w) ≡ number_of (at (next u).slots w)
  vars-after old vars few len is was u w l = elim (cases_eq u t) [
    | inr n ↦ ap (λ z. slot z (place u w)) is ∙ (slot-set_other old (place t v) (place u w) (number_of s) (λ e. n (one-place u t w v l (omega (arith, small)) e).0)
        ∙ (was u w l ∙ ap (λ (m : Mind). number_of (at m.slots w)) (sym (same u n))))
    | inl q ↦ elim (cases_eq w v) [
      | inl r ↦
          ap (λ z. slot z (place u w)) is ∙ (ap (λ k. slot (set old (place t v) (number_of s)) k) (ap (λ k. place k w) q ∙ ap (λ k. place t k) r)
          ∙ (slot-set_here old (place t v) (number_of s) (omega (arith, len, few, small))
          ∙ ap number_of (sym (at-put_same (minds t).slots v s small) ∙ (ap (λ k. at (put (minds t).slots v s) k) (sym r) ∙ (ap (λ z. at z w) (sym slots) ∙ ap (λ k. at (next k).slots w) (sym q))))))
      | inr r ↦
          ap (λ z. slot z (place u w)) is ∙ (slot-set_other old (place t v) (place u w) (number_of s) (λ e. r (one-place u t w v l (omega (arith, small)) e).1)
          ∙ (was u w l ∙ ap number_of (ap (λ k. at (minds k).slots w) q ∙ (sym (at-put_other (minds t).slots v w s r) ∙ (ap (λ z. at z w) (sym slots) ∙ ap (λ k. at (next k).slots w) (sym q))))))
    ]
  ]

-- a further object that a variable comes to name
module _ (m : Managed) (minds next : ℕ → Mind) (groups : List (Option Group)) (w : IsShown m minds groups) (t v : ℕ) (kind : Kind) (n : ℕ) (o : Option ℕ) (few : t ≤ 8) (small : v < 3)
    (same : (u : ℕ) → u ≢ t → next u ≡ minds u) (slots : (next t).slots ≡ put (minds t).slots v (Some (seen (next_number m.heap) (replicate n None) o)))
    (stored : (next t).stored ≡ (minds t).stored) where
  abbrev after : Managed
  after = with_row m (place t v) kind n o

  abbrev new : Seen
  new = seen (next_number m.heap) (replicate n None) o

  old-held : (z : ℕ) (q : Option ℕ) → numbered_at m.held z ≡ Some q → (z ≤ length m.heap.fields) × (numbered_at after.held z ≡ Some q) × (fields_of after.heap z ≡ fields_of m.heap z)
  old-held z q e =
      let l = numbered-within m.held z q e in
      let p = w.places in
      let k : z ≤ length m.heap.fields = omega (arith, l.1, p) in
      (k, numbered-push_old m.held o z l.1 ∙ e, with_object-old m.heap n z k)

  new-held : numbered_at after.held (next_number m.heap) ≡ Some o
  new-held = subst (λ k. numbered_at (m.held ++ o ∷ []) (k + 1) ≡ Some o) w.places (numbered-push_new m.held o)

  new-fields : fields_of after.heap (next_number m.heap) ≡ replicate n None
  new-fields = ap (λ (z : Option (List (Option ℕ))). elim z [ None ↦ [] | Some fs ↦ fs ]) (numbered-push_new m.heap.fields (replicate n None))

  which : (u x : ℕ) (y : Seen) → at (next u).slots x ≡ Some y → ((u ≡ t) × (x ≡ v) × (Some new ≡ Some y)) ⊎ (at (minds u).slots x ≡ Some y)
  which = at-cases minds next t v (Some new) small same slots

  objects-after : (u x : ℕ) (y : Seen) → at (next u).slots x ≡ Some y → (fields_of after.heap y.number ≡ y.fields) × (numbered_at after.held y.number ≡ Some y.handle)
  objects-after u x y e = elim (which u x y e) [
    | inl c ↦ subst (λ (z : Seen). (fields_of after.heap z.number ≡ z.fields) × (numbered_at after.held z.number ≡ Some z.handle)) (some-same new y c.2) (new-fields, new-held)
    | inr c ↦ (let b = w.objects u x y c in let k = old-held y.number y.handle b.1 in (k.2 ∙ b.0, k.1))
  ]

  fresh-number : (z : ℕ) (q : Option ℕ) → numbered_at m.held z ≡ Some q → z ≡ next_number m.heap → ⊥
  fresh-number z q e f = (let l = numbered-within m.held z q e in let p = w.places in omega (arith, l.1, p, f))

  is-new : (y : Seen) → Some new ≡ Some y → y.number ≡ next_number m.heap
  is-new y e = ap (λ (z : Seen). z.number) (sym (some-same new y e))

  apart-after : (u a x b : ℕ) (y z : Seen) → at (next u).slots a ≡ Some y → at (next x).slots b ≡ Some z → y.number ≡ z.number → (u ≡ x) × (a ≡ b)
  apart-after u a x b y z p q e = elim (which u a y p) [
    | inl c ↦ elim (which x b z q) [
      | inl d ↦ (c.0 ∙ sym d.0, c.1 ∙ sym d.1)
      | inr d ↦ absurd (fresh-number z.number z.handle (w.objects x b z d).1 (sym e ∙ is-new y c.2))
    ]
    | inr c ↦ elim (which x b z q) [
      | inl d ↦ absurd (fresh-number y.number y.handle (w.objects u a y c).1 (e ∙ is-new z d.2))
      | inr d ↦ w.apart u a x b y z c d e
    ]
  ]

  stored-after : (u : ℕ) → (next u).stored ≡ (minds u).stored
  stored-after u = elim (cases_eq u t) [ inl q ↦ ap (λ k. (next k).stored) q ∙ (stored ∙ ap (λ k. (minds k).stored) (sym q)) | inr n ↦ ap (λ (k : Mind). k.stored) (same u n) ]

  fresh-after : (u a : ℕ) (y : Seen) (i : ℕ) (g : Group) → (next u).stored ≡ false → at (next u).slots a ≡ Some y → slot groups i ≡ Some g → Names g y.number → ⊥
  fresh-after u a y i g f e s k = elim (which u a y e) [
    | inl c ↦ (let h = group-held m g y.number (w.groups_are i g s) k in fresh-number y.number h.0 h.1 (is-new y c.2))
    | inr c ↦ w.fresh u a y i g (sym (stored-after u) ∙ f) c s k
  ]

  pub row-shown : IsShown after next groups
  row-shown = record {
    places = (let a = length-append m.held (o ∷ []) in let b = length-append m.heap.fields (replicate n None ∷ []) in let p = w.places in omega (arith, a, b, p));
    size = length-set m.heap.vars (place t v) (Some (next_number m.heap)) ∙ w.size;
    shelf = w.shelf;
    spots = w.spots;
    vars = vars-after minds next t v (Some new) small same slots m.heap.vars after.heap.vars few w.size refl w.vars;
    objects = objects-after;
    apart = apart-after;
    unpinned = w.unpinned;
    groups_are = λ i g s. group-stays m after g (w.groups_are i g s)
        (λ z k. (let h = group-held m g z (w.groups_are i g s) k in (old-held z h.0 h.1).2))
        (λ z k. (let h = group-held m g z (w.groups_are i g s) k in (old-held z h.0 h.1).1 ∙ sym h.1));
    statics = w.statics;
    disjoint = w.disjoint;
    fresh = fresh-after;
  }

-- a variable is emptied
module _ (m : Managed) (minds next : ℕ → Mind) (groups : List (Option Group)) (w : IsShown m minds groups) (t v : ℕ) (few : t ≤ 8) (small : v < 3)
    (same : (u : ℕ) → u ≢ t → next u ≡ minds u) (slots : (next t).slots ≡ put (minds t).slots v None)
    (stored : ((next t).stored ≡ (minds t).stored) ⊎ ((x : ℕ) → at (put (minds t).slots v None) x ≡ None)) where
  abbrev without : Managed
  without = record m { heap = with_var m.heap (place t v) None }

  still-there : (u a : ℕ) (y : Seen) → at (next u).slots a ≡ Some y → at (minds u).slots a ≡ Some y
  still-there u a y e = elim (at-cases minds next t v None small same slots u a y e) [ inl c ↦ absurd (none-seen y c.2) | inr c ↦ c ]
    where
      none-seen : (b : Seen) → None ≡ Some b → ⊥
      none-seen b e = cc

  fresh-still : (u a : ℕ) (y : Seen) (i : ℕ) (g : Group) → (next u).stored ≡ false → at (next u).slots a ≡ Some y → slot groups i ≡ Some g → Names g y.number → ⊥
  fresh-still u a y i g f e s k = elim (cases_eq u t) [
    | inr n ↦ w.fresh u a y i g (ap (λ (z : Mind). z.stored) (sym (same u n)) ∙ f) (still-there u a y e) s k
    | inl q ↦ elim stored [
      | inl c ↦ w.fresh u a y i g (ap (λ z. (minds z).stored) q ∙ (sym c ∙ (ap (λ z. (next z).stored) (sym q) ∙ f))) (still-there u a y e) s k
      | inr none ↦ none-some-same y (sym (none a) ∙ (ap (λ z. at z a) (sym slots) ∙ (ap (λ z. at (next z).slots a) (sym q) ∙ e)))
    ]
  ]
    where
      none-some-same : (b : Seen) → None ≡ Some b → ⊥
      none-some-same b e = cc

  pub drop-shown : IsShown without next groups
  drop-shown = record {
    places = w.places;
    size = length-set m.heap.vars (place t v) None ∙ w.size;
    shelf = w.shelf;
    spots = w.spots;
    vars = vars-after minds next t v None small same slots m.heap.vars without.heap.vars few w.size refl w.vars;
    objects = λ u a y e. w.objects u a y (still-there u a y e);
    apart = λ u a x b y z p q e. w.apart u a x b y z (still-there u a y p) (still-there x b z q) e;
    unpinned = w.unpinned;
    groups_are = λ i g s. group-stays m without g (w.groups_are i g s) (λ z k. refl) (λ z k. refl);
    statics = w.statics;
    disjoint = w.disjoint;
    fresh = fresh-still;
  }

-- one object comes to have another in its empty field
module _ (m : Managed) (minds next : ℕ → Mind) (groups : List (Option Group)) (w : IsShown m minds groups) (t v : ℕ) (x : Seen) (y : ℕ) (few : t ≤ 8) (small : v < 3)
    (here : at (minds t).slots v ≡ Some x) (bare : x.fields ≡ None ∷ [])
    (same : (u : ℕ) → u ≢ t → next u ≡ minds u) (slots : (next t).slots ≡ put (minds t).slots v (Some (seen x.number (Some y ∷ []) x.handle))) (stored : (next t).stored ≡ (minds t).stored) where
  abbrev written : Managed
  written = record m { heap = with_field m.heap x.number 0 (Some y) }

  abbrev now : Seen
  now = seen x.number (Some y ∷ []) x.handle

  was-bare : fields_of m.heap x.number ≡ None ∷ []
  was-bare = (w.objects t v x here).0 ∙ bare

  now-fields : fields_of written.heap x.number ≡ Some y ∷ []
  now-fields =
      let l = numbered-within m.held x.number x.handle (w.objects t v x here).1 in
      let p = w.places in
      ap (λ (z : Option (List (Option ℕ))). elim z [ None ↦ [] | Some fs ↦ fs ]) (numbered_set-here m.heap.fields x.number (set (fields_of m.heap x.number) 0 (Some y)) l.0 (omega (arith, l.1, p)))
      ∙ ap (λ fs. set fs 0 (Some y)) was-bare

  other-fields : (z : ℕ) → z ≢ x.number → fields_of written.heap z ≡ fields_of m.heap z
  other-fields z n = with_field-other m.heap x.number 0 (Some y) z n

  in-writing : (u a : ℕ) (z : Seen) → at (next u).slots a ≡ Some z → ((u ≡ t) × (a ≡ v) × (Some now ≡ Some z)) ⊎ (at (minds u).slots a ≡ Some z)
  in-writing = at-cases minds next t v (Some now) small same slots

  -- what was known there before has the same number
  before : (u a : ℕ) (z : Seen) → at (next u).slots a ≡ Some z → (o : Seen) × (at (minds u).slots a ≡ Some o) × (o.number ≡ z.number)
  before u a z e = elim (in-writing u a z e) [
    | inl c ↦ (x, ap (λ k. at (minds k).slots a) c.0 ∙ (ap (λ k. at (minds t).slots k) c.1 ∙ here), ap (λ (s : Seen). s.number) (some-same now z c.2))
    | inr c ↦ (z, c, refl)
  ]

  no-group : (i : ℕ) (g : Group) (z : ℕ) → slot groups i ≡ Some g → Names g z → z ≢ x.number
  no-group i g z s k e = by g.turned (w.groups_are i g s).joined k
    where
      by : (b : Bool) → Joined m g.bridge g.plain b → Names g z → ⊥
      by false j (inl q) = (let f : [] ≡ None ∷ [] = sym j.1 ∙ (ap (fields_of m.heap) (sym q ∙ e) ∙ was-bare) in cc)
      by false j (inr q) = (let f : Some g.bridge ∷ [] ≡ None ∷ [] = sym j.0 ∙ (ap (fields_of m.heap) (sym q ∙ e) ∙ was-bare) in cc)
      by true j (inl q) = (let f : Some g.plain ∷ [] ≡ None ∷ [] = sym j.0 ∙ (ap (fields_of m.heap) (sym q ∙ e) ∙ was-bare) in cc)
      by true j (inr q) = (let f : [] ≡ None ∷ [] = sym j.1 ∙ (ap (fields_of m.heap) (sym q ∙ e) ∙ was-bare) in cc)

  objects-written : (u a : ℕ) (z : Seen) → at (next u).slots a ≡ Some z → (fields_of written.heap z.number ≡ z.fields) × (numbered_at written.held z.number ≡ Some z.handle)
  objects-written u a z e = elim (cases_eq u t) [
    | inl q ↦ elim (cases_eq a v) [
      | inl r ↦
          subst (λ (s : Seen). (fields_of written.heap s.number ≡ s.fields) × (numbered_at written.held s.number ≡ Some s.handle))
          (some-same now z (sym (at-put_same (minds t).slots v (Some now) small)
          ∙ (ap (λ k. at (put (minds t).slots v (Some now)) k) (sym r) ∙ (ap (λ k. at k a) (sym slots) ∙ (ap (λ k. at (next k).slots a) (sym q) ∙ e)))))
          (now-fields, (w.objects t v x here).1)
      | inr r ↦ old-one (old-of (λ c. r c.1)) (λ c. r c.1)
    ]
    | inr n ↦ old-one (old-of (λ c. n c.0)) (λ c. n c.0)
  ]
    where
      old-of : ((u ≡ t) × (a ≡ v) → ⊥) → at (minds u).slots a ≡ Some z
      old-of n = elim (in-writing u a z e) [ inl c ↦ absurd (n (c.0, c.1)) | inr c ↦ c ]

      old-one : at (minds u).slots a ≡ Some z → ((u ≡ t) × (a ≡ v) → ⊥) → (fields_of written.heap z.number ≡ z.fields) × (numbered_at written.held z.number ≡ Some z.handle)
      old-one c n = (let b = w.objects u a z c in (other-fields z.number (λ f. n (w.apart u a t v z x c here f)) ∙ b.0, b.1))

  stored-still : (u : ℕ) → (next u).stored ≡ (minds u).stored
  stored-still u = elim (cases_eq u t) [ inl q ↦ ap (λ k. (next k).stored) q ∙ (stored ∙ ap (λ k. (minds k).stored) (sym q)) | inr n ↦ ap (λ (k : Mind). k.stored) (same u n) ]

  pub write-shown : IsShown written next groups
  write-shown = record {
    places = w.places ∙ sym (numbered_set-length m.heap.fields x.number (set (fields_of m.heap x.number) 0 (Some y)));
    size = w.size;
    shelf = w.shelf;
    spots = w.spots;
    vars = λ u a l. w.vars u a l ∙ number-same u a;
    objects = objects-written;
    apart = λ u a r b p q d e f. (let o = before u a p d in let k = before r b q e in w.apart u a r b o.0 k.0 o.1 k.1 (o.2 ∙ (f ∙ sym k.2)));
    unpinned = w.unpinned;
    groups_are = λ i g s. group-stays m written g (w.groups_are i g s) (λ z k. other-fields z (no-group i g z s k)) (λ z k. refl);
    statics = w.statics;
    disjoint = w.disjoint;
    fresh = λ u a z i g f e s k. (let o = before u a z e in w.fresh u a o.0 i g (sym (stored-still u) ∙ f) o.1 s (subst (Names g) (sym o.2) k));
  }
    where
      number-same : (u a : ℕ) → number_of (at (minds u).slots a) ≡ number_of (at (next u).slots a)
      number-same u a = elim (cases_eq u t) [
        | inr n ↦ ap (λ (k : Mind). number_of (at k.slots a)) (sym (same u n))
        | inl q ↦ elim (cases_eq a v) [
          | inl r ↦ ap number_of (ap (λ k. at (minds k).slots a) q ∙ (ap (λ k. at (minds t).slots k) r ∙ here))
              ∙ ap number_of (sym (at-put_same (minds t).slots v (Some now) small)
              ∙ (ap (λ k. at (put (minds t).slots v (Some now)) k) (sym r) ∙ (ap (λ k. at k a) (sym slots) ∙ ap (λ k. at (next k).slots a) (sym q))))
          | inr r ↦ ap number_of (ap (λ k. at (minds k).slots a) q ∙ (sym (at-put_other (minds t).slots v a (Some now) r) ∙ (ap (λ k. at k a) (sym slots) ∙ ap (λ k. at (next k).slots a) (sym q))))
        ]
      ]

-- a group that a thread has in its variables comes to stand at a place
module _ (m : Managed) (minds next : ℕ → Mind) (groups : List (Option Group)) (w : IsShown m minds groups) (t i : ℕ) (g : Group) (place_small : i < 32) (is : IsGroup m g)
    (a b : ℕ) (x y : Seen) (here : at (minds t).slots a ≡ Some x) (there : at (minds t).slots b ≡ Some y) (names : (z : ℕ) → Names g z → (z ≡ x.number) ⊎ (z ≡ y.number))
    (unstored : (minds t).stored ≡ false) (same : (u : ℕ) → u ≢ t → next u ≡ minds u) (slots : (u : ℕ) → (next u).slots ≡ (minds u).slots) (stored : (next t).stored ≡ true) where
  abbrev more : List (Option Group)
  more = set groups i (Some g)

  which-group : (j : ℕ) (k : Group) → slot more j ≡ Some k → ((j ≡ i) × (g ≡ k)) ⊎ ((j ≢ i) × (slot groups j ≡ Some k))
  which-group j k e = elim (cases_eq j i) [
    | inl q ↦ inl (q, some-same g k (sym (slot-set_here groups i (Some g) (let l = w.spots in omega (arith, l, place_small))) ∙ (ap (λ n. slot more n) (sym q) ∙ e)))
    | inr n ↦ inr (n, sym (slot-set_other groups i j (Some g) n) ∙ e)
  ]

  not-old : (j : ℕ) (k : Group) (z : ℕ) → slot groups j ≡ Some k → Names g z → Names k z → ⊥
  not-old j k z s p q = elim (names z p) [
    | inl e ↦ w.fresh t a x j k unstored here s (subst (Names k) e q)
    | inr e ↦ w.fresh t b y j k unstored there s (subst (Names k) e q)
  ]

  other-thread : (u : ℕ) → (next u).stored ≡ false → u ≢ t
  other-thread u f e = (let r : true ≡ false = sym stored ∙ (ap (λ k. (next k).stored) (sym e) ∙ f) in cc)

  at-same : (u c : ℕ) (z : Seen) → at (next u).slots c ≡ Some z → at (minds u).slots c ≡ Some z
  at-same u c z e = ap (λ k. at k c) (sym (slots u)) ∙ e

  pub grouped : (k : Managed) → k.heap.fields ≡ m.heap.fields → k.heap.vars ≡ m.heap.vars → k.held ≡ m.held → k.pins ≡ m.pins → length k.heap.statics ≡ 16
      → ((c : ℕ) → c < 16 → StaticIs (slot k.heap.statics c) (slot more c)) → IsShown k next more
  grouped k f v h p l s =
      let fields : (z : ℕ) → fields_of k.heap z ≡ fields_of m.heap z = λ z. ap (λ (fs : List (List (Option ℕ))). elim (numbered_at fs z) [ None ↦ [] | Some gs ↦ gs ]) f in
      let held : (z : ℕ) → numbered_at k.held z ≡ numbered_at m.held z = λ z. ap (λ (hs : List (Option ℕ)). numbered_at hs z) h in
      record {
        places = ap length h ∙ (w.places ∙ ap length (sym f));
        size = ap length v ∙ w.size;
        shelf = l;
        spots = length-set groups i (Some g) ∙ w.spots;
        vars = λ u c q. ap (λ z. slot z (place u c)) v ∙ (w.vars u c q ∙ ap (λ z. number_of (at z c)) (sym (slots u)));
        objects = λ u c z e. (let o = w.objects u c z (at-same u c z e) in (fields z.number ∙ o.0, held z.number ∙ o.1));
        apart = λ u c r d z q e e' n. w.apart u c r d z q (at-same u c z e) (at-same r d q e') n;
        unpinned = λ z c. w.unpinned z (subst (λ l. Contains l (Some z)) p c);
        groups_are = λ j n e. elim (which-group j n e) [
          | inl q ↦ group-stays m k n (subst (IsGroup m) q.1 is) (λ z c. fields z) (λ z c. held z)
          | inr q ↦ group-stays m k n (w.groups_are j n q.1) (λ z c. fields z) (λ z c. held z)
        ];
        statics = s;
        disjoint = λ j n q r z e e' c d. elim (which-group j q e) [
          | inl a' ↦ elim (which-group n r e') [
            | inl b' ↦ a'.0 ∙ sym b'.0
            | inr b' ↦ absurd (not-old n r z b'.1 (subst (λ l. Names l z) (sym a'.1) c) d)
          ]
          | inr a' ↦ elim (which-group n r e') [
            | inl b' ↦ absurd (not-old j q z a'.1 (subst (λ l. Names l z) (sym b'.1) d) c)
            | inr b' ↦ w.disjoint j n q r z a'.1 b'.1 c d
          ]
        ];
        fresh = λ u c z j q e e' r n. (let old = at-same u c z e' in let away = other-thread u e in elim (which-group j q r) [
          | inl a' ↦ elim (names z.number (subst (λ l. Names l z.number) (sym a'.1) n)) [
            | inl b' ↦ away (w.apart u c t a z x old here b').0
            | inr b' ↦ away (w.apart u c t b z y old there b').0
          ]
          | inr a' ↦ w.fresh u c z j q (ap (λ (l : Mind). l.stored) (sym (same u away)) ∙ e) old a'.1 n
        ]);
      }

-- nothing that is shown changed
pub still-shown : (m k : Managed) (minds next : ℕ → Mind) (groups : List (Option Group)) → IsShown m minds groups
    → k.heap.fields ≡ m.heap.fields → k.heap.vars ≡ m.heap.vars → k.heap.statics ≡ m.heap.statics → k.held ≡ m.held → k.pins ≡ m.pins
    → ((u : ℕ) → (next u).slots ≡ (minds u).slots) → ((u : ℕ) → (next u).stored ≡ (minds u).stored) → IsShown k next groups
still-shown m k minds next groups w f v c h p slots stored =
    let fields : (z : ℕ) → fields_of k.heap z ≡ fields_of m.heap z = λ z. ap (λ (fs : List (List (Option ℕ))). elim (numbered_at fs z) [ None ↦ [] | Some gs ↦ gs ]) f in
    let held : (z : ℕ) → numbered_at k.held z ≡ numbered_at m.held z = λ z. ap (λ (hs : List (Option ℕ)). numbered_at hs z) h in
    let old : (u a : ℕ) (z : Seen) → at (next u).slots a ≡ Some z → at (minds u).slots a ≡ Some z = λ u a z e. ap (λ l. at l a) (sym (slots u)) ∙ e in
    record {
      places = ap length h ∙ (w.places ∙ ap length (sym f));
      size = ap length v ∙ w.size;
      shelf = ap length c ∙ w.shelf;
      spots = w.spots;
      vars = λ u a q. ap (λ z. slot z (place u a)) v ∙ (w.vars u a q ∙ ap (λ z. number_of (at z a)) (sym (slots u)));
      objects = λ u a z e. (let o = w.objects u a z (old u a z e) in (fields z.number ∙ o.0, held z.number ∙ o.1));
      apart = λ u a r b z q e e' n. w.apart u a r b z q (old u a z e) (old r b q e') n;
      unpinned = λ z d. w.unpinned z (subst (λ l. Contains l (Some z)) p d);
      groups_are = λ i g s. group-stays m k g (w.groups_are i g s) (λ z d. fields z) (λ z d. held z);
      statics = λ y l. subst (λ z. StaticIs (slot z y) (slot groups y)) (sym c) (w.statics y l);
      disjoint = w.disjoint;
      fresh = λ u a z i g e e' s n. w.fresh u a z i g (sym (stored u) ∙ e) (old u a z e') s n;
    }

-- kept candidates came to hold other handles, and nothing else that is shown changed: what variables name and what
-- holds none are no such candidates
pub renewed-shown : (m k : Managed) (minds : ℕ → Mind) (groups : List (Option Group)) → IsShown m minds groups → k.heap.fields ≡ m.heap.fields
    → k.heap.vars ≡ m.heap.vars → k.heap.statics ≡ m.heap.statics → k.pins ≡ m.pins → length k.held ≡ length m.held
    → ((t v : ℕ) (x : Seen) → at (minds t).slots v ≡ Some x → numbered_at k.held x.number ≡ numbered_at m.held x.number)
    → ((i : ℕ) (g : Group) → slot groups i ≡ Some g → ((h : ℕ) × (numbered_at k.held g.bridge ≡ Some (Some h))) × (numbered_at k.held g.plain ≡ Some None)) → IsShown k minds groups
renewed-shown m k minds groups w f v c p l named grouped_ones =
    let fields : (z : ℕ) → fields_of k.heap z ≡ fields_of m.heap z = λ z. ap (λ (fs : List (List (Option ℕ))). elim (numbered_at fs z) [ None ↦ [] | Some gs ↦ gs ]) f in
    record {
      places = l ∙ (w.places ∙ ap length (sym f));
      size = ap length v ∙ w.size;
      shelf = ap length c ∙ w.shelf;
      spots = w.spots;
      vars = λ u a q. ap (λ z. slot z (place u a)) v ∙ w.vars u a q;
      objects = λ u a z e. (let o = w.objects u a z e in (fields z.number ∙ o.0, named u a z e ∙ o.1));
      apart = w.apart;
      unpinned = λ z d. w.unpinned z (subst (λ l. Contains l (Some z)) p d);
      groups_are = λ i g s. record {
        holds = (grouped_ones i g s).0;
        none = (grouped_ones i g s).1;
        joined = by g g.turned (λ z. fields z) (w.groups_are i g s).joined;
      };
      statics = λ y l. subst (λ z. StaticIs (slot z y) (slot groups y)) (sym c) (w.statics y l);
      disjoint = w.disjoint;
      fresh = w.fresh;
    }
  where
    by : (g : Group) (b : Bool) → ((z : ℕ) → fields_of k.heap z ≡ fields_of m.heap z) → Joined m g.bridge g.plain b → Joined k g.bridge g.plain b
    by g false fs j = (fs g.plain ∙ j.0, fs g.bridge ∙ j.1)
    by g true fs j = (fs g.bridge ∙ j.0, fs g.plain ∙ j.1)
