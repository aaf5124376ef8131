-- The managed objects stay kept. An event that only goes on brings into a slot or a field only rows that are unfreed
-- and outside the dead part. A snapshot frees only rows that nothing reaches, so none that a slot or a field of a
-- staying row names; what leads to a row that no slot reaches is itself reached by none, so the dead part is cut off. A
-- resolution frees rows of the dead part alone, and none that a staying row of it leads to.
use Rattle.std.proofs.Common.{◌≡◌, ℕ, ◌+◌, ◌≤◌, ◌↔◌, inl, inr, List, ◌++◌, length, Some, refl, sym, subst, ◌∙◌, arith}
use Rattle.std.specs.Prelude.{Contains}
use Rattle.std.proofs.lemmas.Bool.{cases_lt}
use Rattle.std.proofs.lemmas.Option.{same_Some}
use Rattle.std.proofs.lemmas.List.Elements.{Contains-append_cases}
use Rattle.joint_machine.specs.Heaps.{Heap, IsMade, IsLive, numbered_at, fields_of, with_freed, opening_heap}
use Rattle.joint_machine.specs.Managed.{Managed, OpenCycle, IsBridge, IsManagedRoot, ManagedEdge, opening_managed, with_snapshot, resolved, abandoned, candidates_of}
use Rattle.joint_machine.specs.Cycles.{IsSnapshot, IsResolution}
use Rattle.joint_machine.proofs.WalkLemmas.{Reached-start, Reached-then, Reaches-then}
use Rattle.joint_laws.specs.ManagedInvariants.{IsCutOff, ManagedInvariant}
use Rattle.joint_machine.proofs.Members.{Contains-nil, Contains-decided}
use Rattle.joint_machine.proofs.Numbered.{replicate-none}
use Rattle.joint_machine.proofs.Deciding.{none_some}
use Rattle.joint_machine.proofs.HeapLemmas.{IsLive-before, IsLive-spared, IsLive-left}
use Rattle.joint_laws.proofs.Fields.{fields-past, IsLive-more}
use Rattle.joint_laws.proofs.ManagedMoves.{GoesOn, IsNameable, IsNew}
use Rattle.joint_machine.specs.Told.{Answer}
use Rattle.joint_laws.proofs.Renewing.{renewed-length}

-- before the first entry nothing is named
pub ManagedInvariant-opening : ManagedInvariant opening_managed
ManagedInvariant-opening = record {
  places = refl;
  vars = refl;
  freed = λ m c. absurd (Contains-nil m c);
  roots = λ m r. absurd (no_root m r);
  fields = λ m n l c. absurd (fields-past opening_heap m (Some n) (omega (arith, l.made.0)) c);
  cells = λ m c. absurd (replicate-none 64 m c);
  dead = λ c e. absurd (none_some c e);
}
  where
    no_root : (m : ℕ) → IsManagedRoot opening_managed m → ⊥
    no_root m r = elim r [
      | inl i ↦ elim i [ inl c ↦ replicate-none 72 m c | inr c ↦ replicate-none 16 m c ]
      | inr c ↦ replicate-none 9 m c
    ]

-- a row that can come into a slot is unfreed, and outside the dead part
pub nameable-live : (s : Managed) (x : ℕ) → ManagedInvariant s → IsNameable s x → IsLive s.heap x
nameable-live s x k n = elim n [
  | inl r ↦ k.roots x r
  | inr t ↦ elim t [
    | inl z ↦ k.fields z.0 x (k.roots z.0 z.1) z.2
    | inr l ↦ l.0
  ]
]

pub nameable-outside : (s : Managed) (x : ℕ) (c : OpenCycle) → ManagedInvariant s → s.cycle ≡ Some c → IsNameable s x → Contains c.dead x → ⊥
nameable-outside s x c k o n d =
    let cut = k.dead c o in
    elim n [
      | inl r ↦ cut.unnamed x r d
      | inr t ↦ elim t [
        | inl z ↦ cut.unheld z.0 x (k.roots z.0 z.1) (cut.unnamed z.0 z.1) z.2 d
        | inr l ↦ none_some c (sym l.1 ∙ o)
      ]
    ]

module _ (s t : Managed) (k : ManagedInvariant s) (g : GoesOn s t) where
  live_on : (x : ℕ) → IsLive s.heap x → IsLive t.heap x
  live_on x l = IsLive-more s.heap t.heap g.made g.freed x l

  live_back : (x : ℕ) → IsMade s.heap x → IsLive t.heap x → IsLive s.heap x
  live_back x m l = record { made = m; kept = λ c. l.kept (subst (λ f. Contains f x) (sym g.freed) c) }

  new_live : (x : ℕ) → IsNew s t x → IsLive t.heap x
  new_live x n = record { made = n.1; kept = λ c. n.0 (k.freed x (subst (λ f. Contains f x) g.freed c)) }

  -- a row with a field was made
  with_field-made : (x y : ℕ) → 1 ≤ x → Contains (fields_of s.heap x) (Some y) → IsMade s.heap x
  with_field-made x y l c = (l, elim (cases_lt (length s.heap.fields) x) [ inl p ↦ absurd (fields-past s.heap x (Some y) p c) | inr p ↦ p ])

  roots_on : (x : ℕ) → IsManagedRoot t x → IsLive t.heap x
  roots_on x r = elim (g.roots x r) [
    | inl n ↦ live_on x (nameable-live s x k n)
    | inr n ↦ new_live x n
  ]

  fields_on : (x y : ℕ) → IsLive t.heap x → Contains (fields_of t.heap x) (Some y) → IsLive t.heap y
  fields_on x y l c = elim (g.fields x y c) [
    | inl w ↦ live_on y (k.fields x y (live_back x (with_field-made x y l.made.0 w) l) w)
    | inr w ↦ live_on y (k.roots y w.1)
  ]

  cells_on : (x : ℕ) → Contains t.cells (Some x) → IsMade t.heap x
  cells_on x c =
      let m : IsMade s.heap x = elim (g.cells x c) [ inl w ↦ k.cells x w | inr r ↦ (k.roots x r).made ] in
      (m.0, omega (arith, m.1, g.made))

  -- the dead part: its rows stay as they are
  module _ (c : OpenCycle) (o : s.cycle ≡ Some c) where
    cut : IsCutOff s c
    cut = k.dead c o

    pub dead-fields : (x : ℕ) → Contains c.dead x → fields_of t.heap x ≡ fields_of s.heap x
    dead-fields x d = g.frozen x (cut.live x d).made (λ r. cut.unnamed x r d)

    pub dead-held : (x : ℕ) → Contains c.dead x → numbered_at t.held x ≡ numbered_at s.held x
    dead-held x d = g.keeps x (cut.live x d).made (λ r. cut.unnamed x r d)

    unnamed_on : (x : ℕ) → IsManagedRoot t x → Contains c.dead x → ⊥
    unnamed_on x r d = elim (g.roots x r) [
      | inl n ↦ nameable-outside s x c k o n d
      | inr n ↦ n.0 (cut.live x d).made
    ]

    unheld_on : (x y : ℕ) → IsLive t.heap x → (Contains c.dead x → ⊥) → Contains (fields_of t.heap x) (Some y) → Contains c.dead y → ⊥
    unheld_on x y l n f d = elim (g.fields x y f) [
      | inl w ↦ cut.unheld x y (live_back x (with_field-made x y l.made.0 w) l) n w d
      | inr w ↦ cut.unnamed y w.1 d
    ]

    bridge_on : (x : ℕ) → Contains c.dead x → IsBridge s x ↔ IsBridge t x
    bridge_on x d = (
      λ b. (b.0, record { live = live_on x b.1.live; held = dead-held x d ∙ b.1.held }),
      λ b. (b.0, record { live = cut.live x d; held = sym (dead-held x d) ∙ b.1.held }),
    )

    pub cut_on : IsCutOff t c
    cut_on = record {
      live = λ x d. live_on x (cut.live x d);
      unnamed = unnamed_on;
      unheld = unheld_on;
      candidates = λ x. (
        λ p. (let q = (cut.candidates x).0 p in (q.0, (bridge_on x q.0).0 q.1)),
        λ q. (cut.candidates x).1 (q.0, (bridge_on x q.0).1 q.1),
      );
      latest = cut.latest ∙ sym g.cycles;
      rise = cut.rise;
    }

  pub ManagedInvariant-goes_on : ManagedInvariant t
  ManagedInvariant-goes_on = record {
    places = g.places k.places;
    vars = g.vars ∙ k.vars;
    freed = λ x c. (let m = k.freed x (subst (λ f. Contains f x) g.freed c) in (m.0, omega (arith, m.1, g.made)));
    roots = roots_on;
    fields = fields_on;
    cells = cells_on;
    dead = λ c e. cut_on c (sym g.cycle ∙ e);
  }

made-freed : (h : Heap) (freed : List ℕ) (x : ℕ) → ((y : ℕ) → Contains h.freed y → IsMade h y) → ((y : ℕ) → Contains freed y → IsLive h y) → Contains (h.freed ++ freed) x → IsMade h x
made-freed h freed x p q c = elim (Contains-append_cases h.freed freed x c) [ inl w ↦ p x w | inr w ↦ (q x w).made ]

module _ (s : Managed) (k : ℕ) (freed candidates dead : List ℕ) (kept : ManagedInvariant s) (p : IsSnapshot s k freed candidates dead) where
  abbrev opened : OpenCycle
  opened = record { number = s.cycles + 1; candidates = candidates; dead = dead }

  abbrev after : Managed
  after = with_snapshot s freed candidates dead

  edge : (x y : ℕ) → IsLive s.heap x → Contains (fields_of s.heap x) (Some y) → ManagedEdge s x y
  edge x y l c = record { live = l; field = c; there = kept.fields x y l c }

  slot_stays : (x : ℕ) → IsManagedRoot s x → Contains freed x → ⊥
  slot_stays x r f = ((p.frees x).0 f).1 (Reached-start (IsManagedRoot s) (ManagedEdge s) x r)

  -- what a staying row leads to stays
  target_stays : (x y : ℕ) → IsLive s.heap x → (Contains freed x → ⊥) → Contains (fields_of s.heap x) (Some y) → Contains freed y → ⊥
  target_stays x y l n c f =
      let q = (p.frees y).0 f in
      let e = edge x y l c in
      n ((p.frees x).1 (l, (λ r. q.1 (Reached-then (IsManagedRoot s) (ManagedEdge s) x y r e)), λ r. q.2 (Reached-then (IsBridge s) (ManagedEdge s) x y r e)))

  pub bridge_stays : (x : ℕ) → IsBridge s x → Contains freed x → ⊥
  bridge_stays x b f = ((p.frees x).0 f).2 (Reached-start (IsBridge s) (ManagedEdge s) x b)

  bridge-after : (x : ℕ) → IsBridge s x → IsBridge after x
  bridge-after x b = (b.0, record { live = IsLive-left s.heap freed x b.1.live (bridge_stays x b); held = b.1.held })

  bridge-before : (x : ℕ) → IsBridge after x → IsBridge s x
  bridge-before x b = (b.0, record { live = IsLive-before s.heap freed x b.1.live; held = b.1.held })

  -- what leads to a row that no slot reaches is reached by none
  outside-leads : (x y : ℕ) → IsLive (with_freed s.heap freed) x → (Contains dead x → ⊥) → Contains (fields_of s.heap x) (Some y) → Contains dead y → ⊥
  outside-leads x y l n c d =
      let q = (p.leaves y).0 d in
      let e = edge x y (IsLive-before s.heap freed x l) c in
      n ((p.leaves x).1 (IsLive-before s.heap freed x l, (λ r. q.1 (Reached-then (IsManagedRoot s) (ManagedEdge s) x y r e)), IsLive-spared s.heap freed x l))

  candidate-dead : (x : ℕ) → Contains candidates x → Contains dead x
  candidate-dead x c = let q = (p.picks x).0 c in (p.leaves x).1 (q.0.1.live, q.1, bridge_stays x q.0)

  pub snapped-cut_off : IsCutOff after opened
  snapped-cut_off = record {
    live = λ x d. (let q = (p.leaves x).0 d in IsLive-left s.heap freed x q.0 q.2);
    unnamed = λ x r d. ((p.leaves x).0 d).1 (Reached-start (IsManagedRoot s) (ManagedEdge s) x r);
    unheld = outside-leads;
    candidates = λ x. (
      λ c. (candidate-dead x c, bridge-after x ((p.picks x).0 c).0),
      λ q. (p.picks x).1 (bridge-before x q.1, ((p.leaves x).0 q.0).1),
    );
    latest = refl;
    rise = p.candidates_rise;
  }

  pub ManagedInvariant-snapped : ManagedInvariant after
  ManagedInvariant-snapped = record {
    places = kept.places;
    vars = kept.vars;
    freed = λ x c. made-freed s.heap freed x kept.freed (λ y f. ((p.frees y).0 f).0) c;
    roots = λ x r. IsLive-left s.heap freed x (kept.roots x r) (slot_stays x r);
    fields = λ x y l c. (
        let w = IsLive-before s.heap freed x l in
        IsLive-left s.heap freed y (kept.fields x y w c) (target_stays x y w (IsLive-spared s.heap freed x l) c));
    cells = kept.cells;
    dead = λ c e. subst (λ z. IsCutOff after z) (same_Some opened c e) snapped-cut_off;
  }

module _ (s : Managed) (c : OpenCycle) (staying : ℕ → Type 0) (freed : List ℕ) (kept : ManagedInvariant s) (o : s.cycle ≡ Some c) (p : IsResolution s c.dead staying freed) where
  in_dead : (x : ℕ) → Contains freed x → Contains c.dead x
  in_dead x f = ((p.frees x).0 f).0

  -- what a staying row leads to stays
  further_stays : (x y : ℕ) → IsLive s.heap x → (Contains freed x → ⊥) → Contains (fields_of s.heap x) (Some y) → Contains freed y → ⊥
  further_stays x y l n e f = elim (Contains-decided c.dead x) [
    | inr out ↦ (kept.dead c o).unheld x y l out e (in_dead y f)
    | inl d ↦ n ((p.frees x).1 (d, λ r. ((p.frees y).0 f).1 (r.0, r.1, Reaches-then (ManagedEdge s) r.0 x y r.2 (record { live = l; field = e; there = kept.fields x y l e }))))
  ]

  pub ManagedInvariant-resolved : (answers : List Answer) → ManagedInvariant (resolved s answers freed)
  ManagedInvariant-resolved answers = record {
    places = renewed-length s.held (candidates_of s) answers ∙ kept.places;
    vars = kept.vars;
    freed = λ x f. made-freed s.heap freed x kept.freed (λ y q. (kept.dead c o).live y (in_dead y q)) f;
    roots = λ x r. IsLive-left s.heap freed x (kept.roots x r) (λ f. (kept.dead c o).unnamed x r (in_dead x f));
    fields = λ x y l e. (
        let w = IsLive-before s.heap freed x l in
        IsLive-left s.heap freed y (kept.fields x y w e) (further_stays x y w (IsLive-spared s.heap freed x l) e));
    cells = kept.cells;
    dead = λ d e. absurd (none_some d e);
  }

pub ManagedInvariant-abandoned : (s : Managed) → ManagedInvariant s → ManagedInvariant (abandoned s)
ManagedInvariant-abandoned s k = record {
  places = k.places;
  vars = k.vars;
  freed = k.freed;
  roots = k.roots;
  fields = k.fields;
  cells = k.cells;
  dead = λ d e. absurd (none_some d e);
}
