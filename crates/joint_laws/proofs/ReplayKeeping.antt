-- The managed side's replay stays kept at each of its lawful entries.
use Rattle.std.proofs.Common.{◌≡◌, ◌≢◌, ℕ, ◌⊎◌, ◌++◌, ap, inl, inr, Bool, true, false, List, [], ◌∷◌, Option, Some, None, refl, sym, subst, ◌∙◌}
use Rattle.std.specs.Prelude.{Contains, slice_get, if◌then◌else◌}
use Rattle.std.proofs.lemmas.Bool.{cases_eq}
use Rattle.joint_machine.specs.declared.names.Sort.{Sort}
use Rattle.joint_machine.specs.declared.names.Thread.{Thread}
use Rattle.joint_machine.specs.declared.events.Op.{Op}
use Rattle.joint_machine.specs.declared.events.Op.TheVariants as op
use Rattle.joint_machine.specs.declared.events.Reply.{Reply}
use Rattle.joint_machine.specs.declared.events.Reply.TheVariants as says
use Rattle.joint_machine.specs.Heaps.{IsLive, answer, slot, place, numbered_at, numbered_set, is_full, next_number, with_var, with_freed}
use Rattle.joint_machine.specs.Managed.{Managed, OpenCycle, Holds, IsBridge, with_row, twin_met, twin_kind, twin_fields, without_handle, with_snapshot, resolved, abandoned, candidates_of}
use Rattle.joint_machine.specs.Cycles.{IsSnapshot, IsAnsweredAlive}
use Rattle.joint_machine.specs.ManagedReplay.{ManagedReplay, MayResolve, registered, without_twins, meet_by, give_by, managed_answer, ManagedAllows}
use Rattle.joint_machine.specs.Run.{thread_number}
use Rattle.joint_machine.specs.Told.{Told, nothing, snap_of, contraction_of, resolution_of, phase_of, Answer, handles_given}
use Rattle.joint_laws.specs.ManagedInvariants.{ReplayInvariant}
use Rattle.joint_machine.proofs.Members.{Contains-here}
use Rattle.joint_machine.proofs.Numbered.{numbered_set-same, numbered_set-other, numbered-within}
use Rattle.joint_machine.proofs.Deciding.{none_some}
use Rattle.joint_machine.proofs.HeapLemmas.{IsLive-before, IsLive-left, candidates_of-open}
use Rattle.joint_laws.proofs.Registered.{registered-some, without_twins-parts}
use Rattle.joint_laws.proofs.ManagedMoves.{GoesOn, met_by, managed_line-goes_on, twinned-goes_on, emptied-goes_on}
use Rattle.joint_laws.proofs.ManagedKeeping.{ManagedInvariant-goes_on, ManagedInvariant-snapped, ManagedInvariant-resolved, ManagedInvariant-abandoned, bridge_stays}
use Rattle.joint_laws.proofs.Adopting.{HoldsSame-as, managed_line-same, ReplayInvariant-plainly, ReplayInvariant-took, adopt-by}
use Rattle.std.proofs.lemmas.List.Elements.{Contains-append_left, Contains-append_right}
use Rattle.std.proofs.lemmas.Option.{same_Some}
use Rattle.joint_machine.specs.Components.{Rises}
use Rattle.joint_laws.proofs.Renewing.{IsGivenTo, renewed-cases, renewed-given, renewed-other, given-or, at-given, new-untaken, new-once}

-- a `meet`, by the open cycle and the twin
twin-met : (s : ManagedReplay) (v p h : ℕ) (sort : Sort) (n : ℕ) (twin : Option ℕ) → ReplayInvariant s → (Contains s.adopted h → ⊥) → registered s.registry p ≡ twin → s.managed.cycle ≡ None
    → (let a = twin_met s.managed v h sort n twin in ReplayInvariant (meet_by s p h a.state a.reply).state)
twin-met s v p h sort n (Some m) k w e o =
    let live : IsLive s.managed.heap m = (k.pairs p m (registered-some s.registry p m e)).1.live in
    ReplayInvariant-plainly s (record s.managed { heap = with_var s.managed.heap v (Some m) }) k (twinned-goes_on s.managed v m o live)
    (HoldsSame-as s.managed (record s.managed { heap = with_var s.managed.heap v (Some m) }) refl)
twin-met s v p h sort n None k w e o = room (is_full s.managed.heap.fields)
  where
    room : (b : Bool) → (let a = if b then answer says.Full s.managed else answer (says.New record { 0 = next_number s.managed.heap })
        (with_row s.managed v (twin_kind sort) (twin_fields sort n) (Some h)) in ReplayInvariant (meet_by s p h a.state a.reply).state)
    room true = k
    room false = ReplayInvariant-took s v (twin_kind sort) (twin_fields sort n) p h k w

meet-by : (s : ManagedReplay) (v p h : ℕ) (sort : Sort) (n : ℕ) (c : Option OpenCycle) → ReplayInvariant s → (Contains s.adopted h → ⊥) → s.managed.cycle ≡ c
    → (let a = met_by s.managed v h sort n (registered s.registry p) c in ReplayInvariant (meet_by s p h a.state a.reply).state)
meet-by s v p h sort n None k w o = twin-met s v p h sort n (registered s.registry p) k w refl o
meet-by s v p h sort n (Some c) k w o = k

-- a `give` of the row in a variable
module _ (s : ManagedReplay) (v m : ℕ) (k : ReplayInvariant s) (e : slot s.managed.heap.vars v ≡ Some m) where
  abbrev emptied : Managed
  emptied = record s.managed { held = numbered_set s.managed.held m None }

  empties : GoesOn s.managed emptied
  empties = emptied-goes_on s.managed v m e

  other : (x h : ℕ) → Holds emptied x h → (x ≢ m) × Holds s.managed x h
  other x h q = elim (cases_eq x m) [
    | inl same ↦ absurd (none_some h (numbered_set-same s.managed.held m None (Some h) (subst (λ z. numbered_at emptied.held z ≡ Some (Some h)) same q.held)))
    | inr ne ↦ (ne, record { live = q.live; held = sym (numbered_set-other s.managed.held m x None ne) ∙ q.held })
  ]

  still-bridge : (p x : ℕ) → Contains (without_twins s.registry (m ∷ [])) (p, x) → IsBridge emptied x
  still-bridge p x c =
      let r = without_twins-parts s.registry (m ∷ []) p x c in
      let b = k.pairs p x r.0 in
      let ne : x ≢ m = λ same. r.1 (subst (λ z. Contains (m ∷ []) z) (sym same) (Contains-here m [])) in
      (b.0, record { live = b.1.live; held = numbered_set-other s.managed.held m x None ne ∙ b.1.held })

  given : ReplayInvariant (record s { managed = emptied; registry = without_twins s.registry (m ∷ []) })
  given = record {
    managed = ManagedInvariant-goes_on s.managed emptied k.managed empties;
    adopted = λ x h q. k.adopted x h (other x h q).1;
    alone = λ x y h q r. k.alone x y h (other x h q).1 (other y h r).1;
    pairs = still-bridge;
    one_row = λ p x y c d. k.one_row p x y (without_twins-parts s.registry (m ∷ []) p x c).0 (without_twins-parts s.registry (m ∷ []) p y d).0;
    one_peer = λ p q x c d. k.one_peer p q x (without_twins-parts s.registry (m ∷ []) p x c).0 (without_twins-parts s.registry (m ∷ []) q x d).0;
  }

give-by : (s : ManagedReplay) (v : ℕ) (r : Reply) (o : Option ℕ) → ReplayInvariant s → slot s.managed.heap.vars v ≡ o → ReplayInvariant (give_by s o (answer r (without_handle s.managed o))).state
give-by s v r None k e = k
give-by s v r (Some m) k e = given s v m k e

-- rows are freed that no pair of the registry has
module _ (s : ManagedReplay) (t : Managed) (freed : List ℕ) (k : ReplayInvariant s) (heap : t.heap ≡ with_freed s.managed.heap freed) (held : t.held ≡ s.managed.held) where
  was-held_there : (x h : ℕ) → Holds t x h → Holds s.managed x h
  was-held_there x h q = record {
    live = IsLive-before s.managed.heap freed x (subst (λ z. IsLive z x) heap q.live);
    held = subst (λ hs. numbered_at hs x ≡ Some (Some h)) held q.held;
  }

  still-bridge_there : (x : ℕ) → IsBridge s.managed x → (Contains freed x → ⊥) → IsBridge t x
  still-bridge_there x b n = (
    b.0,
    record {
      live = subst (λ z. IsLive z x) (sym heap) (IsLive-left s.managed.heap freed x b.1.live n);
      held = subst (λ hs. numbered_at hs x ≡ Some (Some b.0)) (sym held) b.1.held;
    },
  )

snapped-kept : (s : ManagedReplay) (n : ℕ) (freed candidates dead : List ℕ) → ReplayInvariant s → IsSnapshot s.managed n freed candidates dead
    → ReplayInvariant (record s { managed = with_snapshot s.managed freed candidates dead; contracted = false })
snapped-kept s n freed candidates dead k p = record {
  managed = ManagedInvariant-snapped s.managed n freed candidates dead k.managed p;
  adopted = λ x h q. k.adopted x h (was-held_there s t freed k refl refl x h q);
  alone = λ x y h q r. k.alone x y h (was-held_there s t freed k refl refl x h q) (was-held_there s t freed k refl refl y h r);
  pairs = λ q x c. (let b = k.pairs q x c in still-bridge_there s t freed k refl refl x b (bridge_stays s.managed n freed candidates dead k.managed p x b));
  one_row = k.one_row;
  one_peer = k.one_peer;
}
  where
    t : Managed
    t = with_snapshot s.managed freed candidates dead

module _ (s : ManagedReplay) (n : ℕ) (answers : List Answer) (freed : List ℕ) (k : ReplayInvariant s) (w : MayResolve s n answers freed) where
  abbrev t : Managed
  t = resolved s.managed answers freed

  abbrev cs : List ℕ
  cs = candidates_of s.managed

  cs-are : cs ≡ w.cycle.candidates
  cs-are = candidates_of-open s.managed w.cycle w.open_cycle.0

  cs-rise : Rises cs
  cs-rise = subst Rises (sym cs-are) (k.managed.dead w.cycle w.open_cycle.0).rise

  live-before : (x : ℕ) → IsLive t.heap x → IsLive s.managed.heap x
  live-before x l = IsLive-before s.managed.heap freed x l

  -- what a row holds then it held before, or its restore gave it
  resolved-holds : (x h : ℕ) → Holds t x h → Holds s.managed x h ⊎ IsGivenTo cs answers x h
  resolved-holds x h q = elim (renewed-cases s.managed.held cs answers x h q.held) [
    | inl e ↦ inl (record { live = live-before x q.live; held = e })
    | inr g ↦ inr g
  ]

  given-new : (x h : ℕ) → IsGivenTo cs answers x h → Contains (handles_given answers) h
  given-new x h g = at-given answers g.place h g.answer

  resolved-alone : (x y h : ℕ) → Holds t x h → Holds t y h → x ≡ y
  resolved-alone x y h q r = elim (resolved-holds x h q) [
    | inl a ↦ elim (resolved-holds y h r) [
      | inl b ↦ k.alone x y h a b
      | inr b ↦ absurd (new-untaken s.adopted (handles_given answers) h w.new (given-new y h b) (k.adopted x h a))
    ]
    | inr a ↦ elim (resolved-holds y h r) [
      | inl b ↦ absurd (new-untaken s.adopted (handles_given answers) h w.new (given-new x h a) (k.adopted y h b))
      | inr b ↦ (
          let same : a.place ≡ b.place = new-once s.adopted answers a.place b.place h w.new a.answer b.answer in
          same_Some x y (sym a.candidate ∙ (ap (λ i. slice_get cs i) same ∙ b.candidate)))
    ]
  ]

  -- a bridge row that isn't freed holds a handle then
  resolved-bridge : (x : ℕ) → IsBridge s.managed x → (Contains freed x → ⊥) → IsBridge t x
  resolved-bridge x b out =
      let live : IsLive t.heap x = IsLive-left s.managed.heap freed x b.1.live out in
      elim (given-or cs answers x) [
        | inl g ↦ (let in_list = numbered-within s.managed.held x (Some b.0) b.1.held in
            (g.0, record { live = live; held = renewed-given s.managed.held cs answers x g.0 cs-rise in_list.0 in_list.1 g.1 }))
        | inr none ↦ (b.0, record { live = live; held = renewed-other s.managed.held cs answers x none ∙ b.1.held })
      ]

  resolved-kept : ReplayInvariant (record s { managed = t; registry = without_twins s.registry freed; adopted = s.adopted ++ handles_given answers })
  resolved-kept = record {
    managed = ManagedInvariant-resolved s.managed w.cycle (IsAnsweredAlive w.cycle.candidates answers) freed k.managed w.open_cycle.0 w.resolution answers;
    adopted = λ x h q. elim (resolved-holds x h q) [
      | inl a ↦ Contains-append_left s.adopted (handles_given answers) h (k.adopted x h a)
      | inr g ↦ Contains-append_right s.adopted (handles_given answers) h (given-new x h g)
    ];
    alone = resolved-alone;
    pairs = λ q x c. (let r = without_twins-parts s.registry freed q x c in resolved-bridge x (k.pairs q x r.0) r.1);
    one_row = λ p x y c d. k.one_row p x y (without_twins-parts s.registry freed p x c).0 (without_twins-parts s.registry freed p y d).0;
    one_peer = λ p q x c d. k.one_peer p q x (without_twins-parts s.registry freed p x c).0 (without_twins-parts s.registry freed q x d).0;
  }

abandoned-kept : (s : ManagedReplay) → ReplayInvariant s → ReplayInvariant (record s { managed = abandoned s.managed })
abandoned-kept s k = record {
  managed = ManagedInvariant-abandoned s.managed k.managed;
  adopted = λ x h q. k.adopted x h (record { live = q.live; held = q.held });
  alone = λ x y h q r. k.alone x y h (record { live = q.live; held = q.held }) (record { live = r.live; held = r.held });
  pairs = λ q x c. (let b = k.pairs q x c in (b.0, record { live = b.1.live; held = b.1.held }));
  one_row = k.one_row;
  one_peer = k.one_peer;
}

contracted-kept : (s : ManagedReplay) → ReplayInvariant s → ReplayInvariant (record s { contracted = true })
contracted-kept s k = record { managed = k.managed; adopted = k.adopted; alone = k.alone; pairs = k.pairs; one_row = k.one_row; one_peer = k.one_peer }

pub ReplayInvariant-step : (s : ManagedReplay) (t : Thread) (o : Op) (told : Told) → ReplayInvariant s → ManagedAllows s o told → ReplayInvariant (managed_answer s t o told).state
ReplayInvariant-step s t (op.Line a) told k w = ReplayInvariant-plainly s _ k
    (managed_line-goes_on s.managed (thread_number t) a k.managed.places k.managed.cells) (managed_line-same s.managed k.managed (thread_number t) a)
ReplayInvariant-step s t (op.Adopt v kind n p h) nothing k w = adopt-by s (place (thread_number t) v.0) kind n p.0 h.0 (is_full s.managed.heap.fields) k w
ReplayInvariant-step s t (op.Lend v x) told k w = k
ReplayInvariant-step s t (op.Meet v sort n p h) nothing k w = meet-by s (place (thread_number t) v.0) p.0 h.0 sort n s.managed.cycle k w refl
ReplayInvariant-step s t (op.Give v) told k w = give-by s (place (thread_number t) v.0) _ (slot s.managed.heap.vars (place (thread_number t) v.0)) k refl
ReplayInvariant-step s t (op.Snap n) (snap_of freed candidates dead) k w = snapped-kept s n.0 freed candidates dead k w
ReplayInvariant-step s t (op.Contract n) (contraction_of comps heavy xrefs) k w = contracted-kept s k
ReplayInvariant-step s t (op.Resolve n) (resolution_of alive freed) k w = resolved-kept s n.0 alive freed k w
ReplayInvariant-step s t (op.Abandon n) nothing k w = abandoned-kept s k
ReplayInvariant-step s t (op.Refused r) (phase_of phase) k w = k
ReplayInvariant-step s t _ _ k w = absurd w
