-- The registry and the adopted handles stay kept. A handle that a new row takes was never adopted, so the row holds it
-- alone, and the row's number is new, so no pair has it. A row that gives its handle up leaves the registry with it. A
-- row that holds a handle is reached from itself, so no snapshot frees it.
use Rattle.std.proofs.Common.{◌≡◌, ◌≢◌, ℕ, ◌+◌, ◌⊎◌, inl, inr, Bool, true, false, List, [], ◌∷◌, ◌++◌, length, Option, Some, None, set, refl, sym, ap, subst, ◌∙◌, arith}
use Rattle.std.specs.Prelude.{Contains, if◌then◌else◌}
use Rattle.std.proofs.lemmas.Option.{same_Some}
use Rattle.std.proofs.lemmas.List.Elements.{Contains-append_left, Contains-push, Contains-push_cases}
use Rattle.joint_machine.specs.declared.names.Kind.{Kind}
use Rattle.joint_machine.specs.declared.lines.Act.{Act}
use Rattle.joint_machine.specs.declared.events.Reply.TheVariants as says
use Rattle.joint_machine.specs.Heaps.{IsLive, answer, numbered_at, next_number, with_var}
use Rattle.joint_machine.specs.Managed.{Managed, Holds, IsBridge, managed_name, with_row, managed_line}
use Rattle.joint_machine.specs.ManagedReplay.{ManagedReplay, opening_replay, registered, with_twin, took_handle, adopt_by}
use Rattle.joint_laws.specs.ManagedInvariants.{ManagedInvariant, ReplayInvariant}
use Rattle.joint_machine.proofs.Members.{Contains-nil}
use Rattle.joint_machine.proofs.Numbered.{numbered-within, numbered-push_cases, numbered-push_old, numbered-push_new}
use Rattle.joint_machine.proofs.Deciding.{none_some}
use Rattle.joint_laws.proofs.Fields.{with_object-length}
use Rattle.joint_laws.proofs.Registered.{registered-none}
use Rattle.joint_laws.proofs.ManagedLines.{managed_line-keeps}
use Rattle.joint_laws.proofs.ManagedMoves.{GoesOn, GoesOn-row}
use Rattle.joint_laws.proofs.ManagedKeeping.{ManagedInvariant-opening, ManagedInvariant-goes_on}

pub ReplayInvariant-opening : ReplayInvariant opening_replay
ReplayInvariant-opening = record {
  managed = ManagedInvariant-opening;
  adopted = λ m h q. absurd (nothing_held m h q);
  alone = λ m n h q r. absurd (nothing_held m h q);
  pairs = λ p m c. absurd (Contains-nil (p, m) c);
  one_row = λ p m n c d. absurd (Contains-nil (p, m) c);
  one_peer = λ p q m c d. absurd (Contains-nil (p, m) c);
}
  where
    nothing_held : (m h : ℕ) → Holds opening_replay.managed m h → ⊥
    nothing_held m h q = (let w = numbered-within [] m (Some h) q.held in omega (arith, w.0, w.1))

-- rows hold the same handles as before
pub record HoldsSame (s t : Managed) : Type 0 where
  pub still : (x h : ℕ) → numbered_at s.held x ≡ Some (Some h) → numbered_at t.held x ≡ Some (Some h)
  pub before : (x h : ℕ) → numbered_at t.held x ≡ Some (Some h) → numbered_at s.held x ≡ Some (Some h)

pub HoldsSame-as : (s t : Managed) → t.held ≡ s.held → HoldsSame s t
HoldsSame-as s t e = record {
  still = λ x h q. subst (λ hs. numbered_at hs x ≡ Some (Some h)) (sym e) q;
  before = λ x h q. subst (λ hs. numbered_at hs x ≡ Some (Some h)) e q;
}

pub pushed-still : (held : List (Option ℕ)) (o : Option ℕ) (x h : ℕ) → numbered_at held x ≡ Some (Some h) → numbered_at (held ++ o ∷ []) x ≡ Some (Some h)
pushed-still held o x h q = numbered-push_old held o x (numbered-within held x (Some h) q).1 ∙ q

HoldsSame-row : (s : Managed) (v : ℕ) (kind : Kind) (n : ℕ) → HoldsSame s (with_row s v kind n None)
HoldsSame-row s v kind n = record {
  still = pushed-still s.held None;
  before = λ x h q. elim (numbered-push_cases s.held None x (Some h) q) [ inl w ↦ w | inr w ↦ absurd (none_some h w.1) ];
}

pub managed_line-same : (s : Managed) → ManagedInvariant s → (t : ℕ) (a : Act) → HoldsSame s (managed_line s t a).state
managed_line-same s k t a = managed_line-keeps s (HoldsSame s) (record {
  stay = HoldsSame-as s s refl;
  on_heap = λ h v. HoldsSame-as s (record s { heap = h }) refl;
  row = HoldsSame-row s;
  cell = λ i x r. HoldsSame-as s (record s { cells = set s.cells i (Some x) }) refl;
  pin = λ i x o l. HoldsSame-as s (record s { pins = set s.pins i (Some x) }) refl;
  take = λ i v x e. HoldsSame-as s (record s { heap = with_var s.heap v (Some x); pins = set s.pins i None }) refl;
  notices = λ n. HoldsSame-as s _ refl;
}) k.cells t a

-- an event that goes on, and after which rows hold the same handles, leaves the registry kept
module _ (s : ManagedReplay) (t : Managed) (k : ReplayInvariant s) (g : GoesOn s.managed t) where
  pub was-held : (x h : ℕ) → numbered_at s.managed.held x ≡ Some (Some h) → IsLive t.heap x → Holds s.managed x h
  was-held x h q l =
      let w = numbered-within s.managed.held x (Some h) q in
      record { live = record { made = (w.0, omega (arith, w.1, k.managed.places)); kept = λ c. l.kept (subst (λ f. Contains f x) (sym g.freed) c) }; held = q }

  pub stays-live : (x : ℕ) → IsLive s.managed.heap x → IsLive t.heap x
  stays-live x l = record { made = (l.made.0, omega (arith, l.made.1, g.made)); kept = λ c. l.kept (subst (λ f. Contains f x) g.freed c) }

  pub ReplayInvariant-plainly : HoldsSame s.managed t → ReplayInvariant (record s { managed = t })
  ReplayInvariant-plainly same = record {
    managed = ManagedInvariant-goes_on s.managed t k.managed g;
    adopted = λ m h q. k.adopted m h (back m h q);
    alone = λ m n h q r. k.alone m n h (back m h q) (back n h r);
    pairs = λ p m c. (let b = k.pairs p m c in (b.0, record { live = stays-live m b.1.live; held = same.still m b.0 b.1.held }));
    one_row = k.one_row;
    one_peer = k.one_peer;
  }
    where
      back : (m h : ℕ) → Holds t m h → Holds s.managed m h
      back m h q = was-held m h (same.before m h q.held) q.live

-- a new row takes a handle that was never adopted
module _ (s : ManagedReplay) (v : ℕ) (kind : Kind) (n p h : ℕ) (k : ReplayInvariant s) (virgin : Contains s.adopted h → ⊥) where
  abbrev pub after : Managed
  after = with_row s.managed v kind n (Some h)

  abbrev pub newest : ℕ
  newest = next_number s.managed.heap

  pub grows : GoesOn s.managed after
  grows = GoesOn-row s.managed v kind n (Some h) k.managed.places

  after_kept : ManagedInvariant after
  after_kept = ManagedInvariant-goes_on s.managed after k.managed grows

  -- a handle was held before, or is the one that the new row takes
  pub held-cases : (x g : ℕ) → Holds after x g → Holds s.managed x g ⊎ ((x ≡ newest) × (h ≡ g))
  held-cases x g q = elim (numbered-push_cases s.managed.held (Some h) x (Some g) q.held) [
    | inl w ↦ inl (was-held s after k grows x g w q.live)
    | inr w ↦ inr (omega (arith, w.0, k.managed.places), same_Some h g w.1)
  ]

  not_newest : (x g : ℕ) → Holds s.managed x g → x ≢ newest
  not_newest x g q e = omega (arith, q.live.made.1, e)

  alone_after : (x y g : ℕ) → Holds after x g → Holds after y g → x ≡ y
  alone_after x y g q r = elim (held-cases x g q) [
    | inl a ↦ elim (held-cases y g r) [
      | inl b ↦ k.alone x y g a b
      | inr b ↦ absurd (virgin (subst (λ z. Contains s.adopted z) (sym b.1) (k.adopted x g a)))
    ]
    | inr a ↦ elim (held-cases y g r) [
      | inl b ↦ absurd (virgin (subst (λ z. Contains s.adopted z) (sym a.1) (k.adopted y g b)))
      | inr b ↦ a.0 ∙ sym b.0
    ]
  ]

  adopted_after : (x g : ℕ) → Holds after x g → Contains (s.adopted ++ h ∷ []) g
  adopted_after x g q = elim (held-cases x g q) [
    | inl a ↦ Contains-append_left s.adopted (h ∷ []) g (k.adopted x g a)
    | inr a ↦ subst (λ z. Contains (s.adopted ++ h ∷ []) z) a.1 (Contains-push s.adopted h)
  ]

  -- an old pair's row still holds its handle, and the new pair's row holds the new one
  old-bridge : (q x : ℕ) → Contains s.registry (q, x) → IsBridge after x
  old-bridge q x c = let b = k.pairs q x c in (b.0, record { live = stays-live s after k grows x b.1.live; held = pushed-still s.managed.held (Some h) x b.0 b.1.held })

  pub new-held : numbered_at (s.managed.held ++ Some h ∷ []) newest ≡ Some (Some h)
  new-held = let e : newest ≡ length s.managed.held + 1 = omega (arith, k.managed.places) in rw e (numbered-push_new s.managed.held (Some h))

  pub new-live : IsLive after.heap newest
  new-live = record {
    made = (omega arith, omega (arith, with_object-length s.managed.heap n));
    kept = λ c. (let m = k.managed.freed newest c in omega (arith, m.1));
  }

  pub new-bridge : IsBridge after newest
  new-bridge = (h, record { live = new-live; held = new-held })

  abbrev pub pushed : List (ℕ × ℕ)
  pushed = s.registry ++ (p, newest) ∷ []

  -- a pair was there, or is the new one
  pub pair-cases : (q x : ℕ) → Contains pushed (q, x) → Contains s.registry (q, x) ⊎ ((p ≡ q) × (newest ≡ x))
  pair-cases q x c = elim (Contains-push_cases s.registry (p, newest) (q, x) c) [
    | inl w ↦ inl w
    | inr e ↦ inr (ap (λ (z : ℕ × ℕ). z.0) e, ap (λ (z : ℕ × ℕ). z.1) e)
  ]

  old-pair : (q x : ℕ) → Contains s.registry (q, x) → x ≢ newest
  old-pair q x c = let b = k.pairs q x c in not_newest x b.0 b.1

  pushed-one_row : registered s.registry p ≡ None → (q x y : ℕ) → Contains pushed (q, x) → Contains pushed (q, y) → x ≡ y
  pushed-one_row none q x y c d = elim (pair-cases q x c) [
    | inl a ↦ elim (pair-cases q y d) [
      | inl b ↦ k.one_row q x y a b
      | inr b ↦ absurd (registered-none s.registry p x none (subst (λ z. Contains s.registry (z, x)) (sym b.0) a))
    ]
    | inr a ↦ elim (pair-cases q y d) [
      | inl b ↦ absurd (registered-none s.registry p y none (subst (λ z. Contains s.registry (z, y)) (sym a.0) b))
      | inr b ↦ sym a.1 ∙ b.1
    ]
  ]

  pushed-one_peer : (q r x : ℕ) → Contains pushed (q, x) → Contains pushed (r, x) → q ≡ r
  pushed-one_peer q r x c d = elim (pair-cases q x c) [
    | inl a ↦ elim (pair-cases r x d) [
      | inl b ↦ k.one_peer q r x a b
      | inr b ↦ absurd (old-pair q x a (sym b.1))
    ]
    | inr a ↦ elim (pair-cases r x d) [
      | inl b ↦ absurd (old-pair r x b (sym a.1))
      | inr b ↦ sym a.0 ∙ b.0
    ]
  ]

  -- by whether the peer has a twin already
  pub took-by : (o : Option ℕ) → registered s.registry p ≡ o → ReplayInvariant (record s { managed = after; registry = with_twin s.registry p newest o; adopted = s.adopted ++ h ∷ [] })
  took-by (Some twin) e = record {
    managed = after_kept;
    adopted = adopted_after;
    alone = alone_after;
    pairs = old-bridge;
    one_row = k.one_row;
    one_peer = k.one_peer;
  }
  took-by None e = record {
    managed = after_kept;
    adopted = adopted_after;
    alone = alone_after;
    pairs = λ q x c. elim (pair-cases q x c) [ inl a ↦ old-bridge q x a | inr a ↦ subst (IsBridge after) a.1 new-bridge ];
    one_row = pushed-one_row e;
    one_peer = pushed-one_peer;
  }

  pub ReplayInvariant-took : ReplayInvariant (took_handle s p h newest after)
  ReplayInvariant-took = took-by (registered s.registry p) refl

-- an `adopt`, by whether there is room
pub adopt-by : (s : ManagedReplay) (v : ℕ) (kind : Kind) (n p h : ℕ) (b : Bool) → ReplayInvariant s → (Contains s.adopted h → ⊥)
    → (let a = if b then answer says.Full s.managed else answer (managed_name (next_number s.managed.heap)) (with_row s.managed v kind n (Some h)) in
    ReplayInvariant (adopt_by s p h a.state a.reply).state)
adopt-by s v kind n p h true k w = k
adopt-by s v kind n p h false k w = ReplayInvariant-took s v kind n p h k w
