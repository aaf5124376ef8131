-- A heap stays kept: at an operation, when an object is made, when a slot comes to name an unfreed object, and when
-- objects are freed that no slot and no staying object names.
use Rattle.std.proofs.Common.{ℕ, ◌≤◌, inl, inr, List, length, Some, sym, subst, arith}
use Rattle.std.specs.Prelude.{Contains}
use Rattle.std.proofs.lemmas.Bool.{cases_lt, cases_eq}
use Rattle.std.proofs.lemmas.Option.{same_Some}
use Rattle.std.proofs.lemmas.List.Elements.{Contains-append_cases, Contains-append_left, Contains-append_right}
use Rattle.joint_machine.specs.Heaps.{Heap, IsLive, InSlot, fields_of, opening_heap, next_number, with_var, with_static, with_object, with_freed}
use Rattle.joint_laws.specs.PeerInvariants.{HeapInvariant}
use Rattle.joint_machine.proofs.Members.{Contains-nil}
use Rattle.joint_machine.proofs.Numbered.{replicate-none, Contains-set_cases}
use Rattle.joint_machine.proofs.HeapLemmas.{IsLive-later}
use Rattle.joint_laws.proofs.Fields.{IsLive-more, fields-past, with_object-old, with_object-new, with_object-length}
use Rattle.joint_laws.proofs.HeapMoves.{HasMoved, IsInReach}

pub HeapInvariant-opening : HeapInvariant opening_heap
HeapInvariant-opening = record {
  freed = λ x c. absurd (Contains-nil x c);
  slots = λ x i. elim i [ inl c ↦ absurd (replicate-none 72 x c) | inr c ↦ absurd (replicate-none 16 x c) ];
  fields = λ x y l c. absurd (fields-past opening_heap x (Some y) (omega (arith, l.made.0)) c);
}

-- what is in reach is unfreed
pub in_reach-live : (h : Heap) (x : ℕ) → HeapInvariant h → IsInReach h x → IsLive h x
in_reach-live h x k r = elim r [ inl i ↦ k.slots x i | inr z ↦ k.fields z.0 x (k.slots z.0 z.1) z.2 ]

pub moved-live : (h k : Heap) → HasMoved h k → (x : ℕ) → IsLive h x → IsLive k x
moved-live h k v x l = IsLive-more h k (omega (arith, v.made)) v.freed x l

pub moved-was_live : (h k : Heap) → HasMoved h k → (x : ℕ) → IsLive k x → IsLive h x
moved-was_live h k v x l = IsLive-more k h (omega (arith, v.made)) (sym v.freed) x l

pub HeapInvariant-moved : (h k : Heap) → HeapInvariant h → HasMoved h k → HeapInvariant k
HeapInvariant-moved h k kept v = record {
  freed = λ x c. (let m = kept.freed x (subst (λ f. Contains f x) v.freed c) in (m.0, omega (arith, m.1, v.made)));
  slots = λ x i. moved-live h k v x (in_reach-live h x kept (v.slots x i));
  fields = λ x y l c. moved-live h k v y (elim (v.fields x y c) [ inl w ↦ kept.fields x y (moved-was_live h k v x l) w | inr w ↦ kept.slots y w.1 ]);
}

pub object-new : (h : Heap) (n : ℕ) → HeapInvariant h → IsLive (with_object h n) (next_number h)
object-new h n k = record {
  made = (omega arith, omega (arith, with_object-length h n));
  kept = λ c. (let m = k.freed (next_number h) c in omega (arith, m.1));
}

-- what has a field in the larger heap is an old object, with that field
pub object-field : (h : Heap) (n x y : ℕ) → Contains (fields_of (with_object h n) x) (Some y) → (x ≤ length h.fields) × Contains (fields_of h x) (Some y)
object-field h n x y c = elim (cases_eq x (next_number h)) [
  | inl q ↦ absurd (with_object-new h n y (subst (λ z. Contains (fields_of (with_object h n) z) (Some y)) q c))
  | inr ne ↦ elim (cases_lt (length h.fields) x) [
    | inl l ↦ absurd (fields-past (with_object h n) x (Some y) (omega (arith, with_object-length h n)) c)
    | inr l ↦ (l, subst (λ fs. Contains fs (Some y)) (with_object-old h n x l) c)
  ]
]

pub object-was_live : (h : Heap) (n x : ℕ) → x ≤ length h.fields → IsLive (with_object h n) x → IsLive h x
object-was_live h n x b l = record { made = (l.made.0, b); kept = l.kept }

pub HeapInvariant-object : (h : Heap) (n : ℕ) → HeapInvariant h → HeapInvariant (with_object h n)
HeapInvariant-object h n k = record {
  freed = λ x c. (let m = k.freed x c in (m.0, omega (arith, m.1, with_object-length h n)));
  slots = λ x i. IsLive-later h n x (k.slots x i);
  fields = λ x y l c. (let f = object-field h n x y c in IsLive-later h n y (k.fields x y (object-was_live h n x f.0 l) f.1));
}

-- a slot comes to name an unfreed object
pub HeapInvariant-var : (h : Heap) (v p : ℕ) → HeapInvariant h → IsLive h p → HeapInvariant (with_var h v (Some p))
HeapInvariant-var h v p k l = record {
  freed = λ x c. (let m = k.freed x c in (m.0, m.1));
  slots = λ x i. elim i [
    | inl c ↦ elim (Contains-set_cases h.vars v (Some p) (Some x) c) [
      | inl w ↦ same x (k.slots x (inl w))
      | inr e ↦ same x (subst (λ z. IsLive h z) (same_Some p x e) l)
    ]
    | inr c ↦ same x (k.slots x (inr c))
  ];
  fields = λ x y m c. same y (k.fields x y (record { made = m.made; kept = m.kept }) c);
}
  where
    same : (x : ℕ) → IsLive h x → IsLive (with_var h v (Some p)) x
    same x m = record { made = m.made; kept = m.kept }

pub HeapInvariant-static : (h : Heap) (i p : ℕ) → HeapInvariant h → IsLive h p → HeapInvariant (with_static h i (Some p))
HeapInvariant-static h i p k l = record {
  freed = λ x c. (let m = k.freed x c in (m.0, m.1));
  slots = λ x s. elim s [
    | inl c ↦ same x (k.slots x (inl c))
    | inr c ↦ elim (Contains-set_cases h.statics i (Some p) (Some x) c) [
      | inl w ↦ same x (k.slots x (inr w))
      | inr e ↦ same x (subst (λ z. IsLive h z) (same_Some p x e) l)
    ]
  ];
  fields = λ x y m c. same y (k.fields x y (record { made = m.made; kept = m.kept }) c);
}
  where
    same : (x : ℕ) → IsLive h x → IsLive (with_static h i (Some p)) x
    same x m = record { made = m.made; kept = m.kept }

-- objects are freed that no slot names, and to which no staying object leads
pub HeapInvariant-freed : (h : Heap) (freed : List ℕ) → HeapInvariant h → ((x : ℕ) → Contains freed x → IsLive h x) → ((x : ℕ) → InSlot h x → Contains freed x → ⊥)
    → ((x y : ℕ) → IsLive h x → (Contains freed x → ⊥) → Contains (fields_of h x) (Some y) → Contains freed y → ⊥) → HeapInvariant (with_freed h freed)
HeapInvariant-freed h freed k live slots fields = record {
  freed = λ x c. elim (Contains-append_cases h.freed freed x c) [ inl w ↦ (k.freed x w) | inr w ↦ (live x w).made ];
  slots = λ x i. stays x (k.slots x i) (slots x i);
  fields = λ x y l c. (
      let was : IsLive h x = record { made = l.made; kept = λ d. l.kept (Contains-append_left h.freed freed x d) } in
      stays y (k.fields x y was c) (fields x y was (λ d. l.kept (Contains-append_right h.freed freed x d)) c));
}
  where
    stays : (x : ℕ) → IsLive h x → (Contains freed x → ⊥) → IsLive (with_freed h freed) x
    stays x l n = record { made = l.made; kept = λ c. elim (Contains-append_cases h.freed freed x c) [ inl w ↦ l.kept w | inr w ↦ n w ] }
