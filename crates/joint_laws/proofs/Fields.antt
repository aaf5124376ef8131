-- The fields of the objects of a heap after a write to one field, and after a further object is made.
use Rattle.std.proofs.Common.{◌≡◌, ◌≢◌, ℕ, ◌+◌, ◌<◌, ◌≤◌, ◌⊎◌, List, [], ◌∷◌, length, Option, Some, None, set, replicate, refl, sym, ap, subst, arith, length-append}
use Rattle.std.specs.Prelude.{Contains}
use Rattle.joint_machine.specs.Heaps.{Heap, IsLive, numbered_at, numbered_set, fields_of, with_field, with_object, next_number}
use Rattle.joint_machine.proofs.Numbered.{Contains-set_cases, numbered-past, numbered-push_old, numbered-push_new, numbered_set-length, numbered_set-same, numbered_set-other, replicate-none}
use Rattle.joint_machine.proofs.Members.{Contains-nil}

-- the row of a number, and none where there is no such number
abbrev row_by : Option (List (Option ℕ)) → List (Option ℕ)
row_by o = elim o [ None ↦ [] | Some fs ↦ fs ]

-- an object without a number has no field
past-none : (o : Option (List (Option ℕ))) (z : Option ℕ) → o ≡ None → Contains (row_by o) z → ⊥
past-none None z e c = Contains-nil z c
past-none (Some fs) z e c = cc

pub fields-past : (h : Heap) (x : ℕ) (z : Option ℕ) → length h.fields < x → Contains (fields_of h x) z → ⊥
fields-past h x z l c = past-none (numbered_at h.fields x) z (numbered-past h.fields x l) c

written-row : (o : Option (List (Option ℕ))) (fs : List (Option ℕ)) (z : Option ℕ) → ((gs : List (Option ℕ)) → o ≡ Some gs → fs ≡ gs) → Contains (row_by o) z → Contains fs z
written-row None fs z e c = absurd (Contains-nil z c)
written-row (Some gs) fs z e c = subst (λ hs. Contains hs z) (sym (e gs refl)) c

-- what the written object has in a field it had before, or it is what was written
pub with_field-same : (h : Heap) (x i : ℕ) (o z : Option ℕ) → Contains (fields_of (with_field h x i o) x) z → Contains (fields_of h x) z ⊎ (o ≡ z)
with_field-same h x i o z c =
    let written = set (fields_of h x) i o in
    Contains-set_cases (fields_of h x) i o z
    (written-row (numbered_at (numbered_set h.fields x written) x) written z (λ gs e. numbered_set-same h.fields x written gs e) c)

pub with_field-other : (h : Heap) (x i : ℕ) (o : Option ℕ) (y : ℕ) → y ≢ x → fields_of (with_field h x i o) y ≡ fields_of h y
with_field-other h x i o y ne = ap row_by (numbered_set-other h.fields x y (set (fields_of h x) i o) ne)

pub with_field-length : (h : Heap) (x i : ℕ) (o : Option ℕ) → length (with_field h x i o).fields ≡ length h.fields
with_field-length h x i o = numbered_set-length h.fields x (set (fields_of h x) i o)

-- the objects that were there have their fields, and the new one has empty ones
pub with_object-old : (h : Heap) (n x : ℕ) → x ≤ length h.fields → fields_of (with_object h n) x ≡ fields_of h x
with_object-old h n x l = ap row_by (numbered-push_old h.fields (replicate n None) x l)

new-row : (o : Option (List (Option ℕ))) (n y : ℕ) → o ≡ Some (replicate n None) → Contains (row_by o) (Some y) → ⊥
new-row None n y e c = Contains-nil (Some y) c
new-row (Some fs) n y e c = (let f : fs ≡ replicate n None = cc in replicate-none n y (subst (λ gs. Contains gs (Some y)) f c))

pub with_object-new : (h : Heap) (n y : ℕ) → Contains (fields_of (with_object h n) (next_number h)) (Some y) → ⊥
with_object-new h n y c = new-row (numbered_at (with_object h n).fields (next_number h)) n y (numbered-push_new h.fields (replicate n None)) c

pub with_object-length : (h : Heap) (n : ℕ) → length (with_object h n).fields ≡ length h.fields + 1
with_object-length h n = length-append h.fields (replicate n None ∷ [])

-- liveness depends on how many objects were made and on which were freed alone
pub IsLive-more : (h k : Heap) → length h.fields ≤ length k.fields → k.freed ≡ h.freed → (x : ℕ) → IsLive h x → IsLive k x
IsLive-more h k len freed x l = record {
  made = (l.made.0, omega (arith, l.made.1, len));
  kept = λ c. l.kept (subst (λ f. Contains f x) freed c);
}
