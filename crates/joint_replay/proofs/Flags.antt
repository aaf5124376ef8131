-- The flags of a heap in plain lists. They speak of how many objects there are and of which are freed, and of nothing
-- else; so a write to a field or a slot leaves them right, and a further object has its flag up.
use Rattle.std.proofs.Common.{◌≡◌, ℕ, zero, suc, ◌+◌, ◌-◌, ◌<◌, ◌≤◌, ◌↔◌, ◌⊎◌, inl, inr, Bool, true, false, not, ◌&&◌, List, [], ◌∷◌, ◌++◌, length, set, Some, IsTrue, refl, sym, ap, subst, ◌∙◌, arith}
use Rattle.std.proofs.Common.{length-append}
use Rattle.std.specs.Prelude.{Contains, All, slice_get, nat_le}
use Rattle.std.proofs.Math.ListN.{length-set}
use Rattle.std.proofs.lemmas.Bool.{eqb-true, leb-true, le-leb}
use Rattle.std.proofs.lemmas.Cmp.{nat_eq_equiv}
use Rattle.std.proofs.lemmas.List.{set_past}
use Rattle.std.proofs.lemmas.List.Elements.{All-contains, Contains-append_cases, Contains-append_left, Contains-append_right, Contains-push, Contains-push_cases}
use Rattle.std.proofs.lemmas.Map.Views.{list_any-from_Contains, Contains-from_any}
use Rattle.std.proofs.lemmas.Option.{slice_get_within}
use Rattle.joint_machine.specs.Heaps.{Heap, MOST, IsMade, IsLive, is_freed, numbered_at, fields_of}
use Rattle.joint_machine.proofs.Joining.{same_or_not, slice_get-set_same, slice_get-set_other}
use Rattle.joint_machine.proofs.Numbered.{numbered-past, numbered-push_cases}
use Rattle.joint_machine.proofs.Deciding.{not-true, not-from}
use Rattle.heap_rules.proofs.Numbered.{row-none}
use Rattle.joint_replay.specs.Plain.{IsFlagged, Lowers, is_live}

le_or_lt : (a b : ℕ) → (a ≤ b) ⊎ (b < a)
le_or_lt a b = grind arith

-- a heap with as many objects, of which the same are freed
pub IsFlagged-as : (h k : Heap) (flags : List Bool) → IsFlagged h flags → length k.fields ≡ length h.fields
    → k.freed ≡ h.freed → length k.vars ≡ length h.vars → length k.statics ≡ length h.statics → IsFlagged k flags
IsFlagged-as h k flags f len gone vars statics = record {
  most = omega (arith, f.most);
  vars = vars ∙ f.vars;
  statics = statics ∙ f.statics;
  len = f.len ∙ sym len;
  made = λ x c. (let m = f.made x (subst (λ l. Contains l x) gone c) in (m.0, omega (arith, m.1)));
  up = λ x e c. f.up x e (subst (λ l. Contains l x) gone c);
  down = λ x e. subst (λ l. Contains l x) (sym gone) (f.down x e);
}

-- a further object
pub IsFlagged-more : (h k : Heap) (flags more : List Bool) → IsFlagged h flags → length h.fields < MOST → length k.fields ≡ length h.fields + 1
    → k.freed ≡ h.freed → k.vars ≡ h.vars → k.statics ≡ h.statics → more ≡ flags ++ true ∷ [] → IsFlagged k more
IsFlagged-more h k flags more f few len gone vars statics e = record {
  most = omega (arith, few, len);
  vars = ap length vars ∙ f.vars;
  statics = ap length statics ∙ f.statics;
  len = ap length e ∙ (length-append flags (true ∷ []) ∙ (let z : length flags + length (true ∷ []) ≡ length k.fields = omega (arith, f.len, len) in z));
  made = λ x c. (let m = f.made x (subst (λ l. Contains l x) gone c) in (m.0, omega (arith, m.1, len)));
  up = λ x n c. elim (numbered-push_cases flags true x true (subst (λ l. numbered_at l x ≡ Some true) e n)) [
    | inl o ↦ f.up x o (subst (λ l. Contains l x) gone c)
    | inr w ↦ (let m = f.made x (subst (λ l. Contains l x) gone c) in omega (arith, m.1, w.0, f.len))
  ];
  down = λ x n. elim (numbered-push_cases flags true x false (subst (λ l. numbered_at l x ≡ Some false) e n)) [
    | inl o ↦ subst (λ l. Contains l x) (sym gone) (f.down x o)
    | inr w ↦ (let g : true ≡ false = w.1 in cc)
  ];
}

-- what a flag says
pub IsFlagged-tells : (h : Heap) (flags : List Bool) (x : ℕ) (b : Bool) → IsFlagged h flags → numbered_at flags x ≡ Some b → IsTrue (not b) ↔ Contains h.freed x
IsFlagged-tells h flags x true f e = (λ t. (let g : false ≡ true = t in cc), λ c. absurd (f.up x e c))
IsFlagged-tells h flags x false f e = (λ t. f.down x e, λ c. refl)

-- what wasn't made isn't freed
pub IsFlagged-past : (h : Heap) (flags : List Bool) (x : ℕ) → IsFlagged h flags → (1 ≤ x → x ≤ length flags → ⊥) → IsTrue false ↔ Contains h.freed x
IsFlagged-past h flags x f past = (
  λ t. (let g : false ≡ true = t in cc),
  λ c. absurd (let m = f.made x c in past m.0 (omega (arith, m.1, f.len))),
)

-- what has a field was made
pub fields_of-made : (h : Heap) (x i : ℕ) → i < length (fields_of h x) → IsMade h x
fields_of-made h zero i l = absurd (omega (arith, l))
fields_of-made h (suc x) i l = (omega arith, within (suc x) i l)
  where
    within : (x i : ℕ) → i < length (fields_of h x) → x ≤ length h.fields
    within x i l = elim (le_or_lt x (length h.fields)) [ inl w ↦ w | inr w ↦ absurd (omega (arith, l, ap length (row-none h.fields x (numbered-past h.fields x w)))) ]

-- a live object's flag is up
pub IsFlagged-live : (h : Heap) (flags : List Bool) (x : ℕ) (b : Bool) → IsFlagged h flags → 1 ≤ x → x ≤ length flags → numbered_at flags x ≡ Some b → IsTrue b ↔ IsLive h x
IsFlagged-live h flags x true f low high e = (λ t. record { made = (low, omega (arith, high, f.len)); kept = f.up x e }, λ l. refl)
IsFlagged-live h flags x false f low high e = (λ t. (let g : false ≡ true = t in cc), λ l. absurd (l.kept (f.down x e)))

pub IsFlagged-unmade : (h : Heap) (flags : List Bool) (x : ℕ) → IsFlagged h flags → (1 ≤ x → x ≤ length flags → ⊥) → IsTrue false ↔ IsLive h x
IsFlagged-unmade h flags x f past = (
  λ t. (let g : false ≡ true = t in cc),
  λ l. absurd (past l.made.0 (omega (arith, l.made.1, f.len))),
)

-- the test of the definitions says whether an object is live
both-true : (a b : Bool) → a && b ≡ true → (a ≡ true) × (b ≡ true)
both-true true b e = (refl, e)
both-true false b e = (let g : false ≡ true = e in cc)

true-both : (a b : Bool) → a ≡ true → b ≡ true → a && b ≡ true
true-both true b e f = f
true-both false b e f = (let g : false ≡ true = e in cc)

pub is_live-exact : (h : Heap) (x : ℕ) → (is_live h x ≡ true) ↔ IsLive h x
is_live-exact h x = (
  λ e.
      let p = both-true (nat_le 1 x && nat_le x (length h.fields)) (not (is_freed h x)) e in
      let q = both-true (nat_le 1 x) (nat_le x (length h.fields)) p.0 in
      record { made = (leb-true 1 x q.0, leb-true x (length h.fields) q.1); kept = λ c. not-true (is_freed h x) p.1 (list_any-from_Contains nat_eq_equiv x h.freed c) },
  λ l. true-both (nat_le 1 x && nat_le x (length h.fields)) (not (is_freed h x))
      (true-both (nat_le 1 x) (nat_le x (length h.fields)) (le-leb 1 x l.made.0) (le-leb x (length h.fields) l.made.1))
      (not-from (is_freed h x) (λ e. l.kept (Contains-from_any eqb-true x h.freed e))),
)

pub is_freed-exact : (h : Heap) (x : ℕ) → (is_freed h x ≡ true) ↔ Contains h.freed x
is_freed-exact h x = (λ e. Contains-from_any eqb-true x h.freed e, λ c. list_any-from_Contains nat_eq_equiv x h.freed c)

-- two tests of one fact are the same
pub same-test : (P : Type 0) (a b : Bool) → IsTrue a ↔ P → (b ≡ true) ↔ P → a ≡ b
same-test P true b f g = sym (g.1 (f.0 refl))
same-test P false true f g = f.1 (g.0 refl)
same-test P false false f g = refl

-- the heap with further objects freed
pub IsFlagged-freed : (h k : Heap) (flags down : List Bool) (xs : List ℕ) → IsFlagged h flags → All (IsMade h) xs → Lowers xs flags down
    → length k.fields ≡ length h.fields → k.freed ≡ h.freed ++ xs → k.vars ≡ h.vars → k.statics ≡ h.statics → IsFlagged k down
IsFlagged-freed h k flags down xs f made low len gone vars statics = record {
  most = omega (arith, f.most, len);
  vars = ap length vars ∙ f.vars;
  statics = ap length statics ∙ f.statics;
  len = low.len ∙ (f.len ∙ sym len);
  made = λ x c. (
      let m : IsMade h x = elim (Contains-append_cases h.freed xs x (subst (λ l. Contains l x) gone c)) [ inl w ↦ f.made x w | inr w ↦ All-contains (IsMade h) xs x made w ] in
      (m.0, omega (arith, m.1, len))
      );
  up = λ x e c. (
      let u = low.up x e in
      elim (Contains-append_cases h.freed xs x (subst (λ l. Contains l x) gone c)) [ inl w ↦ f.up x u.0 w | inr w ↦ u.1 w ]
      );
  down = λ x e. subst (λ l. Contains l x) (sym gone) (elim (low.down x e) [
    | inl w ↦ Contains-append_left h.freed xs x (f.down x w)
    | inr w ↦ Contains-append_right h.freed xs x w
  ]);
}

-- what stands at a number after a write at a number
set-number : (flags : List Bool) (n x : ℕ) (b c : Bool) → 1 ≤ n → numbered_at (set flags (n - 1) b) x ≡ Some c → (numbered_at flags x ≡ Some c) ⊎ ((x ≡ n) × (b ≡ c))
set-number flags n zero b c l e = inl e
set-number flags n (suc i) b c l e = elim (same_or_not i (n - 1)) [
  | inl s ↦ elim (le_or_lt (length flags) (n - 1)) [
    | inl past ↦ inl (subst (λ z. slice_get z i ≡ Some c) (set_past flags (n - 1) b past) e)
    | inr within ↦ inr (omega (arith, s, l), (let g : Some b ≡ Some c = sym (slice_get-set_same flags (n - 1) b within) ∙ (ap (slice_get (set flags (n - 1) b)) (sym s) ∙ e) in cc))
  ]
  | inr d ↦ inl (sym (slice_get-set_other flags (n - 1) i b d) ∙ e)
]

set-number_kept : (flags : List Bool) (n x : ℕ) (b : Bool) (c : Bool) → 1 ≤ n → numbered_at (set flags (n - 1) b) x ≡ Some c → (b ≡ c → ⊥) → numbered_at flags x ≡ Some c → x ≡ n → ⊥
set-number_kept flags n zero b c l e d o s = omega (arith, s, l)
set-number_kept flags n (suc i) b c l e d o s =
    let at : i ≡ n - 1 = omega (arith, s) in
    let within : n - 1 < length flags = subst (λ z. z < length flags) at (slice_get_within flags i c o) in
    d (let g : Some b ≡ Some c = sym (slice_get-set_same flags (n - 1) b within) ∙ (ap (slice_get (set flags (n - 1) b)) (sym at) ∙ e) in cc)

-- one more flag is taken down
pub Lowers-next : (xs more : List ℕ) (n : ℕ) (old now : List Bool) → Lowers xs old now → more ≡ xs ++ n ∷ [] → 1 ≤ n → Lowers more old (set now (n - 1) false)
Lowers-next xs more n old now w e l = record {
  len = length-set now (n - 1) false ∙ w.len;
  up = λ x k. elim (set-number now n x false true l k) [
    | inl o ↦ (
      (w.up x o).0,
      λ c. elim (Contains-push_cases xs n x (subst (λ z. Contains z x) e c)) [
        | inl h ↦ (w.up x o).1 h
        | inr s ↦ set-number_kept now n x false true l k (λ g. (let q : ⊥ = cc in q)) o (sym s)
      ],
    )
    | inr s ↦ (let g : false ≡ true = s.1 in cc)
  ];
  down = λ x k. elim (set-number now n x false false l k) [
    | inl o ↦ elim (w.down x o) [ inl h ↦ inl h | inr h ↦ inr (subst (λ z. Contains z x) (sym e) (Contains-append_left xs (n ∷ []) x h)) ]
    | inr s ↦ inr (subst (λ z. Contains z x) (sym e) (subst (Contains (xs ++ n ∷ [])) (sym s.0) (Contains-push xs n)))
  ];
}
