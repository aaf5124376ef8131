-- A heap stays sound. What changes only slots or fields, to live objects or nothing, changes no object's
-- liveness, so all that is named or held stays live. A further object is live and has empty fields. Freed
-- objects were named by no slot and held by no object that stays live.
use Rattle.std.proofs.Common.{◌≡◌, ℕ, zero, suc, ◌+◌, ◌-◌, ◌<◌, ◌≤◌, ◌↔◌, inl, inr, Bool, true, false, List, [], ◌∷◌, ◌++◌, length, map, Option, Some, None, IsTrue, set, get_or, take, replicate, refl}
use Rattle.std.proofs.Common.{sym, ap, subst, ◌∙◌, arith, length-append}
use Rattle.std.specs.Prelude.{Contains, All, slice_get}
use Rattle.std.specs.Option.{ForSome, IfSome}
use Rattle.std.proofs.Math.ListN.{length-set}
use Rattle.std.proofs.lemmas.List.Elements.{Contains-append_cases, Contains-append_left, Contains-append_right, Contains-push, Contains-push_cases, All-contains}
use Rattle.std.proofs.lemmas.List.{take-map}
use Rattle.std.proofs.lemmas.Option.{slice_get_within, same_Some}
use Rattle.joint_machine.specs.Components.{Rises}
use Rattle.joint_machine.specs.Heaps.{Heap, MOST, IsLive, InSlot, numbered_at, numbered_set, fields_of, with_object, with_var, with_static, with_field, with_freed}
use Rattle.joint_machine.proofs.Members.{Contains-cons_cases, Contains-at, Contains-decided}
use Rattle.joint_machine.proofs.Numbered.{Contains-set_cases, numbered-within, numbered-made, numbered-push_cases, numbered_set-length, replicate-none}
use Rattle.joint_machine.proofs.HeapLemmas.{IsLive-before, IsLive-left, IsLive-later}
use Rattle.joint_machine.proofs.Deciding.{true_false}
use Rattle.heap_rules.specs.Tidy.{IsTidy, CanFree}
use Rattle.heap_rules.specs.Flags.{IsUp, AreLiveFlags, IsSound, TakesDown, up_count}
use Rattle.heap_rules.proofs.Numbered.{number-at, map-take_more, numbered_set-index, row-is, row-set_cases, row-there}

-- liveness depends on how many objects were made and on which were freed alone
pub IsLive-as : (h k : Heap) → length k.fields ≡ length h.fields → k.freed ≡ h.freed → (x : ℕ) → IsLive h x → IsLive k x
IsLive-as h k len freed x l = record {
  made = (l.made.0, omega (arith, l.made.1, len));
  kept = λ c. l.kept (subst (λ f. Contains f x) freed c);
}

-- a heap that differs in slots and fields alone
pub IsSound-as : (h k : Heap) (ups : List Bool) (room : ℕ) → IsSound h ups room → length k.fields ≡ length h.fields → k.freed ≡ h.freed → length k.vars ≡ 72 → length k.statics ≡ 16
    → ((x : ℕ) → InSlot k x → IsLive h x) → ((x y : ℕ) → IsLive h x → Contains (fields_of k x) (Some y) → IsLive h y) → IsSound k ups room
IsSound-as h k ups room s len freed vars statics slots held =
    let to : (x : ℕ) → IsLive h x → IsLive k x = IsLive-as h k len freed in
    let back : (x : ℕ) → IsLive k x → IsLive h x = IsLive-as k h (sym len) (sym freed) in
    record {
      tidy = record {
        most = omega (arith, s.tidy.most, len);
        vars = vars;
        statics = statics;
        slots = λ x p. to x (slots x p);
        held = λ x y l c. to y (held x y (back x l) c);
        freed = λ x c. (let m = s.tidy.freed x (subst (λ f. Contains f x) freed c) in (m.0, omega (arith, m.1, len)));
      };
      flags = record {
        len = s.flags.len ∙ sym len;
        up = λ x u. to x (s.flags.up x u);
        down = λ x d. subst (λ f. Contains f x) (sym freed) (s.flags.down x d);
        count = omega (arith, s.flags.count, len, ap length freed);
      };
      room = omega (arith, s.room, len);
    }

-- a slot that names a live object, or none, names what it says
ForSome-at : (h : Heap) (o : Option ℕ) (x : ℕ) → ForSome o (IsLive h) → o ≡ Some x → IsLive h x
ForSome-at h o x p e = p x e

pub IsSound-var : (h : Heap) (ups : List Bool) (room v : ℕ) (o : Option ℕ) → IsSound h ups room → ForSome o (IsLive h) → IsSound (with_var h v o) ups room
IsSound-var h ups room v o s p = IsSound-as h (with_var h v o) ups room s refl refl (length-set h.vars v o ∙ s.tidy.vars) s.tidy.statics
    (λ x i. elim i [
      | inl c ↦ elim (Contains-set_cases h.vars v o (Some x) c) [ inl w ↦ s.tidy.slots x (inl w) | inr w ↦ ForSome-at h o x p w ]
      | inr c ↦ s.tidy.slots x (inr c)
    ])
    s.tidy.held

pub IsSound-static : (h : Heap) (ups : List Bool) (room i : ℕ) (o : Option ℕ) → IsSound h ups room → ForSome o (IsLive h) → IsSound (with_static h i o) ups room
IsSound-static h ups room i o s p = IsSound-as h (with_static h i o) ups room s refl refl s.tidy.vars (length-set h.statics i o ∙ s.tidy.statics)
    (λ x j. elim j [
      | inl c ↦ s.tidy.slots x (inl c)
      | inr c ↦ elim (Contains-set_cases h.statics i o (Some x) c) [ inl w ↦ s.tidy.slots x (inr w) | inr w ↦ ForSome-at h o x p w ]
    ])
    s.tidy.held

pub IsSound-field : (h : Heap) (ups : List Bool) (room x i : ℕ) (o : Option ℕ) → IsSound h ups room → IsLive h x → ForSome o (IsLive h) → IsSound (with_field h x i o) ups room
IsSound-field h ups room x i o s l p = IsSound-as h (with_field h x i o) ups room s (numbered_set-length h.fields x (set (fields_of h x) i o)) refl s.tidy.vars s.tidy.statics
    (λ y j. s.tidy.slots y j)
    (λ a y q c. elim (row-set_cases h.fields x a (set (fields_of h x) i o) (Some y) c) [
      | inl w ↦ s.tidy.held a y q w
      | inr w ↦ elim (Contains-set_cases (fields_of h x) i o (Some y) w) [ inl v ↦ s.tidy.held x y l v | inr v ↦ ForSome-at h o y p v ]
    ])

-- what is read from slots that name live objects alone is live
pub read-live : (h : Heap) (os : List (Option ℕ)) (r : Option ℕ) → ((y : ℕ) → Contains os (Some y) → IsLive h y) → Contains os r → IfSome r (IsLive h)
read-live h os None all c = tt
read-live h os (Some y) all c = all y c

-- the write of a field, where the object's row was read first: k are the tables, and h is what they are seen as
pub write-is : (k h : Heap) (x i : ℕ) (o : Option ℕ) (fs : List (Option ℕ)) (rows : List (List (Option ℕ))) → k ≡ h
    → fields_of h x ≡ fs → rows ≡ numbered_set k.fields x (set fs i o) → record k { fields = rows } ≡ with_field h x i o
write-is k h x i o fs rows same e f =
    let there : fields_of k x ≡ fs = subst (λ (l : Heap). fields_of l x ≡ fs) (sym same) e in
    let put : record k { fields = rows } ≡ with_field k x i o = ap (λ (l : List (List (Option ℕ))). record k { fields = l })
    (f ∙ ap (λ (l : List (Option ℕ)). numbered_set k.fields x (set l i o)) (sym there)) in
    put ∙ ap (λ (l : Heap). with_field l x i o) same

-- a heap without objects
pub IsSound-empty : (rows : List (List (Option ℕ))) (gone : List ℕ) (ups : List Bool) (vs ss : List (Option ℕ)) (room : ℕ)
    → rows ≡ [] → gone ≡ [] → ups ≡ [] → vs ≡ replicate 72 None → ss ≡ replicate 16 None
    → IsSound (record { fields = rows; freed = gone; vars = vs; statics = ss }) ups room
IsSound-empty rows gone ups vs ss room e f u v t =
    let none : (x : ℕ) → Contains gone x → ⊥ = λ x c. (let d : Contains [] x = subst (λ l. Contains l x) f c in omega (arith, d.1)) in
    record {
      tidy = record {
        most = omega (arith, ap length e);
        vars = ap length v;
        statics = ap length t;
        slots = λ x i. elim i [
          | inl c ↦ absurd (replicate-none 72 x (subst (λ l. Contains l (Some x)) v c))
          | inr c ↦ absurd (replicate-none 16 x (subst (λ l. Contains l (Some x)) t c))
        ];
        held = λ x y l c. absurd (omega (arith, l.made.0, l.made.1, ap length e));
        freed = λ x c. absurd (none x c);
      };
      flags = record {
        len = ap length u ∙ sym (ap length e);
        up = λ x w. absurd (omega (arith, numbered-within ups x true w, ap length u));
        down = λ x w. absurd (omega (arith, numbered-within ups x false w, ap length u));
        count = omega (arith, ap length f, ap up_count u, ap length e);
      };
      room = omega (arith, ap length e);
    }

-- a flag tells whether an object is live
pub IsLive-flag : (h : Heap) (ups : List Bool) (x : ℕ) (b : Bool) → AreLiveFlags h ups → numbered_at ups x ≡ Some b → IsTrue b ↔ IsLive h x
IsLive-flag h ups x true f e = (λ t. f.up x e, λ l. refl)
IsLive-flag h ups x false f e = ((λ t. (let g : ⊥ = cc in absurd g)), λ l. absurd (l.kept (f.down x e)))

-- a further object is live, and its fields are empty
pub up_count-push : (ups : List Bool) → up_count (ups ++ true ∷ []) ≡ up_count ups + 1
up_count-push [] = refl
up_count-push (true ∷ ups) = omega (arith, up_count-push ups)
up_count-push (false ∷ ups) = up_count-push ups

pub IsLive-newest : (h : Heap) (n : ℕ) → IsTidy h → IsLive (with_object h n) (length h.fields + 1)
IsLive-newest h n t = record {
  made = (omega arith, omega (arith, length-append h.fields (replicate n None ∷ [])));
  kept = λ c. absurd (omega (arith, (t.freed (length h.fields + 1) c).1));
}

pub IsSound-object : (h : Heap) (ups : List Bool) (room n : ℕ) → IsSound h ups room → length h.fields < MOST → length h.fields + 1 ≤ room → IsSound (with_object h n) (ups ++ true ∷ []) room
IsSound-object h ups room n s few space =
    let k : Heap = with_object h n in
    let longer : length k.fields ≡ length h.fields + 1 = length-append h.fields (replicate n None ∷ []) in
    record {
      tidy = record {
        most = omega (arith, longer);
        vars = s.tidy.vars;
        statics = s.tidy.statics;
        slots = λ x p. IsLive-later h n x (s.tidy.slots x p);
        held = λ x y l c. (
            let r = row-there k.fields x (Some y) c in
            elim (numbered-push_cases h.fields (replicate n None) x r.0 r.1) [
              | inl w ↦ (
                  let q = numbered-within h.fields x r.0 w in
                  IsLive-later h n y (s.tidy.held x y (record { made = q; kept = l.kept }) (subst (λ f. Contains f (Some y)) (sym (row-is h.fields x r.0 w)) r.2)))
              | inr w ↦ absurd (replicate-none n y (subst (λ f. Contains f (Some y)) (sym w.1) r.2))
            ]);
        freed = λ x c. (let m = s.tidy.freed x c in (m.0, omega (arith, m.1, longer)));
      };
      flags = record {
        len = omega (arith, s.flags.len, longer, length-append ups (true ∷ []));
        up = λ x u. elim (numbered-push_cases ups true x true u) [
          | inl w ↦ IsLive-later h n x (s.flags.up x w)
          | inr w ↦ subst (IsLive k) (let e : length h.fields + 1 ≡ x = omega (arith, w.0, s.flags.len) in e) (IsLive-newest h n s.tidy)
        ];
        down = λ x d. elim (numbered-push_cases ups true x false d) [ inl w ↦ s.flags.down x w | inr w ↦ (let f : ⊥ = cc in absurd f) ];
        count = omega (arith, s.flags.count, longer, up_count-push ups);
      };
      room = omega (arith, longer);
    }

-- the flags of a list of objects are taken down one after another
pub TakesDown-none : (ups : List Bool) → TakesDown [] ups ups
TakesDown-none ups = record {
  len = refl;
  down = λ x c. absurd (omega (arith, c.1));
  other = λ x n. refl;
  count = omega arith;
}

pub up_count-down : (ups : List Bool) (i : ℕ) → slice_get ups i ≡ Some true → up_count (set ups i false) + 1 ≡ up_count ups
up_count-down [] i e = (let f : ⊥ = cc in absurd f)
up_count-down (true ∷ ups) zero e = refl
up_count-down (false ∷ ups) zero e = (let f : ⊥ = cc in absurd f)
up_count-down (true ∷ ups) (suc i) e = omega (arith, up_count-down ups i e)
up_count-down (false ∷ ups) (suc i) e = up_count-down ups i e

down-same : (ups : List Bool) (i : ℕ) → i < length ups → slice_get (set ups i false) i ≡ Some false
down-same [] i l = absurd (omega arith)
down-same (b ∷ ups) zero l = refl
down-same (b ∷ ups) (suc i) l = down-same ups i (omega arith)

down-other : (ups : List Bool) (i k : ℕ) → (k ≡ i → ⊥) → slice_get (set ups i false) k ≡ slice_get ups k
down-other [] i k n = refl
down-other (b ∷ ups) zero zero n = absurd (n refl)
down-other (b ∷ ups) zero (suc k) n = refl
down-other (b ∷ ups) (suc i) zero n = refl
down-other (b ∷ ups) (suc i) (suc k) n = down-other ups i k (λ e. n (ap suc e))

number-down : (ups : List Bool) (n : ℕ) → IsUp ups n → (numbered_at (numbered_set ups n false) n ≡ Some false) × (up_count (numbered_set ups n false) + 1 ≡ up_count ups)
number-down ups zero e = (let f : ⊥ = cc in absurd f)
number-down ups (suc i) e = (down-same ups i (slice_get_within ups i true e), up_count-down ups i e)

number-other : (ups : List Bool) (n k : ℕ) → (k ≡ n → ⊥) → numbered_at (numbered_set ups n false) k ≡ numbered_at ups k
number-other ups zero k d = refl
number-other ups (suc i) zero d = refl
number-other ups (suc i) (suc k) d = down-other ups i k (λ e. d (ap suc e))

pub TakesDown-push : (xs : List ℕ) (n : ℕ) (a b : List Bool) → TakesDown xs a b → IsUp a n → (Contains xs n → ⊥) → TakesDown (xs ++ n ∷ []) a (numbered_set b n false)
TakesDown-push xs n a b t u new =
    let here : IsUp b n = t.other n new ∙ u in
    let d = number-down b n here in
    record {
      len = numbered_set-length b n false ∙ t.len;
      down = λ x c. elim (Contains-push_cases xs n x c) [
        | inl w ↦ number-other b n x (λ e. new (subst (Contains xs) e w)) ∙ t.down x w
        | inr w ↦ subst (λ y. numbered_at (numbered_set b n false) y ≡ Some false) w d.0
      ];
      other = λ x m. number-other b n x (λ e. m (subst (Contains (xs ++ n ∷ [])) (sym e) (Contains-push xs n))) ∙ t.other x (λ c. m (Contains-append_left xs (n ∷ []) x c));
      count = omega (arith, t.count, d.1, length-append xs (n ∷ []));
    }

-- a number of a list that rises isn't among those before it
pub Rises-before : (xs : List ℕ) (i n : ℕ) → Rises xs → slice_get xs i ≡ Some n → Contains (take i xs) n → ⊥
Rises-before [] i n r e c = (let f : ⊥ = cc in f)
Rises-before (x ∷ xs) zero n r e c = omega (arith, c.1)
Rises-before (x ∷ xs) (suc i) n r e c = elim (Contains-cons_cases x (take i xs) n c) [
  | inl w ↦ (let b : x < n = All-contains (λ y. x < y) xs n r.0 (Contains-at xs i n e) in omega (arith, b, w))
  | inr w ↦ Rises-before xs i n r.1 e w
]

-- the step of a loop over a list of objects
pub TakesDown-here : {A : Type 0} (f : A → ℕ) (xs : List A) (i : ℕ) (x : A) (n : ℕ) (a b : List Bool)
    → TakesDown (map f (take i xs)) a b → All (IsUp a) (map f xs) → Rises (map f xs) → i < length xs → x ≡ get_or xs i x → n ≡ f x
    → IsUp a n × (Contains (map f (take i xs)) n → ⊥) × (1 ≤ n) × (n ≤ length b) × (1 ≤ up_count b)
TakesDown-here f xs i x n a b t up rises l e m =
    let at : slice_get (map f xs) i ≡ Some n = number-at f xs i x n l e m in
    let u : IsUp a n = All-contains (IsUp a) (map f xs) n up (Contains-at (map f xs) i n at) in
    let new : Contains (map f (take i xs)) n → ⊥ = λ c. Rises-before (map f xs) i n rises at (subst (λ (z : List ℕ). Contains z n) (sym (take-map f i xs)) c) in
    let r = numbered-within a n true u in
    (u, new, r.0, omega (arith, r.1, t.len), omega (arith, (number-down b n (t.other n new ∙ u)).1))

pub TakesDown-next : {A : Type 0} (f : A → ℕ) (xs : List A) (i : ℕ) (x : A) (n : ℕ) (a b : List Bool)
    → TakesDown (map f (take i xs)) a b → All (IsUp a) (map f xs) → Rises (map f xs) → i < length xs → x ≡ get_or xs i x → n ≡ f x
    → TakesDown (map f (take (i + 1) xs)) a (set b (n - 1) false)
TakesDown-next f xs i x n a b t up rises l e m =
    let h = TakesDown-here f xs i x n a b t up rises l e m in
    subst (λ (z : List ℕ). TakesDown z a (set b (n - 1) false)) (sym (map-take_more f xs i x n l e m))
    (subst (λ (z : List Bool). TakesDown (map f (take i xs) ++ n ∷ []) a z) (sym (numbered_set-index b n false h.2))
    (TakesDown-push (map f (take i xs)) n a b t h.0 h.1))

-- a live object's flag is up
pub IsUp-live : (h : Heap) (ups : List Bool) (x : ℕ) → AreLiveFlags h ups → IsLive h x → IsUp ups x
IsUp-live h ups x f l =
    let r = numbered-made ups x l.made.0 (omega (arith, l.made.1, f.len)) in
    r.1 ∙ ap (λ b. Some b) ((IsLive-flag h ups x r.0 f r.1).1 l)

pub IsSound-freed : (h : Heap) (ups downs : List Bool) (room : ℕ) (xs : List ℕ) → IsSound h ups room → TakesDown xs ups downs → CanFree h xs → IsSound (with_freed h xs) downs room
IsSound-freed h ups downs room xs s t f = record {
  tidy = record {
    most = s.tidy.most;
    vars = s.tidy.vars;
    statics = s.tidy.statics;
    slots = λ x i. IsLive-left h xs x (s.tidy.slots x i) (λ c. f.unnamed x c i);
    held = λ x y l c. (
        let was = IsLive-before h xs x l in
        IsLive-left h xs y (s.tidy.held x y was c) (λ m. f.unheld x y was (λ n. l.kept (Contains-append_right h.freed xs x n)) m c));
    freed = λ x c. elim (Contains-append_cases h.freed xs x c) [ inl w ↦ s.tidy.freed x w | inr w ↦ (All-contains (IsLive h) xs x f.live w).made ];
  };
  flags = record {
    len = t.len ∙ s.flags.len;
    up = λ x u. (
        let out : Contains xs x → ⊥ = λ c. (let g : ⊥ = true_false (same_Some true false (sym u ∙ t.down x c)) in g) in
        IsLive-left h xs x (s.flags.up x (sym (t.other x out) ∙ u)) out);
    down = λ x d. elim (Contains-decided xs x) [
      | inl w ↦ Contains-append_right h.freed xs x w
      | inr w ↦ Contains-append_left h.freed xs x (s.flags.down x (sym (t.other x w) ∙ d))
    ];
    count = omega (arith, s.flags.count, t.count, length-append h.freed xs);
  };
  room = s.room;
}

-- the same in the form that `free` leaves: k are the tables, and h is what they are seen as
pub IsSound-gone : (k h : Heap) (ups downs : List Bool) (room space : ℕ) (xs gone : List ℕ) → k ≡ h → IsSound k ups room
    → TakesDown xs ups downs → CanFree h xs → gone ≡ k.freed ++ xs → space ≡ room → IsSound (record k { freed = gone }) downs space
IsSound-gone k h ups downs room space xs gone same s t f e r =
    subst (λ (l : List ℕ). IsSound (record k { freed = l }) downs space) (sym e)
    (subst (λ (m : ℕ). IsSound (with_freed k xs) downs m) (sym r)
    (IsSound-freed k ups downs room xs s t (subst (λ (m : Heap). CanFree m xs) (sym same) f)))

-- and in the form that `add_object` leaves
pub IsSound-roomy : (h : Heap) (ups : List Bool) (room space : ℕ) → IsSound h ups room → length h.fields ≤ space → IsSound h ups space
IsSound-roomy h ups room space s l = record { tidy = s.tidy; flags = s.flags; room = l }

pub IsSound-added : (h : Heap) (ups ups' : List Bool) (room space n : ℕ) (rows : List (List (Option ℕ))) (gone : List ℕ) → IsSound h ups room → length h.fields < MOST → length h.fields + 1 ≤ space
    → rows ≡ h.fields ++ replicate n None ∷ [] → gone ≡ h.freed → ups' ≡ ups ++ true ∷ [] → IsSound (record { fields = rows; freed = gone; vars = h.vars; statics = h.statics }) ups' space
IsSound-added h ups ups' room space n rows gone s few l e f u =
    let whole : IsSound (with_object h n) (ups ++ true ∷ []) space = IsSound-object h ups space n (IsSound-roomy h ups room space s (omega (arith, l))) few l in
    subst (λ (z : List (List (Option ℕ))). IsSound (record { fields = z; freed = gone; vars = h.vars; statics = h.statics }) ups' space) (sym e)
    (subst (λ (z : List ℕ). IsSound (record { fields = h.fields ++ replicate n None ∷ []; freed = z; vars = h.vars; statics = h.statics }) ups' space) (sym f)
    (subst (λ (z : List Bool). IsSound (with_object h n) z space) (sym u) whole))

-- the object that was made last is live: k are the tables after h
pub IsLive-last : (h k : Heap) (x : ℕ) → IsTidy h → x ≡ length h.fields + 1 → length k.fields ≡ length h.fields + 1 → k.freed ≡ h.freed → IsLive k x
IsLive-last h k x t e len freed = record {
  made = (omega (arith, e), omega (arith, e, len));
  kept = λ c. absurd (omega (arith, (t.freed x (subst (λ f. Contains f x) freed c)).1, e));
}
