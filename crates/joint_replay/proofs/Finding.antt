-- What a snapshot finds. A marking over the open fields marks what is reached over fields of the heap: the open fields
-- are those between live objects. A root that isn't live leads nowhere, so the live roots reach as much.
use Rattle.std.proofs.Common.{◌≡◌, ℕ, zero, suc, ◌+◌, ◌↔◌, ◌⊎◌, inl, inr, Bool, true, false, List, [], ◌∷◌, ◌++◌, length, map, take, Option, Some, None, refl, sym, ap, subst, ◌∙◌, arith}
use Rattle.std.proofs.Common.{if◌then◌else◌}
use Rattle.std.specs.Prelude.{Contains, slice_get}
use Rattle.std.specs.Option.{option_map}
use Rattle.std.proofs.lemmas.List.{length-map}
use Rattle.std.proofs.lemmas.List.Elements.{Contains-push, Contains-push_cases, Contains-append_left}
use Rattle.std.proofs.lemmas.Option.{slice_get-map}
use Rattle.joint_machine.specs.Heaps.{Heap, IsLive, HasField, InSlot, fields_of}
use Rattle.joint_machine.specs.Walks.{Reached}
use Rattle.joint_machine.proofs.WalkLemmas.{Reached-mono, Reached-keeps, Reached-start, Reached-then}
use Rattle.joint_machine.proofs.Members.{Contains-nil, Contains-map, Contains-map_cases, take-next}
use Rattle.joint_machine.proofs.Deciding.{true-false, false-from}
use Rattle.heap_rules.specs.Tidy.{live_fields}
use Rattle.heap_rules.proofs.Sound.{IsLive-as}
use Rattle.heap_rules.proofs.Targets.{live_fields-live, live_fields-held}
use Rattle.reachability.specs.Marks.{Leads, HasMark, marked}
use Rattle.joint_replay.specs.Found.{IsUnreachedRow, IsCandidateRow, IsRootReached, IsHandleReached}
use Rattle.joint_replay.specs.Plain.{cleaned, kept_target, is_live}
use Rattle.joint_marking.specs.Gathered.{Gains}
use Rattle.joint_replay.specs.Roots.{IsNamedLive, IsNamedOrPinned, ListsExactly}
use Rattle.joint_replay.specs.Finding.{FindsRows}
use Rattle.joint_replay.proofs.Flags.{is_live-exact}
use Rattle.reachability.proofs.Marking.{IsMarked-test, test-IsMarked}

-- the open fields of an object
abbrev row_of : Option (List (Option ℕ)) → List (Option ℕ)
row_of o = elim o [ None ↦ [] | Some fs ↦ fs ]

row-map : (f : Option ℕ → Option ℕ) (o : Option (List (Option ℕ))) → row_of (option_map (map f) o) ≡ map f (row_of o)
row-map f None = refl
row-map f (Some fs) = refl

pub fields-cleaned : (h : Heap) (x : ℕ) → fields_of (cleaned h) x ≡ map (kept_target h) (fields_of h x)
fields-cleaned h zero = refl
fields-cleaned h (suc i) = ap row_of (slice_get-map (map (kept_target h)) h.fields i) ∙ row-map (kept_target h) (slice_get h.fields i)

-- what is kept of a field is live
pub kept-live : (h : Heap) (o : Option ℕ) (y : ℕ) → kept_target h o ≡ Some y → (o ≡ Some y) × IsLive h y
kept-live h None y e = cc
kept-live h (Some x) y e = by (is_live h x) refl e
  where
    by : (b : Bool) → is_live h x ≡ b → (if b then Some x else None) ≡ Some y → (Some x ≡ Some y) × IsLive h y
    by true t e = (e, (let s : x ≡ y = cc in subst (IsLive h) s ((is_live-exact h x).0 t)))
    by false t e = cc

pub live-kept : (h : Heap) (y : ℕ) → IsLive h y → kept_target h (Some y) ≡ Some y
live-kept h y l = ap (λ b. if b then Some y else None) ((is_live-exact h y).1 l)

pub live-cleaned : (h : Heap) (x : ℕ) → IsLive h x → IsLive (cleaned h) x
live-cleaned h x l = IsLive-as h (cleaned h) (length-map h.fields (map (kept_target h))) refl x l

pub cleaned-live : (h : Heap) (x : ℕ) → IsLive (cleaned h) x → IsLive h x
cleaned-live h x l = IsLive-as (cleaned h) h (sym (length-map h.fields (map (kept_target h)))) refl x l

-- the open fields are those between live objects
pub HasField-open : (h : Heap) (x y : ℕ) → HasField h x y ↔ Leads (length h.fields + 1) (live_fields (cleaned h)) x y
HasField-open h x y = (
  λ f. (
    omega (arith, f.live.made.1),
    subst (λ l. Contains l (Some y)) (sym (live_fields-live (cleaned h) x (live-cleaned h x f.live) ∙ fields-cleaned h x))
        (subst (Contains (map (kept_target h) (fields_of h x))) (live-kept h y f.there) (Contains-map (kept_target h) (fields_of h x) (Some y) f.field)),
  ),
  λ l. (
      let w = live_fields-held (cleaned h) x (Some y) l.1 in
      let r = Contains-map_cases (kept_target h) (fields_of h x) (Some y) (subst (λ z. Contains z (Some y)) (fields-cleaned h x) w.1) in
      let k = kept-live h r.0 y r.2 in
      record { live = cleaned-live h x w.0; field = subst (Contains (fields_of h x)) k.0 r.1; there = k.1 }
      ),
)

-- a marking from some roots marks what they reach
pub marks-open : (h : Heap) (P : ℕ → Type 0) (roots : List ℕ) (marks : List Bool) → ((x : ℕ) → Contains roots x ↔ P x)
    → ((k : ℕ) → HasMark marks k ↔ Reached (Contains roots) (Leads (length h.fields + 1) (live_fields (cleaned h))) k) → (k : ℕ) → HasMark marks k ↔ Reached P (HasField h) k
marks-open h P roots marks r m k = (
  λ i. Reached-mono (Contains roots) P (Leads (length h.fields + 1) (live_fields (cleaned h))) (HasField h) (λ x c. (r x).0 c) (λ x y e. (HasField-open h x y).1 e) k ((m k).0 i),
  λ i. (m k).1 (Reached-mono P (Contains roots) (HasField h) (Leads (length h.fields + 1) (live_fields (cleaned h))) (λ x p. (r x).1 p) (λ x y e. (HasField-open h x y).0 e) k i),
)

-- a live object is reached from some roots exactly where it is from the live ones
pub live-reached : (h : Heap) (P : ℕ → Type 0) (k : ℕ) → IsLive h k → Reached (λ x. IsLive h x × P x) (HasField h) k ↔ Reached P (HasField h) k
live-reached h P k l = (
  λ r. Reached-mono (λ x. IsLive h x × P x) P (HasField h) (HasField h) (λ x p. p.1) (λ x y e. e) k r,
  λ r. Reached-keeps P (HasField h) (λ x. IsLive h x → Reached (λ z. IsLive h z × P z) (HasField h) x)
      (λ x p v. Reached-start (λ z. IsLive h z × P z) (HasField h) x (v, p))
      (λ x y e q v. Reached-then (λ z. IsLive h z × P z) (HasField h) x y (q e.live) e) k r l,
)

-- an unmarked row isn't reached, and the other way round
apart : (R : Type 0) (marks : List Bool) (m : ℕ) → HasMark marks m ↔ R → (marked marks m ≡ false) ↔ (R → ⊥)
apart R marks m e = (
  λ f r. true-false (marked marks m) (test-IsMarked marks m (e.1 r)) f,
  λ n. false-from (marked marks m) (λ t. n (e.0 (IsMarked-test marks m t))),
)

decided : (R : Type 0) (marks : List Bool) (m : ℕ) (b : Bool) → marked marks m ≡ b → HasMark marks m ↔ R → R ⊎ (R → ⊥)
decided R marks m true e r = inl (r.0 (IsMarked-test marks m e))
decided R marks m false e r = inr ((apart R marks m r).0 e)

-- the lists by their marks
pub FindsRows-from : (h : Heap) (held pins : List (Option ℕ)) (slots bridges : List Bool) (freed candidates dead : List ℕ)
    → ((k : ℕ) → IsLive h k → HasMark slots k ↔ IsRootReached h pins k) → ((k : ℕ) → HasMark bridges k ↔ IsHandleReached h held k)
    → ListsExactly (IsUnreachedRow h slots bridges false) freed → ListsExactly (IsUnreachedRow h slots bridges true) dead → ListsExactly (IsCandidateRow h held slots) candidates
    → FindsRows h held pins freed candidates dead
FindsRows-from h held pins slots bridges freed candidates dead s b f d c =
    let S : (m : ℕ) → IsLive h m → (marked slots m ≡ false) ↔ (IsRootReached h pins m → ⊥) = λ m l. apart (IsRootReached h pins m) slots m (s m l) in
    let B : (m : ℕ) → (marked bridges m ≡ false) ↔ (IsHandleReached h held m → ⊥) = λ m. apart (IsHandleReached h held m) bridges m (b m) in
    record {
      frees = record {
        rise = f.rise;
        exact = λ m. (
          λ k. (let u = (f.exact m).0 k in (u.0, (S m u.0).0 u.1, (B m).0 u.2)),
          λ k. (f.exact m).1 (k.0, (S m k.0).1 k.1, (B m).1 k.2),
        );
      };
      picks = record {
        rise = c.rise;
        exact = λ m. (
          λ k. (let u = (c.exact m).0 k in ((u.0, u.1), (S m u.0).0 u.2)),
          λ k. (c.exact m).1 (k.0.0, k.0.1, (S m k.0.0).1 k.1),
        );
      };
      leaves = record {
        rise = d.rise;
        exact = λ m. (
          λ k. (let u = (d.exact m).0 k in (u.0, (S m u.0).0 u.1, (b m).0 (IsMarked-test bridges m u.2))),
          λ k. (d.exact m).1 (k.0, (S m k.0).1 k.1, test-IsMarked bridges m ((b m).1 k.2)),
        );
      };
      decides = λ m l. decided (IsHandleReached h held m) bridges m (marked bridges m) refl (b m);
    }

pub named-put : (h : Heap) (slots : List (Option ℕ)) (old now next : List ℕ) (i x : ℕ) → IsLive h x → slice_get slots i ≡ Some (Some x)
    → next ≡ now ++ x ∷ [] → Gains (IsNamedLive h (take i slots)) old now → Gains (IsNamedLive h (take (i + 1) slots)) old next
named-put h slots old now next i x l at n g k =
    let more : take (i + 1) slots ≡ take i slots ++ Some x ∷ [] = take-next slots i (Some x) at in
    rw (n, more) (
      λ c. elim (Contains-push_cases now x k c) [
        | inl w ↦ elim ((g k).0 w) [ inl o ↦ inl o | inr v ↦ inr (v.0, Contains-append_left (take i slots) (Some x ∷ []) (Some k) v.1) ]
        | inr e ↦ inr (subst (IsLive h) e l, subst (λ z. Contains (take i slots ++ Some x ∷ []) (Some z)) e (Contains-push (take i slots) (Some x)))
      ],
      λ w. elim w [
        | inl o ↦ Contains-append_left now (x ∷ []) k ((g k).1 (inl o))
        | inr v ↦ elim (Contains-push_cases (take i slots) (Some x) (Some k) v.1) [
          | inl c ↦ Contains-append_left now (x ∷ []) k ((g k).1 (inr (v.0, c)))
          | inr e ↦ (let s : x ≡ k = cc in subst (Contains (now ++ x ∷ [])) s (Contains-push now x))
        ]
      ],
    )

pub named-skip : (h : Heap) (slots : List (Option ℕ)) (old now : List ℕ) (i : ℕ) (o : Option ℕ) → slice_get slots i ≡ Some o
    → ((k : ℕ) → o ≡ Some k → IsLive h k → ⊥) → Gains (IsNamedLive h (take i slots)) old now → Gains (IsNamedLive h (take (i + 1) slots)) old now
named-skip h slots old now i o at dead g k =
    let more : take (i + 1) slots ≡ take i slots ++ o ∷ [] = take-next slots i o at in
    rw more (
      λ c. elim ((g k).0 c) [ inl w ↦ inl w | inr v ↦ inr (v.0, Contains-append_left (take i slots) (o ∷ []) (Some k) v.1) ],
      λ w. elim w [
        | inl c ↦ (g k).1 (inl c)
        | inr v ↦ elim (Contains-push_cases (take i slots) o (Some k) v.1) [
          | inl c ↦ (g k).1 (inr (v.0, c))
          | inr e ↦ absurd (dead k e v.0)
        ]
      ],
    )

-- both tables of slots were read
pub named-both : (h : Heap) (none first both : List ℕ) → none ≡ [] → Gains (IsNamedLive h h.vars) none first
    → Gains (IsNamedLive h h.statics) first both → (x : ℕ) → Contains both x ↔ (IsLive h x × InSlot h x)
named-both h none first both e v s x = (
  λ c. elim ((s x).0 c) [
    | inl f ↦ elim ((v x).0 f) [ inl n ↦ absurd (Contains-nil x (subst (λ z. Contains z x) e n)) | inr w ↦ (w.0, inl w.1) ]
    | inr w ↦ (w.0, inr w.1)
  ],
  λ w. elim w.1 [ inl a ↦ (s x).1 (inl ((v x).1 (inr (w.0, a)))) | inr a ↦ (s x).1 (inr (w.0, a)) ],
)

-- the slots and the pins were read
pub pinned-both : (h : Heap) (pins : List (Option ℕ)) (named all : List ℕ) → ((x : ℕ) → Contains named x ↔ (IsLive h x × InSlot h x))
    → Gains (IsNamedLive h pins) named all → (x : ℕ) → Contains all x ↔ (IsLive h x × IsNamedOrPinned h pins x)
pinned-both h pins named all n g x = (
  λ c. elim ((g x).0 c) [ inl w ↦ (let u = (n x).0 w in (u.0, inl u.1)) | inr w ↦ (w.0, inr w.1) ],
  λ w. elim w.1 [ inl a ↦ (g x).1 (inl ((n x).1 (w.0, a))) | inr a ↦ (g x).1 (inr (w.0, a)) ],
)
