-- Candidates are brought back one after another: what is marked then is what was marked before, and what those so far
-- reach.
use Rattle.std.proofs.Common.{◌≡◌, ℕ, ◌+◌, ◌≤◌, ◌↔◌, ◌⊎◌, inl, inr, Bool, true, List, length, Option, Some, None, option_map, refl, sym, ap, subst, ◌∙◌, arith}
use Rattle.std.specs.Prelude.{is_some, slice_get}
use Rattle.std.proofs.lemmas.Option.{slice_get-map, slice_get_within}
use Rattle.joint_machine.specs.declared.names.HNum.{HNum}
use Rattle.joint_machine.specs.Cycles.{IsAnsweredAlive}
use Rattle.joint_model.specs.Listed.{answer_of, answers_of}
use Rattle.joint_machine.specs.Told.{IsKeptAt, said_alive}
use Rattle.joint_machine.specs.Walks.{Reached}
use Rattle.joint_machine.proofs.Deciding.{some-same}
use Rattle.joint_machine.proofs.Members.{last-or}
use Rattle.reachability.specs.Marks.{HasMark}
use Rattle.row_heap.specs.Marks.{EdgeOf}
use Rattle.row_heap.specs.Rows.{HeapRows}
use Rattle.managed_heap.specs.Resolving.{IsAliveAt, IsAliveBelow}

-- what either start reaches
pub Reached-either : (P Q R : ℕ → Type 0) (edge : ℕ → ℕ → Type 0) → ((z : ℕ) → R z ↔ (P z ⊎ Q z)) → (k : ℕ) → Reached R edge k ↔ (Reached P edge k ⊎ Reached Q edge k)
Reached-either P Q R edge h k = (
  λ r. elim ((h r.root).0 r.starts) [
    | inl p ↦ inl (record { root = r.root; starts = p; reaches = r.reaches })
    | inr q ↦ inr (record { root = r.root; starts = q; reaches = r.reaches })
  ],
  elim [
    | inl r ↦ record { root = r.root; starts = (h r.root).1 (inl r.starts); reaches = r.reaches }
    | inr r ↦ record { root = r.root; starts = (h r.root).1 (inr r.starts); reaches = r.reaches }
  ],
)

-- marks before, then what P reaches, then what Q reaches
pub marks-either : (old mid new : List Bool) (P Q R : ℕ → Type 0) (edge : ℕ → ℕ → Type 0) → ((z : ℕ) → R z ↔ (P z ⊎ Q z))
    → ((k : ℕ) → HasMark mid k ↔ (HasMark old k ⊎ Reached P edge k)) → ((k : ℕ) → HasMark new k ↔ (HasMark mid k ⊎ Reached Q edge k))
    → (k : ℕ) → HasMark new k ↔ (HasMark old k ⊎ Reached R edge k)
marks-either old mid new P Q R edge h f g k = (
  λ m. elim ((g k).0 m) [
    | inl n ↦ elim ((f k).0 n) [ inl o ↦ inl o | inr r ↦ inr ((Reached-either P Q R edge h k).1 (inl r)) ]
    | inr r ↦ inr ((Reached-either P Q R edge h k).1 (inr r))
  ],
  elim [
    | inl o ↦ (g k).1 (inl ((f k).1 (inl o)))
    | inr r ↦ elim ((Reached-either P Q R edge h k).0 r) [ inl p ↦ (g k).1 (inl ((f k).1 (inr p))) | inr q ↦ (g k).1 (inr q) ]
  ],
)

-- a value shows a handle where the test says so
handle-shown : (b : Option HNum) → is_some b ≡ true → (h : HNum) × (b ≡ Some h)
handle-shown None e = (let f : ⊥ = cc in absurd f)
handle-shown (Some h) e = (h, refl)

-- one answer more
alive-next : (cs : List ℕ) (alive : List (Option HNum)) (i c : ℕ) (b : Option HNum) → slice_get cs i ≡ Some c
    → slice_get alive i ≡ Some b → (z : ℕ) → IsAliveBelow (i + 1) cs alive z ↔ (IsAliveBelow i cs alive z ⊎ ((is_some b ≡ true) × (c ≡ z)))
alive-next cs alive i c b at said z = (
  λ a. elim (last-or a.0 i a.1) [
    | inl l ↦ inl (a.0, l, a.2, a.3)
    | inr e ↦ inr (ap is_some (some-same b (Some a.3.0) (sym said ∙ subst (λ j. slice_get alive j ≡ Some (Some a.3.0)) e a.3.1)), some-same c z (sym at ∙ subst (λ j. slice_get cs j ≡ Some z) e a.2))
  ],
  elim [
    | inl a ↦ (a.0, omega (arith, a.1), a.2, a.3)
    | inr e ↦ (i, omega arith, at ∙ ap Some e.1, (let w = handle-shown b e.0 in (w.0, said ∙ ap Some w.1)))
  ],
)

-- the edges of a heap that was only marked
pub edges-kept : (v w : HeapRows) (x y : ℕ) → w ≡ record v { marks = w.marks; links = w.links } → EdgeOf w x y → EdgeOf v x y
edges-kept v w x y e h = subst (λ (u : HeapRows). EdgeOf u x y) e h

pub edges-same : (v w : HeapRows) (x y : ℕ) → w ≡ record v { marks = w.marks; links = w.links } → EdgeOf v x y → EdgeOf w x y
edges-same v w x y e h = subst (λ (u : HeapRows). EdgeOf u x y) (sym e) h

pub bring-none : (v : HeapRows) (cs : List ℕ) (alive : List (Option HNum)) (k : ℕ) → HasMark v.marks k ↔ (HasMark v.marks k ⊎ Reached (IsAliveBelow 0 cs alive) (EdgeOf v) k)
bring-none v cs alive k = (λ m. inl m, elim [ inl m ↦ m | inr r ↦ absurd (omega (arith, r.starts.1)) ])

pub bring-next : (v w u : HeapRows) (cs : List ℕ) (alive : List (Option HNum)) (i c : ℕ) (b : Option HNum)
    → w ≡ record v { marks = w.marks; links = w.links } → slice_get cs i ≡ Some c → slice_get alive i ≡ Some b
    → ((k : ℕ) → HasMark w.marks k ↔ (HasMark v.marks k ⊎ Reached (IsAliveBelow i cs alive) (EdgeOf v) k))
    → ((k : ℕ) → HasMark u.marks k ↔ (HasMark w.marks k ⊎ Reached (λ z. (is_some b ≡ true) × (c ≡ z)) (EdgeOf w) k))
    → (k : ℕ) → HasMark u.marks k ↔ (HasMark v.marks k ⊎ Reached (IsAliveBelow (i + 1) cs alive) (EdgeOf v) k)
bring-next v w u cs alive i c b e at said f g =
    marks-either v.marks w.marks u.marks (IsAliveBelow i cs alive) (λ z. (is_some b ≡ true) × (c ≡ z)) (IsAliveBelow (i + 1) cs alive) (EdgeOf v) (alive-next cs alive i c b at said) f
    (subst (λ (t : HeapRows). (k : ℕ) → HasMark u.marks k ↔ (HasMark w.marks k ⊎ Reached (λ z. (is_some b ≡ true) × (c ≡ z)) (EdgeOf t) k)) e g)

-- an answer keeps its candidate exactly where its value has a handle
alive-kept : (alive : List (Option HNum)) (i : ℕ) → IsAliveAt alive i → IsKeptAt (answers_of alive) i
alive-kept alive i a = (a.0.0, slice_get-map answer_of alive i ∙ ap (option_map answer_of) a.1)

kept-alive : (alive : List (Option HNum)) (i : ℕ) → IsKeptAt (answers_of alive) i → IsAliveAt alive i
kept-alive alive i k = by (slice_get alive i) refl (sym (slice_get-map answer_of alive i) ∙ k.1)
  where
    by : (o : Option (Option HNum)) → slice_get alive i ≡ o → option_map answer_of o ≡ Some (said_alive k.0) → IsAliveAt alive i
    by None e f = (let g : ⊥ = cc in absurd g)
    by (Some None) e f = (let g : ⊥ = cc in absurd g)
    by (Some (Some h)) e f = (h, e)

alive-all : (cs : List ℕ) (alive : List (Option HNum)) (i : ℕ) → length alive ≤ i → (z : ℕ) → IsAliveBelow i cs alive z ↔ IsAnsweredAlive cs (answers_of alive) z
alive-all cs alive i l z = (
  λ a. (a.0, a.2, alive-kept alive a.0 a.3),
  λ a. (
      let said = kept-alive alive a.0 a.2 in
      (a.0, omega (arith, slice_get_within alive a.0 (Some said.0) said.1), a.1, said)
      ),
)

pub bring-all : (v w : HeapRows) (cs : List ℕ) (alive : List (Option HNum)) (i : ℕ) → length alive ≤ i
    → ((k : ℕ) → HasMark w.marks k ↔ (HasMark v.marks k ⊎ Reached (IsAliveBelow i cs alive) (EdgeOf v) k))
    → (k : ℕ) → HasMark w.marks k ↔ (HasMark v.marks k ⊎ Reached (IsAnsweredAlive cs (answers_of alive)) (EdgeOf v) k)
bring-all v w cs alive i l f k = (
  λ m. elim ((f k).0 m) [ inl o ↦ inl o | inr r ↦ inr (record { root = r.root; starts = (alive-all cs alive i l r.root).0 r.starts; reaches = r.reaches }) ],
  λ m. (f k).1 (elim m [ inl o ↦ inl o | inr r ↦ inr (record { root = r.root; starts = (alive-all cs alive i l r.root).1 r.starts; reaches = r.reaches }) ]),
)
