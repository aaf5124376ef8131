-- What a mirrored cycle owes: an entry of another kind leaves the handles that it weakened and restored, a weaken adds
-- one that is to be restored, and a restore takes one away.
use Rattle.std.proofs.Common.{◌≡◌, ◌≢◌, ℕ, ◌+◌, ◌-◌, ◌≤◌, inl, inr, List, [], ◌∷◌, ◌++◌, length, drop, refl, sym, ap, subst, ◌∙◌, arith}
use Rattle.std.specs.Prelude.{flat_map, Contains}
use Rattle.std.proofs.lemmas.List.{append-nil, drop-append-le, length_push}
use Rattle.std.proofs.lemmas.List.Concat.{flat_map-append}
use Rattle.std.proofs.lemmas.List.Elements.{Contains-append_left, Contains-push, Contains-push_cases}
use Rattle.joint_machine.specs.declared.events.Entry.{Entry}
use Rattle.joint_machine.specs.declared.events.Op.{Op}
use Rattle.joint_machine.specs.PeerReplay.{Mirror}
use Rattle.joint_machine.proofs.Members.{Contains-cons_cases, Contains-here, Contains-nil, Contains-there}
use Rattle.peer_heap.specs.declared.mirroring.OpenMirror.{OpenMirror}
use Rattle.peer_heap.specs.Mirrors.{IsDue, given_at, given_since, told_since, mirror_as, weakened_at, restored_at}

-- what an entry tells comes last
pub told-push : (at : Op → List ℕ) (n : ℕ) (es : List Entry) (e : Entry) → n ≤ length es → told_since at n (es ++ e ∷ []) ≡ told_since at n es ++ at e.made.op
told-push at n es e le =
    let f : Entry → List ℕ = λ z. at z.made.op in
    ap (flat_map f) (drop-append-le n es (e ∷ []) le) ∙ (flat_map-append f (drop n es) (e ∷ []) ∙ ap (λ l. told_since at n es ++ l) (append-nil (f e)))

pub given-push : (n : ℕ) (es : List Entry) (e : Entry) → n ≤ length es → given_since n (es ++ e ∷ []) ≡ given_since n es ++ given_at e.made.op e.made.reply
given-push n es e le =
    let f : Entry → List ℕ = λ z. given_at z.made.op z.made.reply in
    ap (flat_map f) (drop-append-le n es (e ∷ []) le) ∙ (flat_map-append f (drop n es) (e ∷ []) ∙ ap (λ l. given_since n es ++ l) (append-nil (f e)))

-- an entry that tells nothing leaves all as it was
pub told-still : (at : Op → List ℕ) (n : ℕ) (es : List Entry) (e : Entry) → n ≤ length es → at e.made.op ≡ [] → told_since at n (es ++ e ∷ []) ≡ told_since at n es
told-still at n es e le none = told-push at n es e le ∙ (ap (λ l. told_since at n es ++ l) none ∙ append-nil (told_since at n es))

-- the mirrored cycle after an entry
pub mirror-next : (es : List Entry) (e : Entry) (m : OpenMirror) → m.from ≤ length es
    → mirror_as (es ++ e ∷ []) m ≡ record (mirror_as es m) {
      weakened = told_since weakened_at m.from es ++ weakened_at e.made.op;
      restored = told_since restored_at m.from es ++ restored_at e.made.op;
      renewed = given_since m.from es ++ given_at e.made.op e.made.reply;
    }
mirror-next es e m le =
    let all = es ++ e ∷ [] in
    ap (λ (l : List ℕ). (let z : Mirror = record { cycle = m.cycle.0; snap = m.snap; weakened = l; restored = told_since restored_at m.from all; renewed = given_since m.from all } in z))
    (told-push weakened_at m.from es e le)
    ∙ (ap (λ (l : List ℕ). (let z : Mirror = record {
      cycle = m.cycle.0;
      snap = m.snap;
      weakened = told_since weakened_at m.from es ++ weakened_at e.made.op;
      restored = l;
      renewed = given_since m.from all;
    } in z)) (told-push restored_at m.from es e le)
    ∙ ap (λ (l : List ℕ). (let z : Mirror = record {
      cycle = m.cycle.0;
      snap = m.snap;
      weakened = told_since weakened_at m.from es ++ weakened_at e.made.op;
      restored = told_since restored_at m.from es ++ restored_at e.made.op;
      renewed = l;
    } in z)) (given-push m.from es e le))

-- one place fewer, where one number less has to be there
record IsFewer (xs : List ℕ) (h : ℕ) : Type 0 where
  left : List ℕ
  count : length left + 1 ≡ length xs
  there : (x : ℕ) → Contains xs x → x ≢ h → Contains left x

fewer : (xs : List ℕ) (h : ℕ) → Contains xs h → IsFewer xs h
fewer [] h c = absurd (Contains-nil h c)
fewer (x ∷ xs) h c = elim (Contains-cons_cases x xs h c) [
  | inl same ↦ record {
    left = xs;
    count = omega arith;
    there = λ y d other. elim (Contains-cons_cases x xs y d) [ inl e ↦ absurd (other (sym e ∙ same)) | inr r ↦ r ];
  }
  | inr rest ↦ (let w = fewer xs h rest in record {
    left = x ∷ w.left;
    count = omega (arith, w.count);
    there = λ y d other. elim (Contains-cons_cases x xs y d) [ inl e ↦ subst (Contains (x ∷ w.left)) e (Contains-here x w.left) | inr r ↦ Contains-there y x w.left (w.there y r other) ];
  })
]

-- a handle is weakened
pub IsDue-weakened : (m : Mirror) (due h : ℕ) → IsDue m due → IsDue (record m { weakened = m.weakened ++ h ∷ [] }) (due + 1)
IsDue-weakened m due h d = record {
  weak_ones = d.weak_ones ++ h ∷ [];
  count = omega (arith, length_push d.weak_ones h, d.count);
  there = λ x c n. elim (Contains-push_cases m.weakened h x c) [
    | inl old ↦ Contains-append_left d.weak_ones (h ∷ []) x (d.there x old n)
    | inr e ↦ subst (Contains (d.weak_ones ++ h ∷ [])) e (Contains-push d.weak_ones h)
  ];
}

-- a weakened handle that wasn't restored is restored: one was owed
pub due-some : (m : Mirror) (due h : ℕ) → IsDue m due → Contains m.weakened h → (Contains m.restored h → ⊥) → 1 ≤ due
due-some m due h d c n =
    let w = fewer d.weak_ones h (d.there h c n) in
    omega (arith, w.count, d.count)

pub IsDue-restored : (m : Mirror) (due h : ℕ) → IsDue m due → Contains m.weakened h → (Contains m.restored h → ⊥) → IsDue (record m { restored = m.restored ++ h ∷ [] }) (due - 1)
IsDue-restored m due h d c n =
    let w = fewer d.weak_ones h (d.there h c n) in
    record {
      weak_ones = w.left;
      count = omega (arith, w.count, d.count);
      there = λ x there' gone. w.there x (d.there x there' (λ r. gone (Contains-append_left m.restored (h ∷ []) x r)))
          (λ e. gone (subst (Contains (m.restored ++ h ∷ [])) (sym e) (Contains-push m.restored h)));
    }

-- a cycle that comes to be mirrored owes no restore
pub IsDue-none : (k snap : ℕ) → IsDue (record { cycle = k; snap = snap; weakened = []; restored = []; renewed = [] }) 0
IsDue-none k snap = record { weak_ones = []; count = refl; there = λ x c n. absurd (Contains-nil x c) }
