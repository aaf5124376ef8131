-- The entries of the table stand in the order of the nodes, whose numbers rise; so each number is found at its node,
-- and keeps its place.
use Rattle.std.proofs.Common.{◌≡◌, ℕ, zero, suc, ◌<◌, Bool, eqb, List, [], ◌∷◌, ◌++◌, Some, map, get_or, set, slice_get, refl, sym, ◌∙◌, ap, subst, arith, eq-eqb, Result, Ok, Err, OnOk, OnErr}
use Rattle.std.specs.Prelude.{All}
use Rattle.std.specs.Map.{lookup}
use Rattle.std.proofs.lemmas.List.Elements.{All-head, All-tail, All-contains}
use Rattle.std.proofs.lemmas.Option.{same_Some}
use Rattle.indexmap.specs.IndexMap.{insert_entry}
use Rattle.joint_machine.specs.declared.names.MNum.{MNum}
use Rattle.joint_machine.specs.Components.{Rises}
use Rattle.joint_machine.proofs.Deciding.{neq-eqb, none_some}
use Rattle.joint_machine.proofs.Members.{Contains-at}
use Rattle.bridge_graph.specs.declared.graph.Node.{Node}
use Rattle.bridge_graph.specs.Parts.{HasNode, numbers_of}

-- the test of numbers
abbrev pub same : MNum → MNum → Bool
same p q = eqb p.0 q.0

abbrev pub number_of : MNum × ℕ → ℕ
number_of e = e.0.0

abbrev pub label_in : MNum × ℕ → ℕ
label_in e = e.1

-- a greater number goes last
pub insert-last : (es : List (MNum × ℕ)) (m : MNum) (v : ℕ) → All (λ n. n < m.0) (map number_of es) → insert_entry same es m v ≡ es ++ (m, v) ∷ []
insert-last [] m v a = refl
insert-last (e ∷ es) m v a =
    let l : e.0.0 < m.0 = All-head (λ n. n < m.0) e.0.0 (map number_of es) a in
    rw (neq-eqb m.0 e.0.0 (λ h. omega (arith, h, l))) (ap (λ z. e ∷ z) (insert-last es m v (All-tail (λ n. n < m.0) e.0.0 (map number_of es) a)))

-- a number that is there keeps its place and gets the label
pub insert-labels : (es : List (MNum × ℕ)) (m : MNum) (v i : ℕ) → Rises (map number_of es)
    → slice_get (map number_of es) i ≡ Some m.0 → map label_in (insert_entry same es m v) ≡ set (map label_in es) i v
insert-labels [] m v i r e = absurd (none_some m.0 e)
insert-labels (x ∷ es) m v zero r e = rw (eq-eqb m.0 x.0.0 (sym (same_Some x.0.0 m.0 e))) refl
insert-labels (x ∷ es) m v (suc i) r e =
    let l : x.0.0 < m.0 = All-contains (λ n. x.0.0 < n) (map number_of es) m.0 r.0 (Contains-at (map number_of es) i m.0 e) in
    rw (neq-eqb m.0 x.0.0 (λ h. omega (arith, h, l))) (ap (λ z. x.1 ∷ z) (insert-labels es m v i r.1 e))

pub insert-numbers : (es : List (MNum × ℕ)) (m : MNum) (v i : ℕ) → Rises (map number_of es) → slice_get (map number_of es) i ≡ Some m.0 → map number_of (insert_entry same es m v) ≡ map number_of es
insert-numbers [] m v i r e = absurd (none_some m.0 e)
insert-numbers (x ∷ es) m v zero r e = rw (eq-eqb m.0 x.0.0 (sym (same_Some x.0.0 m.0 e))) refl
insert-numbers (x ∷ es) m v (suc i) r e =
    let l : x.0.0 < m.0 = All-contains (λ n. x.0.0 < n) (map number_of es) m.0 r.0 (Contains-at (map number_of es) i m.0 e) in
    rw (neq-eqb m.0 x.0.0 (λ h. omega (arith, h, l))) (ap (λ z. x.0.0 ∷ z) (insert-numbers es m v i r.1 e))

-- and is found
pub found-label : (es : List (MNum × ℕ)) (m : MNum) (i : ℕ) → Rises (map number_of es) → slice_get (map number_of es) i ≡ Some m.0 → lookup (λ q. same m q) es ≡ Some (get_or (map label_in es) i 0)
found-label [] m i r e = absurd (none_some m.0 e)
found-label (x ∷ es) m zero r e = rw (eq-eqb m.0 x.0.0 (sym (same_Some x.0.0 m.0 e))) refl
found-label (x ∷ es) m (suc i) r e =
    let l : x.0.0 < m.0 = All-contains (λ n. x.0.0 < n) (map number_of es) m.0 r.0 (Contains-at (map number_of es) i m.0 e) in
    rw (neq-eqb m.0 x.0.0 (λ h. omega (arith, h, l))) (found-label es m i r.1 e)

-- the number of a node stands at its place
pub number-at : (nodes : List Node) (x : ℕ) (m : MNum) → HasNode nodes x (λ n. n.number ≡ m) → slice_get (numbers_of nodes) x ≡ Some m.0
number-at [] x m h = absurd (none_some h.0 h.1)
number-at (n ∷ nodes) zero m h = ap (λ (k : Node). Some k.number.0) (same_Some n h.0 h.1) ∙ ap (λ (k : MNum). Some k.0) h.2
number-at (n ∷ nodes) (suc x) m h = number-at nodes x m h

-- so the numbers rise as before, whatever came of it
pub rises-on : {T X : Type 0} (es after : List (MNum × ℕ)) (m : MNum) (v i : ℕ) (r : Result T X) → Rises (map number_of es) → slice_get (map number_of es) i ≡ Some m.0
    → OnOk r (after ≡ insert_entry same es m v) → OnErr r (after ≡ es) → Rises (map number_of after)
rises-on es after m v i (Ok x) r e k u = subst (λ ns. Rises ns) (sym (ap (λ zs. map number_of zs) k ∙ insert-numbers es m v i r e)) r
rises-on es after m v i (Err x) r e k u = subst (λ ns. Rises ns) (sym (ap (λ zs. map number_of zs) u)) r
