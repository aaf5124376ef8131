-- A row that gives its handle up leaves its pair: the registry forgets the pair by its peer, which is the pair by its
-- row, and beside the row stands no peer any more. A row without a pair leaves none.
use Rattle.std.proofs.Common.{◌≡◌, ◌≢◌, ℕ, zero, suc, ◌-◌, ◌≤◌, inl, inr, Bool, true, false, not, ◌||◌, cond, List, [], ◌∷◌, map, set, Option, Some, None, refl, sym, ap, subst, ◌∙◌, nat_eq}
use Rattle.std.specs.Prelude.{Contains}
use Rattle.std.specs.List.{list_any}
use Rattle.std.proofs.lemmas.Bool.{cases_eq, eqb-true, eq-eqb}
use Rattle.std.proofs.lemmas.Option.{same_Some}
use Rattle.joint_machine.specs.declared.names.MNum.{MNum}
use Rattle.joint_machine.specs.declared.names.PNum.{PNum}
use Rattle.joint_machine.specs.Heaps.{Heap, numbered_at, numbered_set}
use Rattle.joint_machine.specs.Managed.{OpenCycle}
use Rattle.joint_machine.specs.ManagedReplay.{registered, without_twins}
use Rattle.joint_machine.proofs.Deciding.{none_some, some-same, true-false}
use Rattle.joint_machine.proofs.Members.{Contains-nil, Contains-here, Contains-there, Contains-cons_cases}
use Rattle.joint_machine.proofs.Numbered.{numbered_set-same, numbered_set-other}
use Rattle.heap_rules.proofs.Numbered.{map-set_number}
use Rattle.joint_laws.proofs.Registered.{registered-none, without_twins-parts, without_twins-keeps}
use Rattle.instance_registry.specs.Pairs.{twin_in, without, PeersDistinct}
use Rattle.managed_heap.specs.declared.rows.Header.{Header}
use Rattle.finaliser_queue.specs.Queue.{Queue}
use Rattle.managed_heap.specs.Rows.{pairs_of, number_or_none, rows_of, ArePeers}
use Rattle.managed_heap.specs.TwinEvents.{give_row, left_by}
use Rattle.managed_heap.proofs.Kept.{registered-is}
use Rattle.managed_heap.proofs.Peers.{peers_of}

-- a peer that the registry doesn't answer for has no twin
pub alone-twin : (ps : List (PNum × MNum)) (p : PNum) → registered (pairs_of ps) p.0 ≡ None → twin_in ps p ≡ None
alone-twin ps p e = by (twin_in ps p) (sym (registered-is ps p) ∙ e)
  where
    by : (o : Option MNum) → number_or_none o ≡ None → o ≡ None
    by None f = refl
    by (Some m) f = (let g : ⊥ = cc in absurd g)

-- whether a row stays in the registry where one row's pairs are left out
abbrev stays : ℕ → ℕ → Bool
stays x n = not (list_any (nat_eq n) (x ∷ []))

stays-other : (x n : ℕ) → n ≢ x → stays x n ≡ true
stays-other x n ne = by (nat_eq n x) refl
  where
    by : (b : Bool) → nat_eq n x ≡ b → not (b || false) ≡ true
    by true e = absurd (ne (eqb-true n x e))
    by false e = refl

stays-same : (x n : ℕ) → n ≡ x → stays x n ≡ false
stays-same x n e = ap (λ b. not (b || false)) (eq-eqb n x e)

-- no pair has the row, so none is left out
pub none-left : (pairs : List (ℕ × ℕ)) (x : ℕ) → ((q : ℕ) → Contains pairs (q, x) → ⊥) → without_twins pairs (x ∷ []) ≡ pairs
none-left [] x none = refl
none-left (e ∷ es) x none =
    ap (λ b. cond b (e ∷ without_twins es (x ∷ [])) (without_twins es (x ∷ []))) (stays-other x e.1 (λ s. none e.0 (subst (λ z. Contains (e ∷ es) (e.0, z)) s (Contains-here e es))))
    ∙ ap (λ z. e ∷ z) (none-left es x (λ q c. none q (Contains-there (q, x) e es c)))

-- the pair of a peer is the pair of a row
pub without-is : (ps : List (PNum × MNum)) (p : PNum) (x : ℕ) → PeersDistinct ps
    → ((q n : ℕ) → Contains (pairs_of ps) (q, n) → (n ≡ x → q ≡ p.0) × (q ≡ p.0 → n ≡ x)) → pairs_of (without ps p) ≡ without_twins (pairs_of ps) (x ∷ [])
without-is [] p x d alike = refl
without-is (e ∷ es) p x d alike = by (nat_eq p.0 e.0.0) refl (without-is es p x d.1 rest)
  where
    rest : (q n : ℕ) → Contains (pairs_of es) (q, n) → (n ≡ x → q ≡ p.0) × (q ≡ p.0 → n ≡ x)
    rest q n c = alike q n (Contains-there (q, n) (e.0.0, e.1.0) (pairs_of es) c)

    first : (e.1.0 ≡ x → e.0.0 ≡ p.0) × (e.0.0 ≡ p.0 → e.1.0 ≡ x)
    first = alike e.0.0 e.1.0 (Contains-here (e.0.0, e.1.0) (pairs_of es))

    others : p.0 ≡ e.0.0 → (q : ℕ) → Contains (pairs_of es) (q, x) → ⊥
    others same q c = registered-none (pairs_of es) e.0.0 x (registered-is es e.0 ∙ ap number_or_none d.0) (subst (λ z. Contains (pairs_of es) (z, x)) ((rest q x c).0 refl ∙ same) c)

    by : (b : Bool) → nat_eq p.0 e.0.0 ≡ b → pairs_of (without es p) ≡ without_twins (pairs_of es) (x ∷ []) → pairs_of (cond b es (e ∷ without es p)) ≡ without_twins (pairs_of (e ∷ es)) (x ∷ [])
    by true t w =
        let same = eqb-true p.0 e.0.0 t in
        sym (ap (λ b. cond b ((e.0.0, e.1.0) ∷ without_twins (pairs_of es) (x ∷ [])) (without_twins (pairs_of es) (x ∷ []))) (stays-same x e.1.0 (first.1 (sym same)))
        ∙ none-left (pairs_of es) x (others same))
    by false t w =
        ap (λ z. (e.0.0, e.1.0) ∷ z) w
        ∙ sym (ap (λ b. cond b ((e.0.0, e.1.0) ∷ without_twins (pairs_of es) (x ∷ [])) (without_twins (pairs_of es) (x ∷ [])))
        (stays-other x e.1.0 (λ s. true-false (nat_eq p.0 e.0.0) (eq-eqb p.0 e.0.0 (sym (first.0 s))) t)))

-- beside the row stands no peer any more, where the registry's pairs are those of the other rows
pub ArePeers-given : (pairs pairs' : List (PNum × MNum)) (headers : List Header) (x : ℕ) (i : Header) → 1 ≤ x → i.peer ≡ None
    → pairs_of pairs' ≡ without_twins (pairs_of pairs) (x ∷ []) → ArePeers pairs headers → ArePeers pairs' (set headers (x - 1) i)
ArePeers-given pairs pairs' headers x i low none left a = λ q n. (forward q n, back q n)
  where
    peers : peers_of (set headers (x - 1) i) ≡ numbered_set (peers_of headers) x i.peer
    peers = map-set_number (λ (j : Header). j.peer) headers x i low

    only : (n : ℕ) → Contains (x ∷ []) n → n ≡ x
    only n c = elim (Contains-cons_cases x [] n c) [ inl e ↦ sym e | inr d ↦ absurd (Contains-nil n d) ]

    forward : (q n : ℕ) → Contains (pairs_of pairs') (q, n) → numbered_at (peers_of (set headers (x - 1) i)) n ≡ Some (Some q)
    forward q n c =
        let r = without_twins-parts (pairs_of pairs) (x ∷ []) q n (subst (λ z. Contains z (q, n)) left c) in
        let ne : n ≢ x = λ e. r.1 (subst (λ z. Contains (x ∷ []) z) (sym e) (Contains-here x [])) in
        ap (λ z. numbered_at z n) peers ∙ (numbered_set-other (peers_of headers) x n i.peer ne ∙ (a q n).0 r.0)

    back : (q n : ℕ) → numbered_at (peers_of (set headers (x - 1) i)) n ≡ Some (Some q) → Contains (pairs_of pairs') (q, n)
    back q n e =
        let at : numbered_at (numbered_set (peers_of headers) x i.peer) n ≡ Some (Some q) = subst (λ z. numbered_at z n ≡ Some (Some q)) peers e in
        elim (cases_eq n x) [
          | inl same ↦ absurd (none_some q (sym none ∙ numbered_set-same (peers_of headers) x i.peer (Some q)
              (subst (λ z. numbered_at (numbered_set (peers_of headers) x i.peer) z ≡ Some (Some q)) same at)))
          | inr ne ↦ subst (λ z. Contains z (q, n)) (sym left) (without_twins-keeps (pairs_of pairs) (x ∷ []) q n
              ((a q n).1 (sym (numbered_set-other (peers_of headers) x n i.peer ne) ∙ at)) (λ c. ne (only n c)))
        ]

-- the registry after the row left it
pub left-is : (pairs : List (PNum × MNum)) (headers : List Header) (x : ℕ) (i : Header) → numbered_at (peers_of headers) x ≡ Some i.peer → ((p : ℕ) → i.peer ≡ Some p → PeersDistinct pairs)
    → ((p m n : ℕ) → Contains (pairs_of pairs) (p, m) → Contains (pairs_of pairs) (p, n) → m ≡ n) → ArePeers pairs headers → pairs_of (left_by pairs i.peer) ≡ without_twins (pairs_of pairs) (x ∷ [])
left-is pairs headers x i at distinct one_row a = by i.peer refl
  where
    beside : (q n : ℕ) → Contains (pairs_of pairs) (q, n) → n ≡ x → i.peer ≡ Some q
    beside q n c s = some-same i.peer (Some q) (sym at ∙ subst (λ z. numbered_at (peers_of headers) z ≡ Some (Some q)) s ((a q n).0 c))

    by : (o : Option ℕ) → i.peer ≡ o → pairs_of (left_by pairs o) ≡ without_twins (pairs_of pairs) (x ∷ [])
    by None e = sym (none-left (pairs_of pairs) x (λ q c. none_some q (sym e ∙ beside q x c refl)))
    by (Some p) e =
        let here = (a p x).1 (at ∙ ap Some e) in
        without-is pairs record { 0 = p } x (distinct p e) (λ q n c. (
          (λ s. same_Some q p (sym (beside q n c s) ∙ e)),
          (λ s. one_row p n x (subst (λ z. Contains (pairs_of pairs) (z, n)) s c) here),
        ))

-- an element that stands in its place already
set-same : {X : Type 0} (xs : List X) (n : ℕ) (y : X) → numbered_at xs n ≡ Some y → numbered_set xs n y ≡ xs
set-same xs zero y e = refl
set-same [] (suc k) y e = refl
set-same (x ∷ xs) (suc zero) y e = ap (λ z. z ∷ xs) (sym (some-same x y e))
set-same (x ∷ xs) (suc (suc k)) y e = ap (λ z. x ∷ z) (set-same xs (suc k) y e)

-- the rows after the row gave its handle up
pub given-state : (heap : Heap) (headers : List Header) (pairs pairs' : List (PNum × MNum)) (cells pins : List (Option ℕ))
    (queue : Queue) (cycle : Option OpenCycle) (cycles : ℕ) (contracted : Bool) (x : ℕ) (i : Header)
    → 1 ≤ x → numbered_at (map (λ (j : Header). j.kind) headers) x ≡ Some i.kind → i.handle ≡ None → pairs_of pairs' ≡ without_twins (pairs_of pairs) (x ∷ [])
    → (give_row (rows_of heap headers pairs cells pins queue cycle cycles contracted) x).state ≡ rows_of heap (set headers (x - 1) i) pairs' cells pins queue cycle cycles contracted
given-state heap headers pairs pairs' cells pins queue cycle cycles contracted x i low kind none left =
    let kinds : map (λ (j : Header). j.kind) (set headers (x - 1) i) ≡ map (λ (j : Header). j.kind) headers = map-set_number (λ (j : Header). j.kind) headers x i low
    ∙ set-same (map (λ (j : Header). j.kind) headers) x i.kind kind in
    let held : map (λ (j : Header). j.handle) (set headers (x - 1) i) ≡ numbered_set (map (λ (j : Header). j.handle) headers) x None = map-set_number (λ (j : Header). j.handle) headers x i low
    ∙ ap (λ z. numbered_set (map (λ (j : Header). j.handle) headers) x z) none in
    rw (kinds, held, left) refl
