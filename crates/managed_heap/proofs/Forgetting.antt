-- The registry forgets the pairs of rows. First the peers beside these rows are cleared; then the pairs stay whose row
-- still has its peer beside it, and these are exactly the pairs of the other rows, since beside each row stands the
-- peer of its pair.
use Rattle.std.proofs.Common.{◌≡◌, ◌≢◌, ℕ, ◌+◌, ◌-◌, ◌<◌, ◌≤◌, inl, inr, true, not, nat_eq, List, [], ◌∷◌, ◌++◌, length, take, set, get_or, Option, Some, None, refl, sym, ap, subst, ◌∙◌}
use Rattle.std.specs.Prelude.{Contains, filter, is_some}
use Rattle.std.specs.List.{list_any}
use Rattle.std.proofs.lemmas.Bool.{eqb-true}
use Rattle.std.proofs.lemmas.Cmp.{nat_eq_equiv}
use Rattle.std.proofs.lemmas.List.{take_more, map-append}
use Rattle.std.proofs.lemmas.List.Elements.{Contains-append_cases, Contains-append_left, Contains-append_right}
use Rattle.std.proofs.lemmas.Map.Views.{list_any-from_Contains, Contains-from_any}
use Rattle.joint_machine.specs.declared.names.MNum.{MNum}
use Rattle.joint_machine.specs.declared.names.PNum.{PNum}
use Rattle.joint_machine.specs.Histories.{managed_numbers}
use Rattle.joint_machine.specs.Heaps.{numbered_at, numbered_set}
use Rattle.joint_machine.specs.ManagedReplay.{without_twins}
use Rattle.joint_machine.proofs.Members.{Contains-nil, Contains-here, Contains-cons_cases, Contains-decided}
use Rattle.joint_machine.proofs.Numbered.{numbered_set-same, numbered_set-other}
use Rattle.joint_machine.proofs.Deciding.{none_some, some-same, not-from, false-from}
use Rattle.joint_laws.proofs.Registered.{without_twins-parts, without_twins-keeps}
use Rattle.heap_rules.proofs.Numbered.{map-set_number}
use Rattle.managed_heap.specs.declared.rows.Header.{Header}
use Rattle.managed_heap.specs.Resolving.{AreCleared, has_peer}
use Rattle.managed_heap.specs.Rows.{pairs_of, ArePeers}
use Rattle.managed_heap.proofs.Lists.{filter-agree, filter-whole, map-filter}
use Rattle.managed_heap.proofs.Peers.{peers_of}

only-one : (m k : ℕ) → Contains (m ∷ []) k → m ≡ k
only-one m k c = elim (Contains-cons_cases m [] k c) [ inl e ↦ e | inr d ↦ absurd (Contains-nil k d) ]

-- no row is cleared yet
pub AreCleared-start : (peers : List (Option ℕ)) → AreCleared peers peers []
AreCleared-start peers = λ p k. (λ e. (e, Contains-nil k), λ r. r.0)

-- a row without a peer
pub AreCleared-none : (peers : List (Option ℕ)) (m : ℕ) → numbered_at peers m ≡ Some None → AreCleared peers peers (m ∷ [])
AreCleared-none peers m at = λ p k. (
  λ e. (e, λ c. none_some p (some-same None (Some p) (sym at ∙ subst (λ z. numbered_at peers z ≡ Some (Some p)) (sym (only-one m k c)) e))),
  λ r. r.0,
)

-- a row whose peer is cleared
pub AreCleared-set : (headers : List Header) (m : ℕ) (i : Header) → 1 ≤ m → i.peer ≡ None → AreCleared (peers_of headers) (peers_of (set headers (m - 1) i)) (m ∷ [])
AreCleared-set headers m i one none =
    let peers = peers_of headers in
    let after : peers_of (set headers (m - 1) i) ≡ numbered_set peers m None = map-set_number (λ (j : Header). j.peer) headers m i one ∙ ap (λ z. numbered_set peers m z) none in
    λ p k. (
      (λ e.
          let f : numbered_at (numbered_set peers m None) k ≡ Some (Some p) = subst (λ z. numbered_at z k ≡ Some (Some p)) after e in
          let apart : k ≢ m = λ s. none_some p (numbered_set-same peers m None (Some p) (subst (λ z. numbered_at (numbered_set peers m None) z ≡ Some (Some p)) s f)) in
          (sym (numbered_set-other peers m k None apart) ∙ f, λ c. apart (sym (only-one m k c)))),
      (λ r.
          let apart : k ≢ m = λ s. r.1 (subst (λ z. Contains (m ∷ []) z) (sym s) (Contains-here m [])) in
          subst (λ z. numbered_at z k ≡ Some (Some p)) (sym after) (numbered_set-other peers m k None apart ∙ r.0)),
    )

-- some rows and then others
pub AreCleared-then : (a b c : List (Option ℕ)) (xs ys : List ℕ) → AreCleared a b xs → AreCleared b c ys → AreCleared a c (xs ++ ys)
AreCleared-then a b c xs ys f g = λ p k. (
  (λ e.
      let second = (g p k).0 e in
      let first = (f p k).0 second.0 in
      (first.0, λ w. elim (Contains-append_cases xs ys k w) [ inl u ↦ first.1 u | inr v ↦ second.1 v ])),
  (λ r. (g p k).1 ((f p k).1 (r.0, λ u. r.1 (Contains-append_left xs ys k u)), λ v. r.1 (Contains-append_right xs ys k v))),
)

-- the test of a peer
peer-there : (o : Option (Option ℕ)) → is_some (elim o [ None ↦ None | Some p ↦ p ]) ≡ true → (p : ℕ) × (o ≡ Some (Some p))
peer-there None e = (let f : ⊥ = cc in absurd f)
peer-there (Some None) e = (let f : ⊥ = cc in absurd f)
peer-there (Some (Some p)) e = (p, refl)

-- of the pairs stay those of the rows that aren't cleared
pub pairs-left : (ps : List (PNum × MNum)) (headers others : List Header) (ms : List ℕ) → ArePeers ps headers → AreCleared (peers_of headers) (peers_of others) ms
    → pairs_of (filter (λ (q : PNum × MNum). has_peer (peers_of others) q.1.0) ps) ≡ without_twins (pairs_of ps) ms
pairs-left ps headers others ms a cleared =
    map-filter (λ (q : PNum × MNum). (q.0.0, q.1.0)) (λ (q : ℕ × ℕ). has_peer (peers_of others) q.1) ps
    ∙ filter-agree (λ (q : ℕ × ℕ). has_peer (peers_of others) q.1) (λ (q : ℕ × ℕ). not (list_any (nat_eq q.1) ms)) (pairs_of ps) (λ q c. agree q.0 q.1 c)
  where
    agree : (p m : ℕ) → Contains (pairs_of ps) (p, m) → has_peer (peers_of others) m ≡ not (list_any (nat_eq m) ms)
    agree p m c = elim (Contains-decided ms m) [
      | inl w ↦ false-from (has_peer (peers_of others) m) (λ t. let r = peer-there (numbered_at (peers_of others) m) t in ((cleared r.0 m).0 r.1).1 w)
          ∙ ap not (sym (list_any-from_Contains nat_eq_equiv m ms w))
      | inr n ↦ ap (λ (o : Option (Option ℕ)). is_some (elim o [ None ↦ None | Some x ↦ x ])) ((cleared p m).1 ((a p m).0 c, n))
          ∙ sym (not-from (list_any (nat_eq m) ms) (λ t. n (Contains-from_any eqb-true m ms t)))
    ]

-- where no row had a peer, no pair goes
pub pairs-same : (ps : List (PNum × MNum)) (headers : List Header) (ms : List ℕ) → ArePeers ps headers
    → AreCleared (peers_of headers) (peers_of headers) ms → pairs_of ps ≡ without_twins (pairs_of ps) ms
pairs-same ps headers ms a cleared = sym (filter-whole (λ (q : ℕ × ℕ). not (list_any (nat_eq q.1) ms)) (pairs_of ps) (λ q c.
    not-from (list_any (nat_eq q.1) ms) (λ t. ((cleared q.0 q.1).0 ((a q.0 q.1).0 c)).1 (Contains-from_any eqb-true q.1 ms t))))

-- beside the rows stand the peers of the pairs that are left
pub ArePeers-left : (ps qs : List (PNum × MNum)) (headers others : List Header) (ms : List ℕ) → ArePeers ps headers
    → AreCleared (peers_of headers) (peers_of others) ms → pairs_of qs ≡ without_twins (pairs_of ps) ms → ArePeers qs others
ArePeers-left ps qs headers others ms a cleared is = λ p m. (
  (λ c.
      let r = without_twins-parts (pairs_of ps) ms p m (subst (λ z. Contains z (p, m)) is c) in
      (cleared p m).1 ((a p m).0 r.0, r.1)),
  (λ e.
      let r = (cleared p m).0 e in
      subst (λ z. Contains z (p, m)) (sym is) (without_twins-keeps (pairs_of ps) ms p m ((a p m).1 r.0) r.1)),
)

-- the numbers of one row more
pub numbers-more : (ms : List MNum) (i : ℕ) (d : MNum) → i < length ms → managed_numbers (take (i + 1) ms) ≡ managed_numbers (take i ms) ++ (get_or ms i d).0 ∷ []
numbers-more ms i d l = ap managed_numbers (take_more ms i d l) ∙ map-append (λ (m : MNum). m.0) (take i ms) (get_or ms i d ∷ [])
