-- The tests of what a marking reaches, of a slice's closure and of what a sweep frees tell what the definitions say.
use Rattle.std.proofs.Common.{◌≡◌, ℕ, ◌⊎◌, inl, inr, ⊎_elim, true, not, ◌&&◌, List, [], ◌∷◌, ◌++◌, map, filter, flat_map, nat_eq, refl, ap, subst, sym}
use Rattle.std.specs.List.{Contains}
use Rattle.std.proofs.lemmas.Bool.{false≢true}
use Rattle.joint_machine.proofs.Members.{Contains-nil, Contains-here, Contains-there, Contains-cons_cases, Contains-map, Contains-map_cases, Contains-flat_map, Contains-flat_map_cases}
use Rattle.joint_machine.specs.Components.{End, node, temporary}
use Rattle.joint_machine.specs.Heaps.{Heap, IsLive, HasField, InSlot}
use Rattle.joint_machine.specs.PeerReplay.{PeerReplay, Marking, IsMarkingRoot, HasReference, LeadsOver, Refers, MarkingEdge, IsMarked, IsClosure, IsSweep}
use Rattle.joint_machine.specs.Walks.{Walks, Reaches, Reached}
use Rattle.computed_histories.specs.Lists.{mem, has}
use Rattle.computed_histories.specs.Markings.{end_eq, ends_eq, ends_from, is_temporary, temporaries_from, passed_from, nodes_of, listed_next, marking_roots, reference_next, marking_next}
use Rattle.computed_histories.specs.Markings.{marking_reach, is_closure, is_sweep}
use Rattle.computed_histories.specs.Rows.{is_live, all_rows, heap_next, slot_rows}
use Rattle.computed_histories.proofs.Telling.{Tells, always, never, like, isn't, and2, and3, or2, same, equal}
use Rattle.computed_histories.proofs.Reaching.{member, member_append, member_filter, filtered, where_it_holds, reached, reaches, rising_exactly}
use Rattle.computed_histories.proofs.RowTests.{live, live_row, field, slot_row}

-- ends of references
end_found : (a b : End) → end_eq a b ≡ true → a ≡ b
end_found (node x) (node y) e = ap (λ z. node z) ((same x y).holds e)
end_found (temporary x) (temporary y) e = ap (λ z. temporary z) ((same x y).holds e)
end_found (node x) (temporary y) e = absurd (false≢true e)
end_found (temporary x) (node y) e = absurd (false≢true e)

end_itself : (a : End) → end_eq a a ≡ true
end_itself (node x) = (same x x).passes refl
end_itself (temporary x) = (same x x).passes refl

pub same_end : (a b : End) → Tells (end_eq a b) (a ≡ b)
same_end a b = equal end_eq a b (end_found a b) (end_itself a)

pub both_ends : (p q : End × End) → Tells (ends_eq p q) (p ≡ q)
both_ends p q = like {P = (p.0 ≡ q.0) × (p.1 ≡ q.1)} (λ e. λ i. (e.0 i, e.1 i)) (λ e. (ap (λ (r : End × End). r.0) e, ap (λ (r : End × End). r.1) e))
    (and2 (same_end p.0 q.0) (same_end p.1 q.1))

-- where references lead from an end
end_from : (refs : List (End × End)) (e f : End) → Tells (mem end_eq (ends_from refs e) f) (Contains refs (e, f))
end_from refs e f = like {P = Contains (ends_from refs e) f}
    (λ c. let r = Contains-map_cases (λ (p : End × End). p.1) (filter (λ (p : End × End). end_eq e p.0) refs) f c in from r.0 r.1 r.2)
    (λ c. Contains-map (λ (p : End × End). p.1) (filter (λ (p : End × End). end_eq e p.0) refs) (e, f)
    ((member ends_eq both_ends (filter (λ (p : End × End). end_eq e p.0) refs) (e, f)).holds
    ((member_filter ends_eq both_ends (λ (p : End × End). end_eq e p.0) refs (e, f)).passes ((member ends_eq both_ends refs (e, f)).passes c, (same_end e e).passes refl))))
    (member end_eq same_end (ends_from refs e) f)
  where
    from : (p : End × End) → Contains (filter (λ (p : End × End). end_eq e p.0) refs) p → p.1 ≡ f → Contains refs (e, f)
    from p c i =
        let g = (member_filter ends_eq both_ends (λ (p : End × End). end_eq e p.0) refs p).holds ((member ends_eq both_ends (filter (λ (p : End × End). end_eq e p.0) refs) p).passes c) in
        let q : p ≡ (e, f) = (λ k. (sym ((same_end e p.0).holds g.1) k, i k)) in
        subst (Contains refs) q ((member ends_eq both_ends refs p).holds g.0)

abbrev IsTemporary : End → Type 0
IsTemporary (node x) = ⊥
IsTemporary (temporary t) = Unit {0}

a_temporary : (e : End) → Tells (is_temporary e) (IsTemporary e)
a_temporary (node x) = never (λ z. z)
a_temporary (temporary t) = always tt

-- one step from an end to a temporary
abbrev Passes : List (End × End) → End → End → Type 0
Passes refs e f = Contains refs (e, f) × IsTemporary f

passes_to : (refs : List (End × End)) (e f : End) → Tells (mem end_eq (temporaries_from refs e) f) (Passes refs e f)
passes_to refs e f = filtered end_eq same_end is_temporary (ends_from refs e) f (Contains refs (e, f)) (IsTemporary f) (end_from refs e f) (a_temporary f)

passes_inside : (refs : List (End × End)) (e f : End) → mem end_eq (temporaries_from refs e) f ≡ true → Contains (map (λ (p : End × End). p.1) refs) f
passes_inside refs e f m = Contains-map (λ (p : End × End). p.1) refs (e, f) ((passes_to refs e f).holds m).0

passed : (refs : List (End × End)) (x : ℕ) (e : End) → Tells (mem end_eq (passed_from refs x) e) (Reaches (Passes refs) (node x) e)
passed refs x e = reaches end_eq same_end (temporaries_from refs) (map (λ (p : End × End). p.1) refs) (passes_inside refs) (Passes refs) (node x) (passes_to refs) e

over_temporaries : (refs : List (End × End)) (e f : End) (rows : List End) (q : ℕ) → Walks (Passes refs) e rows f → Contains refs (f, node q) → (ts : List ℕ) × LeadsOver refs e ts q
over_temporaries refs e f [] q w c = ([], subst (λ z. Contains refs (z, node q)) (sym w) c)
over_temporaries refs e f (node x ∷ rows) q w c = absurd w.0.1
over_temporaries refs e f (temporary t ∷ rows) q w c = let r = over_temporaries refs (temporary t) f rows q w.1 c in (t ∷ r.0, (w.0.0, r.1))

last_passed : (refs : List (End × End)) (e : End) (ts : List ℕ) (q : ℕ) → LeadsOver refs e ts q → (f : End) × Reaches (Passes refs) e f × Contains refs (f, node q)
last_passed refs e [] q w = (e, record { rows = []; walk = refl }, w)
last_passed refs e (t ∷ ts) q w = let r = last_passed refs (temporary t) ts q w.1 in (r.0, record { rows = temporary t ∷ r.1.rows; walk = ((w.0, tt), r.1.walk) }, r.2)

-- the numbers among ends
in_nodes : (es : List End) (x : ℕ) → Tells (mem nat_eq (nodes_of es) x) (Contains es (node x))
in_nodes [] x = never (λ c. Contains-nil (node x) c)
in_nodes (temporary t ∷ es) x = like
    (λ c. Contains-there (node x) (temporary t) es c)
    (λ c. ⊎_elim (λ e. absurd (apart e)) (λ d. d) (Contains-cons_cases (temporary t) es (node x) c))
    (in_nodes es x)
  where
    apart : temporary t ≡ node x → ⊥
    apart e = cc
in_nodes (node y ∷ es) x = like {P = (x ≡ y) ⊎ Contains es (node x)}
    (λ s. ⊎_elim (λ e. subst (λ z. Contains (node z ∷ es) (node x)) e (Contains-here (node x) es)) (λ c. Contains-there (node x) (node y) es c) s)
    (λ c. ⊎_elim (λ e. inl (inside e)) (λ d. inr d) (Contains-cons_cases (node y) es (node x) c))
    (or2 (same x y) (in_nodes es x))
  where
    inside : node y ≡ node x → x ≡ y
    inside e = cc

pub listed : (refs : List (End × End)) (x y : ℕ) → Tells (mem nat_eq (listed_next refs x) y) (Refers refs x y)
listed refs x y = like {P = Contains (flat_map (ends_from refs) (passed_from refs x)) (node y)}
    (λ c. let r = Contains-flat_map_cases (ends_from refs) (passed_from refs x) (node y) c in
    let w = (passed refs x r.0).holds ((member end_eq same_end (passed_from refs x) r.0).passes r.1) in
    let p = over_temporaries refs (node x) r.0 w.rows y w.walk ((end_from refs r.0 (node y)).holds ((member end_eq same_end (ends_from refs r.0) (node y)).passes r.2)) in
    record { through = p.0; walk = p.1 })
    (λ r. let l = last_passed refs (node x) r.through y r.walk in
    Contains-flat_map (ends_from refs) (passed_from refs x) l.0 (node y) ((member end_eq same_end (passed_from refs x) l.0).holds ((passed refs x l.0).passes l.1))
    ((member end_eq same_end (ends_from refs l.0) (node y)).holds ((end_from refs l.0 (node y)).passes l.2)))
    (in_nodes (flat_map (ends_from refs) (passed_from refs x)) y)

pub marking_root : (mk : Marking) (p : ℕ) → Tells (mem nat_eq (marking_roots mk) p) (IsMarkingRoot mk p)
marking_root mk p = like {P = InSlot mk.heap p ⊎ (Contains mk.strong_peers p ⊎ Contains mk.brought p)} (λ s. s) (λ s. s)
    (member_append nat_eq same (slot_rows mk.heap) (mk.strong_peers ++ mk.brought) p (InSlot mk.heap p) (Contains mk.strong_peers p ⊎ Contains mk.brought p) (slot_row mk.heap p)
    (member_append nat_eq same mk.strong_peers mk.brought p (Contains mk.strong_peers p) (Contains mk.brought p) (member nat_eq same mk.strong_peers p) (member nat_eq same mk.brought p)))

pub reference_edge : (h : Heap) (refs : List (End × End)) (x y : ℕ) → Tells (mem nat_eq (reference_next h refs x) y) (HasReference h refs x y)
reference_edge h refs x y = like {P = IsLive h x × (Refers refs x y × IsLive h y)} (λ p. record { live = p.0; reference = p.1.0; there = p.1.1 }) (λ f. (f.live, (f.reference, f.there)))
    (where_it_holds nat_eq same (is_live h x) (filter (is_live h) (listed_next refs x)) y (IsLive h x) (Refers refs x y × IsLive h y) (live h x)
    (filtered nat_eq same (is_live h) (listed_next refs x) y (Refers refs x y) (IsLive h y) (listed refs x y) (live h y)))

pub marking_edge : (mk : Marking) (x y : ℕ) → Tells (mem nat_eq (marking_next mk x) y) (MarkingEdge mk x y)
marking_edge mk x y = member_append nat_eq same (heap_next mk.heap x) (reference_next mk.heap mk.refs x) y
    (HasField mk.heap x y) (HasReference mk.heap mk.refs x y) (field mk.heap x y) (reference_edge mk.heap mk.refs x y)

-- edges lead to peers that were made
edge_inside : (mk : Marking) (x y : ℕ) → mem nat_eq (marking_next mk x) y ≡ true → Contains (all_rows mk.heap) y
edge_inside mk x y m = (member nat_eq same (all_rows mk.heap) y).holds (live_row mk.heap y (there ((marking_edge mk x y).holds m)))
  where
    there : MarkingEdge mk x y → IsLive mk.heap y
    there (inl f) = f.there
    there (inr r) = r.there

pub marked : (mk : Marking) (p : ℕ) → Tells (is_live mk.heap p && has (marking_reach mk) p) (IsMarked mk p)
marked mk p = like {P = IsLive mk.heap p × Reached (IsMarkingRoot mk) (MarkingEdge mk) p} (λ q. record { existed = q.0; reached = q.1 }) (λ m. (m.existed, m.reached))
    (and2 (live mk.heap p) (reached nat_eq same (marking_next mk) (all_rows mk.heap) (edge_inside mk) (IsMarkingRoot mk) (MarkingEdge mk) (marking_roots mk) (marking_root mk) (marking_edge mk) p))

pub closure : (mk : Marking) (rows : List ℕ) → Tells (is_closure mk rows) (IsClosure mk rows)
closure mk rows = like (λ p. record { rise = p.0; exact = p.1 }) (λ r. (r.rise, r.exact))
    (rising_exactly (all_rows mk.heap) (λ p. is_live mk.heap p && has (marking_reach mk) p) (IsMarked mk) rows (marked mk) (λ p m. live_row mk.heap p m.existed))

pub sweep : (s : PeerReplay) (mk : Marking) (freed : List ℕ) → Tells (is_sweep s mk freed) (IsSweep s mk freed)
sweep s mk freed = like (λ p. record { rise = p.0; exact = p.1 }) (λ r. (r.rise, r.exact))
    (rising_exactly (all_rows s.peers.heap) (λ p. is_live s.peers.heap p && is_live mk.heap p && not (is_live mk.heap p && has (marking_reach mk) p))
    (λ p. IsLive s.peers.heap p × IsLive mk.heap p × (IsMarked mk p → ⊥)) freed
    (λ p. and3 (live s.peers.heap p) (live mk.heap p) (isn't (marked mk p))) (λ p q. live_row s.peers.heap p q.0))
