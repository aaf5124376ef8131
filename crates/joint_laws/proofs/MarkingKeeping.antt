-- An open marking stays kept. A slot comes to name only what is spared: what a slot named, or what a field of a peer in
-- a slot led to, by an edge of the begin or to a spared peer, or a peer made since or brought back. A field comes to
-- hold only what was in a slot. What is spared stays so as peers are brought back. At the begin every edge is one of
-- the begin, and slots and strong handles are its roots.
use Rattle.std.proofs.Common.{◌≡◌, ℕ, zero, suc, inl, inr, List, [], ◌∷◌, Option, Some, None, sym, ap, subst, ◌∙◌, arith}
use Rattle.std.specs.Prelude.{Contains, slice_get, if◌then◌else◌}
use Rattle.std.proofs.lemmas.Option.{same_Some}
use Rattle.joint_machine.specs.declared.names.Thread.{Thread}
use Rattle.joint_machine.specs.Heaps.{Heap, IsMade, with_var, with_static, with_object}
use Rattle.joint_machine.specs.Peers.{Issued, Strength, strong, weak, is_strong}
use Rattle.joint_machine.specs.PeerReplay.{TableRow, Mirror, Marking, strong_peers, Refers}
use Rattle.joint_laws.specs.PeerInvariants.{IsTabled, IsIssued, HeapInvariant, ReferencesInvariant, IsSpared, MarkingInvariant}
use Rattle.joint_machine.proofs.Members.{Contains-here, Contains-there}
use Rattle.joint_machine.proofs.Numbered.{Contains-set_cases}
use Rattle.joint_machine.proofs.Deciding.{none_some}
use Rattle.joint_machine.proofs.HeapLemmas.{IsLive-later}
use Rattle.joint_laws.proofs.Fields.{with_object-length}
use Rattle.joint_laws.proofs.HeapMoves.{HasMoved, IsInReach}
use Rattle.joint_laws.proofs.HeapKeeping.{moved-live, moved-was_live, object-field, object-was_live}
use Rattle.joint_laws.proofs.Sparing.{spared-root, spared-next, spared-later, later}
use Rattle.joint_machine.specs.Components.{End}

module _ (h : Heap) (issued : List Issued) (table : List (Option TableRow)) (refs : List (End × End)) (mk : Marking) (k : MarkingInvariant h issued table refs mk) where
  -- what is in reach is spared
  pub in_reach-spared : (p : ℕ) → HeapInvariant h → IsInReach h p → IsSpared mk p
  in_reach-spared p heap r = elim r [
    | inl i ↦ k.slots p i
    | inr z ↦ spared-next mk z.0 p (k.fields z.0 p (heap.slots z.0 z.1) z.2) (k.slots z.0 z.1)
  ]

  pub MarkingInvariant-moved : (g : Heap) → HeapInvariant h → HasMoved h g → MarkingInvariant g issued table refs mk
  MarkingInvariant-moved g heap v = record {
    made = omega (arith, k.made, v.made);
    existed = λ p l. moved-live h g v p (k.existed p l);
    fields = λ p q l c. elim (v.fields p q c) [
      | inl w ↦ k.fields p q (moved-was_live h g v p l) w
      | inr w ↦ inr (k.slots q w.1)
    ];
    references = λ p q l c. k.references p q (moved-was_live h g v p l) c;
    slots = λ p i. in_reach-spared p heap (v.slots p i);
    strong_ones = k.strong_ones;
  }

  -- a further object, which has no field yet; nothing was told of it by references, whose ends were made
  pub MarkingInvariant-object : (n : ℕ) → ((p q : ℕ) → Refers refs p q → IsMade h p) → MarkingInvariant (with_object h n) issued table refs mk
  MarkingInvariant-object n made = record {
    made = omega (arith, k.made, with_object-length h n);
    existed = λ p l. IsLive-later h n p (k.existed p l);
    fields = λ p q l c. (let f = object-field h n p q c in k.fields p q (object-was_live h n p f.0 l) f.1);
    references = λ p q l c. k.references p q (object-was_live h n p (made p q c).1 l) c;
    slots = k.slots;
    strong_ones = k.strong_ones;
  }

  -- a slot comes to name a spared peer
  pub MarkingInvariant-var : (v p : ℕ) → IsSpared mk p → MarkingInvariant (with_var h v (Some p)) issued table refs mk
  MarkingInvariant-var v p s = record {
    made = k.made;
    existed = λ x l. (let m = k.existed x l in record { made = m.made; kept = m.kept });
    fields = λ x y l c. k.fields x y (record { made = l.made; kept = l.kept }) c;
    references = λ x y l c. k.references x y (record { made = l.made; kept = l.kept }) c;
    slots = λ x i. elim i [
      | inl c ↦ elim (Contains-set_cases h.vars v (Some p) (Some x) c) [ inl w ↦ k.slots x (inl w) | inr e ↦ subst (IsSpared mk) (same_Some p x e) s ]
      | inr c ↦ k.slots x (inr c)
    ];
    strong_ones = k.strong_ones;
  }

  pub MarkingInvariant-static : (j p : ℕ) → IsSpared mk p → MarkingInvariant (with_static h j (Some p)) issued table refs mk
  MarkingInvariant-static j p s = record {
    made = k.made;
    existed = λ x l. (let m = k.existed x l in record { made = m.made; kept = m.kept });
    fields = λ x y l c. k.fields x y (record { made = l.made; kept = l.kept }) c;
    references = λ x y l c. k.references x y (record { made = l.made; kept = l.kept }) c;
    slots = λ x i. elim i [
      | inl c ↦ k.slots x (inl c)
      | inr c ↦ elim (Contains-set_cases h.statics j (Some p) (Some x) c) [ inl w ↦ k.slots x (inr w) | inr e ↦ subst (IsSpared mk) (same_Some p x e) s ]
    ];
    strong_ones = k.strong_ones;
  }

  -- the table changes, and what its strong handles lead to is spared
  pub MarkingInvariant-table : (more : List Issued) (rows : List (Option TableRow))
      → ((n : ℕ) (row : TableRow) (i : Issued) → IsTabled rows n row → row.strength ≡ strong → IsIssued more n i → IsSpared mk i.peer) → MarkingInvariant h more rows refs mk
  MarkingInvariant-table more rows s = record { made = k.made; existed = k.existed; fields = k.fields; references = k.references; slots = k.slots; strong_ones = s }

  -- the references change, and what they lead to is spared
  pub MarkingInvariant-references : (more : List (End × End)) → ((p q : ℕ) → Refers more p q → IsSpared mk q) → MarkingInvariant h issued table more mk
  MarkingInvariant-references more s = record { made = k.made; existed = k.existed; fields = k.fields; references = λ p q l c. inr (s p q c); slots = k.slots; strong_ones = k.strong_ones }

  -- peers are brought back, or objects blackened
  pub MarkingInvariant-later : (brought : List ℕ) (black : ℕ) → ((x : ℕ) → Contains mk.brought x → Contains brought x) → MarkingInvariant h issued table refs (later mk brought black)
  MarkingInvariant-later brought black more = record {
    made = k.made;
    existed = k.existed;
    fields = λ p q l c. elim (k.fields p q l c) [ inl e ↦ inl e | inr s ↦ inr (spared-later mk brought black q more s) ];
    references = λ p q l c. elim (k.references p q l c) [ inl e ↦ inl e | inr s ↦ inr (spared-later mk brought black q more s) ];
    slots = λ p i. spared-later mk brought black p more (k.slots p i);
    strong_ones = λ n row i t e f. spared-later mk brought black i.peer more (k.strong_ones n row i t e f);
  }

-- the peer of a strong handle of the table is in the list
strong-at : (issued : List Issued) (table : List (Option TableRow)) (k : ℕ) (row : TableRow) (i : Issued)
    → slice_get table k ≡ Some (Some row) → row.strength ≡ strong → slice_get issued k ≡ Some i → Contains (strong_peers issued table) i.peer
strong-at [] table k row i t s e = absurd (none_some i e)
strong-at (j ∷ issued) [] k row i t s e = absurd (none_some (Some row) t)
strong-at (j ∷ issued) (None ∷ table) zero row i t s e = (let f : ⊥ = cc in absurd f)
strong-at (j ∷ issued) (None ∷ table) (suc k) row i t s e = strong-at issued table k row i t s e
strong-at (j ∷ issued) (Some r ∷ table) zero row i t s e =
    let same : j ≡ i = same_Some j i e in
    let rows : r ≡ row = same_Some r row (same_Some (Some r) (Some row) t) in
    subst (λ z. Contains (strong_peers (z ∷ issued) (Some r ∷ table)) i.peer) (sym same) (
    subst (λ z. Contains (if is_strong z then i.peer ∷ strong_peers issued table else strong_peers issued table) i.peer)
    (sym (ap (λ (z : TableRow). z.strength) rows ∙ s)) (Contains-here i.peer (strong_peers issued table)))
strong-at (j ∷ issued) (Some r ∷ table) (suc k) row i t s e = by r.strength (strong-at issued table k row i t s e)
  where
    by : (z : Strength) → Contains (strong_peers issued table) i.peer → Contains (if is_strong z then j.peer ∷ strong_peers issued table else strong_peers issued table) i.peer
    by strong c = Contains-there i.peer j.peer (strong_peers issued table) c
    by weak c = c

pub strong-listed : (issued : List Issued) (table : List (Option TableRow)) (n : ℕ) (row : TableRow) (i : Issued)
    → IsTabled table n row → row.strength ≡ strong → IsIssued issued n i → Contains (strong_peers issued table) i.peer
strong-listed issued table zero row i t s e = absurd (none_some i e)
strong-listed issued table (suc k) row i t s e = strong-at issued table k row i t s e

-- a marking that begins
pub MarkingInvariant-begun : (h : Heap) (issued : List Issued) (table : List (Option TableRow)) (refs : List (End × End)) (mirror : Option Mirror) (number : ℕ) (by : Thread)
    → HeapInvariant h → ReferencesInvariant h issued refs mirror
    → MarkingInvariant h issued table refs (record { number = number; by = by; heap = h; refs = refs; strong_peers = strong_peers issued table; brought = []; blackened = 0 })
MarkingInvariant-begun h issued table refs mirror number by heap r = record {
  made = omega arith;
  existed = λ p l. l;
  fields = λ p q l c. inl (inl (record { live = l; field = c; there = heap.fields p q l c }));
  references = λ p q l c. inl (inr (record { live = l; reference = c; there = r.live p q c l }));
  slots = λ p i. spared-root mk p (inl i);
  strong_ones = λ n row i t s e. spared-root mk i.peer (inr (inl (strong-listed issued table n row i t s e)));
}
  where
    mk : Marking
    mk = record { number = number; by = by; heap = h; refs = refs; strong_peers = strong_peers issued table; brought = []; blackened = 0 }
