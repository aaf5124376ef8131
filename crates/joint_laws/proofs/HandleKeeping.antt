-- The table of handles stays kept: as the heap grows, when a handle on an unfreed peer is issued, when a handle leaves
-- the table, when a held one's strength changes, when a name comes to have a raw handle or none, and when the handles
-- on swept peers are cleared.
use Rattle.std.proofs.Common.{◌≡◌, ◌≢◌, ℕ, zero, suc, ◌⊎◌, inl, inr, Bool, true, false, ◌||◌, List, [], ◌∷◌, ◌++◌, length, Option, Some, None, set, replicate, refl, sym, ap, subst, ◌∙◌, arith}
use Rattle.std.proofs.Common.{length-append, nat_eq}
use Rattle.std.specs.Prelude.{Contains, slice_get}
use Rattle.std.specs.List.{list_any}
use Rattle.std.proofs.lemmas.Bool.{cases_eq, eqb-true}
use Rattle.std.proofs.lemmas.Option.{same_Some}
use Rattle.std.proofs.lemmas.Map.Views.{list_any-from_Contains, Contains-from_any}
use Rattle.std.proofs.lemmas.Cmp.{nat_eq_equiv}
use Rattle.std.proofs.lemmas.List.Elements.{Contains-append_cases, Contains-append_left, Contains-append_right}
use Rattle.joint_machine.specs.Heaps.{Heap, IsMade, IsLive, numbered_at, numbered_set, opening_heap, with_freed}
use Rattle.joint_machine.specs.Peers.{Issued, held, raw, strong}
use Rattle.joint_machine.specs.PeerReplay.{TableRow, fresh_row, cleared_rows}
use Rattle.joint_laws.specs.PeerInvariants.{IsTabled, IsIssued, HandlesInvariant}
use Rattle.joint_machine.proofs.Numbered.{numbered-within, numbered-push_cases, numbered-push_old, numbered_set-length, numbered_set-same, numbered_set-other, replicate-none, Contains-set_cases}
use Rattle.joint_machine.proofs.Deciding.{none_some, or-true}

pub held-raw : (i : Issued) → i.hold ≡ held → i.hold ≡ raw → ⊥
held-raw i e f = (let g : held ≡ raw = sym e ∙ f in cc)

pub HandlesInvariant-opening : HandlesInvariant opening_heap [] [] (replicate 64 None)
HandlesInvariant-opening = record {
  places = refl;
  peers = λ n i e. absurd (nothing n i e);
  uncleared = λ n row i t e. absurd (nothing n i e);
  cleared = λ n row i t e. absurd (nothing n i e);
  sure = λ n row t. absurd (nothing n (Some row) t);
  raws = λ n row i t e. absurd (nothing n i e);
  named = λ n c. absurd (replicate-none 64 n c);
}
  where
    nothing : {A : Type 0} (n : ℕ) (x : A) → numbered_at [] n ≡ Some x → ⊥
    nothing n x e = (let w = numbered-within [] n x e in omega (arith, w.0, w.1))

pub HandlesInvariant-heap : (h k : Heap) (issued : List Issued) (table : List (Option TableRow)) (names : List (Option ℕ)) → HandlesInvariant h issued table names
    → ((x : ℕ) → IsMade h x → IsMade k x) → ((x : ℕ) → IsLive h x → IsLive k x) → ((x : ℕ) → Contains h.freed x → Contains k.freed x) → HandlesInvariant k issued table names
HandlesInvariant-heap h k issued table names a made live freed = record {
  places = a.places;
  peers = λ n i e. made i.peer (a.peers n i e);
  uncleared = λ n row i t e c. live i.peer (a.uncleared n row i t e c);
  cleared = λ n row i t e c. freed i.peer (a.cleared n row i t e c);
  sure = a.sure;
  raws = a.raws;
  named = a.named;
}

-- a name comes to have a raw handle, or none
pub HandlesInvariant-name : (h : Heap) (issued : List Issued) (table : List (Option TableRow)) (names : List (Option ℕ)) (g : ℕ) (o : Option ℕ) → HandlesInvariant h issued table names
    → ((n : ℕ) → o ≡ Some n → (i : Issued) × IsIssued issued n i × (i.hold ≡ raw)) → HandlesInvariant h issued table (set names g o)
HandlesInvariant-name h issued table names g o a r = record {
  places = a.places;
  peers = a.peers;
  uncleared = a.uncleared;
  cleared = a.cleared;
  sure = a.sure;
  raws = a.raws;
  named = λ n c. elim (Contains-set_cases names g o (Some n) c) [ inl w ↦ a.named n w | inr e ↦ r n e ];
}

-- a row is written, or emptied
pub tabled-set_cases : (table : List (Option TableRow)) (n : ℕ) (o : Option TableRow) (m : ℕ) (row : TableRow)
    → IsTabled (numbered_set table n o) m row → ((m ≡ n) × (o ≡ Some row)) ⊎ ((m ≢ n) × IsTabled table m row)
tabled-set_cases table n o m row t = elim (cases_eq m n) [
  | inl e ↦ inl (e, numbered_set-same table n o (Some row) (subst (λ z. numbered_at (numbered_set table n o) z ≡ Some (Some row)) e t))
  | inr ne ↦ inr (ne, sym (numbered_set-other table n m o ne) ∙ t)
]

pub issued-same : (issued : List Issued) (n m : ℕ) (i j : Issued) → m ≡ n → IsIssued issued n i → IsIssued issued m j → i ≡ j
issued-same issued n m i j e p q = same_Some i j (sym p ∙ (ap (λ z. numbered_at issued z) (sym e) ∙ q))

pub HandlesInvariant-gone : (h : Heap) (issued : List Issued) (table : List (Option TableRow)) (names : List (Option ℕ)) (n : ℕ)
    → HandlesInvariant h issued table names → HandlesInvariant h issued (numbered_set table n None) names
HandlesInvariant-gone h issued table names n a = record {
  places = numbered_set-length table n None ∙ a.places;
  peers = a.peers;
  uncleared = λ m row i t e c. a.uncleared m row i (was m row t) e c;
  cleared = λ m row i t e c. a.cleared m row i (was m row t) e c;
  sure = λ m row t e. a.sure m row (was m row t) e;
  raws = λ m row i t e r. a.raws m row i (was m row t) e r;
  named = a.named;
}
  where
    was : (m : ℕ) (row : TableRow) → IsTabled (numbered_set table n None) m row → IsTabled table m row
    was m row t = elim (tabled-set_cases table n None m row t) [ inl q ↦ absurd (none_some row q.1) | inr q ↦ q.1 ]

-- a held handle's row changes its strength
module _ (h : Heap) (issued : List Issued) (table : List (Option TableRow)) (names : List (Option ℕ)) (n : ℕ) (old new : TableRow) (j : Issued)
    (a : HandlesInvariant h issued table names) (t : IsTabled table n old) (p : IsIssued issued n j)
    (hold : j.hold ≡ held) (same : new.cleared ≡ old.cleared) (sure : new.strength ≡ strong → new.cleared ≡ false) where
  by : (Q : TableRow → ℕ → Type 0) → ((m : ℕ) → m ≡ n → Q new m) → ((m : ℕ) (row : TableRow) → IsTabled table m row → Q row m)
      → (m : ℕ) (row : TableRow) → IsTabled (numbered_set table n (Some new)) m row → Q row m
  by Q here there m row u = elim (tabled-set_cases table n (Some new) m row u) [
    | inl q ↦ subst (λ z. Q z m) (same_Some new row q.1) (here m q.0)
    | inr q ↦ there m row q.1
  ]

  pub HandlesInvariant-reset : HandlesInvariant h issued (numbered_set table n (Some new)) names
  HandlesInvariant-reset = record {
    places = numbered_set-length table n (Some new) ∙ a.places;
    peers = a.peers;
    uncleared = λ m row i u e. by (λ z k. IsIssued issued k i → z.cleared ≡ false → IsLive h i.peer)
        (λ k q f c. subst (λ z. IsLive h z.peer) (issued-same issued n k j i q p f) (a.uncleared n old j t p (sym same ∙ c)))
        (λ k z v f c. a.uncleared k z i v f c) m row u e;
    cleared = λ m row i u e. by (λ z k. IsIssued issued k i → z.cleared ≡ true → Contains h.freed i.peer)
        (λ k q f c. subst (λ z. Contains h.freed z.peer) (issued-same issued n k j i q p f) (a.cleared n old j t p (sym same ∙ c)))
        (λ k z v f c. a.cleared k z i v f c) m row u e;
    sure = λ m row u. by (λ z k. z.strength ≡ strong → z.cleared ≡ false) (λ k q. sure) (λ k z v. a.sure k z v) m row u;
    raws = λ m row i u e. by (λ z k. IsIssued issued k i → i.hold ≡ raw → z.strength ≡ i.strength)
        (λ k q f r. absurd (held-raw i (subst (λ z. z.hold ≡ held) (issued-same issued n k j i q p f) hold) r))
        (λ k z v f r. a.raws k z i v f r) m row u e;
    named = a.named;
  }

-- a handle is issued
module _ (h : Heap) (issued : List Issued) (table : List (Option TableRow)) (names : List (Option ℕ)) (new : Issued) (a : HandlesInvariant h issued table names) (l : IsLive h new.peer) where
  abbrev row_new : TableRow
  row_new = record { strength = new.strength; cleared = false }

  pub both-cases : (m : ℕ) (row : TableRow) (i : Issued) → IsTabled (table ++ fresh_row new ∷ []) m row → IsIssued (issued ++ new ∷ []) m i
      → (IsTabled table m row × IsIssued issued m i) ⊎ ((row_new ≡ row) × (new ≡ i))
  both-cases m row i t e = elim (numbered-push_cases table (fresh_row new) m (Some row) t) [
    | inl u ↦ elim (numbered-push_cases issued new m i e) [
      | inl f ↦ inl (u, f)
      | inr f ↦ (let w = numbered-within table m (Some row) u in absurd (omega (arith, w.1, f.0, a.places)))
    ]
    | inr u ↦ elim (numbered-push_cases issued new m i e) [
      | inl f ↦ (let w = numbered-within issued m i f in absurd (omega (arith, w.1, u.0, a.places)))
      | inr f ↦ inr (same_Some row_new row u.1, f.1)
    ]
  ]

  pub HandlesInvariant-issue : HandlesInvariant h (issued ++ new ∷ []) (table ++ fresh_row new ∷ []) names
  HandlesInvariant-issue = record {
    places = omega (arith, length-append table (fresh_row new ∷ []), length-append issued (new ∷ []), a.places);
    peers = λ m i e. elim (numbered-push_cases issued new m i e) [
      | inl f ↦ a.peers m i f
      | inr f ↦ subst (λ (z : Issued). IsMade h z.peer) f.1 l.made
    ];
    uncleared = λ m row i t e c. elim (both-cases m row i t e) [
      | inl q ↦ a.uncleared m row i q.0 q.1 c
      | inr q ↦ subst (λ (z : Issued). IsLive h z.peer) q.1 l
    ];
    cleared = λ m row i t e c. elim (both-cases m row i t e) [
      | inl q ↦ a.cleared m row i q.0 q.1 c
      | inr q ↦ absurd (let f : false ≡ true = ap (λ (z : TableRow). z.cleared) q.0 ∙ c in cc)
    ];
    sure = λ m row t s. elim (numbered-push_cases table (fresh_row new) m (Some row) t) [
      | inl u ↦ a.sure m row u s
      | inr u ↦ sym (ap (λ (z : TableRow). z.cleared) (same_Some row_new row u.1))
    ];
    raws = λ m row i t e r. elim (both-cases m row i t e) [
      | inl q ↦ a.raws m row i q.0 q.1 r
      | inr q ↦ sym (ap (λ (z : TableRow). z.strength) q.0) ∙ ap (λ (z : Issued). z.strength) q.1
    ];
    named = λ m c. (let r = a.named m c in (r.0, numbered-push_old issued new m (numbered-within issued m r.0 r.1).1 ∙ r.1, r.2));
  }

-- the row of a handle after peers were freed
abbrev pub swept_row : List ℕ → Issued → TableRow → TableRow
swept_row freed i row = record row { cleared = row.cleared || list_any (nat_eq i.peer) freed }

swept_at : (freed : List ℕ) (issued : List Issued) (table : List (Option TableRow)) (k : ℕ) (row : TableRow)
    → length table ≡ length issued → slice_get (cleared_rows freed issued table) k ≡ Some (Some row)
    → (i : Issued) × (old : TableRow) × (slice_get issued k ≡ Some i) × (slice_get table k ≡ Some (Some old)) × (swept_row freed i old ≡ row)
swept_at freed [] [] k row l e = (let f : ⊥ = cc in absurd f)
swept_at freed [] (x ∷ table) k row l e = absurd (omega arith)
swept_at freed (i ∷ issued) [] k row l e = absurd (omega arith)
swept_at freed (i ∷ issued) (None ∷ table) zero row l e = (let f : ⊥ = cc in absurd f)
swept_at freed (i ∷ issued) (Some old ∷ table) zero row l e = (i, old, refl, refl, (let f : Some (swept_row freed i old) ≡ Some row = same_Some _ _ e in same_Some _ _ f))
swept_at freed (i ∷ issued) (None ∷ table) (suc k) row l e = swept_at freed issued table k row (omega arith) e
swept_at freed (i ∷ issued) (Some old ∷ table) (suc k) row l e = swept_at freed issued table k row (omega arith) e

pub tabled-swept : (freed : List ℕ) (issued : List Issued) (table : List (Option TableRow)) (n : ℕ) (row : TableRow) → length table ≡ length issued → IsTabled (cleared_rows freed issued table) n row
    → (i : Issued) × (old : TableRow) × IsIssued issued n i × IsTabled table n old × (swept_row freed i old ≡ row)
tabled-swept freed issued table zero row l e = absurd (none_some (Some row) e)
tabled-swept freed issued table (suc k) row l e = swept_at freed issued table k row l e

pub swept-length : (freed : List ℕ) (issued : List Issued) (table : List (Option TableRow)) → length (cleared_rows freed issued table) ≡ length table
swept-length freed [] table = refl
swept-length freed (i ∷ issued) [] = refl
swept-length freed (i ∷ issued) (None ∷ table) = omega (arith, swept-length freed issued table)
swept-length freed (i ∷ issued) (Some row ∷ table) = omega (arith, swept-length freed issued table)

or-false : (a b : Bool) → (a || b) ≡ false → (a ≡ false) × (b ≡ false)
or-false true b e = (let f : ⊥ = cc in absurd f)
or-false false b e = (refl, e)

none-any : (xs : List ℕ) (x : ℕ) (b : Bool) → list_any (nat_eq x) xs ≡ b → (Contains xs x → ⊥) → b ≡ false
none-any xs x false e n = refl
none-any xs x true e n = absurd (n (Contains-from_any eqb-true x xs e))

-- peers are freed that no strong handle of the table leads to
module _ (h : Heap) (issued : List Issued) (table : List (Option TableRow)) (names : List (Option ℕ)) (freed : List ℕ) (a : HandlesInvariant h issued table names)
    (stays : (n : ℕ) (row : TableRow) (i : Issued) → IsTabled table n row → row.strength ≡ strong → IsIssued issued n i → Contains freed i.peer → ⊥) where
  -- the one row of a handle before
  swept-by : (Q : TableRow → ℕ → Issued → Type 0) → ((n : ℕ) (old : TableRow) (i : Issued) → IsTabled table n old → IsIssued issued n i → Q (swept_row freed i old) n i)
      → (n : ℕ) (row : TableRow) (i : Issued) → IsTabled (cleared_rows freed issued table) n row → IsIssued issued n i → Q row n i
  swept-by Q each n row i t e =
      let r = tabled-swept freed issued table n row a.places t in
      let same : r.0 ≡ i = same_Some r.0 i (sym r.2 ∙ e) in
      subst (λ z. Q z n i) r.4 (subst (λ z. Q (swept_row freed z r.1) n i) (sym same) (each n r.1 i r.3 e))

  pub HandlesInvariant-swept : HandlesInvariant (with_freed h freed) issued (cleared_rows freed issued table) names
  HandlesInvariant-swept = record {
    places = swept-length freed issued table ∙ a.places;
    peers = a.peers;
    uncleared = swept-by (λ row n i. row.cleared ≡ false → IsLive (with_freed h freed) i.peer) (λ n old i t e c. (
        let o = or-false old.cleared (list_any (nat_eq i.peer) freed) c in
        let l = a.uncleared n old i t e o.0 in
        record {
          made = l.made;
          kept = λ d. elim (Contains-append_cases h.freed freed i.peer d) [
            | inl w ↦ l.kept w
            | inr w ↦ (let f : true ≡ false = sym (list_any-from_Contains nat_eq_equiv i.peer freed w) ∙ o.1 in cc)
          ];
        }));
    cleared = swept-by (λ row n i. row.cleared ≡ true → Contains (h.freed ++ freed) i.peer) (λ n old i t e c. elim (or-true old.cleared (list_any (nat_eq i.peer) freed) c) [
      | inl o ↦ Contains-append_left h.freed freed i.peer (a.cleared n old i t e o)
      | inr o ↦ Contains-append_right h.freed freed i.peer (Contains-from_any eqb-true i.peer freed o)
    ]);
    sure = λ n row t s. (
        let r = tabled-swept freed issued table n row a.places t in
        let strong_old : r.1.strength ≡ strong = ap (λ (z : TableRow). z.strength) r.4 ∙ s in
        sym (ap (λ (z : TableRow). z.cleared) r.4) ∙ cleared_by r.1.cleared (list_any (nat_eq r.0.peer) freed) (a.sure n r.1 r.3 strong_old)
        (none-any freed r.0.peer (list_any (nat_eq r.0.peer) freed) refl (stays n r.1 r.0 r.3 strong_old r.2)));
    raws = swept-by (λ row n i. i.hold ≡ raw → row.strength ≡ i.strength) (λ n old i t e r. a.raws n old i t e r);
    named = a.named;
  }
    where
      cleared_by : (x y : Bool) → x ≡ false → y ≡ false → (x || y) ≡ false
      cleared_by false y e f = f
      cleared_by true y e f = (let g : ⊥ = cc in absurd g)
