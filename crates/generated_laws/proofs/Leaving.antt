-- How many objects and handles are left where just what is kept is left: two rows, a peer and a handle for each filled
-- static.
use Rattle.std.proofs.Common.{◌≡◌, ℕ, zero, suc, ◌*◌, ◌≤◌, inl, inr, true, not, List, [], ◌∷◌, ◌++◌, length, Option, Some, None, refl, sym, ap, subst, ◌∙◌, arith}
use Rattle.std.specs.Prelude.{Contains, is_some}
use Rattle.std.proofs.lemmas.List.Elements.{Contains-append_cases, Contains-append_left, Contains-append_right}
use Rattle.std.proofs.lemmas.List.Sums.{sum_by-cons}
use Rattle.std.proofs.lemmas.Bool.{cases_eq}
use Rattle.joint_machine.specs.Heaps.{Heap, IsLive, slot, numbered_at, numbered_set}
use Rattle.joint_machine.specs.Control.{Stand, idle}
use Rattle.joint_machine.specs.Linked.{Linkage}
use Rattle.joint_machine.specs.Managed.{Managed, OpenCycle, Holds, candidates_of}
use Rattle.joint_machine.specs.Peers.{Peers, Issued, Strength, strong, weak}
use Rattle.joint_machine.specs.PeerReplay.{TableRow}
use Rattle.joint_machine.specs.Told.{handles_given}
use Rattle.joint_machine.proofs.Deciding.{none_some, some-same}
use Rattle.joint_machine.proofs.HeapLemmas.{Contains-is_freed}
use Rattle.joint_machine.proofs.Members.{Contains-here, Contains-there, Contains-nil, Contains-cons_cases, Contains-decided}
use Rattle.joint_machine.proofs.Numbered.{numbered-within, numbered-made, numbered_set-same, numbered_set-other}
use Rattle.joint_laws.specs.LinkedInvariants.{given_at}
use Rattle.joint_laws.specs.PeerInvariants.{IsTabled}
use Rattle.joint_laws.proofs.LinkedEntries.{Of}
use Rattle.joint_laws.proofs.PeerEntries.{peer_of-issued}
use Rattle.run_summary.specs.Lines.{one}
use Rattle.summary_laws.specs.States.{stands_in, others_up_to, unfreed, left_in}
use Rattle.summary_laws.proofs.TableRows.{rows, rows-set}
use Rattle.summary_laws.proofs.Unfreed.{AreFresh, put-all, outside}
use Rattle.generated_laws.proofs.Totals.{total}
use Rattle.generated_laws.proofs.Pictures.{Mind}
use Rattle.generated_laws.proofs.Showing.{Group, Names}
use Rattle.generated_laws.proofs.PeerShowing.{Filled}
use Rattle.generated_laws.proofs.Kept.{rows_of, peers_of, StandsIn, row-stands, peer-stands, IsSettled, group-live, group-holds, kept-bridge, only-row, row-of_group}
use Rattle.generated_laws.proofs.Cycling.{RowsLeft, PeersLeft}

-- no number stands twice
abbrev AreDistinct : List ℕ → Type 0
AreDistinct [] = Unit {0}
AreDistinct (x ∷ xs) = (Contains xs x → ⊥) × AreDistinct xs

distinct-fresh : (xs ys : List ℕ) (n : ℕ) → AreDistinct ys → ((y : ℕ) → Contains ys y → (1 ≤ y) × (y ≤ n) × (Contains xs y → ⊥)) → AreFresh xs ys n
distinct-fresh xs [] n d f = tt
distinct-fresh xs (y ∷ ys) n d f =
    let here = f y (Contains-here y ys) in (
      here.0,
      here.1,
      outside xs y here.2,
      distinct-fresh (xs ++ y ∷ []) ys n d.1 (λ z c. (let there = f z (Contains-there z y ys c) in (
        there.0,
        there.1,
        λ e. elim (Contains-append_cases xs (y ∷ []) z e) [
          | inl a ↦ there.2 a
          | inr a ↦ elim (Contains-cons_cases y [] z a) [ inl q ↦ d.0 (subst (Contains ys) (sym q) c) | inr q ↦ Contains-nil z q ]
        ],
      ))),
    )

none-others : (xs : List ℕ) (n : ℕ) → ((z : ℕ) → 1 ≤ z → z ≤ n → Contains xs z) → others_up_to xs n ≡ 0
none-others xs zero f = refl
none-others xs (suc i) f =
    let rest = none-others xs i (λ z a b. f z a (omega (arith, b))) in
    let here : stands_in xs (suc i) ≡ true = Contains-is_freed (record { fields = []; freed = xs; vars = []; statics = [] }) (suc i) (f (suc i) (omega arith) (omega arith)) in
    let last = ap (λ b. one (not b)) here in
    omega (arith, rest, last)

-- where just these objects of a heap aren't freed
left-count : (h : Heap) (xs : List ℕ) → AreDistinct xs → ((x : ℕ) → Contains xs x → IsLive h x) → ((x : ℕ) → IsLive h x → Contains xs x) → unfreed h ≡ length xs
left-count h xs d live all =
    let n = length h.fields in
    let fresh = distinct-fresh h.freed xs n d (λ y c. (let l = live y c in (l.made.0, l.made.1, l.kept))) in
    let put = put-all h.freed xs n fresh in
    let none = none-others (h.freed ++ xs) n (λ z a b. elim (Contains-decided h.freed z) [
      | inl c ↦ Contains-append_left h.freed xs z c
      | inr c ↦ Contains-append_right h.freed xs z (all z (record { made = (a, b); kept = c }))
    ]) in
    omega (arith, put, none)

-- the rows of a table
no-rows : (table : List (Option TableRow)) → ((h : ℕ) (row : TableRow) → IsTabled table h row → ⊥) → rows table ≡ 0
no-rows [] n = refl
no-rows (None ∷ table) n = (let a = sum_by-cons (λ (o : Option TableRow). one (is_some o)) None table in let r = no-rows table (λ h row t. n (suc h) row (later h row t)) in omega (arith, a, r))
  where
    later : (h : ℕ) (row : TableRow) → IsTabled table h row → IsTabled (None ∷ table) (suc h) row
    later zero row t = absurd (cc)
    later (suc h) row t = t
no-rows (Some row ∷ table) n = absurd (n 1 row refl)

table-count : (hs : List ℕ) (table : List (Option TableRow)) → AreDistinct hs → ((h : ℕ) → Contains hs h → (row : TableRow) × IsTabled table h row)
    → ((h : ℕ) (row : TableRow) → IsTabled table h row → Contains hs h) → rows table ≡ length hs
table-count [] table d f all = no-rows table (λ h row t. Contains-nil h (all h row t))
table-count (h ∷ hs) table d f all =
    let here = f h (Contains-here h hs) in
    let put = rows-set table h here.0 None here.1 in
    let rest = table-count hs (numbered_set table h None) d.1
    (λ g c. (let there = f g (Contains-there g h hs c) in (there.0, numbered_set-other table h g None (λ e. d.0 (subst (Contains hs) e c)) ∙ there.1)))
    (λ g row t. elim (cases_eq g h) [
      | inl e ↦ absurd (let q : None ≡ Some row = numbered_set-same table h None (Some row) (ap (numbered_at (numbered_set table h None)) (sym e) ∙ t) in none_row row q)
      | inr n ↦ elim (Contains-cons_cases h hs g (all g row (sym (numbered_set-other table h g None n) ∙ t))) [ inl q ↦ absurd (n (sym q)) | inr q ↦ q ]
    ])
    in
    omega (arith, put, rest)
  where
    none_row : {A : Type 0} (row : TableRow) → None ≡ Some row → A
    none_row row e = absurd (none_some row e)

-- how many statics are filled
abbrev pub filled_ones : List (Option Group) → ℕ
filled_ones groups = total (λ o. one (is_some o)) groups

-- the handle that an object holds; 0 where it holds none
abbrev handle_at : List (Option ℕ) → ℕ → ℕ
handle_at held x = elim (numbered_at held x) [ None ↦ 0 | Some o ↦ elim o [ None ↦ 0 | Some h ↦ h ] ]

abbrev handles_in : List (Option ℕ) → List (Option Group) → List ℕ
handles_in held [] = []
handles_in held (None ∷ gs) = handles_in held gs
handles_in held (Some g ∷ gs) = handle_at held g.bridge ∷ handles_in held gs

handle-stands : (held : List (Option ℕ)) (groups : List (Option Group)) (h : ℕ) → Contains (handles_in held groups) h → StandsIn groups (λ g. handle_at held g.bridge ≡ h)
handle-stands held [] h c = absurd (Contains-nil h c)
handle-stands held (None ∷ gs) h c = (let w = handle-stands held gs h c in record { spot = suc w.spot; group = w.group; there = w.there; has = w.has })
handle-stands held (Some g ∷ gs) h c = elim (Contains-cons_cases (handle_at held g.bridge) (handles_in held gs) h c) [
  | inl e ↦ record { spot = 0; group = g; there = refl; has = e }
  | inr d ↦ (let w = handle-stands held gs h d in record { spot = suc w.spot; group = w.group; there = w.there; has = w.has })
]

stands-handle : (held : List (Option ℕ)) (groups : List (Option Group)) (i : ℕ) (g : Group) → slot groups i ≡ Some g → Contains (handles_in held groups) (handle_at held g.bridge)
stands-handle held [] i g e = absurd (cc)
stands-handle held (None ∷ gs) zero g e = absurd (cc)
stands-handle held (None ∷ gs) (suc i) g e = stands-handle held gs i g e
stands-handle held (Some k ∷ gs) zero g e = (let f : k ≡ g = cc in
    subst (λ (y : Group). Contains (handle_at held k.bridge ∷ handles_in held gs) (handle_at held y.bridge)) f (Contains-here (handle_at held k.bridge) (handles_in held gs)))
stands-handle held (Some k ∷ gs) (suc i) g e = Contains-there (handle_at held g.bridge) (handle_at held k.bridge) (handles_in held gs) (stands-handle held gs i g e)

-- lengths
rows-length : (groups : List (Option Group)) → length (rows_of groups) ≡ 2 * filled_ones groups
rows-length [] = omega arith
rows-length (None ∷ gs) = (let r = rows-length gs in omega (arith, r))
rows-length (Some g ∷ gs) = (let r = rows-length gs in omega (arith, r))

handles-length : (held : List (Option ℕ)) (groups : List (Option Group)) → length (handles_in held groups) ≡ filled_ones groups
handles-length held [] = omega arith
handles-length held (None ∷ gs) = (let r = handles-length held gs in omega (arith, r))
handles-length held (Some g ∷ gs) = (let r = handles-length held gs in omega (arith, r))

peers-length : (groups : List (Option Group)) → length (peers_of groups) ≡ filled_ones groups
peers-length [] = omega arith
peers-length (None ∷ gs) = (let r = peers-length gs in omega (arith, r))
peers-length (Some g ∷ gs) = (let r = peers-length gs in omega (arith, r))

-- nothing stands twice
rows-distinct : (groups : List (Option Group)) → ((i j : ℕ) (g k : Group) (z : ℕ) → slot groups i ≡ Some g → slot groups j ≡ Some k → Names g z → Names k z → i ≡ j)
    → ((i : ℕ) (g : Group) → slot groups i ≡ Some g → g.bridge ≡ g.plain → ⊥) → AreDistinct (rows_of groups)
rows-distinct [] f two = tt
rows-distinct (None ∷ gs) f two = rows-distinct gs (λ i j g k z a b c d. (let e = f (suc i) (suc j) g k z a b c d in omega (arith, e))) (λ i g e. two (suc i) g e)
rows-distinct (Some g ∷ gs) f two = (
  λ c. elim (Contains-cons_cases g.plain (rows_of gs) g.bridge c) [ inl e ↦ two 0 g refl (sym e) | inr d ↦ away g.bridge (inl refl) d ],
  (λ d. away g.plain (inr refl) d, rows-distinct gs (λ i j k l z a b c d. (let e = f (suc i) (suc j) k l z a b c d in omega (arith, e))) (λ i k e. two (suc i) k e)),
)
  where
    away : (z : ℕ) → Names g z → Contains (rows_of gs) z → ⊥
    away z n c = (let w = row-stands gs z c in let e = f 0 (suc w.spot) g w.group z refl w.there n w.has in omega (arith, e))

handles-distinct : (held : List (Option ℕ)) (groups : List (Option Group))
    → ((i j : ℕ) (g k : Group) → slot groups i ≡ Some g → slot groups j ≡ Some k → handle_at held g.bridge ≡ handle_at held k.bridge → i ≡ j) → AreDistinct (handles_in held groups)
handles-distinct held [] f = tt
handles-distinct held (None ∷ gs) f = handles-distinct held gs (λ i j g k a b c. (let e = f (suc i) (suc j) g k a b c in omega (arith, e)))
handles-distinct held (Some g ∷ gs) f = (
  λ c. (let w = handle-stands held gs (handle_at held g.bridge) c in let e = f 0 (suc w.spot) g w.group refl w.there (sym w.has) in omega (arith, e)),
  handles-distinct held gs (λ i j k l a b c. (let e = f (suc i) (suc j) k l a b c in omega (arith, e))),
)

peers-distinct : (groups : List (Option Group)) → ((i j : ℕ) (g k : Group) → slot groups i ≡ Some g → slot groups j ≡ Some k → g.peer ≡ k.peer → i ≡ j) → AreDistinct (peers_of groups)
peers-distinct [] f = tt
peers-distinct (None ∷ gs) f = peers-distinct gs (λ i j g k a b c. (let e = f (suc i) (suc j) g k a b c in omega (arith, e)))
peers-distinct (Some g ∷ gs) f = (
  λ c. (let w = peer-stands gs g.peer c in let e = f 0 (suc w.spot) g w.group refl w.there (sym w.has) in omega (arith, e)),
  peers-distinct gs (λ i j k l a b c. (let e = f (suc i) (suc j) k l a b c in omega (arith, e))),
)

-- so the state has these numbers
module _ (minds : ℕ → Mind) (fills : ℕ → Filled) (groups : List (Option Group)) (s : Linkage) (w : IsSettled minds fills groups s) (k : Of s) (rests : s.control.stand ≡ idle)
    (closed : s.managed.managed.cycle ≡ None) (some_rows : RowsLeft minds fills groups s.managed.managed) (some_peers : PeersLeft minds fills groups s.peer.peers) where
  abbrev sm : Managed
  sm = s.managed.managed

  abbrev sp : Peers
  sp = s.peer.peers

  no-candidates : (x : ℕ) → Contains (candidates_of sm) x → ⊥
  no-candidates x c = Contains-nil x (subst (λ l. Contains l x) (ap (λ (z : Option OpenCycle). elim z as (λ y. List ℕ) [ None ↦ [] | Some y ↦ y.candidates ]) closed) c)

  -- the handle of a group's bridge
  is-handle : (i : ℕ) (g : Group) (h : ℕ) → numbered_at sm.held g.bridge ≡ Some (Some h) → handle_at sm.held g.bridge ≡ h
  is-handle i g h e = ap (λ (o : Option (Option ℕ)). elim o as (λ z. ℕ) [ None ↦ 0 | Some x ↦ elim x [ None ↦ 0 | Some y ↦ y ] ]) e

  holds-one : (i : ℕ) (g : Group) → slot groups i ≡ Some g → Holds sm g.bridge (handle_at sm.held g.bridge)
  holds-one i g e = (let h = group-holds minds fills groups s w k i g e in subst (Holds sm g.bridge) (sym (is-handle i g h.0 h.1.held)) h.1)

  strong-one : (i : ℕ) (g : Group) → slot groups i ≡ Some g → (row : TableRow) × IsTabled s.peer.table (handle_at sm.held g.bridge) row × (row.strength ≡ strong)
  strong-one i g e = k.owners.strong_ones g.bridge (handle_at sm.held g.bridge) (holds-one i g e) (no-candidates g.bridge)

  group-peer_live : (i : ℕ) (g : Group) → slot groups i ≡ Some g → IsLive sp.heap g.peer
  group-peer_live i g e =
      let h = handle_at sm.held g.bridge in
      let a = strong-one i g e in
      let j = k.owners.held_ones g.bridge h (holds-one i g e) in
      let live = k.peer.handles.uncleared h a.0 j.0 a.1 j.1 (k.peer.handles.sure h a.0 a.1 a.2) in
      subst (IsLive sp.heap) (some-same j.0.peer g.peer (sym (peer_of-issued sp.issued h j.0 j.1) ∙ w.are_held.leads i g h e (holds-one i g e).held)) live

  bridge-apart : (i : ℕ) (g : Group) → slot groups i ≡ Some g → g.bridge ≡ g.plain → ⊥
  bridge-apart i g e q = (let b = w.shown.groups_are i g e in let f : Some (Some b.holds.0) ≡ Some None = sym b.holds.1 ∙ (ap (numbered_at sm.held) q ∙ b.none) in some_none b.holds.0 f)
    where
      some_none : (h : ℕ) → Some (Some h) ≡ Some None → ⊥
      some_none h f = cc

  by-bridges : (i j : ℕ) (g l : Group) → slot groups i ≡ Some g → slot groups j ≡ Some l → g.bridge ≡ l.bridge → i ≡ j
  by-bridges i j g l a b e = w.shown.disjoint i j g l g.bridge a b (inl refl) (inl e)

  pub rows-left : unfreed sm.heap ≡ 2 * filled_ones groups
  rows-left =
      left-count sm.heap (rows_of groups) (rows-distinct groups w.shown.disjoint bridge-apart)
      (λ x c. (let g = row-stands groups x c in let l = group-live minds fills groups s w k g.spot g.group g.there in
      elim g.has [ inl e ↦ subst (IsLive sm.heap) (sym e) l.0 | inr e ↦ subst (IsLive sm.heap) (sym e) l.1 ]))
      some_rows
      ∙ rows-length groups

  pub peers-left : unfreed sp.heap ≡ filled_ones groups
  peers-left =
      left-count sp.heap (peers_of groups)
      (peers-distinct groups (λ i j g l a b e. by-bridges i j g l a b (only-row minds fills groups s w k g.bridge j l g.peer b (sym e) (row-of_group minds fills groups s w k i g a))))
      (λ q c. (let g = peer-stands groups q c in subst (IsLive sp.heap) g.has (group-peer_live g.spot g.group g.there)))
      some_peers
      ∙ peers-length groups

  tabled-kept : (h : ℕ) (row : TableRow) → IsTabled s.peer.table h row → Contains (handles_in sm.held groups) h
  tabled-kept h row t = by row.strength refl
    where
      in-range : (1 ≤ h) × (h ≤ length sp.issued)
      in-range = (let b = numbered-within s.peer.table h (Some row) t in let p = k.peer.handles.places in (b.0, omega (arith, b.1, p)))

      is : (i : Issued) × (numbered_at sp.issued h ≡ Some i)
      is = numbered-made sp.issued h in-range.0 in-range.1

      by : (x : Strength) → row.strength ≡ x → Contains (handles_in sm.held groups) h
      by weak e = (let a = k.owners.weak_ones h (row, t, e) (is.0, is.1, w.peers.holds h is.0 is.1) in absurd (no-candidates a.0 a.2))
      by strong e =
          let live = k.peer.handles.uncleared h row is.0 t is.1 (k.peer.handles.sure h row t e) in
          elim (w.are_held.owned h row t) [
            | inr (inl hand) ↦ absurd (none_some h (sym (w.hands hand.0) ∙ hand.1))
            | inr (inr given) ↦ absurd (Contains-nil h (subst (λ (z : Stand). Contains (handles_given (given_at z)) h) rests given))
            | inl x ↦ (
                let b = numbered-within sm.held x.0 (Some h) x.1 in
                let c = w.shown.places in
                let holds : Holds sm x.0 h = record {
                  live = record {
                    made = (b.0, omega (arith, b.1, c));
                    kept = λ f. (let q = w.are_held.freed x.0 h x.1 f in live.kept
                        (subst (λ z. Contains sp.heap.freed z) (some-same q.0 is.0.peer (sym q.1 ∙ peer_of-issued sp.issued h is.0 is.1)) q.2));
                  };
                  held = x.1;
                } in
                let g = kept-bridge minds fills groups s w k x.0 h holds (some_rows x.0 holds.live) in
                subst (Contains (handles_in sm.held groups)) (is-handle g.spot g.group h (ap (numbered_at sm.held) (sym g.has.0) ∙ x.1)) (stands-handle sm.held groups g.spot g.group g.there))
          ]

  pub handles-left : rows s.peer.table ≡ filled_ones groups
  handles-left =
      table-count (handles_in sm.held groups) s.peer.table
      (handles-distinct sm.held groups (λ i j g l a b e. by-bridges i j g l a b
      (k.managed.alone g.bridge l.bridge (handle_at sm.held g.bridge) (holds-one i g a) (subst (Holds sm l.bridge) (sym e) (holds-one j l b)))))
      (λ h c. (let g = handle-stands sm.held groups h c in let a = strong-one g.spot g.group g.there in subst (λ z. (row : TableRow) × IsTabled s.peer.table z row) g.has (a.0, a.1)))
      tabled-kept
      ∙ handles-length sm.held groups

  pub state-left : left_in s ≡ record { managed = 2 * filled_ones groups; peers = filled_ones groups; handles = filled_ones groups }
  state-left = λ i. record { managed = rows-left i; peers = peers-left i; handles = handles-left i }
