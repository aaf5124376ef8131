-- What the references of a row lead to over temporaries. The row and the temporaries that were gone through are done:
-- what their references lead to is marked, or seen. A temporary that is seen was seen before, waits, or is done, and
-- whatever a waiting one leads to the row leads to. Once none waits, a walk from a done end meets only done ones, up to
-- a temporary that was seen before, behind which all is marked already.
--
-- A turn takes one temporary from those that wait, and each that joins them wasn't seen: the unseen ones, with those
-- that wait, become fewer.
use Rattle.std.proofs.Common.{◌≡◌, ℕ, suc, ◌+◌, ◌≤◌, ◌<◌, ◌⊎◌, inl, inr, Bool, List, [], ◌∷◌, ◌++◌, length, Some, refl, sym, ap, subst, ◌∙◌, arith}
use Rattle.std.specs.Prelude.{Contains, slice_get}
use Rattle.std.proofs.lemmas.List.Elements.{Contains-append_left, Contains-push, Contains-push_cases}
use Rattle.joint_machine.specs.Components.{End, node, temporary}
use Rattle.joint_machine.specs.PeerReplay.{LeadsOver, Refers}
use Rattle.joint_machine.proofs.Members.{Contains-nil, Contains-here, Contains-there, Contains-cons_cases}
use Rattle.reachability.specs.Marks.{HasMark, unmarked}
use Rattle.reachability.proofs.Marking.{unmarked-le}
use Rattle.row_marking.specs.Traces.{Chained, GreyChain, Greyed, greys}
use Rattle.row_marking.proofs.Greys.{GreyChain-one, Greyed-then, greys-of}
use Rattle.row_heap.specs.Ends.{IsTemporary, Raises, Sees}

-- a reference of a done end leads to the row
abbrev pub IsLed : List (End × End) → List End → ℕ → Type 0
IsLed refs done y = (e : End) × Contains done e × Contains refs (e, node y)

-- a marking goes through what row x refers to: these ends are done, and these temporaries wait
pub record Crossing (refs : List (End × End)) (x : ℕ) (before : List Bool) (m0 : List Bool) (k0 : List ℕ)
    (h0 : ℕ) (seen : List Bool) (links : List ℕ) (through : ℕ) (m : List Bool) (k : List ℕ) (h : ℕ) : Type 0 where
  pub done : List End
  pub waits : List ℕ
  pub chained : Chained seen links through waits
  pub row : Contains done (node x)
  pub led : (e : End) (ts : List ℕ) (y : ℕ) → Contains done e → LeadsOver refs e ts y → Refers refs x y
  pub ahead : (t : ℕ) (ts : List ℕ) (y : ℕ) → Contains waits (suc t) → LeadsOver refs (temporary t) ts y → Refers refs x y
  pub parted : (t : ℕ) → HasMark seen (suc t) → HasMark before (suc t) ⊎ (Contains waits (suc t) ⊎ Contains done (temporary t))
  pub on : (e : End) (u : ℕ) → Contains done e → Contains refs (e, temporary u) → HasMark seen (suc u)
  pub raised : Raises (IsLed refs done) m0 m
  pub greyed : Greyed (IsLed refs done) m0 k0 h0 m k h
  pub len : length seen ≡ length before
  pub room : unmarked seen + length waits ≤ unmarked before

-- a temporary that the end's references lead to is seen
sees : (refs : List (End × End)) (e : End) (u : ℕ) → Contains refs (e, temporary u) → Sees refs e (suc u)
sees refs e u c = (temporary u, c, refl)

sees-of : (refs : List (End × End)) (e : End) (t : ℕ) → Sees refs e (suc t) → Contains refs (e, temporary t)
sees-of refs e t (f, c, is) = by f c is
  where
    by : (f : End) → Contains refs (e, f) → IsTemporary f (suc t) → Contains refs (e, temporary t)
    by (node x) c is = absurd is
    by (temporary u) c is = subst (λ z. Contains refs (e, temporary z)) (let q : u ≡ t = omega (arith, is) in q) c

pub Raises-then : (p q r : ℕ → Type 0) (a b c : List Bool) → ((k : ℕ) → r k → p k ⊎ q k) → Raises p a b → Raises q b c → Raises r a c
Raises-then p q r a b c split one two = record { kept = λ k m. two.kept k (one.kept k m); done = λ k w. elim (split k w) [ inl v ↦ two.kept k (one.done k v) | inr v ↦ two.done k v ] }

pub Raises-none : (p : ℕ → Type 0) (a : List Bool) → ((k : ℕ) → p k → ⊥) → Raises p a a
Raises-none p a none = record { kept = λ k m. m; done = λ k w. absurd (none k w) }

-- the row's own references are done
pub crossing-begins : (refs : List (End × End)) (x : ℕ) (before : List Bool) (l0 : List ℕ) (m0 : List Bool)
    (k0 : List ℕ) (h0 : ℕ) (seen : List Bool) (links : List ℕ) (through : ℕ) (m : List Bool) (k : List ℕ) (h : ℕ)
    → Raises (λ y. Contains refs (node x, node y)) m0 m → Greyed (λ y. Contains refs (node x, node y)) m0 k0 h0 m k h
    → Greyed (Sees refs (node x)) before l0 0 seen links through → Crossing refs x before m0 k0 h0 seen links through m k h
crossing-begins refs x before l0 m0 k0 h0 seen links through m k h raised greyed sight =
    let g = sight [] record { chain = refl; marked = λ t w. absurd (Contains-nil t w) } in
    let own : (y : ℕ) → IsLed refs (node x ∷ []) y → Contains refs (node x, node y) = λ y w. subst (λ e. Contains refs (e, node y)) (only w.0 w.1) w.2 in
    record {
      done = node x ∷ [];
      waits = g.waits;
      chained = g.chained;
      row = Contains-here (node x) [];
      led = λ e ts y c w. record { through = ts; walk = subst (λ d. LeadsOver refs d ts y) (only e c) w };
      ahead = λ t ts y c w. elim (g.anew (suc t) c) [
        | inl none ↦ absurd (Contains-nil (suc t) none)
        | inr new ↦ record { through = t ∷ ts; walk = (sees-of refs (node x) t new.1, w) }
      ];
      parted = λ t s. elim (g.scans.fresh (suc t) s) [ inl w ↦ inl w | inr w ↦ inr (inl w.1) ];
      on = λ e u c r. g.scans.done (suc u) (sees refs (node x) u (subst (λ d. Contains refs (d, temporary u)) (only e c) r));
      raised = record { kept = raised.kept; done = λ y w. raised.done y (own y w) };
      greyed = Greyed-then (λ y. Contains refs (node x, node y)) (λ y. ⊥) (IsLed refs (node x ∷ [])) _ _ _ _ _ _ _ _ _
          (λ y w. inl (own y w)) (λ y c. (node x, Contains-here (node x) [], c)) (λ y f. absurd f) greyed (still m k h);
      len = g.scans.len;
      room = omega (arith, g.scans.same);
    }
  where
    only : (e : End) → Contains (node x ∷ []) e → e ≡ node x
    only e c = elim (Contains-cons_cases (node x) [] e c) [ inl s ↦ sym s | inr w ↦ absurd (Contains-nil e w) ]

    still : (m : List Bool) (k : List ℕ) (h : ℕ) → Greyed (λ y. ⊥) m k h m k h
    still m k h waited c = record {
      waits = waited;
      chained = c;
      scans = record { len = refl; kept = λ z w. w; done = λ z f. absurd f; fresh = λ z w. inl w; stays = λ z w. w; within = λ z w. inl w; fewer = omega arith; same = refl };
      anew = λ z w. inl w;
    }

-- the first temporary that waits is seen, and the row leads over it
module _ (refs : List (End × End)) (x : ℕ) (before : List Bool) (m0 : List Bool) (k0 : List ℕ) (h0 : ℕ) (seen : List Bool)
    (links : List ℕ) (t : ℕ) (m : List Bool) (k : List ℕ) (h : ℕ) (i : Crossing refs x before m0 k0 h0 seen links (suc t) m k h) where
  first-waits : Contains i.waits (suc t)
  first-waits = by i.waits i.chained.chain
    where
      by : (waits : List ℕ) → GreyChain links (suc t) waits → Contains waits (suc t)
      by [] c = absurd (omega (arith, c))
      by (z ∷ rest) c = subst (Contains (z ∷ rest)) (sym c.0) (Contains-here z rest)

  pub crossing-seen : HasMark seen (suc t)
  crossing-seen = i.chained.marked (suc t) first-waits

  pub crossing-over : (y : ℕ) → Contains refs (temporary t, node y) → Refers refs x y
  crossing-over y c = i.ahead t [] y first-waits c

-- the first temporary that waits is gone through
pub crossing-goes : (refs : List (End × End)) (x : ℕ) (before : List Bool) (m0 : List Bool) (k0 : List ℕ) (h0 : ℕ) (seen : List Bool) (links : List ℕ)
    (t next : ℕ) (m : List Bool) (k : List ℕ) (h : ℕ) (seen' : List Bool) (links' : List ℕ) (through' : ℕ) (m' : List Bool) (k' : List ℕ) (h' : ℕ)
    → Crossing refs x before m0 k0 h0 seen links (suc t) m k h → slice_get links (suc t) ≡ Some next → Raises (λ y. Contains refs (temporary t, node y)) m m'
    → Greyed (λ y. Contains refs (temporary t, node y)) m k h m' k' h' → Greyed (Sees refs (temporary t)) seen links next seen' links' through'
    → Crossing refs x before m0 k0 h0 seen' links' through' m' k' h'
crossing-goes refs x before m0 k0 h0 seen links t next m k h seen' links' through' m' k' h' i at raised greyed sight = by i.waits i.chained.chain refl
  where
    by : (waits : List ℕ) → GreyChain links (suc t) waits → i.waits ≡ waits → Crossing refs x before m0 k0 h0 seen' links' through' m' k' h'
    by [] c e = absurd (omega (arith, c))
    by (z ∷ rest) (ez, oz, (n, atz, tail)) e =
        let same : n ≡ next = (let q : Some n ≡ Some next = sym atz ∙ (ap (slice_get links) (sym ez) ∙ at) in cc) in
        let inside : (u : ℕ) → Contains rest u → Contains i.waits u = λ u w. subst (λ l. Contains l u) (sym e) (Contains-there u z rest w) in
        let there : Chained seen links next rest = record { chain = subst (λ d. GreyChain links d rest) same tail; marked = λ u w. i.chained.marked u (inside u w) } in
        let g = sight rest there in
        let here : Contains i.waits (suc t) = subst (λ l. Contains l (suc t)) (sym e) (subst (Contains (z ∷ rest)) (sym ez) (Contains-here z rest)) in
        let more : List End = i.done ++ temporary t ∷ [] in
        let count : length i.waits ≡ suc (length rest) = ap length e in
        record {
          done = more;
          waits = g.waits;
          chained = g.chained;
          row = Contains-append_left i.done (temporary t ∷ []) (node x) i.row;
          led = λ d ts y c w. elim (Contains-push_cases i.done (temporary t) d c) [ inl v ↦ i.led d ts y v w | inr v ↦ i.ahead t ts y here (subst (λ q. LeadsOver refs q ts y) (sym v) w) ];
          ahead = λ u ts y c w. elim (g.anew (suc u) c) [
            | inl v ↦ i.ahead u ts y (inside (suc u) v) w
            | inr v ↦ i.ahead t (u ∷ ts) y here (sees-of refs (temporary t) u v.1, w)
          ];
          parted = λ u s. elim (g.scans.fresh (suc u) s) [
            | inr w ↦ inr (inl w.1)
            | inl w ↦ elim (i.parted u w) [
              | inl v ↦ inl v
              | inr v ↦ elim v [
                | inr d ↦ inr (inr (Contains-append_left i.done (temporary t ∷ []) (temporary u) d))
                | inl q ↦ elim (Contains-cons_cases z rest (suc u) (subst (λ l. Contains l (suc u)) e q)) [
                  | inr r ↦ inr (inl (g.scans.stays (suc u) r))
                  | inl r ↦ inr (inr (subst (λ d. Contains more (temporary d)) (let s : t ≡ u = omega (arith, r, ez) in s) (Contains-push i.done (temporary t))))
                ]
              ]
            ]
          ];
          on = λ d u c r. elim (Contains-push_cases i.done (temporary t) d c) [
            | inl v ↦ g.scans.kept (suc u) (i.on d u v r)
            | inr v ↦ g.scans.done (suc u) (sees refs (temporary t) u (subst (λ q. Contains refs (q, temporary u)) (sym v) r))
          ];
          raised = Raises-then (IsLed refs i.done) (λ y. Contains refs (temporary t, node y)) (IsLed refs more) m0 m m' split i.raised raised;
          greyed = Greyed-then (IsLed refs i.done) (λ y. Contains refs (temporary t, node y)) (IsLed refs more) m0 k0 h0 m k h m' k' h' split
              (λ y w. (w.0, Contains-append_left i.done (temporary t ∷ []) w.0 w.1, w.2)) (λ y c. (temporary t, Contains-push i.done (temporary t), c)) i.greyed greyed;
          len = g.scans.len ∙ i.len;
          room = omega (arith, g.scans.same, i.room, count);
        }
      where
        split : (y : ℕ) → IsLed refs (i.done ++ temporary t ∷ []) y → IsLed refs i.done y ⊎ Contains refs (temporary t, node y)
        split y w = elim (Contains-push_cases i.done (temporary t) w.0 w.1) [ inl v ↦ inl (w.0, v, w.2) | inr v ↦ inr (subst (λ q. Contains refs (q, node y)) (sym v) w.2) ]

-- each turn makes the measure smaller
pub crossing-smaller : (refs : List (End × End)) (x : ℕ) (before : List Bool) (m0 : List Bool) (k0 : List ℕ) (h0 : ℕ) (seen : List Bool)
    (links : List ℕ) (t next : ℕ) (m : List Bool) (k : List ℕ) (h : ℕ) (seen' : List Bool) (links' : List ℕ) (through' : ℕ)
    → Crossing refs x before m0 k0 h0 seen links (suc t) m k h → slice_get links (suc t) ≡ Some next → Greyed (Sees refs (temporary t)) seen links next seen' links' through'
    → unmarked seen' + length (greys links' (length seen') through') < unmarked seen + length (greys links (length seen) (suc t))
crossing-smaller refs x before m0 k0 h0 seen links t next m k h seen' links' through' i at sight = by i.waits i.chained.chain i.chained.marked i.room
  where
    by : (waits : List ℕ) → GreyChain links (suc t) waits → ((u : ℕ) → Contains waits u → HasMark seen u) → unmarked seen + length waits ≤ unmarked before
        → unmarked seen' + length (greys links' (length seen') through') < unmarked seen + length (greys links (length seen) (suc t))
    by [] c marked room = absurd (omega (arith, c))
    by (z ∷ rest) (ez, oz, (n, atz, tail)) marked room =
        let same : n ≡ next = (let q : Some n ≡ Some next = sym atz ∙ (ap (slice_get links) (sym ez) ∙ at) in cc) in
        let there : Chained seen links next rest = record { chain = subst (λ d. GreyChain links d rest) same tail; marked = λ u w. marked u (Contains-there u z rest w) } in
        let g = sight rest there in
        let old : greys links (length seen) (suc t) ≡ z ∷ rest = greys-of links (length seen) (suc t) (z ∷ rest) (ez, oz, (n, atz, tail)) (omega (arith, room, unmarked-le before, i.len)) in
        let new : greys links' (length seen') through' ≡ g.waits = greys-of links' (length seen') through' g.waits g.chained.chain
        (omega (arith, g.scans.same, g.scans.len, room, unmarked-le before, i.len)) in
        rw (old, new) (omega (arith, g.scans.same))

-- once none waits, what a done end leads to is marked
module _ (refs : List (End × End)) (x : ℕ) (before : List Bool) (m0 : List Bool) (k0 : List ℕ) (h0 : ℕ) (seen : List Bool)
    (links : List ℕ) (m : List Bool) (k : List ℕ) (h : ℕ) (up : ℕ → Type 0) (i : Crossing refs x before m0 k0 h0 seen links 0 m k h)
    (sights : (t : ℕ) (ts : List ℕ) (y : ℕ) → HasMark before (suc t) → LeadsOver refs (temporary t) ts y → up y → HasMark m0 y) where
  none-waits : (t : ℕ) → Contains i.waits t → ⊥
  none-waits t c = Contains-nil t (subst (λ l. Contains l t) (GreyChain-one links 0 i.waits [] i.chained.chain refl) c)

  done-marked : (ts : List ℕ) (e : End) (y : ℕ) → Contains i.done e → LeadsOver refs e ts y → up y → IsLed refs i.done y ⊎ HasMark m0 y
  done-marked [] e y c w u = inl (e, c, w)
  done-marked (t ∷ ts) e y c w u = elim (i.parted t (i.on e t c w.0)) [
    | inl v ↦ inr (sights t ts y v w.1 u)
    | inr v ↦ elim v [ inl q ↦ absurd (none-waits (suc t) q) | inr d ↦ done-marked ts (temporary t) y d w.1 u ]
  ]

  -- so what the row refers to is marked
  pub crossing-ends : ((y : ℕ) → Refers refs x y → up y) → Greyed (Refers refs x) m0 k0 h0 m k h
  crossing-ends live waited c =
      let g = i.greyed waited c in
      let s = g.scans in
      record {
        waits = g.waits;
        chained = g.chained;
        scans = record {
          len = s.len;
          kept = s.kept;
          done = λ y r. elim (done-marked r.through (node x) y i.row r.walk (live y r)) [ inl w ↦ s.done y w | inr w ↦ s.kept y w ];
          fresh = λ y w. elim (s.fresh y w) [ inl v ↦ inl v | inr v ↦ inr (i.led v.0.0 [] y v.0.1 v.0.2, v.1) ];
          stays = s.stays;
          within = s.within;
          fewer = s.fewer;
          same = s.same;
        };
        anew = λ y w. elim (g.anew y w) [ inl v ↦ inl v | inr v ↦ inr (v.0, i.led v.1.0 [] y v.1.1 v.1.2) ];
      }

  -- and what a temporary leads to that is seen
  pub crossing-sights : (t : ℕ) (ts : List ℕ) (y : ℕ) → HasMark seen (suc t) → LeadsOver refs (temporary t) ts y → up y → HasMark m y
  crossing-sights t ts y s w u = elim (i.parted t s) [
    | inl v ↦ i.raised.kept y (sights t ts y v w u)
    | inr v ↦ elim v [
      | inl q ↦ absurd (none-waits (suc t) q)
      | inr d ↦ elim (done-marked ts (temporary t) y d w u) [ inl r ↦ i.raised.done y r | inr r ↦ i.raised.kept y r ]
    ]
  ]
