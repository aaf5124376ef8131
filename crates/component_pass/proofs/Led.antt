-- What leads in is handed on from class to class. A set covers what was handed on to its class, or is full; and each
-- class comes after all that lead into it. So in the end a set has all that comes in, or is full.
use Rattle.std.proofs.Common.{◌≡◌, ◌≢◌, ◌↔◌, ◌⊎◌, ℕ, ◌+◌, ◌<◌, ◌≤◌, List, [], ◌∷◌, length, min, get_or, set, refl, sym, ◌∙◌, ap, subst, arith, inl, inr}
use Rattle.std.proofs.lemmas.List.{length-set, get_or-set_same, get_or-set_other}
use Rattle.std.proofs.lemmas.List.Elements.{All-contains, All-set}
use Rattle.std.proofs.lemmas.Bool.{cases_lt, cases_eq}
use Rattle.std.specs.List.{All, Contains}
use Rattle.joint_machine.specs.Components.{Rises}
use Rattle.joint_machine.proofs.Members.{All-members}
use Rattle.joint_machine.proofs.WalkLemmas.{Reaches-then, Reaches-trans, Reaches-keeps}
use Rattle.bridge_graph.specs.declared.graph.Node.{Node}
use Rattle.bridge_graph.specs.Parts.{IsPart, NodeLeads, row_at}
use Rattle.component_pass.specs.Classes.{AreClasses, AreInOrder}
use Rattle.component_pass.specs.Counting.{AreLed, ComesIn, Covers, IsCount, IsWide, Joins, Pushes}
use Rattle.component_pass.specs.Gathering.{AreSets, set_at}
use Rattle.component_pass.specs.Sharing.{index_at, AreNumbered, IsFound, IsOpen, Leaves, Passes}
use Rattle.component_pass.proofs.Capped.{count_least, rises_within}
use Rattle.component_pass.proofs.Finding.{leads_from}
use Rattle.component_pass.proofs.Leaving.{inside, open_leaves, open_of}
use Rattle.component_pass.proofs.Sets.{one_is, set-kept, set-none, set-one, set-rises}
use Rattle.component_pass.proofs.Shared.{sets-none}

pub covers-same : (many : ℕ) (xs : List ℕ) → Covers many xs xs
covers-same many xs = inr (λ j c. c)

pub covers-trans : (many : ℕ) (xs ys zs : List ℕ) → Rises ys → Rises zs → Covers many xs ys → Covers many ys zs → Covers many xs zs
covers-trans many xs ys zs ry rz f g = elim g [
  | inl n ↦ inl n
  | inr k ↦ elim f [ inl m ↦ inl (omega (arith, m, rises_within ys zs ry rz k)) | inr h ↦ inr (λ j c. k j (h j c)) ]
]

module _ (labels indexes counts : List ℕ) (many count own number : ℕ) where
  abbrev Push : (ℕ → Type 0) → List ℕ → List (List ℕ) → List ℕ → List (List ℕ) → Type 0
  Push T ins lists after more = Pushes labels indexes counts many count own number T ins lists after more

  -- where there is no other, or none that takes anything, nothing changes
  pub pushes-none : (T : ℕ → Type 0) (ins : List ℕ) (lists : List (List ℕ)) → AreSets ins lists count (count + length lists)
      → ((v : ℕ) → T v → (get_or labels v 0 ≢ own) × IsWide labels indexes counts v → ⊥) → Push T ins lists ins lists
  pushes-none T ins lists a none = record {
    valid = a;
    size = refl;
    kept = λ k lt. refl;
    longer = omega arith;
    grows = λ l lt. covers-same many (set_at count lists (get_or ins l 0));
    gives = λ v t lt ne w. absurd (none v t (ne, w));
    others = λ l o. refl;
    sound = λ l j lt c. inl c;
  }

  -- one more class takes the set
  pub pushes-one : (y s : ℕ) (ins : List ℕ) (lists more : List (List ℕ)) → AreSets ins lists count (count + length lists) → get_or labels y 0 < length ins → get_or labels y 0 ≢ own
      → IsFound ins lists more count (count + length more) s → Joins many (set_at count lists (get_or ins (get_or labels y 0) 0)) (set_at count lists number) (set_at count more s)
      → Push (λ v. y ≡ v) ins lists (set ins (get_or labels y 0) s) more
  pushes-one y s ins lists more a lt far f jo =
      let at : ℕ = get_or labels y 0 in
      let here : get_or (set ins at s) at 0 ≡ s = get_or-set_same ins at s 0 lt in
      let there : (l : ℕ) → l ≢ at → get_or (set ins at s) l 0 ≡ get_or ins l 0 = λ l ne. get_or-set_other ins at l s 0 ne in
      let old : (l : ℕ) → l ≢ at → l < length ins → set_at count more (get_or (set ins at s) l 0) ≡ set_at count lists (get_or ins l 0) = λ l ne ll.
      ap (λ (k : ℕ). set_at count more k) (there l ne) ∙ set-kept count lists more (get_or ins l 0) (a.known l 0 ll) f.kept in
      record {
        valid = record {
          all = f.valid.all;
          known = All-set (λ z. z < count + length more) ins at s f.known f.valid.known;
          below = f.valid.below;
          rising = f.valid.rising;
          some = f.valid.some;
          none = f.valid.none;
        };
        size = length-set ins at s;
        kept = f.kept;
        longer = f.longer;
        grows = λ l ll. elim (cases_eq l at) [
          | inl is ↦ rw (is, here) jo.first
          | inr ne ↦ rw (old l ne ll) (covers-same many (set_at count lists (get_or ins l 0)))
        ];
        gives = λ v e ll ne w. rw (← e, here) jo.second;
        others = λ l o. there l (λ is. elim o [ inl e ↦ absurd (far (sym is ∙ e)) | inr none ↦ absurd (none y refl (sym is)) ]);
        sound = λ l j ll c. elim (cases_eq l at) [
          | inl is ↦
              let d = subst (λ (k : ℕ). Contains (set_at count more k) j) (ap (λ (k : ℕ). get_or (set ins at s) k 0) is ∙ here) c in
              elim (jo.sound j d) [
                | inl o ↦ inl (subst (λ (k : ℕ). Contains (set_at count lists (get_or ins k 0)) j) (sym is) o)
                | inr n ↦ inr (y, refl, sym is, (λ e. far (sym is ∙ e)), n)
              ]
          | inr ne ↦ inl (subst (λ (xs : List ℕ). Contains xs j) (old l ne ll) c)
        ];
      }

  -- first to some, and then to others
  pub pushes-then : (T U : ℕ → Type 0) (ins mid after : List ℕ) (lists next more : List (List ℕ)) → number < count + length lists
      → Push T ins lists mid next → Push U mid next after more → Push (λ v. T v ⊎ U v) ins lists after more
  pushes-then T U ins mid after lists next more known p q =
      let rise1 : (l : ℕ) → l < length ins → Rises (set_at count next (get_or mid l 0)) = λ l lt. set-rises next count
      (get_or mid l 0) p.valid.rising (p.valid.known l 0 (omega (arith, lt, p.size))) in
      let rise2 : (l : ℕ) → l < length ins → Rises (set_at count more (get_or after l 0)) = λ l lt. set-rises more count
      (get_or after l 0) q.valid.rising (q.valid.known l 0 (omega (arith, lt, p.size, q.size))) in
      let same : set_at count next number ≡ set_at count lists number = set-kept count lists next number known p.kept in
      record {
        valid = q.valid;
        size = q.size ∙ p.size;
        kept = λ k lt. q.kept k (omega (arith, lt, p.longer)) ∙ p.kept k lt;
        longer = omega (arith, p.longer, q.longer);
        grows = λ l lt. covers-trans many (set_at count lists (get_or ins l 0)) (set_at count next (get_or mid l 0))
            (set_at count more (get_or after l 0)) (rise1 l lt) (rise2 l lt) (p.grows l lt) (q.grows l (omega (arith, lt, p.size)));
        gives = λ v t lt ne w. elim t [
          | inl a ↦
              let l : ℕ = get_or labels v 0 in
              covers-trans many (set_at count lists number) (set_at count next (get_or mid l 0)) (set_at count more (get_or after l 0))
              (rise1 l lt) (rise2 l lt) (p.gives v a lt ne w) (q.grows l (omega (arith, lt, p.size)))
          | inr b ↦ subst (λ (xs : List ℕ). Covers many xs (set_at count more (get_or after (get_or labels v 0) 0))) same (q.gives v b (omega (arith, lt, p.size)) ne w)
        ];
        others = λ l o. q.others l (elim o [ inl e ↦ inl e | inr f ↦ inr (λ v u. f v (inr u)) ]) ∙ p.others l (elim o [ inl e ↦ inl e | inr f ↦ inr (λ v u. f v (inl u)) ]);
        sound = λ l j lt c. elim (q.sound l j (omega (arith, lt, p.size)) c) [
          | inl d ↦ elim (p.sound l j lt d) [ inl e ↦ inl e | inr t ↦ inr (t.0, inl t.1, t.2, t.3, t.4) ]
          | inr t ↦ inr (t.0, inr t.1, t.2, t.3, subst (λ (xs : List ℕ). Contains xs j) same t.4)
        ];
      }

  -- the same others under another name
  pub pushes-as : (T U : ℕ → Type 0) (ins after : List ℕ) (lists more : List (List ℕ)) → ((v : ℕ) → T v ↔ U v) → Push T ins lists after more → Push U ins lists after more
  pushes-as T U ins after lists more e p = record {
    valid = p.valid;
    size = p.size;
    kept = p.kept;
    longer = p.longer;
    grows = p.grows;
    gives = λ v u. p.gives v ((e v).1 u);
    others = λ l o. p.others l (elim o [ inl is ↦ inl is | inr f ↦ inr (λ v t. f v ((e v).0 t)) ]);
    sound = λ l j lt c. elim (p.sound l j lt c) [ inl d ↦ inl d | inr t ↦ inr (t.0, (e t.0).0 t.1, t.2, t.3, t.4) ];
  }

module _ (nodes : List Node) (edges : List (List ℕ)) (labels indexes counts : List ℕ) (rows : List (List ℕ)) (many count : ℕ)
    (part : IsPart nodes edges) (cl : AreClasses edges (length nodes) labels) (o : AreInOrder edges (length nodes) labels rows)
    (num : AreNumbered (length nodes) labels (length rows) indexes count) (size : length indexes ≡ length rows) (three : 3 ≤ many)
    (cs : (l : ℕ) → l < length rows → IsCount (Leaves edges (length nodes) labels indexes l) many (get_or counts l 0)) where
  abbrev E : ℕ → ℕ → Type 0
  E = NodeLeads edges

  abbrev Open : ℕ → Type 0
  Open = IsOpen labels indexes

  abbrev Wide : ℕ → Type 0
  Wide = IsWide labels indexes counts

  abbrev Pass : ℕ → ℕ → Type 0
  Pass = Passes edges labels indexes

  abbrev at : ℕ → ℕ
  at x = get_or labels x 0

  abbrev Led : ℕ → List ℕ → List (List ℕ) → Type 0
  Led c ins lists = AreLed edges (length nodes) labels indexes counts many count c ins lists

  -- what leads to a wide class leads to all that this leads to
  wide_up : (u v : ℕ) → u < length nodes → E u v → at u ≢ at v → Wide v → 3 ≤ get_or counts (at u) 0
  wide_up u v ul e ne w = elim (cases_lt (get_or counts (at u) 0) 3) [
    | inl few ↦
        let vl = part.in_range u v e in
        let k = cs (at v) (o.labelled v vl) in
        let out : (j : ℕ) → Contains k.named j → Leaves edges (length nodes) labels indexes (at u) j = λ j c.
        (u, v, ul, refl, e, (λ is. ne (sym is)), (open_leaves nodes edges labels indexes part cl v j vl w.0).1 (All-contains (Leaves edges (length nodes) labels indexes (at v)) k.named j k.hold c)) in
        let most = count_least (Leaves edges (length nodes) labels indexes (at u)) many (get_or counts (at u) 0) k.named (cs (at u) (o.labelled u ul)) (omega (arith, few, three)) k.rise
        (All-members (Leaves edges (length nodes) labels indexes (at u)) k.named out) in
        absurd (omega (arith, most, k.least, w.1, few))
    | inr ge ↦ ge
  ]

  apart : (u v : ℕ) → (Open u → ⊥) → Open v → at u ≢ at v
  apart u v closed vo is = closed (open_of nodes edges labels indexes part cl v u (sym is) vo)

  pub led-none : (ins : List ℕ) → length ins ≡ length rows → All (λ s. s ≡ count) ins → Led (length rows) ins ([] ∷ [])
  led-none ins len all = record {
    valid = sets-none count ins all;
    size = len ∙ sym size;
    sound = λ x j lt z c.
        let e : get_or ins (at x) 0 ≡ count = all (at x) 0 (omega (arith, o.labelled x lt, len)) in
        let n = subst (λ (xs : List ℕ). Contains xs j) (ap (λ (s : ℕ). set_at count ([] ∷ []) s) e ∙ set-none count ([] ∷ []) refl) c in
        absurd (omega (arith, n.1));
    from_own = λ u v ul e le. absurd (omega (arith, le, o.labelled u ul));
    from_bare = λ u v ul e le. absurd (omega (arith, le, o.labelled u ul));
  }

  -- a class that leads to fewer than three has no wide class behind it
  pub led-skip : (own : ℕ) (ins : List ℕ) (lists : List (List ℕ)) → get_or counts own 0 < 3 → Led (own + 1) ins lists → Led own ins lists
  led-skip own ins lists few h = record {
    valid = h.valid;
    size = h.size;
    sound = h.sound;
    from_own = λ u v ul e le closed w. elim (cases_eq (at u) own) [
      | inl is ↦ absurd (omega (arith, few, wide_up u v ul e (apart u v closed w.0) w, ap (λ (l : ℕ). get_or counts l 0) is))
      | inr ne ↦ h.from_own u v ul e (omega (arith, le, ne)) closed w
    ];
    from_bare = λ u v ul e le uo far w. elim (cases_eq (at u) own) [
      | inl is ↦ absurd (omega (arith, few, wide_up u v ul e far w, ap (λ (l : ℕ). get_or counts l 0) is))
      | inr ne ↦ h.from_bare u v ul e (omega (arith, le, ne)) uo far w
    ];
  }

  -- one class more hands on its set
  pub led-push : (own number : ℕ) (ins after : List ℕ) (lists more : List (List ℕ)) → own < length rows
      → (get_or indexes own 0 ≡ 4294967295 → number ≡ get_or ins own 0) → (get_or indexes own 0 ≢ 4294967295 → number ≡ get_or indexes own 0)
      → Pushes labels indexes counts many count own number (λ v. (u : ℕ) × Contains (row_at rows own) u × Contains (row_at edges u) v) ins lists after more
      → Led (own + 1) ins lists → Led own after more
  led-push own number ins after lists more ol bare closed_is p h =
      let in_ins : (x : ℕ) → x < length nodes → at x < length ins = λ x lt. omega (arith, o.labelled x lt, h.size, size) in
      let rise : (x : ℕ) → x < length nodes → Rises (set_at count lists (get_or ins (at x) 0)) = λ x lt. set-rises lists count
      (get_or ins (at x) 0) h.valid.rising (h.valid.known (at x) 0 (in_ins x lt)) in
      let rise' : (x : ℕ) → x < length nodes → Rises (set_at count more (get_or after (at x) 0)) = λ x lt. set-rises more count
      (get_or after (at x) 0) p.valid.rising (p.valid.known (at x) 0 (omega (arith, in_ins x lt, p.size))) in
      let one : get_or indexes own 0 ≢ 4294967295 → set_at count lists number ≡ get_or indexes own 0 ∷ [] = λ ne.
      ap (λ (s : ℕ). set_at count lists s) (closed_is ne) ∙ set-one count lists (get_or indexes own 0) (num.below own ol ne) in
      record {
        valid = p.valid;
        size = p.size ∙ h.size;
        sound = λ x j xl xo c. elim (p.sound (at x) j (in_ins x xl) c) [
          | inl old ↦ h.sound x j xl xo old
          | inr t ↦
              let v : ℕ = t.0 in
              let u : ℕ = t.1.0 in
              let e : E u v = t.1.2 in
              let m = (o.members own u).0 t.1.1 in
              let vl = part.in_range u v e in
              let on = inside nodes edges labels indexes part cl v x vl xl (open_of nodes edges labels indexes part cl x v (sym t.2) xo) t.2 in
              elim (cases_eq (get_or indexes own 0) 4294967295) [
                | inl b ↦
                    let uo : Open u = ap (λ (l : ℕ). get_or indexes l 0) m.1 ∙ b in
                    let d = subst (λ (s : ℕ). Contains (set_at count lists s) j) (bare b ∙ ap (λ (l : ℕ). get_or ins l 0) (sym m.1)) t.4 in
                    let s = h.sound u j m.0 uo d in
                    (s.0, s.1, s.2, s.3, s.4, Reaches-trans Pass s.1 v x (Reaches-then Pass s.1 u v s.5 (uo, e)) on)
                | inr ne ↦
                    let is = (one_is (get_or indexes own 0) j).0 (subst (λ (xs : List ℕ). Contains xs j) (one ne) t.4) in
                    (u, v, (λ z. ne (ap (λ (l : ℕ). get_or indexes l 0) (sym m.1) ∙ z)), ap (λ (l : ℕ). get_or indexes l 0) m.1 ∙ is, e, on)
              ]
        ];
        from_own = λ u v ul e le closed w.
            let vl = part.in_range u v e in
            let ne = apart u v closed w.0 in
            elim (cases_eq (at u) own) [
              | inl is ↦
                  let g = p.gives v (u, (o.members own u).1 (ul, is), e) (in_ins v vl) (λ f. ne (is ∙ sym f)) w in
                  subst (λ (xs : List ℕ). Covers many xs (set_at count more (get_or after (at v) 0)))
                  (one (λ z. closed (ap (λ (l : ℕ). get_or indexes l 0) is ∙ z)) ∙ ap (λ (l : ℕ). get_or indexes l 0 ∷ []) (sym is)) g
              | inr far ↦
                  covers-trans many (index_at labels indexes u ∷ []) (set_at count lists (get_or ins (at v) 0)) (set_at count more (get_or after (at v) 0)) (rise v vl) (rise' v vl)
                  (h.from_own u v ul e (omega (arith, le, far)) closed w) (p.grows (at v) (in_ins v vl))
            ];
        from_bare = λ u v ul e le uo ne w.
            let vl = part.in_range u v e in
            let kept : get_or after (at u) 0 ≡ get_or ins (at u) 0 = p.others (at u) (elim (cases_eq (at u) own) [
              | inl is ↦ inl is
              | inr far ↦ inr (λ y t is. absurd (let m = (o.members own t.0).0 t.1 in omega (arith, o.backwards t.0 y t.2, m.1, is, le, far)))
            ]) in
            let same : set_at count more (get_or after (at u) 0) ≡ set_at count lists (get_or ins (at u) 0) = ap (λ (s : ℕ). set_at count more s) kept
            ∙ set-kept count lists more (get_or ins (at u) 0) (h.valid.known (at u) 0 (in_ins u ul)) p.kept in
            subst (λ (xs : List ℕ). Covers many xs (set_at count more (get_or after (at v) 0))) (sym same) (elim (cases_eq (at u) own) [
              | inl is ↦
                  let g = p.gives v (u, (o.members own u).1 (ul, is), e) (in_ins v vl) (λ f. ne (is ∙ sym f)) w in
                  let b : get_or indexes own 0 ≡ 4294967295 = ap (λ (l : ℕ). get_or indexes l 0) (sym is) ∙ uo in
                  subst (λ (s : ℕ). Covers many (set_at count lists s) (set_at count more (get_or after (at v) 0))) (bare b ∙ ap (λ (l : ℕ). get_or ins l 0) (sym is)) g
              | inr far ↦
                  covers-trans many (set_at count lists (get_or ins (at u) 0)) (set_at count lists (get_or ins (at v) 0)) (set_at count more (get_or after (at v) 0)) (rise v vl) (rise' v vl)
                  (h.from_bare u v ul e (omega (arith, le, far)) uo ne w) (p.grows (at v) (in_ins v vl))
            ]);
      }

  -- in the end the sets count what comes in
  pub led-count : (ins : List ℕ) (lists : List (List ℕ)) (x : ℕ) → Led 0 ins lists → x < length nodes → Wide x
      → IsCount (ComesIn edges labels indexes x) many (min (length (set_at count lists (get_or ins (at x) 0))) many)
  led-count ins lists x h xl w =
      let S : ℕ → List ℕ = λ y. set_at count lists (get_or ins (at y) 0) in
      let known : (y : ℕ) → y < length nodes → get_or ins (at y) 0 < count + length lists = λ y lt. h.valid.known (at y) 0 (omega (arith, o.labelled y lt, h.size, size)) in
      let rise : (y : ℕ) → y < length nodes → Rises (S y) = λ y lt. set-rises lists count (get_or ins (at y) 0) h.valid.rising (known y lt) in
      record {
        named = S x;
        rise = rise x xl;
        hold = All-members (ComesIn edges labels indexes x) (S x) (λ j c. h.sound x j xl w.0 c);
        least = omega arith;
        most = λ few. omega (arith, few);
        whole = λ few j t.
            let u : ℕ = t.0 in
            let ul : u < length nodes = omega (arith, leads_from edges u t.1 t.4, part.rows) in
            let first : Wide t.1 → (many ≤ length (S t.1)) ⊎ Contains (S t.1) j = λ q. elim (h.from_own u t.1 ul t.4 (omega arith) t.2 q) [
              | inl m ↦ inl m
              | inr f ↦ inr (f j ((one_is (index_at labels indexes u) j).1 t.3))
            ] in
            let end = Reaches-keeps Pass (λ y. (y < length nodes) × (Wide y → (many ≤ length (S y)) ⊎ Contains (S y) j))
            (λ y z g k.
            let zl = part.in_range y z g.1 in (
              zl,
              λ q. elim (cases_eq (at y) (at z)) [
                | inl is ↦ subst (λ (l : ℕ). (many ≤ length (set_at count lists (get_or ins l 0))) ⊎ Contains (set_at count lists (get_or ins l 0)) j) is
                    (k.1 (g.0, subst (λ (l : ℕ). 3 ≤ get_or counts l 0) (sym is) q.1))
                | inr ne ↦
                    let had = k.1 (g.0, wide_up y z k.0 g.1 ne q) in
                    elim (h.from_bare y z k.0 g.1 (omega arith) g.0 ne q) [
                      | inl m ↦ inl m
                      | inr f ↦ elim had [ inl m ↦ inl (omega (arith, m, rises_within (S y) (S z) (rise y k.0) (rise z zl) f)) | inr c ↦ inr (f j c) ]
                    ]
              ],
            ))
            t.1 x t.5 (part.in_range u t.1 t.4, first) in
            elim (end.1 w) [ inl m ↦ absurd (omega (arith, few, m)) | inr c ↦ c ];
      }
