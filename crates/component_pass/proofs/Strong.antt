-- Tarjan's algorithm is right. Each frame's node reaches all that lies above it on the stack; each finished
-- node on the stack reaches a node below it; and no edge of a finished node, or one that was scanned, leads
-- below its frame's low place. So where a frame ends with its own place as the lowest, nothing leads from its
-- part of the stack to what lies below: from each node of the part one comes down to the frame's node, and
-- the part is a class. Where the lowest place is lower, the part is left to the frame below.
use Rattle.std.proofs.Common.{◌≡◌, ◌≢◌, ◌⊎◌, ℕ, suc, zero, ◌+◌, ◌-◌, ◌<◌, ◌≤◌, min, eqb, List, [], ◌∷◌, ◌++◌, length, take, drop, get_or, set, refl, sym, ◌∙◌, ap, subst, arith, inl, inr}
use Rattle.std.proofs.lemmas.List.{length_push, length-set, length-take-le, length-drop, get_or-drop, get_or-set_same, get_or-set_other, get_or-take, get_or_append_left, get_or_push, get_or_default}
use Rattle.std.proofs.lemmas.List.{get_or_past}
use Rattle.std.proofs.lemmas.List.Elements.{Contains-get_or}
use Rattle.std.proofs.lemmas.Bool.{cases_lt, cases_eq, cases_order, cases_Bool, eq-eqb, ne_eqb}
use Rattle.std.specs.List.{All, Contains}
use Rattle.joint_machine.specs.Walks.{Reaches, Mutual}
use Rattle.joint_machine.proofs.WalkLemmas.{Reaches-self, Reaches-edge, Reaches-then, Reaches-trans, Reaches-keeps, Mutual-sym, Mutual-trans}
use Rattle.bridge_graph.specs.Parts.{NodeLeads, row_at}
use Rattle.component_pass.specs.declared.tarjan.Frame.{Frame}
use Rattle.component_pass.specs.Classes.{AreClasses, AreInOrder}
use Rattle.component_pass.proofs.Finding.{leads_from}
use Rattle.component_pass.specs.Tarjan.{IsSegment, AreSegments, AreSorted, IsGoing, ScansRow, unseen, done_mark}

pub unseen-set : (marks : List ℕ) (w v : ℕ) → w < length marks → get_or marks w 0 ≡ 0 → 0 < v → unseen (set marks w v) + 1 ≡ unseen marks
unseen-set [] w v lt f p = absurd (omega (arith, lt))
unseen-set (m ∷ marks) zero v lt f p = rw (ne_eqb v 0 (λ e. absurd (omega (arith, e, p))), eq-eqb m 0 f) (omega arith)
unseen-set (m ∷ marks) (suc w) v lt f p = omega (arith, unseen-set marks w v (omega (arith, lt)) f p)

pub unseen-fewer : (marks after : List ℕ) → length after ≡ length marks → ((k : ℕ) → get_or after k 0 ≡ 0 → get_or marks k 0 ≡ 0) → unseen after ≤ unseen marks
unseen-fewer [] [] n h = omega arith
unseen-fewer [] (a ∷ after) n h = absurd (omega (arith, n))
unseen-fewer (m ∷ marks) [] n h = absurd (omega (arith, n))
unseen-fewer (m ∷ marks) (a ∷ after) n h =
    let rest = unseen-fewer marks after (omega (arith, n)) (λ k. h (suc k)) in
    elim (cases_eq a 0) [
      | inl e ↦ rw (eq-eqb a 0 e, eq-eqb m 0 (h 0 e)) (omega (arith, rest))
      | inr ne ↦ rw (ne_eqb a 0 ne) (omega (arith, rest))
    ]

unseen-all : (marks : List ℕ) → unseen marks ≤ length marks
unseen-all [] = omega arith
unseen-all (m ∷ marks) = elim (cases_Bool (eqb m 0)) [
  | inl t ↦ rw t (omega (arith, unseen-all marks))
  | inr f ↦ rw f (omega (arith, unseen-all marks))
]

-- what lies behind a place of the list
pub to_drop : (xs : List ℕ) (at k x : ℕ) → at ≤ k → k < length xs → get_or xs k 0 ≡ x → Contains (drop at xs) x
to_drop xs at k x a b e =
    let i : ℕ = k - at in
    let is : get_or (drop at xs) i x ≡ x = get_or-drop at xs i x ∙ ap (λ (j : ℕ). get_or xs j x) (let t : at + i ≡ k = omega (arith, a) in t) ∙ get_or_default xs k x 0 b ∙ e in
    (i, omega (arith, a, b, length-drop at xs), is)

pub from_drop : (xs : List ℕ) (at x : ℕ) → Contains (drop at xs) x → (k : ℕ) × (at ≤ k) × (k < length xs) × (get_or xs k 0 ≡ x)
from_drop xs at x c =
    let lt : at + c.0 < length xs = omega (arith, c.1, length-drop at xs) in
    (at + c.0, omega arith, lt, get_or_default xs (at + c.0) 0 x lt ∙ sym (get_or-drop at xs c.0 x) ∙ c.2)

module _ (edges : List (List ℕ)) (count : ℕ) (in_range : (x y : ℕ) → NodeLeads edges x y → y < count) (few : count < 4294967295) where
  abbrev E : ℕ → ℕ → Type 0
  E = NodeLeads edges

  -- a segment stays one where its part of the stack stays and marks only rise
  seg-move : (stack after marks marks' : List ℕ) (f : Frame) (end : ℕ)
      → ((i : ℕ) → i < end → get_or after i 0 ≡ get_or stack i 0)
      → ((i : ℕ) → f.at ≤ i → i < length after → Reaches E f.node (get_or after i 0))
      → ((w : ℕ) → f.low < get_or marks w 0 → f.low < get_or marks' w 0)
      → IsSegment edges stack marks f end → IsSegment edges after marks' f end
  seg-move stack after marks marks' f end same reach up s = record {
    below = s.below;
    is = same f.at s.below ∙ s.is;
    reach = reach;
    low = s.low;
    cursor = s.cursor;
    lower = subst (λ (u : ℕ). Reaches E f.node u) (sym (same f.low (omega (arith, s.low, s.below)))) s.lower;
    back = λ i a b.
        let t = s.back i a b in
        (t.0, t.1, subst (λ (u : ℕ). Reaches E u (get_or after t.0 0)) (sym (same i b)) (subst (λ (u : ℕ). Reaches E (get_or stack i 0) u) (sym (same t.0 (omega (arith, t.1, b)))) t.2));
    finished = λ i w a b e. up w (s.finished i w a b (subst (λ (u : ℕ). E u w) (same i b) e));
    scanned = λ k a b. up (get_or (row_at edges f.node) k 0) (s.scanned k a b);
  }

  chain-move : (stack after marks marks' : List ℕ) (fs : List Frame) (end : ℕ)
      → ((i : ℕ) → i < end → get_or after i 0 ≡ get_or stack i 0)
      → ((a u : ℕ) → a < end → ((i : ℕ) → a ≤ i → i < length stack → Reaches E u (get_or stack i 0)) → (i : ℕ) → a ≤ i → i < length after → Reaches E u (get_or after i 0))
      → ((l w : ℕ) → l < end → l < get_or marks w 0 → l < get_or marks' w 0)
      → AreSegments edges stack marks fs end → AreSegments edges after marks' fs end
  chain-move stack after marks marks' [] end same reach up c = c
  chain-move stack after marks marks' (f ∷ fs) end same reach up c =
      let s = c.0 in
      let b = s.below in (
        seg-move stack after marks marks' f end same (reach f.at f.node b s.reach) (λ w. up f.low w (omega (arith, s.low, b))) s,
        chain-move stack after marks marks' fs f.at (λ i lt. same i (omega (arith, lt, b))) (λ a u lt. reach a u (omega (arith, lt, b))) (λ l w lt. up l w (omega (arith, lt, b))) c.1,
      )

  -- what a scan found belongs to the segment
  pub seg-scanned : (stack marks labels : List ℕ) (rows : List (List ℕ)) (f : Frame) (next low : ℕ) → AreSorted edges count stack marks labels rows → IsSegment edges stack marks f (length stack)
      → ScansRow (row_at edges f.node) marks f.next f.low next low
      → IsSegment edges stack marks (record { node = f.node; at = f.at; next = next; low = low }) (length stack)
  seg-scanned stack marks labels rows f next low o s c =
      let row = row_at edges f.node in
      record {
        below = s.below;
        is = s.is;
        reach = s.reach;
        low = omega (arith, s.low, c.lowest);
        cursor = c.within;
        lower = elim c.from_row [
          | inl e ↦ subst (λ (l : ℕ). Reaches E f.node (get_or stack l 0)) (sym e) s.lower
          | inr t ↦
              let y : ℕ = get_or row t.0 0 in
              let edge : Reaches E f.node y = Reaches-edge E f.node y (Contains-get_or row t.0 0 t.1) in
              elim (o.known y) [
                | inl z ↦ absurd (omega (arith, z, t.2))
                | inr k ↦ elim k [
                  | inl p ↦
                      let at : get_or marks y 0 - 1 ≡ low = omega (arith, t.2) in
                      subst (λ (u : ℕ). Reaches E f.node u) (sym p.2 ∙ ap (λ (l : ℕ). get_or stack l 0) at) edge
                  | inr d ↦ absurd (omega (arith, d, t.2, s.low, s.below, c.lowest, o.room, few))
                ]
              ]
        ];
        back = s.back;
        finished = λ i w a b e. omega (arith, s.finished i w a b e, c.lowest);
        scanned = λ k a b. elim (cases_lt k f.next) [
          | inl lt ↦ omega (arith, s.scanned k lt b, c.lowest)
          | inr ge ↦ c.seen k ge a
        ];
      }

  -- putting an unseen node on the stack
  pub push-sorted : (stack marks labels : List ℕ) (rows : List (List ℕ)) (w : ℕ) → w < count → get_or marks w 0 ≡ 0 → AreSorted edges count stack marks labels rows
      → AreSorted edges count (stack ++ w ∷ []) (set marks w (length stack + 1)) labels rows
  push-sorted stack marks labels rows w lt z o =
      let wl : w < length marks = omega (arith, o.marks_whole) in
      let len = length_push stack w in
      let other : (x : ℕ) → x ≢ w → get_or (set marks w (length stack + 1)) x 0 ≡ get_or marks x 0 = λ x ne. get_or-set_other marks w x (length stack + 1) 0 ne in
      let here : get_or (set marks w (length stack + 1)) w 0 ≡ length stack + 1 = get_or-set_same marks w (length stack + 1) 0 wl in
      let fewer = unseen-set marks w (length stack + 1) wl z (omega arith) in
      let was : (x : ℕ) → get_or (set marks w (length stack + 1)) x 0 ≡ done_mark → (x ≢ w) × (get_or marks x 0 ≡ done_mark) = λ x d. elim (cases_eq x w) [
        | inl e ↦ absurd (omega (arith, d, here, ap (λ (y : ℕ). get_or (set marks w (length stack + 1)) y 0) e, o.room, few))
        | inr ne ↦ (ne, sym (other x ne) ∙ d)
      ] in
      let still : (x : ℕ) → get_or marks x 0 ≡ done_mark → get_or (set marks w (length stack + 1)) x 0 ≡ done_mark =
      λ x d. other x (λ e. absurd (omega (arith, d, z, ap (λ (y : ℕ). get_or marks y 0) e))) ∙ d in
      record {
        marks_whole = length-set marks w (length stack + 1) ∙ o.marks_whole;
        labels_whole = o.labels_whole;
        placed = λ k kl. elim (cases_lt k (length stack)) [
          | inl old ↦
              let p = o.placed k old in
              let same = get_or_append_left stack (w ∷ []) 0 k old in
              let ne : get_or stack k 0 ≢ w = λ e. absurd (omega (arith, p.1, z, ap (λ (y : ℕ). get_or marks y 0) e)) in
              rw same (p.0, other (get_or stack k 0) ne ∙ p.1)
          | inr ge ↦
              let e : k ≡ length stack = omega (arith, kl, len) in
              let top = get_or_push stack w 0 k (sym e) in
              rw top (lt, here ∙ ap (λ (y : ℕ). y + 1) (sym e))
        ];
        known = λ x. elim (cases_eq x w) [
          | inl e ↦ inr (inl (rw (e, here) (omega arith, omega (arith, len), get_or_push stack w 0 (length stack + 1 - 1) (omega arith))))
          | inr ne ↦ rw (other x ne) (elim (o.known x) [
            | inl u ↦ inl u
            | inr k ↦ elim k [
              | inl p ↦ inr (inl (p.0, omega (arith, p.1, len), get_or_append_left stack (w ∷ []) 0 (get_or marks x 0 - 1) (omega (arith, p.0, p.1)) ∙ p.2))
              | inr d ↦ inr (inr d)
            ]
          ])
        ];
        room = omega (arith, fewer, o.room, len);
        closed = λ x y d e.
            let t = was x d in
            let q = o.closed x y t.1 e in
            other y (λ s. absurd (omega (arith, q, z, ap (λ (v : ℕ). get_or marks v 0) s))) ∙ q;
        labelled = λ x d. o.labelled x (was x d).1;
        same = λ x y d e. o.same x y (was x d).1 (was y e).1;
        members = λ c x. (
          (λ t. let m = (o.members c x).0 t in (still x m.0, m.1)),
          (λ t. (o.members c x).1 ((was x t.0).1, t.1)),
        );
        backwards = λ x y d e. o.backwards x y (was x d).1 e;
      }

  new-seg : (stack marks : List ℕ) (w : ℕ) → IsSegment edges (stack ++ w ∷ []) marks (record { node = w; at = length stack; next = 0; low = length stack }) (length (stack ++ w ∷ []))
  new-seg stack marks w =
      let len = length_push stack w in
      let top : (i : ℕ) → length stack ≤ i → i < length (stack ++ w ∷ []) → get_or (stack ++ w ∷ []) i 0 ≡ w = λ i a b. get_or_push stack w 0 i (omega (arith, a, b, len)) in
      record {
        below = omega (arith, len);
        is = get_or_push stack w 0 (length stack) refl;
        reach = λ i a b. subst (λ (u : ℕ). Reaches E w u) (sym (top i a b)) (Reaches-self E w);
        low = omega arith;
        cursor = omega arith;
        lower = subst (λ (u : ℕ). Reaches E w u) (sym (get_or_push stack w 0 (length stack) refl)) (Reaches-self E w);
        back = λ i a b. absurd (omega (arith, a, b, len));
        finished = λ i v a b e. absurd (omega (arith, a, b, len));
        scanned = λ k a b. absurd (omega (arith, a));
      }

  -- the first frame, over an empty stack
  pub started : (stack marks labels : List ℕ) (rows : List (List ℕ)) (w : ℕ) → w < count → get_or marks w 0 ≡ 0 → IsGoing edges count stack marks labels rows []
      → IsGoing edges count (stack ++ w ∷ []) (set marks w (length stack + 1)) labels rows (record { node = w; at = length stack; next = 0; low = length stack } ∷ [])
  started stack marks labels rows w lt z g = record {
    sorted = push-sorted stack marks labels rows w lt z g.sorted;
    segments = (new-seg stack (set marks w (length stack + 1)) w, g.segments);
  }

  -- into the next unseen node
  pub descended : (stack marks labels : List ℕ) (rows : List (List ℕ)) (f : Frame) (fs : List Frame) (next low w : ℕ) → IsGoing edges count stack marks labels rows (f ∷ fs)
      → ScansRow (row_at edges f.node) marks f.next f.low next low → next < length (row_at edges f.node) → w ≡ get_or (row_at edges f.node) next 0
      → IsGoing edges count (stack ++ w ∷ []) (set marks w (length stack + 1)) labels rows
      (record { node = w; at = length stack; next = 0; low = length stack } ∷ record { node = f.node; at = f.at; next = next + 1; low = low } ∷ fs)
  descended stack marks labels rows f fs next low w g c lt is =
      let o = g.sorted in
      let row = row_at edges f.node in
      let z : get_or marks w 0 ≡ 0 = ap (λ (y : ℕ). get_or marks y 0) is ∙ c.unseen_next lt in
      let edge : E f.node w = subst (λ (y : ℕ). E f.node y) (sym is) (Contains-get_or row next 0 lt) in
      let wl : w < count = in_range f.node w edge in
      let marks' = set marks w (length stack + 1) in
      let len = length_push stack w in
      let s = seg-scanned stack marks labels rows f next low o g.segments.0 c in
      let here : get_or marks' w 0 ≡ length stack + 1 = get_or-set_same marks w (length stack + 1) 0 (omega (arith, wl, o.marks_whole)) in
      let same : (i : ℕ) → i < length stack → get_or (stack ++ w ∷ []) i 0 ≡ get_or stack i 0 = λ i h. get_or_append_left stack (w ∷ []) 0 i h in
      let up : (l v : ℕ) → l < length stack → l < get_or marks v 0 → l < get_or marks' v 0 = λ l v a b. elim (cases_eq v w) [
        | inl e ↦ absurd (omega (arith, b, z, ap (λ (y : ℕ). get_or marks y 0) e))
        | inr ne ↦ rw (get_or-set_other marks w v (length stack + 1) 0 ne) b
      ] in
      let reach : (a u : ℕ) → a ≤ f.at → ((i : ℕ) → a ≤ i → i < length stack → Reaches E u (get_or stack i 0))
      → (i : ℕ) → a ≤ i → i < length (stack ++ w ∷ []) → Reaches E u (get_or (stack ++ w ∷ []) i 0) =
      λ a u al h i p q. elim (cases_lt i (length stack)) [
        | inl old ↦ subst (λ (v : ℕ). Reaches E u v) (sym (same i old)) (h i p old)
        | inr ge ↦
            let top : get_or (stack ++ w ∷ []) i 0 ≡ w = get_or_push stack w 0 i (omega (arith, ge, q, len)) in
            subst (λ (v : ℕ). Reaches E u v) (sym top) (Reaches-then E u f.node w (subst (λ (v : ℕ). Reaches E u v) s.is (h f.at al s.below)) edge)
      ] in
      let moved = seg-move stack (stack ++ w ∷ []) marks marks' (record { node = f.node; at = f.at; next = next; low = low }) (length stack) same
      (reach f.at f.node (omega arith) s.reach) (λ v. up low v (omega (arith, s.low, s.below))) s in
      record {
        sorted = push-sorted stack marks labels rows w wl z o;
        segments = (
          new-seg stack marks' w,
          (
            record {
              below = moved.below;
              is = moved.is;
              reach = moved.reach;
              low = moved.low;
              lower = moved.lower;
              back = moved.back;
              finished = moved.finished;
              cursor = omega (arith, lt);
              scanned = λ k a b. elim (cases_lt k next) [
                | inl old ↦ moved.scanned k old b
                | inr ge ↦
                    let e : k ≡ next = omega (arith, a, ge) in
                    let at : get_or marks' (get_or row k 0) 0 ≡ length stack + 1 = ap (λ (j : ℕ). get_or marks' (get_or row j 0) 0) e ∙ ap (λ (y : ℕ). get_or marks' y 0) (sym is) ∙ here in
                    omega (arith, at, s.low, s.below)
              ];
            },
            chain-move stack (stack ++ w ∷ []) marks marks' fs f.at (λ i h. same i (omega (arith, h, s.below))) (λ a u al. reach a u (omega (arith, al)))
                (λ l v al. up l v (omega (arith, al, s.below))) g.segments.1,
          ),
        );
      }

  -- back to the frame below, which takes over the segment
  pub merged : (stack marks labels : List ℕ) (rows : List (List ℕ)) (f p : Frame) (ps : List Frame) (next low : ℕ) → IsGoing edges count stack marks labels rows (f ∷ p ∷ ps)
      → ScansRow (row_at edges f.node) marks f.next f.low next low → length (row_at edges f.node) ≤ next → low < f.at
      → IsGoing edges count stack marks labels rows (record { node = p.node; at = p.at; next = p.next; low = min p.low low } ∷ ps)
  merged stack marks labels rows f p ps next low g c all lt =
      let s = seg-scanned stack marks labels rows f next low g.sorted g.segments.0 c in
      let q = g.segments.1.0 in
      let row = row_at edges f.node in
      let down : Reaches E p.node f.node = subst (λ (v : ℕ). Reaches E p.node v) s.is (q.reach f.at (omega (arith, q.below)) s.below) in
      record {
        sorted = g.sorted;
        segments = (
          record {
            below = omega (arith, q.below, s.below);
            is = q.is;
            reach = q.reach;
            low = omega (arith, q.low);
            cursor = q.cursor;
            lower = elim (cases_lt low p.low) [
              | inl l ↦ let e : min p.low low ≡ low = omega (arith, l) in rw e (Reaches-trans E p.node f.node (get_or stack low 0) down s.lower)
              | inr ge ↦ let e : min p.low low ≡ p.low = omega (arith, ge) in rw e q.lower
            ];
            back = λ i a b. elim (cases_lt i f.at) [
              | inl l ↦ q.back i a l
              | inr ge ↦ elim (cases_eq i f.at) [
                | inl e ↦ (low, omega (arith, lt, e), subst (λ (u : ℕ). Reaches E u (get_or stack low 0)) (sym s.is ∙ ap (λ (j : ℕ). get_or stack j 0) (sym e)) s.lower)
                | inr ne ↦ s.back i (omega (arith, ge, ne)) b
              ]
            ];
            finished = λ i w a b e. elim (cases_lt i f.at) [
              | inl l ↦ omega (arith, q.finished i w a l e)
              | inr ge ↦ elim (cases_eq i f.at) [
                | inl is ↦
                    let own : E f.node w = subst (λ (u : ℕ). E u w) (ap (λ (j : ℕ). get_or stack j 0) is ∙ s.is) e in
                    let at : get_or row own.0 0 ≡ w = get_or_default row own.0 0 w own.1 ∙ own.2 in
                    omega (arith, s.scanned own.0 (omega (arith, own.1, all)) own.1, ap (λ (y : ℕ). get_or marks y 0) at)
                | inr ne ↦ omega (arith, s.finished i w (omega (arith, ge, ne)) b e)
              ]
            ];
            scanned = λ k a b. omega (arith, q.scanned k a b);
          },
          g.segments.1.1,
        );
      }

  -- nothing leads from the part of a complete class to what lies below it
  leaves : (stack marks labels : List ℕ) (rows : List (List ℕ)) (f : Frame) → AreSorted edges count stack marks labels rows → IsSegment edges stack marks f (length stack)
      → length (row_at edges f.node) ≤ f.next → f.at ≤ f.low → (u v : ℕ) → f.at < get_or marks u 0 → E u v → f.at < get_or marks v 0
  leaves stack marks labels rows f o s all low u v a e =
      elim (o.known u) [
        | inl z ↦ absurd (omega (arith, z, a))
        | inr k ↦ elim k [
          | inr d ↦ omega (arith, o.closed u v d e, s.below, o.room, few)
          | inl p ↦
              let i : ℕ = get_or marks u 0 - 1 in
              let edge : E (get_or stack i 0) v = subst (λ (y : ℕ). E y v) (sym p.2) e in
              elim (cases_eq i f.at) [
                | inr ne ↦ omega (arith, s.finished i v (omega (arith, a, ne)) (omega (arith, p.0, p.1)) edge, low)
                | inl is ↦
                    let row = row_at edges f.node in
                    let own : E f.node v = subst (λ (y : ℕ). E y v) (ap (λ (j : ℕ). get_or stack j 0) is ∙ s.is) edge in
                    let at : get_or row own.0 0 ≡ v = get_or_default row own.0 0 v own.1 ∙ own.2 in
                    omega (arith, s.scanned own.0 (omega (arith, own.1, all)) own.1, ap (λ (y : ℕ). get_or marks y 0) at, low)
              ]
        ]
      ]

  -- from each node of the part one comes down to the frame's node
  root_back : (stack marks labels : List ℕ) (rows : List (List ℕ)) (f : Frame) → AreSorted edges count stack marks labels rows → IsSegment edges stack marks f (length stack)
      → length (row_at edges f.node) ≤ f.next → f.at ≤ f.low → (m i : ℕ) → i < m → f.at ≤ i → i < length stack → Reaches E (get_or stack i 0) f.node
  root_back stack marks labels rows f o s all low zero i im a b = absurd (omega (arith, im))
  root_back stack marks labels rows f o s all low (suc m) i im a b =
      elim (cases_eq i f.at) [
        | inl e ↦ subst (λ (y : ℕ). Reaches E y f.node) (sym s.is ∙ ap (λ (j : ℕ). get_or stack j 0) (sym e)) (Reaches-self E f.node)
        | inr ne ↦
            let t = s.back i (omega (arith, a, ne)) b in
            let here = (o.placed i b).1 in
            let far = Reaches-keeps E (λ v. f.at < get_or marks v 0) (λ u v e q. leaves stack marks labels rows f o s all low u v q e)
            (get_or stack i 0) (get_or stack t.0 0) t.2 (omega (arith, here, a)) in
            let there = (o.placed t.0 (omega (arith, t.1, b))).1 in
            Reaches-trans E (get_or stack i 0) (get_or stack t.0 0) f.node t.2
            (root_back stack marks labels rows f o s all low m t.0 (omega (arith, t.1, im)) (omega (arith, far, there)) (omega (arith, t.1, b)))
      ]

  -- a complete class is taken from the stack
  pub completed : (stack marks labels marks' labels' : List ℕ) (rows : List (List ℕ)) (f : Frame) (fs : List Frame) (next low : ℕ) → IsGoing edges count stack marks labels rows (f ∷ fs)
      → ScansRow (row_at edges f.node) marks f.next f.low next low → length (row_at edges f.node) ≤ next → f.at ≤ low
      → length marks' ≡ length marks → length labels' ≡ length labels
      → ((k : ℕ) → f.at ≤ k → k < length stack → (get_or marks' (get_or stack k 0) 0 ≡ done_mark) × (get_or labels' (get_or stack k 0) 0 ≡ length rows))
      → ((x : ℕ) → (get_or marks x 0 ≤ f.at) ⊎ (length stack < get_or marks x 0) → (get_or marks' x 0 ≡ get_or marks x 0) × (get_or labels' x 0 ≡ get_or labels x 0))
      → IsGoing edges count (take f.at stack) marks' labels' (rows ++ drop f.at stack ∷ []) fs × (unseen marks' ≤ unseen marks)
  completed stack marks labels marks' labels' rows f fs next low g c all lo nm nl taken others =
      let o = g.sorted in
      let ff : Frame = record { node = f.node; at = f.at; next = next; low = low } in
      let s = seg-scanned stack marks labels rows f next low o g.segments.0 c in
      let size = length-take-le f.at stack (omega (arith, s.below)) in
      let class = drop f.at stack in
      let len = length_push rows class in
      let kept_row : (c : ℕ) → c < length rows → row_at (rows ++ class ∷ []) c ≡ row_at rows c = λ c lt. get_or_append_left rows (class ∷ []) [] c lt in
      let new_row : (c : ℕ) → c ≡ length rows → row_at (rows ++ class ∷ []) c ≡ class = λ c e. get_or_push rows class [] c (sym e) in
      -- each node above the place is done now, and stands in the new row or stood in one before
      let cases : (x : ℕ) → f.at < get_or marks x 0 → (get_or marks' x 0 ≡ done_mark)
      × (((get_or labels' x 0 ≡ length rows) × Mutual E x f.node × (get_or marks x 0 ≤ length stack) × Contains class x) ⊎ ((get_or labels' x 0 ≡ get_or labels x 0) × (get_or marks x 0 ≡ done_mark)))
      =
      λ x a. elim (o.known x) [
        | inl z ↦ absurd (omega (arith, z, a))
        | inr k ↦ elim k [
          | inr d ↦ let t = others x (inr (omega (arith, d, o.room, few))) in (t.0 ∙ d, inr (t.1, d))
          | inl p ↦
              let i : ℕ = get_or marks x 0 - 1 in
              let il : i < length stack = omega (arith, p.0, p.1) in
              let ia : f.at ≤ i = omega (arith, a) in
              let t = taken i ia il in
              let m : Mutual E (get_or stack i 0) f.node = record { there = root_back stack marks labels rows ff o s all lo (suc i) i (omega arith) ia il; back = s.reach i ia il } in (
                subst (λ (y : ℕ). get_or marks' y 0 ≡ done_mark) p.2 t.0,
                inl (subst (λ (y : ℕ). get_or labels' y 0 ≡ length rows) p.2 t.1, subst (λ (y : ℕ). Mutual E y f.node) p.2 m, p.1, to_drop stack f.at i x ia il p.2),
              )
        ]
      ] in
      let kept : (x : ℕ) → get_or marks x 0 ≤ f.at → get_or marks' x 0 ≡ get_or marks x 0 = λ x a. (others x (inl a)).0 in
      let above : (x : ℕ) → get_or marks' x 0 ≡ done_mark → f.at < get_or marks x 0 = λ x d. elim (cases_lt f.at (get_or marks x 0)) [
        | inl a ↦ a
        | inr le ↦ absurd (omega (arith, kept x le, d, le, s.below, o.room, few))
      ] in
      let fewer = unseen-fewer marks marks' nm (λ k z. elim (cases_lt f.at (get_or marks k 0)) [
        | inl a ↦ absurd (omega (arith, (cases k a).0, z))
        | inr le ↦ sym (kept k le) ∙ z
      ]) in
      let same : (i : ℕ) → i < f.at → get_or (take f.at stack) i 0 ≡ get_or stack i 0 = λ i h. get_or-take f.at stack i 0 h in (
        record {
          sorted = record {
            marks_whole = nm ∙ o.marks_whole;
            labels_whole = nl ∙ o.labels_whole;
            placed = λ k kl.
                let ka : k < f.at = omega (arith, kl, size) in
                let p = o.placed k (omega (arith, ka, s.below)) in
                rw (same k ka) (p.0, kept (get_or stack k 0) (omega (arith, p.1, ka)) ∙ p.1);
            known = λ x. elim (cases_lt f.at (get_or marks x 0)) [
              | inl a ↦ inr (inr (cases x a).0)
              | inr le ↦ rw (kept x le) (elim (o.known x) [
                | inl z ↦ inl z
                | inr k ↦ elim k [
                  | inl p ↦ inr (inl (p.0, omega (arith, le, size), same (get_or marks x 0 - 1) (omega (arith, p.0, le)) ∙ p.2))
                  | inr d ↦ inr (inr d)
                ]
              ])
            ];
            room = omega (arith, fewer, o.room, size, s.below, len);
            closed = λ x y d e. (cases y (leaves stack marks labels rows ff o s all lo x y (above x d) e)).0;
            labelled = λ x d. elim (cases x (above x d)).1 [
              | inl t ↦ omega (arith, t.0, len)
              | inr t ↦ omega (arith, t.0, o.labelled x t.1, len)
            ];
            same = λ x y d e. (
              (λ l. elim (cases x (above x d)).1 [
                | inl t ↦ elim (cases y (above y e)).1 [
                  | inl r ↦ Mutual-trans E x f.node y t.1 (Mutual-sym E y f.node r.1)
                  | inr r ↦ absurd (omega (arith, l, t.0, r.0, o.labelled y r.1))
                ]
                | inr t ↦ elim (cases y (above y e)).1 [
                  | inl r ↦ absurd (omega (arith, l, t.0, r.0, o.labelled x t.1))
                  | inr r ↦ (o.same x y t.1 r.1).0 (sym t.0 ∙ l ∙ r.0)
                ]
              ]),
              (λ m. elim (cases x (above x d)).1 [
                | inl t ↦ elim (cases y (above y e)).1 [
                  | inl r ↦ t.0 ∙ sym r.0
                  | inr r ↦ absurd (omega (arith, t.2, o.room, few, Reaches-keeps E (λ v. get_or marks v 0 ≡ done_mark) (λ u v h q. o.closed u v q h) y x m.back r.1))
                ]
                | inr t ↦ elim (cases y (above y e)).1 [
                  | inl r ↦ absurd (omega (arith, r.2, o.room, few, Reaches-keeps E (λ v. get_or marks v 0 ≡ done_mark) (λ u v h q. o.closed u v q h) x y m.there t.1))
                  | inr r ↦ t.0 ∙ (o.same x y t.1 r.1).1 m ∙ sym r.0
                ]
              ]),
            );
            members = λ c x. (
              (λ t. elim (cases_order c (length rows)) [
                | inl e ↦
                    let k = from_drop stack f.at x (subst (λ (xs : List ℕ). Contains xs x) (new_row c e) t) in
                    let q = taken k.0 k.1 k.2 in
                    (ap (λ (y : ℕ). get_or marks' y 0) (sym k.3) ∙ q.0, ap (λ (y : ℕ). get_or labels' y 0) (sym k.3) ∙ q.1 ∙ sym e)
                | inr r ↦ elim r [
                  | inl lt ↦
                      let m = (o.members c x).0 (subst (λ (xs : List ℕ). Contains xs x) (kept_row c lt) t) in
                      let q = others x (inr (omega (arith, m.0, o.room, few))) in
                      (q.0 ∙ m.0, q.1 ∙ m.1)
                  | inr gt ↦
                      let none = subst (λ (xs : List ℕ). Contains xs x) (get_or_past (rows ++ class ∷ []) c [] (omega (arith, gt, len))) t in
                      absurd (omega (arith, none.1))
                ]
              ]),
              (λ t. elim (cases x (above x t.0)).1 [
                | inl q ↦ subst (λ (xs : List ℕ). Contains xs x) (sym (new_row c (sym t.1 ∙ q.0))) q.3
                | inr q ↦
                    let l : get_or labels x 0 ≡ c = sym q.0 ∙ t.1 in
                    subst (λ (xs : List ℕ). Contains xs x) (sym (kept_row c (omega (arith, o.labelled x q.1, l)))) ((o.members c x).1 (q.1, l))
              ]),
            );
            backwards = λ x y d e.
                let yd = (cases y (leaves stack marks labels rows ff o s all lo x y (above x d) e)).1 in
                elim (cases x (above x d)).1 [
                  | inl t ↦ elim yd [
                    | inl r ↦ omega (arith, t.0, r.0)
                    | inr r ↦ omega (arith, t.0, r.0, o.labelled y r.1)
                  ]
                  | inr t ↦
                      let q = others y (inr (omega (arith, o.closed x y t.1 e, o.room, few))) in
                      omega (arith, t.0, q.1, o.backwards x y t.1 e)
                ];
          };
          segments = subst (λ (end : ℕ). AreSegments edges (take f.at stack) marks' fs end) (sym size)
              (chain-move stack (take f.at stack) marks marks' fs f.at same
              (λ a u al h i p q. subst (λ (v : ℕ). Reaches E u v) (sym (same i (omega (arith, q, size)))) (h i p (omega (arith, q, size, s.below))))
              (λ l w al h. elim (cases_lt f.at (get_or marks w 0)) [
                | inl a ↦ omega (arith, (cases w a).0, al, s.below, o.room, few)
                | inr le ↦ rw (kept w le) h
              ]) g.segments.1);
        },
        fewer,
      )

  -- where every node was seen and nothing is on the stack, the labels are those of the classes
  all-done : (stack marks labels : List ℕ) (rows : List (List ℕ)) → IsGoing edges count stack marks labels rows [] → ((x : ℕ) → x < count → get_or marks x 0 ≢ 0)
      → (x : ℕ) → x < count → get_or marks x 0 ≡ done_mark
  all-done stack marks labels rows g seen x lt =
      elim (g.sorted.known x) [
        | inl z ↦ absurd (seen x lt z)
        | inr k ↦ elim k [
          | inl p ↦ absurd (omega (arith, p.0, p.1, g.segments))
          | inr d ↦ d
        ]
      ]

  pub finished-classes : (stack marks labels : List ℕ) (rows : List (List ℕ)) → IsGoing edges count stack marks labels rows []
      → ((x : ℕ) → x < count → get_or marks x 0 ≢ 0) → AreClasses edges count labels
  finished-classes stack marks labels rows g seen =
      let o = g.sorted in
      let done = all-done stack marks labels rows g seen in
      record {
        whole = o.labels_whole;
        small = λ k d lt. omega (arith, o.labelled k (done k (omega (arith, lt, o.labels_whole))), o.room, get_or_default labels k d 0 lt);
        exact = λ x y p q. o.same x y (done x p) (done y q);
      }

  -- and the rows are the classes in order
  pub finished-order : (stack marks labels : List ℕ) (rows : List (List ℕ)) → length edges ≡ count → IsGoing edges count stack marks labels rows [] → ((x : ℕ) → x < count → get_or marks x 0 ≢ 0)
      → AreInOrder edges count labels rows
  finished-order stack marks labels rows whole g seen =
      let o = g.sorted in
      let done = all-done stack marks labels rows g seen in
      record {
        few = omega (arith, o.room);
        labelled = λ x lt. o.labelled x (done x lt);
        members = λ c x. (
          (λ t.
              let m = (o.members c x).0 t in (
                elim (cases_lt x count) [ inl lt ↦ lt | inr ge ↦ absurd (omega (arith, get_or_past marks x 0 (omega (arith, ge, o.marks_whole)), m.0)) ],
                m.1,
              )),
          (λ t. (o.members c x).1 (done x t.0, t.1)),
        );
        backwards = λ x y e. o.backwards x y (done x (omega (arith, leads_from edges x y e, whole))) e;
      }

  -- nothing seen yet
  pub nothing-seen : (marks labels : List ℕ) → length marks ≡ count → length labels ≡ count → All (λ m. m ≡ 0) marks → IsGoing edges count [] marks labels [] []
  nothing-seen marks labels nm nl h =
      let zero_at : (x : ℕ) → get_or marks x 0 ≡ 0 = λ x. elim (cases_lt x (length marks)) [ inl lt ↦ h x 0 lt | inr ge ↦ get_or_past marks x 0 ge ] in
      record {
        sorted = record {
          marks_whole = nm;
          labels_whole = nl;
          placed = λ k lt. absurd (omega (arith, lt));
          known = λ x. inl (zero_at x);
          room = omega (arith, nm, unseen-all marks);
          closed = λ x y d e. absurd (omega (arith, zero_at x, d));
          labelled = λ x d. absurd (omega (arith, zero_at x, d));
          same = λ x y d e. absurd (omega (arith, zero_at x, d));
          members = λ c x. ((λ t. absurd (omega (arith, t.1))), (λ t. absurd (omega (arith, zero_at x, t.0))));
          backwards = λ x y d e. absurd (omega (arith, zero_at x, d));
        };
        segments = refl;
      }
