-- The steps of the first search keep what it keeps: it comes to a node that wasn't seen, from no frame or from the top
-- one, or it finishes the node of the top frame.
use Rattle.std.proofs.Common.{◌≡◌, ℕ, ◌+◌, ◌<◌, ◌⊎◌, inl, inr, Bool, true, false, List, [], ◌∷◌, ◌++◌, length, get_or, set, reverse, sym, ◌∙◌, ap, subst, arith, suc, zero, ◌≤◌}
use Rattle.std.specs.Prelude.{All, Contains}
use Rattle.std.proofs.lemmas.Bool.{cases_lt, cases_eq, true≢false}
use Rattle.std.proofs.lemmas.List.{length-set, get_or-set_same, get_or-set_other, get_or_past, get_or_default, reverse-append}
use Rattle.std.proofs.lemmas.List.Elements.{All-nil, All-cons, All-head, All-tail, All-weaker, Contains-append_left, Contains-push, Contains-push_cases}
use Rattle.joint_machine.proofs.Members.{Contains-nil, Contains-here, Contains-there, Contains-cons_cases, Contains-at, All-members}
use Rattle.joint_machine.proofs.Numbered.{push-at_cases}
use Rattle.bridge_graph.specs.Parts.{NodeLeads, row_at}
use Rattle.compare_pass.specs.declared.finishing.Frame.{Frame}
use Rattle.compare_pass.specs.Searches.{IsSearching, IsGoing, IsFinishingOrder, AreDifferent, nodes_of, unseen}
use Rattle.compare_pass.proofs.Reaching.{reaches-decided}
use Rattle.compare_pass.proofs.Serving.{begins, deeper, finishes}

pub seen-below : (seen : List Bool) (x : ℕ) → get_or seen x false ≡ true → x < length seen
seen-below seen x t = elim (cases_lt x (length seen)) [
  | inl l ↦ l
  | inr ge ↦ absurd (true≢false (sym t ∙ get_or_past seen x false ge))
]

pub seen-old : (seen : List Bool) (x y : ℕ) → get_or seen y false ≡ true → get_or (set seen x true) y false ≡ true
seen-old seen x y t = elim (cases_eq y x) [
  | inl e ↦ rw e (get_or-set_same seen x true false (omega (arith, seen-below seen y t, e)))
  | inr ne ↦ get_or-set_other seen x y true false ne ∙ t
]

seen-cases : (seen : List Bool) (x y : ℕ) → get_or (set seen x true) y false ≡ true → (y ≡ x) ⊎ (get_or seen y false ≡ true)
seen-cases seen x y t = elim (cases_eq y x) [
  | inl e ↦ inl e
  | inr ne ↦ inr (sym (get_or-set_other seen x y true false ne) ∙ t)
]

pub unseen-set : (seen : List Bool) (y : ℕ) → y < length seen → get_or seen y false ≡ false → unseen (set seen y true) + 1 ≡ unseen seen
unseen-set [] y lt f = absurd (omega arith)
unseen-set (m ∷ seen) zero lt f = rw f (omega arith)
unseen-set (m ∷ seen) (suc y) lt f = omega (arith, unseen-set seen y (omega (arith, lt)) f)

different-push : (xs : List ℕ) (v : ℕ) → AreDifferent xs → (Contains xs v → ⊥) → AreDifferent (xs ++ v ∷ [])
different-push xs v d n i j x e f = elim (push-at_cases xs v i x e) [
  | inl a ↦ elim (push-at_cases xs v j x f) [
    | inl b ↦ d i j x a b
    | inr b ↦ absurd (n (subst (λ z. Contains xs z) (sym b.1) (Contains-at xs i x a)))
  ]
  | inr a ↦ elim (push-at_cases xs v j x f) [
    | inl b ↦ absurd (n (subst (λ z. Contains xs z) (sym a.1) (Contains-at xs j x b)))
    | inr b ↦ a.0 ∙ sym b.0
  ]
]

-- the targets of a frame that it has gone over are seen
abbrev pub IsScanned : List (List ℕ) → List Bool → Frame → Type 0
IsScanned edges seen f = (k : ℕ) → k < f.next → k < length (row_at edges f.node) → get_or seen (get_or (row_at edges f.node) k 0) false ≡ true

-- a node that wasn't seen is seen now, and the search is in it
entered : (edges : List (List ℕ)) (count : ℕ) (seen : List Bool) (order : List ℕ) (frames : List Frame) (v : ℕ) → v < count → get_or seen v false ≡ false
    → IsSearching (NodeLeads edges) order (v ∷ nodes_of frames) → IsGoing edges count seen order frames
    → IsGoing edges count (set seen v true) order (record { node = v; next = 0 } ∷ frames)
entered edges count seen order frames v lt fresh s g =
    let top : Frame = record { node = v; next = 0 } in
    let here : get_or (set seen v true) v false ≡ true = get_or-set_same seen v true false (omega (arith, lt, g.whole)) in
    let no : get_or seen v false ≡ true → ⊥ = λ t. true≢false (sym t ∙ fresh) in
    record {
      whole = length-set seen v true ∙ g.whole;
      searching = s;
      known = λ x. (
        (λ t. elim (seen-cases seen v x t) [
          | inl e ↦ inr (subst (λ z. Contains (v ∷ nodes_of frames) z) (sym e) (Contains-here v (nodes_of frames)))
          | inr o ↦ elim ((g.known x).0 o) [ inl c ↦ inl c | inr c ↦ inr (Contains-there x v (nodes_of frames) c) ]
        ]),
        (λ t. elim t [
          | inl c ↦ seen-old seen v x ((g.known x).1 (inl c))
          | inr c ↦ elim (Contains-cons_cases v (nodes_of frames) x c) [
            | inl e ↦ subst (λ z. get_or (set seen v true) z false ≡ true) e here
            | inr d ↦ seen-old seen v x ((g.known x).1 (inr d))
          ]
        ]),
      );
      scanned = All-cons (IsScanned edges (set seen v true)) top frames (λ k l r. absurd (omega (arith, l)))
          (All-weaker (IsScanned edges seen) (IsScanned edges (set seen v true)) (λ f h k a b. seen-old seen v (get_or (row_at edges f.node) k 0) (h k a b)) frames g.scanned);
      once = ((λ c. no ((g.known v).1 (inr c))), g.once);
      apart = λ x c o. elim (Contains-cons_cases v (nodes_of frames) x c) [
        | inl e ↦ no ((g.known v).1 (inl (subst (λ z. Contains order z) (sym e) o)))
        | inr d ↦ g.apart x d o
      ];
      different = g.different;
    }

pub going-none : (edges : List (List ℕ)) (count : ℕ) (seen : List Bool) → length seen ≡ count → All (λ s. s ≡ false) seen → IsGoing edges count seen [] []
going-none edges count seen whole none = record {
  whole = whole;
  searching = record { path = tt; closed = λ x y c e. absurd (Contains-nil x c); served = λ x c. absurd (Contains-nil x c) };
  known = λ x. ((λ t. absurd (true≢false (sym t ∙ none x false (seen-below seen x t)))), (λ t. elim t [ inl c ↦ absurd (Contains-nil x c) | inr c ↦ absurd (Contains-nil x c) ]));
  scanned = All-nil (IsScanned edges seen);
  once = tt;
  apart = λ x c o. Contains-nil x c;
  different = λ i j x e f. absurd (let c = Contains-at [] i x e in Contains-nil x c);
}

-- the search begins at a node
pub going-root : (edges : List (List ℕ)) (count : ℕ) (seen : List Bool) (order : List ℕ) (v : ℕ) → v < count → get_or seen v false ≡ false → IsGoing edges count seen order []
    → IsGoing edges count (set seen v true) order (record { node = v; next = 0 } ∷ [])
going-root edges count seen order v lt fresh g = entered edges count seen order [] v lt fresh (begins (NodeLeads edges) order v g.searching) g

-- it goes on from the top to a target
pub going-deeper : (edges : List (List ℕ)) (count : ℕ) (seen : List Bool) (order : List ℕ) (f : Frame) (frames : List Frame) (next v : ℕ) → v < count → get_or seen v false ≡ false
    → next < length (row_at edges f.node) → get_or (row_at edges f.node) next 0 ≡ v
    → ((k : ℕ) → f.next ≤ k → k < next → k < length (row_at edges f.node) → get_or seen (get_or (row_at edges f.node) k 0) false ≡ true)
    → IsGoing edges count seen order (f ∷ frames)
    → IsGoing edges count (set seen v true) order (record { node = v; next = 0 } ∷ record { node = f.node; next = next + 1 } ∷ frames)
going-deeper edges count seen order f frames next v lt fresh nl is over g =
    let edge : NodeLeads edges f.node v = (next, nl, sym (get_or_default (row_at edges f.node) next 0 v nl) ∙ is) in
    let e = entered edges count seen order (f ∷ frames) v lt fresh (deeper (NodeLeads edges) order (nodes_of frames) f.node v g.searching edge) g in
    let P = IsScanned edges (set seen v true) in
    let top : Frame = record { node = v; next = 0 } in
    let below : Frame = record { node = f.node; next = next + 1 } in
    let gone : IsScanned edges (set seen v true) below = (λ k l r. elim (cases_lt k next) [
      | inl kl ↦ elim (cases_lt k f.next) [
        | inl old ↦ All-head P f frames (All-tail P top (f ∷ frames) e.scanned) k old r
        | inr new ↦ seen-old seen v (get_or (row_at edges f.node) k 0) (over k new kl r)
      ]
      | inr ge ↦ (
          let at : k ≡ next = omega (arith, l, ge) in
          subst (λ z. get_or (set seen v true) z false ≡ true) (sym (ap (λ j. get_or (row_at edges f.node) j 0) at ∙ is)) (get_or-set_same seen v true false (omega (arith, lt, g.whole))))
    ]) in
    record {
      whole = e.whole;
      searching = e.searching;
      known = e.known;
      scanned = All-cons P top (below ∷ frames) (All-head P top (f ∷ frames) e.scanned) (All-cons P below frames gone (All-tail P f frames (All-tail P top (f ∷ frames) e.scanned)));
      once = e.once;
      apart = e.apart;
      different = e.different;
    }

-- the top is finished
pub going-finished : (edges : List (List ℕ)) (count : ℕ) (seen : List Bool) (order : List ℕ) (f : Frame) (frames : List Frame)
    → ((k : ℕ) → f.next ≤ k → k < length (row_at edges f.node) → get_or seen (get_or (row_at edges f.node) k 0) false ≡ true)
    → IsGoing edges count seen order (f ∷ frames) → IsGoing edges count seen (order ++ f.node ∷ []) frames
going-finished edges count seen order f frames over g =
    let v = f.node in
    let P = IsScanned edges seen in
    let target : (y : ℕ) → NodeLeads edges v y → Contains order y ⊎ Contains (v ∷ nodes_of frames) y = (λ y c.
    let here : get_or (row_at edges v) c.0 0 ≡ y = get_or_default (row_at edges v) c.0 0 y c.1 ∙ c.2 in
    let seen_it : get_or seen (get_or (row_at edges v) c.0 0) false ≡ true = elim (cases_lt c.0 f.next) [
      | inl l ↦ All-head P f frames g.scanned c.0 l c.1
      | inr ge ↦ over c.0 ge c.1
    ] in
    (g.known y).0 (subst (λ z. get_or seen z false ≡ true) here seen_it)) in
    record {
      whole = g.whole;
      searching = finishes (NodeLeads edges) order (nodes_of frames) v (reaches-decided edges) g.searching target;
      known = λ x. (
        (λ t. elim ((g.known x).0 t) [
          | inl c ↦ inl (Contains-append_left order (v ∷ []) x c)
          | inr c ↦ elim (Contains-cons_cases v (nodes_of frames) x c) [
            | inl e ↦ inl (subst (λ z. Contains (order ++ v ∷ []) z) e (Contains-push order v))
            | inr d ↦ inr d
          ]
        ]),
        (λ t. elim t [
          | inl c ↦ elim (Contains-push_cases order v x c) [
            | inl d ↦ (g.known x).1 (inl d)
            | inr e ↦ (g.known x).1 (inr (subst (λ z. Contains (v ∷ nodes_of frames) z) e (Contains-here v (nodes_of frames))))
          ]
          | inr c ↦ (g.known x).1 (inr (Contains-there x v (nodes_of frames) c))
        ]),
      );
      scanned = All-tail P f frames g.scanned;
      once = g.once.1;
      apart = λ x c o. elim (Contains-push_cases order v x o) [
        | inl d ↦ g.apart x (Contains-there x v (nodes_of frames) c) d
        | inr e ↦ g.once.0 (subst (λ z. Contains (nodes_of frames) z) (sym e) c)
      ];
      different = different-push order v g.different (g.apart v (Contains-here v (nodes_of frames)));
    }

-- once all nodes are seen the search is over
pub going-over : (edges : List (List ℕ)) (count : ℕ) (seen : List Bool) (order : List ℕ) → ((x : ℕ) → x < count → get_or seen x false ≡ true) → IsGoing edges count seen order []
    → IsFinishingOrder edges count order
going-over edges count seen order all g = record {
  searched = g.searching;
  different = g.different;
  every = λ x lt. elim ((g.known x).0 (all x lt)) [ inl c ↦ c | inr c ↦ absurd (Contains-nil x c) ];
  within = All-members (λ x. x < count) order (λ x c. let l = seen-below seen x ((g.known x).1 (inl c)) in omega (arith, l, g.whole));
}

-- the last of a stack comes first
pub reverse-push : (xs : List Frame) (x : Frame) → reverse (xs ++ x ∷ []) ≡ x ∷ reverse xs
reverse-push xs x = reverse-append xs (x ∷ [])

-- the top's node is a node
pub top-seen : (edges : List (List ℕ)) (count : ℕ) (seen : List Bool) (order : List ℕ) (f : Frame) (frames : List Frame) → IsGoing edges count seen order (f ∷ frames) → f.node < count
top-seen edges count seen order f frames g =
    let l = seen-below seen f.node ((g.known f.node).1 (inr (Contains-here f.node (nodes_of frames)))) in
    omega (arith, l, g.whole)
