-- The marks of a marking in slices go on, event by event. A mark is only given to what is spared: what a spared peer
-- leads to is spared, as is what is brought back and what a reference that goes led to. An edge of the begin is lost by
-- a write or by the references' going alone, and then what it led to is shaded; and a peer becomes black only when all
-- that it leads to now has a mark.
use Rattle.std.proofs.Common.{◌≡◌, ℕ, ◌≤◌, ◌⊎◌, ◌↔◌, ◌≢◌, inl, inr, Bool, true, false, List, [], ◌∷◌, ◌++◌, length, replicate, Option, Some, None, refl, sym, ap, subst, ◌∙◌, arith, length-append}
use Rattle.std.specs.Prelude.{Contains, slice_get, slice_set}
use Rattle.std.proofs.lemmas.Bool.{cases_eq, cases_lt}
use Rattle.std.proofs.lemmas.Option.{same_Some}
use Rattle.std.proofs.lemmas.List.Elements.{Contains-push_cases, Contains-append_left, Contains-append_right}
use Rattle.joint_machine.specs.declared.names.Sort.{Sort}
use Rattle.joint_machine.specs.declared.names.Thread.{Thread}
use Rattle.joint_machine.specs.Components.{End, Rises}
use Rattle.joint_machine.specs.Heaps.{IsLive, HasField, InSlot, fields_of, numbered_at, next_number, with_field}
use Rattle.joint_machine.specs.Peers.{with_peer}
use Rattle.joint_machine.specs.PeerReplay.{PeerReplay, Marking, IsMarked, IsMarkingRoot, IsSweep, MarkingEdge, HasReference, Refers, begun, mirrored}
use Rattle.joint_machine.specs.Walks.{Reached}
use Rattle.joint_machine.proofs.HeapLemmas.{IsLive-later}
use Rattle.joint_machine.proofs.Joining.{slice_get-set_other}
use Rattle.joint_machine.proofs.Members.{Contains-nil, Contains-here, Contains-at, at-Contains, All-members}
use Rattle.joint_machine.proofs.Numbered.{numbered_set-here}
use Rattle.joint_machine.proofs.WalkLemmas.{Reached-keeps}
use Rattle.joint_laws.specs.PeerInvariants.{IsSpared}
use Rattle.joint_laws.proofs.Through.{Refers-none}
use Rattle.joint_laws.proofs.Fields.{with_object-old, with_field-length, with_field-other}
use Rattle.joint_laws.proofs.Sparing.{later, spared-root, spared-next, spared-later, spared-new}
use Rattle.heap_rules.specs.Tidy.{CanFree}
use Rattle.reachability.specs.Marks.{HasMark, IsClosed}
use Rattle.reachability.proofs.Marking.{marked-or}
use Rattle.marking_laws.specs.Marks.{EdgeNow, IsRootNow, IsWithoutMark}
use Rattle.marking_laws.specs.Slices.{AreMarksGoing, IsGoingSide, Shades, none, BeginGreysRoots, BlackeningGoesOn, ShadedWritesGoOn, BringingBackGoesOn, NewPeersGoOn, StandingGoesOn, ClearingGoesOn}
use Rattle.marking_laws.specs.Slices.{OtherEventsGoOn, NoneGreyIsAll, SweepIsExactThen, MarksAreShutThen, SweepIsSafeThen}
use Rattle.marking_laws.proofs.MarkFacts.{edge-existed}

-- an unfreed peer was unfreed at the begin, or was made since
existed-or : (s : PeerReplay) (mk : Marking) → ((p : ℕ) → Contains mk.heap.freed p → Contains s.peers.heap.freed p) → (p : ℕ) → IsLive s.peers.heap p → IsLive mk.heap p ⊎ (IsLive mk.heap p → ⊥)
existed-or s mk older p l = elim (cases_lt (length mk.heap.fields) p) [
  | inl w ↦ inr (λ e. omega (arith, e.made.1, w))
  | inr w ↦ inl record { made = (l.made.0, w); kept = λ c. l.kept (older p c) }
]

-- the roots are grey at the begin
pub going-begun : BeginGreysRoots
going-begun s t mk marks greys opened new all = subst (λ m. AreMarksGoing (begun s None t).state m true marks greys) (same_Some _ mk opened) record {
  older = λ p c. c;
  fresh = λ p l n. absurd (n l);
  sound = λ p u l n. spared-root _ p (elim ((new p).0 u).1 [ inl a ↦ inl a | inr b ↦ inr (inl b) ]) l n;
  roots = λ p r l. (new p).1 (l, elim r [ inl a ↦ inl a | inr w ↦ elim w [ inl b ↦ inr b | inr c ↦ absurd (Contains-nil p c) ] ]);
  grey = λ p c. (all p).0 c;
  existed = λ p c. ((new p).0 ((all p).0 c)).0;
  ahead = λ p q e. inr (λ u. (all p).1 u, elim e [ inl f ↦ inl f | inr r ↦ inr (refl, r) ]);
}

-- what is shaded: it is spared and unfreed, and all that a peer that is made black leads to now is
module _ (s : PeerReplay) (mk : Marking) (follows : Bool) (marks after : List Bool) (greys waits brought : List ℕ) (black : ℕ)
    (seen gone : ℕ → Type 0) (m : AreMarksGoing s mk follows marks greys) (sh : Shades seen gone marks greys after waits) where
  pub shaded : ((k : ℕ) → Contains mk.brought k → Contains brought k) → ((k : ℕ) → Contains brought k → Contains mk.brought k ⊎ seen k) → ((k : ℕ) → seen k → IsSpared (later mk brought black) k)
      → ((k : ℕ) → seen k → IsLive s.peers.heap k) → ((k : ℕ) → gone k ⊎ (gone k → ⊥))
      → ((p q : ℕ) → gone p → EdgeNow s follows p q → seen q) → AreMarksGoing s (later mk brought black) follows after waits
  shaded more back spared live parted black_one = record {
    older = m.older;
    fresh = λ p l n. (sh.marked p).1 (inl (m.fresh p l n));
    sound = λ p u. elim ((sh.marked p).0 u) [ inl w ↦ spared-later mk brought black p more (m.sound p w) | inr w ↦ spared p w ];
    roots = λ p r l. elim r [
      | inl a ↦ (sh.marked p).1 (inl (m.roots p (inl a) l))
      | inr w ↦ elim w [
        | inl b ↦ (sh.marked p).1 (inl (m.roots p (inr (inl b)) l))
        | inr c ↦ elim (back p c) [ inl d ↦ (sh.marked p).1 (inl (m.roots p (inr (inr d)) l)) | inr d ↦ (sh.marked p).1 (inr d) ]
      ]
    ];
    grey = λ p c. elim (sh.only p c) [ inl w ↦ (sh.marked p).1 (inl (m.grey p w)) | inr w ↦ (sh.marked p).1 (inr w.1) ];
    existed = λ p c. elim (sh.only p c) [
      | inl w ↦ m.existed p w
      | inr w ↦ elim (existed-or s mk m.older p (live p w.1)) [ inl e ↦ e | inr n ↦ absurd (w.0 (m.fresh p (live p w.1) n)) ]
    ];
    ahead = λ p q e. elim (m.ahead p q e) [
      | inl u ↦ inl ((sh.marked q).1 (inl u))
      | inr w ↦ elim (parted p) [
        | inl g ↦ inl ((sh.marked q).1 (inr (black_one p q g w.1)))
        | inr n ↦ inr (λ u. elim (sh.anew p u) [ inl v ↦ sh.kept p (w.0 v) n | inr v ↦ v ], w.1)
      ]
    ];
  }

-- fields, freed peers and mirrored references stay
pub going-same : OtherEventsGoOn
going-same s t mk follows marks greys fields freed refs m =
    let was : (p : ℕ) → IsLive t.peers.heap p → IsLive s.peers.heap p = λ p l.
    record { made = (l.made.0, subst (λ f. p ≤ length f) fields l.made.1); kept = λ c. l.kept (subst (λ f. Contains f p) (sym freed) c) } in
    let live : (p : ℕ) → IsLive s.peers.heap p → IsLive t.peers.heap p = λ p l.
    record { made = (l.made.0, subst (λ f. p ≤ length f) (sym fields) l.made.1); kept = λ c. l.kept (subst (λ f. Contains f p) freed c) } in
    let still : (p : ℕ) → fields_of t.peers.heap p ≡ fields_of s.peers.heap p = λ p. ap (λ f. elim (numbered_at f p) [ None ↦ [] | Some fs ↦ fs ]) fields in
    record {
      older = λ p c. subst (λ f. Contains f p) (sym freed) (m.older p c);
      fresh = λ p l n. m.fresh p (was p l) n;
      sound = m.sound;
      roots = m.roots;
      grey = m.grey;
      existed = m.existed;
      ahead = λ p q e. elim (m.ahead p q e) [
        | inl u ↦ inl u
        | inr w ↦ inr (
          w.0,
          elim w.1 [
            | inl f ↦ inl record { live = live p f.live; field = subst (λ fs. Contains fs (Some q)) (sym (still p)) f.field; there = live q f.there }
            | inr r ↦ inr (r.0, record { live = live p r.1.live; reference = subst (λ rs. Refers rs p q) (sym refs) r.1.reference; there = live q r.1.there })
          ],
        )
      ];
    }

-- a grey one is made black
pub going-black : BlackeningGoesOn
going-black s mk follows marks after greys waits x black side c sh =
    let k = side.kept.marking mk side.opened in
    let m = side.right in
    going-same s (record s { marking = Some (later mk mk.brought black) }) (later mk mk.brought black) follows after waits refl refl refl
    (shaded s mk follows marks after greys waits mk.brought black (EdgeNow s follows x) (λ k. k ≡ x) m sh (λ k d. d) (λ k d. inl d)
    (λ q e. spared-later mk mk.brought black q (λ z d. d) (elim e [
      | inl f ↦ spared-next mk x q (k.fields x q f.live f.field) (m.sound x (m.grey x c))
      | inr r ↦ spared-next mk x q (k.references x q r.1.live r.1.reference) (m.sound x (m.grey x c))
    ]))
    (λ q e. elim e [ inl f ↦ f.there | inr r ↦ r.1.there ])
    (λ p. cases_eq p x)
    (λ p q g e. subst (λ z. EdgeNow s follows z q) g e))

-- what is brought back
pub going-brought : BringingBackGoesOn
going-brought s mk follows marks after greys waits x side live sh = going-same s (record s { marking = Some (later mk (mk.brought ++ x ∷ []) mk.blackened) })
    (later mk (mk.brought ++ x ∷ []) mk.blackened) follows after waits refl refl refl (shaded s mk follows marks after greys waits (mk.brought ++ x ∷ []) mk.blackened (λ k. k ≡ x) none side.right sh
    (λ k c. Contains-append_left mk.brought (x ∷ []) k c)
    (λ k c. elim (Contains-push_cases mk.brought x k c) [ inl d ↦ inl d | inr d ↦ inr (sym d) ])
    (λ k e. spared-root (later mk (mk.brought ++ x ∷ []) mk.blackened) k (inr (inr (Contains-append_right mk.brought (x ∷ []) k (subst (Contains (x ∷ [])) (sym e) (Contains-here x []))))))
    (λ k e. subst (IsLive s.peers.heap) (sym e) live)
    (λ p. inr (λ z. z))
    (λ p q g e. absurd g))

-- what the written field held is shaded, and what the other fields hold stays
pub going-written : ShadedWritesGoOn
going-written s mk follows marks after greys waits x i y side held sh =
    let k = side.kept.marking mk side.opened in
    let h = s.peers.heap in
    let g = with_field h x i y in
    let livex : IsLive h x = side.kept.heap.slots x held in
    let m = shaded s mk follows marks after greys waits mk.brought mk.blackened (λ q. slice_get (fields_of h x) i ≡ Some (Some q)) none side.right sh (λ q d. d) (λ q d. inl d)
    (λ q e. spared-next mk x q (k.fields x q livex (Contains-at (fields_of h x) i (Some q) e)) (k.slots x held))
    (λ q e. side.kept.heap.fields x q livex (Contains-at (fields_of h x) i (Some q) e))
    (λ p. inr (λ z. z)) (λ p q g e. absurd g) in
    let live : (p : ℕ) → IsLive h p → IsLive g p = λ p l. record { made = (l.made.0, subst (λ n. p ≤ n) (sym (with_field-length h x i y)) l.made.1); kept = l.kept } in
    let was : (p : ℕ) → IsLive g p → IsLive h p = λ p l. record { made = (l.made.0, subst (λ n. p ≤ n) (with_field-length h x i y) l.made.1); kept = l.kept } in
    let still : (q : ℕ) (a : (j : ℕ) × (slice_get (fields_of h x) j ≡ Some (Some q))) → a.0 ≢ i → Contains (fields_of g x) (Some q) = λ q a d.
    subst (λ fs. Contains fs (Some q)) (sym (ap (λ o. elim o [ None ↦ [] | Some fs ↦ fs ]) (numbered_set-here h.fields x (slice_set (fields_of h x) i y) livex.made.0 livex.made.1)))
    (Contains-at (slice_set (fields_of h x) i y) a.0 (Some q) (slice_get-set_other (fields_of h x) i a.0 y d ∙ a.1)) in
    record {
      older = m.older;
      fresh = λ p l n. m.fresh p (was p l) n;
      sound = m.sound;
      roots = m.roots;
      grey = m.grey;
      existed = m.existed;
      ahead = λ p q e. elim (m.ahead p q e) [
        | inl u ↦ inl u
        | inr w ↦ elim w.1 [
          | inr r ↦ inr (w.0, inr (r.0, record { live = live p r.1.live; reference = r.1.reference; there = live q r.1.there }))
          | inl f ↦ elim (cases_eq p x) [
            | inr d ↦ inr (w.0, inl record { live = live p f.live; field = subst (λ fs. Contains fs (Some q)) (sym (with_field-other h x i y p d)) f.field; there = live q f.there })
            | inl same ↦ (
                let a = at-Contains (fields_of h x) (Some q) (subst (λ z. Contains (fields_of h z) (Some q)) same f.field) in
                elim (cases_eq a.0 i) [
                  | inl v ↦ inl ((sh.marked q).1 (inr (subst (λ z. slice_get (fields_of h x) z ≡ Some (Some q)) v a.1)))
                  | inr d ↦ inr (w.0, inl record { live = live p f.live; field = subst (λ z. Contains (fields_of g z) (Some q)) (sym same) (still q a d); there = live q f.there })
                ])
          ]
        ]
      ];
    }

-- a new peer is black, and no edge of the begin has to do with it
pub going-new : NewPeersGoOn
going-new s mk follows marks after greys sort n side other here =
    let m = side.right in
    let k = side.kept.marking mk side.opened in
    let old : (p : ℕ) → IsLive mk.heap p → p ≢ next_number s.peers.heap = λ p e same. omega (arith, e.made.1, k.made, same) in
    record {
      older = m.older;
      fresh = λ p l x. elim (cases_eq p (next_number s.peers.heap)) [
        | inl e ↦ subst (HasMark after) (sym e) here
        | inr d ↦ (other p d).1 (m.fresh p record {
          made = (
            l.made.0,
            let b : p ≤ length (s.peers.heap.fields ++ replicate n None ∷ []) = l.made.1 in
                omega (arith, b, length-append s.peers.heap.fields (replicate n None ∷ []), d),
          );
          kept = l.kept;
        } x)
      ];
      sound = λ p u l z. m.sound p ((other p (old p l)).0 u) l z;
      roots = λ p r l. (other p (old p l)).1 (m.roots p r l);
      grey = λ p c. (other p (old p (m.existed p c))).1 (m.grey p c);
      existed = m.existed;
      ahead = λ p q e. let ends = edge-existed mk p q e in elim (m.ahead p q e) [
        | inl u ↦ inl ((other q (old q ends.1)).1 u)
        | inr w ↦ inr (
          (λ u. w.0 ((other p (old p ends.0)).0 u)),
          elim w.1 [
            | inl f ↦ inl record {
              live = IsLive-later s.peers.heap n p f.live;
              field = subst (λ fs. Contains fs (Some q)) (sym (with_object-old s.peers.heap n p f.live.made.1)) f.field;
              there = IsLive-later s.peers.heap n q f.there;
            }
            | inr r ↦ inr (r.0, record { live = IsLive-later s.peers.heap n p r.1.live; reference = r.1.reference; there = IsLive-later s.peers.heap n q r.1.there })
          ],
        )
      ];
    }

-- the marking doesn't follow references that come to stand
pub going-stood : StandingGoesOn
going-stood s mk follows marks greys cycle snap refs empty m = record {
  older = m.older;
  fresh = m.fresh;
  sound = m.sound;
  roots = m.roots;
  grey = m.grey;
  existed = m.existed;
  ahead = λ p q e. elim (m.ahead p q e) [
    | inl u ↦ inl u
    | inr w ↦ elim w.1 [ inl f ↦ inr (w.0, inl f) | inr r ↦ absurd (Refers-none p q (subst (λ rs. Refers rs p q) empty r.1.reference)) ]
  ];
}

-- the references go, and what they led to is shaded
pub going-cleared : ClearingGoesOn
going-cleared s mk follows marks after greys waits spared right sh =
    let m = shaded s mk follows marks after greys waits mk.brought mk.blackened (λ q. (p : ℕ) × HasReference s.peers.heap s.refs p q) none right sh (λ q d. d) (λ q d. inl d)
    (λ q r. spared r.0 q r.1) (λ q r. r.1.there) (λ p. inr (λ z. z)) (λ p q g e. absurd g) in
    record {
      older = m.older;
      fresh = m.fresh;
      sound = m.sound;
      roots = m.roots;
      grey = m.grey;
      existed = m.existed;
      ahead = λ p q e. elim (m.ahead p q e) [
        | inl u ↦ inl u
        | inr w ↦ elim w.1 [ inl f ↦ inr (w.0, inl f) | inr r ↦ inl ((sh.marked q).1 (inr (p, r.1))) ]
      ];
    }

-- none is grey: the roots have marks, and so has what an edge of the begin leads to from a peer with a mark
pub going-all : NoneGreyIsAll
going-all s mk follows marks m p w = Reached-keeps (IsMarkingRoot mk) (MarkingEdge mk) (λ z. IsLive mk.heap z → HasMark marks z) (λ z r l. m.roots z r l)
    (λ a b e before l. elim (m.ahead a b e) [ inl u ↦ u | inr n ↦ absurd (Contains-nil a (n.0 (before (edge-existed mk a b e).0))) ]) p w.reached w.existed

-- a spared peer that is unfreed has a mark then
pub spared-going : (s : PeerReplay) (mk : Marking) (follows : Bool) (marks : List Bool) → AreMarksGoing s mk follows marks [] → (p : ℕ) → IsLive s.peers.heap p → IsSpared mk p → HasMark marks p
spared-going s mk follows marks m p l k = elim (existed-or s mk m.older p l) [
  | inl e ↦ elim (marked-or marks p) [ inl u ↦ u | inr n ↦ absurd (k e (λ w. n (going-all s mk follows marks m p w))) ]
  | inr n ↦ m.fresh p l n
]

pub going-sweep : SweepIsExactThen
going-sweep s mk follows marks freed m rise exact = record {
  rise = rise;
  exact = λ p. (
    (λ c. let w = (exact p).0 c in elim (existed-or s mk m.older p w.0) [
      | inl e ↦ (w.0, e, λ k. w.1 (going-all s mk follows marks m p k))
      | inr n ↦ absurd (w.1 (m.fresh p w.0 n))
    ]),
    (λ w. (exact p).1 (w.0, λ u. m.sound p u w.1 w.2)),
  );
}

pub going-shut : MarksAreShutThen
going-shut s mk follows marks side p q e u =
    let k = side.kept.marking mk side.opened in
    elim e [
      | inl f ↦ spared-going s mk follows marks side.right q f.there (spared-next mk p q (k.fields p q f.live f.field) (side.right.sound p u))
      | inr r ↦ spared-going s mk follows marks side.right q r.1.there (spared-next mk p q (k.references p q r.1.live r.1.reference) (side.right.sound p u))
    ]

pub going-can_free : SweepIsSafeThen
going-can_free s mk follows marks freed side rise exact =
    let k = side.kept.marking mk side.opened in
    record {
      live = All-members (IsLive s.peers.heap) freed (λ x c. ((exact x).0 c).0);
      rises = rise;
      unnamed = λ x c n. ((exact x).0 c).1 (spared-going s mk follows marks side.right x ((exact x).0 c).0 (k.slots x n));
      unheld = λ x y lx stays c held. elim (marked-or marks x) [
        | inl u ↦ ((exact y).0 c).1 (going-shut s mk follows marks side x y (inl record { live = lx; field = held; there = ((exact y).0 c).0 }) u)
        | inr n ↦ stays ((exact x).1 (lx, n))
      ];
    }
