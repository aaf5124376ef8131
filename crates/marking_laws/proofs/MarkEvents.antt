-- Exact marks stay exact, event by event. Each law is over the one field `unmarked`: an edge of the begin leads to a
-- peer with a mark, or it begins at a peer without a mark and still stands. What no slot names can't be written, and
-- what a slot names has a mark, so such an edge stays. The begin and bringing back are the two markings: of the second,
-- a walk over the edges of now ends at marks that were there or goes on over edges of the begin, and a walk over the
-- edges of the begin goes on over edges of now as long as it meets no mark.
use Rattle.std.proofs.Common.{◌≡◌, ℕ, ◌≤◌, ◌⊎◌, ◌↔◌, ◌≢◌, inl, inr, Bool, true, false, List, [], ◌∷◌, ◌++◌, length, replicate, Option, Some, None, refl, sym, ap, subst, ◌∙◌, arith, length-append}
use Rattle.std.specs.Prelude.{Contains}
use Rattle.std.proofs.lemmas.Bool.{cases_eq}
use Rattle.std.proofs.lemmas.List.Elements.{Contains-push_cases, Contains-append_left, Contains-append_right}
use Rattle.joint_machine.specs.declared.names.Sort.{Sort}
use Rattle.joint_machine.specs.declared.names.Thread.{Thread}
use Rattle.joint_machine.specs.Heaps.{IsLive, HasField, InSlot, fields_of, numbered_at, next_number, with_field}
use Rattle.joint_machine.specs.Peers.{with_peer}
use Rattle.joint_machine.specs.PeerReplay.{PeerReplay, Marking, IsMarked, IsMarkingRoot, MarkingEdge, HasReference, Refers, begun, mirrored}
use Rattle.joint_machine.specs.Components.{End}
use Rattle.joint_machine.specs.Walks.{Reached}
use Rattle.joint_machine.proofs.HeapLemmas.{IsLive-later}
use Rattle.joint_machine.proofs.Members.{Contains-nil, Contains-here}
use Rattle.joint_machine.proofs.WalkLemmas.{Reached-keeps, Reached-start, Reached-then, Reached-mono}
use Rattle.joint_laws.specs.PeerInvariants.{IsSpared}
use Rattle.joint_laws.proofs.Through.{Refers-none}
use Rattle.joint_laws.proofs.Fields.{with_object-old, with_field-length, with_field-other}
use Rattle.reachability.specs.Marks.{HasMark}
use Rattle.reachability.proofs.Marking.{marked-or}
use Rattle.marking_laws.specs.Marks.{AreMarksExact, EdgeNow, IsMarkedSide, IsRootNow}
use Rattle.marking_laws.proofs.MarkFacts.{edge-existed, spared-existed, spared-marked}

-- the begin: exactly what the roots reach over the edges of now is marked
pub marks-begun : (s : PeerReplay) (t : Thread) (mk : Marking) (marks : List Bool) → (begun s None t).state.marking ≡ Some mk
    → ((p : ℕ) → HasMark marks p ↔ Reached (IsRootNow s) (EdgeNow s true) p) → AreMarksExact (begun s None t).state mk true marks
marks-begun s t mk marks opened new = marks-begun_as s (begun s None t).state mk marks refl refl
    (ap (λ o. elim o [ None ↦ s.peers.heap | Some k ↦ k.heap ]) (sym opened)) (ap (λ o. elim o [ None ↦ s.refs | Some k ↦ k.refs ]) (sym opened))
    (λ p r. elim r [
      | inl a ↦ inl (subst (λ h. InSlot h p) (sym (ap (λ o. elim o [ None ↦ s.peers.heap | Some k ↦ k.heap ]) (sym opened))) a)
      | inr b ↦ inr (inl (subst (λ l. Contains l p) (ap (λ o. elim o [ None ↦ [] | Some k ↦ k.strong_peers ]) opened) b))
    ])
    (λ p r. elim r [
      | inl a ↦ inl (subst (λ h. InSlot h p) (ap (λ o. elim o [ None ↦ s.peers.heap | Some k ↦ k.heap ]) (sym opened)) a)
      | inr w ↦ elim w [
        | inl b ↦ inr (subst (λ l. Contains l p) (sym (ap (λ o. elim o [ None ↦ [] | Some k ↦ k.strong_peers ]) opened)) b)
        | inr c ↦ absurd (Contains-nil p (subst (λ l. Contains l p) (sym (ap (λ o. elim o [ None ↦ [] | Some k ↦ k.brought ]) opened)) c))
      ]
    ]) new
  where
    marks-begun_as : (s u : PeerReplay) (mk : Marking) (marks : List Bool) → u.peers ≡ s.peers → u.refs ≡ s.refs → mk.heap ≡ s.peers.heap → mk.refs ≡ s.refs
        → ((p : ℕ) → IsRootNow s p → IsMarkingRoot mk p) → ((p : ℕ) → IsMarkingRoot mk p → IsRootNow s p)
        → ((p : ℕ) → HasMark marks p ↔ Reached (IsRootNow s) (EdgeNow s true) p) → AreMarksExact u mk true marks
    marks-begun_as s u mk marks peers urefs heap refs from to new =
        let there : (p q : ℕ) → MarkingEdge mk p q → EdgeNow s true p q = λ p q e. elim e [
          | inl f ↦ inl (subst (λ h. HasField h p q) heap f)
          | inr r ↦ inr (refl, subst (λ h. HasReference h s.refs p q) heap (subst (λ t. HasReference mk.heap t p q) refs r))
        ] in
        let back : (p q : ℕ) → EdgeNow s true p q → MarkingEdge mk p q = λ p q e. elim e [
          | inl f ↦ inl (subst (λ h. HasField h p q) (sym heap) f)
          | inr r ↦ inr (subst (λ t. HasReference mk.heap t p q) (sym refs) (subst (λ h. HasReference h s.refs p q) (sym heap) r.1))
        ] in
        record {
          older = λ p c. subst (λ h. Contains h.freed p) (sym (ap (λ e. e.heap) peers)) (subst (λ h. Contains h.freed p) heap c);
          fresh = λ p l n. absurd (n (subst (λ h. IsLive h p) (ap (λ e. e.heap) peers ∙ sym heap) l));
          exact = λ p e. (
            (λ u. record { existed = e; reached = Reached-mono (IsRootNow s) (IsMarkingRoot mk) (EdgeNow s true) (MarkingEdge mk) from back p ((new p).0 u) }),
            (λ w. (new p).1 (Reached-mono (IsMarkingRoot mk) (IsRootNow s) (MarkingEdge mk) (EdgeNow s true) to there p w.reached)),
          );
          unmarked = λ p q e. elim (marked-or marks p) [
            | inl u ↦ inl ((new q).1 (Reached-then (IsRootNow s) (EdgeNow s true) p q ((new p).0 u) (there p q e)))
            | inr n ↦ inr (
              n,
              elim (there p q e) [
                | inl f ↦ inl (subst (λ h. HasField h p q) (sym (ap (λ e. e.heap) peers)) f)
                | inr r ↦ inr (refl, subst (λ h. HasReference h u.refs p q) (sym (ap (λ e. e.heap) peers)) (subst (λ t. HasReference s.peers.heap t p q) (sym urefs) r.1))
              ],
            )
          ];
        }

-- a write needs its source in a slot, so a peer without a mark keeps its fields
pub marks-written : (s : PeerReplay) (mk : Marking) (follows : Bool) (marks : List Bool) (x i : ℕ) (y : Option ℕ) → IsMarkedSide s mk follows marks → InSlot s.peers.heap x
    → AreMarksExact (record s { peers = record s.peers { heap = with_field s.peers.heap x i y } }) mk follows marks
marks-written s mk follows marks x i y side held =
    let k = side.kept.marking mk side.opened in
    let m = side.right in
    let g = with_field s.peers.heap x i y in
    let live : (p : ℕ) → IsLive s.peers.heap p → IsLive g p = λ p l. record { made = (l.made.0, subst (λ n. p ≤ n) (sym (with_field-length s.peers.heap x i y)) l.made.1); kept = l.kept } in
    let was : (p : ℕ) → IsLive g p → IsLive s.peers.heap p = λ p l. record { made = (l.made.0, subst (λ n. p ≤ n) (with_field-length s.peers.heap x i y) l.made.1); kept = l.kept } in
    record {
      older = m.older;
      fresh = λ p l n. m.fresh p (was p l) n;
      exact = m.exact;
      unmarked = λ p q e. elim (m.unmarked p q e) [
        | inl u ↦ inl u
        | inr w ↦
            let bare : p ≢ x = λ d. k.slots p (subst (InSlot s.peers.heap) (sym d) held) (edge-existed mk p q e).0 (λ t. w.0 ((m.exact p (edge-existed mk p q e).0).1 t)) in
            let still : fields_of g p ≡ fields_of s.peers.heap p = with_field-other s.peers.heap x i y p bare in
            inr (
              w.0,
              elim w.1 [
                | inl f ↦ inl record { live = live p f.live; field = subst (λ fs. Contains fs (Some q)) (sym still) f.field; there = live q f.there }
                | inr r ↦ inr (r.0, record { live = live p r.1.live; reference = r.1.reference; there = live q r.1.there })
              ],
            )
      ];
    }

-- fields, freed peers and mirrored references stay
pub marks-same : (s t : PeerReplay) (mk : Marking) (follows : Bool) (marks : List Bool) → t.peers.heap.fields ≡ s.peers.heap.fields
    → t.peers.heap.freed ≡ s.peers.heap.freed → t.refs ≡ s.refs → AreMarksExact s mk follows marks → AreMarksExact t mk follows marks
marks-same s t mk follows marks fields freed refs m =
    let was : (p : ℕ) → IsLive t.peers.heap p → IsLive s.peers.heap p = λ p l.
    record { made = (l.made.0, subst (λ f. p ≤ length f) fields l.made.1); kept = λ c. l.kept (subst (λ f. Contains f p) (sym freed) c) } in
    let live : (p : ℕ) → IsLive s.peers.heap p → IsLive t.peers.heap p = λ p l.
    record { made = (l.made.0, subst (λ f. p ≤ length f) (sym fields) l.made.1); kept = λ c. l.kept (subst (λ f. Contains f p) freed c) } in
    let still : (p : ℕ) → fields_of t.peers.heap p ≡ fields_of s.peers.heap p = λ p. ap (λ f. elim (numbered_at f p) [ None ↦ [] | Some fs ↦ fs ]) fields in
    record {
      older = λ p c. subst (λ f. Contains f p) (sym freed) (m.older p c);
      fresh = λ p l n. m.fresh p (was p l) n;
      exact = m.exact;
      unmarked = λ p q e. elim (m.unmarked p q e) [
        | inl u ↦ inl u
        | inr w ↦ inr (
          w.0,
          elim w.1 [
            | inl f ↦ inl record { live = live p f.live; field = subst (λ fs. Contains fs (Some q)) (sym (still p)) f.field; there = live q f.there }
            | inr r ↦ inr (r.0, record { live = live p r.1.live; reference = subst (λ rs. Refers rs p q) (sym refs) r.1.reference; there = live q r.1.there })
          ],
        )
      ];
    }

-- a new peer has a mark, and no edge of the begin
pub marks-new : (s : PeerReplay) (mk : Marking) (follows : Bool) (marks after : List Bool) (sort : Sort) (n : ℕ) → IsMarkedSide s mk follows marks
    → ((k : ℕ) → k ≢ next_number s.peers.heap → (HasMark after k ↔ HasMark marks k)) → HasMark after (next_number s.peers.heap)
    → AreMarksExact (record s { peers = with_peer s.peers sort n }) mk follows after
marks-new s mk follows marks after sort n side other here =
    let m = side.right in
    let k = side.kept.marking mk side.opened in
    let old : (p : ℕ) → IsLive mk.heap p → p ≢ next_number s.peers.heap = λ p e same. omega (arith, e.made.1, k.made, same) in
    record {
      older = m.older;
      fresh = λ p l x. elim (cases_eq p (next_number s.peers.heap)) [
        | inl e ↦ subst (HasMark after) (sym e) here
        | inr d ↦ (other p d).1 (m.fresh p record {
          made = (
            l.made.0,
            let b : p ≤ length (s.peers.heap.fields ++ replicate n None ∷ []) = l.made.1 in
                omega (arith, b, length-append s.peers.heap.fields (replicate n None ∷ []), d),
          );
          kept = l.kept;
        } x)
      ];
      exact = λ p e. ((λ u. (m.exact p e).0 ((other p (old p e)).0 u)), (λ w. (other p (old p e)).1 ((m.exact p e).1 w)));
      unmarked = λ p q e. let ends = edge-existed mk p q e in elim (m.unmarked p q e) [
        | inl u ↦ inl ((other q (old q ends.1)).1 u)
        | inr w ↦ inr (
          (λ u. w.0 ((other p (old p ends.0)).0 u)),
          elim w.1 [
            | inl f ↦ inl record {
              live = IsLive-later s.peers.heap n p f.live;
              field = subst (λ fs. Contains fs (Some q)) (sym (with_object-old s.peers.heap n p f.live.made.1)) f.field;
              there = IsLive-later s.peers.heap n q f.there;
            }
            | inr r ↦ inr (r.0, record { live = IsLive-later s.peers.heap n p r.1.live; reference = r.1.reference; there = IsLive-later s.peers.heap n q r.1.there })
          ],
        )
      ];
    }

-- a peer is brought back
pub marks-brought : (s : PeerReplay) (mk : Marking) (follows : Bool) (marks after : List Bool) (x : ℕ) → IsMarkedSide s mk follows marks
    → ((k : ℕ) → HasMark after k ↔ (HasMark marks k ⊎ Reached (Contains (x ∷ [])) (EdgeNow s follows) k))
    → AreMarksExact (record s { marking = Some (record mk { brought = mk.brought ++ x ∷ [] }) }) (record mk { brought = mk.brought ++ x ∷ [] }) follows after
marks-brought s mk follows marks after x side new =
    let m = side.right in
    let more : Marking = record mk { brought = mk.brought ++ x ∷ [] } in
    let k = side.kept.marking mk side.opened in
    let root : (z : ℕ) → IsMarkingRoot mk z → IsMarkingRoot more z = λ z r. elim r
    [ inl a ↦ inl a | inr t ↦ elim t [ inl b ↦ inr (inl b) | inr c ↦ inr (inr (Contains-append_left mk.brought (x ∷ []) z c)) ] ] in
    let wider : (z : ℕ) → IsMarked mk z → IsMarked more z = λ z w.
    record { existed = w.existed; reached = Reached-mono (IsMarkingRoot mk) (IsMarkingRoot more) (MarkingEdge mk) (MarkingEdge more) root (λ a b e. e) z w.reached } in
    let next : (a b : ℕ) → EdgeNow s follows a b → MarkingEdge mk a b ⊎ IsSpared mk b = λ a b n. elim n [ inl f ↦ k.fields a b f.live f.field | inr r ↦ k.references a b r.1.live r.1.reference ] in
    let down : (z : ℕ) → IsLive mk.heap z → HasMark after z → IsMarked more z = λ z e u. elim ((new z).0 u) [
      | inl w ↦ wider z ((m.exact z e).0 w)
      | inr r ↦ Reached-keeps (Contains (x ∷ [])) (EdgeNow s follows) (λ t. IsLive mk.heap t → IsMarked more t)
          (λ t same l. record { existed = l; reached = Reached-start (IsMarkingRoot more) (MarkingEdge more) t (inr (inr (Contains-append_right mk.brought (x ∷ []) t same))) })
          (λ a b n before l. elim (next a b n) [
            | inl ed ↦ record { existed = l; reached = Reached-then (IsMarkingRoot more) (MarkingEdge more) a b (before (edge-existed mk a b ed).0).reached ed }
            | inr sp ↦ wider b ((m.exact b l).0 (spared-existed s mk follows marks m b l sp))
          ]) z r e
    ] in
    let on : (a b : ℕ) → MarkingEdge mk a b → HasMark after a → HasMark after b = λ a b e u. elim (m.unmarked a b e) [
      | inl w ↦ (new b).1 (inl w)
      | inr w ↦ elim ((new a).0 u) [
        | inl v ↦ absurd (w.0 v)
        | inr r ↦ (new b).1 (inr (Reached-then (Contains (x ∷ [])) (EdgeNow s follows) a b r w.1))
      ]
    ] in
    let up : (z : ℕ) → IsMarked more z → HasMark after z = λ z w. Reached-keeps (IsMarkingRoot more) (MarkingEdge more) (λ t. IsLive mk.heap t → HasMark after t)
    (λ t r l. elim r [
      | inl a ↦ (new t).1 (inl ((m.exact t l).1 record { existed = l; reached = Reached-start (IsMarkingRoot mk) (MarkingEdge mk) t (inl a) }))
      | inr b ↦ elim b [
        | inl c ↦ (new t).1 (inl ((m.exact t l).1 record { existed = l; reached = Reached-start (IsMarkingRoot mk) (MarkingEdge mk) t (inr (inl c)) }))
        | inr c ↦ elim (Contains-push_cases mk.brought x t c) [
          | inl d ↦ (new t).1 (inl ((m.exact t l).1 record { existed = l; reached = Reached-start (IsMarkingRoot mk) (MarkingEdge mk) t (inr (inr d)) }))
          | inr d ↦ (new t).1 (inr (Reached-start (Contains (x ∷ [])) (EdgeNow s follows) t (subst (Contains (x ∷ [])) d (Contains-here x []))))
        ]
      ]
    ])
    (λ a b e before l. on a b e (before (edge-existed mk a b e).0)) z w.reached w.existed in
    record {
      older = m.older;
      fresh = λ p l n. (new p).1 (inl (m.fresh p l n));
      exact = λ p e. (down p e, up p);
      unmarked = λ p q e. elim (marked-or after p) [
        | inl u ↦ inl (on p q e u)
        | inr n ↦ elim (m.unmarked p q e) [ inl w ↦ inl ((new q).1 (inl w)) | inr w ↦ inr (n, w.1) ]
      ];
    }

-- the marking doesn't follow references that come to stand
pub marks-stood : (s : PeerReplay) (mk : Marking) (follows : Bool) (marks : List Bool) (cycle snap : ℕ) (refs : List (End × End))
    → s.refs ≡ [] → AreMarksExact s mk follows marks → AreMarksExact (mirrored s cycle (Some snap) refs) mk false marks
marks-stood s mk follows marks cycle snap refs none m = record {
  older = m.older;
  fresh = m.fresh;
  exact = m.exact;
  unmarked = λ p q e. elim (m.unmarked p q e) [
    | inl u ↦ inl u
    | inr w ↦ elim w.1 [ inl f ↦ inr (w.0, inl f) | inr r ↦ absurd (Refers-none p q (subst (λ rs. Refers rs p q) none r.1.reference)) ]
  ];
}

-- the references go, and what they led to has a mark
pub marks-cleared : (s : PeerReplay) (mk : Marking) (follows : Bool) (marks : List Bool) → ((p q : ℕ) → HasReference s.peers.heap s.refs p q → IsSpared mk q)
    → AreMarksExact s mk follows marks → AreMarksExact (record s { refs = []; mirror = None }) mk follows marks
marks-cleared s mk follows marks spared m = record {
  older = m.older;
  fresh = m.fresh;
  exact = m.exact;
  unmarked = λ p q e. elim (m.unmarked p q e) [
    | inl u ↦ inl u
    | inr w ↦ elim w.1 [ inl f ↦ inr (w.0, inl f) | inr r ↦ inl (spared-marked s mk follows marks m q r.1.there (spared p q r.1)) ]
  ];
}
