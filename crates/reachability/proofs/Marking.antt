-- A step of a marking, and the whole loop, over plain lists. A step marks the nodes of a row, and each node
-- that it marks anew joins the waiting ones. Two steps make one, of both rows. The loop keeps `Marking`: what
-- is marked was marked before or is reached, the roots are marked, and a marked node waits or has all its
-- targets marked. Once none waits, the marks are closed under the edges, so each reached node is marked, by
-- an induction along its walk.
use Rattle.std.proofs.Common.{◌≡◌, ℕ, zero, suc, ◌+◌, ◌<◌, ◌≤◌, ◌↔◌, ◌⊎◌, inl, inr, Bool, true, false, List, [], ◌∷◌, ◌++◌, length, Option, Some, None, set, get_or, replicate, refl, sym, ap, subst}
use Rattle.std.proofs.Common.{◌∙◌, arith, length-append, not}
use Rattle.std.specs.Prelude.{Contains, slice_get}
use Rattle.std.proofs.Math.ListN.{length-set}
use Rattle.std.proofs.lemmas.List.Elements.{Contains-push, Contains-push_cases, Contains-append_left}
use Rattle.std.proofs.lemmas.Option.{slice_get-get_or}
use Rattle.joint_machine.specs.Walks.{Reached}
use Rattle.joint_machine.proofs.WalkLemmas.{Reached-keeps, Reached-then}
use Rattle.joint_machine.proofs.Members.{Contains-nil, Contains-filter_from, Contains-filter_to}
use Rattle.reachability.specs.Marks.{HasMark, IsClosed, unmarked, marked, unmarked_of}
use Rattle.reachability.specs.Scans.{Scans}
use Rattle.joint_machine.proofs.Deciding.{not-true, not-from}

-- marking a node that wasn't marked
pub unmarked-set : (m : List Bool) (i : ℕ) → slice_get m i ≡ Some false → unmarked (set m i true) + 1 ≡ unmarked m
unmarked-set [] i e = cc
unmarked-set (true ∷ m) zero e = cc
unmarked-set (false ∷ m) zero e = refl
unmarked-set (true ∷ m) (suc i) e = unmarked-set m i e
unmarked-set (false ∷ m) (suc i) e = omega (arith, unmarked-set m i e)

pub set-marked : (m : List Bool) (i : ℕ) → i < length m → HasMark (set m i true) i
set-marked [] i l = absurd (omega arith)
set-marked (b ∷ m) zero l = refl
set-marked (b ∷ m) (suc i) l = set-marked m i (omega arith)

pub set-keeps : (m : List Bool) (i k : ℕ) → HasMark m k → HasMark (set m i true) k
set-keeps [] i k e = e
set-keeps (b ∷ m) zero zero e = refl
set-keeps (b ∷ m) zero (suc k) e = e
set-keeps (b ∷ m) (suc i) zero e = e
set-keeps (b ∷ m) (suc i) (suc k) e = set-keeps m i k e

pub set-fresh : (m : List Bool) (i k : ℕ) → HasMark (set m i true) k → HasMark m k ⊎ (k ≡ i)
set-fresh [] i k e = inl e
set-fresh (b ∷ m) zero zero e = inr refl
set-fresh (b ∷ m) zero (suc k) e = inl e
set-fresh (b ∷ m) (suc i) zero e = inl e
set-fresh (b ∷ m) (suc i) (suc k) e = elim (set-fresh m i k e) [ inl h ↦ inl h | inr h ↦ inr (ap suc h) ]

pub unmarked-le : (m : List Bool) → unmarked m ≤ length m
unmarked-le [] = omega arith
unmarked-le (true ∷ m) = omega (arith, unmarked-le m)
unmarked-le (false ∷ m) = omega (arith, unmarked-le m)

-- a row without nodes asks for no step
pub Scans-none : (row : ℕ → Type 0) (m : List Bool) (s : List ℕ) → ((k : ℕ) → row k → ⊥) → Scans row m s m s
Scans-none row m s none = record {
  len = refl;
  kept = λ k h. h;
  done = λ k r. absurd (none k r);
  fresh = λ k h. inl h;
  stays = λ k h. h;
  within = λ k h. inl h;
  fewer = omega arith;
  same = refl;
}

-- a node that is marked already asks for none either
pub Scans-seen : (y : ℕ) (m : List Bool) (s : List ℕ) → HasMark m y → Scans (λ z. z ≡ y) m s m s
Scans-seen y m s seen = record {
  len = refl;
  kept = λ k h. h;
  done = λ k r. subst (HasMark m) (sym r) seen;
  fresh = λ k h. inl h;
  stays = λ k h. h;
  within = λ k h. inl h;
  fewer = omega arith;
  same = refl;
}

-- a node that isn't marked gets its mark and waits
pub Scans-new : (y : ℕ) (m : List Bool) (s : List ℕ) → slice_get m y ≡ Some false → y < length m → Scans (λ z. z ≡ y) m s (set m y true) (s ++ y ∷ [])
Scans-new y m s new l = record {
  len = length-set m y true;
  kept = λ k h. set-keeps m y k h;
  done = λ k r. subst (HasMark (set m y true)) (sym r) (set-marked m y l);
  fresh = λ k h. elim (set-fresh m y k h) [ inl w ↦ inl w | inr w ↦ inr (w, subst (Contains (s ++ y ∷ [])) (sym w) (Contains-push s y)) ];
  stays = λ k h. Contains-append_left s (y ∷ []) k h;
  within = λ k h. elim (Contains-push_cases s y k h) [ inl w ↦ inl w | inr w ↦ inr (subst (HasMark (set m y true)) w (set-marked m y l)) ];
  fewer = omega (arith, unmarked-set m y new);
  same = omega (arith, unmarked-set m y new, length-append s (y ∷ []));
}

-- two steps make one, of a row that has the nodes of both
pub Scans-then : (p q row : ℕ → Type 0) (a : List Bool) (s : List ℕ) (b : List Bool) (t : List ℕ) (c : List Bool) (u : List ℕ)
    → ((k : ℕ) → row k → p k ⊎ q k) → ((k : ℕ) → p k → row k) → ((k : ℕ) → q k → row k) → Scans p a s b t → Scans q b t c u → Scans row a s c u
Scans-then p q row a s b t c u split left right x y = record {
  len = y.len ∙ x.len;
  kept = λ k h. y.kept k (x.kept k h);
  done = λ k r. elim (split k r) [ inl w ↦ y.kept k (x.done k w) | inr w ↦ y.done k w ];
  fresh = λ k h. elim (y.fresh k h) [
    | inl w ↦ elim (x.fresh k w) [ inl v ↦ inl v | inr v ↦ inr (left k v.0, y.stays k v.1) ]
    | inr w ↦ inr (right k w.0, w.1)
  ];
  stays = λ k h. y.stays k (x.stays k h);
  within = λ k h. elim (y.within k h) [
    | inl w ↦ elim (x.within k w) [ inl v ↦ inl v | inr v ↦ inr (y.kept k v) ]
    | inr w ↦ inr w
  ];
  fewer = omega (arith, x.fewer, y.fewer);
  same = y.same ∙ x.same;
}

-- a step marks any row with the same nodes
pub Scans-as : (p row : ℕ → Type 0) (a : List Bool) (s : List ℕ) (b : List Bool) (t : List ℕ) → ((k : ℕ) → row k → p k) → ((k : ℕ) → p k → row k) → Scans p a s b t → Scans row a s b t
Scans-as p row a s b t there back x = Scans-then p (λ k. ⊥) row a s b t b t (λ k r. inl (there k r)) back (λ k r. absurd r) x (Scans-none (λ k. ⊥) b t (λ k r. r))

-- a list's nodes and one more node
pub Scans-push : (xs : List ℕ) (y : ℕ) (a : List Bool) (s : List ℕ) (b : List Bool) (t : List ℕ) (c : List Bool) (u : List ℕ)
    → Scans (Contains xs) a s b t → Scans (λ z. z ≡ y) b t c u → Scans (Contains (xs ++ y ∷ [])) a s c u
Scans-push xs y a s b t c u v w = Scans-then (Contains xs) (λ z. z ≡ y) (Contains (xs ++ y ∷ [])) a s b t c u
    (λ k r. elim (Contains-push_cases xs y k r) [ inl h ↦ inl h | inr h ↦ inr (sym h) ])
    (λ k h. Contains-append_left xs (y ∷ []) k h)
    (λ k h. subst (Contains (xs ++ y ∷ [])) (sym h) (Contains-push xs y)) v w

-- the same for the places of a node: one with a target, and one that is empty
pub Scans-push_some : (xs : List (Option ℕ)) (y : ℕ) (a : List Bool) (s : List ℕ) (b : List Bool) (t : List ℕ) (c : List Bool) (u : List ℕ)
    → Scans (λ k. Contains xs (Some k)) a s b t → Scans (λ z. z ≡ y) b t c u → Scans (λ k. Contains (xs ++ Some y ∷ []) (Some k)) a s c u
Scans-push_some xs y a s b t c u v w = Scans-then (λ k. Contains xs (Some k)) (λ z. z ≡ y) (λ k. Contains (xs ++ Some y ∷ []) (Some k)) a s b t c u
    (λ k r. elim (Contains-push_cases xs (Some y) (Some k) r) [ inl h ↦ inl h | inr h ↦ inr (let e : k ≡ y = cc in e) ])
    (λ k h. Contains-append_left xs (Some y ∷ []) (Some k) h)
    (λ k h. subst (λ j. Contains (xs ++ Some y ∷ []) (Some j)) (sym h) (Contains-push xs (Some y))) v w

pub Scans-push_none : (xs : List (Option ℕ)) (a : List Bool) (s : List ℕ) (b : List Bool) (t : List ℕ)
    → Scans (λ k. Contains xs (Some k)) a s b t → Scans (λ k. Contains (xs ++ None ∷ []) (Some k)) a s b t
Scans-push_none xs a s b t v = Scans-as (λ k. Contains xs (Some k)) (λ k. Contains (xs ++ None ∷ []) (Some k)) a s b t
    (λ k r. elim (Contains-push_cases xs None (Some k) r) [ inl h ↦ h | inr h ↦ (let e : ⊥ = cc in absurd e) ])
    (λ k h. Contains-append_left xs (None ∷ []) (Some k) h) v

-- the mark that is read at a node
pub read-mark : (m : List Bool) (y : ℕ) (b : Bool) → y < length m → get_or m y false ≡ b → slice_get m y ≡ Some b
read-mark m y b l e = slice_get-get_or m y false l ∙ ap (λ z. Some z) e

-- fresh marks are all false
pub fresh-unmarked : (n k : ℕ) → HasMark (replicate n false) k → ⊥
fresh-unmarked zero k e = cc
fresh-unmarked (suc n) zero e = cc
fresh-unmarked (suc n) (suc k) e = fresh-unmarked n k e

-- what the loop keeps, from the marks before it: `start` are the roots, `edge` the edges
pub record Marking (start : ℕ → Type 0) (edge : ℕ → ℕ → Type 0) (before marks : List Bool) (waits : List ℕ) : Type 0 where
  pub len : length marks ≡ length before
  pub sound : (k : ℕ) → HasMark marks k → HasMark before k ⊎ Reached start edge k
  pub kept : (k : ℕ) → HasMark before k → HasMark marks k
  pub roots : (k : ℕ) → start k → HasMark marks k
  pub closed : (k : ℕ) → HasMark marks k → Contains waits k ⊎ ((y : ℕ) → edge k y → HasMark marks y)
  pub marked : (k : ℕ) → Contains waits k → HasMark marks k
  pub room : unmarked marks + length waits ≤ unmarked before

-- it stays where one waiting node is taken and its targets are marked
pub Marking-goes : (start : ℕ → Type 0) (edge : ℕ → ℕ → Type 0) (before marks marks' : List Bool) (x : ℕ) (waits waits' : List ℕ) → IsClosed edge before
    → Marking start edge before marks (waits ++ x ∷ []) → Scans (edge x) marks waits marks' waits' → Marking start edge before marks' waits'
Marking-goes start edge before marks marks' x waits waits' closed i y =
    let here : HasMark marks x = i.marked x (Contains-push waits x) in
    record {
      len = y.len ∙ i.len;
      sound = λ k h. elim (y.fresh k h) [
        | inl w ↦ i.sound k w
        | inr w ↦ elim (i.sound x here) [ inl v ↦ inl (closed x k w.0 v) | inr v ↦ inr (Reached-then start edge x k v w.0) ]
      ];
      kept = λ k h. y.kept k (i.kept k h);
      roots = λ k h. y.kept k (i.roots k h);
      closed = λ k h. elim (y.fresh k h) [
        | inl w ↦ elim (i.closed k w) [
          | inl v ↦ elim (Contains-push_cases waits x k v) [
            | inl u ↦ inl (y.stays k u)
            | inr u ↦ inr (λ z e. y.done z (subst (λ t. edge t z) (sym u) e))
          ]
          | inr v ↦ inr (λ z e. y.kept z (v z e))
        ]
        | inr w ↦ inl w.1
      ];
      marked = λ k h. elim (y.within k h) [ inl w ↦ y.kept k (i.marked k (Contains-append_left waits (x ∷ []) k w)) | inr w ↦ w ];
      room = omega (arith, y.same, i.room, length-append waits (x ∷ []));
    }

-- once none waits, what a marked node leads to is marked
pub Marking-closes : (start : ℕ → Type 0) (edge : ℕ → ℕ → Type 0) (before marks : List Bool) → Marking start edge before marks [] → IsClosed edge marks
Marking-closes start edge before marks i x y e h = elim (i.closed x h) [ inl w ↦ absurd (Contains-nil x w) | inr w ↦ w y e ]

-- so exactly what was marked before or is reached is marked
pub Marking-ends : (start : ℕ → Type 0) (edge : ℕ → ℕ → Type 0) (before marks : List Bool) → Marking start edge before marks [] → (k : ℕ) → HasMark marks k ↔ (HasMark before k ⊎ Reached start edge k)
Marking-ends start edge before marks i k =
    (i.sound k, λ h. elim h [ inl w ↦ i.kept k w | inr w ↦ Reached-keeps start edge (HasMark marks) i.roots (Marking-closes start edge before marks i) k w ])

-- a mark is there or not
pub marked-or : (marks : List Bool) (x : ℕ) → HasMark marks x ⊎ (HasMark marks x → ⊥)
marked-or [] x = inr (λ u. cc)
marked-or (true ∷ m) zero = inl refl
marked-or (false ∷ m) zero = inr (λ u. cc)
marked-or (b ∷ m) (suc x) = marked-or m x

-- the test of a mark
pub marked-from : (o : Option Bool) → elim o [ None ↦ false | Some b ↦ b ] ≡ true → o ≡ Some true
marked-from None e = cc
marked-from (Some b) e = ap Some e

pub marked-some : (o : Option Bool) (b : Bool) → o ≡ Some b → elim o [ None ↦ false | Some x ↦ x ] ≡ b
marked-some None b e = cc
marked-some (Some x) b e = cc

pub IsMarked-test : (marks : List Bool) (m : ℕ) → marked marks m ≡ true → HasMark marks m
IsMarked-test marks m e = marked-from (slice_get marks m) e

pub test-IsMarked : (marks : List Bool) (m : ℕ) → HasMark marks m → marked marks m ≡ true
test-IsMarked marks m h = marked-some (slice_get marks m) true h

-- the rows that aren't marked are exactly these
pub unmarked_of-exact : (marks : List Bool) (ms : List ℕ) (m : ℕ) → Contains (unmarked_of marks ms) m ↔ (Contains ms m × (HasMark marks m → ⊥))
unmarked_of-exact marks ms m = (
  λ c. let r = Contains-filter_from (λ k. not (marked marks k)) ms m c in (r.0, λ h. not-true (marked marks m) r.1 (test-IsMarked marks m h)),
  λ h. Contains-filter_to (λ k. not (marked marks k)) ms m h.0 (not-from (marked marks m) (λ e. h.1 (IsMarked-test marks m e))),
)
