-- What was reached at some state since the snapshot of the open cycle. It isn't impossible for a row to be in this set
-- where it is not impossible that it was reached; so nothing has to be decided. The set is closed under the joint edges
-- of the present state: a new edge leads to what is reached now or was just before.
use Rattle.std.proofs.Common.{◌≡◌, ℕ, zero, suc, ◌<◌, ◌≤◌, ◌⊎◌, inl, inr, List, [], ◌∷◌, ◌++◌, length, Some, refl, sym, ap, subst, ◌∙◌, arith, length-append}
use Rattle.std.specs.Prelude.{Contains, slice_get}
use Rattle.std.proofs.lemmas.Option.{same_Some}
use Rattle.joint_machine.specs.Heaps.{IsMade, IsLive}
use Rattle.joint_machine.specs.Joint.{Joint, Row, object, JointEdge, IsJointRoot, IsReached}
use Rattle.joint_machine.specs.Linked.{Linkage, MayCome, linkage_after}
use Rattle.joint_machine.specs.Managed.{Holds}
use Rattle.joint_machine.specs.Places.{At}
use Rattle.joint_machine.specs.Run.{Moment}
use Rattle.joint_machine.specs.Told.{Noted}
use Rattle.joint_machine.proofs.WalkLemmas.{Reached-start, Reached-then}
use Rattle.joint_machine.proofs.Deciding.{none_some}
use Rattle.joint_laws.proofs.Edges.{edge-before, made-or}
use Rattle.joint_laws.proofs.ManagedMoves.{GoesOn}
use Rattle.joint_laws.proofs.JointRuns.{Stands, state_of}
use Rattle.joint_laws.proofs.NewRows.{new-named}

-- reached in the state at an entry from place a on
pub record IsSeen (past : List Moment) (a : ℕ) (x : Row) : Type 0 where
  pub place : ℕ
  pub from : a ≤ place
  pub moment : Moment
  pub there : slice_get past place ≡ Some moment
  pub reached : IsReached moment.after x

-- it isn't impossible
abbrev pub WasSeen : List Moment → ℕ → Row → Type 0
WasSeen past a x = (IsSeen past a x → ⊥) → ⊥

-- the last state of a list of moments
pub record IsLast (past : List Moment) (j : Joint) : Type 0 where
  pub place : ℕ
  pub at_end : suc place ≡ length past
  pub moment : Moment
  pub there : slice_get past place ≡ Some moment
  pub after : moment.after ≡ j

pub record IsWatched (past : List Moment) (a : ℕ) (candidates : List ℕ) (j : Joint) : Type 0 where
  pub last : IsLast past j
  pub started : a < length past
  pub closed : (x y : Row) → WasSeen past a x → JointEdge j.graph x y → WasSeen past a y
  pub bridges : (m h : ℕ) → Holds j.graph.managed m h → (Contains candidates m → ⊥) → WasSeen past a (object m)

-- longer lists
pub get-front : (xs ys : List Moment) (i : ℕ) (m : Moment) → slice_get xs i ≡ Some m → slice_get (xs ++ ys) i ≡ Some m
get-front [] ys i m e = absurd (none_some m e)
get-front (x ∷ xs) ys zero m e = e
get-front (x ∷ xs) ys (suc i) m e = get-front xs ys i m e

pub get-last : (past : List Moment) (m : Moment) → slice_get (past ++ m ∷ []) (length past) ≡ Some m
get-last [] m = refl
get-last (x ∷ past) m = get-last past m

pub push-cases : (past : List Moment) (m : Moment) (i : ℕ) (x : Moment) → slice_get (past ++ m ∷ []) i ≡ Some x → (slice_get past i ≡ Some x) ⊎ ((i ≡ length past) × (m ≡ x))
push-cases [] m zero x e = inr (refl, same_Some m x e)
push-cases [] m (suc i) x e = absurd (none_some x e)
push-cases (y ∷ past) m zero x e = inl e
push-cases (y ∷ past) m (suc i) x e = elim (push-cases past m i x e) [ inl w ↦ inl w | inr w ↦ inr (ap suc w.0, w.1) ]

-- what stands at a place still does in a longer list, and what is so there in that was so before
pub at-more : {Is : Moment → Type 0} (past more : List Moment) (i : ℕ) → At past i Is → At (past ++ more) i Is
at-more past more i w = record { element = w.element; there = get-front past more i w.element w.there; is = w.is }

pub at-front : {Was Is : Moment → Type 0} (past more : List Moment) (i : ℕ) → At past i Was → At (past ++ more) i Is → At past i Is
at-front {Is = Is} past more i w q =
    let same : q.element ≡ w.element = same_Some q.element w.element (sym q.there ∙ get-front past more i w.element w.there) in
    record { element = w.element; there = w.there; is = subst Is same q.is }

pub seen-more : (past : List Moment) (m : Moment) (a : ℕ) (x : Row) → IsSeen past a x → IsSeen (past ++ m ∷ []) a x
seen-more past m a x w = record { place = w.place; from = w.from; moment = w.moment; there = get-front past (m ∷ []) w.place w.moment w.there; reached = w.reached }

pub was-more : (past : List Moment) (m : Moment) (a : ℕ) (x : Row) → WasSeen past a x → WasSeen (past ++ m ∷ []) a x
was-more past m a x w n = w (λ v. n (seen-more past m a x v))

pub seen-now : (past : List Moment) (m : Moment) (a : ℕ) (x : Row) → a ≤ length past → IsReached m.after x → IsSeen (past ++ m ∷ []) a x
seen-now past m a x l r = record { place = length past; from = l; moment = m; there = get-last past m; reached = r }

-- what is reached in the last state was seen
pub last-seen : (past : List Moment) (a : ℕ) (j : Joint) (x : Row) → IsLast past j → a < length past → IsReached j x → IsSeen past a x
last-seen past a j x w l r = record { place = w.place; from = (let e = w.at_end in omega arith); moment = w.moment; there = w.there; reached = subst (λ z. IsReached z x) (sym w.after) r }

pub last-now : (past : List Moment) (m : Moment) (j : Joint) → m.after ≡ j → IsLast (past ++ m ∷ []) j
last-now past m j e = record { place = length past; at_end = (let l = length-append past (m ∷ []) in omega arith); moment = m; there = get-last past m; after = e }

-- an edge after an entry was there before, or leads to what is reached
module _ (s : Linkage) (n : Noted) (may : MayCome s n) (w : Stands s) (v : Stands (linkage_after s n)) (g : GoesOn s.managed.managed (linkage_after s n).managed.managed) where
  abbrev j : Joint
  j = state_of s w

  abbrev k : Joint
  k = state_of (linkage_after s n) v

  abbrev EdgeCase : Row → Row → Type 0
  EdgeCase x y = JointEdge j.graph x y ⊎ IsReached j y ⊎ IsReached k y

  live-back : (x : ℕ) → IsMade s.managed.managed.heap x → IsLive (linkage_after s n).managed.managed.heap x → IsLive s.managed.managed.heap x
  live-back x m l = record { made = m; kept = λ c. l.kept (subst (λ f. Contains f x) (sym g.freed) c) }

  pub edge-case : (x y : Row) → JointEdge k.graph x y → EdgeCase x y
  edge-case x y e = edge-before s n may w.kept v.kept w.flags.removed v.flags.removed x y e

  -- the set stays closed
  module _ (past : List Moment) (a : ℕ) (candidates : List ℕ) (watched : IsWatched past a candidates j) (m : Moment) (after : m.after ≡ k) where
    now : (x : Row) → IsReached k x → IsSeen (past ++ m ∷ []) a x
    now x r = seen-now past m a x (let l = watched.started in omega arith) (subst (λ z. IsReached z x) (sym after) r)

    pub seen-cases : (x : Row) → IsSeen (past ++ m ∷ []) a x → IsSeen past a x ⊎ IsReached k x
    seen-cases x q = elim (push-cases past m q.place q.moment q.there) [
      | inl there ↦ inl (record { place = q.place; from = q.from; moment = q.moment; there = there; reached = q.reached })
      | inr e ↦ inr (subst (λ z. IsReached z x) after (subst (λ (z : Moment). IsReached z.after x) (sym e.1) q.reached))
    ]

    next-edge : (x y : Row) → JointEdge k.graph x y → IsSeen past a x → WasSeen (past ++ m ∷ []) a y
    next-edge x y e q = elim (edge-case x y e) [
      | inl old ↦ was-more past m a y (watched.closed x y (λ f. f q) old)
      | inr r ↦ elim r [
        | inl before ↦ (λ f. f (seen-more past m a y (last-seen past a j y watched.last watched.started before)))
        | inr after_it ↦ (λ f. f (now y after_it))
      ]
    ]

    pub closed-next : (x y : Row) → WasSeen (past ++ m ∷ []) a x → JointEdge k.graph x y → WasSeen (past ++ m ∷ []) a y
    closed-next x y u e f = u (λ q. elim (seen-cases x q) [
      | inl old ↦ next-edge x y e old f
      | inr r ↦ f (now y (Reached-then (IsJointRoot k.graph) (JointEdge k.graph) x y r e))
    ])

    bridge-next : (x h : ℕ) → Holds (linkage_after s n).managed.managed x h → (Contains candidates x → ⊥) → WasSeen (past ++ m ∷ []) a (object x)
    bridge-next x h q out = elim (made-or s.managed.managed.heap x q.live.made.0) [
      | inl made ↦ was-more past m a (object x) (watched.bridges x h (record { live = live-back x made q.live; held = g.gains x h made q.held }) out)
      | inr new ↦ (λ f. f (now (object x) (Reached-start (IsJointRoot k.graph) (JointEdge k.graph) (object x) (new-named s n may w.kept.managed x h new q))))
    ]

    pub watched-next : IsWatched (past ++ m ∷ []) a candidates k
    watched-next = record {
      last = last-now past m k after;
      started = (let l = watched.started in let e = length-append past (m ∷ []) in omega arith);
      closed = closed-next;
      bridges = bridge-next;
    }
