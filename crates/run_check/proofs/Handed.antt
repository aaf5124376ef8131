-- The place of the next candidate among the nodes of the open cycle's graph.
use Rattle.std.proofs.Common.{◌≡◌, ⊎_elim, ℕ, zero, suc, ◌+◌, ◌<◌, ◌≤◌, false, true, List, [], ◌∷◌, length, drop, Option, Some, None, refl, sym, ap, ◌∙◌, subst, arith}
use Rattle.std.specs.Prelude.{IsSome, slice_get}
use Rattle.std.specs.Option.{option_and_then}
use Rattle.std.proofs.lemmas.Bool.{cases_lt}
use Rattle.joint_machine.specs.declared.names.HNum.{HNum}
use Rattle.bridge_graph.specs.declared.graph.Node.{Node}
use Rattle.bridge_graph.specs.Handles.{handle_at, handles_of}
use Rattle.bridge_graph.specs.Parts.{HasNode}
use Rattle.handle_weaken.proofs.Turns.{left-some}
use Rattle.run_check.specs.Cycles.{IsAtHandle}

pub handle-is : (nodes : List Node) (i : ℕ) (o : Option HNum) → HasNode nodes i (λ n. n.handle ≡ o) → handle_at nodes i ≡ o
handle-is nodes i o at = ap (option_and_then (λ (n : Node). n.handle)) at.1 ∙ at.2

past-none : (nodes : List Node) (i : ℕ) → length nodes ≤ i → handle_at nodes i ≡ None
past-none [] i l = refl
past-none (n ∷ nodes) zero l = absurd (omega (arith, l))
past-none (n ∷ nodes) (suc i) l = past-none nodes i (omega (arith, l))

-- what is in the graph's last place, or behind it
drop-all : {X : Type 0} (xs : List X) (i : ℕ) → length xs ≤ i → drop i xs ≡ []
drop-all [] zero l = refl
drop-all [] (suc i) l = refl
drop-all (x ∷ xs) zero l = absurd (omega (arith, l))
drop-all (x ∷ xs) (suc i) l = drop-all xs i (omega (arith, l))

drop-next : {X : Type 0} (n : ℕ) (xs : List X) (y : X) (ys : List X) → drop n xs ≡ y ∷ ys → drop (suc n) xs ≡ ys
drop-next zero xs y ys e = ap (λ l. drop 1 l) e
drop-next (suc n) [] y ys e = ap (λ l. drop 1 l) e
drop-next (suc n) (x ∷ xs) y ys e = drop-next n xs y ys e

drop-some : {X : Type 0} (n : ℕ) (xs : List X) → n < length xs → drop n xs ≡ [] → ⊥
drop-some n [] l e = omega (arith, l)
drop-some zero (x ∷ xs) l e = (let c = ap length e in omega (arith, c))
drop-some (suc n) (x ∷ xs) l e = drop-some n xs (omega (arith, l)) e

-- at the first one
pub at-first : (nodes : List Node) (place : ℕ) → place ≤ length nodes → handles_of (drop place nodes) ≡ handles_of (drop 0 nodes) → (place < length nodes → IsSome (handle_at nodes place))
    → IsAtHandle nodes place 0
at-first nodes place w r b = record { within = w; count = omega arith; rest = r; bridge = b }

node-at : (nodes : List Node) (i : ℕ) → IsSome (handle_at nodes i) → (h : HNum) × HasNode nodes i (λ n. n.handle ≡ Some h)
node-at nodes i s = by (slice_get nodes i) refl
  where
    held : (n : Node) (o : Option HNum) → n.handle ≡ o → slice_get nodes i ≡ Some n → (h : HNum) × HasNode nodes i (λ n. n.handle ≡ Some h)
    held n None e at = absurd (let f : false ≡ true = subst IsSome (ap (option_and_then (λ (n : Node). n.handle)) at ∙ e) s in cc)
    held n (Some h) e at = (h, (n, at, e))

    by : (o : Option Node) → slice_get nodes i ≡ o → (h : HNum) × HasNode nodes i (λ n. n.handle ≡ Some h)
    by None at = absurd (let f : false ≡ true = subst IsSome (ap (option_and_then (λ (n : Node). n.handle)) at) s in cc)
    by (Some n) at = held n n.handle refl at

-- a next one is there
pub is-within : (nodes : List Node) (place n : ℕ) → IsAtHandle nodes place n → n < length (handles_of nodes) → place < length nodes
is-within nodes place n a l = ⊎_elim (λ w. w) (λ b. absurd (drop-some n (handles_of nodes) l (sym a.rest ∙ ap handles_of (drop-all nodes place b)))) (cases_lt place (length nodes))

-- and the place goes on to the one behind it
pub at-next : (nodes : List Node) (place next n : ℕ) → IsAtHandle nodes place n → n < length (handles_of nodes) → next ≤ length nodes
    → handles_of (drop next nodes) ≡ handles_of (drop (place + 1) nodes) → (next < length nodes → IsSome (handle_at nodes next))
    → IsAtHandle nodes next (n + 1)
at-next nodes place next n a l w r b =
    let at = node-at nodes place (a.bridge (is-within nodes place n a l)) in
    record {
      within = w;
      count = omega (arith, l);
      rest =
          r ∙ sym (ap (λ k. drop k (handles_of nodes)) (let more : n + 1 ≡ suc n = omega arith in more) ∙ drop-next n (handles_of nodes) at.0 (handles_of (drop (place + 1) nodes))
          (sym a.rest ∙ left-some nodes place at.0 at.1));
      bridge = b;
    }
