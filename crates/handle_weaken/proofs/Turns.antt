-- Entries that are made one after another, and the handles of a part's first nodes and of those that are left.
use Rattle.std.proofs.Common.{◌≡◌, ◌≢◌, ℕ, ◌+◌, zero, suc, List, [], ◌∷◌, ◌++◌, take, drop, Some, None, refl, sym, ap, subst, ◌∙◌, arith, append-nil}
use Rattle.std.specs.Prelude.{AllPairs, Contains, slice_get}
use Rattle.std.specs.Option.{option_to_list}
use Rattle.std.proofs.lemmas.Grind.{flat_map-append}
use Rattle.joint_machine.specs.declared.names.HNum.{HNum}
use Rattle.joint_machine.specs.Draws.{Drawing}
use Rattle.joint_machine.specs.Sides.{Side, SideRules, Making, AddsInTurn, AddsLawful}
use Rattle.std.proofs.lemmas.Option.{same_Some}
use Rattle.joint_machine.proofs.Deciding.{none_some}
use Rattle.bridge_graph.specs.declared.graph.Node.{Node}
use Rattle.bridge_graph.specs.Handles.{handles_of}
use Rattle.bridge_graph.specs.Parts.{HasNode}

-- one more entry comes after those before it
pub turn-more : {S D : Type 0} (r : SideRules S) (d : Drawing D) (before mid after : D) (old side new : Side S) (ms : List Making) (m : Making)
    → AddsInTurn r d before mid old side ms → AddsLawful r d mid after side new m.made m.told → AddsInTurn r d before after old new (ms ++ m ∷ [])
turn-more {S} {D} r d before mid after old side new [] m turns one =
    let from : AddsLawful r d before after side new m.made m.told = subst (λ (z : D). AddsLawful r d z after side new m.made m.told) turns.0 one in
    (after, new, subst (λ (z : Side S). AddsLawful r d before after z new m.made m.told) turns.1 from, (refl, refl))
turn-more r d before mid after old side new (n ∷ ns) m turns one = (turns.0, turns.1, turns.2, turn-more r d turns.0 mid after turns.1 side new ns m turns.3 one)

-- the elements below place i and the one there
take-next : {X : Type 0} (xs : List X) (i : ℕ) (x : X) → slice_get xs i ≡ Some x → take (suc i) xs ≡ take i xs ++ x ∷ []
take-next [] i x e = absurd (none_some x e)
take-next (y ∷ ys) zero x e = ap (λ z. z ∷ []) (same_Some y x e)
take-next (y ∷ ys) (suc i) x e = ap (λ zs. y ∷ zs) (take-next ys i x e)

-- the elements from place i on are the one there and those after it
drop-next : {X : Type 0} (xs : List X) (i : ℕ) (x : X) → slice_get xs i ≡ Some x → drop i xs ≡ x ∷ drop (suc i) xs
drop-next [] i x e = absurd (none_some x e)
drop-next (y ∷ ys) zero x e = ap (λ z. z ∷ ys) (same_Some y x e)
drop-next (y ∷ ys) (suc i) x e = drop-next ys i x e

-- the handles of the first nodes, with that of the next one
handles-done : (nodes : List Node) (i : ℕ) (node : Node) → slice_get nodes i ≡ Some node → handles_of (take (i + 1) nodes) ≡ handles_of (take i nodes) ++ option_to_list node.handle
handles-done nodes i node at =
    let next : i + 1 ≡ suc i = omega arith in
    ap (λ k. handles_of (take k nodes)) next
    ∙ (ap handles_of (take-next nodes i node at)
    ∙ (flat_map-append (λ (n : Node). option_to_list n.handle) (take i nodes) (node ∷ [])
    ∙ ap (λ hs. handles_of (take i nodes) ++ hs) (append-nil (option_to_list node.handle))))

-- the handles of the nodes that are left, without that of the next one
handles-left : (nodes : List Node) (i : ℕ) (node : Node) → slice_get nodes i ≡ Some node → handles_of (drop i nodes) ≡ option_to_list node.handle ++ handles_of (drop (i + 1) nodes)
handles-left nodes i node at =
    let next : i + 1 ≡ suc i = omega arith in
    ap handles_of (drop-next nodes i node at) ∙ ap (λ k. option_to_list node.handle ++ handles_of (drop k nodes)) (sym next)

-- so at a bridge node, and at another one
module _ (nodes : List Node) (i : ℕ) where
  pub done-some : (h : HNum) → HasNode nodes i (λ n. n.handle ≡ Some h) → handles_of (take (i + 1) nodes) ≡ handles_of (take i nodes) ++ h ∷ []
  done-some h at = handles-done nodes i at.0 at.1 ∙ ap (λ o. handles_of (take i nodes) ++ option_to_list o) at.2

  pub left-some : (h : HNum) → HasNode nodes i (λ n. n.handle ≡ Some h) → handles_of (drop i nodes) ≡ h ∷ handles_of (drop (i + 1) nodes)
  left-some h at = handles-left nodes i at.0 at.1 ∙ ap (λ o. option_to_list o ++ handles_of (drop (i + 1) nodes)) at.2

  pub done-none : HasNode nodes i (λ n. n.handle ≡ None) → handles_of (take (i + 1) nodes) ≡ handles_of (take i nodes)
  done-none at = handles-done nodes i at.0 at.1 ∙ (ap (λ o. handles_of (take i nodes) ++ option_to_list o) at.2 ∙ append-nil (handles_of (take i nodes)))

  pub left-none : HasNode nodes i (λ n. n.handle ≡ None) → handles_of (drop i nodes) ≡ handles_of (drop (i + 1) nodes)
  left-none at = handles-left nodes i at.0 at.1 ∙ ap (λ o. option_to_list o ++ handles_of (drop (i + 1) nodes)) at.2

-- the first handle isn't among the others, which differ from one another
pub apart-first : (h : HNum) (hs : List HNum) (k : HNum) → AllPairs (λ a b. a.0 ≢ b.0) (h ∷ hs) → Contains hs k → k.0 ≢ h.0
apart-first h hs k apart at = λ e. apart 0 (suc at.0) k (omega arith) (let within = at.1 in omega arith) (sym e ∙ ap (λ (z : HNum). z.0) (sym at.2))

pub apart-rest : (h : HNum) (hs : List HNum) → AllPairs (λ a b. a.0 ≢ b.0) (h ∷ hs) → AllPairs (λ a b. a.0 ≢ b.0) hs
apart-rest h hs apart = λ i j d less within. apart (suc i) (suc j) d (omega arith) (omega arith)
