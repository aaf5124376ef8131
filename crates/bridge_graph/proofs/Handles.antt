-- The handles of a graph's nodes, one node after another.
use Rattle.std.proofs.Common.{◌≡◌, ℕ, ◌+◌, List, [], ◌∷◌, ◌++◌, length, take, Option, Some, None, ap, ◌∙◌, arith, length-append, append-nil}
use Rattle.std.specs.Option.{option_to_list}
use Rattle.std.proofs.lemmas.Grind.{flat_map-append}
use Rattle.joint_machine.specs.declared.names.HNum.{HNum}
use Rattle.joint_machine.proofs.Members.{take-next}
use Rattle.bridge_graph.specs.declared.graph.Node.{Node}
use Rattle.bridge_graph.specs.Handles.{handles_of}
use Rattle.bridge_graph.specs.Parts.{HasNode}

-- the handles of one node more
handles-next : (nodes : List Node) (i : ℕ) (o : Option HNum) → HasNode nodes i (λ n. n.handle ≡ o)
    → length (handles_of (take (i + 1) nodes)) ≡ length (handles_of (take i nodes)) + length (option_to_list o)
handles-next nodes i o at =
    ap (λ ns. length (handles_of ns)) (take-next nodes i at.0 at.1)
    ∙ (ap length (flat_map-append (λ (n : Node). option_to_list n.handle) (take i nodes) (at.0 ∷ []) ∙ ap (λ hs. handles_of (take i nodes) ++ hs) (append-nil (option_to_list at.0.handle)))
    ∙ (length-append (handles_of (take i nodes)) (option_to_list at.0.handle) ∙ ap (λ z. length (handles_of (take i nodes)) + length (option_to_list z)) at.2))

pub handles-some : (nodes : List Node) (i : ℕ) (h : HNum) → HasNode nodes i (λ n. n.handle ≡ Some h) → length (handles_of (take (i + 1) nodes)) ≡ length (handles_of (take i nodes)) + 1
handles-some nodes i h at = handles-next nodes i (Some h) at

pub handles-none : (nodes : List Node) (i : ℕ) → HasNode nodes i (λ n. n.handle ≡ None) → length (handles_of (take (i + 1) nodes)) ≡ length (handles_of (take i nodes))
handles-none nodes i at = (let e = handles-next nodes i None at in omega (arith, e))
