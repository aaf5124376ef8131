-- The families of lines that a generated script is made of. Each uses the variables a, b and c of its one thread, and
-- leaves them empty.
-- Believed: the clauses of the program's top call rest on all that stands here.
use Rattle.std.specs.Prelude.{ℕ, zero, suc, List, [], ◌∷◌, map, Some}
use Rattle.joint_machine.specs.declared.names.Var.{Var}
use Rattle.joint_machine.specs.declared.names.StaticNo.{StaticNo}
use Rattle.joint_machine.specs.declared.names.Thread.{Thread}
use Rattle.joint_machine.specs.declared.names.Thread.TheVariants.{M, P}
use Rattle.joint_machine.specs.declared.names.Kind.TheVariants.{Plain, Leaf, Bridge, LeafBridge}
use Rattle.joint_machine.specs.declared.names.Sort.TheVariants.{User, Framework}
use Rattle.joint_machine.specs.declared.lines.Act.{Act}
use Rattle.joint_machine.specs.declared.lines.Act.TheVariants as act

-- the variables a, b and c
abbrev pub var_a : Var
var_a = record { 0 = 0 }

abbrev pub var_b : Var
var_b = record { 0 = 1 }

abbrev pub var_c : Var
var_c = record { 0 = 2 }

-- two bridges that hold each other, one of them over a plain object; nothing else holds them
abbrev pub bridge_circle : List Act
bridge_circle =
    act.Bridge var_a Bridge 1 User 0
    ∷ act.New var_b Plain 1
    ∷ act.Set var_a 0 (Some var_b)
    ∷ act.Bridge var_c Bridge 1 User 0
    ∷ act.Set var_b 0 (Some var_c)
    ∷ act.Set var_c 0 (Some var_a)
    ∷ act.Drop var_a
    ∷ act.Drop var_b
    ∷ act.Drop var_c
    ∷ []

-- a framework's leaf bridge that a plain object holds, which a static of the managed heap holds
abbrev pub cached_leaf : StaticNo → List Act
cached_leaf x =
    act.Bridge var_a LeafBridge 0 Framework 1
    ∷ act.New var_b Plain 1
    ∷ act.Set var_b 0 (Some var_a)
    ∷ act.Store x (Some var_b)
    ∷ act.Drop var_a
    ∷ act.Drop var_b
    ∷ []

-- a bridge that holds a leaf, and whose peer a static of the peer heap holds
abbrev pub passed_bridge : StaticNo → List Act
passed_bridge x =
    act.Bridge var_a Bridge 1 User 0
    ∷ act.New var_b Leaf 0
    ∷ act.Set var_a 0 (Some var_b)
    ∷ act.Pass var_a x
    ∷ act.Drop var_a
    ∷ act.Drop var_b
    ∷ []

-- two peers that hold each other; nothing else holds them
abbrev pub peer_circle : List Act
peer_circle =
    act.NewPeer var_a 1
    ∷ act.NewPeer var_b 1
    ∷ act.Set var_a 0 (Some var_b)
    ∷ act.Set var_b 0 (Some var_a)
    ∷ act.Drop var_a
    ∷ act.Drop var_b
    ∷ []

-- the lines of a thread
abbrev pub lines_by : Thread → List Act → List (Thread × Act)
lines_by t acts = map (λ a. (t, a)) acts

-- a family of a shape, of the managed or the peer thread with that number, with the static that is its own
abbrev pub family_of : ℕ → ℕ → StaticNo → List (Thread × Act)
family_of zero t x = lines_by (M t) bridge_circle
family_of (suc zero) t x = lines_by (M t) (cached_leaf x)
family_of (suc (suc zero)) t x = lines_by (M t) (passed_bridge x)
family_of (suc (suc (suc n))) t x = lines_by (P t) peer_circle
