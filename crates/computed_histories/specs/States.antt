-- Whether two states of the joint machine are the same, part by part.
use Rattle.std.specs.Prelude.{◌≡◌, ◌↔◌, Bool, true, false, not, ◌&&◌, nat_eq, IsTrue, Option, Some, None}
use Rattle.joint_machine.specs.declared.names.Kind.{Kind}
use Rattle.joint_machine.specs.declared.names.Kind.TheVariants as kind
use Rattle.joint_machine.specs.Heaps.{Heap}
use Rattle.joint_machine.specs.Joint.{Graph, Joint, JointMarking}
use Rattle.joint_machine.specs.Managed.{Managed, OpenCycle}
use Rattle.joint_machine.specs.PeerReplay.{is_thread}
use Rattle.joint_machine.specs.Peers.{Peers, Issued, Hold, held, raw, Strength, strong, weak}
use Rattle.computed_histories.specs.Lists.{same_list, same_number}
use Rattle.computed_histories.specs.Replies.{same_sort, same_answer}

-- two places, by a test of what stands in them
abbrev pub same_option : {A : Type 0} → (A → A → Bool) → Option A → Option A → Bool
same_option eq None None = true
same_option eq None (Some b) = false
same_option eq (Some a) None = false
same_option eq (Some a) (Some b) = eq a b

-- truth values, kinds, holds and strengths
abbrev pub same_truth : Bool → Bool → Bool
same_truth true b = b
same_truth false b = not b

abbrev pub same_kind : Kind → Kind → Bool
same_kind kind.Plain kind.Plain = true
same_kind kind.Leaf kind.Leaf = true
same_kind kind.Bridge kind.Bridge = true
same_kind kind.LeafBridge kind.LeafBridge = true
same_kind _ _ = false

abbrev pub same_hold : Hold → Hold → Bool
same_hold held held = true
same_hold raw raw = true
same_hold _ _ = false

abbrev pub same_strength : Strength → Strength → Bool
same_strength strong strong = true
same_strength weak weak = true
same_strength _ _ = false

-- the parts of a state, and the whole
abbrev pub same_heap : Heap → Heap → Bool
same_heap a b = same_list (same_list same_number) a.fields b.fields && same_list nat_eq a.freed
    b.freed && same_list same_number a.vars b.vars && same_list same_number a.statics b.statics

abbrev pub same_cycle : OpenCycle → OpenCycle → Bool
same_cycle a b = nat_eq a.number b.number && same_list nat_eq
    a.candidates b.candidates && same_list nat_eq a.dead b.dead

abbrev pub same_managed : Managed → Managed → Bool
same_managed a b =
    same_heap a.heap b.heap
    && same_list same_kind a.kinds b.kinds
    && same_list same_number a.held b.held
    && same_list same_number a.pins b.pins
    && same_list same_number a.cells b.cells
    && same_list nat_eq a.notices b.notices
    && nat_eq a.taken b.taken
    && same_option same_cycle a.cycle b.cycle
    && nat_eq a.cycles b.cycles

abbrev pub same_issued : Issued → Issued → Bool
same_issued a b = nat_eq a.peer b.peer && same_hold a.hold b.hold && same_strength a.strength b.strength

abbrev pub same_peers : Peers → Peers → Bool
same_peers a b = same_heap a.heap b.heap && same_list same_sort a.sorts b.sorts && same_list
    same_number a.names b.names && same_list same_issued a.issued b.issued && nat_eq a.made b.made

abbrev pub same_graph : Graph → Graph → Bool
same_graph a b = same_managed a.managed b.managed && same_peers
    a.peers b.peers && same_list same_truth a.removed b.removed

abbrev pub same_marking : JointMarking → JointMarking → Bool
same_marking a b = nat_eq a.number b.number && is_thread a.by b.by && same_graph a.begun b.begun

abbrev pub same_joint : Joint → Joint → Bool
same_joint a b = same_graph a.graph b.graph && same_list (same_option same_answer) a.answers
    b.answers && same_option same_marking a.marking b.marking && nat_eq a.markings b.markings

-- the test tells exactly that two states are the same
abbrev pub StatesAreTested : Type 0
StatesAreTested = (a b : Joint) → IsTrue (same_joint a b) ↔ (a ≡ b)
