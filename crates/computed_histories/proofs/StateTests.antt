-- The test of two states tells that they are the same, part by part.
use Rattle.std.proofs.Common.{◌≡◌, Bool, true, false, nat_eq, Option, Some, None, refl, ap}
use Rattle.std.proofs.lemmas.Bool.{false≢true}
use Rattle.joint_machine.specs.declared.names.Kind.{Kind}
use Rattle.joint_machine.specs.declared.names.Kind.TheVariants as kind
use Rattle.joint_machine.specs.Heaps.{Heap}
use Rattle.joint_machine.specs.Joint.{Graph, Joint, JointMarking}
use Rattle.joint_machine.specs.Managed.{Managed, OpenCycle}
use Rattle.joint_machine.specs.Peers.{Peers, Issued, Hold, held, raw, Strength, strong, weak}
use Rattle.computed_histories.specs.Lists.{same_list, same_number}
use Rattle.computed_histories.specs.Replies.{same_sort, same_answer}
use Rattle.computed_histories.specs.States.{same_option, same_truth, same_kind, same_hold, same_strength, same_heap, same_cycle, same_managed, same_issued, same_peers, same_graph, same_marking}
use Rattle.computed_histories.specs.States.{same_joint, StatesAreTested}
use Rattle.computed_histories.proofs.Telling.{Tells, tested, always, never, like, and2, and3, and4, and5, equal, same, same_numbers, same_lists}
use Rattle.computed_histories.proofs.ReplyTests.{sorts, answers}
use Rattle.computed_histories.proofs.SideTests.{threads}

options : {A : Type 0} (eq : A → A → Bool) → ((a b : A) → Tells (eq a b) (a ≡ b)) → (a b : Option A) → Tells (same_option eq a b) (a ≡ b)
options eq t None None = always refl
options eq t None (Some b) = never (λ e. cc)
options eq t (Some a) None = never (λ e. cc)
options {A} eq t (Some a) (Some b) = like (λ e. ap (λ z. Some z) e) (inside a b) (t a b)
  where
    inside : (a b : A) → Some a ≡ Some b → a ≡ b
    inside a b e = cc

truths : (a b : Bool) → Tells (same_truth a b) (a ≡ b)
truths true true = always refl
truths true false = never (λ e. cc)
truths false true = never (λ e. cc)
truths false false = always refl

kind_found : (a b : Kind) → same_kind a b ≡ true → a ≡ b
kind_found kind.Plain kind.Plain e = refl
kind_found kind.Leaf kind.Leaf e = refl
kind_found kind.Bridge kind.Bridge e = refl
kind_found kind.LeafBridge kind.LeafBridge e = refl
kind_found _ _ e = absurd (false≢true e)

kind_itself : (a : Kind) → same_kind a a ≡ true
kind_itself kind.Plain = refl
kind_itself kind.Leaf = refl
kind_itself kind.Bridge = refl
kind_itself kind.LeafBridge = refl

kinds : (a b : Kind) → Tells (same_kind a b) (a ≡ b)
kinds a b = equal same_kind a b (kind_found a b) (kind_itself a)

holds : (a b : Hold) → Tells (same_hold a b) (a ≡ b)
holds held held = always refl
holds raw raw = always refl
holds held raw = never (λ e. cc)
holds raw held = never (λ e. cc)

strengths : (a b : Strength) → Tells (same_strength a b) (a ≡ b)
strengths strong strong = always refl
strengths weak weak = always refl
strengths strong weak = never (λ e. cc)
strengths weak strong = never (λ e. cc)

heaps : (a b : Heap) → Tells (same_heap a b) (a ≡ b)
heaps a b = like {P = (a.fields ≡ b.fields) × (a.freed ≡ b.freed) × (a.vars ≡ b.vars) × (a.statics ≡ b.statics)}
    (λ e i. record { fields = e.0 i; freed = e.1 i; vars = e.2 i; statics = e.3 i })
    (λ e. (ap (λ (x : Heap). x.fields) e, ap (λ (x : Heap). x.freed) e, ap (λ (x : Heap). x.vars) e, ap (λ (x : Heap). x.statics) e))
    (and4 (same_lists (same_list same_number) (same_lists same_number same_numbers) a.fields b.fields) (same_lists nat_eq same a.freed b.freed)
    (same_lists same_number same_numbers a.vars b.vars) (same_lists same_number same_numbers a.statics b.statics))

cycles : (a b : OpenCycle) → Tells (same_cycle a b) (a ≡ b)
cycles a b = like {P = (a.number ≡ b.number) × (a.candidates ≡ b.candidates) × (a.dead ≡ b.dead)}
    (λ e i. record { number = e.0 i; candidates = e.1 i; dead = e.2 i })
    (λ e. (ap (λ (x : OpenCycle). x.number) e, ap (λ (x : OpenCycle). x.candidates) e, ap (λ (x : OpenCycle). x.dead) e))
    (and3 (same a.number b.number) (same_lists nat_eq same a.candidates b.candidates) (same_lists nat_eq same a.dead b.dead))

manageds : (a b : Managed) → Tells (same_managed a b) (a ≡ b)
manageds a b = like {P = (((((((((a.heap ≡ b.heap) × (a.kinds ≡ b.kinds)) × (a.held ≡ b.held)) × (a.pins ≡ b.pins)) × (a.cells ≡ b.cells)) × (a.notices ≡ b.notices)) × (a.taken ≡ b.taken))
    × (a.cycle ≡ b.cycle)) × (a.cycles ≡ b.cycles))}
    (λ e i. record {
      heap = e.0.0.0.0.0.0.0.0 i;
      kinds = e.0.0.0.0.0.0.0.1 i;
      held = e.0.0.0.0.0.0.1 i;
      pins = e.0.0.0.0.0.1 i;
      cells = e.0.0.0.0.1 i;
      notices = e.0.0.0.1 i;
      taken = e.0.0.1 i;
      cycle = e.0.1 i;
      cycles = e.1 i;
    })
    (λ e. (
      (
        (
          (
            ((((ap (λ (x : Managed). x.heap) e, ap (λ (x : Managed). x.kinds) e), ap (λ (x : Managed). x.held) e), ap (λ (x : Managed). x.pins) e), ap (λ (x : Managed). x.cells) e),
            ap (λ (x : Managed). x.notices) e,
          ),
          ap (λ (x : Managed). x.taken) e,
        ),
        ap (λ (x : Managed). x.cycle) e,
      ),
      ap (λ (x : Managed). x.cycles) e,
    ))
    (and2 (and2 (and2 (and2 (and2 (and2 (and2 (and2 (heaps a.heap b.heap) (same_lists same_kind kinds a.kinds b.kinds)) (same_lists same_number same_numbers a.held b.held))
    (same_lists same_number same_numbers a.pins b.pins)) (same_lists same_number same_numbers a.cells b.cells)) (same_lists nat_eq same a.notices b.notices)) (same a.taken b.taken))
    (options same_cycle cycles a.cycle b.cycle)) (same a.cycles b.cycles))

issueds : (a b : Issued) → Tells (same_issued a b) (a ≡ b)
issueds a b = like {P = (a.peer ≡ b.peer) × (a.hold ≡ b.hold) × (a.strength ≡ b.strength)}
    (λ e i. record { peer = e.0 i; hold = e.1 i; strength = e.2 i })
    (λ e. (ap (λ (x : Issued). x.peer) e, ap (λ (x : Issued). x.hold) e, ap (λ (x : Issued). x.strength) e))
    (and3 (same a.peer b.peer) (holds a.hold b.hold) (strengths a.strength b.strength))

peerss : (a b : Peers) → Tells (same_peers a b) (a ≡ b)
peerss a b = like {P = (a.heap ≡ b.heap) × (a.sorts ≡ b.sorts) × (a.names ≡ b.names) × (a.issued ≡ b.issued) × (a.made ≡ b.made)}
    (λ e i. record { heap = e.0 i; sorts = e.1 i; names = e.2 i; issued = e.3 i; made = e.4 i })
    (λ e. (ap (λ (x : Peers). x.heap) e, ap (λ (x : Peers). x.sorts) e, ap (λ (x : Peers). x.names) e, ap (λ (x : Peers). x.issued) e, ap (λ (x : Peers). x.made) e))
    (and5 (heaps a.heap b.heap) (same_lists same_sort sorts a.sorts b.sorts) (same_lists same_number same_numbers a.names b.names)
    (same_lists same_issued issueds a.issued b.issued) (same a.made b.made))

graphs : (a b : Graph) → Tells (same_graph a b) (a ≡ b)
graphs a b = like {P = (a.managed ≡ b.managed) × (a.peers ≡ b.peers) × (a.removed ≡ b.removed)}
    (λ e i. record { managed = e.0 i; peers = e.1 i; removed = e.2 i })
    (λ e. (ap (λ (x : Graph). x.managed) e, ap (λ (x : Graph). x.peers) e, ap (λ (x : Graph). x.removed) e))
    (and3 (manageds a.managed b.managed) (peerss a.peers b.peers) (same_lists same_truth truths a.removed b.removed))

markings : (a b : JointMarking) → Tells (same_marking a b) (a ≡ b)
markings a b = like {P = (a.number ≡ b.number) × (a.by ≡ b.by) × (a.begun ≡ b.begun)}
    (λ e i. record { number = e.0 i; by = e.1 i; begun = e.2 i })
    (λ e. (ap (λ (x : JointMarking). x.number) e, ap (λ (x : JointMarking). x.by) e, ap (λ (x : JointMarking). x.begun) e))
    (and3 (same a.number b.number) (threads a.by b.by) (graphs a.begun b.begun))

pub joints : (a b : Joint) → Tells (same_joint a b) (a ≡ b)
joints a b = like {P = (a.graph ≡ b.graph) × (a.answers ≡ b.answers) × (a.marking ≡ b.marking) × (a.markings ≡ b.markings)}
    (λ e i. record { graph = e.0 i; answers = e.1 i; marking = e.2 i; markings = e.3 i })
    (λ e. (ap (λ (x : Joint). x.graph) e, ap (λ (x : Joint). x.answers) e, ap (λ (x : Joint). x.marking) e, ap (λ (x : Joint). x.markings) e))
    (and4 (graphs a.graph b.graph) (same_lists (same_option same_answer) (options same_answer answers) a.answers b.answers)
    (options same_marking markings a.marking b.marking) (same a.markings b.markings))

-- as the contract states it
pub states_tested : StatesAreTested
states_tested a b = tested (joints a b)
