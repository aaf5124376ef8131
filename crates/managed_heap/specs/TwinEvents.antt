-- What the events on twins do to the rows, by the variable's place: `adopt`, `meet` and `give`.
use Rattle.std.specs.Prelude.{ℕ, List, Option, Some, None}
use Rattle.joint_machine.specs.declared.names.HNum.{HNum}
use Rattle.joint_machine.specs.declared.names.Kind.{Kind}
use Rattle.joint_machine.specs.declared.names.MNum.{MNum}
use Rattle.joint_machine.specs.declared.names.PNum.{PNum}
use Rattle.joint_machine.specs.declared.names.Sort.{Sort}
use Rattle.joint_machine.specs.declared.events.Reply.{Reply}
use Rattle.joint_machine.specs.declared.events.Reply.TheVariants as says
use Rattle.joint_machine.specs.Heaps.{Answered, answer, slot}
use Rattle.joint_machine.specs.Managed.{adopted, met, given_up, handle_of, without_handle}
use Rattle.joint_machine.specs.ManagedReplay.{ManagedReplay, adopt_by, meet_by, give_by}
use Rattle.instance_registry.specs.Pairs.{without}

-- `adopt`
abbrev pub adopt_at : ManagedReplay → ℕ → Kind → ℕ → PNum → HNum → Answered ManagedReplay
adopt_at s v kind n p h = let a = adopted s.managed v kind n h.0 in adopt_by s p.0 h.0 a.state a.reply

-- `meet`, given the twin that the peer has
abbrev pub meet_at : ManagedReplay → ℕ → PNum → HNum → Sort → ℕ → Option ℕ → Answered ManagedReplay
meet_at s v p h sort n twin = let a = met s.managed v h.0 sort n twin in meet_by s p.0 h.0 a.state a.reply

-- `give`
abbrev pub give_at : ManagedReplay → ℕ → Answered ManagedReplay
give_at s v = give_by s (slot s.managed.heap.vars v) (given_up s.managed v)

-- the reply that tells of an object's handle
abbrev pub handle_said : Option ℕ → Reply
handle_said None = says.Plain
handle_said (Some h) = says.H record { 0 = h }

-- an object gives its handle up
abbrev pub give_row : ManagedReplay → ℕ → Answered ManagedReplay
give_row s x = give_by s (Some x) (answer (handle_said (handle_of s.managed x)) (without_handle s.managed (Some x)))

-- the registry after the pair of a peer, if there is one, was taken out
abbrev pub left_by : List (PNum × MNum) → Option ℕ → List (PNum × MNum)
left_by pairs None = pairs
left_by pairs (Some p) = without pairs record { 0 = p }
