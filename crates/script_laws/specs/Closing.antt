-- No cycle is abandoned, and behind each that is opened comes a resolve before the next one is opened: what the lines
-- of a script tell by themselves. That it is the cycle's own resolve is told by the driver's order.
use Rattle.std.specs.Prelude.{List, [], ◌∷◌}
use Rattle.joint_machine.specs.declared.events.Op.{Op}
use Rattle.joint_machine.specs.declared.events.Op.TheVariants as op
use Rattle.joint_machine.specs.declared.events.Entry.{Entry}

-- an event resolves, or opens no cycle and a later one resolves
abbrev pub ResolvesLater : Op → Type 0 → Type 0
ResolvesLater (op.Resolve k) later = Unit {0}
ResolvesLater (op.Snap k) later = ⊥
ResolvesLater o later = later

-- a resolve comes, and before it no snap
abbrev pub ResolveComes : List Entry → Type 0
ResolveComes [] = ⊥
ResolveComes (e ∷ es) = ResolvesLater e.made.op (ResolveComes es)

-- an event abandons no cycle, and a resolve comes after a snap
abbrev pub CycleCloses : Op → List Entry → Type 0
CycleCloses (op.Abandon k) es = ⊥
CycleCloses (op.Snap k) es = ResolveComes es
CycleCloses o es = Unit {0}

-- so it is of each event
abbrev pub AllCyclesClose : List Entry → Type 0
AllCyclesClose [] = Unit {0}
AllCyclesClose (e ∷ es) = CycleCloses e.made.op es × AllCyclesClose es
