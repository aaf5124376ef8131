-- The ends of mirror edges as they are answered. The definition numbers temporaries from 0 among the components without
-- members; an answered one has its component's index.
use Rattle.std.specs.Prelude.{ℕ, ◌+◌}
use Rattle.joint_machine.specs.Components as exact
use Rattle.xref_list.specs.declared.components.End.{End}
use Rattle.xref_list.specs.declared.components.End.TheVariants.{Node, Temp}

-- an end, where that many components have members
abbrev pub end_of : ℕ → exact.End → End
end_of count (exact.node n) = Node n
end_of count (exact.temporary t) = Temp (t + count)

abbrev pub ends_of : ℕ → exact.End × exact.End → End × End
ends_of count e = (end_of count e.0, end_of count e.1)
