use Rattle.std.proofs.Common.{List, ℕ, ◌++◌, map, sym, ap, ◌∙◌}
use Rattle.std.specs.Prelude.{flat_map}
use Rattle.joint_machine.specs.Components.{circle}
use Rattle.bridge_graph.specs.Packing.{packed_rows}
use Rattle.array_graphs.specs.Graphs.{pair_of}
use Rattle.cycle_check.proofs.Mirrored.{circles-more}
use Rattle.cycle_check.proofs.mirroring.push_circles.Goals as goal

pub loop-c-init : goal.loop-c-init
loop-c-init c = ap (map pair_of) c.requires.empty

pub loop-c-preserved : goal.loop-c-preserved
loop-c-preserved c =
    let starts = c.args.starts.now in
    let members = c.args.members.now in
    c.in_ok-push_circle.ensures ∙ (ap (λ z. z ++ circle c.packed_row.result.now) c.loop-c.invariant
    ∙ (ap (λ (r : List ℕ). flat_map circle (packed_rows starts members c.loop-c.c) ++ circle r) c.packed_row.ensures
    ∙ sym (circles-more starts members c.loop-c.c)))
