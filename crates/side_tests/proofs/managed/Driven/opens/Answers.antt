-- A snapshot opens a cycle with as many candidates as it tells, which may be contracted where nothing is dead; a
-- refusal changes nothing.
use Rattle.std.proofs.Common.{◌∙◌, refl, sym, subst}
use Rattle.managed_heap.specs.Pinned.{pins_given}
use Rattle.managed_heap.specs.Sides.{as_side}
use Rattle.side_tests.specs.Drives.{IsDriven}
use Rattle.side_tests.proofs.Snapshots.{may-contract, snap-counted, snapped-on}
use Rattle.side_tests.proofs.managed.Driven.opens.Goals as goal

pub invariant_of-self-2 : goal.invariant_of-self-2
invariant_of-self-2 c =
    let o = c.in_ok-opened.ensures.snaps in
    let counted = snap-counted _ _ _ _ _ _ _ _ o.opens (λ g. g.count) (λ g. refl) (λ g. refl) (λ x y e m f w. w) in
    snapped-on o.gate.count c.snap.new.gate.count c.self.inside.waiting c.self.inside.answered
    (as_side c.self.inside.side) (as_side c.snap.new.self) 2 (pins_given o.pins) c.in_ok-opened.opened counted
    (subst (λ n. IsDriven (as_side c.self.inside.side) n c.self.inside.waiting c.self.inside.answered) (sym o.closes.1) c.self.invariant)

pub returns : goal.returns
returns c = λ none. (
    let o = c.in_ok-opened.ensures.snaps in
    let counted = snap-counted _ _ _ _ _ _ _ _ o.opens (λ g. g.count) (λ g. refl) (λ g. refl) (λ x y e m f w. w) in
    may-contract o.gate.count c.snap.new.gate.count (as_side c.self.inside.side) (as_side c.snap.new.self) 2 (pins_given o.pins) c.in_ok-opened.opened counted (sym c.nodes-nodes.ensures.count ∙ none))
