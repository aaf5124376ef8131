use Rattle.std.proofs.Common.{◌++◌, map, refl, sym, ap, ◌∙◌, arith}
use Rattle.bridge_graph.specs.Packing.{packed_rows}
use Rattle.cycle_check.specs.Mirroring.{ends_of}
use Rattle.cycle_check.proofs.Mirrored.{mirrored}
use Rattle.cycle_check.proofs.mirroring.make_mirror.Goals as goal

pub returns-in_default-clause-report : goal.returns-in_default-clause-report
returns-in_default-clause-report c = ((λ e p. c.in_default.ensures p.m p.split), (λ n. refl))

pub returns-in_default-clause-many : goal.returns-in_default-clause-many
returns-in_default-clause-many c = ((λ e. (let f : ⊥ = cc in absurd f)), (λ w. absurd (c.in_default.ensures w.0.m w.0.split)))

pub returns-clause-made : goal.returns-clause-made
returns-clause-made c =
    let comps = packed_rows c.args.starts.now c.args.members.now c.in-Some.some in
    let xrefs = c.args.xrefs.now in record {
      m = c.in-Some.some;
      split = c.in-Some.ensures;
      count = omega (arith, c.in-Some.ensures.within);
      exact = c.in_ok-push_ends.ensures ∙ (ap (λ z. z ++ map (ends_of c.args.objects comps) xrefs) c.in_ok-push_circles.ensures ∙ sym (mirrored c.args.objects comps xrefs));
    }
