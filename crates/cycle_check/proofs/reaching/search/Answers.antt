use Rattle.std.proofs.Common.{◌<◌, ℕ, [], ◌∷◌, inl, inr, length, get_or, subst, arith}
use Rattle.std.specs.List.{Contains}
use Rattle.std.proofs.Common.{below_more}
use Rattle.std.proofs.lemmas.Option.{slice_get_within, get_or_from_slice_get}
use Rattle.joint_machine.proofs.Members.{at-Contains, Contains-here}
use Rattle.joint_machine.proofs.WalkLemmas.{Reached-start, Reaches-keeps}
use Rattle.reachability.specs.Marks.{HasMark, Leads}
use Rattle.cycle_check.proofs.Flags.{unmarked-at}
use Rattle.cycle_check.proofs.reaching.search.Goals as goal

pub loop-r-preserved : goal.loop-r-preserved
loop-r-preserved g c =
    let roots = c.args.roots.now in
    let i = c.loop-r.r-index in
    let r : ℕ = get_or roots i 0 in
    let m = c.mark_reached.ensures.marks in
    let edge : ℕ → ℕ → Type 0 = Leads (g.G.Walked.nodes c.args.g.now) (g.G.Walked.targets c.args.g.now) in record {
      closed = c.mark_reached.ensures.closed;
      done = below_more _ _ (λ j l. (m (get_or roots j 0)).1 (inl (c.loop-r.invariant.done j l)))
          ((m r).1 (inr (Reached-start (Contains (r ∷ [])) edge r (Contains-here r []))));
      away = unmarked-at c.mark_reached.new.marks c.args.y c.if-marks-y.false;
      empty = c.mark_reached.ensures.empty;
      room = omega (arith, c.mark_reached.ensures.room, c.loop-r.invariant.room);
    }

pub unreachable-requires : goal.unreachable-requires
unreachable-requires g c =
    let roots = c.args.roots.now in
    let edge : ℕ → ℕ → Type 0 = Leads (g.G.Walked.nodes c.args.g.now) (g.G.Walked.targets c.args.g.now) in
    let r = c.requires.reached in
    let at = at-Contains roots r.root r.starts in
    let l : at.0 < length roots = slice_get_within roots at.0 r.root at.1 in
    let here : HasMark c.loop-r.marks r.root = subst (HasMark c.loop-r.marks) (get_or_from_slice_get roots at.0 r.root 0 at.1)
    (c.loop-r.invariant.done at.0 (omega (arith, l, c.loop-r-test.false))) in
    c.loop-r.invariant.away (Reaches-keeps edge (HasMark c.loop-r.marks) c.loop-r.invariant.closed r.root c.args.y r.reaches here)
