-- Each turn of the loop keeps the marking; once none waits, it is closed under the edges.
use Rattle.std.proofs.Common.{◌≡◌, ◌<◌, ◌∷◌, [], ◌∙◌, length, arith, ap, length-append}
use Rattle.std.proofs.lemmas.Option.{slice_get_within}
use Rattle.std.proofs.lemmas.List.{nil_from_length}
use Rattle.std.proofs.lemmas.List.Elements.{Contains-push}
use Rattle.reachability.specs.Marks.{Leads, HasMark}
use Rattle.reachability.proofs.Marking.{Marking-goes, Marking-ends, Marking-closes, Scans-as, unmarked-le}
use Rattle.reachability.proofs.mark_reached.Goals as goal

pub mark_all-requires-clause-room : goal.mark_all-requires-clause-room
mark_all-requires-clause-room g c =
    omega (arith, unmarked-le c.args.marks.now, c.requires.len, c.requires.room, ap length c.requires.empty)

pub scan-requires-clause-node : goal.scan-requires-clause-node
scan-requires-clause-node g c =
    let m = rw c.in-Some.ensures.items at c.loop-x.invariant.marking in
    let here : HasMark c.loop-x.marks c.in-Some.x = m.marked c.in-Some.x (Contains-push c.pop.new.self.items c.in-Some.x) in
    omega (arith, slice_get_within c.loop-x.marks c.in-Some.x _ here, m.len, c.requires.len)

pub scan-requires-clause-room : goal.scan-requires-clause-room
scan-requires-clause-room g c =
    let m = rw c.in-Some.ensures.items at c.loop-x.invariant.marking in
    omega (arith, m.room, length-append c.pop.new.self.items (c.in-Some.x ∷ []), unmarked-le c.args.marks.now, c.requires.len, c.requires.room, c.loop-x.invariant.capacity, c.pop.ensures.capacity)

pub loop-x-preserved : goal.loop-x-preserved
loop-x-preserved g c =
    let m = rw c.in-Some.ensures.items at c.loop-x.invariant.marking in
    let here : HasMark c.loop-x.marks c.in-Some.x = m.marked c.in-Some.x (Contains-push c.pop.new.self.items c.in-Some.x) in
    let node : c.in-Some.x < g.G.Walked.nodes c.args.g.now = omega (arith, slice_get_within c.loop-x.marks c.in-Some.x _ here, m.len, c.requires.len) in
    record {
      marking = Marking-goes _ _ _ _ _ c.in-Some.x c.pop.new.self.items _ c.requires.closed m
          (Scans-as _ (Leads (g.G.Walked.nodes c.args.g.now) (g.G.Walked.targets c.args.g.now) c.in-Some.x) _ _ _ _ (λ k e. e.1) (λ k e. (node, e)) c.scan.ensures.scans);
      capacity = c.scan.ensures.capacity ∙ (c.pop.ensures.capacity ∙ c.loop-x.invariant.capacity);
    }

pub returns-clause-marks : goal.returns-clause-marks
returns-clause-marks g c =
    let none : c.loop-x.waiting.items ≡ [] = nil_from_length c.loop-x.waiting.items (omega (arith, c.in_default.ensures.cases, c.loop-x.waiting.ok)) in
    Marking-ends _ _ _ _ (rw none at c.loop-x.invariant.marking)

pub returns-clause-closed : goal.returns-clause-closed
returns-clause-closed g c =
    let none : c.loop-x.waiting.items ≡ [] = nil_from_length c.loop-x.waiting.items (omega (arith, c.in_default.ensures.cases, c.loop-x.waiting.ok)) in
    Marking-closes _ _ _ _ (rw none at c.loop-x.invariant.marking)
