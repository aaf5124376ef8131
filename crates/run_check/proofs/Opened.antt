-- The open cycle behind an entry of the peer side, which leaves the managed objects as they were: the graph stays the
-- dead part's, and where the driver goes on to a further candidate so does the place.
use Rattle.std.proofs.Common.{◌≡◌, ℕ, ◌+◌, ◌<◌, [], length, Option, Some, None, refl, sym, ap, ◌∙◌, subst, arith}
use Rattle.std.proofs.lemmas.Option.{slice_get_within}
use Rattle.joint_machine.specs.Control.{Stand, IsCandidateHandle}
use Rattle.joint_machine.specs.Linked.{Linkage}
use Rattle.joint_model.specs.Listed.{answers_of}
use Rattle.joint_machine.specs.Managed.{Managed, candidates_of}
use Rattle.joint_machine.specs.ManagedReplay.{ManagedReplay}
use Rattle.joint_machine.proofs.HeapLemmas.{candidates_of-open}
use Rattle.joint_laws.specs.LinkedInvariants.{given_at}
use Rattle.joint_machine.specs.PinsTold.{no_pins}
use Rattle.known_laws.specs.Driving.{PastInvariant}
use Rattle.known_laws.specs.Known.{pinned}
use Rattle.known_laws.specs.Pasts.{HasSameDeadPart}
use Rattle.bridge_graph.specs.Handles.{handles_of}
use Rattle.bridge_graph.specs.Parts.{IsPart, Part}
use Rattle.managed_heap.specs.Graphs.{IsDeadGraph}
use Rattle.caller_turns.specs.Shapes.{next_place}
use Rattle.peer_heap.specs.Sides.{Reserve}
use Rattle.run_check.specs.declared.cycles.OpenCycle.{OpenCycle as Kept}
use Rattle.run_check.specs.Cycles.{CycleFollows, HasCycle, IsAtHandle, IsOpenHere}
use Rattle.run_check.specs.Follows.{LeftFits, ReserveFollows}
use Rattle.dead_parts.proofs.MirroredParts.{candidates-few, shows-on}

-- as many candidates as are kept
pub candidates-are : (s : Linkage) (o : Kept) (a : IsOpenHere s o) → length (candidates_of s.managed.managed) ≡ o.candidates
candidates-are s o a = ap length (candidates_of-open s.managed.managed a.cycle a.opened) ∙ sym a.count

pub same-dead : (t : Managed) → HasSameDeadPart t t
same-dead t = record { cycle = refl; handles = λ c e m d. refl; fields = λ c e m d. refl; contraction = λ c e comps heavy xrefs k. k }

-- a candidate in some place has a bridge node behind as many others
pub candidate-listed : (s : Linkage) (o : Kept) (a : IsOpenHere s o) → PastInvariant (pinned s no_pins) → (n h : ℕ) → IsCandidateHandle s.managed.managed n h → n < length (handles_of o.graph.nodes)
candidate-listed s o a k n h c =
    let t = (pinned s no_pins).managed.managed in
    let graph : IsDeadGraph t a.cycle.dead o.graph = record { numbers = a.graph.numbers; handles = a.graph.handles; edges = a.graph.edges } in
    let few = candidates-few t o.graph (shows-on t t a.cycle o.graph a.opened graph (same-dead t)) t a.cycle graph k.kept.managed.managed a.opened a.part in
    let within = slice_get_within (candidates_of t) n c.0 c.1 in
    omega (arith, few, within)

module _ (s t : Linkage) (same : t.managed ≡ s.managed) where
  -- the driver stands elsewhere
  pub opened-on : (o p : Kept) (a : IsOpenHere s o) → p.graph ≡ o.graph → p.candidates ≡ o.candidates → HasCycle t.control.stand p → IsAtHandle o.graph.nodes p.place (next_place t.control.stand)
      → answers_of p.alive.values ≡ given_at t.control.stand → p.alive.room + length p.alive.values ≡ o.candidates → IsOpenHere t p
  opened-on o p a g c h n v r = record {
    cycle = a.cycle;
    opened = subst (λ (m : ManagedReplay). m.managed.cycle ≡ Some a.cycle) (sym same) a.opened;
    graph = subst (λ (m : ManagedReplay). IsDeadGraph m.managed a.cycle.dead p.graph) (sym same) (subst (λ (x : Part). IsDeadGraph s.managed.managed a.cycle.dead x) (sym g) a.graph);
    part = subst (λ (x : Part). IsPart x.nodes x.edges) (sym g) a.part;
    count = c ∙ a.count;
    stands = h;
    next = subst (λ (x : Part). IsAtHandle x.nodes p.place (next_place t.control.stand)) (sym g) n;
    given = v;
    room = r ∙ sym c;
  }

  -- it stands as before
  module _ (stands : t.control.stand ≡ s.control.stand) where
    pub stays : (o : Option Kept) → CycleFollows s o → CycleFollows t o
    stays None f = stands ∙ f
    stays (Some o) f =
        opened-on o o f refl refl (subst (λ d. HasCycle d o) (sym stands) f.stands) (subst (λ d. IsAtHandle o.graph.nodes o.place (next_place d)) (sym stands) f.next)
        (f.given ∙ ap given_at (sym stands)) f.room

    pub reserved : (r : Reserve) → ReserveFollows s r → ReserveFollows t r
    reserved r f = record {
      none_waits = f.none_waits;
      left =
          subst (λ (m : ManagedReplay). LeftFits t.control.stand (length (candidates_of m.managed)) r.left) (sym same)
          (subst (λ d. LeftFits d (length (candidates_of s.managed.managed)) r.left) (sym stands) f.left);
    }

  -- what is left of the reserve where it stands elsewhere
  pub reserved-on : (r : Reserve) (d : Stand) → t.control.stand ≡ d → r.waiting ≡ [] → LeftFits d (length (candidates_of s.managed.managed)) r.left → ReserveFollows t r
  reserved-on r d e w f = record {
    none_waits = w;
    left =
        subst (λ (m : ManagedReplay). LeftFits t.control.stand (length (candidates_of m.managed)) r.left) (sym same)
        (subst (λ x. LeftFits x (length (candidates_of s.managed.managed)) r.left) (sym e) f);
  }
