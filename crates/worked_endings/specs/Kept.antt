-- Runs in which a peer is freed that has to stay: one whose object holds a handle on it and is no candidate, and one
-- that was reached between the begin of the marking and its sweep. No machine has these runs.
use Rattle.std.specs.Prelude.{List, [], ◌∷◌, None}
use Rattle.joint_machine.specs.declared.names.Thread.TheVariants.{P}
use Rattle.joint_machine.specs.declared.lines.Act.TheVariants as act
use Rattle.joint_machine.specs.declared.events.Op.TheVariants as op
use Rattle.joint_machine.specs.declared.events.Reply.TheVariants as says
use Rattle.joint_machine.specs.Headline.{IsSoundRun}
use Rattle.joint_machine.specs.Heaps.{with_freed}
use Rattle.joint_machine.specs.Joint.{Joint}
use Rattle.joint_machine.specs.Run.{Moment}
use Rattle.joint_machine.specs.Told.{nothing, Noted}
use Rattle.run_laws.specs.PeersKept.{KeepsHeldPeers, SparesReached}
use Rattle.worked_histories.specs.Notes.{note, var, name_no, peer_no}
use Rattle.worked_histories.specs.Unsound.{begins_one, closed, moment_of, peer_named, sweeps_two}
use Rattle.worked_histories.specs.WithPeers.{at, begun_behind, paired, sweeps_one, unbegun}

-- objects 1 and 2 hold handles on the peers 1 and 2, object 2 is the open cycle's candidate, and peer 1 is freed
abbrev pub first_swept : Joint
first_swept = record paired {
  graph = record paired.graph {
    peers = record paired.graph.peers { heap = with_freed paired.graph.peers.heap (1 ∷ []) };
  };
}

-- the sweep frees it
abbrev pub held_peer_swept : List Moment
held_peer_swept = at paired begins_one ∷ moment_of paired sweeps_one first_swept ∷ []

-- a weak name gives peer 2 back in a marking, its variable is emptied again, and the sweep frees the peer
abbrev pub reads_back : Noted
reads_back = note 2 (P 1) 2 (op.Line (act.WRead (var 1) (name_no 0))) (says.P (peer_no 2)) None nothing

abbrev pub lets_go : Noted
lets_go = note 3 (P 1) 3 (op.Line (act.Drop (var 1))) says.Ok None nothing

abbrev pub brought_back : List Moment
brought_back = at closed begins_one ∷ moment_of closed reads_back peer_named
    ∷ moment_of peer_named lets_go closed ∷ at closed sweeps_two ∷ []

-- the second run is sound by what was reached at the begin and just before the sweep
pub record ArePeersKept : Type 0 where
  pub held_peers : KeepsHeldPeers held_peer_swept → ⊥
  pub sound : IsSoundRun brought_back
  pub reached : SparesReached brought_back → ⊥
  pub begun : SparesReached unbegun → ⊥
  pub begun_before : SparesReached begun_behind → ⊥
