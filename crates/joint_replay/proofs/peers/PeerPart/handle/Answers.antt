-- The handle stands at its number.
use Rattle.std.proofs.Common.{◌≡◌, ◌≤◌, Some, map, length, subst, arith}
use Rattle.std.proofs.lemmas.List.{length-map}
use Rattle.joint_machine.specs.Heaps.{numbered_at}
use Rattle.joint_machine.specs.Peers.{Peers}
use Rattle.heap_rules.proofs.Numbered.{numbered-read}
use Rattle.joint_replay.specs.Plain.{issued_as}
use Rattle.joint_replay.proofs.peers.PeerPart.handle.Goals as goal

pub returns : goal.returns
returns c =
    let vs = c.self.inside.handles.items in
    let low : 1 ≤ c.args.h = omega (arith, c.if-h-eq0.false) in
    let high : c.args.h ≤ length (map issued_as vs) = omega (arith, c.if-h-len.false, c.len.ensures, c.self.inside.handles.ok, length-map vs issued_as) in
    subst (λ (s : Peers). numbered_at s.issued c.args.h ≡ Some (issued_as c.index.result.now)) c.self.view_is (numbered-read issued_as vs c.args.h c.index.result.now low high c.index.ensures)
