-- Each managed object that holds a handle, and is no candidate, has an unfreed peer: its handle is in the table and
-- strong, and no strong handle is cleared.
use Rattle.std.proofs.Common.{List, ◌≡◌, ℕ, Some, sym, subst}
use Rattle.std.specs.Prelude.{Contains}
use Rattle.joint_machine.specs.Heaps.{IsLive}
use Rattle.joint_machine.specs.Linked.{Linkage, opening_linkage, linkage_after}
use Rattle.joint_machine.specs.Managed.{Holds, candidates_of}
use Rattle.joint_machine.specs.Peers.{peer_of}
use Rattle.joint_machine.specs.Run.{Moment, IsRun}
use Rattle.joint_machine.specs.LinkedHistories.{joint_projection}
use Rattle.joint_machine.specs.Replaying.{AllMayCome, machine_entries}
use Rattle.joint_machine.specs.Told.{Noted}
use Rattle.joint_machine.proofs.Members.{Contains-at}
use Rattle.run_laws.specs.PeersKept.{HeldPeersLive, KeepsHeldPeers}
use Rattle.joint_laws.specs.ReadingLaws.{without_aside, IsLawfulReading}
use Rattle.joint_laws.proofs.CompleteRuns.{run-traced}
use Rattle.joint_laws.proofs.LinkedEntries.{Of}
use Rattle.joint_laws.proofs.PeerEntries.{peer_of-issued}
use Rattle.joint_laws.proofs.ReadsAside.{reading_is_lawful, reading_projects_so}

held-live : (s : Linkage) → Of s → (m h : ℕ) → Holds s.managed.managed m h → (Contains (candidates_of s.managed.managed) m → ⊥)
    → (p : ℕ) × (peer_of s.peer.peers.issued h ≡ Some p) × IsLive s.peer.peers.heap p
held-live s k m h q out =
    let i = k.owners.held_ones m h q in
    let t = k.owners.strong_ones m h q out in
    (i.0.peer, peer_of-issued s.peer.peers.issued h i.0 i.1, k.peer.handles.uncleared h t.0 i.0 t.1 i.1 (k.peer.handles.sure h t.0 t.1 t.2))

pub every_run_keeps_held_peers : (noted : List Noted) (run : List Moment) → AllMayCome opening_linkage noted → IsRun (machine_entries noted) run → KeepsHeldPeers run
every_run_keeps_held_peers noted run may r i x e =
    let t = run-traced noted run may r x (Contains-at run i x e) in
    subst HeldPeersLive (sym t.after) (held-live (linkage_after t.state x.noted) t.next.kept)

pub every_reading_run_keeps_held_peers : (noted : List Noted) (run : List Moment) → IsLawfulReading noted → IsRun (joint_projection noted) run → KeepsHeldPeers run
every_reading_run_keeps_held_peers noted run w r =
    every_run_keeps_held_peers (without_aside noted) run (reading_is_lawful noted w) (subst (λ z. IsRun z run) (sym (reading_projects_so noted)) r)
