-- What a clear finds at the end of the restores: each unfreed peer that references lead to was given a handle, which is
-- strong now and not cleared.
use Rattle.std.proofs.Common.{◌≡◌, ℕ, List, length, Option, Some, None, ap, ◌∙◌}
use Rattle.joint_machine.specs.Control.{OpenSnap, restoring}
use Rattle.joint_machine.specs.Heaps.{numbered_at}
use Rattle.joint_machine.specs.Linked.{Linkage}
use Rattle.joint_machine.specs.Managed.{candidates_of}
use Rattle.joint_machine.specs.PeerReplay.{PeerReplay, TableRow, row_of}
use Rattle.joint_machine.specs.Peers.{strong}
use Rattle.joint_machine.specs.Told.{Answer}
use Rattle.joint_laws.specs.LinkedInvariants.{HasStrength}
use Rattle.joint_laws.proofs.PeerEntries.{peer_of-issued}
use Rattle.known_laws.specs.Driving.{PastInvariant}
use Rattle.known_laws.proofs.Conditions.{targets_are_strong}
use Rattle.peer_heap.specs.Mirroring.{strong_row}
use Rattle.peer_heap.specs.Mirrors.{AreTargetsRestored}

-- a strong row of the table isn't cleared
row_there : (s : Linkage) (h : ℕ) → PastInvariant s → HasStrength s.peer h strong → row_of s.peer h ≡ Some strong_row
row_there s h k st =
    let sure = k.kept.peer.handles.sure h st.0 st.1 st.2 in
    tabled s.peer st.0 st.1 ∙ ap Some (λ i. record { strength = st.2 i; cleared = sure i })
  where
    tabled : (r : PeerReplay) (row : TableRow) → numbered_at r.table h ≡ Some (Some row) → row_of r h ≡ Some row
    tabled r row e = ap (λ (o : Option (Option TableRow)). elim o [ None ↦ None | Some x ↦ x ]) e

-- each unfreed peer that references lead to is restored strong, as the side asks
pub targets_here : (s : Linkage) → PastInvariant s → (o : OpenSnap) (answers : List Answer)
    → s.control.stand ≡ restoring o answers → length answers ≡ length (candidates_of s.managed.managed) → AreTargetsRestored s.peer
targets_here s k o answers e all m is p q r =
    let t = targets_are_strong s k o answers e all p q r.reference r.there in
    record {
      handle = t.given;
      given = t.told m is;
      strong_now = row_there s t.given k t.strong_one;
      peer = peer_of-issued s.peer.peers.issued t.given t.row t.is_issued ∙ ap Some t.leads;
    }
