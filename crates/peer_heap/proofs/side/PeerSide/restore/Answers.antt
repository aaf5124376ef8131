-- The handle is gone, with a new one in its place or none, and one restore less is owed.
use Rattle.std.proofs.Common.{◌≡◌, ◌↔◌, true, Some, refl, sym, ap, subst, ◌∙◌}
use Rattle.std.specs.Option.{is_some}
use Rattle.joint_machine.specs.declared.names.HNum.{HNum}
use Rattle.joint_machine.specs.Peers.{next_handle}
use Rattle.joint_machine.specs.PeerReplay.{TableRow, row_of}
use Rattle.joint_machine.specs.Sides.{GoesOn, peer_rules}
use Rattle.joint_machine.specs.Told.{nothing}
use Rattle.joint_machine.proofs.SideLists.{AreTaken-push}
use Rattle.peer_heap.specs.Cycles.{restores}
use Rattle.peer_heap.specs.Mirroring.{RestoresHandle}
use Rattle.global_handles.specs.declared.Back.TheVariants.{Alive, Cleared}
use Rattle.peer_heap.specs.Sides.{AreGoing, IsSide, PeerModel, state_with}
use Rattle.peer_heap.proofs.Restoring.{IsSide-restored, on_mirror, restore-goes, restore-going, restore-last, restore-owed, restored-cleared, restored-number}
use Rattle.peer_heap.proofs.Ending.{some-mirror}
use Rattle.peer_heap.proofs.Sides.{targets-live}
use Rattle.peer_heap.proofs.Counted.{counted-restored}
use Rattle.peer_heap.proofs.side.PeerSide.restore.Goals as goal

pub restore-back-requires-clause-tabled : goal.restore-back-requires-clause-tabled
restore-back-requires-clause-tabled g c =
    let may = rw (sym c.self.view_is) at c.requires.restores in
    (may.row, may.tabled)

pub restore-back-requires-clause-live : goal.restore-back-requires-clause-live
restore-back-requires-clause-live g c =
    let i = c.self.inside in
    targets-live i.rows i.marking i.markings i.mirroring i.entries c.self.invariant.0

pub restore-back-requires-clause-last : goal.restore-back-requires-clause-last
restore-back-requires-clause-last g c =
    let i = c.self.inside in
    let may = rw (sym c.self.view_is) at c.requires.restores in
    let x = some-mirror i.entries.entries i.mirroring.mirror may.mirror may.stands in
    restore-last i.rows i.marking i.markings i.mirroring x.0 i.entries c.args.h c.self.invariant.0 x.1 may

pub returns-clause-cleared : goal.returns-clause-cleared
returns-clause-cleared g c =
    let i = c.self.inside in
    subst (λ (z : PeerModel). (row : TableRow) → row_of z.state c.args.h.0 ≡ Some row → (c.restore-back.result ≡ Cleared) ↔ (row.cleared ≡ true)) c.self.view_is
    (λ row at. restored-cleared c.is_some-is_open.result i.rows i.grey c.args.h.0 c.restore-back.result c.restore-back.new.self c.restore-back.new.grey row c.restore-back.ensures at)

pub returns-clause-number : goal.returns-clause-number
returns-clause-number g c =
    let i = c.self.inside in
    subst (λ (z : PeerModel). (h : HNum) → c.restore-back.result ≡ Alive h → h.0 ≡ next_handle z.state.peers) c.self.view_is
    (restored-number c.is_some-is_open.result i.rows i.grey c.args.h.0 c.restore-back.result c.restore-back.new.self c.restore-back.new.grey c.restore-back.ensures)

pub restored-requires : goal.restored-requires
restored-requires g c =
    let i = c.self.inside in
    restore-owed i.rows i.marking i.markings i.mirroring c.in-Some.mirror i.entries c.args.h c.self.invariant.0 (sym c.in-Some.ensures.mirror) (rw (sym c.self.view_is) at c.requires.restores)

pub invariant_of-self : goal.invariant_of-self
invariant_of-self g c =
    let i = c.self.inside in
    let x = c.in-Some.mirror in
    let w = c.restore-back.new.self in
    let may = rw (sym c.self.view_is) at c.requires.restores in
    let below = (rw (sym c.self.view_is) at c.requires.may).below in
    let here : i.mirroring.mirror ≡ Some x = sym c.in-Some.ensures.mirror in
    let draws = rw c.reply_of.ensures at c.note.ensures.draws in
    let back = subst (λ b. RestoresHandle b i.rows i.grey c.args.h.0 c.restore-back.result w c.restore-back.new.grey) c.is_some-is_open.ensures c.restore-back.ensures in
    let taken = AreTaken-push peer_rules i.threads i.entries.entries c.note.new.entries.entries draws.adds.number
    (restores c.args.index c.args.h c.restore-back.result) tt draws.adds.added c.self.invariant.1 in (
      subst (λ z. IsSide w i.marking i.markings z c.note.new.entries) (sym (c.set_mirror.ensures ∙ ap (on_mirror i.mirroring) c.restored.ensures))
          (IsSide-restored i.rows w i.marking i.markings i.mirroring x i.entries c.note.new.entries draws.adds.number _ c.args.index c.args.h
          c.restore-back.result c.self.invariant.0 draws.adds.added below draws.above here i.grey c.restore-back.new.grey back may c.note.ensures.spare),
      taken,
      subst (λ z. AreGoing w i.marking c.restore-back.new.grey i.markings z c.note.new.entries.entries) (sym (c.set_mirror.ensures ∙ ap (on_mirror i.mirroring) c.restored.ensures))
          (restore-going i.rows w i.marking i.markings i.mirroring x i.entries c.note.new.entries.entries draws.adds.number c.args.index
          c.args.h c.restore-back.result i.grey c.restore-back.new.grey c.self.invariant.0 draws.adds.added here back c.self.invariant.2),
      counted-restored i.marking i.rows i.grey c.args.h.0 c.restore-back.result w c.restore-back.new.grey back c.self.invariant.2.list c.self.invariant.3,
    )

pub returns-clause-adds : goal.returns-clause-adds
returns-clause-adds g c =
    let i = c.self.inside in
    let x = c.in-Some.mirror in
    let w = c.restore-back.new.self in
    let may = rw (sym c.self.view_is) at c.requires.restores in
    let draws = rw c.reply_of.ensures at c.note.ensures.draws in
    let back = subst (λ b. RestoresHandle b i.rows i.grey c.args.h.0 c.restore-back.result w c.restore-back.new.grey) c.is_some-is_open.ensures c.restore-back.ensures in
    let goes = restore-goes i.rows w i.marking i.markings i.mirroring x i.entries c.note.new.entries.entries draws.adds.number c.args.index c.args.h c.restore-back.result
    (is_some i.marking) i.grey c.restore-back.new.grey c.self.invariant.0 draws.adds.added (sym c.in-Some.ensures.mirror) back may in
    let moved = subst (λ z. GoesOn peer_rules (state_with i.entries.entries i.rows i.marking i.markings i.mirroring)
    (restores c.args.index c.args.h c.restore-back.result) nothing (state_with c.note.new.entries.entries w i.marking i.markings z))
    (sym (c.set_mirror.ensures ∙ ap (on_mirror i.mirroring) c.restored.ensures)) goes in
    rw (sym c.self.view_is) (record { draws = draws; goes = moved; threads = refl })
