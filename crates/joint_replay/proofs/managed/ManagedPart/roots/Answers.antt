-- A variable, a static or a pin names each root.
use Rattle.std.proofs.Common.{ℕ, ◌↔◌, ◌∙◌, Contains, IfOk, subst}
use Rattle.joint_machine.specs.Heaps.{IsLive}
use Rattle.joint_machine.specs.Histories.{managed_numbers}
use Rattle.joint_machine.specs.Managed.{Managed, IsManagedRoot}
use Rattle.joint_replay.proofs.Rooting.{numbered-roots}
use Rattle.std.proofs.lemmas.Result.{IfOk-weaker}
use Rattle.joint_replay.proofs.managed.ManagedPart.roots.Goals as goal

pub returns : goal.returns
returns c =
    let s = c.self.inside in
    let i : Managed = record {
      heap = s.heap;
      kinds = s.kinds.items;
      held = s.held.items;
      pins = s.pins;
      cells = s.cells;
      notices = s.notices.items;
      taken = s.taken;
      cycle = s.cycle;
      cycles = s.cycles;
    } in
    subst (λ (z : Managed). IfOk c.as_objects.result (λ v. (x : ℕ) → Contains (managed_numbers v.items) x ↔ (IsLive z.heap x × IsManagedRoot z x))) c.self.view_is
    (IfOk-weaker c.as_objects.result _ _ (λ v same. numbered-roots i c.in_ok-named.named.items (managed_numbers v.items) (same ∙ c.deref.ensures.value) c.in_ok-named.ensures) c.as_objects.ensures)
