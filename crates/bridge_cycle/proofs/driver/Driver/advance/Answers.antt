-- Each stage's phase asks for what the driver keeps in it, and leaves what the driver keeps in the next one.
use Rattle.std.proofs.Common.{◌∙◌, refl}
use Rattle.bridge_cycle.proofs.Abandoned.{before_contract, before_mirror, contract_fails, may_abandon, mirror_fails, snap_fails}
use Rattle.bridge_cycle.proofs.Endings.{has_begun, marked_now, may_mark, may_resolve, resolved_now, swept_now}
use Rattle.bridge_cycle.proofs.Making.{driver_seen, keeps_in, steps_in}
use Rattle.bridge_cycle.proofs.Mirrored.{may_mirror, mirrored_now}
use Rattle.bridge_cycle.proofs.Openings.{contracted_now, idle_rests, may_contract, snap_taken}
use Rattle.bridge_cycle.proofs.Restored.{may_clear, may_restore_all, no_answer, restored_now, room_for_all}
use Rattle.bridge_cycle.proofs.Weakened.{may_weaken_all, weakened_now}
use Rattle.bridge_cycle.proofs.driver.Driver.advance.Goals as goal

-- the snapshot
pub snap-requires-clause-may : goal.snap-requires-clause-may
snap-requires-clause-may g c = idle_rests (keeps_in _ _ _ c.args.index c.in-Idle.ensures.value c.self.invariant.1 c.self.view_is c.requires.index)

pub invariant_of-self : goal.invariant_of-self
invariant_of-self g c = (
  driver_seen c.snap.ensures.thread c.self.invariant.0,
  (snap_fails (keeps_in _ _ _ c.args.index c.in-Idle.ensures.value c.self.invariant.1 c.self.view_is c.requires.index)
      c.snap.new.driver.view c.replace.new.dest c.in-Idle.ensures.after c.in_default.ensures.err).held,
)

pub returns-in_default-clause-index : goal.returns-in_default-clause-index
returns-in_default-clause-index g c =
    (snap_fails (keeps_in _ _ _ c.args.index c.in-Idle.ensures.value c.self.invariant.1 c.self.view_is c.requires.index)
    c.snap.new.driver.view c.replace.new.dest c.in-Idle.ensures.after c.in_default.ensures.err).line

pub returns-in_default-clause-err : goal.returns-in_default-clause-err
returns-in_default-clause-err g c =
    (snap_fails (keeps_in _ _ _ c.args.index c.in-Idle.ensures.value c.self.invariant.1 c.self.view_is c.requires.index)
    c.snap.new.driver.view c.replace.new.dest c.in-Idle.ensures.after c.in_default.ensures.err).lacks

pub invariant_of-self-in-Idle : goal.invariant_of-self-in-Idle
invariant_of-self-in-Idle g c = (
  driver_seen c.snap.ensures.thread c.self.invariant.0,
  (steps_in c.becomes.ensures (snap_taken (keeps_in _ _ _ c.args.index c.in-Idle.ensures.value c.self.invariant.1 c.self.view_is c.requires.index)
      c.snap.new.driver.view c.in-Ok.opened c.in-Ok.ensures.ok c.graph_is_part.ensures)).held,
)

pub returns-in-Idle-clause-index : goal.returns-in-Idle-clause-index
returns-in-Idle-clause-index g c =
    (steps_in c.becomes.ensures (snap_taken (keeps_in _ _ _ c.args.index c.in-Idle.ensures.value c.self.invariant.1 c.self.view_is c.requires.index)
    c.snap.new.driver.view c.in-Ok.opened c.in-Ok.ensures.ok c.graph_is_part.ensures)).line

pub returns-in-Idle-clause-ok : goal.returns-in-Idle-clause-ok
returns-in-Idle-clause-ok g c =
    (steps_in c.becomes.ensures (snap_taken (keeps_in _ _ _ c.args.index c.in-Idle.ensures.value c.self.invariant.1 c.self.view_is c.requires.index)
    c.snap.new.driver.view c.in-Ok.opened c.in-Ok.ensures.ok c.graph_is_part.ensures)).answers

-- the contraction
pub abandon-requires-clause-may : goal.abandon-requires-clause-may
abandon-requires-clause-may g c =
    may_abandon (before_contract (keeps_in _ _ _ c.args.index c.in-Snapped.ensures.value c.self.invariant.1 c.self.view_is c.requires.index))

pub invariant_of-self-in_default-components_of : goal.invariant_of-self-in_default-components_of
invariant_of-self-in_default-components_of g c = (
  driver_seen c.abandon.ensures.thread c.self.invariant.0,
  (contract_fails (keeps_in _ _ _ c.args.index c.in-Snapped.ensures.value c.self.invariant.1 c.self.view_is c.requires.index)
      c.abandon.new.driver.view c.replace.new.dest c.abandon.result c.in-Snapped.ensures.after c.abandon.ensures.makes).held,
)

pub returns-in_default-components_of-clause-index : goal.returns-in_default-components_of-clause-index
returns-in_default-components_of-clause-index g c =
    (contract_fails (keeps_in _ _ _ c.args.index c.in-Snapped.ensures.value c.self.invariant.1 c.self.view_is c.requires.index)
    c.abandon.new.driver.view c.replace.new.dest c.abandon.result c.in-Snapped.ensures.after c.abandon.ensures.makes).line

pub returns-in_default-components_of-clause-err : goal.returns-in_default-components_of-clause-err
returns-in_default-components_of-clause-err g c =
    (contract_fails (keeps_in _ _ _ c.args.index c.in-Snapped.ensures.value c.self.invariant.1 c.self.view_is c.requires.index)
    c.abandon.new.driver.view c.replace.new.dest c.abandon.result c.in-Snapped.ensures.after c.abandon.ensures.makes).lacks

pub contracted-requires-clause-may : goal.contracted-requires-clause-may
contracted-requires-clause-may g c =
    may_contract (keeps_in _ _ _ c.args.index c.in-Snapped.ensures.value c.self.invariant.1 c.self.view_is c.requires.index)
    c.in-Ok-components_of.comps c.in-Ok-components_of.ensures.comps c.len-sccs.result c.xrefs-xrefs.result c.len-sccs.ensures.count c.xrefs-xrefs.ensures

pub invariant_of-self-in-Snapped : goal.invariant_of-self-in-Snapped
invariant_of-self-in-Snapped g c = (
  driver_seen c.contracted.ensures.thread c.self.invariant.0,
  (steps_in c.becomes-in-Snapped.ensures (contracted_now (keeps_in _ _ _ c.args.index c.in-Snapped.ensures.value c.self.invariant.1 c.self.view_is c.requires.index)
      c.in-Ok-components_of.comps c.in-Ok-components_of.ensures.comps c.len-sccs.result c.xrefs-xrefs.result c.len-sccs.ensures.count c.xrefs-xrefs.ensures
      c.contracted.new.driver.view c.in-Ok-components_of.alive c.contracted.result c.in-Ok-components_of.ensures.room c.contracted.ensures.makes)).held,
)

pub returns-in-Snapped-clause-index : goal.returns-in-Snapped-clause-index
returns-in-Snapped-clause-index g c =
    (steps_in c.becomes-in-Snapped.ensures (contracted_now (keeps_in _ _ _ c.args.index c.in-Snapped.ensures.value c.self.invariant.1 c.self.view_is c.requires.index)
    c.in-Ok-components_of.comps c.in-Ok-components_of.ensures.comps c.len-sccs.result c.xrefs-xrefs.result c.len-sccs.ensures.count c.xrefs-xrefs.ensures
    c.contracted.new.driver.view c.in-Ok-components_of.alive c.contracted.result c.in-Ok-components_of.ensures.room c.contracted.ensures.makes)).line

pub returns-in-Snapped-clause-ok : goal.returns-in-Snapped-clause-ok
returns-in-Snapped-clause-ok g c =
    (steps_in c.becomes-in-Snapped.ensures (contracted_now (keeps_in _ _ _ c.args.index c.in-Snapped.ensures.value c.self.invariant.1 c.self.view_is c.requires.index)
    c.in-Ok-components_of.comps c.in-Ok-components_of.ensures.comps c.len-sccs.result c.xrefs-xrefs.result c.len-sccs.ensures.count c.xrefs-xrefs.ensures
    c.contracted.new.driver.view c.in-Ok-components_of.alive c.contracted.result c.in-Ok-components_of.ensures.room c.contracted.ensures.makes)).answers

-- the mirror
pub mirror-requires-clause-may : goal.mirror-requires-clause-may
mirror-requires-clause-may g c = may_mirror (keeps_in _ _ _ c.args.index c.in-Contracted.ensures.value c.self.invariant.1 c.self.view_is c.requires.index)

pub abandon-requires-in_default-mirror-clause-may : goal.abandon-requires-in_default-mirror-clause-may
abandon-requires-in_default-mirror-clause-may g c =
    may_abandon
    (before_mirror (keeps_in _ _ _ c.args.index c.in-Contracted.ensures.value c.self.invariant.1 c.self.view_is c.requires.index)
    c.mirror.new.driver.view c.in_default-mirror.ensures.err)

pub invariant_of-self-in_default-mirror : goal.invariant_of-self-in_default-mirror
invariant_of-self-in_default-mirror g c = (
  driver_seen (c.abandon-in_default-mirror.ensures.thread ∙ c.mirror.ensures.thread) c.self.invariant.0,
  (mirror_fails (keeps_in _ _ _ c.args.index c.in-Contracted.ensures.value c.self.invariant.1 c.self.view_is c.requires.index)
      c.mirror.new.driver.view c.in_default-mirror.ensures.err c.abandon-in_default-mirror.new.driver.view c.replace.new.dest c.abandon-in_default-mirror.result
      c.in-Contracted.ensures.after c.abandon-in_default-mirror.ensures.makes).held,
)

pub returns-in_default-mirror-clause-index : goal.returns-in_default-mirror-clause-index
returns-in_default-mirror-clause-index g c =
    (mirror_fails (keeps_in _ _ _ c.args.index c.in-Contracted.ensures.value c.self.invariant.1 c.self.view_is c.requires.index)
    c.mirror.new.driver.view c.in_default-mirror.ensures.err c.abandon-in_default-mirror.new.driver.view c.replace.new.dest c.abandon-in_default-mirror.result
    c.in-Contracted.ensures.after c.abandon-in_default-mirror.ensures.makes).line

pub returns-in_default-mirror-clause-err : goal.returns-in_default-mirror-clause-err
returns-in_default-mirror-clause-err g c =
    (mirror_fails (keeps_in _ _ _ c.args.index c.in-Contracted.ensures.value c.self.invariant.1 c.self.view_is c.requires.index)
    c.mirror.new.driver.view c.in_default-mirror.ensures.err c.abandon-in_default-mirror.new.driver.view c.replace.new.dest c.abandon-in_default-mirror.result
    c.in-Contracted.ensures.after c.abandon-in_default-mirror.ensures.makes).lacks

pub invariant_of-self-in-Contracted : goal.invariant_of-self-in-Contracted
invariant_of-self-in-Contracted g c = (
  driver_seen c.mirror.ensures.thread c.self.invariant.0,
  (steps_in c.becomes-in-Contracted.ensures (mirrored_now (keeps_in _ _ _ c.args.index c.in-Contracted.ensures.value c.self.invariant.1 c.self.view_is c.requires.index)
      c.mirror.new.driver.view c.in-Ok-mirror.refs c.in-Ok-mirror.field-0-0 c.in-Ok-mirror.ensures.ok)).held,
)

pub returns-in-Contracted-clause-index : goal.returns-in-Contracted-clause-index
returns-in-Contracted-clause-index g c =
    (steps_in c.becomes-in-Contracted.ensures (mirrored_now (keeps_in _ _ _ c.args.index c.in-Contracted.ensures.value c.self.invariant.1 c.self.view_is c.requires.index)
    c.mirror.new.driver.view c.in-Ok-mirror.refs c.in-Ok-mirror.field-0-0 c.in-Ok-mirror.ensures.ok)).line

pub returns-in-Contracted-clause-ok : goal.returns-in-Contracted-clause-ok
returns-in-Contracted-clause-ok g c =
    (steps_in c.becomes-in-Contracted.ensures (mirrored_now (keeps_in _ _ _ c.args.index c.in-Contracted.ensures.value c.self.invariant.1 c.self.view_is c.requires.index)
    c.mirror.new.driver.view c.in-Ok-mirror.refs c.in-Ok-mirror.field-0-0 c.in-Ok-mirror.ensures.ok)).answers

-- the handles are weakened
pub weaken_all-requires-clause-may : goal.weaken_all-requires-clause-may
weaken_all-requires-clause-may g c = may_weaken_all (keeps_in _ _ _ c.args.index c.in-Mirrored.ensures.value c.self.invariant.1 c.self.view_is c.requires.index)

pub invariant_of-self-in-Mirrored : goal.invariant_of-self-in-Mirrored
invariant_of-self-in-Mirrored g c = (
  driver_seen c.weaken_all.ensures.thread c.self.invariant.0,
  (steps_in c.becomes-in-Mirrored.ensures (weakened_now (keeps_in _ _ _ c.args.index c.in-Mirrored.ensures.value c.self.invariant.1 c.self.view_is c.requires.index)
      c.weaken_all.new.driver.view c.weaken_all.ensures.weakens)).held,
)

pub returns-in-Mirrored-clause-index : goal.returns-in-Mirrored-clause-index
returns-in-Mirrored-clause-index g c =
    (steps_in c.becomes-in-Mirrored.ensures (weakened_now (keeps_in _ _ _ c.args.index c.in-Mirrored.ensures.value c.self.invariant.1 c.self.view_is c.requires.index)
    c.weaken_all.new.driver.view c.weaken_all.ensures.weakens)).line

pub returns-in-Mirrored-clause-ok : goal.returns-in-Mirrored-clause-ok
returns-in-Mirrored-clause-ok g c =
    (steps_in c.becomes-in-Mirrored.ensures (weakened_now (keeps_in _ _ _ c.args.index c.in-Mirrored.ensures.value c.self.invariant.1 c.self.view_is c.requires.index)
    c.weaken_all.new.driver.view c.weaken_all.ensures.weakens)).answers

-- the cycle's own marking
pub mark-begun-requires-clause-may : goal.mark-begun-requires-clause-may
mark-begun-requires-clause-may g c = may_mark (keeps_in _ _ _ c.args.index c.in-Weakened.ensures.value c.self.invariant.1 c.self.view_is c.requires.index)

pub invariant_of-self-in-Weakened : goal.invariant_of-self-in-Weakened
invariant_of-self-in-Weakened g c = (
  driver_seen c.mark-begun.ensures.thread c.self.invariant.0,
  (steps_in c.becomes-in-Weakened.ensures (marked_now (keeps_in _ _ _ c.args.index c.in-Weakened.ensures.value c.self.invariant.1 c.self.view_is c.requires.index)
      c.mark-begun.new.driver.view c.mark-begun.result c.mark-begun.ensures.makes)).held,
)

pub returns-in-Weakened-clause-index : goal.returns-in-Weakened-clause-index
returns-in-Weakened-clause-index g c =
    (steps_in c.becomes-in-Weakened.ensures (marked_now (keeps_in _ _ _ c.args.index c.in-Weakened.ensures.value c.self.invariant.1 c.self.view_is c.requires.index)
    c.mark-begun.new.driver.view c.mark-begun.result c.mark-begun.ensures.makes)).line

pub returns-in-Weakened-clause-ok : goal.returns-in-Weakened-clause-ok
returns-in-Weakened-clause-ok g c =
    (steps_in c.becomes-in-Weakened.ensures (marked_now (keeps_in _ _ _ c.args.index c.in-Weakened.ensures.value c.self.invariant.1 c.self.view_is c.requires.index)
    c.mark-begun.new.driver.view c.mark-begun.result c.mark-begun.ensures.makes)).answers

pub sweep-requires-clause-may : goal.sweep-requires-clause-may
sweep-requires-clause-may g c = has_begun (keeps_in _ _ _ c.args.index c.in-Marked.ensures.value c.self.invariant.1 c.self.view_is c.requires.index)

pub invariant_of-self-in-Marked : goal.invariant_of-self-in-Marked
invariant_of-self-in-Marked g c = (
  driver_seen c.sweep.ensures.thread c.self.invariant.0,
  (steps_in c.becomes-in-Marked.ensures (swept_now (keeps_in _ _ _ c.args.index c.in-Marked.ensures.value c.self.invariant.1 c.self.view_is c.requires.index)
      c.sweep.new.driver.view c.sweep.result.0 c.sweep.result.1 c.sweep.ensures.makes)).held,
)

pub returns-in-Marked-clause-index : goal.returns-in-Marked-clause-index
returns-in-Marked-clause-index g c =
    (steps_in c.becomes-in-Marked.ensures (swept_now (keeps_in _ _ _ c.args.index c.in-Marked.ensures.value c.self.invariant.1 c.self.view_is c.requires.index)
    c.sweep.new.driver.view c.sweep.result.0 c.sweep.result.1 c.sweep.ensures.makes)).line

pub returns-in-Marked-clause-ok : goal.returns-in-Marked-clause-ok
returns-in-Marked-clause-ok g c =
    (steps_in c.becomes-in-Marked.ensures (swept_now (keeps_in _ _ _ c.args.index c.in-Marked.ensures.value c.self.invariant.1 c.self.view_is c.requires.index)
    c.sweep.new.driver.view c.sweep.result.0 c.sweep.result.1 c.sweep.ensures.makes)).answers

-- the handles are restored, and the references cleared
pub restore_all-requires-clause-may : goal.restore_all-requires-clause-may
restore_all-requires-clause-may g c = may_restore_all (keeps_in _ _ _ c.args.index c.in-Swept.ensures.value c.self.invariant.1 c.self.view_is c.requires.index)

pub restore_all-requires-clause-none : goal.restore_all-requires-clause-none
restore_all-requires-clause-none g c = no_answer (keeps_in _ _ _ c.args.index c.in-Swept.ensures.value c.self.invariant.1 c.self.view_is c.requires.index)

pub restore_all-requires-clause-room : goal.restore_all-requires-clause-room
restore_all-requires-clause-room g c = room_for_all (keeps_in _ _ _ c.args.index c.in-Swept.ensures.value c.self.invariant.1 c.self.view_is c.requires.index)

pub clear-clear-requires-clause-may : goal.clear-clear-requires-clause-may
clear-clear-requires-clause-may g c =
    may_clear (keeps_in _ _ _ c.args.index c.in-Swept.ensures.value c.self.invariant.1 c.self.view_is c.requires.index)
    c.restore_all.new.driver.view c.restore_all.new.alive.values c.restore_all.ensures.restores

pub invariant_of-self-in-Swept : goal.invariant_of-self-in-Swept
invariant_of-self-in-Swept g c = (
  driver_seen (c.clear-clear.ensures.thread ∙ c.restore_all.ensures.thread) c.self.invariant.0,
  (steps_in c.becomes-in-Swept.ensures (restored_now (keeps_in _ _ _ c.args.index c.in-Swept.ensures.value c.self.invariant.1 c.self.view_is c.requires.index)
      c.restore_all.new.driver.view c.restore_all.new.alive.values c.restore_all.ensures.restores
      c.clear-clear.new.driver.view c.restore_all.new.alive c.clear-clear.result refl c.clear-clear.ensures.makes)).held,
)

pub returns-in-Swept-clause-index : goal.returns-in-Swept-clause-index
returns-in-Swept-clause-index g c =
    (steps_in c.becomes-in-Swept.ensures (restored_now (keeps_in _ _ _ c.args.index c.in-Swept.ensures.value c.self.invariant.1 c.self.view_is c.requires.index)
    c.restore_all.new.driver.view c.restore_all.new.alive.values c.restore_all.ensures.restores
    c.clear-clear.new.driver.view c.restore_all.new.alive c.clear-clear.result refl c.clear-clear.ensures.makes)).line

pub returns-in-Swept-clause-ok : goal.returns-in-Swept-clause-ok
returns-in-Swept-clause-ok g c =
    (steps_in c.becomes-in-Swept.ensures (restored_now (keeps_in _ _ _ c.args.index c.in-Swept.ensures.value c.self.invariant.1 c.self.view_is c.requires.index)
    c.restore_all.new.driver.view c.restore_all.new.alive.values c.restore_all.ensures.restores
    c.clear-clear.new.driver.view c.restore_all.new.alive c.clear-clear.result refl c.clear-clear.ensures.makes)).answers

-- the end
pub resolve-requires-clause-may : goal.resolve-requires-clause-may
resolve-requires-clause-may g c = may_resolve (keeps_in _ _ _ c.args.index c.in-Restored.ensures.value c.self.invariant.1 c.self.view_is c.requires.index)

pub invariant_of-self-in-Restored : goal.invariant_of-self-in-Restored
invariant_of-self-in-Restored g c = (
  driver_seen c.resolve.ensures.thread c.self.invariant.0,
  (steps_in c.in-Restored.ensures.after (resolved_now (keeps_in _ _ _ c.args.index c.in-Restored.ensures.value c.self.invariant.1 c.self.view_is c.requires.index)
      c.resolve.new.driver.view c.resolve.result.0 c.resolve.result.1.freed c.resolve.ensures.makes)).held,
)

pub returns-clause-index : goal.returns-clause-index
returns-clause-index g c =
    (steps_in c.in-Restored.ensures.after (resolved_now (keeps_in _ _ _ c.args.index c.in-Restored.ensures.value c.self.invariant.1 c.self.view_is c.requires.index)
    c.resolve.new.driver.view c.resolve.result.0 c.resolve.result.1.freed c.resolve.ensures.makes)).line

pub returns-clause-ok : goal.returns-clause-ok
returns-clause-ok g c =
    (steps_in c.in-Restored.ensures.after (resolved_now (keeps_in _ _ _ c.args.index c.in-Restored.ensures.value c.self.invariant.1 c.self.view_is c.requires.index)
    c.resolve.new.driver.view c.resolve.result.0 c.resolve.result.1.freed c.resolve.ensures.makes)).answers
