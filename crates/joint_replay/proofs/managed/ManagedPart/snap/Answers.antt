-- There is one snapshot, and the reply is its, or isn't.
use Rattle.std.proofs.Common.{refl, true, false, ◌≡◌, sym, subst, length, ◌∙◌, arith}
use Rattle.joint_machine.specs.Managed.{Managed}
use Rattle.joint_replay.specs.Finding.{FindsRows}
use Rattle.joint_replay.proofs.Snapping.{snapshot-found, snap-no, snap-yes}
use Rattle.joint_replay.proofs.managed.ManagedPart.snap.Goals as goal

pub returns-then-not-lawful-clause-ok : goal.returns-then-not-lawful-clause-ok
returns-then-not-lawful-clause-ok c =
    let s = c.args.self.now in
    let f = c.in_ok-found.found in
    let many : c.len.result ≡ length f.candidates.items = omega (arith, c.len.ensures, f.candidates.ok) in
    let next = c.is_next.ensures.0 c.if-not-is_next.false in
    let finds : FindsRows s.heap s.held s.pins f.freed.items f.candidates.items f.dead.items = subst
    (λ (z : Managed). FindsRows z.heap z.held z.pins f.freed.items f.candidates.items f.dead.items) c.self.view_is (rw (c.deref.ensures.value) at c.in_ok-found.ensures) in (
      snap-no s c.args.h.now c.args.reply.now c.args.k.0 c.args.k.0 f.freed.items f.candidates.items f.dead.items
          (snapshot-found s c.args.k.0 f.freed.items f.candidates.items f.dead.items next.0 next.1 finds)
          (λ w. (let t = c.in_ok-lawful.ensures.1 (rw (c.deref-2.ensures.value, many) w) in let g : true ≡ false = sym t ∙ c.if-not-lawful.true in cc)),
      refl,
    )

pub returns-clause-ok : goal.returns-clause-ok
returns-clause-ok c =
    let s = c.args.self.now in
    let f = c.in_ok-found.found in
    let many : c.len.result ≡ length f.candidates.items = omega (arith, c.len.ensures, f.candidates.ok) in
    let next = c.is_next.ensures.0 c.if-not-is_next.false in
    let finds : FindsRows s.heap s.held s.pins f.freed.items f.candidates.items f.dead.items = subst
    (λ (z : Managed). FindsRows z.heap z.held z.pins f.freed.items f.candidates.items f.dead.items) c.self.view_is (rw (c.deref.ensures.value) at c.in_ok-found.ensures) in
    snap-yes s c.args.h.now c.args.reply.now c.args.k.0 f.freed.items f.candidates.items f.dead.items _
    (snapshot-found s c.args.k.0 f.freed.items f.candidates.items f.dead.items next.0 next.1 finds)
    (let w = c.in_ok-lawful.ensures.0 c.if-not-lawful.false in rw (c.deref-2.ensures.value, many) at w) c.in_ok-open.ensures.ok
