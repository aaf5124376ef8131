use Rattle.std.proofs.Common.{◌≡◌, ℕ, Option, Some, None, refl, sym, ap, ◌∙◌, true≢false}
use Rattle.std.proofs.lemmas.Bool.{eq-eqb, eqb-true}
use Rattle.joint_machine.specs.declared.names.Cycle.{Cycle}
use Rattle.joint_machine.specs.declared.events.Op.{Op}
use Rattle.joint_machine.specs.declared.events.Op.TheVariants as op
use Rattle.run_check.proofs.Wholes.{gives-back, gives-none, gives-some, snap-number}
use Rattle.run_check.proofs.replays.Replay.gives_snap.Goals as goal

pub returns-in-None : goal.returns-in-None
returns-in-None c = λ past w. ((λ t. gives-none past c.args.op.now c.args.self.now.readers.owed w (sym c.owed.ensures ∙ c.in-None.is)), λ g. refl)

pub returns-in-Snap : goal.returns-in-Snap
returns-in-Snap c = λ past w.
    let owed = c.args.self.now.readers.owed in
    let k : Cycle = c.in-Some.k in
    let e : owed ≡ Some k = sym c.owed.ensures ∙ c.in-Some.is in (
      (λ t. gives-some past c.args.op.now owed k w e (c.in-Snap.is ∙ ap (λ (z : ℕ). op.Snap record { 0 = z }) (eqb-true c.in-Snap.cycle.0 c.in-Some.k.0 t))),
      λ g. eq-eqb c.in-Snap.cycle.0 c.in-Some.k.0 (ap snap-number (sym c.in-Snap.is ∙ gives-back past c.args.op.now owed k w e g)),
    )

pub returns-in_default : goal.returns-in_default
returns-in_default c = λ past w.
    let owed = c.args.self.now.readers.owed in
    let k : Cycle = c.in-Some.k in
    let e : owed ≡ Some k = sym c.owed.ensures ∙ c.in-Some.is in
    ((λ t. absurd (true≢false (sym t))), λ g. absurd (c.in_default.not-Snap k (gives-back past c.args.op.now owed k w e g)))
