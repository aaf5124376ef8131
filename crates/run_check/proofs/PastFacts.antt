-- What holds behind a past in order, for the calls of both sides: what every known past keeps, with the readers' pins
-- or without them; and what an event of the driver is by its name.
use Rattle.std.proofs.Common.{◌≡◌, ℕ, List, Option, None, refl, subst}
use Rattle.joint_machine.specs.declared.names.Thread.{Thread}
use Rattle.joint_machine.specs.declared.names.Thread.TheVariants.{M, P, C}
use Rattle.joint_machine.specs.declared.events.Made.{Made}
use Rattle.joint_machine.specs.declared.events.Op.{Op}
use Rattle.joint_machine.specs.declared.events.Op.TheVariants as op
use Rattle.joint_machine.specs.Histories.{Finished}
use Rattle.joint_machine.specs.Lines.{IsDriver, IsEvent}
use Rattle.joint_machine.specs.Linked.{Linkage}
use Rattle.joint_machine.specs.Told.{Noted}
use Rattle.joint_machine.specs.PinsTold.{no_pins}
use Rattle.joint_laws.specs.ManagedInvariants.{ReplayInvariant}
use Rattle.known_laws.specs.Driving.{PastInvariant}
use Rattle.known_laws.specs.Known.{pinned}
use Rattle.check_laws.specs.Behind.{AllInOrder, state_of}
use Rattle.check_laws.specs.Order.{CitesBy, CitesSo, IsTurn}
use Rattle.check_laws.proofs.Keeping.{kept}
use Rattle.check_laws.proofs.Knows.{pasts_known}
use Rattle.check_laws.proofs.Naming.{all_read}
use Rattle.check_laws.proofs.Tested.{stand_behind}
use Rattle.check_laws.proofs.Turned.{all_come}
use Rattle.joint_machine.specs.Sides.{step_made}
use Rattle.run_check.specs.Judging.{IsSoFar}

pub past_kept : (h : Finished) (past : List Noted) → IsSoFar h past → PastInvariant (pinned (state_of past) no_pins)
past_kept h past f = (pasts_known h past f.numbers f.order).kept

pub replay_kept : (h : Finished) (past : List Noted) → AllInOrder h past → ReplayInvariant (state_of past).managed
replay_kept h past o = kept past (all_come h past o) (stand_behind past (all_read h past o))

-- the driver's events
pub driver_is : (t : Thread) → IsDriver t → t ≡ C
driver_is C w = refl
driver_is (M i) w = absurd w
driver_is (P i) w = absurd w

-- the driver's entry, by its event and what it cites
pub driver_made : (s : Linkage) (m : Made) (o : Op) (cites : Option ℕ) → m.op ≡ o → (IsEvent m.caller o → IsDriver m.caller)
    → (CitesBy s C o m.cites → m.cites ≡ cites) → IsTurn s m → CitesSo s m → m ≡ step_made C m.index o m.reply cites
driver_made s m o cites e d q turn c =
    let t = driver_is m.caller (d (subst (IsEvent m.caller) e turn.event)) in
    let x = q (subst (λ z. CitesBy s z o m.cites) t (subst (λ z. CitesBy s m.caller z m.cites) e c)) in
    λ i. record { caller = t i; index = m.index; op = e i; reply = m.reply; cites = x i }
