-- What every state of the managed side keeps holds of a side: no slot and no field names a freed object, the dead part
-- of an open cycle is cut off, and each pair of the registry has a row that holds a handle. It holds at the opening,
-- and each entry that may come keeps it, if the pins stand that were given with it. A lawful list alone doesn't say
-- this, since a `take` may be told any pin: so each call keeps it.
use Rattle.std.proofs.Common.{◌≡◌, ℕ, ◌+◌, ◌≤◌, Bool, true, false, List, [], ◌∷◌, Option, refl, ap, ◌∙◌, nat_eq, if◌then◌else◌, cond, Some, arith}
use Rattle.joint_machine.proofs.Deciding.{nat_eq-turned}
use Rattle.joint_machine.specs.declared.names.MNum.{MNum}
use Rattle.joint_machine.specs.declared.names.PNum.{PNum}
use Rattle.joint_machine.specs.declared.events.Entry.{Entry}
use Rattle.joint_machine.specs.declared.events.Made.{Made}
use Rattle.joint_machine.specs.Managed.{Managed}
use Rattle.joint_machine.specs.ManagedReplay.{ManagedReplay, managed_answer, opening_replay, registered}
use Rattle.joint_machine.specs.Sides.{LeadsTo, IsReplayed, managed_rules}
use Rattle.joint_machine.specs.Told.{Told, Noted}
use Rattle.joint_machine.specs.PinsTold.{bare_told, no_pins, pins_told, with_pins}
use Rattle.joint_laws.specs.ManagedInvariants.{ReplayInvariant}
use Rattle.joint_laws.proofs.ManagedSteps.{ManagedStep, managed_step, going_on, snapping, resolving, abandoning}
use Rattle.joint_laws.proofs.ReplayKeeping.{ReplayInvariant-step}
use Rattle.known_laws.specs.Known.{PinsStand}
use Rattle.known_laws.proofs.Pinned.{bridge_to, holds_back, managed_to, none_stand}
use Rattle.instance_registry.specs.Pairs.{twin_in}
use Rattle.managed_heap.specs.Rows.{pairs_of, number_or_none}

-- what is kept holds with other pins too, if these stand
pub kept-pinned : (r : ManagedReplay) (pins : List (Option ℕ)) → PinsStand r.managed pins → ReplayInvariant r → ReplayInvariant (with_pins r pins)
kept-pinned r pins st k = record {
  managed = managed_to r pins st k.managed;
  adopted = λ m h w. k.adopted m h (holds_back r pins m h w);
  alone = λ m n h v w. k.alone m n h (holds_back r pins m h v) (holds_back r pins n h w);
  pairs = λ p m c. bridge_to r pins m (k.pairs p m c);
  one_row = k.one_row;
  one_peer = k.one_peer;
}

-- between entries the state has no pins
no-pins-led : (s : ManagedReplay) (ns : List Noted) (t : ManagedReplay) → s.managed.pins ≡ no_pins → LeadsTo managed_rules s ns t → t.managed.pins ≡ no_pins
no-pins-led s [] t p e = ap (λ (z : ManagedReplay). z.managed.pins) e ∙ p
no-pins-led s (n ∷ ns) t p l = no-pins-led (managed_rules.next s n.entry.made n.told) ns t refl l.1

pub no-pins : (es : List Entry) (s : ManagedReplay) → IsReplayed managed_rules es s → s.managed.pins ≡ no_pins
no-pins es s r = no-pins-led opening_replay r.noted s refl r.leads

-- an entry that may come keeps what is kept, where the pins stand that it is told
pub kept-next : (s : ManagedReplay) (m : Made) (told : Told) → PinsStand s.managed (pins_told told) → managed_rules.lawful s m told → ReplayInvariant s → ReplayInvariant (managed_rules.next s m told)
kept-next s m told st l k =
    let p = with_pins s (pins_told told) in
    let u = (managed_answer p m.caller m.op (bare_told told)).state in
    kept-pinned u no_pins (none_stand u.managed) (ReplayInvariant-step p m.caller m.op (bare_told told) (kept-pinned s (pins_told told) st k) l.1.lawful.allowed)

step-cycles : (s t : Managed) → ManagedStep s t → t.cycles ≤ s.cycles + 1
step-cycles s t (going_on g) = (let e = g.cycles in omega arith)
step-cycles s t (snapping p) = (let e = ap (λ (z : Managed). z.cycles) p.is in omega arith)
step-cycles s t (resolving p) = (let e = ap (λ (z : Managed). z.cycles) p.is in omega arith)
step-cycles s t (abandoning p) = (let e = ap (λ (z : Managed). z.cycles) p.is in omega arith)

-- and opens one cycle at most
pub few-next : (s : ManagedReplay) (m : Made) (told : Told) → PinsStand s.managed (pins_told told)
    → managed_rules.lawful s m told → ReplayInvariant s → (managed_rules.next s m told).managed.cycles ≤ s.managed.cycles + 1
few-next s m told st l k =
    let p = with_pins s (pins_told told) in
    step-cycles p.managed (managed_answer p m.caller m.op (bare_told told)).state.managed (managed_step p m.caller m.op (bare_told told) (kept-pinned s (pins_told told) st k) l.1.lawful.allowed)

-- the registry's twin is the definition's
pub registered-is : (ps : List (PNum × MNum)) (p : PNum) → registered (pairs_of ps) p.0 ≡ number_or_none (twin_in ps p)
registered-is [] p = refl
registered-is (q ∷ ps) p = ap (λ b. if b then Some q.1.0 else registered (pairs_of ps) p.0) (nat_eq-turned q.0.0 p.0) ∙ by (nat_eq p.0 q.0.0) (registered-is ps p)
  where
    by : (b : Bool) → registered (pairs_of ps) p.0 ≡ number_or_none (twin_in ps p) → (if b then Some q.1.0 else registered (pairs_of ps) p.0) ≡ number_or_none (cond b (Some q.1) (twin_in ps p))
    by true e = refl
    by false e = e
