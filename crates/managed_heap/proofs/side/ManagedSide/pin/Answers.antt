-- The side has no pins.
use Rattle.std.proofs.Common.{◌≡◌, ◌∙◌, ℕ, zero, suc, None, ap, refl}
use Rattle.joint_machine.specs.Heaps.{slot}
use Rattle.joint_machine.specs.Run.{thread_number}
use Rattle.joint_machine.specs.PinsTold.{no_pins}
use Rattle.managed_heap.proofs.side.ManagedSide.pin.Goals as goal

no-pin : (t : ℕ) → slot no_pins t ≡ None
no-pin zero = refl
no-pin (suc zero) = refl
no-pin (suc (suc zero)) = refl
no-pin (suc (suc (suc zero))) = refl
no-pin (suc (suc (suc (suc zero)))) = refl
no-pin (suc (suc (suc (suc (suc zero))))) = refl
no-pin (suc (suc (suc (suc (suc (suc zero)))))) = refl
no-pin (suc (suc (suc (suc (suc (suc (suc zero))))))) = refl
no-pin (suc (suc (suc (suc (suc (suc (suc (suc zero)))))))) = refl
no-pin (suc (suc (suc (suc (suc (suc (suc (suc (suc t))))))))) = refl

pub returns-clause-pin : goal.returns-clause-pin
returns-clause-pin c = rw (← c.self.view_is) (ap (λ ps. slot ps (thread_number c.args._t)) c.recall_unpinned.ensures ∙ no-pin (thread_number c.args._t))
