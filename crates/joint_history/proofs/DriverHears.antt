-- The driver stands where it stood once its seat has heard what others know, since its own line is whole in its seat.
use Rattle.std.proofs.Common.{◌≡◌, ℕ, ◌≤◌, List, refl, sym, subst, arith}
use Rattle.joint_machine.specs.declared.names.Thread.{Thread}
use Rattle.joint_machine.specs.declared.names.Thread.TheVariants.{M, P, C}
use Rattle.joint_machine.specs.declared.events.Entry.{Entry}
use Rattle.joint_machine.specs.Control.{Stand, last_line, opening_control}
use Rattle.joint_machine.specs.HistoryLines.{caller_line}
use Rattle.joint_machine.specs.Lines.{IsDriver}
use Rattle.joint_machine.specs.Managed.{Managed, opening_managed}
use Rattle.order_table.specs.declared.views.View.{View}
use Rattle.order_table.specs.Tells.{TakesIn, BeginsOneHistory}
use Rattle.order_table.specs.Views.{known}
use Rattle.joint_history.specs.Callers.{HoldsPass, KeepsReads, KnowsNothing}
use Rattle.joint_history.specs.Driven.{DriverRests, DriverStands}
use Rattle.view_laws.specs.Knowing.{IsDrawnView}
use Rattle.joint_history.proofs.DeadParts.{dead_part_self}
use Rattle.joint_history.proofs.DriverSteps.{driver_in}
use Rattle.joint_history.proofs.KnownCallers.{own_line}
use Rattle.joint_history.proofs.KnownViews.{views_join, same_view, no_view}

pub driver_hears : (mine other new : View) → IsDrawnView other → TakesIn mine other new → BeginsOneHistory new → HoldsPass C mine
    → (index : ℕ) (stand : Stand) (seen : Managed) → DriverStands mine index stand seen → DriverStands new index stand seen
driver_hears mine other new b takes one pass index stand seen s =
    let j = views_join mine other new s.known b takes one in
    let whole = takes.owned (caller_line C) (pass (caller_line C) (own_line C)) in
    record { known = j.joined; stands = driver_in mine new s.known j.joined one takes.knew (j.first (caller_line C) whole) whole index stand seen s.stands }

-- who knows the same stands so too
pub driver_same : (v w : View) (index : ℕ) (stand : Stand) (seen : Managed) → ((i : ℕ) → known w i ≡ known v i) → DriverStands v index stand seen → DriverStands w index stand seen
driver_same v w index stand seen same s = record { known = same_view v w s.known same; stands = s.stands }

-- the driver's caller is that of thread `c`: it holds that thread's pass, and has nothing to release
driver_is : (t : Thread) → IsDriver t → t ≡ C
driver_is (M n) is = absurd is
driver_is (P n) is = absurd is
driver_is C is = refl

pub driver_pass : (t : Thread) (v : View) → IsDriver t → HoldsPass t v → HoldsPass C v
driver_pass t v is h = subst (λ (u : Thread). HoldsPass u v) (driver_is t is) h

pub driver_pass_back : (t : Thread) (v : View) → IsDriver t → HoldsPass C v → HoldsPass t v
driver_pass_back t v is h = subst (λ (u : Thread). HoldsPass u v) (sym (driver_is t is)) h

-- and it reads no cells
pub driver_reads : (t : Thread) (old new : View) (es : List Entry) → IsDriver t → KeepsReads t old es → KeepsReads t new es
driver_reads (M n) old new es is k = absurd is
driver_reads (P n) old new es is k = absurd is
driver_reads C old new es is k = k

-- who knows nothing is idle
pub driver_first : (v : View) → KnowsNothing v → DriverRests v 0
driver_first v k =
    let none : last_line opening_control C ≡ 0 = refl in
    record {
      seen = opening_managed;
      stands = record {
        known = no_view v k;
        stands = record { last = omega (arith, none); come = refl; dead = dead_part_self opening_managed };
      };
    }

-- a later line will do
pub driver_later : (v : View) (index later : ℕ) (stand : Stand) (seen : Managed) → index ≤ later → DriverStands v index stand seen → DriverStands v later stand seen
driver_later v index later stand seen l s = record { known = s.known; stands = record { last = (let n = s.stands.last in omega (arith, n, l)); come = s.stands.come; dead = s.stands.dead } }
