-- What a step of a locked side owes: it is made by the side's seat, between the lending of a caller's lines and their
-- giving back.
use Rattle.std.specs.Prelude.{◌≡◌, ℕ, ◌<◌, Option, Result, IfOk, OnErr}
use mathlib.Core.List.{IsPrefix}
use Rattle.joint_machine.specs.declared.names.Thread.{Thread}
use Rattle.joint_machine.specs.declared.events.Op.{Op}
use Rattle.joint_machine.specs.declared.events.Reply.{Reply}
use Rattle.joint_machine.specs.Draws.{numbered}
use Rattle.joint_machine.specs.HistoryLines.{caller_line}
use Rattle.joint_machine.specs.Lines.{IsThread}
use Rattle.joint_machine.specs.ManagedReplay.{ManagedReplay}
use Rattle.joint_machine.specs.Sides.{Side, managed_rules}
use Rattle.joint_machine.specs.Told.{Told}
use Rattle.managed_heap.specs.Sides.{ManagedModel, as_side}
use Rattle.order_table.specs.declared.views.View.{View}
use Rattle.order_table.specs.Allowed.{Settled}
use Rattle.order_table.specs.Views.{OrderId, Shown, known, Owns}
use Rattle.peer_heap.specs.Sides.{PeerModel, seen}
use Rattle.seat_calls.specs.Passing.{Lends, Returns}
use Rattle.joint_history.specs.Callers.{HoldsPass, ReadsStay}
use Rattle.joint_history.specs.Locked.{Drew, Makes, MakesNone, ManagedKnows, PeerKnows, PeerReserves, StaysSeated}
use Rattle.joint_history.specs.Locked.{made_by}

-- what the managed side's seat knows under its lock, in a run with so many managed threads
abbrev pub KnowsManaged : ℕ → View → ManagedModel → Type 0
KnowsManaged threads v s = ManagedKnows v (as_side s) × (s.threads ≡ threads)

-- what the peer side's seat knows under its lock, in a run with so many peer threads, with what is reserved there
abbrev pub KnowsPeers : ℕ → View → PeerModel → Type 0
KnowsPeers threads v s = PeerKnows v (seen s) × PeerReserves v s × (s.threads ≡ threads)

-- the managed side is in hand for a caller: its seat is of the order, owns the side's line and the caller's, and knows
-- the side
pub record HasManagedSeat (t : Thread) (order : OrderId) (seat : Shown) (s : Side ManagedReplay) : Type 0 where
  pub same : seat.order ≡ order
  pub owns : Owns seat.view 0
  pub pass : Owns seat.view (caller_line t)
  pub knows : ManagedKnows seat.view s

-- a side is in hand, and a caller's lines are lent to its seat: before, that seat owned the side's line and knew the
-- side
pub record IsLent {S : Type 0} (line : ℕ) (knows : View → S → Type 0) (t : Thread) (order : OrderId)
    (mine : View) (lent : Shown) (mine1 : View) (side : S) : Type 0 where
  pub thread : IsThread t
  pub pass : HoldsPass t mine
  pub locked : View
  pub owns : Owns locked line
  pub known_side : knows locked side
  pub same : lent.order ≡ order
  pub settled : Settled lent.view
  pub lends : Lends t locked mine lent.view mine1

-- a seat is of the same order, and knows and owns what it did
pub record GoesFurther (old new : Shown) : Type 0 where
  pub order : new.order ≡ old.order
  pub more : (i : ℕ) → IsPrefix (known old.view i) (known new.view i)
  pub owns : (i : ℕ) → Owns old.view i → Owns new.view i

-- what a step asks holds by what its caller's seat knows; its seat goes further by it; and after the giving back the
-- side's seat knows the side as it is then, and the caller has what the step promises
pub record Fits {S R : Type 0} (line : ℕ) (knows : View → S → Type 0) (t : Thread) (mine : View)
    (asks : OrderId → Shown → S → Type 0) (drew : OrderId → Shown → Shown → S → S → R → Type 0)
    (makes : View → View → R → Type 0) : Type 0 where
  pub side : line < 2
  pub asked : (order : OrderId) (lent : Shown) (mine1 : View) (s : S)
      → IsLent line knows t order mine lent mine1 s → asks order lent s
  pub further : (order : OrderId) (lent lent2 : Shown) (s s' : S) (r : R)
      → drew order lent lent2 s s' r → GoesFurther lent lent2
  pub left : (order : OrderId) (lent lent2 : Shown) (mine1 locked2 mine2 : View) (s s' : S) (r : R)
      → IsLent line knows t order mine lent mine1 s → drew order lent lent2 s s' r
      → Returns t lent2.view mine1 locked2 mine2 → knows locked2 s' × makes mine mine2 r

-- the managed side drew an entry by its seat, with that told beside it, or found no memory and is as it was
abbrev pub DrewManaged : {E : Type 0} → Thread → ℕ → Op → Option ℕ → Told → OrderId
    → Shown → Shown → ManagedModel → ManagedModel → Result (ℕ × Reply) E → Type 0
DrewManaged t index o cites told order seat seat' s s' result = (s'.threads ≡ s.threads)
    × IfOk result (λ r. Drew managed_rules 0 order seat seat' (as_side s) (as_side s')
    (numbered r.0 (made_by t index o r.1 cites)) told)
    × OnErr result (StaysSeated seat seat' × (as_side s' ≡ as_side s))

-- an event makes its entry for its thread, or none where there was no memory; the thread's reads stay as they are
pub record MakesEvent {E : Type 0} (t : Thread) (index : ℕ) (o : Op)
    (cites : Option ℕ) (old new : View) (result : Result (ℕ × Reply) E) : Type 0 where
  pub ok : IfOk result (λ r. Makes t old new (numbered r.0 (made_by t index o r.1 cites)))
  pub reads : ReadsStay t old new
  pub err : OnErr result (MakesNone t old new)
