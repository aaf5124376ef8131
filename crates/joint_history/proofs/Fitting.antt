-- Steps of a locked side fit: what their seat does goes further, and once a caller's lines were lent, the seat may put an
-- entry of the driver into its side's list.
use Rattle.std.proofs.Common.{◌≡◌, inl, inr, ⊎_elim, ℕ, false, true, [], None, refl, sym, ap, ◌∙◌, subst, arith}
use Rattle.std.specs.Prelude.{Result, Ok, Err, IfOk, OnErr}
use mathlib.Core.List.{IsPrefix}
use base.Growing.{prefix_refl, prefix_trans}
use Rattle.joint_machine.specs.declared.names.Thread.{Thread}
use Rattle.joint_machine.specs.declared.events.Op.{Op}
use Rattle.joint_machine.specs.HistoryLines.{caller_line}
use Rattle.joint_machine.specs.Lines.{IsThread, is_peer_event, is_read}
use Rattle.joint_machine.proofs.Deciding.{none_some}
use Rattle.managed_heap.specs.Sides.{ManagedModel, as_side}
use Rattle.order_table.specs.declared.views.KeptEntry.{KeptEntry}
use Rattle.order_table.specs.declared.views.View.{View}
use Rattle.order_table.specs.Allowed.{HoldsOpen, MayDo, Settled}
use Rattle.order_table.specs.Facts.{line_entries}
use Rattle.order_table.specs.Rows.{at}
use Rattle.order_table.specs.Stages.{deed, neither}
use Rattle.order_table.specs.Views.{OrderId, Owns, Shown, known}
use Rattle.peer_heap.specs.Sides.{PeerModel}
use Rattle.seat_calls.specs.Passing.{Lends, MayAppend}
use Rattle.view_laws.specs.Knowing.{IsDrawnView}
use Rattle.joint_history.specs.Callers.{HoldsPass}
use Rattle.joint_history.specs.Knowing.{line_known}
use Rattle.joint_history.specs.Locked.{HasAppended, StaysSeated}
use Rattle.joint_history.specs.Steps.{GoesFurther, HasManagedSeat, IsLent, KnowsManaged, KnowsPeers}
use Rattle.joint_history.proofs.KnownCallers.{own_line}
use Rattle.joint_history.proofs.Lent.{knows_lent}
use Rattle.joint_history.proofs.LockedSteps.{grows_more, owns_on}
use Rattle.joint_history.proofs.SeatDraws.{sets_none}

pub is_lent : {S : Type 0} (line : ℕ) (knows : View → S → Type 0) (t : Thread) (order : OrderId) (locked mine : View) (lent : Shown) (mine1 : View) (side : S) → IsThread t × HoldsPass t mine
    → Owns locked line → knows locked side → lent.order ≡ order → Settled lent.view → Lends t locked mine lent.view mine1 → IsLent line knows t order mine lent mine1 side
is_lent line knows t order locked mine lent mine1 side pass owns known_side same settled lends = record {
  thread = pass.0;
  pass = pass.1;
  locked = locked;
  owns = owns;
  known_side = known_side;
  same = same;
  settled = settled;
  lends = lends;
}

pub goes_further : (order : OrderId) (seat seat' : Shown) (r : ℕ) (k : KeptEntry) → HasAppended order seat seat' r k → GoesFurther seat seat'
goes_further order seat seat' r k a = record {
  order = a.same;
  more = grows_more seat.view seat'.view r k a.grows;
  owns = owns_on seat.view seat'.view r k a.grows;
}

pub same_further : (seat : Shown) → GoesFurther seat seat
same_further seat = record { order = refl; more = λ i. prefix_refl (known seat.view i); owns = λ i o. o }

pub further_then : (a b c : Shown) → GoesFurther a b → GoesFurther b c → GoesFurther a c
further_then a b c f g = record {
  order = g.order ∙ f.order;
  more = λ i. prefix_trans (known a.view i) (known b.view i) (known c.view i) (f.more i) (g.more i);
  owns = λ i o. g.owns i (f.owns i o);
}

pub stays_further : (seat seat' : Shown) → StaysSeated seat seat' → GoesFurther seat seat'
stays_further seat seat' s = record {
  order = s.order;
  more = λ i. subst (IsPrefix (known seat.view i)) (sym (ap (λ ks. at [] ks i) s.known)) (prefix_refl (known seat.view i));
  owns = λ i o. ap (λ os. at false os i) s.owns ∙ o;
}

-- whether an entry was made or none
pub either_further : {X E : Type 0} (P : X → Type 0) (Q : Type 0) (seat seat' : Shown) (result : Result X E)
    → ((x : X) → P x → GoesFurther seat seat') → IfOk result P → OnErr result (StaysSeated seat seat' × Q) → GoesFurther seat seat'
either_further P Q seat seat' (Ok x) made d e = made x d
either_further P Q seat seat' (Err x) made d e = stays_further seat seat' e.0

-- the driver's line is the locked seat's while it is lent
lent_pass : {S : Type 0} (line : ℕ) (knows : View → S → Type 0) (t : Thread) (order : OrderId) (mine : View) (lent : Shown) (mine1 : View) (s : S)
    → IsLent line knows t order mine lent mine1 s → Owns lent.view (caller_line t)
lent_pass line knows t order mine lent mine1 s w = w.lends.lines (caller_line t) (own_line t) (w.pass (caller_line t) (own_line t))

-- the managed side in hand
pub lent_managed : (n : ℕ) (t : Thread) (order : OrderId) (mine : View) (lent : Shown) (mine1 : View) (s : ManagedModel) → IsDrawnView mine
    → IsLent 0 (KnowsManaged n) t order mine lent mine1 s → HasManagedSeat t order lent (as_side s)
lent_managed n t order mine lent mine1 s m w = record {
  same = w.same;
  owns = w.lends.kept 0 w.owns;
  pass = lent_pass 0 (KnowsManaged n) t order mine lent mine1 s w;
  knows = knows_lent t w.locked mine lent.view mine1 (as_side s) w.owns w.known_side.0 m w.lends;
}

pub managed_line : (n : ℕ) (t : Thread) (order : OrderId) (mine : View) (lent : Shown) (mine1 : View) (s : ManagedModel)
    → IsLent 0 (KnowsManaged n) t order mine lent mine1 s → line_known lent.view 0 ≡ s.entries
managed_line n t order mine lent mine1 s w = ap line_entries (w.lends.whole 0 w.owns) ∙ w.known_side.0.entries

pub peer_line : (n : ℕ) (t : Thread) (order : OrderId) (mine : View) (lent : Shown) (mine1 : View) (s : PeerModel)
    → IsLent 1 (KnowsPeers n) t order mine lent mine1 s → line_known lent.view 1 ≡ s.entries
peer_line n t order mine lent mine1 s w = ap line_entries (w.lends.whole 1 w.owns) ∙ w.known_side.0.entries

-- a seat that holds the gate just while a cycle is open may make what opens and ends none
neither_may : (v : View) (o : Op) → deed o ≡ neither → HoldsOpen v → MayDo v (deed o)
neither_may v o e h = subst (MayDo v) (sym e) (⊎_elim (λ c. inl c.0) (λ c. inr c.1) h)

-- an entry of the managed list that opens and ends no cycle and sets no cell
pub managed_may : (n : ℕ) (t : Thread) (order : OrderId) (mine : View) (lent : Shown) (mine1 : View) (s : ManagedModel) (o : Op) → is_read o ≡ false
    → is_peer_event t o ≡ false → deed o ≡ neither → IsLent 0 (KnowsManaged n) t order mine lent mine1 s → MayAppend order lent 0 t o None
managed_may n t order mine lent mine1 s o own side calm w =
    let owns = w.lends.kept 0 w.owns in
    record {
      same = w.same;
      thread = w.thread;
      one = omega arith;
      managed = λ z. (own, side);
      peer = λ z. absurd (omega arith);
      role = owns;
      pass = lent_pass 0 (KnowsManaged n) t order mine lent mine1 s w;
      paid = λ z. (w.settled.paid, w.settled.stored.0, w.settled.stored.1);
      cycles = λ z. neither_may lent.view o calm (w.settled.gate owns);
      cells = λ z c m e. absurd (none_some (c, m) (sym (sets_none t o) ∙ e));
    }

-- an entry of the peer list
pub peer_may : (n : ℕ) (t : Thread) (order : OrderId) (mine : View) (lent : Shown) (mine1 : View) (s : PeerModel) (o : Op) → is_read o ≡ false
    → is_peer_event t o ≡ true → IsLent 1 (KnowsPeers n) t order mine lent mine1 s → MayAppend order lent 1 t o None
peer_may n t order mine lent mine1 s o own side w = record {
  same = w.same;
  thread = w.thread;
  one = omega arith;
  managed = λ z. absurd (omega arith);
  peer = λ z. (own, side);
  role = w.lends.kept 1 w.owns;
  pass = lent_pass 1 (KnowsPeers n) t order mine lent mine1 s w;
  paid = λ z. absurd (omega arith);
  cycles = λ z. absurd (omega arith);
  cells = λ z. absurd (omega arith);
}

-- and later in the same hold
pub peer_may_on : (t : Thread) (order : OrderId) (seat seat' : Shown) (o : Op) → GoesFurther seat seat' → MayAppend order seat 1 t o None → MayAppend order seat' 1 t o None
peer_may_on t order seat seat' o f m = record {
  same = f.order ∙ m.same;
  thread = m.thread;
  one = m.one;
  managed = m.managed;
  peer = m.peer;
  role = f.owns 1 m.role;
  pass = f.owns (caller_line t) m.pass;
  paid = λ z. absurd (omega arith);
  cycles = λ z. absurd (omega arith);
  cells = λ z. absurd (omega arith);
}
