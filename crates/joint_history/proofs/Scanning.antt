-- The gate that was closed for a cycle, with the pins by the words that were scanned: each of the eight was scanned,
-- and what one holds a reader was given. So the pins stand, the snapshot's entry may be drawn, and after it the seat
-- has only to be settled.
use Rattle.std.proofs.Common.{◌≡◌, ℕ, zero, suc, ◌+◌, ◌<◌, ◌≤◌, ◌&&◌, false, true, List, [], ◌∷◌, ◌++◌, length, Option, Some, None, refl, sym, ap, ◌∙◌, subst, arith}
use Rattle.std.specs.Prelude.{slice_get}
use Rattle.joint_machine.specs.declared.names.MNum.{MNum}
use Rattle.joint_machine.specs.declared.names.Thread.TheVariants.{C}
use Rattle.joint_machine.specs.declared.events.Entry.{Entry}
use Rattle.joint_machine.specs.Draws.{numbered, Drawing}
use Rattle.joint_machine.specs.HistoryLines.{caller_line}
use Rattle.joint_machine.specs.ManagedReplay.{ManagedReplay}
use Rattle.joint_machine.specs.Sides.{Side, managed_rules}
use Rattle.joint_machine.specs.Told.{Told, kept_pins, snap_of}
use Rattle.known_laws.specs.Known.{PinsStand}
use Rattle.known_laws.specs.Pasts.{end_of}
use Rattle.managed_heap.specs.declared.opening.Opened.{Opened}
use Rattle.managed_heap.specs.Openings.{OpensBySnap, snap_made, snap_op}
use Rattle.managed_heap.specs.Pinned.{pins_given}
use Rattle.order_table.specs.declared.views.KeptEntry.{KeptEntry}
use Rattle.order_table.specs.Allowed.{MayDo, Settled}
use Rattle.order_table.specs.Facts.{line_entries}
use Rattle.order_table.specs.Owed.{all_scanned, is_some, pin_row, scanned_row, somes, words_of}
use Rattle.order_table.specs.Rows.{at}
use Rattle.order_table.specs.Rule.{IsBelow, IsHeld}
use Rattle.order_table.specs.Stages.{opens, stage}
use Rattle.order_table.specs.Views.{OrderId, Owns, Shown, kept, known}
use Rattle.seat_calls.specs.Gating.{ClosesFor, HasOpened}
use Rattle.seat_calls.specs.Passing.{Appends, MayAppend}
use Rattle.seat_calls.proofs.After.{has_opened}
use Rattle.view_laws.specs.Knowing.{pins_of}
use Rattle.view_laws.proofs.HeldViews.{pins_of_views_stand}
use Rattle.joint_history.specs.DriverSnaps.{ClosesGate, DrawsSnapshot}
use Rattle.joint_history.specs.Locked.{Drew, ManagedKnows}
use Rattle.joint_history.proofs.CycleDraws.{IsToSettle, cycle_next, drew_still, driver_may, frees_these, numbers_of, to_settle}
use Rattle.joint_history.proofs.KnownViews.{same_view}
use Rattle.joint_history.proofs.SeatDraws.{drew_managed}

-- the words that were scanned, as a row again
words_back : (ws : List ℕ) → words_of (somes ws) ≡ ws
words_back [] = refl
words_back (w ∷ ws) = ap (λ l. w ∷ l) (words_back ws)

row_back : (ws : List ℕ) → pin_row (scanned_row ws) ≡ 0 ∷ ws
row_back ws = ap (λ l. 0 ∷ l) (words_back ws)

some_at : (ws : List ℕ) (i : ℕ) → i < length ws → is_some (at None (somes ws) i) ≡ true
some_at [] i l = absurd (omega arith)
some_at (w ∷ ws) zero l = refl
some_at (w ∷ ws) (suc i) l = some_at ws i (omega arith)

each_scanned : (n : ℕ) (ws : List ℕ) → n ≤ length ws → all_scanned n (scanned_row ws) ≡ true
each_scanned zero ws l = refl
each_scanned (suc n) ws l = ap (λ b. b && all_scanned n (scanned_row ws)) (some_at ws n (omega arith)) ∙ each_scanned n ws (omega arith)

-- a word that isn't 0 stands there
word_there : (ws : List ℕ) (i m : ℕ) → at 0 ws i ≡ suc m → slice_get ws i ≡ Some (suc m)
word_there [] i m e = absurd (omega (arith, e))
word_there (w ∷ ws) zero m e = ap Some e
word_there (w ∷ ws) (suc i) m e = word_there ws i m e

pub closes_gate : (old new : Shown) (cycle : ℕ) (ws : List ℕ) (pins : List (Option MNum)) → new.order ≡ old.order
    → ClosesFor old.view new.view cycle → new.view.scanned ≡ scanned_row ws → length ws ≡ 8 → pins_given pins ≡ pins_of (0 ∷ ws)
    → ((i m : ℕ) → i < 8 → slice_get ws i ≡ Some (m + 1) → IsHeld (known old.view 0) (i + 1) m) → ClosesGate old new cycle pins
closes_gate old new cycle ws pins same closes scanned eight given held = record {
  same = same;
  closes = closes;
  all = ap (all_scanned 8) scanned ∙ each_scanned 8 ws (omega (arith, eight));
  given = ap pins_of (ap pin_row scanned ∙ row_back ws) ∙ sym given;
  held = λ r m pos few e. at_reader r m pos few (ap (λ l. at 0 l r) (sym (ap pin_row scanned ∙ row_back ws)) ∙ e);
}
  where
    at_reader : (r m : ℕ) → 0 < r → r < 9 → at 0 (0 ∷ ws) r ≡ m + 1 → IsHeld (known old.view 0) r m
    at_reader zero m pos few e = absurd (omega (arith, pos))
    at_reader (suc i) m pos few e =
        let same_place : i + 1 ≡ suc i = omega arith in
        let same_word : suc m ≡ m + 1 = omega arith in
        subst (λ r. IsHeld (known old.view 0) r m) same_place (held i m (omega (arith, few)) (word_there ws i m (e ∙ sym same_word) ∙ ap Some same_word))

-- so the pins stand, as who owns the managed list knows
pub pins_stand : (old new : Shown) (side : Side ManagedReplay) (k : ℕ) (pins : List (Option MNum))
    → ManagedKnows old.view side → ClosesGate old new k pins → PinsStand side.state.managed (pins_given pins)
pins_stand old new side k pins ks g = subst (λ (r : ManagedReplay). PinsStand r.managed (pins_given pins)) ks.state
    (subst (PinsStand (end_of ks.known.known.past).managed.managed) g.given (pins_of_views_stand old.view ks.known (pin_row new.view.scanned) g.held))

-- the seat knows the same with the gate closed
gate_line : (old new : Shown) (k : ℕ) (pins : List (Option MNum)) → ClosesGate old new k pins → (i : ℕ) → known new.view i ≡ known old.view i
gate_line old new k pins g i = ap (λ ls. at [] ls i) g.closes.known

pub knows_gate : (old new : Shown) (side : Side ManagedReplay) (k : ℕ) (pins : List (Option MNum)) → ManagedKnows old.view side → ClosesGate old new k pins → ManagedKnows new.view side
knows_gate old new side k pins ks g = record {
  known = same_view old.view new.view ks.known (gate_line old new k pins g);
  entries = ap line_entries (gate_line old new k pins g 0) ∙ ks.entries;
  state = ks.state;
}

gate_owns : (old new : Shown) (k : ℕ) (pins : List (Option MNum)) → ClosesGate old new k pins → (i : ℕ) → Owns old.view i → Owns new.view i
gate_owns old new k pins g i o = ap (λ os. at false os i) g.closes.owns ∙ o

-- and may open the cycle
opens_next : (old new : Shown) (side : Side ManagedReplay) (pins : List (Option MNum)) → ManagedKnows old.view side
    → side.state.managed.cycle ≡ None → ClosesGate old new (side.state.managed.cycles + 1) pins → MayDo new.view (opens (side.state.managed.cycles + 1))
opens_next old new side pins ks closed g = (
  ap (λ ls. stage (at [] ls 0) + 1) g.closes.known ∙ (cycle_next old.view side ks closed).1,
  g.closes.holds,
  g.all,
)

pub snap_may : (order order' : OrderId) (old new : Shown) (side : Side ManagedReplay) (pins : List (Option MNum)) → old.order ≡ order
    → order' ≡ order → Owns old.view 0 → Owns old.view (caller_line C) → Settled old.view → ManagedKnows old.view side → side.state.managed.cycle ≡ None
    → ClosesGate old new (side.state.managed.cycles + 1) pins → MayAppend order' new 0 C (snap_op side.state.managed) None
snap_may order order' old new side pins same same' owns pass s ks closed g = driver_may order' new (snap_op side.state.managed) (g.same ∙ (same ∙ sym same')) refl refl refl
    (gate_owns old new _ pins g 0 owns) (gate_owns old new _ pins g (caller_line C) pass)
    (λ c. ap (λ ds. at false ds c) g.closes.debts ∙ s.paid c, g.closes.outside.stored.0, g.closes.outside.stored.1)
    (opens_next old new side pins ks closed g)

-- what was drawn by the seat with the gate closed was drawn by the seat
drew_before : (order : OrderId) (old gate seat' : Shown) (side side' : Side ManagedReplay) (k : ℕ) (pins : List (Option MNum)) (e : Entry) (told : Told)
    → ClosesGate old gate k pins → Drew managed_rules 0 order gate seat' side side' e told → Drew managed_rules 0 order old seat' side side' e told
drew_before order old gate seat' side side' k pins e told g d =
    let line = gate_line old gate k pins g in
    let grows = d.appends.grows in
    let entry = d.kept in
    record {
      kept = entry;
      entry = d.entry;
      target = d.target;
      freed = d.freed;
      pins = d.pins;
      appends = record {
        same = d.appends.same ∙ g.same;
        grows = record {
          role = grows.role ∙ ap (λ l. l ++ entry ∷ []) (line 0);
          caller = grows.caller ∙ ap (λ l. l ++ entry ∷ []) (line (caller_line entry.entry.made.caller));
          others = λ i n m. grows.others i n m ∙ line i;
          owns = grows.owns ∙ g.closes.owns;
        };
        number = λ i. subst (IsBelow entry.entry.number) (line i) (d.appends.number i);
        one_history = d.appends.one_history;
      };
      added = d.added;
      goes = d.goes;
    }

appends_in : (order' order order'' : OrderId) (seat seat' : Shown) (k : KeptEntry) → order' ≡ order → Appends order' order'' seat seat' 0 k → Appends order order'' seat seat' 0 k
appends_in order' order order'' seat seat' k e a = subst (λ z. Appends z order'' seat seat' 0 k) e a

-- the snapshot's entry was drawn: it opened the cycle that the gate is held for, and the seat is to be settled
pub record HasSnapped (order : OrderId) (seat mid : Shown) (side side' : Side ManagedReplay) (index : ℕ) (out : Opened) : Type 0 where
  pub draws : DrawsSnapshot order seat mid side side' index out
  pub settle : IsToSettle order mid side'
  pub opened : HasOpened mid.view

-- the last entry of a list is one
last_same : (es : List Entry) (e f : Entry) → es ++ e ∷ [] ≡ es ++ f ∷ [] → e ≡ f
last_same [] e f s = cc
last_same (x ∷ es) e f s = let tails : es ++ e ∷ [] ≡ es ++ f ∷ [] = cc in last_same es e f tails

pub snap_drawn : {D : Type 0} (d : Drawing D) (before after : D) (order order' order'' : OrderId) (seat gate mid : Shown) (old new : Side ManagedReplay) (index : ℕ)
    (pins : List (Option MNum)) (out : Opened) → seat.order ≡ order → order' ≡ order → Owns seat.view 0 → ManagedKnows seat.view old → old.state.managed.cycle ≡ None
    → ClosesGate seat gate (old.state.managed.cycles + 1) pins → (o : OpensBySnap d before after old new index (pins_given pins) out)
    → Appends order' order'' gate mid 0 (kept gate.view (snap_made old.state.managed index o.freed o.candidates) None (numbers_of o.freed) o.adds.draws.adds.number)
    → HasSnapped order seat mid old new index out
snap_drawn d before after order order' order'' seat gate mid old new index pins out same same' owns ks closed g o a =
    let n = o.adds.draws.adds.number in
    let m = snap_made old.state.managed index o.freed o.candidates in
    let told = kept_pins (pins_given pins) (snap_of o.freed o.candidates o.dead) in
    let k = kept gate.view m None (numbers_of o.freed) n in
    record {
      draws = record {
        freed = o.freed;
        candidates = o.candidates;
        dead = o.dead;
        number = n;
        same_number = ap (λ (e : Entry). e.number) (last_same old.entries (numbered n m) (numbered out.number m) (sym o.adds.draws.adds.added ∙ o.number));
        pins = pins_given pins;
        stand = pins_stand seat gate old (old.state.managed.cycles + 1) pins ks g;
        drew = drew_before order seat gate mid old new (old.state.managed.cycles + 1) pins (numbered n m) told g
            (drew_managed order order'' gate mid old new m told n (appends_in order' order order'' gate mid k same' a) o.adds.goes o.adds.draws.adds.added g.given n refl);
        cycle = o.cycle;
        counted = o.counted;
        span = o.span;
        graph = o.graph;
      };
      settle = to_settle order order'' gate mid old new k (knows_gate seat gate old _ pins ks g) (gate_owns seat gate _ pins g 0 owns)
          (g.same ∙ same) g.closes.outside (appends_in order' order order'' gate mid k same' a) refl refl
          (frees_these old.state new.state k o.freed (ap (λ (r : ManagedReplay). r.managed.heap) o.adds.goes.state) refl);
      opened = has_opened gate.view mid.view k (old.state.managed.cycles + 1) a.grows a.paid refl (opens_next seat gate old pins ks closed g);
    }

-- and is so of the seat once it is settled
pub snapshot_still : (order : OrderId) (seat mid seat' : Shown) (side side' : Side ManagedReplay) (index : ℕ) (out : Opened)
    → DrawsSnapshot order seat mid side side' index out → seat'.order ≡ mid.order → seat'.view.owns ≡ mid.view.owns → seat'.view.known ≡ mid.view.known
    → DrawsSnapshot order seat seat' side side' index out
snapshot_still order seat mid seat' side side' index out d same owns knows = record {
  freed = d.freed;
  candidates = d.candidates;
  dead = d.dead;
  number = d.number;
  same_number = d.same_number;
  pins = d.pins;
  stand = d.stand;
  drew = drew_still managed_rules 0 order seat mid seat' side side' _ _ d.drew same owns knows;
  cycle = d.cycle;
  counted = d.counted;
  span = d.span;
  graph = d.graph;
}
