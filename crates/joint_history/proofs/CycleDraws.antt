-- The entries of the driver that open or end a cycle: by what the seat knows they may be made, since its managed list
-- says of the cycles what the side's state has; and after one the seat owes just the words of the cells whose targets
-- the entry freed, of which the side knows as much.
use Rattle.std.proofs.Common.{◌≡◌, ℕ, ◌+◌, Bool, true, false, ◌||◌, List, [], ◌∷◌, ◌++◌, map, inl, inr, Some, None, refl, sym, ap, ◌∙◌, subst, arith, true≢false}
use Rattle.std.specs.Prelude.{◌↔◌, Contains, nat_eq}
use Rattle.std.proofs.lemmas.Bool.{both_ways, cases_Bool}
use mathlib.Core.List.{IsPrefix}
use Rattle.joint_machine.specs.declared.names.MNum.{MNum}
use Rattle.joint_machine.specs.declared.names.Thread.TheVariants.{C}
use Rattle.joint_machine.specs.declared.events.Entry.{Entry}
use Rattle.joint_machine.specs.declared.events.Op.{Op}
use Rattle.joint_machine.specs.Heaps.{IsLive, with_freed}
use Rattle.joint_machine.specs.HistoryLines.{caller_line}
use Rattle.joint_machine.specs.Lines.{is_peer_event, is_read}
use Rattle.joint_machine.specs.Managed.{OpenCycle}
use Rattle.joint_machine.specs.ManagedReplay.{ManagedReplay}
use Rattle.joint_machine.specs.Sides.{Side, SideRules}
use Rattle.joint_machine.specs.Told.{Told, snap_of}
use Rattle.joint_machine.proofs.HeapLemmas.{IsLive-before, IsLive-left, IsLive-spared}
use Rattle.joint_machine.proofs.Members.{Contains-here, Contains-there}
use Rattle.order_table.specs.declared.views.KeptEntry.{KeptEntry}
use Rattle.order_table.specs.declared.views.View.{View}
use Rattle.order_table.specs.Allowed.{MayDo, OwesNone, Settled}
use Rattle.order_table.specs.Owed.{aims_at, deed_of_pin, empty_after, fill_after, has, is_freed, mark, marked, owing, pin, stays, target}
use Rattle.order_table.specs.Rows.{at}
use Rattle.order_table.specs.Rule.{of_line}
use Rattle.order_table.specs.Stages.{IsClosed, deed, ends}
use Rattle.order_table.specs.Views.{IsNext, IsOpen, OrderId, Owns, Shown, known}
use Rattle.order_table.proofs.Says.{freed_more, target_more}
use Rattle.joint_machine.specs.Control.{caller_place}
use Rattle.seat_calls.specs.Gating.{HasEnded, IsOutside}
use Rattle.seat_calls.specs.Passing.{Appends, MayAppend}
use Rattle.seat_calls.specs.Paying.{Agrees, IsPaid, OwesFreed}
use Rattle.seat_calls.proofs.After.{has_ended, owes_freed}
use Rattle.view_laws.proofs.Finished.{frees-has}
use Rattle.view_laws.proofs.HeldViews.{targets_agree, views_say_states}
use Rattle.view_laws.proofs.PinWords.{same-number}
use Rattle.joint_history.specs.Locked.{Drew, HasAppended, ManagedKnows}
use Rattle.joint_history.proofs.LockedSteps.{owns_on}

-- the side's open cycle is the one that the seat's managed list has open
pub cycle_open : (v : View) (s : Side ManagedReplay) → ManagedKnows v s → (c : OpenCycle) → s.state.managed.cycle ≡ Some c → IsOpen v c.number
cycle_open v s k c e = (views_say_states v k.known).opened c (ap (λ (r : ManagedReplay). r.managed.cycle) k.state ∙ e)

-- and where the side has none, so has the list, and the next one is the same
pub cycle_next : (v : View) (s : Side ManagedReplay) → ManagedKnows v s → s.state.managed.cycle ≡ None → IsClosed (known v 0) × IsNext v (s.state.managed.cycles + 1)
cycle_next v s k e = subst (λ (r : ManagedReplay). IsClosed (known v 0) × IsNext v (r.managed.cycles + 1)) k.state
    ((views_say_states v k.known).closed (ap (λ (r : ManagedReplay). r.managed.cycle) k.state ∙ e))

-- the driver's entry of the managed list may be made that does to the cycles what it may, and sets no cell
pub driver_may : (order : OrderId) (seat : Shown) (o : Op) → seat.order ≡ order → is_read o ≡ false → is_peer_event C o ≡ false → mark o None ≡ None
    → Owns seat.view 0 → Owns seat.view (caller_line C) → OwesNone seat.view → MayDo seat.view (deed o) → MayAppend order seat 0 C o None
driver_may order seat o same own side plain owns pass paid cycles = record {
  same = same;
  thread = tt;
  one = omega arith;
  managed = λ z. (own, side);
  peer = λ z. absurd (omega arith);
  role = owns;
  pass = pass;
  paid = λ z. paid;
  cycles = λ z. cycles;
  cells = λ z. λ c m e. absurd (none_is_some (sym plain ∙ e));
}
  where
    none_is_some : {p : ℕ × ℕ} → None ≡ Some p → ⊥
    none_is_some e = cc

-- a settled seat is outside
pub is_outside : (v : View) → Settled v → IsOutside v
is_outside v s = record { outside = s.outside; clear = s.clear; stored = s.stored }

-- the entry frees these objects of the side's: what is live after it was live before, and is none of these
pub record Frees (old new : ManagedReplay) (k : KeptEntry) : Type 0 where
  pub live : (m : ℕ) → IsLive new.managed.heap m ↔ (IsLive old.managed.heap m × (has k.freed m ≡ false))

pub frees_none : (old new : ManagedReplay) (k : KeptEntry) → new.managed.heap ≡ old.managed.heap → k.freed ≡ [] → Frees old new k
frees_none old new k e none = record {
  live = λ m. ((λ l. (subst (λ h. IsLive h m) e l, ap (λ xs. has xs m) none)), (λ z. subst (λ h. IsLive h m) (sym e) z.0));
}

-- the numbers of objects
abbrev pub numbers_of : List ℕ → List MNum
numbers_of xs = map (λ x. record { 0 = x }) xs

has_in : (xs : List ℕ) (m : ℕ) → has (numbers_of xs) m ≡ true → Contains xs m
has_in [] m e = absurd (true≢false (sym e))
has_in (x ∷ xs) m e = by (nat_eq x m) refl (has_in xs m)
  where
    by : (b : Bool) → nat_eq x m ≡ b → (has (numbers_of xs) m ≡ true → Contains xs m) → Contains (x ∷ xs) m
    by true q further = subst (λ z. Contains (x ∷ xs) z) (same-number x m q) (Contains-here x xs)
    by false q further = Contains-there m x xs (further (sym (ap (λ b. b || has (numbers_of xs) m) q) ∙ e))

not_has : (xs : List ℕ) (m : ℕ) → (Contains xs m → ⊥) → has (numbers_of xs) m ≡ false
not_has xs m n = elim (cases_Bool (has (numbers_of xs) m)) [ inl e ↦ absurd (n (has_in xs m e)) | inr e ↦ e ]

pub frees_these : (old new : ManagedReplay) (k : KeptEntry) (freed : List ℕ) → new.managed.heap ≡ with_freed old.managed.heap freed → k.freed ≡ numbers_of freed → Frees old new k
frees_these old new k freed e is = record {
  live = λ m. (
    (λ l. (let l2 = subst (λ h. IsLive h m) e l in (IsLive-before old.managed.heap freed m l2, ap (λ xs. has xs m) is ∙ not_has freed m (IsLive-spared old.managed.heap freed m l2)))),
    (λ z. subst (λ h. IsLive h m) (sym e) (IsLive-left old.managed.heap freed m z.0
        (λ c. both_ways (has (numbers_of freed) m) (sym (ap (λ xs. has xs m) is) ∙ z.1) (frees-has (snap_of freed [] []) m c)))),
  );
}

-- so of the cells' targets the side has as live those which the managed list doesn't free, after the entry as before
pub agrees_after : (v w : View) (old new : Side ManagedReplay) (k : KeptEntry) → ManagedKnows v old
    → (known w 0 ≡ known v 0 ++ k ∷ []) → marked k ≡ None → Frees old.state new.state k → Agrees w (λ m. IsLive new.state.managed.heap m)
agrees_after v w old new k ks g unmarked f c m aims =
    let was : target (known v 0) c ≡ Some m = sym (ap (λ ls. target ls c) g ∙ (target_more c (known v 0) k ∙ ap (aims_at c (target (known v 0) c)) unmarked)) ∙ aims in
    let t : IsLive old.state.managed.heap m ↔ (is_freed (known v 0) m ≡ false) = subst
    (λ (r : ManagedReplay). IsLive r.managed.heap m ↔ (is_freed (known v 0) m ≡ false)) ks.state (targets_agree v ks.known c m was) in
    let now : is_freed (known w 0) m ≡ (is_freed (known v 0) m || has k.freed m) = ap (λ ls. is_freed ls m) g ∙ freed_more (known v 0) k m in (
      (λ l. (let b = (f.live m).0 l in now ∙ (ap (λ z. z || has k.freed m) (t.0 b.0) ∙ b.1))),
      (λ e. (let b = none_of (is_freed (known v 0) m) (has k.freed m) (sym now ∙ e) in (f.live m).1 (t.1 b.0, b.1))),
    )
  where
    none_of : (a b : Bool) → (a || b) ≡ false → (a ≡ false) × (b ≡ false)
    none_of true b e = absurd (true≢false e)
    none_of false b e = (refl, e)

-- what is asked of the seat to be settled
pub record IsToSettle (order : OrderId) (seat : Shown) (side : Side ManagedReplay) : Type 0 where
  pub same : seat.order ≡ order
  pub owns : Owns seat.view 0
  pub agrees : Agrees seat.view (λ m. IsLive side.state.managed.heap m)
  pub freed : OwesFreed seat.view
  pub outside : IsOutside seat.view

outside_after : (v w : View) (r : ℕ) (k : KeptEntry) → IsPaid v w r k → deed_of_pin k ≡ stays → IsOutside v → IsOutside w
outside_after v w r k p e s =
    let own = pin (known v (caller_line k.entry.made.caller)) in
    let place = caller_place k.entry.made.caller in
    record {
      outside = p.inside ∙ s.outside;
      clear = p.owes ∙ s.clear;
      stored = (p.fill ∙ (ap (λ d. fill_after (owing own d) place v.fill) e ∙ s.stored.0), p.empty ∙ (ap (λ d. empty_after (owing own d) place v.empty) e ∙ s.stored.1));
    }

pub to_settle : (order order' : OrderId) (seat seat' : Shown) (old new : Side ManagedReplay) (k : KeptEntry) → ManagedKnows seat.view old
    → Owns seat.view 0 → seat.order ≡ order → IsOutside seat.view → Appends order order' seat seat' 0 k → marked k ≡ None → deed_of_pin k ≡ stays
    → Frees old.state new.state k → IsToSettle order seat' new
to_settle order order' seat seat' old new k ks owns same out a unmarked pin f = record {
  same = a.same ∙ same;
  owns = owns_on seat.view seat'.view 0 k a.grows 0 owns;
  agrees = agrees_after seat.view seat'.view old new k ks a.grows.role unmarked f;
  freed = owes_freed seat.view seat'.view k a.grows a.paid unmarked;
  outside = outside_after seat.view seat'.view 0 k a.paid pin out;
}

-- the entry ended the open cycle
pub record HasToEnd (order : OrderId) (seat : Shown) (side : Side ManagedReplay) : Type 0 where
  pub settle : IsToSettle order seat side
  pub ended : HasEnded seat.view

pub cycle_ended : (order order' : OrderId) (seat seat' : Shown) (old new : Side ManagedReplay) (k : KeptEntry) (c : OpenCycle) → ManagedKnows seat.view old
    → Owns seat.view 0 → seat.order ≡ order → Settled seat.view → old.state.managed.cycle ≡ Some c → Appends order order' seat seat' 0 k
    → marked k ≡ None → deed_of_pin k ≡ stays → deed k.entry.made.op ≡ ends c.number → Frees old.state new.state k → HasToEnd order seat' new
cycle_ended order order' seat seat' old new k c ks owns same s opened a unmarked pin d f = record {
  settle = to_settle order order' seat seat' old new k ks owns same (is_outside seat.view s) a unmarked pin f;
  ended = has_ended seat.view seat'.view k c.number a.grows a.paid d (cycle_open seat.view old ks c opened) (s.gate owns);
}

-- a seat that is settled then has drawn the same
pub appended_still : (order : OrderId) (seat mid seat' : Shown) (r : ℕ) (k : KeptEntry) → HasAppended order seat mid r k
    → seat'.order ≡ mid.order → seat'.view.owns ≡ mid.view.owns → seat'.view.known ≡ mid.view.known → HasAppended order seat seat' r k
appended_still order seat mid seat' r k a same owns knows =
    let line : (i : ℕ) → known seat'.view i ≡ known mid.view i = λ i. ap (λ ls. at [] ls i) knows in
    record {
      same = same ∙ a.same;
      grows = record { role = line r ∙ a.grows.role; caller = line (caller_line k.entry.made.caller) ∙ a.grows.caller; others = λ i n m. line i ∙ a.grows.others i n m; owns = owns ∙ a.grows.owns };
      number = a.number;
      one_history = record {
        whole = a.one_history.whole;
        numbers = a.one_history.numbers;
        begins = λ i. subst (λ l. IsPrefix l (of_line i a.one_history.whole)) (sym (line i)) (a.one_history.begins i);
      };
    }

pub drew_still : {S : Type 0} (rules : SideRules S) (r : ℕ) (order : OrderId) (seat mid seat' : Shown) (old new : Side S) (e : Entry) (told : Told)
    → Drew rules r order seat mid old new e told → seat'.order ≡ mid.order → seat'.view.owns ≡ mid.view.owns → seat'.view.known ≡ mid.view.known
    → Drew rules r order seat seat' old new e told
drew_still rules r order seat mid seat' old new e told d same owns knows = record {
  kept = d.kept;
  entry = d.entry;
  target = d.target;
  freed = d.freed;
  pins = d.pins;
  appends = appended_still order seat mid seat' r d.kept d.appends same owns knows;
  added = d.added;
  goes = d.goes;
}
