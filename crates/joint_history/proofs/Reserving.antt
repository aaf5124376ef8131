-- What is reserved on the peer side stays so, whatever more its seat gets to know: the candidates of a mirrored cycle
-- are the same to all who know its mirror, and whether the cycle's own marking is still to come stands in the side's
-- own entries.
use Rattle.std.proofs.Common.{◌≡◌, ℕ, ◌+◌, ◌-◌, ◌≤◌, Bool, true, false, List, [], ◌∷◌, ◌++◌, length, Option, Some, None, refl, sym, ap, ◌∙◌, subst, arith, length-append}
use Rattle.std.specs.Prelude.{if◌then◌else◌, Result, Ok, Err, IfOk, OnErr}
use Rattle.std.proofs.lemmas.Bool.{both_ways}
use Rattle.std.proofs.lemmas.Option.{same_Some}
use mathlib.Core.List.{IsPrefix}
use base.Growing.{prefix_refl, prefix_trans}
use Rattle.joint_machine.specs.declared.names.Cycle.{Cycle}
use Rattle.joint_machine.specs.declared.names.HNum.{HNum}
use Rattle.joint_machine.specs.declared.names.Thread.{Thread}
use Rattle.joint_machine.specs.declared.names.Thread.TheVariants.{M, P, C}
use Rattle.joint_machine.specs.declared.events.Entry.{Entry}
use Rattle.joint_machine.specs.declared.events.Op.{Op}
use Rattle.joint_machine.specs.declared.lines.Act.TheVariants as act
use Rattle.joint_machine.specs.declared.events.Op.TheVariants as op
use Rattle.joint_machine.specs.declared.events.Reply.{Reply}
use Rattle.joint_machine.specs.declared.events.Reply.TheVariants as says
use Rattle.joint_machine.specs.Control.{OpenSnap, Stand, idle, snapped, contracted, weakening, marked, restoring, restored, stand_after, control_after, CallerAllows, DriverAllows, IsCandidateHandle}
use Rattle.joint_machine.specs.Draws.{numbered}
use Rattle.joint_machine.specs.HistoryLines.{stands_in}
use Rattle.joint_machine.specs.Lines.{is_peer_event}
use Rattle.joint_machine.specs.Managed.{Managed}
use Rattle.joint_machine.specs.ManagedReplay.{opening_replay}
use Rattle.joint_machine.specs.Peers.{Issued, next_handle}
use Rattle.joint_machine.specs.PeerReplay.{PeerReplay, Mirror, TableRow, restored_by, row_of, with_given, with_restored, with_weakened}
use Rattle.joint_machine.specs.Sides.{peer_rules}
use Rattle.joint_machine.specs.Told.{Told, Noted, nothing, contraction_of}
use Rattle.joint_machine.specs.PinsTold.{bare_told}
use Rattle.joint_machine.proofs.Deciding.{none_some}
use Rattle.joint_laws.proofs.Restores.{restored-any}
use Rattle.known_laws.specs.Driving.{IsMirrorOf, MirrorFits}
use Rattle.known_laws.specs.PastEntries.{entries}
use Rattle.known_laws.specs.Pasts.{Lawful, end_of, is_in, line}
use Rattle.known_laws.proofs.Conditions.{fewer_are_weakened}
use Rattle.known_laws.proofs.Growing.{entries_append}
use Rattle.known_laws.proofs.KnownPasts.{past_invariant_holds}
use Rattle.known_laws.proofs.PeerKeeps.{IsNoMirror, IsUnmirroring, same_mirror_after, unmirroring}
use Rattle.known_laws.proofs.SnapTold.{mirrored_candidates_stay}
use Rattle.managed_heap.specs.Sides.{ManagedModel}
use Rattle.peer_heap.specs.Cycles.{reserve_left, reserve_over}
use Rattle.peer_heap.specs.Sides.{PeerModel, Reserve, is_own, opening_side, reserve_begun, seen}
use Rattle.order_table.specs.declared.views.View.{View}
use Rattle.order_table.specs.Facts.{line_entries}
use Rattle.order_table.specs.Rows.{at}
use Rattle.order_table.specs.Rule.{of_line}
use Rattle.order_table.specs.Tells.{BeginsOneHistory}
use Rattle.order_table.specs.Views.{OrderId, Shown, known, Owns}
use Rattle.joint_history.specs.Callers.{HoldsPass, KnowsNothing}
use Rattle.joint_history.specs.Driven.{DriverStands, driver_entry}
use Rattle.view_laws.specs.Knowing.{IsDrawnView, drawn_lines}
use Rattle.known_laws.specs.Drawn.{of_drawn}
use Rattle.known_laws.proofs.Coming.{turn_of}
use Rattle.joint_history.specs.Locked.{Drew, HasRoomToWeaken, PeerKnows, PeerReserves, StaysSeated, due_after, due_from, is_marking_due, made_by}
use Rattle.joint_history.specs.PeerCalls.{DrawsEvent, IsPeerCall}
use Rattle.joint_history.specs.Steps.{KnowsManaged, KnowsPeers}
use Rattle.seat_calls.specs.Passing.{Lends, Returns}
use Rattle.joint_history.proofs.DeadParts.{candidate_handle_on}
use Rattle.joint_history.proofs.DriverSteps.{driver_joined}
use Rattle.joint_history.proofs.KnownViews.{line_of_past, no_view}
use Rattle.view_laws.proofs.DrawnViews.{drawn_begins}
use Rattle.view_laws.proofs.KnownViews.{whole_kept, whole_numbered}
use Rattle.joint_history.proofs.LockedSteps.{grows_more, lent_joined}
use Rattle.joint_history.proofs.SeatsKnow.{peer_line}

-- whether the own marking is due, after one entry more
due_on : (due : Bool) (es : List Entry) (e : Entry) → due_from due (es ++ e ∷ []) ≡ due_after e.made.caller e.made.op (due_from due es)
due_on due [] e = refl
due_on due (x ∷ es) e = due_on (due_after x.made.caller x.made.op due) es e

pub due_snoc : (es : List Entry) (e : Entry) → is_marking_due (es ++ e ∷ []) ≡ due_after e.made.caller e.made.op (is_marking_due es)
due_snoc es e = due_on false es e

-- only entries of the peer side tell of it
due_quiet : (t : Thread) (o : Op) (due : Bool) → is_peer_event t o ≡ false → due_after t o due ≡ due
due_quiet (M n) o due e = refl
due_quiet (P n) o due e = refl
due_quiet C (op.Mirror k) due e = (let f : true ≡ false = e in cc)
due_quiet C op.Begin due e = (let f : true ≡ false = e in cc)
due_quiet C (op.Clear k) due e = (let f : true ≡ false = e in cc)
due_quiet C o due e = refl

due_line : (x : Noted) (h : List Noted) → is_marking_due (entries (line 1 (x ∷ h))) ≡ due_after x.entry.made.caller x.entry.made.op (is_marking_due (entries (line 1 h)))
due_line x h = by (is_in 1 x) refl
  where
    not_peer : (b : Bool) → is_peer_event x.entry.made.caller x.entry.made.op ≡ b → is_in 1 x ≡ false → is_peer_event x.entry.made.caller x.entry.made.op ≡ false
    not_peer true p e = absurd (both_ways (stands_in 1 x.entry) e (peer_line x.entry p))
    not_peer false p e = p

    by : (b : Bool) → is_in 1 x ≡ b → is_marking_due (entries (if b then line 1 h ++ x ∷ [] else line 1 h)) ≡ due_after x.entry.made.caller x.entry.made.op (is_marking_due (entries (line 1 h)))
    by true e = ap is_marking_due (entries_append (line 1 h) (x ∷ [])) ∙ due_snoc (entries (line 1 h)) x.entry
    by false e =
        let quiet : is_peer_event x.entry.made.caller x.entry.made.op ≡ false = not_peer (is_peer_event x.entry.made.caller x.entry.made.op) refl e in
        sym (due_quiet x.entry.made.caller x.entry.made.op (is_marking_due (entries (line 1 h))) quiet)

-- the driver has mirrored its cycle, and its own marking isn't begun
abbrev pub IsToMark : Stand → Type 0
IsToMark (weakening o count weakened swept) = Unit {0}
IsToMark _ = ⊥

-- it comes there by the mirror alone
was_to_mark : (st : Stand) (num : ℕ) (o : Op) (reply : Reply) (told : Told) → IsNoMirror o → IsToMark (stand_after st num o reply told) → IsToMark st
was_to_mark (weakening p count x y) num o reply told n w = tt
was_to_mark idle num (op.Snap k) reply told n w = absurd w
was_to_mark (marked p) num (op.Snap k) reply told n w = absurd w
was_to_mark (restoring p answers) num (op.Snap k) reply told n w = absurd w
was_to_mark (restored p answers clear) num (op.Snap k) reply told n w = absurd w
was_to_mark (snapped p) num (op.Contract k) reply (contraction_of comps heavy pairs) n w = absurd w
was_to_mark (contracted p comps heavy pairs) num (op.Mirror k) reply told n w = absurd n
was_to_mark st num o reply told n w = absurd w

own_due : (st : Stand) (m : Managed) (i : List Issued) (num : ℕ) (o : Op) (reply : Reply) (cites : Option ℕ) (told : Told) (due : Bool)
    → DriverAllows st m i o reply cites told → (IsToMark st → due ≡ true) → IsToMark (stand_after st num o reply told) → due_after C o due ≡ true
own_due st m i num (op.Mirror k) reply cites told due a f w = refl
own_due (weakening p count x y) m i num op.Begin reply cites told due a f w = absurd w
own_due st m i num op.Begin reply cites told due a f w = absurd w
own_due (weakening p count x y) m i num (op.Clear k) reply cites told due a f w = absurd a
own_due st m i num (op.Clear k) reply cites told due a f w = absurd w
own_due st m i num o reply cites told due a f w = f (was_to_mark st num o reply told tt w)

pub due_at_end : (h : List Noted) → Lawful h → IsToMark (end_of h).control.stand → is_marking_due (entries (line 1 h)) ≡ true
due_at_end [] l w = absurd w
due_at_end (x ∷ h) l w = due_line x h ∙ by x.entry.made.caller (due_at_end h l.1) (turn_of x h l) w
  where
    by : (t : Thread) → (IsToMark (end_of h).control.stand → is_marking_due (entries (line 1 h)) ≡ true)
        → CallerAllows (end_of h).control (end_of h).managed.managed (end_of h).peer.peers.issued t x.entry.made.index x.entry.made.op x.entry.made.reply x.entry.made.cites (bare_told x.told)
        → IsToMark (control_after (end_of h).control t x.entry.number x.entry.made.index x.entry.made.op x.entry.made.reply (bare_told x.told)).stand
        → due_after t x.entry.made.op (is_marking_due (entries (line 1 h))) ≡ true
    by (M n) f a v = f v
    by (P n) f a v = f v
    by C f a v = own_due (end_of h).control.stand (end_of h).managed.managed
        (end_of h).peer.peers.issued x.entry.number x.entry.made.op x.entry.made.reply x.entry.made.cites (bare_told x.told) (is_marking_due (entries (line 1 h))) a f v

-- more is known of one history
pub record KnowsOn (v w : View) : Type 0 where
  pub more : (i : ℕ) → IsPrefix (known v i) (known w i)
  pub one_history : BeginsOneHistory w

same_history : (v w : View) → ((i : ℕ) → known w i ≡ known v i) → BeginsOneHistory v → BeginsOneHistory w
same_history v w same o = record { whole = o.whole; numbers = o.numbers; begins = λ i. subst (λ ks. IsPrefix ks (of_line i o.whole)) (sym (same i)) (o.begins i) }

-- of the locked seat so it is once a caller's lines were handed over, and after an entry and the handing back
pub lent_on : (t : Thread) (locked mine lent mine1 : View) → Lends t locked mine lent mine1 → KnowsOn locked lent
lent_on t locked mine lent mine1 l = record { more = l.knew; one_history = l.one_history }

pub back_on : (t : Thread) (locked lent2 mine1 locked2 mine2 : View) → KnowsOn locked lent2 → Returns t lent2 mine1 locked2 mine2 → KnowsOn locked locked2
back_on t locked lent2 mine1 locked2 mine2 k b = record { more = λ i. subst (IsPrefix (known locked i)) (sym (b.stays i)) (k.more i); one_history = same_history lent2 locked2 b.stays k.one_history }

pub seated_on : (v : View) (seat seat' : Shown) → StaysSeated seat seat' → KnowsOn v seat.view → KnowsOn v seat'.view
seated_on v seat seat' s k =
    let same : (i : ℕ) → known seat'.view i ≡ known seat.view i = λ i. ap (λ ks. at [] ks i) s.known in
    record { more = λ i. subst (IsPrefix (known v i)) (sym (same i)) (k.more i); one_history = same_history seat.view seat'.view same k.one_history }

pub drew_on : (t : Thread) (locked mine mine1 : View) (order : OrderId) (seat seat' : Shown) (old new : PeerModel) (e : Entry) (told : Told)
    → Lends t locked mine seat.view mine1 → Drew peer_rules 1 order seat seat' (seen old) (seen new) e told → KnowsOn locked seat'.view
drew_on t locked mine mine1 order seat seat' old new e told l
    d = record {
      more = λ i. prefix_trans (known locked i) (known seat.view i) (known seat'.view i) (l.knew i) (grows_more seat.view seat'.view 1 d.kept d.appends.grows i);
      one_history = d.appends.one_history;
    }

-- a mirror that stands stood before, and the handles weakened and those that may still be are no fewer
abbrev pub KeepsRoom : PeerReplay → PeerReplay → ℕ → ℕ → Type 0
KeepsRoom s t left left' = (n : Mirror) → t.mirror ≡ Some n → (m : Mirror) × (s.mirror ≡ Some m) × (m.snap ≡ n.snap) × (length m.weakened + left ≤ length n.weakened + left')

pub room_stays : (v w : View) (a : IsDrawnView v) (b : IsDrawnView w) (left left' : ℕ) → KnowsOn v w
    → KeepsRoom (end_of a.known.past).peer (end_of b.known.past).peer left left' → HasRoomToWeaken (end_of a.known.past) left → HasRoomToWeaken (end_of b.known.past) left'
room_stays v w a b left left' on keeps room n e =
    let x = keeps n e in
    let whole = whole_kept on.one_history.whole in
    let same = ap length (mirrored_candidates_stay whole (λ i. of_drawn (drawn_lines v i))
    (λ i. of_drawn (drawn_lines w i)) a.known b.known (whole_numbered 0 on.one_history.whole on.one_history.numbers)
    (drawn_begins w on.one_history v on.more) (drawn_begins w on.one_history w (λ i. prefix_refl (known w i))) x.0 n x.1 e x.2) in
    let enough = room x.0 x.1 in
    let more = x.3 in
    omega (arith, same, enough, more)

-- what a call leaves in the reserve
pub record KeepsReserve (old new : PeerModel) : Type 0 where
  pub waiting : new.reserve.waiting ≡ old.reserve.waiting
  pub room : KeepsRoom old.state new.state old.reserve.left new.reserve.left
  pub marking : old.reserve.marking ≡ is_marking_due old.entries → new.reserve.marking ≡ is_marking_due new.entries

pub reserves_on : (v w : View) (old new : PeerModel) → PeerKnows v (seen old) → KnowsOn v w → KeepsReserve old new → PeerReserves v old → PeerReserves w new
reserves_on v w old new ks on k r = record {
  none_waits = k.waiting ∙ r.none_waits;
  room = λ b e. room_stays v w ks.known b old.reserve.left new.reserve.left on
      (subst (λ (s : PeerReplay). KeepsRoom s (end_of b.known.past).peer old.reserve.left new.reserve.left) (sym ks.state)
      (subst (λ (s : PeerReplay). KeepsRoom old.state s old.reserve.left new.reserve.left) (sym e) k.room))
      (r.room ks.known ks.state);
  marking = k.marking r.marking;
}

-- by one past that is known it holds by all
pub room_by_one : (v : View) (s : PeerReplay) (left : ℕ) (a : IsDrawnView v) → BeginsOneHistory v → (end_of a.known.past).peer ≡ s
    → HasRoomToWeaken (end_of a.known.past) left → (k : IsDrawnView v) → (end_of k.known.past).peer ≡ s → HasRoomToWeaken (end_of k.known.past) left
room_by_one v s left a o e room k f = room_stays v v a k left left (record { more = λ i. prefix_refl (known v i); one_history = o })
    (λ n g. (n, ap (λ (r : PeerReplay). r.mirror) (e ∙ sym f) ∙ g, refl, (let same : length n.weakened + left ≡ length n.weakened + left = refl in omega (arith, same)))) room

-- nothing was made
pub nothing_kept : (old new : PeerModel) → seen new ≡ seen old → new.reserve ≡ old.reserve → KeepsReserve old new
nothing_kept old new e r = record {
  waiting = ap (λ (x : Reserve). x.waiting) r;
  room = λ n f. (n, sym (ap (λ x. x.state.mirror) e) ∙ f, refl, (let l = ap (λ (x : Reserve). x.left) r in omega (arith, l)));
  marking = λ q. ap (λ (x : Reserve). x.marking) r ∙ (q ∙ ap (λ x. is_marking_due x.entries) (sym e));
}

-- after a draw
module _ (order : OrderId) (seat seat' : Shown) (old new : PeerModel) (e : Entry) (told : Told) (d : Drew peer_rules 1 order seat seat' (seen old) (seen new) e told) where
  due_new : is_marking_due new.entries ≡ due_after e.made.caller e.made.op (is_marking_due old.entries)
  due_new = ap is_marking_due d.added ∙ due_snoc old.entries e

  -- an event that changes no mirror and begins no marking of the driver
  pub quiet_kept : new.reserve ≡ old.reserve → IsUnmirroring e.made.op → ((due : Bool) → due_after e.made.caller e.made.op due ≡ due) → KeepsReserve old new
  quiet_kept r x quiet = record {
    waiting = ap (λ (x : Reserve). x.waiting) r;
    room = λ n f. (
      n,
      sym (ap (λ (s : PeerReplay). s.mirror) d.goes.state ∙ (same_mirror_after old.state e.made told true x).mirror)
          ∙ f,
      refl,
      (let l = ap (λ (x : Reserve). x.left) r in omega (arith, l)),
    );
    marking = λ q. ap (λ (x : Reserve). x.marking) r ∙ (q ∙ sym (due_new ∙ quiet (is_marking_due old.entries)));
  }

-- the candidates' handles are weakened, and are restored
weakened_on : (o : Option Mirror) (h : ℕ) (n : Mirror) → with_weakened o h ≡ Some n → (m : Mirror) × (o ≡ Some m) × (m.snap ≡ n.snap) × (length m.weakened + 1 ≡ length n.weakened)
weakened_on None h n e = absurd (none_some n e)
weakened_on (Some m) h n e = (m, refl, ap (λ (z : Mirror). z.snap) (same_Some _ n e), sym (length-append m.weakened (h ∷ [])) ∙ ap (λ (z : Mirror). length z.weakened) (same_Some _ n e))

restored_on : (o : Option Mirror) (h : ℕ) (n : Mirror) → with_restored o h ≡ Some n → (m : Mirror) × (o ≡ Some m) × (m.snap ≡ n.snap) × (length m.weakened ≡ length n.weakened)
restored_on None h n e = absurd (none_some n e)
restored_on (Some m) h n e = (m, refl, ap (λ (z : Mirror). z.snap) (same_Some _ n e), ap (λ (z : Mirror). length z.weakened) (same_Some _ n e))

renewed_on : (o : Option Mirror) (h g : ℕ) (n : Mirror) → with_given (with_restored o h) g ≡ Some n → (m : Mirror) × (o ≡ Some m) × (m.snap ≡ n.snap) × (length m.weakened ≡ length n.weakened)
renewed_on None h g n e = absurd (none_some n e)
renewed_on (Some m) h g n e = (m, refl, ap (λ (z : Mirror). z.snap) (same_Some _ n e), ap (λ (z : Mirror). length z.weakened) (same_Some _ n e))

restored_keeps : (s : PeerReplay) (h : ℕ) (o : Option TableRow) (n : Mirror) → (restored_by s h o).state.mirror ≡ Some n
    → (m : Mirror) × (s.mirror ≡ Some m) × (m.snap ≡ n.snap) × (length m.weakened ≡ length n.weakened)
restored_keeps s h o n e =
    restored-any (λ a. a.state.mirror ≡ Some n → (m : Mirror) × (s.mirror ≡ Some m) × (m.snap ≡ n.snap) × (length m.weakened ≡ length n.weakened)) s h o
    (λ f. (n, f, refl, refl)) (λ f. restored_on s.mirror h n f) (λ p f. renewed_on s.mirror h (next_handle s.peers) n f) e

-- after a draw of the driver
module _ (order : OrderId) (seat seat' : Shown) (old new : PeerModel) (n index : ℕ) where
  pub weaken_kept : (h : HNum) (snap : ℕ) → Drew peer_rules 1 order seat seat' (seen old) (seen new) (driver_entry n index (op.Weaken h) says.Ok (Some snap)) nothing
      → new.reserve ≡ reserve_left old.reserve → 1 ≤ old.reserve.left → KeepsReserve old new
  weaken_kept h snap d r some =
      let left : new.reserve.left ≡ old.reserve.left - 1 = ap (λ (x : Reserve). x.left) r in
      record {
        waiting = ap (λ (x : Reserve). x.waiting) r;
        room = λ m f. (let x = weakened_on old.state.mirror h.0 m (sym (ap (λ (s : PeerReplay). s.mirror) d.goes.state) ∙ f) in let more = x.3 in (x.0, x.1, x.2, omega (arith, more, left, some)));
        marking = λ q. ap (λ (x : Reserve). x.marking) r ∙ (q ∙ sym (due_new order seat seat' old new (driver_entry n index (op.Weaken h) says.Ok (Some snap)) nothing d));
      }

  pub restore_kept : (h : HNum) (reply : Reply) → Drew peer_rules 1 order seat seat' (seen old) (seen new) (driver_entry n index (op.Restore h) reply None) nothing
      → new.reserve ≡ old.reserve → KeepsReserve old new
  restore_kept h reply d r =
      let left : new.reserve.left ≡ old.reserve.left = ap (λ (x : Reserve). x.left) r in
      record {
        waiting = ap (λ (x : Reserve). x.waiting) r;
        room = λ m f. (let x = restored_keeps old.state h.0 (row_of old.state h.0) m (sym (ap (λ (s : PeerReplay). s.mirror) d.goes.state) ∙ f) in
            let same = x.3 in (x.0, x.1, x.2, omega (arith, same, left)));
        marking = λ q. ap (λ (x : Reserve). x.marking) r ∙ (q ∙ sym (due_new order seat seat' old new (driver_entry n index (op.Restore h) reply None) nothing d));
      }

  pub clear_kept : (k : Cycle) → Drew peer_rules 1 order seat seat' (seen old) (seen new) (driver_entry n index (op.Clear k) says.Ok None) nothing
      → new.reserve ≡ reserve_over old.reserve → KeepsReserve old new
  clear_kept k d r = record {
    waiting = ap (λ (x : Reserve). x.waiting) r;
    room = λ m f. absurd (none_some m (sym (ap (λ (s : PeerReplay). s.mirror) d.goes.state) ∙ f));
    marking = λ q. ap (λ (x : Reserve). x.marking) r ∙ sym (due_new order seat seat' old new (driver_entry n index (op.Clear k) says.Ok None) nothing d);
  }

  -- the own marking is begun
  pub begin_kept : (reply : Reply) → Drew peer_rules 1 order seat seat' (seen old) (seen new) (driver_entry n index op.Begin reply None) nothing
      → old.reserve.marking ≡ true → new.reserve ≡ reserve_begun (is_own C old.reserve.marking) old.reserve → KeepsReserve old new
  begin_kept reply d due r =
      let begun : new.reserve ≡ record old.reserve { marking = false } = r ∙ ap (λ b. reserve_begun b old.reserve) due in
      let left : new.reserve.left ≡ old.reserve.left = ap (λ (x : Reserve). x.left) begun in
      record {
        waiting = ap (λ (x : Reserve). x.waiting) begun;
        room = λ m f. (
          m,
          sym (ap (λ (s : PeerReplay). s.mirror) d.goes.state ∙ (same_mirror_after old.state (driver_entry n index op.Begin reply None).made nothing true tt).mirror)
              ∙ f,
          refl,
          omega (arith, left),
        );
        marking = λ q. ap (λ (x : Reserve). x.marking) begun ∙ sym (due_new order seat seat' old new (driver_entry n index op.Begin reply None) nothing d);
      }

-- the locked seat after a draw and the handing back
pub drew_reserves : (t : Thread) (locked mine mine1 locked2 mine2 : View) (order : OrderId) (seat seat' : Shown) (old new : PeerModel) (e : Entry) (told : Told)
    → PeerKnows locked (seen old) → PeerReserves locked old → Lends t locked mine seat.view mine1
    → Drew peer_rules 1 order seat seat' (seen old) (seen new) e told → Returns t seat'.view mine1 locked2 mine2 → KeepsReserve old new → PeerReserves locked2 new
drew_reserves t locked mine mine1 locked2 mine2 order seat seat' old new e told ks r l d b k =
    reserves_on locked locked2 old new ks (back_on t locked seat'.view mine1 locked2 mine2 (drew_on t locked mine mine1 order seat seat' old new e told l d) b) k r

-- a step of a thread
no_driver : (o : Op) → IsPeerCall C o → ⊥
no_driver op.Begin is = is
no_driver op.Sweep is = is
no_driver (op.Line (act.Slice k)) is = is.0
no_driver (op.Line a) is = is.0
no_driver (op.Make sort n) is = is.0
no_driver (op.Land h x) is = is.0
no_driver (op.Grip x) is = is.0
no_driver (op.Release h) is = is
no_driver o is = is

not_driver : (t : Thread) (o : Op) → IsPeerCall t o → t ≡ C → ⊥
not_driver t o is e = no_driver o (subst (λ (u : Thread). IsPeerCall u o) e is)

pub quiet_thread : (t : Thread) (o : Op) (due : Bool) → (t ≡ C → ⊥) → due_after t o due ≡ due
quiet_thread (M n) o due x = refl
quiet_thread (P n) o due x = refl
quiet_thread C o due x = absurd (x refl)

pub step_reserves : {E : Type 0} (t : Thread) (index : ℕ) (o : Op) (cites : Option ℕ) (order : OrderId) (locked mine mine1 locked2 mine2 : View)
    (seat seat' : Shown) (old new : PeerModel) (result : Result (ℕ × Reply) E) → IsPeerCall t o → PeerKnows locked (seen old) → PeerReserves locked old
    → Lends t locked mine seat.view mine1 → IfOk result (λ x. DrawsEvent order seat seat' (seen old) (seen new) (numbered x.0 (made_by t index o x.1 cites)))
    → OnErr result (StaysSeated seat seat' × (seen new ≡ seen old)) → new.reserve ≡ old.reserve
    → Returns t seat'.view mine1 locked2 mine2 → PeerReserves locked2 new
step_reserves t index o cites order locked mine mine1 locked2 mine2 seat seat' old new (Ok x) is ks r l d e same b =
    let made = numbered x.0 (made_by t index o x.1 cites) in
    drew_reserves t locked mine mine1 locked2 mine2 order seat seat' old new made d.told ks r l d.drew b
    (quiet_kept order seat seat' old new made d.told d.drew same (unmirroring t o (not_driver t o is) d.drew.goes.lawful.0.event) (λ due. quiet_thread t o due (not_driver t o is)))
step_reserves t index o cites order locked mine mine1 locked2 mine2 seat seat' old new (Err x) is ks r l d e same b =
    reserves_on locked locked2 old new ks (back_on t locked seat'.view mine1 locked2 mine2 (seated_on locked seat seat' e.0 (lent_on t locked mine seat.view mine1 l)) b)
    (nothing_kept old new e.1 same) r

-- before the driver's own marking begins there is room for it
pub marking_is_due : (locked mine lent mine1 : View) (side : PeerModel) (index : ℕ) (o : OpenSnap) (count : ℕ) (weakened swept : Bool) (m : Managed)
    → HoldsPass C mine → Owns locked 1 → PeerKnows locked (seen side) → PeerReserves locked side → DriverStands mine index (weakening o count weakened swept) m
    → Lends C locked mine lent mine1 → side.reserve.marking ≡ true
marking_is_due locked mine lent mine1 side index o count weakened swept m pass owns ks r s l =
    let j = lent_joined C locked mine lent mine1 l ks.known s.known in
    let at = driver_joined locked mine lent mine1 l ks.known pass index (weakening o count weakened swept) m s in
    let same : side.entries ≡ entries (line 1 j.joined.known.past) = sym ks.entries ∙ (sym (ap line_entries (l.whole 1 owns)) ∙ line_of_past lent j.joined 1) in
    r.marking ∙ (ap is_marking_due same ∙ due_at_end j.joined.known.past j.joined.known.lawful (subst IsToMark (sym at.come) tt))

-- before the driver weakens the next candidate's handle there is room for it
pub weakening_has_room : (locked mine lent mine1 : View) (side : PeerModel) (index : ℕ) (o : OpenSnap) (count h : ℕ) (weakened swept : Bool) (m : Managed)
    → HoldsPass C mine → Owns locked 1 → PeerKnows locked (seen side) → PeerReserves locked side
    → DriverStands mine index (weakening o count weakened swept) m → IsCandidateHandle m count h → Lends C locked mine lent mine1 → 1 ≤ side.reserve.left
weakening_has_room locked mine lent mine1 side index o count h weakened swept m pass owns ks r s cand l =
    let j = lent_joined C locked mine lent mine1 l ks.known s.known in
    let at = driver_joined locked mine lent mine1 l ks.known pass index (weakening o count weakened swept) m s in
    let past = j.joined.known.past in
    let kept = past_invariant_holds past j.joined.known.lawful in
    let lent_r : PeerReserves lent side = reserves_on locked lent side side ks (lent_on C locked mine lent mine1 l) (nothing_kept side side refl refl) r in
    let room : HasRoomToWeaken (end_of past) side.reserve.left = lent_r.room j.joined (j.peer_first (l.whole 1 owns) ∙ ks.state) in
    let w : IsMirrorOf (end_of past).managed (end_of past).peer o count [] = subst (MirrorFits (end_of past).managed (end_of past).peer) at.come kept.mirror in
    let few = fewer_are_weakened (end_of past) kept o count h weakened swept at.come
    (candidate_handle_on m (end_of past).managed.managed at.dead kept.kept.managed.managed count h cand) w.mirror w.stands in
    let enough = room w.mirror w.stands in
    omega (arith, few, enough)

-- at first nothing is reserved
first_reserves : (v : View) (threads : ℕ) (s : PeerModel) → KnowsNothing v → s ≡ opening_side threads → PeerReserves v s
first_reserves v threads s k e = record {
  none_waits = ap (λ (x : PeerModel). x.reserve.waiting) e;
  room = λ a f m g. absurd (none_some m (sym (ap (λ (r : PeerReplay). r.mirror) (f ∙ ap (λ (x : PeerModel). x.state) e)) ∙ g));
  marking = ap (λ (x : PeerModel). x.reserve.marking) e ∙ sym (ap (λ (x : PeerModel). is_marking_due x.entries) e);
}

-- each side at its opening, with a seat that knows nothing
pub opens_managed : (n : ℕ) (v : View) (s : ManagedModel) → KnowsNothing v → s.threads ≡ n → s.entries ≡ [] → s.state ≡ opening_replay → KnowsManaged n v s
opens_managed n v s k t e o = (record { known = no_view v k; entries = ap line_entries (k 0) ∙ sym e; state = sym o }, t)

pub opens_peers : (n threads : ℕ) (v : View) (s : PeerModel) → KnowsNothing v → threads ≡ n → s ≡ opening_side threads → KnowsPeers n v s
opens_peers n threads v s k t e = (
  record { known = no_view v k; entries = ap line_entries (k 1) ∙ sym (ap (λ (x : PeerModel). x.entries) e); state = sym (ap (λ (x : PeerModel). x.state) e) },
  first_reserves v threads s k e,
  ap (λ (x : PeerModel). x.threads) e
      ∙ t,
)
