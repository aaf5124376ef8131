-- The two lines of a managed thread with calls of their own: `weak` sets a cell, whose target is kept, and `take`
-- empties the thread's pin. Each may be made behind the past, and is right exactly where it answers the same.
use Rattle.std.proofs.Common.{◌≡◌, ℕ, ◌<◌, Bool, true, List, ◌∷◌, length, get_or, map, Option, Some, None, refl, sym, ap, ◌∙◌, subst, arith}
use Rattle.std.specs.Prelude.{◌↔◌, slice_get, slice_set}
use Rattle.std.specs.Option.{option_map}
use Rattle.std.proofs.Math.ListN.{length-set}
use Rattle.std.proofs.lemmas.List.{map-set}
use Rattle.std.proofs.lemmas.Option.{slice_get-get_or, slice_get-map}
use Rattle.joint_machine.specs.declared.names.Cell.{Cell}
use Rattle.joint_machine.specs.declared.names.MNum.{MNum}
use Rattle.joint_machine.specs.declared.names.Thread.{Thread}
use Rattle.joint_machine.specs.declared.names.Thread.TheVariants.{M, P, C}
use Rattle.joint_machine.specs.declared.names.Var.{Var}
use Rattle.joint_machine.specs.declared.lines.Act.{Act}
use Rattle.joint_machine.specs.declared.lines.Act.TheVariants as act
use Rattle.joint_machine.specs.declared.events.Made.{Made}
use Rattle.joint_machine.specs.declared.events.Op.TheVariants as op
use Rattle.joint_machine.specs.declared.events.Reply.{Reply}
use Rattle.joint_machine.specs.declared.events.Reply.TheVariants as says
use Rattle.joint_machine.specs.Heaps.{Answered, answer, place, slot}
use Rattle.joint_machine.specs.Histories.{Finished, managed_numbers, peer_numbers}
use Rattle.joint_machine.specs.Lines.{IsDriverAct, IsEvent, IsPeerAct}
use Rattle.joint_machine.specs.Linked.{Linkage}
use Rattle.joint_machine.specs.Managed.{Managed, cell_set, pin_taken, weakened_to}
use Rattle.joint_machine.specs.ManagedReplay.{ManagedReplay}
use Rattle.joint_machine.specs.Run.{thread_number}
use Rattle.joint_machine.specs.Sides.{AddsLawful, cell_target, managed_rules, object_or_none, step_made}
use Rattle.joint_machine.specs.Told.{Noted, kept_pins, nothing}
use Rattle.joint_machine.specs.PinsTold.{no_pins}
use Rattle.joint_machine.proofs.Deciding.{none_some}
use Rattle.joint_laws.specs.Spans.{TellsNamed}
use Rattle.joint_laws.proofs.KeptPins.{take_by}
use Rattle.joint_laws.proofs.ManagedMoves.{managed_line-goes_on}
use Rattle.joint_laws.proofs.PlainReplies.{IsPlain}
use Rattle.joint_laws.proofs.SpansTold.{IsPlainEntry, plain-entry}
use Rattle.known_laws.specs.Known.{PinsStand}
use Rattle.check_laws.specs.Behind.{state_of}
use Rattle.check_laws.specs.Order.{CitesBy, CitesSo, IsTurn}
use Rattle.managed_heap.specs.Pinned.{pin_given}
use Rattle.managed_heap.specs.Rows.{number_or_none}
use Rattle.managed_heap.specs.Sides.{ManagedModel, as_side}
use Rattle.managed_heap.specs.Steps.{take_op, weak_op}
use Rattle.managed_heap.proofs.GivenPins.{pin-slot}
use Rattle.run_check.specs.declared.draws.Recorder.{Recorder}
use Rattle.run_check.specs.declared.readers.Readers.{Readers}
use Rattle.run_check.specs.declared.replays.Replay.{Replay}
use Rattle.run_check.specs.Cells.{targets_after}
use Rattle.run_check.specs.Follows.{StoresFollow}
use Rattle.run_check.specs.Judging.{MayReply, next_noted}
use Rattle.run_check.proofs.Drawing.{counted, drawing}
use Rattle.run_check.proofs.Longer.{managed-next}
use Rattle.run_check.proofs.OneReply.{HasMade, Judges}
use Rattle.run_check.proofs.OwnEntries.{IsMadeIn, pins-stay, plain-made, take-made}
use Rattle.run_check.proofs.PastFacts.{replay_kept}
use Rattle.run_check.proofs.Pins.{emptied, pin_stands, shown-set, shown-slot, stand_bare}
use Rattle.run_check.proofs.StaysMade.{stays_made}
use Rattle.run_check.proofs.Stepping.{plainly_named}
use Rattle.run_check.proofs.Untouched.{take-leaves}

-- the caller is a managed thread, and nothing is cited
pub record IsThreadLine (m : Made) (a : Act) : Type 0 where
  pub thread : ℕ
  pub same : m ≡ step_made (M thread) m.index (op.Line a) m.reply None

pub thread_line : (s : Linkage) (m : Made) (a : Act) → m.op ≡ op.Line a → (IsPeerAct a → ⊥) → (IsDriverAct a → ⊥) → IsTurn s m → CitesSo s m → IsThreadLine m a
thread_line s m a e peers driver turn c = by m.caller refl
  where
    event : (t : Thread) → m.caller ≡ t → IsEvent t (op.Line a)
    event t q = subst (λ z. IsEvent z (op.Line a)) q (subst (IsEvent m.caller) e turn.event)

    by : (t : Thread) → m.caller ≡ t → IsThreadLine m a
    by (M i) q =
        let x : m.cites ≡ None = subst (λ z. CitesBy s z (op.Line a) m.cites) q (subst (λ o. CitesBy s m.caller o m.cites) e c) in
        record { thread = i; same = λ j. record { caller = q j; index = m.index; op = e j; reply = m.reply; cites = x j } }
    by (P i) q = absurd (peers (event (P i) q).0.1)
    by C q = absurd (driver (event C q).0)

-- an answer without a span is right exactly where it is the same
plain_judges : (h : Finished) (past : List Noted) (m : Made) (old new : Replay) (r : Reply) (b : Bool) → IsPlainEntry r nothing
    → HasMade past m r nothing old new → (b ≡ true → r ≡ m.reply) → (r ≡ m.reply → b ≡ true) → Judges h past m old new b
plain_judges h past m old new r b plain made right back = record {
  reply = r;
  told = nothing;
  made = made;
  if_true = λ e. record {
    reply = right e;
    names = record {
      freed = subst (λ z. TellsNamed (managed_numbers h.freed_managed) (peer_numbers h.freed_peers) z nothing)
          (right e) (plainly_named (managed_numbers h.freed_managed) (peer_numbers h.freed_peers) r nothing plain);
      taken = λ span q. absurd (subst IsPlain (right e ∙ q) plain.plain);
    };
  };
  if_same = λ q. back q.reply;
}

-- the cell's word is 0 exactly where it has no target
slot_of : (ts : List (Option MNum)) (k : ℕ) (o : Option MNum) → slice_get ts k ≡ Some o → slot (map number_or_none ts) k ≡ number_or_none o
slot_of ts k o e = ap (λ (z : Option (Option ℕ)). elim z [ None ↦ None | Some x ↦ x ]) (slice_get-map number_or_none ts k ∙ ap (option_map number_or_none) e)

unset_back : (ts : List (Option MNum)) (k : ℕ) (o : Option MNum) → slice_get ts k ≡ Some o → slot (map number_or_none ts) k ≡ None → slice_get ts k ≡ Some None
unset_back ts k None e q = e
unset_back ts k (Some m) e q = absurd (none_some m.0 (sym q ∙ slot_of ts k (Some m) e))

word_is : (ts : List (Option MNum)) (cells : List (Option ℕ)) (k word : ℕ) → map number_or_none ts ≡ cells
    → k < length ts → (word ≡ 0) ↔ (slice_get ts k ≡ Some None) → (word ≡ 0) ↔ (slot cells k ≡ None)
word_is ts cells k word e l w = subst (λ z. (word ≡ 0) ↔ (slot z k ≡ None)) e (
  λ zero. slot_of ts k None (w.0 zero),
  λ unset. w.1 (unset_back ts k (get_or ts k None) (slice_get-get_or ts k None l) unset),
)

-- the targets that are kept after a `weak` are the cells after it
abbrev weak_two : Managed → ℕ → Option ℕ → Option ℕ → Answered Managed
weak_two s k None set = answer says.Empty s
weak_two s k (Some x) set = cell_set s k x set

abbrev aimed : Reply → Option ℕ → Option MNum
aimed says.Ok o = object_or_none o
aimed _ o = None

aimed_is : (s : ManagedReplay) (t : Thread) (k : Cell) (v : Var) (r : Reply) → cell_target s t (weak_op k v) r ≡ aimed r (slot s.managed.heap.vars (place (thread_number t) v.0))
aimed_is s t k v says.Ok = refl
aimed_is s t k v _ = refl

kept_cells : (s : Managed) (k : ℕ) (ts : List (Option MNum)) → map number_or_none ts ≡ s.cells → (o set : Option ℕ)
    → map number_or_none (targets_after ts k (weak_two s k o set).reply (aimed (weak_two s k o set).reply o)) ≡ (weak_two s k o set).state.cells
kept_cells s k ts e None set = e
kept_cells s k ts e (Some x) None = map-set number_or_none ts k (Some record { 0 = x }) ∙ ap (λ z. slice_set z k (Some x)) e
kept_cells s k ts e (Some x) (Some y) = e

kept_many : (ts : List (Option MNum)) (k : ℕ) (r : Reply) (o : Option MNum) → length (targets_after ts k r o) ≡ length ts
kept_many ts k says.Ok (Some m) = length-set ts k (Some m)
kept_many ts k says.Ok None = refl
kept_many ts k _ o = refl

weak_is : (s : Managed) (k v : ℕ) → weakened_to s k v ≡ weak_two s k (slot s.heap.vars v) (slot s.cells k)
weak_is s k v = by (slot s.heap.vars v)
  where
    by : (o : Option ℕ) → (elim o as (λ z. Answered Managed) [ None ↦ answer says.Empty s | Some x ↦ cell_set s k x (slot s.cells k) ]) ≡ weak_two s k o (slot s.cells k)
    by None = refl
    by (Some x) = refl

weak_cells : (s : Managed) (k v : ℕ) (ts : List (Option MNum)) (r : Reply) → map number_or_none ts ≡ s.cells → r ≡ (weakened_to s k v).reply
    → map number_or_none (targets_after ts k r (aimed r (slot s.heap.vars v))) ≡ (weakened_to s k v).state.cells
weak_cells s k v ts r e q =
    let two = weak_two s k (slot s.heap.vars v) (slot s.cells k) in
    subst (λ z. map number_or_none (targets_after ts k z (aimed z (slot s.heap.vars v))) ≡ (weakened_to s k v).state.cells) (sym (q ∙ ap (λ (a : Answered Managed). a.reply) (weak_is s k v)))
    (kept_cells s k ts e (slot s.heap.vars v) (slot s.cells k) ∙ sym (ap (λ (a : Answered Managed). a.state.cells) (weak_is s k v)))

-- `weak`
abbrev pub weakly : ℕ → ℕ → Cell → Var → Reply → Made
weakly i index k v reply = step_made (M i) index (weak_op k v) reply None

module _ (h : Finished) (past : List Noted) (old : Replay) (i index : ℕ) (k : Cell) (v : Var) (reply : Reply) (may : MayReply h past old (weakly i index k v reply)) where
  abbrev s : Linkage
  s = state_of past

  module _ (draw : Recorder) (managed : ManagedModel) (r : Reply) (adds : AddsLawful managed_rules drawing old.draw draw (as_side old.managed) (as_side managed) (weakly i index k v r) nothing) where
    abbrev made : Made
    made = weakly i index k v r

    lawful : IsMadeIn s.managed made nothing managed.state
    lawful = plain-made s.managed made nothing refl old.managed.state managed.state may.sides.managed.state adds.goes

    abbrev kept : Readers
    kept = record old.readers { targets = targets_after old.readers.targets k.0 r draw.target }

    target : draw.target ≡ aimed r (slot s.managed.managed.heap.vars (place i v.0))
    target = adds.draws.adds.drawn.1 ∙ (aimed_is old.managed.state (M i) k v r ∙ ap (λ (z : ManagedReplay). aimed r (slot z.managed.heap.vars (place i v.0))) may.sides.managed.state)

    cells : map number_or_none kept.targets ≡ (weakened_to s.managed.managed k.0 (place i v.0)).state.cells
    cells = ap (λ z. map number_or_none (targets_after old.readers.targets k.0 r z)) target
        ∙ weak_cells s.managed.managed k.0 (place i v.0) old.readers.targets r may.sides.stores.cells lawful.lawful.replies

    stores : StoresFollow (next_noted past made nothing ∷ past) kept
    stores = record {
      nine = may.sides.stores.nine;
      pins = may.sides.stores.pins ∙ sym (ap (λ (z : ManagedReplay). z.managed.pins) (managed-next past made nothing refl refl) ∙ pins-stay s.managed made nothing refl refl);
      many = kept_many old.readers.targets k.0 r draw.target ∙ may.sides.stores.many;
      cells = cells ∙ sym (ap (λ (z : ManagedReplay). z.managed.cells) (managed-next past made nothing refl refl));
    }

    pub weak_judges : (b : Bool) → (b ≡ true → r ≡ reply) → (r ≡ reply → b ≡ true) → Judges h past (weakly i index k v reply) old (record old { managed = managed; draw = draw; readers = kept }) b
    weak_judges b right back = plain_judges h past (weakly i index k v reply) old (record old { managed = managed; draw = draw; readers = kept }) r b
        (plain-entry s index r None (M i) (weak_op k v) nothing (λ z. z) lawful.lawful)
        (stays_made h past (weakly i index k v reply) old may refl refl r draw managed kept nothing adds.threads adds.draws.below
        (counted past old.draw draw (as_side old.managed) (as_side managed) made nothing may.sides.drawn adds) lawful
        (managed_line-goes_on s.managed.managed i (act.Weak k v) (replay_kept h past may.next.so_far.order).managed.places (replay_kept h past may.next.so_far.order).managed.cells) refl tt stores
        (record { turns = refl; counts = refl; owed = refl }))
        right back

-- `take`
abbrev pub takingly : ℕ → ℕ → Var → Reply → Made
takingly i index v reply = step_made (M i) index (take_op v) reply None

taken_pins : (s : Managed) (t v : ℕ) → (pin_taken s t v).state.pins ≡ slice_set s.pins t None
taken_pins s t v = by (slot s.pins t) refl
  where
    by : (o : Option ℕ) → slot s.pins t ≡ o → (take_by s t v o).state.pins ≡ slice_set s.pins t None
    by None e = sym (emptied s.pins t e)
    by (Some x) e = refl

module _ (h : Finished) (past : List Noted) (old : Replay) (i index : ℕ) (v : Var) (reply : Reply)
    (may : MayReply h past old (takingly i index v reply)) (pin : Option MNum) (has : slice_get old.readers.pins i ≡ Some pin) where
  abbrev take_s : Linkage
  take_s = state_of past

  own : slot take_s.managed.managed.pins i ≡ number_or_none pin
  own = subst (λ z. slot z i ≡ number_or_none pin) may.sides.stores.pins (shown-slot old.readers.pins i pin may.next.turn.event.0.0.0 has)

  pub take_stands : PinsStand old.managed.state.managed (pin_given i pin)
  take_stands = subst (λ (z : ManagedReplay). PinsStand z.managed (pin_given i pin)) (sym may.sides.managed.state)
      (stand_bare take_s.managed.managed (pin_given i pin) no_pins (pin_stands take_s.managed.managed (replay_kept h past may.next.so_far.order).managed i pin own))

  module _ (draw : Recorder) (managed : ManagedModel) (r : Reply)
      (adds : AddsLawful managed_rules drawing old.draw draw (as_side old.managed) (as_side managed) (takingly i index v r) (kept_pins (pin_given i pin) nothing)) where
    abbrev take_made : Made
    take_made = takingly i index v r

    take_lawful : IsMadeIn take_s.managed take_made nothing managed.state
    take_lawful = take-made take_s.managed (M i) index v r (pin_given i pin) old.managed.state managed.state may.sides.managed.state
        (pin-slot i pin (let l = may.next.turn.event.0.0.1 in omega (arith, l)) ∙ sym own) adds.goes

    abbrev take_kept : Readers
    take_kept = record old.readers { pins = slice_set old.readers.pins i None }

    take_stores : StoresFollow (next_noted past take_made nothing ∷ past) take_kept
    take_stores = record {
      nine = length-set old.readers.pins i None ∙ may.sides.stores.nine;
      pins = shown-set old.readers.pins i None may.next.turn.event.0.0.0 ∙ (ap (λ z. slice_set z i None) may.sides.stores.pins
          ∙ sym (ap (λ (z : ManagedReplay). z.managed.pins) (managed-next past take_made nothing refl refl) ∙ taken_pins take_s.managed.managed i (place i v.0)));
      many = may.sides.stores.many;
      cells = may.sides.stores.cells ∙ sym (ap (λ (z : ManagedReplay). z.managed.cells) (managed-next past take_made nothing refl refl) ∙ (take-leaves take_s.managed.managed i (place i v.0)).cells);
    }

    pub take_judges : (b : Bool) → (b ≡ true → r ≡ reply) → (r ≡ reply → b ≡ true) → Judges h past (takingly i index v reply) old (record old { managed = managed; draw = draw; readers = take_kept }) b
    take_judges b right back = plain_judges h past (takingly i index v reply) old (record old { managed = managed; draw = draw; readers = take_kept }) r b
        (plain-entry take_s index r None (M i) (take_op v) nothing (λ z. z) take_lawful.lawful)
        (stays_made h past (takingly i index v reply) old may refl refl r draw managed take_kept nothing adds.threads adds.draws.below
        (counted past old.draw draw (as_side old.managed) (as_side managed) take_made (kept_pins (pin_given i pin) nothing) may.sides.drawn adds) take_lawful
        (managed_line-goes_on take_s.managed.managed i (act.Take v) (replay_kept h past may.next.so_far.order).managed.places (replay_kept h past may.next.so_far.order).managed.cells)
        refl tt take_stores (record { turns = refl; counts = refl; owed = refl }))
        right back
