-- The counts go on as entries come, and the tests over them are those over the past.
use Rattle.std.proofs.Common.{◌≡◌, inl, inr, ℕ, zero, suc, ◌+◌, ◌-◌, ◌<◌, ◌≤◌, Bool, true, false, List, [], ◌∷◌, ◌++◌, length, replicate, Option, Some, None, refl, sym, ap, ◌∙◌, subst, arith, eq-eqb}
use Rattle.std.proofs.Common.{ne_eqb, if◌then◌else◌}
use Rattle.std.specs.Prelude.{◌↔◌, nat_eq, slice_get, slice_set, slice_index, is_some}
use Rattle.std.proofs.Math.ListN.{length-set}
use Rattle.std.proofs.lemmas.Bool.{cases_eq}
use Rattle.std.proofs.lemmas.List.{get_or-replicate, get_or-set_same, get_or-set_other}
use Rattle.joint_machine.specs.declared.names.Cycle.{Cycle}
use Rattle.joint_machine.specs.declared.names.Thread.{Thread}
use Rattle.joint_machine.specs.declared.names.Thread.TheVariants.{M, P, C}
use Rattle.joint_machine.specs.declared.lines.Act.TheVariants as act
use Rattle.joint_machine.specs.declared.events.Op.{Op}
use Rattle.joint_machine.specs.declared.events.Op.TheVariants as op
use Rattle.joint_machine.specs.declared.events.Reply.{Reply}
use Rattle.joint_machine.specs.declared.events.Reply.TheVariants as says
use Rattle.joint_machine.specs.Control.{caller_place}
use Rattle.joint_machine.specs.Lines.{IsEvent, IsThread, is_read}
use Rattle.joint_machine.specs.Linked.{Linkage}
use Rattle.joint_machine.specs.Managed.{OpenCycle}
use Rattle.joint_machine.specs.PeerReplay.{is_thread}
use Rattle.joint_machine.specs.Readers.{is_managed_entry}
use Rattle.joint_machine.specs.Told.{Noted}
use Rattle.joint_machine.proofs.Deciding.{true-false}
use Rattle.joint_machine.proofs.HeapLemmas.{thread_itself, same_thread}
use Rattle.joint_machine.proofs.Joining.{slice_get-set_same, slice_get-set_other}
use Rattle.known_laws.proofs.Lists.{event-thread}
use Rattle.check_laws.specs.Behind.{state_of}
use Rattle.check_laws.specs.Counts.{ends_cycle, sets_cell, Setting, ended, setting, AtMost, IsUnknown}
use Rattle.check_laws.specs.Known.{one, managed_count, seen}
use Rattle.check_laws.specs.Reads.{ComesBehind, AllComeBehind}
use Rattle.check_laws.proofs.Counting.{IsSnap, cycles-on, unended, end-open, open-counted, reads_counted}
use Rattle.check_laws.proofs.Keeping.{AllStand, Ends, kept, opens-on, end-is}
use Rattle.check_laws.proofs.Knowing.{split}
use Rattle.check_laws.proofs.Tested.{stand_behind}
use Rattle.reader_counts.specs.declared.counts.CellSet.{CellSet}
use Rattle.reader_counts.specs.Counts.{Counts, AtMostSeen, IsUnknownBy, EndsWithin, end_in, set_in, seen_by, more_managed, cells_after, ended_after, opening_counts}
use Rattle.reader_counts.specs.Told.{kept_setting, AreCountsOf, ReadsAreTold, GoOn, CountsGoOn}

-- the tests
open-so : (o : Option OpenCycle) → (is_some o ≡ false) ↔ (o ≡ None)
open-so None = (λ z. refl, λ z. refl)
open-so (Some c) = (λ z. absurd (cc), λ z. absurd (cc))

most-so : (past : List Noted) (c : Counts) (t : Thread) → seen_by c t ≡ seen past t → (a b : Option ℕ) → a ≡ b → AtMostSeen c t a ↔ AtMost (seen past t) b
most-so past c t e a None q = (λ z. tt, λ z. subst (AtMostSeen c t) (sym q) tt)
most-so past c t e a (Some n) q = (λ z. subst (λ x. x ≤ n) e (subst (AtMostSeen c t) q z), λ z. subst (AtMostSeen c t) (sym q) (subst (λ x. x ≤ n) (sym e) z))

unknown-so : (past : List Noted) (c : Counts) (t : Thread) → seen_by c t ≡ seen past t
    → (a : Option CellSet) (b : Option Setting) → a ≡ kept_setting b → IsUnknownBy c t a ↔ IsUnknown t (seen past t) b
unknown-so past c t e a None q = (λ z. tt, λ z. subst (IsUnknownBy c t) (sym q) tt)
unknown-so past c t e a (Some w) q = (
  λ z. let y = subst (IsUnknownBy c t) q z in (y.0, subst (λ x. x ≤ w.count) e y.1),
  λ z. subst (IsUnknownBy c t) (sym q) (z.0, subst (λ x. x ≤ w.count) (sym e) z.1),
)

pub told_by_counts : ReadsAreTold
told_by_counts past c w b p k t n th =
    let r = reads_counted past w b p t n in
    let s = k.seen t th in
    let o = open-so (state_of past).managed.managed.cycle in
    record {
      pending = (
        λ z. r.pending.0 (elim z [ inl q ↦ inl (o.0 q.0, q.1) | inr q ↦ inr (q.0, q.1, (most-so past c t s (end_in c n) (ended past n) (k.ends n q.0 q.1)).0 q.2) ]),
        λ z. elim (r.pending.1 z) [ inl q ↦ inl (o.1 q.0, q.1) | inr q ↦ inr (q.0, q.1, (most-so past c t s (end_in c n) (ended past n) (k.ends n q.0 q.1)).1 q.2) ],
      );
      unknown = λ l. unknown-so past c t s (set_in c n) (setting past n) (k.cells n l);
    }

-- a caller has one place
place-one : (a b : Thread) → IsThread a → IsThread b → caller_place a ≡ caller_place b → a ≡ b
place-one (M n) (M m) x y e = ap M e
place-one (M n) (P m) x y e = absurd (omega (arith, x, y, e))
place-one (M n) C x y e = absurd (omega (arith, x, e))
place-one (P n) (M m) x y e = absurd (omega (arith, x, y, e))
place-one (P n) (P m) x y e = ap P (let f : n ≡ m = omega (arith, e) in f)
place-one (P n) C x y e = absurd (omega (arith, e))
place-one C (M m) x y e = absurd (omega (arith, y, e))
place-one C (P m) x y e = absurd (omega (arith, e))
place-one C C x y e = refl

place-low : (a : Thread) → IsThread a → caller_place a < 17
place-low (M n) x = omega (arith, x)
place-low (P n) x = omega (arith, x)
place-low C x = omega arith

-- how many a caller has seen
seen-go : (seen_list : List ℕ) (past : List Noted) (n : Noted) (m : ℕ) → length seen_list ≡ 17 → IsThread n.entry.made.caller
    → m ≡ managed_count (n ∷ past) → (t : Thread) → IsThread t → slice_index seen_list (caller_place t) ≡ seen past t
    → slice_index (slice_set seen_list (caller_place n.entry.made.caller) m) (caller_place t) ≡ seen (n ∷ past) t
seen-go seen_list past n m long th e t tt' old = by (is_thread n.entry.made.caller t) refl
  where
    by : (b : Bool) → is_thread n.entry.made.caller t ≡ b → slice_index (slice_set seen_list (caller_place n.entry.made.caller) m)
        (caller_place t) ≡ (if b then managed_count (n ∷ past) else seen past t)
    by true q =
        let same = same_thread n.entry.made.caller t q in
        let low = place-low n.entry.made.caller th in
        subst (λ z. slice_index (slice_set seen_list (caller_place n.entry.made.caller) m) (caller_place z) ≡ managed_count (n ∷ past)) same
        (get_or-set_same seen_list (caller_place n.entry.made.caller) m 0 (omega (arith, low, long)) ∙ e)
    by false q = get_or-set_other seen_list (caller_place n.entry.made.caller) (caller_place t) m 0 (λ f. apart (place-one t n.entry.made.caller tt' th f)) ∙ old
      where
        apart : t ≡ n.entry.made.caller → ⊥
        apart f = true-false (is_thread n.entry.made.caller t) (subst (λ z. is_thread n.entry.made.caller z ≡ true) (sym f) (thread_itself n.entry.made.caller)) q

-- the cells
abbrev cell_in : List (Option CellSet) → ℕ → Option CellSet
cell_in cells k = elim (slice_get cells k) [ None ↦ None | Some o ↦ o ]

cells-go : (cells : List (Option CellSet)) (t : Thread) (m : ℕ) (o : Op) (r : Reply) (k : ℕ) (w : Option Setting) → length cells ≡ 64 → k < 64 → cell_in cells k ≡ kept_setting w
    → cell_in (cells_after cells m t o r) k ≡ kept_setting (if sets_cell o r k then Some record { caller = t; count = m } else w)
cells-go cells t m (op.Line (act.Weak c v)) says.Ok k w long low e = elim (cases_eq c.0 k) [
  | inl same ↦ (
      let there : slice_get (slice_set cells c.0 (Some record { by = t; count = m })) k ≡ Some (Some record { by = t; count = m }) =
      subst (λ z. slice_get (slice_set cells c.0 (Some record { by = t; count = m })) z ≡ Some (Some record { by = t; count = m })) same
      (slice_get-set_same cells c.0 (Some record { by = t; count = m }) (omega (arith, low, long, same))) in
      ap (λ (o : Option (Option CellSet)). elim o [ None ↦ None | Some x ↦ x ]) there ∙ ap (λ b. kept_setting (if b then Some record { caller = t; count = m } else w)) (sym (eq-eqb c.0 k same)))
  | inr other ↦ (
      ap (λ (o : Option (Option CellSet)). elim o [ None ↦ None | Some x ↦ x ]) (slice_get-set_other cells c.0 k (Some record { by = t; count = m }) (λ f. other (sym f)))
      ∙ (e ∙ ap (λ b. kept_setting (if b then Some record { caller = t; count = m } else w)) (sym (ne_eqb c.0 k other))))
]
cells-go cells t m (op.Line (act.Weak c v)) r k w long low e = e
cells-go cells t m o r k w long low e = e

cells-many : (cells : List (Option CellSet)) (t : Thread) (m : ℕ) (o : Op) (r : Reply) → length (cells_after cells m t o r) ≡ length cells
cells-many cells t m (op.Line (act.Weak c v)) says.Ok = length-set cells c.0 (Some record { by = t; count = m })
cells-many cells t m (op.Line (act.Weak c v)) r = refl
cells-many cells t m o r = refl

-- the ends
abbrev place_in : List (Option ℕ) → ℕ → Option ℕ
place_in ends k = elim (slice_get ends (k - 1)) [ None ↦ None | Some o ↦ o ]

set-end : (ends : List (Option ℕ)) (j k m : ℕ) (w : Option ℕ) → 1 ≤ j → j ≤ length ends → 1 ≤ k
    → place_in ends k ≡ w → place_in (slice_set ends (j - 1) (Some m)) k ≡ (if nat_eq j k then Some m else w)
set-end ends j k m w low high lowk e = elim (cases_eq j k) [
  | inl same ↦ (
      let there : slice_get (slice_set ends (j - 1) (Some m)) (k - 1) ≡ Some (Some m) =
      subst (λ z. slice_get (slice_set ends (j - 1) (Some m)) (z - 1) ≡ Some (Some m)) same (slice_get-set_same ends (j - 1) (Some m) (omega (arith, low, high))) in
      ap (λ (o : Option (Option ℕ)). elim o [ None ↦ None | Some x ↦ x ]) there ∙ ap (λ b. if b then Some m else w) (sym (eq-eqb j k same)))
  | inr other ↦ (
      ap (λ (o : Option (Option ℕ)). elim o [ None ↦ None | Some x ↦ x ]) (slice_get-set_other ends (j - 1) (k - 1) (Some m) (λ f. other (let g : j ≡ k = omega (arith, f, low, lowk) in g)))
      ∙ (e ∙ ap (λ b. if b then Some m else w) (sym (ne_eqb j k other))))
]

push-end : (ends : List (Option ℕ)) (k : ℕ) (w : Option ℕ) → 1 ≤ k → k ≤ length ends → place_in ends k ≡ w → place_in (ends ++ None ∷ []) k ≡ w
push-end ends k w low high e = ap (λ (o : Option (Option ℕ)). elim o [ None ↦ None | Some x ↦ x ]) (push-old ends (k - 1) (omega (arith, low, high))) ∙ e
  where
    push-old : (xs : List (Option ℕ)) (i : ℕ) → i < length xs → slice_get (xs ++ None ∷ []) i ≡ slice_get xs i
    push-old [] i l = absurd (omega (arith, l))
    push-old (x ∷ xs) zero l = refl
    push-old (x ∷ xs) (suc i) l = push-old xs i (omega (arith, l))

pushed : (ends : List (Option ℕ)) → length (ends ++ None ∷ []) ≡ length ends + 1
pushed [] = refl
pushed (x ∷ ends) = (let r = pushed ends in omega (arith, r))

last-end : (ends : List (Option ℕ)) (k : ℕ) → k ≡ length ends + 1 → place_in (ends ++ None ∷ []) k ≡ None
last-end ends k e = ap (λ (o : Option (Option ℕ)). elim o [ None ↦ None | Some x ↦ x ]) (push-last ends (k - 1) (omega (arith, e)))
  where
    push-last : (xs : List (Option ℕ)) (i : ℕ) → i ≡ length xs → slice_get (xs ++ None ∷ []) i ≡ Some None
    push-last [] zero e = refl
    push-last [] (suc i) e = absurd (omega (arith, e))
    push-last (x ∷ xs) zero e = absurd (omega (arith, e))
    push-last (x ∷ xs) (suc i) e = push-last xs i (omega (arith, e))

event-of : (s : Linkage) (n : Noted) → ComesBehind (is_read n.entry.made.op) s n → IsEvent n.entry.made.caller n.entry.made.op
event-of s n w = by (is_read n.entry.made.op) w
  where
    by : (b : Bool) → ComesBehind b s n → IsEvent n.entry.made.caller n.entry.made.op
    by true w = w.event
    by false w = w.event

module _ (n : Noted) (past : List Noted) (c : Counts) (w : AllComeBehind (n ∷ past)) (r : AllStand (n ∷ past)) (k : AreCountsOf past c) where
  abbrev o : Op
  o = n.entry.made.op

  abbrev m : ℕ
  m = more_managed c n.entry.made.caller n.entry.made.op

  abbrev cycles : ℕ
  cycles = (state_of past).managed.managed.cycles

  abbrev after : ℕ
  after = (state_of (n ∷ past)).managed.managed.cycles

  more : m ≡ managed_count (n ∷ past)
  more = by (is_managed_entry n)
    where
      by : (b : Bool) → (if b then c.managed + 1 else c.managed) ≡ managed_count past + one b
      by true = ap (λ z. z + 1) k.managed
      by false = (let e = k.managed in omega (arith, e))

  -- by the event
  record ByEvent (q : Op) : Type 0 where
    within : EndsWithin c q
    many : length (ended_after c.ended m q) ≡ after
    ends : (i : ℕ) → 1 ≤ i → i ≤ after → place_in (ended_after c.ended m q) i ≡ (if ends_cycle q i then Some m else ended past i)

  same-cycles : (q : Op) → o ≡ q → (IsSnap q → ⊥) → after ≡ cycles
  same-cycles q e no_snap = cycles-on (state_of past) n w.0 (kept past w.1 r.1) (λ z. no_snap (subst IsSnap e z))

  ended-by : (j : Cycle) (q : Op) → o ≡ q → (IsSnap q → ⊥) → (1 ≤ j.0) × (j.0 ≡ cycles) → (ended_after c.ended m q ≡ slice_set c.ended (j.0 - 1) (Some m)) → ((i : ℕ) → ends_cycle q i ≡ nat_eq j.0 i)
      → (length (ended_after c.ended m q) ≡ after) × ((i : ℕ) → 1 ≤ i → i ≤ after → place_in (ended_after c.ended m q) i ≡ (if ends_cycle q i then Some m else ended past i))
  ended-by j q e no_snap open_now is test =
      let same = same-cycles q e no_snap in
      let long = k.cycles in (
        ap length is ∙ (length-set c.ended (j.0 - 1) (Some m) ∙ (long ∙ sym same)),
        λ i low high. ap (λ z. place_in z i) is ∙ (set-end c.ended j.0 i m (ended past i) open_now.0 (let b = open_now.1 in omega (arith, b, long)) low (k.ends i low (omega (arith, high, same)))
            ∙ ap (λ b. if b then Some m else ended past i) (sym (test i))),
      )

  last-cycle : (j : ℕ) → Ends o j → (1 ≤ j) × (j ≡ cycles)
  last-cycle j e =
      let c = end-open (state_of past) n j w.0 e in
      let is = end-is (state_of past) n j w.0 (kept past w.1 r.1) e in
      let low = open-counted past w.1 r.1 c.0 c.1 in
      (omega (arith, low, is), is)

  by-event : (q : Op) → o ≡ q → ByEvent q
  by-event (op.Snap j) e =
      let opens = opens-on (state_of past) n j.0 w.0 e in
      let next = opens.next in
      let is = opens.after in
      let long = k.cycles in
      record {
        within = tt;
        many = (let a = pushed c.ended in omega (arith, a, long, next, is));
        ends = λ i low high. elim (split cycles i) [
          | inl more ↦ last-end c.ended i (omega (arith, more, high, next, is, long)) ∙ sym (unended past w.1 r.1 i more)
          | inr less ↦ push-end c.ended i (ended past i) low (omega (arith, less, long)) (k.ends i low less)
        ];
      }
  by-event (op.Resolve j) e =
      let l = last-cycle j.0 (inl e) in
      let b = ended-by j (op.Resolve j) e (λ z. z) l refl (λ i. refl) in
      let is = l.1 in
      let long = k.cycles in
      record { within = (l.0, omega (arith, is, long)); many = b.0; ends = b.1 }
  by-event (op.Abandon j) e =
      let l = last-cycle j.0 (inr e) in
      let b = ended-by j (op.Abandon j) e (λ z. z) l refl (λ i. refl) in
      let is = l.1 in
      let long = k.cycles in
      record { within = (l.0, omega (arith, is, long)); many = b.0; ends = b.1 }
  by-event q e = record {
    within = tt;
    many = k.cycles ∙ sym (same-cycles q e (λ z. z));
    ends = λ i low high. k.ends i low (let s = same-cycles q e (λ z. z) in omega (arith, high, s));
  }

  go-on : GoOn n past c
  go-on =
      let e = by-event o refl in
      let event = event-of (state_of past) n w.0 in
      let th = event-thread n.entry.made.caller n.entry.made.op event in
      record {
        ends = e.within;
        counts = record {
          managed = more;
          callers = length-set c.seen (caller_place n.entry.made.caller) m ∙ k.callers;
          seen = λ t th'. seen-go c.seen past n m k.callers th more t th' (k.seen t th');
          many = cells-many c.cells n.entry.made.caller m o n.entry.made.reply ∙ k.many;
          cells = λ i low. cells-go c.cells n.entry.made.caller m o n.entry.made.reply i (setting past i) k.many low (k.cells i low)
              ∙ ap (λ z. kept_setting (if sets_cell o n.entry.made.reply i then Some record { caller = n.entry.made.caller; count = z } else setting past i)) more;
          cycles = e.many;
          ends = λ i low high. e.ends i low high ∙ ap (λ z. if ends_cycle o i then Some z else ended past i) more;
        };
      }

opening-seen : (t : Thread) → IsThread t → seen_by opening_counts t ≡ seen [] t
opening-seen t th = by (caller_place t) (place-low t th)
  where
    by : (i : ℕ) → i < 17 → slice_index (replicate 17 0) i ≡ 0
    by i l = get_or-replicate 17 i 0 0 l

opening-cells : (k : ℕ) → k < 64 → set_in opening_counts k ≡ kept_setting (setting [] k)
opening-cells k l = none-at 64 k
  where
    none-at : (n k : ℕ) → cell_in (replicate n None) k ≡ None
    none-at zero k = refl
    none-at (suc n) zero = refl
    none-at (suc n) (suc k) = none-at n k

pub counts_on : CountsGoOn
counts_on = record {
  first = record {
    managed = refl;
    callers = refl;
    seen = opening-seen;
    many = refl;
    cells = opening-cells;
    cycles = refl;
    ends = λ k low high. absurd (omega (arith, low, high));
  };
  next = λ n past c w b k. go-on n past c w (stand_behind (n ∷ past) b) k;
}
