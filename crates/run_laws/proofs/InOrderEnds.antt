-- At the end of a run line after line every entry of the history is one of a caller's own, and so one of those that
-- were made; and both the history and what was made rise. So they are one list, and what was made holds the script.
use Rattle.std.proofs.Common.{◌≡◌, inr, ⊎_elim, ℕ, ◌+◌, ◌-◌, ◌<◌, Bool, true, false, List, [], ◌∷◌, ◌++◌, get_or, cond, Option, Some, refl, sym, ◌∙◌, ap, subst, arith, append_assoc, true≢false}
use Rattle.std.specs.Prelude.{Contains, filter, if◌then◌else◌, slice_get}
use mathlib.Core.List.{IsPrefix}
use Rattle.std.proofs.lemmas.Bool.{cases_eq}
use Rattle.std.proofs.lemmas.List.Elements.{Contains-append_cases, Contains-append_left, Contains-append_right, All-contains, filter-append}
use Rattle.std.proofs.lemmas.Option.{slice_get-get_or}
use Rattle.joint_machine.specs.declared.names.Thread.{Thread}
use Rattle.joint_machine.specs.declared.names.Thread.TheVariants.{M, P, C}
use Rattle.joint_machine.specs.declared.lines.Act.TheVariants as act
use Rattle.joint_machine.specs.declared.events.Op.{Op}
use Rattle.joint_machine.specs.declared.events.Op.TheVariants as op
use Rattle.joint_machine.specs.declared.events.Entry.{Entry}
use Rattle.joint_machine.specs.Components.{Rises}
use Rattle.joint_machine.specs.Control.{caller_place}
use Rattle.joint_machine.specs.Histories.{Finished, NumberedFrom}
use Rattle.joint_machine.specs.HistoryLines.{entries_in, stands_in}
use Rattle.joint_machine.specs.Lines.{IsEvent, IsManagedThread, IsThread, is_read}
use Rattle.joint_machine.specs.Linked.{Linkage, opening_linkage}
use Rattle.joint_machine.specs.LinkedHistories.{IsLinkedBy, managed_end}
use Rattle.joint_machine.specs.Readers.{AllMayComeReading, EntryMayCome, ReadsCell, entry_after}
use Rattle.joint_machine.specs.PeerReplay.{is_thread}
use Rattle.joint_machine.specs.Told.{Noted}
use Rattle.joint_machine.proofs.Members.{All-members, Contains-at, at-Contains, Contains-here, Contains-nil, Contains-cons_cases, Contains-map, Contains-map_cases, Contains-filter_from}
use Rattle.joint_machine.proofs.Members.{Contains-filter_to}
use Rattle.joint_model.proofs.Merging.{NumberedFrom-high}
use Rattle.joint_machine.proofs.HeapLemmas.{thread_itself}
use Rattle.known_laws.specs.PastEntries.{entries}
use Rattle.joint_history.specs.Callers.{Pass, own}
use Rattle.joint_history.specs.Desks.{thread_of}
use Rattle.joint_history.specs.Ending.{HasOwn, threads_of}
use Rattle.joint_history.proofs.Ended.{thread_at_place}
use Rattle.joint_history.proofs.LastLines.{place_small}
use Rattle.order_table.specs.declared.views.View.{View}
use Rattle.joint_history.specs.Knowing.{line_known}
use Rattle.script_laws.specs.Asides.{AsidesAreExact, IsAsideBy}
use Rattle.script_laws.proofs.Asides.{read-line, stands-by}
use Rattle.script_laws.specs.Growing.{numbers_of}
use Rattle.script_laws.specs.Holding.{opening_standing, HoldsInOrder, HoldsLines, numbered_from, entries_by}
use Rattle.script_laws.proofs.Growing.{held_lines_end, rising_entries_are_one}
use Rattle.run_laws.proofs.ByThreads.{made_is_by, is-either}
use Rattle.run_laws.proofs.InOrder.{own-with, own-without, not-driver, all-reads, all-rise, all-threads, prefix-in, rises-first}
use Rattle.run_laws.specs.Serial.{AllReadBy, AreOthers, IsReadBy, RunsHoldScript, AllAreGiven}
use Rattle.known_laws.proofs.Lists.{event-thread}

-- each thread has its caller among all of them
record Given (others : List Pass) (driver : Pass) (t : Thread) : Type 0 where
  pub pass : Pass
  pub there : Contains (others ++ driver ∷ []) pass
  pub thread : pass.thread ≡ t

given : (others : List Pass) (driver : Pass) (t : Thread) → AreOthers others → driver.thread ≡ C → IsThread t → Given others driver t
given others driver t k is_driver is = ⊎_elim
    (λ (z : caller_place t ≡ 0). record {
      pass = driver;
      there = Contains-append_right others (driver ∷ []) driver (Contains-here driver []);
      thread = is_driver ∙ (ap thread_of (sym z) ∙ thread_at_place t is);
    })
    (λ (ne : caller_place t ≡ 0 → ⊥).
    let few = place_small t is in let n = k.count in
    let i = caller_place t - 1 in
    let p = get_or others i driver in
    let at : slice_get others i ≡ Some p = slice_get-get_or others i driver (omega (arith, few, n, ne)) in
    record {
      pass = p;
      there = Contains-append_left others (driver ∷ []) p (Contains-at others i p at);
      thread = k.each i p at ∙ (ap thread_of (let same : i + 1 ≡ caller_place t = omega (arith, ne) in same) ∙ thread_at_place t is);
    })
    (cases_eq (caller_place t) 0)

pub all_are_given : AllAreGiven
all_are_given d others driver k is_driver t is =
    let g = given others driver t k is_driver is in
    inr (subst (Contains (threads_of (others ++ driver ∷ []))) g.thread (Contains-map (λ (p : Pass). p.thread) (others ++ driver ∷ []) g.pass g.there))

-- entries with the numbers from one on rise, and so does a part of a rising list
pub numbered-rise : (n : ℕ) (es : List Entry) → NumberedFrom n es → Rises (numbers_of es)
numbered-rise n [] w = tt
numbered-rise n (x ∷ es) w = (
  All-members (λ m. x.number < m) (numbers_of es) (λ m c.
      let q = Contains-map_cases (λ (e : Entry). e.number) es m c in let a = NumberedFrom-high (n + 1) es w.1 q.0 q.1 in let b = q.2 in let d = w.0 in omega (arith, a, b, d)),
  numbered-rise (n + 1) es w.1,
)

pub filter-rise : (f : Entry → Bool) (es : List Entry) → Rises (numbers_of es) → Rises (numbers_of (filter f es))
filter-rise f [] r = tt
filter-rise f (x ∷ es) r = by (f x) (filter-rise f es r.1)
  where
    by : (b : Bool) → Rises (numbers_of (filter f es)) → Rises (numbers_of (cond b (x ∷ filter f es) (filter f es)))
    by true w = (
      All-members (λ m. x.number < m) (numbers_of (filter f es)) (λ m c.
          let q = Contains-map_cases (λ (e : Entry). e.number) (filter f es) m c in
          subst (λ z. x.number < z) q.2 (All-contains (λ y. x.number < y) (numbers_of es) q.0.number r.0 (Contains-map (λ (e : Entry). e.number) es q.0 (Contains-filter_from f es q.0 q.1).0))),
      w,
    )
    by false w = w

-- an entry of a linked history is an event that its caller can make, and so one of a thread's
pub linked-events : (whole : List Noted) (cells : List (Option ℕ)) (s : Linkage) (ns : List Noted)
    → AllMayComeReading whole cells s ns → (e : Entry) → Contains (entries ns) e → IsEvent e.made.caller e.made.op
linked-events whole cells s [] a e c = absurd (Contains-nil e c)
linked-events whole cells s (n ∷ ns) a e c = ⊎_elim
    (λ (q : n.entry ≡ e). subst (λ (z : Entry). IsEvent z.made.caller z.made.op) q (by (is_read n.entry.made.op) a.0))
    (λ d. linked-events whole cells (entry_after s n) ns a.1 e d)
    (Contains-cons_cases n.entry (entries ns) e c)
  where
    by : (b : Bool) → EntryMayCome b whole cells s n → IsEvent n.entry.made.caller n.entry.made.op
    by true w = w.0.event
    by false w = w.event

pub history-events : (h : Finished) (noted : List Noted) → IsLinkedBy h noted → (e : Entry) → Contains h.entries e → IsEvent e.made.caller e.made.op
history-events h noted k e c = linked-events noted (managed_end noted).cells opening_linkage noted k.lawful e (subst (λ l. Contains l e) (sym k.same) c)

pub history-threads : (h : Finished) (noted : List Noted) → IsLinkedBy h noted → (e : Entry) → Contains h.entries e → IsThread e.made.caller
history-threads h noted k e c = event-thread e.made.caller e.made.op (history-events h noted k e c)

-- what is in one list is in the other where each thread has the same of both
same-in : (xs ys : List Entry) → ((t : Thread) → IsThread t → entries_by t xs ≡ entries_by t ys) → ((e : Entry) → Contains xs e → IsThread e.made.caller) → (e : Entry) → Contains xs e → Contains ys e
same-in xs ys same is e c =
    let t = e.made.caller in
    (Contains-filter_from (λ z. is_thread t z.made.caller) ys e (subst (λ l. Contains l e) (same t (is e c)) (Contains-filter_to (λ z. is_thread t z.made.caller) xs e c (thread_itself t)))).0

-- a read is one of a managed thread
cell-read : (o : Op) (k : ℕ) → ReadsCell o k → is_read o ≡ true
cell-read (op.Line (act.Read c)) k r = refl
cell-read (op.Line (act.Await c)) k r = refl
cell-read o k r = absurd r

pub read-managed : (t : Thread) (o : Op) → IsEvent t o → is_read o ≡ true → IsManagedThread t
read-managed (M n) (op.Line (act.Read c)) v e = v.0.0
read-managed (M n) (op.Line (act.Await c)) v e = v.0.0
read-managed (P n) (op.Line (act.Read c)) v e = absurd v.0.1
read-managed (P n) (op.Line (act.Await c)) v e = absurd v.0.1
read-managed C (op.Line (act.Read c)) v e = absurd v.0
read-managed C (op.Line (act.Await c)) v e = absurd v.0
read-managed t o v e = absurd (true≢false (sym e))

-- the managed list as a part of the entries
in-filter : (es : List Entry) → entries_in 0 es ≡ filter (stands_in 0) es
in-filter [] = refl
in-filter (e ∷ es) = ap (λ l. if stands_in 0 e then e ∷ l else l) (in-filter es)

-- the list by which a read was answered is the managed list before it: it begins the whole one, has all that was made
-- before, and nothing that was made after
module _ (v : View) (all : List Entry) (rises : Rises (numbers_of all)) (begins : IsPrefix (line_known v 0) (entries_in 0 all))
    (events : (e : Entry) → Contains all e → IsEvent e.made.caller e.made.op) where
  list-rises : (list : List Entry) → IsPrefix list (line_known v 0) → Rises (numbers_of list)
  list-rises list p =
      let whole : Rises (numbers_of (entries_in 0 all)) = subst (λ l. Rises (numbers_of l)) (sym (in-filter all)) (filter-rise (stands_in 0) all rises) in
      let line : Rises (numbers_of (line_known v 0)) = rises-first (line_known v 0) begins.0 (subst (λ l. Rises (numbers_of l)) (sym begins.1) whole) in
      rises-first list p.0 (subst (λ l. Rises (numbers_of l)) (sym p.1) line)

  in-all : (list : List Entry) → IsPrefix list (line_known v 0) → (f : Entry) → Contains list f → Contains all f × (stands_in 0 f ≡ true)
  in-all list p f c =
      Contains-filter_from (stands_in 0) all f
      (subst (λ l. Contains l f) (in-filter all) (prefix-in (line_known v 0) (entries_in 0 all) f begins (prefix-in list (line_known v 0) f p c)))

  is-before : (before ns : List Entry) (e : Entry) → all ≡ before ++ e ∷ ns → is_read e.made.op ≡ true → (w : IsReadBy v before ns e) → w.list ≡ entries_in 0 before
  is-before before ns e a read w = rising_entries_are_one w.list (entries_in 0 before) (list-rises w.list w.begins) front (λ f. (to f, from f))
    where
      front : Rises (numbers_of (entries_in 0 before))
      front = subst (λ l. Rises (numbers_of l)) (sym (in-filter before)) (filter-rise (stands_in 0) before (rises-first before (e ∷ ns) (subst (λ l. Rises (numbers_of l)) a rises)))

      event : IsEvent e.made.caller e.made.op
      event = events e (subst (λ l. Contains l e) (sym a) (Contains-append_right before (e ∷ ns) e (Contains-here e ns)))

      to : (f : Entry) → Contains w.list f → Contains (entries_in 0 before) f
      to f c =
          let d = in-all w.list w.begins f c in
          ⊎_elim
          (λ b. subst (λ l. Contains l f) (sym (in-filter before)) (Contains-filter_to (stands_in 0) before f b d.1))
          (λ b. ⊎_elim
          (λ (q : e ≡ f). absurd (true≢false (sym d.1 ∙ (ap (stands_in 0) (sym q) ∙ (stands-by e ∙ read-line e.made.caller e.made.op event read)))))
          (λ n. absurd (w.later f n c))
          (Contains-cons_cases e ns f b))
          (Contains-append_cases before (e ∷ ns) f (subst (λ l. Contains l f) a d.0))

      from : (f : Entry) → Contains (entries_in 0 before) f → Contains w.list f
      from f c = let d = Contains-filter_from (stands_in 0) before f (subst (λ l. Contains l f) (in-filter before) c) in w.has f d.0 d.1

  asides-from : (before ns : List Entry) → all ≡ before ++ ns → AllReadBy v before ns → AsidesAreExact (entries_in 0 before) ns
  asides-from before [] a r = tt
  asides-from before (e ∷ ns) a r = (
    λ k c.
        let read = cell-read e.made.op k c in
        let event = events e (subst (λ l. Contains l e) (sym a) (Contains-append_right before (e ∷ ns) e (Contains-here e ns))) in
        let w = r.0 read (read-managed e.made.caller e.made.op event read) in
        subst (λ l. IsAsideBy l k e.made.reply) (is-before before ns e a read w) (w.exact k c),
    subst (λ l. AsidesAreExact l ns)
        (in-filter (before ++ e ∷ []) ∙ (filter-append (stands_in 0) before (e ∷ []) ∙ (λ i. sym (in-filter before) i ++ sym (in-filter (e ∷ [])) i)))
        (asides-from (before ++ e ∷ []) ns (a ∙ sym (append_assoc before (e ∷ []) ns)) r.1),
  )

pub runs_hold_script : RunsHoldScript
runs_hold_script script h s driver after others left k oth same adds left_are r owns
    begins = record { lines = subst (HoldsInOrder script) (sym one) held; asides = subst (AsidesAreExact []) (sym one) asides }
  where
    made : List Entry
    made = r.made ++ left

    held : HoldsLines opening_standing (numbered_from 1 script) made
    held = held_lines_end opening_standing s (numbered_from 1 script) r.made r.holds left left_are

    callers : List Pass
    callers = others ++ after ∷ []

    own-of : (p : Pass) → Contains callers p → own p ≡ entries_by p.thread made
    own-of p c = ⊎_elim
        (λ d.
        let w = at-Contains others p d in
        r.each w.0 p w.1 ∙ sym (own-without s.line p.thread C r.made left (is-either p.thread C ∙ not-driver others w.0 p oth w.1) left_are.places))
        (λ d. ⊎_elim
        (λ (e : after ≡ p).
        subst (λ z. own z ≡ entries_by z.thread made) e
        (adds.own_more ∙ (ap (λ l. l ++ left) r.driven ∙ (sym (own-with s.line C r.made left left_are.places) ∙ ap (λ t. entries_by t made) (sym (same ∙ r.thread))))))
        (λ n. absurd (Contains-nil p n))
        (Contains-cons_cases after [] p d))
        (Contains-append_cases others (after ∷ []) p c)

    each-same : (t : Thread) → IsThread t → entries_by t h.entries ≡ entries_by t made
    each-same t is =
        let g = given others after t oth (same ∙ r.thread) is in
        let owned = All-contains (HasOwn h.entries) callers g.pass owns g.there in
        subst (λ u. entries_by u h.entries ≡ entries_by u made) g.thread (sym (made_is_by g.pass.thread h.entries) ∙ (owned ∙ own-of g.pass g.there))

    made-threads : (e : Entry) → Contains made e → IsThread e.made.caller
    made-threads = all-threads driver.view after.view C (own driver) (own after) r.made left s.line adds left_are.places tt r.callers

    history-rises : Rises (numbers_of h.entries)
    history-rises = numbered-rise 0 h.entries k.linked.numbers

    made-rises : Rises (numbers_of made)
    made-rises = all-rise driver.view after.view C (own driver) (own after) r.made left s.line adds left_are.places r.heard r.rises tt
        (λ u is. subst (λ l. Rises (numbers_of l)) (each-same u is) (filter-rise (λ e. is_thread u e.made.caller) h.entries history-rises))

    one : h.entries ≡ made
    one = rising_entries_are_one h.entries made history-rises made-rises
        (λ e. (same-in h.entries made each-same (history-threads h k.noted k.linked) e, same-in made h.entries (λ t is. sym (each-same t is)) made-threads e))

    asides : AsidesAreExact [] made
    asides =
        asides-from after.view made made-rises (subst (λ l. IsPrefix (line_known after.view 0) (entries_in 0 l)) one begins)
        (λ e c. history-events h k.noted k.linked e (subst (λ l. Contains l e) (sym one) c))
        [] made refl (all-reads driver.view after.view C (own driver) (own after) r.made left s.line adds left_are.places r.heard r.reads)
