-- A run of a generated script has the tally of its seed and size, in whatever order threads came.
use Rattle.std.proofs.Common.{◌≡◌, ℕ, ◌*◌, ◌<◌, ◌≤◌, ◌↔◌, inl, inr, Bool, true, false, List, [], ◌∷◌, ◌++◌, nat_lt, refl, sym, ap, subst, ◌∙◌, arith}
use Rattle.std.specs.Prelude.{is_some}
use Rattle.std.proofs.lemmas.Bool.{ltb-true, lt-ltb}
use Rattle.std.proofs.lemmas.List.{append-nil}
use Rattle.std.proofs.lemmas.List.Elements.{filter-append}
use Rattle.joint_machine.specs.declared.names.Thread.{Thread}
use Rattle.joint_machine.specs.declared.names.Thread.TheVariants.{M, P, C}
use Rattle.joint_machine.specs.declared.names.PhaseWord.TheVariants as word
use Rattle.joint_machine.specs.declared.lines.Act.{Act}
use Rattle.joint_machine.specs.declared.lines.Act.TheVariants as act
use Rattle.joint_machine.specs.declared.events.Entry.{Entry}
use Rattle.joint_machine.specs.Heaps.{slot}
use Rattle.joint_machine.specs.Histories.{Finished}
use Rattle.joint_machine.specs.Linked.{Linkage, opening_linkage}
use Rattle.joint_machine.specs.Replaying.{AllMayCome, replayed}
use Rattle.joint_machine.specs.LinkedHistories.{linked_end}
use Rattle.joint_machine.specs.PeerReplay.{is_thread}
use Rattle.joint_machine.specs.Told.{Noted}
use Rattle.joint_laws.proofs.LinkedEntries.{Of, BothInvariants-opening}
use Rattle.known_laws.specs.PastEntries.{entries}
use Rattle.run_summary.specs.declared.tallies.Tally.{Tally}
use Rattle.run_summary.specs.Tallies.{tally_of}
use Rattle.script_generator.specs.Generated.{generated}
use Rattle.script_laws.specs.Holding.{opening_standing, entries_by, AreLine}
use Rattle.script_laws.proofs.ThreadOrder.{none-by}
use Rattle.summary_laws.specs.States.{tally_in}
use Rattle.summary_laws.proofs.Readings.{tallies_of_linked}
use Rattle.generated_laws.specs.Counts.{filled_statics, left_by_families, generated_tally}
use Rattle.generated_laws.specs.Laws.{GeneratedRunsAreAlike, IsGeneratedRun}
use Rattle.generated_laws.proofs.Totals.{Each, each-append, each-join, each-filter, total, total-append}
use Rattle.generated_laws.proofs.Own.{HasAnswer, IsCycleOf}
use Rattle.generated_laws.proofs.Held.{script-total}
use Rattle.generated_laws.proofs.Unrefused.{all-split}
use Rattle.generated_laws.proofs.Counting.{simple-lines}
use Rattle.generated_laws.proofs.Numbers.{answered, makes-the-same}
use Rattle.generated_laws.proofs.Readless.{callers, whole, exact}
use Rattle.generated_laws.proofs.Pictures.{empty_mind, Going}
use Rattle.generated_laws.proofs.PeerShowing.{none_filled, PeerGoing}
use Rattle.generated_laws.proofs.Running.{IsCycleEntry, Inv, inv-all, inv-says, SaysIt}
use Rattle.generated_laws.proofs.Kept.{IsSettled}
use Rattle.generated_laws.proofs.LastCycle.{split-notes, replayed-both, IsEnded, cycle-leaves}
use Rattle.generated_laws.proofs.Leaving.{filled_ones, state-left}
use Rattle.generated_laws.proofs.Opening.{inv-opening}
use Rattle.generated_laws.proofs.Threads.{thread-going, peer_thread-going, driver-held, cycle-driven}
use Rattle.generated_laws.proofs.Filling.{filling, line_fills, filled-counts, counts-filled, HasBoth, own-count, cycle-none}
use Rattle.generated_laws.proofs.Statics.{filled-statics}

each-both : (es : List Entry) → Each HasAnswer es → Each SaysIt es → Each HasBoth es
each-both [] a b = tt
each-both (e ∷ es) a b = ((a.0, b.0), each-both es a.1 b.1)

module _ (seed size : ℕ) (h : Finished) (small : size ≤ 2800) (w : IsGeneratedRun seed size h) where
  parts : (ps : List Noted) × (bs : List Noted) × (w.noted ≡ ps ++ bs) × (entries ps ≡ w.before) × (entries bs ≡ w.cycle)
  parts = split-notes w.noted w.before w.cycle (w.linked.same ∙ w.all)

  abbrev run : List Entry
  run = w.before ++ w.cycle

  -- the last cycle is the driver's alone
  only-before : (t : Thread) → is_thread t C ≡ false → entries_by t run ≡ entries_by t w.before
  only-before t n =
      filter-append (λ (e : Entry). is_thread t e.made.caller) w.before w.cycle
      ∙ (ap (λ l. entries_by t w.before ++ l) (none-by w.number t C w.cycle n w.line.places) ∙ append-nil (entries_by t w.before))

  none-behind : (t : Thread) → is_thread t C ≡ false → entries_by t w.cycle ≡ []
  none-behind t n = none-by w.number t C w.cycle n w.line.places

  both-answered : Each HasAnswer w.before × Each HasAnswer w.cycle
  both-answered = each-append HasAnswer w.before w.cycle (subst (Each HasAnswer) w.all (answered seed size h small w))

  is-whole : IsCycleOf w.cycle
  is-whole = whole seed size h w

  abbrev keep : ℕ → Bool
  keep i = nat_lt 0 (total (filling i) run)

  opening : Inv keep opening_linkage run
  opening = inv-opening keep run
      (λ t. subst (λ l. Going l empty_mind) (sym (only-before (M t) refl))
      (thread-going seed size t opening_standing (entries_by (M t) w.before) refl (simple-lines seed size)
      (each-filter HasAnswer (λ (e : Entry). is_thread (M t) e.made.caller) w.before both-answered.0) (w.lines (M t))))
      (λ t. subst (λ l. PeerGoing l none_filled) (sym (only-before (P t) refl))
      (peer_thread-going seed size t opening_standing (entries_by (P t) w.before) refl (simple-lines seed size) (w.lines (P t))))
      (subst (Each IsCycleEntry) (sym (filter-append (λ (e : Entry). is_thread C e.made.caller) w.before w.cycle))
      (each-join IsCycleEntry (entries_by C w.before) (entries_by C w.cycle) (driver-held 1 (generated seed size) opening_standing (entries_by C w.before) refl (simple-lines seed size) (w.lines C))
      (each-filter IsCycleEntry (λ (e : Entry). is_thread C e.made.caller) w.cycle (cycle-driven w.cycle is-whole))))
      (λ i f. lt-ltb 0 (total (filling i) run) (filled-counts i run f))
      (λ i e. counts-filled i run (ltb-true 0 (total (filling i) run) e))

  lawful : AllMayCome opening_linkage (parts.0 ++ parts.1)
  lawful = subst (AllMayCome opening_linkage) parts.2 (exact seed size h w).lawful

  halves : AllMayCome opening_linkage parts.0 × AllMayCome (replayed opening_linkage parts.0) parts.1
  halves = all-split parts.0 parts.1 opening_linkage lawful

  abbrev ended_threads : Linkage
  ended_threads = replayed opening_linkage parts.0

  from-opening : Inv keep opening_linkage (entries parts.0 ++ w.cycle)
  from-opening = subst (λ l. Inv keep opening_linkage (l ++ w.cycle)) (sym parts.3) opening

  reached : Inv keep ended_threads w.cycle × Of ended_threads
  reached = inv-all keep parts.0 opening_linkage w.cycle halves.0 BothInvariants-opening from-opening

  says : Each SaysIt w.before
  says = subst (Each SaysIt) parts.3 (inv-says keep parts.0 opening_linkage w.cycle halves.0 BothInvariants-opening from-opening)

  abbrev inv : Inv keep ended_threads w.cycle
  inv = reached.0

  settled : IsSettled inv.minds inv.fills inv.groups ended_threads
  settled = record {
    shown = inv.shown;
    peers = inv.peers;
    are_held = inv.are_held;
    empty = λ t v. (subst (λ l. Going l (inv.minds t)) (none-behind (M t) refl) (inv.going t)).0 v;
    hands = λ t. (subst (λ l. Going l (inv.minds t)) (none-behind (M t) refl) (inv.going t)).1;
    unfilled = λ t v. subst (λ l. PeerGoing l (inv.fills t)) (none-behind (P t) refl) (inv.peer_going t) v;
  }

  ended : IsEnded inv.minds inv.fills inv.groups (replayed ended_threads parts.1)
  ended = cycle-leaves inv.minds inv.fills inv.groups ended_threads parts.1 w.standing w.number settled reached.1 halves.1 w.idle
      (subst (AreLine w.standing w.number (C, act.PhaseLine word.Cycle)) (sym parts.4) w.line)

  -- the statics that are filled are those of the script's lines
  run-fills : (i : ℕ) → total (filling i) run ≡ total (λ (line : Thread × Act). line_fills i line.1) (generated seed size)
  run-fills i =
      let a = total-append (filling i) w.before w.cycle in
      let b = cycle-none i w.cycle is-whole in
      let c = script-total HasBoth (filling i) (line_fills i) (λ x y. x ≡ y) refl (λ x y z u p q. omega (arith, p, q)) (own-count i)
      (generated seed size) w.before (simple-lines seed size) (callers seed size h w) (each-both w.before both-answered.0 says) w.lines in
      omega (arith, a, b, c)

  filled-so : (i : ℕ) → i < 32 → (is_some (slot inv.groups i) ≡ true) ↔ (0 < total (λ (line : Thread × Act). line_fills i line.1) (generated seed size))
  filled-so i l = (
    λ e. (let k = ltb-true 0 (total (filling i) run) (inv.kept i e) in let s = run-fills i in omega (arith, k, s)),
    λ p. (let s = run-fills i in elim (inv.all i l (lt-ltb 0 (total (filling i) run) (omega (arith, p, s)))) [
      | inl e ↦ e
      | inr f ↦ (let n = filled-counts i w.cycle f in let z = cycle-none i w.cycle is-whole in absurd (omega (arith, n, z)))
    ]),
  )

  left : (tally_of h.entries).left ≡ left_by_families seed size
  left =
      let last : linked_end w.noted ≡ replayed ended_threads parts.1 = (exact seed size h w).ends ∙ ap (replayed opening_linkage) parts.2 ∙ replayed-both parts.0 parts.1 opening_linkage in
      let count : filled_ones inv.groups ≡ filled_statics seed size = filled-statics seed size inv.groups inv.shown.spots filled-so in
      ap (λ (t : Tally). t.left) (tallies_of_linked h w.noted w.linked ∙ ap tally_in last)
      ∙ (state-left inv.minds inv.fills inv.groups (replayed ended_threads parts.1) ended.settled ended.kept ended.rests ended.closed ended.rows ended.peers
      ∙ (λ i. record { managed = 2 * count i; peers = count i; handles = count i }))

  alike : tally_of h.entries ≡ generated_tally seed size
  alike = (let m = makes-the-same seed size h small w in λ i. record { cycles = m.cycles i; made = m.made i; left = left i })

pub generated_runs_are_alike : GeneratedRunsAreAlike
generated_runs_are_alike = alike
