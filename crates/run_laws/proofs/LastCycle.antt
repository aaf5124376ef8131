-- The driver's last cycle stands behind all else: its numbers are above all that anybody else made, since the driver
-- had heard of that; so the history, whose numbers rise, is a beginning without the cycle's entries and then these. The
-- beginning has of each thread just what its caller had before the cycle.
use Rattle.std.proofs.Common.{◌≡◌, ◌⊎◌, inl, inr, ⊎_elim, ℕ, ◌+◌, ◌<◌, ◌^◌, true, false, List, [], ◌∷◌, ◌++◌, length, refl, sym, ◌∙◌, ap, subst, arith, append_assoc}
use Rattle.std.specs.Prelude.{unwrap_or}
use Rattle.std.specs.Prelude.{All, Contains, if◌then◌else◌}
use Rattle.std.proofs.lemmas.Bool.{cases_Bool}
use Rattle.std.proofs.lemmas.List.{append-nil, append_cancel_right}
use Rattle.std.proofs.lemmas.List.Elements.{Contains-append_cases, Contains-append_right, All-contains, filter-append}
use Rattle.joint_machine.specs.declared.names.Phase.{Phase}
use Rattle.joint_machine.specs.declared.names.Phase.TheVariants as at
use Rattle.joint_machine.specs.declared.names.PhaseWord.TheVariants as word
use Rattle.joint_machine.specs.declared.names.Thread.{Thread}
use Rattle.joint_machine.specs.declared.names.Thread.TheVariants.{M, P, C}
use Rattle.joint_machine.specs.declared.lines.Act.{Act}
use Rattle.joint_machine.specs.declared.lines.Act.TheVariants as act
use Rattle.joint_machine.specs.declared.events.Op.{Op}
use Rattle.joint_machine.specs.declared.events.Op.TheVariants as op
use Rattle.joint_machine.specs.declared.events.Entry.{Entry}
use Rattle.joint_machine.specs.Components.{Rises}
use Rattle.joint_machine.specs.Histories.{Finished}
use Rattle.joint_machine.specs.HistoryLines.{caller_line}
use Rattle.joint_machine.specs.Lines.{IsLine, IsThread}
use Rattle.joint_machine.specs.PeerReplay.{is_thread}
use Rattle.joint_machine.specs.Phases.{next_phase, phases_left, ArePhases}
use Rattle.joint_machine.proofs.Members.{Contains-here, Contains-there, Contains-nil, Contains-cons_cases, Contains-map_cases, Contains-filter_from, Contains-filter_to}
use Rattle.known_laws.specs.Lists.{made_by}
use Rattle.joint_history.specs.Callers.{Pass, own}
use Rattle.joint_history.specs.Desks.{Waiting}
use Rattle.joint_history.specs.Ending.{HasAll, HasOwn, IsFinished, StillWaits}
use Rattle.joint_history.specs.Knowing.{line_known}
use Rattle.script_laws.specs.Growing.{numbers_of}
use Rattle.script_laws.specs.Holding.{Standing, opening_standing, standing_after, AreLine, AreLeft, HoldsLines, numbered_from, lines_of, entries_by}
use Rattle.script_laws.specs.SoFar.{HoldsSoFar}
use Rattle.script_laws.specs.Closing.{ResolvesLater, ResolveComes, CycleCloses, AllCyclesClose}
use Rattle.script_laws.proofs.AllThreads.{is_one, no-lines}
use Rattle.script_laws.proofs.Ending.{EndsFrom, lines-end}
use Rattle.script_laws.proofs.Growing.{held_lines_end, idle_leaves_nothing, numbers_go_on, rising_entries_are_one, behind}
use Rattle.script_laws.proofs.ThreadEnding.{drivers_ends}
use Rattle.script_laws.proofs.ThreadOrder.{all-by, line_order_gives_thread_order, none-by}
use Rattle.run_laws.specs.LastCycle.{HasHeardOf, EndsWithCycle, CyclesEndRuns, DrivesCycles, CycleLinesEndRuns}
use Rattle.run_laws.specs.WithCycle.{AreWholeCycle, HoldsThenCycle, IsRunThenCycle, cycle_line}
use Rattle.run_laws.specs.Threads.{HoldsItsLines, NoneIsLeft}
use Rattle.run_laws.proofs.ByThreads.{made_is_by}
use Rattle.run_laws.proofs.Finals.{kept}
use Rattle.run_laws.proofs.InOrder.{above-in, prefix-in, rises-last}
use Rattle.run_laws.proofs.InOrderEnds.{filter-rise, history-threads, numbered-rise}
use Rattle.joint_machine.proofs.HeapLemmas.{same_thread, thread_itself}

-- the entry is one of the last, or has a smaller number than each of them
abbrev IsLastOrBelow : List Entry → Entry → Type 0
IsLastOrBelow last e = Contains last e ⊎ ((f : Entry) → Contains last f → e.number < f.number)

-- a list whose numbers rise ends with those of its entries that are above all others
split : (es last : List Entry) → Rises (numbers_of es) → Rises (numbers_of last) → ((e : Entry) → Contains last e → Contains es e)
    → ((e : Entry) → Contains es e → IsLastOrBelow last e) → (before : List Entry) × (es ≡ before ++ last)
split [] [] r q among each = ([], refl)
split [] (y ∷ ys) r q among each = absurd (Contains-nil y (among y (Contains-here y ys)))
split (x ∷ es) last r q among each = ⊎_elim
    (λ (c : Contains last x).
    let all : (e : Entry) → Contains (x ∷ es) e → Contains last e = λ e d. ⊎_elim
    (λ (l : Contains last e). l)
    (λ (b : (f : Entry) → Contains last f → e.number < f.number).
    let under : e.number < x.number = b x c in
    absurd (⊎_elim
    (λ (s : x ≡ e). let n = ap (λ (z : Entry). z.number) s in omega (arith, under, n))
    (λ (d' : Contains es e). let o = behind x es r e d' in omega (arith, under, o))
    (Contains-cons_cases x es e d)))
    (each e d)
    in
    ([], rising_entries_are_one (x ∷ es) last r q (λ e. (all e, among e))))
    (λ (b : (f : Entry) → Contains last f → x.number < f.number).
    let rest = split es last r.1 q
    (λ e c. ⊎_elim (λ (s : x ≡ e). let l = b e c in let n = ap (λ (z : Entry). z.number) s in absurd (omega (arith, l, n))) (λ d. d) (Contains-cons_cases x es e (among e c)))
    (λ e c. each e (Contains-there e x es c))
    in
    (x ∷ rest.0, ap (λ l. x ∷ l) rest.1))
    (each x (Contains-here x es))

-- a list and another one behind it end their cycles where both do
comes-more : (es fs : List Entry) → ResolveComes es → ResolveComes (es ++ fs)
comes-more [] fs c = absurd c
comes-more (e ∷ es) fs c = by e.made.op (λ r. comes-more es fs r) c
  where
    by : (o : Op) → (ResolveComes es → ResolveComes (es ++ fs)) → ResolvesLater o (ResolveComes es) → ResolvesLater o (ResolveComes (es ++ fs))
    by (op.Resolve k) f c = tt
    by (op.Snap k) f c = absurd c
    by o f c = f c

ends-both : (es fs : List Entry) → AllCyclesClose es → AllCyclesClose fs → AllCyclesClose (es ++ fs)
ends-both [] fs a b = b
ends-both (e ∷ es) fs a b = (by e.made.op a.0, ends-both es fs a.1 b)
  where
    by : (o : Op) → CycleCloses o es → CycleCloses o (es ++ fs)
    by (op.Abandon k) c = absurd c
    by (op.Snap k) c = comes-more es fs c
    by o c = tt

-- a cycle leads from the idle driver to the idle driver
cycle-idle : (s : Standing) (number : ℕ) (es : List Entry) → s.phase ≡ at.Idle → (standing_after s number cycle_line.1 es).phase ≡ at.Idle
cycle-idle s number es i = subst (λ (p : Phase). unwrap_or (next_phase p word.Cycle) p ≡ at.Idle) (sym i) refl

-- a cycle ends itself
cycle-ends : (number : ℕ) (es : List Entry) → AreWholeCycle number es → AllCyclesClose es
cycle-ends number es w =
    subst (λ p. EndsFrom p es) w.idle
    (lines-end ((number, cycle_line) ∷ []) w.standing es (
      es,
      [],
      sym (append-nil es),
      w.line,
      idle_leaves_nothing (standing_after w.standing number cycle_line.1 es) (cycle-idle w.standing number es w.idle),
    ))

module _ (script : List (Thread × Act)) (h : Finished) (d : Waiting) (others : List Pass) (before after : Pass) (fin : IsFinished h)
    (few : length h.entries < 2 ^ 64) (lawful : (line : Thread × Act) → Contains script line → IsLine line.0 line.1)
    (all : HasAll d (others ++ after ∷ [])) (owns : All (HasOwn h.entries) (others ++ after ∷ []))
    (none : (t : Thread) → IsThread t → StillWaits d t → made_by t h.entries ≡ []) (left : NoneIsLeft script d)
    (held : All (HoldsItsLines script) others) (drove : HoldsItsLines script before) (w : EndsWithCycle (length script + 1) before after others) where
  abbrev callers : List Pass
  callers = others ++ after ∷ []

  rises : Rises (numbers_of h.entries)
  rises = numbered-rise 0 h.entries fin.finished.linked.numbers

  threads : (e : Entry) → Contains h.entries e → IsThread e.made.caller
  threads e c = history-threads h fin.noted fin.finished.linked e c

  -- what a caller has made is what its thread has in the history
  of-caller : (p : Pass) → Contains callers p → entries_by p.thread h.entries ≡ own p
  of-caller p c = sym (made_is_by p.thread h.entries) ∙ All-contains (HasOwn h.entries) callers p owns c

  of-driver : entries_by C h.entries ≡ own before ++ w.cycle
  of-driver = subst (λ t. entries_by t h.entries ≡ own after) w.same (of-caller after (Contains-append_right others (after ∷ []) after (Contains-here after []))) ∙ w.own_more

  -- each thread's entries were made by a caller
  given : (t : Thread) → IsThread t → (entries_by t h.entries ≡ []) × (lines_of t (numbered_from 1 script) ≡ []) ⊎ ((p : Pass) × Contains callers p × (p.thread ≡ t))
  given t is = ⊎_elim
      (λ waits. inl (sym (made_is_by t h.entries) ∙ none t is waits, left t is waits))
      (λ c. inr (Contains-map_cases (λ (p : Pass). p.thread) callers t c))
      (all t is)

  cycle-in : (e : Entry) → Contains w.cycle e → Contains h.entries e
  cycle-in e c = (Contains-filter_from (λ z. is_thread C z.made.caller) h.entries e (subst (λ l. Contains l e) (sym of-driver) (Contains-append_right (own before) w.cycle e c))).0

  heard-below : (p : Pass) → HasHeardOf w.heard p → (e : Entry) → Contains (own p) e → IsLastOrBelow w.cycle e
  heard-below p k e c = inr (λ f d. above-in w.heard w.cycle e f (caller_line p.thread) w.above (prefix-in (own p) (line_known w.heard (caller_line p.thread)) e k c) d)

  own-below : (p : Pass) → Contains callers p → (e : Entry) → Contains (own p) e → IsLastOrBelow w.cycle e
  own-below p c e k = ⊎_elim
      (λ (o : Contains others p). heard-below p (All-contains (HasHeardOf w.heard) others p w.of_others o) e k)
      (λ (o : Contains (after ∷ []) p). ⊎_elim
      (λ (s : after ≡ p). ⊎_elim
      (λ b. heard-below before w.of_own e b)
      (λ l. inl l)
      (Contains-append_cases (own before) w.cycle e (subst (λ l. Contains l e) (ap own (sym s) ∙ w.own_more) k)))
      (λ n. absurd (Contains-nil p n))
      (Contains-cons_cases after [] p o))
      (Contains-append_cases others (after ∷ []) p c)

  each-below : (e : Entry) → Contains h.entries e → IsLastOrBelow w.cycle e
  each-below e c =
      let t = e.made.caller in
      let its : Contains (entries_by t h.entries) e = Contains-filter_to (λ z. is_thread t z.made.caller) h.entries e c (thread_itself t) in
      ⊎_elim
      (λ n. absurd (Contains-nil e (subst (λ l. Contains l e) n.0 its)))
      (λ g. own-below g.0 g.1 e (subst (λ l. Contains l e) (of-caller g.0 g.1) (subst (λ u. Contains (entries_by u h.entries) e) (sym g.2) its)))
      (given t (threads e c))

  cycle-rises : Rises (numbers_of w.cycle)
  cycle-rises = rises-last (own before) w.cycle (subst (λ l. Rises (numbers_of l)) of-driver (filter-rise (λ e. is_thread C e.made.caller) h.entries rises))

  parts : (first : List Entry) × (h.entries ≡ first ++ w.cycle)
  parts = split h.entries w.cycle rises cycle-rises cycle-in each-below

  -- of each thread the beginning has what was made before the cycle
  by-both : (t : Thread) → entries_by t h.entries ≡ entries_by t parts.0 ++ entries_by t w.cycle
  by-both t = ap (entries_by t) parts.1 ∙ filter-append (λ e. is_thread t e.made.caller) parts.0 w.cycle

  by-driver : entries_by C parts.0 ≡ own before
  by-driver = append_cancel_right (entries_by C parts.0) (own before) w.cycle
      (ap (λ l. entries_by C parts.0 ++ l) (sym (all-by (length script + 1) C w.cycle w.cycle_is.line.places)) ∙ (sym (by-both C) ∙ of-driver))

  by-other : (t : Thread) → is_thread t C ≡ false → entries_by t parts.0 ≡ entries_by t h.entries
  by-other t n = sym (by-both t ∙ (ap (λ l. entries_by t parts.0 ++ l) (none-by (length script + 1) t C w.cycle n w.cycle_is.line.places) ∙ append-nil (entries_by t parts.0)))

  abbrev Holds : Thread → Type 0
  Holds t = HoldsLines opening_standing (lines_of t (numbered_from 1 script)) (entries_by t parts.0)

  nothing-held : (t : Thread) → lines_of t (numbered_from 1 script) ≡ [] → entries_by t parts.0 ≡ [] → Holds t
  nothing-held t a b = subst (λ l. HoldsLines opening_standing l (entries_by t parts.0)) (sym a) (subst (HoldsLines opening_standing []) (sym b) (record { places = tt; events = refl }))

  holds-driver : Holds C
  holds-driver = subst (HoldsLines opening_standing (lines_of C (numbered_from 1 script))) (sym by-driver)
      (subst (λ t. HoldsLines opening_standing (lines_of t (numbered_from 1 script)) (own before)) w.driver drove)

  holds-other : (t : Thread) → IsThread t → is_thread t C ≡ false → Holds t
  holds-other t is n = ⊎_elim
      (λ g. nothing-held t g.1 (by-other t n ∙ g.0))
      (λ g. ⊎_elim
      (λ (o : Contains others g.0).
      subst Holds g.2
      (subst (HoldsLines opening_standing (lines_of g.0.thread (numbered_from 1 script)))
      (sym (by-other g.0.thread (ap (λ u. is_thread u C) g.2 ∙ n) ∙ of-caller g.0 g.1))
      (All-contains (HoldsItsLines script) others g.0 held o)))
      (λ (o : Contains (after ∷ []) g.0). ⊎_elim
      (λ (s : after ≡ g.0). let c : t ≡ C = sym g.2 ∙ (ap (λ (p : Pass). p.thread) (sym s) ∙ w.same) in subst Holds (sym c) holds-driver)
      (λ z. absurd (Contains-nil g.0 z))
      (Contains-cons_cases after [] g.0 o))
      (Contains-append_cases others (after ∷ []) g.0 g.1))
      (given t is)

  none-made : (t : Thread) → (IsThread t → ⊥) → (es : List Entry) → ((e : Entry) → Contains es e → IsThread e.made.caller) → entries_by t es ≡ []
  none-made t n [] k = refl
  none-made t n (x ∷ es) k = ⊎_elim
      (λ (s : is_thread t x.made.caller ≡ true). absurd (n (subst IsThread (sym (same_thread t x.made.caller s)) (k x (Contains-here x es)))))
      (λ (s : is_thread t x.made.caller ≡ false). ap (λ b. if b then x ∷ entries_by t es else entries_by t es) s ∙ none-made t n es (λ e c. k e (Contains-there e x es c)))
      (cases_Bool (is_thread t x.made.caller))

  holds-each : (t : Thread) → Holds t
  holds-each t = ⊎_elim
      (λ (s : is_thread t C ≡ true). subst Holds (sym (same_thread t C s)) holds-driver)
      (λ (n : is_thread t C ≡ false). ⊎_elim
      (λ is. holds-other t is n)
      (λ no. nothing-held t (no-lines t 1 script no lawful) (by-other t n ∙ none-made t no h.entries threads))
      (is_one t))
      (cases_Bool (is_thread t C))

  lines : HoldsThenCycle script h.entries
  lines = record { before = parts.0; cycle = w.cycle; all = parts.1; lines = holds-each; cycle_is = w.cycle_is }

  ends : AllCyclesClose h.entries
  ends = drivers_ends h fin.noted fin.finished.linked
      (subst AllCyclesClose (sym of-driver)
      (ends-both (own before) w.cycle (lines-end (lines_of before.thread (numbered_from 1 script)) opening_standing (own before) drove) (cycle-ends (length script + 1) w.cycle w.cycle_is)))

  cycle-ends-run : IsRunThenCycle script h
  cycle-ends-run = record { noted = fin.noted; kept = kept h fin few ends; lines = lines }

pub cycles_end_runs : CyclesEndRuns
cycles_end_runs = cycle-ends-run

-- lines with one more behind them are held where those before are, and then the one's entries and what is left
record HeldBefore (s : Standing) (lines : List (ℕ × (Thread × Act))) (line : ℕ × (Thread × Act)) (es : List Entry) : Type 0 where
  pub first : List Entry
  pub own : List Entry
  pub rest : List Entry
  pub mid : Standing
  pub all : es ≡ first ++ (own ++ rest)
  pub before : HoldsSoFar s lines first mid
  pub is : AreLine mid line.0 line.1 own
  pub left : AreLeft (standing_after mid line.0 line.1.1 own) rest

held-before : (s : Standing) (lines : List (ℕ × (Thread × Act))) (line : ℕ × (Thread × Act)) (es : List Entry) → HoldsLines s (lines ++ line ∷ []) es → HeldBefore s lines line es
held-before s [] line es h = record { first = []; own = h.0; rest = h.1; mid = s; all = h.2; before = (refl, refl); is = h.3; left = h.4 }
held-before s (x ∷ lines) line es h =
    let w = held-before (standing_after s x.0 x.1.1 h.0) lines line h.1 h.4 in
    record {
      first = h.0 ++ w.first;
      own = w.own;
      rest = w.rest;
      mid = w.mid;
      all = h.2 ∙ (ap (λ l. h.0 ++ l) w.all ∙ sym (append_assoc h.0 w.first (w.own ++ w.rest)));
      before = (h.0, w.first, refl, h.3, w.before);
      is = w.is;
      left = w.left;
    }

-- where the driver only runs cycles it is idle after each line
line-idle : (s : Standing) (number : ℕ) (line : Thread × Act) (es : List Entry) → (line.0 ≡ C → line ≡ cycle_line)
    → IsLine line.0 line.1 → s.phase ≡ at.Idle → (standing_after s number line.1 es).phase ≡ at.Idle
line-idle s number line es cycles lawful i = by line.0 refl
  where
    by : (t : Thread) → line.0 ≡ t → (standing_after s number line.1 es).phase ≡ at.Idle
    by C e = subst (λ (l : Thread × Act). (standing_after s number l.1 es).phase ≡ at.Idle) (sym (cycles e)) (cycle-idle s number es i)
    by (M n) e = subst (λ (z : Standing). z.phase ≡ at.Idle) (sym (others-stay line.1 (subst (λ t. IsLine t line.1) e lawful))) i
      where
        others-stay : (a : Act) → IsLine (M n) a → standing_after s number a es ≡ s
        others-stay (act.PhaseLine w) l = absurd l.1
        others-stay (act.Finalise k) l = absurd l.1
        others-stay a l = refl
    by (P n) e = subst (λ (z : Standing). z.phase ≡ at.Idle) (sym (others-stay line.1 (subst (λ t. IsLine t line.1) e lawful))) i
      where
        others-stay : (a : Act) → IsLine (P n) a → standing_after s number a es ≡ s
        others-stay (act.PhaseLine w) l = absurd l.1
        others-stay (act.Finalise k) l = absurd l.1
        others-stay a l = refl

so-far-idle : (script : List (Thread × Act)) (number : ℕ) (s t : Standing) (es : List Entry)
    → DrivesCycles script → HoldsSoFar s (numbered_from number script) es t → s.phase ≡ at.Idle → t.phase ≡ at.Idle
so-far-idle [] number s t es cycles h i = ap (λ (z : Standing). z.phase) h.1 ∙ i
so-far-idle (line ∷ script) number s t es cycles h i =
    so-far-idle script (number + 1) (standing_after s number line.1 h.0) t h.1 (λ l c. cycles l (Contains-there l line script c)) h.4
    (line-idle s number line h.0 (cycles line (Contains-here line script)) h.3.lawful i)

pub cycle_lines_end_runs : CycleLinesEndRuns
cycle_lines_end_runs script h cycles r =
    let held = subst (λ l. HoldsLines opening_standing l h.entries) (numbers_go_on 1 script cycle_line) r.lines in
    let w = held-before opening_standing (numbered_from 1 script) (1 + length script, cycle_line) h.entries held in
    let idle = so-far-idle script 1 opening_standing w.mid w.first cycles w.before refl in
    let rest : w.rest ≡ [] = subst (λ (p : Phase). ArePhases (standing_after w.mid (1 + length script) cycle_line.1 w.own).candidates (phases_left p) w.rest)
    (cycle-idle w.mid (1 + length script) w.own idle) w.left.events in
    let first : HoldsLines opening_standing (numbered_from 1 script) w.first =
    subst (HoldsLines opening_standing (numbered_from 1 script)) (append-nil w.first)
    (held_lines_end opening_standing w.mid (numbered_from 1 script) w.first w.before [] (idle_leaves_nothing w.mid idle))
    in
    record {
      noted = r.noted;
      kept = r.kept;
      lines = record {
        before = w.first;
        cycle = w.own;
        all = w.all ∙ ap (λ l. w.first ++ l) (ap (λ l. w.own ++ l) rest ∙ append-nil w.own);
        lines = line_order_gives_thread_order script w.first first;
        cycle_is = record { standing = w.mid; idle = idle; line = subst (λ n. AreLine w.mid n cycle_line w.own) (let same : 1 + length script ≡ length script + 1 = omega arith in same) w.is };
      };
    }
