-- What the entries of held lines count: line by line, thread by thread, and of all threads together.
use Rattle.std.proofs.Common.{◌≡◌, ℕ, ◌+◌, List, [], ◌∷◌, refl, sym, ap, subst, ◌∙◌}
use Rattle.std.specs.Prelude.{unwrap_or}
use Rattle.joint_machine.specs.declared.names.Thread.{Thread}
use Rattle.joint_machine.specs.declared.names.Phase.{Phase}
use Rattle.joint_machine.specs.declared.names.Phase.TheVariants as at
use Rattle.joint_machine.specs.declared.names.PhaseWord.TheVariants as word
use Rattle.joint_machine.specs.declared.lines.Act.{Act}
use Rattle.joint_machine.specs.declared.lines.Act.TheVariants as act
use Rattle.joint_machine.specs.declared.events.Entry.{Entry}
use Rattle.joint_machine.specs.Lines.{IsThread}
use Rattle.joint_machine.specs.Phases.{next_phase, phases_left, ArePhases}
use Rattle.joint_machine.specs.PeerReplay.{is_thread}
use Rattle.script_laws.specs.Holding.{Standing, opening_standing, AreEvents, standing_after, HoldsLines, HoldsPerThread, numbered_from, lines_of, entries_by}
use Rattle.generated_laws.proofs.Totals.{Each, each-append, each-filter, total, total-append, all_threads, by_threads}
use Rattle.generated_laws.proofs.Own.{IsSimple}

-- the driver is idle after each line
pub idle-after : (s : Standing) (number : ℕ) (a : Act) (own : List Entry) → s.phase ≡ at.Idle → IsSimple a → (standing_after s number a own).phase ≡ at.Idle
idle-after s number (act.PhaseLine word.Cycle) own i w = subst (λ (p : Phase). unwrap_or (next_phase p word.Cycle) p ≡ at.Idle) (sym i) refl
idle-after s number (act.New v k n) own i w = i
idle-after s number (act.Bridge v k n sort f) own i w = i
idle-after s number (act.Set v j x) own i w = i
idle-after s number (act.Drop v) own i w = i
idle-after s number (act.Store x v) own i w = i
idle-after s number (act.Pass v x) own i w = i
idle-after s number (act.NewPeer v n) own i w = i
idle-after s number _ own i w = absurd w

abbrev pub IsSimpleLine : Thread × Act → Type 0
IsSimpleLine line = IsThread line.0 × IsSimple line.1

abbrev IsSimpleNumbered : ℕ × (Thread × Act) → Type 0
IsSimpleNumbered line = IsSimpleLine line.1

numbered-simple : (k : ℕ) (script : List (Thread × Act)) → Each IsSimpleLine script → Each IsSimpleNumbered (numbered_from k script)
numbered-simple k [] w = tt
numbered-simple k (x ∷ script) w = (w.0, numbered-simple (k + 1) script w.1)

each-threads : (lines : List (ℕ × (Thread × Act))) → Each IsSimpleNumbered lines → Each (λ (line : ℕ × (Thread × Act)). IsThread line.1.0) lines
each-threads [] w = tt
each-threads (x ∷ lines) w = (w.0.0, each-threads lines w.1)

module _ (Q : Entry → Type 0) (F : Entry → ℕ) (G : Act → ℕ) (R : ℕ → ℕ → Type 0) (none : R 0 0) (plus : (a b c d : ℕ) → R a b → R c d → R (a + c) (b + d))
    (own : (s : Standing) (a : Act) (es : List Entry) → s.phase ≡ at.Idle → IsSimple a → Each Q es → AreEvents s a es → R (total F es) (G a)) where
  abbrev of_line : ℕ × (Thread × Act) → ℕ
  of_line line = G line.1.1

  -- of the lines of one thread
  held-total : (lines : List (ℕ × (Thread × Act))) (s : Standing) (es : List Entry) → s.phase ≡ at.Idle
      → Each IsSimpleNumbered lines → Each Q es → HoldsLines s lines es → R (total F es) (total of_line lines)
  held-total [] s es i w q h =
      let e : es ≡ [] = subst (λ (p : Phase). ArePhases s.candidates (phases_left p) es) i h.events in
      subst (λ l. R (total F l) 0) (sym e) none
  held-total (line ∷ lines) s es i w q h =
      let parts = each-append Q h.0 h.1 (subst (Each Q) h.2 q) in
      let first = own s line.1.1 h.0 i w.0.1 parts.0 h.3.events in
      let rest = held-total lines (standing_after s line.0 line.1.1 h.0) h.1 (idle-after s line.0 line.1.1 h.0 i w.0.1) w.1 parts.1 h.4 in
      subst (λ n. R n (total of_line (line ∷ lines))) (sym (ap (total F) h.2 ∙ total-append F h.0 h.1)) (plus _ _ _ _ first rest)

  of-all : (a b : Thread → ℕ) (ts : List Thread) → ((t : Thread) → R (a t) (b t)) → R (total a ts) (total b ts)
  of-all a b [] e = none
  of-all a b (t ∷ ts) e = plus (a t) (b t) (total a ts) (total b ts) (e t) (of-all a b ts e)

  numbered-total : (k : ℕ) (script : List (Thread × Act)) → total of_line (numbered_from k script) ≡ total (λ (line : Thread × Act). G line.1) script
  numbered-total k [] = refl
  numbered-total k (x ∷ script) = ap (λ n. G x.1 + n) (numbered-total (k + 1) script)

  -- of the whole script
  pub script-total : (script : List (Thread × Act)) (es : List Entry) → Each IsSimpleLine script → Each (λ (e : Entry). IsThread e.made.caller) es → Each Q es → HoldsPerThread script es
      → R (total F es) (total (λ (line : Thread × Act). G line.1) script)
  script-total script es w t q h =
      let lines = numbered_from 1 script in
      let simple = numbered-simple 1 script w in
      let each : (u : Thread) → R (total F (entries_by u es)) (total of_line (lines_of u lines)) =
      λ u. held-total (lines_of u lines) opening_standing (entries_by u es) refl
      (each-filter IsSimpleNumbered (λ line. is_thread u line.1.0) lines simple) (each-filter Q (λ e. is_thread u e.made.caller) es q) (h u) in
      let entries-sum = by_threads (λ (e : Entry). e.made.caller) F es t in
      let lines-sum = by_threads (λ (line : ℕ × (Thread × Act)). line.1.0) of_line lines (each-threads lines simple) in
      let sums = of-all (λ u. total F (entries_by u es)) (λ u. total of_line (lines_of u lines)) all_threads each in
      subst (λ n. R n (total (λ (line : Thread × Act). G line.1) script)) (sym entries-sum)
      (subst (λ n. R (total (λ u. total F (entries_by u es)) all_threads) n) (sym lines-sum ∙ numbered-total 1 script) sums)
