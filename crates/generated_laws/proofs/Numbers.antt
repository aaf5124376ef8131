-- What a run of a generated script opens and makes: the sums over its entries are those over its lines.
use Rattle.std.proofs.Common.{◌≡◌, ℕ, ◌+◌, ◌*◌, ◌/◌, ◌≤◌, List, [], ◌∷◌, length, refl, sym, ap, subst, ◌∙◌, arith}
use Rattle.joint_machine.specs.declared.names.Thread.{Thread}
use Rattle.joint_machine.specs.declared.names.PhaseWord.TheVariants as word
use Rattle.joint_machine.specs.declared.lines.Act.{Act}
use Rattle.joint_machine.specs.declared.lines.Act.TheVariants as act
use Rattle.joint_machine.specs.declared.events.Op.{Op}
use Rattle.joint_machine.specs.declared.events.Reply.{Reply}
use Rattle.joint_machine.specs.declared.events.Entry.{Entry}
use Rattle.joint_machine.specs.Histories.{Finished}
use Rattle.run_summary.specs.declared.tallies.Objects.{Objects}
use Rattle.run_summary.specs.Tallies.{makes_managed, makes_peer, makes_handle, opens_cycle, tally_of, nothing_yet}
use Rattle.run_summary.specs.Lines.{one}
use Rattle.script_generator.specs.Generated.{generated}
use Rattle.script_generator.proofs.Counts.{generated_length, most_lines}
use Rattle.run_summary.specs.declared.tallies.Tally.{Tally}
use Rattle.generated_laws.specs.Counts.{made_by_families}
use Rattle.generated_laws.specs.Laws.{IsGeneratedRun}
use Rattle.generated_laws.proofs.Totals.{Each, each-append, total, total-append}
use Rattle.generated_laws.proofs.Readless.{callers, whole, exact}
use Rattle.generated_laws.proofs.Own.{HasAnswer, Measures, own-total}
use Rattle.generated_laws.proofs.Held.{script-total}
use Rattle.generated_laws.proofs.Unrefused.{asking, own-asks, cycle-asks, answers-all, tally-totals}
use Rattle.generated_laws.proofs.Counting.{managed_of, peers_of, handles_of, cycles_of, managed-measures, peers-measures, handles-measures, cycles-measures, managed-lines, peers-lines, handles-lines}
use Rattle.generated_laws.proofs.Counting.{cycles-lines, simple-lines}

abbrev Anything : Entry → Type 0
Anything e = Unit {0}

each-anything : (es : List Entry) → Each Anything es
each-anything [] = tt
each-anything (e ∷ es) = (tt, each-anything es)

twice : (script : List (Thread × Act)) → total (λ (line : Thread × Act). 2) script ≡ 2 * length script
twice [] = omega arith
twice (x ∷ script) = (let r = twice script in omega (arith, r))

-- as many cycles as the script has and the one behind it, and what its families make
pub record MakesTheSame (seed size : ℕ) (t : Tally) : Type 0 where
  pub cycles : t.cycles ≡ size / 100 + 1
  pub made : t.made ≡ made_by_families seed size

module _ (seed size : ℕ) (h : Finished) (small : size ≤ 2800) (w : IsGeneratedRun seed size h) where
  few-ask : total asking h.entries ≤ 65534
  few-ask =
      let before = script-total Anything asking (λ a. 2) (λ a b. a ≤ b) (omega arith) (λ a b c d p q. omega (arith, p, q)) own-asks
      (generated seed size) w.before (simple-lines seed size) (callers seed size h w) (each-anything w.before) w.lines in
      let lines = twice (generated seed size) in
      let number = generated_length seed size in
      let most = most_lines seed size small in
      let last = cycle-asks w.cycle (whole seed size h w) in
      let all = ap (total asking) w.all ∙ total-append asking w.before w.cycle in
      omega (arith, before, lines, number, most, last, all)

  pub answered : Each HasAnswer h.entries
  answered = subst (Each HasAnswer) w.linked.same (answers-all w.noted (exact seed size h w).lawful (subst (λ es. total asking es ≤ 65534) (sym w.linked.same) few-ask))

  both-answered : Each HasAnswer w.before × Each HasAnswer w.cycle
  both-answered = each-append HasAnswer w.before w.cycle (subst (Each HasAnswer) w.all answered)

  sums : (f : Op → Reply → ℕ) (g : Act → ℕ) → Measures f g → total (λ (e : Entry). f e.made.op e.made.reply) h.entries ≡ total
      (λ (line : Thread × Act). g line.1) (generated seed size) + g (act.PhaseLine word.Cycle)
  sums f g m =
      let before = script-total HasAnswer (λ (e : Entry). f e.made.op e.made.reply) g (λ a b. a ≡ b) refl (λ a b c d p q. omega (arith, p, q))
      (own-total f g m) (generated seed size) w.before (simple-lines seed size) (callers seed size h w) both-answered.0 w.lines in
      let last = own-total f g m w.standing (act.PhaseLine word.Cycle) w.cycle w.idle tt both-answered.1 w.line.events in
      let all = ap (total (λ (e : Entry). f e.made.op e.made.reply)) w.all ∙ total-append (λ (e : Entry). f e.made.op e.made.reply) w.before w.cycle in
      omega (arith, before, last, all)

  same-objects : (a b : Objects) → a.managed ≡ b.managed → a.peers ≡ b.peers → a.handles ≡ b.handles → a ≡ b
  same-objects a b m p q = λ i. record { managed = m i; peers = p i; handles = q i }

  pub makes-the-same : MakesTheSame seed size (tally_of h.entries)
  makes-the-same =
      let t = tally-totals nothing_yet h.entries in
      let c = sums (λ o r. one (opens_cycle o)) cycles_of cycles-measures in
      let m = sums (λ o r. one (makes_managed o r)) managed_of managed-measures in
      let p = sums (λ o r. one (makes_peer o r)) peers_of peers-measures in
      let q = sums (λ o r. one (makes_handle o r)) handles_of handles-measures in
      let cl = cycles-lines seed size in
      let ml = managed-lines seed size in
      let pl = peers-lines seed size in
      let ql = handles-lines seed size in
      record {
        cycles = omega (arith, t.cycles, c, cl);
        made = same-objects (tally_of h.entries).made (made_by_families seed size) (omega (arith, t.managed, m, ml)) (omega (arith, t.peers, p, pl)) (omega (arith, t.handles, q, ql));
      }
