-- A run of a generated script has no read: no line of it is one. So its history is a lawful list in which reads are
-- events as all others are, however its threads race.
use Rattle.std.proofs.Common.{◌≡◌, ℕ, ◌≤◌, Bool, true, false, List, [], ◌∷◌, ◌++◌, Option, Some, None, refl, ap, subst, ◌∙◌, arith}
use Rattle.std.specs.Prelude.{All}
use Rattle.std.proofs.lemmas.List.Elements.{All-cons, All-nil}
use Rattle.joint_machine.specs.declared.names.Thread.{Thread}
use Rattle.joint_machine.specs.declared.names.Phase.TheVariants as at
use Rattle.joint_machine.specs.declared.names.PhaseWord.TheVariants as word
use Rattle.joint_machine.specs.declared.lines.Act.{Act}
use Rattle.joint_machine.specs.declared.lines.Act.TheVariants as act
use Rattle.joint_machine.specs.declared.events.Op.{Op}
use Rattle.joint_machine.specs.declared.events.Op.TheVariants as op
use Rattle.joint_machine.specs.declared.events.Reply.{Reply}
use Rattle.joint_machine.specs.declared.events.Reply.TheVariants as says
use Rattle.joint_machine.specs.declared.events.Entry.{Entry}
use Rattle.joint_machine.specs.Histories.{Finished}
use Rattle.joint_machine.specs.Lines.{IsThread, is_read}
use Rattle.joint_machine.specs.Linked.{Linkage, opening_linkage}
use Rattle.joint_machine.specs.LinkedHistories.{managed_end}
use Rattle.joint_machine.specs.Readers.{AllMayComeReading, entry_after}
use Rattle.joint_machine.specs.Told.{Noted}
use Rattle.joint_laws.specs.ReadingLaws.{IsExactList}
use Rattle.joint_laws.proofs.ExactReads.{exact_readings_are_lawful, readless_is_exact}
use Rattle.joint_laws.proofs.FittingLists.{event-of}
use Rattle.known_laws.specs.PastEntries.{entries}
use Rattle.known_laws.proofs.Lists.{event-thread}
use Rattle.run_summary.specs.Lines.{one}
use Rattle.script_generator.specs.Generated.{generated}
use Rattle.script_laws.specs.Holding.{Standing, next_event, AreEventsAfter, AreEvents}
use Rattle.generated_laws.specs.Laws.{IsGeneratedRun}
use Rattle.generated_laws.proofs.Totals.{Each, each-append, total, total-append}
use Rattle.generated_laws.proofs.Own.{IsSimple, IsLater, IsLaterEntry, IsCycleOf, whole_cycle}
use Rattle.generated_laws.proofs.Held.{script-total}
use Rattle.generated_laws.proofs.Counting.{simple-lines}

-- how many reads there are
abbrev reading : Entry → ℕ
reading e = one (is_read e.made.op)

abbrev IsUnread : Option Op → Type 0
IsUnread None = Unit {0}
IsUnread (Some o) = is_read o ≡ false

-- no event of an operation is one
bridge-next : (a : Act) (rs : List Reply) → IsUnread (next_event a []) → ((r : Reply) → IsUnread (next_event a (r ∷ [])))
    → ((r q : Reply) (rest : List Reply) → IsUnread (next_event a (r ∷ q ∷ rest))) → IsUnread (next_event a rs)
bridge-next a [] x y z = x
bridge-next a (r ∷ []) x y z = y r
bridge-next a (r ∷ q ∷ rs) x y z = z r q rs

after-made : (a : Act) → IsSimple a → (r : Reply) → IsUnread (next_event a (r ∷ []))
after-made (act.Bridge v k n sort f) w (says.Made p h) = refl
after-made (act.Bridge v k n sort f) w _ = tt
after-made (act.Pass v x) w (says.H h) = refl
after-made (act.Pass v x) w _ = tt
after-made (act.New v k n) w r = tt
after-made (act.NewPeer v n) w r = tt
after-made (act.Set v i x) w r = tt
after-made (act.Drop v) w r = tt
after-made (act.Store x v) w r = tt
after-made (act.PhaseLine word.Cycle) w r = tt
after-made _ w r = absurd w

after-two : (a : Act) → IsSimple a → (r q : Reply) (rs : List Reply) → IsUnread (next_event a (r ∷ q ∷ rs))
after-two (act.Bridge v k n sort f) w (says.Made p h) q rs = tt
after-two (act.Bridge v k n sort f) w _ q rs = tt
after-two (act.Pass v x) w (says.H h) q rs = tt
after-two (act.Pass v x) w _ q rs = tt
after-two (act.New v k n) w r q rs = tt
after-two (act.NewPeer v n) w r q rs = tt
after-two (act.Set v i x) w r q rs = tt
after-two (act.Drop v) w r q rs = tt
after-two (act.Store x v) w r q rs = tt
after-two (act.PhaseLine word.Cycle) w r q rs = tt
after-two _ w r q rs = absurd w

at-first : (a : Act) → IsSimple a → IsUnread (next_event a [])
at-first (act.Bridge v k n sort f) w = refl
at-first (act.Pass v x) w = refl
at-first (act.New v k n) w = refl
at-first (act.NewPeer v n) w = refl
at-first (act.Set v i x) w = refl
at-first (act.Drop v) w = refl
at-first (act.Store x v) w = refl
at-first (act.PhaseLine word.Cycle) w = tt
at-first _ w = absurd w

after-reads : (a : Act) (rs : List Reply) (own : List Entry) → IsSimple a → AreEventsAfter a rs own → total reading own ≡ 0
after-reads a rs [] w e = refl
after-reads a rs (x ∷ own) w e =
    let u : is_read x.made.op ≡ false = subst IsUnread e.0 (bridge-next a rs (at-first a w) (after-made a w) (after-two a w)) in
    let r = after-reads a (rs ++ x.made.reply ∷ []) own w e.1 in
    let o = ap one u in
    omega (arith, o, r)

later-unread : (o : Op) → IsLater o → one (is_read o) ≡ 0
later-unread (op.Contract k) l = refl
later-unread (op.Mirror k) l = refl
later-unread (op.Weaken h) l = refl
later-unread op.Begin l = refl
later-unread op.Sweep l = refl
later-unread (op.Restore h) l = refl
later-unread (op.Clear k) l = refl
later-unread (op.Resolve k) l = refl
later-unread _ l = absurd l

laters-unread : (es : List Entry) → Each IsLaterEntry es → total reading es ≡ 0
laters-unread [] l = refl
laters-unread (e ∷ es) l = (let a = later-unread e.made.op l.0 in let r = laters-unread es l.1 in omega (arith, a, r))

cycle-reads : (es : List Entry) → IsCycleOf es → total reading es ≡ 0
cycle-reads es c = (let s = ap (λ o. one (is_read o)) c.snaps in let l = laters-unread c.later c.are_later in ap (total reading) c.all ∙ omega (arith, s, l))

own-reads : (s : Standing) (a : Act) (own : List Entry) → s.phase ≡ at.Idle → IsSimple a → Each (λ (e : Entry). Unit {0}) own → AreEvents s a own → total reading own ≤ 0
own-reads s (act.New v k n) own i w q e = omega (arith, after-reads (act.New v k n) [] own w e)
own-reads s (act.NewPeer v n) own i w q e = omega (arith, after-reads (act.NewPeer v n) [] own w e)
own-reads s (act.Set v j x) own i w q e = omega (arith, after-reads (act.Set v j x) [] own w e)
own-reads s (act.Drop v) own i w q e = omega (arith, after-reads (act.Drop v) [] own w e)
own-reads s (act.Store x v) own i w q e = omega (arith, after-reads (act.Store x v) [] own w e)
own-reads s (act.Bridge v k n sort l) own i w q e = omega (arith, after-reads (act.Bridge v k n sort l) [] own w e)
own-reads s (act.Pass v x) own i w q e = omega (arith, after-reads (act.Pass v x) [] own w e)
own-reads s (act.PhaseLine word.Cycle) own i w q e = omega (arith, cycle-reads own (whole_cycle s own i e))
own-reads s _ own i w q e = absurd w

no-sum : (script : List (Thread × Act)) → total (λ (line : Thread × Act). 0) script ≡ 0
no-sum [] = refl
no-sum (x ∷ script) = (let r = no-sum script in omega (arith, r))

-- each entry's caller is one of those that a script can have
abbrev IsByThread : Entry → Type 0
IsByThread e = IsThread e.made.caller

by-threads : (whole : List Noted) (cells : List (Option ℕ)) (s : Linkage) (ns : List Noted) → AllMayComeReading whole cells s ns → Each IsByThread (entries ns)
by-threads whole cells s [] a = tt
by-threads whole cells s (n ∷ ns) a = (event-thread n.entry.made.caller n.entry.made.op (event-of (is_read n.entry.made.op) whole cells s n a.0), by-threads whole cells (entry_after s n) ns a.1)

each-anything : (es : List Entry) → Each (λ (e : Entry). Unit {0}) es
each-anything [] = tt
each-anything (e ∷ es) = (tt, each-anything es)

none-read : (ns : List Noted) → total reading (entries ns) ≡ 0 → All (λ (n : Noted). is_read n.entry.made.op ≡ false) ns
none-read [] e = All-nil (λ (n : Noted). is_read n.entry.made.op ≡ false)
none-read (n ∷ ns) e = All-cons (λ (n : Noted). is_read n.entry.made.op ≡ false) n ns (unread (is_read n.entry.made.op) (omega (arith, e))) (none-read ns (omega (arith, e)))
  where
    unread : (b : Bool) → one b ≡ 0 → b ≡ false
    unread true q = absurd (omega (arith, q))
    unread false q = refl

module _ (seed size : ℕ) (h : Finished) (w : IsGeneratedRun seed size h) where
  pub callers : Each IsByThread w.before
  callers = (each-append IsByThread w.before w.cycle (subst (Each IsByThread) (w.linked.same ∙ w.all) (by-threads w.noted (managed_end w.noted).cells opening_linkage w.noted w.linked.lawful))).0

  pub whole : IsCycleOf w.cycle
  whole = whole_cycle w.standing w.cycle w.idle w.line.events

  no-reads : total reading h.entries ≡ 0
  no-reads =
      let before = script-total (λ (e : Entry). Unit {0}) reading (λ a. 0) (λ a b. a ≤ b) (omega arith) (λ a b c d p q. omega (arith, p, q)) own-reads
      (generated seed size) w.before (simple-lines seed size) callers (each-anything w.before) w.lines in
      let none = no-sum (generated seed size) in
      let last = cycle-reads w.cycle whole in
      let all = ap (total reading) w.all ∙ total-append reading w.before w.cycle in
      omega (arith, before, none, last, all)

  pub exact : IsExactList w.noted
  exact = exact_readings_are_lawful w.noted (w.noted, (managed_end w.noted).cells, w.linked.lawful)
      (readless_is_exact w.noted opening_linkage (none-read w.noted (ap (total reading) w.linked.same ∙ no-reads)))
