-- No wait of a history answers `pending` where none of a caller's does: each entry is one of a thread's, and so one of
-- its caller's own.
use Rattle.std.proofs.Common.{◌≡◌, ⊎_elim, ap, sym, ◌∙◌, subst}
use Rattle.std.specs.Prelude.{Contains}
use Rattle.std.proofs.lemmas.List.Elements.{All-contains, Contains-append_cases}
use Rattle.joint_machine.specs.declared.names.Cell.{Cell}
use Rattle.joint_machine.specs.declared.lines.Act.{Act}
use Rattle.joint_machine.specs.declared.lines.Act.TheVariants as act
use Rattle.joint_machine.specs.declared.events.Op.{Op}
use Rattle.joint_machine.specs.declared.events.Op.TheVariants as op
use Rattle.joint_machine.specs.Lines.{IsManagedThread, is_read}
use Rattle.joint_machine.specs.PeerReplay.{is_thread}
use Rattle.joint_machine.proofs.HeapLemmas.{thread_itself}
use Rattle.joint_machine.proofs.Members.{Contains-filter_to, Contains-map_cases, Contains-nil}
use Rattle.joint_history.specs.Callers.{Pass, own}
use Rattle.joint_history.specs.Ending.{HasOwn}
use Rattle.joint_history.specs.Operations.{first_of}
use Rattle.script_laws.specs.Holding.{entries_by}
use Rattle.run_laws.specs.Threads.{CallersWaitsEnd, MoreWaitsEnd, OperationsWaitsEnd}
use Rattle.run_laws.specs.Waits.{WaitsEnd}
use Rattle.run_laws.proofs.ByThreads.{made_is_by}
use Rattle.run_laws.proofs.InOrderEnds.{history-events, history-threads, read-managed}
use Rattle.run_laws.proofs.Answering.{lone}

pub more_waits_end : MoreWaitsEnd
more_waits_end es fs a b e c k o waits pending = ⊎_elim (λ d. a e d k o waits pending) (λ d. b e d k o waits pending) (Contains-append_cases es fs e c)

-- an operation whose first event waits is a wait
waits-first : (a : Act) (k : Cell) → op.Line (act.Await k) ≡ first_of a → a ≡ act.Await k
waits-first (act.Bridge v kind n sort f) k e = absurd (cc)
waits-first (act.Pass v x) k e = absurd (cc)
waits-first (act.Surface v x) k e = absurd (cc)
waits-first (act.Dispose v) k e = absurd (cc)
waits-first act.Collect k e = absurd (cc)
waits-first act.BeginMark k e = absurd (cc)
waits-first act.SweepMark k e = absurd (cc)
waits-first a k e = ap (λ (o : Op). elim-line o) (sym e)
  where
    elim-line : Op → Act
    elim-line (op.Line b) = b
    elim-line o = act.Await k

pub operations_waits_end : OperationsWaitsEnd
operations_waits_end t index a es r o never e c k cycle waits pending =
    let l = lone t index a es r o e (ap is_read waits) c in
    never k cycle (waits-first a k (sym waits ∙ l.first)) (sym l.reply ∙ pending)

pub callers_waits_end : CallersWaitsEnd
callers_waits_end h d callers k all owns none ends e c cell cycle waits pending =
    let t = e.made.caller in
    let is = history-threads h k.noted k.linked e c in
    let managed : IsManagedThread t = read-managed t e.made.op (history-events h k.noted k.linked e c) (ap is_read waits) in
    let mine : Contains (entries_by t h.entries) e = Contains-filter_to (λ z. is_thread t z.made.caller) h.entries e c (thread_itself t) in
    ⊎_elim
    (λ nothing. Contains-nil e (subst (λ l. Contains l e) (sym (made_is_by t h.entries) ∙ none t is nothing) mine))
    (λ given.
    let g = Contains-map_cases (λ (p : Pass). p.thread) callers t given in
    let own_is = All-contains (HasOwn h.entries) callers g.0 owns g.1 in
    let ended = All-contains (λ (p : Pass). IsManagedThread p.thread → WaitsEnd (own p)) callers g.0 ends g.1 (subst IsManagedThread (sym g.2) managed) in
    ended e (subst (λ l. Contains l e) (sym (made_is_by g.0.thread h.entries) ∙ own_is) (subst (λ u. Contains (entries_by u h.entries) e) (sym g.2) mine)) cell cycle waits pending)
    (all t is)
