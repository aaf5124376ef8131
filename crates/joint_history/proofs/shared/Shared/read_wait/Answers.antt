use Rattle.std.proofs.Common.{◌≡◌, ◌+◌, ◌≤◌, arith, rules, subst, sym}
use Rattle.joint_machine.specs.Lines.{IsManagedThread}
use Rattle.joint_model.specs.Listed.{Stock}
use Rattle.joint_history.specs.Callers.{Pass, last_index, own, reads_of}
use Rattle.joint_history.specs.Operations.{ReadsBy}
use Rattle.joint_history.proofs.LoneReads.{read_alone_by, reads_seen}
use Rattle.joint_history.proofs.shared.Shared.read_wait.Goals as goal

pub invariant_of-caller : goal.invariant_of-caller
invariant_of-caller g c =
    let is = subst (λ (p : Pass). IsManagedThread p.thread) (sym c.caller.view_is) c.requires.act.0 in
    let last = subst (λ (p : Pass). last_index (own p) ≤ c.args.index) (sym c.caller.view_is) c.requires.index in
    let w = read_alone_by c.caller.inside.thread c.reader_of-reader.result c.args.index c.args.act.now c.read_waiting-got.result.0
    c.read_waiting-got.result.1 c.caller.inside.seat.view c.read_waiting-got.new.seat.view c.caller.inside.reads c.read_waiting-got.new.entries
    is c.reader_of-reader.ensures.number c.reader_of-reader.ensures.few.0 c.reader_of-reader.ensures.few.1 c.requires.act.1
    (omega (arith, c.ranges.index.fits)) c.read_waiting-got.ensures.answers c.caller.invariant.2 c.caller.invariant.3 c.caller.invariant.5 last in
    (c.caller.invariant.0, (let o = c.read_waiting-got.ensures.order in search rules), w.pass, w.knows, c.read_waiting-got.ensures.settled, w.keeps)

pub returns-clause-index : goal.returns-clause-index
returns-clause-index g c =
    let is = subst (λ (p : Pass). IsManagedThread p.thread) (sym c.caller.view_is) c.requires.act.0 in
    let last = subst (λ (p : Pass). last_index (own p) ≤ c.args.index) (sym c.caller.view_is) c.requires.index in
    (read_alone_by c.caller.inside.thread c.reader_of-reader.result c.args.index c.args.act.now c.read_waiting-got.result.0
    c.read_waiting-got.result.1 c.caller.inside.seat.view c.read_waiting-got.new.seat.view c.caller.inside.reads c.read_waiting-got.new.entries
    is c.reader_of-reader.ensures.number c.reader_of-reader.ensures.few.0 c.reader_of-reader.ensures.few.1 c.requires.act.1
    (omega (arith, c.ranges.index.fits)) c.read_waiting-got.ensures.answers c.caller.invariant.2 c.caller.invariant.3 c.caller.invariant.5 last).below

pub returns-clause-reads : goal.returns-clause-reads
returns-clause-reads g c =
    let is = subst (λ (p : Pass). IsManagedThread p.thread) (sym c.caller.view_is) c.requires.act.0 in
    let last = subst (λ (p : Pass). last_index (own p) ≤ c.args.index) (sym c.caller.view_is) c.requires.index in
    let w = read_alone_by c.caller.inside.thread c.reader_of-reader.result c.args.index c.args.act.now c.read_waiting-got.result.0
    c.read_waiting-got.result.1 c.caller.inside.seat.view c.read_waiting-got.new.seat.view c.caller.inside.reads c.read_waiting-got.new.entries
    is c.reader_of-reader.ensures.number c.reader_of-reader.ensures.few.0 c.reader_of-reader.ensures.few.1 c.requires.act.1
    (omega (arith, c.ranges.index.fits)) c.read_waiting-got.ensures.answers c.caller.invariant.2 c.caller.invariant.3 c.caller.invariant.5 last in
    subst (λ (p : Pass). ReadsBy p (record { thread = c.caller.inside.thread; view = c.read_waiting-got.new.seat.view; reads = reads_of c.caller.inside.thread c.read_waiting-got.new.entries })
    c.args.index c.args.act.now c.read_waiting-got.result.1) c.caller.view_is
    (record { number = c.read_waiting-got.result.0; reads = w.reads; runs = w.runs; entries = w.entries })

pub read_waiting-got-requires-clause-spare : goal.read_waiting-got-requires-clause-spare
read_waiting-got-requires-clause-spare g c =
    let is = subst (λ (p : Pass). IsManagedThread p.thread) (sym c.caller.view_is) c.requires.act.0 in
    subst (λ (s : Stock). 1 ≤ s.spare) (reads_seen c.caller.inside.thread c.caller.inside.reads is) (subst (λ (p : Pass). 1 ≤ p.reads.spare) (sym c.caller.view_is) c.requires.spare)

pub returns-clause-spare : goal.returns-clause-spare
returns-clause-spare g c =
    let is = subst (λ (p : Pass). IsManagedThread p.thread) (sym c.caller.view_is) c.requires.act.0 in
    let last = subst (λ (p : Pass). last_index (own p) ≤ c.args.index) (sym c.caller.view_is) c.requires.index in
    let w = read_alone_by c.caller.inside.thread c.reader_of-reader.result c.args.index c.args.act.now c.read_waiting-got.result.0
    c.read_waiting-got.result.1 c.caller.inside.seat.view c.read_waiting-got.new.seat.view c.caller.inside.reads c.read_waiting-got.new.entries
    is c.reader_of-reader.ensures.number c.reader_of-reader.ensures.few.0 c.reader_of-reader.ensures.few.1 c.requires.act.1
    (omega (arith, c.ranges.index.fits)) c.read_waiting-got.ensures.answers c.caller.invariant.2 c.caller.invariant.3 c.caller.invariant.5 last in
    subst (λ (p : Pass). (reads_of c.caller.inside.thread c.read_waiting-got.new.entries).spare + 1 ≡ p.reads.spare) c.caller.view_is w.spare
