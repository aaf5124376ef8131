use Rattle.std.proofs.Common.{[], ◌∷◌, sym, subst}
use Rattle.joint_model.specs.Listed.{entry_lists}
use Rattle.joint_history.specs.Callers.{Pass, reads_of}
use Rattle.joint_history.specs.Ending.{GathersAll, HasIdleDriver, TakesOwn, with_reads}
use Rattle.joint_history.proofs.Ended.{takes_one}
use Rattle.joint_history.proofs.Gathering.{caller_at_rest, gathers_one}
use Rattle.joint_history.proofs.gathers.take_in.Goals as goal

pub returns-clause-gathers : goal.returns-clause-gathers
returns-clause-gathers g c =
    let t = c.pass.inside.thread in
    let w = c.pass.inside.seat.view in
    let reads = c.pass.inside.reads in
    let v = c.args.seat.now.view in
    let u = c.learn.new.seat.view in
    let lists = entry_lists c.args.lists.now in
    let rest = caller_at_rest t w reads c.pass.invariant.3 c.pass.invariant.2 c.pass.invariant.5 (subst HasIdleDriver (sym c.pass.view_is) c.requires.idle) in
    rw c.put_reads.ensures (subst (λ (p : Pass). GathersAll v u lists (with_reads t reads.entries lists) (p.thread ∷ [])) c.pass.view_is
    (gathers_one t reads.entries v w u lists c.pass.invariant.0 rest c.learn.ensures.takes c.learn.ensures.one_history))

pub returns-clause-own : goal.returns-clause-own
returns-clause-own g c =
    let p : Pass = record { thread = c.pass.inside.thread; view = c.pass.inside.seat.view; reads = reads_of c.pass.inside.thread c.pass.inside.reads } in
    subst (λ (q : Pass). TakesOwn c.args.seat.now.view c.learn.new.seat.view (q ∷ [])) c.pass.view_is
    (takes_one p c.args.seat.now.view c.learn.new.seat.view c.pass.invariant.0 c.pass.invariant.2 c.learn.ensures.takes)
