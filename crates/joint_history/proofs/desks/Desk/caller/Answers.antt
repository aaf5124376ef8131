use Rattle.std.proofs.Common.{◌≡◌, None, true, sym, ap, subst, ◌∙◌}
use Rattle.std.specs.Prelude.{IfSome, slice_set, if◌then◌else◌}
use Rattle.joint_machine.specs.Control.{caller_place}
use Rattle.joint_history.specs.Callers.{IsOfRun, KnowsNothing}
use Rattle.joint_history.specs.Desks.{Waiting, has_thread, waits, without_caller}
use Rattle.joint_history.specs.Ending.{HasAll}
use Rattle.joint_history.proofs.Giving.{given_is_new, given_nothing, given_of_run, given_out, given_thread, left_desk}
use Rattle.joint_history.proofs.desks.Desk.caller.Goals as goal

pub give_out-requires : goal.give_out-requires
give_out-requires g c =
    let d : Waiting = record { managed = c.self.inside.managed; peers = c.self.inside.peers; callers = c.self.inside.callers.items } in
    let has : true ≡ has_thread d c.args.t = subst (λ (w : Waiting). true ≡ has_thread w c.args.t) (sym c.self.view_is) c.if-not-has.ensures in
    let e : c.take.result ≡ waits d c.args.t = c.take.ensures.value
    ∙ given_out d c.args.t c.place_of.result c.index_mut.result.now c.self.invariant.0 has c.place_of.ensures c.index_mut.ensures.value in
    subst (λ o. IfSome o (λ p. IsOfRun g.N.OrderName.managed g.N.OrderName.peers p.thread)) (sym e)
    (given_of_run d g.N.OrderName.managed g.N.OrderName.peers c.args.t c.self.invariant.0 has c.self.invariant.1 c.self.invariant.2)

pub returns-clause-thread : goal.returns-clause-thread
returns-clause-thread g c =
    let d : Waiting = record { managed = c.self.inside.managed; peers = c.self.inside.peers; callers = c.self.inside.callers.items } in
    let has : true ≡ has_thread d c.args.t = subst (λ (w : Waiting). true ≡ has_thread w c.args.t) (sym c.self.view_is) c.if-not-has.ensures in
    let e : c.give_out.result ≡ waits d c.args.t = c.give_out.ensures
    ∙ (c.take.ensures.value ∙ given_out d c.args.t c.place_of.result c.index_mut.result.now c.self.invariant.0 has c.place_of.ensures c.index_mut.ensures.value) in
    subst (λ o. IfSome o (λ p. p.thread ≡ c.args.t)) (sym e) (given_thread c.args.t (waits d c.args.t) (given_is_new d c.args.t c.self.invariant.0))

pub returns-clause-nothing : goal.returns-clause-nothing
returns-clause-nothing g c =
    let d : Waiting = record { managed = c.self.inside.managed; peers = c.self.inside.peers; callers = c.self.inside.callers.items } in
    let has : true ≡ has_thread d c.args.t = subst (λ (w : Waiting). true ≡ has_thread w c.args.t) (sym c.self.view_is) c.if-not-has.ensures in
    let e : c.give_out.result ≡ waits d c.args.t = c.give_out.ensures
    ∙ (c.take.ensures.value ∙ given_out d c.args.t c.place_of.result c.index_mut.result.now c.self.invariant.0 has c.place_of.ensures c.index_mut.ensures.value) in
    subst (λ o. IfSome o (λ p. KnowsNothing p.view)) (sym e) (given_nothing c.args.t (waits d c.args.t) (given_is_new d c.args.t c.self.invariant.0))

pub returns-clause-all : goal.returns-clause-all
returns-clause-all g c = λ ps all.
    let d : Waiting = record { managed = c.self.inside.managed; peers = c.self.inside.peers; callers = c.self.inside.callers.items } in
    let has : true ≡ has_thread d c.args.t = subst (λ (w : Waiting). true ≡ has_thread w c.args.t) (sym c.self.view_is) c.if-not-has.ensures in
    let e : c.give_out.result ≡ waits d c.args.t = c.give_out.ensures
    ∙ (c.take.ensures.value ∙ given_out d c.args.t c.place_of.result c.index_mut.result.now c.self.invariant.0 has c.place_of.ensures c.index_mut.ensures.value) in
    left_desk d c.args.t c.place_of.result c.give_out.result ps c.self.invariant.0 has c.place_of.ensures e
    (subst (λ (w : Waiting). HasAll w ps) (sym c.self.view_is) all) c.take.new.self c.take.ensures.after

pub returns-clause-caller : goal.returns-clause-caller
returns-clause-caller g c =
    let d : Waiting = record { managed = c.self.inside.managed; peers = c.self.inside.peers; callers = c.self.inside.callers.items } in
    let has : true ≡ has_thread d c.args.t = subst (λ (w : Waiting). true ≡ has_thread w c.args.t) (sym c.self.view_is) c.if-not-has.ensures in
    let e : c.give_out.result ≡ waits d c.args.t = c.give_out.ensures
    ∙ (c.take.ensures.value ∙ given_out d c.args.t c.place_of.result c.index_mut.result.now c.self.invariant.0 has c.place_of.ensures c.index_mut.ensures.value) in
    e ∙ ap (λ (w : Waiting). waits w c.args.t) c.self.view_is

pub returns-clause-desk : goal.returns-clause-desk
returns-clause-desk g c =
    let d : Waiting = record { managed = c.self.inside.managed; peers = c.self.inside.peers; callers = c.self.inside.callers.items } in
    let has : true ≡ has_thread d c.args.t = subst (λ (w : Waiting). true ≡ has_thread w c.args.t) (sym c.self.view_is) c.if-not-has.ensures in
    ap (λ o. record d { callers = slice_set d.callers c.place_of.result o }) c.take.ensures.after
    ∙ (ap (λ n. record d { callers = slice_set d.callers n None }) c.place_of.ensures
    ∙ (ap (λ b. if b then record d { callers = slice_set d.callers (caller_place c.args.t) None } else d) has
    ∙ ap (λ (w : Waiting). without_caller w c.args.t) c.self.view_is))
