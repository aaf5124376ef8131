use Rattle.std.proofs.Common.{◌<◌, length, refl, subst, sym, ap, ◌∙◌, arith, true≢false}
use Rattle.std.proofs.lemmas.Option.{slice_get_read}
use Rattle.std.proofs.lemmas.Result.{on_ok_weaker}
use Rattle.joint_machine.specs.declared.names.Thread.TheVariants.{C}
use Rattle.joint_machine.specs.PeerReplay.{is_thread}
use Rattle.joint_history.specs.Operations.{IsOperationOf}
use Rattle.script_runs.proofs.Told.{placed_thread, own_thread, runs_other}
use Rattle.script_runs.proofs.Making.{line_operation}
use Rattle.script_runs.proofs.serial.run_other.Goals as goal

pub place_among-requires : goal.place_among-requires
place_among-requires g c = own_thread c.args.line.now.0 c.args.line.now.1 c.requires.line (λ e. true≢false (sym (ap (is_thread C) e) ∙ c.requires.other))

pub run_told-requires-clause-act : goal.run_told-requires-clause-act
run_told-requires-clause-act g c =
    let few : c.place_among.result < length c.args.others.now.items = (let n = c.requires.others.count in let m = c.place_among.ensures.few in omega (arith, n, m)) in
    let at = slice_get_read c.args.others.now.items (length c.args.others.now.items) c.place_among.result c.index_mut.result.now refl few c.index_mut.ensures.value in
    let t = c.args.line.now.0 in
    let is = own_thread t c.args.line.now.1 c.requires.line (λ e. true≢false (sym (ap (is_thread C) e) ∙ c.requires.other)) in
    let thread = placed_thread c.args.others.now.items c.place_among.result c.index_mut.result.now t c.requires.others at is c.place_among.ensures.place in
    subst (λ u. IsOperationOf u c.args.line.now.1) (sym thread) (line_operation t c.args.line.now.1 is c.requires.line)

pub run_told-requires-clause-index : goal.run_told-requires-clause-index
run_told-requires-clause-index g c =
    let few : c.place_among.result < length c.args.others.now.items = (let n = c.requires.others.count in let m = c.place_among.ensures.few in omega (arith, n, m)) in
    c.requires.up_to c.place_among.result c.index_mut.result.now
    (slice_get_read c.args.others.now.items (length c.args.others.now.items) c.place_among.result c.index_mut.result.now refl few c.index_mut.ensures.value)

pub returns : goal.returns
returns g c =
    let few : c.place_among.result < length c.args.others.now.items = (let n = c.requires.others.count in let m = c.place_among.ensures.few in omega (arith, n, m)) in
    let at = slice_get_read c.args.others.now.items (length c.args.others.now.items) c.place_among.result c.index_mut.result.now refl few c.index_mut.ensures.value in
    let t = c.args.line.now.0 in
    let is = own_thread t c.args.line.now.1 c.requires.line (λ e. true≢false (sym (ap (is_thread C) e) ∙ c.requires.other)) in
    let thread = placed_thread c.args.others.now.items c.place_among.result c.index_mut.result.now t c.requires.others at is c.place_among.ensures.place in
    on_ok_weaker c.run_told.result (runs_other c.args.others.now.items c.place_among.result c.index_mut.result.now c.run_told.new.caller at c.args.number
    c.args.line.now.1 t c.args.driver.now c.run_told.new.driver c.requires.others c.requires.up_to thread c.run_told.ensures.thread c.run_told.ensures.index) c.run_told.ensures.ok
