use Rattle.std.proofs.Common.{Some, ◌≤◌, ◌∷◌, ◌∙◌, ap}
use Rattle.joint_machine.specs.Lines.{IsVar}
use Rattle.joint_machine.specs.declared.names.HNum.{HNum}
use Rattle.joint_machine.specs.declared.names.PNum.{PNum}
use Rattle.joint_machine.specs.declared.names.Sort.{Sort}
use Rattle.joint_machine.specs.declared.events.Op.TheVariants as op
use Rattle.bridge_script.specs.Words.{sort_text, var_text}
use Rattle.history_report.specs.Report.{handle_text, peer_text}
use Rattle.entry_reader.specs.Fitting.{Short}
use Rattle.entry_reader.specs.declared.events.EventWord.TheVariants as word
use Rattle.entry_reader.specs.Events.{IsEventOf, others}
use Rattle.entry_reader.proofs.Parts.{goes_all, goes_on, goes_whole, goes_wrong}
use Rattle.entry_reader.proofs.Steps.{behind, handles, meet_0, meet_1, meet_2, meet_3, meet_4, meet_5, numbers, peers, sorts, vars}
use Rattle.entry_reader.proofs.events.take_meet.Goals as goal

pub returns-in_err-v : goal.returns-in_err-v
returns-in_err-v c = rw c.from_residual.ensures
    (let g0 = goes_all (IsEventOf word.Meet) others c.args.words.now in
    goes_wrong IsVar vars (IsEventOf word.Meet) others (behind 0) (behind 1) c.args.words.now c.args.words.now c.take_var.new.words meet_0 c.in_err-v.ensures g0)

pub returns-in_err-p : goal.returns-in_err-p
returns-in_err-p c = rw c.from_residual-in_err-p.ensures
    (let g0 = goes_all (IsEventOf word.Meet) others c.args.words.now in
    let g1 = goes_on IsVar vars (IsEventOf word.Meet) others (behind 0) (behind 1) c.args.words.now c.args.words.now c.take_var.new.words (Some c.in_ok-v.v) meet_0 c.in_ok-v.ensures g0 in
    goes_wrong (λ (p : PNum). Short p.0) peers (IsEventOf word.Meet) others (behind 1) (behind 2) c.args.words.now c.take_var.new.words c.take_peer.new.words meet_1 c.in_err-p.ensures g1)

pub returns-in_err-h : goal.returns-in_err-h
returns-in_err-h c = rw c.from_residual-in_err-h.ensures
    (let g0 = goes_all (IsEventOf word.Meet) others c.args.words.now in
    let g1 = goes_on IsVar vars (IsEventOf word.Meet) others (behind 0) (behind 1) c.args.words.now c.args.words.now c.take_var.new.words (Some c.in_ok-v.v) meet_0 c.in_ok-v.ensures g0 in
    let g2 = goes_on (λ (p : PNum). Short p.0) peers (IsEventOf word.Meet) others (behind 1)
    (behind 2) c.args.words.now c.take_var.new.words c.take_peer.new.words (Some c.in_ok-p.p) meet_1 c.in_ok-p.ensures g1 in
    goes_wrong (λ (h : HNum). Short h.0) handles (IsEventOf word.Meet) others (behind 2) (behind 3) c.args.words.now c.take_peer.new.words c.take_handle.new.words meet_2 c.in_err-h.ensures g2)

pub returns-in_err-sort : goal.returns-in_err-sort
returns-in_err-sort c = rw c.from_residual-in_err-sort.ensures
    (let g0 = goes_all (IsEventOf word.Meet) others c.args.words.now in
    let g1 = goes_on IsVar vars (IsEventOf word.Meet) others (behind 0) (behind 1) c.args.words.now c.args.words.now c.take_var.new.words (Some c.in_ok-v.v) meet_0 c.in_ok-v.ensures g0 in
    let g2 = goes_on (λ (p : PNum). Short p.0) peers (IsEventOf word.Meet) others (behind 1)
    (behind 2) c.args.words.now c.take_var.new.words c.take_peer.new.words (Some c.in_ok-p.p) meet_1 c.in_ok-p.ensures g1 in
    let g3 = goes_on (λ (h : HNum). Short h.0) handles (IsEventOf word.Meet) others (behind 2)
    (behind 3) c.args.words.now c.take_peer.new.words c.take_handle.new.words (Some c.in_ok-h.h) meet_2 c.in_ok-h.ensures g2 in
    goes_wrong (λ (s : Sort). Unit {0}) sorts (IsEventOf word.Meet) others (behind 3) (behind 4) c.args.words.now c.take_handle.new.words c.take_sort.new.words meet_3 c.in_err-sort.ensures g3)

pub returns-in_err-fields : goal.returns-in_err-fields
returns-in_err-fields c = rw c.from_residual-in_err-fields.ensures
    (let g0 = goes_all (IsEventOf word.Meet) others c.args.words.now in
    let g1 = goes_on IsVar vars (IsEventOf word.Meet) others (behind 0) (behind 1) c.args.words.now c.args.words.now c.take_var.new.words (Some c.in_ok-v.v) meet_0 c.in_ok-v.ensures g0 in
    let g2 = goes_on (λ (p : PNum). Short p.0) peers (IsEventOf word.Meet) others (behind 1)
    (behind 2) c.args.words.now c.take_var.new.words c.take_peer.new.words (Some c.in_ok-p.p) meet_1 c.in_ok-p.ensures g1 in
    let g3 = goes_on (λ (h : HNum). Short h.0) handles (IsEventOf word.Meet) others (behind 2)
    (behind 3) c.args.words.now c.take_peer.new.words c.take_handle.new.words (Some c.in_ok-h.h) meet_2 c.in_ok-h.ensures g2 in
    let g4 = goes_on (λ (s : Sort). Unit {0}) sorts (IsEventOf word.Meet) others (behind 3)
    (behind 4) c.args.words.now c.take_handle.new.words c.take_sort.new.words (Some c.in_ok-sort.sort) meet_3 c.in_ok-sort.ensures g3 in
    goes_wrong (λ n. n ≤ 16) numbers (IsEventOf word.Meet) others (behind 4) (behind 5) c.args.words.now c.take_sort.new.words c.take_fields.new.words meet_4 c.in_err-fields.ensures g4)

pub returns : goal.returns
returns c =
    let g0 = goes_all (IsEventOf word.Meet) others c.args.words.now in
    let g1 = goes_on IsVar vars (IsEventOf word.Meet) others (behind 0) (behind 1) c.args.words.now c.args.words.now c.take_var.new.words (Some c.in_ok-v.v) meet_0 c.in_ok-v.ensures g0 in
    let g2 = goes_on (λ (p : PNum). Short p.0) peers (IsEventOf word.Meet) others (behind 1)
    (behind 2) c.args.words.now c.take_var.new.words c.take_peer.new.words (Some c.in_ok-p.p) meet_1 c.in_ok-p.ensures g1 in
    let g3 = goes_on (λ (h : HNum). Short h.0) handles (IsEventOf word.Meet) others (behind 2)
    (behind 3) c.args.words.now c.take_peer.new.words c.take_handle.new.words (Some c.in_ok-h.h) meet_2 c.in_ok-h.ensures g2 in
    let g4 = goes_on (λ (s : Sort). Unit {0}) sorts (IsEventOf word.Meet) others (behind 3)
    (behind 4) c.args.words.now c.take_handle.new.words c.take_sort.new.words (Some c.in_ok-sort.sort) meet_3 c.in_ok-sort.ensures g3 in
    let g5 = goes_on (λ n. n ≤ 16) numbers (IsEventOf word.Meet) others (behind 4)
    (behind 5) c.args.words.now c.take_sort.new.words c.take_fields.new.words (Some c.in_ok-fields.fields) meet_4 c.in_ok-fields.ensures g4 in
    goes_whole (IsEventOf word.Meet) others (behind 5) c.args.words.now c.take_fields.new.words (op.Meet c.in_ok-v.v c.in_ok-sort.sort c.in_ok-fields.fields c.in_ok-p.p c.in_ok-h.h) meet_5 g5
    (c.in_ok-v.ensures.sound.0, c.in_ok-fields.ensures.sound.0, c.in_ok-p.ensures.sound.0, c.in_ok-h.ensures.sound.0)
    (c.in_ok-v.ensures.sound.1 ∙ ap (λ z. var_text c.in_ok-v.v ∷ z)
    (c.in_ok-p.ensures.sound.1 ∙ ap (λ z. peer_text c.in_ok-p.p ∷ z)
    (c.in_ok-h.ensures.sound.1 ∙ ap (λ z. handle_text c.in_ok-h.h ∷ z) (c.in_ok-sort.ensures.sound.1 ∙ ap (λ z. sort_text c.in_ok-sort.sort ∷ z) (c.in_ok-fields.ensures.sound.1)))))
