use Rattle.std.proofs.Common.{Some, ◌≤◌, ◌∷◌, ◌∙◌, ap, decimal}
use Rattle.joint_machine.specs.Lines.{IsVar}
use Rattle.joint_machine.specs.declared.names.HNum.{HNum}
use Rattle.joint_machine.specs.declared.names.Kind.{Kind}
use Rattle.joint_machine.specs.declared.names.PNum.{PNum}
use Rattle.joint_machine.specs.declared.events.Op.TheVariants as op
use Rattle.bridge_script.specs.Words.{kind_text, var_text}
use Rattle.history_report.specs.Report.{peer_text}
use Rattle.entry_reader.specs.Fitting.{Short}
use Rattle.entry_reader.specs.declared.events.EventWord.TheVariants as word
use Rattle.entry_reader.specs.Events.{IsEventOf, others}
use Rattle.entry_reader.proofs.Parts.{goes_all, goes_on, goes_whole, goes_wrong}
use Rattle.entry_reader.proofs.Steps.{adopt_0, adopt_1, adopt_2, adopt_3, adopt_4, adopt_5, adopts, behind, handles, kinds, numbers, peers, vars}
use Rattle.entry_reader.proofs.events.take_adopt.Goals as goal

pub returns-in_err-v : goal.returns-in_err-v
returns-in_err-v c = rw c.from_residual.ensures
    (let g0 = goes_all (IsEventOf word.Adopt) others c.args.words.now in
    goes_wrong IsVar vars (IsEventOf word.Adopt) others (behind 0) (behind 1) c.args.words.now c.args.words.now c.take_var.new.words adopt_0 c.in_err-v.ensures g0)

pub returns-in_err-kind : goal.returns-in_err-kind
returns-in_err-kind c = rw c.from_residual-in_err-kind.ensures
    (let g0 = goes_all (IsEventOf word.Adopt) others c.args.words.now in
    let g1 = goes_on IsVar vars (IsEventOf word.Adopt) others (behind 0) (behind 1) c.args.words.now c.args.words.now c.take_var.new.words (Some c.in_ok-v.v) adopt_0 c.in_ok-v.ensures g0 in
    goes_wrong (λ (k : Kind). Unit {0}) kinds (IsEventOf word.Adopt) others (behind 1) (behind 2) c.args.words.now c.take_var.new.words c.take_kind.new.words adopt_1 c.in_err-kind.ensures g1)

pub returns-in_err-fields : goal.returns-in_err-fields
returns-in_err-fields c = rw c.from_residual-in_err-fields.ensures
    (let g0 = goes_all (IsEventOf word.Adopt) others c.args.words.now in
    let g1 = goes_on IsVar vars (IsEventOf word.Adopt) others (behind 0) (behind 1) c.args.words.now c.args.words.now c.take_var.new.words (Some c.in_ok-v.v) adopt_0 c.in_ok-v.ensures g0 in
    let g2 = goes_on (λ (k : Kind). Unit {0}) kinds (IsEventOf word.Adopt) others (behind 1)
    (behind 2) c.args.words.now c.take_var.new.words c.take_kind.new.words (Some c.in_ok-kind.kind) adopt_1 c.in_ok-kind.ensures g1 in
    goes_wrong (λ n. n ≤ 16) numbers (IsEventOf word.Adopt) others (behind 2) (behind 3) c.args.words.now c.take_kind.new.words c.take_fields.new.words adopt_2 c.in_err-fields.ensures g2)

pub returns-in_err-p : goal.returns-in_err-p
returns-in_err-p c = rw c.from_residual-in_err-p.ensures
    (let g0 = goes_all (IsEventOf word.Adopt) others c.args.words.now in
    let g1 = goes_on IsVar vars (IsEventOf word.Adopt) others (behind 0) (behind 1) c.args.words.now c.args.words.now c.take_var.new.words (Some c.in_ok-v.v) adopt_0 c.in_ok-v.ensures g0 in
    let g2 = goes_on (λ (k : Kind). Unit {0}) kinds (IsEventOf word.Adopt) others (behind 1)
    (behind 2) c.args.words.now c.take_var.new.words c.take_kind.new.words (Some c.in_ok-kind.kind) adopt_1 c.in_ok-kind.ensures g1 in
    let g3 = goes_on (λ n. n ≤ 16) numbers (IsEventOf word.Adopt) others (behind 2)
    (behind 3) c.args.words.now c.take_kind.new.words c.take_fields.new.words (Some c.in_ok-fields.fields) adopt_2 c.in_ok-fields.ensures g2 in
    goes_wrong (λ (p : PNum). Short p.0) peers (IsEventOf word.Adopt) others (behind 3) (behind 4) c.args.words.now c.take_fields.new.words c.take_peer.new.words adopt_3 c.in_err-p.ensures g3)

pub returns-in_err-h : goal.returns-in_err-h
returns-in_err-h c = rw c.from_residual-in_err-h.ensures
    (let g0 = goes_all (IsEventOf word.Adopt) others c.args.words.now in
    let g1 = goes_on IsVar vars (IsEventOf word.Adopt) others (behind 0) (behind 1) c.args.words.now c.args.words.now c.take_var.new.words (Some c.in_ok-v.v) adopt_0 c.in_ok-v.ensures g0 in
    let g2 = goes_on (λ (k : Kind). Unit {0}) kinds (IsEventOf word.Adopt) others (behind 1)
    (behind 2) c.args.words.now c.take_var.new.words c.take_kind.new.words (Some c.in_ok-kind.kind) adopt_1 c.in_ok-kind.ensures g1 in
    let g3 = goes_on (λ n. n ≤ 16) numbers (IsEventOf word.Adopt) others (behind 2)
    (behind 3) c.args.words.now c.take_kind.new.words c.take_fields.new.words (Some c.in_ok-fields.fields) adopt_2 c.in_ok-fields.ensures g2 in
    let g4 = goes_on (λ (p : PNum). Short p.0) peers (IsEventOf word.Adopt) others (behind 3)
    (behind 4) c.args.words.now c.take_fields.new.words c.take_peer.new.words (Some c.in_ok-p.p) adopt_3 c.in_ok-p.ensures g3 in
    goes_wrong (λ (h : HNum). Short h.0) handles (IsEventOf word.Adopt) others (behind 4) (behind 5) c.args.words.now c.take_peer.new.words c.take_handle.new.words adopt_4 c.in_err-h.ensures g4)

pub returns-then-not-is_adoptable : goal.returns-then-not-is_adoptable
returns-then-not-is_adoptable c =
    let e = c.in_ok-v.ensures.sound.1 ∙ ap (λ z. var_text c.in_ok-v.v ∷ z)
    (c.in_ok-kind.ensures.sound.1 ∙ ap (λ z. kind_text c.in_ok-kind.kind ∷ z)
    (c.in_ok-fields.ensures.sound.1 ∙ ap (λ z. decimal c.in_ok-fields.fields ∷ z) (c.in_ok-p.ensures.sound.1 ∙ ap (λ z. peer_text c.in_ok-p.p ∷ z) (c.in_ok-h.ensures.sound.1)))) in
    record {
      sound = tt;
      complete = λ o rest g f. absurd (c.if-not-is_adoptable.ensures
          (adopts c.in_ok-v.v c.in_ok-kind.kind c.in_ok-fields.fields c.in_ok-p.p c.in_ok-h.h c.args.words.now c.take_handle.new.words c.in_ok-fields.ensures.sound.0 e o rest g f));
    }

pub returns : goal.returns
returns c =
    let g0 = goes_all (IsEventOf word.Adopt) others c.args.words.now in
    let g1 = goes_on IsVar vars (IsEventOf word.Adopt) others (behind 0) (behind 1) c.args.words.now c.args.words.now c.take_var.new.words (Some c.in_ok-v.v) adopt_0 c.in_ok-v.ensures g0 in
    let g2 = goes_on (λ (k : Kind). Unit {0}) kinds (IsEventOf word.Adopt) others (behind 1)
    (behind 2) c.args.words.now c.take_var.new.words c.take_kind.new.words (Some c.in_ok-kind.kind) adopt_1 c.in_ok-kind.ensures g1 in
    let g3 = goes_on (λ n. n ≤ 16) numbers (IsEventOf word.Adopt) others (behind 2)
    (behind 3) c.args.words.now c.take_kind.new.words c.take_fields.new.words (Some c.in_ok-fields.fields) adopt_2 c.in_ok-fields.ensures g2 in
    let g4 = goes_on (λ (p : PNum). Short p.0) peers (IsEventOf word.Adopt) others (behind 3)
    (behind 4) c.args.words.now c.take_fields.new.words c.take_peer.new.words (Some c.in_ok-p.p) adopt_3 c.in_ok-p.ensures g3 in
    let g5 = goes_on (λ (h : HNum). Short h.0) handles (IsEventOf word.Adopt) others (behind 4)
    (behind 5) c.args.words.now c.take_peer.new.words c.take_handle.new.words (Some c.in_ok-h.h) adopt_4 c.in_ok-h.ensures g4 in
    goes_whole (IsEventOf word.Adopt) others (behind 5) c.args.words.now c.take_handle.new.words (op.Adopt c.in_ok-v.v c.in_ok-kind.kind c.in_ok-fields.fields c.in_ok-p.p c.in_ok-h.h) adopt_5 g5
    (c.in_ok-v.ensures.sound.0, c.if-not-is_adoptable.ensures, c.in_ok-p.ensures.sound.0, c.in_ok-h.ensures.sound.0)
    (c.in_ok-v.ensures.sound.1 ∙ ap (λ z. var_text c.in_ok-v.v ∷ z)
    (c.in_ok-kind.ensures.sound.1 ∙ ap (λ z. kind_text c.in_ok-kind.kind ∷ z)
    (c.in_ok-fields.ensures.sound.1 ∙ ap (λ z. decimal c.in_ok-fields.fields ∷ z) (c.in_ok-p.ensures.sound.1 ∙ ap (λ z. peer_text c.in_ok-p.p ∷ z) (c.in_ok-h.ensures.sound.1)))))
