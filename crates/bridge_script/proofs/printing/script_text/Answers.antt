use Rattle.std.proofs.Common.{◌≡◌, [], ◌∷◌, ◌++◌, take, get_or, sym, ◌∙◌, ap}
use Rattle.std.proofs.lemmas.Bool.{false≢true}
use Rattle.std.proofs.lemmas.List.{take_all, take_more}
use Rattle.joint_machine.specs.declared.names.Kind.TheVariants as kind
use Rattle.joint_machine.specs.declared.names.Thread.{Thread}
use Rattle.joint_machine.specs.declared.names.Thread.TheVariants.{M}
use Rattle.joint_machine.specs.declared.lines.Act.{Act}
use Rattle.joint_machine.specs.declared.lines.Act.TheVariants as act
use Rattle.bridge_script.specs.Words.{line_text}
use Rattle.bridge_script.specs.Scripts.{script_text_of}
use Rattle.bridge_script.proofs.Texts.{text_push}
use Rattle.bridge_script.proofs.Printed.{script_utf8, full_text}
use Rattle.bridge_script.proofs.printing.script_text.Goals as goal

pub loop-thread-preserved : goal.loop-thread-preserved
loop-thread-preserved c =
    let xs = c.lines-thread-items.result.now in
    let i = c.loop-thread.thread-index in
    let d : Thread × Act = (M 0, act.New record { 0 = 0 } kind.Plain 0) in
    let x = get_or xs i d in
    let line : c.add_line.new.line.text ≡ line_text x = c.add_line.ensures.added ∙ ap (λ t. t ++ line_text x) c.clear.ensures.text in
    let piece : c.bytes.result.now ≡ line_text x ++ 10 ∷ [] = c.bytes.ensures.text ∙ (c.text.ensures.added ∙ ap (λ t. t ++ 10 ∷ []) line) in
    let more = ap script_text_of (take_more xs i d c.loop-thread-test.true) ∙ text_push (take i xs) x in
    c.in_ok-extend_from_slice.ensures.items ∙ (ap (λ t. t ++ c.bytes.result.now) c.loop-thread.invariant ∙ (ap (λ t. script_text_of (take i xs) ++ t) piece ∙ sym more))

pub unreachable-requires : goal.unreachable-requires
unreachable-requires c =
    let whole = take_all c.loop-thread.thread-index c.lines-thread-items.result.now c.loop-thread-test.false in
    let text = rw whole at c.loop-thread.invariant in
    false≢true (c.in-Err.ensures.succeeds (rw text (script_utf8 c.lines-thread-items.result.now (rw (← c.lines-thread-items.ensures.lines) at c.lines-thread-items.ensures.script))))

pub returns-clause-text : goal.returns-clause-text
returns-clause-text c =
    let whole = take_all c.loop-thread.thread-index c.lines-thread-items.result.now c.loop-thread-test.false in
    let text = rw (whole, c.lines-thread-items.ensures.lines) at c.loop-thread.invariant in
    rw c.in-Ok.ensures.ok text

pub returns-clause-reads : goal.returns-clause-reads
returns-clause-reads c =
    let whole = take_all c.loop-thread.thread-index c.lines-thread-items.result.now c.loop-thread-test.false in
    let text = rw (whole, c.lines-thread-items.ensures.lines) at c.loop-thread.invariant in
    rw (c.in-Ok.ensures.ok, text) (full_text c.args.s.now c.lines-thread-items.ensures.script)
