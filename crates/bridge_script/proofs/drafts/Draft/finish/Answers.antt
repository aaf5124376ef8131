use Rattle.std.proofs.Common.{◌≡◌, ◌+◌, ◌∙◌, ap, arith, length, take, take_all}
use Rattle.byte_streams.proofs.Passing.{passed_on}
use Rattle.bridge_script.specs.Scripts.{script_text_of}
use Rattle.bridge_script.proofs.Pieces.{refused_last, text_last}
use Rattle.bridge_script.proofs.drafts.Draft.finish.Goals as goal

pub returns-in_err-grow-clause-err : goal.returns-in_err-grow-clause-err
returns-in_err-grow-clause-err c =
    let held = c.self.inside.held.items in
    let script = c.self.inside.script in
    let end = c.self.inside.end + c.len-n.result in
    let text : c.of.result ≡ held = c.of.ensures ∙ (ap (take c.len-n.result) c.deref.ensures.value ∙ take_all c.len-n.result held (omega (arith, c.len-n.ensures))) in
    let same : end ≡ length (script_text_of script) + length held = omega (arith, c.self.invariant.0, c.len-n.ensures) in
    rw (passed_on c.from_residual.result c.in_err-grow.field-0.0 c.from_residual.ensures.0 c.from_residual.ensures.1, ← c.self.view_is)
    (refused_last script held end c.in_err-grow.field-0.0 c.self.invariant.1.1 (omega arith) c.grow.ensures.lawful (omega (arith, c.self.invariant)) same
    (c.in_err-grow.ensures.read held (rw text at c.read_line.ensures)))

pub returns-clause-ok : goal.returns-clause-ok
returns-clause-ok c =
    let held = c.self.inside.held.items in
    let script = c.self.inside.script in
    let end = c.self.inside.end + c.len-n.result in
    let text : c.of.result ≡ held = c.of.ensures ∙ (ap (take c.len-n.result) c.deref.ensures.value ∙ take_all c.len-n.result held (omega (arith, c.len-n.ensures))) in
    let same : end ≡ length (script_text_of script) + length held = omega (arith, c.self.invariant.0, c.len-n.ensures) in
    rw (← c.self.view_is) (text_last script c.grow.new.self held end same (c.in_ok-grow.ensures.read held (rw text at c.read_line.ensures)))
