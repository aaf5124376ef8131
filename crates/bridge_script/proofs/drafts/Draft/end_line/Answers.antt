use Rattle.std.proofs.Common.{◌≡◌, ◌∷◌, ◌∙◌, ap, sym, subst, arith, append_assoc, take, take_all}
use Rattle.byte_streams.proofs.Passing.{passed_on}
use Rattle.bridge_script.specs.Scripts.{script_text_of}
use Rattle.bridge_script.specs.Steps.{StopsWithin}
use Rattle.bridge_script.proofs.drafts.Draft.end_line.Goals as goal

pub returns-in_err-go_on-clause-err : goal.returns-in_err-go_on-clause-err
returns-in_err-go_on-clause-err c =
    let held = c.self.inside.held.items in
    let a = script_text_of c.self.inside.script in
    let e = c.in_err-go_on.field-0.0 in
    let text : c.of.result ≡ held = c.of.ensures ∙ (ap (take c.len-n.result) c.deref.ensures.value ∙ take_all c.len-n.result held (omega (arith, c.len-n.ensures))) in
    rw (passed_on c.from_residual.result e c.from_residual.ensures.0 c.from_residual.ensures.1, ← c.self.view_is)
    (λ rest. subst (λ t. StopsWithin t e) (sym (append_assoc a held (10 ∷ rest))) (rw text at (c.in_err-go_on.ensures.err rest)))
