use Rattle.std.proofs.Common.{◌++◌, sym, ◌∙◌, ap, arith, append_assoc}
use Rattle.bridge_script.specs.Words.{thread_text, act_words}
use Rattle.byte_streams.specs.Spaced.{after_spaces}
use Rattle.bridge_script.proofs.Printed.{spaced_after}
use Rattle.bridge_script.proofs.acts.add_line.Goals as goal

pub returns : goal.returns
returns c =
    let t = thread_text c.args.thread in
    let ws = act_words c.args.thread c.args.act.now in
    record {
      added = c.add_act.ensures.added ∙ (ap (λ x. x ++ after_spaces ws) c.add_thread.ensures.added
          ∙ (append_assoc c.args.line.now.text t (after_spaces ws) ∙ ap (λ x. c.args.line.now.text ++ x) (sym (spaced_after t ws))));
      left = omega (arith, c.add_act.ensures.left, c.add_thread.ensures.left);
    }
