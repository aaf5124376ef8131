use Rattle.std.proofs.Common.{◌≡◌}
use Rattle.std.specs.BTreeMap.{keys}
use Rattle.std.proofs.lemmas.Result.{IfOk-weaker}
use Rattle.log_text.specs.Live.{handles_of, shown}
use Rattle.log_text.specs.Keys.{AreKeys}
use Rattle.log_text.proofs.Keys.{are-keys}
use Rattle.log_text.proofs.live.LiveHandles.weak.Goals as goal

pub returns : goal.returns
returns c = IfOk-weaker c.keys_of.result (λ u. u.items ≡ handles_of (keys c.args.self.now.weak)) (λ u. AreKeys (shown c.args.self.now).weak u.items)
    (λ u e. are-keys c.args.self.now.weak c.keys_of.ensures.ordered u.items e) c.keys_of.ensures.keys
