use Rattle.std.proofs.Common.{◌≡◌, ◌+◌, length, arith, rules, ap, ◌∙◌}
use Rattle.std.proofs.lemmas.List.{length_push}
use Rattle.joint_model.specs.Leaders.{spelled}
use Rattle.joint_model.proofs.Spelling.{spelled_length}
use Rattle.joint_model.proofs.kept.Kept.push_handle.Goals as goal

pub invariant_of-self : goal.invariant_of-self
invariant_of-self c =
    let ls = c.self.inside.leaders.all in
    let hs = c.self.inside.followers.items in
    let now = c.put_follower.new.leaders.all in
    let own = c.put_follower.new.followers.items in
    let longer : length (spelled now own) ≡ length (spelled ls hs) + 1 = ap length c.put_follower.ensures.entries ∙ length_push (spelled ls hs) c.args.entry in
    let count = spelled_length now own c.put_follower.ensures.followed in
    let count_before = spelled_length ls hs c.self.invariant.0 in
    let size : length now + length own ≡ length ls + length hs + 1 = omega (arith, longer, count, count_before) in
    (c.put_follower.ensures.followed, c.put_follower.ensures.starts, search rules, search rules, search rules, search rules)
