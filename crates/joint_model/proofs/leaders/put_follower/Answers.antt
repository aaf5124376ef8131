use Rattle.std.proofs.Common.{rules, ◌++◌, ◌∷◌, ◌+◌, [], ap, subst, sym, refl, ◌∙◌}
use Rattle.joint_machine.specs.declared.events.Entry.{Entry}
use Rattle.joint_model.specs.Following.{follower_of}
use Rattle.joint_model.specs.Leaders.{spelled, AreFollowed, Starts}
use Rattle.joint_model.proofs.Spelling.{follower-last, leader-last}
use Rattle.joint_model.proofs.Searching.{starts-last, starts-set}
use Rattle.joint_model.proofs.leaders.put_follower.Goals as goal

pub returns-in-Some-clause-starts : goal.returns-in-Some-clause-starts
returns-in-Some-clause-starts c =
    let u = c.in-Some.ensures.0 in
    subst (Starts 0) (sym u.is) (starts-set u.first u.last u.next (subst (Starts 0) u.was c.requires.starts) u.start)

pub returns-in-Some-clause-entries : goal.returns-in-Some-clause-entries
returns-in-Some-clause-entries c =
    let hs = c.args.followers.now.items in
    let h = c.in-Some.h in
    let u = c.in-Some.ensures.0 in
    rw c.push_reserved.ensures.items
    (ap (λ ls. spelled ls (hs ++ h ∷ [])) u.is
    ∙ (follower-last u.first hs u.last u.next h (subst (λ ls. AreFollowed ls hs) u.was c.requires.followed) u.same u.more
    ∙ (ap (λ ls. spelled ls hs ++ follower_of u.last.entry (u.last.followers + 1) h ∷ []) (sym u.was)
    ∙ ap (λ (e : Entry). spelled c.args.leaders.now.all hs ++ e ∷ []) (sym u.follower))))

pub returns-clause-starts : goal.returns-clause-starts
returns-clause-starts c =
    rw (c.push.ensures.all, c.in_default.ensures) (starts-last 0 c.args.leaders.now.all _ c.requires.starts (search rules))

pub returns-clause-entries : goal.returns-clause-entries
returns-clause-entries c =
    rw (c.push.ensures.all, c.in_default.ensures) (leader-last c.args.leaders.now.all _ c.args.followers.now.items c.requires.followed refl)
