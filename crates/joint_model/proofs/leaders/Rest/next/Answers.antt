use Rattle.std.proofs.Common.{rules, ◌≡◌, ◌∷◌, sym, ap, ◌∙◌}
use Rattle.joint_model.specs.Leaders.{spelled}
use Rattle.joint_model.specs.Marks.{leaders_of}
use Rattle.joint_model.proofs.Places.{followed-marked, spelled-marked}
use Rattle.joint_model.proofs.leaders.Rest.next.Goals as goal

pub invariant_of-self-2 : goal.invariant_of-self-2
invariant_of-self-2 c =
    rw c.split_at.ensures.back (followed-marked c.in_ok-entry.entry.now c.in_ok-entry.entries.now c.in-Some.mark.now c.in-Some.marks.now c.self.inside.followers.now (search rules) (search rules))

pub returns : goal.returns
returns c =
    let p = c.in_ok-entry.entry.now in
    let ps = c.in_ok-entry.entries.now in
    let m = c.in-Some.mark.now in
    let ms = c.in-Some.marks.now in
    let hs = c.self.inside.followers.now in
    let entries : c.self.inside.entries.now ≡ p ∷ ps = search rules in
    let marks : c.self.inside.marks.now ≡ m ∷ ms = search rules in (
      rw (c.step_of.ensures, c.split_at.ensures.front, c.split_at.ensures.back)
          (sym c.self.view_is ∙ (ap (λ xs. spelled (leaders_of 0 xs c.self.inside.marks.now) hs) entries
          ∙ (ap (λ xs. spelled (leaders_of 0 (p ∷ ps) xs) hs) marks ∙ spelled-marked p ps m ms hs (search rules)))),
      search rules,
    )
