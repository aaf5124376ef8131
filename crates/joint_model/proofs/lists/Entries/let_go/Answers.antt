-- What was held is the last of what was let go.
use Rattle.std.proofs.Common.{◌≡◌, ◌++◌, ◌∷◌, [], List, length, ap, sym, ◌∙◌, arith}
use Rattle.std.proofs.lemmas.List.{append-nil, length-append}
use Rattle.std.specs.declared.snapshot.Snapshot.{Snapshot}
use Rattle.joint_model.specs.declared.lists.Holding.TheVariants.{Every, Last}
use Rattle.joint_model.specs.Listed.{Shelf, Stock, passed}
use Rattle.joint_model.proofs.Passing.{passed-push}
use Rattle.joint_model.proofs.lists.Entries.let_go.Goals as goal

apart : Every ≡ Last → ⊥
apart e = cc

whole : (past after : List (Snapshot Shelf)) (s : Snapshot Shelf) (kept : Shelf) → after ≡ past ++ s ∷ [] → s.value ≡ kept → passed after ≡ passed past ++ kept.entries
whole past after s kept is same = ap passed is ∙ (passed-push past s ∙ ap (λ (k : Shelf). passed past ++ k.entries) same)

pub returns-clause-entries : goal.returns-clause-entries
returns-clause-entries c =
    let past = c.self.inside.past.items in
    let after = c.push.new.self.items in
    ap (λ es. passed after ++ es) c.clear.ensures.entries ∙ (append-nil (passed after)
    ∙ (whole past after c.of.result c.self.inside.kept c.in_ok-push.ensures.items c.of.ensures ∙ ap (λ (s : Stock). s.entries) c.self.view_is))

pub invariant_of-self-2 : goal.invariant_of-self-2
invariant_of-self-2 c =
    let past = c.self.inside.past.items in
    let all = ap length (whole past c.push.new.self.items c.of.result c.self.inside.kept c.in_ok-push.ensures.items c.of.ensures) ∙ length-append (passed past) c.self.inside.kept.entries in (
      omega (arith, c.self.invariant.0, c.len.ensures, all),
      omega (arith, c.self.invariant.1, c.len.ensures, ap length c.clear.ensures.entries, c.clear.ensures.spare),
      λ every. absurd (apart (sym every ∙ (ap (λ (s : Stock). s.holding) c.self.view_is ∙ c.requires))),
    )
