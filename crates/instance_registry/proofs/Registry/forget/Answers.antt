-- The pair that was put last is its peer's; else the map takes the pair out.
use Rattle.std.proofs.Common.{◌≡◌, ◌∷◌, ◌++◌, [], refl, sym, ◌∙◌}
use Rattle.instance_registry.proofs.Pairs.{PeersDistinct-keys, taken-last}
use Rattle.instance_registry.proofs.Registry.forget.Goals as goal

pub returns-then-not-ends_with-clause-distinct : goal.returns-then-not-ends_with-clause-distinct
returns-then-not-ends_with-clause-distinct c = PeersDistinct-keys _ c.shift_remove.ensures.unique

pub returns-clause-distinct : goal.returns-clause-distinct
returns-clause-distinct c = PeersDistinct-keys _ c.pop.ensures.unique

pub returns-clause-twin : goal.returns-clause-twin
returns-clause-twin c =
    let new = c.pop.new.self.entries in
    let is : c.args.self.now ≡ new ++ (c.in-Some.field-0-0, c.in-Some.m) ∷ [] = sym c.self.view_is ∙ c.in-Some.ensures.entries in
    let last = c.if-not-ends_with.ensures.last refl in
    let taken = taken-last new (c.in-Some.field-0-0, c.in-Some.m) c.args.p last.0 (rw is at c.if-not-ends_with.ensures.distinct) (rw is at last.1) in
    rw is (sym taken.0)

pub returns-clause-pairs : goal.returns-clause-pairs
returns-clause-pairs c =
    let new = c.pop.new.self.entries in
    let is : c.args.self.now ≡ new ++ (c.in-Some.field-0-0, c.in-Some.m) ∷ [] = sym c.self.view_is ∙ c.in-Some.ensures.entries in
    let last = c.if-not-ends_with.ensures.last refl in
    let taken = taken-last new (c.in-Some.field-0-0, c.in-Some.m) c.args.p last.0 (rw is at c.if-not-ends_with.ensures.distinct) (rw is at last.1) in
    rw is (sym taken.1)
