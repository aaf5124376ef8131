-- A component has a first member, which stands first in its list.
use Rattle.std.proofs.Common.{◌≡◌, ℕ, List, [], ◌∷◌, get_or, refl, sym, ◌∙◌, ap}
use Rattle.std.proofs.lemmas.List.{get_or-map}
use Rattle.std.proofs.lemmas.Option.{get_or_from_slice_get}
use Rattle.joint_machine.specs.Components.{first_of}
use Rattle.xref_list.proofs.components.Components.first.Goals as goal

head_is : (xs : List ℕ) → get_or xs 0 0 ≡ first_of xs
head_is [] = refl
head_is (x ∷ xs) = refl

pub returns : goal.returns
returns c =
    let comps = c.args.self.now.comps in
    let at = get_or_from_slice_get comps c.args.c c.members_of.result.now [] c.members_of.ensures.members in
    head_is c.members_of.result.now ∙ ap first_of (sym at) ∙ sym (get_or-map first_of comps c.args.c [] 0 c.requires)
