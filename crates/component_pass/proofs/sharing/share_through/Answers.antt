-- What is gathered from the members and the thin nodes near them.
use Rattle.std.proofs.Common.{◌≡◌, ◌++◌, ◌↔◌, ℕ, List, ap, ◌∙◌, subst}
use Rattle.std.specs.List.{Contains}
use Rattle.component_pass.specs.Gathering.{Gathers, set_at}
use Rattle.component_pass.specs.Sharing.{GathersNear, IsNear}
use Rattle.component_pass.proofs.Nearness.{if_found, near_alone, near_gathers}
use Rattle.component_pass.proofs.sharing.share_through.Goals as goal

pub returns-clause-exact : goal.returns-clause-exact
returns-clause-exact c =
    let edges = c.args.graph.now.edges in
    let thin = c.args.thin.now in
    let is : c.extend_from_slice.new.self.items ≡ c.args.members.now = c.in_ok-extend_from_slice.ensures.items ∙ ap (λ (l : List ℕ). l ++ c.args.members.now) c.clear.ensures.items in
    let exact : (x : ℕ) → Contains c.reach_thin.new.near.items x ↔ IsNear edges thin c.args.members.now x =
    subst (λ (l : List ℕ). (x : ℕ) → Contains c.reach_thin.new.near.items x ↔ IsNear edges thin l x) is c.in_ok-reach_thin.ensures.exact in
    let e = rw c.deref.ensures.value at c.share-2.ensures.exact in
    if_found c.share-2.result (λ s. (j : ℕ) → Contains (set_at c.args.count c.share-2.new.lists s) j ↔ Gathers edges c.args.sets.now c.args.lists.now c.args.count c.reach_thin.new.near.items j)
    (λ s. (j : ℕ) → Contains (set_at c.args.count c.share-2.new.lists s) j ↔ GathersNear edges thin c.args.sets.now c.args.lists.now c.args.count c.args.members.now j)
    (λ s h j.
    let g = near_gathers edges thin c.args.sets.now c.args.lists.now c.args.count c.args.members.now c.reach_thin.new.near.items exact j in
    ((λ t. g.0 ((h j).0 t)), (λ t. (h j).1 (g.1 t))))
    e

pub returns-then-not-lead_to_thin-clause-exact : goal.returns-then-not-lead_to_thin-clause-exact
returns-then-not-lead_to_thin-clause-exact c =
    let edges = c.args.graph.now.edges in
    let thin = c.args.thin.now in
    let alone = near_alone edges thin c.args.members.now (c.lead_to_thin.ensures c.if-not-lead_to_thin.true) in
    if_found c.share.result (λ s. (j : ℕ) → Contains (set_at c.args.count c.share.new.lists s) j ↔ Gathers edges c.args.sets.now c.args.lists.now c.args.count c.args.members.now j)
    (λ s. (j : ℕ) → Contains (set_at c.args.count c.share.new.lists s) j ↔ GathersNear edges thin c.args.sets.now c.args.lists.now c.args.count c.args.members.now j)
    (λ s h j.
    let g = near_gathers edges thin c.args.sets.now c.args.lists.now c.args.count c.args.members.now c.args.members.now alone j in
    ((λ t. g.0 ((h j).0 t)), (λ t. (h j).1 (g.1 t))))
    c.share.ensures.exact
