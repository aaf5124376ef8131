use Rattle.std.proofs.Common.{ap, ◌∙◌}
use Rattle.report_reader.specs.Steps.{Read}
use Rattle.report_reader.proofs.Finishing.{joined, joins}
use Rattle.report_reader.proofs.drafts.Draft.history.Goals as goal

pub join-requires : goal.join-requires
join-requires c =
    let p = c.into_parts-freed_managed.ensures.parts in
    let v = c.self.view_is in
    let es = ap (λ (r : Read). r.entries) v in
    let m = ap (λ (r : Read). r.lists.managed) v in
    let q = ap (λ (r : Read). r.lists.peers) v in
    let n = ap (λ (r : Read). r.lists.notices) v in
    let one = rw c.new-all.ensures.items at c.in_ok-push.ensures.items in
    joins c.push.new.self.items c.self.inside.entries c.args.self _ _ _ one es (p.0 ∙ m) (p.1 ∙ q) (p.2 ∙ n) c.requires

pub returns-in-Ok : goal.returns-in-Ok
returns-in-Ok c =
    let p = c.into_parts-freed_managed.ensures.parts in
    let v = c.self.view_is in
    let one = rw c.new-all.ensures.items at c.in_ok-push.ensures.items in
    let h = c.in-Ok.ensures in
    let es = joined c.push.new.self.items c.self.inside.entries c.args.self c.in-Ok.history.entries one (ap (λ (r : Read). r.entries) v) c.requires h.shuffle in
    let m = h.managed ∙ (p.0 ∙ ap (λ (r : Read). r.lists.managed) v) in
    let q = h.peers ∙ (p.1 ∙ ap (λ (r : Read). r.lists.peers) v) in
    let n = h.notices ∙ (p.2 ∙ ap (λ (r : Read). r.lists.notices) v) in
    λ i. record { entries = es i; freed_managed = m i; freed_peers = q i; notices = n i }
