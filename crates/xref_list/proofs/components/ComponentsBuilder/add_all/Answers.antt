use Rattle.std.proofs.Common.{◌+◌, ◌++◌, ℕ, length, map, inl, inr, arith}
use Rattle.std.proofs.lemmas.List.{length-append, length-map}
use Rattle.std.proofs.lemmas.List.Elements.{All-append}
use Rattle.xref_list.specs.Listing.{IsBetween}
use Rattle.xref_list.proofs.Rising.{rise-group}
use Rattle.xref_list.proofs.Comps.{many_added, ends_group, length-packed}
use Rattle.xref_list.proofs.components.ComponentsBuilder.add_all.Goals as goal

pub invariant_of-self-2 : goal.invariant_of-self-2
invariant_of-self-2 c =
    let i = c.self.invariant in
    let r = rw (← c.self.view_is, length-packed c.self.inside.starts.items c.self.inside.members.items (length c.self.inside.starts.items)) at c.requires in
    let group = map (λ (d : ℕ). let q : ℕ × ℕ = (c.args.src, d) in q) c.args.dsts.now in
    let n = length c.self.inside.starts.items + c.self.inside.heavy in
    elim (many_added c.add_all.result c.self.inside.pairs c.add_all.new.self (c.self.inside.pairs ++ group) c.add_all.ensures.pairs c.add_all.ensures.err) [
      | inl e ↦ rw e i
      | inr e ↦ rw e record {
        flat = i.flat;
        components = i.components;
        room = i.room;
        ends = All-append (IsBetween n) c.self.inside.pairs group i.ends (ends_group n c.args.src c.args.dsts.now r.source r.destinations r.apart);
        rising = λ h. rise-group c.self.inside.pairs c.args.src c.args.dsts.now (i.rising h) r.fresh r.rises;
        count = omega (arith, length-append c.self.inside.pairs group, length-map c.args.dsts.now (λ (d : ℕ). let q : ℕ × ℕ = (c.args.src, d) in q));
      }
    ]
