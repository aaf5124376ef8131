use Rattle.std.proofs.Common.{◌+◌, ℕ, length, inl, inr, arith}
use Rattle.std.proofs.lemmas.Bool.{false≢true}
use Rattle.std.proofs.lemmas.List.{length_push}
use Rattle.xref_list.proofs.Comps.{one_added, between_push, length-packed}
use Rattle.xref_list.proofs.components.ComponentsBuilder.add.Goals as goal

pub invariant_of-self-2 : goal.invariant_of-self-2
invariant_of-self-2 c =
    let i = c.self.invariant in
    let r = rw (← c.self.view_is, length-packed c.self.inside.starts.items c.self.inside.members.items (length c.self.inside.starts.items)) at c.requires in
    let p : ℕ × ℕ = (c.args.src, c.args.dst) in
    elim (one_added c.add.result c.self.inside.pairs c.add.new.self p c.add.ensures.added c.add.ensures.err) [
      | inl e ↦ rw e record {
        flat = i.flat;
        components = i.components;
        ends = i.ends;
        room = i.room;
        rising = λ h. absurd (false≢true h);
        count = i.count;
      }
      | inr e ↦ rw e record {
        flat = i.flat;
        components = i.components;
        room = i.room;
        ends = between_push (length c.self.inside.starts.items + c.self.inside.heavy) c.self.inside.pairs p i.ends r.source r.destination r.apart;
        rising = λ h. absurd (false≢true h);
        count = omega (arith, length_push c.self.inside.pairs p);
      }
    ]
