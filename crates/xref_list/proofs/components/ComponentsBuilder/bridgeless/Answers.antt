-- The pairs stay between components, of which there is one more.
use Rattle.std.proofs.Common.{length, ◌+◌, ◌<◌, arith}
use Rattle.xref_list.proofs.Comps.{between_wider, length-packed}
use Rattle.xref_list.proofs.components.ComponentsBuilder.bridgeless.Goals as goal

pub invariant_of-self : goal.invariant_of-self
invariant_of-self c =
    let i = c.self.invariant in
    let s = c.self.inside in
    let r : length s.starts.items + s.heavy < 4294967294 = rw (← c.self.view_is, length-packed s.starts.items s.members.items (length s.starts.items)) at c.requires.few in
    record {
      flat = i.flat;
      components = i.components;
      ends = between_wider (length s.starts.items + s.heavy) (length s.starts.items + (s.heavy + 1)) s.pairs (omega arith) i.ends;
      room = omega (arith, r);
      rising = i.rising;
      count = i.count;
    }
