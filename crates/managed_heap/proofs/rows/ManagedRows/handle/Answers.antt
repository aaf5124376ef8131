-- A live row holds the handle that stands beside it.
use Rattle.std.proofs.Common.{◌≡◌, ◌≤◌, length, map, sym, ap, arith}
use Rattle.std.proofs.lemmas.List.{length-map}
use Rattle.joint_machine.specs.ManagedReplay.{ManagedReplay}
use Rattle.managed_heap.specs.declared.rows.Header.{Header}
use Rattle.managed_heap.proofs.Peers.{handle-is}
use Rattle.managed_heap.proofs.rows.ManagedRows.handle.Goals as goal

pub returns : goal.returns
returns c =
    let s = c.args.self.now.managed in
    let headers = c.self.inside.headers.items in
    let held : s.held ≡ map (λ (j : Header). j.handle) headers = ap (λ (z : ManagedReplay). z.managed.held) (sym c.self.view_is) in
    let places : length s.held ≡ length s.heap.fields = c.requires.kept.1.managed.places in
    let within : c.args.x ≤ length headers = omega (arith, c.requires.live.made.1, places, ap length held, length-map headers (λ (j : Header). j.handle)) in
    handle-is s headers c.args.x c.index.result.now held c.requires.live within c.index.ensures
