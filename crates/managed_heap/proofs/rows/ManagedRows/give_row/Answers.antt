-- The row that gives its handle up leaves its pair.
use Rattle.std.proofs.Common.{◌≡◌, ◌-◌, ◌≤◌, ◌∷◌, [], None, length, set, refl, sym, ap, subst, ◌∙◌, arith}
use Rattle.std.proofs.lemmas.List.{length-map}
use Rattle.joint_machine.specs.PinsTold.{no_pins}
use Rattle.joint_machine.specs.Heaps.{answer}
use Rattle.joint_machine.specs.Managed.{handle_of}
use Rattle.joint_machine.specs.ManagedReplay.{ManagedReplay, without_twins}
use Rattle.heap_rules.proofs.Numbered.{numbered-read}
use Rattle.managed_heap.specs.declared.rows.Header.{Header}
use Rattle.managed_heap.specs.Rows.{pairs_of, rows_of}
use Rattle.managed_heap.specs.TwinEvents.{give_row, handle_said}
use Rattle.managed_heap.proofs.Given.{ArePeers-given, given-state, left-is}
use Rattle.managed_heap.proofs.Peers.{handle-is}
use Rattle.managed_heap.proofs.rows.ManagedRows.give_row.Goals as goal

pub invariant_of-self : goal.invariant_of-self
invariant_of-self c =
    let i = c.self.inside in
    let headers = i.headers.items in
    let kept = rw (← c.self.view_is) at c.requires.kept in
    let live = rw (← c.self.view_is) at c.requires.live in
    let within : c.args.x ≤ length headers = omega (arith, live.made.1, kept.1.managed.places, length-map headers (λ (j : Header). j.handle)) in
    let at = numbered-read (λ (j : Header). j.peer) headers c.args.x c.index-held.result.now live.made.0 (omega (arith, within, length-map headers (λ (j : Header). j.peer))) c.index-held.ensures in
    let left : pairs_of c.leave.new.registry ≡ without_twins (pairs_of i.registry) (c.args.x ∷ []) = ap pairs_of c.leave.ensures.pairs
    ∙ left-is i.registry headers c.args.x c.index-held.result.now at c.leave.ensures.distinct kept.1.one_row c.self.invariant.0 in (
      ArePeers-given i.registry c.leave.new.registry headers c.args.x record { kind = c.index-held.result.now.kind; handle = None; peer = None } live.made.0 refl left c.self.invariant.0,
      c.self.invariant.1,
      c.self.invariant.2,
      c.self.invariant.3,
    )

pub returns : goal.returns
returns c =
    let i = c.self.inside in
    let headers = i.headers.items in
    let held = c.index-held.result.now in
    let kept = rw (← c.self.view_is) at c.requires.kept in
    let live = rw (← c.self.view_is) at c.requires.live in
    let within : c.args.x ≤ length headers = omega (arith, live.made.1, kept.1.managed.places, length-map headers (λ (j : Header). j.handle)) in
    let at = numbered-read (λ (j : Header). j.peer) headers c.args.x held live.made.0 (omega (arith, within, length-map headers (λ (j : Header). j.peer))) c.index-held.ensures in
    let kind = numbered-read (λ (j : Header). j.kind) headers c.args.x held live.made.0 (omega (arith, within, length-map headers (λ (j : Header). j.kind))) c.index-held.ensures in
    let left : pairs_of c.leave.new.registry ≡ without_twins (pairs_of i.registry) (c.args.x ∷ []) = ap pairs_of c.leave.ensures.pairs
    ∙ left-is i.registry headers c.args.x held at c.leave.ensures.distinct kept.1.one_row c.self.invariant.0 in
    let s : ManagedReplay = rows_of i.heap.heap headers i.registry i.cells no_pins i.notices i.cycle i.cycles i.contracted in
    let handle : handle_of s.managed c.args.x ≡ held.handle = handle-is s.managed headers c.args.x held refl live within c.index-held.ensures in
    let state = given-state i.heap.heap headers i.registry c.leave.new.registry i.cells no_pins i.notices i.cycle i.cycles i.contracted c.args.x
    record { kind = held.kind; handle = None; peer = None } live.made.0 kind refl left in
    let next : ManagedReplay = rows_of i.heap.heap (set headers (c.args.x - 1) record { kind = held.kind; handle = None; peer = None })
    c.leave.new.registry i.cells no_pins i.notices i.cycle i.cycles i.contracted in
    let done : give_row s c.args.x ≡ answer c.handle_said.result next = ap (λ z. answer z (give_row s c.args.x).state) (ap handle_said handle ∙ sym c.handle_said.ensures)
    ∙ ap (λ z. answer c.handle_said.result z) state in
    subst (λ (z : ManagedReplay). give_row z c.args.x ≡ answer c.handle_said.result next) c.self.view_is done
