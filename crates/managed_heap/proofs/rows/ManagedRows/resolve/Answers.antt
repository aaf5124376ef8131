-- The dead part is cut off, so what goes of it is named and held by nothing that stays.
use Rattle.std.proofs.Common.{◌≡◌, ℕ, ◌≤◌, ◌↔◌, ◌∙◌, ◌-◌, ◌++◌, List, [], length, map, Option, Some, None, subst, sym, ap, arith, refl}
use Rattle.std.specs.Prelude.{filter, Contains, All}
use Rattle.std.proofs.lemmas.List.{length-map}
use Rattle.joint_machine.specs.PinsTold.{no_pins}
use Rattle.joint_machine.specs.Components.{Rises}
use Rattle.joint_machine.specs.Heaps.{numbered_at, with_freed}
use Rattle.joint_machine.specs.Histories.{managed_numbers}
use Rattle.joint_model.specs.Listed.{answers_of}
use Rattle.joint_machine.specs.Managed.{OpenCycle, candidates_of, holds_handle, renewed}
use Rattle.joint_machine.specs.ManagedReplay.{ManagedReplay}
use Rattle.joint_laws.specs.ManagedInvariants.{ManagedInvariant}
use Rattle.heap_rules.specs.Tidy.{CanFree}
use Rattle.row_heap.specs.Rows.{HeapRows}
use Rattle.managed_heap.specs.declared.rows.Header.{Header}
use Rattle.managed_heap.specs.Resolving.{TakesResolution, has_handle}
use Rattle.managed_heap.specs.Rows.{pairs_of, rows_of}
use Rattle.managed_heap.proofs.Resolutions.{shut-open, can-free, resolution-is, notices-fit, All-numbers, filter-live, resolved-is, rows-few}
use Rattle.joint_machine.proofs.Deciding.{none_some}
use Rattle.joint_machine.proofs.Members.{All-members, Rises-filter}
use Rattle.reachability.proofs.Marking.{unmarked_of-exact}
use Rattle.managed_heap.proofs.rows.ManagedRows.resolve.Goals as goal

pub settle-candidates-requires-clause-live : goal.settle-candidates-requires-clause-live
settle-candidates-requires-clause-live c =
    let kept : ManagedInvariant (rows_of c.self.inside.heap.heap c.self.inside.headers.items c.self.inside.registry c.self.inside.cells no_pins c.self.inside.notices c.self.inside.cycle
    c.self.inside.cycles c.self.inside.contracted).managed = subst (λ (z : ManagedReplay). ManagedInvariant z.managed) (sym c.self.view_is) c.requires.kept.1.managed in
    let cut = kept.dead c.close-open.result c.close-open.ensures.opened in
    λ m k. cut.live m ((cut.candidates m).0 k).0

pub settle-candidates-requires-clause-shut : goal.settle-candidates-requires-clause-shut
settle-candidates-requires-clause-shut c =
    let s = rows_of c.self.inside.heap.heap c.self.inside.headers.items c.self.inside.registry c.self.inside.cells
    no_pins c.self.inside.notices c.self.inside.cycle c.self.inside.cycles c.self.inside.contracted in
    let kept : ManagedInvariant s.managed = subst (λ (z : ManagedReplay). ManagedInvariant z.managed) (sym c.self.view_is) c.requires.kept.1.managed in
    let opened = c.close-open.ensures.opened in
    shut-open c.self.inside.heap c.self.inside.notices.spare s.managed c.close-open.result refl c.self.invariant.2 (c.self.invariant.3
    c.close-open.result opened) (kept.dead c.close-open.result opened)

pub free-requires-clause-can : goal.free-requires-clause-can
free-requires-clause-can c =
    let s = rows_of c.self.inside.heap.heap c.self.inside.headers.items c.self.inside.registry c.self.inside.cells
    no_pins c.self.inside.notices c.self.inside.cycle c.self.inside.cycles c.self.inside.contracted in
    let kept : ManagedInvariant s.managed = subst (λ (z : ManagedReplay). ManagedInvariant z.managed) (sym c.self.view_is) c.requires.kept.1.managed in
    let opened = c.close-open.ensures.opened in
    let due = c.self.invariant.3 c.close-open.result opened in
    subst (λ z. CanFree c.settle-candidates.new.heap.heap (managed_numbers z)) (sym c.deref.ensures.value)
    (can-free c.self.inside.heap c.settle-candidates.new.heap s.managed c.close-open.result (managed_numbers c.settle-candidates.result.1.items) refl
    (ap (λ (v : HeapRows). v.heap) c.settle-candidates.ensures.rest) due.rise (kept.dead c.close-open.result opened) c.settle-candidates.ensures.shut c.settle-candidates.ensures.freed)

pub notify-requires : goal.notify-requires
notify-requires c =
    let s = rows_of c.self.inside.heap.heap c.self.inside.headers.items c.self.inside.registry c.self.inside.cells
    no_pins c.self.inside.notices c.self.inside.cycle c.self.inside.cycles c.self.inside.contracted in
    let kept : ManagedInvariant s.managed = subst (λ (z : ManagedReplay). ManagedInvariant z.managed) (sym c.self.view_is) c.requires.kept.1.managed in
    let opened = c.close-open.ensures.opened in
    let due = c.self.invariant.3 c.close-open.result opened in
    let freed = managed_numbers c.settle-candidates.result.1.items in
    let fits = notices-fit s.managed c.close-open.result freed c.self.inside.notices.spare (kept.dead c.close-open.result opened) due.notices
    (subst Rises (sym c.settle-candidates.ensures.freed) (Rises-filter _ c.close-open.result.dead due.rise))
    (λ m k. ((unmarked_of-exact c.settle-candidates.new.heap.marks c.close-open.result.dead m).0 (subst (λ xs. Contains xs m) c.settle-candidates.ensures.freed k)).0) in
    record { room = rw (c.deref-2.ensures.value, c.deref-3.ensures.value) fits }

pub forget_pairs-requires-clause-rows : goal.forget_pairs-requires-clause-rows
forget_pairs-requires-clause-rows c =
    let s = rows_of c.self.inside.heap.heap c.self.inside.headers.items c.self.inside.registry c.self.inside.cells
    no_pins c.self.inside.notices c.self.inside.cycle c.self.inside.cycles c.self.inside.contracted in
    let kept : ManagedInvariant s.managed = subst (λ (z : ManagedReplay). ManagedInvariant z.managed) (sym c.self.view_is) c.requires.kept.1.managed in
    let cut = kept.dead c.close-open.result c.close-open.ensures.opened in
    let many : length c.self.inside.headers.items ≡ length c.self.inside.heap.heap.fields = sym (length-map c.self.inside.headers.items (λ (i : Header). i.handle)) ∙ kept.places in
    subst (λ z. All (λ m. (1 ≤ m.0) × (m.0 ≤ length c.self.inside.headers.items)) z) (sym c.deref-4.ensures.value)
    (All-numbers (λ m. (1 ≤ m) × (m ≤ length c.self.inside.headers.items)) c.settle-candidates.result.1.items (λ m k. (
    let l = cut.live m ((unmarked_of-exact c.settle-candidates.new.heap.marks c.close-open.result.dead m).0 (subst (λ xs. Contains xs m) c.settle-candidates.ensures.freed k)).0 in
    (l.made.0, omega (arith, l.made.1, many)))))

pub renew-requires-clause-rows : goal.renew-requires-clause-rows
renew-requires-clause-rows c =
    let s = rows_of c.self.inside.heap.heap c.self.inside.headers.items c.self.inside.registry c.self.inside.cells
    no_pins c.self.inside.notices c.self.inside.cycle c.self.inside.cycles c.self.inside.contracted in
    let kept : ManagedInvariant s.managed = subst (λ (z : ManagedReplay). ManagedInvariant z.managed) (sym c.self.view_is) c.requires.kept.1.managed in
    let cut = kept.dead c.close-open.result c.close-open.ensures.opened in
    let many : length c.self.inside.headers.items ≡ length c.self.inside.heap.heap.fields = sym (length-map c.self.inside.headers.items (λ (i : Header). i.handle)) ∙ kept.places in
    let as_many : length c.forget_pairs.new.headers.items ≡ length c.self.inside.headers.items = sym (length-map c.forget_pairs.new.headers.items (λ (i : Header). i.handle))
    ∙ (ap length c.forget_pairs.ensures.handles ∙ length-map c.self.inside.headers.items (λ (i : Header). i.handle)) in
    subst (λ z. All (λ m. (1 ≤ m) × (m ≤ length c.forget_pairs.new.headers.items)) z) (sym (c.deref-5.ensures.value ∙ c.settle-candidates.ensures.candidates))
    (All-members (λ m. (1 ≤ m) × (m ≤ length c.forget_pairs.new.headers.items)) c.close-open.result.candidates (λ m k. (
    let l = cut.live m ((cut.candidates m).0 k).0 in
    (l.made.0, omega (arith, l.made.1, many, as_many)))))

-- new handles move no pair, and no cycle is open
pub invariant_of-self : goal.invariant_of-self
invariant_of-self c = (
  λ p m. subst (λ (z : List (Option ℕ)). Contains (pairs_of c.forget_pairs.new.registry) (p, m) ↔ (numbered_at z m ≡ Some (Some p))) (sym c.renew.ensures.peers) (c.forget_pairs.ensures.peers p m),
  ap (λ (v : HeapRows). v.refs) c.free.ensures.rest ∙ (ap (λ (v : HeapRows). v.refs) c.settle-candidates.ensures.rest ∙ c.self.invariant.1),
  ap (λ (v : HeapRows). v.follows) c.free.ensures.rest ∙ (ap (λ (v : HeapRows). v.follows) c.settle-candidates.ensures.rest ∙ c.self.invariant.2),
  λ k o. absurd (none_some k (sym c.close-open.ensures.closed ∙ o)),
)

pub returns-clause-few : goal.returns-clause-few
returns-clause-few c =
    let s = rows_of c.self.inside.heap.heap c.self.inside.headers.items c.self.inside.registry c.self.inside.cells
    no_pins c.self.inside.notices c.self.inside.cycle c.self.inside.cycles c.self.inside.contracted in
    let kept : ManagedInvariant s.managed = subst (λ (z : ManagedReplay). ManagedInvariant z.managed) (sym c.self.view_is) c.requires.kept.1.managed in
    let opened = c.close-open.ensures.opened in
    let cut = kept.dead c.close-open.result opened in
    let due = c.self.invariant.3 c.close-open.result opened in
    let few = rows-few c.self.inside.heap.heap (managed_numbers c.settle-candidates.result.1.items) (subst Rises (sym
    c.settle-candidates.ensures.freed) (Rises-filter _ c.close-open.result.dead due.rise))
    (λ m k. cut.live m ((unmarked_of-exact c.settle-candidates.new.heap.marks c.close-open.result.dead m).0 (subst (λ xs. Contains xs m) c.settle-candidates.ensures.freed k)).0) in
    omega (arith, few, length-map c.settle-candidates.result.1.items (λ m. m.0), c.made.ensures.made, c.made.ensures.most)

pub returns-clause-resolution : goal.returns-clause-resolution
returns-clause-resolution c =
    let open' = c.close-open.result in
    let s = rows_of c.self.inside.heap.heap c.self.inside.headers.items c.self.inside.registry c.self.inside.cells
    no_pins c.self.inside.notices c.self.inside.cycle c.self.inside.cycles c.self.inside.contracted in
    let kept : ManagedInvariant s.managed = subst (λ (z : ManagedReplay). ManagedInvariant z.managed) (sym c.self.view_is) c.requires.kept.1.managed in
    let opened = c.close-open.ensures.opened in
    let cut = kept.dead open' opened in
    let due = c.self.invariant.3 open' opened in
    let ms = c.settle-candidates.result.1.items in
    let freed = managed_numbers ms in
    let after = c.renew.new.headers.items in
    let answers = answers_of c.args.alive.now.values in
    let own : candidates_of s.managed ≡ open'.candidates = ap (λ (o : Option OpenCycle). elim o [ None ↦ [] | Some k ↦ k.candidates ]) opened in
    let given : c.deref-5.result.now ≡ candidates_of s.managed = c.deref-5.ensures.value ∙ (c.settle-candidates.ensures.candidates ∙ sym own) in
    let handles : map (λ (k : Header). k.handle) after ≡ renewed s.managed.held (candidates_of s.managed) answers =
    c.renew.ensures.handles ∙ (ap (λ z. renewed z c.deref-5.result.now answers) c.forget_pairs.ensures.handles ∙ ap (λ z. renewed s.managed.held z answers) given) in
    let next = rows_of c.free.new.self.heap after c.forget_pairs.new.registry c.self.inside.cells no_pins c.notify.new.notices c.close-open.new.cycle c.self.inside.cycles c.self.inside.contracted in
    let heap-is : c.free.new.self.heap ≡ with_freed c.self.inside.heap.heap freed = c.free.ensures.heap
    ∙ (ap (λ z. with_freed c.settle-candidates.new.heap.heap (managed_numbers z)) c.deref.ensures.value ∙ ap (λ (v : HeapRows). with_freed v.heap freed) c.settle-candidates.ensures.rest) in
    let queued : managed_numbers c.notify.new.notices.queued ≡ managed_numbers c.self.inside.notices.queued ++ filter
    (has_handle s.managed.held) freed = rw (c.deref-2.ensures.value, c.deref-3.ensures.value) at c.notify.ensures.queued in
    let same : filter (has_handle s.managed.held) freed ≡ filter (holds_handle s.managed) freed = filter-live s.managed freed
    (λ m k. cut.live m ((unmarked_of-exact c.settle-candidates.new.heap.marks open'.dead m).0 (subst (λ xs. Contains xs m) c.settle-candidates.ensures.freed k)).0) in
    subst (λ z. TakesResolution z next c.args.alive.now.values freed c.number-cycle.result (c.made.result - c.live.result) c.count_alive.result) c.self.view_is (record {
      cycle = open';
      opened = opened;
      resolution = resolution-is c.self.inside.heap c.settle-candidates.new.heap c.self.inside.notices.spare s.managed open'
          c.args.alive.now.values freed refl c.self.invariant.2 due c.settle-candidates.ensures.marks c.settle-candidates.ensures.freed;
      state = rw c.close-open.ensures.closed (resolved-is c.self.inside.heap.heap c.free.new.self.heap c.self.inside.headers.items after
          c.self.inside.registry c.forget_pairs.new.registry c.self.inside.cells
          no_pins c.self.inside.notices c.notify.new.notices c.self.inside.cycle c.self.inside.cycles c.self.inside.contracted answers freed heap-is
          (c.renew.ensures.kinds ∙ c.forget_pairs.ensures.kinds) handles (rw c.deref-4.ensures.value at c.forget_pairs.ensures.pairs)
          (queued ∙ ap (λ z. managed_numbers c.self.inside.notices.queued ++ z) same) c.notify.ensures.taken);
      numbered = c.number-cycle.ensures;
      before = omega (arith, c.made.ensures.made, c.live.ensures);
      counted = c.count_alive.ensures;
    })
