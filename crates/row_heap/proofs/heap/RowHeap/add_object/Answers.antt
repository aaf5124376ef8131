-- The further row stands last, and the list of freed objects has room for it too.
use Rattle.std.proofs.Common.{rules, ◌≡◌, ◌∙◌, ◌+◌, ◌<◌, ◌≤◌, ap, map, length, refl, arith, None, vec_capacity, length-append}
use Rattle.std.proofs.lemmas.List.{length-map, length-replicate}
use Rattle.joint_machine.specs.Heaps.{MOST}
use Rattle.heap_rules.proofs.Sound.{IsLive-last}
use Rattle.row_heap.proofs.FieldCounts.{count-added}
use Rattle.row_heap.proofs.Gone.{gone-same}
use Rattle.row_heap.proofs.Sound.{IsRowHeap-added, seen-added}
use Rattle.row_heap.proofs.heap.RowHeap.add_object.Goals as goal

pub invariant_of-self-2 : goal.invariant_of-self-2
invariant_of-self-2 g c =
    let old = c.self.inside in
    let seen = rw (← c.self.view_is) at c.requires in
    let len = length-map old.rows (λ r. r.fields) in
    let few : length old.rows < MOST = omega (arith, seen, len) in
    let space : length old.rows + 1 ≤ vec_capacity c.reserve.new.self =
    omega (
      arith,
      c.in_ok-reserve.ensures.ok,
      c.reserve.ensures.len,
      c.made-made.ensures,
      c.len.ensures,
      old.freed.ok,
      len,
      length-map old.freed.items g.N.Number.number,
      c.self.invariant.0.sound.flags.count,
    ) in (
      IsRowHeap-added _ _ _ _ _ _ c.self.inside.references _ _ _ c.args.fields _ c.self.invariant.0 few space c.in_ok-add.ensures.ok refl refl refl
          (ap (map g.N.Number.number) c.reserve.ensures.items),
      gone-same _ _ _ c.self.invariant.1 (ap (map g.N.Number.number) c.reserve.ensures.items),
      count-added _ c.args.fields _ _ _ _ (omega (arith)) c.in_ok-add.ensures.ok (length-replicate c.args.fields None) (omega (arith, c.ranges.fields)) c.self.invariant.2,
    )

pub returns-clause-live : goal.returns-clause-live
returns-clause-live g c =
    let rows = c.self.inside.rows in
    let len = length-map rows (λ r. r.fields) in
    let more : length c.add.new.self ≡ length rows + 1 = ap length c.in_ok-add.ensures.ok ∙ length-append rows _ in
    IsLive-last _ _ _ c.self.invariant.0.sound.tidy (omega (arith, c.made-made.ensures, len))
    (omega (arith, more, len, length-map c.add.new.self (λ r. r.fields))) (ap (map g.N.Number.number) c.reserve.ensures.items)

pub invariant_of-self : goal.invariant_of-self
invariant_of-self g c = (search rules, gone-same _ _ _ c.self.invariant.1 (ap (map g.N.Number.number) c.reserve.ensures.items), c.self.invariant.2)

pub invariant_of-self-in_err-add : goal.invariant_of-self-in_err-add
invariant_of-self-in_err-add g c = (search rules, gone-same _ _ _ c.self.invariant.1 (ap (map g.N.Number.number) c.reserve.ensures.items), rw c.in_err-add.ensures.err c.self.invariant.2)

pub overflow_add-made : goal.overflow_add-made
overflow_add-made g c = omega (arith, c.made-made.ensures, rw (← c.self.view_is) at c.requires, length-map c.self.inside.rows (λ r. r.fields))

pub overflow_sub-made : goal.overflow_sub-made
overflow_sub-made g c =
    let old = c.self.inside in
    omega (arith, c.len.ensures, c.made-made.ensures, c.self.invariant.0.sound.flags.count, length-map old.rows (λ r. r.fields), length-map old.freed.items g.N.Number.number)

pub overflow_cast-result : goal.overflow_cast-result
overflow_cast-result g c = omega (arith, c.made-made.ensures, rw (← c.self.view_is) at c.requires, length-map c.self.inside.rows (λ r. r.fields))

pub overflow_add-result : goal.overflow_add-result
overflow_add-result g c = omega (arith, c.made-made.ensures, rw (← c.self.view_is) at c.requires, length-map c.self.inside.rows (λ r. r.fields))

pub returns-clause-number : goal.returns-clause-number
returns-clause-number g c = rw (← c.self.view_is) (omega (arith, c.made-made.ensures, length-map c.self.inside.rows (λ r. r.fields)))

pub returns-clause-ok : goal.returns-clause-ok
returns-clause-ok g c = seen-added _ _ _ _ _ _ c.self.inside.references _ c.args.self.now c.args.fields _ c.self.view_is c.in_ok-add.ensures.ok refl
    (ap (map g.N.Number.number) c.reserve.ensures.items)

pub overflow_add-self : goal.overflow_add-self
overflow_add-self g c = omega (arith, c.self.invariant.2.most, rw (← c.self.view_is) at c.requires, length-map c.self.inside.rows (λ r. r.fields))
