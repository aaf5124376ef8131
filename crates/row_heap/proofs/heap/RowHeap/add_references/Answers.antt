-- The further references lead from rows that stand, and nothing follows them.
use Rattle.std.proofs.Common.{◌++◌, ◌-◌, ◌∙◌, false, length, map, ap, arith}
use Rattle.std.proofs.lemmas.List.Elements.{All-contains}
use Rattle.joint_machine.specs.Components.{node}
use Rattle.row_heap.specs.Ends.{Linked, ends_of}
use Rattle.row_heap.specs.Rows.{HeapRows, MayReferBoth, rows_of}
use Rattle.row_heap.proofs.Sound.{AreReferences-added, IsRowHeap-other, ends-refer, made-seen, tidy-seen}
use Rattle.row_heap.proofs.heap.RowHeap.add_references.Goals as goal

pub push_all-requires-clause-ends : goal.push_all-requires-clause-ends
push_all-requires-clause-ends g c =
    let s = c.self.inside in
    ends-refer c.args.self.now s.references.temps _ (tidy-seen _ _ _ _ s.references _ _ _ c.self.view_is c.self.invariant.0.sound).most (ap (λ (v : HeapRows). v.temps) c.self.view_is) c.requires.ends

pub push_all-requires-clause-room : goal.push_all-requires-clause-room
push_all-requires-clause-room g c = omega (arith, c.requires.room, ap (λ (v : HeapRows). v.room) c.self.view_is)

pub invariant_of-self : goal.invariant_of-self
invariant_of-self g c =
    let s = c.self.inside in
    let more = map ends_of c.args.refs.now in (
      IsRowHeap-other _ _ _ _ _ _ _ _ _ c.self.invariant.0
          (AreReferences-added s.rows s.references _ more _ (ap (λ (l : Linked). l.refs) c.push_all.ensures)
          (λ p f h. (let w = All-contains (MayReferBoth c.args.self.now) more (node p, f) c.requires.ends h in omega (arith, w.0.made.1, made-seen _ _ _ _ s.references _ _ c.self.view_is)))
          c.self.invariant.0.references),
      c.self.invariant.1,
      c.self.invariant.2,
    )

pub returns : goal.returns
returns g c =
    let s = c.self.inside in
    ap (λ (l : Linked). rows_of s.rows (map g.N.Number.number s.freed.items) s.vars s.statics l false) c.push_all.ensures
    ∙ ap (λ (w : HeapRows). record w { refs = w.refs ++ map ends_of c.args.refs.now; follows = false; room = w.room - length c.args.refs.now }) c.self.view_is
