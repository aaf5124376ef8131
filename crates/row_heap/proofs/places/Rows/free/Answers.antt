-- The place keeps what the row had.
use Rattle.std.proofs.Common.{◌≡◌, ℕ, ◌∙◌, ◌-◌, List, None, refl, sym, arith}
use Rattle.std.specs.declared.snapshot.Snapshot.{Snapshot}
use Rattle.row_heap.specs.declared.fields.Fields.{Fields}
use Rattle.row_heap.specs.declared.places.RowPlace.TheVariants.{At}
use Rattle.row_heap.specs.declared.places.Rows.TheInside.{Inside}
use Rattle.row_heap.specs.Places.{Seen, row_at}
use Rattle.row_heap.proofs.Indexed.{KeepsOthers, keeps-others, stands-within}
use Rattle.row_heap.proofs.Marked.{fields-under, freed-are, freed-rows, index-under, key-under, leaf-under, not-gone, place-under}
use Rattle.row_heap.proofs.places.Rows.free.Goals.{Joined-index, in-At, in-Leaf}
use Rattle.row_heap.proofs.places.Rows.free.Goals as goal

pub index-requires : goal.index-requires
index-requires c =
    let s = c.self.inside in
    omega (arith, index-under s.slab s.places.items c.args.self.now s.marks.items s.links.items c.args.x c.self.view_is c.requires, s.places.ok)

pub remove-requires : goal.remove-requires
remove-requires c =
    let s = c.self.inside in
    key-under s.slab s.places.items c.args.self.now s.marks.items s.links.items c.args.x c.index.result.now c.in-At.key c.self.view_is c.self.invariant.index c.requires c.in-At.is c.index.ensures

pub unreachable-requires : goal.unreachable-requires
unreachable-requires c =
    let s = c.self.inside in
    not-gone s.slab s.places.items c.args.self.now s.marks.items s.links.items c.args.x c.index.result.now c.in-Gone.field-0 c.self.view_is c.requires c.in-Gone.is c.index.ensures

-- either way the lists are as they were, and the slab has what it had under the keys of other places
record IsLeft (old new : Inside) (rows : List Seen) (x : ℕ) (left : Snapshot Fields) : Type 0 where
  lists : (new.places ≡ old.places) × (new.marks ≡ old.marks) × (new.links ≡ old.links)
  others : KeepsOthers old.slab new.slab old.places.items (x - 1)
  had : left.value ≡ (row_at rows x).fields

is-left : (c : Joined-index) → IsLeft c.self.inside c.match-index.self-inside c.args.self.now c.args.x c.match-index.left
is-left c =
    let s = c.self.inside in
    let rows = c.args.self.now in
    elim c.match-index.branch [
      | in-At w ↦
          let at = (place-under s.slab s.places.items rows s.marks.items s.links.items c.args.x c.index.result.now (At w.in-At.key)
          c.self.view_is (stands-within rows c.args.x c.requires) w.in-At.is c.index.ensures).0 in
          rw (w.self-inside-is, w.left-is) record {
            lists = (refl, refl, refl);
            others = keeps-others s.slab w.remove.new.self s.places.items (c.args.x - 1) w.in-At.key None c.self.invariant.index at w.remove.ensures.updates;
            had = w.kept-left.ensures ∙ sym (fields-under s.slab s.places.items rows s.marks.items s.links.items c.args.x c.index.result.now w.in-At.key w.remove.result
                c.self.view_is c.requires w.in-At.is c.index.ensures w.remove.ensures.value);
          }
      | in-Leaf w ↦ rw (w.self-inside-is, w.left-is) record {
        lists = (refl, refl, refl);
        others = λ j k n e. refl;
        had = w.none_kept-left.ensures ∙ sym (leaf-under s.slab s.places.items rows s.marks.items s.links.items c.args.x c.index.result.now c.self.view_is c.requires w.in-Leaf.is c.index.ensures);
      }
    ]

pub index_mut-requires : goal.index_mut-requires
index_mut-requires c =
    let s = c.self.inside in
    let lt = index-under s.slab s.places.items c.args.self.now s.marks.items s.links.items c.args.x c.self.view_is c.requires in
    rw (is-left (goal.at.index_mut-requires c).Joined-index).lists.0 (omega (arith, lt, s.places.ok))

pub index_mut-requires-2 : goal.index_mut-requires-2
index_mut-requires-2 c =
    let s = c.self.inside in
    let lt = index-under s.slab s.places.items c.args.self.now s.marks.items s.links.items c.args.x c.self.view_is c.requires in
    rw (is-left (goal.at.index_mut-requires-2 c).Joined-index).lists.1 (omega (arith, lt, c.self.invariant.marks_len, s.marks.ok))

pub index_mut-requires-3 : goal.index_mut-requires-3
index_mut-requires-3 c =
    let s = c.self.inside in
    let lt = index-under s.slab s.places.items c.args.self.now s.marks.items s.links.items c.args.x c.self.view_is c.requires in
    rw (is-left (goal.at.index_mut-requires-3 c).Joined-index).lists.2 (omega (arith, lt, c.self.invariant.links_len, s.links.ok))

pub invariant_of-self : goal.invariant_of-self
invariant_of-self c =
    let s = c.self.inside in
    let l = is-left (goal.at.invariant_of-self c).Joined-index in
    rw (l.lists.0, l.lists.1, l.lists.2) (freed-are s.slab c.match-index.self-inside.slab s.places.items c.args.self.now s.marks.items s.links.items c.args.x c.match-index.left
    c.self.view_is c.self.invariant c.requires l.others l.had)

pub returns : goal.returns
returns c =
    let s = c.self.inside in
    let l = is-left (goal.at.returns c).Joined-index in
    rw (l.lists.0, l.lists.1, l.lists.2) (freed-rows s.slab c.match-index.self-inside.slab s.places.items c.args.self.now s.marks.items s.links.items c.args.x c.match-index.left
    c.self.view_is c.self.invariant c.requires l.others l.had)
