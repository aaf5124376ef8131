-- One fill takes all marks down.
use Rattle.std.proofs.Common.{◌≡◌, ◌∙◌, ◌+◌, ◌-◌, ◌<◌, ◌≤◌, false, get_or, length, map, min, replicate, take, ap, sym, arith}
use Rattle.std.proofs.lemmas.Bool.{false_from_ne_true}
use Rattle.std.proofs.lemmas.List.{length-replicate, length-take, get_or-take}
use Rattle.row_heap.specs.Places.{row_at, unmarked_row}
use Rattle.row_heap.proofs.Marked.{AreRows-as, len-under, mark-under, stand-down, unmarked-rows}
use Rattle.row_heap.proofs.places.Rows.unmark_from.Goals as goal

pub lower-requires : goal.lower-requires
lower-requires c = λ k d l.
    let s = c.self.inside in
    let size : length (take c.args.from s.marks.items) ≡ min c.args.from (length s.marks.items) = length-take c.args.from s.marks.items in
    let within : k < length s.marks.items = omega (arith, l, size) in
    let before : k < c.args.from = omega (arith, l, size) in
    let made : k + 1 ≤ length c.args.self.now = omega (arith, within, c.self.invariant.marks_len, len-under s.slab s.places.items c.args.self.now s.marks.items s.links.items c.self.view_is) in
    let at : k + 1 - 1 ≡ k = omega arith in
    let same : (row_at c.args.self.now (k + 1)).marked ≡ get_or (take c.args.from s.marks.items) k d =
    mark-under s.slab s.places.items c.args.self.now s.marks.items s.links.items (k + 1) d c.self.view_is (omega arith) made c.self.invariant.marks_len
    ∙ (ap (λ i. get_or s.marks.items i d) at ∙ sym (get_or-take c.args.from s.marks.items k d before)) in
    false_from_ne_true (get_or (take c.args.from s.marks.items) k d) (λ up. c.requires (k + 1) (omega (arith, before)) (same ∙ up))

pub invariant_of-self : goal.invariant_of-self
invariant_of-self c =
    let s = c.self.inside in
    let down : c.lower.new.marks.items ≡ replicate (length s.marks.items) false = c.lower.ensures in
    AreRows-as s.slab s.places.items c.lower.new.marks.items s.links.items (map unmarked_row c.args.self.now) c.self.invariant.index
    (ap length down ∙ (length-replicate (length s.marks.items) false ∙ c.self.invariant.marks_len)) c.self.invariant.links_len
    (unmarked-rows s.slab s.places.items c.args.self.now s.marks.items c.lower.new.marks.items s.links.items c.self.view_is down) (stand-down c.args.self.now)

pub returns : goal.returns
returns c =
    let s = c.self.inside in
    let down : c.lower.new.marks.items ≡ replicate (length s.marks.items) false = c.lower.ensures in
    unmarked-rows s.slab s.places.items c.args.self.now s.marks.items c.lower.new.marks.items s.links.items c.self.view_is down
