-- A live object's row stands, and has its fields, which lead to live objects.
use Rattle.std.proofs.Common.{◌∙◌, ◌<◌, None, get_or, sym, ap, length, arith, subst}
use Rattle.std.specs.Prelude.{Contains}
use Rattle.std.proofs.lemmas.List.{get_or_default}
use Rattle.std.proofs.lemmas.List.Elements.{Contains-get_or}
use Rattle.joint_machine.specs.Heaps.{slot, fields_of}
use Rattle.heap_rules.proofs.Numbered.{slot-read}
use Rattle.heap_rules.proofs.Sound.{read-live}
use Rattle.row_heap.proofs.Sound.{live-stands, fields-seen, tidy-seen}
use Rattle.row_heap.proofs.heap.RowHeap.field.Goals as goal

pub fields-requires : goal.fields-requires
fields-requires g c = live-stands _ _ _ _ _ c.args.x c.self.invariant.0.sound (rw (← c.self.view_is) at c.requires.live)

pub bounds-fields-i : goal.bounds-fields-i
bounds-fields-i g c =
    let same = fields-seen _ _ _ _ c.self.inside.references _ c.args.self.now c.args.x c.self.view_is ∙ sym c.fields.ensures in
    omega (arith, c.requires.index, ap length same)

pub returns-clause-value : goal.returns-clause-value
returns-clause-value g c =
    let same = fields-seen _ _ _ _ c.self.inside.references _ c.args.self.now c.args.x c.self.view_is ∙ sym c.fields.ensures in
    let within = subst (λ l. c.args.i < length l) same c.requires.index in
    ap (λ l. slot l c.args.i) same ∙ slot-read c.fields.result.now c.args.i (get_or c.fields.result.now c.args.i None) within
    (get_or_default c.fields.result.now c.args.i None (get_or c.fields.result.now c.args.i None) within)

pub returns-clause-live : goal.returns-clause-live
returns-clause-live g c =
    let fs = c.fields.result.now in
    let same = fields-seen _ _ _ _ c.self.inside.references _ c.args.self.now c.args.x c.self.view_is ∙ sym c.fields.ensures in
    let tidy = tidy-seen _ _ _ _ c.self.inside.references _ c.args.self.now _ c.self.view_is c.self.invariant.0.sound in
    let at = Contains-get_or fs c.args.i None (subst (λ l. c.args.i < length l) same c.requires.index) in
    read-live c.args.self.now.heap (fields_of c.args.self.now.heap c.args.x) (get_or fs c.args.i None)
    (λ y p. tidy.held c.args.x y c.requires.live p) (subst (λ l. Contains l (get_or fs c.args.i None)) (sym same) at)

pub offset_bounds-fields-i : goal.offset_bounds-fields-i
offset_bounds-fields-i g c =
    let same = fields-seen _ _ _ _ c.self.inside.references _ c.args.self.now c.args.x c.self.view_is ∙ sym c.fields.ensures in
    omega (arith, c.requires.index, ap length same, c.fields.type_inv.1)
