use Rattle.std.proofs.Common.{rules, ◌≡◌, ◌<◌, length, slice_index_or, arith, ap, sym, subst, ◌∙◌, refl, true}
use Rattle.joint_model.specs.declared.packed.PackedEntry.{PackedEntry}
use Rattle.joint_model.specs.declared.marks.Mark.{Mark}
use Rattle.joint_model.specs.Marks.{leaders_of, Row}
use Rattle.joint_model.proofs.Places.{ends-last, ends-none, found-marked, found-plain, found-there, length_leaders}
use Rattle.joint_model.proofs.marks.Leaders.at.Goals.{then-before-eq0, else-before-eq0}
use Rattle.joint_model.proofs.marks.Leaders.at.Goals as goal

pub index-entry-requires : goal.index-entry-requires
index-entry-requires c =
    let es = c.self.inside.entries.items in
    let all : length (leaders_of 0 es c.self.inside.marks.items) ≡ length c.args.self.now.all = ap (λ (s : Row). length s.all) c.self.view_is in
    let within : c.args.i < length es = omega (arith, all, length_leaders 0 es c.self.inside.marks.items, c.requires) in
    search rules

pub index-mark-requires : goal.index-mark-requires
index-mark-requires c =
    let es = c.self.inside.entries.items in
    let ms = c.self.inside.marks.items in
    let all : length (leaders_of 0 es ms) ≡ length c.args.self.now.all = ap (λ (s : Row). length s.all) c.self.view_is in
    let within : c.args.i < length es = omega (arith, all, length_leaders 0 es ms, c.requires) in
    let search_ends = rw c.as_slice.ensures.value at c.marks_before-before.ensures in
    let r = found-there es ms c.args.i c.marks_before-before.result c.self.invariant within search_ends.within search_ends.before search_ends.after in
    let some : c.marks_before-before.result < length ms = r.mark c.index-entry.result.now (subst (λ (x : PackedEntry). x.marked ≡ true) c.index-entry.ensures c.if-entry.true) in
    search rules

pub returns-then-entry-clause-leader : goal.returns-then-entry-clause-leader
returns-then-entry-clause-leader c = λ d.
    let es = c.self.inside.entries.items in
    let ms = c.self.inside.marks.items in
    let all : length (leaders_of 0 es ms) ≡ length c.args.self.now.all = ap (λ (s : Row). length s.all) c.self.view_is in
    let within : c.args.i < length es = omega (arith, all, length_leaders 0 es ms, c.requires) in
    let search_ends = rw c.as_slice.ensures.value at c.marks_before-before.ensures in
    let r = found-there es ms c.args.i c.marks_before-before.result c.self.invariant within search_ends.within search_ends.before search_ends.after in
    let p = c.index-entry.result.now in
    let m = c.index-mark.result.now in
    ap (λ (s : Row). slice_index_or s.all c.args.i d) (sym c.self.view_is)
    ∙ (found-marked es ms c.args.i c.marks_before-before.result p m d r c.index-entry.ensures c.if-entry.true c.index-mark.ensures ∙ (rw c.unpack_high.ensures refl))

pub returns-clause-leader : goal.returns-clause-leader
returns-clause-leader c = λ d.
    let es = c.self.inside.entries.items in
    let ms = c.self.inside.marks.items in
    let all : length (leaders_of 0 es ms) ≡ length c.args.self.now.all = ap (λ (s : Row). length s.all) c.self.view_is in
    let within : c.args.i < length es = omega (arith, all, length_leaders 0 es ms, c.requires) in
    let search_ends = rw c.as_slice.ensures.value at c.marks_before-before.ensures in
    let j = c.marks_before-before.result in
    let r = found-there es ms c.args.i j c.self.invariant within search_ends.within search_ends.before search_ends.after in
    let p = c.index-entry.result.now in
    let none : Mark = record { at = 0; from = 0; followers = 0; number_high = 0; cited_high = 0 } in
    ap (λ (s : Row). slice_index_or s.all c.args.i d) (sym c.self.view_is)
    ∙ (elim c.if-before-eq0.branch [
      | then-before-eq0 w ↦ found-plain es ms c.args.i j p none _ d r c.index-entry.ensures c.if-entry.false (ends-none ms j none (omega (arith, w.if-before-eq0.true)) ∙ sym w.from-is)
      | else-before-eq0 w ↦ found-plain es ms c.args.i j p w.index-last.result.now _ d r c.index-entry.ensures c.if-entry.false
          (ends-last ms j w.index-last.result.now (omega (arith, w.if-before-eq0.false)) w.index-last.ensures ∙ sym w.from-is)
    ] ∙ (rw c.unpack.ensures refl))
