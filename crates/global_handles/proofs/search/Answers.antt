use Rattle.std.proofs.Common.{◌+◌, ◌-◌, ◌/◌, slice_index_or, sym, inl, inr, ◌∙◌, arith}
use Rattle.std.proofs.lemmas.Bool.{cases_lt}
use Rattle.std.proofs.lemmas.Option.{slice_get-get_or, slice_get_past}
use Rattle.global_handles.specs.declared.Name.{Name}
use Rattle.global_handles.proofs.Slots.{above-middle, below-middle, name_in-here, name_in-none}
use Rattle.global_handles.proofs.search.Goals as goal

pub returns-then-name-h : goal.returns-then-name-h
returns-then-name-h c =
    let es = c.args.names.now in
    let m = c.loop-low.low + (c.loop-low.high - c.loop-low.low) / 2 in
    let e : Name = slice_index_or es m (record { number = 0; place = 0 }) in
    let there = slice_get-get_or es m (record { number = 0; place = 0 }) (omega (arith, c.loop-low.invariant.within, c.loop-low-test.true)) in
    there ∙ sym (name_in-here 0 c.requires.0 es m e c.args.h c.requires.1 there c.if-name-h.true)

pub loop-low-preserved-then-name-h-2 : goal.loop-low-preserved-then-name-h-2
loop-low-preserved-then-name-h-2 c =
    let es = c.args.names.now in
    let i = c.loop-low.invariant in
    let m = c.loop-low.low + (c.loop-low.high - c.loop-low.low) / 2 in
    let e : Name = slice_index_or es m (record { number = 0; place = 0 }) in
    let there = slice_get-get_or es m (record { number = 0; place = 0 }) (omega (arith, i.within, c.loop-low-test.true)) in
    record {
      order = omega (arith, c.loop-low-test.true);
      within = i.within;
      below = below-middle c.requires.0 es m c.args.h.0 e c.requires.1 there c.if-name-h-2.true;
      above = i.above;
    }

pub loop-low-preserved : goal.loop-low-preserved
loop-low-preserved c =
    let es = c.args.names.now in
    let i = c.loop-low.invariant in
    let m = c.loop-low.low + (c.loop-low.high - c.loop-low.low) / 2 in
    let e : Name = slice_index_or es m (record { number = 0; place = 0 }) in
    let there = slice_get-get_or es m (record { number = 0; place = 0 }) (omega (arith, i.within, c.loop-low-test.true)) in
    record {
      order = omega arith;
      within = omega (arith, i.within, c.loop-low-test.true);
      below = i.below;
      above = above-middle c.requires.0 es m c.args.h.0 e c.requires.1 there (omega (arith, c.if-name-h-2.false, c.if-name-h.false));
    }

pub returns : goal.returns
returns c =
    let i = c.loop-low.invariant in
    slice_get_past c.args.names.now _ (omega arith) ∙ sym (name_in-none c.args.names.now c.args.h (λ j e at is. elim (cases_lt j c.loop-low.low) [
      | inl lt ↦ omega (arith, is, i.below j e lt at)
      | inr ge ↦ omega (arith, is, i.above j e (omega (arith, c.loop-low-test.false)) at)
    ]))
