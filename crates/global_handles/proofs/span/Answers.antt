-- The numbers rise by one at least from the first name on, and so up to the last.
use Rattle.std.proofs.Common.{◌-◌, length, arith}
use Rattle.std.proofs.lemmas.Option.{slice_get-get_or, slice_get_within}
use Rattle.global_handles.specs.declared.Name.{Name}
use Rattle.global_handles.proofs.Slots.{NamesRise-apart}
use Rattle.global_handles.proofs.span.Goals as goal

abbrev none : Name
none = record { number = 0; place = 0 }

pub returns-then-len-eq0-clause-above : goal.returns-then-len-eq0-clause-above
returns-then-len-eq0-clause-above c = λ i e le at. absurd (omega (arith, slice_get_within c.args.names.now i e at, c.if-len-eq0.true))

pub returns-then-h-first-clause-above : goal.returns-then-h-first-clause-above
returns-then-h-first-clause-above c =
    let es = c.args.names.now in
    let first = slice_get-get_or es 0 none (omega (arith, c.if-len-eq0.false)) in
    λ i e le at. omega (arith, NamesRise-apart 0 c.requires.0 es 0 i _ e c.requires.1 (omega arith) first at, c.if-h-first.true)

pub returns-then-last-h-clause-below : goal.returns-then-last-h-clause-below
returns-then-last-h-clause-below c =
    let es = c.args.names.now in
    let last = slice_get-get_or es (length es - 1) none (omega (arith, c.if-len-eq0.false)) in
    λ i e below at. omega (arith, below, NamesRise-apart 0 c.requires.0 es i (length es - 1) e _ c.requires.1 (omega (arith, below)) at last, c.if-last-h.true)

pub returns-then-last-h-clause-above : goal.returns-then-last-h-clause-above
returns-then-last-h-clause-above c = λ i e le at. absurd (omega (arith, le, slice_get_within c.args.names.now i e at))

pub returns-clause-order : goal.returns-clause-order
returns-clause-order c =
    let es = c.args.names.now in
    let first = slice_get-get_or es 0 none (omega (arith, c.if-len-eq0.false)) in
    let last = slice_get-get_or es (length es - 1) none (omega (arith, c.if-len-eq0.false)) in
    omega (
      arith,
      NamesRise-apart 0 c.requires.0 es 0 (length es - 1) _ _ c.requires.1 (omega arith) first last,
      c.saturating_sub-low.ensures,
      c.saturating_sub.ensures,
      c.if-h-first.false,
      c.if-last-h.false,
    )

pub returns-clause-below : goal.returns-clause-below
returns-clause-below c =
    let es = c.args.names.now in
    let last = slice_get-get_or es (length es - 1) none (omega (arith, c.if-len-eq0.false)) in
    λ i e below at. omega (
      arith,
      below,
      slice_get_within es i e at,
      NamesRise-apart 0 c.requires.0 es i (length es - 1) e _ c.requires.1 (omega (arith, slice_get_within es i e at)) at last,
      c.saturating_sub-low.ensures,
      c.if-last-h.false,
    )

pub returns-clause-above : goal.returns-clause-above
returns-clause-above c =
    let es = c.args.names.now in
    let first = slice_get-get_or es 0 none (omega (arith, c.if-len-eq0.false)) in
    λ i e le at. omega (arith, le, slice_get_within es i e at, NamesRise-apart 0 c.requires.0 es 0 i _ e c.requires.1 (omega arith) first at, c.saturating_sub.ensures, c.if-h-first.false)
