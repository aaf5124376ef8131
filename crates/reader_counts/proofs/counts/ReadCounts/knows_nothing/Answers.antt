use Rattle.std.proofs.Common.{◌≡◌, ℕ, zero, suc, List, [], ◌∷◌, Option, Some, None, sym, ◌∙◌, ap, subst, get_or}
use Rattle.std.specs.Prelude.{◌↔◌, IsTrue, slice_get}
use Rattle.reader_counts.specs.declared.counts.CellSet.{CellSet}
use Rattle.reader_counts.specs.Counts.{IsUnknownBy}
use Rattle.reader_counts.proofs.counts.ReadCounts.knows_nothing.Goals as goal

-- the setting in a place
set-there : (cells : List (Option CellSet)) (k : ℕ) (w : CellSet) → get_or cells k None ≡ Some w → (elim (slice_get cells k) [ None ↦ None | Some o ↦ o ]) ≡ Some w
set-there [] k w e = e
set-there (x ∷ cells) zero w e = e
set-there (x ∷ cells) (suc k) w e = set-there cells k w e

pub returns-in-Some : goal.returns-in-Some
returns-in-Some c =
    let is = set-there c.self.inside.cells c.args.k.0 c.in-Some.set c.in-Some.is in
    subst (λ o. IsTrue c.has_not_seen.result ↔ IsUnknownBy c.args.self.now c.args.caller o)
    (sym (ap (λ s. elim (slice_get s.cells c.args.k.0) [ None ↦ None | Some o ↦ o ]) (sym c.self.view_is) ∙ is)) c.has_not_seen.ensures
