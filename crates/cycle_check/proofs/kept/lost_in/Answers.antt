use Rattle.std.proofs.Common.{ℕ, Option, None, Some, Bool, List, subst, arith}
use Rattle.std.specs.List.{Contains}
use Rattle.std.specs.Prelude.{MatchOption}
use Rattle.bridge_graph.specs.Packing.{packed_row}
use Rattle.array_graphs.specs.Graphs.{IsSet}
use Rattle.reachability.specs.Marks.{HasMark}
use Rattle.cycle_check.specs.Walking.{HasLost}
use Rattle.cycle_check.proofs.Flags.{mark-at}
use Rattle.cycle_check.proofs.kept.lost_in.Goals as goal

lost-from : (o : Option ℕ) (starts members kept : List ℕ) (marks : List Bool) (c : ℕ) → HasMark marks c
    → MatchOption o ((x : ℕ) → Contains (packed_row starts members c) x → IsSet kept x) (λ x. Contains (packed_row starts members c) x × (IsSet kept x → ⊥))
    → MatchOption o (HasMark marks c → HasLost starts members kept c → ⊥) (λ y. HasMark marks c × Contains (packed_row starts members c) y × (IsSet kept y → ⊥))
lost-from None starts members kept marks c m h = λ n w. w.2 (h w.0 w.1)
lost-from (Some y) starts members kept marks c m h = (m, h.0, h.1)

pub returns : goal.returns
returns c =
    let kept = c.args.kept.now in
    let Found : List ℕ → Type 0 = λ row. MatchOption c.first_unset.result ((x : ℕ) → Contains row x → IsSet kept x) (λ x. Contains row x × (IsSet kept x → ⊥)) in
    lost-from c.first_unset.result c.args.starts.now c.args.members.now kept c.args.marks.now c.args.c
    (mark-at c.args.marks.now c.args.c (omega (arith, c.requires.comp, c.requires.marks)) c.if-not-marks-c.false) (subst Found c.packed_row.ensures c.first_unset.ensures)
