-- Flags and marks, as they are read at an index.
use Rattle.std.proofs.Common.{◌≡◌, ◌≢◌, ℕ, ◌<◌, Bool, true, false, List, length, get_or, Some, sym, ◌∙◌}
use Rattle.std.proofs.lemmas.Bool.{true≢false}
use Rattle.std.proofs.lemmas.Option.{slice_get_within, slice_get-get_or, get_or_from_slice_get}
use Rattle.array_graphs.specs.Graphs.{IsSet}
use Rattle.reachability.specs.Marks.{HasMark}

pub set-at : (flags : List ℕ) (x : ℕ) → x < length flags → get_or flags x 0 ≢ 0 → IsSet flags x
set-at flags x l n = (get_or flags x 0, slice_get-get_or flags x 0 l, n)

pub unset-at : (flags : List ℕ) (x : ℕ) → get_or flags x 0 ≡ 0 → IsSet flags x → ⊥
unset-at flags x e s = s.2 (sym (get_or_from_slice_get flags x s.0 0 s.1) ∙ e)

pub set-within : (flags : List ℕ) (x : ℕ) → IsSet flags x → x < length flags
set-within flags x s = slice_get_within flags x s.0 s.1

pub mark-at : (marks : List Bool) (x : ℕ) → x < length marks → get_or marks x false ≡ true → HasMark marks x
mark-at marks x l e = slice_get-get_or marks x false l ∙ (λ i. Some (e i))

pub unmarked-at : (marks : List Bool) (x : ℕ) → get_or marks x false ≡ false → HasMark marks x → ⊥
unmarked-at marks x e m = true≢false (sym (get_or_from_slice_get marks x true false m) ∙ e)

pub mark-within : (marks : List Bool) (x : ℕ) → HasMark marks x → x < length marks
mark-within marks x m = slice_get_within marks x true m
