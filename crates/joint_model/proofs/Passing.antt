-- What a list has let go stands before what it holds.
use Rattle.std.proofs.Common.{◌≡◌, List, [], ◌∷◌, ◌++◌, ap, sym, ◌∙◌}
use Rattle.std.proofs.lemmas.List.{append-nil, append_assoc}
use Rattle.std.specs.declared.snapshot.Snapshot.{Snapshot}
use Rattle.joint_model.specs.Listed.{Shelf, passed}

pub passed-push : (ks : List (Snapshot Shelf)) (k : Snapshot Shelf) → passed (ks ++ k ∷ []) ≡ passed ks ++ k.value.entries
passed-push [] k = append-nil k.value.entries
passed-push (j ∷ ks) k = ap (λ es. j.value.entries ++ es) (passed-push ks k) ∙ sym (append_assoc j.value.entries (passed ks) k.value.entries)
