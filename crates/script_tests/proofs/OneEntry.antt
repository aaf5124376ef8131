-- A list of one entry, the only list of a run, joins to the history of that entry, where the entry fits what the
-- history's lists hold.
use Rattle.std.proofs.Common.{◌≡◌, List, [], ◌∷◌, All, Contains, map, refl}
use Rattle.std.proofs.lemmas.List.Elements.{All-nil, All-cons}
use Rattle.joint_machine.proofs.Members.{Contains-here}
use Rattle.joint_machine.specs.declared.names.MNum.{MNum}
use Rattle.joint_machine.specs.declared.names.PNum.{PNum}
use Rattle.joint_machine.specs.declared.events.Entry.{Entry}
use Rattle.joint_machine.specs.Components.{Rises}
use Rattle.joint_machine.specs.Histories.{FitsLists}
use Rattle.joint_machine.specs.Shuffles.{IsJoinable, IsPlaced, IsShuffle}
use Rattle.joint_model.specs.Listed.{Stock, entry_lists}

-- the entry stands at its number
placed : (e : Entry) → e.number ≡ 0 → IsPlaced (e ∷ []) e
placed e first = rw first refl

shuffled : (e : Entry) → e.number ≡ 0 → IsShuffle ((e ∷ []) ∷ []) (e ∷ [])
shuffled e first = record {
  numbers = (first, tt);
  rise = All-cons (λ list. Rises (map (λ (x : Entry). x.number) list)) (e ∷ []) [] (All-nil _, tt) (All-nil _);
  placed = All-cons (λ list. All (IsPlaced (e ∷ [])) list) (e ∷ []) [] (All-cons (IsPlaced (e ∷ [])) e [] (placed e first) (All-nil _)) (All-nil _);
  covered = All-cons (λ x. (list : List Entry) × Contains ((e ∷ []) ∷ []) list × Contains list x) e [] (e ∷ [], Contains-here (e ∷ []) [], Contains-here e []) (All-nil _);
  count = refl;
}

pub joins_one : (stocks : List Stock) (s : Stock) (e : Entry) (ms : List MNum) (ps : List PNum) (ns : List MNum) → stocks ≡ s ∷ [] → s.entries ≡ e ∷ [] → e.number ≡ 0
    → FitsLists ms ps ns e → IsJoinable (entry_lists stocks) ms ps ns
joins_one stocks s e ms ps ns one alone first fits = rw (one, alone) record {
  whole = e ∷ [];
  shuffle = shuffled e first;
  fits = All-cons (FitsLists ms ps ns) e [] fits (All-nil _);
}
