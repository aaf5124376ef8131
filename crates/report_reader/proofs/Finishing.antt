-- One list of entries, numbered from 0 on, is joined to the history that has just them.
use Rattle.std.proofs.Common.{◌≡◌, ℕ, ◌+◌, ◌<◌, List, [], ◌∷◌, map, ap, ◌∙◌, subst, arith}
use Rattle.std.specs.Prelude.{All, Contains}
use Rattle.std.proofs.lemmas.List.Elements.{All-nil, All-cons}
use Rattle.joint_machine.specs.declared.names.MNum.{MNum}
use Rattle.joint_machine.specs.declared.names.PNum.{PNum}
use Rattle.joint_machine.specs.declared.events.Entry.{Entry}
use Rattle.joint_machine.specs.Components.{Rises}
use Rattle.joint_machine.specs.Histories.{IsHistory, NumberedFrom}
use Rattle.joint_machine.specs.Shuffles.{IsJoinable, IsPlaced, IsShuffle}
use Rattle.joint_model.specs.Listed.{Stock, entry_lists}
use Rattle.joint_machine.proofs.Joining.{placed_all}
use Rattle.joint_machine.proofs.Members.{All-members, Contains-here, Contains-map_cases}
use Rattle.joint_model.proofs.Merging.{NumberedFrom-high}
use Rattle.joint_model.proofs.Shuffling.{shuffle_is_one}
use Rattle.report_reader.specs.Steps.{Read, history_of}

-- the numbers rise
rises_from : (n : ℕ) (es : List Entry) → NumberedFrom n es → Rises (map (λ (e : Entry). e.number) es)
rises_from n [] h = tt
rises_from n (x ∷ es) h = (All-members (λ k. x.number < k) (map (λ (e : Entry). e.number) es) later, rises_from (n + 1) es h.1)
  where
    later : (k : ℕ) → Contains (map (λ (e : Entry). e.number) es) k → x.number < k
    later k c =
        let w = Contains-map_cases (λ (e : Entry). e.number) es k c in
        let high = NumberedFrom-high (n + 1) es h.1 w.0 w.1 in
        omega (arith, high, w.2, h.0)

one_list : (es : List Entry) → NumberedFrom 0 es → IsShuffle (es ∷ []) es
one_list es h = record {
  numbers = h;
  rise = All-cons (λ list. Rises (map (λ (e : Entry). e.number) list)) es [] (rises_from 0 es h) (All-nil _);
  placed = All-cons (λ list. All (IsPlaced es) list) es [] (All-members (IsPlaced es) es (placed_all es h)) (All-nil _);
  covered = All-members (λ (e : Entry). (list : List Entry) × Contains (es ∷ []) list × Contains list e) es (λ e c. (es, Contains-here es [], c));
  count = omega arith;
}

-- the only list of a run
pub joins : (stocks : List Stock) (s : Stock) (r : Read) (ms : List MNum) (ps : List PNum) (ns : List MNum) → stocks ≡ s ∷ [] → s.entries ≡ r.entries
    → ms ≡ r.lists.managed → ps ≡ r.lists.peers → ns ≡ r.lists.notices → IsHistory (history_of r) → IsJoinable (entry_lists stocks) ms ps ns
joins stocks s r ms ps ns one same a b c h = rw (one, same, a, b, c) record { whole = r.entries; shuffle = one_list r.entries h.numbers; fits = h.fits }

pub joined : (stocks : List Stock) (s : Stock) (r : Read) (es : List Entry) → stocks ≡ s ∷ [] → s.entries ≡ r.entries → IsHistory (history_of r) → IsShuffle (entry_lists stocks) es → es ≡ r.entries
joined stocks s r es one same h w =
    let lists : entry_lists stocks ≡ r.entries ∷ [] = ap entry_lists one ∙ ap (λ (z : List Entry). z ∷ []) same in
    let w' = subst (λ (z : List (List Entry)). IsShuffle z es) lists w in
    shuffle_is_one (r.entries ∷ []) es r.entries w' (one_list r.entries h.numbers)
