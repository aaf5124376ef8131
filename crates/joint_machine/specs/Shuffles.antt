-- Lists that hold the entries of one history together, each once.
use Rattle.std.specs.Prelude.{◌≡◌, List, length, map, All, Contains, Some, slice_get, sum_by}
use Rattle.joint_machine.specs.declared.names.MNum.{MNum}
use Rattle.joint_machine.specs.declared.names.PNum.{PNum}
use Rattle.joint_machine.specs.declared.events.Entry.{Entry}
use Rattle.joint_machine.specs.Components.{Rises}
use Rattle.joint_machine.specs.Histories.{FitsLists, NumberedFrom}

-- the entry stands in the whole list at its number
abbrev pub IsPlaced : List Entry → Entry → Type 0
IsPlaced whole e = slice_get whole e.number ≡ Some e

-- the lists hold together the entries of the whole, each once, and each list rises: every entry of a list
-- stands in the whole at its number, every entry of the whole stands in a list, and there are as many
pub record IsShuffle (lists : List (List Entry)) (whole : List Entry) : Type 0 where
  pub numbers : NumberedFrom 0 whole
  pub rise : All (λ list. Rises (map (λ e. e.number) list)) lists
  pub placed : All (λ list. All (IsPlaced whole) list) lists
  pub covered : All (λ e. (list : List Entry) × Contains lists list × Contains list e) whole
  pub count : length whole ≡ sum_by length lists

-- the lists can be joined: they are a shuffle of one whole, whose entries fit the lists
pub record IsJoinable (lists : List (List Entry)) (ms : List MNum) (ps : List PNum) (ns : List MNum) : Type 0 where
  pub whole : List Entry
  pub shuffle : IsShuffle lists whole
  pub fits : All (FitsLists ms ps ns) whole
