-- Two linked histories of one script that are not one.
use Rattle.joint_machine.specs.LinkedHistories.{IsLinked}
use Rattle.script_laws.specs.OneHistory.{IsOneHistory}
use Rattle.script_laws.specs.Worked.{history_of, managed_first, peer_first}

-- of two threads the one's entry comes first or the other's
abbrev pub ThreadsAreTold : Type 0
ThreadsAreTold = (a : IsLinked (history_of managed_first)) (b : IsLinked (history_of peer_first))
    → IsOneHistory (history_of managed_first) (history_of peer_first) a b → ⊥
