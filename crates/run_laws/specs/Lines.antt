-- The entries of one call are those of one line of a script.
use Rattle.std.specs.Prelude.{◌≡◌, ℕ, List}
use Rattle.joint_machine.specs.declared.names.Thread.{Thread}
use Rattle.joint_machine.specs.declared.lines.Act.{Act}
use Rattle.joint_machine.specs.declared.events.Entry.{Entry}
use Rattle.joint_history.specs.declared.callers.Receipt.{Receipt}
use Rattle.order_table.specs.declared.views.View.{View}
use Rattle.view_laws.specs.Knowing.{IsDrawnView}
use Rattle.joint_history.specs.Operations.{IsOperation, IsOperationOf, MakesAll, ReadsExactly}
use Rattle.script_laws.specs.Holding.{Standing, standing_after, AreLine}
use Rattle.run_laws.specs.Serial.{ReadsAreAnswered}

-- the entries of a thread's operation are those of its line, wherever the driver stands
abbrev pub OperationsAreLines : Type 0
OperationsAreLines = (s : Standing) (t : Thread) (index : ℕ) (a : Act) (es : List Entry) (r : Receipt)
    → IsOperationOf t a → IsOperation t index a es r → AreLine s index (t, a) es

-- and leave the driver where it stands
abbrev pub OthersKeepStanding : Type 0
OthersKeepStanding = (s : Standing) (t : Thread) (index : ℕ) (a : Act) (es : List Entry)
    → IsOperationOf t a → standing_after s index a es ≡ s

-- a read among them, whose answer is exact by what the caller knows then, is answered by the managed list that the
-- caller knows
abbrev pub OperationsAreAnswered : Type 0
OperationsAreAnswered = (t : Thread) (index : ℕ) (a : Act) (es : List Entry) (r : Receipt) (old new : View)
    → IsDrawnView old → IsDrawnView new → IsOperationOf t a → IsOperation t index a es r
    → MakesAll t old new es → ReadsExactly t old new a r.reply → ReadsAreAnswered t old new es
