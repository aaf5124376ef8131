-- A read by the owner of the managed list answers as the one machine does.
use Rattle.std.specs.Prelude.{◌≡◌, ℕ, List, Option}
use Rattle.joint_machine.specs.Heaps.{slot}
use Rattle.joint_machine.specs.Managed.{Managed, read_cell}
use Rattle.known_laws.specs.Pasts.{end_of}
use Rattle.order_table.specs.declared.views.KeptEntry.{KeptEntry}
use Rattle.order_table.specs.declared.views.View.{View}
use Rattle.order_table.specs.Owed.{pin}
use Rattle.order_table.specs.Replies.{object_of}
use Rattle.order_table.specs.Views.{known}
use Rattle.weak_wait.specs.declared.reads.Got.{Got}
use Rattle.weak_wait.specs.Reads.{IsExact, reply_of}
use Rattle.view_laws.specs.Knowing.{IsDrawnView}

-- an answer that is exact by the managed list and by the reader's own pin is the reply of the state at the end of the
-- past, with that pin
abbrev pub ExactReadsAreReplies : Type 0
ExactReadsAreReplies = (v : View) (a : IsDrawnView v) (own : List KeptEntry) (t c : ℕ) (g : Got)
    (pins : List (Option ℕ)) → slot pins t ≡ object_of (pin own) → IsExact (known v 0) own c g
    → (let s : Managed = record (end_of a.known.past).managed.managed { pins = pins } in
    reply_of g ≡ (read_cell s t c).reply)
