-- Whether two replies are the same, and the same of the words in them.
use Rattle.std.specs.Prelude.{Bool, true, false, ◌&&◌, nat_eq}
use Rattle.joint_machine.specs.declared.names.Sort.{Sort}
use Rattle.joint_machine.specs.declared.names.Sort.TheVariants.{User, Framework}
use Rattle.joint_machine.specs.declared.names.Phase.{Phase}
use Rattle.joint_machine.specs.declared.names.Phase.TheVariants as at
use Rattle.joint_machine.specs.declared.names.Span.{Span}
use Rattle.joint_machine.specs.declared.events.Reply.{Reply}
use Rattle.joint_machine.specs.declared.events.Reply.TheVariants as says
use Rattle.joint_machine.specs.Told.{Answer, said_alive, said_cleared}

abbrev pub same_sort : Sort → Sort → Bool
same_sort User User = true
same_sort Framework Framework = true
same_sort _ _ = false

abbrev pub same_answer : Answer → Answer → Bool
same_answer (said_alive h) (said_alive h') = nat_eq h h'
same_answer said_cleared said_cleared = true
same_answer _ _ = false

abbrev pub same_phase : Phase → Phase → Bool
same_phase at.Idle at.Idle = true
same_phase at.Snapped at.Snapped = true
same_phase at.Contracted at.Contracted = true
same_phase at.Mirrored at.Mirrored = true
same_phase at.Weakened at.Weakened = true
same_phase at.Marked at.Marked = true
same_phase at.Swept at.Swept = true
same_phase at.Restored at.Restored = true
same_phase _ _ = false

abbrev pub same_span : Span → Span → Bool
same_span s t = nat_eq s.first t.first && nat_eq s.count t.count

abbrev pub same_reply : Reply → Reply → Bool
same_reply says.Ok says.Ok = true
same_reply says.Empty says.Empty = true
same_reply says.Range says.Range = true
same_reply says.Null says.Null = true
same_reply says.Taken says.Taken = true
same_reply says.Gone says.Gone = true
same_reply says.Unset says.Unset = true
same_reply says.Full says.Full = true
same_reply says.Plain says.Plain = true
same_reply says.NoMark says.NoMark = true
same_reply says.More says.More = true
same_reply says.Done says.Done = true
same_reply says.Cleared says.Cleared = true
same_reply (says.M m) (says.M m') = nat_eq m.0 m'.0
same_reply (says.P p) (says.P p') = nat_eq p.0 p'.0
same_reply (says.H h) (says.H h') = nat_eq h.0 h'.0
same_reply (says.Renewed h) (says.Renewed h') = nat_eq h.0 h'.0
same_reply (says.New m) (says.New m') = nat_eq m.0 m'.0
same_reply (says.Twin m) (says.Twin m') = nat_eq m.0 m'.0
same_reply (says.Made p h) (says.Made p' h') = nat_eq p.0 p'.0 && nat_eq h.0 h'.0
same_reply (says.Gripped p h sort n) (says.Gripped p' h' sort' n') = nat_eq
    p.0 p'.0 && nat_eq h.0 h'.0 && same_sort sort sort' && nat_eq n n'
same_reply (says.Pending k) (says.Pending k') = nat_eq k.0 k'.0
same_reply (says.Pinned m) (says.Pinned m') = nat_eq m.0 m'.0
same_reply (says.Mark j) (says.Mark j') = nat_eq j.0 j'.0
same_reply (says.MarkOpen j) (says.MarkOpen j') = nat_eq j.0 j'.0
same_reply (says.CycleOpen k) (says.CycleOpen k') = nat_eq k.0 k'.0
same_reply (says.At phase) (says.At phase') = same_phase phase phase'
same_reply (says.Snapped n s) (says.Snapped n' s') = nat_eq n n' && same_span s s'
same_reply (says.Sccs n x) (says.Sccs n' x') = nat_eq n n' && nat_eq x x'
same_reply (says.Refs n) (says.Refs n') = nat_eq n n'
same_reply (says.Swept j s) (says.Swept j' s') = nat_eq j.0 j'.0 && same_span s s'
same_reply (says.Freed s) (says.Freed s') = same_span s s'
same_reply (says.Took s) (says.Took s') = same_span s s'
same_reply _ _ = false
