-- What is told beside an entry is what the span in its reply names: each freed list is a stretch of the history's freed
-- list, and the notices that an entry takes are a stretch of the history's notices. So who reads entries with their
-- replies, and the three lists, can find what is told of freeing.
use Rattle.std.specs.Prelude.{◌≡◌, ℕ, List, Some, slice_get}
use Rattle.joint_machine.specs.declared.names.Span.{Span}
use Rattle.joint_machine.specs.declared.events.Reply.TheVariants as says
use Rattle.joint_machine.specs.Histories.{Finished, IsHistory, managed_numbers, peer_numbers}
use Rattle.joint_machine.specs.LinkedHistories.{IsLinkedBy}
use Rattle.joint_machine.specs.Told.{Noted}
use Rattle.joint_laws.specs.Afterwards.{reading_at}
use Rattle.joint_laws.specs.Spans.{TakesNamed, TellsNamed}

-- so it is at each entry of a linked history
abbrev pub ToldIsNamed : Type 0
ToldIsNamed = (h : Finished) (noted : List Noted) → IsLinkedBy h noted
    → (i : ℕ) (n : Noted) → slice_get noted i ≡ Some n
    → TellsNamed (managed_numbers h.freed_managed) (peer_numbers h.freed_peers) n.entry.made.reply n.told

abbrev pub NoticesAreNamed : Type 0
NoticesAreNamed = (h : Finished) (noted : List Noted) → IsLinkedBy h noted
    → (i : ℕ) (n : Noted) (s : Span) → slice_get noted i ≡ Some n → n.entry.made.reply ≡ says.Took s
    → TakesNamed (managed_numbers h.notices) (reading_at noted i).managed.managed s

-- so the entries of a linked history fit its lists: it is a history as a value keeps one
abbrev pub LinkedIsHistory : Type 0
LinkedIsHistory = (h : Finished) (noted : List Noted) → IsLinkedBy h noted → IsHistory h
