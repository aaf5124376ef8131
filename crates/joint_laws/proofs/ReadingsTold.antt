-- What is told, and the notices, in a linked history: the entries that stand are those of a lawful list with the same
-- states of both sides; a read that is set aside names no span, and nothing is told beside it.
use Rattle.std.proofs.Common.{◌≡◌, ℕ, Bool, true, false, not, ◌&&◌, List, length, take, Some, refl, sym, ap, subst, ◌∙◌}
use Rattle.std.specs.Prelude.{slice_get}
use Rattle.joint_machine.specs.declared.events.Reply.{Reply}
use Rattle.joint_machine.specs.declared.events.Reply.TheVariants as says
use Rattle.joint_machine.specs.Histories.{managed_numbers, peer_numbers}
use Rattle.joint_machine.specs.Linked.{opening_linkage}
use Rattle.joint_machine.specs.Replaying.{replayed}
use Rattle.joint_machine.specs.ManagedReplay.{ManagedReplay}
use Rattle.joint_machine.specs.PeerReplay.{PeerReplay}
use Rattle.joint_machine.specs.Lines.{is_read}
use Rattle.joint_machine.specs.Readers.{is_set_aside, is_aside, EntryMayCome, replayed_reading}
use Rattle.joint_machine.specs.Told.{Told, Noted}
use Rattle.joint_laws.specs.Afterwards.{reading_at}
use Rattle.joint_laws.specs.ReadingLaws.{IsLawfulReading, without_aside, LeadToSameSides}
use Rattle.joint_laws.specs.States.{state_at}
use Rattle.joint_laws.specs.ToldLaws.{ToldIsNamed, NoticesAreNamed}
use Rattle.joint_laws.specs.Spans.{TakesNamed, TellsNamed, TellsNoneFreed}
use Rattle.joint_laws.proofs.NoticesTold.{notices-named}
use Rattle.joint_laws.proofs.Places.{destined}
use Rattle.joint_laws.proofs.ReadingsGoneAfter.{reading-take, reading-comes}
use Rattle.joint_laws.proofs.ReadsAside.{reading_is_lawful, reading_leads_to_same}
use Rattle.joint_laws.proofs.SpansTold.{told-named}
use Rattle.joint_machine.proofs.Deciding.{and-true}

-- a reply that is set aside has no span
aside-named : (ms ps : List ℕ) (r : Reply) (told : Told) → is_set_aside r ≡ true → TellsNoneFreed told → TellsNamed ms ps r told
aside-named ms ps (says.Pending c) told e t = t
aside-named ms ps says.Unset told e t = t
aside-named ms ps _ told e t = absurd (let f : false ≡ true = e in cc)

module _ (noted : List Noted) (w : IsLawfulReading noted) (i : ℕ) (n : Noted) (there : slice_get noted i ≡ Some n) where
  abbrev standing : List Noted
  standing = without_aside noted

  abbrev front : List Noted
  front = without_aside (take i noted)

  ends : LeadToSameSides noted
  ends = reading_leads_to_same noted w

  -- an entry that stands
  module _ (stands : is_aside n ≡ false) where
    place : (slice_get standing (length front) ≡ Some n) × (take (length front) standing ≡ front)
    place = destined (λ (z : Noted). not (is_aside z)) noted i n there (ap not stands)

    managed : (state_at standing (length front)).managed ≡ (reading_at noted i).managed
    managed = ap (λ ns. (replayed opening_linkage ns).managed) place.1 ∙ sym (reading_leads_to_same (take i noted) (w.0, w.1, reading-take w.0 w.1 noted opening_linkage i w.2)).managed

    told : TellsNamed (replayed_reading opening_linkage noted).managed.managed.heap.freed (replayed_reading opening_linkage noted).peer.peers.heap.freed n.entry.made.reply n.told
    told =
        subst (λ (z : ManagedReplay). TellsNamed z.managed.heap.freed (replayed_reading opening_linkage noted).peer.peers.heap.freed n.entry.made.reply n.told) (sym ends.managed)
        (subst (λ (z : PeerReplay). TellsNamed (replayed opening_linkage standing).managed.managed.heap.freed z.peers.heap.freed n.entry.made.reply n.told) (sym ends.peer)
        (told-named standing (reading_is_lawful noted w) (length front) n place.0))

  all-told : TellsNamed (replayed_reading opening_linkage noted).managed.managed.heap.freed (replayed_reading opening_linkage noted).peer.peers.heap.freed n.entry.made.reply n.told
  all-told = by (is_aside n) refl
    where
      by : (b : Bool) → is_aside n ≡ b → TellsNamed (replayed_reading opening_linkage noted).managed.managed.heap.freed
          (replayed_reading opening_linkage noted).peer.peers.heap.freed n.entry.made.reply n.told
      by false e = told e
      by true e =
          let both = and-true (is_read n.entry.made.op) (is_set_aside n.entry.made.reply) e in
          let bare = (subst (λ b. EntryMayCome b w.0 w.1 (reading_at noted i) n) both.0 (reading-comes w.0 w.1 noted opening_linkage i n w.2 there)).0.bare in
          aside-named _ _ n.entry.made.reply n.told both.1 (subst TellsNoneFreed (sym bare) tt)

pub told_is_named : ToldIsNamed
told_is_named h noted l i n there =
    subst (λ ms. TellsNamed ms (peer_numbers h.freed_peers) n.entry.made.reply n.told) (sym l.freed_managed)
    (subst (λ ps. TellsNamed (replayed_reading opening_linkage noted).managed.managed.heap.freed ps n.entry.made.reply n.told) (sym l.freed_peers)
    (all-told noted (noted, (replayed_reading opening_linkage noted).managed.managed.cells, l.lawful) i n there))

pub notices_are_named : NoticesAreNamed
notices_are_named h noted l i n s there took =
    let w : IsLawfulReading noted = (noted, (replayed_reading opening_linkage noted).managed.managed.cells, l.lawful) in
    let stands : is_aside n ≡ false = ap (λ r. is_read n.entry.made.op && is_set_aside r) took ∙ never (is_read n.entry.made.op) in
    let place_of = place noted w i n there stands in
    subst (λ (z : ManagedReplay). TakesNamed (managed_numbers h.notices) z.managed s) (managed noted w i n there stands)
    (notices-named (without_aside noted) (reading_is_lawful noted w) (managed_numbers h.notices)
    (subst (λ (z : ManagedReplay). take z.managed.taken (managed_numbers h.notices) ≡ take z.managed.taken z.managed.notices) (ends noted w i n there).managed l.notices)
    (length (without_aside (take i noted))) n s place_of.0 took)
  where
    never : (b : Bool) → (b && false) ≡ false
    never true = refl
    never false = refl
