-- A history with lock-free reads, without those that are set aside, is a lawful list of entries. Both are followed with
-- one state of both sides. Where they differ: a read that is set aside makes its caller's last line known and shows
-- that its thread is in the midst of nothing. So without it a last line is lower, and a thread may still be left behind
-- a make, a lend or a grip; every entry that may come after the read may come then too. So the joint projection is that
-- of a lawful list.
use Rattle.std.proofs.Common.{◌≡◌, ℕ, ◌≤◌, ◌⊎◌, inl, inr, Bool, true, false, not, ◌&&◌, List, [], ◌∷◌, Option, Some, None, refl, sym, ap, subst, ◌∙◌, cond, arith}
use Rattle.std.specs.Prelude.{if◌then◌else◌, slice_get}
use Rattle.std.proofs.lemmas.Option.{get_or_from_slice_get}
use Rattle.joint_machine.specs.declared.names.Thread.{Thread}
use Rattle.joint_machine.specs.declared.names.Thread.TheVariants.{M, P, C}
use Rattle.joint_machine.specs.declared.lines.Act.{Act}
use Rattle.joint_machine.specs.declared.lines.Act.TheVariants as act
use Rattle.joint_machine.specs.declared.events.Op.{Op}
use Rattle.joint_machine.specs.declared.events.Op.TheVariants as op
use Rattle.joint_machine.specs.declared.events.Reply.{Reply}
use Rattle.joint_machine.specs.declared.events.Reply.TheVariants as says
use Rattle.joint_machine.specs.declared.events.Made.{Made}
use Rattle.joint_machine.specs.Control.{Doing, free, made, lent, gripped, given, met, Control, CallerAllows, ThreadAllows, DriverAllows, IsDone, control_after, doing_after, doing_at}
use Rattle.joint_machine.specs.Control.{last_line, caller_place, stand_after}
use Rattle.joint_machine.specs.Heaps.{Answered, answer, slot, is_freed}
use Rattle.joint_machine.specs.Lines.{is_peer_event, is_read}
use Rattle.joint_machine.specs.Linked.{Linkage, opening_linkage, linkage_after, MayCome, SideLawful, PeerLawful, ManagedLawful, managed_after, peer_after}
use Rattle.joint_machine.specs.Replaying.{AllMayCome, machine_entries, replayed}
use Rattle.joint_machine.specs.LinkedHistories.{joint_projection}
use Rattle.joint_machine.specs.Managed.{Managed, OpenCycle, managed_name, target_read, cell_read, read_cell, managed_line}
use Rattle.joint_machine.specs.ManagedReplay.{ManagedReplay, ManagedAllows}
use Rattle.joint_machine.specs.PeerReplay.{PeerReplay}
use Rattle.joint_machine.specs.Readers.{is_set_aside, is_aside, IsReadReply, pins_after, reader_after, ReaderMayCome, EntryMayCome, entry_after, replayed_reading, AllMayComeReading}
use Rattle.joint_machine.specs.Run.{IsRun, thread_number, is_joint}
use Rattle.joint_machine.specs.Told.{Told, Noted}
use Rattle.joint_laws.specs.ReadingLaws.{without_aside, IsLawfulReading, ReadingIsLawful, ReadingLeadsToSame, ReadingProjectsSo, ReadingProjectionIsComplete, LinkedIsComplete}
use Rattle.joint_laws.specs.ReadingLaws.{EveryReadingRunIsComplete}
use Rattle.joint_laws.proofs.CompleteRuns.{projection_is_complete, every_run_is_complete}
use Rattle.joint_laws.proofs.Pairwise.{Pairwise, pairwise-same, pairwise-set, pairwise-left, pairwise-or, pairwise-at}

-- what a thread is in the midst of with the reads, and without those that are set aside
abbrev AreHandsAlike : Doing → Doing → Type 0
AreHandsAlike d e = (d ≡ e) ⊎ ((d ≡ free) × IsDone e)

abbrev IsLower : ℕ → ℕ → Type 0
IsLower x y = y ≤ x

record AreAlike (s t : Linkage) : Type 0 where
  managed : s.managed ≡ t.managed
  peer : s.peer ≡ t.peer
  stand : s.control.stand ≡ t.control.stand
  lines : Pairwise IsLower s.control.lines t.control.lines
  hands : Pairwise AreHandsAlike s.control.doing t.control.doing

alike-opening : AreAlike opening_linkage opening_linkage
alike-opening = record {
  managed = refl;
  peer = refl;
  stand = refl;
  lines = pairwise-same IsLower (λ x. omega arith) opening_linkage.control.lines;
  hands = pairwise-same AreHandsAlike (λ d. inl refl) opening_linkage.control.doing;
}

-- a line comes where nothing has to follow
pub line-done : (d : Doing) (t : Thread) (l : ℕ) (a : Act) (cites : Option ℕ) → ThreadAllows d t l (op.Line a) cites → IsDone d
line-done free t l a cites x = tt
line-done (made n line p h sort f) t l a cites x = tt
line-done (lent n line h y) t l a cites x = tt
line-done (gripped n line p h sort f) t l a cites x = tt
line-done (given n line h) t l a cites x = absurd x
line-done (met n line h) t l a cites x = absurd x

-- an operation may start of what an operation that found no memory left behind
from-free : (e : Doing) (t : Thread) (l : ℕ) (o : Op) (cites : Option ℕ) → IsDone e → ThreadAllows free t l o cites → ThreadAllows e t l o cites
from-free (given n line h) t l o cites x a = absurd x
from-free (met n line h) t l o cites x a = absurd x
from-free e t l (op.Adopt v kind n p h) cites x a = absurd a
from-free e t l (op.Land h y) cites x a = absurd a
from-free e t l (op.Meet v sort f p h) cites x a = absurd a
from-free e t l (op.Release h) cites x a = absurd a
from-free e t l _ cites x a = a

thread-allows : (d e : Doing) (t : Thread) (l : ℕ) (o : Op) (cites : Option ℕ) → AreHandsAlike d e → ThreadAllows d t l o cites → ThreadAllows e t l o cites
thread-allows d e t l o cites (inl q) a = subst (λ z. ThreadAllows z t l o cites) q a
thread-allows d e t l o cites (inr q) a = from-free e t l o cites q.1 (subst (λ z. ThreadAllows z t l o cites) q.0 a)

module _ (s u : Linkage) (k : AreAlike s u) where
  hand : (t : ℕ) → AreHandsAlike (doing_at s.control t) (doing_at u.control t)
  hand t = pairwise-at AreHandsAlike s.control.doing u.control.doing t free k.hands (inl refl)

  line-below : (t : Thread) (l : ℕ) → last_line s.control t ≤ l → last_line u.control t ≤ l
  line-below t l e = (let w : last_line u.control t ≤ last_line s.control t = pairwise-or IsLower s.control.lines u.control.lines (caller_place t) 0 k.lines (omega arith) in omega arith)

  caller-allows : (t : Thread) (l : ℕ) (o : Op) (reply : Reply) (cites : Option ℕ) (told : Told)
      → CallerAllows s.control s.managed.managed s.peer.peers.issued t l o reply cites told → CallerAllows u.control u.managed.managed u.peer.peers.issued t l o reply cites told
  caller-allows (M t) l o reply cites told a = thread-allows (doing_at s.control t) (doing_at u.control t) (M t) l o cites (hand t) a
  caller-allows (P t) l o reply cites told a = a
  caller-allows C l o reply cites told a =
      subst (λ z. DriverAllows z u.managed.managed u.peer.peers.issued o reply cites told) k.stand
      (subst (λ (z : ManagedReplay). DriverAllows s.control.stand z.managed u.peer.peers.issued o reply cites told) k.managed
      (subst (λ (z : PeerReplay). DriverAllows s.control.stand s.managed.managed z.peers.issued o reply cites told) k.peer a))

  side-lawful : (b : Bool) (m : Made) (told : Told) → SideLawful b s m told → SideLawful b u m told
  side-lawful true m told l = subst (λ z. PeerLawful z m told) k.peer l
  side-lawful false m told l = subst (λ z. ManagedLawful z m told) k.managed l

  comes : (n : Noted) → MayCome s n → MayCome u n
  comes n may = record {
    event = may.event;
    line = line-below n.entry.made.caller n.entry.made.index may.line;
    short = may.short;
    lawful = side-lawful (is_peer_event n.entry.made.caller n.entry.made.op) n.entry.made n.told may.lawful;
    order = caller-allows n.entry.made.caller n.entry.made.index n.entry.made.op n.entry.made.reply n.entry.made.cites n.told may.order;
  }

  -- the control after an event of both
  record AreControlsAlike (a b : Control) : Type 0 where
    stand : a.stand ≡ b.stand
    lines : Pairwise IsLower a.lines b.lines
    hands : Pairwise AreHandsAlike a.doing b.doing

  control-alike : (t : Thread) (n l : ℕ) (o : Op) (reply : Reply) (told : Told) → AreControlsAlike (control_after s.control t n l o reply told) (control_after u.control t n l o reply told)
  control-alike (M t) n l o reply told = record {
    stand = k.stand;
    lines = pairwise-set IsLower s.control.lines u.control.lines (caller_place (M t)) l l k.lines (omega arith);
    hands = pairwise-set AreHandsAlike s.control.doing u.control.doing t (doing_after n l o reply) (doing_after n l o reply) k.hands (inl refl);
  }
  control-alike (P t) n l o reply told = record { stand = k.stand; lines = pairwise-set IsLower s.control.lines u.control.lines (caller_place (P t)) l l k.lines (omega arith); hands = k.hands }
  control-alike C n l o reply told = record {
    stand = ap (λ z. stand_after z n o reply told) k.stand;
    lines = pairwise-set IsLower s.control.lines u.control.lines 0 l l k.lines (omega arith);
    hands = k.hands;
  }

  alike-after : (n : Noted) → AreAlike (linkage_after s n) (linkage_after u n)
  alike-after n =
      let c = control-alike n.entry.made.caller n.entry.number n.entry.made.index n.entry.made.op n.entry.made.reply n.told in
      record {
        managed = ap (λ z. managed_after z n.entry.made n.told (is_peer_event n.entry.made.caller n.entry.made.op)) k.managed;
        peer = ap (λ z. peer_after z n.entry.made n.told (is_peer_event n.entry.made.caller n.entry.made.op)) k.peer;
        stand = c.stand;
        lines = c.lines;
        hands = c.hands;
      }

-- the reply of a read that isn't set aside is that of the managed state
pub standing-reply : (ns : List Noted) (cells : List (Option ℕ)) (s : Managed) (i : ℕ) (t : Thread) (k : ℕ) (r : Reply)
    → is_set_aside r ≡ false → IsReadReply ns cells s i t k r → r ≡ (read_cell s (thread_number t) k).reply
standing-reply ns cells s i t k (says.Pending c) e w = absurd (let f : true ≡ false = e in cc)
standing-reply ns cells s i t k says.Unset e w = absurd (let f : true ≡ false = e in cc)
standing-reply ns cells s i t k _ e w = w

-- one that is set aside fills no pin
aside-pins : (pins : List (Option ℕ)) (t : ℕ) (r : Reply) → is_set_aside r ≡ true → pins_after pins t r ≡ pins
aside-pins pins t (says.M m) e = absurd (let f : false ≡ true = e in cc)
aside-pins pins t _ e = refl

-- the state after a read, by its reply
abbrev pub Filled : Managed → ℕ → Answered Managed → Type 0
Filled s t a = a.state ≡ record s { pins = pins_after s.pins t a.reply }

target-filled : (s : Managed) (t : ℕ) (o : Option ℕ) → Filled s t (target_read s t o)
target-filled s t None = refl
target-filled s t (Some x) = by (is_freed s.heap x)
  where
    by : (b : Bool) → Filled s t (if b then answer says.Gone s else answer (managed_name x) (record s { pins = pins_after s.pins t (managed_name x) }))
    by true = refl
    by false = refl

cell-filled : (s : Managed) (t k : ℕ) (o : Option OpenCycle) → Filled s t (cell_read s t k o)
cell-filled s t k None = target-filled s t (slot s.cells k)
cell-filled s t k (Some c) = refl

pub read-filled : (s : Managed) (t k : ℕ) → Filled s t (read_cell s t k)
read-filled s t k = by (slot s.pins t)
  where
    by : (o : Option ℕ) → Filled s t (elim o [ None ↦ cell_read s t k s.cycle | Some x ↦ answer (says.Pinned record { 0 = x }) s ])
    by None = cell-filled s t k s.cycle
    by (Some x) = refl

-- an entry with the reads, and without those that are set aside: it is one of them, or it comes in both
data Follows (s u : Linkage) (n : Noted) : Type 0 where
  dropped : is_aside n ≡ true → AreAlike (entry_after s n) u → Follows s u n
  comes_too : is_aside n ≡ false → MayCome u n → AreAlike (entry_after s n) (linkage_after u n) → Follows s u n

module _ (s u : Linkage) (k : AreAlike s u) (number line : ℕ) (reply : Reply) (cites : Option ℕ) where
  abbrev entry : Thread → Op → Told → Noted
  entry t o told = record { entry = record { number = number; made = record { caller = t; index = line; op = o; reply = reply; cites = cites } }; told = told }

  plain : (t : Thread) (o : Op) (told : Told) → is_read o ≡ false → MayCome s (entry t o told) → Follows s u (entry t o told)
  plain t o told e may = comes_too
      (ap (λ b. b && is_set_aside reply) e)
      (comes s u k (entry t o told) may)
      (subst (λ b. AreAlike (if b then reader_after s (entry t o told) else linkage_after s (entry t o told)) (linkage_after u (entry t o told))) (sym e) (alike-after s u k (entry t o told)))

  -- the reader's own state: what it is in the midst of, and its line
  reading-hands : (t : ℕ) (c : Act) → ThreadAllows (doing_at s.control t) (M t) line (op.Line c) cites
      → (a b : Doing) → slice_get s.control.doing t ≡ Some a → AreHandsAlike a b → AreHandsAlike free b
  reading-hands t c may a b e (inl q) =
      inr (refl, subst IsDone q (line-done a (M t) line c cites (subst (λ o. ThreadAllows (elim o [ None ↦ free | Some d ↦ d ]) (M t) line (op.Line c) cites) e may)))
  reading-hands t c may a b e (inr q) = inr (refl, q.1)

  reading-lines : (t : Thread) → last_line s.control t ≤ line → (a b : ℕ) → slice_get s.control.lines (caller_place t) ≡ Some a → b ≤ a → b ≤ line
  reading-lines t may a b e l = (let q = get_or_from_slice_get s.control.lines (caller_place t) a 0 e in omega (arith, l, may, q))

  read-dropped : (t : ℕ) (a : Act) (told : Told) → is_set_aside reply ≡ true → last_line s.control (M t) ≤ line → ThreadAllows (doing_at s.control t) (M t) line (op.Line a) cites
      → doing_after number line (op.Line a) reply ≡ free → AreAlike (reader_after s (entry (M t) (op.Line a) told)) u
  read-dropped t a told e l m f = record {
    managed = ap (λ p. record s.managed { managed = record s.managed.managed { pins = p } }) (aside-pins s.managed.managed.pins t reply e) ∙ k.managed;
    peer = k.peer;
    stand = k.stand;
    lines = pairwise-left IsLower s.control.lines u.control.lines (caller_place (M t)) line k.lines (reading-lines (M t) l);
    hands = pairwise-left AreHandsAlike s.control.doing u.control.doing t (doing_after number line (op.Line a) reply) k.hands
        (λ x y q r. subst (λ z. AreHandsAlike z y) (sym f) (reading-hands t a m x y q r));
  }

  -- a read that isn't set aside
  module _ (t c : ℕ) (a : Act) (told : Told) (same : (m : Managed) → (managed_line m t a) ≡ read_cell m t c) where
    read-comes : ReaderMayCome s (entry (M t) (op.Line a) told) → reply ≡ (read_cell s.managed.managed t c).reply → MayCome u (entry (M t) (op.Line a) told)
    read-comes may r = record {
      event = may.event;
      line = line-below s u k (M t) line may.line;
      short = may.short;
      lawful = record {
        allowed = subst (λ z. ManagedAllows u.managed (op.Line a) z) (sym may.bare) tt;
        replies = r ∙ ap (λ (z : ManagedReplay). (read_cell z.managed t c).reply) k.managed ∙ sym (ap (λ (z : Answered Managed). z.reply) (same u.managed.managed));
      };
      order = caller-allows s u k (M t) line (op.Line a) reply cites told may.order;
    }

    read-alike : reply ≡ (read_cell s.managed.managed t c).reply → AreAlike (reader_after s (entry (M t) (op.Line a) told)) (linkage_after u (entry (M t) (op.Line a) told))
    read-alike r =
        let w = alike-after s u k (entry (M t) (op.Line a) told) in
        record {
          managed = (
              ap (λ p. record s.managed { managed = record s.managed.managed { pins = pins_after s.managed.managed.pins t p } }) r
              ∙ sym (ap (λ z. record s.managed { managed = z }) (read-filled s.managed.managed t c))
              ∙ sym (ap (λ (z : Answered Managed). record s.managed { managed = z.state }) (same s.managed.managed))
              ∙ w.managed);
          peer = w.peer;
          stand = w.stand;
          lines = w.lines;
          hands = w.hands;
        }

    read-follows : (ns : List Noted) (cells : List (Option ℕ)) → is_read (op.Line a) ≡ true → doing_after number line (op.Line a) reply ≡ free
        → ReaderMayCome s (entry (M t) (op.Line a) told) → IsReadReply ns cells s.managed.managed number (M t) c reply → Follows s u (entry (M t) (op.Line a) told)
    read-follows ns cells e f may w = by (is_set_aside reply) refl
      where
        aside-is : (b : Bool) → is_set_aside reply ≡ b → is_aside (entry (M t) (op.Line a) told) ≡ b
        aside-is b q = ap (λ z. z && is_set_aside reply) e ∙ q

        after-is : entry_after s (entry (M t) (op.Line a) told) ≡ reader_after s (entry (M t) (op.Line a) told)
        after-is = ap (λ z. if z then reader_after s (entry (M t) (op.Line a) told) else linkage_after s (entry (M t) (op.Line a) told)) e

        by : (b : Bool) → is_set_aside reply ≡ b → Follows s u (entry (M t) (op.Line a) told)
        by true q = dropped (aside-is true q) (subst (λ z. AreAlike z u) (sym after-is) (read-dropped t a told q may.line may.order f))
        by false q = (let r = standing-reply ns cells s.managed.managed number (M t) c reply q w in
            comes_too (aside-is false q) (read-comes may r) (subst (λ z. AreAlike z (linkage_after u (entry (M t) (op.Line a) told))) (sym after-is) (read-alike r)))

  step : (t : Thread) (o : Op) (told : Told) (ns : List Noted) (cells : List (Option ℕ)) → EntryMayCome (is_read o) ns cells s (entry t o told) → Follows s u (entry t o told)
  step (M t) (op.Line (act.Read c)) told ns cells w = read-follows t c.0 (act.Read c) told (λ m. refl) ns cells refl refl w.0 (w.1 c.0 refl)
  step (M t) (op.Line (act.Await c)) told ns cells w = read-follows t c.0 (act.Await c) told (λ m. refl) ns cells refl refl w.0 (w.1 c.0 refl)
  step (P t) (op.Line (act.Read c)) told ns cells w = absurd w.0.event.0.1
  step (P t) (op.Line (act.Await c)) told ns cells w = absurd w.0.event.0.1
  step C (op.Line (act.Read c)) told ns cells w = absurd w.0.event.0
  step C (op.Line (act.Await c)) told ns cells w = absurd w.0.event.0
  step t o told ns cells w = plain t o told refl w

follows : (s u : Linkage) → AreAlike s u → (n : Noted) (ns : List Noted) (cells : List (Option ℕ)) → EntryMayCome (is_read n.entry.made.op) ns cells s n → Follows s u n
follows s u k n ns cells w = step s u k n.entry.number n.entry.made.index n.entry.made.reply n.entry.made.cites n.entry.made.caller n.entry.made.op n.told ns cells w

pub without-cons : (n : Noted) (ns : List Noted) (b : Bool) → is_aside n ≡ b → without_aside (n ∷ ns) ≡ cond (not b) (n ∷ without_aside ns) (without_aside ns)
without-cons n ns b e = ap (λ z. cond (not z) (n ∷ without_aside ns) (without_aside ns)) e

-- what is known of the rest of both
record GoOnAlike (s u : Linkage) (ns : List Noted) : Type 0 where
  comes : AllMayCome u (without_aside ns)
  alike : AreAlike (replayed_reading s ns) (replayed u (without_aside ns))

go_back : (s u : Linkage) (n : Noted) (ns ms : List Noted) → without_aside (n ∷ ns) ≡ ms → AllMayCome u ms → AreAlike (replayed_reading (entry_after s n) ns) (replayed u ms) → GoOnAlike s u (n ∷ ns)
go_back s u n ns ms e a k = record { comes = subst (λ z. AllMayCome u z) (sym e) a; alike = subst (λ z. AreAlike (replayed_reading (entry_after s n) ns) (replayed u z)) (sym e) k }

go_on : (whole : List Noted) (cells : List (Option ℕ)) (ns : List Noted) (s u : Linkage) → AreAlike s u → AllMayComeReading whole cells s ns → GoOnAlike s u ns
go_on whole cells [] s u k a = record { comes = tt; alike = k }
go_on whole cells (n ∷ ns) s u k a = by (follows s u k n whole cells a.0) (λ t v. go_on whole cells ns (entry_after s n) t v a.1)
  where
    by : Follows s u n → ((t : Linkage) → AreAlike (entry_after s n) t → GoOnAlike (entry_after s n) t ns) → GoOnAlike s u (n ∷ ns)
    by (dropped e v) rest = (let r = rest u v in go_back s u n ns (without_aside ns) (without-cons n ns true e) r.comes r.alike)
    by (comes_too e m v) rest = (let r = rest (linkage_after u n) v in go_back s u n ns (n ∷ without_aside ns) (without-cons n ns false e) (m, r.comes) r.alike)

all : (noted : List Noted) → IsLawfulReading noted → GoOnAlike opening_linkage opening_linkage noted
all noted w = go_on w.0 w.1 noted opening_linkage opening_linkage alike-opening w.2

pub reading_is_lawful : ReadingIsLawful
reading_is_lawful noted w = (all noted w).comes

pub reading_leads_to_same : ReadingLeadsToSame
reading_leads_to_same noted w = let k = (all noted w).alike in record { managed = k.managed; peer = k.peer }

-- its joint projection is that of the history
projection-is : (ns : List Noted) → machine_entries (without_aside ns) ≡ joint_projection ns
projection-is [] = refl
projection-is (n ∷ ns) = by (is_aside n) refl (projection-is ns)
  where
    goes : (b c : Bool) → List Noted → List Noted
    goes b c rest = cond (if b then false else c) (n ∷ rest) rest

    by : (b : Bool) → is_aside n ≡ b → machine_entries (without_aside ns) ≡ joint_projection ns → machine_entries (without_aside (n ∷ ns)) ≡ joint_projection (n ∷ ns)
    by true e rest = ap machine_entries (without-cons n ns true e) ∙ rest ∙ sym (ap (λ b. goes b (is_joint n.entry.made.op) (joint_projection ns)) e)
    by false e rest = ap machine_entries (without-cons n ns false e) ∙ ap (λ z. goes false (is_joint n.entry.made.op) z) rest
        ∙ sym (ap (λ b. goes b (is_joint n.entry.made.op) (joint_projection ns)) e)

pub reading_projects_so : ReadingProjectsSo
reading_projects_so noted = projection-is noted

pub reading_projection_is_complete : ReadingProjectionIsComplete
reading_projection_is_complete noted w =
    let r = projection_is_complete (without_aside noted) (reading_is_lawful noted w) in
    (r.0, subst (λ z. IsRun z r.0) (projection-is noted) r.1, r.2, r.3)

pub linked_is_complete : LinkedIsComplete
linked_is_complete h noted l = reading_projection_is_complete noted (noted, _, l.lawful)

pub every_reading_run_is_complete : EveryReadingRunIsComplete
every_reading_run_is_complete noted run w r = every_run_is_complete (without_aside noted) run (reading_is_lawful noted w) (subst (λ z. IsRun z run) (sym (projection-is noted)) r)
