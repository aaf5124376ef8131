-- A past's list, told with the pins that the reads and takes before each entry leave, is a lawful list with reads,
-- entry by entry: the states are the same but for the pins. A snap is told with all of them and a `take` with its own;
-- every other entry asks for none; and a read asks for its turn, and has its reply by the order.
use Rattle.std.proofs.Common.{◌≡◌, ℕ, Bool, true, false, List, [], ◌∷◌, map, Option, Some, None, refl, sym, ap, ◌∙◌, subst, true≢false}
use Rattle.std.specs.Prelude.{if◌then◌else◌, slice_set, take}
use Rattle.joint_machine.specs.declared.names.Thread.{Thread}
use Rattle.joint_machine.specs.declared.names.Thread.TheVariants.{M, P, C}
use Rattle.joint_machine.specs.declared.lines.Act.TheVariants as act
use Rattle.joint_machine.specs.declared.events.Op.{Op}
use Rattle.joint_machine.specs.declared.events.Op.TheVariants as op
use Rattle.joint_machine.specs.declared.events.Reply.TheVariants as says
use Rattle.joint_machine.specs.declared.events.Made.{Made}
use Rattle.joint_machine.specs.Heaps.{Answered, answer, slot, place, with_var}
use Rattle.joint_machine.specs.Histories.{managed_numbers, peer_numbers, NumberedFrom}
use Rattle.joint_machine.specs.Lines.{IsEvent, is_peer_event, is_read}
use Rattle.joint_machine.specs.PinsTold.{is_pinned, bare_told, no_pins, pins_told, with_pins}
use Rattle.joint_machine.specs.Control.{CallerAllows, control_after}
use Rattle.joint_machine.specs.Linked.{Linkage, opening_linkage, SideLawful, ManagedLawful, IsWhole, linkage_after, managed_after, peer_after}
use Rattle.joint_machine.specs.Managed.{Managed, managed_name, pin_taken}
use Rattle.joint_machine.specs.ManagedReplay.{ManagedReplay, ManagedAllows, managed_answer}
use Rattle.joint_machine.specs.Readers.{pins_after, reader_after, EntryMayCome, entry_after, replayed_reading, AllMayComeReading}
use Rattle.joint_machine.specs.Run.{thread_number}
use Rattle.joint_machine.specs.Told.{Told, Noted, nothing}
use Rattle.known_laws.specs.Known.{Comes, pinned, given, without_pins, past_after}
use Rattle.known_laws.specs.Pasts.{end_of}
use Rattle.known_laws.specs.Growing.{entries_kept, AllCome, past_replayed}
use Rattle.known_laws.specs.PastEntries.{entries, turned}
use Rattle.known_laws.specs.Wholes.{ArePinsOf, IsAsOrdered, AllOrdered, PastsAreReadLists, history_of, KnownWholeIsLinked}
use Rattle.joint_laws.specs.ReadingLaws.{pins_by}
use Rattle.joint_laws.proofs.KeptPins.{entry-pins, read-pins}
use Rattle.known_laws.proofs.Ending.{known_whole_is_history}
use Rattle.known_laws.proofs.Growing.{entries_shown}
use Rattle.known_laws.proofs.Later.{by_past, reads_leave}
use Rattle.known_laws.proofs.Unpinned.{answers_same, allows_same, turn_same}

-- a managed entry that is lawful with the told pins is lawful with those of the state, and leaves the same but for the
-- pins
record Moves (r : ManagedReplay) (p q : List (Option ℕ)) (m : Made) (told : Told) : Type 0 where
  lawful : ManagedLawful (with_pins r p) m told → ManagedLawful (with_pins r q) m told
  same : (x : List (Option ℕ)) → with_pins (managed_answer (with_pins r q) m.caller m.op told).state x ≡ with_pins (managed_answer (with_pins r p) m.caller m.op told).state x

moves_same : (r : ManagedReplay) (p q : List (Option ℕ)) (m : Made) (told : Told) → p ≡ q → Moves r p q m told
moves_same r p q m told e = record {
  lawful = λ w. subst (λ z. ManagedLawful (with_pins r z) m told) e w;
  same = λ x. ap (λ z. with_pins (managed_answer (with_pins r z) m.caller m.op told).state x) (sym e);
}

-- a `take` asks for its caller's pin alone
abbrev take_by : Managed → ℕ → ℕ → Option ℕ → Answered Managed
take_by s t v None = answer says.Empty s
take_by s t v (Some x) = answer (managed_name x) (record s { heap = with_var s.heap v (Some x); pins = slice_set s.pins t None })

take_is : (s : Managed) (t v : ℕ) → pin_taken s t v ≡ take_by s t v (slot s.pins t)
take_is s t v = by (slot s.pins t)
  where
    by : (o : Option ℕ) → (elim o [ None ↦ answer says.Empty s | Some x ↦ answer (managed_name x) (record s { heap = with_var s.heap v (Some x); pins = slice_set s.pins t None }) ]) ≡ take_by s t v o
    by None = refl
    by (Some x) = refl

take_reply : (s : Managed) (p q : List (Option ℕ)) (t v : ℕ) → slot p t ≡ slot q t → (pin_taken (record s { pins = p }) t v).reply ≡ (pin_taken (record s { pins = q }) t v).reply
take_reply s p q t v e = ap (λ (z : Answered Managed). z.reply) (take_is (record s { pins = p }) t v)
    ∙ (by (slot p t) (slot q t) e ∙ sym (ap (λ (z : Answered Managed). z.reply) (take_is (record s { pins = q }) t v)))
  where
    same : (o : Option ℕ) → (take_by (record s { pins = p }) t v o).reply ≡ (take_by (record s { pins = q }) t v o).reply
    same None = refl
    same (Some x) = refl

    by : (o u : Option ℕ) → o ≡ u → (take_by (record s { pins = p }) t v o).reply ≡ (take_by (record s { pins = q }) t v u).reply
    by o u e = same o ∙ ap (λ z. (take_by (record s { pins = q }) t v z).reply) e

take_state : (s : Managed) (p q x : List (Option ℕ)) (t v : ℕ) → slot p t ≡ slot q t
    → record (pin_taken (record s { pins = q }) t v).state { pins = x } ≡ record (pin_taken (record s { pins = p }) t v).state { pins = x }
take_state s p q x t v e = ap (λ (z : Answered Managed). record z.state { pins = x }) (take_is (record s { pins = q }) t v)
    ∙ (by (slot p t) (slot q t) e ∙ sym (ap (λ (z : Answered Managed). record z.state { pins = x }) (take_is (record s { pins = p }) t v)))
  where
    same : (o : Option ℕ) → record (take_by (record s { pins = q }) t v o).state { pins = x } ≡ record (take_by (record s { pins = p }) t v o).state { pins = x }
    same None = refl
    same (Some y) = refl

    by : (o u : Option ℕ) → o ≡ u → record (take_by (record s { pins = q }) t v u).state { pins = x } ≡ record (take_by (record s { pins = p }) t v o).state { pins = x }
    by o u e = ap (λ z. record (take_by (record s { pins = q }) t v z).state { pins = x }) (sym e) ∙ same o

moves_other : (r : ManagedReplay) (p q : List (Option ℕ)) (m : Made) (told : Told) → is_read m.op ≡ false → is_pinned m.op ≡ false → Moves r p q m told
moves_other r p q m told e f = record {
  lawful = λ w. record { allowed = allows_same q (with_pins r p) m.op told f w.allowed; replies = w.replies ∙ sym (ap (λ (z : Answered ManagedReplay). z.reply) same) };
  same = λ x. ap (λ (z : Answered ManagedReplay). with_pins z.state x) same;
}
  where
    same : managed_answer (with_pins r q) m.caller m.op told ≡ answer (managed_answer (with_pins r p) m.caller m.op told).reply (with_pins (managed_answer (with_pins r p) m.caller m.op told).state q)
    same = answers_same q (with_pins r p) m.caller m.op told e f

moves : (r : ManagedReplay) (p q : List (Option ℕ)) (m : Made) (told : Told) (x : Told) → pins_told x ≡ p → is_read m.op ≡ false → ArePinsOf q m.caller m.op x → Moves r p q m told
moves r p q m told x t e w = by m.op refl w
  where
    back : (o : Op) → m.op ≡ o → Moves r p q (record m { op = o }) told → Moves r p q m told
    back o q' k = subst (λ z. Moves r p q (record m { op = z }) told) (sym q') k

    by : (o : Op) → m.op ≡ o → ArePinsOf q m.caller o x → Moves r p q m told
    by (op.Snap k) f w = moves_same r p q m told (sym t ∙ w)
    by (op.Line (act.Take v)) f w =
        let s : slot p (thread_number m.caller) ≡ slot q (thread_number m.caller) = ap (λ z. slot z (thread_number m.caller)) (sym t) ∙ w in
        back (op.Line (act.Take v)) f (record {
          lawful = λ l. record { allowed = allowed told l.allowed; replies = l.replies ∙ take_reply r.managed p q (thread_number m.caller) (place (thread_number m.caller) v.0) s };
          same = λ y. ap (λ z. record r { managed = z }) (take_state r.managed p q y (thread_number m.caller) (place (thread_number m.caller) v.0) s);
        })
      where
        allowed : (told : Told) → ManagedAllows (with_pins r p) (op.Line (act.Take v)) told → ManagedAllows (with_pins r q) (op.Line (act.Take v)) told
        allowed nothing a = tt
        allowed _ a = absurd a
    by (op.Line a) f w = moves_other r p q m told e (ap is_pinned f)
    by o f w = moves_other r p q m told e (ap is_pinned f)

-- only managed threads read, and their reads are no peer events
reads_aside : (t : Thread) (o : Op) → IsEvent t o → is_read o ≡ true → is_peer_event t o ≡ false
reads_aside (M u) (op.Line a) v e = refl
reads_aside (P u) (op.Line (act.Read k)) v e = absurd v.0.1
reads_aside (P u) (op.Line (act.Await k)) v e = absurd v.0.1
reads_aside C (op.Line a) v e = refl
reads_aside t o v e = absurd (true≢false (sym e))

-- an entry may come in the whole history too
record Goes (whole : List Noted) (cells : List (Option ℕ)) (s : Linkage) (q : List (Option ℕ)) (n : Noted) : Type 0 where
  comes : EntryMayCome (is_read n.entry.made.op) whole cells (pinned s q) (without_pins n)
  after : entry_after (pinned s q) (without_pins n) ≡ pinned (past_after s n) (pins_by q n.entry.made.caller n.entry.made.op n.entry.made.reply)

goes : (whole : List Noted) (cells : List (Option ℕ)) (s : Linkage) (q : List (Option ℕ)) (n : Noted) → Comes (is_read n.entry.made.op) s n → IsAsOrdered whole cells s q n → Goes whole cells s q n
goes whole cells s q n w o = by (is_read n.entry.made.op) refl w
  where
    m : Noted
    m = without_pins n

    after_read : is_read n.entry.made.op ≡ true → entry_after (pinned s q) m ≡ reader_after (pinned s q) m
    after_read e = ap (λ b. if b then reader_after (pinned s q) m else linkage_after (pinned s q) m) e

    after_other : is_read n.entry.made.op ≡ false → entry_after (pinned s q) m ≡ linkage_after (pinned s q) m
    after_other e = ap (λ b. if b then reader_after (pinned s q) m else linkage_after (pinned s q) m) e

    told : Told
    told = bare_told n.told

    -- the state by whether the entry is a peer's
    linked : Bool → Linkage
    linked c = record {
      managed = managed_after (with_pins s.managed q) n.entry.made (bare_told n.told) c;
      peer = peer_after s.peer n.entry.made (bare_told n.told) c;
      control = control_after s.control n.entry.made.caller n.entry.number n.entry.made.index n.entry.made.op n.entry.made.reply (bare_told n.told);
    }

    by : (r : Bool) → is_read n.entry.made.op ≡ r → Comes r s n → Goes whole cells s q n
    by true e w = record {
      comes = subst (λ b. EntryMayCome b whole cells (pinned s q) m) (sym e) (
        record {
          event = w.event;
          line = w.line;
          short = w.short;
          order = turn_same q s.control s.managed.managed s.peer.peers.issued n.entry.made.caller n.entry.made.index n.entry.made.op n.entry.made.reply n.entry.made.cites (bare_told n.told)
              (subst (λ z. CallerAllows s.control s.managed.managed s.peer.peers.issued n.entry.made.caller n.entry.made.index n.entry.made.op n.entry.made.reply n.entry.made.cites z)
              (w.bare ∙ sym (ap bare_told w.bare)) w.order);
          bare = ap bare_told w.bare;
        },
        o.reply e,
      );
      after = after_read e ∙ (λ i. record {
        managed = with_pins (sym (reads_leave s.managed n e) i) (pins_after q (thread_number n.entry.made.caller) n.entry.made.reply);
        peer = sym (ap (peer_after s.peer n.entry.made (bare_told n.told)) (reads_aside n.entry.made.caller n.entry.made.op w.event e)) i;
        control = control_after s.control n.entry.made.caller n.entry.number n.entry.made.index n.entry.made.op n.entry.made.reply (bare_told n.told);
      }) ∙ ap (pinned (past_after s n)) (read-pins q n.entry.made.caller n.entry.made.op n.entry.made.reply e);
    }
    by false e w = record {
      comes = subst (λ b. EntryMayCome b whole cells (pinned s q) m) (sym e) (record {
        event = w.comes.event;
        line = w.comes.line;
        short = w.comes.short;
        lawful = l;
        order = turn_same q s.control (given s n.told).managed.managed s.peer.peers.issued n.entry.made.caller
            n.entry.made.index n.entry.made.op n.entry.made.reply n.entry.made.cites (bare_told n.told) w.comes.order;
      });
      after = after_other e ∙ (subst (λ r. linked (is_peer_event n.entry.made.caller n.entry.made.op) ≡ pinned (by_past s n (is_peer_event n.entry.made.caller n.entry.made.op) r)
          (linked (is_peer_event n.entry.made.caller n.entry.made.op)).managed.managed.pins) (sym e) (after (is_peer_event n.entry.made.caller n.entry.made.op))
          ∙ ap (pinned (past_after s n)) (entry-pins (pinned s q) n.entry.made.index n.entry.made.reply n.entry.made.cites n.entry.made.caller n.entry.made.op (bare_told n.told) w.comes.event l e));
    }
      where
        mv : Moves s.managed (pins_told n.told) q n.entry.made (bare_told n.told)
        mv = moves s.managed (pins_told n.told) q n.entry.made (bare_told n.told) n.told refl e o.kept

        lawful : (c : Bool) → SideLawful c (given s n.told) n.entry.made (bare_told n.told) → SideLawful c (pinned s q) n.entry.made (bare_told n.told)
        lawful true l = l
        lawful false l = mv.lawful l

        l : SideLawful (is_peer_event n.entry.made.caller n.entry.made.op) (pinned s q) n.entry.made (bare_told n.told)
        l = lawful (is_peer_event n.entry.made.caller n.entry.made.op) w.comes.lawful

        after : (c : Bool) → linked c ≡ pinned (by_past s n c false) (linked c).managed.managed.pins
        after true = refl
        after false = λ i. record {
          managed = mv.same (linked false).managed.managed.pins i;
          peer = s.peer;
          control = control_after s.control n.entry.made.caller n.entry.number n.entry.made.index n.entry.made.op n.entry.made.reply (bare_told n.told);
        }

-- what is known of the rest of the list
record Rest (whole : List Noted) (cells : List (Option ℕ)) (s : Linkage) (q : List (Option ℕ)) (ns : List Noted) : Type 0 where
  lawful : AllMayComeReading whole cells (pinned s q) (map without_pins ns)
  pins : List (Option ℕ)
  ends : replayed_reading (pinned s q) (map without_pins ns) ≡ pinned (past_replayed s ns) pins

all_go : (whole : List Noted) (cells : List (Option ℕ)) (ns : List Noted) (s : Linkage) (q : List (Option ℕ)) → AllCome s ns → AllOrdered whole cells s q ns → Rest whole cells s q ns
all_go whole cells [] s q a o = record { lawful = tt; pins = q; ends = refl }
all_go whole cells (n ∷ ns) s q a o =
    let g = goes whole cells s q n a.0 o.0 in
    let r = all_go whole cells ns (past_after s n) _ a.1 o.1 in
    record {
      lawful = (g.comes, subst (λ z. AllMayComeReading whole cells z (map without_pins ns)) (sym g.after) r.lawful);
      pins = r.pins;
      ends = ap (λ z. replayed_reading z (map without_pins ns)) g.after ∙ r.ends;
    }

pub pasts_are_read_lists : PastsAreReadLists
pasts_are_read_lists whole cells ns a o = let r = all_go whole cells ns opening_linkage no_pins a o in record { lawful = r.lawful; pins = r.pins; ends = r.ends }

entries_without : (ns : List Noted) → entries (map without_pins ns) ≡ entries ns
entries_without [] = refl
entries_without (n ∷ ns) = ap (λ l. n.entry ∷ l) (entries_without ns)

pub known_whole_is_linked : KnownWholeIsLinked
known_whole_is_linked h whole lines k same numbers all ordered e =
    let t = known_whole_is_history whole lines k (subst (NumberedFrom 0) (sym same) numbers) all in
    let r = pasts_are_read_lists (history_of k.past) (end_of k.past).managed.managed.cells (turned [] k.past) t.lawful ordered in
    let back : pinned (end_of k.past) r.pins ≡ replayed_reading opening_linkage (history_of k.past) = ap (λ z. pinned z r.pins) (sym t.ends) ∙ sym r.ends in
    record {
      linked = record {
        same = entries_without (turned [] k.past) ∙ (sym (entries_shown (turned [] k.past)) ∙ (ap entries_kept t.same ∙ same));
        numbers = numbers;
        lawful = subst (λ (s : Linkage). AllMayComeReading (history_of k.past) s.managed.managed.cells opening_linkage (history_of k.past)) back r.lawful;
        whole = subst IsWhole back (record { threads = e.whole.threads; driver = e.whole.driver });
        freed_managed = subst (λ (s : Linkage). managed_numbers h.freed_managed ≡ s.managed.managed.heap.freed) back e.freed_managed;
        freed_peers = subst (λ (s : Linkage). peer_numbers h.freed_peers ≡ s.peer.peers.heap.freed) back e.freed_peers;
        notices = subst (λ (s : Linkage). take s.managed.managed.taken (managed_numbers h.notices) ≡ take s.managed.managed.taken s.managed.managed.notices) back e.notices;
      };
      pins = r.pins;
      ends = sym back;
    }
