-- The notes of a past, without the pins that are told in it, lead to the past's states but for the pins, where they are
-- lawful. A snapshot leaves what is told of it, whatever the pins are; and a `take` that answers the same has the same
-- pin.
use Rattle.std.proofs.Common.{◌≡◌, ⊎_elim, ℕ, Bool, true, false, List, Option, Some, None, refl, sym, ap, ◌∙◌, subst, true≢false}
use Rattle.std.specs.Prelude.{if◌then◌else◌, slice_set}
use Rattle.std.proofs.lemmas.Bool.{cases_Bool}
use Rattle.joint_machine.specs.declared.names.Cycle.{Cycle}
use Rattle.joint_machine.specs.declared.lines.Act.TheVariants as act
use Rattle.joint_machine.specs.declared.events.Made.{Made}
use Rattle.joint_machine.specs.declared.events.Op.{Op}
use Rattle.joint_machine.specs.declared.events.Op.TheVariants as op
use Rattle.joint_machine.specs.declared.events.Reply.{Reply}
use Rattle.joint_machine.specs.declared.events.Reply.TheVariants as says
use Rattle.joint_machine.specs.Control.{control_after}
use Rattle.joint_machine.specs.Heaps.{Answered, answer, place, slot, with_var}
use Rattle.joint_machine.specs.Lines.{is_peer_event, is_read}
use Rattle.joint_machine.specs.PinsTold.{is_pinned, bare_told, pins_told, with_pins}
use Rattle.joint_machine.specs.Linked.{Linkage, ManagedLawful, SideLawful, linkage_after, managed_after, peer_after}
use Rattle.joint_machine.specs.Managed.{Managed, managed_name, pin_taken}
use Rattle.joint_machine.specs.ManagedReplay.{ManagedReplay, managed_answer}
use Rattle.joint_machine.specs.Readers.{EntryMayCome, entry_after, pins_after, reader_after}
use Rattle.joint_machine.specs.Run.{thread_number}
use Rattle.joint_machine.specs.Told.{Noted, Told, snap_of}
use Rattle.known_laws.specs.Known.{Comes, past_after, pinned, without_pins}
use Rattle.known_laws.proofs.Coming.{peer_reads_none}
use Rattle.known_laws.proofs.Later.{by_past, reads_leave}
use Rattle.known_laws.proofs.Unpinned.{answers_same}

-- the managed side moves the same with other pins
abbrev MovesSame : ManagedReplay → List (Option ℕ) → List (Option ℕ) → Made → Told → Type 0
MovesSame r p q m told = (x : List (Option ℕ)) → with_pins (managed_answer (with_pins r q) m.caller m.op told).state x ≡ with_pins (managed_answer (with_pins r p) m.caller m.op told).state x

-- a snapshot asks for none in what it leaves
snap_same : (r : ManagedReplay) (p q : List (Option ℕ)) (m : Made) (told : Told) (k : Cycle) → m.op ≡ op.Snap k → MovesSame r p q m told
snap_same r p q m told k is x =
    subst (λ (o : Op). with_pins (managed_answer (with_pins r q) m.caller o told).state x ≡ with_pins (managed_answer (with_pins r p) m.caller o told).state x) (sym is) (by told)
  where
    by : (t : Told) → with_pins (managed_answer (with_pins r q) m.caller (op.Snap k) t).state x ≡ with_pins (managed_answer (with_pins r p) m.caller (op.Snap k) t).state x
    by (snap_of freed candidates dead) = refl
    by t = refl

-- a `take` by its caller's pin
abbrev take_by : Managed → ℕ → ℕ → Option ℕ → Answered Managed
take_by s t v o = elim o [ None ↦ answer says.Empty s | Some x ↦ answer (managed_name x) (record s { heap = with_var s.heap v (Some x); pins = slice_set s.pins t None }) ]

abbrev named : Reply → ℕ
named (says.M m) = m.0
named r = 0

take_same : (s : Managed) (p q x : List (Option ℕ)) (t v : ℕ) → (pin_taken (record s { pins = p }) t v).reply ≡ (pin_taken (record s { pins = q }) t v).reply
    → record (pin_taken (record s { pins = q }) t v).state { pins = x } ≡ record (pin_taken (record s { pins = p }) t v).state { pins = x }
take_same s p q x t v e = by (slot p t) (slot q t) e
  where
    by : (o u : Option ℕ) → (take_by (record s { pins = p }) t v o).reply ≡ (take_by (record s { pins = q }) t v u).reply
        → record (take_by (record s { pins = q }) t v u).state { pins = x } ≡ record (take_by (record s { pins = p }) t v o).state { pins = x }
    by None None e = refl
    by None (Some y) e = absurd (cc)
    by (Some y) None e = absurd (cc)
    by (Some y) (Some z) e = ap (λ (n : ℕ). record s { heap = with_var s.heap v (Some n); pins = x }) (sym (ap named e))

-- an entry that is lawful with both pins
moves_same : (r : ManagedReplay) (p q : List (Option ℕ)) (m : Made) (told : Told) → is_read m.op ≡ false → ManagedLawful (with_pins r p) m told → ManagedLawful (with_pins r q) m told
    → MovesSame r p q m told
moves_same r p q m told e a b = by m.op refl
  where
    others : is_pinned m.op ≡ false → MovesSame r p q m told
    others f x = ap (λ (z : Answered ManagedReplay). with_pins z.state x) (answers_same q (with_pins r p) m.caller m.op told e f)

    by : (o : Op) → m.op ≡ o → MovesSame r p q m told
    by (op.Snap k) f = snap_same r p q m told k f
    by (op.Line (act.Take v)) f = λ x.
        let same = subst (λ (o : Op). (managed_answer (with_pins r p) m.caller o told).reply ≡ (managed_answer (with_pins r q) m.caller o told).reply) f (sym a.replies ∙ b.replies) in
        subst (λ (o : Op). with_pins (managed_answer (with_pins r q) m.caller o told).state x ≡ with_pins (managed_answer (with_pins r p) m.caller o told).state x) (sym f)
        (ap (λ (z : Managed). record r { managed = z }) (take_same r.managed p q x (thread_number m.caller) (place (thread_number m.caller) v.0) same))
    by (op.Line a) f = others (ap is_pinned f)
    by o f = others (ap is_pinned f)

-- the state after an entry is the past's, but for the pins
pub record IsAfter (s : Linkage) (q : List (Option ℕ)) (n : Noted) : Type 0 where
  pub pins : List (Option ℕ)
  pub same : entry_after (pinned s q) (without_pins n) ≡ pinned (past_after s n) pins

pub one_after : (whole : List Noted) (cells : List (Option ℕ)) (s : Linkage) (q : List (Option ℕ)) (n : Noted) → Comes (is_read n.entry.made.op) s n
    → EntryMayCome (is_read n.entry.made.op) whole cells (pinned s q) (without_pins n) → IsAfter s q n
one_after whole cells s q n w o = by (is_read n.entry.made.op) refl w o
  where
    m : Noted
    m = without_pins n

    told : Told
    told = bare_told n.told

    after : Bool → Linkage
    after b = if b then reader_after (pinned s q) m else linkage_after (pinned s q) m

    peers : Bool
    peers = is_peer_event n.entry.made.caller n.entry.made.op

    -- the state by whether the entry is a peer's
    linked : Bool → Linkage
    linked c = record {
      managed = managed_after (with_pins s.managed q) n.entry.made told c;
      peer = peer_after s.peer n.entry.made told c;
      control = control_after s.control n.entry.made.caller n.entry.number n.entry.made.index n.entry.made.op n.entry.made.reply told;
    }

    by : (r : Bool) → is_read n.entry.made.op ≡ r → Comes r s n → EntryMayCome r whole cells (pinned s q) m → IsAfter s q n
    by true e w o = record {
      pins = pins_after q (thread_number n.entry.made.caller) n.entry.made.reply;
      same = ap after e ∙ (λ i. record {
        managed = with_pins (sym (reads_leave s.managed n e) i) (pins_after q (thread_number n.entry.made.caller) n.entry.made.reply);
        peer = sym (ap (peer_after s.peer n.entry.made told) aside) i;
        control = control_after s.control n.entry.made.caller n.entry.number n.entry.made.index n.entry.made.op n.entry.made.reply told;
      });
    }
      where
        aside : is_peer_event n.entry.made.caller n.entry.made.op ≡ false
        aside = ⊎_elim
            (λ (p : is_peer_event n.entry.made.caller n.entry.made.op ≡ true). absurd (true≢false (sym e ∙ (peer_reads_none n.entry.made.caller n.entry.made.op w.event p).0)))
            (λ (p : is_peer_event n.entry.made.caller n.entry.made.op ≡ false). p)
            (cases_Bool (is_peer_event n.entry.made.caller n.entry.made.op))
    by false e w o = record {
      pins = (linked peers).managed.managed.pins;
      same = ap after e ∙ subst (λ r. linked peers ≡ pinned (by_past s n peers r) (linked peers).managed.managed.pins) (sym e) (to peers w.comes.lawful o.lawful);
    }
      where
        to : (c : Bool) → SideLawful c (pinned s (pins_told n.told)) n.entry.made told → SideLawful c (pinned s q) n.entry.made told
            → linked c ≡ pinned (by_past s n c false) (linked c).managed.managed.pins
        to true a b = refl
        to false a b = λ i. record {
          managed = moves_same s.managed (pins_told n.told) q n.entry.made told e a b (linked false).managed.managed.pins i;
          peer = s.peer;
          control = control_after s.control n.entry.made.caller n.entry.number n.entry.made.index n.entry.made.op n.entry.made.reply told;
        }
