-- A past in order is one that somebody knows: at each snap and `take` the pins of the state are told. They stand, since
-- the managed side has them among its roots; every other event asks for no pins.
use Rattle.std.proofs.Common.{◌≡◌, Bool, true, false, List, [], ◌∷◌, length, refl, sym, ap, ◌∙◌, subst, arith, true≢false}
use Rattle.joint_machine.specs.Control.{control_after}
use Rattle.joint_machine.specs.Histories.{Finished}
use Rattle.joint_machine.specs.Heaps.{Answered}
use Rattle.joint_machine.specs.Lines.{is_peer_event, is_read}
use Rattle.joint_machine.specs.PinsTold.{is_pinned, bare_told, no_pins, pins_told, with_pins}
use Rattle.joint_machine.specs.Linked.{Linkage, MayCome, SideLawful, linkage_after, managed_after, peer_after}
use Rattle.joint_machine.specs.ManagedReplay.{ManagedReplay, managed_answer}
use Rattle.joint_machine.specs.Readers.{ReaderMayCome, entry_after}
use Rattle.joint_machine.specs.Told.{Noted, kept_pins}
use Rattle.joint_laws.specs.ManagedInvariants.{ManagedInvariant}
use Rattle.known_laws.specs.Driving.{PastInvariant}
use Rattle.known_laws.specs.Known.{pinned, given, without_pins, PinsStand, Comes, managed_past, past_after}
use Rattle.known_laws.specs.PastEntries.{TellsPlainly}
use Rattle.known_laws.specs.Pasts.{next_of}
use Rattle.known_laws.proofs.Bared.{unpinned_told, plain_told, plain_pins, plain_read}
use Rattle.known_laws.proofs.Coming.{peer_reads_none}
use Rattle.known_laws.proofs.KnownPasts.{past_invariant_holds}
use Rattle.known_laws.proofs.Later.{reads_leave}
use Rattle.known_laws.proofs.Pinned.{none_stand, own_stand}
use Rattle.known_laws.proofs.Unpinned.{answers_same, allows_same, turn_same}
use Rattle.check_laws.specs.Behind.{state_of, RepliesBehind, AllInOrder}
use Rattle.check_laws.specs.Knows.{IsKnown, PastsInOrderAreKnown}
use Rattle.check_laws.specs.Reads.{ComesBehind, AreInPlace}
use Rattle.check_laws.proofs.Keeping.{after-read, after-other, kept}
use Rattle.check_laws.proofs.Naming.{all_read}
use Rattle.check_laws.proofs.Tested.{stand_behind}
use Rattle.check_laws.proofs.Turned.{all_come, in_place}

-- what follows of an entry with pins told
record Known (s : Linkage) (n m : Noted) : Type 0 where
  same : m.entry ≡ n.entry
  comes : Comes (is_read n.entry.made.op) (pinned s no_pins) m
  plain : TellsPlainly s.control.stand n.entry.made.op (bare_told m.told)
  after : past_after (pinned s no_pins) m ≡ pinned (entry_after s n) no_pins

-- the state after an entry of a past, by its list
abbrev by_list : Linkage → Noted → Bool → Bool → Linkage
by_list s n p r = record {
  managed = managed_past s.managed n.entry.made n.told p r;
  peer = peer_after s.peer n.entry.made (bare_told n.told) p;
  control = control_after s.control n.entry.made.caller n.entry.number n.entry.made.index n.entry.made.op n.entry.made.reply (bare_told n.told);
}

abbrev by_side : Linkage → Noted → Bool → Linkage
by_side s n p = record {
  managed = managed_after s.managed n.entry.made n.told p;
  peer = peer_after s.peer n.entry.made n.told p;
  control = control_after s.control n.entry.made.caller n.entry.number n.entry.made.index n.entry.made.op n.entry.made.reply n.told;
}

module _ (s : Linkage) (n : Noted) where
  -- a reader's entry
  read-known : is_read n.entry.made.op ≡ true → ReaderMayCome s n → Known s n n
  read-known e w = record {
    same = refl;
    comes = subst (λ b. Comes b (pinned s no_pins) n) (sym e) (record {
      event = w.event;
      line = w.line;
      short = w.short;
      order = turn_same no_pins s.control s.managed.managed s.peer.peers.issued n.entry.made.caller n.entry.made.index n.entry.made.op n.entry.made.reply n.entry.made.cites n.told w.order;
      bare = w.bare;
    });
    plain = plain_read s.control.stand n.entry.made.op (bare_told n.told) e;
    after = (λ i. record {
      managed = reads_leave (with_pins s.managed no_pins) n e i;
      peer = peer i;
      control = control_after s.control n.entry.made.caller n.entry.number n.entry.made.index n.entry.made.op n.entry.made.reply (told i);
    }) ∙ ap (λ z. pinned z no_pins) (sym (after-read s n e));
  }
    where
      told : bare_told n.told ≡ n.told
      told = ap bare_told w.bare ∙ sym w.bare

      peer-is : (b : Bool) → is_peer_event n.entry.made.caller n.entry.made.op ≡ b → b ≡ false
      peer-is true q = absurd (true≢false (sym e ∙ (peer_reads_none n.entry.made.caller n.entry.made.op w.event q).0))
      peer-is false q = refl

      peer : peer_after s.peer n.entry.made (bare_told n.told) (is_peer_event n.entry.made.caller n.entry.made.op) ≡ s.peer
      peer = ap (peer_after s.peer n.entry.made (bare_told n.told)) (peer-is (is_peer_event n.entry.made.caller n.entry.made.op) refl)

  -- an entry with which no pins are kept
  module _ (e : is_read n.entry.made.op ≡ false) (f : is_pinned n.entry.made.op ≡ false) (w : MayCome s n) (plain : TellsPlainly s.control.stand n.entry.made.op n.told) where
    bare : bare_told n.told ≡ n.told
    bare = plain_told n.told (unpinned_told s n w)

    none : pins_told n.told ≡ no_pins
    none = plain_pins n.told (unpinned_told s n w)

    side : (b : Bool) → SideLawful b s n.entry.made n.told → SideLawful b (pinned s no_pins) n.entry.made n.told
    side true l = l
    side false l = record {
      allowed = allows_same no_pins s.managed n.entry.made.op n.told f l.allowed;
      replies = l.replies ∙ sym (ap (λ (z : Answered ManagedReplay). z.reply) (answers_same no_pins s.managed n.entry.made.caller n.entry.made.op n.told e f));
    }

    comes-plain : MayCome (pinned s no_pins) n
    comes-plain = record {
      event = w.event;
      line = w.line;
      short = w.short;
      lawful = side (is_peer_event n.entry.made.caller n.entry.made.op) w.lawful;
      order = turn_same no_pins s.control s.managed.managed s.peer.peers.issued n.entry.made.caller n.entry.made.index n.entry.made.op n.entry.made.reply n.entry.made.cites n.told w.order;
    }

    comes-so : MayCome (given (pinned s no_pins) n.told) (without_pins n)
    comes-so = subst (λ p. MayCome (pinned s p) (without_pins n)) (sym none) (subst (λ t. MayCome (pinned s no_pins) (record { entry = n.entry; told = t })) (sym bare) comes-plain)

    past-so : (p : Bool) → by_list (pinned s no_pins) n p false ≡ pinned (by_side s n p) no_pins
    past-so true = λ i. record {
      managed = with_pins s.managed no_pins;
      peer = peer_after s.peer n.entry.made (bare i) true;
      control = control_after s.control n.entry.made.caller n.entry.number n.entry.made.index n.entry.made.op n.entry.made.reply (bare i);
    }
    past-so false = (λ i. record {
      managed = with_pins (managed_answer (with_pins s.managed (none i)) n.entry.made.caller n.entry.made.op (bare i)).state no_pins;
      peer = s.peer;
      control = control_after s.control n.entry.made.caller n.entry.number n.entry.made.index n.entry.made.op n.entry.made.reply (bare i);
    }) ∙ (λ i. record {
      managed = with_pins (answers_same no_pins s.managed n.entry.made.caller n.entry.made.op n.told e f i).state no_pins;
      peer = s.peer;
      control = control_after s.control n.entry.made.caller n.entry.number n.entry.made.index n.entry.made.op n.entry.made.reply n.told;
    })

    plain-known : Known s n n
    plain-known = record {
      same = refl;
      comes = subst (λ b. Comes b (pinned s no_pins) n) (sym e) (record {
        tells = unpinned_told s n w ∙ sym f;
        stand = subst (PinsStand (with_pins s.managed no_pins).managed) (sym none) (none_stand (with_pins s.managed no_pins).managed);
        comes = comes-so;
      });
      plain = subst (TellsPlainly s.control.stand n.entry.made.op) (sym bare) plain;
      after = subst (λ r. by_list (pinned s no_pins) n (is_peer_event n.entry.made.caller n.entry.made.op) r ≡ pinned (linkage_after s n) no_pins)
          (sym e) (past-so (is_peer_event n.entry.made.caller n.entry.made.op))
          ∙ ap (λ z. pinned z no_pins) (sym (after-other s n e));
    }

  -- one with which pins are kept
  module _ (e : is_read n.entry.made.op ≡ false) (f : is_pinned n.entry.made.op ≡ true) (w : MayCome s n)
      (plain : TellsPlainly s.control.stand n.entry.made.op n.told) (k : ManagedInvariant s.managed.managed) where
    abbrev pinned-note : Noted
    pinned-note = record { entry = n.entry; told = kept_pins s.managed.managed.pins n.told }

    side-is : (b : Bool) → is_peer_event n.entry.made.caller n.entry.made.op ≡ b → b ≡ false
    side-is true q = absurd (true≢false (sym f ∙ (peer_reads_none n.entry.made.caller n.entry.made.op w.event q).1))
    side-is false q = refl

    stands : PinsStand (with_pins s.managed no_pins).managed s.managed.managed.pins
    stands = let o = own_stand s.managed.managed k in record { live = o.live; outside = o.outside }

    pinned-known : Known s n pinned-note
    pinned-known =
        let here = side-is (is_peer_event n.entry.made.caller n.entry.made.op) refl in
        record {
          same = refl;
          comes = subst (λ b. Comes b (pinned s no_pins) pinned-note) (sym e) (record { tells = sym f; stand = stands; comes = w });
          plain = plain;
          after = subst (λ r. by_list (pinned s no_pins) pinned-note (is_peer_event n.entry.made.caller n.entry.made.op) r ≡ pinned (linkage_after s n) no_pins) (sym e)
              (subst (λ p. by_list (pinned s no_pins) pinned-note p false ≡ pinned (by_side s n p) no_pins) (sym here) refl)
              ∙ ap (λ z. pinned z no_pins) (sym (after-other s n e));
        }

-- one entry
record Step (s : Linkage) (n : Noted) : Type 0 where
  note : Noted
  known : Known s n note

step : (h : Finished) (past : List Noted) (n : Noted) → ComesBehind (is_read n.entry.made.op) (state_of past) n
    → RepliesBehind (is_read n.entry.made.op) h past n → ManagedInvariant (state_of past).managed.managed → Step (state_of past) n
step h past n w q k = by (is_read n.entry.made.op) (is_pinned n.entry.made.op) refl refl w q
  where
    by : (b p : Bool) → is_read n.entry.made.op ≡ b → is_pinned n.entry.made.op ≡ p → ComesBehind b (state_of past) n → RepliesBehind b h past n → Step (state_of past) n
    by true p e f w q = record { note = n; known = read-known (state_of past) n e w }
    by false false e f w q = record { note = n; known = plain-known (state_of past) n e f w q.plain }
    by false true e f w q = record { note = record { entry = n.entry; told = kept_pins (state_of past).managed.managed.pins n.told }; known = pinned-known (state_of past) n e f w q.plain k }

-- the whole past
record Knows (past : List Noted) : Type 0 where
  is : IsKnown past
  next : next_of is.known ≡ length past

knows : (h : Finished) (past : List Noted) → AreInPlace past → AllInOrder h past → Knows past
knows h [] p o = record { is = record { known = []; same = refl; lawful = tt; ends = refl }; next = refl }
knows h (n ∷ past) p o =
    let r = knows h past p.1 o.1 in
    let k = (kept past (all_come h past o.1) (stand_behind past (all_read h past o.1))).managed in
    let t = step h past n (all_come h (n ∷ past) o).0 o.0.replies k in
    let m = t.known.same in
    record {
      is = record {
        known = t.note ∷ r.is.known;
        same = λ i. m i ∷ r.is.same i;
        lawful = (
          record {
            later = (let a = r.next in let b = p.0 in let c = ap (λ e. e.number) m in omega (arith, a, b, c));
            comes = subst (λ (z : Linkage). Comes (is_read t.note.entry.made.op) z t.note) (sym r.is.ends)
                (subst (λ e. Comes (is_read e.made.op) (pinned (state_of past) no_pins) t.note) (sym m) t.known.comes);
            plain = subst (λ (z : Linkage). TellsPlainly z.control.stand t.note.entry.made.op (bare_told t.note.told)) (sym r.is.ends)
                (subst (λ e. TellsPlainly (state_of past).control.stand e.made.op (bare_told t.note.told)) (sym m) t.known.plain);
          },
          r.is.lawful,
        );
        ends = ap (λ z. past_after z t.note) r.is.ends ∙ t.known.after;
      };
      next = (let b = p.0 in let c = ap (λ e. e.number) m in omega (arith, b, c));
    }

pub pasts_known : PastsInOrderAreKnown
pasts_known h past numbers o =
    let k = (knows h past (in_place past numbers) o).is in
    record { is = k; kept = subst PastInvariant k.ends (past_invariant_holds k.known k.lawful) }
