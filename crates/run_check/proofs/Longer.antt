-- What follows a past follows it still when it is longer by an entry of the managed side: the side has its state, the
-- peer side its own as before.
use Rattle.std.proofs.Common.{◌≡◌, ℕ, suc, ◌+◌, ◌<◌, ◌≤◌, Bool, true, false, List, [], ◌∷◌, length, map, Option, Some, None, refl, sym, ap, ◌∙◌, subst, arith}
use Rattle.std.proofs.lemmas.List.Elements.{All-weaker}
use Rattle.joint_machine.specs.declared.events.Entry.{Entry}
use Rattle.joint_machine.specs.declared.events.Made.{Made}
use Rattle.joint_machine.specs.Control.{control_after}
use Rattle.joint_machine.specs.Draws.{AllBelow}
use Rattle.joint_machine.specs.Lines.{is_peer_event, is_read}
use Rattle.joint_machine.specs.Linked.{Linkage, managed_after, peer_after}
use Rattle.joint_machine.specs.Managed.{candidates_of}
use Rattle.joint_machine.specs.ManagedReplay.{ManagedReplay, managed_answer}
use Rattle.joint_machine.specs.Told.{Noted, Told}
use Rattle.joint_machine.specs.PinsTold.{no_pins, with_pins}
use Rattle.check_laws.specs.Behind.{state_of}
use Rattle.check_laws.proofs.Keeping.{after-other}
use Rattle.managed_heap.specs.Rows.{number_or_none}
use Rattle.managed_heap.specs.Sides.{ManagedModel}
use Rattle.peer_heap.specs.Sides.{PeerModel}
use Rattle.run_check.specs.declared.readers.Readers.{Readers}
use Rattle.run_check.specs.Follows.{LeftFits, ManagedFollows, PeersFollow, StoresFollow}
use Rattle.run_check.specs.Judging.{next_noted}
use Rattle.run_check.proofs.OwnEntries.{IsMadeIn}

pub below-more : (es : List Entry) (k l : ℕ) → k ≤ l → AllBelow es k → AllBelow es l
below-more es k l le b = All-weaker (λ e. e.number < k) (λ e. e.number < l) (λ e less. omega (arith, less, le)) es b

module _ (past : List Noted) (m : Made) (told : Told) (p : is_peer_event m.caller m.op ≡ false) (e : is_read m.op ≡ false) where
  abbrev here : Linkage
  here = state_of past

  abbrev note : Noted
  note = next_noted past m told

  abbrev next : Linkage
  next = state_of (note ∷ past)

  pub managed-next : next.managed ≡ (managed_answer here.managed m.caller m.op told).state
  managed-next = ap (λ (z : Linkage). z.managed) (after-other here note e) ∙ ap (managed_after here.managed m told) p

  pub peer-next : next.peer ≡ here.peer
  peer-next = ap (λ (z : Linkage). z.peer) (after-other here note e) ∙ ap (peer_after here.peer m told) p

  pub control-next : next.control ≡ control_after here.control m.caller (length past) m.index m.op m.reply told
  control-next = ap (λ (z : Linkage). z.control) (after-other here note e)

  pub managed-longer : (old new : ManagedModel) (after : ℕ) → ManagedFollows past old → new.threads ≡ old.threads
      → AllBelow new.entries after → after ≡ suc (length past) → IsMadeIn here.managed m told new.state → ManagedFollows (note ∷ past) new
  managed-longer old new after f t b c w = record {
    threads = t ∙ f.threads;
    below = subst (AllBelow new.entries) c b;
    state = w.after ∙ sym (ap (λ (z : ManagedReplay). with_pins z no_pins) managed-next);
  }

  pub peers-longer : (q : PeerModel) → PeersFollow past q → LeftFits next.control.stand (length (candidates_of next.managed.managed)) q.reserve.left → PeersFollow (note ∷ past) q
  peers-longer q f l = record {
    threads = f.threads;
    below = below-more q.entries (length past) (length (note ∷ past)) (omega arith) f.below;
    state = f.state ∙ sym peer-next;
    reserve = record { none_waits = f.reserve.none_waits; left = l };
  }

  -- the pins and the cells, where the entry changes none
  pub stores-longer : (x : Readers) → (managed_answer here.managed m.caller m.op told).state.managed.pins ≡ here.managed.managed.pins
      → (managed_answer here.managed m.caller m.op told).state.managed.cells ≡ here.managed.managed.cells
      → StoresFollow past x → StoresFollow (note ∷ past) x
  stores-longer x ps cs f = record {
    nine = f.nine;
    pins = f.pins ∙ sym (ap (λ (z : ManagedReplay). z.managed.pins) managed-next ∙ ps);
    many = f.many;
    cells = f.cells ∙ sym (ap (λ (z : ManagedReplay). z.managed.cells) managed-next ∙ cs);
  }
