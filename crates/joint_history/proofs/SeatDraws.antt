-- An entry that a side draws by a seat. What the order keeps of it is what the side drew: only a `weak` that set its
-- cell has a target, only a snapshot and a resolution free objects, and only a snapshot and a `take` are told with
-- pins. After a plain entry, which does nothing to the cycles and to no pin and frees nothing, the seat is settled as
-- it was.
use Rattle.std.proofs.Common.{◌≡◌, inl, inr, ℕ, false, true, List, [], ◌∷◌, ◌++◌, Option, None, refl, sym, ap, ◌∙◌, subst, arith, true≢false}
use Rattle.joint_machine.specs.declared.names.MNum.{MNum}
use Rattle.joint_machine.specs.declared.names.Thread.{Thread}
use Rattle.joint_machine.specs.declared.names.Thread.TheVariants.{M, P, C}
use Rattle.joint_machine.specs.declared.lines.Act.TheVariants as act
use Rattle.joint_machine.specs.declared.events.Made.{Made}
use Rattle.joint_machine.specs.declared.events.Op.{Op}
use Rattle.joint_machine.specs.declared.events.Op.TheVariants as op
use Rattle.joint_machine.specs.declared.events.Reply.{Reply}
use Rattle.joint_machine.specs.Draws.{numbered}
use Rattle.joint_machine.specs.Lines.{IsEvent, is_peer_event}
use Rattle.joint_machine.specs.ManagedReplay.{ManagedReplay, ManagedAllows}
use Rattle.joint_machine.specs.PeerReplay.{PeerReplay}
use Rattle.joint_machine.specs.Sides.{GoesOn, MaySetCell, Side, cell_target, managed_rules, objects_freed, peer_rules}
use Rattle.joint_machine.specs.Told.{Told, nothing, contraction_of, phase_of}
use Rattle.joint_machine.specs.PinsTold.{bare_told, no_pins, pins_told}
use Rattle.known_laws.proofs.Bared.{peer_unpinned, plain_pins}
use Rattle.known_laws.proofs.Coming.{peer_reads_none}
use Rattle.order_table.specs.Allowed.{Settled}
use Rattle.order_table.specs.Owed.{freed_told, mark, pin_deed, stays, target_told}
use Rattle.order_table.specs.Stages.{deed, neither}
use Rattle.order_table.specs.Views.{OrderId, Shown, kept, pins_kept}
use Rattle.managed_heap.specs.Steps.{IsManagedStep}
use Rattle.seat_calls.specs.Passing.{Appends}
use Rattle.seat_calls.proofs.After.{plain_settled}
use Rattle.view_laws.specs.Knowing.{pins_of}
use Rattle.joint_history.specs.Locked.{Drew, HasAppended}

-- a step sets no cell
pub step_sets_none : (s : ManagedReplay) (t : Thread) (o : Op) (m : MNum) → IsManagedStep t o → MaySetCell s o m → ⊥
step_sets_none s t (op.Line (act.Weak k v)) m e x = e.1.1
step_sets_none s t (op.Line a) m e x = x
step_sets_none s t o m e x = x

-- the target that is kept is the one that the side drew
target_kept : (s : ManagedReplay) (t : Thread) (o : Op) (r : Reply) → IsEvent t o → is_peer_event t o ≡ false → target_told t o (cell_target s t o r) ≡ cell_target s t o r
target_kept s (M n) (op.Line (act.Weak k v)) r e side = refl
target_kept s (P n) (op.Line (act.Weak k v)) r e side = absurd e.0.1
target_kept s C (op.Line (act.Weak k v)) r e side = absurd e.0
target_kept s t (op.Line a) r e side = refl
target_kept s t o r e side = refl

no_target : (t : Thread) (o : Op) → target_told t o None ≡ None
no_target (M n) (op.Line (act.Weak k v)) = refl
no_target t o = refl

-- where no object is given no cell is set
pub sets_none : (t : Thread) (o : Op) → mark o (target_told t o None) ≡ None
sets_none t o = ap (mark o) (no_target t o) ∙ bare o
  where
    bare : (q : Op) → mark q None ≡ None
    bare (op.Line (act.Weak k v)) = refl
    bare (op.Line a) = refl
    bare q = refl

-- and so are the objects that it frees
freed_kept : (s : ManagedReplay) (o : Op) (x : Told) → ManagedAllows s o x → freed_told o (objects_freed x) ≡ objects_freed x
freed_kept s (op.Snap k) x w = refl
freed_kept s (op.Resolve k) x w = refl
freed_kept s (op.Line a) nothing w = refl
freed_kept s (op.Adopt v kind n p h) nothing w = refl
freed_kept s (op.Lend v x) nothing w = refl
freed_kept s (op.Meet v sort n p h) nothing w = refl
freed_kept s (op.Give v) nothing w = refl
freed_kept s (op.Contract k) (contraction_of comps heavy xrefs) w = refl
freed_kept s (op.Abandon k) nothing w = refl
freed_kept s (op.Refused w') (phase_of phase) w = refl
freed_kept s _ _ w = absurd w

none_freed : (o : Op) → freed_told o [] ≡ []
none_freed (op.Snap k) = refl
none_freed (op.Resolve k) = refl
none_freed o = refl

-- what was appended, without what is owed
appended_by : (order order' : OrderId) (seat seat' : Shown) (r : ℕ) (m : Made) (target : Option MNum) (freed : List MNum) (n : ℕ)
    → Appends order order' seat seat' r (kept seat.view m target freed n) → HasAppended order seat seat' r (kept seat.view m target freed n)
appended_by order order' seat seat' r m target freed n a = record { same = a.same; grows = a.grows; number = a.number; one_history = a.one_history }

-- the managed side's entry
pub drew_managed : (order order' : OrderId) (seat seat' : Shown) (old new : Side ManagedReplay) (m : Made) (told : Told) (n : ℕ)
    → Appends order order' seat seat' 0 (kept seat.view m (managed_rules.target old.state m) (managed_rules.frees told) n)
    → GoesOn managed_rules old.state m told new.state → new.entries ≡ old.entries ++ numbered n m ∷ []
    → pins_of (pins_kept seat.view m.caller m.op) ≡ pins_told told → (last : ℕ) → last ≡ n → Drew managed_rules 0 order seat seat' old new (numbered last m) told
drew_managed order order' seat seat' old new m told n a goes added pins last is = subst (λ l. Drew managed_rules 0 order seat seat' old new (numbered l m) told) (sym is) record {
  kept = kept seat.view m (managed_rules.target old.state m) (managed_rules.frees told) n;
  entry = refl;
  target = target_kept old.state m.caller m.op m.reply goes.lawful.0.event goes.lawful.0.side;
  freed = freed_kept _ m.op (bare_told told) goes.lawful.1.lawful.allowed;
  pins = pins;
  appends = appended_by order order' seat seat' 0 m (managed_rules.target old.state m) (managed_rules.frees told) n a;
  added = added;
  goes = goes;
}

-- no pins are kept with a peer's entry
peer_keeps_none : (seat : Shown) (t : Thread) (o : Op) → is_peer_event t o ≡ true → IsEvent t o → pins_of (pins_kept seat.view t o) ≡ no_pins
peer_keeps_none seat (M n) (op.Line a) e v = absurd (true≢false (sym e))
peer_keeps_none seat C (op.Line a) e v = absurd (true≢false (sym e))
peer_keeps_none seat (P n) (op.Line (act.Take x)) e v = absurd v.0.1
peer_keeps_none seat t (op.Snap k) e v = absurd (true≢false (sym e))
peer_keeps_none seat t o e v = refl

-- the peer side's entry
pub drew_peer : (order order' : OrderId) (seat seat' : Shown) (old new : Side PeerReplay) (m : Made) (told : Told) (n : ℕ) → Appends order order' seat seat' 1 (kept seat.view m None [] n)
    → GoesOn peer_rules old.state m told new.state → new.entries ≡ old.entries ++ numbered n m ∷ [] → (last : ℕ) → last ≡ n → Drew peer_rules 1 order seat seat' old new (numbered last m) told
drew_peer order order' seat seat' old new m told n a goes added last is = subst (λ l. Drew peer_rules 1 order seat seat' old new (numbered l m) told) (sym is) record {
  kept = kept seat.view m None [] n;
  entry = refl;
  target = no_target m.caller m.op;
  freed = none_freed m.op;
  pins = peer_keeps_none seat m.caller m.op goes.lawful.0.side goes.lawful.0.event ∙ sym (plain_pins told (peer_unpinned old.state m told goes.lawful.1));
  appends = appended_by order order' seat seat' 1 m None [] n a;
  added = added;
  goes = goes;
}

-- a peer's entry leaves the seat settled
pub peer_settled : (order order' : OrderId) (seat seat' : Shown) (s : PeerReplay) (m : Made) (told : Told) (n : ℕ)
    → Appends order order' seat seat' 1 (kept seat.view m None [] n) → peer_rules.lawful s m told → Settled seat.view → Settled seat'.view
peer_settled order order' seat seat' s m told n a w settled = plain_settled seat.view seat'.view 1 (kept seat.view m None [] n) (omega arith)
    (record { one = omega arith; managed = λ z. absurd (omega arith); peer = λ z. ((peer_reads_none m.caller m.op w.0.event w.0.side).0, w.0.side); reader = λ z. absurd (omega arith) }) a.grows a.paid
    (inl refl) settled

-- a managed event that does nothing to the cycles and to no pin, and with which no pins are told
pub record IsPlainEvent (t : Thread) (o : Op) (r : Reply) : Type 0 where
  pub cycles : deed o ≡ neither
  pub pin : pin_deed t o r ≡ stays
  pub frees : (told : List MNum) → freed_told o told ≡ []
  pub pins : (seat : Shown) → pins_kept seat.view t o ≡ []

step_pin : (t : Thread) (o : Op) (r : Reply) → IsManagedStep t o → pin_deed t o r ≡ stays
step_pin (M n) (op.Line (act.Read k)) r e = absurd e.1.1
step_pin (M n) (op.Line (act.Await k)) r e = absurd e.1.1
step_pin (M n) (op.Line (act.Take v)) r e = absurd e.1.1
step_pin (M n) (op.Line a) r e = refl
step_pin (M n) o r e = refl
step_pin (P n) o r e = refl
step_pin C o r e = refl

pub step_is_plain : (t : Thread) (o : Op) (r : Reply) → IsManagedStep t o → IsPlainEvent t o r
step_is_plain t (op.Line (act.Take v)) r e = absurd e.1.1
step_is_plain t (op.Line a) r e = record { cycles = refl; pin = step_pin t (op.Line a) r e; frees = λ told. refl; pins = λ seat. refl }
step_is_plain t (op.Lend v x) r e = record { cycles = refl; pin = step_pin t (op.Lend v x) r e; frees = λ told. refl; pins = λ seat. refl }
step_is_plain t (op.Adopt v kind n p h) r e = record { cycles = refl; pin = step_pin t (op.Adopt v kind n p h) r e; frees = λ told. refl; pins = λ seat. refl }
step_is_plain t (op.Meet v sort n p h) r e = record { cycles = refl; pin = step_pin t (op.Meet v sort n p h) r e; frees = λ told. refl; pins = λ seat. refl }
step_is_plain t (op.Give v) r e = record { cycles = refl; pin = step_pin t (op.Give v) r e; frees = λ told. refl; pins = λ seat. refl }
step_is_plain t o r e = absurd e.1

-- it leaves the seat settled
pub plain_event_settled : (order order' : OrderId) (seat seat' : Shown) (s : ManagedReplay) (m : Made) (told : Told) (target : Option MNum) (freed : List MNum) (n : ℕ)
    → IsPlainEvent m.caller m.op m.reply → Appends order order' seat seat' 0 (kept seat.view m target freed n) → managed_rules.lawful s m told → Settled seat.view → Settled seat'.view
plain_event_settled order order' seat seat' s m told target freed n plain a w settled = plain_settled seat.view seat'.view 0 (kept seat.view m target freed n) (omega arith)
    (record { one = omega arith; managed = λ z. (w.1.own, w.0.side); peer = λ z. absurd (omega arith); reader = λ z. absurd (omega arith) }) a.grows a.paid
    (inr (record { frees = plain.frees freed; cycles = plain.cycles; pin = plain.pin })) settled
