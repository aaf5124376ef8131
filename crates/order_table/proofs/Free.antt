-- A seat that is settled, and has compared all that it heard; and what follows from an entry's event alone.
use Rattle.std.proofs.Common.{◌≡◌, ⊎_elim, ℕ, zero, suc, ◌+◌, ◌-◌, ◌^◌, ◌<◌, ◌≤◌, Bool, true, false, List, [], refl, sym, ap, ◌∙◌, subst, arith, true≢false}
use Rattle.std.specs.Prelude.{if◌then◌else◌, ◌==◌, Option, Some, None}
use Rattle.std.proofs.lemmas.Bool.{both_ways, cases_eq}
use Rattle.joint_machine.specs.declared.names.MNum.{MNum}
use Rattle.joint_machine.specs.declared.names.Thread.{Thread}
use Rattle.joint_machine.specs.declared.names.Thread.TheVariants.{M, P, C}
use Rattle.joint_machine.specs.declared.lines.Act.TheVariants as act
use Rattle.joint_machine.specs.declared.events.Op.{Op}
use Rattle.joint_machine.specs.declared.events.Op.TheVariants as op
use Rattle.joint_machine.specs.declared.events.Made.{Made}
use Rattle.joint_machine.specs.declared.events.Reply.{Reply}
use Rattle.joint_machine.specs.declared.events.Reply.TheVariants as says
use Rattle.joint_machine.specs.Control.{caller_place}
use Rattle.joint_machine.specs.Lines.{IsThread, is_peer_event, is_read}
use Rattle.order_table.specs.declared.views.View.{View}
use Rattle.joint_machine.specs.HistoryLines.{caller_line}
use Rattle.order_table.specs.Rows.{at}
use Rattle.order_table.specs.Stages.{stage, deed}
use Rattle.order_table.specs.Owed.{PinDeed, fills, empties, stays, pin_deed, pin, owing, has, mark, target_told, freed_told}
use Rattle.order_table.specs.Views.{IsCompared, IsInRole, known, pin_owed}
use Rattle.order_table.specs.Allowed.{NoDebt, HoldsOpen, Settled, MayDo, MayMake}
use Rattle.order_table.specs.Rule.{IsHeldFor}

pub record Free (v : View) : Type 0 where
  pub compared : (v.heard ≡ []) × (v.heard_owns ≡ []) × (v.heard_holds ≡ 0)
  pub outside : v.inside ≡ 0
  pub clear : v.owes ≡ 0
  pub paid : NoDebt v
  pub stored : (v.fill ≡ 0) × (v.empty ≡ 0)
  pub gate : at false v.owns 0 ≡ true → HoldsOpen v

pub free : (v : View) → IsCompared v → Settled v → Free v
free v c s = record { compared = (c.heard, c.owns, c.holds); outside = s.outside; clear = s.clear; paid = s.paid; stored = s.stored; gate = s.gate }

-- an entry frees objects only where it opens or ends a cycle, and sets a cell only where it frees none
pub frees_held : (v : View) (gate : ℕ) (o : Op) (freed : List MNum) → v.holds ≡ gate → IsHeldFor gate (stage (known v 0)) → MayDo v (deed o) → (m : ℕ) → has (freed_told o freed) m ≡ true → 0 < gate
frees_held v gate (op.Snap k) freed is held may m h = let next = may.0 in let holds = may.1 in omega arith
frees_held v gate (op.Resolve k) freed is held may m h = ⊎_elim
    (λ (z : gate ≡ 0). absurd (let q = held.0 z in let e = q.1 in let opened = may in omega arith))
    (λ n. omega (arith, n)) (cases_eq gate 0)
frees_held v gate _ freed is held may m h = absurd (true≢false (sym h))

no_mark : (p : ℕ × ℕ) → None ≡ Some p → ⊥
no_mark p e = true≢false (ap (λ o. elim o [ None ↦ true | Some x ↦ false ]) e)

pub sets_frees_none : (o : Op) (t : Thread) (aim : Option MNum) (freed : List MNum) (c m : ℕ) → mark o (target_told t o aim) ≡ Some (c, m) → freed_told o freed ≡ []
sets_frees_none (op.Snap k) t aim freed c m e = absurd (no_mark (c, m) e)
sets_frees_none (op.Resolve k) t aim freed c m e = absurd (no_mark (c, m) e)
sets_frees_none _ t aim freed c m e = refl

-- an entry of a peer's or of a reader's list sets no cell and frees nothing
pub others_mark : (r : ℕ) (t : Thread) (o : Op) (aim : Option MNum) → (r ≡ 1 → is_peer_event t o ≡ true) → (2 ≤ r → is_read o ≡ true) → r < 10 → (r ≡ 0 → ⊥) → mark o (target_told t o aim) ≡ None
others_mark r (M n) (op.Line (act.Weak c v)) aim peer reader small other = absurd (⊎_elim (λ e. true≢false (sym (peer e))) (λ n. true≢false (sym (reader (omega (arith, n, other))))) (cases_eq r 1))
others_mark r (P n) (op.Line (act.Weak c v)) aim peer reader small other = refl
others_mark r C (op.Line (act.Weak c v)) aim peer reader small other = refl
others_mark r t _ aim peer reader small other = refl

pub others_free : (r : ℕ) (t : Thread) (o : Op) (freed : List MNum) → (r ≡ 1 → is_peer_event t o ≡ true) → (2 ≤ r → is_read o ≡ true) → (r ≡ 0 → ⊥) → freed_told o freed ≡ []
others_free r t (op.Snap k) freed peer reader other = absurd (⊎_elim (λ e. true≢false (sym (peer e))) (λ n. true≢false (sym (reader (omega (arith, n, other))))) (cases_eq r 1))
others_free r t (op.Resolve k) freed peer reader other = absurd (⊎_elim (λ e. true≢false (sym (peer e))) (λ n. true≢false (sym (reader (omega (arith, n, other))))) (cases_eq r 1))
others_free r t _ freed peer reader other = refl

-- what an entry does to its caller's pin: only a read of a reader's list fills it, only a managed one empties it, and a
-- pin is a managed thread's
pub record MayPin (v : View) (r : ℕ) (place : ℕ) (d : PinDeed) : Type 0 where
  pub fills : (w : ℕ) → d ≡ fills w → (0 < place) × (place < 9) × (r ≡ 1 + place) × (v.inside ≡ 2 ^ place) × (pin (known v (place + 10)) ≡ 0)
  pub empties : d ≡ empties → (0 < place) × (place < 9) × (r ≡ 0)

abbrev is_fill : PinDeed → Bool
is_fill (fills w) = true
is_fill empties = false
is_fill stays = false

abbrev is_empty : PinDeed → Bool
is_empty (fills w) = false
is_empty empties = true
is_empty stays = false

-- whether a reply says that the pin is filled
abbrev says_pinned : Reply → Bool
says_pinned (says.Pinned m) = true
says_pinned _ = false

record FillsByRead (t : Thread) (o : Op) (reply : Reply) : Type 0 where
  number : ℕ
  thread : t ≡ M number
  read : is_read o ≡ true
  side : is_peer_event t o ≡ false
  unpinned : (x : ℕ) → reply ≡ says.Pinned record { 0 = x } → ⊥

fills_read : (t : Thread) (o : Op) (reply : Reply) (w : ℕ) → pin_deed t o reply ≡ fills w → FillsByRead t o reply
fills_read (M n) (op.Line (act.Read c)) (says.M m) w e = record { number = n; thread = refl; read = refl; side = refl; unpinned = λ x f. true≢false (sym (ap says_pinned f)) }
fills_read (M n) (op.Line (act.Await c)) (says.M m) w e = record { number = n; thread = refl; read = refl; side = refl; unpinned = λ x f. true≢false (sym (ap says_pinned f)) }
fills_read (M n) (op.Line (act.Take v)) reply w e = absurd (true≢false (sym (ap is_fill e)))
fills_read _ _ _ w e = absurd (true≢false (sym (ap is_fill e)))

record EmptiesByTake (t : Thread) (o : Op) : Type 0 where
  number : ℕ
  thread : t ≡ M number
  read : is_read o ≡ false
  side : is_peer_event t o ≡ false

empties_take : (t : Thread) (o : Op) (reply : Reply) → pin_deed t o reply ≡ empties → EmptiesByTake t o
empties_take (M n) (op.Line (act.Read c)) (says.M m) e = absurd (true≢false (sym (ap is_empty e)))
empties_take (M n) (op.Line (act.Await c)) (says.M m) e = absurd (true≢false (sym (ap is_empty e)))
empties_take (M n) (op.Line (act.Take v)) reply e = record { number = n; thread = refl; read = refl; side = refl }
empties_take _ _ _ e = absurd (true≢false (sym (ap is_empty e)))

pub owing_fills : (p : ℕ) (d : PinDeed) (w : ℕ) → owing p d ≡ fills w → d ≡ fills w
owing_fills p (fills x) w e = e
owing_fills p empties w e = absurd (either_way (p == 0) e)
  where
    either_way : (b : Bool) → (if b then stays else empties) ≡ fills w → ⊥
    either_way true e = true≢false (sym (ap is_fill e))
    either_way false e = true≢false (sym (ap is_fill e))
owing_fills p stays w e = absurd (true≢false (sym (ap is_fill e)))

owing_empties : (p : ℕ) (d : PinDeed) → owing p d ≡ empties → d ≡ empties
owing_empties p (fills x) e = absurd (true≢false (sym (ap is_empty e)))
owing_empties p empties e = refl
owing_empties p stays e = absurd (true≢false (sym (ap is_empty e)))

pub may_pin : (v : View) (r : ℕ) (m : Made) (aim : Option MNum) → IsThread m.caller → IsInRole r m → MayMake v r m aim → MayPin v r (caller_place m.caller) (pin_owed v m)
may_pin v r m aim thread stands may = record {
  fills = λ w e. let d = fills_read m.caller m.op m.reply w (owing_fills (pin (known v (caller_line m.caller))) (pin_deed m.caller m.op m.reply) w e) in
      let not_managed : r ≡ 0 → ⊥ = λ z. both_ways (is_read m.op) (stands.managed z).0 d.read in
      let not_peer : r ≡ 1 → ⊥ = λ z. both_ways (is_peer_event m.caller m.op) d.side (stands.peer z).1 in
      let reader : 2 ≤ r = omega (arith, not_managed, not_peer) in
      let place : caller_place m.caller ≡ r - 1 = ap caller_place (stands.reader reader).1 in
      let small = stands.one in (
        omega arith,
        omega arith,
        omega arith,
        may.inside reader w e ∙ ap (λ k. 2 ^ k) (sym place),
        (may.pinned reader).1 d.unpinned,
      );
  empties = λ e. let d = empties_take m.caller m.op m.reply (owing_empties (pin (known v (caller_line m.caller))) (pin_deed m.caller m.op m.reply) e) in
      let not_peer : r ≡ 1 → ⊥ = λ z. both_ways (is_peer_event m.caller m.op) d.side (stands.peer z).1 in
      let not_reader : 2 ≤ r → ⊥ = λ z. both_ways (is_read m.op) d.read (stands.reader z).0 in
      let place : caller_place m.caller ≡ d.number = ap caller_place d.thread in
      let range = subst IsThread d.thread thread in let low = range.0 in let high = range.1 in (omega arith, omega arith, managed r not_peer not_reader);
}
  where
    managed : (r : ℕ) → (r ≡ 1 → ⊥) → (2 ≤ r → ⊥) → r ≡ 0
    managed zero a b = refl
    managed (suc zero) a b = absurd (a refl)
    managed (suc (suc r)) a b = absurd (b (omega arith))

-- a peer event leaves every pin as it is
pub peer_stays : (t : Thread) (o : Op) (y : Reply) → is_peer_event t o ≡ true → pin_deed t o y ≡ stays
peer_stays (M n) (op.Line a) y e = absurd (true≢false (sym e))
peer_stays (M n) _ y e = refl
peer_stays (P n) o y e = refl
peer_stays C o y e = refl
