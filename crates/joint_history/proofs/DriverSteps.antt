-- An entry of the driver under the managed lock: where the driver stands in what is known together is where its own
-- seat has it, since its line is whole there and the dead part of its cycle is frozen; and after the entry it stands
-- where the definition puts it.
use Rattle.std.proofs.Common.{◌≡◌, ℕ, ◌<◌, ◌≤◌, ◌^◌, false, List, ◌∷◌, map, sym, ap, ◌∙◌, subst, arith}
use mathlib.Core.List.{IsPrefix}
use base.Growing.{prefix_refl}
use Rattle.joint_machine.specs.declared.names.Thread.{Thread}
use Rattle.joint_machine.specs.declared.names.Thread.TheVariants.{C}
use Rattle.joint_machine.specs.declared.events.Entry.{Entry}
use Rattle.joint_machine.specs.Control.{Stand, DriverAllows, control_after, last_line, stand_after}
use Rattle.joint_machine.specs.HistoryLines.{caller_line}
use Rattle.joint_machine.specs.Lines.{is_read}
use Rattle.joint_machine.specs.Linked.{Linkage}
use Rattle.joint_machine.specs.Managed.{Managed}
use Rattle.joint_machine.specs.ManagedReplay.{ManagedReplay}
use Rattle.joint_machine.specs.Peers.{Issued}
use Rattle.joint_machine.specs.Sides.{Side, SideRules, managed_rules}
use Rattle.joint_machine.specs.Told.{Told, Noted}
use Rattle.joint_machine.specs.PinsTold.{bare_told, pins_told}
use Rattle.known_laws.specs.Drawn.{of_drawn}
use Rattle.known_laws.specs.Known.{Comes, PinsStand, SideMayCome}
use Rattle.known_laws.specs.PastEntries.{TellsPlainly}
use Rattle.known_laws.specs.Pasts.{HasSameDeadPart, end_of, line}
use Rattle.known_laws.proofs.Growing.{dead_part_is_frozen, lines_give_parts}
use Rattle.known_laws.proofs.KnownPasts.{past_invariant_holds}
use Rattle.order_table.specs.declared.views.View.{View}
use Rattle.order_table.specs.Facts.{line_entries}
use Rattle.order_table.specs.Tells.{BeginsOneHistory}
use Rattle.order_table.specs.Views.{OrderId, Shown, known, Owns}
use Rattle.joint_history.specs.Callers.{HoldsPass}
use Rattle.joint_history.specs.Driven.{DriverMakes, DriverMakesNone, DriverStands, IsDriverAt}
use Rattle.joint_history.specs.Knowing.{note_of}
use Rattle.view_laws.specs.Knowing.{IsDrawnView, drawn_lines, of_order}
use Rattle.view_laws.proofs.DrawnViews.{drawn_begins}
use Rattle.view_laws.proofs.KnownViews.{whole_kept, whole_numbered}
use Rattle.joint_history.specs.Locked.{Drew, ManagedKnows, SideKnows}
use Rattle.seat_calls.specs.Passing.{Lends, Returns}
use Rattle.joint_history.proofs.DeadParts.{dead_part_on}
use Rattle.joint_history.proofs.KnownCallers.{own_line}
use Rattle.joint_history.proofs.KnownViews.{same_view}
use Rattle.joint_history.proofs.LockedSteps.{did_by, lent_joined, own_told, last_told, knows_still, managed_side, IsSide, MayNow}
use Rattle.joint_history.proofs.Standing.{last_of_own}

-- it stands so in whatever more is known of one history, as long as its own line is the same
pub driver_in : (v w : View) (a : IsDrawnView v) (j : IsDrawnView w) → BeginsOneHistory w → ((i : ℕ) → IsPrefix (known v i) (known w i))
    → line (caller_line C) j.known.past ≡ line (caller_line C) a.known.past → known w (caller_line C) ≡ known v (caller_line C) → (index : ℕ) (stand : Stand) (seen : Managed)
    → IsDriverAt a.known.past index stand seen → IsDriverAt j.known.past index stand seen
driver_in v w a j o more same whole index stand seen s =
    record {
      last = last_told C j.known.past a.known.past index same s.last;
      come = (lines_give_parts j.known.past a.known.past).stand same ∙ s.come;
      dead = dead_part_on seen (end_of a.known.past).managed.managed (end_of j.known.past).managed.managed s.dead
          (dead_part_is_frozen (whole_kept o.whole) (λ i. of_drawn (drawn_lines v i)) (λ i. of_drawn (drawn_lines w i)) a.known j.known (whole_numbered 0 o.whole o.numbers)
          (drawn_begins w o v more) (drawn_begins w o w (λ i. prefix_refl (known w i))) (sym (ap (λ ks. of_drawn (map of_order ks)) whole)));
    }

-- its own line is whole in what is known together under a lock
pub driver_joined : (locked mine lent mine1 : View) (l : Lends C locked mine lent mine1) (a : IsDrawnView locked)
    → HoldsPass C mine → (index : ℕ) (stand : Stand) (seen : Managed) (s : DriverStands mine index stand seen)
    → IsDriverAt (lent_joined C locked mine lent mine1 l a s.known).joined.known.past index stand seen
driver_joined locked mine lent mine1 l a pass index stand seen s =
    driver_in mine lent s.known (lent_joined C locked mine lent mine1 l a s.known).joined l.one_history l.heard
    (own_told C locked mine lent mine1 l a s.known pass) (l.own (caller_line C) (own_line C) (pass (caller_line C) (own_line C))) index stand seen s.stands

-- where the driver stands after its entry
pub stand_of_own : (h : List Noted) (x : Noted) → x.entry.made.caller ≡ C
    → (end_of (x ∷ h)).control.stand ≡ stand_after (end_of h).control.stand x.entry.number x.entry.made.op x.entry.made.reply (bare_told x.told)
stand_of_own h x e = ap (λ (u : Thread). (control_after (end_of h).control u x.entry.number x.entry.made.index x.entry.made.op x.entry.made.reply (bare_told x.told)).stand) e

-- the driver made an entry under the managed lock: it stands where the definition puts it, by what was told if that was
-- told plainly, and the managed objects that it knows are the side's
pub record Driven (mine mine2 : View) (old new : Side ManagedReplay) (index : ℕ) (stand : Stand) (seen : Managed) (e : Entry) (told : Told) : Type 0 where
  pub makes : DriverMakes mine mine2 stand seen e told
  pub before : makes.state.managed ≡ old.state
  pub known : IsDrawnView mine2
  pub last : last_line (end_of known.known.past).control C ≤ index
  pub told_now : Told
  pub plain : TellsPlainly stand e.made.op (bare_told told) → told_now ≡ told
  pub come : (end_of known.known.past).control.stand ≡ stand_after stand e.number e.made.op e.made.reply (bare_told told_now)
  pub after : (end_of known.known.past).managed ≡ new.state

-- under the managed lock
pub record DrivenUnder (mine locked2 mine2 : View) (old new : Side ManagedReplay) (index : ℕ) (stand : Stand) (seen : Managed) (e : Entry) (told : Told) : Type 0 where
  pub knows : ManagedKnows locked2 new
  pub driven : Driven mine mine2 old new index stand seen e told

-- a side's entry is no read
pub side_comes : (s : Linkage) (n : Noted) → is_read n.entry.made.op ≡ false → Comes (is_read n.entry.made.op) s n → SideMayCome s n
side_comes s n own c = subst (λ r. Comes r s n) own c

-- after a draw, with pins that stand
pub driven : (locked mine mine1 locked2 mine2 : View) (order : OrderId) (seat seat' : Shown) (old new : Side ManagedReplay) (index : ℕ) (stand : Stand) (seen : Managed) (e : Entry) (told : Told)
    → HoldsPass C mine → Owns locked 0 → e.made.caller ≡ C → e.made.index ≡ index → index < 2 ^ 32
    → ManagedKnows locked old → DriverStands mine index stand seen → ((issued : List Issued) → DriverAllows stand old.state.managed issued e.made.op e.made.reply e.made.cites (bare_told told))
    → PinsStand old.state.managed (pins_told told) → Lends C locked mine seat.view mine1
    → Drew managed_rules 0 order seat seat' old new e told → Returns C seat'.view mine1 locked2 mine2 → DrivenUnder mine locked2 mine2 old new index stand seen e told
driven locked mine mine1 locked2 mine2 order seat seat' old new index stand seen e told pass owns caller at_index short ks s allows pins l d b =
    let j = lent_joined C locked mine seat.view mine1 l ks.known s.known in
    let at = driver_joined locked mine seat.view mine1 l ks.known pass index stand seen s in
    let past = j.joined.known.past in
    let issued = (end_of past).peer.peers.issued in
    let state : (end_of past).managed ≡ old.state = j.managed_first (l.whole 0 owns) ∙ ks.state in
    let may : MayNow C (end_of past) e.made told = record {
      last = subst (λ (i : ℕ). last_line (end_of past).control C ≤ i) (sym at_index) at.last;
      allows = subst (λ (z : Stand). DriverAllows z (end_of past).managed.managed issued e.made.op e.made.reply e.made.cites (bare_told told)) (sym at.come)
          (subst (λ (r : ManagedReplay). DriverAllows stand r.managed issued e.made.op e.made.reply e.made.cites (bare_told told)) (sym state) (allows issued));
    } in
    let w = did_by managed_side C locked mine mine1 locked2 mine2 order seat seat' old new e told s.known tt pass owns caller (subst (λ (i : ℕ). i < 2 ^ 32) (sym at_index) short) ks l may pins d b in
    let k = d.kept in
    let grown = w.entered.grown in
    let own : is_read k.entry.made.op ≡ false = ap (λ (z : Entry). is_read z.made.op) d.entry ∙ d.goes.lawful.1.own in
    subst (λ (z : Entry). DrivenUnder mine locked2 mine2 old new index stand seen z told) d.entry record {
      knows = w.knows;
      driven = record {
        makes = record {
          own = w.makes.own;
          more = w.makes.more;
          above = w.makes.above;
          state = end_of past;
          comes = side_comes (end_of past) (note_of k.entry told) own w.entered.comes;
          kept = past_invariant_holds past j.joined.known.lawful;
          stood = at.come;
          dead = at.dead;
        };
        before = state;
        known = same_view seat'.view mine2 grown.known b.same;
        last = subst (λ (h : List Noted). last_line (end_of h).control C ≤ index) (sym grown.past_is)
            (let l = last_of_own past (note_of k.entry grown.told) C (ap (λ (z : Entry). z.made.caller) d.entry ∙ caller) tt in
            let f : k.entry.made.index ≡ index = ap (λ (z : Entry). z.made.index) d.entry ∙ at_index in omega (arith, l, f));
        told_now = grown.told;
        plain = λ p. grown.alike (subst (λ (z : Stand). TellsPlainly z k.entry.made.op (bare_told told)) (sym at.come) p);
        come = ap (λ (h : List Noted). (end_of h).control.stand) grown.past_is
            ∙ (stand_of_own past (note_of k.entry grown.told) (ap (λ (z : Entry). z.made.caller) d.entry ∙ caller)
            ∙ ap (λ (z : Stand). stand_after z k.entry.number k.entry.made.op k.entry.made.reply (bare_told grown.told)) at.come);
        after = w.after;
      };
    }

-- what a side keeps, and where the driver stands, where nothing was made
pub record NotDriven {S : Type 0} (r : ℕ) (part : Linkage → S) (mine locked2 mine2 : View) (side : Side S) : Type 0 where
  pub knows : SideKnows r part locked2 side
  pub makes : DriverMakesNone mine mine2

pub driven_none : {S : Type 0} {rules : SideRules S} {r : ℕ} {part : Linkage → S} {asks : S → Told → Type 0} (is_side : IsSide rules r part asks)
    (locked mine lent mine1 locked2 mine2 : View) (side : Side S) → HoldsPass C mine → Owns locked r
    → SideKnows r part locked side → IsDrawnView mine → Lends C locked mine lent mine1 → Returns C lent mine1 locked2 mine2 → NotDriven r part mine locked2 mine2 side
driven_none is_side locked mine lent mine1 locked2 mine2 side pass owns ks m l b = record {
  knows = knows_still is_side C locked mine lent mine1 locked2 mine2 side owns ks m l b;
  makes = record {
    own = ap line_entries (b.same (caller_line C) ∙ l.own (caller_line C) (own_line C) (pass (caller_line C) (own_line C)));
    more = λ i. subst (IsPrefix (known mine i)) (sym (b.same i)) (l.heard i);
    stands = λ index stand seen s. (let j = (lent_joined C locked mine lent mine1 l ks.known s.known).joined in record {
      known = same_view lent mine2 j b.same;
      stands = driver_joined locked mine lent mine1 l ks.known pass index stand seen s;
    });
  };
}

-- the objects after an entry that leaves the dead part as it was
pub driver_still : (mine mine2 : View) (old new : Side ManagedReplay) (index : ℕ) (stand next : Stand) (seen : Managed) (e : Entry)
    (told : Told) (d : Driven mine mine2 old new index stand seen e told) → HasSameDeadPart old.state.managed new.state.managed
    → stand_after stand e.number e.made.op e.made.reply (bare_told d.told_now) ≡ next → DriverStands mine2 index next seen
driver_still mine mine2 old new index stand next seen e told d same e2 = record {
  known = d.known;
  stands = record {
    last = d.last;
    come = d.come ∙ e2;
    dead = subst (λ (r : ManagedReplay). HasSameDeadPart seen r.managed) (sym d.after)
        (dead_part_on seen old.state.managed new.state.managed (subst (λ (r : ManagedReplay). HasSameDeadPart seen r.managed) d.before d.makes.dead) same);
  };
}
