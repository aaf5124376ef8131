-- Between a cycle's snapshot and its resolution the driver begins exactly one marking. Its stand is followed: up to the
-- weakened phase no begin of its own came since the snapshot; the begin leads to the marked phase, which lies behind
-- it, and none comes from there on; and once the cycle is over, each later one has another number, so its resolution
-- isn't this cycle's.
use Rattle.std.proofs.Common.{◌≡◌, ℕ, zero, suc, ◌+◌, ◌-◌, ◌<◌, ◌≤◌, ◌⊎◌, inl, inr, List, length, Option, Some, take, refl, sym, ap, subst, ◌∙◌, arith}
use Rattle.std.specs.Prelude.{filter, slice_get, option_map}
use Rattle.std.proofs.lemmas.Bool.{cases_lt}
use Rattle.std.proofs.lemmas.Option.{same_Some, slice_get-map}
use Rattle.joint_machine.specs.declared.names.Thread.{Thread}
use Rattle.joint_machine.specs.declared.names.Thread.TheVariants.{M, P, C}
use Rattle.joint_machine.specs.declared.events.Op.{Op}
use Rattle.joint_machine.specs.declared.events.Op.TheVariants as op
use Rattle.joint_machine.specs.declared.events.Reply.{Reply}
use Rattle.joint_machine.specs.declared.events.Reply.TheVariants as says
use Rattle.joint_machine.specs.Control.{Stand, idle, snapped, contracted, weakening, marked, restoring, restored, CallerAllows, DriverAllows, control_after, stand_after}
use Rattle.joint_machine.specs.Lines.{IsEvent, is_peer_event}
use Rattle.joint_machine.specs.Linked.{Linkage, MayCome, SideLawful, ManagedLawful, opening_linkage, linkage_after}
use Rattle.joint_machine.specs.Replaying.{AllMayCome, machine_entries}
use Rattle.joint_machine.specs.Managed.{Managed, OpenCycle}
use Rattle.joint_machine.specs.Peers.{Issued}
use Rattle.joint_machine.specs.Readers.{HasEventAt}
use Rattle.joint_machine.specs.Run.{Moment, IsRun, is_joint}
use Rattle.joint_machine.specs.Told.{Told, contraction_of, snap_of, resolution_of, Noted}
use Rattle.joint_laws.specs.LinkedInvariants.{DriverInvariant}
use Rattle.joint_laws.specs.OwnMarkingLaws.{DriverBegins, HasOneBegin, OwnMarkingIsOne, RunMarksOnce}
use Rattle.joint_laws.specs.States.{state_at}
use Rattle.joint_laws.proofs.Everywhere.{everywhere, from_state}
use Rattle.joint_laws.proofs.LinkedEntries.{Of, BothInvariants-entry, BothInvariants-opening}
use Rattle.joint_laws.proofs.ManagedEntries.{ManagedStep-entry}
use Rattle.joint_laws.proofs.ManagedSteps.{ManagedStep, going_on, snapping, resolving, abandoning}
use Rattle.joint_laws.proofs.Places.{comes-at, after-at, earlier-at, Origin, origin, count-mono}

-- the driver stands in cycle k, before its own begin or behind it; or in none, or in another one
abbrev IsBefore : ℕ → Stand → Type 0
IsBefore k (snapped o) = o.cycle ≡ k
IsBefore k (contracted o comps heavy xrefs) = o.cycle ≡ k
IsBefore k (weakening o count weakened swept) = o.cycle ≡ k
IsBefore k _ = ⊥

abbrev IsBehind : ℕ → Stand → Type 0
IsBehind k (marked o) = o.cycle ≡ k
IsBehind k (restoring o answers) = o.cycle ≡ k
IsBehind k (restored o answers clear) = o.cycle ≡ k
IsBehind k _ = ⊥

abbrev IsElsewhere : ℕ → Stand → Type 0
IsElsewhere k idle = Unit {0}
IsElsewhere k (snapped o) = o.cycle ≡ k → ⊥
IsElsewhere k (contracted o comps heavy xrefs) = o.cycle ≡ k → ⊥
IsElsewhere k (weakening o count weakened swept) = o.cycle ≡ k → ⊥
IsElsewhere k (marked o) = o.cycle ≡ k → ⊥
IsElsewhere k (restoring o answers) = o.cycle ≡ k → ⊥
IsElsewhere k (restored o answers clear) = o.cycle ≡ k → ⊥

-- the driver's own events
module _ (k n : ℕ) (m : Managed) (i : List Issued) (reply : Reply) (cites : Option ℕ) where
  abbrev Allows : Stand → Op → Told → Type 0
  Allows st o told = DriverAllows st m i o reply cites told

  abbrev next : Stand → Op → Told → Stand
  next st o told = stand_after st n o reply told

  before-on : (st : Stand) (o : Op) (told : Told) → (o ≡ op.Begin → ⊥) → Allows st o told → IsBefore k st → IsBefore k (next st o told) ⊎ IsElsewhere k (next st o told)
  before-on idle o told nb a e = absurd e
  before-on (marked o) x told nb a e = absurd e
  before-on (restoring o answers) x told nb a e = absurd e
  before-on (restored o answers clear) x told nb a e = absurd e
  before-on (snapped o) (op.Snap c) told nb a e = absurd a
  before-on (snapped o) (op.Contract c) (contraction_of comps heavy xrefs) nb a e = inl e
  before-on (snapped o) (op.Contract c) told nb a e = inl e
  before-on (snapped o) (op.Resolve c) told nb a e = inr tt
  before-on (snapped o) (op.Abandon c) told nb a e = inr tt
  before-on (snapped o) x told nb a e = inl e
  before-on (contracted o comps heavy xrefs) (op.Snap c) told nb a e = absurd a
  before-on (contracted o comps heavy xrefs) (op.Mirror c) told nb a e = inl e
  before-on (contracted o comps heavy xrefs) (op.Resolve c) told nb a e = inr tt
  before-on (contracted o comps heavy xrefs) (op.Abandon c) told nb a e = inr tt
  before-on (contracted o comps heavy xrefs) x told nb a e = inl e
  before-on (weakening o count seen sw) (op.Snap c) told nb a e = absurd a
  before-on (weakening o count seen sw) (op.Weaken h) told nb a e = inl e
  before-on (weakening o count seen sw) op.Sweep told nb a e = inl e
  before-on (weakening o count seen sw) op.Begin told nb a e = absurd (nb refl)
  before-on (weakening o count seen sw) (op.Refused w) told nb a e = inl e
  before-on (weakening o count seen sw) (op.Resolve c) told nb a e = inr tt
  before-on (weakening o count seen sw) (op.Abandon c) told nb a e = inr tt
  before-on (weakening o count seen sw) x told nb a e = inl e

  -- the begin
  before-begin : (st : Stand) (told : Told) → Allows st op.Begin told → IsBefore k st → IsBehind k (next st op.Begin told)
  before-begin (weakening o count seen sw) told a e = e
  before-begin (snapped o) told a e = absurd a
  before-begin (contracted o comps heavy xrefs) told a e = absurd a
  before-begin idle told a e = absurd e
  before-begin (marked o) told a e = absurd e
  before-begin (restoring o answers) told a e = absurd e
  before-begin (restored o answers clear) told a e = absurd e

  -- its reply gives a number
  begin-number : (st : Stand) (r : Reply) (told : Told) → DriverAllows st m i op.Begin r cites told → (j : ℕ) × (r ≡ says.Mark record { 0 = j })
  begin-number (weakening o count seen sw) (says.Mark j) told a = (j.0, refl)
  begin-number _ r told a = absurd a

  behind-on : (st : Stand) (o : Op) (told : Told) → Allows st o told → IsBehind k st → (o ≡ op.Begin → ⊥) × (IsBehind k (next st o told) ⊎ IsElsewhere k (next st o told))
  behind-on idle o told a e = absurd e
  behind-on (snapped o) x told a e = absurd e
  behind-on (contracted o comps heavy xrefs) x told a e = absurd e
  behind-on (weakening o count seen sw) x told a e = absurd e
  behind-on (marked o) (op.Snap c) told a e = absurd a
  behind-on (marked o) op.Begin told a e = absurd a
  behind-on (marked o) op.Sweep told a e = (λ q. cc, inl e)
  behind-on (marked o) (op.Resolve c) told a e = absurd a
  behind-on (marked o) (op.Abandon c) told a e = absurd a
  behind-on (marked o) x told a e = (λ q. cc, inl e)
  behind-on (restoring o answers) (op.Snap c) told a e = absurd a
  behind-on (restoring o answers) op.Begin told a e = absurd a
  behind-on (restoring o answers) (op.Restore h) told a e = (λ q. cc, inl e)
  behind-on (restoring o answers) (op.Clear c) told a e = (λ q. cc, inl e)
  behind-on (restoring o answers) (op.Resolve c) told a e = absurd a
  behind-on (restoring o answers) (op.Abandon c) told a e = absurd a
  behind-on (restoring o answers) x told a e = (λ q. cc, inl e)
  behind-on (restored o answers clear) (op.Snap c) told a e = absurd a
  behind-on (restored o answers clear) op.Begin told a e = absurd a
  behind-on (restored o answers clear) (op.Resolve c) told a e = (λ q. cc, inr tt)
  behind-on (restored o answers clear) (op.Abandon c) told a e = absurd a
  behind-on (restored o answers clear) x told a e = (λ q. cc, inl e)

  elsewhere-on : (st : Stand) (o : Op) (told : Told) → ((c : ℕ) → o ≡ op.Snap record { 0 = c } → c ≡ k → ⊥) → Allows st o told → IsElsewhere k st → IsElsewhere k (next st o told)
  elsewhere-on st (op.Snap c) told new a e = new c.0 refl
  elsewhere-on st (op.Resolve c) told new a e = tt
  elsewhere-on st (op.Abandon c) told new a e = tt
  elsewhere-on idle x told new a e = tt
  elsewhere-on (snapped o) (op.Contract c) (contraction_of comps heavy xrefs) new a e = e
  elsewhere-on (snapped o) (op.Contract c) told new a e = e
  elsewhere-on (snapped o) x told new a e = e
  elsewhere-on (contracted o comps heavy xrefs) (op.Mirror c) told new a e = e
  elsewhere-on (contracted o comps heavy xrefs) x told new a e = e
  elsewhere-on (weakening o count seen sw) (op.Weaken h) told new a e = e
  elsewhere-on (weakening o count seen sw) op.Sweep told new a e = e
  elsewhere-on (weakening o count seen sw) op.Begin told new a e = e
  elsewhere-on (weakening o count seen sw) (op.Refused w) told new a e = e
  elsewhere-on (weakening o count seen sw) x told new a e = e
  elsewhere-on (marked o) op.Sweep told new a e = e
  elsewhere-on (marked o) x told new a e = e
  elsewhere-on (restoring o answers) (op.Restore h) told new a e = e
  elsewhere-on (restoring o answers) (op.Clear c) told new a e = e
  elsewhere-on (restoring o answers) x told new a e = e
  elsewhere-on (restored o answers clear) x told new a e = e

abbrev stand_of : Linkage → Stand
stand_of s = s.control.stand

abbrev pub cycles_of : Linkage → ℕ
cycles_of s = s.managed.managed.cycles

-- an entry of another thread leaves the stand
stand-stays : (s : Linkage) (n : Noted) → (n.entry.made.caller ≡ C → ⊥) → stand_of (linkage_after s n) ≡ stand_of s
stand-stays s n o = by n.entry.made.caller o
  where
    by : (t : Thread) → (t ≡ C → ⊥) → (control_after s.control t n.entry.number n.entry.made.index n.entry.made.op n.entry.made.reply n.told).stand ≡ s.control.stand
    by (M u) f = refl
    by (P u) f = refl
    by C f = absurd (f refl)

driver-or : (t : Thread) → (t ≡ C) ⊎ (t ≡ C → ⊥)
driver-or C = inl refl
driver-or (M u) = inr (λ e. cc)
driver-or (P u) = inr (λ e. cc)

begin-or : (o : Op) → (o ≡ op.Begin) ⊎ (o ≡ op.Begin → ⊥)
begin-or op.Begin = inl refl
begin-or _ = inr (λ e. cc)

-- the count of cycles never falls
cycles-grow : (s : Linkage) (n : Noted) → MayCome s n → Of s → cycles_of s ≤ cycles_of (linkage_after s n)
cycles-grow s n may k = by (ManagedStep-entry s n may k.managed)
  where
    by : ManagedStep s.managed.managed (linkage_after s n).managed.managed → cycles_of s ≤ cycles_of (linkage_after s n)
    by (going_on g) = (let e = g.cycles in omega arith)
    by (snapping p) = (let e = ap (λ (z : Managed). z.cycles) p.is in omega arith)
    by (resolving p) = (let e = ap (λ (z : Managed). z.cycles) p.is in omega arith)
    by (abandoning p) = (let e = ap (λ (z : Managed). z.cycles) p.is in omega arith)

-- the driver's cycle is the last one
latest : (s : Linkage) → Of s → (c : OpenCycle) (k : ℕ) → s.managed.managed.cycle ≡ Some c → c.number ≡ k → cycles_of s ≡ k
latest s w c k e f = sym (w.managed.managed.dead c e).latest ∙ f

before-latest : (s : Linkage) (k : ℕ) → Of s → (st : Stand) → DriverInvariant s.managed s.peer st → IsBefore k st → cycles_of s ≡ k
before-latest s k w (snapped o) d e = latest s w d.cycle k d.opened.cycle (d.opened.number ∙ e)
before-latest s k w (contracted o comps heavy xrefs) d e = latest s w d.before.cycle k d.before.opened.cycle (d.before.opened.number ∙ e)
before-latest s k w (weakening o count seen sw) d e = latest s w d.cycle k d.opened.cycle (d.opened.number ∙ e)
before-latest s k w idle d e = absurd e
before-latest s k w (marked o) d e = absurd e
before-latest s k w (restoring o answers) d e = absurd e
before-latest s k w (restored o answers clear) d e = absurd e

behind-latest : (s : Linkage) (k : ℕ) → Of s → (st : Stand) → DriverInvariant s.managed s.peer st → IsBehind k st → cycles_of s ≡ k
behind-latest s k w (marked o) d e = latest s w d.cycle k d.opened.cycle (d.opened.number ∙ e)
behind-latest s k w (restoring o answers) d e = latest s w d.cycle k d.opened.cycle (d.opened.number ∙ e)
behind-latest s k w (restored o answers clear) d e = latest s w d.cycle k d.opened.cycle (d.opened.number ∙ e)
behind-latest s k w idle d e = absurd e
behind-latest s k w (snapped o) d e = absurd e
behind-latest s k w (contracted o comps heavy xrefs) d e = absurd e
behind-latest s k w (weakening o count seen sw) d e = absurd e

-- a snapshot takes the next number
pub snap-number : (s : Linkage) (n : Noted) (c : ℕ) → MayCome s n → n.entry.made.op ≡ op.Snap record { 0 = c } → c ≡ cycles_of s + 1
snap-number s n c may e = by n.told (subst (λ o. SideLawful (is_peer_event n.entry.made.caller o) s (record n.entry.made { op = o }) n.told) e may.lawful)
  where
    by : (told : Told) → ManagedLawful s.managed (record n.entry.made { op = op.Snap record { 0 = c } }) told → c ≡ cycles_of s + 1
    by (snap_of freed candidates dead) w = w.allowed.next
    by _ w = absurd w.allowed

module _ (noted : List Noted) (may : AllMayCome opening_linkage noted) (i k : ℕ) where
  abbrev at : ℕ → Linkage
  at p = state_at noted p

  kept-at : (p : ℕ) → Of (at p)
  kept-at p = everywhere Of BothInvariants-opening BothInvariants-entry noted may p

  abbrev NoBegin : ℕ → Type 0
  NoBegin p = (b : ℕ) → i < b → b < p → DriverBegins noted b → ⊥

  -- what is known in a place after the snapshot
  data Since (p : ℕ) : Type 0 where
    before : IsBefore k (stand_of (at p)) → NoBegin p → Since p
    behind : IsBehind k (stand_of (at p)) → HasOneBegin noted i p → Since p
    over : k ≤ cycles_of (at p) → IsElsewhere k (stand_of (at p)) → Since p

  module _ (p : ℕ) (later : i < p) (n : Noted) (there : slice_get noted p ≡ Some n) where
    comes : MayCome (at p) n
    comes = comes-at noted p n may there

    abbrev s : Linkage
    s = at p

    abbrev Place : (Stand → Type 0) → Type 0
    Place Q = Q (stand_of (linkage_after s n))

    to-next : (Q : Linkage → Type 0) → Q (linkage_after s n) → Q (at (suc p))
    to-next Q q = subst Q (sym (after-at noted p n there)) q

    grown : k ≤ cycles_of s → k ≤ cycles_of (linkage_after s n)
    grown l = (let g = cycles-grow s n comes (kept-at p) in omega (arith, l, g))

    here : (b : ℕ) → b ≡ p → DriverBegins noted b → (n.entry.made.caller ≡ C) × (n.entry.made.op ≡ op.Begin)
    here b same d =
        let e : d.entry ≡ n = same_Some d.entry n (sym d.there ∙ ap (λ z. slice_get noted z) same ∙ there) in
        (ap (λ (z : Noted). z.entry.made.caller) (sym e) ∙ d.caller, ap (λ (z : Noted). z.entry.made.op) (sym e) ∙ d.event)

    -- no begin of the driver in this place
    abbrev NoneHere : Type 0
    NoneHere = n.entry.made.caller ≡ C → n.entry.made.op ≡ op.Begin → ⊥

    no-more : NoBegin p → NoneHere → NoBegin (suc p)
    no-more f out b l m d = elim (cases_lt b p) [
      | inl q ↦ f b l q d
      | inr q ↦ (let w = here b (omega (arith, m, q)) d in out w.0 w.1)
    ]

    one-more : HasOneBegin noted i p → NoneHere → HasOneBegin noted i (suc p)
    one-more w out = record {
      begin = w.begin;
      later = w.later;
      earlier = (let e = w.earlier in omega arith);
      begins = w.begins;
      marking = w.marking;
      replies = w.replies;
      alone = λ b l m d. elim (cases_lt b p) [
        | inl q ↦ w.alone b l q d
        | inr q ↦ absurd (let v = here b (omega (arith, m, q)) d in out v.0 v.1)
      ];
    }

    allows-begin : n.entry.made.caller ≡ C → n.entry.made.op ≡ op.Begin → DriverAllows (stand_of s) s.managed.managed s.peer.peers.issued op.Begin n.entry.made.reply n.entry.made.cites n.told
    allows-begin c b =
        subst (λ o. DriverAllows (stand_of s) s.managed.managed s.peer.peers.issued o n.entry.made.reply n.entry.made.cites n.told) b
        (subst (λ t. CallerAllows s.control s.managed.managed s.peer.peers.issued t n.entry.made.index n.entry.made.op n.entry.made.reply n.entry.made.cites n.told) c comes.order)

    begins-here : NoBegin p → n.entry.made.caller ≡ C → n.entry.made.op ≡ op.Begin → HasOneBegin noted i (suc p)
    begins-here f c b = let number = begin-number k n.entry.number s.managed.managed s.peer.peers.issued n.entry.made.reply n.entry.made.cites
        (stand_of s) n.entry.made.reply n.told (allows-begin c b) in record {
          begin = p;
          later = later;
          earlier = omega arith;
          begins = record { entry = n; there = there; caller = c; event = b };
          marking = number.0;
          replies = number.1;
          alone = λ x l m d. elim (cases_lt x p) [ inl q ↦ absurd (f x l q d) | inr q ↦ omega (arith, m, q) ];
        }

    -- an entry of another thread
    aside-next : (n.entry.made.caller ≡ C → ⊥) → Since p → Since (suc p)
    aside-next o (before e f) = before (to-next (λ z. IsBefore k (stand_of z)) (subst (IsBefore k) (sym (stand-stays s n o)) e)) (no-more f (λ c b. o c))
    aside-next o (behind e w) = behind (to-next (λ z. IsBehind k (stand_of z)) (subst (IsBehind k) (sym (stand-stays s n o)) e)) (one-more w (λ c b. o c))
    aside-next o (over l e) = over (to-next (λ z. k ≤ cycles_of z) (grown l)) (to-next (λ z. IsElsewhere k (stand_of z)) (subst (IsElsewhere k) (sym (stand-stays s n o)) e))

    -- an entry of the driver
    module _ (c : n.entry.made.caller ≡ C) where
      allows : DriverAllows (stand_of s) s.managed.managed s.peer.peers.issued n.entry.made.op n.entry.made.reply n.entry.made.cites n.told
      allows = subst (λ t. CallerAllows s.control s.managed.managed s.peer.peers.issued t n.entry.made.index n.entry.made.op n.entry.made.reply n.entry.made.cites n.told) c comes.order

      moved : stand_of (linkage_after s n) ≡ stand_after (stand_of s) n.entry.number n.entry.made.op n.entry.made.reply n.told
      moved = ap (λ t. (control_after s.control t n.entry.number n.entry.made.index n.entry.made.op n.entry.made.reply n.told).stand) c

      to-stand : (Q : Stand → Type 0) → Q (stand_after (stand_of s) n.entry.number n.entry.made.op n.entry.made.reply n.told) → Q (stand_of (at (suc p)))
      to-stand Q q = to-next (λ z. Q (stand_of z)) (subst Q (sym moved) q)

      own-next : Since p → Since (suc p)
      own-next (before e f) = elim (begin-or n.entry.made.op) [
        | inl b ↦ behind
            (to-stand (IsBehind k) (subst (λ o. IsBehind k (stand_after (stand_of s) n.entry.number o n.entry.made.reply n.told)) (sym b)
            (before-begin k n.entry.number s.managed.managed s.peer.peers.issued n.entry.made.reply n.entry.made.cites (stand_of s) n.told
            (subst (λ o. DriverAllows (stand_of s) s.managed.managed s.peer.peers.issued o n.entry.made.reply n.entry.made.cites n.told) b allows) e)))
            (begins-here f c b)
        | inr nb ↦ elim (before-on k n.entry.number s.managed.managed s.peer.peers.issued n.entry.made.reply n.entry.made.cites (stand_of s) n.entry.made.op n.told nb allows e) [
          | inl q ↦ before (to-stand (IsBefore k) q) (no-more f (λ x b. nb b))
          | inr q ↦ over (to-next (λ z. k ≤ cycles_of z) (grown (let l = before-latest s k (kept-at p) (stand_of s) (kept-at p).driver e in omega (arith, l)))) (to-stand (IsElsewhere k) q)
        ]
      ]
      own-next (behind e w) = (
          let r = behind-on k n.entry.number s.managed.managed s.peer.peers.issued n.entry.made.reply n.entry.made.cites (stand_of s) n.entry.made.op n.told allows e in
          elim r.1 [
            | inl q ↦ behind (to-stand (IsBehind k) q) (one-more w (λ x b. r.0 b))
            | inr q ↦ over (to-next (λ z. k ≤ cycles_of z) (grown (let l = behind-latest s k (kept-at p) (stand_of s) (kept-at p).driver e in omega (arith, l)))) (to-stand (IsElsewhere k) q)
          ])
      own-next (over l e) = over (to-next (λ z. k ≤ cycles_of z) (grown l)) (to-stand (IsElsewhere k)
          (elsewhere-on k n.entry.number s.managed.managed s.peer.peers.issued n.entry.made.reply n.entry.made.cites
          (stand_of s) n.entry.made.op n.told (λ x f g. (let r = snap-number s n x comes f in omega (arith, r, g, l))) allows e))

    next-place : Since p → Since (suc p)
    next-place w = elim (driver-or n.entry.made.caller) [ inl c ↦ own-next c w | inr o ↦ aside-next o w ]

  -- just after the snapshot
  first : (n : Noted) → slice_get noted i ≡ Some n → n.entry.made.op ≡ op.Snap record { 0 = k } → Since (suc i)
  first n there e = before
      (subst (λ z. IsBefore k (stand_of z)) (sym (after-at noted i n there)) (by n.entry.made.caller (subst (λ o. IsEvent n.entry.made.caller o) e (comes-at noted i n may there).event)))
      (λ b l m d. omega (arith, l, m))
    where
      by : (t : Thread) → IsEvent t (op.Snap record { 0 = k }) → IsBefore k (control_after (at i).control t n.entry.number n.entry.made.index n.entry.made.op n.entry.made.reply n.told).stand
      by (M u) f = absurd f
      by (P u) f = absurd f
      by C f = subst (λ o. IsBefore k (stand_after (stand_of (at i)) n.entry.number o n.entry.made.reply n.told)) (sym e) refl

  since : (more : ℕ) (n : Noted) → slice_get noted (suc i + more) ≡ Some n → Since (suc i) → Since (suc i + more)
  since zero n there w = subst Since (omega arith) w
  since (suc more) n there w =
      let l : suc i + more < suc i + suc more = omega arith in
      let before-it = earlier-at noted (suc i + more) (suc i + suc more) n l there in
      subst Since (omega arith) (next-place (suc i + more) (omega arith) before-it.0 before-it.1 (since more before-it.0 before-it.1 w))

-- at the resolution
resolves-behind : (noted : List Noted) (may : AllMayCome opening_linkage noted) (k e : ℕ) (w : HasEventAt noted e (op.Resolve record { 0 = k })) → IsBehind k (state_at noted e).control.stand
resolves-behind noted may k e w =
    let m = comes-at noted e w.element may w.there in
    by w.element.entry.made.caller (subst (λ o. IsEvent w.element.entry.made.caller o) w.is m.event)
    (subst (λ o. CallerAllows (state_at noted e).control (state_at noted e).managed.managed
    (state_at noted e).peer.peers.issued w.element.entry.made.caller w.element.entry.made.index o w.element.entry.made.reply w.element.entry.made.cites w.element.told) w.is m.order)
  where
    stands : (st : Stand) (told : Told) → DriverAllows st (state_at noted e).managed.managed (state_at noted e).peer.peers.issued
        (op.Resolve record { 0 = k }) w.element.entry.made.reply w.element.entry.made.cites told → IsBehind k st
    stands (restored o answers clear) (resolution_of alive freed) a = a.0
    stands (restored o answers clear) told a = absurd a
    stands idle told a = absurd a
    stands (snapped o) told a = absurd a
    stands (contracted o comps heavy xrefs) told a = absurd a
    stands (weakening o count seen sw) told a = absurd a
    stands (marked o) told a = absurd a
    stands (restoring o answers) told a = absurd a

    by : (t : Thread) → IsEvent t (op.Resolve record { 0 = k })
        → CallerAllows (state_at noted e).control (state_at noted e).managed.managed (state_at noted e).peer.peers.issued t w.element.entry.made.index
        (op.Resolve record { 0 = k }) w.element.entry.made.reply w.element.entry.made.cites w.element.told → IsBehind k (state_at noted e).control.stand
    by (M u) f a = absurd f
    by (P u) f a = absurd f
    by C f a = stands (state_at noted e).control.stand w.element.told a

not-elsewhere : (k : ℕ) (st : Stand) → IsBehind k st → IsElsewhere k st → ⊥
not-elsewhere k (marked o) e f = f e
not-elsewhere k (restoring o answers) e f = f e
not-elsewhere k (restored o answers clear) e f = f e
not-elsewhere k idle e f = e
not-elsewhere k (snapped o) e f = e
not-elsewhere k (contracted o comps heavy xrefs) e f = e
not-elsewhere k (weakening o count seen sw) e f = e

not-before : (k : ℕ) (st : Stand) → IsBehind k st → IsBefore k st → ⊥
not-before k (marked o) e f = f
not-before k (restoring o answers) e f = f
not-before k (restored o answers clear) e f = f
not-before k idle e f = e
not-before k (snapped o) e f = e
not-before k (contracted o comps heavy xrefs) e f = e
not-before k (weakening o count seen sw) e f = e

-- the resolution comes later: from it on the count of cycles is past the number
snap-first : (noted : List Noted) (may : AllMayCome opening_linkage noted) (i e k : ℕ) → HasEventAt noted i (op.Snap record { 0 = k }) → HasEventAt noted e (op.Resolve record { 0 = k }) → i < e
snap-first noted may i e k sn rs = elim (cases_lt i e) [ inl l ↦ l | inr l ↦ absurd (late l) ]
  where
    kept : (p : ℕ) → Of (state_at noted p)
    kept p = everywhere Of BothInvariants-opening BothInvariants-entry noted may p

    at_resolve : cycles_of (state_at noted e) ≡ k
    at_resolve = behind-latest (state_at noted e) k (kept e) (state_at noted e).control.stand (kept e).driver (resolves-behind noted may k e rs)

    at_snap : k ≡ cycles_of (state_at noted i) + 1
    at_snap = snap-number (state_at noted i) sn.element k (comes-at noted i sn.element may sn.there) sn.is

    grows : (more : ℕ) → Of (state_at noted (e + more)) × (k ≤ cycles_of (state_at noted (e + more)))
    grows more = from_state (λ s. Of s × (k ≤ cycles_of s)) (λ s n m w. (BothInvariants-entry s n m w.0, (let g = cycles-grow s n m w.0 in let h = w.1 in omega arith))) noted may e more
        (kept e, omega (arith, at_resolve))

    late : e ≤ i → ⊥
    late l =
        let same : e + (i - e) ≡ i = omega (arith, l) in
        let g = subst (λ p. k ≤ cycles_of (state_at noted p)) same (grows (i - e)).1 in
        omega (arith, g, at_snap)

pub own_marking_is_one : OwnMarkingIsOne
own_marking_is_one noted may i e k sn rs =
    let l = snap-first noted may i e k sn rs in
    let same : suc i + (e - suc i) ≡ e = omega (arith, l) in
    let there = ap (λ p. slice_get noted p) same ∙ rs.there in
    record {
      in_order = l;
      one = by (subst (Since noted may i k) same (since noted may i k (e - suc i) rs.element there (first noted may i k sn.element sn.there sn.is)));
    }
  where
    by : Since noted may i k e → HasOneBegin noted i e
    by (before b f) = absurd (not-before k (state_at noted e).control.stand (resolves-behind noted may k e rs) b)
    by (behind b w) = w
    by (over l b) = absurd (not-elsewhere k (state_at noted e).control.stand (resolves-behind noted may k e rs) b)

-- in the run: its places are those of the list, in order
module _ (noted : List Noted) (run : List Moment) (r : IsRun (machine_entries noted) run) where
  from : (i : ℕ) (m : Moment) → slice_get run i ≡ Some m → Origin (λ n. is_joint n.entry.made.op) noted i m.noted
  from i m e = origin (λ n. is_joint n.entry.made.op) noted i m.noted
      (subst (λ z. slice_get z i ≡ Some m.noted) r.same (slice_get-map (λ (y : Moment). y.noted) run i ∙ ap (λ o. option_map (λ (y : Moment). y.noted) o) e))

  in-order : (i j : ℕ) (x y : Noted) (a : Origin (λ n. is_joint n.entry.made.op) noted i x) (b : Origin (λ n. is_joint n.entry.made.op) noted j y) → i < j → a.place < b.place
  in-order i j x y a b l = elim (cases_lt a.place b.place) [
    | inl q ↦ q
    | inr q ↦ absurd (let m = count-mono (λ (n : Noted). is_joint n.entry.made.op) noted b.place a.place q in let f = a.before in let g = b.before in omega (arith, m, f, g, l))
  ]

  same-place : (i j : ℕ) (x y : Noted) (a : Origin (λ n. is_joint n.entry.made.op) noted i x) (b : Origin (λ n. is_joint n.entry.made.op) noted j y) → a.place ≡ b.place → i ≡ j
  same-place i j x y a b e = sym a.before ∙ ap (λ p. length (filter (λ (n : Noted). is_joint n.entry.made.op) (take p noted))) e ∙ b.before

pub run_marks_once : RunMarksOnce
run_marks_once noted run may r a e k freed candidates resolved sn rs b c i j bi cj ab be ac ce =
    let oa = from noted run r a sn.element sn.there in
    let oe = from noted run r e rs.element rs.there in
    let ob = from noted run r b bi.element bi.there in
    let oc = from noted run r c cj.element cj.there in
    let w = own_marking_is_one noted may oa.place oe.place k (record { element = sn.element.noted; there = oa.there; is = sn.is.0 })
    (record { element = rs.element.noted; there = oe.there; is = rs.is.0 }) in
    let one : ob.place ≡ w.one.begin = w.one.alone ob.place (in-order noted run r a b _ _ oa ob ab) (in-order noted run r b e _ _ ob oe be)
    (record { entry = bi.element.noted; there = ob.there; caller = bi.is.0; event = bi.is.1 }) in
    let other : oc.place ≡ w.one.begin = w.one.alone oc.place (in-order noted run r a c _ _ oa oc ac)
    (in-order noted run r c e _ _ oc oe ce) (record { entry = cj.element.noted; there = oc.there; caller = cj.is.0; event = cj.is.1 }) in
    same-place noted run r b c _ _ ob oc (one ∙ sym other)
