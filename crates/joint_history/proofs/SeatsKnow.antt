-- The facts of a seat's past, of the lists and the state that it is known by.
use Rattle.std.proofs.Common.{◌≡◌, ◌⊎◌, inl, inr, ⊎_elim, ℕ, Bool, true, false, ◌==◌, ◌||◌, List, [], ◌∷◌, refl, sym, ap, subst}
use Rattle.std.specs.Prelude.{if◌then◌else◌, Contains}
use Rattle.joint_machine.specs.declared.names.HNum.{HNum}
use Rattle.joint_machine.specs.declared.names.PNum.{PNum}
use Rattle.joint_machine.specs.declared.names.Sort.{Sort}
use Rattle.joint_machine.specs.declared.names.StaticNo.{StaticNo}
use Rattle.joint_machine.specs.declared.events.Entry.{Entry}
use Rattle.joint_machine.specs.declared.events.Made.{Made}
use Rattle.joint_machine.specs.declared.events.Op.{Op}
use Rattle.joint_machine.specs.declared.events.Op.TheVariants as op
use Rattle.joint_machine.specs.HistoryLines.{caller_line, stands_in, reader_line}
use Rattle.joint_machine.specs.Lines.{is_peer_event, is_read}
use Rattle.joint_machine.specs.ManagedReplay.{ManagedReplay}
use Rattle.joint_machine.specs.PeerReplay.{PeerReplay}
use Rattle.joint_machine.specs.Sides.{Side}
use Rattle.joint_machine.specs.Told.{Noted}
use Rattle.joint_machine.proofs.Members.{Contains-cons_cases, Contains-here, Contains-nil, Contains-there}
use Rattle.joint_laws.specs.LinkedInvariants.{IsHeldOne}
use Rattle.joint_laws.specs.PeerInvariants.{IsTabled}
use Rattle.known_laws.specs.Citations.{Cites, HasCited, IsClearOf, IsGiveOf, IsGripOf, IsLendOf, IsMakeOf, IsMeetOf, IsSnapOf}
use Rattle.known_laws.specs.Driving.{PastInvariant}
use Rattle.known_laws.specs.Facts.{TakesHandle}
use Rattle.known_laws.specs.Pasts.{Lawful, end_of, line}
use Rattle.known_laws.specs.PastEntries.{InPast, entries}
use Rattle.known_laws.proofs.Citing.{pasts_cite}
use Rattle.known_laws.proofs.CitedOnce.{each_stands_behind, in_back}
use Rattle.known_laws.proofs.Facts.{none_leads_to_cleared, none_leads_to_freed, weak_is_waiting}
use Rattle.known_laws.proofs.KnownPasts.{past_invariant_holds}
use Rattle.known_laws.proofs.Leaving.{handles_leave_so}
use Rattle.known_laws.proofs.PastLines.{in-line, line-in}
use Rattle.known_laws.proofs.Restoring.{resolves_free_cleared, restored_hold_the_new}
use Rattle.order_table.specs.declared.views.View.{View}
use Rattle.joint_history.specs.Knowing.{line_known}
use Rattle.view_laws.specs.Knowing.{IsDrawnView}
use Rattle.joint_history.specs.Locked.{ManagedKnows, PeerKnows}
use Rattle.joint_history.proofs.KnownViews.{line_of_past}
use Rattle.joint_history.specs.SeatFacts.{CitesKnown, CitesManaged, CitesPeers, HandlesLeft, ManagedListCites, NoneLeadsToClearedIn, NoneLeadsToFreedIn, PeerListCites, ResolvesFreed, ResolvesRenewed}
use Rattle.joint_history.specs.SeatFacts.{WeakIsWaitingIn}

-- an entry of a past stands in the lines that it is in, and what stands in a line is one of the past
to_line : (ns : List Noted) (x : Noted) → InPast ns x → Contains (entries ns) x.entry
to_line [] x w = absurd w
to_line (y ∷ ns) x w = ⊎_elim
    (λ (e : y ≡ x). subst (λ (z : Noted). Contains (y.entry ∷ entries ns) z.entry) e (Contains-here y.entry (entries ns)))
    (λ (v : InPast ns x). Contains-there x.entry y.entry (entries ns) (to_line ns x v))
    w

record StandsIn (ns : List Noted) (e : Entry) : Type 0 where
  pub noted : Noted
  pub there : InPast ns noted
  pub is : noted.entry ≡ e

from_line : (ns : List Noted) (e : Entry) → Contains (entries ns) e → StandsIn ns e
from_line [] e c = absurd (Contains-nil e c)
from_line (y ∷ ns) e c = ⊎_elim
    (λ (q : y.entry ≡ e). record { noted = y; there = inl refl; is = q })
    (λ (v : Contains (entries ns) e). let s = from_line ns e v in record { noted = s.noted; there = inr s.there; is = s.is })
    (Contains-cons_cases y.entry (entries ns) e c)

known_entry : (v : View) (i : ℕ) (a : IsDrawnView v) (e : Entry) → Contains (line_known v i) e → StandsIn a.known.past e
known_entry v i a e c =
    let s = from_line (line i a.known.past) e (subst (λ es. Contains es e) (line_of_past v a i) c) in
    record { noted = s.noted; there = in-line i a.known.past s.noted s.there; is = s.is }

entry_known : (v : View) (i : ℕ) (a : IsDrawnView v) (x : Noted) → InPast a.known.past x → stands_in i x.entry ≡ true → Contains (line_known v i) x.entry
entry_known v i a x w t = subst (λ es. Contains es x.entry) (sym (line_of_past v a i)) (to_line (line i a.known.past) x (line-in i a.known.past x w t))

-- an event of a side stands in that side's line
managed_line : (e : Entry) → is_peer_event e.made.caller e.made.op ≡ false → is_read e.made.op ≡ false → stands_in 0 e ≡ true
managed_line e p r = (λ i. (0 == (if p i then 1 else (if r i then reader_line e.made.caller else 0))) || (0 == caller_line e.made.caller))

pub peer_line : (e : Entry) → is_peer_event e.made.caller e.made.op ≡ true → stands_in 1 e ≡ true
peer_line e p = ap (λ (b : Bool). (1 == (if b then 1 else (if is_read e.made.op then reader_line e.made.caller else 0))) || (1 == caller_line e.made.caller)) p

-- what an entry cites stands in the other side's line
cited_by : (v : View) (i : ℕ) (a : IsDrawnView v) (e : Entry) (b : List Noted) (n : ℕ) (P : Made → Type 0)
    → ((x : Noted) → InPast b x → InPast a.known.past x) → ((m : Entry) → P m.made → stands_in i m ≡ true) → HasCited b e.made n P → CitesKnown v i e P
cited_by v i a e b n P all side c = record {
  cited = c.cited.entry;
  there = entry_known v i a c.cited (all c.cited c.there) (side c.cited.entry c.as_said);
  by_number = c.by_number;
  as_said = c.as_said;
}

-- the events that are cited, each on its side
lend_line : (index : ℕ) (m : Entry) (h : HNum) (x : StaticNo) → IsLendOf index h x m.made → stands_in 0 m ≡ true
lend_line index m h x w = managed_line m (ap (λ (o : Op). is_peer_event m.made.caller o) w.2) (ap is_read w.2)

give_line : (index : ℕ) (m : Entry) (h : HNum) → IsGiveOf index h m.made ⊎ IsMeetOf index h m.made → stands_in 0 m ≡ true
give_line index m h w = ⊎_elim
    (λ (g : IsGiveOf index h m.made). managed_line m (ap (λ (o : Op). is_peer_event m.made.caller o) g.2) (ap is_read g.2))
    (λ (g : IsMeetOf index h m.made). managed_line m (ap (λ (o : Op). is_peer_event m.made.caller o) g.5) (ap is_read g.5))
    w

snap_line : (k : ℕ) (m : Entry) → IsSnapOf k m.made → stands_in 0 m ≡ true
snap_line k m w = managed_line m (ap (λ (o : Op). is_peer_event m.made.caller o) w) (ap is_read w)

make_line : (index : ℕ) (m : Entry) (p : PNum) (h : HNum) → IsMakeOf index p h m.made → stands_in 1 m ≡ true
make_line index m p h w = peer_line m (ap (λ (o : Op). is_peer_event m.made.caller o) w.3)

grip_line : (index : ℕ) (m : Entry) (p : PNum) (h : HNum) (sort : Sort) (f : ℕ) → IsGripOf index p h sort f m.made → stands_in 1 m ≡ true
grip_line index m p h sort f w = peer_line m (ap (λ (o : Op). is_peer_event m.made.caller o) w.2)

clear_line : (k : ℕ) (m : Entry) → IsClearOf k m.made → stands_in 1 m ≡ true
clear_line k m w = peer_line m (ap (λ (o : Op). is_peer_event m.made.caller o) w)

peer_cites : (v : View) (a : IsDrawnView v) (e : Entry) (b : List Noted) (n : ℕ) → ((x : Noted) → InPast b x → InPast a.known.past x) → (o : Op) → Cites b e.made n o → CitesManaged v e o
peer_cites v a e b n all (op.Land h x) c = cited_by v 0 a e b n (IsLendOf e.made.index h x) all (λ m w. lend_line e.made.index m h x w) c
peer_cites v a e b n all (op.Release h) c = cited_by v 0 a e b n (λ m. IsGiveOf e.made.index h m ⊎ IsMeetOf e.made.index h m) all (λ m w. give_line e.made.index m h w) c
peer_cites v a e b n all (op.Mirror k) c = cited_by v 0 a e b n (IsSnapOf k.0) all (λ m w. snap_line k.0 m w) c
peer_cites v a e b n all (op.Weaken h) c = cited_by v 0 a e b n (λ m. (k : ℕ) × IsSnapOf k m) all (λ m w. snap_line w.0 m w.1) c
peer_cites v a e b n all o c = tt

managed_cites : (v : View) (a : IsDrawnView v) (e : Entry) (b : List Noted) (n : ℕ) → ((x : Noted) → InPast b x → InPast a.known.past x) → (o : Op) → Cites b e.made n o → CitesPeers v e o
managed_cites v a e b n all (op.Adopt w kind k p h) c = cited_by v 1 a e b n (IsMakeOf e.made.index p h) all (λ m z. make_line e.made.index m p h z) c
managed_cites v a e b n all (op.Meet w sort f p h) c = cited_by v 1 a e b n (IsGripOf e.made.index p h sort f) all (λ m z. grip_line e.made.index m p h sort f z) c
managed_cites v a e b n all (op.Resolve k) c = cited_by v 1 a e b n (IsClearOf k.0) all (λ m z. clear_line k.0 m z) c
managed_cites v a e b n all o c = tt

-- each entry of a known past cites what it has to, and what it cites is known
record Behind (past : List Noted) (x : Noted) : Type 0 where
  pub back : List Noted
  pub all : (y : Noted) → InPast back y → InPast past y
  pub cites : Cites back x.entry.made x.entry.number x.entry.made.op

behind : (past : List Noted) → Lawful past → (x : Noted) → InPast past x → Behind past x
behind past l x w =
    let s = each_stands_behind past l x w in
    record { back = s.back; all = λ y q. subst (λ h. InPast h y) (sym s.all) (in_back s.front x s.back y q); cites = pasts_cite x s.back s.lawful }

pub peer_list_cites : (v : View) (s : Side PeerReplay) → PeerKnows v s → PeerListCites v s.entries
peer_list_cites v s ks e c =
    let a = ks.known in
    let w = known_entry v 1 a e (subst (λ es. Contains es e) (sym ks.entries) c) in
    let b = behind a.known.past a.known.lawful w.noted w.there in
    subst (λ (z : Entry). CitesManaged v z z.made.op) w.is (peer_cites v a w.noted.entry b.back w.noted.entry.number b.all w.noted.entry.made.op b.cites)

pub managed_list_cites : (v : View) (s : Side ManagedReplay) → ManagedKnows v s → ManagedListCites v s.entries
managed_list_cites v s ks e c =
    let a = ks.known in
    let w = known_entry v 0 a e (subst (λ es. Contains es e) (sym ks.entries) c) in
    let b = behind a.known.past a.known.lawful w.noted w.there in
    subst (λ (z : Entry). CitesPeers v z z.made.op) w.is (managed_cites v a w.noted.entry b.back w.noted.entry.number b.all w.noted.entry.made.op b.cites)

-- at the end of the past that is known
kept_end : (v : View) (a : IsDrawnView v) → PastInvariant (end_of a.known.past)
kept_end v a = past_invariant_holds a.known.past a.known.lawful

takes_peer : (e : Entry) (h : ℕ) → TakesHandle e.made h → is_peer_event e.made.caller e.made.op ≡ true
takes_peer e h w = ⊎_elim
    (λ (q : e.made.op ≡ op.Release record { 0 = h }). ap (λ (o : Op). is_peer_event e.made.caller o) q)
    (λ (q : e.made.op ≡ op.Restore record { 0 = h }). ap (λ (o : Op). is_peer_event e.made.caller o) q)
    w

pub handles_left : (v : View) (s : Side PeerReplay) → PeerKnows v s → HandlesLeft s
handles_left v s ks h held gone =
    let a = ks.known in
    let w = handles_leave_so a.known.past a.known.lawful h (subst (λ (r : PeerReplay). IsHeldOne r h) (sym ks.state) held)
    (λ row t. gone row (subst (λ (r : PeerReplay). IsTabled r.table h row) ks.state t)) in
    (w.0.entry, subst (λ es. Contains es w.0.entry) ks.entries (entry_known v 1 a w.0 w.1 (peer_line w.0.entry (takes_peer w.0.entry h w.2))), w.2)

pub weak_waits : (v : View) (s : Side PeerReplay) → PeerKnows v s → WeakIsWaitingIn s.state
weak_waits v s ks = subst WeakIsWaitingIn ks.state (weak_is_waiting (end_of ks.known.known.past) (kept_end v ks.known))

pub none_to_freed : (v : View) (s : Side PeerReplay) → PeerKnows v s → NoneLeadsToFreedIn s.state
none_to_freed v s ks = subst NoneLeadsToFreedIn ks.state (none_leads_to_freed (end_of ks.known.known.past) (kept_end v ks.known))

pub none_to_cleared : (v : View) → NoneLeadsToClearedIn v
none_to_cleared v a o answers e p q r alive k x y = none_leads_to_cleared (end_of a.known.past) (kept_end v a) o answers e p q r alive k x y

pub resolves_freed : (v : View) → ResolvesFreed v
resolves_freed v a x w = let s = each_stands_behind a.known.past a.known.lawful x w in (s, λ k. resolves_free_cleared x s.back s.lawful k)

pub resolves_renewed : (v : View) → ResolvesRenewed v
resolves_renewed v a x w = let s = each_stands_behind a.known.past a.known.lawful x w in (s, λ k. restored_hold_the_new x s.back s.lawful k)
