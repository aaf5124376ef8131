-- Through a run of a generated script, entry by entry: what is shown of both sides stays shown, while each thread's
-- entries go on.
use Rattle.std.proofs.Common.{◌≡◌, ℕ, ◌<◌, ◌≤◌, ◌⊎◌, inl, inr, Bool, true, false, List, [], ◌∷◌, ◌++◌, Some, refl, sym, ap, subst, ◌∙◌, eq-eqb}
use Rattle.std.specs.Prelude.{Contains, if◌then◌else◌, is_some, Option}
use Rattle.std.proofs.lemmas.Bool.{cases_eq}
use Rattle.joint_machine.specs.declared.names.Thread.{Thread}
use Rattle.joint_machine.specs.declared.names.Thread.TheVariants.{M, P, C}
use Rattle.joint_machine.specs.declared.lines.Act.TheVariants as act
use Rattle.joint_machine.specs.declared.events.Op.{Op}
use Rattle.joint_machine.specs.declared.events.Op.TheVariants as op
use Rattle.joint_machine.specs.declared.events.Reply.{Reply}
use Rattle.joint_machine.specs.declared.events.Entry.{Entry}
use Rattle.joint_machine.specs.Heaps.{slot}
use Rattle.joint_machine.specs.Lines.{is_peer_event}
use Rattle.joint_machine.specs.Linked.{Linkage, MayCome, linkage_after, managed_after, peer_after}
use Rattle.joint_machine.specs.Replaying.{AllMayCome, replayed}
use Rattle.joint_machine.specs.ManagedReplay.{ManagedReplay}
use Rattle.joint_machine.specs.Peers.{peer_of}
use Rattle.joint_machine.specs.PeerReplay.{PeerReplay, is_thread}
use Rattle.joint_machine.specs.Told.{Told, Noted}
use Rattle.joint_machine.proofs.Deciding.{neq-eqb}
use Rattle.joint_laws.specs.LinkedInvariants.{given_at}
use Rattle.joint_laws.specs.PeerInvariants.{IsTabled}
use Rattle.joint_laws.proofs.LinkedEntries.{Of, entry, BothInvariants-entry}
use Rattle.known_laws.specs.PastEntries.{entries}
use Rattle.known_laws.proofs.Lists.{event-thread}
use Rattle.script_laws.specs.Holding.{entries_by}
use Rattle.generated_laws.proofs.Totals.{Each}
use Rattle.generated_laws.proofs.Pictures.{Mind, Going}
use Rattle.generated_laws.proofs.Showing.{Group, IsShown}
use Rattle.generated_laws.proofs.PeerShowing.{ArePeersShown, Filled, PeerStep, PeerGoing}
use Rattle.generated_laws.proofs.Moves.{AreHeld, Fills, SaysHandle, moves, lends, with_mind, mind-here, mind-other}
use Rattle.generated_laws.proofs.Quiet.{IsOfCycle, with_fill, fill-here, fill-other, peer_moves}
use Rattle.generated_laws.proofs.Driven.{driver-shown}

-- some entry fills the static of that place
abbrev pub FilledIn : ℕ → List Entry → Type 0
FilledIn i [] = ⊥
FilledIn i (e ∷ es) = Fills i e.made.op ⊎ FilledIn i es

abbrev pub IsCycleEntry : Entry → Type 0
IsCycleEntry e = IsOfCycle e.made.op

pub record Inv (keep : ℕ → Bool) (s : Linkage) (rest : List Entry) : Type 0 where
  pub minds : ℕ → Mind
  pub fills : ℕ → Filled
  pub groups : List (Option Group)
  pub shown : IsShown s.managed.managed minds groups
  pub peers : ArePeersShown s.peer.peers fills groups
  pub are_held : AreHeld s.managed.managed s.peer (given_at s.control.stand) minds groups
  pub going : (t : ℕ) → Going (entries_by (M t) rest) (minds t)
  pub peer_going : (t : ℕ) → PeerGoing (entries_by (P t) rest) (fills t)
  pub driven : Each IsCycleEntry (entries_by C rest)
  pub kept : (i : ℕ) → is_some (slot groups i) ≡ true → keep i ≡ true
  pub kept_rest : (i : ℕ) → FilledIn i rest → keep i ≡ true
  pub all : (i : ℕ) → i < 32 → keep i ≡ true → (is_some (slot groups i) ≡ true) ⊎ FilledIn i rest

mine : (t : Thread) (e : Entry) (es : List Entry) → is_thread t e.made.caller ≡ true → entries_by t (e ∷ es) ≡ e ∷ entries_by t es
mine t e es q = ap (λ b. if b then e ∷ entries_by t es else entries_by t es) q

others : (t : Thread) (e : Entry) (es : List Entry) → is_thread t e.made.caller ≡ false → entries_by t (e ∷ es) ≡ entries_by t es
others t e es q = ap (λ b. if b then e ∷ entries_by t es else entries_by t es) q

-- which event fills no static
not-filled : (i : ℕ) (e : Entry) (es : List Entry) → (Fills i e.made.op → ⊥) → FilledIn i (e ∷ es) → FilledIn i es
not-filled i e es n (inl a) = absurd (n a)
not-filled i e es n (inr a) = a

cycle-fills : (i : ℕ) (o : Op) → IsOfCycle o → Fills i o → ⊥
cycle-fills i (op.Snap k) w f = f
cycle-fills i (op.Contract k) w f = f
cycle-fills i (op.Mirror k) w f = f
cycle-fills i (op.Weaken h) w f = f
cycle-fills i op.Begin w f = f
cycle-fills i op.Sweep w f = f
cycle-fills i (op.Restore h) w f = f
cycle-fills i (op.Clear k) w f = f
cycle-fills i (op.Resolve k) w f = f
cycle-fills i _ w f = w

peer-fills : (i : ℕ) (f : Filled) (go : Filled → Type 0) (o : Op) → PeerStep f o go → Fills i o → ⊥
peer-fills i f go (op.Line (act.Store x (Some v))) st w = st
peer-fills i f go (op.Land h x) st w = st
peer-fills i f go _ st w = w

module _ (keep : ℕ → Bool) (s : Linkage) (number line : ℕ) (r : Reply) (cites : Option ℕ) (told : Told) (es : List Entry) (k : Of s) where
  abbrev the : Thread → Op → Noted
  the t o = record { entry = record { number = number; made = entry t line o r cites }; told = told }

  managed-step : (u : ℕ) (o : Op) → MayCome s (the (M u) o) → Inv keep s ((the (M u) o).entry ∷ es) → Inv keep (linkage_after s (the (M u) o)) es
  managed-step u o may w =
      let e = (the (M u) o).entry in
      let few : u ≤ 8 = (event-thread (M u) o may.event).1 in
      let st = subst (λ l. Going l (w.minds u)) (mine (M u) e es (eq-eqb u u refl)) (w.going u) in
      let m = moves s k w.minds w.fills w.groups w.shown w.peers w.are_held u few (Going (entries_by (M u) es)) es line cites o r told may.lawful st in
      record {
        minds = with_mind w.minds u m.mind;
        fills = w.fills;
        groups = m.more;
        shown = m.shown;
        peers = m.peers;
        are_held = m.are_held;
        going = λ t. elim (cases_eq t u) [
          | inl q ↦ subst (λ z. Going (entries_by (M z) es) (with_mind w.minds u m.mind z)) (sym q) (subst (Going (entries_by (M u) es)) (sym (mind-here w.minds u m.mind)) m.goes)
          | inr n ↦ subst (Going (entries_by (M t) es)) (sym (mind-other w.minds u m.mind t n)) (subst (λ l. Going l (w.minds t)) (others (M t) e es (neq-eqb t u n)) (w.going t))
        ];
        peer_going = λ t. subst (λ l. PeerGoing l (w.fills t)) (others (P t) e es refl) (w.peer_going t);
        driven = subst (Each IsCycleEntry) (others C e es refl) w.driven;
        kept = λ i q. elim (m.from i q) [ inl a ↦ w.kept i a | inr a ↦ w.kept_rest i (inl a) ];
        kept_rest = λ i q. w.kept_rest i (inr q);
        all = λ i l q. elim (w.all i l q) [
          | inl a ↦ inl (m.to i l (inl a))
          | inr a ↦ elim a [ inl b ↦ inl (m.to i l (inr b)) | inr b ↦ inr b ]
        ];
      }

  peer-step : (u : ℕ) (o : Op) → MayCome s (the (P u) o) → Inv keep s ((the (P u) o).entry ∷ es) → Inv keep (linkage_after s (the (P u) o)) es
  peer-step u o may w =
      let e = (the (P u) o).entry in
      let few : u ≤ 8 = (event-thread (P u) o may.event).1 in
      let st = subst (λ l. PeerGoing l (w.fills u)) (mine (P u) e es (eq-eqb u u refl)) (w.peer_going u) in
      let both = peer_moves s w.fills w.groups w.peers u few (PeerGoing (entries_by (P u) es)) line r cites o told st in
      let b = both.0 in
      let m = both.1 in
      let managed : managed_after s.managed (entry (P u) line o r cites) told (is_peer_event (P u) o) ≡ s.managed = ap (managed_after s.managed (entry (P u) line o r cites) told) b in
      let peer : peer_after s.peer (entry (P u) line o r cites) told (is_peer_event (P u) o) ≡ peer_after s.peer
      (entry (P u) line o r cites) told true = ap (peer_after s.peer (entry (P u) line o r cites) told) b in
      let none : (i : ℕ) → Fills i o → ⊥ = λ i f. peer-fills i (w.fills u) (PeerGoing (entries_by (P u) es)) o st f in
      record {
        minds = w.minds;
        fills = with_fill w.fills u m.fill_now;
        groups = w.groups;
        shown = subst (λ (z : ManagedReplay). IsShown z.managed w.minds w.groups) (sym managed) w.shown;
        peers = subst (λ (z : PeerReplay). ArePeersShown z.peers (with_fill w.fills u m.fill_now) w.groups) (sym peer) m.shown;
        are_held = subst (λ (z : ManagedReplay). AreHeld z.managed (peer_after s.peer (entry (P u) line o r cites) told (is_peer_event (P u) o)) (given_at s.control.stand) w.minds w.groups)
            (sym managed)
            (subst (λ (z : PeerReplay). AreHeld s.managed.managed z (given_at s.control.stand) w.minds w.groups) (sym peer)
            (record {
              owned = λ a row t. w.are_held.owned a row (subst (λ l. IsTabled l a row) both.2 t);
              freed = λ x a d f. (let q = w.are_held.freed x a d f in (q.0, ap (λ l. peer_of l a) m.issued ∙ q.1, subst (λ l. Contains l q.0) (sym m.freed) q.2));
              leads = λ i g a f d. ap (λ l. peer_of l a) m.issued ∙ w.are_held.leads i g a f d;
            }));
        going = λ t. subst (λ l. Going l (w.minds t)) (others (M t) e es refl) (w.going t);
        peer_going = λ t. elim (cases_eq t u) [
          | inl q ↦ subst (λ z. PeerGoing (entries_by (P z) es) (with_fill w.fills u m.fill_now z)) (sym q) (subst (PeerGoing (entries_by (P u) es)) (sym (fill-here w.fills u m.fill_now)) m.goes)
          | inr n ↦ subst (PeerGoing (entries_by (P t) es)) (sym (fill-other w.fills u m.fill_now t n)) (subst (λ l. PeerGoing l (w.fills t)) (others (P t) e es (neq-eqb t u n)) (w.peer_going t))
        ];
        driven = subst (Each IsCycleEntry) (others C e es refl) w.driven;
        kept = w.kept;
        kept_rest = λ i q. w.kept_rest i (inr q);
        all = λ i l q. elim (w.all i l q) [ inl a ↦ inl a | inr a ↦ inr (not-filled i e es (none i) a) ];
      }

  driver-step : (o : Op) → MayCome s (the C o) → Inv keep s ((the C o).entry ∷ es) → Inv keep (linkage_after s (the C o)) es
  driver-step o may w =
      let e = (the C o).entry in
      let rest = subst (Each IsCycleEntry) (mine C e es refl) w.driven in
      let n = driver-shown w.minds w.fills w.groups s k w.shown w.peers w.are_held number line r cites o told rest.0 may in
      record {
        minds = w.minds;
        fills = w.fills;
        groups = w.groups;
        shown = n.shown;
        peers = n.peers;
        are_held = n.are_held;
        going = λ t. subst (λ l. Going l (w.minds t)) (others (M t) e es refl) (w.going t);
        peer_going = λ t. subst (λ l. PeerGoing l (w.fills t)) (others (P t) e es refl) (w.peer_going t);
        driven = rest.1;
        kept = w.kept;
        kept_rest = λ i q. w.kept_rest i (inr q);
        all = λ i l q. elim (w.all i l q) [ inl a ↦ inl a | inr a ↦ inr (not-filled i e es (cycle-fills i o rest.0) a) ];
      }

  step-by : (t : Thread) (o : Op) → MayCome s (the t o) → Inv keep s ((the t o).entry ∷ es) → Inv keep (linkage_after s (the t o)) es
  step-by (M u) o may w = managed-step u o may w
  step-by (P u) o may w = peer-step u o may w
  step-by C o may w = driver-step o may w

pub inv-step : (keep : ℕ → Bool) (s : Linkage) (n : Noted) (es : List Entry) → Of s → MayCome s n → Inv keep s (n.entry ∷ es) → Inv keep (linkage_after s n) es
inv-step keep s n es k may w = step-by keep s n.entry.number n.entry.made.index n.entry.made.reply n.entry.made.cites n.told es k n.entry.made.caller n.entry.made.op may w

-- and so through all of a list, whatever comes behind it
pub inv-all : (keep : ℕ → Bool) (ns : List Noted) (s : Linkage) (rest : List Entry) → AllMayCome s ns → Of s → Inv keep s (entries ns ++ rest) → Inv keep (replayed s ns) rest × Of (replayed s ns)
inv-all keep [] s rest a k w = (w, k)
inv-all keep (n ∷ ns) s rest a k w = inv-all keep ns (linkage_after s n) rest a.1 (BothInvariants-entry s n a.0 k) (inv-step keep s n (entries ns ++ rest) k a.0 w)

-- each lend says which handle was lent
abbrev pub SaysIt : Entry → Type 0
SaysIt e = SaysHandle e.made.op e.made.reply

says-by : (keep : ℕ → Bool) (s : Linkage) (number line : ℕ) (r : Reply) (cites : Option ℕ) (told : Told) (es : List Entry) → Of s
    → (t : Thread) (o : Op) → MayCome s (record { entry = record { number = number; made = entry t line o r cites }; told = told })
    → Inv keep s (record { number = number; made = entry t line o r cites } ∷ es) → SaysHandle o r
says-by keep s number line r cites told es k (M u) o may w =
    let e : Entry = record { number = number; made = entry (M u) line o r cites } in
    let few : u ≤ 8 = (event-thread (M u) o may.event).1 in
    let st = subst (λ l. Going l (w.minds u)) (mine (M u) e es (eq-eqb u u refl)) (w.going u) in
    lends s k w.minds w.fills w.groups w.shown w.peers w.are_held u few (Going (entries_by (M u) es)) es line cites o r told may.lawful st
says-by keep s number line r cites told es k (P u) (op.Lend v x) may w = absurd may.event.0
says-by keep s number line r cites told es k C (op.Lend v x) may w = absurd may.event.0
says-by keep s number line r cites told es k t o may w = tt

pub inv-says : (keep : ℕ → Bool) (ns : List Noted) (s : Linkage) (rest : List Entry) → AllMayCome s ns → Of s → Inv keep s (entries ns ++ rest) → Each SaysIt (entries ns)
inv-says keep [] s rest a k w = tt
inv-says keep (n ∷ ns) s rest a k w = (
  says-by keep s n.entry.number n.entry.made.index n.entry.made.reply n.entry.made.cites n.told (entries ns ++ rest) k n.entry.made.caller n.entry.made.op a.0 w,
  inv-says keep ns (linkage_after s n) rest a.1 (BothInvariants-entry s n a.0 k) (inv-step keep s n (entries ns ++ rest) k a.0 w),
)
