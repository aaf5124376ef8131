-- The entries of a cycle: what is shown of both sides stays shown. A resolution gives the kept candidates other
-- handles, each on the peer of the one that it replaces; so each group keeps its two objects and its peer, and what
-- variables name keeps its handle.
use Rattle.std.proofs.Common.{◌≡◌, ℕ, inl, inr, false, List, [], ◌∷◌, ◌++◌, length, Option, Some, None, refl, sym, ap, subst, ◌∙◌, arith}
use Rattle.std.specs.Prelude.{Contains, slice_get, slice_index}
use Rattle.std.proofs.lemmas.List.Elements.{Contains-append_cases}
use Rattle.std.proofs.lemmas.Option.{same_Some, slice_get-get_or, slice_get_within}
use Rattle.joint_machine.specs.declared.names.Cycle.{Cycle}
use Rattle.joint_machine.specs.declared.names.Thread.TheVariants.{C}
use Rattle.joint_machine.specs.declared.events.Op.{Op}
use Rattle.joint_machine.specs.declared.events.Op.TheVariants as op
use Rattle.joint_machine.specs.declared.events.Reply.{Reply}
use Rattle.joint_machine.specs.Components.{Rises}
use Rattle.joint_machine.specs.Control.{Stand, OpenSnap, idle, snapped, contracted, weakening, marked, restoring, restored, DriverAllows, answer_in, stand_after}
use Rattle.joint_machine.specs.Heaps.{slot, place, numbered_at}
use Rattle.joint_machine.specs.Linked.{Linkage, MayCome, SideLawful, linkage_after}
use Rattle.joint_machine.specs.Managed.{Managed, OpenCycle, Holds, candidates_of, resolved}
use Rattle.joint_machine.specs.ManagedReplay.{MayResolve}
use Rattle.joint_machine.specs.Peers.{Peers, Issued, peer_of}
use Rattle.joint_machine.specs.Told.{Answer, Noted, Told, handles_given, resolution_of, said_alive, said_cleared}
use Rattle.joint_machine.proofs.Deciding.{some-same}
use Rattle.joint_machine.proofs.HeapLemmas.{candidates_of-open}
use Rattle.joint_machine.proofs.Members.{Contains-at, Contains-cons_cases, Contains-decided, Contains-here, Contains-nil, Contains-there}
use Rattle.joint_machine.proofs.Numbered.{numbered-within, slot-Contains}
use Rattle.joint_machine.proofs.WalkLemmas.{Reaches-self}
use Rattle.joint_laws.specs.LinkedInvariants.{DriverInvariant, IsReplaced, IsRestored, given_at}
use Rattle.joint_laws.specs.ManagedInvariants.{IsCutOff}
use Rattle.joint_laws.proofs.DriverSteps.{replaced}
use Rattle.joint_laws.proofs.FreedLists.{grows-Contains, peers-grow}
use Rattle.joint_laws.proofs.FreedRows.{freed-peer}
use Rattle.joint_laws.proofs.LinkedEntries.{Of, entry}
use Rattle.joint_laws.proofs.PeerEntries.{peer_of-issued}
use Rattle.joint_laws.proofs.Renewing.{IsGivenTo, given-at, given-or, renewed-cases, renewed-given, renewed-length, renewed-other}
use Rattle.generated_laws.proofs.Pictures.{Mind, Seen, at, at-small}
use Rattle.generated_laws.proofs.Showing.{Group, IsShown, number_of, renewed-shown, still-shown}
use Rattle.generated_laws.proofs.PeerShowing.{ArePeersShown, Filled, peer_of-on, still-peers}
use Rattle.generated_laws.proofs.Moves.{AreHeld}
use Rattle.generated_laws.proofs.Quiet.{GivesHandle, IsOfCycle, IsStill, objects-stay, peers-stay}

-- the handles of further answers
given-more : (answers : List Answer) (a : Answer) (n : ℕ) → Contains (handles_given answers) n → Contains (handles_given (answers ++ a ∷ [])) n
given-more [] a n c = absurd (Contains-nil n c)
given-more (said_alive h ∷ answers) a n c = elim (Contains-cons_cases h (handles_given answers) n c) [
  | inl e ↦ subst (Contains (h ∷ handles_given (answers ++ a ∷ []))) e (Contains-here h (handles_given (answers ++ a ∷ [])))
  | inr d ↦ Contains-there n h (handles_given (answers ++ a ∷ [])) (given-more answers a n d)
]
given-more (said_cleared ∷ answers) a n c = given-more answers a n c

given-last : (answers : List Answer) (a : Answer) (n : ℕ) → a ≡ said_alive n → Contains (handles_given (answers ++ a ∷ [])) n
given-last [] a n e = subst (λ z. Contains (handles_given (z ∷ [])) n) (sym e) (Contains-here n [])
given-last (said_alive h ∷ answers) a n e = Contains-there n h (handles_given (answers ++ a ∷ [])) (given-last answers a n e)
given-last (said_cleared ∷ answers) a n e = given-last answers a n e

-- a row that was freed in an entry held a handle on a freed peer
module _ (s : Linkage) (n : Noted) (may : MayCome s n) (k : Of s) (minds : ℕ → Mind) (groups : List (Option Group)) (h : AreHeld s.managed.managed s.peer (given_at s.control.stand) minds groups) where
  still-freed : (x a : ℕ) → numbered_at s.managed.managed.held x ≡ Some (Some a) → Contains (linkage_after s n).managed.managed.heap.freed x
      → (q : ℕ) × (peer_of s.peer.peers.issued a ≡ Some q) × Contains (linkage_after s n).peer.peers.heap.freed q
  still-freed x a d f = elim (Contains-decided s.managed.managed.heap.freed x) [
    | inl old ↦ (let o = h.freed x a d old in (o.0, o.1, grows-Contains s.peer.peers.heap.freed (linkage_after s n).peer.peers.heap.freed o.0 (peers-grow s n k.peer) o.2))
    | inr new ↦ (
        let l = numbered-within s.managed.managed.held x (Some a) d in
        let p = k.managed.managed.places in
        let holds : Holds s.managed.managed x a = record { live = record { made = (l.0, omega (arith, l.1, p)); kept = new }; held = d } in
        let i = k.owners.held_ones x a holds in
        let leads : peer_of s.peer.peers.issued a ≡ Some i.0.peer = ap (λ (z : Option Issued). elim z as (λ y. Option ℕ) [ None ↦ None | Some y ↦ Some y.peer ]) i.1 in
        (i.0.peer, leads, grows-Contains s.peer.peers.heap.freed (linkage_after s n).peer.peers.heap.freed i.0.peer (peers-grow s n k.peer) (freed-peer s n may k x a i.0.peer holds leads f)))
  ]

-- both sides are shown, with what the driver's restores have answered
pub record AreShown (minds : ℕ → Mind) (fills : ℕ → Filled) (groups : List (Option Group)) (s : Linkage) : Type 0 where
  pub shown : IsShown s.managed.managed minds groups
  pub peers : ArePeersShown s.peer.peers fills groups
  pub are_held : AreHeld s.managed.managed s.peer (given_at s.control.stand) minds groups

module _ (minds : ℕ → Mind) (fills : ℕ → Filled) (groups : List (Option Group)) (s : Linkage) (k : Of s) (w : IsShown s.managed.managed minds groups) (p : ArePeersShown s.peer.peers fills groups)
    (h : AreHeld s.managed.managed s.peer (given_at s.control.stand) minds groups) (number line : ℕ) (r : Reply) (cites : Option ℕ) where
  abbrev sm : Managed
  sm = s.managed.managed

  abbrev sp : Peers
  sp = s.peer.peers

  abbrev the : Op → Told → Noted
  the o told = record { entry = record { number = number; made = entry C line o r cites }; told = told }

  abbrev after : Op → Told → Linkage
  after o told = linkage_after s (the o told)

  abbrev Allowed : Op → Told → Stand → Type 0
  Allowed o told d = DriverAllows d sm sp.issued o r cites told

  -- what restores gave stays in the driver's hand until the resolution
  keeps-given : (o : Op) (told : Told) (d : Stand) → IsStill o → Allowed o told d → (n : ℕ)
      → Contains (handles_given (given_at d)) n → Contains (handles_given (given_at (stand_after d number o r told))) n
  keeps-given (op.Snap c) told idle i al n g = absurd (Contains-nil n g)
  keeps-given (op.Snap c) told _ i al n g = absurd al
  keeps-given (op.Contract c) told (snapped q) i al n g = absurd (Contains-nil n g)
  keeps-given (op.Contract c) told _ i al n g = absurd al
  keeps-given (op.Mirror c) told (contracted q a b x) i al n g = absurd (Contains-nil n g)
  keeps-given (op.Mirror c) told _ i al n g = absurd al
  keeps-given (op.Weaken x) told (weakening q a b c) i al n g = absurd (Contains-nil n g)
  keeps-given (op.Weaken x) told _ i al n g = absurd al
  keeps-given op.Begin told (weakening q a b c) i al n g = absurd (Contains-nil n g)
  keeps-given op.Begin told _ i al n g = absurd al
  keeps-given op.Sweep told (weakening q a b c) i al n g = absurd (Contains-nil n g)
  keeps-given op.Sweep told (marked q) i al n g = absurd (Contains-nil n g)
  keeps-given op.Sweep told _ i al n g = absurd al
  keeps-given (op.Restore x) told (restoring q answers) i al n g = given-more answers (answer_in r) n g
  keeps-given (op.Restore x) told _ i al n g = absurd al
  keeps-given (op.Clear c) told (restoring q answers) i al n g = g
  keeps-given (op.Clear c) told _ i al n g = absurd al
  keeps-given _ told d i al n g = absurd i

  gives : (o : Op) (told : Told) (d : Stand) → Allowed o told d → (n : ℕ) → GivesHandle o r n → Contains (handles_given (given_at (stand_after d number o r told))) n
  gives (op.Restore x) told (restoring q answers) al n g = given-last answers (answer_in r) n g
  gives (op.Restore x) told _ al n g = absurd al
  gives _ told d al n g = absurd g

  -- any entry but the resolution
  still : (o : Op) (told : Told) → IsStill o → IsOfCycle o → MayCome s (the o told) → AreShown minds fills groups (after o told)
  still o told i c may =
      let m = objects-stay s line r cites o told i in
      let t = peers-stay s line r cites o told k.peer c may.lawful in
      record {
        shown = still-shown sm (after o told).managed.managed minds minds groups w m.fields m.vars m.statics m.held m.pins (λ u. refl) (λ u. refl);
        peers = still-peers sp fills groups p (after o told).peer.peers t.fields t.vars t.statics t.issued;
        are_held = record {
          owned = λ n row z. elim (t.tabled n row z) [
            | inr g ↦ inr (inr (gives o told s.control.stand may.order n g))
            | inl old ↦ elim (h.owned n old.0 old.1) [
              | inl x ↦ inl (x.0, ap (λ l. numbered_at l x.0) m.held ∙ x.1)
              | inr (inl y) ↦ inr (inl y)
              | inr (inr g) ↦ inr (inr (keeps-given o told s.control.stand i may.order n g))
            ]
          ];
          freed = λ x n e f. (let q = still-freed s (the o told) may k minds groups h x n (ap (λ l. numbered_at l x) (sym m.held) ∙ e) f in
              (q.0, peer_of-on sp.issued (after o told).peer.peers.issued n q.0 t.issued q.1, q.2));
          leads = λ j g n e f. peer_of-on sp.issued (after o told).peer.peers.issued n g.peer t.issued (h.leads j g n e (ap (λ l. numbered_at l g.bridge) (sym m.held) ∙ f));
        };
      }

  -- the resolution
  module _ (c : Cycle) (said : List Answer) (freed : List ℕ) (q : OpenSnap) (d : IsRestored s.managed s.peer q said)
      (given : given_at s.control.stand ≡ said) (a : MayResolve s.managed c.0 said freed) where
    cut : IsCutOff sm d.cycle
    cut = k.managed.managed.dead d.cycle d.opened.cycle

    own : candidates_of sm ≡ d.cycle.candidates
    own = candidates_of-open sm d.cycle d.opened.cycle

    rise : Rises (candidates_of sm)
    rise = subst Rises (sym own) cut.rise

    candidate : (m g : ℕ) → IsGivenTo (candidates_of sm) said m g → Contains d.cycle.candidates m
    candidate m g y = subst (λ l. Contains l m) own (Contains-at (candidates_of sm) y.place m y.candidate)

    -- a restored candidate held another handle, on the same peer
    new-for : (m n g : ℕ) → IsGivenTo (candidates_of sm) said m g → numbered_at sm.held m ≡ Some (Some n) → IsReplaced s.peer n g
    new-for m n g y e =
        replaced s.managed s.peer q said k.managed k.peer k.owners d m g n (subst (λ l. IsGivenTo l said m g) own y)
        (record { live = cut.live m ((cut.candidates m).0 (candidate m g y)).0; held = e })

    -- what holds no handle, and what a variable names, is no candidate
    no-plain : (m g : ℕ) → numbered_at sm.held m ≡ Some None → IsGivenTo (candidates_of sm) said m g → ⊥
    no-plain m g e y = (let b = ((cut.candidates m).0 (candidate m g y)).1 in let f : Some None ≡ Some (Some b.0) = sym e ∙ b.1.held in cc)

    no-named : (t v : ℕ) (x : Seen) (g : ℕ) → at (minds t).slots v ≡ Some x → IsGivenTo (candidates_of sm) said x.number g → ⊥
    no-named t v x g e y =
        let named : slot sm.heap.vars (place t v) ≡ Some x.number = w.vars t v (let l = at-small (minds t).slots v x e in omega (arith, l)) ∙ ap number_of e in
        cut.unnamed x.number (inl (inl (slot-Contains sm.heap.vars (place t v) x.number named))) ((cut.candidates x.number).0 (candidate x.number g y)).0

    -- a candidate to which a restore gave a handle holds it then, and any other row holds what it held
    holds-new : (m n g : ℕ) → IsGivenTo (candidates_of sm) said m g → numbered_at sm.held m ≡ Some (Some n) → numbered_at (resolved sm said freed).held m ≡ Some (Some g)
    holds-new m n g y e = (let b = numbered-within sm.held m (Some n) e in renewed-given sm.held (candidates_of sm) said m g rise b.0 b.1 y)

    holds-old : (m : ℕ) → ((g : ℕ) → IsGivenTo (candidates_of sm) said m g → ⊥) → numbered_at (resolved sm said freed).held m ≡ numbered_at sm.held m
    holds-old m none = renewed-other sm.held (candidates_of sm) said m none

    -- the candidate that a handle was given to
    given-to : (n : ℕ) → Contains (handles_given said) n → (m : ℕ) × (old : ℕ) × (numbered_at sm.held m ≡ Some (Some old)) × IsGivenTo (candidates_of sm) said m n
    given-to n g =
        let i = given-at said n g in
        let within = slice_get_within said i.0 (said_alive n) i.1 in
        let there = slice_get-get_or (candidates_of sm) i.0 0 (let l = ap length own in let e = d.all in omega (arith, within, l, e)) in
        let m = slice_index (candidates_of sm) i.0 in
        let y : IsGivenTo (candidates_of sm) said m n = record { place = i.0; candidate = there; answer = i.1 } in
        let b = ((cut.candidates m).0 (candidate m n y)).1 in
        (m, b.0, b.1.held, y)

    resolved_shown : IsShown (resolved sm said freed) minds groups
    resolved_shown = renewed-shown sm (resolved sm said freed) minds groups w refl refl refl refl (renewed-length sm.held (candidates_of sm) said)
        (λ t v x e. holds-old x.number (λ g y. no-named t v x g e y))
        (λ i g e. (
          (let b = (w.groups_are i g e).holds in elim (given-or (candidates_of sm) said g.bridge)
              [ inl y ↦ (y.0, holds-new g.bridge b.0 y.0 y.1 b.1) | inr none ↦ (b.0, holds-old g.bridge none ∙ b.1) ]),
          holds-old g.plain (λ x y. no-plain g.plain x (w.groups_are i g e).none y) ∙ (w.groups_are i g e).none,
        ))

    resolved_held : MayCome s (the (op.Resolve c) (resolution_of said freed)) → AreHeld (resolved sm said freed) s.peer [] minds groups
    resolved_held may = record {
      owned = λ n row t. elim (h.owned n row t) [
        | inl x ↦ elim (given-or (candidates_of sm) said x.0) [
          | inr none ↦ inl (x.0, holds-old x.0 none ∙ x.1)
          | inl y ↦ absurd ((new-for x.0 n y.0 y.1 x.1).untabled row t)
        ]
        | inr (inl y) ↦ inr (inl y)
        | inr (inr g) ↦ (let y = given-to n (subst (λ l. Contains (handles_given l) n) given g) in inl (y.0, holds-new y.0 y.1 n y.3 y.2))
      ];
      freed = λ x n e f. elim (renewed-cases sm.held (candidates_of sm) said x n e) [
        | inl old ↦ still-freed s (the (op.Resolve c) (resolution_of said freed)) may k minds groups h x n old f
        | inr y ↦ absurd (elim (Contains-append_cases sm.heap.freed freed x f) [
          | inl gone ↦ (cut.live x ((cut.candidates x).0 (candidate x n y)).0).kept gone
          | inr gone ↦ (
              let same : candidates_of sm ≡ a.cycle.candidates = own ∙ ap (λ (z : OpenCycle). z.candidates) (same_Some d.cycle a.cycle (sym d.opened.cycle ∙ a.open_cycle.0)) in
              ((a.resolution.frees x).0 gone).1 (x, (y.place, subst (λ l. slice_get l y.place ≡ Some x) same y.candidate, (n, y.answer)), Reaches-self _ x))
        ])
      ];
      leads = λ i g n e f. elim (renewed-cases sm.held (candidates_of sm) said g.bridge n f) [
        | inl old ↦ h.leads i g n e old
        | inr y ↦ (
            let b = (w.groups_are i g e).holds in
            let new = new-for g.bridge b.0 n y b.1 in
            let was : new.old.peer ≡ g.peer = some-same new.old.peer g.peer (sym (peer_of-issued sp.issued b.0 new.old new.was) ∙ h.leads i g b.0 e b.1) in
            peer_of-issued sp.issued n new.new new.is ∙ ap Some (new.same ∙ was))
      ];
    }

  resolve-by : (c : Cycle) (told : Told) (d : Stand) → s.control.stand ≡ d → SideLawful false s (entry C line (op.Resolve c) r cites) told
      → Allowed (op.Resolve c) told d → DriverInvariant s.managed s.peer d → MayCome s (the (op.Resolve c) told)
      → AreShown minds fills groups (after (op.Resolve c) told)
  resolve-by c (resolution_of said freed) (restored q answers clear) now l al dk may =
      let given : given_at s.control.stand ≡ said = ap given_at now ∙ sym al.2 in
      let d : IsRestored s.managed s.peer q said = subst (IsRestored s.managed s.peer q) (sym al.2) dk in
      record {
        shown = resolved_shown c said freed q d given l.allowed;
        peers = p;
        are_held = subst (λ l. AreHeld (resolved sm said freed) s.peer l minds groups)
            (sym (ap (λ (z : Stand). given_at (stand_after z number (op.Resolve c) r (resolution_of said freed))) now)) (resolved_held c said freed q d given l.allowed may);
      }
  resolve-by c told (restored q answers clear) now l al dk may = absurd al
  resolve-by c told _ now l al dk may = absurd al

  pub driver-shown : (o : Op) (told : Told) → IsOfCycle o → MayCome s (the o told) → AreShown minds fills groups (after o told)
  driver-shown (op.Resolve c) told i may = resolve-by c told s.control.stand refl may.lawful may.order k.driver may
  driver-shown o told i may = still o told i i may
