-- What the driver's calls keep of a managed side that a plain count drives, and the pins of the threads.
use Rattle.std.proofs.Common.{◌≡◌, ℕ, ◌+◌, ◌-◌, ◌^◌, ◌<◌, ◌≤◌, List, [], ◌∷◌, ◌++◌, length, Option, Some, None, inl, inr, refl, sym, ap, subst, ◌∙◌, arith}
use Rattle.std.proofs.lemmas.List.{nil_from_length}
use Rattle.std.proofs.lemmas.List.Elements.{All-head, All-nil, Contains-append_cases, Contains-push_cases}
use Rattle.std.proofs.lemmas.Option.{slice_get_within}
use Rattle.std.specs.Prelude.{All, Contains, IfSome, slice_get}
use Rattle.joint_machine.specs.declared.names.HNum.{HNum}
use Rattle.joint_machine.specs.declared.names.MNum.{MNum}
use Rattle.joint_machine.specs.declared.events.Entry.{Entry}
use Rattle.joint_machine.specs.declared.events.Made.{Made}
use Rattle.joint_machine.specs.Draws.{AllBelow, CountDrew, Drawing, counting}
use Rattle.joint_machine.specs.declared.names.Phase.{Phase}
use Rattle.joint_machine.specs.declared.names.PhaseWord.{PhaseWord}
use Rattle.joint_machine.specs.declared.names.Thread.TheVariants.{C}
use Rattle.joint_machine.specs.declared.events.Op.TheVariants as op
use Rattle.joint_machine.specs.declared.events.Reply.{Reply}
use Rattle.joint_machine.specs.Components.{LeadsIn, Rises}
use Rattle.joint_machine.specs.Cycles.{DeadEdge, IsDeadContraction}
use Rattle.joint_model.specs.Listed.{answers_of}
use Rattle.joint_machine.specs.Managed.{IsBridge, Managed, OpenCycle}
use Rattle.joint_machine.specs.ManagedReplay.{AreNew, ManagedReplay}
use Rattle.joint_machine.specs.Sides.{Side, AddsLawful, managed_rules, step_made}
use Rattle.joint_machine.specs.Told.{Told, handles_given, nothing, phase_of}
use Rattle.bridge_graph.specs.Parts.{numbers_of}
use Rattle.joint_machine.proofs.Members.{Contains-cons_cases, Contains-nil}
use Rattle.managed_heap.specs.Calls.{Abandons, Contracts, MayContractWith, Resolves}
use Rattle.managed_heap.specs.Openings.{OpensBySnap}
use Rattle.managed_heap.specs.Resolving.{MayClose}
use Rattle.managed_heap.specs.declared.cycles.ResolveOut.{ResolveOut}
use Rattle.managed_heap.specs.declared.opening.Opened.{Opened}
use Rattle.side_tests.specs.Drives.{AreFrom, IsDriven}
use Rattle.side_tests.proofs.ManagedDrives.{driven-below, driven-on, driven-still, HasWaiting}

-- the cycle that is open is the only one
only-open : (o : Option OpenCycle) (c e : OpenCycle) → o ≡ Some c → o ≡ Some e → e ≡ c
only-open o c e u v = cc

none-open : (o : Option OpenCycle) (waiting : ℕ) → o ≡ None → HasWaiting o waiting
none-open o waiting e c q = absurd cc

-- what draws by a count is seen as the count
as-counted : {D : Type 0} (d : Drawing D) (before after : D) (old new : Side ManagedReplay) (m : Made) (told : Told)
    → AddsLawful managed_rules d before after old new m told → (count : D → ℕ) → ((x : D) → d.floor x ≡ count x) → ((x : D) → d.left x ≡ 2 ^ 63 - count x)
    → ((x y : D) (e : Entry) (o : Option MNum) (f : List MNum) → d.drew x e o f y → CountDrew (count x) e o f (count y)) → AddsLawful managed_rules counting (count before) (count after) old new m told
as-counted d before after old new m told a count floors lefts drews = record {
  draws = record {
    adds = record { number = a.draws.adds.number; drawn = drews before after _ _ _ a.draws.adds.drawn; added = a.draws.adds.added };
    above = subst (λ n. n ≤ a.draws.adds.number) (floors before) a.draws.above;
    below = subst (AllBelow new.entries) (floors after) a.draws.below;
    room = subst (λ n. 4294967295 ≤ n + length new.entries) (lefts after) a.draws.room;
    may = λ t o w. ((λ x. x), (λ x. x));
  };
  goes = a.goes;
  threads = a.threads;
}

pub snap-counted : {D : Type 0} (d : Drawing D) (before after : D) (old new : Side ManagedReplay) (index : ℕ) (pins : List (Option ℕ)) (out : Opened)
    → OpensBySnap d before after old new index pins out → (count : D → ℕ) → ((x : D) → d.floor x ≡ count x) → ((x : D) → d.left x ≡ 2 ^ 63 - count x)
    → ((x y : D) (e : Entry) (o : Option MNum) (f : List MNum) → d.drew x e o f y → CountDrew (count x) e o f (count y)) → OpensBySnap counting (count before) (count after) old new index pins out
snap-counted d before after old new index pins out s count floors lefts drews = record {
  freed = s.freed;
  candidates = s.candidates;
  dead = s.dead;
  adds = as-counted d before after old new _ _ s.adds count floors lefts drews;
  cycle = s.cycle;
  counted = s.counted;
  span = s.span;
  number = s.number;
  graph = s.graph;
}

-- a snapshot opens a cycle with as many candidates as it tells
pub snapped-on : (before after waiting answered : ℕ) (old new : Side ManagedReplay) (index : ℕ) (pins : List (Option ℕ)) (out : Opened)
    → OpensBySnap counting before after old new index pins out → IsDriven old before waiting answered → IsDriven new after out.candidates answered
snapped-on before after waiting answered old new index pins out s d = driven-on old new before after waiting out.candidates answered _ _ s.adds
    (λ h k. inl k) (λ c o. ap (λ (z : OpenCycle). length z.candidates) (only-open _ _ c refl o) ∙ sym s.counted) d

-- the handles of answers from a number on are all different, at least that number, and below what comes behind them
pub new-from : (n : ℕ) (taken : List ℕ) (backs : List (Option HNum)) → AreFrom n backs → ((h : ℕ) → Contains taken h → h < n) → AreNew taken (handles_given (answers_of backs))
new-from n taken [] f below = tt
new-from n taken (None ∷ backs) f below = new-from (n + 1) taken backs f (λ h c. (let l = below h c in omega (arith, l)))
new-from n taken (Some h ∷ backs) f below = (
  λ c. (let l = below h.0 c in let e = f.0 in absurd (omega (arith, l, e))),
  new-from (n + 1) (taken ++ h.0 ∷ []) backs f.1 (λ g c. elim (Contains-push_cases taken h.0 g c) [ inl o ↦ (let l = below g o in omega (arith, l)) | inr e ↦ (let s = f.0 in omega (arith, e, s)) ]),
)

given-below : (n : ℕ) (backs : List (Option HNum)) (h : ℕ) → AreFrom n backs → Contains (handles_given (answers_of backs)) h → h < n + length backs
given-below n [] h f c = absurd (Contains-nil h c)
given-below n (None ∷ backs) h f c = (let l = given-below (n + 1) backs h f c in omega (arith, l))
given-below n (Some g ∷ backs) h f c = elim (Contains-cons_cases g.0 (handles_given (answers_of backs)) h c) [
  | inl e ↦ (let s = f.0 in omega (arith, e, s))
  | inr d ↦ (let l = given-below (n + 1) backs h f.1 d in omega (arith, l))
]

-- the handle that was given has its number
pub has-number : (back : Option HNum) (h : HNum) (n : ℕ) → h.0 ≡ n → IfSome back (λ g. g ≡ h) → IfSome back (λ g. g.0 ≡ n)
has-number None h n e s = tt
has-number (Some g) h n e s = ap (λ (z : HNum). z.0) s ∙ e

-- one more
pub from-more : (n : ℕ) (backs : List (Option HNum)) (back : Option HNum) → AreFrom n backs → IfSome back (λ h. h.0 ≡ n + length backs) → AreFrom n (backs ++ back ∷ [])
from-more n [] None f e = tt
from-more n [] (Some h) f e = (omega (arith, e), tt)
from-more n (None ∷ backs) back f e = from-more (n + 1) backs back f (next back e)
  where
    next : (b : Option HNum) → IfSome b (λ h. h.0 ≡ n + length (None ∷ backs)) → IfSome b (λ h. h.0 ≡ n + 1 + length backs)
    next None e = tt
    next (Some h) e = omega (arith, e)
from-more n (Some g ∷ backs) back f e = (f.0, from-more (n + 1) backs back f.1 (next back e))
  where
    next : (b : Option HNum) → IfSome b (λ h. h.0 ≡ n + length (Some g ∷ backs)) → IfSome b (λ h. h.0 ≡ n + 1 + length backs)
    next None e = tt
    next (Some h) e = omega (arith, e)

-- a resolution and an abandoning close the cycle
pub resolved-on : (before after waiting answered answers : ℕ) (old new : Side ManagedReplay) (index cites : ℕ) (alive : List (Option HNum)) (out : ResolveOut)
    → AreFrom (length old.entries + answered) alive → length alive ≡ waiting → answers ≡ answered + waiting
    → Resolves counting before after old new index cites alive out → IsDriven old before waiting answered → IsDriven new after waiting answers
resolved-on before after waiting answered answers old new index cites alive out from long more r d = driven-below old new before after waiting waiting answered answers _ _ r.adds
    (λ h c. elim (Contains-append_cases old.state.adopted (handles_given (answers_of alive)) h c) [
      | inl o ↦ (let l = d.adopts h o in omega (arith, l, more))
      | inr g ↦ (let l = given-below (length old.entries + answered) alive h from g in omega (arith, l, long, more))
    ])
    (none-open None waiting refl) d

pub abandoned-on : (before after waiting answered : ℕ) (old new : Side ManagedReplay) (index : ℕ) (c : OpenCycle)
    → Abandons counting before after old new index c → IsDriven old before waiting answered → IsDriven new after waiting answered
abandoned-on before after waiting answered old new index c a d = driven-on old new before after waiting waiting answered _ nothing a (λ h k. inl k) (none-open None waiting refl) d

-- so many answers may close the open cycle
pub may-close : (s : Side ManagedReplay) (count waiting answered : ℕ) (c : OpenCycle) (alive : List (Option HNum)) → IsDriven s count waiting answered
    → s.state.managed.cycle ≡ Some c → length alive ≡ waiting → AreFrom (length s.entries + answered) alive → MayClose s.state alive
may-close s count waiting answered c alive d o l from = record {
  answers = record { cycle = c; opened = o; one_each = l ∙ sym (d.waits c o) };
  new = new-from (length s.entries + answered) s.state.adopted alive from d.adopts;
}

nothing-at : (i : ℕ) (xs : List ℕ) (comps : List (List ℕ)) → comps ≡ [] → slice_get comps i ≡ Some xs → ⊥
nothing-at i xs comps e q = let f : length comps ≡ 0 = ap (λ (l : List (List ℕ)). length l) e in let l = slice_get_within comps i xs q in absurd (omega (arith, f, l))

-- nothing dead has no component
nothing-dead : (s : Managed) (dead : List ℕ) → dead ≡ [] → IsDeadContraction s dead [] [] []
nothing-dead s dead e = record {
  canonical = record { members = All-nil Rises; some = All-nil (λ (members : List ℕ). 0 < length members); order = tt; rising = tt };
  members = λ x. (λ u. absurd (nothing-at u.0 u.1.0 [] refl u.1.1), λ u. absurd (Contains-nil x (subst (λ xs. Contains xs x) e u.0)));
  together = λ i j x y u v. absurd (nothing-at i u.0 [] refl u.1);
  heavy_rise = tt;
  heavies = λ x. (λ c. absurd (Contains-nil x c), λ u. absurd (none-leads x u.0.ins u.0.lead_in u.0.some_in));
  references = λ i j. (λ c. absurd (Contains-nil (i, j) c), λ u. absurd (omega (arith, u.0)));
}
  where
    none-leads : (x : ℕ) (ins : List ℕ) → All (LeadsIn (λ m. Contains dead m × IsBridge s m) (DeadEdge s dead) x) ins → 3 ≤ length ins → ⊥
    none-leads x [] a l = omega (arith, l)
    none-leads x (b ∷ bs) a l = Contains-nil b (subst (λ xs. Contains xs b) e (All-head (LeadsIn (λ m. Contains dead m × IsBridge s m) (DeadEdge s dead) x) b bs a).0.member.0)

-- so a cycle with nothing dead may be contracted
pub may-contract : (before after : ℕ) (old new : Side ManagedReplay) (index : ℕ) (pins : List (Option ℕ)) (out : Opened)
    → OpensBySnap counting before after old new index pins out → length out.graph.nodes ≡ 0 → MayContractWith new.state 0 0
may-contract before after old new index pins out s none =
    let c : OpenCycle = record { number = old.state.managed.cycles + 1; candidates = s.candidates; dead = s.dead } in
    let opened : new.state.managed.cycle ≡ Some c = ap (λ (z : ManagedReplay). z.managed.cycle) s.adds.goes.state in
    let empty : s.dead ≡ [] = sym s.graph.numbers ∙ ap numbers_of (nil_from_length out.graph.nodes none) in record {
      cycle = c;
      opened = opened;
      comps = [];
      heavy = [];
      pairs = [];
      contracted = record {
        may = record { cycle = c; open_cycle = (opened, refl); once = ap (λ (z : ManagedReplay). z.contracted) s.adds.goes.state; exact = nothing-dead new.state.managed s.dead empty };
        components = refl;
        references = refl;
      };
    }

-- a contraction and a refusal leave an open cycle as it is
pub contracted-on : (before after waiting answered : ℕ) (old new : Side ManagedReplay) (index : ℕ) (x : MayContractWith old.state 0 0)
    → ((c : OpenCycle) → old.state.managed.cycle ≡ Some c → Contracts counting before after old new index 0 0 c) → IsDriven old before waiting answered → IsDriven new after waiting answered
contracted-on before after waiting answered old new index x made d = driven-still old new before after waiting answered _ _
    ((made x.cycle x.opened).adds x.comps x.heavy x.pairs x.contracted) (λ h k. inl k) refl d

pub refused-on : (before after waiting answered : ℕ) (old new : Side ManagedReplay) (index : ℕ) (word : PhaseWord) (r : Reply) (phase : Phase)
    → AddsLawful managed_rules counting before after old new (step_made C index (op.Refused word) r None) (phase_of phase) → IsDriven old before waiting answered → IsDriven new after waiting answered
refused-on before after waiting answered old new index word r phase a d = driven-still old new before after waiting answered _ (phase_of phase) a (λ h k. inl k) refl d
