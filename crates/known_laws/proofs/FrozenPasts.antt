-- Two pasts in which the driver did the same have the same open cycle, with the same handles and fields of its dead
-- part. Another thread's entry changes neither, since no slot names a row of the dead part. The snapshot itself is one
-- entry of one managed line, so it left the same in both. So what the driver's events ask of the managed objects is the
-- same, and so is the contraction.
use Rattle.std.proofs.Common.{◌≡◌, ⊎_elim, ℕ, zero, suc, ◌+◌, ◌≤◌, Bool, true, false, List, [], ◌∷◌, length, map, Option, Some, None, refl, sym, ap, ◌∙◌, subst, arith}
use Rattle.std.specs.Prelude.{slice_get, Contains}
use Rattle.std.proofs.lemmas.Bool.{cases_Bool}
use Rattle.std.proofs.lemmas.Option.{same_Some}
use base.Growing.{prefix_anti}
use Rattle.joint_machine.specs.declared.names.Thread.{Thread}
use Rattle.joint_machine.specs.declared.names.Thread.TheVariants.{M, P, C}
use Rattle.joint_machine.specs.declared.events.Op.{Op}
use Rattle.joint_machine.specs.declared.events.Op.TheVariants as op
use Rattle.joint_machine.specs.declared.events.Made.{Made}
use Rattle.joint_machine.specs.Components.{mirror_edges, IsContraction, End, node, temporary}
use Rattle.joint_machine.specs.Control.{peer_of_row, carried_end}
use Rattle.joint_machine.specs.Heaps.{place, slot, fields_of}
use Rattle.joint_machine.specs.Cycles.{IsDeadContraction, DeadEdge}
use Rattle.joint_machine.specs.Lines.{IsEvent, is_peer_event, is_read}
use Rattle.joint_machine.specs.Linked.{Linkage, SideLawful, managed_after, linkage_after}
use Rattle.joint_machine.specs.Managed.{Managed, OpenCycle, IsBridge, adopted, met, given_up, handle_of}
use Rattle.joint_machine.specs.ManagedReplay.{ManagedReplay, ManagedAllows, managed_answer, registered}
use Rattle.joint_machine.specs.Peers.{Issued, peer_of}
use Rattle.joint_machine.specs.Run.{thread_number}
use Rattle.joint_machine.specs.Told.{Told, Noted}
use Rattle.joint_machine.proofs.Deciding.{none_some}
use Rattle.joint_machine.proofs.HeapLemmas.{Holds-handle_of, adopt_by-managed, candidates_of-open}
use Rattle.joint_machine.proofs.Members.{Contains-at, Contains-here, Contains-there}
use Rattle.joint_laws.specs.LinkedInvariants.{DriverInvariant, IsContracted}
use Rattle.joint_laws.specs.ManagedInvariants.{ManagedInvariant, ReplayInvariant}
use Rattle.joint_laws.proofs.ManagedKeeping.{dead-held, dead-fields, cut_on}
use Rattle.joint_laws.proofs.ManagedMoves.{GoesOn, GoesOn-stay, managed_line-goes_on, adopted-goes_on, met-goes_on, given_up-goes_on}
use Rattle.joint_laws.proofs.ManagedSteps.{meet_by-managed, give_by-managed, twin-live}
use Rattle.joint_laws.proofs.DriverPeerSteps.{holds-handle_of}
use Rattle.joint_laws.proofs.SameGraphs.{contraction-same}
use Rattle.joint_laws.proofs.Mirrors.{edge-ends, IsEnd}
use Rattle.known_laws.specs.Pasts.{is_in, line, of_line, end_of, Lawful, Within, HasSameDeadPart, IsSameForDriver, IsFrozenIn, KnownPastsJoin, EntryMayMove, driver_line}
use Rattle.joint_machine.specs.HistoryLines.{caller_line}
use Rattle.known_laws.proofs.PastLines.{off, in_role, in_own, line_in, line_out, snoc_same, snoc_some, shorter_begins}
use Rattle.joint_machine.specs.PinsTold.{bare_told, with_pins}
use Rattle.joint_laws.proofs.LinkedEntries.{Of}
use Rattle.known_laws.specs.Known.{Comes, SideMayCome, given, without_pins, managed_past, past_after}
use Rattle.known_laws.proofs.Pinned.{kept_pinned}
use Rattle.known_laws.proofs.Later.{kept_end, side_after, reads_leave}
use Rattle.known_laws.proofs.Moving.{may_move}
use Rattle.known_laws.proofs.Parts.{role_by, same_managed}
use Rattle.known_laws.proofs.PastsJoin.{below, within_past, behind_past, pasts_join}
use Rattle.joint_laws.proofs.ManagedEntries.{handle-same}

-- an event of another thread than the driver's goes on
pub goes_on : (s : ManagedReplay) (t : Thread) (o : Op) (told : Told) → (t ≡ C → ⊥) → IsEvent t o
    → ReplayInvariant s → ManagedAllows s o told → GoesOn s.managed (managed_answer s t o told).state.managed
goes_on s C o told n e k w = absurd (n refl)
goes_on s t (op.Line a) told n e k w = managed_line-goes_on s.managed (thread_number t) a k.managed.places k.managed.cells
goes_on s t (op.Adopt v kind f p h) told n e k w =
    let a = adopted s.managed (place (thread_number t) v.0) kind f h.0 in
    subst (GoesOn s.managed) (sym (adopt_by-managed s p.0 h.0 a.state a.reply)) (adopted-goes_on s.managed (place (thread_number t) v.0) kind f h.0 k.managed.places)
goes_on s t (op.Lend v x) told n e k w = GoesOn-stay s.managed
goes_on s t (op.Meet v sort f p h) told n e k w =
    let a = met s.managed (place (thread_number t) v.0) h.0 sort f (registered s.registry p.0) in
    subst (GoesOn s.managed) (sym (meet_by-managed s p.0 h.0 a.state a.reply))
    (met-goes_on s.managed (place (thread_number t) v.0) h.0 sort f (registered s.registry p.0) k.managed.places (λ m q. twin-live s p.0 m k q))
goes_on s t (op.Give v) told n e k w =
    let u = place (thread_number t) v.0 in
    subst (GoesOn s.managed) (sym (give_by-managed s (slot s.managed.heap.vars u) (given_up s.managed u))) (given_up-goes_on s.managed u)
goes_on s (M u) (op.Snap k') told n e k w = absurd e
goes_on s (P u) (op.Snap k') told n e k w = absurd e
goes_on s (M u) (op.Contract k') told n e k w = absurd e
goes_on s (P u) (op.Contract k') told n e k w = absurd e
goes_on s (M u) (op.Resolve k') told n e k w = absurd e
goes_on s (P u) (op.Resolve k') told n e k w = absurd e
goes_on s (M u) (op.Abandon k') told n e k w = absurd e
goes_on s (P u) (op.Abandon k') told n e k w = absurd e
goes_on s (M u) (op.Refused r) told n e k w = absurd e
goes_on s (P u) (op.Refused r) told n e k w = absurd e
goes_on s t _ told n e k w = absurd w

pub goes_by : (s : ManagedReplay) (x : Made) (told : Told) (c : Bool) (full : Linkage) → full.managed ≡ s → (x.caller ≡ C → ⊥)
    → IsEvent x.caller x.op → ReplayInvariant s → SideLawful c full x told → GoesOn s.managed (managed_after s x told c).managed
goes_by s x told true full q n e k w = GoesOn-stay s.managed
goes_by s x told false full q n e k w = goes_on s x.caller x.op told n e k (subst (λ z. ManagedAllows z x.op told) q w.allowed)

-- the one state has the open cycle of the other, with its dead part's handles and fields
pub data Alike (s t : Managed) : Type 0 where
  closed : s.cycle ≡ None → t.cycle ≡ None → Alike s t
  open_one : (c : OpenCycle) → s.cycle ≡ Some c → t.cycle ≡ Some c → ((m : ℕ) → Contains c.dead m → (handle_of s m ≡ handle_of t m) × (fields_of s.heap m ≡ fields_of t.heap m)) → Alike s t

alike_flip : (s t : Managed) → Alike s t → Alike t s
alike_flip s t (closed a b) = closed b a
alike_flip s t (open_one c a b h) = open_one c b a (λ m d. (sym (h m d).0, sym (h m d).1))

pub alike_self : (s : Managed) → Alike s s
alike_self s = by s.cycle refl
  where
    by : (o : Option OpenCycle) → s.cycle ≡ o → Alike s s
    by None e = closed e e
    by (Some c) e = open_one c e e (λ m d. (refl, refl))

pub alike_meet : (s t u : Managed) → Alike s t → Alike u t → Alike s u
alike_meet s t u (closed a b) (closed c d) = closed a c
alike_meet s t u (closed a b) (open_one e c d h) = absurd (none_some e (sym b ∙ d))
alike_meet s t u (open_one e a b h) (closed c d) = absurd (none_some e (sym d ∙ b))
alike_meet s t u (open_one e a b h) (open_one f c d g) =
    let same : f ≡ e = same_Some f e (sym d ∙ b) in
    open_one e a (c ∙ ap Some same) (λ m w. let v = g m (subst (λ (z : OpenCycle). Contains z.dead m) (sym same) w) in ((h m w).0 ∙ sym v.0, (h m w).1 ∙ sym v.1))

pub alike_on : (s u t : Managed) → ManagedInvariant s → GoesOn s u → Alike s t → Alike u t
alike_on s u t k g (closed a b) = closed (g.cycle ∙ a) b
alike_on s u t k g (open_one c a b h) = open_one c (g.cycle ∙ a) b
    (λ m d. (handle-same s u m ((k.dead c a).live m d) ((cut_on s u k g c a).live m d) (dead-held s u k g c a m d) ∙ (h m d).0, dead-fields s u k g c a m d ∙ (h m d).1))

-- pins are no part of it
pub alike_pinned : (s : ManagedReplay) (t : Managed) (p : List (Option ℕ)) → Alike s.managed t → Alike (with_pins s p).managed t
alike_pinned s t p (closed a b) = closed a b
alike_pinned s t p (open_one c a b h) = open_one c a b h

-- an entry of a side's list that goes on, in the state with the pins that are told
pub alike_goes : (s : Linkage) (x : Noted) (t : Managed) → Of s → is_read x.entry.made.op ≡ false → SideMayCome s x
    → GoesOn (given s x.told).managed.managed (linkage_after (given s x.told) (without_pins x)).managed.managed
    → Alike s.managed.managed t → Alike (past_after s x).managed.managed t
alike_goes s x t k e c g w =
    let f = side_after s x e in
    let m = linkage_after (given s x.told) (without_pins x) in
    let on = alike_on (given s x.told).managed.managed m.managed.managed t (kept_pinned s _ c.stand k).managed.managed g (alike_pinned s.managed t _ w) in
    subst (λ (z : Linkage). Alike z.managed.managed t) (sym f.same) (alike_pinned m.managed t f.pins on)

alike_after : (a : List Noted) (x : Noted) (t : Managed) → is_in driver_line x ≡ false → Lawful (x ∷ a) → Alike (end_of a).managed.managed t → Alike (end_of (x ∷ a)).managed.managed t
alike_after a x t n l w = by (is_read x.entry.made.op) refl l.0.comes
  where
    by : (r : Bool) → is_read x.entry.made.op ≡ r → Comes r (end_of a) x → Alike (end_of (x ∷ a)).managed.managed t
    by true e c = subst (λ (z : ManagedReplay). Alike z.managed t) (sym (reads_leave (end_of a).managed x e)) w
    by false e c =
        let g = given (end_of a) x.told in
        alike_goes (end_of a) x t (kept_end a l.1) e c (goes_by g.managed x.entry.made (bare_told x.told) (is_peer_event x.entry.made.caller x.entry.made.op) g refl
        (λ q. off (sym n ∙ subst (λ i. is_in i x ≡ true) (ap (λ z. caller_line z) q) (in_own x))) c.comes.event (kept_pinned (end_of a) _ c.stand (kept_end a l.1)).managed c.comes.lawful) w

module _ (whole : List Noted) where
  -- where both pasts have one latest entry, what is behind it has one line of the managed side
  pub one_behind : (i : ℕ) (x : Noted) (a b : List Noted) → Lawful (x ∷ a) → Lawful (x ∷ b) → Within whole (x ∷ a) → Within whole (x ∷ b) → is_in i x ≡ true → line i a ≡ line i b
  one_behind i x a b la lb wa wb t =
      let m = behind_past whole i x a b wa (within_past whole x b wb) (λ e p. below x b e lb.0 lb.1 p) t in
      let n = behind_past whole i x b a wb (within_past whole x a wa) (λ e p. below x a e la.0 la.1 p) t in
      prefix_anti (line i a) (line i b)
      (shorter_begins (line i a) (line i b) (of_line i whole) (within_past whole x a wa i) (within_past whole x b wb i) n)
      (shorter_begins (line i b) (line i a) (of_line i whole) (within_past whole x b wb i) (within_past whole x a wa i) m)

  both_had : (x : Noted) (a b : List Noted) → Lawful (x ∷ a) → Lawful (x ∷ b) → Within whole (x ∷ a) → Within whole (x ∷ b)
      → Alike (end_of a).managed.managed (end_of b).managed.managed → Alike (end_of (x ∷ a)).managed.managed (end_of (x ∷ b)).managed.managed
  both_had x a b la lb wa wb w = by (is_peer_event x.entry.made.caller x.entry.made.op) (is_read x.entry.made.op) refl refl
    where
      by : (c r : Bool) → is_peer_event x.entry.made.caller x.entry.made.op ≡ c → is_read x.entry.made.op ≡ r
          → Alike (managed_past (end_of a).managed x.entry.made x.told c r).managed (managed_past (end_of b).managed x.entry.made x.told c r).managed
      by true r e f = w
      by false true e f = w
      by false false e f =
          let same = same_managed a b (one_behind 0 x a b la lb wa wb (subst (λ i. is_in i x ≡ true) (role_by x false false e f) (in_role x))) in
          subst (λ (z : ManagedReplay). Alike (managed_past (end_of a).managed x.entry.made x.told false false).managed (managed_past z x.entry.made x.told false false).managed) same (alike_self _)

  alike : (k : ℕ) (a b : List Noted) → length a + length b ≤ k → Lawful a → Lawful b → Within whole a → Within whole b
      → line driver_line a ≡ line driver_line b → Alike (end_of a).managed.managed (end_of b).managed.managed
  alike k [] [] l la lb wa wb e = closed refl refl
  alike zero (x ∷ a) b l la lb wa wb e = absurd (omega arith)
  alike zero [] (y ∷ b) l la lb wa wb e = absurd (omega arith)
  alike (suc k) [] (y ∷ b) l la lb wa wb e = ⊎_elim
      (λ (t : is_in driver_line y ≡ true). absurd (snoc_some (line driver_line b) y (sym (line_in driver_line y b t) ∙ sym e)))
      (λ (n : is_in driver_line y ≡ false). alike_flip _ _ (alike_after b y _ n lb
      (alike_flip _ _ (alike k [] b (omega arith) la lb.1 wa (within_past whole y b wb) (e ∙ line_out driver_line y b n)))))
      (cases_Bool (is_in driver_line y))
  alike (suc k) (x ∷ a) [] l la lb wa wb e = ⊎_elim
      (λ (t : is_in driver_line x ≡ true). absurd (snoc_some (line driver_line a) x (sym (line_in driver_line x a t) ∙ e)))
      (λ (n : is_in driver_line x ≡ false). alike_after a x _ n la (alike k a [] (omega arith) la.1 lb (within_past whole x a wa) wb (sym (line_out driver_line x a n) ∙ e)))
      (cases_Bool (is_in driver_line x))
  alike (suc k) (x ∷ a) (y ∷ b) l la lb wa wb e = ⊎_elim
      (λ (t : is_in driver_line x ≡ true). ⊎_elim
      (λ (u : is_in driver_line y ≡ true).
      let s = snoc_same (line driver_line a) (line driver_line b) x y (sym (line_in driver_line x a t) ∙ (e ∙ line_in driver_line y b u)) in
      let w = alike k a b (omega arith) la.1 lb.1 (within_past whole x a wa) (within_past whole y b wb) s.0 in
      subst (λ z. Alike (end_of (x ∷ a)).managed.managed (end_of (z ∷ b)).managed.managed) s.1
      (both_had x a b la (subst (λ z. Lawful (z ∷ b)) (sym s.1) lb) wa (subst (λ z. Within whole (z ∷ b)) (sym s.1) wb) w))
      (λ (n : is_in driver_line y ≡ false). alike_flip _ _ (alike_after b y _ n lb
      (alike_flip _ _ (alike k (x ∷ a) b (omega arith) la lb.1 wa (within_past whole y b wb) (e ∙ line_out driver_line y b n)))))
      (cases_Bool (is_in driver_line y)))
      (λ (n : is_in driver_line x ≡ false). alike_after a x _ n la (alike k a (y ∷ b) (omega arith) la.1 lb (within_past whole x a wa) wb (sym (line_out driver_line x a n) ∙ e)))
      (cases_Bool (is_in driver_line x))

map_same : {A B : Type 0} (f g : A → B) (xs : List A) → ((x : A) → Contains xs x → f x ≡ g x) → map f xs ≡ map g xs
map_same f g [] h = refl
map_same f g (x ∷ xs) h = λ i. h x (Contains-here x xs) i ∷ map_same f g xs (λ y c. h y (Contains-there y x xs c)) i

row_same : (s t : Managed) (issued : List Issued) (m : ℕ) → handle_of s m ≡ handle_of t m → peer_of_row s issued m ≡ peer_of_row t issued m
row_same s t issued m e = ap (λ o. elim o [ None ↦ 0 | Some h ↦ elim (peer_of issued h) [ None ↦ 0 | Some p ↦ p ] ]) e

end_same : (s t : Managed) (issued : List Issued) (bridge : ℕ → Type 0) (edge : ℕ → ℕ → Type 0) (comps : List (List ℕ)) (heavy : List ℕ) (xrefs : List (ℕ × ℕ))
    (k : IsContraction bridge edge comps heavy xrefs) → ((m : ℕ) → bridge m → handle_of s m ≡ handle_of t m) → (e : End) → IsEnd bridge edge comps heavy xrefs k e
    → carried_end s issued e ≡ carried_end t issued e
end_same s t issued bridge edge comps heavy xrefs k h (node m) w = ap node (row_same s t issued m (h m w))
end_same s t issued bridge edge comps heavy xrefs k h (temporary i) w = refl

pub frozen_in : (whole : List Noted) → IsFrozenIn whole
frozen_in whole a b la lb wa wb e = by (alike whole (length a + length b) a b (omega arith) la lb wa wb e)
  where
    by : Alike (end_of a).managed.managed (end_of b).managed.managed → IsSameForDriver (end_of a) (end_of b)
    by (closed x y) = record {
      candidates = ap (λ o. elim o [ None ↦ [] | Some c ↦ c.candidates ]) (x ∙ sym y);
      handles = λ i h w. absurd (none_get i w.0 (subst (λ (o : Option OpenCycle). slice_get (elim o [ None ↦ [] | Some c ↦ c.candidates ]) i ≡ Some w.0) x w.1));
      edges = λ o comps heavy xrefs issued q. let d : IsContracted (end_of b).managed
          (end_of b).peer o comps heavy xrefs = subst (DriverInvariant (end_of b).managed (end_of b).peer) q (kept_end b lb).driver in
          absurd (none_some _ (sym y ∙ d.before.opened.cycle));
    }
      where
        none_get : (i : ℕ) (m : ℕ) → slice_get [] i ≡ Some m → ⊥
        none_get i m w = absurd (cc)
    by (open_one c x y h) = record {
      candidates = candidates_of-open (end_of a).managed.managed c x ∙ sym (candidates_of-open (end_of b).managed.managed c y);
      handles = λ i g w.
          let at : slice_get c.candidates i ≡ Some w.0 = subst (λ z. slice_get z i ≡ Some w.0) (candidates_of-open (end_of a).managed.managed c x) w.1 in
          let dead = ((((kept_end a la).managed.managed.dead c x).candidates w.0).0 (Contains-at c.candidates i w.0 at)).0 in
          (w.0, subst (λ z. slice_get z i ≡ Some w.0) (sym (candidates_of-open (end_of b).managed.managed c y)) at, sym (h w.0 dead).0 ∙ w.2);
      edges = λ o comps heavy xrefs issued q.
          let d : IsContracted (end_of b).managed (end_of b).peer o comps heavy xrefs = subst (DriverInvariant (end_of b).managed (end_of b).peer) q (kept_end b lb).driver in
          let is : d.before.cycle ≡ c = same_Some _ _ (sym d.before.opened.cycle ∙ y) in
          map_same _ _ (mirror_edges comps xrefs) (λ g w.
          let ends = edge-ends _ _ comps heavy xrefs d.contraction g.0 g.1 w in
          let same = λ (m : ℕ) (q : Contains d.before.cycle.dead m × IsBridge (end_of b).managed.managed m). (h m (subst (λ (z : OpenCycle). Contains z.dead m) is q.0)).0 in
          (λ k. (
            end_same (end_of a).managed.managed (end_of b).managed.managed issued _ _ comps heavy xrefs d.contraction same g.0 ends.0 k,
            end_same (end_of a).managed.managed (end_of b).managed.managed issued _ _ comps heavy xrefs d.contraction same g.1 ends.1 k,
          )));
    }

-- the graph of the dead part is the same, and so is its contraction
bridge-on : (s t : Managed) (m : ℕ) → ManagedInvariant t → handle_of s m ≡ handle_of t m → IsBridge s m → IsBridge t m
bridge-on s t m k e b = (b.0, holds-handle_of t m b.0 k.places (sym e ∙ Holds-handle_of s m b.0 b.1))

edge-on : (s t : Managed) (c : OpenCycle) → ManagedInvariant t → t.cycle ≡ Some c
    → ((m : ℕ) → Contains c.dead m → fields_of s.heap m ≡ fields_of t.heap m) → (x y : ℕ) → DeadEdge s c.dead x y → DeadEdge t c.dead x y
edge-on s t c k o f x y e = (record { live = (k.dead c o).live x e.1; field = subst (λ fs. Contains fs (Some y)) (f x e.1) e.0.field; there = (k.dead c o).live y e.2 }, e.1, e.2)

-- states that are so have the same dead part
pub dead_part-alike : (s t : Managed) → ManagedInvariant s → ManagedInvariant t → Alike s t → HasSameDeadPart s t
dead_part-alike s t ks kt (closed x y) = record {
  cycle = x ∙ sym y;
  handles = λ c o m d. absurd (none_some c (sym x ∙ o));
  fields = λ c o m d. absurd (none_some c (sym x ∙ o));
  contraction = λ c o comps heavy xrefs w. absurd (none_some c (sym x ∙ o));
}
dead_part-alike s t ks kt (open_one d x y h) = record { cycle = x ∙ sym y; handles = λ c o m w. (same c o m w).0; fields = λ c o m w. (same c o m w).1; contraction = contraction }
  where
    same : (c : OpenCycle) → s.cycle ≡ Some c → (m : ℕ) → Contains c.dead m → (handle_of s m ≡ handle_of t m) × (fields_of s.heap m ≡ fields_of t.heap m)
    same c o m w = h m (subst (λ (z : OpenCycle). Contains z.dead m) (same_Some c d (sym o ∙ x)) w)

    contraction : (c : OpenCycle) → s.cycle ≡ Some c → (comps : List (List ℕ)) (heavy : List ℕ) (xrefs : List (ℕ × ℕ))
        → IsDeadContraction s c.dead comps heavy xrefs → IsDeadContraction t c.dead comps heavy xrefs
    contraction c o comps heavy xrefs w =
        let oc : t.cycle ≡ Some c = y ∙ ap Some (same_Some d c (sym x ∙ o)) in
        contraction-same (λ m. Contains c.dead m × IsBridge s m) (λ m. Contains c.dead m × IsBridge t m) (DeadEdge s c.dead) (DeadEdge t c.dead) comps heavy xrefs
        (λ m. (λ q. (q.0, bridge-on s t m kt (same c o m q.0).0 q.1), λ q. (q.0, bridge-on t s m ks (sym (same c o m q.0).0) q.1)))
        (λ u v. (edge-on s t c kt oc (λ m q. (same c o m q).1) u v, edge-on t s c ks o (λ m q. sym (same c o m q).1) u v)) w

pub same_dead_part : (whole a b : List Noted) → Lawful a → Lawful b → Within whole a → Within whole b
    → line driver_line a ≡ line driver_line b → HasSameDeadPart (end_of a).managed.managed (end_of b).managed.managed
same_dead_part whole a b la lb wa wb e = dead_part-alike (end_of a).managed.managed (end_of b).managed.managed
    (kept_end a la).managed.managed (kept_end b lb).managed.managed (alike whole (length a + length b) a b (omega arith) la lb wa wb e)

pub known_pasts_join : KnownPastsJoin
known_pasts_join whole a b runs la lb wa wb = pasts_join whole a b runs (frozen_in whole) la lb wa wb

pub entry_may_move : EntryMayMove
entry_may_move whole a b la lb wa wb x role own later may = may_move a b x (λ e. frozen_in whole a b la lb wa wb (subst (λ i. line i a ≡ line i b) e own)) role own later may
