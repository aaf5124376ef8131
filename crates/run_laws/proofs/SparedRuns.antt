-- The run is followed beside the list of entries: where a marking is open, it spares each peer that was reached at a
-- moment since its begin; so its sweep frees none.
use Rattle.std.proofs.Common.{◌≡◌, ℕ, zero, suc, ◌+◌, ◌<◌, ◌≤◌, inl, inr, true, false, List, [], ◌∷◌, map, Option, Some, None, refl, sym, ap, subst, ◌∙◌, arith}
use Rattle.std.specs.Prelude.{Contains, slice_get}
use Rattle.std.proofs.lemmas.Bool.{cases_lt}
use Rattle.std.proofs.lemmas.Option.{same_Some}
use Rattle.joint_machine.specs.declared.events.Reply.TheVariants as says
use Rattle.joint_machine.specs.Headline.{SweepsAt, BeginsAt, IsUnreachedAt}
use Rattle.joint_machine.specs.Joint.{Joint, JointMarking, opening, peer, IsReached}
use Rattle.joint_machine.specs.Linked.{Linkage, MayCome, opening_linkage, linkage_after, SideLawful}
use Rattle.joint_machine.specs.LinkedHistories.{joint_projection}
use Rattle.joint_machine.specs.Lines.{is_peer_event}
use Rattle.joint_machine.specs.declared.names.Thread.{Thread}
use Rattle.joint_machine.specs.declared.events.Op.{Op}
use Rattle.joint_machine.specs.declared.events.Op.TheVariants as op
use Rattle.joint_machine.specs.declared.events.Reply.{Reply}
use Rattle.joint_machine.specs.PeerReplay.{Marking, SweepAllows}
use Rattle.joint_machine.specs.Replaying.{AllMayCome, machine_entries}
use Rattle.joint_machine.specs.Run.{Moment, JointStep, IsRunFrom, IsRun}
use Rattle.joint_machine.specs.Told.{Told, Noted, sweep_of}
use Rattle.joint_machine.proofs.Deciding.{none_some}
use Rattle.joint_laws.specs.JointAgreement.{AreSameMarkings}
use Rattle.joint_laws.specs.PeerInvariants.{IsSpared}
use Rattle.joint_laws.specs.ReadingLaws.{without_aside, IsLawfulReading}
use Rattle.run_laws.specs.PeersKept.{SparesReached}
use Rattle.joint_laws.proofs.JointRuns.{Stands, state_of, Enters, by_step, at_rest, enters, projected, Stands-opening, opening-state}
use Rattle.joint_laws.proofs.JointSince.{peer-entry}
use Rattle.joint_laws.proofs.OneRun.{one-step, heads-same, tails-same, cons-nil}
use Rattle.joint_laws.proofs.ReadsAside.{reading_is_lawful, reading_projects_so}
use Rattle.joint_laws.proofs.RunsAreSound.{MarkingCase, stays, ends, opens, marking-case, sweep-ends}
use Rattle.joint_laws.proofs.SparedWalks.{reached-spared}
use Rattle.joint_laws.proofs.Sparing.{spared-stays}

-- the joint marking of an open one of the peer side, and the other way round
joint-there : (x : Option Marking) (jm : Option JointMarking) → AreSameMarkings x jm → (mk : Marking) → x ≡ Some mk → (y : JointMarking) × (jm ≡ Some y) × (y.number ≡ mk.number)
joint-there None jm w mk e = absurd (none_some mk e)
joint-there (Some m) None w mk e = absurd w
joint-there (Some m) (Some y) w mk e = (y, refl, w.number ∙ ap (λ (z : Marking). z.number) (same_Some m mk e))

peer-there : (x : Option Marking) (jm : Option JointMarking) → AreSameMarkings x jm → (y : JointMarking) → jm ≡ Some y → (mk : Marking) × (x ≡ Some mk) × (y.number ≡ mk.number)
peer-there None None w y e = absurd (none_some y e)
peer-there None (Some j) w y e = absurd w
peer-there (Some m) None w y e = absurd (none_some y e)
peer-there (Some m) (Some j) w y e = (m, refl, ap (λ (z : JointMarking). z.number) (sym (same_Some j y e)) ∙ w.number)

-- what a sweep asks for
swept-allows : (s : Linkage) (t : Thread) (line : ℕ) (o : Op) (reply : Reply) (cites : Option ℕ) (told : Told) (freed : List ℕ) → o ≡ op.Sweep → told ≡ sweep_of freed
    → SideLawful (is_peer_event t o) s (record { caller = t; index = line; op = o; reply = reply; cites = cites }) told → SweepAllows s.peer s.peer.marking t (sweep_of freed)
swept-allows s t line o reply cites told freed e f w =
    subst (λ z. SweepAllows s.peer s.peer.marking t z) f
    (subst (λ z. SideLawful (is_peer_event t z) s (record { caller = t; index = line; op = z; reply = reply; cites = cites }) told) e w).allowed

-- where the marking was begun, before place i, and that it spares each peer that was reached since
record IsSparingSince (run : List Moment) (i : ℕ) (mk : Marking) : Type 0 where
  begin : ℕ
  earlier : begin < i
  begins : BeginsAt run begin mk.number
  spares : (a p : ℕ) (x : Moment) → begin ≤ a → a < i → slice_get run a ≡ Some x → IsReached x.after (peer p) → IsSpared mk p

abbrev Knows : List Moment → ℕ → Linkage → Type 0
Knows run i s = (mk : Marking) → s.peer.marking ≡ Some mk → IsSparingSince run i mk

-- what is to be shown of the sweep of marking k at place i, for each peer that it frees
abbrev Spares : List Moment → ℕ → ℕ → ℕ → Type 0
Spares run i k p = (begin : ℕ) × (begin < i) × BeginsAt run begin k × ((a : ℕ) → begin ≤ a → a < i → IsUnreachedAt run a (peer p))

module _ (run : List Moment) (all : IsRunFrom opening run) where
  module _ (s : Linkage) (n : Noted) (w : Stands s) (v : Stands (linkage_after s n)) (may : MayCome s n) (i : ℕ) (known : Knows run i s) where
    abbrev t : Linkage
    t = linkage_after s n

    -- a marking that stays open
    carry : v.marking ≡ w.marking → Knows run i t
    carry q mk f =
        let y = joint-there t.peer.marking v.marking v.agrees.markings mk f in
        let o = peer-there s.peer.marking w.marking w.agrees.markings y.0 (sym q ∙ y.1) in
        let k = known o.0 o.1 in
        record {
          begin = k.begin;
          earlier = k.earlier;
          begins = subst (λ z. BeginsAt run k.begin z) (sym o.2 ∙ y.2) k.begins;
          spares = λ a p x l u e r. (peer-entry s n w.kept).spares o.0 mk o.1 f p (k.spares a p x l u e r);
        }

    -- the entry's moment is at place i
    module _ (m : Moment) (there : slice_get run i ≡ Some m) (noted : m.noted ≡ n) (before : m.before ≡ state_of s w) (after : m.after ≡ state_of t v) where
      now-spared : (mk : Marking) → t.peer.marking ≡ Some mk → (a p : ℕ) (x : Moment) → a ≡ i → slice_get run a ≡ Some x → IsReached x.after (peer p) → IsSpared mk p
      now-spared mk f a p x same e r =
          let here : x ≡ m = same_Some x m (sym e ∙ (ap (λ z. slice_get run z) same ∙ there)) in
          reached-spared t.managed t.peer t.control.doing t.control.stand v.kept mk f v.flags v.marking v.agrees.removed p
          (subst (λ z. IsReached z (peer p)) (ap (λ (z : Moment). z.after) here ∙ after) r)

      known-next : MarkingCase (state_of s w) n.entry.made.op n.entry.made.reply (state_of t v) → Knows run (suc i) t
      known-next (stays q) mk f =
          let k = carry q mk f in
          record {
            begin = k.begin;
            earlier = (let l = k.earlier in omega arith);
            begins = k.begins;
            spares = λ a p x l u e r. elim (cases_lt a i) [
              | inl c ↦ k.spares a p x l c e r
              | inr c ↦ now-spared mk f a p x (omega (arith, c, u)) e r
            ];
          }
      known-next (ends q) mk f = absurd (let y = joint-there t.peer.marking v.marking v.agrees.markings mk f in none_some y.0 (sym q ∙ y.1))
      known-next (opens z o reply q g) mk f =
          let y = joint-there t.peer.marking v.marking v.agrees.markings mk f in
          let number : z.number ≡ mk.number = ap (λ (x : JointMarking). x.number) (same_Some z y.0 (sym q ∙ y.1)) ∙ y.2 in
          record {
            begin = i;
            earlier = omega arith;
            begins = record {
              element = m;
              there = there;
              is = (
                ap (λ (x : Noted). x.entry.made.op) noted ∙ o,
                ap (λ (x : Noted). x.entry.made.reply) noted ∙ (reply ∙ ap (λ x. says.Mark record { 0 = x }) number),
              );
            };
            spares = λ a p x l u e r. now-spared mk f a p x (omega (arith, l, u)) e r;
          }

      -- it is a sweep
      swept-here : (at k p : ℕ) (freed : List ℕ) → at ≡ i → SweepsAt run at k freed → Contains freed p → Spares run at k p
      swept-here at k p freed same sw c =
          let here : sw.element ≡ m = same_Some sw.element m (sym sw.there ∙ (ap (λ z. slice_get run z) same ∙ there)) in
          let entry : sw.element.noted ≡ n = ap (λ (z : Moment). z.noted) here ∙ noted in
          let z = sweep-ends run all at k freed sw in
          let o = peer-there s.peer.marking w.marking w.agrees.markings z.0
          (sym (ap (λ (x : Joint). x.marking) (ap (λ (x : Moment). x.before) here ∙ before)) ∙ z.1) in
          let allows = swept-allows s n.entry.made.caller n.entry.made.index n.entry.made.op n.entry.made.reply n.entry.made.cites n.told freed
          (ap (λ (x : Noted). x.entry.made.op) (sym entry) ∙ sw.is.0) (ap (λ (x : Noted). x.told) (sym entry) ∙ sw.is.3) may.lawful in
          let sweep = (subst (λ x. SweepAllows s.peer x n.entry.made.caller (sweep_of freed)) o.1 allows).1 in
          let g = known o.0 o.1 in (
            g.begin,
            (let l = g.earlier in omega (arith, l, same)),
            subst (λ x. BeginsAt run g.begin x) (sym o.2 ∙ z.2) g.begins,
            λ a l u x e r. spared-stays s.peer o.0 freed p sweep (g.spares a p x l (omega (arith, u, same)) e r) c,
          )

  -- what is to be shown of a later state, behind i moments of the run
  abbrev Goes : List Noted → Linkage → Type 0
  Goes ns t = (v : Stands t) (i : ℕ) → Knows run i t → (j : Joint) (tail : List Moment) → j ≡ state_of t v
      → map (λ (m : Moment). m.noted) tail ≡ machine_entries ns → IsRunFrom j tail → ((l : ℕ) → slice_get run (i + l) ≡ slice_get tail l)
      → (l k p : ℕ) (freed : List ℕ) → SweepsAt run (i + l) k freed → Contains freed p → Spares run (i + l) k p

  module _ (n : Noted) (ns : List Noted) (s : Linkage) (w : Stands s) (may : MayCome s n) (i : ℕ) (known : Knows run i s) (j : Joint) (from : j ≡ state_of s w)
      (v : Stands (linkage_after s n)) (rest : Goes ns (linkage_after s n)) where
    at-step : JointStep (state_of s w) n (state_of (linkage_after s n) v) → (m : Moment) (ms : List Moment) → map (λ (x : Moment). x.noted) (m ∷ ms) ≡ n ∷ machine_entries ns → IsRunFrom j (m ∷ ms)
        → ((l : ℕ) → slice_get run (i + l) ≡ slice_get (m ∷ ms) l) → (l k p : ℕ) (freed : List ℕ) → SweepsAt run (i + l) k freed → Contains freed p → Spares run (i + l) k p
    at-step st m ms q u places l k p freed = by l
      where
        noted : m.noted ≡ n
        noted = heads-same m.noted n (map (λ (x : Moment). x.noted) ms) (machine_entries ns) q

        before : m.before ≡ state_of s w
        before = u.0 ∙ from

        after : m.after ≡ state_of (linkage_after s n) v
        after = one-step (state_of s w) n m.after (state_of (linkage_after s n) v) (subst (λ z. JointStep z n m.after) before (subst (λ z. JointStep m.before z m.after) noted u.1)) st

        there : slice_get run i ≡ Some m
        there = (let e : i ≡ i + 0 = omega arith in ap (λ z. slice_get run z) e ∙ places 0)

        by : (l : ℕ) → SweepsAt run (i + l) k freed → Contains freed p → Spares run (i + l) k p
        by zero sw c = swept-here s n w v may i known m there noted before after (i + 0) k p freed (omega arith) sw c
        by (suc l) sw c =
            let e : i + suc l ≡ suc i + l = omega arith in
            let case = marking-case (state_of s w) (state_of (linkage_after s n) v) n.entry.made.caller n.entry.made.op n.entry.made.reply n.told st.step in
            subst (λ z. Spares run z k p) (sym e)
            (rest v (suc i) (known-next s n w v may i known m there noted before after case) m.after ms after
            (tails-same m.noted n (map (λ (z : Moment). z.noted) ms) (machine_entries ns) q) u.2
            (λ x. (let f : suc i + x ≡ i + suc x = omega arith in ap (λ z. slice_get run z) f ∙ places (suc x)))
            l k p freed (subst (λ z. SweepsAt run z k freed) e sw) c)

  goes : (ns : List Noted) (s : Linkage) → AllMayCome s ns → Goes ns s
  goes [] s may w i known j [] from q u places = λ l k p freed sw c. absurd (none_some sw.element (sym (places l) ∙ sw.there))
  goes [] s may w i known j (m ∷ ms) from q u places = absurd (cons-nil m.noted (map (λ (z : Moment). z.noted) ms) q)
  goes (n ∷ ns) s may w i known j tail from q u places = by (enters s w n may.0) (goes ns (linkage_after s n) may.1) tail q u places
    where
      by : Enters s w n → Goes ns (linkage_after s n) → (ms : List Moment) → map (λ (x : Moment). x.noted) ms ≡ machine_entries (n ∷ ns) → IsRunFrom j ms
          → ((l : ℕ) → slice_get run (i + l) ≡ slice_get ms l) → (l k p : ℕ) (freed : List ℕ) → SweepsAt run (i + l) k freed → Contains freed p → Spares run (i + l) k p
      by (by_step e v st) rest [] q u places = absurd (cons-nil n (machine_entries ns) (sym (q ∙ projected n ns true e)))
      by (by_step e v st) rest (m ∷ ms) q u places = at-step n ns s w may.0 i known j from v rest st m ms (q ∙ projected n ns true e) u places
      by (at_rest e v same) rest ms q u places = rest v i (carry s n w v may.0 i known (ap (λ (z : Joint). z.marking) same)) j ms (from ∙ sym same) (q ∙ projected n ns false e) u places

pub every_run_spares_reached : (noted : List Noted) (run : List Moment) → AllMayCome opening_linkage noted → IsRun (machine_entries noted) run → SparesReached run
every_run_spares_reached noted run may r i j p freed sw c =
    let e : 0 + i ≡ i = omega arith in
    subst (λ z. Spares run z j p) e
    (goes run r.steps noted opening_linkage may Stands-opening 0 (λ mk f. absurd (none_some mk f)) opening run (sym opening-state) r.same r.steps
    (λ l. (let f : 0 + l ≡ l = omega arith in ap (λ z. slice_get run z) f)) i j p freed (subst (λ z. SweepsAt run z j freed) (sym e) sw) c)

pub every_reading_run_spares_reached : (noted : List Noted) (run : List Moment) → IsLawfulReading noted → IsRun (joint_projection noted) run → SparesReached run
every_reading_run_spares_reached noted run w r =
    every_run_spares_reached (without_aside noted) run (reading_is_lawful noted w) (subst (λ z. IsRun z run) (sym (reading_projects_so noted)) r)
