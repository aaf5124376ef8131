-- The run is followed beside the list of entries: each state of the list has a joint state that agrees with its sides,
-- each step leaves the joint machine in one state, and the flags that tell which handles are removed are the list that
-- both sides give.
use Rattle.std.proofs.Common.{◌≡◌, ℕ, zero, suc, Bool, true, false, List, [], ◌∷◌, length, take, map, Some, refl, sym, ap, subst, ◌∙◌, cond}
use Rattle.std.specs.Prelude.{slice_get}
use Rattle.std.proofs.lemmas.Option.{same_Some}
use Rattle.joint_machine.specs.Joined.{graph_at}
use Rattle.joint_machine.specs.Joint.{Joint, Graph, opening}
use Rattle.joint_machine.specs.Linked.{Linkage, opening_linkage, linkage_after}
use Rattle.joint_machine.specs.Replaying.{AllMayCome, machine_entries, replayed}
use Rattle.joint_machine.specs.Run.{Moment, JointStep, IsRunFrom, is_joint}
use Rattle.joint_machine.specs.Told.{Noted}
use Rattle.joint_machine.proofs.Deciding.{none_some}
use Rattle.joint_laws.specs.RunStateLaws.{StepsHaveMoments, OthersKeepGraph}
use Rattle.joint_laws.specs.States.{state_at}
use Rattle.joint_laws.proofs.JointRuns.{Stands, state_of, Enters, by_step, at_rest, enters, projected, Stands-opening, opening-state}
use Rattle.joint_laws.proofs.OneRun.{one-step, heads-same, tails-same, cons-nil}
use Rattle.joint_laws.proofs.Places.{comes-at, after-at}

-- the joint graph of a state is the one that both sides give
abbrev graph_of : Linkage → Graph
graph_of s = graph_at s.managed.managed s.peer

stands-graph : (s : Linkage) (w : Stands s) → (state_of s w).graph ≡ graph_of s
stands-graph s w = ap (λ fs. record { managed = s.managed.managed; peers = s.peer.peers; removed = fs }) w.agrees.removed

-- the moment of an entry, from a state on
record AtPlace (ns : List Noted) (s : Linkage) (run : List Moment) (i : ℕ) (n : Noted) : Type 0 where
  moment : Moment
  there : slice_get run (length (machine_entries (take i ns))) ≡ Some moment
  entry : moment.noted ≡ n
  before : moment.before.graph ≡ graph_of (replayed s (take i ns))
  after : moment.after.graph ≡ graph_of (linkage_after (replayed s (take i ns)) n)

front-length : (n : Noted) (ns : List Noted) (b : Bool) → is_joint n.entry.made.op ≡ b → length (machine_entries (n ∷ ns)) ≡ length (cond b (n ∷ machine_entries ns) (machine_entries ns))
front-length n ns b e = ap length (projected n ns b e)

-- what is known of a run from a later state on
abbrev Goes : List Noted → Linkage → Noted → Type 0
Goes ns t n = (v : Stands t) (k : Joint) (tail : List Moment) → k ≡ state_of t v
    → map (λ (m : Moment). m.noted) tail ≡ machine_entries ns → IsRunFrom k tail → (l : ℕ) → slice_get ns l ≡ Some n → AtPlace ns t tail l n

module _ (n0 : Noted) (ns : List Noted) (s : Linkage) (w : Stands s) (n : Noted) (j : Joint) (from : j ≡ state_of s w) (v : Stands (linkage_after s n0)) (rest : Goes ns (linkage_after s n0) n) where
  -- a step
  module _ (t : is_joint n0.entry.made.op ≡ true) (st : JointStep (state_of s w) n0 (state_of (linkage_after s n0) v)) (m : Moment)
      (ms : List Moment) (q : map (λ (x : Moment). x.noted) (m ∷ ms) ≡ n0 ∷ machine_entries ns) (u : IsRunFrom j (m ∷ ms)) where
    noted : m.noted ≡ n0
    noted = heads-same m.noted n0 (map (λ (x : Moment). x.noted) ms) (machine_entries ns) q

    before : m.before ≡ state_of s w
    before = u.0 ∙ from

    after : m.after ≡ state_of (linkage_after s n0) v
    after = one-step (state_of s w) n0 m.after (state_of (linkage_after s n0) v) (subst (λ z. JointStep z n0 m.after) before (subst (λ z. JointStep m.before z m.after) noted u.1)) st

    at-step : (l : ℕ) → slice_get (n0 ∷ ns) l ≡ Some n → AtPlace (n0 ∷ ns) s (m ∷ ms) l n
    at-step zero x =
        let same = same_Some n0 n x in
        record {
          moment = m;
          there = refl;
          entry = noted ∙ same;
          before = ap (λ (z : Joint). z.graph) before ∙ stands-graph s w;
          after = ap (λ (z : Joint). z.graph) after ∙ (stands-graph (linkage_after s n0) v ∙ ap (λ z. graph_of (linkage_after s z)) same);
        }
    at-step (suc l) x =
        let r = rest v m.after ms after (tails-same m.noted n0 (map (λ (z : Moment). z.noted) ms) (machine_entries ns) q) u.2 l x in
        record {
          moment = r.moment;
          there = ap (λ k. slice_get (m ∷ ms) k) (front-length n0 (take l ns) true t) ∙ r.there;
          entry = r.entry;
          before = r.before;
          after = r.after;
        }

  -- an entry that is none
  at-none : is_joint n0.entry.made.op ≡ false → is_joint n.entry.made.op ≡ true → state_of (linkage_after s n0) v ≡ state_of s w → (ms : List Moment)
      → map (λ (x : Moment). x.noted) ms ≡ machine_entries ns → IsRunFrom j ms → (l : ℕ) → slice_get (n0 ∷ ns) l ≡ Some n → AtPlace (n0 ∷ ns) s ms l n
  at-none t step stay ms q u zero x = absurd (let f : true ≡ false = sym step ∙ (sym (ap (λ (z : Noted). is_joint z.entry.made.op) (same_Some n0 n x)) ∙ t) in cc)
  at-none t step stay ms q u (suc l) x =
      let r = rest v j ms (from ∙ sym stay) q u l x in
      record {
        moment = r.moment;
        there = ap (λ k. slice_get ms k) (front-length n0 (take l ns) false t) ∙ r.there;
        entry = r.entry;
        before = r.before;
        after = r.after;
      }

at-place : (ns : List Noted) (s : Linkage) (w : Stands s) (j : Joint) (run : List Moment) → AllMayCome s ns → j ≡ state_of s w
    → map (λ (m : Moment). m.noted) run ≡ machine_entries ns → IsRunFrom j run → (i : ℕ) (n : Noted) → slice_get ns i ≡ Some n → is_joint n.entry.made.op ≡ true → AtPlace ns s run i n
at-place [] s w j run may from same r i n e step = absurd (none_some n e)
at-place (n0 ∷ ns) s w j run may from same r i n e step = by (enters s w n0 may.0) (λ v k tail q u f l x. at-place ns (linkage_after s n0) v k tail may.1 q u f l n x step) run same r
  where
    by : Enters s w n0 → Goes ns (linkage_after s n0) n → (ms : List Moment) → map (λ (m : Moment). m.noted) ms ≡ machine_entries (n0 ∷ ns) → IsRunFrom j ms → AtPlace (n0 ∷ ns) s ms i n
    by (by_step t v st) rest [] q u = absurd (cons-nil n0 (machine_entries ns) (sym (q ∙ projected n0 ns true t)))
    by (by_step t v st) rest (m ∷ ms) q u = at-step n0 ns s w n j from v rest t st m ms (q ∙ projected n0 ns true t) u i e
    by (at_rest t v stay) rest ms q u = at-none n0 ns s w n j from v rest t step stay ms (q ∙ projected n0 ns false t) u i e

pub steps_have_moments : StepsHaveMoments
steps_have_moments noted run may r i n there step =
    let a = at-place noted opening_linkage Stands-opening opening run may (sym opening-state) r.same r.steps i n there step in
    record {
      moment = a.moment;
      there = a.there;
      entry = a.entry;
      before = a.before;
      after = a.after ∙ ap graph_of (sym (after-at noted i n there));
    }

-- each state of the list has its joint state
next-stands : (s : Linkage) (w : Stands s) (n : Noted) → Enters s w n → Stands (linkage_after s n)
next-stands s w n (by_step t v st) = v
next-stands s w n (at_rest t v same) = v

stands-in : (ns : List Noted) (s : Linkage) → Stands s → AllMayCome s ns → (i : ℕ) → Stands (replayed s (take i ns))
stands-in [] s w may zero = w
stands-in [] s w may (suc i) = w
stands-in (n ∷ ns) s w may zero = w
stands-in (n ∷ ns) s w may (suc i) = stands-in ns (linkage_after s n) (next-stands s w n (enters s w n may.0)) may.1 i

pub others_keep_graph : OthersKeepGraph
others_keep_graph noted may i n there rests = ap graph_of (after-at noted i n there) ∙ by (enters (state_at noted i) stands n (comes-at noted i n may there))
  where
    stands : Stands (state_at noted i)
    stands = stands-in noted opening_linkage Stands-opening may i

    by : Enters (state_at noted i) stands n → graph_of (linkage_after (state_at noted i) n) ≡ graph_of (state_at noted i)
    by (by_step t v st) = absurd (let f : true ≡ false = sym t ∙ rests in cc)
    by (at_rest t v same) = sym (stands-graph (linkage_after (state_at noted i) n) v) ∙ (ap (λ (z : Joint). z.graph) same ∙ stands-graph (state_at noted i) stands)
