-- What is seen of a history whose entries are in order.
use Rattle.std.proofs.Common.{◌≡◌, ℕ, zero, suc, ◌+◌, ◌<◌, ◌≤◌, List, [], ◌∷◌, ◌++◌, length, take, Bool, Some, None, refl, sym, ap, subst, ◌∙◌, arith}
use Rattle.std.specs.Prelude.{slice_get}
use Rattle.std.proofs.lemmas.List.{take_all, length-take-le}
use Rattle.joint_machine.specs.declared.events.Entry.{Entry}
use Rattle.joint_machine.specs.Histories.{Finished, NumberedFrom}
use Rattle.joint_machine.specs.Joined.{graph_at}
use Rattle.joint_machine.specs.Joint.{Joint, opening}
use Rattle.joint_machine.specs.Linked.{Linkage, opening_linkage}
use Rattle.joint_machine.specs.ManagedReplay.{ManagedReplay}
use Rattle.joint_machine.specs.PeerReplay.{PeerReplay}
use Rattle.joint_machine.specs.Readers.{replayed_reading}
use Rattle.joint_machine.specs.Replaying.{AllMayCome, replayed}
use Rattle.joint_machine.specs.Told.{Noted}
use Rattle.joint_laws.specs.ReadingLaws.{IsLawfulReading, without_aside}
use Rattle.joint_laws.proofs.JointRuns.{state_of, Stands-opening, opening-state}
use Rattle.joint_laws.proofs.ReadsAside.{reading_is_lawful, reading_leads_to_same}
use Rattle.known_laws.specs.PastEntries.{entries}
use Rattle.check_laws.specs.declared.findings.Finding.{Finding}
use Rattle.check_laws.specs.declared.findings.Finding.TheVariants as finding
use Rattle.check_laws.specs.Behind.{in_turn}
use Rattle.check_laws.specs.Behind as behind
use Rattle.check_laws.specs.Findings.{IsFinding, IsInOrderUpTo}
use Rattle.check_laws.proofs.OneFinding.{entries-length}
use Rattle.check_laws.proofs.Turned.{ends-onto}
use Rattle.heap_views.specs.Views.{IsStuck, Seen, View, opening_view}
use Rattle.picture_laws.specs.Seeing.{HasInOrder, IsInOrderTo, IsOfBothSides, OrderIsNeverStuck, OrderIsSeen, SeenIsOfBothSides}
use Rattle.picture_laws.proofs.Going.{AllNamed, Shows, seen_goes, seen_goes_on, seen_shows}
use Rattle.picture_laws.proofs.InOrder.{order_is_lawful, order_is_named, cut, cut-entries}

-- beginnings of lists
take-less : {A : Type 0} (n m : ℕ) (xs : List A) → n ≤ m → take n (take m xs) ≡ take n xs
take-less zero m xs l = refl
take-less (suc n) zero xs l = absurd (omega (arith, l))
take-less (suc n) (suc m) [] l = refl
take-less (suc n) (suc m) (x ∷ xs) l = ap (λ z. x ∷ z) (take-less n m xs (omega (arith, l)))

get-less : {A : Type 0} (n m : ℕ) (xs : List A) → n < m → slice_get (take m xs) n ≡ slice_get xs n
get-less n zero xs l = absurd (omega (arith, l))
get-less n (suc m) [] l = refl
get-less zero (suc m) (x ∷ xs) l = refl
get-less (suc n) (suc m) (x ∷ xs) l = get-less n m xs (omega (arith, l))

numbered-less : (k n : ℕ) (es : List Entry) → NumberedFrom k es → NumberedFrom k (take n es)
numbered-less k zero es w = tt
numbered-less k (suc n) [] w = tt
numbered-less k (suc n) (e ∷ es) w = (w.0, numbered-less (k + 1) n es w.1)

-- a past of some of the first entries, more than n
record Longer (h : Finished) (n : ℕ) : Type 0 where
  many : ℕ
  more : n < many
  within : many ≤ length h.entries
  past : List Noted
  order : IsInOrderUpTo h many past

longer : (h : Finished) (n : ℕ) (f : Finding) → IsFinding h f → IsInOrderTo n f → n < length h.entries → Longer h n
longer h n finding.Legal w o l = record {
  many = length h.entries;
  more = l;
  within = omega arith;
  past = w.0;
  order = record { same = w.1.same ∙ sym (take_all (length h.entries) h.entries (omega arith)); order = w.1.order };
}
longer h n finding.Unfinished w o l = record {
  many = length h.entries;
  more = l;
  within = omega arith;
  past = w.0;
  order = record { same = w.1.same ∙ sym (take_all (length h.entries) h.entries (omega arith)); order = w.1.order };
}
longer h n (finding.Illegal i why) w o l = record { many = i; more = o; within = get-within h.entries i w.2.0 w.2.1; past = w.0; order = w.1 }
  where
    get-within : (es : List Entry) (k : ℕ) (e : Entry) → slice_get es k ≡ Some e → k ≤ length es
    get-within [] k e q = absurd (let f : None ≡ Some e = q in cc)
    get-within (x ∷ es) zero e q = omega arith
    get-within (x ∷ es) (suc k) e q = (let r = get-within es k e q in omega (arith, r))

-- and one of just the entries up to n
record Behind (h : Finished) (n : ℕ) : Type 0 where
  past : List Noted
  order : IsInOrderUpTo h (n + 1) past

behind_entry : (h : Finished) (n : ℕ) → HasInOrder h n → Behind h n
behind_entry h n w =
    let r = longer h n w.finding w.found w.order w.within in
    let more = r.more in
    let long : length r.past ≡ r.many = sym (entries-length r.past) ∙ (ap (λ es. length es) r.order.same ∙ length-take-le r.many h.entries r.within) in
    let c = cut h r.past (n + 1) (omega (arith, long, more)) r.order.order in
    record {
      past = c.back;
      order = record {
        same = cut-entries c.front c.back
            ∙ (ap (λ k. take k (entries (in_turn (c.front ++ c.back)))) c.many
            ∙ (ap (λ z. take (n + 1) (entries (in_turn z))) (sym c.whole)
            ∙ (ap (λ es. take (n + 1) es) r.order.same ∙ take-less (n + 1) r.many h.entries (omega (arith, more)))));
        order = c.order;
      };
    }

module _ (h : Finished) (n : ℕ) (w : HasInOrder h n) where
  abbrev here : Behind h n
  here = behind_entry h n w

  abbrev ns : List Noted
  ns = in_turn here.past

  named : AllNamed h ns
  named = order_is_named h here.past here.order.order

  lawful : IsLawfulReading ns
  lawful = order_is_lawful h here.past (subst (NumberedFrom 0) (sym here.order.same) (numbered-less 0 (n + 1) h.entries w.numbers)) here.order.order

  may : AllMayCome opening_linkage (without_aside ns)
  may = reading_is_lawful ns lawful

  at : opening ≡ state_of opening_linkage Stands-opening
  at = sym opening-state

  seen-on : (v : View) × Seen h opening_view (take (n + 1) h.entries) v
  seen-on = (let s = seen_goes h ns opening_linkage Stands-opening named may opening_view at in
      (s.0, subst (λ es. Seen h opening_view es s.0) here.order.same s.1))

  never-stuck : IsStuck h n → ⊥
  never-stuck s =
      let low = s.within in
      let l : s.place < n + 1 = omega (arith, low) in
      let before : take s.place (entries ns) ≡ take s.place h.entries =
      ap (λ es. take s.place es) here.order.same ∙ take-less s.place (n + 1) h.entries (omega (arith, l)) in
      let there : slice_get (entries ns) s.place ≡ Some s.entry = ap (λ es. slice_get es s.place) here.order.same ∙ (get-less s.place (n + 1) h.entries l ∙ s.there) in
      let g = seen_goes_on h ns opening_linkage Stands-opening named may opening_view at s.place s.before
      (subst (λ es. Seen h opening_view es s.before) (sym before) s.seen) s.entry there in
      s.stuck g.0 g.1

  -- the graph of a state as both sides make it
  graph-shown : (s : Linkage) (j : Joint) → Shows s j → j.graph ≡ graph_at s.managed.managed s.peer
  graph-shown s j e = ap (λ (z : Joint). z.graph) e.is
      ∙ ap (λ (fs : List Bool). record { managed = s.managed.managed; peers = s.peer.peers; removed = fs }) e.stands.agrees.removed

  of-sides : (v : View) → Seen h opening_view (take (n + 1) h.entries) v → IsOfBothSides h n v
  of-sides v s =
      let t = replayed opening_linkage (without_aside ns) in
      let g : v.joint.graph ≡ graph_at t.managed.managed t.peer =
      graph-shown t v.joint (seen_shows h ns opening_linkage Stands-opening named may opening_view v at (subst (λ es. Seen h opening_view es v) (sym here.order.same) s)) in
      let same = reading_leads_to_same ns lawful in
      let ends : replayed_reading opening_linkage ns ≡ behind.state_of here.past = ends-onto here.past [] in
      record {
        past = here.past;
        order = here.order;
        graph = g ∙ (ap (λ (m : ManagedReplay). graph_at m.managed t.peer) (sym same.managed ∙ ap (λ (z : Linkage). z.managed) ends)
            ∙ ap (λ (p : PeerReplay). graph_at (behind.state_of here.past).managed.managed p) (sym same.peer ∙ ap (λ (z : Linkage). z.peer) ends));
      }

pub order_is_seen : OrderIsSeen
order_is_seen h n w = seen-on h n w

pub order_is_never_stuck : OrderIsNeverStuck
order_is_never_stuck h n w = never-stuck h n w

pub seen_is_of_both_sides : SeenIsOfBothSides
seen_is_of_both_sides h n v w = of-sides h n w v
