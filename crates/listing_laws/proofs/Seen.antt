-- What was listed of each snapshot when it was made is listed of the finished history's: the lines that were known then
-- and the past of all entries up to the snapshot have one dead part, and the history's notes lead to that past's
-- states.
use Rattle.std.proofs.Common.{◌≡◌, ℕ, Bool, true, false, cond, List, [], ◌∷◌, ◌++◌, map, Option, Some, refl, sym, ap, ◌∙◌, subst, append_assoc, append-nil}
use Rattle.std.specs.Prelude.{if◌then◌else◌}
use Rattle.std.proofs.lemmas.Option.{same_Some}
use mathlib.Core.List.{IsPrefix}
use base.Growing.{prefix_refl, prefix_trans}
use Rattle.joint_machine.specs.declared.events.Op.{Op}
use Rattle.joint_machine.specs.Control.{OpenSnap}
use Rattle.joint_machine.specs.Histories.{NumberedFrom}
use Rattle.joint_machine.specs.Linked.{Linkage, opening_linkage}
use Rattle.joint_machine.specs.LinkedHistories.{managed_end}
use Rattle.joint_machine.specs.Readers.{AllMayComeReading, entry_after}
use Rattle.joint_machine.specs.Told.{Noted}
use Rattle.joint_machine.specs.PinsTold.{no_pins}
use Rattle.known_laws.specs.Drawn.{open_after, open_in}
use Rattle.known_laws.specs.Growing.{AreKnown, Begin, Kept, all_shown, entries_kept, kept_in, shown}
use Rattle.known_laws.specs.PastEntries.{entries, turned}
use Rattle.known_laws.specs.Held.{open_number}
use Rattle.known_laws.specs.Known.{pinned, without_pins}
use Rattle.known_laws.specs.Pasts.{HasSameDeadPart, Lawful, end_of, is_in, line}
use Rattle.known_laws.specs.Wholes.{history_of}
use Rattle.known_laws.proofs.Ending.{turned_twice}
use Rattle.known_laws.proofs.Growing.{entries_shown, shown_append}
use Rattle.known_laws.proofs.Held.{cycles_are_drawn}
use Rattle.known_laws.proofs.PastLines.{snoc_begins}
use Rattle.known_laws.proofs.Pinned.{contraction_to}
use Rattle.known_laws.proofs.SnapParts.{behind_lawful, snap_tells_dead_part}
use Rattle.graph_listing.specs.Listing.{Listed}
use Rattle.listing_laws.specs.Laws.{SeenIsListed}
use Rattle.listing_laws.specs.Listings.{AreListed, IsListedOf, is_snap, states_after_snaps}
use Rattle.listing_laws.specs.Snapshots.{AreSeen, IsSeenAt, snaps_of}
use Rattle.listing_laws.proofs.LastSnap.{snapped_at}
use Rattle.listing_laws.proofs.OneTelling.{states_are_one}
use Rattle.listing_laws.proofs.PastStates.{IsAfter, one_after}

-- what stands behind in a list that is turned
turned_behind : (ns h : List Noted) → (front : List Noted) × (turned h ns ≡ front ++ h)
turned_behind [] h = ([], refl)
turned_behind (n ∷ ns) h = let r = turned_behind ns (n ∷ h) in (r.0 ++ n ∷ [], r.1 ∙ sym (append_assoc r.0 (n ∷ []) h))

-- its lines begin those of the whole
line_behind : (i : ℕ) (front h : List Noted) → IsPrefix (line i h) (line i (front ++ h))
line_behind i [] h = prefix_refl (line i h)
line_behind i (x ∷ front) h = prefix_trans (line i h) (line i (front ++ h)) (line i (x ∷ front ++ h)) (line_behind i front h) (by (is_in i x))
  where
    by : (b : Bool) → IsPrefix (line i (front ++ h)) (if b then line i (front ++ h) ++ x ∷ [] else line i (front ++ h))
    by true = snoc_begins (line i (front ++ h)) x
    by false = prefix_refl (line i (front ++ h))

shown_begins : (xs ys : List Noted) → IsPrefix xs ys → IsPrefix (all_shown xs) (all_shown ys)
shown_begins xs ys p = (all_shown p.0, sym (shown_append xs p.0) ∙ ap all_shown p.1)

-- the line of a past is that of its entries, the earliest first
kept_turned : (i : ℕ) (acc h : List Noted) → kept_in i (all_shown (turned acc h)) ≡ all_shown (line i h) ++ kept_in i (all_shown acc)
kept_turned i acc [] = refl
kept_turned i acc (x ∷ h) = kept_turned i (x ∷ acc) h ∙ by (is_in i x)
  where
    by : (b : Bool) → all_shown (line i h) ++ (if b then shown x ∷ kept_in i (all_shown acc) else kept_in i (all_shown acc))
        ≡ all_shown (if b then line i h ++ x ∷ [] else line i h) ++ kept_in i (all_shown acc)
    by true = sym (ap (λ l. l ++ kept_in i (all_shown acc)) (shown_append (line i h) (x ∷ [])) ∙ append_assoc (all_shown (line i h)) (shown x ∷ []) (kept_in i (all_shown acc)))
    by false = refl

entries_without : (ns : List Noted) → entries (map without_pins ns) ≡ entries ns
entries_without [] = refl
entries_without (n ∷ ns) = ap (λ l. n.entry ∷ l) (entries_without ns)

module _ (past : List Noted) (lawful : Lawful past) (numbered : NumberedFrom 0 (entries (turned [] past))) where
  abbrev lines : ℕ → List Kept
  lines i = all_shown (line i past)

  abbrev whole : List Kept
  whole = all_shown (turned [] past)

  whole_line : (i : ℕ) → lines i ≡ kept_in i whole
  whole_line i = sym (kept_turned i [] past ∙ append-nil (lines i))

  -- at a snapshot: what was listed by what was known then
  one_listed : (front h : List Noted) (n : Noted) (c : Listed) (pins : List (Option ℕ)) → past ≡ front ++ n ∷ h → IsSeenAt lines n.entry c
      → IsListedOf (pinned (end_of (n ∷ h)) pins).managed.managed c
  one_listed front h n c pins is w =
      let l : Lawful (n ∷ h) = behind_lawful front n h (subst Lawful is lawful) in
      let up_to : ℕ → List Kept = λ i. all_shown (line i (n ∷ h)) in
      let here : AreKnown up_to = record { past = n ∷ h; lawful = l; same = λ i. refl } in
      let first : Begin whole w.seen = λ i. subst (IsPrefix (w.seen i)) (whole_line i) (w.begin i) in
      let begins : (i : ℕ) → IsPrefix (up_to i) (lines i) = λ i.
      subst (λ z. IsPrefix (up_to i) (all_shown (line i z))) (sym is) (shown_begins (line i (n ∷ h)) (line i (front ++ n ∷ h)) (line_behind i front (n ∷ h))) in
      let second : Begin whole up_to = λ i. subst (IsPrefix (up_to i)) (whole_line i) (begins i) in
      let snap : OpenSnap = record { cycle = c.cycle; snap = n.entry.number } in
      let count : NumberedFrom 0 (entries_kept whole) = subst (NumberedFrom 0) (sym (entries_shown (turned [] past))) numbered in
      let same : HasSameDeadPart (end_of w.known.past).managed.managed (end_of (n ∷ h)).managed.managed =
      snap_tells_dead_part whole w.seen up_to w.known here count first second snap snap w.driven (snapped_at n h (record { 0 = c.cycle }) l w.event) refl in
      let open_cycle : (end_of (n ∷ h)).managed.managed.cycle ≡ Some w.cycle = sym same.cycle ∙ w.open_cycle in
      let number : w.cycle.number ≡ c.cycle = same_Some w.cycle.number c.cycle (sym (ap open_number open_cycle) ∙ (cycles_are_drawn (n ∷ h) l ∙ ap (λ (o : Op). open_after o (open_in h)) w.event)) in
      record {
        cycle = w.cycle;
        open_cycle = (open_cycle, number);
        lists = record {
          heavy = w.lists.heavy;
          heavy_count = w.lists.heavy_count;
          contraction = contraction_to (end_of (n ∷ h)).managed pins w.cycle.dead c.comps w.lists.heavy c.pairs
              (same.contraction w.cycle w.open_cycle c.comps w.lists.heavy c.pairs w.lists.contraction);
        };
      }

  -- one entry of the history, and the rest behind it
  module _ (history : List Noted) (cells : List (Option ℕ)) (n : Noted) (ns h : List Noted) (q : List (Option ℕ)) (is : past ≡ turned (n ∷ h) ns)
      (a : AllMayComeReading history cells (pinned (end_of h) q) (map without_pins (n ∷ ns))) where
    behind : (front : List Noted) × (past ≡ front ++ n ∷ h)
    behind = let t = turned_behind ns (n ∷ h) in (t.0, is ∙ t.1)

    after : IsAfter (end_of h) q n
    after = one_after history cells (end_of h) q n (behind_lawful behind.0 n h (subst Lawful behind.1 lawful)).0.comes a.0

    abbrev next : Linkage
    next = entry_after (pinned (end_of h) q) (without_pins n)

    rest_comes : AllMayComeReading history cells (pinned (end_of (n ∷ h)) after.pins) (map without_pins ns)
    rest_comes = subst (λ z. AllMayComeReading history cells z (map without_pins ns)) after.same a.1

    one_more : (cs : List Listed) → ((ds : List Listed) → AreSeen lines (snaps_of (entries ns)) ds → AreListed (states_after_snaps (pinned (end_of (n ∷ h)) after.pins) (map without_pins ns)) ds)
        → AreSeen lines (snaps_of (entries (n ∷ ns))) cs
        → AreListed (states_after_snaps (pinned (end_of h) q) (map without_pins (n ∷ ns))) cs
    one_more cs more s = by (is_snap n.entry.made.op) cs s
      where
        rest : (ds : List Listed) → AreSeen lines (snaps_of (entries ns)) ds → AreListed (states_after_snaps next (map without_pins ns)) ds
        rest ds w = subst (λ z. AreListed (states_after_snaps z (map without_pins ns)) ds) (sym after.same) (more ds w)

        by : (b : Bool) (ds : List Listed) → AreSeen lines (cond b (n.entry ∷ snaps_of (entries ns)) (snaps_of (entries ns))) ds
            → AreListed (if b then next.managed.managed ∷ states_after_snaps next (map without_pins ns) else states_after_snaps next (map without_pins ns)) ds
        by true [] w = w
        by true (d ∷ ds) w = (subst (λ (z : Linkage). IsListedOf z.managed.managed d) (sym after.same) (one_listed behind.0 h n d after.pins behind.1 w.0), rest ds w.1)
        by false ds w = rest ds w

  -- along the history, with the past of the entries before
  all_listed : (history : List Noted) (cells : List (Option ℕ)) (ns h : List Noted) (q : List (Option ℕ)) (cs : List Listed) → past ≡ turned h ns
      → AllMayComeReading history cells (pinned (end_of h) q) (map without_pins ns) → AreSeen lines (snaps_of (entries ns)) cs
      → AreListed (states_after_snaps (pinned (end_of h) q) (map without_pins ns)) cs
  all_listed history cells [] h q [] is a s = tt
  all_listed history cells [] h q (c ∷ cs) is a s = s
  all_listed history cells (n ∷ ns) h q cs is a s =
      one_more history cells n ns h q is a cs (λ ds w. all_listed history cells ns (n ∷ h) (after history cells n ns h q is a).pins ds is (rest_comes history cells n ns h q is a) w) s

pub seen_is_listed : SeenIsListed
seen_is_listed h past cycles lawful linked seen =
    let same : entries (turned [] past) ≡ h.entries = sym (entries_without (turned [] past)) ∙ linked.same in
    let listed : AreListed (states_after_snaps opening_linkage (history_of past)) cycles =
    all_listed past lawful (subst (NumberedFrom 0) (sym same) linked.numbers) (history_of past) (managed_end (history_of past)).cells (turned [] past) [] no_pins cycles (sym (twice past))
    linked.lawful
    (subst (λ es. AreSeen (λ i. all_shown (line i past)) (snaps_of es) cycles) (sym same) seen) in
    record {
      linked = record { noted = history_of past; linked = linked };
      listed = λ noted other. subst (λ ss. AreListed ss cycles) (states_are_one h (history_of past) noted linked other) listed;
    }
  where
    twice : (ns : List Noted) → turned [] (turned [] ns) ≡ ns
    twice ns = turned_twice [] [] ns ∙ append-nil ns
