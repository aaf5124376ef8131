-- The joint projection of a lawful list of entries is a complete run: the entries are followed one by one with the
-- moments so far, and what is known of these at the driver's stand; at each resolution that makes the cycle complete.
use Rattle.std.proofs.Common.{◌≡◌, ℕ, ◌≤◌, inl, inr, true, false, List, [], ◌∷◌, ◌++◌, length, Some, refl, sym, ap, subst, ◌∙◌, arith, length-append}
use Rattle.std.specs.Prelude.{Contains, map, slice_get}
use Rattle.std.proofs.lemmas.Bool.{cases_eq}
use Rattle.std.proofs.lemmas.Option.{same_Some, slice_get_within}
use Rattle.joint_machine.specs.Headline.{ResolvesAt, IsCompleteCycle, IsSoundRun, IsCompleteRun}
use Rattle.joint_machine.specs.Joint.{opening}
use Rattle.joint_machine.specs.Linked.{Linkage, MayCome, opening_linkage, linkage_after}
use Rattle.joint_machine.specs.Replaying.{AllMayCome, machine_entries}
use Rattle.joint_machine.specs.Run.{Moment, IsRunFrom, IsRun, is_joint}
use Rattle.joint_machine.specs.Told.{Noted}
use Rattle.joint_laws.specs.RunLaws.{ProjectionIsRun, RunIsOne, ProjectionIsSound, EveryRunIsSound, ProjectionIsComplete, EveryRunIsComplete}
use Rattle.joint_machine.proofs.Members.{Contains-nil, Contains-cons_cases}
use Rattle.joint_machine.proofs.Deciding.{none_some}
use Rattle.joint_laws.proofs.JointRuns.{Stands, state_of, IsTraced, Enters, by_step, at_rest, enters, projected, Stands-opening, opening-state}
use Rattle.joint_laws.proofs.JourneyStands.{Journey}
use Rattle.joint_laws.proofs.JourneyTurns.{moment_of}
use Rattle.joint_laws.proofs.JourneyEntries.{journey-moves, journey-rests, journey-resolves}
use Rattle.joint_laws.proofs.OneRun.{one-run}
use Rattle.joint_laws.proofs.PeerHeaps.{heap-entry}
use Rattle.joint_laws.proofs.SoundRuns.{is-sound}
use Rattle.joint_laws.proofs.Watching.{get-front, get-last, push-cases}

-- what is known of the moments so far: each is traced, the peers' slots have their numbers, and what the driver's stand
-- tells
record IsKnown (past : List Moment) (s : Linkage) (w : Stands s) : Type 0 where
  pub traced : (i : ℕ) (x : Moment) → slice_get past i ≡ Some x → IsTraced x
  pub vars : length s.peer.peers.heap.vars ≡ 72
  pub statics : length s.peer.peers.heap.statics ≡ 16
  pub journey : Journey past s w s.control.stand

-- the run from a linked state on, with the moments before it
record Completes (past : List Moment) (s : Linkage) (w : Stands s) (ns : List Noted) : Type 0 where
  pub moments : List Moment
  pub same : map (λ m. m.noted) moments ≡ machine_entries ns
  pub steps : IsRunFrom (state_of s w) moments
  pub traced : (m : Moment) → Contains moments m → IsTraced m
  pub complete : (i k : ℕ) (freed : List ℕ) → length past ≤ i → ResolvesAt (past ++ moments) i k freed → IsCompleteCycle (past ++ moments) i k freed

append-one : (past : List Moment) (m : Moment) (more : List Moment) → (past ++ m ∷ []) ++ more ≡ past ++ m ∷ more
append-one [] m more = refl
append-one (x ∷ past) m more = ap (λ z. x ∷ z) (append-one past m more)

get-next : (past : List Moment) (m : Moment) (more : List Moment) → slice_get (past ++ m ∷ more) (length past) ≡ Some m
get-next past m more = subst (λ z. slice_get z (length past) ≡ Some m) (append-one past m more) (get-front (past ++ m ∷ []) more (length past) m (get-last past m))

module _ (past : List Moment) (s : Linkage) (w : Stands s) (n : Noted) (may : MayCome s n) (v : Stands (linkage_after s n)) (known : IsKnown past s w) where
  abbrev t : Linkage
  t = linkage_after s n

  abbrev m : Moment
  m = moment_of s n w v

  abbrev longer : List Moment
  longer = past ++ m ∷ []

  traced-now : IsTraced m
  traced-now = record { state = s; stands = w; may = may; before = refl; next = v; after = refl }

  -- after a step
  known-next : is_joint n.entry.made.op ≡ true → IsKnown longer t v
  known-next j = record {
    traced = λ i x e. elim (push-cases past m i x e) [
      | inl q ↦ known.traced i x q
      | inr q ↦ subst IsTraced q.1 traced-now
    ];
    vars = (heap-entry s n).vars ∙ known.vars;
    statics = (heap-entry s n).statics ∙ known.statics;
    journey = journey-moves s w past n.entry.number n.entry.made.index n.entry.made.reply n.entry.made.cites
        known.vars known.statics known.traced n.entry.made.caller n.entry.made.op n.told may v j known.journey;
  }

  -- after an entry that is none
  known-rests : is_joint n.entry.made.op ≡ false → state_of t v ≡ state_of s w → IsKnown past t v
  known-rests j same = record {
    traced = known.traced;
    vars = (heap-entry s n).vars ∙ known.vars;
    statics = (heap-entry s n).statics ∙ known.statics;
    journey = journey-rests s w past n.entry.number n.entry.made.index n.entry.made.reply n.entry.made.cites n.entry.made.caller n.entry.made.op n.told may v j same known.journey;
  }

  -- this entry resolves a cycle, or a later one does
  complete-next : (more : List Moment) → ((i k : ℕ) (freed : List ℕ) → length longer ≤ i → ResolvesAt (longer ++ more) i k freed → IsCompleteCycle (longer ++ more) i k freed)
      → (i k : ℕ) (freed : List ℕ) → length past ≤ i → ResolvesAt (past ++ m ∷ more) i k freed → IsCompleteCycle (past ++ m ∷ more) i k freed
  complete-next more later i k freed l r = elim (cases_eq i (length past)) [
    | inl e ↦ (
        let there : slice_get (past ++ m ∷ more) i ≡ Some m = subst (λ z. slice_get (past ++ m ∷ more) z ≡ Some m) (sym e) (get-next past m more) in
        let same : r.element ≡ m = same_Some r.element m (sym r.there ∙ there) in
        let event = ap (λ (z : Moment). z.noted.entry.made.op) (sym same) ∙ r.is.0 in
        let told = ap (λ (z : Moment). z.noted.told) (sym same) ∙ r.is.2 in
        subst (λ z. IsCompleteCycle (past ++ m ∷ more) z k freed) (sym e)
        (journey-resolves s w past n.entry.number n.entry.made.index n.entry.made.reply n.entry.made.cites
        n.entry.made.caller n.entry.made.op n.told k r.is.1 freed (m ∷ more) may event told known.journey))
    | inr ne ↦ (
        let far : length longer ≤ i = (let q = length-append past (m ∷ []) in omega (arith, l, ne)) in
        subst (λ z. IsCompleteCycle z i k freed) (append-one past m more) (later i k freed far (subst (λ z. ResolvesAt z i k freed) (sym (append-one past m more)) r)))
  ]

complete-from : (ns : List Noted) (past : List Moment) (s : Linkage) (w : Stands s) → IsKnown past s w → AllMayCome s ns → Completes past s w ns
complete-from [] past s w known may = record {
  moments = [];
  same = refl;
  steps = tt;
  traced = λ m c. absurd (Contains-nil m c);
  complete = λ i k freed l r. absurd (ended past i l r.element r.there);
}
  where
    ended : (xs : List Moment) (i : ℕ) → length xs ≤ i → (m : Moment) → slice_get (xs ++ []) i ≡ Some m → ⊥
    ended xs i l m e = (let g = slice_get_within (xs ++ []) i m e in let q = length-append xs [] in omega (arith, l, g))
complete-from (n ∷ ns) past s w known may = by (enters s w n may.0) (λ longer v k. complete-from ns longer (linkage_after s n) v k may.1)
  where
    by : Enters s w n → ((longer : List Moment) (v : Stands (linkage_after s n)) → IsKnown longer (linkage_after s n) v → Completes longer (linkage_after s n) v ns) → Completes past s w (n ∷ ns)
    by (by_step e v st) rest =
        let m : Moment = moment_of s n w v in
        let more = rest (past ++ m ∷ []) v (known-next past s w n may.0 v known e) in
        record {
          moments = m ∷ more.moments;
          same = ap (λ z. n ∷ z) more.same ∙ sym (projected n ns true e);
          steps = (refl, st, more.steps);
          traced = λ x c. elim (Contains-cons_cases m more.moments x c) [
            | inl q ↦ subst IsTraced q (traced-now past s w n may.0 v known)
            | inr q ↦ more.traced x q
          ];
          complete = complete-next past s w n may.0 v known more.moments more.complete;
        }
    by (at_rest e v same) rest =
        let more = rest past v (known-rests past s w n may.0 v known e same) in
        record {
          moments = more.moments;
          same = more.same ∙ sym (projected n ns false e);
          steps = subst (λ z. IsRunFrom z more.moments) same more.steps;
          traced = more.traced;
          complete = more.complete;
        }

nothing-known : IsKnown [] opening_linkage Stands-opening
nothing-known = record { traced = λ i x e. absurd (none_some x e); vars = refl; statics = refl; journey = tt }

complete-opening : (noted : List Noted) → AllMayCome opening_linkage noted → Completes [] opening_linkage Stands-opening noted
complete-opening noted may = complete-from noted [] opening_linkage Stands-opening nothing-known may

-- it starts where the joint machine opens
opening-steps : (noted : List Noted) (may : AllMayCome opening_linkage noted) → IsRunFrom opening (complete-opening noted may).moments
opening-steps noted may = subst (λ j. IsRunFrom j (complete-opening noted may).moments) opening-state (complete-opening noted may).steps

pub projection_is_complete : ProjectionIsComplete
projection_is_complete noted may =
    let w = complete-opening noted may in
    let steps = opening-steps noted may in
    let r : IsRun (machine_entries noted) w.moments = record { same = w.same; steps = steps } in
    (w.moments, r, is-sound w.moments steps w.traced (machine_entries noted) r, λ i k freed e. w.complete i k freed (omega arith) e)

-- there is no other run
pub run_is_one : RunIsOne
run_is_one = one-run

pub every_run_is_complete : EveryRunIsComplete
every_run_is_complete noted run may r =
    let w = projection_is_complete noted may in
    subst (λ z. IsSoundRun z × IsCompleteRun z) (one-run (machine_entries noted) w.0 run w.1 r) (w.2, w.3)

pub every_run_is_sound : EveryRunIsSound
every_run_is_sound noted run may r = (every_run_is_complete noted run may r).0

-- each moment of it is traced to an entry that may come
pub run-traced : (noted : List Noted) (run : List Moment) → AllMayCome opening_linkage noted → IsRun (machine_entries noted) run → (m : Moment) → Contains run m → IsTraced m
run-traced noted run may r m c =
    let w = complete-opening noted may in
    let own : IsRun (machine_entries noted) w.moments = record { same = w.same; steps = opening-steps noted may } in
    w.traced m (subst (λ z. Contains z m) (one-run (machine_entries noted) run w.moments r own) c)

-- so it is a run, and sound
pub projection_is_sound : ProjectionIsSound
projection_is_sound noted may = let w = projection_is_complete noted may in (w.0, w.1, w.2)

pub projection_is_run : ProjectionIsRun
projection_is_run noted may = let w = projection_is_complete noted may in (w.0, w.1)
