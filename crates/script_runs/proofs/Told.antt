-- One line more in a run line after line, of the driver or of another.
use Rattle.std.proofs.Common.{◌≡◌, ◌⊎◌, inl, inr, ⊎_elim, ℕ, ◌+◌, ◌≤◌, false, List, [], ◌∷◌, ◌++◌, Some, refl, sym, ◌∙◌, ap, subst, arith}
use Rattle.std.specs.Prelude.{if◌then◌else◌, slice_get, slice_set}
use Rattle.std.proofs.lemmas.List.{length-set}
use Rattle.std.proofs.lemmas.Option.{slice_get_within}
use Rattle.joint_machine.specs.declared.names.Thread.{Thread}
use Rattle.joint_machine.specs.declared.names.Thread.TheVariants.{M, P, C}
use Rattle.joint_machine.specs.declared.lines.Act.{Act}
use Rattle.joint_machine.specs.Control.{caller_place}
use Rattle.joint_machine.specs.HistoryLines.{caller_line}
use Rattle.joint_machine.specs.Lines.{IsLine, IsThread}
use Rattle.joint_machine.specs.PeerReplay.{is_thread}
use Rattle.joint_machine.proofs.Joining.{same_or_not, slice_get-set_same, slice_get-set_other}
use Rattle.order_table.specs.Facts.{line_entries}
use Rattle.joint_history.specs.Callers.{Hears, Pass, Tells, last_index, own}
use Rattle.view_laws.specs.Knowing.{IsDrawnView}
use Rattle.joint_history.specs.Desks.{thread_of}
use Rattle.joint_history.specs.Operations.{IsOwnThread}
use Rattle.joint_history.proofs.Ended.{thread_at_place}
use Rattle.bridge_cycle.specs.Progress.{Progress, line_of, pass_of}
use Rattle.script_laws.specs.Holding.{Standing, standing_after, AreLine}
use Rattle.run_laws.specs.Serial.{AreOthers}
use Rattle.run_laws.proofs.InOrder.{told_callers_add, drivers_add, others_run_on, driver_runs_on, not-driver}
use Rattle.script_runs.specs.Running.{AnswersLine, AreUpTo, DrivesLine, HasCome, RunsOn, StandsAs, TellsLine, last_after}
use Rattle.script_runs.specs.Stations.{ComesTo, RunsOther}
use Rattle.joint_machine.proofs.Deciding.{some-same}

pub tells_line : (a b d : Progress) (p q r t : Pass) (index : ℕ) (o : Act) → Tells (pass_of a) (pass_of b) → Hears (pass_of a) p q
    → b ≡ record a { view = b.view } → r.thread ≡ q.thread → AnswersLine q.thread q.view r.view index o → IsDrawnView q.view → IsDrawnView r.view
    → Tells r t → Hears r (pass_of b) (pass_of d) → d ≡ record b { view = d.view } → TellsLine a d p t index o
tells_line a b d p q r t index o tells hears same thread w before after left heard still = let k = w.made_line in record {
  entries = k.entries;
  adds = told_callers_add (pass_of a) (pass_of b) (pass_of d) p q r t k.entries tells hears thread k.made (w.answered before after) left heard;
  line = λ s. subst (λ u. AreLine s index (u, o) k.entries) hears.thread (k.line s);
  still = k.still;
  own_stay = heard.own_stay ∙ ap line_entries (tells.same (caller_line C));
  stands = λ s at_s. record {
    phase = at_s.phase ∙ (sym (ap (λ (z : Progress). z.phase) same) ∙ sym (ap (λ (z : Progress). z.phase) still));
    candidates = at_s.candidates ∙ (sym (ap (λ (z : Progress). z.candidates) same) ∙ sym (ap (λ (z : Progress). z.candidates) still));
  };
}

pub driver_on : (number : ℕ) (a : Act) (t : Thread) (old new : Progress) (others : List Pass) → t ≡ C → AreOthers others → DrivesLine old new number a → RunsOn number t a old new others others
driver_on number a t old new others is oth k lines last h =
    subst (λ u. HasCome (lines ++ (number, (u, a)) ∷ []) (last_after last number u) new others) (sym is)
    (record {
      standing = standing_after h.standing number a k.entries;
      run = driver_runs_on lines h.standing (pass_of old) (pass_of new) others number a k.entries oth refl
          (drivers_add (pass_of old) (pass_of new) k.entries refl refl k.made) (k.line h.standing h.stands) h.run;
      stands = k.stands h.standing h.stands;
      line = k.last h.standing;
    })

-- a thread that isn't the driver's has its place among the others
pub own_thread : (t : Thread) (a : Act) → IsLine t a → (t ≡ C → ⊥) → IsOwnThread t
own_thread (M n) a l other = l.0
own_thread (P n) a l other = l.0
own_thread C a l other = absurd (other refl)

own_is : (t : Thread) → IsOwnThread t → IsThread t
own_is (M n) o = o
own_is (P n) o = o
own_is C o = absurd o

pub placed_thread : (others : List Pass) (i : ℕ) (p : Pass) (t : Thread) → AreOthers others → slice_get others i ≡ Some p → IsOwnThread t → i + 1 ≡ caller_place t → p.thread ≡ t
placed_thread others i p t oth at is e = oth.each i p at ∙ (ap thread_of e ∙ thread_at_place t (own_is t is))

module _ (others : List Pass) (i : ℕ) (p q : Pass) (at : slice_get others i ≡ Some p) where
  -- who stands at a place now
  replaced : (j : ℕ) (r : Pass) → slice_get (slice_set others i q) j ≡ Some r → ((j ≡ i) × (r ≡ q)) ⊎ (slice_get others j ≡ Some r)
  replaced j r there = ⊎_elim
      (λ (e : j ≡ i). inl (e, sym (some-same q r (sym (slice_get-set_same others i q (slice_get_within others i p at)) ∙ subst (λ k. slice_get (slice_set others i q) k ≡ Some r) e there))))
      (λ other. inr (sym (slice_get-set_other others i j q other) ∙ there))
      (same_or_not j i)

  pub still_others : AreOthers others → q.thread ≡ p.thread → AreOthers (slice_set others i q)
  still_others oth same = record {
    count = length-set others i q ∙ oth.count;
    each = λ j r there. ⊎_elim
        (λ w. ap (λ (z : Pass). z.thread) w.1 ∙ (same ∙ (oth.each i p at ∙ ap (λ k. thread_of (k + 1)) (sym w.0))))
        (λ w. oth.each j r w)
        (replaced j r there);
  }

  pub still_up_to : (n : ℕ) → AreUpTo n others → last_index (own q) ≤ n → AreUpTo n (slice_set others i q)
  still_up_to n up l j r there = ⊎_elim (λ w. subst (λ (z : Pass). last_index (own z) ≤ n) (sym w.1) l) (λ w. up j r w) (replaced j r there)

  pub other_on : (number : ℕ) (a : Act) (t : Thread) (old new : Progress) → AreOthers others → p.thread ≡ t
      → q.thread ≡ p.thread → TellsLine old new p q number a → RunsOn number t a old new others (slice_set others i q)
  other_on number a t old new oth is same k lines last h =
      subst (λ u. HasCome (lines ++ (number, (u, a)) ∷ []) (last_after last number u) new (slice_set others i q)) is
      (record {
        standing = standing_after h.standing number a k.entries;
        run = others_run_on lines h.standing (pass_of old) (pass_of new) others i p q number a k.entries oth at same refl k.own_stay k.adds (k.line h.standing) h.run;
        stands = subst (λ s. StandsAs s new) (sym (k.still h.standing)) (k.stands h.standing h.stands);
        line = ap (λ (s : Standing). s.line) (k.still h.standing) ∙ (h.line ∙ sym (ap (λ b. if b then number else last) (not-driver others i p oth at)));
      })

  pub runs_other : (number : ℕ) (a : Act) (t : Thread) (old new : Progress) → AreOthers others → AreUpTo number others → p.thread ≡ t → q.thread ≡ p.thread
      → last_index (own q) ≤ number → TellsLine old new p q number a → RunsOther number t a old new others (slice_set others i q)
  runs_other number a t old new oth up is same l k = record {
    others_are = still_others oth same;
    up_to = still_up_to number up l;
    own_stay = k.own_stay;
    knew = k.adds.more;
    runs = other_on number a t old new oth is same k;
  }

-- the number of the driver's last line behind a line of its own, and behind another's
pub driver_comes : (number last : ℕ) (line : Thread × Act) (old new : Progress) (others : List Pass) → line.0 ≡ C → AreOthers others → AreUpTo number others
    → line_of new ≤ number → DrivesLine old new number line.1 → ComesTo number last number line old new others others
driver_comes number last line old new others is oth up l k = record {
  others_are = oth;
  up_to = up;
  driven = l;
  within = omega arith;
  last_is = sym (ap (λ t. last_after last number t) is);
  runs = driver_on number line.1 line.0 old new others is oth k;
}

pub other_comes : (number last : ℕ) (line : Thread × Act) (old new : Progress) (others others' : List Pass) → is_thread C line.0 ≡ false → line_of old ≤ last → last ≤ number
    → RunsOther number line.0 line.1 old new others others' → ComesTo number last last line old new others others'
other_comes number last line old new others others' other driven within k = record {
  others_are = k.others_are;
  up_to = k.up_to;
  driven = subst (λ es. last_index es ≤ last) (sym k.own_stay) driven;
  within = within;
  last_is = sym (ap (λ b. if b then number else last) other);
  runs = k.runs;
}
