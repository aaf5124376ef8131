-- The check of a whole history: the past so far with the entries that are left, and what is found.
use Rattle.std.proofs.Common.{◌≡◌, ℕ, ◌+◌, ◌<◌, ◌^◌, ◌↔◌, List, [], ◌∷◌, ◌++◌, length, take, Some, refl, sym, ap, ◌∙◌, subst, arith, append_assoc}
use Rattle.std.specs.Prelude.{slice_get}
use Rattle.std.proofs.lemmas.List.{append-nil}
use Rattle.std.proofs.Math.Seq.{take-append_seam}
use Rattle.joint_machine.specs.declared.events.Entry.{Entry}
use Rattle.joint_machine.specs.Histories.{Finished, NumberedFrom}
use Rattle.joint_machine.specs.LinkedHistories.{IsLinked}
use Rattle.joint_machine.specs.Told.{Noted}
use Rattle.known_laws.specs.PastEntries.{entries}
use Rattle.check_laws.specs.declared.findings.Finding.{Finding}
use Rattle.check_laws.specs.declared.findings.Finding.TheVariants as finding
use Rattle.check_laws.specs.declared.findings.Why.{Why}
use Rattle.check_laws.specs.Behind.{in_turn}
use Rattle.check_laws.specs.Found.{as_named}
use Rattle.check_laws.specs.Findings.{FailsBy, HasSoundAndCompleteRun, IsAllInOrder, IsFinding}
use Rattle.check_laws.specs.Knows.{AreKnown}
use Rattle.check_laws.proofs.Knows.{pasts_known}
use Rattle.check_laws.proofs.Linking.{legal_linked, linked_runs}
use Rattle.check_laws.proofs.OneFinding.{entries-length, one_finding}
use Rattle.run_check.specs.declared.replays.Replay.{Replay}
use Rattle.run_check.specs.Follows.{Follows}
use Rattle.run_check.specs.Judging.{GoesOn, IsFoundAtEnd, IsJudged, IsThrough, IsWalked}
use Rattle.run_check.proofs.Pasts.{numbers-more, turn-more}

-- the entry that comes with a number
module _ (h : Finished) (e : Entry) (old : Replay) (n : ℕ) where
  pub judged : e.number ≡ n → n < 2 ^ 62 → (past : List Noted) → IsWalked h past old n → IsJudged h past old e
  judged is low past w = record {
    so_far = record { numbers = w.numbers; order = w.order; few = subst (λ k. k < 2 ^ 62) (sym w.place) low };
    follows = w.follows;
    number = is ∙ sym w.place;
  }

-- so far a past is in order, which a replay follows, and these entries are left
pub record IsChecked (h : Finished) (r : Replay) (n : ℕ) (left : List Entry) : Type 0 where
  pub past : List Noted
  pub walked : IsWalked h past r n
  pub whole : h.entries ≡ entries (in_turn past) ++ left

get-seam : (xs : List Entry) (e : Entry) (ys : List Entry) → slice_get (xs ++ e ∷ ys) (length xs) ≡ Some e
get-seam [] e ys = refl
get-seam (x ∷ xs) e ys = get-seam xs e ys

module _ (h : Finished) (r : Replay) (n : ℕ) where
  pub first : Follows [] r → n ≡ 0 → (left : List Entry) → left ≡ h.entries → IsChecked h r n left
  first f z left e = record { past = []; walked = record { numbers = tt; order = tt; follows = f; place = sym z }; whole = sym e }

  -- the next entry
  module _ (e : Entry) (left : List Entry) (w : IsChecked h r n (e ∷ left)) where
    many : length (entries (in_turn w.past)) ≡ n
    many = entries-length w.past ∙ w.walked.place

    pub illegal : (y : Why) → FailsBy y h w.past e → IsFinding h (finding.Illegal n y)
    illegal y fails = (
      w.past,
      record {
        same = sym (ap (take n) w.whole ∙ (ap (λ i. take i (entries (in_turn w.past) ++ e ∷ left)) (sym many) ∙ take-append_seam (entries (in_turn w.past)) (e ∷ left)));
        order = w.walked.order;
      },
      (e, ap (λ l. slice_get l n) w.whole ∙ (ap (slice_get (entries (in_turn w.past) ++ e ∷ left)) (sym many) ∙ get-seam (entries (in_turn w.past)) e left), fails),
    )

    pub more : (new : Replay) (k : ℕ) → k ≡ n + 1 → e.number ≡ n → GoesOn h w.past e new → IsChecked h new k left
    more new k next number g =
        let note : Noted = record { entry = e; told = g.told } in
        record {
          past = note ∷ w.past;
          walked = record {
            numbers = numbers-more w.past note w.walked.numbers (number ∙ sym w.walked.place);
            order = (g.order, w.walked.order);
            follows = g.follows;
            place = (let a = w.walked.place in omega (arith, a, next));
          };
          whole = w.whole ∙ (sym (append_assoc (entries (in_turn w.past)) (e ∷ []) left) ∙ ap (λ l. l ++ left) (sym (turn-more w.past note)));
        }

  -- no entry is left
  module _ (w : IsChecked h r n []) where
    all-are : entries (in_turn w.past) ≡ h.entries
    all-are = sym (w.whole ∙ append-nil (entries (in_turn w.past)))

    pub all-numbered : NumberedFrom 0 h.entries
    all-numbered = subst (NumberedFrom 0) all-are w.walked.numbers

    pub all-known : AreKnown w.past
    all-known = pasts_known h w.past w.walked.numbers w.walked.order

    in-order : IsAllInOrder h w.past
    in-order = record { same = all-are; order = w.walked.order }

    pub ended : (f : Finding) → IsFoundAtEnd w.past f → IsFinding h f
    ended finding.Legal x = (w.past, in-order, x)
    ended finding.Unfinished x = (w.past, in-order, x)
    ended (finding.Illegal i y) x = absurd x

-- the walk's end
pub through : (h : Finished) (r : Replay) (n : ℕ) → IsChecked h r n [] → IsThrough h r
through h r n w = record {
  past = w.past;
  walked = record { numbers = w.walked.numbers; order = w.walked.order; follows = w.walked.follows; place = refl };
  whole = w.whole ∙ append-nil (entries (in_turn w.past));
}

pub checked : (h : Finished) (r : Replay) (w : IsThrough h r) → IsChecked h r (length w.past) []
checked h r w = record { past = w.past; walked = w.walked; whole = w.whole ∙ sym (append-nil (entries (in_turn w.past))) }

-- what is found says whether the history is linked
pub found-linked : (h : Finished) (f : Finding) → IsFinding h f → (f ≡ finding.Legal → NumberedFrom 0 h.entries) → (f ≡ finding.Legal) ↔ IsLinked (as_named h)
found-linked h f found numbers = (
  (λ e. (legal_linked h (numbers e)).0 (subst (IsFinding h) e found)),
  λ l. one_finding h f finding.Legal found ((legal_linked h l.linked.numbers).1 l),
)

pub found-runs : (h : Finished) (f : Finding) → IsFinding h f → (f ≡ finding.Legal → NumberedFrom 0 h.entries) → f ≡ finding.Legal → HasSoundAndCompleteRun (as_named h)
found-runs h f found numbers e = linked_runs (as_named h) ((found-linked h f found numbers).0 e)

-- what is found before the end
module _ (h : Finished) (f : Finding) (w : IsFinding h f × (f ≡ finding.Legal → ⊥)) where
  pub fault-legal : (f ≡ finding.Legal) ↔ IsLinked (as_named h)
  fault-legal = found-linked h f w.0 (λ e. absurd (w.1 e))

  pub fault-runs : f ≡ finding.Legal → HasSoundAndCompleteRun (as_named h)
  fault-runs e = absurd (w.1 e)

-- and at the end
module _ (h : Finished) (r : Replay) (f : Finding) (w : IsThrough h r) (at-end : (past : List Noted) → AreKnown past → Follows past r → IsFoundAtEnd past f) where
  here : IsChecked h r (length w.past) []
  here = checked h r w

  pub end-found : IsFinding h f
  unfolding here checked
  end-found = ended h r (length w.past) here f (at-end w.past (all-known h r (length w.past) here) w.walked.follows)

  pub end-legal : (f ≡ finding.Legal) ↔ IsLinked (as_named h)
  end-legal = found-linked h f end-found (λ e. all-numbered h r (length w.past) here)

  pub end-runs : f ≡ finding.Legal → HasSoundAndCompleteRun (as_named h)
  end-runs = found-runs h f end-found (λ e. all-numbered h r (length w.past) here)
