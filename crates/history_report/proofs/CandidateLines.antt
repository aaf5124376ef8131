-- The line of an entry that tells of a candidate.
use Rattle.std.proofs.Common.{◌≡◌, ℕ, List, [], ◌∷◌, ◌++◌, codes, decimal, append_assoc, append-nil}
use Rattle.joint_machine.specs.declared.events.Entry.{Entry}
use Rattle.joint_machine.specs.Histories.{Finished}
use Rattle.history_report.specs.declared.candidates.Candidate.{Candidate}
use Rattle.history_report.specs.declared.candidates.Candidate.TheVariants.{Weakened, Restored}
use Rattle.history_report.specs.Candidates.{IsOfCandidate, candidate_text}
use Rattle.history_report.specs.Report.{entry_text}

cited-joined : (d p i w h e t s n : List ℕ) → (d ++ (p ++ (i ++ (w ++ (h ++ e))))) ++ ((t ++ (s ++ [])) ++ n) ≡ d ++ (((p ++ (i ++ w)) ++ h) ++ (((e ++ t) ++ s) ++ n))
cited-joined d p i w h e t s n = simp (append_assoc, append-nil)

renewed-joined : (d p i w h e s n : List ℕ) → (d ++ (p ++ (i ++ (w ++ (h ++ (e ++ (s ++ []))))))) ++ n ≡ d ++ (((p ++ (i ++ w)) ++ h) ++ ((e ++ s) ++ n))
renewed-joined d p i w h e s n = simp (append_assoc, append-nil)

pub candidate-line : (f : Finished) (e : Entry) (c : Candidate) → IsOfCandidate e c → entry_text f e ≡ candidate_text e.number e.made.index c
candidate-line f e (Weakened h s) w = rw (w.0, w.1.0, w.1.1.0, w.1.1.1)
    (cited-joined (decimal e.number) (codes " c.") (decimal e.made.index) (codes " weaken h") (decimal h.0) (codes " = ok") (codes " @") (decimal s) (10 ∷ []))
candidate-line f e (Restored h g) w = rw (w.0, w.1.0, w.1.1.0, w.1.1.1)
    (renewed-joined (decimal e.number) (codes " c.") (decimal e.made.index) (codes " restore h") (decimal h.0) (codes " = alive h") (decimal g.0) (10 ∷ []))
