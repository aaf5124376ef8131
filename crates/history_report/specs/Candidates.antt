-- The lines that a cycle has for each candidate.
use Rattle.std.specs.Prelude.{◌≡◌, ℕ, List, [], ◌∷◌, ◌++◌, Some, None, codes, decimal}
use Rattle.joint_machine.specs.declared.names.Thread.TheVariants.{C}
use Rattle.joint_machine.specs.declared.events.Entry.{Entry}
use Rattle.joint_machine.specs.declared.events.Op.TheVariants as op
use Rattle.joint_machine.specs.declared.events.Reply.TheVariants as reply
use Rattle.history_report.specs.declared.candidates.Candidate.{Candidate}
use Rattle.history_report.specs.declared.candidates.Candidate.TheVariants.{Weakened, Restored}

-- the entry tells that of a candidate
abbrev pub IsOfCandidate : Entry → Candidate → Type 0
IsOfCandidate e (Weakened h snap) = (e.made.caller ≡ C) × ((e.made.op ≡ op.Weaken h)
    × ((e.made.reply ≡ reply.Ok) × (e.made.cites ≡ Some snap)))
IsOfCandidate e (Restored h given) = (e.made.caller ≡ C) × ((e.made.op ≡ op.Restore h)
    × ((e.made.reply ≡ reply.Renewed given) × (e.made.cites ≡ None)))

-- the words of a line of the driver from its place on
abbrev pub front_text : ℕ → List ℕ → List ℕ
front_text index words = codes " c." ++ (decimal index ++ words)

-- the line of such an entry
abbrev pub candidate_text : ℕ → ℕ → Candidate → List ℕ
candidate_text number index (Weakened h snap) = decimal number ++ ((front_text index (codes " weaken h") ++ decimal h.0)
    ++ ((codes " = ok @" ++ decimal snap) ++ 10 ∷ []))
candidate_text number index (Restored h given) = decimal number ++ ((front_text index (codes " restore h")
    ++ decimal h.0) ++ ((codes " = alive h" ++ decimal given.0) ++ 10 ∷ []))
