-- The ten lists of a run with an entry of each side, and with one of two readers each, can be joined: they are the
-- lines 0 to 9 of one history.
use Rattle.std.proofs.Common.{◌≡◌, ℕ, List, [], ◌∷◌, None, refl, arith}
use Rattle.std.specs.Prelude.{All}
use Rattle.std.proofs.lemmas.List.Elements.{All-nil, All-cons, All-contains}
use Rattle.joint_machine.specs.declared.names.MNum.{MNum}
use Rattle.joint_machine.specs.declared.names.PNum.{PNum}
use Rattle.joint_machine.specs.declared.names.Thread.{Thread}
use Rattle.joint_machine.specs.declared.names.Thread.TheVariants.{M, C}
use Rattle.joint_machine.specs.declared.lines.Act.TheVariants as act
use Rattle.joint_machine.specs.declared.events.Entry.{Entry}
use Rattle.joint_machine.specs.declared.events.Op.{Op}
use Rattle.joint_machine.specs.declared.events.Op.TheVariants as op
use Rattle.joint_machine.specs.declared.events.Reply.TheVariants as says
use Rattle.joint_machine.specs.Histories.{FitsLists}
use Rattle.joint_machine.specs.Shuffles.{IsJoinable}
use Rattle.joint_machine.specs.Lines.{IsThread}
use Rattle.joint_model.proofs.Shuffling.{lines_from, lines_are_shuffle}

abbrev gone : ℕ → Thread → Op → Entry
gone n t o = record { number = n; made = record { caller = t; index = 7; op = o; reply = says.Gone; cites = None } }

-- the four entries
abbrev first : Entry
first = gone 0 (M 6) (op.Line (act.Await record { 0 = 1 }))

abbrev second : Entry
second = gone 1 C op.Begin

abbrev third : Entry
third = gone 2 (M 1) (op.Line (act.Drop record { 0 = 0 }))

abbrev fourth : Entry
fourth = gone 3 (M 2) (op.Line (act.Read record { 0 = 0 }))

abbrev all : List Entry
all = first ∷ second ∷ third ∷ fourth ∷ []

all-four : (Q : Entry → Type 0) → Q first → Q second → Q third → Q fourth → All Q all
all-four Q p q r s = All-cons Q first (second ∷ third ∷ fourth ∷ []) p (All-cons Q second (third ∷ fourth ∷ []) q (All-cons Q third (fourth ∷ []) r (All-cons Q fourth [] s (All-nil Q))))

threads : All (λ (e : Entry). IsThread e.made.caller) all
threads = all-four (λ (e : Entry). IsThread e.made.caller) (omega arith, omega arith) tt (omega arith, omega arith) (omega arith, omega arith)

pub ten_join : (lists : List (List Entry)) (ms : List MNum) (ps : List PNum) (ns : List MNum) → lists ≡ lines_from 0 10 all → IsJoinable lists ms ps ns
ten_join lists ms ps ns same = record {
  whole = all;
  shuffle = rw same (lines_are_shuffle all (refl, (refl, (refl, (refl, tt)))) (λ e c. All-contains (λ (x : Entry). IsThread x.made.caller) all e threads c));
  fits = all-four (FitsLists ms ps ns)
      record { event = (((omega arith, omega arith), omega arith), tt); spans = tt }
      record { event = tt; spans = tt }
      record { event = (((omega arith, omega arith), omega arith), tt); spans = tt }
      record { event = (((omega arith, omega arith), omega arith), tt); spans = tt };
}
