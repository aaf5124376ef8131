-- The lines that a cycle has for each of its candidates. Nothing outside of this crate rests on it.
use Rattle.std.specs.Prelude.{◌≡◌, ℕ, ◌<◌, ◌^◌, List, Option, ◌∷◌, ◌++◌, codes, decimal}
use Rattle.joint_machine.specs.declared.names.HNum.{HNum}
use Rattle.joint_machine.specs.declared.names.Thread.TheVariants.{C}
use Rattle.joint_machine.specs.declared.events.Op.{Op}
use Rattle.joint_machine.specs.declared.events.Reply.{Reply}
use Rattle.joint_machine.specs.declared.events.Entry.{Entry}
use Rattle.entry_reader.specs.Fitting.{Short}
use Rattle.entry_reader.specs.Meaning.{Lists}
use Rattle.entry_reader.specs.Tailing.{ReadsEntry}

-- an entry of the driver
abbrev pub driven : ℕ → ℕ → Op → Reply → Option ℕ → Entry
driven number index o r cites = record {
  number = number;
  made = record { caller = C; index = index; op = o; reply = r; cites = cites };
}

-- the bytes begin with a number and a line of the driver
pub record IsPlaced (bytes : List ℕ) (number index : ℕ) (left : List ℕ) : Type 0 where
  pub few : number < 2 ^ 64
  pub line : Short index
  pub same : bytes ≡ decimal number ++ (codes " c." ++ (decimal index ++ (codes " " ++ left)))

-- behind these stands that a handle was weakened, and which entry is cited
pub record IsWeakened (bytes : List ℕ) (h : HNum) (cited : ℕ) (left : List ℕ) : Type 0 where
  pub short : Short h.0
  pub few : cited < 2 ^ 64
  pub same : bytes ≡ codes "weaken h" ++ (decimal h.0 ++ (32 ∷ (codes "= ok @" ++ (decimal cited ++ (10 ∷ left)))))

-- or that it was restored, and which handle stands for it now
pub record IsRestored (bytes : List ℕ) (h given : HNum) (left : List ℕ) : Type 0 where
  pub short : Short h.0
  pub given_short : Short given.0
  pub same : bytes ≡ codes "restore h" ++ (decimal h.0
      ++ (32 ∷ (codes "= alive h" ++ (decimal given.0 ++ (10 ∷ left)))))

-- the first line is that of an entry with that number, which has no list, and these bytes are left
pub record ReadsLikely (bytes : List ℕ) (number : ℕ) (e : Entry) (left : List ℕ) : Type 0 where
  pub text : List ℕ
  pub cut : bytes ≡ text ++ (10 ∷ left)
  pub reads : (l : Lists) → ReadsEntry text number l l e
