-- Lists of the handles that are live in a log, and the fault of bytes that are no log.
use Rattle.std.specs.Prelude.{◌≡◌, ℕ, List, [], ◌∷◌, Option, Some, None}
use Rattle.joint_machine.specs.declared.names.HNum.{HNum}
use Rattle.log_text.specs.declared.lines.LogCause.{LogCause}
use Rattle.log_text.specs.declared.lines.LogCause.TheVariants as cause
use Rattle.log_text.specs.Behind.{put}
use Rattle.log_text.specs.Faults.{IsLogFault}
use Rattle.log_text.specs.Keys.{AreKeys}

-- a handle
abbrev pub handle : ℕ → HNum
handle h = record { 0 = h }

-- the handles 1 and 2 are live, on the peers 7 and 8
abbrev pub two_live : ℕ → Option ℕ
two_live = put (put (λ h. None) 1 (Some 7)) 2 (Some 8)

-- both are listed, in their order, each once, and no other
pub record KeysAreTold : Type 0 where
  pub both : AreKeys two_live (handle 1 ∷ handle 2 ∷ [])
  pub twice : AreKeys two_live (handle 1 ∷ handle 1 ∷ handle 2 ∷ []) → ⊥
  pub falling : AreKeys two_live (handle 2 ∷ handle 1 ∷ []) → ⊥
  pub less : AreKeys two_live (handle 1 ∷ []) → ⊥
  pub more : AreKeys two_live (handle 1 ∷ handle 2 ∷ handle 3 ∷ []) → ⊥

-- a line that no log has: x
abbrev pub no_line : List ℕ
no_line = 120 ∷ 10 ∷ []

-- its first line is wrong in its text, and nothing else is; where nothing is, the first line is missing; the text of a
-- log without lines has no fault
pub record LogFaultsAreTold : Type 0 where
  pub found : IsLogFault no_line 1 cause.Text
  pub alone : (number : ℕ) (why : LogCause) → IsLogFault no_line number why → (number ≡ 1) × (why ≡ cause.Text)
  pub missing : IsLogFault [] 1 cause.End
  pub alone_missing : (number : ℕ) (why : LogCause) → IsLogFault [] number why → (number ≡ 1) × (why ≡ cause.End)
