-- What contracts see of the live handles that are kept while a log is read.
use Rattle.std.specs.Prelude.{ℕ, List, map}
use Rattle.std.specs.BTreeMap.{get}
use Rattle.std.specs.Ordering.{nat_cmp}
use Rattle.joint_machine.specs.declared.names.HNum.{HNum}
use Rattle.log_text.specs.declared.live.LiveHandles.{LiveHandles}
use Rattle.log_text.specs.Behind.{Behind}

-- what stands behind the lines that were noted
abbrev pub shown : LiveHandles → Behind
shown v = record {
  strong = λ h. get nat_cmp v.strong h;
  weak = λ h. get nat_cmp v.weak h;
  grefc = v.grefc;
  gwrefc = v.gwrefc;
}

-- numbers, as handles
abbrev pub handles_of : List ℕ → List HNum
handles_of ks = map (λ k. let h : HNum = record { 0 = k } in h) ks
