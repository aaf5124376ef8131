-- What is put of a report, and that a report within the limit isn't refused.
use Rattle.std.proofs.Common.{◌≡◌, ℕ, ◌+◌, ◌≤◌, inl, inr, List, ◌++◌, length, Option, Some, None, refl, sym, ap, subst, ◌∙◌, arith, append-nil, length-append}
use Rattle.joint_machine.specs.Histories.{Finished}
use Rattle.byte_streams.specs.Reading.{Took}
use Rattle.report_reader.specs.Reading.{IsReadAs}
use Rattle.limited_reports.specs.declared.limits.TakeError.{TakeError}
use Rattle.limited_reports.specs.declared.limits.TakeError.TheVariants.{OutOfMemory, ReadFault, Refused, Long}
use Rattle.limited_reports.specs.Limits.{IsNoneWithin, TookWrong}

-- all of a source that has no more than the limit was taken
all-taken : (most : ℕ) (left rest : Option (List ℕ)) (input bytes : List ℕ) → left ≡ Some input → length input ≤ most → Took most left rest bytes → bytes ≡ input
all-taken most None rest input bytes e l t = absurd (let f : ⊥ = cc in f)
all-taken most (Some s) None input bytes e l t = absurd t.taken
all-taken most (Some s) (Some r) input bytes e l t =
    let is : s ≡ input = cc in
    let whole : input ≡ bytes ++ r = sym is ∙ t.taken in
    elim t.stopped [
      | inl a ↦ sym (whole ∙ (ap (λ x. bytes ++ x) a ∙ append-nil bytes))
      | inr m ↦ absurd (omega (arith, m, l, ap length whole, length-append bytes r))
    ]

-- a report is one
not-refused : (most : ℕ) (input : List ℕ) (h : Finished) → IsReadAs input h → length input ≤ most → (error : TakeError) → (error ≡ OutOfMemory → ⊥) → IsNoneWithin most input error → ⊥
not-refused most input h r l OutOfMemory n w = n refl
not-refused most input h r l ReadFault n w = w
not-refused most input h r l (Refused fault) n (inl w) = w.none h r.canonical.value r.text
not-refused most input h r l (Refused fault) n (inr w) = (let long = w.0 in omega (arith, long, l))
not-refused most input h r l (Long line) n w = (let long = w.0 in omega (arith, long, l))

pub never_refused : (most : ℕ) (left rest : Option (List ℕ)) (input : List ℕ) (h : Finished) (error : TakeError)
    → left ≡ Some input → IsReadAs input h → length input ≤ most → (error ≡ OutOfMemory → ⊥) → TookWrong most left rest error → ⊥
never_refused most left rest input h error e r l n w =
    let same = all-taken most left rest input w.input e l w.took in
    not-refused most input h r l error n (subst (λ b. IsNoneWithin most b error) same w.wrong)
