-- Counts of faults, texts at a sink and bytes of a source, each with what the definition asks of it, and without.
use Rattle.std.specs.Prelude.{ℕ, ◌-◌, ◌^◌, ◌<◌, [], ◌∷◌, Some, Result}
use Rattle.std.specs.declared.result.Result.TheVariants as result
use Rattle.byte_streams.specs.Faults.{AppendsPart, HasCause, Rose}
use Rattle.byte_streams.specs.Reading.{Took}

-- what a call answers that has no value
abbrev pub Answer : Type 0
Answer = Result (Unit {0}) ℕ

abbrev pub went_well : Answer
went_well = result.Ok tt

abbrev pub failed : Answer
failed = result.Err 0

-- a count below its end that stands still didn't rise; one at its end did
pub record CountsAreTold : Type 0 where
  pub rises : Rose 3 4
  pub at_end : Rose (2 ^ 64 - 1) (2 ^ 64 - 1)
  pub stands : (n : ℕ) → n < 2 ^ 64 - 1 → Rose n n → ⊥
  pub falls : HasCause 4 3 went_well → ⊥
  pub uncaused : HasCause 3 3 failed → ⊥

-- a part of a text is a beginning of it, and stands behind what the sink held
pub record PartsAreTold : Type 0 where
  pub part : AppendsPart (Some (5 ∷ [])) (Some (5 ∷ 1 ∷ [])) (1 ∷ 2 ∷ [])
  pub other : AppendsPart (Some (5 ∷ [])) (Some (5 ∷ 2 ∷ [])) (1 ∷ 2 ∷ []) → ⊥
  pub lost : AppendsPart (Some (5 ∷ [])) (Some (1 ∷ [])) (1 ∷ 2 ∷ []) → ⊥

-- a source is read to its end or up to one byte past the limit, and what was taken stood at its front
pub record TakingIsTold : Type 0 where
  pub to_end : Took 3 (Some (1 ∷ 2 ∷ [])) (Some []) (1 ∷ 2 ∷ [])
  pub past_limit : Took 1 (Some (1 ∷ 2 ∷ 3 ∷ [])) (Some (3 ∷ [])) (1 ∷ 2 ∷ [])
  pub other : Took 3 (Some (1 ∷ 2 ∷ [])) (Some []) (1 ∷ 3 ∷ []) → ⊥
  pub early : Took 3 (Some (1 ∷ 2 ∷ [])) (Some (2 ∷ [])) (1 ∷ []) → ⊥
  pub late : Took 1 (Some (1 ∷ 2 ∷ 3 ∷ [])) (Some []) (1 ∷ 2 ∷ 3 ∷ []) → ⊥
