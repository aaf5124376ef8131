-- The histories of the gaps, a table at a time, each by one computation.
use Rattle.std.proofs.Common.{◌≡◌, ℕ, Bool, true, ◌&&◌, List, [], ◌∷◌, refl}
use Rattle.std.proofs.lemmas.Bool.{and_parts}
use Rattle.worked_histories.specs.Gaps.{with_gap, GapCase, InGaps, InEachGap, collections, readings, droppings, storings, waitings, beginnings, CollectsInGaps, ReadsInGaps, DropsInGaps, StoresInGaps}
use Rattle.worked_histories.specs.Gaps.{WaitsInGaps, BeginsInGaps}
use Rattle.worked_histories.proofs.Worked.{is_worked, worked}

-- all histories of a case, and of a table, pass the test
abbrev pass_in : List ℕ → GapCase → Bool
pass_in [] c = true
pass_in (g ∷ gs) c = is_worked (with_gap g c.lines c.outcome) c.unreached && pass_in gs c

abbrev all_pass : List GapCase → Bool
all_pass [] = true
all_pass (c ∷ cs) = pass_in c.gaps c && all_pass cs

in_gaps : (gs : List ℕ) (c : GapCase) → pass_in gs c ≡ true → InGaps gs c
in_gaps [] c e = tt
in_gaps (g ∷ gs) c e = let p = and_parts (is_worked (with_gap g c.lines c.outcome) c.unreached) (pass_in gs c) e in
    (worked (with_gap g c.lines c.outcome) c.unreached p.0, in_gaps gs c p.1)

each_gap : (cs : List GapCase) → all_pass cs ≡ true → InEachGap cs
each_gap [] e = tt
each_gap (c ∷ cs) e = let p = and_parts (pass_in c.gaps c) (all_pass cs) e in (in_gaps c.gaps c p.0, each_gap cs p.1)

pub collects : CollectsInGaps
collects = each_gap collections refl

pub reads : ReadsInGaps
reads = each_gap readings refl

pub drops : DropsInGaps
drops = each_gap droppings refl

pub stores : StoresInGaps
stores = each_gap storings refl

pub waits : WaitsInGaps
waits = each_gap waitings refl

pub begins : BeginsInGaps
begins = each_gap beginnings refl
