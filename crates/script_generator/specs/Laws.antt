-- What is known of every generated script.
use Rattle.std.specs.Prelude.{◌≡◌, ℕ, ◌+◌, ◌-◌, ◌*◌, ◌/◌, ◌%◌, ◌^◌, ◌≤◌, List, ◌++◌, length, All, codes}
use Rattle.joint_machine.specs.declared.names.Thread.{Thread}
use Rattle.joint_machine.specs.declared.names.Thread.TheVariants.{M, P}
use Rattle.joint_machine.specs.declared.lines.Act.{Act}
use Rattle.joint_machine.specs.declared.lines.Act.TheVariants as act
use Rattle.bridge_script.specs.Scripts.{IsScript, cycles_of, script_text_of}
use Rattle.script_generator.specs.Families.{lines_by, cached_leaf}
use Rattle.script_generator.specs.Generated.{family, cycle_after, generated}

-- how many families among so many from that of the seed on have the shape of nine lines; the others have six
abbrev pub circles_of : ℕ → ℕ → ℕ
circles_of seed size = (seed + size + 3) / 4 - (seed + 3) / 4

-- how many lines a script has
abbrev pub HasLines : Type 0
HasLines = (seed size : ℕ) → length (generated seed size) ≡ 6 * size + 3 * circles_of seed size + size / 100

-- how many of them are `c cycle`
abbrev pub HasCycles : Type 0
HasCycles = (seed size : ℕ) → cycles_of (generated seed size) ≡ size / 100

-- four families in turn have 27 lines, two thousand families 13,520, and the most that may be asked for 18,928,
-- whatever the seed
pub record HasKnownLengths : Type 0 where
  pub four : (seed : ℕ) → length (generated seed 4) ≡ 27
  pub two_thousand : (seed : ℕ) → length (generated seed 2000) ≡ 13520
  pub most : (seed : ℕ) → length (generated seed 2800) ≡ 18928

-- one family from the third shape on, as text
abbrev pub one_family_text : List ℕ
one_family_text = codes "p1 new a 1\np1 new b 1\np1 set a 0 b\np1 set b 0 a\np1 drop a\np1 drop b\n"

-- four families from the first shape on, as text
abbrev pub four_families_text : List ℕ
four_families_text =
    codes "m1 bridge a bridge 1 user 0\nm1 new b plain 1\nm1 set a 0 b\nm1 bridge c bridge 1 user 0\nm1 set b 0 c\nm1 set c 0 a\nm1 drop a\nm1 drop b\nm1 drop c\n"
    ++ codes "m2 bridge a leafbridge 0 framework 1\nm2 new b plain 1\nm2 set b 0 a\nm2 store g1 b\nm2 drop a\nm2 drop b\n"
    ++ codes "m3 bridge a bridge 1 user 0\nm3 new b leaf 0\nm3 set a 0 b\nm3 pass a s2\nm3 drop a\nm3 drop b\n"
    ++ codes "p4 new a 1\np4 new b 1\np4 set a 0 b\np4 set b 0 a\np4 drop a\np4 drop b\n"

-- these two scripts, word for word; the hundredth family, with the line `c cycle` behind it; and a family whose number
-- and whose seed have a sum past 64 bits: its shape is that of the sum
pub record HasKnownTexts : Type 0 where
  pub one : script_text_of (generated 3 1) ≡ one_family_text
  pub four : script_text_of (generated 0 4) ≡ four_families_text
  pub hundredth : script_text_of (family 2 99 ++ cycle_after 99) ≡ codes
      "m4 bridge a leafbridge 0 framework 1\nm4 new b plain 1\nm4 set b 0 a\nm4 store g3 b\nm4 drop a\nm4 drop b\nc cycle\n"
  pub great : family (2 ^ 64 - 1) 2 ≡ lines_by (M 3) (cached_leaf record { 0 = 2 })

-- what the generator makes of at most 2,800 families is a script
abbrev pub AreScripts : Type 0
AreScripts = (seed size : ℕ) → size ≤ 2800 → IsScript (generated seed size)

-- the line writes no static, or one that is written by its thread alone: in each heap a static is written by the
-- managed thread with one more than the remainder of its number by four
abbrev pub WritesOwnStatic : Thread × Act → Type 0
WritesOwnStatic (M t, act.Store x v) = t ≡ 1 + x.0 % 4
WritesOwnStatic (M t, act.Pass v x) = t ≡ 1 + x.0 % 4
WritesOwnStatic (P t, act.Store x v) = ⊥
WritesOwnStatic _ = Unit {0}

abbrev pub WritesAreApart : Type 0
WritesAreApart = (seed size : ℕ) → All WritesOwnStatic (generated seed size)
