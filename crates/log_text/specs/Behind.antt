-- What stands behind the lines of a reference log: which handles are live in each strength, each with its peer, and the
-- two counts. (The Xamarin.Android documentation: a line for each global and each weak global reference that comes or
-- goes, with the numbers of those that are there.)
-- Believed: the clauses of the program's top call rest on all that stands here.
use Rattle.std.specs.Prelude.{◌≡◌, ℕ, ◌+◌, ◌-◌, ◌<◌, ◌^◌, nat_eq, if◌then◌else◌, List, [], ◌∷◌, Option, Some, None}
use Rattle.log_text.specs.declared.lines.Mark.{Mark}
use Rattle.log_text.specs.declared.lines.Mark.TheVariants.{GPlus, GMinus, WPlus, WMinus}
use Rattle.log_text.specs.declared.lines.LogLine.{LogLine}

-- the peer of each handle that is live in a strength, and the counts: `grefc` of strong ones, `gwrefc` of weak ones
pub record Behind : Type 0 where
  pub strong : ℕ → Option ℕ
  pub weak : ℕ → Option ℕ
  pub grefc : ℕ
  pub gwrefc : ℕ

-- nothing is live
abbrev pub none_live : Behind
none_live = record { strong = λ h. None; weak = λ h. None; grefc = 0; gwrefc = 0 }

-- one handle's peer is another, or none
abbrev pub put : (ℕ → Option ℕ) → ℕ → Option ℕ → ℕ → Option ℕ
put live h o k = if nat_eq k h then o else live k

-- a handle came or went: it is live in a strength from its plus line until its minus line, and the counts are the
-- numbers of plus lines less the numbers of minus lines
abbrev pub moved : Behind → Mark → ℕ → ℕ → Behind
moved v GPlus h p = record v { strong = put v.strong h (Some p); grefc = v.grefc + 1 }
moved v GMinus h p = record v { strong = put v.strong h None; grefc = v.grefc - 1 }
moved v WPlus h p = record v { weak = put v.weak h (Some p); gwrefc = v.gwrefc + 1 }
moved v WMinus h p = record v { weak = put v.weak h None; gwrefc = v.gwrefc - 1 }

-- a plus line may stand where its handle isn't live in that strength, a minus line where it is, on that peer
abbrev pub MayStand : Behind → Mark → ℕ → ℕ → Type 0
MayStand v GPlus h p = v.strong h ≡ None
MayStand v GMinus h p = v.strong h ≡ Some p
MayStand v WPlus h p = v.weak h ≡ None
MayStand v WMinus h p = v.weak h ≡ Some p

-- behind a line, and behind lines one after another
abbrev pub behind : Behind → LogLine → Behind
behind v l = moved v l.mark l.h.0 l.p.0

abbrev pub behind_all : Behind → List LogLine → Behind
behind_all v [] = v
behind_all v (l ∷ ls) = behind_all (behind v l) ls

-- each number of a line fits its type
pub record Fits (l : LogLine) : Type 0 where
  pub h : l.h.0 < 2 ^ 32
  pub p : l.p.0 < 2 ^ 32
  pub grefc : l.grefc < 2 ^ 32
  pub gwrefc : l.gwrefc < 2 ^ 32
  pub entry : l.entry < 2 ^ 64

-- the line's counts are those behind it
pub record HasCounts (v : Behind) (l : LogLine) : Type 0 where
  pub strong : l.grefc ≡ v.grefc
  pub weak : l.gwrefc ≡ v.gwrefc

-- a line is lawful behind others
pub record IsLawfulLine (v : Behind) (l : LogLine) : Type 0 where
  pub fits : Fits l
  pub stands : MayStand v l.mark l.h.0 l.p.0
  pub counts : HasCounts (behind v l) l

-- each line is
abbrev pub AreLawful : Behind → List LogLine → Type 0
AreLawful v [] = Unit {0}
AreLawful v (l ∷ ls) = IsLawfulLine v l × AreLawful (behind v l) ls

-- the lines are those of a log
abbrev pub IsLog : List LogLine → Type 0
IsLog ls = AreLawful none_live ls
