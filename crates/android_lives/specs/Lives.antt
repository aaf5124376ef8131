-- A reference's life: it goes on over a cycle, where the reference becomes weak and strong again. Its site is the place
-- that made it first.
use Rattle.std.specs.Prelude.{ℕ, ◌+◌, Bool, true, false, if◌then◌else◌, nat_lt, List, [], ◌++◌, Option, Some, None, codes, slice_get, slice_set}
use Rattle.android_lives.specs.declared.lives.Stage.{Stage}
use Rattle.android_lives.specs.declared.lives.Stage.TheVariants.{Untold, Noted, Framed, Named}
use Rattle.android_log.specs.Frames.{is_runtimes, name_of}

-- how many cycles had begun when it was made, the last cycle that weakened it, 0 where none did, the Java type of its
-- handle, once it was told, and its site with the stage of it
pub record Lived : Type 0 where
  pub begun : ℕ
  pub weakened : ℕ
  pub kind : Option (List ℕ)
  pub site : List ℕ
  pub stage : Stage

abbrev pub born : ℕ → Lived
born begun = record { begun = begun; weakened = 0; kind = None; site = []; stage = Untold }

-- between two names of a site
abbrev pub site_word : List ℕ
site_word = codes " < "

-- a site with one more name of a frame, of which the runtime's own count only where there is no other: at most so many
-- others, each called by the next
abbrev pub with_runtimes : Lived → List ℕ → Stage → Lived
with_runtimes l name (Named n) = l
with_runtimes l name Framed = l
with_runtimes l name _ = record l { site = name; stage = Framed }

abbrev pub with_named : ℕ → Lived → List ℕ → Stage → Lived
with_named most l name (Named n) = if nat_lt n most then record l { site = l.site ++ (site_word ++ name); stage = Named (n + 1) } else l
with_named most l name _ = record l { site = name; stage = Named 1 }

abbrev pub with_name : ℕ → Lived → List ℕ → Bool → Lived
with_name most l name true = with_runtimes l name l.stage
with_name most l name false = with_named most l name l.stage

abbrev pub with_frame : ℕ → Lived → List ℕ → Lived
with_frame most l frame = with_name most l (name_of frame) (is_runtimes (name_of frame))

-- a note is a site where there is no other yet
abbrev pub with_note : Lived → List ℕ → Stage → Lived
with_note l note Untold = record l { site = note; stage = Noted }
with_note l note _ = l

-- a line of the place that made it: a frame with its text, or a note
abbrev pub with_site : ℕ → Lived → List ℕ → Option (List ℕ) → Lived
with_site most l line (Some frame) = with_frame most l frame
with_site most l line None = with_note l line l.stage

-- lives, one of which changed
abbrev pub put_changed : (Lived → Lived) → ℕ → List Lived → Option Lived → List Lived
put_changed f i lives None = lives
put_changed f i lives (Some l) = slice_set lives i (f l)

abbrev pub changed : (Lived → Lived) → ℕ → List Lived → List Lived
changed f i lives = put_changed f i lives (slice_get lives i)

-- a life's site, where a line told it
abbrev pub told_site : Stage → List ℕ → Option (List ℕ)
told_site Untold site = None
told_site _ site = Some site

abbrev pub site_of : Lived → Option (List ℕ)
site_of l = told_site l.stage l.site
