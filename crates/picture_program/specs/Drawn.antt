-- What is drawn of the bytes of a report, or why nothing is.
use Rattle.std.specs.Prelude.{◌≡◌, ℕ, ◌+◌, ◌<◌, ◌≤◌, List, ◌∷◌, ◌++◌, Option, Some, None, codes, length, take}
use Rattle.joint_machine.specs.Histories.{Finished}
use Rattle.bridge_script.specs.declared.faults.Cause.TheVariants.{Bytes}
use Rattle.bridge_script.specs.Causes.{fault_text}
use Rattle.report_reader.specs.Reading.{IsReadAs}
use Rattle.limited_reports.specs.declared.limits.TakeError.TheVariants as take_error
use Rattle.limited_reports.specs.Limits.{IsNoneWithin}
use Rattle.report_answers.specs.Answers.{finding_text, refusal_text}
use Rattle.check_laws.specs.declared.findings.Finding.{Finding}
use Rattle.check_laws.specs.declared.findings.Finding.TheVariants as finding
use Rattle.check_laws.specs.Findings.{IsFinding}
use Rattle.heap_views.specs.Views.{Seen, View, opening_view}
use Rattle.heap_pictures.specs.Drawing.{drawing_of, spot_of}
use Rattle.heap_pictures.specs.Pictures.{Drawing}
use Rattle.picture_sheets.specs.Around.{HasNamed, IsAround}
use Rattle.picture_sheets.specs.Sheets.{Sheet, alone, compared}
use Rattle.picture_text.specs.Texts.{sheet_text}
use Rattle.picture_laws.specs.Laws.{HasOneNodeEach, NodesAreUnfreed, PathsAreReached}
use Rattle.picture_laws.specs.Standing.{ReferencesStand}
use Rattle.picture_laws.specs.Seeing.{IsInOrderTo, IsOfBothSides}
use Rattle.picture_program.specs.declared.drawing.Drawn.{Drawn}
use Rattle.picture_program.specs.declared.drawing.Drawn.TheVariants as drawn
use Rattle.picture_program.specs.declared.drawing.Refusal.{Refusal}
use Rattle.picture_program.specs.declared.drawing.Refusal.TheVariants as refusal
use Rattle.picture_program.specs.declared.words.Around.{Around}
use Rattle.picture_program.specs.declared.words.Entries.{Entries}
use Rattle.picture_program.specs.declared.words.Entries.TheVariants.{One, Two}
use Rattle.picture_program.specs.declared.words.Request.{Request}
use Rattle.picture_program.specs.Lines.{line_at}
use Rattle.picture_program.specs.Words.{last_entry}

-- by the finding one of the entries up to that one isn't in order
abbrev pub IsIllegalBy : ℕ → Finding → Type 0
IsIllegalBy n (finding.Illegal i why) = i ≤ n
IsIllegalBy n _ = ⊥

-- what a picture tells after entry n: its nodes are the unfreed objects, each has one, its paths lead to what the joint
-- machine has reached, and the references are those of the last mirror up to that entry that no clear follows
pub record Tells (h : Finished) (n : ℕ) (v : View) : Type 0 where
  pub nodes : NodesAreUnfreed v
  pub names : HasOneNodeEach v
  pub paths : PathsAreReached v
  pub references : ReferencesStand h (n + 1) v.refs

-- the picture is that of what is seen after entry n, which has the joint graph of both sides' states there
pub record IsSeenAfter (h : Finished) (n : ℕ) (d : Drawing) : Type 0 where
  pub view : View
  pub seen : Seen h opening_view (take (n + 1) h.entries) view
  pub sides : IsOfBothSides h n view
  pub tells : Tells h n view
  pub is : d ≡ drawing_of view

-- the sheet is the picture after one entry, or the pictures after two, compared
abbrev pub IsSheetOf : Finished → Entries → Sheet → Type 0
IsSheetOf h (One n) s = (d : Drawing) × IsSeenAfter h n d × (s ≡ alone d)
IsSheetOf h (Two n m) s = (d : Drawing) × (e : Drawing) × IsSeenAfter h n d × IsSeenAfter h m e × (s ≡ compared d e)

-- all of it, or the part around a node
abbrev pub HasIt : Sheet → Around → Type 0
HasIt s a = HasNamed s a.side a.number

abbrev pub IsPartOf : Option Around → Sheet → Sheet → Type 0
IsPartOf None whole part = part ≡ whole
IsPartOf (Some a) whole part = HasIt whole a × IsAround whole (spot_of a.side a.number) a.steps part

-- the title: the entry's line, or the lines of both
abbrev pub title_of : Entries → List ℕ → List ℕ
title_of (One n) input = line_at n input
title_of (Two n m) input = line_at n input ++ (10 ∷ line_at m input)

-- the bytes are read as a history, whose entries up to the last that is asked for are found in order, and that is its
-- sheet
pub record IsSheetIn (input : List ℕ) (entries : Entries) (whole : Sheet) : Type 0 where
  pub history : Finished
  pub reads : IsReadAs input history
  pub finding : Finding
  pub found : IsFinding history finding
  pub order : IsInOrderTo (last_entry entries) finding
  pub within : last_entry entries < length history.entries
  pub is : IsSheetOf history entries whole

-- the bytes are within the limit, and the text is that of what is asked for
pub record IsPicture (most : ℕ) (input : List ℕ) (r : Request) (text : List ℕ) : Type 0 where
  pub size : length input ≤ most
  pub whole : Sheet
  pub drawn : IsSheetIn input r.entries whole
  pub part : Sheet
  pub around : IsPartOf r.around whole part
  pub is : text ≡ sheet_text (title_of r.entries input) part

-- the sheet has no such node
pub record HasNoNode (input : List ℕ) (r : Request) : Type 0 where
  pub whole : Sheet
  pub drawn : IsSheetIn input r.entries whole
  pub around : Around
  pub asked : r.around ≡ Some around
  pub missing : HasIt whole around → ⊥

-- the bytes are read as a history that is found so
pub record IsFoundIllegal (input : List ℕ) (n : ℕ) (f : Finding) (count : ℕ) : Type 0 where
  pub history : Finished
  pub reads : IsReadAs input history
  pub found : IsFinding history f
  pub illegal : IsIllegalBy n f
  pub counted : count ≡ length history.entries

-- the bytes are read as a history that has no such entry
pub record HasNoEntry (input : List ℕ) (n : ℕ) : Type 0 where
  pub history : Finished
  pub reads : IsReadAs input history
  pub short : length history.entries ≤ n

-- why there is no picture, of bytes within a limit
abbrev pub IsRefused : ℕ → List ℕ → Request → Refusal → Type 0
IsRefused most input r (refusal.Line fault) = IsNoneWithin most input (take_error.Refused fault)
IsRefused most input r (refusal.Long line) = IsNoneWithin most input (take_error.Long line)
IsRefused most input r (refusal.Found f count) = IsFoundIllegal input (last_entry r.entries) f count
IsRefused most input r refusal.NoEntry = HasNoEntry input (last_entry r.entries)
IsRefused most input r refusal.NoNode = HasNoNode input r

-- what is answered of the bytes
abbrev pub IsDrawn : ℕ → List ℕ → Request → Drawn → Type 0
IsDrawn most input r (drawn.Picture text) = IsPicture most input r text.items
IsDrawn most input r (drawn.None refusal) = IsRefused most input r refusal

-- the line that says it
abbrev pub refusal_line : Refusal → List ℕ
refusal_line (refusal.Line fault) = refusal_text fault
refusal_line (refusal.Long line) = fault_text (record { line = line; cause = Bytes })
refusal_line (refusal.Found f count) = finding_text count f
refusal_line refusal.NoEntry = codes "no such entry\n"
refusal_line refusal.NoNode = codes "no such node\n"
