-- What a read of a weak cell is seen as, and what it promises.
use Rattle.std.specs.Prelude.{◌≡◌, ◌↔◌, ℕ, ◌+◌, ◌*◌, ◌^◌, ◌<◌, List, [], ◌∷◌, ◌++◌, None, Some}
use Rattle.joint_machine.specs.declared.names.Cycle.{Cycle}
use Rattle.joint_machine.specs.declared.names.MNum.{MNum}
use Rattle.joint_machine.specs.declared.names.Thread.TheVariants.{M}
use Rattle.joint_machine.specs.declared.lines.Act.{Act}
use Rattle.joint_machine.specs.declared.lines.Act.TheVariants as act
use Rattle.joint_machine.specs.declared.events.Entry.{Entry}
use Rattle.joint_machine.specs.declared.events.Made.{Made}
use Rattle.joint_machine.specs.declared.events.Op.TheVariants as op
use Rattle.joint_machine.specs.declared.events.Reply.{Reply}
use Rattle.joint_machine.specs.declared.events.Reply.TheVariants as says
use Rattle.joint_machine.specs.Draws.{numbered}
use Rattle.joint_model.specs.Listed.{Stock}
use Rattle.order_table.specs.declared.views.KeptEntry.{KeptEntry}
use Rattle.order_table.specs.declared.views.View.{View}
use Rattle.order_table.specs.Stages.{IsClosed, stage}
use Rattle.order_table.specs.Owed.{IsLoaded, IsNumber, pin, says_word, word_of}
use Rattle.order_table.specs.Views.{OrderId, IsEnded, known, Owns}
use Rattle.order_table.specs.Rule.{IsBelow, SetsCell, Stands}
use Rattle.order_table.specs.Tells.{BeginsOneHistory, GrowsByEntry}
use Rattle.weak_wait.specs.declared.reads.Got.{Got}
use Rattle.weak_wait.specs.declared.reads.Got.TheVariants as got

-- a read, and its cell
abbrev pub IsRead : Act → Type 0
IsRead (act.Read k) = k.0 < 64
IsRead (act.Await k) = k.0 < 64
IsRead _ = ⊥

abbrev pub cell_of : Act → ℕ
cell_of (act.Read k) = k.0
cell_of (act.Await k) = k.0
cell_of _ = 0

-- the reply that an answer stands for
abbrev pub reply_of : Got → Reply
reply_of (got.Got m) = says.M m
reply_of got.Gone = says.Gone
reply_of got.Unset = says.Unset
reply_of (got.Pending k) = says.Pending k
reply_of (got.PinHeld m) = says.Pinned m

-- the event of a reader's read
abbrev pub read_made : ℕ → ℕ → Act → Got → Made
read_made reader index a g = record {
  caller = M reader;
  index = index;
  op = op.Line a;
  reply = reply_of g;
  cites = None;
}

-- the answer by the word of a cell
abbrev pub got_of : ℕ → Got → Type 0
got_of w g = (w ≡ 0 → g ≡ got.Unset) × (w ≡ 1 → g ≡ got.Gone)
    × ((m : ℕ) → 0 < m → w ≡ m + 1 → g ≡ got.Got record { 0 = m })

-- the answer that a managed list gives, with what the reader's own entries leave in its pin
pub record IsExact (ml own : List KeptEntry) (cell : ℕ) (g : Got) : Type 0 where
  pub held : (m : ℕ) → pin own ≡ m + 1 → g ≡ got.PinHeld record { 0 = m }
  pub pending : pin own ≡ 0 → (k : ℕ) → stage ml ≡ 2 * k → g ≡ got.Pending record { 0 = k }
  pub cell_word : pin own ≡ 0 → IsClosed ml → got_of (says_word ml cell) g

-- a read's entry, beside which nothing is kept
abbrev pub entry_of : ℕ → ℕ → Act → Got → ℕ → KeptEntry
entry_of reader index a g number = record {
  entry = numbered number (read_made reader index a g);
  target = None;
  freed = [];
  pins = [];
}

-- a reader may answer so: an object that its own entries leave in its pin, and with an empty pin a cycle for which its
-- last try to enter found the gate held, or what it loaded from the cell since it went inside
pub record MayAnswer (v : View) (reader : ℕ) (a : Act) (g : Got) : Type 0 where
  pub held : (m : MNum) → g ≡ got.PinHeld m → pin (known v (reader + 10)) ≡ m.0 + 1
  pub empty : ((m : MNum) → g ≡ got.PinHeld m → ⊥) → pin (known v (reader + 10)) ≡ 0
  pub pending : (k : Cycle) → g ≡ got.Pending k → (0 < k.0) × (v.found ≡ k.0)
  pub cell_word : (w : ℕ) → word_of (reply_of g) ≡ Some w → (v.inside ≡ 2 ^ reader) × IsLoaded v.loads (cell_of a) w
  pub number : (m : MNum) → g ≡ got.Got m → IsNumber m.0

-- what a read does to the view of its reader's seat, with its entry of that number
pub record Reads (reader index : ℕ) (a : Act) (g : Got) (number : ℕ) (v w : View) : Type 0 where
  pub grows : GrowsByEntry v w (1 + reader) (entry_of reader index a g number)
  pub above : (i : ℕ) → IsBelow number (known v i)
  pub one_history : BeginsOneHistory w
  pub holds : w.holds ≡ v.holds
  pub held : (m : MNum) → (g ≡ got.PinHeld m) ↔ (pin (known v (reader + 10)) ≡ m.0 + 1)
  pub pending : (k : Cycle) → g ≡ got.Pending k → IsEnded v k.0 → ⊥
  pub unset : g ≡ got.Unset → (y : KeptEntry) → Stands (known v 0) y → SetsCell y (cell_of a) → ⊥
  pub exact : Owns v 0 → IsExact (known v 0) (known v (reader + 10)) (cell_of a) g

-- the same with the list of the reader's entries, in which the entry is put last
pub record Answers (reader index : ℕ) (a : Act) (number : ℕ) (g : Got) (v w : View) (old new : Stock) : Type 0 where
  pub reads : Reads reader index a g number v w
  pub entries : new.entries ≡ old.entries ++ numbered number (read_made reader index a g) ∷ []
  pub spare : new.spare + 1 ≡ old.spare

-- what a reader is seen as
pub record Reading : Type 0 where
  pub reader : ℕ
  pub order : OrderId
  pub view : View
  pub entries : List Entry
  pub spare : ℕ

-- a read made one entry, and put it last
pub record MakesRead (index : ℕ) (a : Act) (g : Got) (old new : Reading) : Type 0 where
  pub number : ℕ
  pub reads : Reads old.reader index a g number old.view new.view
  pub entries : new.entries ≡ old.entries ++ numbered number (read_made old.reader index a g) ∷ []
  pub spare : new.spare + 1 ≡ old.spare
  pub reader : new.reader ≡ old.reader
  pub order : new.order ≡ old.order
