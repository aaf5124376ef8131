-- The words of a script's lines, and what text a line has.
-- Believed: the clauses of the program's top call rest on all that stands here.
use Rattle.std.specs.Prelude.{ℕ, min, ◌+◌, List, [], ◌∷◌, ◌++◌, Option, Some, None, codes, decimal}
use Rattle.text_words.specs.Words.{spaced}
use Rattle.joint_machine.specs.declared.names.Var.{Var}
use Rattle.joint_machine.specs.declared.names.StaticNo.{StaticNo}
use Rattle.joint_machine.specs.declared.names.GName.{GName}
use Rattle.joint_machine.specs.declared.names.Cell.{Cell}
use Rattle.joint_machine.specs.declared.names.Thread.{Thread}
use Rattle.joint_machine.specs.declared.names.Thread.TheVariants.{M, P, C}
use Rattle.joint_machine.specs.declared.names.Kind.{Kind}
use Rattle.joint_machine.specs.declared.names.Kind.TheVariants as kind
use Rattle.joint_machine.specs.declared.names.Sort.{Sort}
use Rattle.joint_machine.specs.declared.names.Sort.TheVariants as sort
use Rattle.joint_machine.specs.declared.names.PhaseWord.{PhaseWord}
use Rattle.joint_machine.specs.declared.names.PhaseWord.TheVariants as phase
use Rattle.joint_machine.specs.declared.lines.Act.{Act}
use Rattle.joint_machine.specs.declared.lines.Act.TheVariants as act

-- a thread: m1 to m8, p1 to p8, c
abbrev pub thread_text : Thread → List ℕ
thread_text (M n) = codes "m" ++ decimal n
thread_text (P n) = codes "p" ++ decimal n
thread_text C = codes "c"

-- a variable: a to h (a number past these, which no line has, stays a byte)
abbrev pub var_text : Var → List ℕ
var_text v = min (97 + v.0) 255 ∷ []

-- a variable, or - where none is given
abbrev pub optional_text : Option Var → List ℕ
optional_text None = codes "-"
optional_text (Some v) = var_text v

-- a static of the managed heap: g0 to g15
abbrev pub managed_static : StaticNo → List ℕ
managed_static x = codes "g" ++ decimal x.0

-- a static of the peer heap: s0 to s15
abbrev pub peer_static : StaticNo → List ℕ
peer_static x = codes "s" ++ decimal x.0

-- a static of the thread's own heap
abbrev pub own_static : Thread → StaticNo → List ℕ
own_static (M n) x = managed_static x
own_static _ x = peer_static x

-- a global name of the peer heap: G0 to G63
abbrev pub global_text : GName → List ℕ
global_text g = codes "G" ++ decimal g.0

-- a weak cell: k0 to k63
abbrev pub cell_text : Cell → List ℕ
cell_text k = codes "k" ++ decimal k.0

-- the kind of a managed object's class
abbrev pub kind_text : Kind → List ℕ
kind_text kind.Plain = codes "plain"
kind_text kind.Leaf = codes "leaf"
kind_text kind.Bridge = codes "bridge"
kind_text kind.LeafBridge = codes "leafbridge"

-- the sort of a peer object's class
abbrev pub sort_text : Sort → List ℕ
sort_text sort.User = codes "user"
sort_text sort.Framework = codes "framework"

-- the word that asks the driver for a phase, or for all eight
abbrev pub phase_word_text : PhaseWord → List ℕ
phase_word_text phase.Cycle = codes "cycle"
phase_word_text phase.Snap = codes "snap"
phase_word_text phase.Contract = codes "contract"
phase_word_text phase.Mirror = codes "mirror"
phase_word_text phase.Weaken = codes "weaken"
phase_word_text phase.Mark = codes "mark"
phase_word_text phase.Sweep = codes "sweep"
phase_word_text phase.Restore = codes "restore"
phase_word_text phase.Resolve = codes "resolve"

-- the words of a line after its thread
abbrev pub act_words : Thread → Act → List (List ℕ)
act_words t (act.New v kind fields) = codes "new" ∷ var_text v ∷ kind_text kind ∷ decimal fields ∷ []
act_words t (act.Bridge v kind fields sort peer_fields) = codes "bridge" ∷ var_text
    v ∷ kind_text kind ∷ decimal fields ∷ sort_text sort ∷ decimal peer_fields ∷ []
act_words t (act.Copy v w) = codes "copy" ∷ var_text v ∷ var_text w ∷ []
act_words t (act.Set v i w) = codes "set" ∷ var_text v ∷ decimal i ∷ optional_text w ∷ []
act_words t (act.Get v w i) = codes "get" ∷ var_text v ∷ var_text w ∷ decimal i ∷ []
act_words t (act.Drop v) = codes "drop" ∷ var_text v ∷ []
act_words t (act.Load v x) = codes "load" ∷ var_text v ∷ own_static t x ∷ []
act_words t (act.Store x v) = codes "store" ∷ own_static t x ∷ optional_text v ∷ []
act_words t (act.Weak k v) = codes "weak" ∷ cell_text k ∷ var_text v ∷ []
act_words t (act.Read k) = codes "read" ∷ cell_text k ∷ []
act_words t (act.Await k) = codes "wait" ∷ cell_text k ∷ []
act_words t (act.Take v) = codes "take" ∷ var_text v ∷ []
act_words t (act.Pass v x) = codes "pass" ∷ var_text v ∷ peer_static x ∷ []
act_words t (act.Surface v x) = codes "surface" ∷ var_text v ∷ peer_static x ∷ []
act_words t (act.Dispose v) = codes "dispose" ∷ var_text v ∷ []
act_words t (act.Handle v) = codes "handle" ∷ var_text v ∷ []
act_words t (act.NewPeer v fields) = codes "new" ∷ var_text v ∷ decimal fields ∷ []
act_words t (act.Global g v) = codes "global" ∷ global_text g ∷ var_text v ∷ []
act_words t (act.WGlobal g v) = codes "wglobal" ∷ global_text g ∷ var_text v ∷ []
act_words t (act.UnGlobal g) = codes "unglobal" ∷ global_text g ∷ []
act_words t (act.WRead v g) = codes "wread" ∷ var_text v ∷ global_text g ∷ []
act_words t act.Collect = codes "collect" ∷ []
act_words t act.BeginMark = codes "begin" ∷ []
act_words t (act.Slice n) = codes "slice" ∷ decimal n ∷ []
act_words t act.SweepMark = codes "sweep" ∷ []
act_words t (act.PhaseLine word) = phase_word_text word ∷ []
act_words t (act.Finalise n) = codes "finalise" ∷ decimal n ∷ []

-- the words of a line
abbrev pub line_words : Thread × Act → List (List ℕ)
line_words line = thread_text line.0 ∷ act_words line.0 line.1

-- the text of a line, without its newline
abbrev pub line_text : Thread × Act → List ℕ
line_text line = spaced (line_words line)
