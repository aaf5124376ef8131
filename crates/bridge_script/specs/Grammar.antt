-- The grammar of a script's lines: the word of each operation, which thread has it, and what stands at its places
-- in turn. docs/SCRIPT.md has the same table.
-- Believed: the clauses of the program's top call rest on all that stands here.
use Rattle.std.specs.Prelude.{ℕ, List, [], ◌∷◌, Option, Some, None, codes}
use Rattle.joint_machine.specs.declared.names.Thread.{Thread}
use Rattle.joint_machine.specs.declared.names.Thread.TheVariants.{M, P, C}
use Rattle.bridge_script.specs.declared.grammar.Operation.{Operation}
use Rattle.bridge_script.specs.declared.grammar.Operation.TheVariants as operation
use Rattle.bridge_script.specs.declared.grammar.Place.{Place}
use Rattle.bridge_script.specs.declared.grammar.Place.TheVariants as place
use Rattle.bridge_script.specs.Words.{phase_word_text}

-- the word that asks for an operation
abbrev pub operation_text : Operation → List ℕ
operation_text operation.New = codes "new"
operation_text operation.Bridge = codes "bridge"
operation_text operation.Copy = codes "copy"
operation_text operation.Set = codes "set"
operation_text operation.Get = codes "get"
operation_text operation.Drop = codes "drop"
operation_text operation.Load = codes "load"
operation_text operation.Store = codes "store"
operation_text operation.Weak = codes "weak"
operation_text operation.Read = codes "read"
operation_text operation.Await = codes "wait"
operation_text operation.Take = codes "take"
operation_text operation.Pass = codes "pass"
operation_text operation.Surface = codes "surface"
operation_text operation.Dispose = codes "dispose"
operation_text operation.Handle = codes "handle"
operation_text operation.NewPeer = codes "new"
operation_text operation.Global = codes "global"
operation_text operation.WGlobal = codes "wglobal"
operation_text operation.UnGlobal = codes "unglobal"
operation_text operation.WRead = codes "wread"
operation_text operation.Collect = codes "collect"
operation_text operation.BeginMark = codes "begin"
operation_text operation.Slice = codes "slice"
operation_text operation.SweepMark = codes "sweep"
operation_text (operation.Phase word) = phase_word_text word
operation_text operation.Finalise = codes "finalise"

-- the place of a number of fields, of a field's index, of a count
abbrev pub fields : Place
fields = place.Number 0 16

abbrev pub index : Place
index = place.Number 0 255

abbrev pub count : Place
count = place.Number 1 65535

-- the places of a managed thread's operations
abbrev pub managed_form : Operation → Option (List Place)
managed_form operation.New = Some (place.Var ∷ place.PlainKind ∷ fields ∷ [])
managed_form operation.Bridge = Some (place.Var ∷ place.BridgeKind ∷ fields ∷ place.Sort ∷ fields ∷ [])
managed_form operation.Copy = Some (place.Var ∷ place.Var ∷ [])
managed_form operation.Set = Some (place.Var ∷ index ∷ place.VarOrNone ∷ [])
managed_form operation.Get = Some (place.Var ∷ place.Var ∷ index ∷ [])
managed_form operation.Drop = Some (place.Var ∷ [])
managed_form operation.Load = Some (place.Var ∷ place.ManagedStatic ∷ [])
managed_form operation.Store = Some (place.ManagedStatic ∷ place.VarOrNone ∷ [])
managed_form operation.Weak = Some (place.Cell ∷ place.Var ∷ [])
managed_form operation.Read = Some (place.Cell ∷ [])
managed_form operation.Await = Some (place.Cell ∷ [])
managed_form operation.Take = Some (place.Var ∷ [])
managed_form operation.Pass = Some (place.Var ∷ place.PeerStatic ∷ [])
managed_form operation.Surface = Some (place.Var ∷ place.PeerStatic ∷ [])
managed_form operation.Dispose = Some (place.Var ∷ [])
managed_form operation.Handle = Some (place.Var ∷ [])
managed_form _ = None

-- the places of a peer thread's operations
abbrev pub peer_form : Operation → Option (List Place)
peer_form operation.Copy = Some (place.Var ∷ place.Var ∷ [])
peer_form operation.Set = Some (place.Var ∷ index ∷ place.VarOrNone ∷ [])
peer_form operation.Get = Some (place.Var ∷ place.Var ∷ index ∷ [])
peer_form operation.Drop = Some (place.Var ∷ [])
peer_form operation.Load = Some (place.Var ∷ place.PeerStatic ∷ [])
peer_form operation.Store = Some (place.PeerStatic ∷ place.VarOrNone ∷ [])
peer_form operation.NewPeer = Some (place.Var ∷ fields ∷ [])
peer_form operation.Global = Some (place.Global ∷ place.Var ∷ [])
peer_form operation.WGlobal = Some (place.Global ∷ place.Var ∷ [])
peer_form operation.UnGlobal = Some (place.Global ∷ [])
peer_form operation.WRead = Some (place.Var ∷ place.Global ∷ [])
peer_form operation.Collect = Some []
peer_form operation.BeginMark = Some []
peer_form operation.Slice = Some (count ∷ [])
peer_form operation.SweepMark = Some []
peer_form _ = None

-- the places of the driver's operations
abbrev pub driver_form : Operation → Option (List Place)
driver_form (operation.Phase word) = Some []
driver_form operation.Finalise = Some (count ∷ [])
driver_form _ = None

-- the places of a thread's operation, where the thread has it
abbrev pub form_of : Thread → Operation → Option (List Place)
form_of (M n) o = managed_form o
form_of (P n) o = peer_form o
form_of C o = driver_form o
