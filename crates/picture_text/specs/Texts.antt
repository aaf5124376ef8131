-- The text of a sheet of pictures, in DOT.
use Rattle.std.specs.Prelude.{ℕ, ◌+◌, ◌/◌, ◌%◌, ◌==◌, ◌||◌, if◌then◌else◌, List, [], ◌∷◌, ◌++◌, codes, decimal, Option}
use Rattle.std.specs.Prelude.{Some, None}
use Rattle.std.specs.List.{flat_map}
use Rattle.joint_machine.specs.declared.names.Kind.{Kind}
use Rattle.joint_machine.specs.declared.names.Kind.TheVariants as kind
use Rattle.joint_machine.specs.declared.names.Sort.{Sort}
use Rattle.joint_machine.specs.declared.names.Sort.TheVariants as sort
use Rattle.heap_pictures.specs.declared.pictures.Arrow.{Arrow}
use Rattle.heap_pictures.specs.declared.pictures.Arrow.TheVariants as arrow
use Rattle.heap_pictures.specs.declared.pictures.ObjectNode.{ObjectNode}
use Rattle.heap_pictures.specs.declared.pictures.PeerNode.{PeerNode}
use Rattle.heap_pictures.specs.declared.pictures.Slots.{Slots}
use Rattle.heap_pictures.specs.declared.pictures.Slots.TheVariants as slots
use Rattle.heap_pictures.specs.declared.pictures.Spot.{Spot}
use Rattle.heap_pictures.specs.declared.pictures.Spot.TheVariants as spot
use Rattle.heap_pictures.specs.declared.pictures.Style.{Style}
use Rattle.heap_pictures.specs.declared.pictures.Style.TheVariants as style
use Rattle.picture_sheets.specs.Sheets.{Sheet}
use Rattle.picture_text.specs.declared.changes.Change.{Change}
use Rattle.picture_text.specs.declared.changes.Change.TheVariants as change

-- a letter and a number: m1, p1, h1
abbrev pub named : ℕ → ℕ → List ℕ
named letter n = letter ∷ decimal n

-- a thread's variable, by its place among all: m1 a
abbrev pub var_name : ℕ → ℕ → List ℕ
var_name letter i = named letter (i / 8) ++ 32 ∷ (97 + i % 8) ∷ []

-- a slot, by its place in its list
abbrev pub slot_name : Slots → ℕ → List ℕ
slot_name slots.ManagedVars i = var_name 109 i
slot_name slots.ManagedStatics i = named 103 i
slot_name slots.Pins i = codes "pin m" ++ decimal i
slot_name slots.PeerVars i = var_name 112 i
slot_name slots.PeerStatics i = named 115 i
slot_name slots.Names i = named 71 i

-- what an arrow begins or ends at
abbrev pub spot_name : Spot → List ℕ
spot_name (spot.Object m) = named 109 m
spot_name (spot.Peer p) = named 112 p
spot_name (spot.Handle h) = named 104 h
spot_name (spot.Slot s i) = slot_name s i
spot_name (spot.Temporary i) = named 116 i

-- between quotes
abbrev pub spot_text : Spot → List ℕ
spot_text s = 34 ∷ (spot_name s ++ 34 ∷ [])

-- a byte between quotes: a quote and a backslash get a backslash before them
abbrev pub quoted_byte : ℕ → List ℕ
quoted_byte b = if b == 34 || b == 92 then 92 ∷ b ∷ [] else b ∷ []

-- bytes between quotes
abbrev pub quoted : List ℕ → List ℕ
quoted bytes = flat_map quoted_byte bytes

-- the word for a kind, and for a sort
abbrev pub kind_word : Option Kind → List ℕ
kind_word None = []
kind_word (Some kind.Plain) = codes "plain"
kind_word (Some kind.Leaf) = codes "leaf"
kind_word (Some kind.Bridge) = codes "bridge"
kind_word (Some kind.LeafBridge) = codes "leafbridge"

abbrev pub sort_word : Sort → List ℕ
sort_word sort.User = codes "user"
sort_word sort.Framework = codes "framework"

-- how what came is drawn, and what went: green, and vermilion and dotted
abbrev pub change_text : Change → List ℕ
change_text change.Stays = []
change_text change.Came = codes ",color=\"#009e73\",fontcolor=\"#009e73\""
change_text change.Went = codes ",color=\"#d55e00\",fontcolor=\"#d55e00\",style=dotted"

-- a node with its name and a word
abbrev pub label_text : ℕ → ℕ → List ℕ → List ℕ
label_text letter n word = codes " [label=\"" ++ (named letter n ++ (32 ∷ [] ++ (word ++ 34 ∷ [])))

abbrev pub node_text : Change → ℕ → ℕ → List ℕ → List ℕ
node_text c letter n word = codes "    " ++
    (named letter n ++ (label_text letter n word ++ (change_text c ++ codes "];\n")))

abbrev pub object_text : Change → ObjectNode → List ℕ
object_text c n = node_text c 109 n.m (kind_word n.kind)

abbrev pub peer_text : Change → PeerNode → List ℕ
peer_text c n = node_text c 112 n.p (sort_word n.sort)

-- how a handle is drawn: full, dashed, grey, or grey and dotted
abbrev pub style_text : Style → List ℕ
style_text style.Full = []
style_text style.Weak = codes ",style=dashed"
style_text style.Cleared = codes ",color=gray,fontcolor=gray"
style_text style.Gone = codes ",style=dotted,color=gray,fontcolor=gray"

-- from one spot to another
abbrev pub way_text : Spot → Spot → List ℕ
way_text from to = codes "  " ++ (spot_text from ++ (codes " -> " ++ spot_text to))

-- a spot gets a shape
abbrev pub shape_text : Spot → List ℕ → List ℕ
shape_text s shape = codes "  " ++ (spot_text s ++ shape)

-- a temporary is a point
abbrev pub point_text : Spot → List ℕ
point_text (spot.Temporary i) = shape_text (spot.Temporary i) (codes " [shape=point,color=\"#0072b2\"];\n")
point_text _ = []

-- an arrow from one spot to another, drawn so
abbrev pub drawn_text : Change → Spot → Spot → List ℕ → List ℕ
drawn_text c from to looks = way_text from to ++ (codes " [" ++ (looks ++ (change_text c ++ codes "];\n")))

-- how the arrows of fields and of handles are drawn
abbrev pub field_looks : ℕ → List ℕ
field_looks i = codes "label=\"" ++ (decimal i ++ 34 ∷ [])

abbrev pub held_looks : ℕ → Style → List ℕ
held_looks h s = codes "dir=both,penwidth=2,label=\"h" ++ (decimal h ++ (34 ∷ [] ++ style_text s))

abbrev pub handle_looks : Style → List ℕ
handle_looks s = codes "penwidth=2" ++ style_text s

-- the lines of an arrow: a box or a point has its shape on a line before it
abbrev pub arrow_text : Change → Arrow → List ℕ
arrow_text c (arrow.Field from i to) = drawn_text c from to (field_looks i)
arrow_text c (arrow.Held m h p s) = drawn_text c (spot.Object m) (spot.Peer p) (held_looks h s)
arrow_text c (arrow.Faded m h s) = shape_text (spot.Handle h)
    (codes " [shape=plaintext,fontcolor=gray];\n") ++ drawn_text c (spot.Object m) (spot.Handle h) (handle_looks s)
arrow_text c (arrow.Names from to) = shape_text from
    (codes " [shape=box];\n") ++ drawn_text c from to (codes "penwidth=1")
arrow_text c (arrow.Grips h p s) = shape_text (spot.Handle h)
    (codes " [shape=box];\n") ++ drawn_text c (spot.Handle h) (spot.Peer p) (handle_looks s)
arrow_text c (arrow.Stub h) = shape_text (spot.Handle h)
    (codes " [shape=box,color=gray,fontcolor=gray" ++ (change_text c ++ codes "];\n"))
arrow_text c (arrow.Refers from to) = point_text
    from ++ (point_text to ++ drawn_text c from to (codes "color=\"#0072b2\""))

-- objects get a mark
abbrev pub mark_text : List ℕ → ℕ → List ℕ
mark_text mark m = codes "    " ++ (named 109 m ++ mark)

abbrev pub marked_text : List ℕ → List ℕ → List ℕ
marked_text mark ms = flat_map (mark_text mark) ms

-- the frame of the dead part, where there is one
abbrev pub frame_text : List ℕ → List ℕ
frame_text dead = codes "    subgraph cluster_dead {\n    label=\"dead part\";\n    style=dashed;\n"
    ++ (marked_text (codes ";\n") dead ++ codes "    }\n")

abbrev pub dead_text : List ℕ → List ℕ
dead_text [] = []
dead_text (m ∷ ms) = frame_text (m ∷ ms)

-- what stays, then what came, then what went
abbrev pub by_change : {A : Type 0} → (Change → A → List ℕ) → List A → List A → List A → List ℕ
by_change text stay came went = flat_map
    (text change.Stays) stay ++ (flat_map (text change.Came) came ++ flat_map (text change.Went) went)

-- the frames of both heaps: candidates have a double border
abbrev pub managed_text : Sheet → List ℕ
managed_text s = codes "  subgraph cluster_managed {\n    label=\"managed heap\";\n"
    ++ (by_change object_text s.stay.objects s.came.objects s.went.objects
    ++ (marked_text (codes " [peripheries=2];\n") s.stay.candidates ++ (dead_text s.stay.dead ++ codes "  }\n")))

abbrev pub peers_text : Sheet → List ℕ
peers_text s = codes "  subgraph cluster_peers {\n    label=\"peer heap\";\n" ++
    (by_change peer_text s.stay.peers s.came.peers s.went.peers ++ codes "  }\n")

-- the first lines, with the title
abbrev pub head_text : List ℕ → List ℕ
head_text title = codes "digraph heaps {\n  label=\"" ++ (quoted title ++ codes "\";\n  labelloc=t;\n  rankdir=LR;\n")

-- the whole
abbrev pub sheet_text : List ℕ → Sheet → List ℕ
sheet_text title s = head_text title ++
    (managed_text s ++ (peers_text s ++
    (by_change arrow_text s.stay.arrows s.came.arrows s.went.arrows ++ codes "}\n")))
