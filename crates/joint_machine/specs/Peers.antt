-- The peer objects, the global names and the handles as they were issued: what the joint machine and the peer
-- side's own replay share, and how each event changes it. (Global and weak global references are those that the
-- Xamarin.Android documentation describes.)
-- Believed: the clauses of the program's top call rest on all that stands here.
use Rattle.std.specs.Prelude.{ℕ, ◌+◌, nat_le, Bool, true, false, ◌||◌, if◌then◌else◌, List, [], ◌∷◌, ◌++◌, length, drop}
use Rattle.std.specs.Prelude.{replicate, slice_set, Option, Some, None}
use Rattle.joint_machine.specs.declared.names.Sort.{Sort}
use Rattle.joint_machine.specs.declared.names.Sort.TheVariants.{Framework}
use Rattle.joint_machine.specs.declared.lines.Act.{Act}
use Rattle.joint_machine.specs.declared.lines.Act.TheVariants as act
use Rattle.joint_machine.specs.declared.events.Reply.{Reply}
use Rattle.joint_machine.specs.declared.events.Reply.TheVariants as says
use Rattle.joint_machine.specs.Heaps.{Heap, Answered, answer, MOST, opening_heap, slot, numbered_at, place, is_full}
use Rattle.joint_machine.specs.Heaps.{next_number, with_var, with_static, with_object, fields_of, of_object, heap_line}
use Rattle.joint_machine.specs.declared.names.TheConstants.{NAMES}

-- a handle is held, made for a managed object, or raw, made by a peer thread
pub data Hold : Type 0 where
  held : Hold
  raw : Hold

-- whether the handle is held
abbrev pub is_held : Hold → Bool
is_held held = true
is_held raw = false

-- a strong handle is a root of the peer heap, a weak one isn't
pub data Strength : Type 0 where
  strong : Strength
  weak : Strength

-- whether the handle is strong
abbrev pub is_strong : Strength → Bool
is_strong strong = true
is_strong weak = false

-- a handle as it was issued
pub record Issued : Type 0 where
  pub peer : ℕ
  pub hold : Hold
  pub strength : Strength

-- handles have the numbers from 1 on, in the order in which they were issued, by a restore or otherwise; `made` counts
-- those that were issued otherwise; each global name has its handle
pub record Peers : Type 0 where
  pub heap : Heap
  pub sorts : List Sort
  pub names : List (Option ℕ)
  pub issued : List Issued
  pub made : ℕ

-- nothing is there
abbrev pub opening_peers : Peers
opening_peers = record { heap = opening_heap; sorts = []; names = replicate NAMES None; issued = []; made = 0 }

-- how a reply names a peer
abbrev pub peer_name : ℕ → Reply
peer_name p = says.P record { 0 = p }

-- how a reply names a handle
abbrev pub handle_name : ℕ → Reply
handle_name h = says.H record { 0 = h }

-- the peer of a handle; None where none was issued with that number
abbrev pub peer_of : List Issued → ℕ → Option ℕ
peer_of issued h = elim (numbered_at issued h) [ None ↦ None | Some i ↦ Some i.peer ]

-- the sort of a peer; Framework where there is no such peer
abbrev pub sort_of : Peers → ℕ → Sort
sort_of s p = elim (numbered_at s.sorts p) [ None ↦ Framework | Some sort ↦ sort ]

-- the number of the next handle
abbrev pub next_handle : Peers → ℕ
next_handle s = length s.issued + 1

-- whether all handles are made; those that restores gave don't count
abbrev pub handles_full : Peers → Bool
handles_full s = nat_le MOST s.made

-- a further handle on a peer
abbrev pub with_handle : Peers → ℕ → Hold → Strength → Peers
with_handle s p hold strength = record s
    { issued = s.issued ++ record { peer = p; hold = hold; strength = strength } ∷ []; made = s.made + 1 }

-- a held strong handle on a peer, in place of one that a restore removes
abbrev pub with_renewed : Peers → ℕ → Peers
with_renewed s p = record s { issued = s.issued ++ record { peer = p; hold = held; strength = strong } ∷ [] }

-- the handles that were issued after an earlier state
abbrev pub issued_since : Peers → Peers → List Issued
issued_since old new = drop (length old.issued) new.issued

-- the heap's own events, as events of the peers
abbrev pub on_peer_heap : Peers → Answered Heap → Answered Peers
on_peer_heap s a = answer a.reply (record s { heap = a.state })

-- a further peer of that sort with so many fields
abbrev pub with_peer : Peers → Sort → ℕ → Peers
with_peer s sort n = record s { heap = with_object s.heap n; sorts = s.sorts ++ sort ∷ [] }

-- `new` of a peer thread: a further framework peer that the variable names, unless there are 65,535
abbrev pub peer_made : Peers → ℕ → ℕ → Answered Peers
peer_made s v n = if is_full s.heap.fields then answer says.Full s else
    let grown = with_peer s Framework n in
    answer (peer_name (next_number s.heap)) (record grown { heap = with_var grown.heap v (Some (next_number s.heap)) })

-- `make SORT F`: a further peer and a held strong handle on it, unless there are 65,535 of either
abbrev pub pair_made : Peers → Sort → ℕ → Answered Peers
pair_made s sort n = if is_full s.heap.fields || handles_full s then answer says.Full s
    else answer (says.Made record { 0 = next_number s.heap } record { 0 = next_handle s })
    (with_handle (with_peer s sort n) (next_number s.heap) held strong)

-- a held strong handle on a peer, unless there are 65,535 handles
abbrev pub peer_gripped : Peers → Option ℕ → Answered Peers
peer_gripped s None = answer says.Null s
peer_gripped s (Some p) = if handles_full s then answer says.Full s
    else answer (says.Gripped record { 0 = p } record { 0 = next_handle s } (sort_of s p) (length (fields_of s.heap p)))
    (with_handle s p held strong)

-- `grip x`: a held strong handle on the static's peer
abbrev pub gripped : Peers → ℕ → Answered Peers
gripped s x = peer_gripped s (slot s.heap.statics x)

-- `land h x`, given the peer that the handle leads to: the static holds it
abbrev pub landed : Peers → ℕ → Option ℕ → Answered Peers
landed s x None = answer says.Gone s
landed s x (Some p) = answer (peer_name p) (record s { heap = with_static s.heap x (Some p) })

-- the name gets a raw handle on a peer, unless it names one or there are 65,535 handles
abbrev pub name_given : Peers → ℕ → ℕ → Strength → Option ℕ → Answered Peers
name_given s g p strength (Some h) = answer says.Taken s
name_given s g p strength None = if handles_full s then answer says.Full s else
    let grown = with_handle s p raw strength in
    answer (handle_name (next_handle s)) (record grown { names = slice_set s.names g (Some (next_handle s)) })

-- `global G V` and `wglobal G V`: G names a raw handle on V's peer
abbrev pub globalised : Peers → ℕ → ℕ → Strength → Answered Peers
globalised s g v strength = of_object s (slot s.heap.vars v) (λ p. name_given s g p strength (slot s.names g))

-- `unglobal G`: the name is free again
abbrev pub name_freed : Peers → ℕ → Answered Peers
name_freed s g = elim (slot s.names g)
    [ None ↦ answer says.Unset s | Some h ↦ answer says.Ok (record s { names = slice_set s.names g None }) ]

-- V names the peer that the handle leads to
abbrev pub peer_read : Peers → ℕ → Option ℕ → Answered Peers
peer_read s v None = answer says.Gone s
peer_read s v (Some p) = answer (peer_name p) (record s { heap = with_var s.heap v (Some p) })

-- `wread V G`, given where each handle leads
abbrev pub name_read : (ℕ → Option ℕ) → Peers → ℕ → ℕ → Answered Peers
name_read target s v g = elim (slot s.names g) [ None ↦ answer says.Unset s | Some h ↦ peer_read s v (target h) ]

-- the events of a peer thread's lines that are one event, given where each handle leads: what peers alone have, and
-- what both heaps have
abbrev pub peer_line : (ℕ → Option ℕ) → Peers → ℕ → Act → Answered Peers
peer_line target s t (act.NewPeer v n) = peer_made s (place t v.0) n
peer_line target s t (act.Global g v) = globalised s g.0 (place t v.0) strong
peer_line target s t (act.WGlobal g v) = globalised s g.0 (place t v.0) weak
peer_line target s t (act.UnGlobal g) = name_freed s g.0
peer_line target s t (act.WRead v g) = name_read target s (place t v.0) g.0
peer_line target s t a = on_peer_heap s (heap_line peer_name s.heap t a)
