-- What Tarjan's algorithm keeps. A node is unseen (mark 0), on the stack at place p (mark p + 1), or done.
-- The frames are the nodes that the search is in, the innermost first; between the place of one and the
-- place of the next lie the nodes that were finished under it and whose class is not complete.
use Rattle.std.specs.Prelude.{◌≡◌, ◌⊎◌, ◌↔◌, ℕ, ◌+◌, ◌-◌, ◌<◌, ◌≤◌, ◌==◌, cond, Option, Some, None, List, [], ◌∷◌}
use Rattle.std.specs.Prelude.{length, Contains, slice_index}
use Rattle.joint_machine.specs.Walks.{Reaches, Mutual}
use Rattle.bridge_graph.specs.Parts.{NodeLeads, row_at}
use Rattle.component_pass.specs.declared.tarjan.Frame.{Frame}
use Rattle.joint_machine.specs.Numbers.{u32_max}

-- the mark of a node whose class is complete
abbrev pub done_mark : ℕ
done_mark = u32_max

-- a frame, and the finished nodes above it on the stack up to a place
pub record IsSegment (edges : List (List ℕ)) (stack marks : List ℕ) (f : Frame) (end : ℕ) : Type 0 where
  pub below : f.at < end
  pub is : slice_index stack f.at ≡ f.node
  pub reach : (i : ℕ) → f.at ≤ i → i < length stack → Reaches (NodeLeads edges) f.node (slice_index stack i)
  pub low : f.low ≤ f.at
  pub cursor : f.next ≤ length (row_at edges f.node)
  pub lower : Reaches (NodeLeads edges) f.node (slice_index stack f.low)
  pub back : (i : ℕ) → f.at < i → i < end → (k : ℕ) × (k < i)
      × Reaches (NodeLeads edges) (slice_index stack i) (slice_index stack k)
  pub finished : (i w : ℕ) → f.at < i → i < end → NodeLeads edges (slice_index stack i) w → f.low < slice_index marks w
  pub scanned : (k : ℕ) → k < f.next → k < length (row_at edges f.node)
      → f.low < slice_index marks (slice_index (row_at edges f.node) k)

-- the frames cut the stack into segments
abbrev pub AreSegments : List (List ℕ) → List ℕ → List ℕ → List Frame → ℕ → Type 0
AreSegments edges stack marks [] end = end ≡ 0
AreSegments edges stack marks (f ∷ fs) end = IsSegment edges stack marks f end × AreSegments edges stack marks fs f.at

-- the frames with the one that the search goes on in, if there is one
abbrev pub with_current : Option Frame → List Frame → List Frame
with_current None frames = frames
with_current (Some f) frames = f ∷ frames

-- how many nodes are unseen
abbrev pub unseen : List ℕ → ℕ
unseen [] = 0
unseen (m ∷ marks) = cond (m == 0) 1 0 + unseen marks

-- the marks say where the nodes of the stack are; done nodes stand in the rows of their classes, and lead only
-- to done nodes, of their own class and of those before it
pub record AreSorted (edges : List (List ℕ)) (count : ℕ)
    (stack marks labels : List ℕ) (rows : List (List ℕ)) : Type 0 where
  pub marks_whole : length marks ≡ count
  pub labels_whole : length labels ≡ count
  pub placed : (k : ℕ) → k < length stack → (slice_index stack k < count)
      × (slice_index marks (slice_index stack k) ≡ k + 1)
  pub known : (x : ℕ) → (slice_index marks x ≡ 0)
      ⊎ ((0 < slice_index marks x) × (slice_index marks x ≤ length stack)
      × (slice_index stack (slice_index marks x - 1) ≡ x)) ⊎ (slice_index marks x ≡ done_mark)
  pub room : unseen marks + length stack + length rows ≤ count
  pub closed : (x y : ℕ) → slice_index marks x ≡ done_mark → NodeLeads edges x y → slice_index marks y ≡ done_mark
  pub labelled : (x : ℕ) → slice_index marks x ≡ done_mark → slice_index labels x < length rows
  pub same : (x y : ℕ) → slice_index marks x ≡ done_mark → slice_index marks y ≡ done_mark
      → (slice_index labels x ≡ slice_index labels y) ↔ Mutual (NodeLeads edges) x y
  pub members : (c x : ℕ) → Contains (row_at rows c) x
      ↔ ((slice_index marks x ≡ done_mark) × (slice_index labels x ≡ c))
  pub backwards : (x y : ℕ) → slice_index marks x ≡ done_mark
      → NodeLeads edges x y → slice_index labels y ≤ slice_index labels x

-- all that the algorithm keeps
pub record IsGoing (edges : List (List ℕ)) (count : ℕ) (stack marks labels : List ℕ)
    (rows : List (List ℕ)) (frames : List Frame) : Type 0 where
  pub sorted : AreSorted edges count stack marks labels rows
  pub segments : AreSegments edges stack marks frames (length stack)

-- what a scan of a row finds: the targets up to next are seen, and low is below each of their marks
pub record ScansRow (row marks : List ℕ) (start low next least : ℕ) : Type 0 where
  pub later : start ≤ next
  pub within : next ≤ length row
  pub unseen_next : next < length row → slice_index marks (slice_index row next) ≡ 0
  pub lowest : least ≤ low
  pub seen : (k : ℕ) → start ≤ k → k < next → least < slice_index marks (slice_index row k)
  pub from_row : (least ≡ low) ⊎ ((k : ℕ) × (k < length row) × (slice_index marks (slice_index row k) ≡ least + 1))
