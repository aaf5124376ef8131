-- The words of the command line: which entries are to be drawn, and around which node.
use Rattle.std.specs.Prelude.{◌≡◌, ◌≢◌, ℕ, ◌+◌, ◌<◌, ◌^◌, List, [], ◌∷◌, ◌++◌, Option, Some, None, codes, decimal}
use Rattle.std.specs.Prelude.{slice_index_or}
use Rattle.heap_pictures.specs.declared.pictures.Side.{Side}
use Rattle.heap_pictures.specs.declared.pictures.Side.TheVariants.{Managed, Peers}
use Rattle.picture_program.specs.declared.words.Around.{Around}
use Rattle.picture_program.specs.declared.words.Entries.{Entries}
use Rattle.picture_program.specs.declared.words.Entries.TheVariants.{One, Two}
use Rattle.picture_program.specs.declared.words.Request.{Request}

-- the entry, or the two entries, in words: an earlier and a later one
abbrev pub entry_words : Entries → List (List ℕ)
entry_words (One n) = decimal n ∷ []
entry_words (Two n m) = decimal n ∷ decimal m ∷ []

abbrev pub AreEntries : Entries → Type 0
AreEntries (One n) = n < 2 ^ 64
AreEntries (Two n m) = (n < m) × (m < 2 ^ 64)

-- the later one
abbrev pub last_entry : Entries → ℕ
last_entry (One n) = n
last_entry (Two n m) = m

-- a node's name: m7, p7
abbrev pub node_word : Side → ℕ → List ℕ
node_word Managed n = 109 ∷ decimal n
node_word Peers n = 112 ∷ decimal n

-- a word is no node's name
pub record NamesNoNode (word : List ℕ) : Type 0 where
  pub object : (n : ℕ) → n < 2 ^ 32 → node_word Managed n ≢ word
  pub peer : (n : ℕ) → n < 2 ^ 32 → node_word Peers n ≢ word

-- around which node, over how many arrows
abbrev pub around_words : Option Around → List (List ℕ)
around_words None = []
around_words (Some a) = codes "--around" ∷ node_word a.side a.number ∷ decimal a.steps ∷ []

abbrev pub IsShort : Option Around → Type 0
IsShort None = Unit {0}
IsShort (Some a) = (a.number < 2 ^ 32) × (a.steps < 2 ^ 64)

-- what the words ask for
pub record Asks (words : List (List ℕ)) (r : Request) : Type 0 where
  pub entries : AreEntries r.entries
  pub around : IsShort r.around
  pub given : words ≡ entry_words r.entries ++ around_words r.around

-- the word at a place
abbrev pub word_at : List (List ℕ) → ℕ → List ℕ
word_at words i = slice_index_or words i []

-- by their places, the first words are two entries, and the words from a place on are around which node
pub record HasTwo (words : List (List ℕ)) (n m : ℕ) : Type 0 where
  pub order : n < m
  pub short : m < 2 ^ 64
  pub first : decimal n ≡ word_at words 0
  pub second : decimal m ≡ word_at words 1

pub record HasAround (words : List (List ℕ)) (i : ℕ) (a : Around) : Type 0 where
  pub number : a.number < 2 ^ 32
  pub steps : a.steps < 2 ^ 64
  pub name : codes "--around" ≡ word_at words i
  pub node : node_word a.side a.number ≡ word_at words (i + 1)
  pub over : decimal a.steps ≡ word_at words (i + 2)
