-- The listing of a run's cycles: the components, heavy classes and cross-references of each one's dead part. (SGen's
-- Tarjan bridge hands its client the strongly connected components of bridge objects and the references between them;
-- this is their text.)
-- Believed: the clauses of the program's top call rest on all that stands here.
use Rattle.std.specs.Prelude.{ℕ, ◌+◌, List, [], ◌∷◌, ◌++◌, length, replicate, codes, decimal}
use Rattle.byte_streams.specs.Spaced.{after_spaces}
use Rattle.history_report.specs.Lists.{listed}
use Rattle.history_report.specs.Report.{end_text}

-- what is listed of a cycle: its number, the managed numbers of each component's members, how many heavy classes come
-- behind the components, and the pairs of indexes of components and heavy classes
pub record Listed : Type 0 where
  pub cycle : ℕ
  pub comps : List (List ℕ)
  pub heavy : ℕ
  pub pairs : List (ℕ × ℕ)

-- `cycle K`
abbrev pub cycle_text : ℕ → List ℕ
cycle_text k = codes "cycle " ++ (decimal k ++ 10 ∷ [])

-- `scc C LIST`, up to its list
abbrev pub head_text : ℕ → List ℕ
head_text c = codes "scc" ++ 32 ∷ decimal c

-- `scc C LIST`: the members, or `-` where there is none
abbrev pub component_text : ℕ → List ℕ → List ℕ
component_text c members = head_text c ++ (after_spaces (listed 109 members) ++ 10 ∷ [])

-- the lines of components, the first of which has index c
abbrev pub components_text : ℕ → List (List ℕ) → List ℕ
components_text c [] = []
components_text c (members ∷ comps) = component_text c members ++ components_text (c + 1) comps

-- `xref A B`
abbrev pub reference_text : ℕ × ℕ → List ℕ
reference_text p = codes "xref" ++ (32 ∷ decimal p.0 ++ (32 ∷ decimal p.1 ++ 10 ∷ []))

-- the lines of pairs
abbrev pub references_text : List (ℕ × ℕ) → List ℕ
references_text [] = []
references_text (p ∷ pairs) = reference_text p ++ references_text pairs

-- the components, and behind them the heavy classes, which have no members
abbrev pub all_comps : Listed → List (List ℕ)
all_comps l = l.comps ++ replicate l.heavy []

-- the lines of a cycle
abbrev pub cycle_lines : Listed → List ℕ
cycle_lines l = cycle_text l.cycle ++ (components_text 0 (all_comps l) ++ references_text l.pairs)

-- the lines of cycles, one cycle after another
abbrev pub cycles_text : List Listed → List ℕ
cycles_text [] = []
cycles_text (l ∷ ls) = cycle_lines l ++ cycles_text ls

-- the listing: the lines of each cycle, and `end` with the number of cycles
abbrev pub listing_text : List Listed → List ℕ
listing_text ls = cycles_text ls ++ end_text (length ls)
