use Rattle.known_laws.proofs.Held.{cycles_are_drawn}
use Rattle.known_laws.proofs.Drawing.{nothing_is_drawn, drawn_lines_grow, drawn_lines_join, drawn_is_one, freed_is_drawn}
use Rattle.known_laws.proofs.CellsDrawn.{targets_are_drawn}
use Rattle.known_laws.proofs.drawn_lines_are_a_past.Goals as goal

pub returns-clause-grow : goal.returns-clause-grow
returns-clause-grow c = drawn_lines_grow

pub returns-clause-join : goal.returns-clause-join
returns-clause-join c = drawn_lines_join

pub returns-clause-one : goal.returns-clause-one
returns-clause-one c = drawn_is_one

pub returns-clause-freed : goal.returns-clause-freed
returns-clause-freed c = freed_is_drawn

pub returns-clause-first : goal.returns-clause-first
returns-clause-first c = nothing_is_drawn

pub returns-clause-targets : goal.returns-clause-targets
returns-clause-targets c = targets_are_drawn

pub returns-clause-cycles : goal.returns-clause-cycles
returns-clause-cycles c = cycles_are_drawn
