-- The lists of numbers that a report shows.
-- Believed: the clauses of the program's top call rest on all that stands here.
use Rattle.std.specs.Prelude.{◌^◌, ℕ, List, [], ◌∷◌, codes, decimal, map, take}
use Rattle.joint_machine.specs.declared.names.Span.{Span}
use Rattle.joint_machine.specs.Histories.{Finished, managed_numbers, peer_numbers, stretch}
use Rattle.history_report.specs.declared.lists.Numbers.{Numbers}
use Rattle.history_report.specs.declared.lists.Numbers.TheVariants.{Freed, FreedPeers, Notices}

-- the numbers of one of a history's three lists
abbrev pub numbers_of : Finished → Numbers → List ℕ
numbers_of h Freed = managed_numbers h.freed_managed
numbers_of h FreedPeers = peer_numbers h.freed_peers
numbers_of h Notices = managed_numbers h.notices

-- the letter of its objects
abbrev pub letter_of : Numbers → ℕ
letter_of FreedPeers = 112
letter_of _ = 109

-- numbers as words, each with its letter
abbrev pub lettered : ℕ → List ℕ → List (List ℕ)
lettered letter numbers = map (λ n. letter ∷ decimal n) numbers

-- numbers as words, each with its letter; the word - where there is none
abbrev pub listed : ℕ → List ℕ → List (List ℕ)
listed letter [] = codes "-" ∷ []
listed letter (n ∷ numbers) = lettered letter (n ∷ numbers)

-- the numbers of a list that a span names, as words (places of these lists are below 2^32)
abbrev pub list_words : Finished → Numbers → Span → List (List ℕ)
list_words h numbers span = listed (letter_of numbers) (stretch (take (2 ^ 32) (numbers_of h numbers)) span)
