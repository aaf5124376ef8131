-- The first entries of a linked history have the first lines of its log, and what is left at its end is the table's
-- rows.
use Rattle.std.proofs.Common.{◌≡◌, ℕ, zero, suc, List, [], ◌∷◌, ◌++◌, take, Option, refl, sym, ap, subst, ◌∙◌, append_assoc}
use Rattle.std.specs.Prelude.{IsSome}
use Rattle.joint_machine.specs.Linked.{Linkage, opening_linkage}
use Rattle.joint_machine.specs.PeerReplay.{PeerReplay, opening_peer_replay}
use Rattle.joint_machine.specs.Readers.{AllMayComeReading, entry_after}
use Rattle.joint_machine.specs.Told.{Noted}
use Rattle.joint_laws.specs.ReadingLaws.{IsLawfulReading}
use Rattle.log_text.specs.declared.lines.LogLine.{LogLine}
use Rattle.log_text.specs.Behind.{Behind, behind_all, none_live}
use Rattle.gref_log.specs.Laws.{EntriesLeaveTheTable, LeftAreTheRows}
use Rattle.gref_log.specs.Log.{entry_lines, log_from, peer_next}
use Rattle.gref_log.proofs.Counting.{counts_are_tables, live_are_rows}

-- the first entries of a lawful list are one
first-lawful : (whole : List Noted) (cells : List (Option ℕ)) (count : ℕ) (ns : List Noted) (s : Linkage) → AllMayComeReading whole cells s ns → AllMayComeReading whole cells s (take count ns)
first-lawful whole cells zero ns s a = tt
first-lawful whole cells (suc k) [] s a = tt
first-lawful whole cells (suc k) (n ∷ ns) s a = (a.0, first-lawful whole cells k ns (entry_after s n) a.1)

-- and have the first lines
first-lines : (count : ℕ) (ns : List Noted) (s : PeerReplay) (v : Behind) → (rest : List LogLine) × (log_from s v ns ≡ log_from s v (take count ns) ++ rest)
first-lines zero ns s v = (log_from s v ns, refl)
first-lines (suc k) [] s v = ([], refl)
first-lines (suc k) (n ∷ ns) s v =
    let next = peer_next s n in
    let w = behind_all v (entry_lines s v n) in
    let r = first-lines k ns next w in
    (r.0, ap (λ t. entry_lines s v n ++ t) r.1 ∙ sym (append_assoc (entry_lines s v n) (log_from next w (take k ns)) r.0))

pub entries_leave_table : EntriesLeaveTheTable
entries_leave_table h noted w count =
    let r = first-lines count noted opening_peer_replay none_live in
    let lawful : IsLawfulReading (take count noted) = (noted, _, first-lawful noted _ count noted opening_linkage w.lawful) in
    record { rest = r.0; lines = r.1; table = counts_are_tables (take count noted) lawful }

pub left_are_rows : LeftAreTheRows
left_are_rows h noted lines w l hs ws strong_ones weak_ones n =
    let rows = live_are_rows noted (noted, _, w.lawful) n in
    let same = l noted w in
    let a = strong_ones.exact n in
    let b = weak_ones.exact n in
    let to-strong = subst (λ ls. IsSome ((behind_all none_live ls).strong n)) same in
    let of-strong = subst (λ ls. IsSome ((behind_all none_live ls).strong n)) (sym same) in
    let to-weak = subst (λ ls. IsSome ((behind_all none_live ls).weak n)) same in
    let of-weak = subst (λ ls. IsSome ((behind_all none_live ls).weak n)) (sym same) in
    ((λ c. rows.0.0 (to-strong (a.0 c)), λ r. a.1 (of-strong (rows.0.1 r))), (λ c. rows.1.0 (to-weak (b.0 c)), λ r. b.1 (of-weak (rows.1.1 r))))
