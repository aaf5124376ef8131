-- What calls list, passed on: where a call found no memory nothing is said of its cycles.
use Rattle.std.proofs.Common.{◌≡◌, ℕ, ◌+◌, ◌≤◌, List, [], ◌++◌, Option, Result, Ok, Err, length, subst, sym, arith}
use Rattle.std.proofs.lemmas.List.{length-append}
use Rattle.std.specs.Prelude.{IfOk, OnOk}
use Rattle.byte_streams.specs.declared.streams.Failed.{Failed}
use Rattle.graph_listing.specs.Listing.{Listed, cycles_text}
use Rattle.bridge_cycle.specs.Progress.{Progress}
use Rattle.listing_laws.specs.Snapshots.{AreSeen}
use Rattle.listing_laws.specs.Writing.{Wrote}
use Rattle.byte_streams.specs.Faults.{AppendsPart}
use Rattle.listing_laws.proofs.Written.{Writes-nothing, part_of, wrote_none, wrote_then}
use Rattle.script_runs.specs.declared.compared.Listing.{Listing}
use Rattle.script_runs.specs.Listed.{AreAllListed, HasNoSnap, Lists, ListsLine, lines_seen}
use Rattle.script_runs.proofs.Opened.{lists_more}

pub always_ok : {T E P : Type 0} (r : Result T E) → P → OnOk r P
always_ok (Ok t) p = p
always_ok (Err e) p = tt

pub if_ok : {T E P Q : Type 0} (r : Result T E) → (P → Q) → OnOk r P → IfOk r (λ t. Q)
if_ok (Ok t) f p = f p
if_ok (Err e) f p = tt

if_as : {T E : Type 0} {P Q : T → List Listed → Type 0} (r : Result T E) (cycles : List Listed) → ((t : T) (cs : List Listed) → P t cs → Q t cs) → IfOk r (λ t. P t cycles) → IfOk r (λ t. Q t cycles)
if_as (Ok t) cycles f p = f t cycles p
if_as (Err e) cycles f p = tt

-- what holds of the cycles may be less
pub lists_as : {T E : Type 0} (r : Result T E) (old new : Listing) (held now : Option (List ℕ)) (before after : ℕ) (P Q : T → List Listed → Type 0) → ((t : T) (cs : List Listed) → P t cs → Q t cs)
    → Lists {T = T} {E = E} r old new held now before after P → Lists {T = T} {E = E} r old new held now before after Q
lists_as r old new held now before after P Q f l = record { cycles = l.cycles; wrote = l.wrote; listed = if_as {P = P} {Q = Q} r l.cycles f l.listed }

-- and nothing behind a call that found none
pub lists_failed : {T U E X : Type 0} (r : Result T E) (old new : Listing) (held now : Option (List ℕ)) (before after : ℕ) (P : T → List Listed → Type 0) (Q : U → List Listed → Type 0) (x : X)
    → Lists {T = T} {E = E} r old new held now before after P → Lists {T = U} {E = X} (Err x) old new held now before after Q
lists_failed r old new held now before after P Q x l = record { cycles = l.cycles; wrote = l.wrote; listed = tt }

-- so many lines were run, and the cycles that they opened are listed
pub record ListedSoFar (old new : Listing) (held now : Option (List ℕ)) (before after : ℕ) (d : Progress) (lines : ℕ) : Type 0 where
  pub cycles : List Listed
  pub wrote : Wrote old.cycles new.cycles old.written new.written held now before after cycles
  pub all : AreAllListed d cycles
  pub few : length cycles ≤ lines

pub listed_none : (l : Listing) (held : Option (List ℕ)) (f : ℕ) (d : Progress) → HasNoSnap d → ListedSoFar l l held held f f d 0
listed_none l held f d none = record { cycles = []; wrote = wrote_none l.cycles l.written held f; all = subst (λ es. AreSeen (lines_seen d.view) es []) (sym none) tt; few = omega arith }

pub listed_more : {a b c : Listing} {held mid now : Option (List ℕ)} {f g h : ℕ} {d e : Progress} {n : ℕ} → ListedSoFar a b held mid f g d n
    → (cycles : List Listed) → Wrote b.cycles c.cycles b.written c.written mid now g h cycles → ListsLine d e cycles → ListedSoFar a c held now f h e (n + 1)
listed_more {a} {b} {c} {held} {mid} {now} {f} {g} {h} {d} {e} l cycles wrote line = record {
  cycles = l.cycles ++ cycles;
  wrote = wrote_then a.cycles b.cycles c.cycles a.written b.written c.written held mid now f g h l.cycles cycles l.wrote wrote;
  all = lists_more d e l.cycles cycles l.all line;
  few = (let x = l.few in let y = line.few in omega (arith, x, y, length-append l.cycles cycles));
}

-- nothing was put, or a beginning of what was listed
pub nothing_put : (held : Option (List ℕ)) → (cycles : List Listed) × AppendsPart held held (cycles_text cycles)
nothing_put held = let r : Result (Unit {0}) Failed = Ok tt in ([], part_of held held 0 0 r [] (Writes-nothing held 0 tt))

pub part_put : {T E : Type 0} (r : Result T E) (old new : Listing) (held now : Option (List ℕ)) (f g : ℕ) (P : T → List Listed → Type 0)
    → old.written ≡ Ok tt → Lists {T = T} {E = E} r old new held now f g P → (cycles : List Listed) × AppendsPart held now (cycles_text cycles)
part_put r old new held now f g P fine l = (l.cycles, part_of held now f g new.written (cycles_text l.cycles) (l.wrote.goes_on held f [] (rw fine (Writes-nothing held f tt))))
