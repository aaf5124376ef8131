-- A listing is written cycle after cycle; after a write that failed nothing more is.
use Rattle.std.specs.Prelude.{◌≡◌, ℕ, ◌+◌, List, ◌++◌, length, Option, Result}
use Rattle.byte_streams.specs.Streams.{Writes}
use Rattle.joint_machine.specs.Histories.{Finished}
use Rattle.graph_listing.specs.Listing.{Listed, cycles_text}
use Rattle.listing_laws.specs.Listings.{IsListingOf}

-- the listing of a history was written: all of it; or the sink failed, and a beginning was
pub record WroteListing {E : Type 0} (h : Finished) (held now : Option (List ℕ))
    (before after : ℕ) (written : Result (Unit {0}) E) : Type 0 where
  pub text : List ℕ
  pub listing : IsListingOf h text
  pub writes : Writes held now before after written text

-- whatever cycles' lines were written, those of these cycles were written behind them: all of them, or a beginning, or
-- none where the sink had failed before
abbrev pub GoesOn : {E : Type 0} → Option (List ℕ) → Option (List ℕ) → ℕ
    → ℕ → Result (Unit {0}) E → Result (Unit {0}) E → List Listed → Type 0
GoesOn held now before after written next cycles = (start : Option (List ℕ)) (first : ℕ) (ls : List Listed)
    → Writes start held first before written (cycles_text ls)
    → Writes start now first after next (cycles_text (ls ++ cycles))

-- so it is, and they are counted
pub record Wrote {E : Type 0} (count total : ℕ) (written next : Result (Unit {0}) E)
    (held now : Option (List ℕ)) (before after : ℕ) (cycles : List Listed) : Type 0 where
  pub goes_on : GoesOn held now before after written next cycles
  pub counted : total ≡ count + length cycles
