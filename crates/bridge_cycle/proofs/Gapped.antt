-- A cycle with gaps: each phase that was run but the last of all had its gap, so how many gaps there were tells the
-- driver's phase, and the other way round.
use Rattle.std.proofs.Common.{◌≡◌, ℕ, ◌+◌, ◌<◌, ◌≤◌, List, [], ◌∷◌, ◌++◌, length, refl, sym, ap, ◌∙◌, subst, arith}
use Rattle.std.proofs.lemmas.List.{length-append}
use Rattle.joint_machine.specs.declared.names.Phase.{Phase}
use Rattle.joint_machine.specs.declared.names.Phase.TheVariants as at
use Rattle.joint_machine.specs.declared.names.PhaseWord.{PhaseWord}
use Rattle.joint_machine.specs.declared.names.PhaseWord.TheVariants as word
use Rattle.joint_machine.specs.declared.events.Reply.{Reply}
use Rattle.joint_machine.specs.Phases.{phases_of}
use Rattle.bridge_cycle.specs.Gaps.{IsInGap, StopsInGaps}
use Rattle.bridge_cycle.specs.Progress.{EndsWithReply, Progress, RunsWords}
use Rattle.bridge_cycle.specs.Words.{IsPartway, Lacks, next_word, to_come}
use Rattle.bridge_cycle.proofs.Composed.{closes_now, one_less, partway_lacks, partway_more, partway_none}

-- the first phases of a cycle were run, each with its gap
pub record IsMidCycle (old now : Progress) (index gaps : ℕ) : Type 0 where
  pub idle : old.phase ≡ at.Idle
  pub part : IsPartway old now index
  pub each : gaps ≡ length part.run

pub mid_none : (d : Progress) (index gaps : ℕ) → d.phase ≡ at.Idle → gaps ≡ 0 → IsMidCycle d d index gaps
mid_none d index gaps idle none = record { idle = idle; part = partway_none d index; each = none }

-- the gap that comes behind a phase
in_gap : (p : Phase) (n : ℕ) → (p ≡ at.Idle → ⊥) → n + 1 + length (to_come p) ≡ 8 → IsInGap n p
in_gap at.Idle n busy e = absurd (busy refl)
in_gap at.Snapped n busy e = let is : 0 ≡ n = omega (arith, e) in subst (λ (m : ℕ). IsInGap m at.Snapped) is refl
in_gap at.Contracted n busy e = let is : 1 ≡ n = omega (arith, e) in subst (λ (m : ℕ). IsInGap m at.Contracted) is refl
in_gap at.Mirrored n busy e = let is : 2 ≡ n = omega (arith, e) in subst (λ (m : ℕ). IsInGap m at.Mirrored) is refl
in_gap at.Weakened n busy e = let is : 3 ≡ n = omega (arith, e) in subst (λ (m : ℕ). IsInGap m at.Weakened) is refl
in_gap at.Marked n busy e = let is : 4 ≡ n = omega (arith, e) in subst (λ (m : ℕ). IsInGap m at.Marked) is refl
in_gap at.Swept n busy e = let is : 5 ≡ n = omega (arith, e) in subst (λ (m : ℕ). IsInGap m at.Swept) is refl
in_gap at.Restored n busy e = let is : 6 ≡ n = omega (arith, e) in subst (λ (m : ℕ). IsInGap m at.Restored) is refl

some_left : (p : Phase) → 1 ≤ length (to_come p)
some_left at.Idle = omega arith
some_left at.Snapped = omega arith
some_left at.Contracted = omega arith
some_left at.Mirrored = omega arith
some_left at.Weakened = omega arith
some_left at.Marked = omega arith
some_left at.Swept = omega arith
some_left at.Restored = omega arith

-- how many phases there are
counted : (p : Phase) (run ws : List PhaseWord) → p ≡ at.Idle → to_come p ≡ run ++ ws → length run + length ws ≡ 8
counted p run ws idle all = sym (length-append run ws) ∙ (sym (ap length all) ∙ ap (λ z. length (to_come z)) idle)

-- a phase was run, and its gap is due
pub record GapIsDue (old mid new : Progress) (index gaps : ℕ) : Type 0 where
  pub due : IsInGap gaps new.phase
  pub few : gaps < 7
  pub less : length (to_come new.phase) < length (to_come mid.phase)
  pub next : IsMidCycle old new index (gaps + 1)

pub gap_due : (old mid new : Progress) (index gaps : ℕ) (reply : Reply) → IsMidCycle old mid index gaps → (mid.phase ≡ at.Restored → ⊥)
    → EndsWithReply mid new index (next_word mid.phase ∷ []) reply → GapIsDue old mid new index gaps
gap_due old mid new index gaps reply m n a =
    let f = partway_more old mid new index reply m.part n a in
    let one = one_less mid.phase new.phase f.goes in
    let sum = counted old.phase m.part.run (to_come mid.phase) m.idle m.part.all in
    let last = some_left new.phase in
    record {
      due = in_gap new.phase gaps f.goes.busy (let e = m.each in omega (arith, e, one, sum));
      few = (let e = m.each in omega (arith, e, one, sum, last));
      less = omega (arith, one);
      next = record { idle = m.idle; part = f.now; each = ap (λ k. k + 1) m.each ∙ (sym (length-append m.part.run (next_word mid.phase ∷ [])) ∙ ap length (sym f.longer)) };
    }

-- a phase that found no memory
pub gaps_stop : (old mid new : Progress) (index gaps : ℕ) → IsMidCycle old mid index gaps → Lacks mid new index (next_word mid.phase) → StopsInGaps old new index (phases_of word.Cycle) gaps
gaps_stop old mid new index gaps m lacks =
    subst (λ (ws : List PhaseWord). StopsInGaps old new index ws gaps) (ap to_come m.idle) (record { stops = partway_lacks old mid new index m.part lacks; each = m.each })

-- the last phase, which has no gap
pub cycle_ends : (old mid new : Progress) (index gaps : ℕ) (reply : Reply) → IsMidCycle old mid index gaps → mid.phase ≡ at.Restored → EndsWithReply mid new index (next_word mid.phase ∷ []) reply
    → RunsWords old new index (phases_of word.Cycle) × (gaps ≡ 7)
cycle_ends old mid new index gaps reply m e a =
    let c = closes_now old mid new index reply m.part e a in
    let sum = counted old.phase m.part.run (to_come mid.phase) m.idle m.part.all in
    let one : length (to_come mid.phase) ≡ 1 = ap (λ z. length (to_come z)) e in (
      subst (λ (ws : List PhaseWord). RunsWords old new index ws) (ap to_come m.idle) (c.entries, c.runs),
      (let e = m.each in omega (arith, e, sum, one)),
    )
