-- The lines of a history are written while they are made: what was written are the lines of the entries before, and
-- then those of one more.
use Rattle.std.proofs.Common.{◌≡◌, ℕ, ◌+◌, ◌*◌, ◌≤◌, List, [], ◌∷◌, ◌++◌, Option, Result, Ok, length, refl, sym, ap, subst, ◌∙◌, arith, append_assoc, length-append}
use Rattle.std.specs.Prelude.{All}
use Rattle.std.proofs.lemmas.List.Elements.{All-append, All-nil}
use Rattle.byte_streams.specs.Sending.{Sends}
use Rattle.byte_streams.proofs.Written.{BuffersText-none}
use Rattle.joint_machine.specs.declared.events.Entry.{Entry}
use Rattle.log_text.specs.declared.lines.LogLine.{LogLine}
use Rattle.log_text.specs.Behind.{Fits}
use Rattle.log_text.specs.Text.{line_text, lines_text}
use Rattle.gref_log.specs.declared.making.Lines.{Lines}
use Rattle.gref_log.specs.declared.making.Lines.TheVariants as lines
use Rattle.gref_log.specs.Tracking.{InMaking, Logged, behind_lines, logged_after, logged_all, made_lines, nothing_logged}

pub lines-append : (a b : List LogLine) → lines_text (a ++ b) ≡ lines_text a ++ lines_text b
lines-append [] b = refl
lines-append (l ∷ a) b = ap (λ t. line_text l ++ (10 ∷ t)) (lines-append a b) ∙ sym (append_assoc (line_text l) (10 ∷ lines_text a) (lines_text b))

few-lines : (l : Lines) → length (made_lines l) ≤ 2
few-lines lines.None = omega arith
few-lines (lines.One l) = omega arith
few-lines (lines.Two l k) = omega arith

-- of a history's entries these are left, and the lines of the others were written, or their writing failed
pub record Walked {E : Type 0} (es rest : List Entry) (m : InMaking) (count : ℕ) (a b : Option (List ℕ)) (p q : List ℕ) (f g : ℕ) (sent : Result (Unit {0}) E) : Type 0 where
  pub before : List LogLine
  pub same : logged_all (behind_lines before m) rest ≡ logged_all nothing_logged es
  pub fits : All Fits before
  pub counts : count ≡ length before
  pub few : count + 2 * length rest ≤ 8589934590
  pub room : length rest ≤ m.room
  pub sends : Sends {E = E} a b p q f g sent (lines_text before)

-- none is written yet
pub none-walked : {E : Type 0} (es : List Entry) (m : InMaking) (a : Option (List ℕ)) (p : List ℕ) (f : ℕ) (u : Unit {0})
    → behind_lines [] m ≡ nothing_logged → length es ≤ m.room → length es ≤ 4294967295 → Walked {E = E} es es m 0 a a p p f f (Ok u)
none-walked es m a p f u e room limit = record {
  before = [];
  same = ap (λ x. logged_all x es) e;
  fits = All-nil Fits;
  counts = refl;
  few = omega (arith, limit);
  room = room;
  sends = record { whole = BuffersText-none a p; part = tt; cause = record { later = omega arith; failed = tt } };
}

pub one-entry : {E : Type 0} (es rest : List Entry) (e : Entry) (m n : InMaking) (count : ℕ) (a b c : Option (List ℕ)) (p q r : List ℕ) (f g k : ℕ) (y z : Result (Unit {0}) E) (l : Lines)
    → Walked {E = E} es (e ∷ rest) m count a b p q f g y
    → ((ls : List LogLine) → behind_lines (ls ++ made_lines l) n ≡ logged_after (behind_lines ls m) e) → All Fits (made_lines l) → m.room ≤ n.room + 1
    → ((x : List ℕ) → Sends {E = E} a b p q f g y x → Sends {E = E} a c p r f k z (x ++ lines_text (made_lines l)))
    → Walked {E = E} es rest n (count + length (made_lines l)) a c p r f k z
one-entry {E} es rest e m n count a b c p q r f g k y z l w s fits room sends =
    let more = length-append w.before (made_lines l) in
    let few = few-lines l in
    record {
      before = w.before ++ made_lines l;
      same = ap (λ x. logged_all x rest) (s w.before) ∙ w.same;
      fits = All-append Fits w.before (made_lines l) w.fits fits;
      counts = omega (arith, w.counts, more);
      few = omega (arith, w.few, few);
      room = omega (arith, w.room, room);
      sends = (let F : List ℕ → Type 0 = λ t. Sends {E = E} a c p r f k z t in subst F (sym (lines-append w.before (made_lines l))) (sends (lines_text w.before) w.sends));
    }

-- where none is left, all were
pub record AllWalked {E : Type 0} (es : List Entry) (m : InMaking) (count : ℕ) (a b : Option (List ℕ)) (p q : List ℕ) (f g : ℕ) (sent : Result (Unit {0}) E) : Type 0 where
  pub counts : count ≡ length (logged_all nothing_logged es).lines
  pub fits : All Fits (logged_all nothing_logged es).lines
  pub handles : length (logged_all nothing_logged es).tracked.given ≡ length m.tracked.given
  pub sends : Sends {E = E} a b p q f g sent (lines_text (logged_all nothing_logged es).lines)

pub all-walked : {E : Type 0} (es : List Entry) (m : InMaking) (count : ℕ) (a b : Option (List ℕ)) (p q : List ℕ) (f g : ℕ) (sent : Result (Unit {0}) E)
    → Walked {E = E} es [] m count a b p q f g sent → AllWalked {E = E} es m count a b p q f g sent
all-walked {E} es m count a b p q f g sent w =
    let e : w.before ≡ (logged_all nothing_logged es).lines = ap (λ (x : Logged). x.lines) w.same in
    let F : List LogLine → Type 0 = λ ls. Sends {E = E} a b p q f g sent (lines_text ls) in
    record {
      counts = w.counts ∙ ap length e;
      fits = subst (All Fits) e w.fits;
      handles = ap (λ (x : Logged). length x.tracked.given) (sym w.same);
      sends = subst F e w.sends;
    }

-- of a history's entries these are left, and the lines of the others are listed
pub record Listed (es rest : List Entry) (m : InMaking) (list : List LogLine) : Type 0 where
  pub same : logged_all (behind_lines list m) rest ≡ logged_all nothing_logged es
  pub fits : All Fits list
  pub room : length rest ≤ m.room
