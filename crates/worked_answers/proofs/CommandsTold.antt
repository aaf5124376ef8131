-- Two commands' words differ in their number or in the first byte.
use Rattle.std.proofs.Common.{◌≡◌, ℕ, ◌+◌, ◌<◌, ◌≤◌, ◌++◌, ◌∙◌, List, [], ◌∷◌, Option, Some, length, length-append, inl, inr, ⊎_elim, refl, sym, ap, subst, arith, All, codes, decimal}
use Rattle.std.specs.Prelude.{Contains}
use Rattle.std.proofs.lemmas.List.Elements.{All-cons, All-nil}
use Rattle.joint_machine.proofs.Members.{Contains-nil, Contains-here, Contains-cons_cases}
use Rattle.joint_machine.specs.declared.names.PhaseWord.TheVariants as word
use Rattle.joint_machine.specs.declared.names.Thread.TheVariants.{C}
use Rattle.joint_machine.specs.declared.lines.Act.TheVariants as act
use Rattle.std.proofs.lemmas.Fmt.{length-decimal-le}
use Rattle.bridge_script.specs.Scripts.{IsScriptLine}
use Rattle.graph_listing.specs.Listing.{Listed, cycles_text}
use Rattle.log_text.specs.Text.{log_text}
use Rattle.history_report.specs.Report.{report}
use Rattle.report_reader.specs.Reading.{IsReadAs}
use Rattle.command_words.specs.declared.commands.Mode.{Mode}
use Rattle.command_words.specs.declared.commands.Mode.TheVariants as mode
use Rattle.command_words.specs.declared.commands.Command.{Command}
use Rattle.command_words.specs.declared.commands.Command.TheVariants as command
use Rattle.command_words.specs.Commands.{AreWordsOf, mode_text}
use Rattle.command_words.proofs.Orders.{values}
use Rattle.bridge_program.specs.Top.{TakesScript}
use Rattle.worked_answers.specs.Commands.{CommandsAreTold, WantsAreTold, checks, compares, leaks, makes, no_history, nonsense, one_line, serial}
use Rattle.worked_answers.specs.Listings.{listed}
use Rattle.worked_answers.proofs.LogsTold.{first}

-- the first byte of the first word
abbrev initial : List (List ℕ) → ℕ
initial [] = 0
initial (w ∷ ws) = first w

-- words that are to be the only ones of a list are
only : (a words : List (List ℕ)) → Contains (a ∷ []) words → a ≡ words
only a words c = ⊎_elim (λ e. e) (λ n. absurd (Contains-nil words n)) (Contains-cons_cases a [] words c)

-- so they begin with the same byte, and are as many
as_initial : (a words : List (List ℕ)) → Contains (a ∷ []) words → initial a ≡ initial words
as_initial a words c = ap initial (only a words c)

as_many : (a words : List (List ℕ)) → Contains (a ∷ []) words → length a ≡ length words
as_many a words c = ap (λ (w : List (List ℕ)). length w) (only a words c)

mode_initial : (m : Mode) → first (mode_text m) ≡ 120 → ⊥
mode_initial mode.Serial e = omega (arith, e)
mode_initial mode.Threads e = omega (arith, e)

none : (c : Command) → AreWordsOf nonsense c → ⊥
none (command.Run m) w = mode_initial m (as_initial _ _ w.given)
none command.Compare w = let e : 99 ≡ 120 = as_initial _ _ w.given in omega (arith, e)
none command.References w = let e : 103 ≡ 120 = as_initial _ _ w.given in omega (arith, e)
none command.Leaks w = let e : 108 ≡ 120 = as_initial _ _ w.given in omega (arith, e)
none command.Check w = let e : 99 ≡ 120 = as_initial _ _ w.given in omega (arith, e)
none (command.Generate seed size m) w = let e : 120 ≡ 103 = ap first (values (decimal seed) (decimal size) (mode_text m) nonsense w.given).gen in omega (arith, e)

takes_none : (c : Command) → AreWordsOf (makes 2) c → TakesScript c → ⊥
takes_none (command.Run m) w t = let e : 1 ≡ 7 = as_many (mode_text m ∷ []) _ w.given in omega (arith, e)
takes_none command.Compare w t = let e : 1 ≡ 7 = as_many (codes "compare" ∷ []) _ w.given in omega (arith, e)
takes_none command.References w t = let e : 1 ≡ 7 = as_many (codes "grefs" ∷ []) _ w.given in omega (arith, e)
takes_none command.Leaks w t = t
takes_none command.Check w t = t
takes_none (command.Generate seed size m) w t = t

is_serial : AreWordsOf serial (command.Run mode.Serial)
is_serial = record { given = Contains-here serial []; allowed = tt }

is_compare : AreWordsOf compares command.Compare
is_compare = record { given = Contains-here compares []; allowed = tt }

not_compare : AreWordsOf serial command.Compare → ⊥
not_compare w = let e : 99 ≡ 115 = as_initial (codes "compare" ∷ []) _ w.given in omega (arith, e)

is_made : AreWordsOf (makes 2) (command.Generate 1 2 mode.Serial)
is_made = record { given = (0, omega arith, refl); allowed = (omega arith, omega arith) }

read_back : IsReadAs (report no_history) no_history
read_back = record {
  canonical = record {
    value = record { history = record { numbers = tt; fits = All-nil _ }; fits = All-nil _; managed = All-nil _; peers = All-nil _; notices = All-nil _ };
    meant = All-nil _;
    spans = tt;
    just = record { managed = refl; peers = refl; notices = refl; few_managed = omega arith; few_peers = omega arith; few_notices = omega arith };
  };
  text = refl;
}

pub commands_are_told : CommandsAreTold
commands_are_told = record {
  none = λ w. none w.0 w.1;
  large = λ w. let e = w.allowed.1 in omega (arith, e);
  reads = inl record { asked = command.Run mode.Serial; command = is_serial; takes = tt };
  reads_none = λ r. elim r [
    | inl s ↦ takes_none s.asked s.command s.takes
    | inr (inl w) ↦ (let e : 1 ≡ 7 = as_many (codes "leaks" ∷ []) _ w.given in omega (arith, e))
    | inr (inr w) ↦ (let e : 1 ≡ 7 = as_many (codes "check" ∷ []) _ w.given in omega (arith, e))
  ];
  runs = record {
    command = record { asked = command.Run mode.Serial; command = is_serial; takes = tt };
    script = (C, act.PhaseLine word.Cycle) ∷ [];
    input = one_line;
    gives = refl;
    text = record {
      lawful = record {
        each = All-cons IsScriptLine (C, act.PhaseLine word.Cycle) [] tt (All-nil IsScriptLine);
        lines = omega arith;
        cycles = omega arith;
      };
      text = inl refl;
      size = omega arith;
    };
    read = λ r. omega (arith, r);
    written = λ r. omega (arith, r);
  };
  judges = record {
    command = record { given = Contains-here leaks []; allowed = tt };
    lines = [];
    input = log_text [];
    gives = refl;
    text = record { text = refl; lawful = tt };
    short = omega (arith, length-append (decimal 0) (10 ∷ []), length-decimal-le 20 0 (omega arith) (omega arith) (omega arith));
    read = λ r. omega (arith, r);
    written = λ r. omega (arith, r);
  };
  checked = record {
    command = record { given = Contains-here checks []; allowed = tt };
    history = no_history;
    input = report no_history;
    gives = refl;
    text = read_back;
    short = omega (arith, length-append (decimal 0) (10 ∷ []), length-decimal-le 20 0 (omega arith) (omega arith) (omega arith));
    read = λ r. omega (arith, r);
    written = λ r. omega (arith, r);
  };
  made = record { seed = 1; size = 2; asked = mode.Serial; command = is_made; written = λ r. omega (arith, r) };
  unread = λ a. elim a [ inl r ↦ r.read (omega arith) | inr (inl j) ↦ j.read (omega arith) | inr (inr c) ↦ c.read (omega arith) ];
  unwritten = λ a. elim a [ inl r ↦ r.written (omega arith) | inr (inl j) ↦ j.written (omega arith) | inr (inr c) ↦ c.written (omega arith) ];
  unmade = λ m. m.written (omega arith);
}

-- no cycle's lines begin with x
no_lines : (cycles : List Listed) (part rest : List ℕ) → cycles_text cycles ≡ part ++ rest → 120 ∷ [] ≡ part → ⊥
no_lines [] part rest e p = let f : [] ≡ 120 ∷ rest = subst (λ q. [] ≡ q ++ rest) (sym p) e in cc
no_lines (l ∷ ls) part rest e p = let f : 99 ≡ 120 = ap first (subst (λ q. cycles_text (l ∷ ls) ≡ q ++ rest) (sym p) e) in omega (arith, f)

pub wants_are_told : WantsAreTold
wants_are_told = record {
  kept = record { kept = λ n. refl; lines = λ w. absurd (not_compare w) };
  wrote = λ l. let e = l.kept not_compare in cc;
  listing = record {
    kept = λ n. absurd (n is_compare);
    lines = λ w. record { cycles = listed 1 [] 0 [] ∷ []; part = record { part = codes "cyc"; rest = _; whole = refl; appends = refl } };
  };
  other = λ l. let p = l.lines is_compare in no_lines p.cycles p.part.part p.part.rest p.part.whole p.part.appends;
}
