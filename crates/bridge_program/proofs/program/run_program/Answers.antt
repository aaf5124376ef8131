-- The exit code is the status of the top call, and the words that it was given are those that were told.
use Rattle.std.proofs.Common.{◌≡◌, ◌⊎◌, refl, sym, inl, inr, map, string_bytes, arith}
use Rattle.std.specs.Prelude.{◌≢◌}
use Rattle.std.specs.IoError.{error_kind}
use Rattle.std.specs.Process.{exit_status}
use Rattle.std.specs.declared.io.ErrorKind.{ErrorKind}
use Rattle.bridge_program.proofs.Lacking.{keeps_self, lacks_all}
use Rattle.bridge_program.proofs.NoWords.{without_text}
use Rattle.bridge_program.proofs.program.run_program.Goals as goal

pub returns-in-Ok-clause-ends : goal.returns-in-Ok-clause-ends
returns-in-Ok-clause-ends g c =
    let e = c.bridge_main.ensures in
    rw (c.from.ensures) (rw (sym c.in-Ok.ensures.words) (record {
      printed = e.printed;
      usage = e.usage;
      no_command = λ n. elim (e.no_command n) [ inl a ↦ inl a | inr b ↦ inr (inl b) ];
      untouched = e.untouched;
      read = e.read;
      refused = e.refused;
      write = e.write;
      part = e.part;
      memory = e.memory;
      complete = e.complete;
      generated = e.generated;
      known = e.status;
    }))

pub returns-in-Ok-clause-no_text : goal.returns-in-Ok-clause-no_text
returns-in-Ok-clause-no_text g c =
    without_text c.args.args (map string_bytes c.in-Ok.words.items) (λ e. error_kind e ≢ ErrorKind.OutOfMemory)
    ((exit_status c.from.result ≡ 1) ⊎ (exit_status c.from.result ≡ 4)) c.in-Ok.ensures.words
    (λ n. rw (c.from.ensures) (c.bridge_main.ensures.no_command n))

-- where memory was wanting for the words nothing was read or put
pub returns-in-Err-clause-ends : goal.returns-in-Err-clause-ends
returns-in-Err-clause-ends g c =
    rw (c.from-in-Err.ensures) (record {
      printed = λ e. absurd (omega (arith, e));
      usage = λ e. absurd (omega (arith, e));
      no_command = λ n. inr (inr refl);
      untouched = λ n. (refl, refl);
      read = λ e. absurd (omega (arith, e));
      refused = λ e. absurd (omega (arith, e));
      write = λ e. absurd (omega (arith, e));
      part = λ e. absurd (omega (arith, e));
      memory = λ e. lacks_all _ _ _ (keeps_self _);
      complete = λ m. inr refl;
      generated = λ m. inr refl;
      known = omega arith;
    })
