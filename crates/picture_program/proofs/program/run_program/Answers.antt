-- The exit code is the status of the top call, and the words that it was given are those that were told.
use Rattle.std.proofs.Common.{inl, inr, refl, sym, arith}
use Rattle.picture_program.proofs.Cut.{keeps_self}
use Rattle.picture_program.proofs.program.run_program.Goals as goal

pub returns-in-Ok : goal.returns-in-Ok
returns-in-Ok g c =
    let e = c.picture_main.ensures in
    rw (c.from.ensures) (rw (sym c.in-Ok.ensures.words) (record {
      ends = record {
        printed = e.printed;
        usage = e.usage;
        no_entry = λ n. elim (e.no_entry n) [ inl a ↦ inl a | inr b ↦ inr (inl b) ];
        untouched = e.untouched;
        read = e.read;
        refused = e.refused;
        write = e.write;
        part = e.part;
        memory = e.memory;
        known = e.status;
      };
    }))

-- where memory was wanting for the words nothing was read or put
pub returns-in-Err : goal.returns-in-Err
returns-in-Err g c =
    rw (c.from-in-Err.ensures) (record {
      ends = record {
        printed = λ e. absurd (omega (arith, e));
        usage = λ e. absurd (omega (arith, e));
        no_entry = λ n. inr (inr refl);
        untouched = λ n. (refl, refl);
        read = λ e. absurd (omega (arith, e));
        refused = λ e. absurd (omega (arith, e));
        write = λ e. absurd (omega (arith, e));
        part = λ e. absurd (omega (arith, e));
        memory = λ e. keeps_self _;
        known = omega arith;
      };
    })
