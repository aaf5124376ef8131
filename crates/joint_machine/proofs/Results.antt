-- What holds in any case holds where a call's result is an error, and where it is a value.
use Rattle.std.specs.Prelude.{Result, Ok, Err, OnErr, OnOk}

pub at_error : {T E P : Type 0} (r : Result T E) → P → OnErr r P
at_error (Ok x) p = tt
at_error (Err e) p = p

pub at_value : {T E P : Type 0} (r : Result T E) → P → OnOk r P
at_value (Ok x) p = p
at_value (Err e) p = tt
