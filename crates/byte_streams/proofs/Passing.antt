-- What a `?` passes on is the error that the callee gave, where its type is the caller's own.
use Rattle.std.proofs.Common.{◌≡◌, Result, Ok, Err, ap}
use Rattle.std.proofs.lemmas.Bool.{false≢true}
use Rattle.std.specs.Result.{IsErr, IsErrAnd}

pub passed_on : {T E : Type 0} (r : Result T E) (c : E) → IsErr r → IsErrAnd r (λ d. d ≡ c) → r ≡ Err c
passed_on (Ok a) c i e = absurd (false≢true i)
passed_on (Err d) c i e = ap Err e
