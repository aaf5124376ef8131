-- The ten lists are the lines of one history.
use Rattle.std.proofs.Common.{refl}
use Rattle.store_tests.proofs.TenLists.{ten_join}
use Rattle.store_tests.proofs.histories.put_ten.Goals as goal

pub returns : goal.returns
returns c = λ ms ps ns. ten_join _ ms ps ns
    (rw (
      c.in_ok-put_empty-6.ensures,
      c.in_ok-put_empty-5.ensures,
      c.in_ok-put-4.ensures,
      c.in_ok-put_empty-4.ensures,
      c.in_ok-put_empty-3.ensures,
      c.in_ok-put_empty-2.ensures,
      c.in_ok-put-3.ensures,
      c.in_ok-put_empty.ensures,
      c.in_ok-put-2.ensures,
      c.in_ok-put.ensures,
      c.gone.ensures,
      c.gone-2.ensures,
      c.gone-3.ensures,
      c.gone-4.ensures,
      c.requires,
    ) refl)
