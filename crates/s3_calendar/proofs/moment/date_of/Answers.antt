use Rattle.std.proofs.Common.{sym, arith, refl, ◌∙◌}
use Rattle.jiff_core.proofs.SignedLemmas.{signed_arith}
use Rattle.s3_calendar.proofs.MomentLemmas.{as_signed, is_day-true, is_day-false, epoch_day-from_year}
use Rattle.s3_calendar.proofs.moment.date_of.Goals as goal

-- `jiff` is asked for the day of these numbers, and has the days that are in the test
pub returns-in-Ok-clause-variant : goal.returns-in-Ok-clause-variant
returns-in-Ok-clause-variant c =
    let same = as_signed _ _ _ c.requires.year_in c.requires.month_in c.requires.day_in in
    sym (is_day-true _ _ _ (omega (arith, c.if-year-lt1970.false)) (rw (same.0, same.1, same.2) at (c.in-Ok.ensures.succeeds.0 refl)))

pub returns-in-Ok-clause-value : goal.returns-in-Ok-clause-value
returns-in-Ok-clause-value c =
    let same = as_signed _ _ _ c.requires.year_in c.requires.month_in c.requires.day_in in
    rw (same.0, same.1, same.2) at c.in-Ok.ensures.value

pub returns-in-Ok-clause-later : goal.returns-in-Ok-clause-later
returns-in-Ok-clause-later c =
    let same = as_signed _ _ _ c.requires.year_in c.requires.month_in c.requires.day_in in
    epoch_day-from_year c.in-Ok.date (omega (arith, signed_arith, c.in-Ok.ensures.value.0 ∙ same.0, c.if-year-lt1970.false))

-- and no others
pub returns-in-Err-clause-variant : goal.returns-in-Err-clause-variant
returns-in-Err-clause-variant c =
    let same = as_signed _ _ _ c.requires.year_in c.requires.month_in c.requires.day_in in
    is_day-false _ _ _ c.requires.year_in (rw (same.0, same.1, same.2) at c.in-Err.ensures.succeeds.1)
