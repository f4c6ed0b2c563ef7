use Rattle.std.proofs.Common.{◌/◌, ◌%◌, arith}
use Rattle.s3_calendar.proofs.StampLemmas.{two_written}
use Rattle.s3_calendar.proofs.moment.stamp_text.Goals as goal

-- each part is read back from its digits
pub returns-clause-year : goal.returns-clause-year
returns-clause-year c =
    let century = two_written (c.args.year / 100) _ _ (omega (arith, c.requires.year_in)) c.tens.ensures c.ones.ensures in
    let rest = two_written (c.args.year % 100) _ _ (omega arith) c.tens-2.ensures c.ones-2.ensures in
    omega (arith, century, rest)

pub returns-clause-month : goal.returns-clause-month
returns-clause-month c = two_written _ _ _ c.requires.month_in c.tens-3.ensures c.ones-3.ensures

pub returns-clause-day : goal.returns-clause-day
returns-clause-day c = two_written _ _ _ c.requires.day_in c.tens-4.ensures c.ones-4.ensures

pub returns-clause-hour : goal.returns-clause-hour
returns-clause-hour c = two_written _ _ _ c.requires.hour_in c.tens-5.ensures c.ones-5.ensures

pub returns-clause-minute : goal.returns-clause-minute
returns-clause-minute c = two_written _ _ _ c.requires.minute_in c.tens-6.ensures c.ones-6.ensures

pub returns-clause-second : goal.returns-clause-second
returns-clause-second c = two_written _ _ _ c.requires.second_in c.tens-7.ensures c.ones-7.ensures
