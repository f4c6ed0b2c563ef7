use Rattle.std.proofs.Common.{arith, rules, FitsSigned, to_z-of_z}
use Rattle.std.specs.Int.{w16}
use Rattle.jiff_core.proofs.SignedLemmas.{signed_arith}
use Rattle.s3_calendar.specs.Moment.{is_stamp_date, is_stamp_time, stamp_day_number, stamp_second_of_day}
use Rattle.s3_calendar.proofs.MomentLemmas.{is_day-from_date, is_time-true, pos-unsigned_abs, short_date}
use Rattle.s3_calendar.proofs.moment.text_of.Goals as goal

pub returns-clause-is_date : goal.returns-clause-is_date
unfolding is_stamp_date
returns-clause-is_date c =
    let parts = c.stamp_text.ensures in
    let fits : FitsSigned w16 c.args.date.year = search rules in
    rw (parts.year, parts.month, parts.day, c.unsigned_abs.ensures.value, to_z-of_z fits) (is_day-from_date c.args.date (omega (arith, signed_arith)))

pub returns-clause-date : goal.returns-clause-date
unfolding stamp_day_number
returns-clause-date c =
    let parts = c.stamp_text.ensures in
    let fits : FitsSigned w16 c.args.date.year = search rules in
    let year = pos-unsigned_abs c.args.date.year (omega (arith, signed_arith)) in
    rw (parts.year, parts.month, parts.day, c.unsigned_abs.ensures.value, to_z-of_z fits, year)

pub returns-clause-time : goal.returns-clause-time
unfolding stamp_second_of_day
returns-clause-time c =
    let parts = c.stamp_text.ensures in
    rw (parts.hour, parts.minute, parts.second) (omega arith)

pub returns-clause-is_time : goal.returns-clause-is_time
unfolding is_stamp_time
returns-clause-is_time c =
    let parts = c.stamp_text.ensures in
    let time = c.args.time in
    rw (parts.hour, parts.minute, parts.second) (is_time-true time.hour time.minute time.second time.hour_in time.minute_in time.second_in)

pub stamp_text-requires : goal.stamp_text-requires
stamp_text-requires c =
    let short = short_date c.args.date c.requires in
    let time = c.args.time in
    let fits : FitsSigned w16 c.args.date.year = search rules in
    record {
      year_in = rw (c.unsigned_abs.ensures.value, to_z-of_z fits) short.0;
      month_in = short.1;
      day_in = short.2;
      hour_in = omega (arith, time.hour_in);
      minute_in = omega (arith, time.minute_in);
      second_in = omega (arith, time.second_in);
    }
