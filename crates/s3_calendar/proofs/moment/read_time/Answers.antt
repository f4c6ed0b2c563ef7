use Rattle.std.proofs.Common.{arith}
use Rattle.s3_calendar.specs.Moment.{is_stamp_time, stamp_second_of_day}
use Rattle.s3_calendar.proofs.MomentLemmas.{form_length, part_length, hour_digits, minute_digits, second_digits}
use Rattle.s3_calendar.proofs.moment.read_time.Goals as goal

-- each part is within the text
pub slice_bounds-two_digits-end : goal.slice_bounds-two_digits-end
slice_bounds-two_digits-end c = omega (arith, form_length c.args.text.now c.requires)

pub slice_bounds-two_digits-end-2 : goal.slice_bounds-two_digits-end-2
slice_bounds-two_digits-end-2 c = omega (arith, form_length c.args.text.now c.requires)

pub slice_bounds-two_digits-end-3 : goal.slice_bounds-two_digits-end-3
slice_bounds-two_digits-end-3 c = omega (arith, form_length c.args.text.now c.requires)

-- and has digits alone
pub two_digits-hour-requires : goal.two_digits-hour-requires
two_digits-hour-requires c = record { length = part_length 2 9 c.args.text.now (omega arith) c.requires; digits = hour_digits c.args.text.now c.requires }

pub two_digits-minute-requires : goal.two_digits-minute-requires
two_digits-minute-requires c = record { length = part_length 2 11 c.args.text.now (omega arith) c.requires; digits = minute_digits c.args.text.now c.requires }

pub two_digits-second-requires : goal.two_digits-second-requires
two_digits-second-requires c = record { length = part_length 2 13 c.args.text.now (omega arith) c.requires; digits = second_digits c.args.text.now c.requires }

pub second_of_day-requires : goal.second_of_day-requires
second_of_day-requires c = record { hour_in = c.two_digits-hour.ensures.bound; minute_in = c.two_digits-minute.ensures.bound; second_in = c.two_digits-second.ensures.bound }

-- the time that the three numbers name is the text's
pub returns-clause-value : goal.returns-clause-value
unfolding is_stamp_time stamp_second_of_day
returns-clause-value c =
    rw (c.two_digits-hour.ensures.value, c.two_digits-minute.ensures.value, c.two_digits-second.ensures.value) at c.second_of_day.ensures.value

pub returns-clause-bound : goal.returns-clause-bound
returns-clause-bound c = c.second_of_day.ensures.bound
