use Rattle.std.proofs.Common.{arith}
use Rattle.s3_calendar.specs.Moment.{is_stamp_date, stamp_day_number}
use Rattle.s3_calendar.proofs.MomentLemmas.{form_length, part_length, year_digits, month_digits, day_digits}
use Rattle.s3_calendar.proofs.moment.read_date.Goals as goal

-- each part is within the text
pub slice_bounds-four_digits-end : goal.slice_bounds-four_digits-end
slice_bounds-four_digits-end c = omega (arith, part_length 4 0 c.args.text.now (omega arith) c.requires)

pub slice_bounds-two_digits-end : goal.slice_bounds-two_digits-end
slice_bounds-two_digits-end c = omega (arith, form_length c.args.text.now c.requires)

pub slice_bounds-two_digits-end-2 : goal.slice_bounds-two_digits-end-2
slice_bounds-two_digits-end-2 c = omega (arith, form_length c.args.text.now c.requires)

-- and has digits alone
pub four_digits-year-requires : goal.four_digits-year-requires
four_digits-year-requires c = record { length = part_length 4 0 c.args.text.now (omega arith) c.requires; digits = year_digits c.args.text.now c.requires }

pub two_digits-month-requires : goal.two_digits-month-requires
two_digits-month-requires c = record { length = part_length 2 4 c.args.text.now (omega arith) c.requires; digits = month_digits c.args.text.now c.requires }

pub two_digits-day-requires : goal.two_digits-day-requires
two_digits-day-requires c = record { length = part_length 2 6 c.args.text.now (omega arith) c.requires; digits = day_digits c.args.text.now c.requires }

pub day_number-requires : goal.day_number-requires
day_number-requires c = record { year_in = c.four_digits-year.ensures.bound; month_in = c.two_digits-month.ensures.bound; day_in = c.two_digits-day.ensures.bound }

-- the day that the three numbers name is the text's
pub returns-clause-value : goal.returns-clause-value
unfolding is_stamp_date stamp_day_number
returns-clause-value c =
    rw (c.four_digits-year.ensures.value, c.two_digits-month.ensures.value, c.two_digits-day.ensures.value) at c.day_number.ensures.value

pub returns-clause-bound : goal.returns-clause-bound
returns-clause-bound c = c.day_number.ensures.bound
