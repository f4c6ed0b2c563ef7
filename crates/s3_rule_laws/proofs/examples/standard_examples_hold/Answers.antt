use Rattle.std.proofs.Common.{refl}
use Rattle.httparse.specs.Grammar.{trim_ows}
use Rattle.httpdate.specs.Calendar.{days_of_years, days_of_months}
use Rattle.httpdate.specs.Reader.{read_tag, read_two_digits, read_name, read_year, read_time, read_padded_day, parse_imf_fixdate, parse_rfc850_date, parse_asctime, parse}
use Rattle.s3_conditions.specs.Range.{between, byte_range}
use Rattle.s3_conditions.specs.Tags.{matches}
use Rattle.s3_rule_laws.proofs.examples.standard_examples_hold.Goals as goal

pub returns-clause-dates : goal.returns-clause-dates
unfolding days_of_years days_of_months read_tag read_two_digits read_name read_year read_time read_padded_day parse_imf_fixdate parse_rfc850_date parse_asctime parse
returns-clause-dates c = record { fixed = refl; rfc850 = refl; asctime = refl; since = refl }

pub returns-clause-tags : goal.returns-clause-tags
unfolding matches trim_ows
returns-clause-tags c = record {
  first = refl;
  second = refl;
  none = refl;
  weak = refl;
  last_weak = refl;
  no_weak = refl;
  weak_with_strong = refl;
  strong_with_strong = refl;
  weak_with_another = refl;
}

pub returns-clause-ranges : goal.returns-clause-ranges
unfolding between byte_range
returns-clause-ranges c = record {
  first_500 = refl;
  second_500 = refl;
  three_ranges = refl;
  two_ranges = refl;
  overlapping = refl;
  backwards = refl;
  first_of_1234 = refl;
  second_of_1234 = refl;
  all_but_500 = refl;
  last_of_1234 = refl;
  rest_of_47022 = refl;
  at_the_end = refl;
}
