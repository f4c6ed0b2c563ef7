use Rattle.std.proofs.Common.{◌≡◌, ℕ, ◌≤◌, List, Option, Some, None, sym, SomeIff, arith, ◌∙◌}
use Rattle.httpdate.specs.Date.{IsDateText, unix_secs}
use Rattle.httpdate.specs.declared.date.HttpDate.{HttpDate}
use Rattle.s3_calendar.specs.Moment.{last_moment}
use Rattle.s3_conditions.specs.Dates.{ShowsDate}
use Rattle.s3_conditions.proofs.dates.read_date.Goals as goal

-- the seconds of a date are a moment
shown_by : (text : List ℕ) (date : HttpDate) (seconds : ℕ) (result : Option ℕ) → IsDateText text date → seconds ≡ unix_secs date
    → seconds ≤ last_moment → SomeIff result (seconds ≤ last_moment) seconds → ShowsDate text result
shown_by text date seconds None is same within none = absurd (none within)
shown_by text date seconds (Some moment) is same within some = (date, is, sym (some.1 ∙ same))

pub returns-clause-shown : goal.returns-clause-shown
returns-clause-shown c =
    shown_by c.args.text.now c.in-Ok.date c.unix_secs.result c.new.result c.in-Ok.ensures.shown c.unix_secs.ensures.value (omega (arith, c.unix_secs.ensures.bound)) c.new.ensures
