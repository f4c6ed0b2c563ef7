-- The moments that texts show as dates of HTTP (RFC 9110, section 5.6.7).
use Rattle.std.specs.Prelude.{◌≡◌, ℕ, List, Option, MatchOption}
use Rattle.httpdate.specs.Date.{IsDateText, unix_secs}
use Rattle.httpdate.specs.declared.date.HttpDate.{HttpDate}

-- the seconds of a date that the text shows, and none where it shows no date
abbrev pub ShowsDate : List ℕ → Option ℕ → Type 0
ShowsDate text shown =
    MatchOption shown ((date : HttpDate) → ¬ (IsDateText text date))
    (λ seconds. (date : HttpDate) × IsDateText text date × (unix_secs date ≡ seconds))
