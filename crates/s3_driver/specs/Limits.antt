-- How long a connection may keep its place while nothing comes or goes.
use Rattle.std.specs.Prelude.{ℕ, Bool, true, false, not, ◌&&◌, ◌||◌, nat_lt}
use Rattle.s3_driver.specs.declared.state.State.{State}
use Rattle.s3_driver.specs.declared.state.State.TheVariants as states

-- how many seconds: five minutes between two messages, and one for a head, for a body of which nothing comes, for a turn, and where the
-- peer takes nothing; and five seconds for what it still sends behind the end; and none for one that has ended
abbrev pub most_seconds : State → ℕ
most_seconds states.Message = 300
most_seconds states.Head = 60
most_seconds states.Body = 60
most_seconds states.Turn = 60
most_seconds states.Room = 60
most_seconds states.Closing = 5
most_seconds (states.Ended ending) = 0

-- a wait of so many whole seconds is too long
abbrev pub is_too_long : State → ℕ → Bool
is_too_long state seconds = not (nat_lt seconds (most_seconds state))

-- a head of which a part has come goes on
abbrev pub is_same_head : State → State → Bool
is_same_head states.Head states.Head = true
is_same_head before state = false

-- all is written
abbrev pub is_end : State → Bool
is_end states.Closing = true
is_end (states.Ended ending) = true
is_end state = false

-- the time of a state begins now, by the state before, and whether bytes have come or went: with each byte, but
-- for a head, which has its time from its first byte on, unless something was written in between; and for the end always
abbrev pub begins_anew : State → State → Bool → Bool → Bool
begins_anew before state has_read has_written = is_end state || (has_written || (has_read && not (is_same_head before state)))
