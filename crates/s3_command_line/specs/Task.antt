-- What the matches of the program's command line ask for.
use Rattle.std.specs.Prelude.{◌≡◌, List, codes, Some, option_map}
use Rattle.clap.specs.Words.{Row, Text, subcommand_rows_of, subcommand_name_of}
use Rattle.clap.specs.declared.parser.matches.ArgMatches.{ArgMatches}
use Rattle.s3_command_line.specs.declared.task.Asked.{Asked}
use Rattle.s3_command_line.specs.declared.task.Asked.TheVariants.{Work, Server}
use Rattle.s3_command_line.specs.declared.task.Task.{Task}
use Rattle.s3_command_line.specs.declared.task.Task.TheVariants.{Replay, Sign}
use Rattle.s3_command_line.specs.Words.{HasReplayOptions, HasServeOptions, HasSignOptions}

-- the matches have this subcommand, and this holds of those that it has
pub record Have (m : ArgMatches) (name : Text) (Holds : List Row → Type 0) : Type 0 where
  pub rows : List Row
  pub named : subcommand_name_of m ≡ Some name
  pub given : option_map (λ p. p.1) (subcommand_rows_of m) ≡ Some rows
  pub options : Holds rows

-- the matches ask for the task
abbrev pub AskForTask : ArgMatches → Task → Type 0
AskForTask m (Replay options) = Have m (codes "replay") (λ rows. HasReplayOptions rows options)
AskForTask m (Sign options) = Have m (codes "sign") (λ rows. HasSignOptions rows options)

-- the matches ask for that
abbrev pub AskFor : ArgMatches → Asked → Type 0
AskFor m (Work task) = AskForTask m task
AskFor m (Server options) = Have m (codes "serve") (λ rows. HasServeOptions rows options)

-- the matches have the subcommand of no task
pub record AskForNoTask (m : ArgMatches) : Type 0 where
  pub no_replay : ¬ (subcommand_name_of m ≡ Some (codes "replay"))
  pub no_sign : ¬ (subcommand_name_of m ≡ Some (codes "sign"))

-- the matches have no subcommand
pub record AskForNothing (m : ArgMatches) : Type 0 where
  pub no_serve : ¬ (subcommand_name_of m ≡ Some (codes "serve"))
  pub no_task : AskForNoTask m
