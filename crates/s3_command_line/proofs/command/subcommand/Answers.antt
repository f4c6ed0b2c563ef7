use Rattle.std.proofs.Common.{◌∙◌, ap}
use Rattle.std.proofs.lemmas.Result.{IfOk-weaker}
use Rattle.clap.specs.Simple.{app_of_fields}
use Rattle.s3_command_line.specs.Command.{with_arguments}
use Rattle.s3_command_line.specs.Words.{with_settings}
use Rattle.s3_command_line.proofs.command.subcommand.Goals as goal

pub returns-clause-app : goal.returns-clause-app
returns-clause-app c =
    let bare = ap app_of_fields c.about-command.ensures ∙ c.new.ensures.app in
    let settings = c.in_ok-command.ensures.app ∙ ap with_settings bare in
    IfOk-weaker c.with_arguments-2.result _ _ (λ m h. h ∙ ap (λ a. with_arguments a c.args.arguments.now) settings) c.with_arguments-2.ensures.app
