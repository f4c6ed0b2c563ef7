use Rattle.std.proofs.Common.{◌≡◌, ◌∙◌, ap}
use Rattle.std.proofs.lemmas.Result.{IfOk-weaker}
use Rattle.clap.specs.Words.{app_of, with_subcommand}
use Rattle.s3_command_line.specs.Words.{bare_app, replay_app, sign_app, serve_app}
use Rattle.s3_command_line.proofs.command.command.Goals as goal

pub returns : goal.returns
returns c =
    let one : app_of c.in_ok-command.command ≡ with_subcommand bare_app replay_app.top =
    c.in_ok-command.ensures.app ∙ ap (λ a. with_subcommand a replay_app.top) c.bare_command.ensures.app in
    let two : app_of c.in_ok-command-2.command ≡ with_subcommand (with_subcommand bare_app replay_app.top) sign_app.top =
    c.in_ok-command-2.ensures.app ∙ ap (λ a. with_subcommand a sign_app.top) one in
    record { app = IfOk-weaker c.with_serving.result _ _ (λ m h. h ∙ ap (λ a. with_subcommand a serve_app.top) two) c.with_serving.ensures.app }
