use Rattle.std.proofs.Common.{◌∙◌, ap}
use Rattle.std.proofs.lemmas.Result.{IfOk-weaker}
use Rattle.clap.specs.Words.{App, app_of, with_subcommand}
use Rattle.s3_command_line.proofs.command.with_subcommand.Goals as goal

pub returns : goal.returns
returns c =
    let added = ap (λ (a : App). with_subcommand (app_of c.args.command) a.top) c.in_ok-added.ensures.app in
    record { app = IfOk-weaker c.subcommand-2.result _ _ (λ m h. h.shape c.in_ok-added.ensures.local ∙ added) c.subcommand-2.ensures }
