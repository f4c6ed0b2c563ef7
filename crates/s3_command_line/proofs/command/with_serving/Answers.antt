use Rattle.s3_command_line.proofs.command.with_serving.Goals as goal

pub returns : goal.returns
returns c = record { app = c.with_subcommand.ensures.app }
