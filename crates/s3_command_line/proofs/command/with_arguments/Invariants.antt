use Rattle.std.proofs.Common.{◌≡◌, take}
use Rattle.clap.specs.Words.{app_of}
use Rattle.clap.specs.declared.builder.command.Command.TheViews.{out-Command}
use Rattle.s3_command_line.specs.Command.{with_arguments}
use Rattle.s3_command_line.proofs.command.with_arguments.Given as goal

abbrev pub invariant-loop-argument : goal.invariant-loop-argument
invariant-loop-argument l = record {
  app : app_of l.command ≡ with_arguments (app_of l.fn.command) (take l.argument-index l.arguments);
  local : (out-Command l.command).has_globals ≡ (out-Command l.fn.command).has_globals;
}
