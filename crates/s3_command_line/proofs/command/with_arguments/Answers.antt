use Rattle.std.proofs.Common.{◌∙◌, sym}
use Rattle.std.proofs.lemmas.List.Sums.{fold_more}
use Rattle.s3_command_line.proofs.WordsLemmas.{added, or_false}
use Rattle.s3_command_line.proofs.command.with_arguments.Goals as goal

pub loop-argument-preserved : goal.loop-argument-preserved
loop-argument-preserved c =
    let step = added c.loop-argument.invariant.app (c.in_ok-command.ensures.shape c.arg.ensures.local) c.arg.ensures.rule in
    record {
      app = step ∙ sym (fold_more _ _ c.args.arguments.now c.loop-argument.argument-index _ c.loop-argument-test.true);
      local = or_false _ _ _ c.in_ok-command.ensures.globals c.arg.ensures.local ∙ c.loop-argument.invariant.local;
    }
