use Rattle.std.proofs.Common.{arith}
use Rattle.s3_settings.proofs.KeysLemmas.{key_pushed, key_said, key_fault, push_fault}
use Rattle.s3_settings.proofs.keys.read_keys.Goals as goal

pub returns-in-Err-clause-refused : goal.returns-in-Err-clause-refused
returns-in-Err-clause-refused c =
    key_fault _ _ _ _ _ _ c.in-Err.fault c.loop-line.invariant.so_far c.loop-line.invariant.said c.in-Some.ensures.value c.as_slice.ensures.value c.in-Err.ensures.refused (λ memory. c.in-Err.ensures.memory (cc memory))

pub returns-in_err-push-in-Ok-clause-refused : goal.returns-in_err-push-in-Ok-clause-refused
returns-in_err-push-in-Ok-clause-refused c =
    push_fault c.from_residual.result _ _ _ _ _ _ _ c.loop-line.invariant.so_far c.loop-line.invariant.said c.in-Some.ensures.value c.in-Ok.ensures.value c.from_residual.ensures.1

pub loop-line-preserved : goal.loop-line-preserved
loop-line-preserved c =
    let pushed = c.in_ok-push-in-Ok.ensures.items in record {
      so_far = key_pushed _ _ _ _ _ _ _ _ c.loop-line.invariant.so_far c.in-Some.ensures.value c.as_slice.ensures.value c.in-Ok.ensures.value pushed;
      said = key_said _ _ _ _ _ c.loop-line.invariant.said c.as_slice.ensures.value c.in-Ok.ensures.value pushed;
      room = omega (arith, c.in_ok-push-in-Ok.ensures.len, c.in-Some.ensures.smaller);
    }
