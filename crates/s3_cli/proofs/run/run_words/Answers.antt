use Rattle.std.proofs.Common.{inl, refl}
use Rattle.s3_settings.specs.declared.fault.Fault.TheVariants.{OutOfMemory}
use Rattle.s3_cli.proofs.run.run_words.Goals as goal

pub returns-in-Err-clause-failed : goal.returns-in-Err-clause-failed
returns-in-Err-clause-failed g c failed = record {
  fault = OutOfMemory;
  reason = inl (refl, refl);
  told = c.refused.ensures.told (cc failed);
  input = λ _. refl;
}
