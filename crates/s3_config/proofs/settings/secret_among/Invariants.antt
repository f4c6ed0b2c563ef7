use Rattle.std.proofs.Common.{◌≡◌, drop}
use Rattle.s3_config.specs.Settings.{secret_of}
use Rattle.s3_config.proofs.settings.secret_among.Given as goal

abbrev pub invariant-loop-key : goal.invariant-loop-key
invariant-loop-key l = secret_of (drop l.key-index l.keys) l.id ≡ secret_of l.keys l.id
