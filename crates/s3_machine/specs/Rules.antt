-- The rules of a server that was started with these settings.
use Rattle.s3_config.specs.Settings.{Settings}
use Rattle.s3_machine.specs.declared.rules.Rules.{Rules}

abbrev pub rules_of : Settings → Rules
rules_of settings = record { least_part = settings.min_part; region = settings.region }
