-- One of the lines from here on names another word just where one of all does.
use Rattle.std.proofs.Common.{◌≡◌, drop}
use Rattle.s3_signing.specs.Verdict.{names_other_word}
use Rattle.s3_signing.proofs.WordLemmas.{other_word_in}
use Rattle.s3_signing.proofs.lines.names_other_word.Given as goal

abbrev pub invariant-loop-index : goal.invariant-loop-index
invariant-loop-index l = other_word_in (drop l.index l.head.headers) ≡ names_other_word l.head
