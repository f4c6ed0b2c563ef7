use Rattle.std.proofs.Common.{◌≡◌, true, take}
use Rattle.std.specs.List.{list_all}
use Rattle.s3_signer.specs.Request.{given_lines}
use Rattle.s3_cli.specs.Sign.{texts_of, has_colon, header_lines}
use Rattle.s3_cli.proofs.sign.header_lines.Given as goal

abbrev pub invariant-loop-word : goal.invariant-loop-word
invariant-loop-word l = record {
  so_far : given_lines l.lines.items ≡ header_lines l.host (texts_of (take l.word-index l.words));
  colons : list_all has_colon (texts_of (take l.word-index l.words)) ≡ true;
}
