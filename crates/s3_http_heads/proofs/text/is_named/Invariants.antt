-- What was compared is equal, so that the rest decides.
use Rattle.std.proofs.Common.{◌≡◌, length}
use Rattle.s3_http_heads.proofs.NameLemmas.{same_rest}
use Rattle.s3_http_heads.proofs.text.is_named.Given as goal

abbrev pub invariant-loop-index : goal.invariant-loop-index
invariant-loop-index l = record {
  same : same_rest l.sent l.name l.index ≡ same_rest l.sent l.name 0;
  length : length l.sent ≡ length l.name;
}
