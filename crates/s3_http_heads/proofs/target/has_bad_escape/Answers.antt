use Rattle.std.proofs.Common.{◌+◌, arith}
use Rattle.std.proofs.lemmas.Bool.Decides.{nat_tests}
use Rattle.std.proofs.lemmas.List.{take_rest, drop_all}
use Rattle.s3_http_heads.proofs.TargetLemmas.{has_bad_escape_more, has_bad_escape-nil}
use Rattle.s3_http_heads.proofs.target.has_bad_escape.Goals as goal

pub returns-then-not-begins_with_digits : goal.returns-then-not-begins_with_digits
returns-then-not-begins_with_digits c =
    let step = has_bad_escape_more c.args.bytes.now c.loop-i.i c.loop-i-test.true in
    let rest = take_rest c.args.bytes.now (c.loop-i.i + 1) in
    grind (arith, nat_tests)

pub loop-i-preserved : goal.loop-i-preserved
loop-i-preserved c =
    let step = has_bad_escape_more c.args.bytes.now c.loop-i.i c.loop-i-test.true in
    let rest = take_rest c.args.bytes.now (c.loop-i.i + 1) in
    grind (arith, nat_tests)

pub returns : goal.returns
returns c =
    let none = has_bad_escape-nil in grind (arith, nat_tests, drop_all)
