use Rattle.std.proofs.Common.{◌≡◌, [], arith, ap₂, length}
use Rattle.std.proofs.lemmas.List.{length-map}
use Rattle.s3_signer.specs.Request.{Told, given_lines, hashed}
use Rattle.s3_signer.proofs.GrammarLemmas.{not_more}
use Rattle.s3_signer.proofs.LineLemmas.{given_line}
use Rattle.s3_signer.proofs.VerifiedLemmas.{ok_with, request_verified}
use Rattle.s3_signer.proofs.request.signed_request.Goals as goal

pub returns-then-headers-gt-LINE_LIMIT-clause-refused : goal.returns-then-headers-gt-LINE_LIMIT-clause-refused
returns-then-headers-gt-LINE_LIMIT-clause-refused c = λ refused.
    not_more c.args.id.now c.args.secret.now c.args.region.now c.args.method.now c.args.target.now (given_lines c.args.headers.now) (hashed c.args.method.now c.args.body.now) c.args.stamp c.args.body.now
    (omega (arith, c.if-headers-gt-LINE_LIMIT.true, length-map c.args.headers.now given_line))

pub returns-clause-verified : goal.returns-clause-verified
returns-clause-verified c =
    let told : Told = record { word = c.hash_text-hash.result; size = length c.args.body.now; sized = c.tells_length.result; more = [] } in
    let same : told ≡ hashed c.args.method.now c.args.body.now =
    ap₂ (λ word sized. record { word = word; size = length c.args.body.now; sized = sized; more = [] }) c.hash_text-hash.ensures.value c.tells_length.ensures in
    ok_with c.signed_text.result _ _ _ _ c.signed_text.ensures.text c.signed_text.ensures.message c.signed_text.ensures.own (λ text written message own.
    request_verified c.args.id.now c.args.secret.now c.args.region.now c.args.method.now c.args.target.now (given_lines c.args.headers.now) told c.args.stamp c.in_ok-signed.signed c.args.body.now text.items
    same c.hash_text-hash.ensures.form c.in_ok-signed.ensures.signed written message own)
