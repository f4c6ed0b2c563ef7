use Rattle.std.proofs.Common.{◌≡◌, rules}
use Rattle.s3_signer.specs.Presigned.{query_mark}
use Rattle.s3_signer.proofs.PresignedLemmas.{target_made}
use Rattle.s3_signer.proofs.asked.target_to_sign.Goals as goal

pub returns : goal.returns
returns c =
    let a = c.args.asked.now in
    let stamp : c.text.result.now ≡ a.stamp = search rules in
    let mark : c.query_mark-mark.result ≡ query_mark a.target = search rules in
    let begun : c.in_ok-text.text.items ≡ a.target = search rules in
    target_made a c.args.names.now c.text.result.now c.query_mark-mark.result c.in_ok-text.text.items _ _ _ _ _ c.requires stamp mark begun
    c.in_ok-add_parameter.ensures c.in_ok-add_credential.ensures c.in_ok-add_parameter-2.ensures c.in_ok-add_expires.ensures c.in_ok-add_parameter-3.ensures
