use Rattle.std.proofs.Common.{◌≡◌, ◌∙◌, sym, true, false}
use Rattle.std.specs.Prelude.{codes}
use Rattle.std.specs.Str.{bytes_eq, str_to_ascii_lowercase}
use Rattle.s3_signing.proofs.NameLemmas.{covered_more, covered_same, texts_more}
use Rattle.s3_signing.proofs.names.names_to_cover.Goals as goal
use Rattle.s3_signing.proofs.names.names_to_cover.Goals.{then-not-is_named+in_ok-lower_copy+in_ok-push, else-not-is_named}

pub loop-index-preserved : goal.loop-index-preserved
loop-index-preserved c =
    let lines = c.args.head.now.headers in
    let sent = c.header.result.0.now in
    elim c.if-not-is_named.branch [
      | then-not-is_named+in_ok-lower_copy+in_ok-push w ↦
          let other : bytes_eq (str_to_ascii_lowercase sent) (codes "authorization") ≡ false = cc (w.if-not-is_named.true) in
          let more = covered_more lines c.loop-index.index sent _ c.header.ensures other in
          rw (w.names-is, w.in_ok-push.ensures.items, texts_more, w.in_ok-lower_copy.ensures, c.loop-index.invariant) (sym more)
      | else-not-is_named w ↦
          let same : bytes_eq (str_to_ascii_lowercase sent) (codes "authorization") ≡ true = cc (w.if-not-is_named.false) in
          let left = covered_same lines c.loop-index.index sent _ c.header.ensures same in
          rw w.names-is (c.loop-index.invariant ∙ sym left)
    ]
