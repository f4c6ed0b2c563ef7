use Rattle.std.proofs.Common.{◌≡◌, ℕ, List, [], ◌∷◌, ◌++◌, append_assoc}
use Rattle.std.specs.Prelude.{codes}
use Rattle.std.specs.List.{flat_map}
use Rattle.std.proofs.lemmas.List.Folds.{flat_map-map}
use Rattle.httparse.specs.Grammar.{print_field, print_request}
use Rattle.s3_signer.specs.Line.{pairs}
use Rattle.s3_signer.specs.Request.{HeaderLine, field_of}
use Rattle.s3_signer.proofs.head_text.head_text.Goals as goal

joined : (method target version end lines : List ℕ) → ((((method ++ 32 ∷ []) ++ target) ++ 32 ∷ (version ++ end)) ++ lines) ++ end ≡ method ++ 32 ∷ target ++ 32 ∷ version ++ end ++ (lines ++ end)
joined method target version end lines = simp append_assoc

pub returns : goal.returns
unfolding print_request
returns c =
    rw (
      flat_map-map print_field field_of (pairs c.args.lines.now),
      c.in_ok-extend_from_slice-3.ensures.items,
      c.in_ok-print_lines.ensures,
      c.in_ok-extend_from_slice-2.ensures.items,
      c.in_ok-extend_from_slice.ensures.items,
      c.in_ok-push.ensures.items,
      c.in_ok-text.ensures.items,
    )
    (joined c.args.method.now c.args.target.now (codes "HTTP/1.1") (codes "\r\n") (flat_map (λ (line : HeaderLine). print_field (field_of line)) (pairs c.args.lines.now)))
