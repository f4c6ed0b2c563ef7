use Rattle.std.proofs.Common.{◌≡◌, ◌&&◌, ◌∷◌, length}
use Rattle.std.specs.List.{list_all}
use Rattle.s3_text.specs.Characters.{semicolon}
use Rattle.s3_text.specs.Cut.{parts_at}
use Rattle.s3_text.specs.Order.{rises}
use Rattle.s3_authorization.specs.Authorization.{are_signed_names, is_signed_name}
use Rattle.s3_authorization.proofs.authorization.are_signed_names.Given as goal

abbrev pub invariant-loop-name : goal.invariant-loop-name
invariant-loop-name l =
    (list_all is_signed_name (parts_at semicolon l.rest) && rises (l.before ∷ parts_at semicolon l.rest))
    ≡ are_signed_names l.signed

abbrev pub decreases-loop-name : goal.decreases-loop-name
decreases-loop-name l = length l.rest
