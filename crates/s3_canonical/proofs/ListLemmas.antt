-- The pieces that parameters print.
use Rattle.std.proofs.Common.{◌≡◌, ℕ, ◌<◌, List, [], length, map, get_or, sym, ap, ◌∙◌, arith}
use Rattle.std.proofs.lemmas.List.{get_or-map, length-map}
use Rattle.s3_canonical.specs.declared.parameter.Parameter.{Parameter}
use Rattle.s3_canonical.specs.Parameter.{pair, pairs}
use Rattle.s3_canonical.specs.CanonicalTarget.{print_pair}

-- the piece that a parameter prints
pub piece_at : (all : List Parameter) (i : ℕ) (parameter : Parameter) → i < length all → parameter ≡ get_or all i parameter → get_or (map print_pair (pairs all)) i [] ≡ print_pair (pair parameter)
piece_at all i parameter within is =
    let in_pairs : i < length (pairs all) = omega (arith, length-map all pair) in
    get_or-map print_pair (pairs all) i (pair parameter) [] in_pairs
    ∙ ap print_pair (get_or-map pair all i parameter (pair parameter) within ∙ ap pair (sym is))

-- there is a piece for each parameter
pub length-pieces : (all : List Parameter) → length (map print_pair (pairs all)) ≡ length all
length-pieces all = length-map (pairs all) print_pair ∙ length-map all pair
