use Rattle.std.proofs.Common.{◌≡◌, ◌++◌, take, drop}
use Rattle.std.specs.Prelude.{option_map}
use Rattle.s3_prefixes.specs.Items.{up_to_first}
use Rattle.s3_prefixes.proofs.rolling.end_of_first.Given as goal

-- the first delimiter is where it is found in what is left
abbrev pub invariant-loop-at : goal.invariant-loop-at
invariant-loop-at l =
    option_map (λ front. take l.at l.text ++ front) (up_to_first l.delimiter (drop l.at l.text)) ≡ up_to_first l.delimiter l.text
