-- What one body more leaves of the granules that others have.
use Rattle.std.proofs.Common.{ℕ, ◌+◌, ◌<◌, ◌≤◌, List, inl, inr, slice_index, arith}
use Rattle.std.proofs.lemmas.Bool.{cases_lt}
use Rattle.s3_block_file.specs.declared.extent.Extent.{Extent}
use Rattle.s3_block_file.specs.Extent.{granules_for, AreApart}
use Rattle.s3_block_file.specs.Uses.{AreFree, AreTaken, OneMore}

-- what is taken stays so
pub still_taken : (first count : ℕ) (old new : List ℕ) → OneMore first count old new → (from size : ℕ) → AreTaken old from size → AreTaken new from size
still_taken first count old new more from size taken k low high =
    elim (cases_lt k first) [
      | inl before ↦ omega (arith, more.in_front k before, taken k low high)
      | inr past ↦
          elim (cases_lt k (first + count)) [
            | inl inside ↦ omega (arith, more.these k past inside, taken k low high)
            | inr behind ↦ omega (arith, more.behind k behind, taken k low high)
          ]
    ]

-- and what has one body more is taken
pub newly_taken : (first count : ℕ) (old new : List ℕ) → OneMore first count old new → AreTaken new first count
newly_taken first count old new more k low high = omega (arith, more.these k low high)

-- what is free lies apart from what is taken
pub free_apart : (uses : List ℕ) (a b : Extent) → AreTaken uses a.first (granules_for a.size) → AreFree uses b.first (granules_for b.size) → AreApart a b
free_apart uses a b taken free k from_a to_a from_b to_b = absurd (omega (arith, taken k from_a to_a, free k from_b to_b))
