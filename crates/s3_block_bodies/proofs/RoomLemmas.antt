-- Room that was taken and given back.
use Rattle.std.proofs.Common.{◌≡◌, inl, inr, sym, ◌∙◌, ℕ, ◌+◌, List, slice_index, arith}
use Rattle.std.proofs.lemmas.Bool.{cases_lt}
use Rattle.s3_block_file.specs.Uses.{OneMore}

pub room_back : (first count : ℕ) (old taken given : List ℕ) → OneMore first count old taken → OneMore first count given taken → (k : ℕ) → slice_index given k ≡ slice_index old k
room_back first count old taken given more back k =
    elim (cases_lt k first) [
      | inl front ↦ sym (back.in_front k front) ∙ more.in_front k front
      | inr from ↦
          elim (cases_lt k (first + count)) [
            | inl inside ↦ omega (arith, back.these k from inside, more.these k from inside)
            | inr behind ↦ sym (back.behind k behind) ∙ more.behind k behind
          ]
    ]
