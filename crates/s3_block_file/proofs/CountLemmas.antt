-- How many extents of a list have a granule.
use Rattle.std.proofs.Common.{◌≡◌, inl, inr, ◌∙◌, sym, ap, ℕ, ◌+◌, ◌<◌, ◌≤◌, true, false, cond, List, length, take, get_or, slice_index, arith}
use Rattle.std.specs.Prelude.{count_by}
use Rattle.std.proofs.lemmas.Bool.{cases_lt}
use Rattle.std.proofs.lemmas.Bool.Decides.{nat_tests}
use Rattle.std.proofs.lemmas.List.Sums.{count_by_more_yes, count_by_more_no, sum_by_more_le}
use Rattle.s3_block_file.specs.declared.extent.Extent.{Extent}
use Rattle.s3_block_file.specs.Extent.{granules_for, lies_in, AreDisjoint}
use Rattle.s3_block_file.specs.Uses.{AreFree, AreTaken, OneMore}

lies : (k : ℕ) (e : Extent) → e.first ≤ k → k < e.first + granules_for e.size → lies_in k e ≡ true
lies k e from to = grind (arith, nat_tests)

lies_not_in_front : (k : ℕ) (e : Extent) → k < e.first → lies_in k e ≡ false
lies_not_in_front k e low = grind (arith, nat_tests)

lies_not_behind : (k : ℕ) (e : Extent) → e.first + granules_for e.size ≤ k → lies_in k e ≡ false
lies_not_behind k e high = grind (arith, nat_tests)

-- the counts with one extent more
pub counts_next : (old new : List ℕ) (live : List Extent) (i : ℕ) (e d : Extent) → i < length live → get_or live i d ≡ e → OneMore e.first (granules_for e.size) old new → ((k : ℕ) → slice_index old k ≡ count_by (lies_in k) (take i live)) → (k : ℕ) → slice_index new k ≡ count_by (lies_in k) (take (i + 1) live)
counts_next old new live i e d inside is more so_far k =
    elim (cases_lt k e.first) [
      | inl low ↦
          more.in_front k low ∙ so_far k ∙ sym (count_by_more_no (lies_in k) live i d inside (ap (lies_in k) is ∙ lies_not_in_front k e low))
      | inr high ↦
          elim (cases_lt k (e.first + granules_for e.size)) [
            | inl among ↦
                more.these k high among ∙ ap (λ n. n + 1) (so_far k) ∙ sym (count_by_more_yes (lies_in k) live i d inside (ap (lies_in k) is ∙ lies k e high among))
            | inr past ↦
                more.behind k past ∙ so_far k ∙ sym (count_by_more_no (lies_in k) live i d inside (ap (lies_in k) is ∙ lies_not_behind k e past))
          ]
    ]

-- one that is there is counted beside those before it
counted_there : (k : ℕ) (live : List Extent) (i : ℕ) (d : Extent) → i < length live → lies_in k (get_or live i d) ≡ true → count_by (lies_in k) (take i live) + 1 ≤ count_by (lies_in k) live
counted_there k live i d inside is =
    let one : ◌≡◌ {A = ℕ} (cond (lies_in k (get_or live i d)) 1 0) 1 = ap (λ b. cond b 1 0) is in
    omega (arith, one, sum_by_more_le (λ x. cond (lies_in k x) 1 0) live i d inside)

-- what comes next in a list of extents that are apart is free
pub next_free : (uses : List ℕ) (live : List Extent) (i : ℕ) (e d : Extent) → i < length live → get_or live i d ≡ e → ((k : ℕ) → slice_index uses k ≡ count_by (lies_in k) (take i live)) → AreDisjoint live → AreFree uses e.first (granules_for e.size)
next_free uses live i e d inside is so_far disjoint k from to =
    omega (arith, so_far k, disjoint k, counted_there k live i d inside (ap (lies_in k) is ∙ lies k e from to))

pub are_disjoint : (uses : List ℕ) (live : List Extent) → ((k : ℕ) → slice_index uses k ≡ count_by (lies_in k) live) → ((k : ℕ) → slice_index uses k ≤ 1) → AreDisjoint live
are_disjoint uses live counts single k = omega (arith, counts k, single k)

-- one body more where there was none leaves at most one everywhere
pub still_single : (old new : List ℕ) (first count : ℕ) → AreFree old first count → OneMore first count old new → ((k : ℕ) → slice_index old k ≤ 1) → (k : ℕ) → slice_index new k ≤ 1
still_single old new first count free more single k =
    elim (cases_lt k first) [
      | inl low ↦ omega (arith, more.in_front k low, single k)
      | inr high ↦
          elim (cases_lt k (first + count)) [
            | inl inside ↦ omega (arith, more.these k high inside, free k high inside)
            | inr past ↦ omega (arith, more.behind k past, single k)
          ]
    ]

-- what comes next in a list of extents that are counted is taken, where those before it were given back
pub next_taken : (old uses : List ℕ) (gone : List Extent) (i : ℕ) (e d : Extent) → i < length gone → get_or gone i d ≡ e → ((k : ℕ) → slice_index uses k + count_by (lies_in k) (take i gone) ≡ slice_index old k)
    → ((k : ℕ) → count_by (lies_in k) gone ≤ slice_index old k) → AreTaken uses e.first (granules_for e.size)
next_taken old uses gone i e d inside is so_far counted k from to =
    omega (arith, so_far k, counted k, counted_there k gone i d inside (ap (lies_in k) is ∙ lies k e from to))

-- and one more is given back
pub counts_back : (old uses new : List ℕ) (gone : List Extent) (i : ℕ) (e d : Extent) → i < length gone → get_or gone i d ≡ e → OneMore e.first (granules_for e.size) new uses
    → ((k : ℕ) → slice_index uses k + count_by (lies_in k) (take i gone) ≡ slice_index old k) → (k : ℕ) → slice_index new k + count_by (lies_in k) (take (i + 1) gone) ≡ slice_index old k
counts_back old uses new gone i e d inside is less so_far k =
    elim (cases_lt k e.first) [
      | inl low ↦
          omega (arith, less.in_front k low, so_far k, count_by_more_no (lies_in k) gone i d inside (ap (lies_in k) is ∙ lies_not_in_front k e low))
      | inr high ↦
          elim (cases_lt k (e.first + granules_for e.size)) [
            | inl among ↦
                omega (arith, less.these k high among, so_far k, count_by_more_yes (lies_in k) gone i d inside (ap (lies_in k) is ∙ lies k e high among))
            | inr past ↦
                omega (arith, less.behind k past, so_far k, count_by_more_no (lies_in k) gone i d inside (ap (lies_in k) is ∙ lies_not_behind k e past))
          ]
    ]
