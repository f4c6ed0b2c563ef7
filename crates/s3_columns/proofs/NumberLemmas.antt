-- Numbers are read as they are spelled.
use Rattle.std.proofs.Common.{◌≡◌, ℕ, ◌<◌, ◌^◌, List, [], ◌++◌, length, Option, Some, None, refl, sym, ap, subst, ◌∙◌, arith}
use Rattle.std.specs.Prelude.{unwrap_or}
use Rattle.std.specs.Int.{w64, to_be_bytes, from_be_bytes}
use Rattle.std.specs.List.{AllByRecursion}
use Rattle.std.proofs.lemmas.List.{length-append}
use Rattle.std.proofs.lemmas.Option.{same_Some}
use Rattle.hex.specs.Hex.{IsBytes}
use Rattle.s3_columns.specs.Items.{cut_at}
use Rattle.s3_columns.specs.Numbers.{number_at, numbers_spelled, numbers_in}
use Rattle.s3_columns.proofs.ItemLemmas.{bind_some, front_bytes, cut_some, cut_again, wide64, Reads, all_again}

-- a number of 64 bits
abbrev pub IsSmall : ℕ → Type 0
IsSmall number = number < 2 ^ 64

number_shorter : (bytes : List ℕ) (x : ℕ × List ℕ) → number_at bytes ≡ Some x → length x.1 < length bytes
unfolding number_at
number_shorter bytes x e =
    let a = bind_some (cut_at 8 bytes) (λ first. Some (from_be_bytes w64 first.0, first.1)) x e in
    let c = cut_some 8 bytes a.0 a.1 in
    let less : length a.0.1 < length bytes = omega (arith, ap length c.0, length-append a.0.0 a.0.1) in
    subst (λ (y : ℕ × List ℕ). length y.1 < length bytes) (same_Some (from_be_bytes w64 a.0.0, a.0.1) x a.2) less

number_again : (n : ℕ) (rest : List ℕ) → IsSmall n → number_at (to_be_bytes w64 n ++ rest) ≡ Some (n, rest)
unfolding number_at
number_again n rest small = rw (cut_again 8 (to_be_bytes w64 n) rest refl, wide64.again n small) refl

number_back : (bytes : List ℕ) (x : ℕ × List ℕ) → IsBytes bytes → number_at bytes ≡ Some x → (bytes ≡ to_be_bytes w64 x.0 ++ x.1) × IsSmall x.0
unfolding number_at
number_back bytes x fits e =
    let a = bind_some (cut_at 8 bytes) (λ first. Some (from_be_bytes w64 first.0, first.1)) x e in
    let c = cut_some 8 bytes a.0 a.1 in
    let number : IsBytes a.0.0 = front_bytes a.0.0 a.0.1 (subst IsBytes c.0 fits) in
    let spelled : bytes ≡ to_be_bytes w64 (from_be_bytes w64 a.0.0) ++ a.0.1 = c.0 ∙ ap (λ (t : List ℕ). t ++ a.0.1) (sym (wide64.back a.0.0 c.1 number)) in
    subst (λ (y : ℕ × List ℕ). (bytes ≡ to_be_bytes w64 y.0 ++ y.1) × IsSmall y.0) (same_Some (from_be_bytes w64 a.0.0, a.0.1) x a.2) (spelled, wide64.below a.0.0 number)

pub number_reads : Reads number_at (to_be_bytes w64) IsSmall
number_reads = record { shorter = number_shorter; again = number_again; back = number_back }

pub numbers_again : (numbers : List ℕ) → AllByRecursion IsSmall numbers → numbers_in (numbers_spelled numbers) ≡ numbers
unfolding numbers_in
numbers_again numbers small = ap (λ read. unwrap_or read []) (all_again number_at (to_be_bytes w64) IsSmall number_reads numbers small)

-- what a reader gives that got stuck, or was done
pub none_given : (read : Option (List ℕ)) → read ≡ None → [] ≡ unwrap_or read []
none_given read e = rw e refl

pub all_given : (read : Option (List ℕ)) (numbers : List ℕ) → read ≡ Some numbers → numbers ≡ unwrap_or read []
all_given read numbers e = rw e refl
