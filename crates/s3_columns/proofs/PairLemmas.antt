-- Pairs are read as they are spelled.
use Rattle.std.proofs.Common.{◌≡◌, ℕ, ◌<◌, ◌^◌, List, ◌++◌, length, Some, refl, sym, ap, subst, ◌∙◌, append_assoc, arith}
use Rattle.std.specs.Int.{w16, w32}
use Rattle.std.proofs.lemmas.Option.{same_Some}
use Rattle.hex.specs.Hex.{IsBytes}
use Rattle.s3_columns.specs.Items.{◌>>=◌, text_spelled, text_at}
use Rattle.s3_columns.specs.Pairs.{Pair, pair_spelled, Fits, AreFitting, pairs_spelled, pair_at, pairs_read}
use Rattle.s3_columns.proofs.ItemLemmas.{bind_some, back_bytes, wide16, wide32, text_takes, text_again, text_shorter, Reads, all_again, all_back}

pair_shorter : (bytes : List ℕ) (x : Pair × List ℕ) → pair_at bytes ≡ Some x → length x.1 < length bytes
unfolding pair_at
pair_shorter bytes x e =
    let a = bind_some (text_at w16 bytes) (λ name. text_at w32 name.1 >>= λ value. Some (record { name = name.0; value = value.0 }, value.1)) x e in
    let b = bind_some (text_at w32 a.0.1) (λ value. Some (record { name = a.0.0; value = value.0 }, value.1)) x a.2 in
    let first = text_shorter w16 (2 ^ 16) wide16 bytes a.0 a.1 in
    let second = text_shorter w32 (2 ^ 32) wide32 a.0.1 b.0 b.1 in
    let less : length b.0.1 < length bytes = omega arith in
    subst (λ (y : Pair × List ℕ). length y.1 < length bytes) (same_Some (record { name = a.0.0; value = b.0.0 }, b.0.1) x b.2) less

pair_again : (pair : Pair) (rest : List ℕ) → Fits pair → pair_at (pair_spelled pair ++ rest) ≡ Some (pair, rest)
unfolding pair_at
pair_again pair rest fits =
    let name = text_spelled w16 pair.name in
    let value = text_spelled w32 pair.value in
    ap pair_at (append_assoc name value rest)
    ∙ rw (text_again w16 (2 ^ 16) wide16 pair.name (value ++ rest) fits.name, text_again w32 (2 ^ 32) wide32 pair.value rest fits.value) refl

pair_back : (bytes : List ℕ) (x : Pair × List ℕ) → IsBytes bytes → pair_at bytes ≡ Some x → (bytes ≡ pair_spelled x.0 ++ x.1) × Fits x.0
unfolding pair_at
pair_back bytes x fits e =
    let a = bind_some (text_at w16 bytes) (λ name. text_at w32 name.1 >>= λ value. Some (record { name = name.0; value = value.0 }, value.1)) x e in
    let b = bind_some (text_at w32 a.0.1) (λ value. Some (record { name = a.0.0; value = value.0 }, value.1)) x a.2 in
    let first = text_takes w16 (2 ^ 16) wide16 bytes a.0 fits a.1 in
    let second = text_takes w32 (2 ^ 32) wide32 a.0.1 b.0 (back_bytes (text_spelled w16 a.0.0) a.0.1 (subst IsBytes first.0 fits)) b.1 in
    let both : bytes ≡ (text_spelled w16 a.0.0 ++ text_spelled w32 b.0.0) ++ b.0.1 =
    first.0 ∙ ap (λ (t : List ℕ). text_spelled w16 a.0.0 ++ t) second.0 ∙ sym (append_assoc (text_spelled w16 a.0.0) (text_spelled w32 b.0.0) b.0.1) in
    subst (λ (y : Pair × List ℕ). (bytes ≡ pair_spelled y.0 ++ y.1) × Fits y.0) (same_Some (record { name = a.0.0; value = b.0.0 }, b.0.1) x b.2)
    (both, record { name = first.1; value = second.1 })

pub pair_reads : Reads pair_at pair_spelled Fits
pair_reads = record { shorter = pair_shorter; again = pair_again; back = pair_back }

pub pairs_again : (pairs : List Pair) → AreFitting pairs → pairs_read (pairs_spelled pairs) ≡ Some pairs
pairs_again = all_again pair_at pair_spelled Fits pair_reads

pub pairs_back : (bytes : List ℕ) (pairs : List Pair) → IsBytes bytes → pairs_read bytes ≡ Some pairs → (pairs_spelled pairs ≡ bytes) × AreFitting pairs
pairs_back = all_back pair_at pair_spelled Fits pair_reads
