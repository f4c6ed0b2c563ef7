-- What connections wrote is printed, one after the other.
use Rattle.std.proofs.Common.{◌≡◌, ◌∙◌, ◌<◌, ◌+◌, ℕ, zero, suc, List, [], ◌∷◌, ◌++◌, length, take, Result, Ok, Err, ap, arith, refl}
use Rattle.std.specs.Prelude.{OnOk}
use Rattle.s3_events.specs.Printing.{outputs_text}
use Rattle.s3_simulation.specs.Played.{Playing, written_by}
use Rattle.s3_simulation.specs.Run.{output_of}
use Rattle.s3_simulation.specs.Shown.{written_by_all}

-- so many of the outputs are so many
pub count_taken : (connections : List Playing) (c : ℕ) → c < length connections → c ≡ length (take c (written_by_all connections))
count_taken [] c less = absurd (omega arith)
count_taken (b ∷ connections) zero less = refl
count_taken (b ∷ connections) (suc c) less = ap suc (count_taken connections c (omega arith))

-- one output more
next_taken : (connections : List Playing) (c : ℕ) → c < length connections → take c (written_by_all connections) ++ output_of c (written_by_all connections) ∷ [] ≡ take (suc c) (written_by_all connections)
next_taken [] c less = absurd (omega arith)
next_taken (b ∷ connections) zero less = refl
next_taken (b ∷ connections) (suc c) less = ap (λ (l : List (List ℕ)). written_by b ∷ l) (next_taken connections c (omega arith))

one_more : (connections : List Playing) (c : ℕ) → c < length connections → take c (written_by_all connections) ++ output_of c (written_by_all connections) ∷ [] ≡ take (c + 1) (written_by_all connections)
one_more connections c less =
    let on : suc c ≡ c + 1 = omega arith in next_taken connections c less ∙ ap (λ (n : ℕ). take n (written_by_all connections)) on

-- the text with one line more
pub printed_one : {T E : Type 0} (r : Result T E) (connections : List Playing) (c : ℕ) (output text : List ℕ) → c < length connections → output ≡ output_of c (written_by_all connections)
    → OnOk r (text ≡ outputs_text (take c (written_by_all connections) ++ output ∷ [])) → OnOk r (text ≡ outputs_text (take (c + 1) (written_by_all connections)))
printed_one (Ok x) connections c output text less is h =
    h ∙ ap outputs_text (ap (λ (o : List ℕ). take c (written_by_all connections) ++ o ∷ []) is ∙ one_more connections c less)
printed_one (Err e) connections c output text less is h = tt
