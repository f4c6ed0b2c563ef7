-- Digits and lines of outputs, one after another.
use Rattle.std.proofs.Common.{◌≡◌, ℕ, ◌+◌, ◌/◌, ◌%◌, ◌<◌, ◌≤◌, List, [], ◌∷◌, ◌++◌, length, get_or, take, Result, Ok, Err, refl, subst, sym, ◌∙◌, ap, arith, append_assoc, append-nil}
use Rattle.std.specs.Prelude.{OnOk, slice_index}
use Rattle.std.proofs.lemmas.List.{take_more, take_at, take-take, length-take}
use Rattle.hex.specs.Hex.{encode_with, encode_lower, lower_digits}
use Rattle.s3_events.specs.Printing.{output_line, outputs_from, outputs_text}

-- the digits of bytes, one after another
encoded_more : (table xs ys : List ℕ) → encode_with table (xs ++ ys) ≡ encode_with table xs ++ encode_with table ys
unfolding encode_with
encoded_more table [] ys = refl
encoded_more table (x ∷ xs) ys = ap (λ rest. slice_index table (x / 16) ∷ slice_index table (x % 16) ∷ rest) (encoded_more table xs ys)

pub none_encoded : (text : List ℕ) → text ≡ text ++ encode_lower []
unfolding encode_with
none_encoded text = sym (append-nil text)

pub one_encoded_more : (before text after bytes two : List ℕ) (i : ℕ) → i < length bytes → text ≡ before ++ encode_lower (take i bytes) → two ≡ encode_lower (get_or bytes i 0 ∷ []) → after ≡ text ++ two → after ≡ before ++ encode_lower (take (i + 1) bytes)
one_encoded_more before text after bytes two i lt so_far is more =
    let next : encode_lower (take (i + 1) bytes) ≡ encode_lower (take i bytes) ++ encode_lower (get_or bytes i 0 ∷ []) = ap encode_lower (take_more bytes i 0 lt) ∙ encoded_more lower_digits (take i bytes) (get_or bytes i 0 ∷ []) in
    rw (more, so_far, is, next) (append_assoc before (encode_lower (take i bytes)) (encode_lower (get_or bytes i 0 ∷ [])))

-- one output more
printed_more : (c : ℕ) (outputs : List (List ℕ)) (output : List ℕ) → outputs_from c (outputs ++ output ∷ []) ≡ outputs_from c outputs ++ output_line (c + length outputs) output
printed_more c [] output = ap (λ (n : ℕ). output_line n output ++ []) (omega arith) ∙ append-nil (output_line (c + 0) output)
printed_more c (first ∷ outputs) output =
    ap (λ rest. output_line c first ++ rest) (printed_more (c + 1) outputs output)
    ∙ sym (append_assoc (output_line c first) (outputs_from (c + 1) outputs) (output_line (c + 1 + length outputs) output))
    ∙ ap (λ (n : ℕ). (output_line c first ++ outputs_from (c + 1) outputs) ++ output_line n output) (omega arith)

one_printed_more : (before : List (List ℕ)) (text after output : List ℕ) (c : ℕ) → text ≡ outputs_text before → c ≡ length before → after ≡ text ++ output_line c output → after ≡ outputs_text (before ++ output ∷ [])
one_printed_more before text after output c all is more =
    let at : c ≡ 0 + length before = omega arith in
    rw (more, all, at) (sym (printed_more 0 before output))

-- so where a line was added, and stays
pub one_line_more : {T E : Type 0} (added r : Result T E) (before : List (List ℕ)) (text between after output : List ℕ) (c : ℕ)
    → OnOk added (between ≡ text ++ output_line c output) → OnOk added (after ≡ between) → r ≡ added
    → text ≡ outputs_text before → c ≡ length before → OnOk r (after ≡ outputs_text (before ++ output ∷ []))
one_line_more {T = T} {E = E} (Ok x) r before text between after output c more stays same all is =
    subst (λ (r : Result T E). OnOk r (after ≡ outputs_text (before ++ output ∷ []))) (sym same) (one_printed_more before text after output c all is (stays ∙ more))
one_line_more {T = T} {E = E} (Err e) r before text between after output c more stays same all is =
    subst (λ (r : Result T E). OnOk r (after ≡ outputs_text (before ++ output ∷ []))) (sym same) tt

-- a text begins with the one to which something was added, and with all that this one begins with
pub begins : (text more after : List ℕ) → after ≡ text ++ more → take (length text) after ≡ text
begins text more after is = ap (take (length text)) is ∙ take_at text more (length text) refl

pub begins_then : (text between after : List ℕ) → take (length text) between ≡ text → take (length between) after ≡ between → take (length text) after ≡ text
begins_then text between after first then =
    let size : length (take (length text) between) ≡ length text = ap length first in
    let within : length text ≤ length between = omega (arith, size, length-take (length text) between) in
    sym (take-take (length text) (length between) after within) ∙ ap (take (length text)) then ∙ first

pub begins_same : (text between after : List ℕ) → take (length text) between ≡ text → after ≡ between → take (length text) after ≡ text
begins_same text between after first is = ap (take (length text)) is ∙ first
