-- Beginnings of lists, one behind another.
use Rattle.std.proofs.Common.{◌≡◌, ap, ◌∙◌, ℕ, suc, ◌+◌, ◌≤◌, List, [], ◌∷◌, ◌++◌, length, take, drop, arith, length-append, length-take, append-nil}
use Rattle.std.proofs.Math.Seq.{take-add}
use Rattle.std.proofs.lemmas.List.{drop-drop, take-append-le}

pub beginning_fits : (all a : List ℕ) → take (length a) all ≡ a → length a ≤ length all
beginning_fits all a begins = omega (arith, ap length begins, length-take (length a) all)

-- what begins what is behind a beginning goes on with it
begins_on : (all a b : List ℕ) → take (length a) all ≡ a → take (length b) (drop (length a) all) ≡ b → take (length (a ++ b)) all ≡ a ++ b
begins_on all a b front back =
    ap (λ n. take n all) (length-append a b) ∙ take-add (length a) (length b) all ∙ ap (λ l. l ++ take (length b) (drop (length a) all)) front
    ∙ ap (λ l. a ++ l) back

-- three parts of what stands from a place on, each behind the one before
three_begin : (body a b c : List ℕ) (from : ℕ) → take (length a) (drop from body) ≡ a → take (length b) (drop (from + length a) body) ≡ b
    → take (length c) (drop (from + length a + length b) body) ≡ c → take (length (a ++ (b ++ c))) (drop from body) ≡ a ++ (b ++ c)
three_begin body a b c from first second third =
    begins_on (drop from body) a (b ++ c) first
    (ap (take (length (b ++ c))) (drop-drop (length a) from body)
    ∙ begins_on (drop (from + length a) body) b c second (ap (take (length c)) (drop-drop (length b) (from + length a) body) ∙ third))

-- a text before them, and anything behind all
take_behind : (text xs : List ℕ) (n : ℕ) → take (length text + n) (text ++ xs) ≡ text ++ take n xs
take_behind [] xs n = let same : 0 + n ≡ n = omega arith in ap (λ k. take k xs) same
take_behind (t ∷ text) xs n =
    let next : length (t ∷ text) + n ≡ suc (length text + n) = omega arith in
    ap (λ k. take k (t ∷ (text ++ xs))) next ∙ ap (λ l. t ∷ l) (take_behind text xs n)

text_and_parts : (text rest parts more : List ℕ) → length parts ≤ length rest → take (length parts) rest ≡ parts
    → take (length (text ++ parts)) (text ++ (rest ++ more)) ≡ text ++ parts
text_and_parts text rest parts more fits begins =
    ap (λ n. take n (text ++ (rest ++ more))) (length-append text parts) ∙ take_behind text (rest ++ more) (length parts)
    ∙ ap (λ l. text ++ l) (take-append-le (length parts) rest more fits ∙ begins)

-- the same, as the code finds them
pub in_one_write : (text body more a b c first second third fourth : List ℕ) (from at next : ℕ) → first ≡ text → second ≡ a → third ≡ b → fourth ≡ c
    → take (length a) (drop from body) ≡ a → at ≡ from + length a → take (length b) (drop at body) ≡ b → next ≡ at + length b → take (length c) (drop next body) ≡ c
    → take (length (first ++ (second ++ (third ++ (fourth ++ []))))) (text ++ (drop from body ++ more)) ≡ first ++ (second ++ (third ++ (fourth ++ [])))
in_one_write text body more a b c first second third fourth from at next first_is second_is third_is fourth_is a_stands at_is b_stands next_is c_stands =
    let b_at : take (length b) (drop (from + length a) body) ≡ b = rw (← at_is) b_stands in
    let c_at : take (length c) (drop (from + length a + length b) body) ≡ c = rw (← at_is, ← next_is) c_stands in
    let begin = three_begin body a b c from a_stands b_at c_at in
    rw (first_is, second_is, third_is, fourth_is, append-nil c)
    (text_and_parts text (drop from body) (a ++ (b ++ c)) more (beginning_fits (drop from body) (a ++ (b ++ c)) begin) begin)
