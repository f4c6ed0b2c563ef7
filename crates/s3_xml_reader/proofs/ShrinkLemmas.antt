-- What stands behind something is no longer than all.
use Rattle.std.proofs.Common.{◌≡◌, ℕ, suc, ◌+◌, ◌<◌, ◌≤◌, Bool, true, false, List, [], ◌∷◌, length, drop, arith, length-drop, Option, Some, None, option_map, IfSome, if◌then◌else◌, codes}
use Rattle.std.specs.List.{prefix_len}
use Rattle.s3_xml.specs.Characters.{is_white, is_name_start}
use Rattle.s3_xml.specs.Grammar.{Front, begins_with, behind, behind_white, begins_so, cut_at, name_at, is_value, behind_value, behind_attribute}
use Rattle.s3_xml_reader.proofs.OptionLemmas.{then_holds, so_holds, either_holds}

-- no longer than so many bytes
abbrev pub AtMost : ℕ → List ℕ → Type 0
AtMost most rest = length rest ≤ most

abbrev pub EndsAtMost : ℕ → Front → Type 0
EndsAtMost most front = length front.1 ≤ most

-- the same of every rest
pub weaker : (less most : ℕ) (rest : Option (List ℕ)) → less ≤ most → IfSome rest (AtMost less) → IfSome rest (AtMost most)
weaker less most None below holds = tt
weaker less most (Some rest) below holds = omega arith

pub behind_shrinks : (mark bytes : List ℕ) → IfSome (behind mark bytes) (AtMost (length bytes))
behind_shrinks mark bytes =
    either_holds (AtMost (length bytes)) (begins_with mark bytes) (Some (drop (length mark) bytes)) None
    (λ is. omega (arith, length-drop (length mark) bytes)) (λ is. tt)

pub white_shrinks : (bytes : List ℕ) → length (behind_white bytes) ≤ length bytes
white_shrinks bytes = omega (arith, length-drop (prefix_len is_white bytes) bytes)

one_white : (bytes : List ℕ) (b : ℕ) (rest : ℕ) (white : Bool) → white ≡ true → length (drop (if white then 1 + rest else 0) (b ∷ bytes)) < length (b ∷ bytes)
one_white bytes b rest true is = omega (arith, length-drop (1 + rest) (b ∷ bytes))
one_white bytes b rest false is = absurd (cc)

pub some_white : (bytes : List ℕ) → begins_so is_white bytes ≡ true → length (behind_white bytes) < length bytes
some_white [] is = absurd (cc)
some_white (b ∷ bytes) is = one_white bytes b (prefix_len is_white bytes) (is_white b) is

onto_cut : (most b : ℕ) (cut : Option Front) → IfSome cut (EndsAtMost most) → IfSome (option_map (λ cut. (b ∷ cut.0, cut.1)) cut) (EndsAtMost (suc most))
onto_cut most b None holds = tt
onto_cut most b (Some cut) holds = omega arith

pub cut_shrinks : (mark bytes : List ℕ) → IfSome (cut_at mark bytes) (EndsAtMost (length bytes))
unfolding cut_at
cut_shrinks mark [] = tt
cut_shrinks mark (b ∷ bytes) =
    either_holds (EndsAtMost (length (b ∷ bytes))) (begins_with mark (b ∷ bytes)) (Some ([], drop (length mark) (b ∷ bytes))) (option_map (λ cut. (b ∷ cut.0, cut.1)) (cut_at mark bytes))
    (λ is. omega (arith, length-drop (length mark) (b ∷ bytes)))
    (λ is. onto_cut (length bytes) b (cut_at mark bytes) (cut_shrinks mark bytes))

pub name_shrinks : (bytes : List ℕ) → IfSome (name_at bytes) (EndsAtMost (length bytes))
unfolding name_at
name_shrinks bytes =
    so_holds (EndsAtMost (length bytes)) (begins_so is_name_start bytes) _ (λ is. omega (arith, length-drop {A = ℕ}))

pub value_shrinks : (bytes : List ℕ) → IfSome (behind_value bytes) (AtMost (length bytes))
unfolding behind_value
value_shrinks [] = tt
value_shrinks (quote ∷ bytes) =
    so_holds (AtMost (length (quote ∷ bytes))) _ _
    (λ is. then_holds (EndsAtMost (length bytes)) (AtMost (length (quote ∷ bytes))) (cut_at (quote ∷ []) bytes) _ (cut_shrinks (quote ∷ []) bytes)
    (λ cut ends. so_holds (AtMost (length (quote ∷ bytes))) (is_value cut.0) (Some cut.1) (λ is. omega arith)))

pub attribute_shrinks : (bytes : List ℕ) → IfSome (behind_attribute bytes) (AtMost (length bytes))
unfolding behind_attribute
attribute_shrinks bytes =
    then_holds (EndsAtMost (length bytes)) (AtMost (length bytes)) (name_at bytes) _ (name_shrinks bytes)
    (λ name ends. then_holds (AtMost (length (behind_white name.1))) (AtMost (length bytes)) (behind (codes "=") (behind_white name.1)) _ (behind_shrinks (codes "=") (behind_white name.1))
    (λ value less. weaker (length (behind_white value)) (length bytes) (behind_value (behind_white value)) (omega (arith, white_shrinks name.1, white_shrinks value)) (value_shrinks (behind_white value))))
