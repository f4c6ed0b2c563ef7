-- What is told takes at least a byte.
use Rattle.std.proofs.Common.{◌≡◌, ℕ, zero, suc, ◌+◌, ◌<◌, ◌≤◌, ◌==◌, Bool, true, false, not, List, [], ◌∷◌, length, take, drop, refl, sym, ap, ◌∙◌, arith, length-drop, length-take, Option, Some, None, IfSome, is_some, if◌then◌else◌, codes}
use Rattle.std.proofs.lemmas.Bool.{eqb-true, false≢true, false_from_ne_true}
use Rattle.std.specs.List.{before_first, position_or_len}
use Rattle.s3_xml.specs.Characters.{is_white}
use Rattle.s3_xml.specs.Events.{text_in}
use Rattle.s3_xml.specs.Grammar as grammar
use Rattle.s3_xml.specs.Grammar.{Front, begins_with, behind, behind_white, begins_so, cut_at, name_at, behind_attribute, behind_attributes, ends_tag, begun, start_tag, end_tag, comment, section, dereferenced, with_line_feeds, character_data, told_at}
use Rattle.s3_xml_reader.proofs.OptionLemmas.{then_holds, so_holds, either_holds}
use Rattle.s3_xml_reader.proofs.ShrinkLemmas.{AtMost, EndsAtMost, weaker, behind_shrinks, white_shrinks, some_white, cut_shrinks, name_shrinks, attribute_shrinks}

-- what is told leaves no more than so many bytes, or fewer
abbrev TellsAtMost : ℕ → grammar.Told → Type 0
TellsAtMost most told = length told.1 ≤ most

abbrev pub TellsBelow : ℕ → grammar.Told → Type 0
TellsBelow most told = length told.1 < most

fewer : (less most : ℕ) (told : Option grammar.Told) → less < most → IfSome told (TellsAtMost less) → IfSome told (TellsBelow most)
fewer less most None below holds = tt
fewer less most (Some told) below holds = omega arith

attributes_shrink : (most : ℕ) (bytes : List ℕ) → IfSome (behind_attributes most bytes) (AtMost (length bytes))
unfolding behind_attributes
attributes_shrink zero bytes = tt
attributes_shrink (suc most) bytes =
    either_holds (AtMost (length bytes)) (ends_tag (behind_white bytes)) _ _
    (λ ends. white_shrinks bytes)
    (λ ends. so_holds (AtMost (length bytes)) (begins_so is_white bytes) _
    (λ white. then_holds (AtMost (length (behind_white bytes))) (AtMost (length bytes)) (behind_attribute (behind_white bytes)) _ (attribute_shrinks (behind_white bytes))
    (λ rest less. weaker (length rest) (length bytes) (behind_attributes most rest) (omega (arith, some_white bytes white)) (attributes_shrink most rest))))

begun_shrinks : (name rest : List ℕ) → IfSome (begun name rest) (TellsAtMost (length rest))
begun_shrinks name rest =
    either_holds (TellsAtMost (length rest)) (begins_with (codes ">") rest) _ _
    (λ is. omega (arith, length-drop 1 rest)) (λ is. omega (arith, length-drop 2 rest))

start_shrinks : (bytes : List ℕ) → IfSome (start_tag bytes) (TellsAtMost (length bytes))
unfolding start_tag
start_shrinks bytes =
    then_holds (EndsAtMost (length bytes)) (TellsAtMost (length bytes)) (name_at bytes) _ (name_shrinks bytes)
    (λ name ends. then_holds (AtMost (length name.1)) (TellsAtMost (length bytes)) (behind_attributes (suc (length name.1)) name.1) _ (attributes_shrink (suc (length name.1)) name.1)
    (λ rest less. tells_less (length rest) (length bytes) (begun name.0 rest) (omega arith) (begun_shrinks name.0 rest)))
  where
    tells_less : (less most : ℕ) (told : Option grammar.Told) → less ≤ most → IfSome told (TellsAtMost less) → IfSome told (TellsAtMost most)
    tells_less less most None below holds = tt
    tells_less less most (Some told) below holds = omega arith

end_shrinks : (bytes : List ℕ) → IfSome (end_tag bytes) (TellsAtMost (length bytes))
unfolding end_tag
end_shrinks bytes =
    then_holds (EndsAtMost (length bytes)) (TellsAtMost (length bytes)) (name_at bytes) _ (name_shrinks bytes)
    (λ name ends. then_holds (AtMost (length (behind_white name.1))) (TellsAtMost (length bytes)) (behind (codes ">") (behind_white name.1)) _ (behind_shrinks (codes ">") (behind_white name.1))
    (λ rest less. omega (arith, white_shrinks name.1)))

comment_shrinks : (bytes : List ℕ) → IfSome (comment bytes) (TellsAtMost (length bytes))
unfolding comment
comment_shrinks bytes =
    then_holds (EndsAtMost (length bytes)) (TellsAtMost (length bytes)) (cut_at (codes "--") bytes) _ (cut_shrinks (codes "--") bytes)
    (λ cut ends. then_holds (AtMost (length cut.1)) (TellsAtMost (length bytes)) (behind (codes ">") cut.1) _ (behind_shrinks (codes ">") cut.1)
    (λ rest less. omega arith))

section_shrinks : (bytes : List ℕ) → IfSome (section bytes) (TellsAtMost (length bytes))
unfolding section
section_shrinks bytes =
    then_holds (EndsAtMost (length bytes)) (TellsAtMost (length bytes)) (cut_at (codes "]]>") bytes) _ (cut_shrinks (codes "]]>") bytes)
    (λ cut ends. ends)

-- some text stands in front of the first `<`
some_text : (b : ℕ) (bytes : List ℕ) (is : Bool) → (b == 60) ≡ is → is ≡ false → 0 < length (take (if not is then 1 + position_or_len (λ b. b == 60) bytes else 0) (b ∷ bytes))
some_text b bytes true is wrong = absurd (false≢true (sym wrong))
some_text b bytes false is wrong = omega (arith, length-take (1 + position_or_len (λ b. b == 60) bytes) (b ∷ bytes))

not_tag : (b : ℕ) (bytes : List ℕ) → begins_with (codes "<") (b ∷ bytes) ≡ false → (b == 60) ≡ false
not_tag b bytes is = false_from_ne_true (b == 60) (λ same. false≢true (sym is ∙ ap (λ b. begins_with (codes "<") (b ∷ bytes)) (eqb-true b 60 same)))

abbrev text_then : List ℕ → List ℕ → Option grammar.Told
text_then rest content = Some (text_in content, rest)

always : (content : Option (List ℕ)) → IfSome content (λ content. Unit {0})
always None = tt
always (Some content) = tt

characters_shrink : (bytes : List ℕ) → 0 < length bytes → begins_with (codes "<") bytes ≡ false → IfSome (character_data bytes) (TellsBelow (length bytes))
unfolding character_data
characters_shrink [] some is = absurd (omega arith)
characters_shrink (b ∷ bytes) some is =
    let raw : List ℕ = before_first (λ b. b == 60) (b ∷ bytes) in
    let rest : List ℕ = drop (length raw) (b ∷ bytes) in
    let less : length rest < length (b ∷ bytes) = omega (arith, length-drop (length raw) (b ∷ bytes), some_text b bytes (b == 60) refl (not_tag b bytes is)) in
    so_holds (TellsBelow (length (b ∷ bytes))) (not (is_some (cut_at (codes "]]>") raw))) _
    (λ apart. then_holds (λ content. Unit {0}) (TellsBelow (length (b ∷ bytes))) (dereferenced (with_line_feeds raw)) (text_then rest) (always (dereferenced (with_line_feeds raw)))
    (λ content any. less))

-- what stands behind a mark of some bytes
behind_mark_shrinks : (n : ℕ) (bytes : List ℕ) (tell : List ℕ → Option grammar.Told) → 0 < length bytes → ((bytes : List ℕ) → IfSome (tell bytes) (TellsAtMost (length bytes))) → IfSome (tell (drop (suc n) bytes)) (TellsBelow (length bytes))
behind_mark_shrinks n bytes tell some shrinks =
    fewer (length (drop (suc n) bytes)) (length bytes) (tell (drop (suc n) bytes)) (omega (arith, length-drop (suc n) bytes)) (shrinks (drop (suc n) bytes))

pub told_shrinks : (bytes : List ℕ) → 0 < length bytes → IfSome (told_at bytes) (TellsBelow (length bytes))
unfolding told_at
told_shrinks bytes some =
    let P = TellsBelow (length bytes) in
    either_holds P (begins_with (codes "<!--") bytes) _ _ (λ is. behind_mark_shrinks 3 bytes comment some comment_shrinks)
    (λ is. either_holds P (begins_with (codes "<![CDATA[") bytes) _ _ (λ is. behind_mark_shrinks 8 bytes section some section_shrinks)
    (λ is. either_holds P (begins_with (codes "</") bytes) _ _ (λ is. behind_mark_shrinks 1 bytes end_tag some end_shrinks)
    (λ is. either_holds P (begins_with (codes "<") bytes) _ _ (λ is. behind_mark_shrinks 0 bytes start_tag some start_shrinks)
    (λ is. characters_shrink bytes some is))))
