-- Attributes, one after another.
use Rattle.std.proofs.Common.{◌≡◌, ℕ, zero, suc, ◌<◌, ◌≤◌, Bool, true, false, List, length, sym, ap, ◌∙◌, subst, arith, Option, Some, None, IfSome, if◌then◌else◌}
use Rattle.s3_xml.specs.Characters.{is_white}
use Rattle.s3_xml.specs.Grammar.{behind_white, begins_so, behind_attribute, ends_tag, behind_attributes}
use Rattle.s3_xml.specs.Option.{◌>>=◌, ◌>>◌, where_so}
use Rattle.s3_xml_reader.proofs.OptionLemmas.{then_same, so_same}
use Rattle.s3_xml_reader.proofs.ShrinkLemmas.{AtMost, some_white, attribute_shrinks}

-- what a tag has in front of its attributes, where these are read so
abbrev one_attribute : (List ℕ → Option (List ℕ)) → List ℕ → Option (List ℕ)
one_attribute more bytes =
    if ends_tag (behind_white bytes) then Some (behind_white bytes)
    else (where_so (begins_so is_white bytes) >> (behind_attribute (behind_white bytes) >>= more))

one_same : (so : Bool) (first second third : Option (List ℕ)) → second ≡ third → (if so then first else second) ≡ (if so then first else third)
one_same so first second third same = ap (λ rest. if so then first else rest) same

-- of more steps than bytes none is missed
steps_enough : (most other : ℕ) (bytes : List ℕ) → length bytes < most → length bytes < other → behind_attributes most bytes ≡ behind_attributes other bytes
unfolding behind_attributes
steps_enough zero other bytes enough enough2 = absurd (omega arith)
steps_enough (suc most) zero bytes enough enough2 = absurd (omega arith)
steps_enough (suc most) (suc other) bytes enough enough2 =
    one_same (ends_tag (behind_white bytes)) _ _ _
    (so_same (begins_so is_white bytes) _ _
    (λ white. then_same (AtMost (length (behind_white bytes))) (behind_attribute (behind_white bytes)) _ _ (attribute_shrinks (behind_white bytes))
    (λ rest less. steps_enough most other rest (omega (arith, some_white bytes white)) (omega (arith, some_white bytes white)))))

-- the tag ends
pub attributes_end : (bytes : List ℕ) → ends_tag (behind_white bytes) ≡ true → behind_attributes (suc (length bytes)) bytes ≡ Some (behind_white bytes)
unfolding behind_attributes
attributes_end bytes is =
    ap (λ so. if so then Some (behind_white bytes) else (where_so (begins_so is_white bytes) >> (behind_attribute (behind_white bytes) >>= behind_attributes (length bytes)))) is

not_end : (bytes : List ℕ) → ends_tag (behind_white bytes) ≡ false → behind_attributes (suc (length bytes)) bytes ≡ (where_so (begins_so is_white bytes) >> (behind_attribute (behind_white bytes) >>= behind_attributes (length bytes)))
unfolding behind_attributes
not_end bytes is =
    ap (λ so. if so then Some (behind_white bytes) else (where_so (begins_so is_white bytes) >> (behind_attribute (behind_white bytes) >>= behind_attributes (length bytes)))) is

-- no white space is in front of an attribute
pub attributes_bare : (bytes : List ℕ) → ends_tag (behind_white bytes) ≡ false → begins_so is_white bytes ≡ false → behind_attributes (suc (length bytes)) bytes ≡ None
attributes_bare bytes ends is =
    not_end bytes ends ∙ ap (λ so. where_so so >> (behind_attribute (behind_white bytes) >>= behind_attributes (length bytes))) is

-- it is none
pub attributes_wrong : (bytes : List ℕ) → ends_tag (behind_white bytes) ≡ false → begins_so is_white bytes ≡ true → behind_attribute (behind_white bytes) ≡ None → behind_attributes (suc (length bytes)) bytes ≡ None
attributes_wrong bytes ends white is =
    not_end bytes ends ∙ ap (λ so. where_so so >> (behind_attribute (behind_white bytes) >>= behind_attributes (length bytes))) white
    ∙ ap (λ rest. rest >>= behind_attributes (length bytes)) is

-- it is one
pub attribute_less : (bytes rest : List ℕ) → begins_so is_white bytes ≡ true → behind_attribute (behind_white bytes) ≡ Some rest → length rest < length bytes
attribute_less bytes rest white is =
    let less : length rest ≤ length (behind_white bytes) = subst (λ o. IfSome o (AtMost (length (behind_white bytes)))) is (attribute_shrinks (behind_white bytes)) in
    omega (arith, some_white bytes white)

pub attributes_more : (bytes rest : List ℕ) → ends_tag (behind_white bytes) ≡ false → begins_so is_white bytes ≡ true → behind_attribute (behind_white bytes) ≡ Some rest → behind_attributes (suc (length rest)) rest ≡ behind_attributes (suc (length bytes)) bytes
attributes_more bytes rest ends white is =
    sym (not_end bytes ends ∙ ap (λ so. where_so so >> (behind_attribute (behind_white bytes) >>= behind_attributes (length bytes))) white
    ∙ ap (λ rest. rest >>= behind_attributes (length bytes)) is
    ∙ steps_enough (length bytes) (suc (length rest)) rest (attribute_less bytes rest white is) (omega arith))

pub ruleset attributes = (attributes_end, attributes_bare, attributes_wrong, attribute_less, attributes_more)
