-- Tags are read as the events that they were written for.
use Rattle.std.proofs.Common.{◌≡◌, refl, sym, ap, ◌∙◌, ℕ, suc, Bool, true, false, not, ◌||◌, ◌==◌, List, [], ◌∷◌, ◌++◌, length, codes, Some, option_map, append_assoc, nat_eq}
use Rattle.std.specs.List.{list_all, list_any}
use Rattle.std.proofs.lemmas.Bool.{false≢true, and_parts, not-true, ne_eqb, eqb-false}
use Rattle.s3_text.specs.Cut.{parts_at}
use Rattle.s3_text.specs.Characters.{ampersand}
use Rattle.s3_xml.specs.Characters.{is_name_start, is_name_byte}
use Rattle.s3_xml.specs.Events.{begin, end}
use Rattle.s3_xml.specs.Printed.{namespace_text}
use Rattle.s3_xml.specs.Laws.{is_name, is_namespace}
use Rattle.s3_xml.specs.Grammar.{cut_at, name_at, dereferenced, is_value, behind_value, behind_attribute, behind_attributes, start_tag, end_tag, told_at}
use Rattle.s3_xml.proofs.ScanLemmas.{stops, taken_all, left_all, list_all-weaker}

-- a name, in front of what isn't in it
name_read : (name rest : List ℕ) → is_name name ≡ true → stops is_name_byte rest ≡ true → name_at (name ++ rest) ≡ Some (name, rest)
unfolding name_at
name_read [] rest is stop = cc
name_read (b ∷ bs) rest is stop =
    let p = and_parts (is_name_start b) (list_all is_name_byte (b ∷ bs)) is in
    rw (taken_all is_name_byte (b ∷ bs) rest p.1 stop, left_all is_name_byte (b ∷ bs) rest p.1 stop, p.0)

-- an end tag
end_read : (name rest : List ℕ) → is_name name ≡ true → end_tag (name ++ 62 ∷ rest) ≡ Some (end name ∷ [], rest)
unfolding end_tag
end_read name rest is = rw (name_read name (62 ∷ rest) is refl)

pub told_end : (name rest : List ℕ) → is_name name ≡ true → told_at (60 ∷ 47 ∷ (name ++ 62 ∷ rest)) ≡ Some (end name ∷ [], rest)
unfolding told_at
told_end name rest is = end_read name rest is

-- ---- a namespace

cut_quote : (value rest : List ℕ) → list_all (λ b. not (b == 34)) value ≡ true → cut_at (34 ∷ []) (value ++ 34 ∷ rest) ≡ Some (value, rest)
unfolding cut_at
cut_quote [] rest all = refl
cut_quote (b ∷ bs) rest all =
    let p = and_parts (not (b == 34)) (list_all (λ x. not (x == 34)) bs) all in
    let other : nat_eq 34 b ≡ false = ne_eqb 34 b (λ e. eqb-false b 34 (not-true (b == 34) p.0) (sym e)) in
    rw other (ap (option_map (λ cut. (b ∷ cut.0, cut.1))) (cut_quote bs rest p.1))

no_reference : (value : List ℕ) → list_all (λ b. not (b == 38)) value ≡ true → parts_at ampersand value ≡ value ∷ []
no_reference [] all = refl
no_reference (b ∷ bs) all =
    let p = and_parts (not (b == 38)) (list_all (λ x. not (x == 38)) bs) all in
    rw (not-true (b == 38) p.0, no_reference bs p.1)

no_less : (value : List ℕ) → list_all (λ b. not (b == 60)) value ≡ true → list_any (λ b. b == 60) value ≡ false
no_less [] all = refl
no_less (b ∷ bs) all =
    let p = and_parts (not (b == 60)) (list_all (λ x. not (x == 60)) bs) all in
    rw (not-true (b == 60) p.0, no_less bs p.1)

-- none of three
apart : (p q r : Bool) → not (p || q || r) ≡ true → (not p ≡ true) × (not q ≡ true) × (not r ≡ true)
apart true q r is = cc
apart false true r is = cc
apart false false true is = cc
apart false false false is = (refl, refl, refl)

value_is : (value : List ℕ) → is_namespace value ≡ true → is_value value ≡ true
unfolding dereferenced
value_is value all =
    let no60 = no_less value (list_all-weaker (λ b. not (b == 34 || b == 38 || b == 60)) (λ b. not (b == 60)) value (λ b h. (apart (b == 34) (b == 38) (b == 60) h).2) all) in
    let no38 = no_reference value (list_all-weaker (λ b. not (b == 34 || b == 38 || b == 60)) (λ b. not (b == 38)) value (λ b h. (apart (b == 34) (b == 38) (b == 60) h).1) all) in
    rw (no60, no38)

value_read : (value rest : List ℕ) → is_namespace value ≡ true → behind_value (34 ∷ (value ++ 34 ∷ rest)) ≡ Some rest
unfolding behind_value
value_read value rest all =
    let no34 = list_all-weaker (λ b. not (b == 34 || b == 38 || b == 60)) (λ b. not (b == 34)) value (λ b h. (apart (b == 34) (b == 38) (b == 60) h).0) all in
    rw (cut_quote value rest no34, value_is value all)

-- the attribute of a namespace
attribute_read : (value rest : List ℕ) → is_namespace value ≡ true → behind_attribute (codes "xmlns=\"" ++ (value ++ 34 ∷ rest)) ≡ Some rest
unfolding behind_attribute name_at
attribute_read value rest all = value_read value rest all

attributes_read : (value rest : List ℕ) (most : ℕ) → is_namespace value ≡ true
    → behind_attributes (suc (suc most)) (codes " xmlns=\"" ++ (value ++ 34 ∷ 62 ∷ rest)) ≡ Some (62 ∷ rest)
unfolding behind_attributes
attributes_read value rest most all = rw (attribute_read value (62 ∷ rest) all)

-- ---- a start tag

with_namespace : (name value rest : List ℕ) → is_name name ≡ true → is_namespace value ≡ true
    → start_tag (name ++ (codes " xmlns=\"" ++ (value ++ 34 ∷ 62 ∷ rest))) ≡ Some (begin name ∷ [], rest)
unfolding start_tag
with_namespace name value rest is all =
    let behind = value ++ 34 ∷ 62 ∷ rest in
    rw (name_read name (codes " xmlns=\"" ++ behind) is refl, attributes_read value rest (length (codes "xmlns=\"" ++ behind)) all)

start_read : (name namespace rest : List ℕ) → is_name name ≡ true → is_namespace namespace ≡ true
    → start_tag (name ++ (namespace_text namespace ++ 62 ∷ rest)) ≡ Some (begin name ∷ [], rest)
unfolding start_tag behind_attributes
start_read name [] rest is all = rw (name_read name (62 ∷ rest) is refl)
start_read name (b ∷ bs) rest is all =
    ap (λ ys. start_tag (name ++ (codes " xmlns=\"" ++ b ∷ ys))) (append_assoc bs (34 ∷ []) (62 ∷ rest)) ∙ with_namespace name (b ∷ bs) rest is all

-- a name begins with no mark that has another meaning behind `<`
no_mark : (b mark : ℕ) → is_name_start b ≡ true → is_name_start mark ≡ false → nat_eq mark b ≡ false
no_mark b mark is other = ne_eqb mark b (λ e. false≢true (sym other ∙ ap is_name_start e ∙ is))

pub told_begin : (name namespace rest : List ℕ) → is_name name ≡ true → is_namespace namespace ≡ true
    → told_at (60 ∷ (name ++ (namespace_text namespace ++ 62 ∷ rest))) ≡ Some (begin name ∷ [], rest)
unfolding told_at
told_begin [] namespace rest is all = cc
told_begin (b ∷ bs) namespace rest is all =
    let p = and_parts (is_name_start b) (list_all is_name_byte (b ∷ bs)) is in
    rw (no_mark b 33 p.0 refl, no_mark b 47 p.0 refl) (start_read (b ∷ bs) namespace rest is all)
