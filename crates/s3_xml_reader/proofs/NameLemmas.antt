-- The names of the elements that are open, where one more is kept behind the others.
use Rattle.std.proofs.Common.{◌≡◌, ℕ, true, false, List, [], ◌∷◌, ◌++◌, ap, ◌∙◌, Some, None, if◌then◌else◌, Bor, ◌-◌, length, take, arith, length-append, length-take}
use Rattle.std.proofs.lemmas.List.{reverse-append, map-append, nil_from_length}
use Rattle.std.specs.Str.{bytes_eq}
use Rattle.s3_xml_reader.specs.Names.{innermost_first, left_by}

innermost_push : (names : List (Bor (List ℕ))) (name : Bor (List ℕ)) → innermost_first (names ++ name ∷ []) ≡ name.now ∷ innermost_first names
innermost_push names name = rw (map-append, reverse-append)

-- the innermost has the name
pub close_same : (names rest : List (Bor (List ℕ))) (outer : Bor (List ℕ)) (name : List ℕ) → names ≡ rest ++ outer ∷ [] → bytes_eq outer.now name ≡ true → left_by (innermost_first names) name ≡ Some (innermost_first rest)
unfolding left_by
close_same names rest outer name is same =
    ap (λ names. left_by (innermost_first names) name) is ∙ ap (λ names. left_by names name) (innermost_push rest outer)
    ∙ ap (λ same. if same then Some (innermost_first rest) else None) same

-- it has another one
pub close_other : (names rest : List (Bor (List ℕ))) (outer : Bor (List ℕ)) (name : List ℕ) → names ≡ rest ++ outer ∷ [] → bytes_eq outer.now name ≡ false → left_by (innermost_first names) name ≡ None
unfolding left_by
close_other names rest outer name is other =
    ap (λ names. left_by (innermost_first names) name) is ∙ ap (λ names. left_by names name) (innermost_push rest outer)
    ∙ ap (λ same. if same then Some (innermost_first rest) else None) other

-- none is open
pub close_none : (names rest : List (Bor (List ℕ))) (name : List ℕ) → names ≡ rest ++ [] → rest ≡ take (length names - 1) names → left_by (innermost_first names) name ≡ None
unfolding left_by
close_none names rest name all last =
    let none : names ≡ [] = nil_from_length names (omega (arith, ap length all, ap length last, length-append rest [], length-take (length names - 1) names)) in
    ap (λ names. left_by (innermost_first names) name) none
