-- What may stand in an element.
use Rattle.std.proofs.Common.{◌≡◌, refl, sym, ap, ◌∙◌, ◌<◌, ◌≤◌, ◌+◌, ℕ, suc, Bool, true, false, ◌&&◌, List, [], ◌∷◌, ◌++◌, length, append-nil, append_assoc, arith}
use Rattle.std.proofs.lemmas.Bool.{lt-ltb}
use Rattle.std.proofs.lemmas.Slice.Eq.{bytes_eq-Decides}
use Rattle.std.specs.Str.{bytes_eq}
use Rattle.s3_xml.specs.Events.{Event, begin, end, text_in, element, leaf}
use Rattle.s3_xml.specs.Documents.{most_levels, goes_on, is_document}
use Rattle.s3_xml.specs.Laws.{is_name, is_plain, Fits, ContentsFit}
use Rattle.s3_xml.proofs.DocumentLemmas.{read_back}

same_name : (name : List ℕ) → bytes_eq name name ≡ true
same_name name = (bytes_eq-Decides name name).1 refl

-- an element in which this stands, and what stands behind it
behind_inner : (name : List ℕ) (inner rest : List Event) → element name inner ++ rest ≡ begin name ∷ (inner ++ end name ∷ rest)
behind_inner name inner rest = ap (λ events. begin name ∷ events) (append_assoc inner (end name ∷ []) rest)

ended_plain : (name : List ℕ) (rest : List Event) → is_name name ≡ true → is_plain false rest ≡ true → is_plain false (end name ∷ rest) ≡ true
ended_plain name rest is plain = rw (is, plain)

begun : (may_begin : Bool) (name outer : List ℕ) (within : List (List ℕ)) (events : List Event) → suc (length within) < 16
    → goes_on may_begin (outer ∷ within) (begin name ∷ events) ≡ goes_on may_begin (name ∷ outer ∷ within) events
unfolding goes_on
begun may_begin name outer within events less = rw (lt-ltb (suc (length within)) 16 less)

-- an element of which the inside fits
module _ (name : List ℕ) (levels : ℕ) (inner : List Event)
    (inside : (may_begin : Bool) (outer : List ℕ) (within : List (List ℕ)) (rest : List Event) → suc (length within) + levels ≤ most_levels
    → goes_on may_begin (outer ∷ within) (inner ++ end outer ∷ rest) ≡ goes_on may_begin within rest) where
  closed : (may_begin : Bool) (outer : List ℕ) (within : List (List ℕ)) (rest : List Event)
      → suc (length within) + suc levels ≤ most_levels
      → goes_on may_begin (outer ∷ within) (element name inner ++ rest) ≡ goes_on may_begin (outer ∷ within) rest
  closed may_begin outer within rest deep =
      ap (goes_on may_begin (outer ∷ within)) (behind_inner name inner rest)
      ∙ begun may_begin name outer within (inner ++ end name ∷ rest) (omega arith)
      ∙ inside may_begin name (outer ∷ within) rest (omega arith)

ended : (may_begin : Bool) (outer : List ℕ) (within : List (List ℕ)) (rest : List Event)
    → goes_on may_begin (outer ∷ within) (end outer ∷ rest) ≡ goes_on may_begin within rest
unfolding goes_on
ended may_begin outer within rest = rw (same_name outer)

text_ended : (content : List ℕ) (may_begin : Bool) (outer : List ℕ) (within : List (List ℕ)) (rest : List Event)
    → goes_on may_begin (outer ∷ within) (text_in content ++ end outer ∷ rest) ≡ goes_on may_begin within rest
unfolding goes_on
text_ended [] may_begin outer within rest = ended may_begin outer within rest
text_ended (b ∷ bs) may_begin outer within rest = ended may_begin outer within rest

leaf_plain : (name content : List ℕ) (rest : List Event) → is_name name ≡ true → is_plain false rest ≡ true
    → is_plain false (begin name ∷ (text_in content ++ end name ∷ rest)) ≡ true
leaf_plain name [] rest is plain = rw (is, plain)
leaf_plain name (b ∷ bs) rest is plain = rw (is, lt-ltb 0 (length (b ∷ bs)) (omega arith), plain)

leaf_fits : (name content : List ℕ) → is_name name ≡ true → Fits 1 (leaf name content)
leaf_fits name content is = record {
  plain = λ rest plain. ap (is_plain false) (behind_inner name (text_in content) rest) ∙ leaf_plain name content rest is plain;
  closed = closed name 0 (text_in content) (λ may_begin outer within rest deep. text_ended content may_begin outer within rest);
}

element_fits : (name : List ℕ) (levels : ℕ) (inner : List Event) → is_name name ≡ true → Fits levels inner → Fits (suc levels) (element name inner)
element_fits name levels inner is fits = record {
  plain = λ rest plain.
      ap (is_plain false) (behind_inner name inner rest) ∙ ap (λ so. so && is_plain false (inner ++ end name ∷ rest)) is
      ∙ fits.plain (end name ∷ rest) (ended_plain name rest is plain);
  closed = closed name levels inner (λ may_begin outer within rest deep. fits.closed may_begin outer within (end outer ∷ rest) deep ∙ ended may_begin outer within rest);
}

several_fit : (levels : ℕ) (front rest : List Event) → Fits levels front → Fits levels rest → Fits levels (front ++ rest)
several_fit levels front rest f r = record {
  plain = λ behind plain. rw (append_assoc front rest behind) (f.plain (rest ++ behind) (r.plain behind plain));
  closed = λ may_begin outer within behind deep.
      rw (append_assoc front rest behind) (f.closed may_begin outer within (rest ++ behind) deep ∙ r.closed may_begin outer within behind deep);
}

is_closed : (root : List ℕ) (inner : List Event) → Fits 15 inner → is_document (element root inner) ≡ true
unfolding goes_on
is_closed root inner fits = fits.closed false root [] (end root ∷ []) (omega arith) ∙ ended false root [] []

pub contents_fit : ContentsFit
contents_fit = record {
  nothing = record { plain = λ rest plain. plain; closed = λ may_begin outer within rest deep. refl };
  leaves = leaf_fits;
  elements = element_fits;
  several = several_fit;
  deeper = λ levels more events less fits. record {
    plain = fits.plain;
    closed = λ may_begin outer within rest deep. fits.closed may_begin outer within rest (omega arith);
  };
  documents = λ root namespace inner is all fits.
      read_back root namespace inner is all (ap (is_plain false) (sym (append-nil inner)) ∙ fits.plain [] refl) (is_closed root inner fits);
}
