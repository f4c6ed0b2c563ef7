-- The text of a document is read as what it tells.
use Rattle.std.proofs.Common.{◌≡◌, refl, sym, ap, ◌∙◌, ◌<◌, ◌≤◌, ℕ, zero, suc, Bool, true, false, not, ◌&&◌, ◌==◌, List, [], ◌∷◌, ◌++◌, length, codes, Some, append-nil, append_assoc, length-append, nat_lt, arith}
use Rattle.std.proofs.lemmas.List.Concat.{flat_map-append}
use Rattle.std.proofs.lemmas.Bool.{false≢true, and_parts, not-true}
use Rattle.std.specs.List.{list_all}
use Rattle.s3_xml.specs.Events.{Event, begin, text, end, text_in, element}
use Rattle.s3_xml.specs.Printed.{declaration, namespace_text, event_text, markup, escaped, document_text}
use Rattle.s3_xml.specs.Grammar.{dereferenced, cut_at, told_at, told_within, events_of, behind_mark, behind_declaration}
use Rattle.s3_xml.specs.Documents.{goes_on, document_of}
use Rattle.s3_xml.specs.Laws.{is_name, is_plain, is_namespace, DocumentsAreReadBack}
use Rattle.s3_xml.proofs.ReferenceLemmas.{escaped_back}
use Rattle.s3_xml.proofs.ScanLemmas.{stops}
use Rattle.s3_xml.proofs.TextLemmas.{is_clean, text_is_clean, no_tag, data_at, told_data}
use Rattle.s3_xml.proofs.TagLemmas.{told_begin, told_end}

-- ---- one event, and those behind it

one_told : (most b : ℕ) (bytes rest : List ℕ) (events more : List Event) → told_at (b ∷ bytes) ≡ Some (events, rest) → told_within most rest ≡ Some more
    → told_within (suc most) (b ∷ bytes) ≡ Some (events ++ more)
unfolding told_within
one_told most b bytes rest events more here behind = rw (here, behind)

-- behind a text comes a tag, or nothing
stops_text : (events : List Event) → is_plain true events ≡ true → stops (λ b. not (b == 60)) (markup events) ≡ true
stops_text [] plain = refl
stops_text (begin name ∷ events) plain = refl
stops_text (text content ∷ events) plain = cc
stops_text (end name ∷ events) plain = refl

none_empty : (content : List ℕ) → dereferenced [] ≡ Some content → 0 < length content → ⊥
unfolding dereferenced
none_empty [] is some = omega arith
none_empty (b ∷ bs) is some = cc

text_told : (raw content rest : List ℕ) (more : List Event) (most : ℕ) → list_all is_clean raw ≡ true → dereferenced raw ≡ Some content → 0 < length content
    → stops (λ b. not (b == 60)) rest ≡ true → told_within most rest ≡ Some more → told_within (suc most) (raw ++ rest) ≡ Some (text_in content ++ more)
text_told [] content rest more most clean is some stop behind = absurd (none_empty content is some)
text_told (b ∷ bs) content rest more most clean is some stop behind =
    let first = and_parts (is_clean b) (list_all is_clean bs) clean in
    one_told most b (bs ++ rest) rest (text_in content) more (told_data b (bs ++ rest) (not-true (b == 60) (no_tag b first.0)) ∙ data_at (b ∷ bs) content rest clean stop is) behind

begin_told : (name rest : List ℕ) (more : List Event) (most : ℕ) → is_name name ≡ true → told_within most rest ≡ Some more
    → told_within (suc most) ((codes "<" ++ name ++ codes ">") ++ rest) ≡ Some (begin name ∷ more)
begin_told name rest more most is behind =
    ap (λ bytes. told_within (suc most) (60 ∷ bytes)) (append_assoc name (codes ">") rest)
    ∙ one_told most 60 (name ++ 62 ∷ rest) rest (begin name ∷ []) more (told_begin name [] rest is refl) behind

end_told : (name rest : List ℕ) (more : List Event) (most : ℕ) → is_name name ≡ true → told_within most rest ≡ Some more
    → told_within (suc most) ((codes "</" ++ name ++ codes ">") ++ rest) ≡ Some (end name ∷ more)
end_told name rest more most is behind =
    ap (λ bytes. told_within (suc most) (60 ∷ 47 ∷ bytes)) (append_assoc name (codes ">") rest)
    ∙ one_told most 60 (47 ∷ (name ++ 62 ∷ rest)) rest (end name ∷ []) more (told_end name rest is) behind

-- the text of a text has bytes
some_text : (content : List ℕ) → 0 < length content → 0 < length (escaped content)
some_text content some = by (escaped content) (escaped_back content)
  where
    by : (raw : List ℕ) → dereferenced raw ≡ Some content → 0 < length raw
    by [] is = absurd (none_empty content is some)
    by (b ∷ bs) is = omega arith

-- all events are told, in as many steps as their text has bytes
all_told : (events : List Event) (is_behind : Bool) (most : ℕ) → is_plain is_behind events ≡ true → length (markup events) ≤ most
    → told_within (suc most) (markup events) ≡ Some events
unfolding told_within
all_told [] is_behind most plain few = refl
all_told (begin name ∷ events) is_behind zero plain few = absurd (omega (arith, length-append (event_text (begin name)) (markup events)))
all_told (begin name ∷ events) is_behind (suc most) plain few =
    let p = and_parts (is_name name) (is_plain false events) plain in
    begin_told name (markup events) events (suc most) p.0
    (all_told events false most p.1 (omega (arith, length-append (event_text (begin name)) (markup events))))
all_told (end name ∷ events) is_behind zero plain few = absurd (omega (arith, length-append (event_text (end name)) (markup events)))
all_told (end name ∷ events) is_behind (suc most) plain few =
    let p = and_parts (is_name name) (is_plain false events) plain in
    end_told name (markup events) events (suc most) p.0
    (all_told events false most p.1 (omega (arith, length-append (event_text (end name)) (markup events))))
all_told (text [] ∷ events) is_behind most plain few =
    absurd (false≢true (and_parts (not is_behind) false (and_parts (not is_behind && false) (is_plain true events) plain).0).1)
all_told (text (b ∷ bs) ∷ events) is_behind zero plain few =
    absurd (omega (arith, some_text (b ∷ bs) (omega arith), length-append (escaped (b ∷ bs)) (markup events)))
all_told (text (b ∷ bs) ∷ events) is_behind (suc most) plain few =
    let p = and_parts (not is_behind && nat_lt 0 (length (b ∷ bs))) (is_plain true events) plain in
    text_told (escaped (b ∷ bs)) (b ∷ bs) (markup events) events (suc most) (text_is_clean (b ∷ bs)) (escaped_back (b ∷ bs)) (omega arith) (stops_text events p.1)
    (all_told events true most p.1 (omega (arith, some_text (b ∷ bs) (omega arith), length-append (escaped (b ∷ bs)) (markup events))))

-- ---- the document

behind_first_line : (rest : List ℕ) → behind_declaration (behind_mark (declaration ++ rest)) ≡ Some (10 ∷ rest)
unfolding behind_declaration cut_at
behind_first_line rest = refl

regroup : (a b c d e f g : List ℕ) → (((((a ++ b) ++ c) ++ d) ++ e) ++ f) ++ g ≡ a ++ (b ++ (c ++ (d ++ (e ++ (f ++ g)))))
regroup a b c d e f g = simp append_assoc

closed_text : (root : List ℕ) (inner : List Event) → markup inner ++ event_text (end root) ≡ markup (inner ++ end root ∷ [])
closed_text root inner =
    sym (flat_map-append event_text inner (end root ∷ []) ∙ ap (λ behind. markup inner ++ behind) (append-nil (event_text (end root))))

text_is : (root namespace : List ℕ) (inner : List Event)
    → document_text root namespace inner ≡ declaration ++ (60 ∷ (root ++ (namespace_text namespace ++ 62 ∷ markup (inner ++ end root ∷ []))))
unfolding document_text
text_is root namespace inner =
    regroup declaration (codes "<") root (namespace_text namespace) (codes ">") (markup inner) (event_text (end root))
    ∙ ap (λ behind. declaration ++ (60 ∷ (root ++ (namespace_text namespace ++ 62 ∷ behind)))) (closed_text root inner)

-- events, and the end of what they stand in
closed_plain : (name : List ℕ) (events : List Event) (is_behind : Bool) → is_name name ≡ true → is_plain is_behind events ≡ true
    → is_plain is_behind (events ++ end name ∷ []) ≡ true
closed_plain name [] is_behind is plain = rw is
closed_plain name (begin inner ∷ events) is_behind is plain =
    let p = and_parts (is_name inner) (is_plain false events) plain in
    rw p.0 (closed_plain name events false is p.1)
closed_plain name (text content ∷ events) is_behind is plain =
    let p = and_parts (not is_behind && nat_lt 0 (length content)) (is_plain true events) plain in
    rw p.0 (closed_plain name events true is p.1)
closed_plain name (end inner ∷ events) is_behind is plain =
    let p = and_parts (is_name inner) (is_plain false events) plain in
    rw p.0 (closed_plain name events false is p.1)

-- the line's end in front of the root
line_told : (rest : List ℕ) (more : List Event) (most : ℕ) → told_within most (60 ∷ rest) ≡ Some more
    → told_within (suc most) (10 ∷ 60 ∷ rest) ≡ Some (text (10 ∷ []) ∷ more)
unfolding dereferenced
line_told rest more most behind = text_told (10 ∷ []) (10 ∷ []) (60 ∷ rest) more most refl refl (omega arith) refl behind

root_told : (root namespace rest : List ℕ) (more : List Event) (most : ℕ) → is_name root ≡ true → is_namespace namespace ≡ true → told_within most rest ≡ Some more
    → told_within (suc most) (60 ∷ (root ++ (namespace_text namespace ++ 62 ∷ rest))) ≡ Some (begin root ∷ more)
root_told root namespace rest more most is all behind =
    one_told most 60 (root ++ (namespace_text namespace ++ 62 ∷ rest)) rest (begin root ∷ []) more (told_begin root namespace rest is all) behind

enough : (root namespace rest : List ℕ) → length rest ≤ length (root ++ (namespace_text namespace ++ 62 ∷ rest))
enough root namespace rest =
    omega (arith, length-append root (namespace_text namespace ++ 62 ∷ rest), length-append (namespace_text namespace) (62 ∷ rest))

events_told : (root namespace : List ℕ) (inner : List Event) → is_name root ≡ true → is_namespace namespace ≡ true → is_plain false inner ≡ true
    → events_of (10 ∷ 60 ∷ (root ++ (namespace_text namespace ++ 62 ∷ markup (inner ++ end root ∷ [])))) ≡ Some (text (10 ∷ []) ∷ element root inner)
events_told root namespace inner is all plain =
    let rest = markup (inner ++ end root ∷ []) in
    let behind = root ++ (namespace_text namespace ++ 62 ∷ rest) in
    line_told behind (element root inner) (suc (suc (length behind)))
    (root_told root namespace rest (inner ++ end root ∷ []) (suc (length behind)) is all
    (all_told (inner ++ end root ∷ []) false (length behind) (closed_plain root inner false is plain) (enough root namespace rest)))

pub read_back : DocumentsAreReadBack
unfolding document_of goes_on
read_back root namespace inner is all plain document =
    rw (
      text_is root namespace inner,
      behind_first_line (60 ∷ (root ++ (namespace_text namespace ++ 62 ∷ markup (inner ++ end root ∷ [])))),
      events_told root namespace inner is all plain,
      document,
    )
