-- The text that character data stands for, part by part.
use Rattle.std.proofs.Common.{◌≡◌, ℕ, ◌≤◌, ◌==◌, Bool, true, false, ◌&&◌, List, [], ◌∷◌, ◌++◌, length, drop, refl, sym, ap, ◌∙◌, arith, map, Option, Some, None, option_map, is_some, if◌then◌else◌, codes, ⊎_elim, nat_lt, append-nil}
use Rattle.std.proofs.lemmas.Bool.{cases_Bool, eqb-true, and_parts, or_parts, or_cases, and_right, and_left, false≢true, false_from_ne_true}
use Rattle.std.proofs.lemmas.List.Folds.{list_all-append}
use Rattle.std.proofs.lemmas.Slice.Eq.{bytes_eq-Decides}
use Rattle.std.proofs.lemmas.Bool.Decides.{nat_tests}
use Rattle.std.specs.Char.{is_digit}
use Rattle.std.specs.List.{list_all, list_any}
use Rattle.std.specs.Str.{bytes_eq}
use Rattle.std.specs.Str.Parse.{digits_value}
use Rattle.s3_text.specs.Characters.{ampersand}
use Rattle.s3_text.specs.Cut.{parts_at}
use Rattle.s3_xml.specs.Characters.{is_white}
use Rattle.s3_xml.specs.Grammar.{Front, begins_with, cut_at, number_of, character_of, referred, resolved, all_resolved, first_and_resolved, dereferenced, with_line_feeds}
use Rattle.s3_xml.specs.Option.{◌>>=◌}
use Rattle.s3_xml_reader.specs.References.{resolved_at}
use Rattle.s3_xml_reader.specs.Texts.{text_of, part_text, parts_text, is_white_text}
use Rattle.s3_xml_reader.proofs.PartLemmas.{resolved_is}
use Rattle.s3_xml_reader.proofs.LineLemmas.{is_return, is_break, plain-line_feeds, break_of_return, break-line_feeds, parts-line_feeds, cut-line_feeds, white-line_feeds}

-- a text in which a line ends is none of these words
not_word : (name word : List ℕ) → list_any is_break name ≡ true → list_any is_break word ≡ false → bytes_eq name word ≡ false
not_word name word some none =
    false_from_ne_true (bytes_eq name word) (λ same. false≢true (sym none ∙ sym (ap (list_any is_break) ((bytes_eq-Decides name word).0 same)) ∙ some))

-- and no digits
not_digit : (radix b : ℕ) → radix ≤ 36 → is_break b ≡ true → is_digit b radix ≡ false
not_digit radix b few is =
    ⊎_elim
    (λ feed. ap (λ b. is_digit b radix) (eqb-true b 10 feed) ∙ grind (arith, nat_tests))
    (λ return. ap (λ b. is_digit b radix) (eqb-true b 13 return) ∙ grind (arith, nat_tests))
    (or_cases (b == 10) (b == 13) is)

not_digits : (radix : ℕ) (digits : List ℕ) → radix ≤ 36 → list_any is_break digits ≡ true → list_all (λ d. is_digit d radix) digits ≡ false
not_digits radix [] few some = absurd (false≢true some)
not_digits radix (b ∷ bytes) few some =
    ⊎_elim
    (λ here. and_left _ _ (not_digit radix b few here))
    (λ later. and_right (is_digit b radix) _ (not_digits radix bytes few later))
    (or_cases (is_break b) (list_any is_break bytes) some)

no_number : (radix : ℕ) (digits : List ℕ) → radix ≤ 36 → list_any is_break digits ≡ true → (number_of radix digits >>= character_of) ≡ None
no_number radix digits few some =
    ap (λ all. (if all then Some (digits_value radix digits) else None) >>= character_of) (and_right (nat_lt 0 (length digits)) _ (not_digits radix digits few some))

-- behind a mark in which no line ends
rest_break : (mark name : List ℕ) → begins_with mark name ≡ true → list_any is_break mark ≡ false → list_any is_break name ≡ true → list_any is_break (drop (length mark) name) ≡ true
rest_break [] name is none some = some
rest_break (m ∷ mark) [] is none some = absurd (false≢true is)
rest_break (m ∷ mark) (b ∷ name) is none some =
    let both = and_parts (m == b) (begins_with mark name) is in
    let neither = or_parts (is_break m) (list_any is_break mark) none in
    rest_break mark name both.1 neither.1
    (⊎_elim
    (λ here. absurd (false≢true (sym neither.0 ∙ ap is_break (eqb-true m b both.0) ∙ here)))
    (λ later. later)
    (or_cases (is_break b) (list_any is_break name) some))

no_reference : (hex decimal : Bool) (name : List ℕ) → begins_with (codes "#x") name ≡ hex → begins_with (codes "#") name ≡ decimal → list_any is_break name ≡ true
    → (if hex then (number_of 16 (drop 2 name) >>= character_of) else if decimal then (number_of 10 (drop 1 name) >>= character_of) else None) ≡ None
no_reference true decimal name hex is some = no_number 16 (drop 2 name) (omega arith) (rest_break (codes "#x") name hex refl some)
no_reference false true name hex is some = no_number 10 (drop 1 name) (omega arith) (rest_break (codes "#") name is refl some)
no_reference false false name hex is some = refl

referred_break : (name : List ℕ) → list_any is_break name ≡ true → referred name ≡ None
unfolding referred
referred_break name some =
    rw (not_word name (codes "amp") some refl, not_word name (codes "lt") some refl, not_word name (codes "gt") some refl, not_word name (codes "quot") some refl, not_word name (codes "apos") some refl)
    (no_reference (begins_with (codes "#x") name) (begins_with (codes "#") name) name refl refl some)

-- a reference has no line end in it
pub referred-line_feeds : (name : List ℕ) → referred (with_line_feeds name) ≡ referred name
referred-line_feeds name =
    ⊎_elim
    (λ some. referred_break (with_line_feeds name) (break-line_feeds name some) ∙ sym (referred_break name (break_of_return name some)))
    (λ none. ap referred (plain-line_feeds name none))
    (cases_Bool (list_any is_return name))

-- one part
abbrev with_rest : Option (List ℕ) → List ℕ → Option Front
with_rest character rest = character >>= λ character. Some (character, rest)

abbrev front_text : Option Front → Option (List ℕ)
front_text front = front >>= λ front. Some (front.0 ++ with_line_feeds front.1)

behind_character : (rest : List ℕ) (character : Option (List ℕ)) → (character >>= λ character. Some (character ++ with_line_feeds rest)) ≡ front_text (with_rest character rest)
behind_character rest None = refl
behind_character rest (Some character) = refl

abbrev cut_text : Option Front → Option (List ℕ)
cut_text cut = cut >>= λ cut. (referred cut.0 >>= λ character. Some (character ++ cut.1))

abbrev both_feeds : Front → Front
both_feeds cut = (with_line_feeds cut.0, with_line_feeds cut.1)

each_cut : (cut : Option Front) → cut_text (option_map both_feeds cut) ≡ front_text (cut >>= λ cut. with_rest (referred cut.0) cut.1)
each_cut None = refl
each_cut (Some cut) =
    ap (λ character. character >>= λ character. Some (character ++ with_line_feeds cut.1)) (referred-line_feeds cut.0)
    ∙ behind_character cut.1 (referred cut.0)

resolved_part : (part : List ℕ) → resolved (with_line_feeds part) ≡ part_text part
unfolding part_text resolved_at
resolved_part part = ap cut_text (cut-line_feeds part) ∙ each_cut (cut_at (codes ";") part)

-- and all
resolved_parts : (parts : List (List ℕ)) → all_resolved (map with_line_feeds parts) ≡ parts_text parts
unfolding parts_text
resolved_parts [] = refl
resolved_parts (part ∷ parts) =
    ap (λ first. first >>= λ first. (all_resolved (map with_line_feeds parts) >>= λ rest. Some (first ++ rest))) (resolved_part part)
    ∙ ap (λ more. part_text part >>= λ first. (more >>= λ rest. Some (first ++ rest))) (resolved_parts parts)

abbrev first_text : List (List ℕ) → Option (List ℕ)
first_text [] = Some []
first_text (front ∷ parts) = option_map (λ rest. with_line_feeds front ++ rest) (parts_text parts)

text_parts : (raw : List ℕ) → text_of raw ≡ first_text (parts_at ampersand raw)
unfolding text_of dereferenced
text_parts raw = ap first_and_resolved (parts-line_feeds raw) ∙ each (parts_at ampersand raw)
  where
    each : (parts : List (List ℕ)) → first_and_resolved (map with_line_feeds parts) ≡ first_text parts
    each [] = refl
    each (front ∷ parts) = ap (option_map (λ rest. with_line_feeds front ++ rest)) (resolved_parts parts)

-- a text behind which parts stand, and one that is alone
pub text_first : (raw front : List ℕ) (parts : List (List ℕ)) → parts_at ampersand raw ≡ front ∷ parts → text_of raw ≡ option_map (λ rest. with_line_feeds front ++ rest) (parts_text parts)
text_first raw front parts is = text_parts raw ∙ ap first_text is

pub text_alone : (raw : List ℕ) → parts_at ampersand raw ≡ raw ∷ [] → text_of raw ≡ Some (with_line_feeds raw)
unfolding parts_text
text_alone raw is = text_parts raw ∙ ap first_text is ∙ ap Some (append-nil (with_line_feeds raw))

-- white space in a part
white_part : (part character rest : List ℕ) → resolved_at part ≡ Some (character, rest) → is_white_text (part_text part) ≡ (list_all is_white character && list_all is_white rest)
unfolding part_text
white_part part character rest is =
    ap (λ front. is_white_text (front_text front)) is
    ∙ list_all-append is_white character (with_line_feeds rest)
    ∙ ap (λ all. list_all is_white character && all) (white-line_feeds rest)

pub white_part_is : (part character rest : List ℕ) → resolved_at part ≡ Some (character, rest) → list_all is_white character ≡ true → is_white_text (part_text part) ≡ list_all is_white rest
white_part_is part character rest is white = white_part part character rest is ∙ ap (λ first. first && list_all is_white rest) white

pub white_part_not : (part character rest : List ℕ) → resolved_at part ≡ Some (character, rest) → list_all is_white character ≡ false → is_white_text (part_text part) ≡ false
white_part_not part character rest is white = white_part part character rest is ∙ ap (λ first. first && list_all is_white rest) white

pub white_no_part : (part : List ℕ) → resolved_at part ≡ None → is_white_text (part_text part) ≡ false
unfolding part_text
white_no_part part is = ap (λ front. is_white_text (front_text front)) is

pub ruleset white_part_rules = (white_part_is, white_part_not, white_no_part)

-- in several
white_both : (first rest : Option (List ℕ)) → is_white_text (first >>= λ first. (rest >>= λ rest. Some (first ++ rest))) ≡ (is_white_text first && is_white_text rest)
white_both None rest = refl
white_both (Some first) None = sym (and_right (list_all is_white first) false refl)
white_both (Some first) (Some rest) = list_all-append is_white first rest

white_parts : (part : List ℕ) (parts : List (List ℕ)) → is_white_text (parts_text (part ∷ parts)) ≡ (is_white_text (part_text part) && is_white_text (parts_text parts))
unfolding parts_text
white_parts part parts = white_both (part_text part) (parts_text parts)

pub white_more : (part : List ℕ) (parts : List (List ℕ)) → is_white_text (part_text part) ≡ true → is_white_text (parts_text (part ∷ parts)) ≡ is_white_text (parts_text parts)
white_more part parts is = white_parts part parts ∙ ap (λ first. first && is_white_text (parts_text parts)) is

pub white_no_more : (part : List ℕ) (parts : List (List ℕ)) → is_white_text (part_text part) ≡ false → is_white_text (parts_text (part ∷ parts)) ≡ false
white_no_more part parts is = white_parts part parts ∙ ap (λ first. first && is_white_text (parts_text parts)) is

pub white_last : (part : List ℕ) → is_white_text (parts_text (part ∷ [])) ≡ is_white_text (part_text part)
unfolding parts_text
white_last part = white_both (part_text part) (Some []) ∙ and_true (is_white_text (part_text part))
  where
    and_true : (so : Bool) → (so && true) ≡ so
    and_true true = refl
    and_true false = refl

pub ruleset white_parts_rules = (white_more, white_no_more, white_last)

-- and in a whole text
white_first : (raw front : List ℕ) (parts : List (List ℕ)) → parts_at ampersand raw ≡ front ∷ parts → is_white_text (text_of raw) ≡ (list_all is_white front && is_white_text (parts_text parts))
white_first raw front parts is = ap is_white_text (text_first raw front parts is) ∙ behind_front (parts_text parts)
  where
    behind_front : (rest : Option (List ℕ)) → is_white_text (option_map (λ rest. with_line_feeds front ++ rest) rest) ≡ (list_all is_white front && is_white_text rest)
    behind_front None = sym (and_right (list_all is_white front) false refl)
    behind_front (Some rest) =
        list_all-append is_white (with_line_feeds front) rest ∙ ap (λ all. all && list_all is_white rest) (white-line_feeds front)

pub white_first_is : (raw front : List ℕ) (parts : List (List ℕ)) → parts_at ampersand raw ≡ front ∷ parts → list_all is_white front ≡ true → is_white_text (text_of raw) ≡ is_white_text (parts_text parts)
white_first_is raw front parts is white = white_first raw front parts is ∙ ap (λ first. first && is_white_text (parts_text parts)) white

pub white_first_not : (raw front : List ℕ) (parts : List (List ℕ)) → parts_at ampersand raw ≡ front ∷ parts → list_all is_white front ≡ false → is_white_text (text_of raw) ≡ false
white_first_not raw front parts is white = white_first raw front parts is ∙ ap (λ first. first && is_white_text (parts_text parts)) white

pub white_alone : (raw : List ℕ) → parts_at ampersand raw ≡ raw ∷ [] → is_white_text (text_of raw) ≡ list_all is_white raw
white_alone raw is = ap is_white_text (text_alone raw is) ∙ white-line_feeds raw

pub ruleset white_text_rules = (white_first_is, white_first_not, white_alone)

-- a text is one in every spelling of its line ends
some_both : (first rest : Option (List ℕ)) → is_some (first >>= λ first. (rest >>= λ rest. Some (first ++ rest))) ≡ (is_some first && is_some rest)
some_both None rest = refl
some_both (Some first) None = refl
some_both (Some first) (Some rest) = refl

some_front : (front : Option Front) → is_some (front_text front) ≡ is_some (option_map (λ front. front.0 ++ front.1) front)
some_front None = refl
some_front (Some front) = refl

some_part : (part : List ℕ) → is_some (part_text part) ≡ is_some (resolved part)
unfolding part_text
some_part part = some_front (resolved_at part) ∙ sym (ap is_some (resolved_is part))

some_parts : (parts : List (List ℕ)) → is_some (parts_text parts) ≡ is_some (all_resolved parts)
unfolding parts_text
some_parts [] = refl
some_parts (part ∷ parts) =
    some_both (part_text part) (parts_text parts)
    ∙ ap (λ first. first && is_some (parts_text parts)) (some_part part)
    ∙ ap (λ rest. is_some (resolved part) && rest) (some_parts parts)
    ∙ sym (some_both (resolved part) (all_resolved parts))

some_behind : (front : List ℕ) (rest : Option (List ℕ)) → is_some (option_map (λ rest. front ++ rest) rest) ≡ is_some rest
some_behind front None = refl
some_behind front (Some rest) = refl

some_first : (parts : List (List ℕ)) → is_some (first_text parts) ≡ is_some (first_and_resolved parts)
some_first [] = refl
some_first (front ∷ parts) =
    some_behind (with_line_feeds front) (parts_text parts) ∙ some_parts parts ∙ sym (some_behind front (all_resolved parts))

pub some_text : (raw : List ℕ) → is_some (text_of raw) ≡ is_some (dereferenced raw)
unfolding dereferenced
some_text raw = ap is_some (text_parts raw) ∙ some_first (parts_at ampersand raw)
