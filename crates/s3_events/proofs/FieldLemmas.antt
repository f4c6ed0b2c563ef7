-- Fields that spell bytes.
use Rattle.std.proofs.Common.{◌≡◌, ◌<◌, ℕ, ◌%◌, Bool, true, false, ◌&&◌, ◌==◌, List, [], ◌∷◌, length, refl, sym, ◌∙◌, ap, arith, Option, Some, None, is_some, Result, Ok, Err, if◌then◌else◌}
use Rattle.std.specs.Prelude.{nat_le, codes, bytes_eq, option_map}
use Rattle.std.specs.List.{list_all, filter_map, cons_option}
use Rattle.std.proofs.lemmas.Bool.{and_parts}
use Rattle.std.proofs.lemmas.List.Splits.{length-slice_split}
use Rattle.std.specs.Result.{result_ok}
use Rattle.std.proofs.lemmas.Bool.Decides.{nat_tests}
use Rattle.std.proofs.lemmas.List.Sums.{AllPass-from_list_all, list_all-from_AllPass}
use Rattle.hex.specs.Hex.{decode_of, is_hex_digit}
use Rattle.hex.specs.declared.error.FromHexError.{FromHexError}
use Rattle.hex.proofs.HexLemmas.{decode_of-ok, decode_of-digits}
use Rattle.s3_text.specs.Cut.{parts_at}
use Rattle.s3_events.specs.Lines.{Said, TheMoments, TheEnd, ATurn, moment_of, moments_of, bytes_of, alone, said_by}

-- digits decode where their number is even and each is one
decodes : (digits : List ℕ) (r : Result (List ℕ) FromHexError) → decode_of digits ≡ r → length digits % 2 ≡ 0 → list_all is_hex_digit digits ≡ true → is_some (result_ok r) ≡ true
decodes digits (Ok bytes) is even all = refl
decodes digits (Err e) is even all =
    let found = decode_of-digits digits even (AllPass-from_list_all is_hex_digit digits all) in
    absurd (cc (sym is ∙ found.1))

refuses : (digits : List ℕ) (r : Result (List ℕ) FromHexError) → decode_of digits ≡ r → ((length digits % 2 ≡ 0) → list_all is_hex_digit digits ≡ true → ⊥) → is_some (result_ok r) ≡ false
refuses digits (Err e) is never = refl
refuses digits (Ok bytes) is never =
    let told = decode_of-ok digits bytes is in
    absurd (never told.0 (list_all-from_AllPass is_hex_digit digits told.1))

-- a single field spells bytes where it has digits alone, an even number of them, and at least one
spelled : (digits : List ℕ) (empty : Bool) → (length digits == 0) ≡ empty → is_some (if empty then None else result_ok (decode_of digits)) ≡ is_some (bytes_of (digits ∷ []))
spelled digits empty is = ap (λ (b : Bool). is_some (if b then None else result_ok (decode_of digits))) (sym is)

pub empty_spells_none : (digits : List ℕ) → (length digits == 0) ≡ true → is_some (bytes_of (digits ∷ [])) ≡ false
empty_spells_none digits is = sym (spelled digits true is)

pub odd_spells_none : (digits : List ℕ) → (length digits == 0) ≡ false → (length digits % 2 ≡ 0 → ⊥) → is_some (bytes_of (digits ∷ [])) ≡ false
odd_spells_none digits is odd = sym (spelled digits false is) ∙ refuses digits (decode_of digits) refl (λ even all. odd even)

pub digits_spell : (digits : List ℕ) (all : Bool) → (length digits == 0) ≡ false → length digits % 2 ≡ 0 → list_all is_hex_digit digits ≡ all → is_some (bytes_of (digits ∷ [])) ≡ all
digits_spell digits true is even all = sym (spelled digits false is) ∙ decodes digits (decode_of digits) refl even all
digits_spell digits false is even all = sym (spelled digits false is) ∙ refuses digits (decode_of digits) refl (λ e every. cc (sym every ∙ all))

-- two fields and more spell none
several : (first : List ℕ) (others fields : List (List ℕ)) → fields ≡ first ∷ others → 0 < length others → bytes_of fields ≡ None
several first [] fields is some = absurd (omega arith)
several first (second ∷ others) fields is some = ap bytes_of is

pub several_spell_none : (text first rest : List ℕ) → parts_at 32 text ≡ first ∷ parts_at 32 rest → bytes_of (parts_at 32 text) ≡ None
several_spell_none text first rest is =
    several first (parts_at 32 rest) (parts_at 32 text) is (omega (arith, length-slice_split (λ b. b == 32) rest))

-- no field but one spells bytes, and that one where it does by itself
unspelled : (found : Option (List ℕ)) → is_some found ≡ false → found ≡ None
unspelled None is = refl
unspelled (Some bytes) is = absurd cc

pub one_spells_none : (text : List ℕ) → parts_at 32 text ≡ text ∷ [] → is_some (bytes_of (text ∷ [])) ≡ false → bytes_of (parts_at 32 text) ≡ None
one_spells_none text is none = ap bytes_of is ∙ unspelled (bytes_of (text ∷ [])) none

-- fields that each name a moment name moments, at least one
pub moments_named : (c : ℕ) (text : List ℕ) → list_all (λ field. is_some (moment_of field)) (parts_at 32 text) ≡ true → is_some (option_map (TheMoments c) (moments_of (parts_at 32 text))) ≡ true
moments_named c text all =
    let some : nat_le 1 (length (parts_at 32 text)) ≡ true = grind (arith, nat_tests, length-slice_split (λ b. b == 32) text) in
    rw (some, all) refl

-- a text has a field
alone_no_more : (said : Said) (fields : List (List ℕ)) → 0 < length fields → alone said fields ≡ None
alone_no_more said [] some = absurd (omega arith)
alone_no_more said (field ∷ fields) some = refl

no_word : (is_end is_turn : Bool) (a b : Option Said) → a ≡ None → b ≡ None → (if is_end then a else if is_turn then b else None) ≡ None
no_word true is_turn a b x y = x
no_word false true a b x y = y
no_word false false a b x y = refl

pub no_longer_line : (word : List ℕ) (c : ℕ) (text : List ℕ) → bytes_eq word (codes "moments") ≡ false → bytes_eq word (codes "piece") ≡ false → said_by word c (parts_at 32 text) ≡ None
no_longer_line word c text x y =
    let some : 0 < length (parts_at 32 text) = omega (arith, length-slice_split (λ b. b == 32) text) in
    rw (x, y) (no_word (bytes_eq word (codes "end")) (bytes_eq word (codes "turn")) _ _ (alone_no_more (TheEnd c) (parts_at 32 text) some) (alone_no_more (ATurn c) (parts_at 32 text) some))

-- what moments are said
conditional : (b : Bool) (these moments : List ℕ) → (if b then Some these else None) ≡ Some moments → (b ≡ true) × (moments ≡ these)
conditional true these moments is = (refl, cc)
conditional false these moments is = absurd cc

kept_first : (found : Option ℕ) (others : List ℕ) → is_some found ≡ true → 0 < length (cons_option found others)
kept_first None others is = absurd cc
kept_first (Some moment) others is = omega arith

some_kept : (fields : List (List ℕ)) → nat_le 1 (length fields) ≡ true → list_all (λ field. is_some (moment_of field)) fields ≡ true → 0 < length (filter_map moment_of fields)
some_kept [] some all = absurd (grind (arith, nat_tests))
some_kept (field ∷ fields) some all = kept_first (moment_of field) (filter_map moment_of fields) (and_parts (is_some (moment_of field)) (list_all (λ f. is_some (moment_of f)) fields) all).0

pub moments_told : (fields : List (List ℕ)) (moments : List ℕ) → moments_of fields ≡ Some moments → (moments ≡ filter_map moment_of fields) × (0 < length moments)
moments_told fields moments is =
    let told = conditional (nat_le 1 (length fields) && list_all (λ field. is_some (moment_of field)) fields) (filter_map moment_of fields) moments is in
    let both = and_parts (nat_le 1 (length fields)) (list_all (λ field. is_some (moment_of field)) fields) told.0 in
    (told.1, rw told.1 (some_kept fields both.0 both.1))

pub ruleset spelling = (empty_spells_none, odd_spells_none, digits_spell)

pub ruleset lines = (several_spell_none, one_spells_none, moments_named, no_longer_line)
