-- A text that grows.
use Rattle.std.proofs.Common.{◌≡◌, ℕ, suc, ◌+◌, ◌<◌, ◌≤◌, ◌==◌, Bool, true, false, ◌&&◌, List, [], ◌∷◌, ◌++◌, length, take, drop, refl, sym, ap, ◌∙◌, arith, get_or, add-one, drop-cons, append_assoc, append-nil, Option, Some, None, option_map, if◌then◌else◌, length-take}
use Rattle.std.proofs.Math.Seq.{take-append_seam}
use Rattle.std.proofs.lemmas.Bool.{and_parts, eqb-true}
use Rattle.std.proofs.lemmas.List.{take-take, take_all, drop_all}
use Rattle.s3_text.specs.Characters.{ampersand}
use Rattle.s3_text.specs.Cut.{parts_at}
use Rattle.s3_xml.specs.Grammar.{with_line_feeds}
use Rattle.s3_xml.specs.Option.{◌>>=◌}
use Rattle.s3_xml_reader.specs.References.{resolved_at}
use Rattle.s3_xml_reader.specs.Texts.{feed_of, appended, part_text, parts_text, text_of}
use Rattle.s3_xml_reader.proofs.TextLemmas.{text_first, text_alone}
use Rattle.s3_xml_reader.proofs.LineLemmas.{as_feed, feeds_behind, feeds_are, kept_first, dropped_first, plain-line_feeds}

-- a text begins as it did, if it did so before
pub begins_first : (text : List ℕ) → take (length text) text ≡ text
begins_first text = take_all (length text) text (omega arith)

pub begins_append : (text more : List ℕ) → take (length text) (text ++ more) ≡ text
begins_append text more = take-append_seam text more

pub begins_still : (first text more : List ℕ) → take (length first) text ≡ first → take (length text) more ≡ text → take (length first) more ≡ first
begins_still first text more before after =
    let shorter : length first ≤ length text = omega (arith, ap length before, length-take (length first) text) in
    sym (take-take (length first) (length text) more shorter) ∙ ap (take (length first)) after ∙ before

pub ruleset begins = (begins_first, begins_append, begins_still)

one_feed : (behind : Bool) (b : ℕ) (bytes : List ℕ) (dropped : Bool) → (behind && b == 10) ≡ dropped → feeds_behind behind (b ∷ bytes) ≡ feed_of behind b ++ feeds_behind (b == 13) bytes
one_feed behind b bytes true is =
    dropped_first behind b bytes is
    ∙ ap (λ b. feeds_behind (b == 13) bytes) (sym (eqb-true b 10 (and_parts behind (b == 10) is).1))
    ∙ sym (ap (λ dropped. (if dropped then [] else as_feed b ∷ []) ++ feeds_behind (b == 13) bytes) is)
one_feed behind b bytes false is =
    kept_first behind b bytes is
    ∙ sym (ap (λ dropped. (if dropped then [] else as_feed b ∷ []) ++ feeds_behind (b == 13) bytes) is)

-- before the first byte, with one more, and behind the last one
pub feeds_first : (text raw : List ℕ) → text ++ feeds_behind false raw ≡ text ++ with_line_feeds raw
feeds_first text raw = ap (λ feeds. text ++ feeds) (sym (feeds_are raw))

pub feeds_more : (text more raw : List ℕ) (at : ℕ) (behind : Bool) → at < length raw → more ≡ text ++ feed_of behind (get_or raw at 0)
    → more ++ feeds_behind (get_or raw at 0 == 13) (drop (at + 1) raw) ≡ text ++ feeds_behind behind (drop at raw)
feeds_more text more raw at behind within is =
    let b = get_or raw at 0 in
    let rest = drop (suc at) raw in
    rw (add-one, drop-cons raw at 0)
    (ap (λ more. more ++ feeds_behind (b == 13) rest) is
    ∙ append_assoc text (feed_of behind b) (feeds_behind (b == 13) rest)
    ∙ ap (λ feeds. text ++ feeds) (sym (one_feed behind b rest (behind && b == 10) refl)))

pub feeds_end : (text raw : List ℕ) (at : ℕ) (behind : Bool) → length raw ≤ at → text ++ feeds_behind behind (drop at raw) ≡ text
feeds_end text raw at behind past = rw (drop_all at raw past) (append-nil text)

pub ruleset feeds = (begins, feeds_first, feeds_more, feeds_end)

pub ruleset lines = (begins, plain-line_feeds)

-- a character, and a text behind it
pub append_twice : (text more all first rest : List ℕ) → more ≡ text ++ first → all ≡ more ++ rest → all ≡ text ++ (first ++ rest)
append_twice text more all first rest is more_is = more_is ∙ ap (λ more. more ++ rest) is ∙ append_assoc text first rest

pub ruleset both = (begins, append_twice)

-- what one part stands for
pub part_appended : (text part character rest : List ℕ) → resolved_at part ≡ Some (character, rest) → appended text (part_text part) ≡ Some (text ++ (character ++ with_line_feeds rest))
unfolding part_text
part_appended text part character rest is =
    ap (λ front. appended text (front >>= λ front. Some (front.0 ++ with_line_feeds front.1))) is

pub part_nothing : (part : List ℕ) → resolved_at part ≡ None → part_text part ≡ None
unfolding part_text
part_nothing part is = ap (λ front. front >>= λ front. Some (front.0 ++ with_line_feeds front.1)) is

pub ruleset one_part = (begins, part_appended, part_nothing)

-- and several
then_appended : (text more : List ℕ) (first rest : Option (List ℕ)) → appended text first ≡ Some more → appended text (first >>= λ first. (rest >>= λ rest. Some (first ++ rest))) ≡ appended more rest
then_appended text more None rest is = absurd (cc)
then_appended text more (Some first) None is = refl
then_appended text more (Some first) (Some rest) is =
    let same : text ++ first ≡ more = cc in
    sym (ap Some (ap (λ more. more ++ rest) (sym same) ∙ append_assoc text first rest))

pub parts_more : (text more part : List ℕ) (parts : List (List ℕ)) → appended text (part_text part) ≡ Some more → appended more (parts_text parts) ≡ appended text (parts_text (part ∷ parts))
unfolding parts_text
parts_more text more part parts is = sym (then_appended text more (part_text part) (parts_text parts) is)

pub parts_nothing : (part : List ℕ) (parts : List (List ℕ)) → part_text part ≡ None → parts_text (part ∷ parts) ≡ None
unfolding parts_text
parts_nothing part parts is = ap (λ first. first >>= λ first. (parts_text parts >>= λ rest. Some (first ++ rest))) is

pub parts_last : (part : List ℕ) → parts_text (part ∷ []) ≡ part_text part
unfolding parts_text
parts_last part = last (part_text part)
  where
    last : (first : Option (List ℕ)) → (first >>= λ first. Some (first ++ [])) ≡ first
    last None = refl
    last (Some first) = ap Some (append-nil first)

pub none_appended : (text more : List ℕ) (rest all : Option (List ℕ)) → appended more rest ≡ appended text all → rest ≡ None → all ≡ None
none_appended text more rest None same is = refl
none_appended text more rest (Some all) same is = absurd (cc)

pub ruleset parts = (begins, parts_more, parts_nothing, parts_last, none_appended)

-- and a text in front of them, or one alone
front_appended : (text more front : List ℕ) (rest : Option (List ℕ)) → more ≡ text ++ front → appended text (option_map (λ rest. front ++ rest) rest) ≡ appended more rest
front_appended text more front None is = refl
front_appended text more front (Some rest) is = sym (ap Some (ap (λ more. more ++ rest) is ∙ append_assoc text front rest))

pub pieces_more : (text more raw front : List ℕ) (parts : List (List ℕ)) → parts_at ampersand raw ≡ front ∷ parts → more ≡ text ++ with_line_feeds front → appended more (parts_text parts) ≡ appended text (text_of raw)
pieces_more text more raw front parts is front_is =
    sym (ap (appended text) (text_first raw front parts is) ∙ front_appended text more (with_line_feeds front) (parts_text parts) front_is)

pub pieces_nothing : (raw front : List ℕ) (parts : List (List ℕ)) → parts_at ampersand raw ≡ front ∷ parts → parts_text parts ≡ None → text_of raw ≡ None
pieces_nothing raw front parts is none =
    text_first raw front parts is ∙ ap (option_map (λ rest. with_line_feeds front ++ rest)) none

pub pieces_alone : (text raw : List ℕ) → parts_at ampersand raw ≡ raw ∷ [] → appended text (text_of raw) ≡ Some (text ++ with_line_feeds raw)
pieces_alone text raw is = ap (appended text) (text_alone raw is)

pub ruleset pieces = (begins, pieces_more, pieces_nothing, pieces_alone)
