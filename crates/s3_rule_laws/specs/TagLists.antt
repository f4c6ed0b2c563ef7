-- Entity tags that a read names (RFC 9110, sections 8.8.3, 13.1.1 and 13.1.2), for tags of the characters that tags have here.
use Rattle.std.specs.Prelude.{◌≡◌, ◌≢◌, ◌↔◌, ◌⊎◌, ℕ, Bool, IsTrue, if◌then◌else◌, List, [], ◌∷◌, ◌++◌, map as each, codes, Some, Ok, Err, IsOk}
use Rattle.std.specs.List.{All, Contains, list_all}
use Rattle.s3_text.specs.Characters.{comma, double_quote, space}
use Rattle.s3_terms.specs.declared.code.Code.TheVariants.{PreconditionFailed}
use Rattle.s3_names.specs.Tags.{is_tag_character}
use Rattle.s3_conditions.specs.Conditions.{judged}
use Rattle.s3_conditions.specs.Tags.{matches}
use Rattle.s3_conditions.specs.declared.conditions.Conditions.{Conditions}
use Rattle.s3_conditions.specs.declared.conditions.Selection.TheVariants.{Unchanged}

-- a text of the characters that tags have
abbrev pub IsTag : List ℕ → Type 0
IsTag tag = IsTrue (list_all is_tag_character tag)

-- a tag as a reader names it, weak or strong
pub record Named : Type 0 where
  pub weak : Bool
  pub tag : List ℕ

-- as the standard spells it: in quotes, behind `W/` where it is weak
abbrev pub spelled : Named → List ℕ
spelled named = (if named.weak then codes "W/" else []) ++ (double_quote ∷ (named.tag ++ double_quote ∷ []))

-- and several, with a comma and a space between them
abbrev pub spelled_all : Named → List Named → List ℕ
spelled_all first [] = spelled first
spelled_all first (next ∷ rest) = spelled first ++ comma ∷ space ∷ spelled_all next rest

-- their tags
abbrev pub tags_of : List Named → List (List ℕ)
tags_of names = each (λ named. named.tag) names

-- a list matches a version exactly where it names its tag
abbrev pub ListsNameTags : Type 0
ListsNameTags =
    (first : Named) (rest : List Named) (tag : List ℕ) → All IsTag (tags_of (first ∷ rest))
    → IsTrue (matches (spelled_all first rest) tag) ↔ Contains (tags_of (first ∷ rest)) tag

-- `*` matches each version
abbrev pub AnyTagMatches : Type 0
AnyTagMatches = (tag : List ℕ) → IsTrue (matches (codes "*") tag)

-- a line names a tag: it is `*`, or a list with the tag
abbrev pub Names : List ℕ → List ℕ → Type 0
Names line tag =
    (line ≡ codes "*")
    ⊎ ((first : Named) × (rest : List Named) × (line ≡ spelled_all first rest) × All IsTag (tags_of (first ∷ rest)) × Contains (tags_of (first ∷ rest)) tag)

-- a read that names a version's tag in If-Match isn't refused
abbrev pub OwnTagIsMet : Type 0
OwnTagIsMet =
    (asked : Conditions) (line : List ℕ) (moment : ℕ) (tag : List ℕ) (size : ℕ) → asked.if_match ≡ Some line → Names line tag
    → IsOk (judged asked moment tag size)

-- one that names other tags alone is
abbrev pub OtherTagsAreRefused : Type 0
OtherTagsAreRefused =
    (asked : Conditions) (first : Named) (rest : List Named) (moment : ℕ) (tag : List ℕ) (size : ℕ)
    → asked.if_match ≡ Some (spelled_all first rest) → All IsTag (tags_of (first ∷ rest)) → ¬ Contains (tags_of (first ∷ rest)) tag
    → judged asked moment tag size ≡ Err PreconditionFailed

-- one that names it in If-None-Match is answered as unchanged, unless it is refused
abbrev pub OwnTagIsUnchanged : Type 0
OwnTagIsUnchanged =
    (asked : Conditions) (line : List ℕ) (moment : ℕ) (tag : List ℕ) (size : ℕ) → asked.if_none_match ≡ Some line → Names line tag
    → IsOk (judged asked moment tag size) → judged asked moment tag size ≡ Ok Unchanged

-- and one that names other tags alone there never is, whatever If-Modified-Since says
abbrev pub OtherTagsAreShown : Type 0
OtherTagsAreShown =
    (asked : Conditions) (first : Named) (rest : List Named) (moment : ℕ) (tag : List ℕ) (size : ℕ)
    → asked.if_none_match ≡ Some (spelled_all first rest) → All IsTag (tags_of (first ∷ rest)) → ¬ Contains (tags_of (first ∷ rest)) tag
    → judged asked moment tag size ≢ Ok Unchanged
