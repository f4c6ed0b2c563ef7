-- The parts that a completion lists.
use Rattle.std.proofs.Common.{◌≡◌, sym, ap, ◌∙◌, ℕ, ◌+◌, ◌<◌, List, [], ◌∷◌, ◌++◌, length, take, get_or, map, Option}
use Rattle.std.specs.List.{filter_map, cons_option}
use Rattle.std.proofs.lemmas.List.{map-append, take_more}
use Rattle.std.proofs.lemmas.List.Elements.{filter_map-append}
use Rattle.json.specs.declared.value.Value.{Value}
use Rattle.s3_uploads.specs.declared.listed.ListedPart.{ListedPart}
use Rattle.s3_request_documents.specs.Completion.{listed_in}
use Rattle.s3_request_documents.specs.Data.{seen}

-- one more of those that are listed
more : {A : Type 0} → (parts : List (Value A)) (i : ℕ) (part : Value A) → i < length parts → part ≡ get_or parts i part
    → filter_map listed_in (map seen (take (i + 1) parts)) ≡ filter_map listed_in (map seen (take i parts)) ++ filter_map listed_in (seen part ∷ [])
more parts i part within is =
    ap (λ ps. filter_map listed_in (map seen ps)) (take_more parts i part within)
    ∙ ap (filter_map listed_in) (map-append seen (take i parts) (get_or parts i part ∷ []))
    ∙ filter_map-append listed_in (map seen (take i parts)) (seen (get_or parts i part) ∷ [])
    ∙ ap (λ p. filter_map listed_in (map seen (take i parts)) ++ filter_map listed_in (seen p ∷ [])) (sym is)

pub one_more : {A : Type 0} → (parts : List (Value A)) (i : ℕ) (part : Value A) (before after : List ListedPart) (found : Option ListedPart) → i < length parts → part ≡ get_or parts i part
    → before ≡ filter_map listed_in (map seen (take i parts)) → found ≡ listed_in (seen part) → after ≡ before ++ cons_option found []
    → after ≡ filter_map listed_in (map seen (take (i + 1) parts))
one_more parts i part before after found within is are found_is added =
    added ∙ ap (λ ps. ps ++ cons_option found []) are
    ∙ ap (λ o. filter_map listed_in (map seen (take i parts)) ++ cons_option o []) found_is
    ∙ sym (more parts i part within is)
