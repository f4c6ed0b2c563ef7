-- The parts of a text, each behind an `&`, one after another.
use Rattle.std.proofs.Common.{◌≡◌, ℕ, List, [], ◌∷◌, ◌++◌, refl, ap, ◌∙◌, Option, Some, None, option_map, is_some, codes}
use Rattle.s3_xml.specs.Grammar.{Front, cut_at, referred, resolved, all_resolved, first_and_resolved}
use Rattle.s3_xml.specs.Option.{◌>>=◌}
use Rattle.s3_xml_reader.specs.References.{resolved_at}

abbrev joined : Front → List ℕ
joined front = front.0 ++ front.1

-- the character and the text behind it
pub resolved_is : (part : List ℕ) → resolved part ≡ option_map joined (resolved_at part)
unfolding resolved_at
resolved_is part = cut_cases (cut_at (codes ";") part)
  where
    character_cases : (rest : List ℕ) (character : Option (List ℕ)) → (character >>= λ c. Some (c ++ rest)) ≡ option_map joined (character >>= λ c. Some (c, rest))
    character_cases rest None = refl
    character_cases rest (Some c) = refl

    cut_cases : (cut : Option Front) → (cut >>= λ cut. (referred cut.0 >>= λ c. Some (c ++ cut.1))) ≡ option_map joined (cut >>= λ cut. (referred cut.0 >>= λ c. Some (c, cut.1)))
    cut_cases None = refl
    cut_cases (Some cut) = character_cases cut.1 (referred cut.0)

-- one part: without a reference at its front
pub part_none : (part : List ℕ) (parts : List (List ℕ)) → resolved_at part ≡ None → all_resolved (part ∷ parts) ≡ None
part_none part parts is =
    ap (λ first. first >>= λ first. (all_resolved parts >>= λ rest. Some (first ++ rest))) (resolved_is part ∙ ap (option_map joined) is)

some_more : (first : List ℕ) (rest : Option (List ℕ)) → is_some (rest >>= λ rest. Some (first ++ rest)) ≡ is_some rest
some_more first None = refl
some_more first (Some rest) = refl

-- with one
pub part_some : (part : List ℕ) (parts : List (List ℕ)) (front : Front) → resolved_at part ≡ Some front → is_some (all_resolved (part ∷ parts)) ≡ is_some (all_resolved parts)
part_some part parts front is =
    ap (λ first. is_some (first >>= λ first. (all_resolved parts >>= λ rest. Some (first ++ rest)))) (resolved_is part ∙ ap (option_map joined) is)
    ∙ some_more (joined front) (all_resolved parts)

-- the last one
pub part_last : (part : List ℕ) → is_some (all_resolved (part ∷ [])) ≡ is_some (resolved_at part)
part_last part = ap (λ first. is_some (first >>= λ first. Some (first ++ []))) (resolved_is part) ∙ cases (resolved_at part)
  where
    cases : (front : Option Front) → is_some (option_map joined front >>= λ first. Some (first ++ [])) ≡ is_some front
    cases None = refl
    cases (Some front) = refl

pub ruleset parts = (part_none, part_some, part_last)

-- what stands in front of the first `&` is as it is
pub front_some : (front : List ℕ) (parts : List (List ℕ)) → is_some (first_and_resolved (front ∷ parts)) ≡ is_some (all_resolved parts)
front_some front parts = cases (all_resolved parts)
  where
    cases : (rest : Option (List ℕ)) → is_some (option_map (λ rest. front ++ rest) rest) ≡ is_some rest
    cases None = refl
    cases (Some rest) = refl

pub ruleset first_part = (front_some)
