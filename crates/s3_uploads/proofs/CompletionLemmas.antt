-- The listed parts, joined.
use Rattle.std.proofs.Common.{◌≡◌, sym, ap, ◌∙◌, ◌+◌, ◌≤◌, ◌<◌, ℕ, List, [], ◌∷◌, ◌++◌, length, take, get_or, append-nil, map as each, Some, None, arith}
use Rattle.std.specs.Borrow.{Bor}
use Rattle.std.specs.List.{filter_map, flat_map, cons_option}
use Rattle.std.proofs.lemmas.List.{map-append, take_more, length-append}
use Rattle.std.proofs.lemmas.List.Elements.{filter_map-append}
use Rattle.s3_uploads.specs.declared.part.Part.{Part}
use Rattle.s3_uploads.specs.declared.listed.ListedPart.{ListedPart}
use Rattle.s3_uploads.specs.Parts.{PartList, part_at}
use Rattle.s3_uploads.specs.Completion.{parts_listed}

-- what borrowed parts are
abbrev pub parts_of : {B : Type 0} → List (Bor (Part B)) → List (Part B)
parts_of {B} parts = each (λ (part : Bor (Part B)). part.now) parts

-- their digests, one behind another
abbrev pub digests_of : {B : Type 0} → List (Part B) → List ℕ
digests_of {B} parts = flat_map (λ (part : Part B). part.digest) parts

-- one more of those that are listed
found_more : {B : Type 0} (parts : PartList B) (listed : List ListedPart) (i : ℕ) (part : ListedPart) → i < length listed → part ≡ get_or listed i part
    → parts_listed (take (i + 1) listed) parts ≡ parts_listed (take i listed) parts ++ parts_listed (part ∷ []) parts
found_more parts listed i part within is =
    let h = λ (part : ListedPart). part_at part.number parts in
    ap (filter_map h) (take_more listed i part within)
    ∙ filter_map-append h (take i listed) (get_or listed i part ∷ [])
    ∙ ap (λ p. parts_listed (take i listed) parts ++ parts_listed (p ∷ []) parts) (sym is)

-- it was sent
pub one_found : {B : Type 0} (parts : PartList B) (listed : List ListedPart) (i : ℕ) (part : ListedPart) (before after : List (Bor (Part B))) (p : Bor (Part B))
    → i < length listed → part ≡ get_or listed i part → parts_of before ≡ parts_listed (take i listed) parts → Some p.now ≡ part_at part.number parts → after ≡ before ++ p ∷ []
    → parts_of after ≡ parts_listed (take (i + 1) listed) parts
one_found {B} parts listed i part before after p within is are found added =
    ap parts_of added
    ∙ map-append (λ (part : Bor (Part B)). part.now) before (p ∷ [])
    ∙ ap (λ ps. ps ++ p.now ∷ []) are
    ∙ ap (λ o. parts_listed (take i listed) parts ++ cons_option o []) found
    ∙ sym (found_more parts listed i part within is)

-- or it wasn't
pub none_found : {B : Type 0} (parts : PartList B) (listed : List ListedPart) (i : ℕ) (part : ListedPart) (before after : List (Bor (Part B)))
    → i < length listed → part ≡ get_or listed i part → parts_of before ≡ parts_listed (take i listed) parts → None ≡ part_at part.number parts → after ≡ before
    → parts_of after ≡ parts_listed (take (i + 1) listed) parts
none_found {B} parts listed i part before after within is are none same =
    ap parts_of same ∙ are ∙ sym (append-nil (parts_listed (take i listed) parts))
    ∙ ap (λ o. parts_listed (take i listed) parts ++ cons_option o []) none
    ∙ sym (found_more parts listed i part within is)

-- and they are no more than are listed
pub one_more : {X : Type 0} (before after : List X) (x : X) (i : ℕ) → after ≡ before ++ x ∷ [] → length before ≤ i → length after ≤ i + 1
one_more before after x i is few = let all : length after ≡ length before + 1 = ap length is ∙ length-append before (x ∷ []) in omega arith
