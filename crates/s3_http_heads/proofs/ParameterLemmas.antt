-- Places in a text stay what they are when it grows.
use Rattle.std.proofs.Common.{◌≡◌, ℕ, ◌+◌, ◌-◌, ◌≤◌, List, [], ◌∷◌, ◌++◌, length, take, drop, map, All, refl, sym, ap, ◌∙◌, arith, append_assoc, slice_range, Bor, true, cond, nat_lt, filter}
use Rattle.std.proofs.lemmas.List.{drop-append-le, take-append-le, length-drop, length-append, drop_at, take_all, map-append, map_push}
use Rattle.std.proofs.lemmas.List.Elements.{filter-append, All-head, All-tail, All-push, All-weaker}
use Rattle.s3_http_heads.specs.declared.parameters.Place.{Place}
use Rattle.s3_http_heads.specs.Target.{pair_of}
use Rattle.s3_http_heads.specs.Parameters.{IsPlaceWithin, place_bytes}

range_grown : (text more : List ℕ) (start end : ℕ) → start ≤ end → end ≤ length text → slice_range (text ++ more) start end ≡ slice_range text start end
range_grown text more start end ordered within =
    ap (take (end - start)) (drop-append-le start text more (omega arith))
    ∙ take-append-le (end - start) (drop start text) more (omega (arith, length-drop start text))

-- what follows a text and goes to its end
range_behind : (text more : List ℕ) (start end : ℕ) → start ≡ length text → end ≡ length (text ++ more) → slice_range (text ++ more) start end ≡ more
range_behind text more start end from to =
    ap (take (end - start)) (drop_at text more start (sym from)) ∙ take_all (end - start) more (omega (arith, length-append text more))

places_grown : (text more : List ℕ) (places : List Place) → All (IsPlaceWithin (length text)) places → map (place_bytes (text ++ more)) places ≡ map (place_bytes text) places
places_grown text more [] within = refl
places_grown text more (place ∷ places) within =
    let here = All-head (IsPlaceWithin (length text)) place places within in
    let rest = places_grown text more places (All-tail (IsPlaceWithin (length text)) place places within) in
    rw (rest, range_grown text more place.start place.middle here.0 (omega (arith, here.1, here.2)), range_grown text more place.middle place.end here.1 here.2) refl

-- one parameter more
pub places_push : (text name value : List ℕ) (places : List Place) (place : Place) → All (IsPlaceWithin (length text)) places → place.start ≡ length text → place.middle ≡ length text + length name → place.end ≡ length (text ++ name ++ value) → record {
  read : map (place_bytes (text ++ name ++ value)) (places ++ place ∷ []) ≡ map (place_bytes text) places ++ (name, value) ∷ [];
  within : All (IsPlaceWithin (length (text ++ name ++ value))) (places ++ place ∷ []);
}
places_push text name value places place within start middle end =
    let longer = length-append (text ++ name) value in
    let front = length-append text name in
    let all = ap (λ t. map (place_bytes t) places) (append_assoc text name value) ∙ places_grown text (name ++ value) places within in
    let called = range_grown (text ++ name) value place.start place.middle (omega arith) (omega arith) ∙ range_behind text name place.start place.middle start (omega arith) in
    let said = range_behind (text ++ name) value place.middle place.end (omega arith) end in
    record {
      read = map-append (place_bytes (text ++ name ++ value)) places (place ∷ []) ∙ rw (all, called, said) refl;
      within = All-push (IsPlaceWithin (length (text ++ name ++ value))) places place (All-weaker (IsPlaceWithin (length text)) (IsPlaceWithin (length (text ++ name ++ value))) (λ p is. (is.0, is.1, omega (arith, is.2))) places within) (omega arith, omega arith, omega arith);
    }

-- one piece more, which is not empty
pub pieces_push : (pieces : List (Bor (List ℕ))) (piece : Bor (List ℕ)) → nat_lt 0 (length piece.now) ≡ true → map pair_of (filter (λ p. nat_lt 0 (length p)) (map (λ s. s.now) (pieces ++ piece ∷ []))) ≡ map pair_of (filter (λ p. nat_lt 0 (length p)) (map (λ s. s.now) pieces)) ++ pair_of piece.now ∷ []
pieces_push pieces piece some =
    let texts = map (λ (s : Bor (List ℕ)). s.now) pieces in
    let kept = filter (λ p. nat_lt 0 (length p)) texts in
    ap (λ t. map pair_of (filter (λ p. nat_lt 0 (length p)) t)) (map_push (λ (s : Bor (List ℕ)). s.now) pieces piece)
    ∙ ap (map pair_of) (filter-append (λ p. nat_lt 0 (length p)) texts (piece.now ∷ []) ∙ ap (λ last. kept ++ cond last (piece.now ∷ []) []) some)
    ∙ map_push pair_of kept piece.now
