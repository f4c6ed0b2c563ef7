-- What is printed in XML step by step, one behind another, and the room that it takes.
use Rattle.std.proofs.Common.{◌≡◌, sym, ap, ◌∙◌, arith, ℕ, ◌+◌, ◌≤◌, ◌<◌, List, ◌++◌, append_assoc, length, length-append, Result, Ok, Err, OnOk}
use Rattle.s3_xml.specs.Events.{Event}
use Rattle.s3_xml.specs.Printed.{markup}
use Rattle.s3_xml.specs.Writer.{TakesRoom}
use Rattle.s3_documents.proofs.XmlLemmas.{markup_append}

module _ (xs ys : List Event) where
  whole : length (markup (xs ++ ys)) ≡ length (markup xs) + length (markup ys)
  whole = ap length (markup_append xs ys) ∙ length-append (markup xs) (markup ys)

  -- the first step lacks room
  pub lacks : (old : ℕ) → old < length (markup xs) → old < length (markup (xs ++ ys))
  lacks old lack = omega (arith, whole)

  -- those behind it lack room
  pub then_lacks : (old mid : ℕ) → old ≤ mid + length (markup xs) → mid < length (markup ys) → old < length (markup (xs ++ ys))
  then_lacks old mid first lack = omega (arith, whole)

  -- two steps print both
  pub both_told : (old mid new : List ℕ) → mid ≡ old ++ markup xs → new ≡ mid ++ markup ys → new ≡ old ++ markup (xs ++ ys)
  both_told old mid new first last =
      last ∙ ap (λ (bytes : List ℕ). bytes ++ markup ys) first ∙ append_assoc old (markup xs) (markup ys) ∙ ap (λ (bytes : List ℕ). old ++ bytes) (sym (markup_append xs ys))

  -- and take the room of both
  pub both_room : (old mid new : ℕ) → old ≤ mid + length (markup xs) → mid ≤ new + length (markup ys) → old ≤ new + length (markup (xs ++ ys))
  both_room old mid new first last = omega (arith, whole)

  -- where the last one is done, all is printed
  pub then_told : {A E : Type 0} (r : Result A E) (old mid new : List ℕ) → mid ≡ old ++ markup xs → OnOk r (new ≡ mid ++ markup ys) → OnOk r (new ≡ old ++ markup (xs ++ ys))
  then_told (Ok a) old mid new first last = both_told old mid new first last
  then_told (Err e) old mid new first last = tt

  -- and took its room
  pub then_room : {E : Type 0} (r : Result (Unit {0}) E) (old mid new : ℕ) → old ≤ mid + length (markup xs) → TakesRoom r mid new ys → TakesRoom r old new (xs ++ ys)
  then_room (Ok a) old mid new first last = omega (arith, whole)
  then_room (Err e) old mid new first last = omega (arith, whole)
