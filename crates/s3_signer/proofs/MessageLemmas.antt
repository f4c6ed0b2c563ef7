-- A message that is read back says what was asked, or it does not.
use Rattle.std.proofs.Common.{◌≡◌, ◌↔◌, ℕ, ◌+◌, ◌-◌, ◌<◌, ◌≤◌, Bool, true, eqb, List, [], ◌∷◌, ◌++◌, map, length, take, drop, get_or, Option, Some, None, append-nil, length-drop, sym, ap, ap₂, ◌∙◌, arith}
use Rattle.std.specs.Prelude.{slice_get}
use Rattle.std.specs.Option.{option_eq}
use Rattle.std.specs.Str.{bytes_eq}
use Rattle.std.proofs.lemmas.Bool.{eqb-true, false≢true}
use Rattle.std.proofs.lemmas.List.{drop_at, get_or-map, length-map, take-append-drop, take_all, take_at, take_more_same}
use Rattle.std.proofs.lemmas.Option.{get_or_from_slice_get, same_Some}
use Rattle.std.proofs.lemmas.Simd.{map-map}
use Rattle.std.proofs.lemmas.Slice.Eq.{bytes_eq-Decides}
use Rattle.httparse.specs.Grammar.{trim_ows}
use Rattle.httparse.specs.Spans.{name_and_value}
use Rattle.s3_http_heads.specs.declared.find.Found.TheVariants.{Head}
use Rattle.s3_http_heads.specs.Message.{IsMessage}
use Rattle.s3_http_heads.specs.Head.{HeadParts}
use Rattle.s3_http_heads.specs.Find.{found_in, skip_pairs}
use Rattle.s3_signer.specs.declared.line.Line.{Line}
use Rattle.s3_signer.specs.Line.{pair, pairs}
use Rattle.s3_signer.specs.Request.{field_of}

-- a line as a reader has it
abbrev pub said : Line → List ℕ × List ℕ
said line = name_and_value (field_of (pair line))

pub said-map : (lines : List Line) → map said lines ≡ map name_and_value (map field_of (pairs lines))
said-map lines = sym (ap (map name_and_value) (map-map field_of pair lines) ∙ map-map name_and_value (λ l. field_of (pair l)) lines)

-- the value that is written behind a space is read as it is without one
pub same_line : (name sent value raw : List ℕ) (b : Bool) → name ≡ sent → b ≡ bytes_eq value (trim_ows raw) → (b ≡ true) ↔ (◌≡◌ {A = List ℕ × List ℕ} (name, value) (sent, trim_ows (32 ∷ raw)))
unfolding trim_ows
same_line name sent value raw b same is =
    let decides = bytes_eq-Decides value (trim_ows raw) in
    (λ yes. ap₂ (λ n v. (n, v)) same (decides.0 (sym is ∙ yes)), λ both. is ∙ decides.1 (ap (λ (p : List ℕ × List ℕ). p.1) both))

-- the first of one value
pub only_value : (values : List (List ℕ)) (first value : List ℕ) (b : Bool) → Some first ≡ slice_get values 0 → length values ≡ 1 → b ≡ bytes_eq first value → (b ≡ true) ↔ (values ≡ value ∷ [])
only_value [] first value b found one is = absurd (omega arith)
only_value (v ∷ w ∷ values) first value b found one is = absurd (omega arith)
only_value (v ∷ []) first value b found one is =
    let same : first ≡ v = same_Some first v found in
    let decides = bytes_eq-Decides first value in
    (λ yes. ap (λ u. u ∷ []) (sym same ∙ decides.0 (sym is ∙ yes)), λ all. is ∙ decides.1 (same ∙ cc))

module _ {X Y : Type 0} (f : X → Y) where
  -- one more element that is the same
  pub one_more : (ys : List Y) (xs : List X) (i : ℕ) (x : X) (y : Y) → length ys ≡ length xs → i < length xs → x ≡ get_or xs i x → slice_get ys i ≡ Some y → y ≡ f x → take i ys ≡ take i (map f xs) → take (i + 1) ys ≡ take (i + 1) (map f xs)
  one_more ys xs i x y many within is read same before =
      take_more_same ys (map f xs) i y (omega arith) (omega (arith, length-map xs f)) before
      (get_or_from_slice_get ys i y y read ∙ same ∙ ap f is ∙ sym (get_or-map f xs i x y within))

  -- where all are, so is each
  pub each_same : (ys : List Y) (xs : List X) (i : ℕ) (x : X) (y : Y) → i < length xs → x ≡ get_or xs i x → slice_get ys i ≡ Some y → ys ≡ map f xs → y ≡ f x
  each_same ys xs i x y within is read all =
      sym (get_or_from_slice_get ys i y y read) ∙ ap (λ zs. get_or zs i y) all ∙ get_or-map f xs i x y within ∙ sym (ap f is)

  -- where as many are the same as there are, all are
  pub all_same : (ys : List Y) (xs : List X) (n : ℕ) → length ys ≡ length xs → length xs ≤ n → take n ys ≡ take n (map f xs) → ys ≡ map f xs
  all_same ys xs n many whole same =
      sym (take_all n ys (omega arith)) ∙ same ∙ take_all n (map f xs) (omega (arith, length-map xs f))

-- what is left of a list from a place on
pub whole_rest : (bytes : List ℕ) (at : ℕ) → take (length bytes - at) (drop at bytes) ≡ drop at bytes
whole_rest bytes at = take_all (length bytes - at) (drop at bytes) (omega (arith, length-drop at bytes))

-- a message is cut at the end of the head text that was found
pub cut_message : (bytes : List ℕ) (parts : HeadParts) (body : List ℕ) (len : ℕ) (held : List ℕ) → Head len ≡ found_in bytes → held ≡ skip_pairs bytes → (m : IsMessage bytes parts body []) → (m.text ≡ take len held) × (drop len held ≡ body)
cut_message bytes parts body len held found begun m =
    let size : length m.text ≡ len = same_len _ _ (sym m.found ∙ sym found) in
    let joined = begun ∙ m.joined in (
      sym (ap (take len) joined ∙ take_at m.text (body ++ []) len size),
      ap (drop len) joined ∙ drop_at m.text (body ++ []) len size ∙ append-nil body,
    )
  where
    same_len : (n k : ℕ) → Head n ≡ Head k → n ≡ k
    same_len n k e = cc

-- the two parts that a text was cut in, one of which is known
pub joined_parts : (skipped held text rest body : List ℕ) (len : ℕ) → held ≡ skipped → text ≡ take len held → rest ≡ drop len held → rest ≡ body → skipped ≡ text ++ (body ++ [])
joined_parts skipped held text rest body len begun front back same =
    sym begun ∙ sym (take-append-drop len held) ∙ ap₂ (λ a b. a ++ b) (sym front) (sym back ∙ same ∙ sym (append-nil body))

pub same_count : (o : Option ℕ) (n : ℕ) → option_eq eqb o (Some n) ≡ true → o ≡ Some n
same_count None n h = absurd (false≢true h)
same_count (Some m) n h = ap Some (eqb-true m n h)
