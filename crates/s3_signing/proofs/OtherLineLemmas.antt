-- Two heads that agree in all header lines but those of Authorization: what else they agree in.
use Rattle.std.proofs.Common.{◌≡◌, ℕ, Bool, true, false, not, List, [], ◌∷◌, ◌++◌, map, filter, refl, sym, ap, ap₂, ◌∙◌, inl, inr, cond}
use Rattle.std.specs.Prelude.{codes}
use Rattle.std.specs.List.{list_all, flat_map, join_with_byte}
use Rattle.std.proofs.lemmas.Bool.{cases_Bool, and_parts, false≢true}
use Rattle.std.proofs.lemmas.Slice.Eq.{bytes_eq-Decides}
use Rattle.std.specs.Str.{bytes_eq}
use Rattle.s3_text.specs.Characters.{colon, comma, line_feed}
use Rattle.s3_http_heads.specs.Head.{HeadParts, is_named, values_of}
use Rattle.s3_canonical.specs.Request.{signed_names, canonical_line, canonical_headers, canonical_request, single_spaced}
use Rattle.s3_signing.specs.Signature.{signature_of}
use Rattle.s3_signing.specs.Accepted.{other_lines}
use Rattle.s3_signing.specs.Cover.{lower_name}
use Rattle.s3_signing.specs.Names.{is_other, names_to_cover}

abbrev pub Lines : Type 0
Lines = List (List ℕ × List ℕ)

-- a name that is left out is that of Authorization, and no other
pub not_other : (name : List ℕ) → is_other name ≡ true → (x : List ℕ) → is_other x ≡ false → bytes_eq x name ≡ false
not_other name other x left = elim (cases_Bool (bytes_eq x name)) [
  | inl same ↦ absurd (false≢true (sym left ∙ ap is_other ((bytes_eq-Decides x name).0 same) ∙ other))
  | inr apart ↦ apart
]

abbrev is_other_line : List ℕ × List ℕ → Bool
is_other_line line = not (is_named (codes "authorization") line)

-- the lines of another name are other lines
kept_lines : (name : List ℕ) → is_other name ≡ true → (lines : Lines) → filter (is_named name) (filter is_other_line lines) ≡ filter (is_named name) lines
kept_lines name covered [] = refl
kept_lines name covered (line ∷ lines) = elim (cases_Bool (is_other_line line)) [
  | inl other ↦ rw other (ap (λ (rest : Lines). cond (is_named name line) (line ∷ rest) rest) (kept_lines name covered lines))
  | inr own ↦
      let unnamed : is_named name line ≡ false = not_other name covered (lower_name line) own in
      rw (own, unnamed) (kept_lines name covered lines)
]

-- two functions that agree at elements which pass a test make one list of such elements
flat_map_agree : {X A : Type 0} (p : X → Bool) (f g : X → List A) → ((x : X) → p x ≡ true → f x ≡ g x) → (xs : List X) → list_all p xs ≡ true → flat_map f xs ≡ flat_map g xs
flat_map_agree p f g same [] all = refl
flat_map_agree p f g same (x ∷ xs) all =
    let both = and_parts (p x) (list_all p xs) all in
    ap₂ (λ a b. a ++ b) (same x both.0) (flat_map_agree p f g same xs both.1)

filter_names : (p : List ℕ → Bool) (lines : Lines) → filter p (map lower_name lines) ≡ map lower_name (filter (λ line. p (lower_name line)) lines)
filter_names p [] = refl
filter_names p (line ∷ lines) = elim (cases_Bool (p (lower_name line))) [
  | inl kept ↦ rw kept (ap (λ names. lower_name line ∷ names) (filter_names p lines))
  | inr left ↦ rw left (filter_names p lines)
]

-- the names to sign are those of the other lines
names_of_others : (head : HeadParts) → names_to_cover head ≡ map lower_name (other_lines head)
names_of_others head = filter_names is_other head.headers

module _ (head signed : HeadParts) (same : other_lines signed ≡ other_lines head) where
  -- in the names to sign
  pub names_to_cover_same : names_to_cover signed ≡ names_to_cover head
  names_to_cover_same = names_of_others signed ∙ ap (map lower_name) same ∙ sym (names_of_others head)

  -- in the values of each other name
  pub values_of_other : (name : List ℕ) → is_other name ≡ true → values_of name signed ≡ values_of name head
  unfolding values_of
  values_of_other name covered =
      ap (map (λ (line : List ℕ × List ℕ). line.1))
      (sym (kept_lines name covered signed.headers) ∙ ap (filter (is_named name)) same ∙ kept_lines name covered head.headers)

  -- in the canonical lines of such names
  canonical_headers_same : (names : List ℕ) → list_all is_other (signed_names names) ≡ true → canonical_headers signed names ≡ canonical_headers head names
  unfolding canonical_headers
  canonical_headers_same names covered =
      flat_map_agree is_other (canonical_line signed) (canonical_line head)
      (λ name other. ap (λ values. name ++ colon ∷ join_with_byte comma (map single_spaced values) ++ line_feed ∷ []) (values_of_other name other))
      (signed_names names) covered

  canonical_request_same : signed.method ≡ head.method → signed.target ≡ head.target → (names word : List ℕ) → list_all is_other (signed_names names) ≡ true → canonical_request signed names word ≡ canonical_request head names word
  unfolding canonical_request
  canonical_request_same method target names word covered =
      rw (canonical_headers_same names covered, method, target) refl

  -- and, where the request lines are one, in the signature that covers such names
  pub signature_same : signed.method ≡ head.method → signed.target ≡ head.target → (secret stamp region names word : List ℕ) → list_all is_other (signed_names names) ≡ true → signature_of secret stamp region signed names word ≡ signature_of secret stamp region head names word
  unfolding signature_of
  signature_same method target secret stamp region names word covered =
      rw (canonical_request_same method target names word covered) refl
