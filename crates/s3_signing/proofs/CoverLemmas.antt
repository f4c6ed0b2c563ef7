-- Which headers are covered, and that a signer covers enough of them: its names have the form of signed
-- names, `host` and each of Amazon's headers is among them, and Authorization is not.
use Rattle.std.proofs.Common.{◌≡◌, ◌≢◌, ℕ, ◌+◌, Bool, true, false, not, ◌&&◌, ◌||◌, List, [], ◌∷◌, drop, map, filter, Some, refl, sym, ap, ap₂, ◌∙◌, arith, codes, inl, inr, get_or, slice_get}
use Rattle.std.specs.Char.{is_ascii_uppercase, to_ascii_lowercase}
use Rattle.std.specs.List.{list_any, list_all, join_with_byte}
use Rattle.std.specs.Str.{bytes_eq, str_to_ascii_lowercase}
use Rattle.std.proofs.lemmas.Bool.{cases_Bool, false≢true, both_ways, true_from_ne_false, and_parts, and_from, not-false, or_from, or_left, or_right}
use Rattle.std.proofs.lemmas.Bool.Decides.{nat_tests}
use Rattle.std.proofs.lemmas.Cmp.{nat_list_eq_equiv}
use Rattle.std.proofs.lemmas.List.Elements.{All-filter, Contains-get_or, filter_passes}
use Rattle.std.proofs.lemmas.List.Sums.{AllPass-from_list_all, list_all-from_AllPass}
use Rattle.std.proofs.lemmas.Map.Views.{any-filter_same, list_any-from_Contains}
use Rattle.std.proofs.lemmas.Slice.Eq.{bytes_eq-Decides}
use Rattle.httparse.specs.Grammar.{is_token}
use Rattle.s3_text.specs.Characters.{semicolon}
use Rattle.s3_text.specs.Cut.{parts_at}
use Rattle.s3_text.specs.Order.{rises}
use Rattle.s3_text.proofs.ListLemmas.{elements_from, list_any-map}
use Rattle.s3_http_heads.specs.Head.{HeadParts, is_sent}
use Rattle.s3_authorization.specs.Authorization.{is_signed_name, are_signed_names}
use Rattle.s3_canonical.specs.Request.{signed_names}
use Rattle.s3_signing.specs.Accepted.{other_lines}
use Rattle.s3_signing.specs.Cover.{covers, covers_enough, is_amz_name, lower_name, sent_names, stands_in}
use Rattle.s3_signing.specs.Names.{IsOrdered, cover_of, in_order, is_other, names_to_cover}
use Rattle.s3_signing.proofs.OrderLemmas.{list_all-in_order}
use Rattle.s3_signing.proofs.OtherLineLemmas.{Lines, names_to_cover_same, not_other}

-- ---- one line after the other

-- all lines are covered
abbrev pub all_covered : List ℕ → Lines → Bool
all_covered signed lines = list_all (covers signed) (map lower_name lines)

pub all_covered_more : (signed : List ℕ) (lines : Lines) (i : ℕ) (sent value : List ℕ) → slice_get lines i ≡ Some (sent, value) → all_covered signed (drop i lines) ≡ (covers signed (str_to_ascii_lowercase sent) && all_covered signed (drop (i + 1) lines))
all_covered_more signed lines i sent value is = ap (all_covered signed) (elements_from lines i (sent, value) is)

-- a line that is covered leaves the others to decide
pub all_covered_on : (signed : List ℕ) (lines : Lines) (i : ℕ) (sent value : List ℕ) → slice_get lines i ≡ Some (sent, value) → covers signed (str_to_ascii_lowercase sent) ≡ true → all_covered signed (drop (i + 1) lines) ≡ all_covered signed (drop i lines)
all_covered_on signed lines i sent value is covered =
    sym (all_covered_more signed lines i sent value is ∙ ap (λ b. b && all_covered signed (drop (i + 1) lines)) covered)

-- ---- names in lower case

no_capital : (b : ℕ) → is_ascii_uppercase (to_ascii_lowercase b) ≡ false
no_capital b = grind (arith, nat_tests)

no_capitals : (text : List ℕ) → list_any is_ascii_uppercase (str_to_ascii_lowercase text) ≡ false
no_capitals [] = refl
no_capitals (b ∷ text) = or_from _ _ (no_capital b) (no_capitals text)

lower_tokens : (lines : Lines) → list_all is_token (map lower_name lines) ≡ true → list_all is_signed_name (map lower_name lines) ≡ true
lower_tokens [] all = refl
lower_tokens (line ∷ lines) all =
    let both = and_parts (is_token (lower_name line)) (list_all is_token (map lower_name lines)) all in
    and_from _ _ (and_from _ _ both.0 (ap not (no_capitals line.0))) (lower_tokens lines both.1)

-- ---- lists of names

-- what the kept ones pass passes every one, where those left out pass it too
all_from_kept : {X : Type 0} (p q r : X → Bool) → ((x : X) → q x ≡ false → r x ≡ true) → ((x : X) → p x ≡ true → r x ≡ true) → (xs : List X) → list_all p (filter q xs) ≡ true → list_all r xs ≡ true
all_from_kept p q r left kept [] all = refl
all_from_kept p q r left kept (x ∷ xs) all = elim (cases_Bool (q x)) [
  | inl is ↦
      let both = and_parts (p x) (list_all p (filter q xs)) (rw is at all) in
      and_from (r x) (list_all r xs) (kept x both.0) (all_from_kept p q r left kept xs both.1)
  | inr other ↦ and_from (r x) (list_all r xs) (left x other) (all_from_kept p q r left kept xs (rw other at all))
]

any_swapped : (name : List ℕ) (names : List (List ℕ)) → list_any (bytes_eq name) names ≡ list_any (λ sent. bytes_eq sent name) names
any_swapped name [] = refl
any_swapped name (x ∷ names) = ap₂ (λ a b. a || b) (nat_list_eq_equiv.symm name x) (any_swapped name names)

-- a header that was sent is among the names to cover, if it is not Authorization
covers_sent : (name : List ℕ) (head : HeadParts) → is_other name ≡ true → list_any (λ sent. bytes_eq sent name) (names_to_cover head) ≡ is_sent name head
covers_sent name head other =
    any-filter_same (λ sent. bytes_eq sent name) is_other true
    (λ sent same. true_from_ne_false (is_other sent) (λ left. both_ways (bytes_eq sent name) (not_other name other sent left) same))
    (sent_names head)
    ∙ list_any-map (λ sent. bytes_eq sent name) lower_name head.headers

-- each name is among the names in order
each_in_order : (names : List (List ℕ)) → IsOrdered names → list_all (λ name. list_any (bytes_eq name) (in_order names)) names ≡ true
each_in_order names ordered =
    list_all-from_AllPass (λ name. list_any (bytes_eq name) (in_order names)) names
    (λ k d within. ordered.same (bytes_eq (get_or names k d)) ∙ list_any-from_Contains nat_list_eq_equiv (get_or names k d) names (Contains-get_or names k d within))

-- ---- what a signer covers

-- names that may stand as signed ones are cut again where semicolons joined them
abbrev pub AreCut : Type 0
AreCut = (names : List (List ℕ)) → names ≢ [] → list_all is_signed_name names ≡ true → parts_at semicolon (join_with_byte semicolon names) ≡ names

module _ (head : HeadParts) (tokens : list_all is_token (sent_names head) ≡ true) (host : is_sent (codes "host") head ≡ true) (ordered : IsOrdered (names_to_cover head)) (cut : AreCut) where
  abbrev own : List (List ℕ)
  own = in_order (names_to_cover head)

  own_names : list_all is_signed_name own ≡ true
  own_names =
      list_all-in_order is_signed_name (names_to_cover head) ordered
      ∙ list_all-from_AllPass is_signed_name (names_to_cover head)
      (All-filter is_other (λ name. is_signed_name name ≡ true) (sent_names head) (AllPass-from_list_all is_signed_name (sent_names head) (lower_tokens head.headers tokens)))

  own_host : list_any (bytes_eq (codes "host")) own ≡ true
  own_host =
      ordered.same (bytes_eq (codes "host")) ∙ any_swapped (codes "host") (names_to_cover head)
      ∙ covers_sent (codes "host") head refl ∙ host

  -- the signed names of what a signer writes are its own
  own_signed : signed_names (cover_of head) ≡ own
  unfolding cover_of
  own_signed = cut own (λ none. false≢true (sym (ap (list_any (bytes_eq (codes "host"))) none) ∙ own_host)) own_names

  -- they have the form of signed names
  pub cover_form : are_signed_names (cover_of head) ≡ true
  cover_form = and_from _ _ (ap (list_all is_signed_name) own_signed ∙ own_names) (ap rises own_signed ∙ ordered.rising)

  -- none is Authorization
  pub cover_others : list_all is_other (signed_names (cover_of head)) ≡ true
  cover_others =
      ap (list_all is_other) own_signed ∙ list_all-in_order is_other (names_to_cover head) ordered
      ∙ list_all-from_AllPass is_other (names_to_cover head) (filter_passes is_other (sent_names head))

  -- and they are enough for each head that has the same other lines
  pub cover_enough : (signed : HeadParts) → other_lines signed ≡ other_lines head → covers_enough signed (cover_of head) ≡ true
  cover_enough signed same =
      and_from _ _ (ap (list_any (bytes_eq (codes "host"))) own_signed ∙ own_host)
      (all_from_kept (stands_in (cover_of head)) is_other (covers (cover_of head))
      (λ name own. or_left (not (is_amz_name name)) (stands_in (cover_of head) name) (ap (λ n. not (is_amz_name n)) ((bytes_eq-Decides name (codes "authorization")).0 (not-false (bytes_eq name (codes "authorization")) own))))
      (λ name is. or_right (not (is_amz_name name)) (stands_in (cover_of head) name) is)
      (sent_names signed)
      (ap₂ (λ names signed_ones. list_all (λ name. list_any (bytes_eq name) signed_ones) names) (names_to_cover_same head signed same) own_signed ∙ each_in_order (names_to_cover head) ordered))
