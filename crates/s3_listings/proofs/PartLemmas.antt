-- The pages of lists of parts.
use Rattle.std.proofs.Common.{◌≡◌, sym, ap, subst, ◌∙◌, Bool, true, false, ℕ, ◌<◌, nat_lt, List, [], ◌∷◌, ◌++◌, filter, take, drop, Some, arith}
use Rattle.std.specs.List.{list_all, AllByRecursion}
use Rattle.std.proofs.lemmas.Bool.{and_parts}
use Rattle.std.proofs.lemmas.Bool.Decides.{nat_tests}
use Rattle.s3_uploads.specs.Parts.{PartList, rises, numbers_of, part_rows}
use Rattle.s3_uploads.specs.declared.part.PartRow.{PartRow}
use Rattle.s3_listings.specs.declared.asked.PartsAsked.{PartsAsked}
use Rattle.s3_listings.specs.Laws.{Joins, behind_part, PartPagesJoin}
use Rattle.s3_listings.specs.Pages.{last_of}
use Rattle.s3_listings.specs.Parts.{parts_asked, parts_page}
use Rattle.s3_listings.specs.Sought.{Paired}
use Rattle.s3_listings.proofs.BehindLemmas.{FilterCut, filter_cut, cut_at_last, member_cut}
use Rattle.s3_listings.proofs.FilterLemmas.{filter_all}
use Rattle.s3_listings.proofs.JoinLemmas.{page_joins, all_join}
use Rattle.s3_listings.proofs.MemberLemmas.{Member, each_at, member-filter}

-- a part's number is above another's
abbrev is_above : ℕ → PartRow → Bool
is_above number row = nat_lt number row.number

Rises : PartRow → PartRow → Type 0
Rises row later = is_above row.number later ≡ true

above_trans : (a b c : ℕ) → nat_lt a b ≡ true → nat_lt b c ≡ true → nat_lt a c ≡ true
above_trans a b c first second = grind (arith, nat_tests)

not_above_itself : (a : ℕ) → nat_lt a a ≡ false
not_above_itself a = grind (arith, nat_tests)

one_way : (a b : ℕ) → nat_lt a b ≡ true → nat_lt b a ≡ false
one_way a b above = grind (arith, nat_tests)

-- the numbers of the rows rise
all_above : {B : Type 0} (number : ℕ) (parts : PartList B) → list_all (nat_lt number) (numbers_of parts) ≡ true → AllByRecursion (λ later. is_above number later ≡ true) (part_rows parts)
all_above number [] all = tt
all_above number (part ∷ parts) all =
    let both = and_parts _ _ all in
    (both.0, all_above number parts both.1)

rows_rise : {B : Type 0} (parts : PartList B) → rises (numbers_of parts) ≡ true → Paired Rises (part_rows parts)
unfolding rises Rises
rows_rise [] up = tt
rows_rise (part ∷ parts) up =
    let both = and_parts _ _ up in
    (all_above part.0 parts both.0, rows_rise parts both.1)

-- those above a row follow it
above_cut : (front : List PartRow) (row : PartRow) (rest : List PartRow) → Paired Rises (front ++ row ∷ rest) → filter (is_above row.number) (front ++ row ∷ rest) ≡ rest
unfolding Rises
above_cut [] row rest up = rw (not_above_itself row.number) (filter_all (is_above row.number) rest (λ later is_in. each_at (Rises row) rest later up.0 is_in))
above_cut (first ∷ front) row rest up =
    rw (one_way first.number row.number (each_at (Rises first) (front ++ row ∷ rest) row up.0 (member_cut front row rest))) (above_cut front row rest up.1)

-- what is asked for behind the last row of a page is what the page leaves
module _ {B : Type 0} (parts : PartList B) (up : rises (numbers_of parts) ≡ true) where
  rest_of_page : (asked : PartsAsked) (last : PartRow) → last_of (take asked.max_parts (parts_asked asked parts)) ≡ Some last
      → parts_asked (behind_part asked last) parts ≡ drop asked.max_parts (parts_asked asked parts)
  rest_of_page asked last is =
      let rows : List PartRow = part_rows parts in
      let items : List PartRow = parts_asked asked parts in
      let most : ℕ = asked.max_parts in
      let whole = cut_at_last most items last is in
      let cut : FilterCut (is_above asked.marker) rows last (drop most items) = filter_cut (is_above asked.marker) rows whole.0 last (drop most items) whole.1 in
      let here : is_above asked.marker last ≡ true =
      (member-filter (is_above asked.marker) rows last (subst (Member last) (sym whole.1) (member_cut whole.0 last (drop most items)))).1 in
      let behind : filter (is_above last.number) rows ≡ cut.back =
      ap (filter (is_above last.number)) cut.cut ∙ above_cut cut.front last cut.back (subst (Paired Rises) cut.cut (rows_rise parts up)) in
      behind ∙ sym (filter_all (is_above asked.marker) cut.back (λ later is_in.
      above_trans asked.marker last.number later.number here
      (member-filter (is_above last.number) rows later (subst (Member later) (sym behind) is_in)).1)) ∙ cut.left

  page_joins_next : (asked : PartsAsked) → 0 < asked.max_parts → Joins (λ a. parts_page a parts) behind_part (λ a. parts_asked a parts) asked
  unfolding parts_page
  page_joins_next asked some =
      page_joins asked.max_parts (parts_asked asked parts) (λ last. parts_asked (behind_part asked last) parts) some (λ last is. rest_of_page asked last is)

pub part_pages_join : {B : Type 0} → PartPagesJoin B
part_pages_join asked parts up some =
    all_join (λ a. parts_page a parts) behind_part (λ a. parts_asked a parts) (λ a. 0 < a.max_parts) (λ a last fits. fits)
    (λ a fits. page_joins_next parts up a fits) asked some
