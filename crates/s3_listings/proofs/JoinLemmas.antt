-- Pages that are joined.
use Rattle.std.proofs.Common.{◌≡◌, refl, sym, ap, subst, ◌∙◌, true, false, not, ℕ, ◌<◌, List, [], ◌∷◌, ◌++◌, take, drop, length, Some, None, MatchOption, if◌then◌else◌, ◌&&◌, ◌==◌, nat_lt, append-nil}
use Rattle.std.specs.List.{flat_map}
use Rattle.std.proofs.lemmas.List.{take-append-drop, take_all}
use Rattle.s3_listings.specs.Laws.{Joins, ArePages, AllJoin}
use Rattle.s3_listings.specs.Pages.{Page, page_of, last_of, next_of}
use Rattle.s3_listings.proofs.MemberLemmas.{none_last, all_of_none, not_more}

-- a page and what is left behind its last item
pub page_joins : {A : Type 0} (most : ℕ) (items : List A) (rest : A → List A) → 0 < most → ((last : A) → last_of (take most items) ≡ Some last → rest last ≡ drop most items)
    → MatchOption (next_of (page_of most items)) (take most items ≡ items) (λ last. take most items ++ rest last ≡ items)
page_joins {A} most items rest some left =
    elim (not (most == 0) && nat_lt most (length items)) as (λ b. (not (most == 0) && nat_lt most (length items)) ≡ b
    → MatchOption (if b then last_of (take most items) else None) (take most items ≡ items) (λ (last : A). take most items ++ rest last ≡ items)) [
      | true ↦ λ more. elim (last_of (take most items)) as (λ o. last_of (take most items) ≡ o → MatchOption o (take most items ≡ items) (λ (last : A). take most items ++ rest last ≡ items)) [
        | None ↦ λ none. all_of_none most items some (none_last (take most items) none)
        | Some last ↦ λ is. ap (λ l. take most items ++ l) (left last is) ∙ take-append-drop most items
      ] refl
      | false ↦ λ last. take_all most items (not_more most (length items) some last)
    ] refl

-- all pages up to the last one
module _ {Q A : Type 0} (page : Q → Page A) (behind : Q → A → Q) (items : Q → List A) (Fits : Q → Type 0) (kept : (asked : Q) (last : A) → Fits asked → Fits (behind asked last))
    (join : (asked : Q) → Fits asked → Joins page behind items asked) where
  last_page : (asked : Q) → Fits asked → next_of (page asked) ≡ None → (page asked).given ≡ items asked
  last_page asked fits none = subst (λ o. MatchOption o ((page asked).given ≡ items asked) (λ last. (page asked).given ++ items (behind asked last) ≡ items asked)) none (join asked fits)

  page_before : (asked : Q) (last : A) → Fits asked → next_of (page asked) ≡ Some last → (page asked).given ++ items (behind asked last) ≡ items asked
  page_before asked last fits is = subst (λ o. MatchOption o ((page asked).given ≡ items asked) (λ a. (page asked).given ++ items (behind asked a) ≡ items asked)) is (join asked fits)

  joined : (asked : Q) (pages : List (Page A)) → Fits asked → ArePages page behind items asked pages → flat_map (λ (p : Page A). p.given) pages ≡ items asked
  joined asked [] fits are = absurd are
  joined asked (first ∷ []) fits are =
      append-nil first.given ∙ ap (λ (p : Page A). p.given) are.0 ∙ last_page asked fits (ap next_of (sym are.0) ∙ are.1)
  joined asked (first ∷ next ∷ pages) fits are =
      let last : A = are.1.0 in
      ap (λ rest. first.given ++ rest) (joined (behind asked last) (next ∷ pages) (kept asked last fits) are.1.2)
      ∙ ap (λ (p : Page A). p.given ++ items (behind asked last)) are.0
      ∙ page_before asked last fits (ap next_of (sym are.0) ∙ are.1.1)

  pub all_join : (asked : Q) → Fits asked → AllJoin page behind items asked
  all_join asked fits = (join asked fits, λ pages are. joined asked pages fits are)
