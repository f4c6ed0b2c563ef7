-- As which items the keys of a list are told, and in which order these stand.
use Rattle.std.proofs.Common.{◌≡◌, ◌⊎◌, inl, inr, refl, sym, ap, subst, ◌∙◌, true, false, cond, ℕ, ◌≤◌, List, [], ◌∷◌, ◌++◌, drop, length, Some, None, option_map, ◌==◌, nat_eq, append_assoc, append-nil, arith}
use Rattle.std.specs.List.{starts_with}
use Rattle.std.specs.Cmp.{unsigned_Decides}
use Rattle.std.specs.Ordering.{is_lt, ordering_then}
use Rattle.std.proofs.Math.Seq.{drop-append_seam}
use Rattle.std.proofs.lemmas.Bool.{false≢true}
use Rattle.std.proofs.lemmas.Cmp.{tied_itself, nat_cmp_total}
use Rattle.std.proofs.lemmas.List.{take-append-le}
use Rattle.std.proofs.lemmas.Option.{none-some, same_Some}
use Rattle.std.proofs.lemmas.Slice.Eq.{starts_is}
use Rattle.s3_text.specs.Order.{byte_order}
use Rattle.s3_text.proofs.OptionLemmas.{some_kept}
use Rattle.s3_versions.specs.declared.picking.Facts.{Facts}
use Rattle.s3_records.specs.declared.rows.KeyRow.{KeyRow}
use Rattle.s3_prefixes.specs.declared.asked.ObjectsAsked.{ObjectsAsked}
use Rattle.s3_prefixes.specs.Items.{Item, Object, CommonPrefix, text_of, is_before, up_to_first, rolled_up, common_prefix, is_asked, rolled}
use Rattle.s3_listings.specs.Objects.{item_of}
use Rattle.s3_listings.proofs.MemberLemmas.{SameOrBefore}
use Rattle.s3_listings.proofs.OrderLemmas.{cut_order}

-- a text that begins with another, and one that goes on from it
pub starts_from : (s p : List ℕ) → starts_with nat_eq s p ≡ true → s ≡ p ++ drop (length p) s
starts_from s p starts = (starts_is unsigned_Decides s p (starts_with nat_eq s p) refl).0 starts

pub starts_of : (s p rest : List ℕ) → s ≡ p ++ rest → starts_with nat_eq s p ≡ true
starts_of s p rest is = (starts_is unsigned_Decides s p (starts_with nat_eq s p) refl).1 rest is

-- what goes on from a text isn't before it
pub not_before_beginning : (q v : List ℕ) → is_before (q ++ v) q ≡ true → ⊥
not_before_beginning [] [] h = false≢true h
not_before_beginning [] (y ∷ v) h = false≢true h
not_before_beginning (x ∷ q) v h = not_before_beginning q v (sym (ap (λ o. is_lt (ordering_then o (byte_order (q ++ v) q))) (tied_itself nat_cmp_total x)) ∙ h)

-- what is found up to the first delimiter: a beginning of the text that is at least as long
pub record Found (delimiter text front : List ℕ) : Type 0 where
  pub rest : List ℕ
  pub cut : text ≡ front ++ rest
  pub long : length delimiter ≤ length front

one_more : {delimiter rest front : List ℕ} (b : ℕ) → Found delimiter rest front → Found delimiter (b ∷ rest) (b ∷ front)
one_more b found = record { rest = found.rest; cut = ap (λ l. b ∷ l) found.cut; long = omega (arith, found.long) }

pub found : (delimiter text front : List ℕ) → up_to_first delimiter text ≡ Some front → Found delimiter text front
found delimiter [] front is = absurd (none-some front is)
found delimiter (b ∷ rest) front is =
    elim (starts_with nat_eq (b ∷ rest) delimiter) as (λ t. starts_with nat_eq (b ∷ rest) delimiter ≡ t → cond t (Some delimiter) (option_map (λ l. b ∷ l) (up_to_first delimiter rest)) ≡ Some front → Found delimiter (b ∷ rest) front) [
      | true ↦ λ starts some. subst (Found delimiter (b ∷ rest)) (same_Some delimiter front some)
          (record { rest = drop (length delimiter) (b ∷ rest); cut = starts_from (b ∷ rest) delimiter starts; long = omega arith })
      | false ↦ λ other. elim (up_to_first delimiter rest) as (λ o. up_to_first delimiter rest ≡ o → option_map (λ l. b ∷ l) o ≡ Some front → Found delimiter (b ∷ rest) front) [
        | None ↦ λ none some. absurd (none-some front some)
        | Some later ↦ λ there some. subst (Found delimiter (b ∷ rest)) (same_Some (b ∷ later) front some) (one_more b (found delimiter rest later there))
      ] refl
    ] refl is

-- it is found as well where the text goes on otherwise
first_here : (delimiter s : List ℕ) → (length delimiter == 0) ≡ false → up_to_first delimiter (delimiter ++ s) ≡ Some delimiter
first_here [] s some = absurd (false≢true (sym some))
first_here (x ∷ d) s some = rw (starts_of (x ∷ d ++ s) (x ∷ d) s refl) refl

same_start : (delimiter front s t : List ℕ) → length delimiter ≤ length front → starts_with nat_eq (front ++ s) delimiter ≡ starts_with nat_eq (front ++ t) delimiter
same_start delimiter front s t long = rw (take-append-le (length delimiter) front s long, take-append-le (length delimiter) front t long) refl

pub found_again : (delimiter text front s : List ℕ) → (length delimiter == 0) ≡ false → up_to_first delimiter text ≡ Some front → up_to_first delimiter (front ++ s) ≡ Some front
found_again delimiter [] front s some is = absurd (none-some front is)
found_again delimiter (b ∷ rest) front s some is =
    elim (starts_with nat_eq (b ∷ rest) delimiter) as (λ t. starts_with nat_eq (b ∷ rest) delimiter ≡ t → cond t (Some delimiter) (option_map (λ l. b ∷ l) (up_to_first delimiter rest)) ≡ Some front → up_to_first delimiter (front ++ s) ≡ Some front) [
      | true ↦ λ starts same. subst (λ l. up_to_first delimiter (l ++ s) ≡ Some l) (same_Some delimiter front same) (first_here delimiter s some)
      | false ↦ λ other. elim (up_to_first delimiter rest) as (λ o. up_to_first delimiter rest ≡ o → option_map (λ l. b ∷ l) o ≡ Some front → up_to_first delimiter (front ++ s) ≡ Some front) [
        | None ↦ λ none same. absurd (none-some front same)
        | Some later ↦ λ there same.
            let before : Found delimiter (b ∷ rest) (b ∷ later) = one_more b (found delimiter rest later there) in
            let not_here : starts_with nat_eq (b ∷ later ++ s) delimiter ≡ false =
            same_start delimiter (b ∷ later) s before.rest before.long ∙ ap (λ l. starts_with nat_eq l delimiter) (sym before.cut) ∙ other in
            subst (λ l. up_to_first delimiter (l ++ s) ≡ Some l) (same_Some (b ∷ later) front same)
            (ap (λ t. cond t (Some delimiter) (option_map (λ l. b ∷ l) (up_to_first delimiter (later ++ s)))) not_here
            ∙ ap (option_map (λ l. b ∷ l)) (found_again delimiter rest later s some there))
      ] refl
    ] refl is

-- a common prefix is a beginning of its keys, and every key with the beginning has it
pub record CommonTo (prefix delimiter key text : List ℕ) : Type 0 where
  pub rest : List ℕ
  pub cut : key ≡ text ++ rest
  pub again : (s : List ℕ) → rolled_up prefix delimiter (text ++ s) ≡ Some text

common_behind : (prefix delimiter key front : List ℕ) → starts_with nat_eq key prefix ≡ true → (length delimiter == 0) ≡ false
    → up_to_first delimiter (drop (length prefix) key) ≡ Some front → CommonTo prefix delimiter key (prefix ++ front)
common_behind prefix delimiter key front starts some is =
    let here : Found delimiter (drop (length prefix) key) front = found delimiter (drop (length prefix) key) front is in
    record {
      rest = here.rest;
      cut = starts_from key prefix starts ∙ ap (λ l. prefix ++ l) here.cut ∙ sym (append_assoc prefix front here.rest);
      again = λ s.
          ap (λ b. cond b None (option_map (λ l. prefix ++ l) (up_to_first delimiter (drop (length prefix) ((prefix ++ front) ++ s))))) some
          ∙ ap (λ l. option_map (λ m. prefix ++ m) (up_to_first delimiter l)) (ap (drop (length prefix)) (append_assoc prefix front s) ∙ drop-append_seam prefix (front ++ s))
          ∙ ap (option_map (λ l. prefix ++ l)) (found_again delimiter (drop (length prefix) key) front s some is);
    }

pub common_to : (prefix delimiter key text : List ℕ) → starts_with nat_eq key prefix ≡ true → rolled_up prefix delimiter key ≡ Some text → CommonTo prefix delimiter key text
common_to prefix delimiter key text starts is =
    elim (length delimiter == 0) as (λ b. (length delimiter == 0) ≡ b → cond b None (option_map (λ l. prefix ++ l) (up_to_first delimiter (drop (length prefix) key))) ≡ Some text → CommonTo prefix delimiter key text) [
      | true ↦ λ empty same. absurd (none-some text same)
      | false ↦ λ some. elim (up_to_first delimiter (drop (length prefix) key)) as (λ o. up_to_first delimiter (drop (length prefix) key) ≡ o → option_map (λ l. prefix ++ l) o ≡ Some text → CommonTo prefix delimiter key text) [
        | None ↦ λ none same. absurd (none-some text same)
        | Some front ↦ λ there same. subst (CommonTo prefix delimiter key) (same_Some (prefix ++ front) text same) (common_behind prefix delimiter key front starts some there)
      ] refl
    ] refl is

-- of two keys the items are in the keys' order, or they are one
module _ (prefix delimiter key other : List ℕ) (before : is_before key other ≡ true) where
  pub key_then_prefix : (text : List ℕ) → starts_with nat_eq other prefix ≡ true → rolled_up prefix delimiter key ≡ None → rolled_up prefix delimiter other ≡ Some text → is_before key text ≡ true
  key_then_prefix text starts none some =
      let common : CommonTo prefix delimiter other text = common_to prefix delimiter other text starts some in
      elim (cut_order key text [] common.rest (subst (λ l. is_before l (text ++ common.rest) ≡ true) (sym (append-nil _)) (subst (λ l. is_before key l ≡ true) common.cut before))) [
        | inl sooner ↦ sooner
        | inr (u, begins) ↦ absurd (none-some text (sym none ∙ ap (rolled_up prefix delimiter) begins ∙ common.again u))
      ]

  prefix_then_key : (text : List ℕ) → starts_with nat_eq key prefix ≡ true → rolled_up prefix delimiter key ≡ Some text → is_before text other ≡ true
  prefix_then_key text starts some =
      let common : CommonTo prefix delimiter key text = common_to prefix delimiter key text starts some in
      elim (cut_order text other common.rest [] (subst (λ l. is_before (text ++ common.rest) l ≡ true) (sym (append-nil _)) (subst (λ l. is_before l other ≡ true) common.cut before))) [
        | inl sooner ↦ sooner
        | inr (u, begins) ↦ absurd (not_before_beginning other (u ++ common.rest)
            (subst (λ l. is_before l other ≡ true) (common.cut ∙ ap (λ l. l ++ common.rest) begins ∙ append_assoc other u common.rest) before))
      ]

  pub prefix_then_prefix : (text later : List ℕ) → starts_with nat_eq key prefix ≡ true → starts_with nat_eq other prefix ≡ true
      → rolled_up prefix delimiter key ≡ Some text → rolled_up prefix delimiter other ≡ Some later → (text ≡ later) ⊎ (is_before text later ≡ true)
  prefix_then_prefix text later starts also some there =
      let common : CommonTo prefix delimiter key text = common_to prefix delimiter key text starts some in
      let next : CommonTo prefix delimiter other later = common_to prefix delimiter other later also there in
      elim (cut_order text later common.rest next.rest (subst (λ l. is_before (text ++ common.rest) l ≡ true) next.cut (subst (λ l. is_before l other ≡ true) common.cut before))) [
        | inl sooner ↦ inr sooner
        | inr (u, begins) ↦ inl (same_Some text later (sym some ∙ ap (rolled_up prefix delimiter) (common.cut ∙ ap (λ l. l ++ common.rest) begins ∙ append_assoc later u common.rest) ∙ next.again (u ++ common.rest)))
      ]

  same_prefix : (text later : List ℕ) → (text ≡ later) ⊎ (is_before text later ≡ true) → SameOrBefore text_of (CommonPrefix text) (CommonPrefix later)
  same_prefix text later (inl same) = inl (ap CommonPrefix same)
  same_prefix text later (inr sooner) = inr sooner

  pub items_in_order : (facts known : Facts) → starts_with nat_eq key prefix ≡ true → starts_with nat_eq other prefix ≡ true
      → SameOrBefore text_of (rolled (rolled_up prefix delimiter key) key facts) (rolled (rolled_up prefix delimiter other) other known)
  items_in_order facts known starts also =
      elim (rolled_up prefix delimiter key) as (λ o. rolled_up prefix delimiter key ≡ o → SameOrBefore text_of (rolled o key facts) (rolled (rolled_up prefix delimiter other) other known)) [
        | None ↦ λ none. elim (rolled_up prefix delimiter other) as (λ p. rolled_up prefix delimiter other ≡ p → SameOrBefore text_of (Object key facts) (rolled p other known)) [
          | None ↦ λ is. inr before
          | Some text ↦ λ some. inr (key_then_prefix text also none some)
        ] refl
        | Some text ↦ λ some. elim (rolled_up prefix delimiter other) as (λ p. rolled_up prefix delimiter other ≡ p → SameOrBefore text_of (CommonPrefix text) (rolled p other known)) [
          | None ↦ λ is. inr (prefix_then_key text starts some)
          | Some later ↦ λ there. same_prefix text later (prefix_then_prefix text later starts also some there)
        ] refl
      ] refl

-- what an item is made of
pub record ToldBy (asked : ObjectsAsked) (row : KeyRow) (item : Item) : Type 0 where
  pub asked_for : is_asked asked row.key ≡ true
  pub facts : Facts
  pub known : row.facts ≡ Some facts
  pub told : item ≡ rolled (common_prefix asked row.key) row.key facts

pub told_by : (asked : ObjectsAsked) (row : KeyRow) (item : Item) → item_of asked row ≡ Some item → ToldBy asked row item
told_by asked row item is =
    let kept = some_kept (is_asked asked row.key) (option_map (rolled (common_prefix asked row.key) row.key) row.facts) item is in
    elim (row.facts) as (λ o. row.facts ≡ o → option_map (rolled (common_prefix asked row.key) row.key) o ≡ Some item → ToldBy asked row item) [
      | None ↦ λ none same. absurd (none-some item same)
      | Some facts ↦ λ known same. record { asked_for = kept.0; facts = facts; known = known; told = sym (same_Some _ item same) }
    ] refl kept.1

pub told_from : (asked : ObjectsAsked) (row : KeyRow) (facts : Facts) → is_asked asked row.key ≡ true → row.facts ≡ Some facts → item_of asked row ≡ Some (rolled (common_prefix asked row.key) row.key facts)
told_from asked row facts is known = rw (is, known) refl
