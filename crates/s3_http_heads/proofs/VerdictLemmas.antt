-- What `text_length` finds is the shortest beginning that ends with an empty line, and stays it.
use Rattle.std.proofs.Common.{◌≡◌, ◌↔◌, ℕ, zero, suc, ◌≤◌, ◌<◌, ◌⊎◌, inl, inr, Bool, true, false, List, [], ◌∷◌, ◌++◌, take, drop, length, Option, Some, None, refl, sym, ap, ◌∙◌, arith, cond, subst}
use Rattle.std.specs.Prelude.{option_map, nat_eq, ◌==◌, ◌&&◌}
use Rattle.std.specs.List.{starts_with}
use Rattle.std.proofs.lemmas.Bool.{cases_Bool, cases_order, false≢true, lt-leb, le-leb, cases_lt}
use Rattle.std.proofs.lemmas.Bool.Decides.{Decides-eqb}
use Rattle.std.proofs.lemmas.List.{length-take, length-append, take-take, take-append-le, take-append-drop}
use Rattle.std.proofs.lemmas.Option.{none-some, same_Some}
use Rattle.std.proofs.lemmas.Slice.Eq.{starts_is}
use Rattle.s3_http_heads.specs.declared.find.Found.TheVariants.{NeedMore, Head, TooLarge}
use Rattle.s3_http_heads.specs.Find.{skip_pairs, text_length, head_end, head_limit, found_by, found_in, EndsHead, IsHeadText, HasNoHeadText}

-- an empty line begins here
abbrev here : List ℕ → Bool
here s = starts_with nat_eq s head_end

here_begins : (s : List ℕ) → here s ≡ true → s ≡ head_end ++ drop 4 s
here_begins s is = (starts_is Decides-eqb s head_end (here s) refl).0 is

begins_here : (s rest : List ℕ) → s ≡ head_end ++ rest → here s ≡ true
begins_here s rest is = (starts_is Decides-eqb s head_end (here s) refl).1 rest is

-- ---- what is found

-- one byte more, where no empty line begins at it
later : (b : ℕ) (s : List ℕ) → here (b ∷ s) ≡ false → text_length (b ∷ s) ≡ option_map suc (text_length s)
unfolding text_length
later b s none = rw none refl

now : (b : ℕ) (s : List ℕ) → here (b ∷ s) ≡ true → text_length (b ∷ s) ≡ Some 4
unfolding text_length
now b s is = rw is refl

-- a length that was found, one byte on
from_later : (o : Option ℕ) (n : ℕ) → option_map suc o ≡ Some n → (m : ℕ) × (o ≡ Some m) × (n ≡ suc m)
from_later None n is = absurd (none-some n is)
from_later (Some m) n is = (m, refl, sym (same_Some (suc m) n is))

from_no_later : (o : Option ℕ) → option_map suc o ≡ None → o ≡ None
from_no_later None is = refl
from_no_later (Some m) is = absurd (none-some (suc m) (sym is))

-- the shortest beginning of s that ends a head has length n
record Shortest (s : List ℕ) (n : ℕ) : Type 0 where
  within : n ≤ length s
  least : 4 ≤ n
  ends : EndsHead (take n s)
  shortest : (k : ℕ) → k < n → ¬ (EndsHead (take k s))

ends_length : (s : List ℕ) (k : ℕ) → EndsHead (take k s) → (4 ≤ k) × (4 ≤ length s)
ends_length s k (front, is) =
    let long : 4 ≤ length (take k s) = omega (arith, ap length is, length-append front head_end) in
    (omega (arith, length-take k s), omega (arith, length-take k s))

-- a beginning that ends a head is an empty line, or ends one a byte later
ends_cases : (b : ℕ) (s : List ℕ) (k : ℕ) → EndsHead (take k (b ∷ s))
    → (here (b ∷ s) ≡ true) ⊎ ((j : ℕ) × (k ≡ suc j) × EndsHead (take j s))
ends_cases b s zero (front, is) = absurd (omega (arith, (ends_length (b ∷ s) 0 (front, is)).0))
ends_cases b s (suc j) ([], is) =
    inl (begins_here (b ∷ s) (drop j s) (sym (take-append-drop (suc j) (b ∷ s)) ∙ ap (λ f. f ++ drop j s) is))
ends_cases b s (suc j) (x ∷ front, is) = inr (j, refl, (front, ap (drop 1) is))

found_here : (b : ℕ) (s : List ℕ) → here (b ∷ s) ≡ true → Shortest (b ∷ s) 4
found_here b s is =
    let begins = here_begins (b ∷ s) is in
    record {
      within = omega (arith, ap length begins, length-append head_end (drop 4 (b ∷ s)));
      least = omega arith;
      ends = ([], ap (take 4) begins);
      shortest = λ k less ends. omega (arith, (ends_length (b ∷ s) k ends).0);
    }

found_later : (b : ℕ) (s : List ℕ) (m : ℕ) → here (b ∷ s) ≡ false → Shortest s m → Shortest (b ∷ s) (suc m)
found_later b s m none found = record {
  within = omega (arith, found.within);
  least = omega (arith, found.least);
  ends = (b ∷ found.ends.0, ap (λ f. b ∷ f) found.ends.1);
  shortest = λ k less ends. elim (ends_cases b s k ends) [
    | inl is ↦ false≢true (sym none ∙ is)
    | inr before ↦ found.shortest before.0 (omega (arith, before.1)) before.2
  ];
}

found_shortest : (s : List ℕ) (n : ℕ) → text_length s ≡ Some n → Shortest s n
unfolding text_length
found_shortest [] n is = absurd (none-some n is)
found_shortest (b ∷ s) n is = elim (cases_Bool (here (b ∷ s))) [
  | inl begins ↦ subst (Shortest (b ∷ s)) (same_Some 4 n (sym (now b s begins) ∙ is)) (found_here b s begins)
  | inr none ↦
      let before = from_later (text_length s) n (sym (later b s none) ∙ is) in
      subst (Shortest (b ∷ s)) (sym before.2) (found_later b s before.0 none (found_shortest s before.0 before.1))
]

none_shortest : (s : List ℕ) → text_length s ≡ None → (k : ℕ) → ¬ (EndsHead (take k s))
unfolding text_length
none_shortest [] is k ends = omega (arith, (ends_length [] k ends).1)
none_shortest (b ∷ s) is k ends = elim (cases_Bool (here (b ∷ s))) [
  | inl begins ↦ none-some 4 (sym is ∙ now b s begins)
  | inr none ↦ elim (ends_cases b s k ends) [
    | inl begins ↦ false≢true (sym none ∙ begins)
    | inr before ↦
        none_shortest s (from_no_later (text_length s) (sym (later b s none) ∙ is)) before.0 before.2
  ]
]

shortest_found : (s : List ℕ) (n : ℕ) → Shortest s n → text_length s ≡ Some n
shortest_found s n found = by (text_length s) refl
  where
    by : (o : Option ℕ) → text_length s ≡ o → text_length s ≡ Some n
    by None is = absurd (none_shortest s is n found.ends)
    by (Some m) is =
        let other = found_shortest s m is in
        elim (cases_order m n) [
          | inl e ↦ is ∙ ap Some e
          | inr e ↦ elim e [
            | inl less ↦ absurd (found.shortest m less other.ends)
            | inr more ↦ absurd (other.shortest n more found.ends)
          ]
        ]

-- ---- the verdicts

-- what was searched is no more than the limit
searched : List ℕ → List ℕ
searched bytes = take head_limit (skip_pairs bytes)

module _ (bytes : List ℕ) where
  head_text-shortest : (n : ℕ) → IsHeadText bytes n → Shortest (searched bytes) n
  unfolding searched
  head_text-shortest n text =
      let same : (k : ℕ) → k ≤ n → take k (searched bytes) ≡ take k (skip_pairs bytes) =
      λ k few. take-take k head_limit (skip_pairs bytes) (omega (arith, text.small)) in
      record {
        within = omega (arith, text.small, text.within, length-take head_limit (skip_pairs bytes));
        least = (ends_length (skip_pairs bytes) n text.ends).0;
        ends = subst EndsHead (sym (same n (omega arith))) text.ends;
        shortest = λ k less ends. text.shortest k less (subst EndsHead (same k (omega arith)) ends);
      }

  shortest-head_text : (n : ℕ) → Shortest (searched bytes) n → IsHeadText bytes n
  unfolding searched
  shortest-head_text n found =
      let small : n ≤ head_limit = omega (arith, found.within, length-take head_limit (skip_pairs bytes)) in
      let same : (k : ℕ) → k ≤ n → take k (searched bytes) ≡ take k (skip_pairs bytes) =
      λ k few. take-take k head_limit (skip_pairs bytes) (omega arith) in
      record {
        within = omega (arith, found.within, length-take head_limit (skip_pairs bytes));
        small = small;
        ends = subst EndsHead (same n (omega arith)) found.ends;
        shortest = λ k less ends. found.shortest k less (subst EndsHead (sym (same k (omega arith))) ends);
      }

  text_length-head_text : (n : ℕ) → text_length (searched bytes) ≡ Some n → IsHeadText bytes n
  text_length-head_text n is = shortest-head_text n (found_shortest (searched bytes) n is)

  head_text-text_length : (n : ℕ) → IsHeadText bytes n → text_length (searched bytes) ≡ Some n
  head_text-text_length n text = shortest_found (searched bytes) n (head_text-shortest n text)

  none-head_text : text_length (searched bytes) ≡ None → HasNoHeadText bytes
  none-head_text is n text = none-some n (sym is ∙ head_text-text_length n text)

  head_text-none : HasNoHeadText bytes → text_length (searched bytes) ≡ None
  head_text-none no_text = by (text_length (searched bytes)) refl
    where
      by : (o : Option ℕ) → text_length (searched bytes) ≡ o → text_length (searched bytes) ≡ None
      by None is = is
      by (Some n) is = absurd (no_text n (text_length-head_text n is))

-- the verdict, read backwards
pub from_head : (o : Option ℕ) (held n : ℕ) → found_by o held ≡ Head n → o ≡ Some n
from_head (Some m) held n is = cc
from_head None held n is = elim (cases_lt held head_limit) [
  | inl less ↦ let e : NeedMore ≡ Head n = rw (lt-leb head_limit held less) at is in cc
  | inr more ↦ let e : TooLarge ≡ Head n = rw (le-leb head_limit held more) at is in cc
]

from_too_large : (o : Option ℕ) (held : ℕ) → found_by o held ≡ TooLarge → (head_limit ≤ held) × (o ≡ None)
from_too_large (Some m) held is = cc
from_too_large None held is = elim (cases_lt held head_limit) [
  | inl less ↦ let e : NeedMore ≡ TooLarge = rw (lt-leb head_limit held less) at is in cc
  | inr more ↦ (more, refl)
]

from_need_more : (o : Option ℕ) (held : ℕ) → found_by o held ≡ NeedMore → (held < head_limit) × (o ≡ None)
from_need_more (Some m) held is = cc
from_need_more None held is = elim (cases_lt held head_limit) [
  | inl less ↦ (less, refl)
  | inr more ↦ let e : TooLarge ≡ NeedMore = rw (le-leb head_limit held more) at is in cc
]

verdict_of : (bytes : List ℕ) → found_in bytes ≡ found_by (text_length (searched bytes)) (length (skip_pairs bytes))
unfolding found_in searched
verdict_of bytes = refl

pub head_verdict : (bytes : List ℕ) (n : ℕ) → (found_in bytes ≡ Head n) ↔ IsHeadText bytes n
head_verdict bytes n = (
  λ is. text_length-head_text bytes n (from_head _ (length (skip_pairs bytes)) n (sym (verdict_of bytes) ∙ is)),
  λ text. verdict_of bytes ∙ ap (λ o. found_by o (length (skip_pairs bytes))) (head_text-text_length bytes n text),
)

pub too_large_verdict : (bytes : List ℕ)
    → (found_in bytes ≡ TooLarge) ↔ ((head_limit ≤ length (skip_pairs bytes)) × HasNoHeadText bytes)
too_large_verdict bytes = (
  λ is.
      let from = from_too_large _ (length (skip_pairs bytes)) (sym (verdict_of bytes) ∙ is) in
      (from.0, none-head_text bytes from.1),
  λ h.
      verdict_of bytes ∙ ap (λ o. found_by o (length (skip_pairs bytes))) (head_text-none bytes h.1)
      ∙ ap (λ b. cond b TooLarge NeedMore) (le-leb head_limit _ h.0),
)

pub need_more_verdict : (bytes : List ℕ)
    → (found_in bytes ≡ NeedMore) ↔ ((length (skip_pairs bytes) < head_limit) × HasNoHeadText bytes)
need_more_verdict bytes = (
  λ is.
      let from = from_need_more _ (length (skip_pairs bytes)) (sym (verdict_of bytes) ∙ is) in
      (from.0, none-head_text bytes from.1),
  λ h.
      verdict_of bytes ∙ ap (λ o. found_by o (length (skip_pairs bytes))) (head_text-none bytes h.1)
      ∙ ap (λ b. cond b TooLarge NeedMore) (lt-leb head_limit _ h.0),
)

-- ---- what was found stays

pub skip_pairs-append : (bytes more : List ℕ) → 2 ≤ length (skip_pairs bytes) → skip_pairs (bytes ++ more) ≡ skip_pairs bytes ++ more
unfolding skip_pairs
skip_pairs-append [] more two = absurd (omega arith)
skip_pairs-append (b ∷ []) more two = absurd (omega arith)
skip_pairs-append (b ∷ c ∷ rest) more two = by (skip_pairs-append rest more) (b == 13 && c == 10) two
  where
    by : (2 ≤ length (skip_pairs rest) → skip_pairs (rest ++ more) ≡ skip_pairs rest ++ more) → (t : Bool) → 2 ≤ length (cond t (skip_pairs rest) (b ∷ c ∷ rest))
        → cond t (skip_pairs (rest ++ more)) (b ∷ c ∷ (rest ++ more)) ≡ cond t (skip_pairs rest) (b ∷ c ∷ rest) ++ more
    by further true two = further two
    by further false two = refl

module _ (bytes more : List ℕ) where
  pub head_stays : (n : ℕ) → IsHeadText bytes n → IsHeadText (bytes ++ more) n
  head_stays n text =
      let long = (ends_length (skip_pairs bytes) n text.ends).1 in
      let appends = skip_pairs-append bytes more (omega arith) in
      let same : (k : ℕ) → k ≤ n → take k (skip_pairs (bytes ++ more)) ≡ take k (skip_pairs bytes) =
      λ k few. ap (take k) appends ∙ take-append-le k (skip_pairs bytes) more (omega (arith, text.within)) in
      record {
        within = omega (arith, text.within, ap length appends, length-append (skip_pairs bytes) more);
        small = text.small;
        ends = subst EndsHead (sym (same n (omega arith))) text.ends;
        shortest = λ k less ends. text.shortest k less (subst EndsHead (same k (omega arith)) ends);
      }

  -- within what was there, more bytes add no head text
  head_was_there : (n : ℕ) → 2 ≤ length (skip_pairs bytes) → n ≤ length (skip_pairs bytes) → IsHeadText (bytes ++ more) n
      → IsHeadText bytes n
  head_was_there n two held text =
      let appends = skip_pairs-append bytes more two in
      let same : (k : ℕ) → k ≤ n → take k (skip_pairs (bytes ++ more)) ≡ take k (skip_pairs bytes) =
      λ k few. ap (take k) appends ∙ take-append-le k (skip_pairs bytes) more (omega arith) in
      record {
        within = held;
        small = text.small;
        ends = subst EndsHead (same n (omega arith)) text.ends;
        shortest = λ k less ends. text.shortest k less (subst EndsHead (sym (same k (omega arith))) ends);
      }

  pub head_verdict_stays : (n : ℕ) → found_in bytes ≡ Head n → found_in (bytes ++ more) ≡ Head n
  head_verdict_stays n is = (head_verdict (bytes ++ more) n).1 (head_stays n ((head_verdict bytes n).0 is))

  pub too_large_stays : found_in bytes ≡ TooLarge → found_in (bytes ++ more) ≡ TooLarge
  too_large_stays is =
      let was = (too_large_verdict bytes).0 is in
      let appends = skip_pairs-append bytes more (omega (arith, was.0)) in
      (too_large_verdict (bytes ++ more)).1 (
        omega (arith, was.0, ap length appends, length-append (skip_pairs bytes) more),
        λ n text. was.1 n (head_was_there n (omega (arith, was.0)) (omega (arith, was.0, text.small)) text),
      )

-- ---- the pairs that were skipped

pub skip_pairs-twice : (bytes more : List ℕ) → skip_pairs (skip_pairs bytes ++ more) ≡ skip_pairs (bytes ++ more)
unfolding skip_pairs
skip_pairs-twice [] more = refl
skip_pairs-twice (b ∷ []) more = refl
skip_pairs-twice (b ∷ c ∷ rest) more = by (skip_pairs-twice rest more) (b == 13 && c == 10) refl
  where
    by : skip_pairs (skip_pairs rest ++ more) ≡ skip_pairs (rest ++ more) → (t : Bool) → (b == 13 && c == 10) ≡ t
        → skip_pairs (cond t (skip_pairs rest) (b ∷ c ∷ rest) ++ more) ≡ cond t (skip_pairs (rest ++ more)) (b ∷ c ∷ (rest ++ more))
    by further true is = further
    by further false is = rw is refl

pub found_in-dropped : (bytes more : List ℕ) → found_in (skip_pairs bytes ++ more) ≡ found_in (bytes ++ more)
unfolding found_in
found_in-dropped bytes more =
    ap (λ s. found_by (text_length (take head_limit s)) (length s)) (skip_pairs-twice bytes more)

-- behind the pairs that were skipped before a head text, more bytes are more bytes
pub pairs_stay : (bytes more : List ℕ) (n : ℕ) → found_in bytes ≡ Head n → skip_pairs (bytes ++ more) ≡ skip_pairs bytes ++ more
pairs_stay bytes more n is =
    let text = (head_verdict bytes n).0 is in
    let long = (ends_length (skip_pairs bytes) n text.ends).1 in
    skip_pairs-append bytes more (omega (arith, text.within))
