-- What a search knows between the pieces that it is fed.
use Rattle.std.proofs.Common.{◌≡◌, ◌≢◌, ℕ, zero, suc, ◌+◌, ◌-◌, min, ◌≤◌, ◌<◌, inl, inr, Bool, true, false, List, [], ◌∷◌, ◌++◌, take, drop, length, get_or, Option, Some, None, refl, sym, ap, ◌∙◌, arith, cond, subst}
use Rattle.std.specs.Prelude.{option_map, nat_eq, slice_range, ◌==◌, ◌&&◌, if◌then◌else◌}
use Rattle.std.specs.List.{starts_with}
use Rattle.std.proofs.lemmas.Bool.{cases_Bool, cases_eq, ne_eqb, and_parts, false≢true}
use Rattle.std.proofs.lemmas.Bool.Decides.{Decides-eqb}
use Rattle.std.proofs.lemmas.Slice.Eq.{starts_is}
use Rattle.std.proofs.lemmas.List.{append_assoc, append-nil, length-append, length-take, length-drop, take_all, take-take, take_more, take-append-drop}
use Rattle.std.proofs.Math.Seq.{take-append-add}
use Rattle.s3_http_heads.specs.declared.find.Found.{Found}
use Rattle.s3_http_heads.specs.declared.find.Found.TheVariants.{NeedMore, Head, TooLarge}
use Rattle.s3_http_heads.specs.Scan.{after_byte}
use Rattle.s3_http_heads.specs.Find.{skip_pairs, text_length, head_end, head_limit, found_by, found_in}
use Rattle.s3_http_heads.specs.Search.{IsPassed, IsScanned, IsOpen, IsPlaced, IsStep, IsSearched, Holds, Stands, kept, step_text}
use Rattle.s3_http_heads.specs.declared.search.HeadSearch.{HeadSearch}
use Rattle.s3_http_heads.specs.declared.search.Position.{Position}
use Rattle.s3_http_heads.specs.declared.search.Step.{Step}
use Rattle.s3_http_heads.proofs.TextLemmas.{longer_by, Stands as ScanStands, GoesOn, Stands_more, Stands_none as ScanStands_none, Stands_all}
use Rattle.s3_http_heads.proofs.VerdictLemmas.{skip_pairs-twice, skip_pairs-append, pairs_stay, head_verdict, too_large_verdict, need_more_verdict, from_head, head_verdict_stays, found_in-dropped}

-- ---- the scan

longer_by-map : (k : ℕ) (o : Option ℕ) → longer_by k o ≡ option_map (λ n. k + n) o
longer_by-map k None = refl
longer_by-map k (Some n) = refl

stands : (text : List ℕ) (m : ℕ) → IsPassed text m → (rest : List ℕ) → ScanStands (text ++ rest) (length text) m rest
stands text m p rest = (p.few, p.held, p.alike rest ∙ sym (longer_by-map (length text - m) (text_length (take m head_end ++ rest))))

passed : (text : List ℕ) (m : ℕ) → ((rest : List ℕ) → ScanStands (text ++ rest) (length text) m rest) → IsPassed text m
passed text m s = record {
  few = (s []).0;
  held = (s []).1;
  alike = λ rest. (s rest).2 ∙ longer_by-map (length text - m) (text_length (take m head_end ++ rest));
}

pub IsPassed-none : IsPassed [] 0
IsPassed-none = passed [] 0 ScanStands_none

one_more : (text : List ℕ) (m b : ℕ) → IsPassed text m → (rest : List ℕ) → GoesOn ((text ++ b ∷ []) ++ rest) (length text) (after_byte m b) rest
one_more text m b p rest =
    Stands_more ((text ++ b ∷ []) ++ rest) (length text) m b rest
    (subst (λ t. ScanStands t (length text) m (b ∷ rest)) (sym (append_assoc text (b ∷ []) rest)) (stands text m p (b ∷ rest)))

length_one : (text : List ℕ) (b : ℕ) → length text + 1 ≡ length (text ++ b ∷ [])
length_one text b = sym (length-append text (b ∷ []))

-- one byte on
pub IsScanned-more : (text : List ℕ) (m b : ℕ) → IsPassed text m → IsScanned (text ++ b ∷ []) (after_byte m b)
IsScanned-more text m b p = (
  λ four. elim (one_more text m b p []) [
    | inl done ↦ ap text_length (sym (append-nil (text ++ b ∷ []))) ∙ done.1 ∙ ap Some (length_one text b)
    | inr on ↦ absurd (on.0 four)
  ],
  λ apart. passed (text ++ b ∷ []) (after_byte m b) (λ rest. elim (one_more text m b p rest) [
    | inl done ↦ absurd (apart done.0)
    | inr on ↦ subst (λ n. ScanStands ((text ++ b ∷ []) ++ rest) n (after_byte m b) rest) (length_one text b) on.1
  ]),
)

-- the same where a loop stands at a place, j being what is matched after its byte
pub loop_scanned : (text bytes : List ℕ) (i m j : ℕ) → i < length bytes → IsPassed (text ++ take i bytes) m
    → j ≡ after_byte m (get_or bytes i 0) → IsScanned (text ++ take (i + 1) bytes) j
loop_scanned text bytes i m j here p next =
    let more : (text ++ take i bytes) ++ get_or bytes i 0 ∷ [] ≡ text ++ take (i + 1) bytes =
    append_assoc text (take i bytes) (get_or bytes i 0 ∷ []) ∙ ap (λ t. text ++ t) (sym (take_more bytes i 0 here)) in
    subst (λ t. IsScanned t j) more
    (subst (λ n. IsScanned ((text ++ take i bytes) ++ get_or bytes i 0 ∷ []) n) (sym next)
    (IsScanned-more (text ++ take i bytes) m (get_or bytes i 0) p))

-- ---- what is found

none_passed : (text : List ℕ) (m : ℕ) → IsPassed text m → text_length text ≡ None
none_passed text m p =
    ap text_length (sym (append-nil text)) ∙ sym (Stands_all (text ++ []) (length text) m (stands text m p []))

found_within : (text : List ℕ) → skip_pairs text ≡ text → length text ≤ head_limit → found_in text ≡ found_by (text_length text) (length text)
unfolding found_in
found_within text whole within =
    ap (λ s. found_by (text_length (take head_limit s)) (length s)) whole
    ∙ ap (λ s. found_by (text_length s) (length text)) (take_all head_limit text within)

length_scanned : (text : List ℕ) (m : ℕ) → IsScanned text m → text_length text ≡ (if m == 4 then Some (length text) else None)
length_scanned text m s = elim (cases_Bool (m == 4)) [
  | inl is ↦ rw is (s.0 (grind (arith, is)))
  | inr is ↦ rw is (none_passed text m (s.1 (grind (arith, is))))
]

found_placed : (text : List ℕ) (p : Position) → IsPlaced text p → found_by (if p.matched == 4 then Some p.len else None) p.len ≡ found_in text
found_placed text p s =
    ap (λ n. found_by (if p.matched == 4 then Some n else None) n) s.count
    ∙ ap (λ o. found_by o (length text)) (sym (length_scanned text p.matched s.scanned))
    ∙ sym (found_within text s.whole (omega (arith, s.count, s.within)))

-- a head that is found is all that was passed
head_is_all : (m len n : ℕ) → found_by (if m == 4 then Some len else None) len ≡ Head n → n ≡ len
head_is_all m len n is = by (m == 4) (from_head (if m == 4 then Some len else None) len n is)
  where
    by : (t : Bool) → cond t (Some len) None ≡ Some n → n ≡ len
    by true is = cc
    by false is = cc

-- while nothing is found, no head has ended, and more may come
open_from : (text : List ℕ) (p : Position) → IsPlaced text p → found_in text ≡ NeedMore → IsOpen text p
open_from text p s goes = record {
  whole = s.whole;
  count = s.count;
  few = omega (arith, s.count, ((need_more_verdict text).0 goes).0, ap length s.whole);
  passed = s.scanned.1 (λ four. head≢more (ap (λ n. found_by (if n == 4 then Some p.len else None) p.len) (sym four) ∙ found_placed text p s ∙ goes));
}
  where
    head≢more : Head p.len ≢ NeedMore
    head≢more e = cc

-- ---- the pairs in front

skip_pairs-short : (s : List ℕ) → length (skip_pairs s) ≤ length s
unfolding skip_pairs
skip_pairs-short [] = omega arith
skip_pairs-short (b ∷ []) = omega arith
skip_pairs-short (b ∷ c ∷ rest) = by (skip_pairs-short rest) (b == 13 && c == 10)
  where
    by : length (skip_pairs rest) ≤ length rest → (t : Bool) → length (cond t (skip_pairs rest) (b ∷ c ∷ rest)) ≤ length (b ∷ c ∷ rest)
    by further true = omega (arith, further)
    by further false = omega arith

-- a pair is longer than what stays of it
pair_goes : (b c : ℕ) (rest : List ℕ) → skip_pairs (b ∷ c ∷ rest) ≡ b ∷ c ∷ rest → (b == 13 && c == 10) ≡ false
unfolding skip_pairs
pair_goes b c rest whole = by (b == 13 && c == 10) refl whole
  where
    by : (t : Bool) → (b == 13 && c == 10) ≡ t → cond t (skip_pairs rest) (b ∷ c ∷ rest) ≡ b ∷ c ∷ rest → (b == 13 && c == 10) ≡ false
    by true is whole = absurd (omega (arith, ap length whole, skip_pairs-short rest))
    by false is whole = is

-- where there is no pair in front, there is none in front of a beginning
pub whole-take : (s : List ℕ) (n : ℕ) → skip_pairs s ≡ s → skip_pairs (take n s) ≡ take n s
unfolding skip_pairs
whole-take s zero whole = refl
whole-take [] (suc n) whole = refl
whole-take (b ∷ rest) (suc zero) whole = refl
whole-take (b ∷ []) (suc (suc n)) whole = refl
whole-take (b ∷ c ∷ rest) (suc (suc n)) whole =
    ap (λ t. cond t (skip_pairs (take n rest)) (b ∷ c ∷ take n rest)) (pair_goes b c rest whole)

-- a beginning past the pairs
take_past : (s : List ℕ) (at n k : ℕ) → k ≡ at + n → drop at s ≡ skip_pairs s → at ≤ length s → skip_pairs (take k s) ≡ take n (drop at s)
unfolding skip_pairs
take_past s zero n k e is within =
    let same : k ≡ n = omega (arith, e) in rw same (whole-take s n (sym is))
take_past [] (suc at) n k e is within = absurd (omega (arith, within))
take_past (b ∷ []) (suc at) n k e is within = absurd (omega (arith, ap length is, length-drop {A = ℕ} at []))
take_past (b ∷ c ∷ rest) (suc zero) n k e is within = absurd (by (b == 13 && c == 10) is)
  where
    by : (t : Bool) → c ∷ rest ≢ cond t (skip_pairs rest) (b ∷ c ∷ rest)
    by true is = omega (arith, ap length is, skip_pairs-short rest)
    by false is = omega (arith, ap length is)
take_past (b ∷ c ∷ rest) (suc (suc at)) n zero e is within = absurd (omega (arith, e))
take_past (b ∷ c ∷ rest) (suc (suc at)) n (suc zero) e is within = absurd (omega (arith, e))
take_past (b ∷ c ∷ rest) (suc (suc at)) n (suc (suc k)) e is within =
    by (b == 13 && c == 10) (take_past rest at n k (omega (arith, e))) is
  where
    by : (t : Bool) → (drop at rest ≡ skip_pairs rest → at ≤ length rest → skip_pairs (take k rest) ≡ take n (drop at rest))
        → drop at rest ≡ cond t (skip_pairs rest) (b ∷ c ∷ rest)
        → cond t (skip_pairs (take k rest)) (b ∷ c ∷ take k rest) ≡ take n (drop at rest)
    by true further is = further is (omega (arith, within))
    by false further is = absurd (omega (arith, ap length is, length-drop at rest))

pub skip_pairs-take : (s : List ℕ) (at n : ℕ) → drop at s ≡ skip_pairs s → at ≤ length s → skip_pairs (take (at + n) s) ≡ take n (drop at s)
skip_pairs-take s at n = take_past s at n (at + n) refl

-- nothing was held
pub front_empty : (held piece : List ℕ) (at n : ℕ) → length held ≡ 0 → drop at piece ≡ skip_pairs piece → at ≤ length piece
    → skip_pairs (held ++ take (at + n) piece) ≡ take n (drop at piece)
front_empty [] piece at n none is within = skip_pairs-take piece at n is within
front_empty (b ∷ held) piece at n none is within = absurd (omega (arith, none))

-- a pair that was begun before
skip_pairs-begun : (s : List ℕ) (at n : ℕ) → drop at s ≡ skip_pairs s → at ≤ length s
    → skip_pairs (13 ∷ take (1 + at + n) (10 ∷ s)) ≡ take n (drop (1 + at) (10 ∷ s))
unfolding skip_pairs
skip_pairs-begun s at n is within =
    let all : 1 + at + n ≡ suc (at + n) = omega arith in
    let front : 1 + at ≡ suc at = omega arith in
    rw (all, front) (skip_pairs-take s at n is within)

pub front_begun : (held piece rest : List ℕ) (at n : ℕ) → held ≡ 13 ∷ [] → piece ≡ 10 ∷ rest → drop at rest ≡ skip_pairs rest → at ≤ length rest
    → skip_pairs (held ++ take (1 + at + n) piece) ≡ take n (drop (1 + at) piece)
front_begun held piece rest at n cr lf is within =
    rw (cr, lf) (skip_pairs-begun rest at n is within)

-- what can't be of a pair
pub whole-more : (held piece : List ℕ) → skip_pairs held ≡ held → 0 < length held
    → (held ≡ 13 ∷ [] → piece ≢ 10 ∷ drop 1 piece) → skip_pairs (held ++ piece) ≡ held ++ piece
unfolding skip_pairs
whole-more [] piece whole some apart = absurd (omega (arith, some))
whole-more (b ∷ []) [] whole some apart = refl
whole-more (b ∷ []) (c ∷ rest) whole some apart = by (b == 13 && c == 10) refl
  where
    by : (t : Bool) → (b == 13 && c == 10) ≡ t → cond t (skip_pairs rest) (b ∷ c ∷ rest) ≡ b ∷ c ∷ rest
    by true is =
        let first = and_parts (b == 13) (c == 10) is in
        absurd (apart (ap (λ v. v ∷ []) (grind (arith, first.0))) (ap (λ v. v ∷ rest) (grind (arith, first.1))))
    by false is = refl
whole-more (b ∷ c ∷ rest) piece whole some apart =
    skip_pairs-append (b ∷ c ∷ rest) piece (omega (arith, ap length whole)) ∙ ap (λ t. t ++ piece) whole

-- the same of a beginning
whole-more-take : (held piece : List ℕ) (n : ℕ) → skip_pairs (held ++ piece) ≡ held ++ piece
    → skip_pairs (held ++ take n piece) ≡ held ++ take n piece
whole-more-take held piece n whole =
    let front : take (length held + n) (held ++ piece) ≡ held ++ take n piece = take-append-add held piece n in
    ap skip_pairs (sym front) ∙ whole-take (held ++ piece) (length held + n) whole ∙ front

pub front_all : (held piece : List ℕ) (n : ℕ) → skip_pairs held ≡ held → 0 < length held → (held ≡ 13 ∷ [] → piece ≢ 10 ∷ drop 1 piece)
    → skip_pairs (held ++ take (0 + n) piece) ≡ held ++ take n piece
front_all held piece n whole some apart =
    let same : 0 + n ≡ n = omega arith in
    rw same (whole-more-take held piece n (whole-more held piece whole some apart))

-- a lone byte is CR exactly where one byte of an empty line is matched
pub return_held : (text : List ℕ) → length text ≡ 1 → IsPassed text 1 → text ≡ 13 ∷ []
unfolding text_length
return_held [] one p = absurd (omega (arith, one))
return_held (b ∷ c ∷ rest) one p = absurd (omega (arith, one))
return_held (b ∷ []) one p = elim (cases_eq b 13) [
  | inl is ↦ ap (λ v. v ∷ []) is
  | inr apart ↦ absurd (none≢some _ (sym (ap (λ t. cond (t && true) (Some 4) None) (ne_eqb 13 b (λ e. apart (sym e)))) ∙ p.alike (10 ∷ 13 ∷ 10 ∷ [])))
]
  where
    none≢some : (n : ℕ) → None ≢ Some n
    none≢some n e = cc

pub return_matched : (m : ℕ) → IsPassed (13 ∷ []) m → m ≡ 1
unfolding text_length
return_matched zero p = absurd (some≢none _ (p.alike (10 ∷ 13 ∷ 10 ∷ [])))
  where
    some≢none : (n : ℕ) → Some n ≢ None
    some≢none n e = cc
return_matched (suc m) p = omega (arith, p.held)

-- a pair that ends with a piece, and one that doesn't
pub pair_held : (text piece : List ℕ) (p : Position) → IsOpen text p
    → (p.len == 1 && p.matched == 1 && starts_with nat_eq piece (10 ∷ [])) ≡ true → (text ≡ 13 ∷ []) × (piece ≡ 10 ∷ drop 1 piece)
pair_held text piece p o is =
    let both = and_parts (p.len == 1 && p.matched == 1) (starts_with nat_eq piece (10 ∷ [])) is in
    let lone = and_parts (p.len == 1) (p.matched == 1) both.0 in
    let len : p.len ≡ 1 = grind (arith, lone.0) in
    let one : p.matched ≡ 1 = grind (arith, lone.1) in (
      return_held text (omega (arith, len, o.count)) (subst (IsPassed text) one o.passed),
      (starts_is Decides-eqb piece (10 ∷ []) _ refl).0 both.1,
    )

pub pair_apart : (text piece : List ℕ) (p : Position) → IsOpen text p
    → (p.len == 1 && p.matched == 1 && starts_with nat_eq piece (10 ∷ [])) ≡ false → text ≡ 13 ∷ [] → piece ≢ 10 ∷ drop 1 piece
pair_apart text piece p o is cr lf =
    let len : p.len ≡ 1 = omega (arith, o.count, ap length cr) in
    let matched : p.matched ≡ 1 = return_matched p.matched (subst (λ t. IsPassed t p.matched) cr o.passed) in
    let starts : starts_with nat_eq piece (10 ∷ []) ≡ true = (starts_is Decides-eqb piece (10 ∷ []) _ refl).1 (drop 1 piece) lf in
    false≢true (sym is ∙ (rw (len, matched, starts) refl))

-- what stays before a piece
pub open_none : (p : Position) → p.len ≡ 0 → p.matched ≡ 0 → IsOpen [] p
unfolding skip_pairs
open_none p len matched = record {
  whole = refl;
  count = len;
  few = omega (arith, len);
  passed = subst (IsPassed []) (sym matched) IsPassed-none;
}

-- without pairs in front is without pairs in front
whole_from : (bytes text : List ℕ) → skip_pairs bytes ≡ text → skip_pairs text ≡ text
whole_from bytes text is =
    let twice = skip_pairs-twice bytes [] in
    ap skip_pairs (sym is ∙ sym (append-nil (skip_pairs bytes))) ∙ twice ∙ ap skip_pairs (append-nil bytes) ∙ is

found_skipped : (bytes : List ℕ) → found_in (skip_pairs bytes) ≡ found_in bytes
found_skipped bytes =
    ap found_in (sym (append-nil (skip_pairs bytes))) ∙ found_in-dropped bytes [] ∙ ap found_in (append-nil bytes)

-- ---- a step

-- the place behind a piece of the rest, of which there is room for so much
placed_on : (front rest : List ℕ) (p q : Position) (room n : ℕ) → IsOpen front p
    → room ≡ min (length rest) (head_limit - p.len) → n ≤ length (take room rest)
    → skip_pairs (front ++ take n rest) ≡ front ++ take n rest
    → q.len ≡ p.len + n → IsScanned (front ++ take n (take room rest)) q.matched → IsPlaced (front ++ take n rest) q
placed_on front rest p q room n o fits few whole len scanned = record {
  whole = whole;
  count = omega (arith, len, few, o.count, length-append front (take n rest), length-take n rest, length-take room rest);
  within = omega (arith, len, few, fits, o.few, length-take room rest);
  scanned = subst (λ t. IsScanned (front ++ t) q.matched) (take-take n room rest (omega (arith, few, length-take room rest))) scanned;
}

-- a step in the words of the calls: the rest stands behind what is skipped, and n of its bytes are passed
pub step_from : (text piece rest : List ℕ) (p : Position) (s : Step) (room n : ℕ) → IsOpen (kept s.is_anew text) p
    → ((k : ℕ) → skip_pairs (text ++ take (s.start + k) piece) ≡ kept s.is_anew text ++ take k (drop s.start piece))
    → rest ≡ drop s.start piece → s.start ≤ length piece → room ≡ min (length rest) (head_limit - p.len)
    → n ≤ length (take room rest) → (s.position.matched ≢ 4 → n ≡ length (take room rest))
    → IsScanned (kept s.is_anew text ++ take n (take room rest)) s.position.matched
    → s.end ≡ s.start + n → s.position.len ≡ p.len + n → IsStep text piece s
step_from text piece rest p s room n o front behind start fits few all scanned end len =
    let part : slice_range piece s.start s.end ≡ take n rest =
    ap (λ k. take k (drop s.start piece)) (omega (arith, end)) ∙ ap (take n) (sym behind) in
    let skipped : kept s.is_anew text ++ take n rest ≡ skip_pairs (text ++ take s.end piece) =
    ap (λ t. kept s.is_anew text ++ take n t) behind ∙ sym (front n) ∙ ap (λ k. skip_pairs (text ++ take k piece)) (sym end) in
    record {
      skipped = ap (λ t. kept s.is_anew text ++ t) part ∙ skipped;
      placed = subst (λ t. IsPlaced (kept s.is_anew text ++ t) s.position) (sym part)
          (placed_on (kept s.is_anew text) rest p s.position room n o fits few (whole_from _ _ (sym skipped)) len scanned);
      all = λ apart more. omega (arith, all apart, end, len, more, fits, start, ap length behind, length-take room rest, length-drop s.start piece);
    }

-- ---- told at the byte

at_once : (bytes more : List ℕ) → 0 < length more → length (skip_pairs (bytes ++ more)) ≤ head_limit
    → ((len : ℕ) → found_in (bytes ++ more) ≡ Head len → len ≡ length (skip_pairs (bytes ++ more))) → found_in bytes ≡ NeedMore
at_once bytes more some within last = by (found_in bytes) refl
  where
    by : (f : Found) → found_in bytes ≡ f → found_in bytes ≡ NeedMore
    by NeedMore is = is
    by (Head len) is =
        let text = (head_verdict bytes len).0 is in
        let all = last len (head_verdict_stays bytes more len is) in
        absurd (omega (arith, text.within, all, some, ap length (pairs_stay bytes more len is), length-append (skip_pairs bytes) more))
    by TooLarge is =
        let was = (too_large_verdict bytes).0 is in
        absurd (omega (arith, was.0, within, some, ap length (skip_pairs-append bytes more (omega (arith, was.0))), length-append (skip_pairs bytes) more))

at_once_fed : (held piece : List ℕ) (k n : ℕ) → n < k → k ≤ length piece → length (skip_pairs (held ++ take k piece)) ≤ head_limit
    → ((len : ℕ) → found_in (held ++ take k piece) ≡ Head len → len ≡ length (skip_pairs (held ++ take k piece)))
    → found_in (held ++ take n piece) ≡ NeedMore
at_once_fed held piece k n less fits within last =
    let more = drop n (take k piece) in
    let all : (held ++ take n piece) ++ more ≡ held ++ take k piece =
    append_assoc held (take n piece) more ∙ ap (λ t. held ++ (t ++ more)) (sym (take-take n k piece (omega (arith, less)))) ∙ ap (λ t. held ++ t) (take-append-drop n (take k piece)) in
    at_once (held ++ take n piece) more
    (omega (arith, less, fits, length-drop n (take k piece), length-take k piece))
    (rw all within)
    (rw all last)

-- ---- a piece that is fed

pub Stands_none : (s : HeadSearch) → s.text.items ≡ [] → s.position.len ≡ 0 → s.position.matched ≡ 0 → s.is_lost ≡ false → Stands s []
unfolding found_in skip_pairs text_length
Stands_none s text len matched found = record {
  held = record {
    text = text ∙ ap (λ b. kept b []) (sym found);
    placed = record {
      whole = refl;
      count = len;
      within = omega (arith, len);
      scanned = (λ four. absurd (omega (arith, four, matched)), λ _. (open_none s.position len matched).passed);
    };
  };
  goes_on = refl;
}

pub open_stands : (s : HeadSearch) (bytes : List ℕ) → Stands s bytes → IsOpen (skip_pairs bytes) s.position
open_stands s bytes st = open_from (skip_pairs bytes) s.position st.held.placed (found_skipped bytes ∙ st.goes_on)

-- the text of a search that holds one has no more bytes than may be
pub held_within : (s : HeadSearch) (bytes : List ℕ) → Holds s bytes → length (skip_pairs bytes) ≤ head_limit
held_within s bytes h = omega (arith, h.placed.count, h.placed.within)

pub head_whole : (s : HeadSearch) (bytes : List ℕ) (len : ℕ) → Holds s bytes → found_in bytes ≡ Head len → len ≡ length (skip_pairs bytes)
head_whole s bytes len h is =
    head_is_all s.position.matched s.position.len len (found_placed (skip_pairs bytes) s.position h.placed ∙ found_skipped bytes ∙ is) ∙ h.placed.count

pub searched_from : (bytes piece : List ℕ) (step : Step) (f : Found) (old new : HeadSearch) → Stands old bytes
    → step.end ≤ length piece → (IsOpen (skip_pairs bytes) old.position → IsStep (skip_pairs bytes) piece step)
    → f ≡ found_by (if step.position.matched == 4 then Some step.position.len else None) step.position.len
    → new.position ≡ step.position
    → new.text.items ≡ kept new.is_lost (step_text (skip_pairs bytes) piece step)
    → IsSearched bytes piece (step.end, f) new
searched_from bytes piece step f old new st within steps found place text =
    let s = steps (open_stands old bytes st) in
    let skipped : step_text (skip_pairs bytes) piece step ≡ skip_pairs (bytes ++ take step.end piece) =
    s.skipped ∙ skip_pairs-twice bytes (take step.end piece) in
    let placed : IsPlaced (skip_pairs (bytes ++ take step.end piece)) step.position = subst (λ t. IsPlaced t step.position) skipped s.placed in
    let is : f ≡ found_in (bytes ++ take step.end piece) =
    found ∙ found_placed (skip_pairs (bytes ++ take step.end piece)) step.position placed ∙ found_skipped (bytes ++ take step.end piece) in
    let held : Holds new (bytes ++ take step.end piece) = record {
      text = text ∙ ap (kept new.is_lost) skipped;
      placed = subst (IsPlaced (skip_pairs (bytes ++ take step.end piece))) (sym place) placed;
    } in
    let all : f ≡ NeedMore → step.end ≡ length piece = λ more.
    let o = open_from (skip_pairs (bytes ++ take step.end piece)) step.position placed (found_skipped (bytes ++ take step.end piece) ∙ sym is ∙ more) in
    s.all (λ four. omega (arith, four, o.passed.few)) o.few in
    record {
      within = within;
      found = is;
      at_once = λ n less. at_once_fed bytes piece step.end n less within (held_within new _ held) (λ len. head_whole new _ len held);
      all = all;
      held = held;
      stands = λ more. record {
        held = subst (λ t. Holds new (bytes ++ t)) (take_all step.end piece (omega (arith, all more))) held;
        goes_on = ap (λ t. found_in (bytes ++ t)) (sym (take_all step.end piece (omega (arith, all more)))) ∙ sym is ∙ more;
      };
    }
