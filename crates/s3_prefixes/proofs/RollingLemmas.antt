-- Where the first delimiter of a key ends, and its common prefix.
use Rattle.std.proofs.Common.{◌≡◌, ℕ, suc, ◌+◌, ◌==◌, ◌<◌, ◌≤◌, true, false, if◌then◌else◌, List, [], ◌∷◌, ◌++◌, length, take, drop, get_or, Option, Some, None, refl, sym, ap, ◌⊎◌, ◌∙◌, arith, subst, ⊎_elim, append_assoc}
use Rattle.std.specs.Prelude.{option_map, nat_eq}
use Rattle.std.specs.List.{starts_with}
use Rattle.std.proofs.lemmas.List.{take_more, drop_more, take-append-drop, length-append, length-take-le}
use Rattle.std.proofs.Math.Seq.{take-append_seam}
use Rattle.std.proofs.lemmas.Bool.{cases_Bool}
use Rattle.std.specs.Str.{IsUtf8, IsCharBoundary}
use Rattle.std.proofs.lemmas.Str.{IsUtf8-append, IsUtf8-take, IsCharBoundary-start}
use Rattle.std.proofs.lemmas.Bool.Decides.{Decides-eqb}
use Rattle.std.proofs.lemmas.Slice.Eq.{starts_is}
use Rattle.s3_prefixes.specs.Items.{up_to_first, rolled_up}
use Rattle.s3_prefixes.specs.Tellings.{first_rolled}

-- ---- where the first delimiter ends

-- behind a place at which it isn't
mapped_twice : (front : List ℕ) (b : ℕ) (o : Option (List ℕ)) → option_map (λ f. front ++ f) (option_map (λ f. b ∷ f) o) ≡ option_map (λ f. (front ++ b ∷ []) ++ f) o
mapped_twice front b None = refl
mapped_twice front b (Some f) = ap Some (sym (append_assoc front (b ∷ []) f))

pub not_here : (delimiter text : List ℕ) (at : ℕ) → at < length text → starts_with nat_eq (drop at text) delimiter ≡ false
    → option_map (λ f. take (at + 1) text ++ f) (up_to_first delimiter (drop (at + 1) text)) ≡ option_map (λ f. take at text ++ f) (up_to_first delimiter (drop at text))
not_here delimiter text at within other =
    let b = get_or text at 0 in
    let more = drop_more text at 0 within in
    let other_here : starts_with nat_eq (b ∷ drop (at + 1) text) delimiter ≡ false = ap (λ s. starts_with nat_eq s delimiter) (sym more) ∙ other in
    ap (λ front. option_map (λ f. front ++ f) (up_to_first delimiter (drop (at + 1) text))) (take_more text at 0 within)
    ∙ sym (mapped_twice (take at text) b (up_to_first delimiter (drop (at + 1) text)))
    ∙ ap (option_map (λ f. take at text ++ f)) (sym (rw other_here refl))
    ∙ ap (λ s. option_map (λ f. take at text ++ f) (up_to_first delimiter s)) (sym more)

-- a text up to the end of what stands at a place
pub cut_behind : (text : List ℕ) (at : ℕ) (n rest : List ℕ) → at ≤ length text → drop at text ≡ n ++ rest → take (at + length n) text ≡ take at text ++ n
cut_behind text at n rest within is =
    let front = take at text in
    let whole : text ≡ (front ++ n) ++ rest = sym (take-append-drop at text) ∙ ap (λ r. front ++ r) is ∙ sym (append_assoc front n rest) in
    let long : length (front ++ n) ≡ at + length n = omega (arith, length-append front n, length-take-le at text within) in
    ap (take (at + length n)) whole ∙ ap (λ k. take k ((front ++ n) ++ rest)) (sym long) ∙ take-append_seam (front ++ n) rest

-- at a place at which it is
pub here : (delimiter text : List ℕ) (at : ℕ) → at < length text → starts_with nat_eq (drop at text) delimiter ≡ true
    → option_map (λ f. take at text ++ f) (up_to_first delimiter (drop at text)) ≡ Some (take (at + length delimiter) text)
here delimiter text at within begun =
    let more = drop_more text at 0 within in
    let begun_here : starts_with nat_eq (get_or text at 0 ∷ drop (at + 1) text) delimiter ≡ true = ap (λ s. starts_with nat_eq s delimiter) (sym more) ∙ begun in
    let found : up_to_first delimiter (drop at text) ≡ Some delimiter = ap (up_to_first delimiter) more ∙ rw begun_here refl in
    ap (option_map (λ f. take at text ++ f)) found ∙ ap Some (sym (cut_behind text at delimiter (drop (length delimiter) (drop at text)) (omega arith) ((starts_is Decides-eqb (drop at text) delimiter (starts_with nat_eq (drop at text) delimiter) refl).0 begun)))

-- ---- where the common prefix ends

first_found : (delimiter text : List ℕ) → (length delimiter == 0) ≡ false → first_rolled delimiter text ≡ up_to_first delimiter text
first_found delimiter text some = rw some refl

pub found_first : (delimiter text : List ℕ) → 0 < length delimiter → up_to_first delimiter text ≡ first_rolled delimiter text
found_first delimiter text some = sym (first_found delimiter text (grind arith))

rolled-first : (prefix delimiter key : List ℕ) → rolled_up prefix delimiter key ≡ option_map (λ front. prefix ++ front) (first_rolled delimiter (drop (length prefix) key))
rolled-first prefix delimiter key = ⊎_elim
    (λ none. rw none refl)
    (λ some. rw some refl)
    (cases_Bool (length delimiter == 0))

-- a key up to the end of its first delimiter behind the prefix
key_cut : (prefix key : List ℕ) (end : ℕ) → starts_with nat_eq key prefix ≡ true → end ≤ length (drop (length prefix) key) → take (length prefix + end) key ≡ prefix ++ take end (drop (length prefix) key)
key_cut prefix key end begun within =
    let w = drop (length prefix) key in
    let whole = (starts_is Decides-eqb key prefix (starts_with nat_eq key prefix) refl).0 begun in
    let long : length key ≡ length prefix + length w = ap length whole ∙ length-append prefix w in
    let cut = cut_behind key (length prefix) (take end w) (drop end w) (omega arith) (sym (take-append-drop end w)) in
    ap (λ n. take (length prefix + n) key) (sym (length-take-le end w within))
    ∙ cut
    ∙ ap (λ r. r ++ take end w) (ap (take (length prefix)) whole ∙ take-append_seam prefix w)

pub common_cut : (prefix delimiter key : List ℕ) (end : ℕ) → starts_with nat_eq key prefix ≡ true → end ≤ length (drop (length prefix) key)
    → Some (take end (drop (length prefix) key)) ≡ first_rolled delimiter (drop (length prefix) key) → Some (take (length prefix + end) key) ≡ rolled_up prefix delimiter key
common_cut prefix delimiter key end begun within found =
    ap Some (key_cut prefix key end begun within)
    ∙ ap (option_map (λ front. prefix ++ front)) found
    ∙ sym (rolled-first prefix delimiter key)

-- what was found ends with the delimiter, and with a byte in front as well
later_ends : (b : ℕ) (delimiter f : List ℕ) (found : Option (List ℕ)) → ((g : List ℕ) → found ≡ Some g → (front : List ℕ) × (g ≡ front ++ delimiter))
    → option_map (λ g. b ∷ g) found ≡ Some f → (front : List ℕ) × (f ≡ front ++ delimiter)
later_ends b delimiter f None ends is = absurd (cc)
later_ends b delimiter f (Some g) ends is =
    let rest = ends g refl in
    let whole : f ≡ b ∷ g = cc in (b ∷ rest.0, whole ∙ ap (λ r. b ∷ r) rest.1)

found_ends : (d : ℕ) (ds s f : List ℕ) → up_to_first (d ∷ ds) s ≡ Some f → (g : List ℕ) × (f ≡ g ++ d ∷ ds)
found_ends d ds [] f is = absurd (cc)
found_ends d ds (b ∷ s) f is =
    elim (starts_with nat_eq (b ∷ s) (d ∷ ds)) as (λ t. (if t then Some (d ∷ ds) else option_map (λ g. b ∷ g) (up_to_first (d ∷ ds) s)) ≡ Some f → (g : List ℕ) × (f ≡ g ++ d ∷ ds)) [
      | true ↦ λ here. ([], cc)
      | false ↦ λ later. later_ends b (d ∷ ds) f (up_to_first (d ∷ ds) s) (λ g found. found_ends d ds s g found) later
    ] is

get_or-behind : (front : List ℕ) (d : ℕ) (rest : List ℕ) → get_or (front ++ d ∷ rest) (length front) 0 ≡ d
get_or-behind [] d rest = refl
get_or-behind (b ∷ front) d rest = get_or-behind front d rest

-- a text may be cut behind another text in it
cut_utf8 : (front : List ℕ) (d : ℕ) (ds rest key : List ℕ) → IsUtf8 key → IsUtf8 (d ∷ ds) → key ≡ front ++ (d ∷ ds ++ rest) → IsUtf8 (front ++ d ∷ ds)
cut_utf8 front d ds rest key text delimiter is =
    let at : get_or key (length front) 0 ≡ d = ap (λ k. get_or k (length front) 0) is ∙ get_or-behind front d (ds ++ rest) in
    let long : length key ≡ length front + suc (length (ds ++ rest)) = ap length is ∙ length-append front (d ∷ ds ++ rest) in
    let first = (IsCharBoundary-start (d ∷ ds) delimiter).1 (omega arith) in
    let border : IsCharBoundary key (length front) = (omega arith, λ within high. rw at (first (rw (sym at) high))) in
    let same : take (length front) key ≡ front = ap (take (length front)) is ∙ take-append_seam front (d ∷ ds ++ rest) in
    IsUtf8-append front (d ∷ ds) (subst IsUtf8 same (IsUtf8-take key (length front) text border)) delimiter

pub common_utf8 : (prefix delimiter key : List ℕ) (end : ℕ) → IsUtf8 key → IsUtf8 delimiter → starts_with nat_eq key prefix ≡ true → end ≤ length (drop (length prefix) key)
    → Some (take end (drop (length prefix) key)) ≡ first_rolled delimiter (drop (length prefix) key) → IsUtf8 (take (length prefix + end) key)
common_utf8 prefix [] key end text delimiter begun within found = absurd (cc)
common_utf8 prefix (d ∷ ds) key end text delimiter begun within found =
    let w = drop (length prefix) key in
    let ends = found_ends d ds w (take end w) (sym (found ∙ first_found (d ∷ ds) w (grind arith))) in
    let g = ends.0 in
    let cut : take (length prefix + end) key ≡ (prefix ++ g) ++ d ∷ ds =
    key_cut prefix key end begun within ∙ ap (λ r. prefix ++ r) ends.1 ∙ sym (append_assoc prefix g (d ∷ ds)) in
    let whole : key ≡ (prefix ++ g) ++ (d ∷ ds ++ drop (length prefix + end) key) =
    sym (take-append-drop (length prefix + end) key) ∙ ap (λ r. r ++ drop (length prefix + end) key) cut ∙ append_assoc (prefix ++ g) (d ∷ ds) (drop (length prefix + end) key) in
    subst IsUtf8 (sym cut) (cut_utf8 (prefix ++ g) d ds (drop (length prefix + end) key) key text delimiter whole)
