-- What stands for a text is read as that text: each reference as the character that it stands for.
use Rattle.std.proofs.Common.{◌≡◌, refl, sym, ap, ◌∙◌, ◌<◌, ℕ, Bool, true, false, cond, not, ◌&&◌, ◌||◌, ◌==◌, inl, inr, List, [], ◌∷◌, ◌++◌, codes, Option, Some, None, option_map, append-nil, append_assoc, nat_lt, nat_eq, arith}
use Rattle.std.specs.List.{list_all, onto_first}
use Rattle.std.specs.Char.{encode_utf8}
use Rattle.std.proofs.lemmas.Bool.{and_parts, or_cases, not-true, ne_eqb, eqb-true, ltb-true, eqb-false, cases_eq, agree_below, agree_below_at}
use Rattle.s3_text.specs.Cut.{parts_at}
use Rattle.s3_text.specs.Characters.{ampersand}
use Rattle.s3_xml.specs.Characters.{is_control, is_noncharacter}
use Rattle.s3_xml.specs.Printed.{byte_digits, numbered, escaped_byte, escaped_noncharacter, escaped}
use Rattle.s3_xml.specs.Option.{◌>>=◌}
use Rattle.s3_xml.specs.Grammar.{cut_at, referred, resolved, all_resolved, first_and_resolved, dereferenced}

-- a byte that stands in a reference, between its ends
abbrev is_inner : ℕ → Bool
is_inner b = not (b == 38) && not (b == 59)

-- ---- one part, and the parts behind it

twice : (front : List ℕ) (b : ℕ) (o : Option (List ℕ))
    → option_map (λ rest. (b ∷ front) ++ rest) o ≡ option_map (λ rest. b ∷ rest) (option_map (λ rest. front ++ rest) o)
twice front b None = refl
twice front b (Some rest) = refl

first_plain : (b : ℕ) (parts : List (List ℕ)) → first_and_resolved (onto_first b parts) ≡ option_map (λ rest. b ∷ rest) (first_and_resolved parts)
first_plain b [] = refl
first_plain b (part ∷ parts) = twice part b (all_resolved parts)

-- a byte that begins no reference
plain_read : (b : ℕ) (xs : List ℕ) → (b == 38) ≡ false → dereferenced (b ∷ xs) ≡ option_map (λ rest. b ∷ rest) (dereferenced xs)
unfolding dereferenced
plain_read b xs other = rw other (first_plain b (parts_at ampersand xs))

some_part : (xs : List ℕ) → (part : List ℕ) × (parts : List (List ℕ)) × (parts_at ampersand xs ≡ part ∷ parts)
some_part [] = ([], [], refl)
some_part (x ∷ xs) = by (x == 38) (some_part xs)
  where
    by : (is : Bool) → (part : List ℕ) × (parts : List (List ℕ)) × (parts_at ampersand xs ≡ part ∷ parts)
        → (part : List ℕ) × (parts : List (List ℕ)) × (cond is ([] ∷ parts_at ampersand xs) (onto_first x (parts_at ampersand xs)) ≡ part ∷ parts)
    by true more = ([], parts_at ampersand xs, refl)
    by false more = (x ∷ more.0, more.1, ap (onto_first x) more.2)

parts_behind : (name xs part : List ℕ) (parts : List (List ℕ)) → list_all is_inner name ≡ true → parts_at ampersand xs ≡ part ∷ parts
    → parts_at ampersand (name ++ 59 ∷ xs) ≡ (name ++ 59 ∷ part) ∷ parts
parts_behind [] xs part parts inner is = ap (onto_first 59) is
parts_behind (b ∷ bs) xs part parts inner is =
    let p = and_parts (is_inner b) (list_all is_inner bs) inner in
    let q = and_parts (not (b == 38)) (not (b == 59)) p.0 in
    rw (not-true (b == 38) q.0) (ap (onto_first b) (parts_behind bs xs part parts p.1 is))

cut_name : (name rest : List ℕ) → list_all is_inner name ≡ true → cut_at (codes ";") (name ++ 59 ∷ rest) ≡ Some (name, rest)
unfolding cut_at
cut_name [] rest inner = refl
cut_name (b ∷ bs) rest inner =
    let p = and_parts (is_inner b) (list_all is_inner bs) inner in
    let q = and_parts (not (b == 38)) (not (b == 59)) p.0 in
    let other : nat_eq 59 b ≡ false = ne_eqb 59 b (λ e. eqb-false b 59 (not-true (b == 59) q.1) (sym e)) in
    rw other (ap (option_map (λ cut. (b ∷ cut.0, cut.1))) (cut_name bs rest p.1))

chained : (c part : List ℕ) (o : Option (List ℕ))
    → (o >>= (λ rest. Some ((c ++ part) ++ rest))) ≡ option_map (λ rest. c ++ rest) (option_map (λ rest. part ++ rest) o)
chained c part None = refl
chained c part (Some rest) = ap Some (append_assoc c part rest)

same : (o : Option (List ℕ)) → option_map (λ rest. [] ++ rest) o ≡ o
same None = refl
same (Some rest) = refl

resolves : (name c part : List ℕ) → list_all is_inner name ≡ true → referred name ≡ Some c → resolved (name ++ 59 ∷ part) ≡ Some (c ++ part)
resolves name c part inner is = rw (cut_name name part inner, is)

with_parts : (name c part : List ℕ) (parts : List (List ℕ)) → list_all is_inner name ≡ true → referred name ≡ Some c
    → all_resolved ((name ++ 59 ∷ part) ∷ parts) ≡ option_map (λ rest. c ++ rest) (first_and_resolved (part ∷ parts))
with_parts name c part parts inner is = rw (resolves name c part inner is) (chained c part (all_resolved parts))

-- a reference in front
reference_read : (name c xs : List ℕ) → list_all is_inner name ≡ true → referred name ≡ Some c
    → dereferenced (38 ∷ (name ++ 59 ∷ xs)) ≡ option_map (λ rest. c ++ rest) (dereferenced xs)
unfolding dereferenced
reference_read name c xs inner is =
    let some = some_part xs in
    rw (parts_behind name xs some.0 some.1 inner some.2, some.2) (same (all_resolved ((name ++ 59 ∷ some.0) ∷ some.1)) ∙ with_parts name c some.0 some.1 inner is)

-- ---- what stands for a byte

amp_read : (xs : List ℕ) → dereferenced (codes "&amp;" ++ xs) ≡ option_map (λ rest. 38 ∷ rest) (dereferenced xs)
unfolding referred
amp_read xs = reference_read (codes "amp") (codes "&") xs refl refl

lt_read : (xs : List ℕ) → dereferenced (codes "&lt;" ++ xs) ≡ option_map (λ rest. 60 ∷ rest) (dereferenced xs)
unfolding referred
lt_read xs = reference_read (codes "lt") (codes "<") xs refl refl

gt_read : (xs : List ℕ) → dereferenced (codes "&gt;" ++ xs) ≡ option_map (λ rest. 62 ∷ rest) (dereferenced xs)
unfolding referred
gt_read xs = reference_read (codes "gt") (codes ">") xs refl refl

quot_read : (xs : List ℕ) → dereferenced (codes "&quot;" ++ xs) ≡ option_map (λ rest. 34 ∷ rest) (dereferenced xs)
unfolding referred
quot_read xs = reference_read (codes "quot") (codes "\"") xs refl refl

-- the number of a byte, as it is written behind `&`
number_text : ℕ → List ℕ
number_text b = codes "#x" ++ byte_digits b

is_so : Option (List ℕ) → ℕ → Bool
is_so (Some (c ∷ [])) b = c == b
is_so other b = false

so_is : (o : Option (List ℕ)) (b : ℕ) → is_so o b ≡ true → o ≡ Some (b ∷ [])
unfolding is_so
so_is None b is = cc
so_is (Some []) b is = cc
so_is (Some (c ∷ [])) b is = ap (λ x. Some (x ∷ [])) (eqb-true c b is)
so_is (Some (c ∷ d ∷ cs)) b is = cc

is_read_back : ℕ → Bool
is_read_back b = is_so (referred (number_text b)) b && list_all is_inner (number_text b)

all_read_back : agree_below is_read_back (λ b. true) 32 ≡ true
unfolding is_read_back is_so referred number_text encode_utf8
all_read_back = refl

number_back : (b : ℕ) → b < 32 → (referred (number_text b) ≡ Some (b ∷ [])) × (list_all is_inner (number_text b) ≡ true)
unfolding is_read_back
number_back b small =
    let p = and_parts (is_so (referred (number_text b)) b) (list_all is_inner (number_text b)) (agree_below_at is_read_back (λ n. true) 32 b all_read_back small) in
    (so_is (referred (number_text b)) b p.0, p.1)

pub small_control : (b : ℕ) → (b == 13 || is_control b) ≡ true → b < 32
small_control b is = elim (or_cases (b == 13) (is_control b) is) [
  | inl e ↦ (let is13 : b ≡ 13 = eqb-true b 13 e in omega arith)
  | inr e ↦ ltb-true b 32 (and_parts (nat_lt b 32) _ e).0
]

numbered_read : (b : ℕ) (xs : List ℕ) → b < 32 → dereferenced (numbered b ++ xs) ≡ option_map (λ rest. b ∷ rest) (dereferenced xs)
unfolding number_text
numbered_read b xs small =
    let back = number_back b small in
    ap dereferenced (ap (λ ys. 38 ∷ 35 ∷ 120 ∷ ys) (append_assoc (byte_digits b) (codes ";") xs)) ∙ reference_read (number_text b) (b ∷ []) xs back.1 back.0

other_read : (b : ℕ) (xs : List ℕ) (is : Bool) → (b == 13 || is_control b) ≡ is → (b == 38) ≡ false
    → dereferenced (cond is (numbered b) (b ∷ []) ++ xs) ≡ option_map (λ rest. b ∷ rest) (dereferenced xs)
other_read b xs true is other = numbered_read b xs (small_control b is)
other_read b xs false is other = plain_read b xs other

byte_read : (b : ℕ) (xs : List ℕ) → dereferenced (escaped_byte b ++ xs) ≡ option_map (λ rest. b ∷ rest) (dereferenced xs)
unfolding escaped_byte
byte_read b xs = elim (cases_eq b 38) [
  | inl e ↦ rw e (amp_read xs)
  | inr n38 ↦ elim (cases_eq b 60) [
    | inl e ↦ rw e (lt_read xs)
    | inr n60 ↦ elim (cases_eq b 62) [
      | inl e ↦ rw e (gt_read xs)
      | inr n62 ↦ elim (cases_eq b 34) [
        | inl e ↦ rw e (quot_read xs)
        | inr n34 ↦ rw (ne_eqb b 38 n38, ne_eqb b 60 n60, ne_eqb b 62 n62, ne_eqb b 34 n34) (other_read b xs (b == 13 || is_control b) refl (ne_eqb b 38 n38))
      ]
    ]
  ]
]

-- what stands for U+FFFE and U+FFFF
fffe_read : (xs : List ℕ) → dereferenced (codes "&#xfffe;" ++ xs) ≡ option_map (λ rest. 239 ∷ 191 ∷ 190 ∷ rest) (dereferenced xs)
unfolding referred encode_utf8
fffe_read xs = reference_read (codes "#xfffe") (239 ∷ 191 ∷ 190 ∷ []) xs refl refl

ffff_read : (xs : List ℕ) → dereferenced (codes "&#xffff;" ++ xs) ≡ option_map (λ rest. 239 ∷ 191 ∷ 191 ∷ rest) (dereferenced xs)
unfolding referred encode_utf8
ffff_read xs = reference_read (codes "#xffff") (239 ∷ 191 ∷ 191 ∷ []) xs refl refl

noncharacter_read : (a b c : ℕ) (xs : List ℕ) → is_noncharacter a b c ≡ true
    → dereferenced (escaped_noncharacter c ++ xs) ≡ option_map (λ rest. a ∷ b ∷ c ∷ rest) (dereferenced xs)
noncharacter_read a b c xs is =
    let p = and_parts (a == 239 && b == 191) (c == 190 || c == 191) is in
    let q = and_parts (a == 239) (b == 191) p.0 in
    rw (eqb-true a 239 q.0, eqb-true b 191 q.1) (elim (or_cases (c == 190) (c == 191) p.1) [
      | inl e ↦ rw (eqb-true c 190 e) (fffe_read xs)
      | inr e ↦ rw (eqb-true c 191 e) (ffff_read xs)
    ])

three : (a b c : ℕ) (rest : List ℕ) (is : Bool) → is_noncharacter a b c ≡ is → dereferenced (escaped rest) ≡ Some rest
    → dereferenced (escaped (b ∷ c ∷ rest)) ≡ Some (b ∷ c ∷ rest)
    → dereferenced (cond is (escaped_noncharacter c ++ escaped rest) (escaped_byte a ++ escaped (b ∷ c ∷ rest))) ≡ Some (a ∷ b ∷ c ∷ rest)
three a b c rest true is behind more = noncharacter_read a b c (escaped rest) is ∙ ap (option_map (λ xs. a ∷ b ∷ c ∷ xs)) behind
three a b c rest false is behind more = byte_read a (escaped (b ∷ c ∷ rest)) ∙ ap (option_map (λ xs. a ∷ xs)) more

-- what stands for a text is read as that text
pub escaped_back : (s : List ℕ) → dereferenced (escaped s) ≡ Some s
unfolding escaped dereferenced
escaped_back [] = refl
escaped_back (a ∷ []) = ap dereferenced (sym (append-nil (escaped_byte a))) ∙ byte_read a []
escaped_back (a ∷ b ∷ []) = byte_read a (escaped (b ∷ [])) ∙ ap (option_map (λ xs. a ∷ xs)) (escaped_back (b ∷ []))
escaped_back (a ∷ b ∷ c ∷ rest) = three a b c rest (is_noncharacter a b c) refl (escaped_back rest) (escaped_back (b ∷ c ∷ rest))
