-- The lines of a text, and the keys that they say.
use Rattle.std.proofs.Common.{◌≡◌, ℕ, zero, suc, ◌+◌, ◌<◌, ◌≤◌, Bool, true, false, not, ◌&&◌, ◌||◌, cond, nat_lt, List, [], ◌∷◌, ◌++◌, length, take, get_or, refl, sym, ◌∙◌, ap, ap₂, subst, arith, append_assoc, append-nil, map, Option, Some, None, is_some, option_and_then, position, inl, inr, if◌then◌else◌, Result, Ok, Err}
use Rattle.std.specs.Prelude.{IfErr, IsErrAnd}
use Rattle.std.specs.List.{position_or_len, list_any}
use Rattle.std.specs.Str.{bytes_eq}
use Rattle.std.proofs.Math.Seq.{take-append-add}
use Rattle.std.proofs.lemmas.List.Folds.{list_any-append}
use Rattle.std.proofs.lemmas.List.Sums.{passes_at_first, split_at_first}
use Rattle.std.proofs.lemmas.Bool.Decides.{nat_tests}
use Rattle.std.proofs.lemmas.Bool.{eqb-true}
use Rattle.std.proofs.lemmas.List.{map-append, length-map, take-map, take-append-le}
use Rattle.s3_config.specs.Settings.{Credentials, are_credentials, all_different}
use Rattle.s3_text.specs.Lines.{lines_of, IsFirstBadLine}
use Rattle.s3_settings.specs.declared.fault.Fault.{Fault}
use Rattle.s3_settings.specs.declared.fault.Fault.TheVariants.{BadKeysLine, OutOfMemory}
use Rattle.s3_settings.specs.Fault.{MemoryOr}
use Rattle.s3_settings.specs.Keys.{is_space, parts_at, valid_key, key_of_line, ids_of, SayKeys, AreKeyLines, AsksRoom, IsKeysFault, has_id, new_key, line_of_key}

-- a place that was found is the first of its kind
place_found : (p : ℕ → Bool) (xs : List ℕ) (b : Bool) (place : ℕ) → nat_lt (position_or_len p xs) (length xs) ≡ b → cond b (Some (position_or_len p xs)) None ≡ Some place → (position_or_len p xs < length xs) × (place ≡ position_or_len p xs)
place_found p xs true place h e = (grind (arith, nat_tests), cc)
place_found p xs false place h e = absurd cc

pub position_some : (p : ℕ → Bool) (xs : List ℕ) (place : ℕ) → position p xs ≡ Some place → (position_or_len p xs < length xs) × (place ≡ position_or_len p xs)
position_some p xs place e = place_found p xs (nat_lt (position_or_len p xs) (length xs)) place refl e

-- a credential that a line says spells the line
valid_key-spelled : (key found : Credentials) (b : Bool) → (if b then Some key else None) ≡ Some found → key ≡ found
valid_key-spelled key found true e = cc
valid_key-spelled key found false e = absurd cc

spelled_at : (line : List ℕ) (found : Option ℕ) (key : Credentials) → position is_space line ≡ found → option_and_then (λ place. valid_key (parts_at line place)) found ≡ Some key → line ≡ line_of_key key
spelled_at line None key h e = absurd cc
spelled_at line (Some place) key h e =
    let at = position_some is_space line place h in
    let parts : parts_at line place ≡ key = valid_key-spelled (parts_at line place) key (are_credentials (parts_at line place)) e in
    let whole = split_at_first is_space line 0 at.0 in
    let space : get_or line (position_or_len is_space line) 0 ≡ 32 = eqb-true _ _ (passes_at_first is_space line 0 at.0) in
    whole ∙ rw space (rw (← at.1) (ap line_of_key parts))

-- a key that is new spells its line
kept : (said key : Credentials) (b : Bool) → (if b then None else Some said) ≡ Some key → said ≡ key
kept said key true e = absurd cc
kept said key false e = cc

new_key-spelled : (keys : List Credentials) (line : List ℕ) (found : Option Credentials) (key : Credentials) → key_of_line line ≡ found → option_and_then (λ (said : Credentials). if has_id keys said.id then None else Some said) found ≡ Some key → line ≡ line_of_key key
unfolding key_of_line
new_key-spelled keys line None key h e = absurd cc
new_key-spelled keys line (Some said) key h e =
    spelled_at line (position is_space line) said refl h ∙ ap line_of_key (kept said key (has_id keys said.id) e)

-- a key that is new is said by its line, spells it, and has an id of its own
own_id : (keys : List Credentials) (said key : Credentials) (b : Bool) → has_id keys said.id ≡ b → (if b then None else Some said) ≡ Some key → has_id keys key.id ≡ false
own_id keys said key true h e = absurd cc
own_id keys said key false h e = let same : said ≡ key = cc in rw (← same) h

pub record Says (keys : List Credentials) (line : List ℕ) (key : Credentials) : Type 0 where
  pub said : key_of_line line ≡ Some key
  pub spelled : line ≡ line_of_key key
  pub own : has_id keys key.id ≡ false

says_new : (keys : List Credentials) (line : List ℕ) (found : Option Credentials) (key : Credentials) → key_of_line line ≡ found → option_and_then (λ (said : Credentials). if has_id keys said.id then None else Some said) found ≡ Some key → Says keys line key
says_new keys line None key h e = absurd cc
says_new keys line (Some said) key h e =
    let same : said ≡ key = kept said key (has_id keys said.id) e in record {
      said = h ∙ ap (λ (k : Credentials). Some k) same;
      spelled = new_key-spelled keys line (Some said) key h e;
      own = own_id keys said key (has_id keys said.id) refl e;
    }

new_key-says : (keys : List Credentials) (line : List ℕ) (key : Credentials) → new_key keys line ≡ Some key → Says keys line key
unfolding new_key
new_key-says keys line key e = says_new keys line (key_of_line line) key refl e

-- where no key is new, a key that the line says repeats an id
taken_id : (keys : List Credentials) (key : Credentials) (b : Bool) → has_id keys key.id ≡ b → (if b then None else Some key) ≡ None → has_id keys key.id ≡ true
taken_id keys key true h e = h
taken_id keys key false h e = absurd cc

repeated : (keys : List Credentials) (line : List ℕ) (key : Credentials) → new_key keys line ≡ None → key_of_line line ≡ Some key → has_id keys key.id ≡ true
unfolding new_key
repeated keys line key e h =
    taken_id keys key (has_id keys key.id) refl (sym (ap (option_and_then (λ (said : Credentials). if has_id keys said.id then None else Some said)) h) ∙ e)

-- an id at the end differs from those before it where none of them is the same
shuffled : (a b c d : Bool) → (not (a || (b || false)) && (c && not d)) ≡ ((not a && c) && not (b || d))
shuffled true b c d = refl
shuffled false true true d = refl
shuffled false true false d = refl
shuffled false false true d = refl
shuffled false false false d = refl

different_at_end : (keys : List Credentials) (key : Credentials) → all_different (ids_of (keys ++ key ∷ [])) ≡ (all_different (ids_of keys) && not (has_id keys key.id))
different_at_end [] key = refl
different_at_end (first ∷ keys) key =
    let rest = different_at_end keys key in
    let ids : ids_of (keys ++ key ∷ []) ≡ ids_of keys ++ key.id ∷ [] = map-append (λ (k : Credentials). k.id) keys (key ∷ []) in
    let any : list_any (bytes_eq first.id) (ids_of (keys ++ key ∷ [])) ≡ (list_any (bytes_eq first.id) (ids_of keys) || (bytes_eq first.id key.id || false)) = ap (list_any (bytes_eq first.id)) ids ∙ list_any-append (bytes_eq first.id) (ids_of keys) (key.id ∷ []) in
    ap₂ (λ (x y : Bool). not x && y) any rest ∙ shuffled (list_any (bytes_eq first.id) (ids_of keys)) (bytes_eq first.id key.id) (all_different (ids_of keys)) (has_id keys key.id)

-- a beginning of different ids is different
both_true : (p q : Bool) → (p && q) ≡ true → (p ≡ true) × (q ≡ true)
both_true true q h = (refl, h)
both_true false q h = absurd cc

not_true : (p : Bool) → not p ≡ true → p ≡ false
not_true true h = absurd cc
not_true false h = refl

beginning_or : (a b c : Bool) → (a || b) ≡ false → (b ≡ false → c ≡ false) → (a || c) ≡ false
beginning_or true b c h less = absurd cc
beginning_or false b c h less = less h

beginning_free : (p : List ℕ → Bool) (n : ℕ) (xs : List (List ℕ)) → list_any p xs ≡ false → list_any p (take n xs) ≡ false
beginning_free p zero xs h = refl
beginning_free p (suc n) [] h = refl
beginning_free p (suc n) (x ∷ xs) h = beginning_or (p x) (list_any p xs) (list_any p (take n xs)) h (λ e. beginning_free p n xs e)

beginning_different : (n : ℕ) (xs : List (List ℕ)) → all_different xs ≡ true → all_different (take n xs) ≡ true
beginning_different zero xs h = refl
beginning_different (suc n) [] h = refl
beginning_different (suc n) (x ∷ xs) h =
    let parts = both_true (not (list_any (bytes_eq x) xs)) (all_different xs) h in
    let free = beginning_free (bytes_eq x) n xs (not_true (list_any (bytes_eq x) xs) parts.0) in
    rw (free, beginning_different n xs parts.1) refl

-- no line says no key
pub none_said : SayKeys [] []
none_said = record { said = refl; different = refl }

-- one key more
one_more : (keys : List Credentials) (line : List ℕ) (key : Credentials) → SayKeys (map line_of_key keys) keys → new_key keys line ≡ Some key → SayKeys (map line_of_key (keys ++ key ∷ [])) (keys ++ key ∷ [])
one_more keys line key before new =
    let says = new_key-says keys line key new in
    let said : key_of_line (line_of_key key) ≡ Some key = ap key_of_line (sym says.spelled) ∙ says.said in
    record {
      said = rw (map-append, map-append, map-append, before.said, said) refl;
      different = different_at_end keys key ∙ ap₂ (λ (x y : Bool). x && not y) before.different says.own;
    }

-- and one line less is left
so_far : (keys : List Credentials) (lines rest all : List (List ℕ)) (line : List ℕ) (key : Credentials) → map line_of_key keys ++ lines ≡ all → lines ≡ line ∷ rest → new_key keys line ≡ Some key → map line_of_key (keys ++ key ∷ []) ++ rest ≡ all
so_far keys lines rest all line key before next new =
    let spelled = (new_key-says keys line key new).spelled in
    ap (λ (front : List (List ℕ)). front ++ rest) (map-append line_of_key keys (key ∷ []))
    ∙ append_assoc (map line_of_key keys) (line_of_key key ∷ []) rest
    ∙ ap (λ (first : List ℕ). map line_of_key keys ++ first ∷ rest) (sym spelled)
    ∙ ap (λ (left : List (List ℕ)). map line_of_key keys ++ left) (sym next)
    ∙ before

-- what was pushed
pub key_pushed : (keys slice after : List Credentials) (lines rest all : List (List ℕ)) (line : List ℕ) (key : Credentials) → map line_of_key keys ++ lines ≡ all → lines ≡ line ∷ rest → slice ≡ keys → new_key slice line ≡ Some key → after ≡ keys ++ key ∷ [] → map line_of_key after ++ rest ≡ all
key_pushed keys slice after lines rest all line key before next same was pushed =
    let new : new_key keys line ≡ Some key = cc in
    rw pushed (so_far keys lines rest all line key before next new)

pub key_said : (keys slice after : List Credentials) (line : List ℕ) (key : Credentials) → SayKeys (map line_of_key keys) keys → slice ≡ keys → new_key slice line ≡ Some key → after ≡ keys ++ key ∷ [] → SayKeys (map line_of_key after) after
key_said keys slice after line key before same was pushed =
    let new : new_key keys line ≡ Some key = cc in
    rw pushed (one_more keys line key before new)

-- no line is left
pub all_spelled : (keys : List Credentials) (lines all : List (List ℕ)) → map line_of_key keys ++ lines ≡ all → lines ≡ [] → all ≡ map line_of_key keys
all_spelled keys lines all before none =
    sym before ∙ ap (λ (left : List (List ℕ)). map line_of_key keys ++ left) none ∙ append-nil (map line_of_key keys)

pub all_said : (keys : List Credentials) (lines all : List (List ℕ)) → map line_of_key keys ++ lines ≡ all → lines ≡ [] → SayKeys (map line_of_key keys) keys → SayKeys all keys
all_said keys lines all before none said = subst (λ (these : List (List ℕ)). SayKeys these keys) (sym (all_spelled keys lines all before none)) said

-- what a list of keys with one more is
last_said : (keys all : List Credentials) (last : Option Credentials) → map (λ (k : Credentials). Some k) keys ++ last ∷ [] ≡ map (λ (k : Credentials). Some k) all → (key : Credentials) × (last ≡ Some key) × (all ≡ keys ++ key ∷ [])
last_said [] [] last e = absurd cc
last_said [] (key ∷ []) last e = (key, cc, refl)
last_said [] (key ∷ next ∷ all) last e = absurd cc
last_said (first ∷ keys) [] last e = absurd cc
last_said (first ∷ keys) (head ∷ all) last e =
    let rest = last_said keys all last cc in
    let same : head ≡ first = cc in
    (rest.0, rest.1, ap₂ (λ (k : Credentials) (ks : List Credentials). k ∷ ks) same rest.2)

-- what lines say together with one that says no new key
bad_together : (keys all : List Credentials) (front : List (List ℕ)) (line : List ℕ) → map key_of_line front ≡ map Some keys → new_key keys line ≡ None → SayKeys (front ++ line ∷ []) all → ⊥
bad_together keys all front line before new says =
    let joined : map (λ (k : Credentials). Some k) keys ++ key_of_line line ∷ [] ≡ map (λ (k : Credentials). Some k) all = ap (λ (found : List (Option Credentials)). found ++ key_of_line line ∷ []) (sym before) ∙ sym (map-append key_of_line front (line ∷ [])) ∙ says.said in
    let last = last_said keys all (key_of_line line) joined in
    let again : has_id keys (last.0).id ≡ true = repeated keys line last.0 new last.1 in
    let all_are : (all_different (ids_of keys) && not (has_id keys (last.0).id)) ≡ true = sym (different_at_end keys last.0) ∙ ap (λ (ks : List Credentials). all_different (ids_of ks)) (sym last.2) ∙ says.different in
    let own : has_id keys (last.0).id ≡ false = not_true (has_id keys (last.0).id) (both_true (all_different (ids_of keys)) (not (has_id keys (last.0).id)) all_are).1 in
    absurd cc

-- a beginning of the lines says a beginning of the keys
beginning_said : (count : ℕ) (lines : List (List ℕ)) (keys : List Credentials) → SayKeys lines keys → SayKeys (take count lines) (take count keys)
beginning_said count lines keys says = record {
  said = sym (take-map key_of_line count lines) ∙ ap (take count) says.said ∙ take-map (λ (k : Credentials). Some k) count keys;
  different = ap all_different (sym (take-map (λ (k : Credentials). k.id) count keys)) ∙ beginning_different count (ids_of keys) says.different;
}

-- the next line is the first bad one
bad_line : (keys : List Credentials) (lines rest all : List (List ℕ)) (line : List ℕ) (number : ℕ) → map line_of_key keys ++ lines ≡ all → SayKeys (map line_of_key keys) keys → lines ≡ line ∷ rest → new_key keys line ≡ None → number ≡ length keys + 1 → IsFirstBadLine AreKeyLines all number
bad_line keys lines rest all line number before says next new is =
    let front = map line_of_key keys in
    let size : length front ≡ length keys = length-map keys line_of_key in
    let at : number ≡ length front + 1 = omega arith in
    let whole : all ≡ front ++ line ∷ rest = sym before ∙ ap (λ (left : List (List ℕ)). front ++ left) next in
    let taken : take number all ≡ front ++ line ∷ [] = ap₂ (λ (n : ℕ) (ls : List (List ℕ)). take n ls) at whole ∙ take-append-add front (line ∷ rest) 1 in
    record {
      bad = λ some. bad_together keys some.0 front line says.said new (subst (λ (ls : List (List ℕ)). SayKeys ls some.0) taken some.1);
      before = λ count less.
          let within : count ≤ length front = omega arith in
          let same : take count front ≡ take count all = sym (ap (take count) whole ∙ take-append-le count front (line ∷ rest) within) in
          (take count keys, subst (λ (ls : List (List ℕ)). SayKeys ls (take count keys)) same (beginning_said count front keys says));
    }

-- a line that says a key has a space
has_space : (line : List ℕ) (found : Option ℕ) (key : Credentials) → option_and_then (λ place. valid_key (parts_at line place)) found ≡ Some key → is_some found ≡ true
has_space line None key e = absurd cc
has_space line (Some place) key e = refl

said_has_space : (line : List ℕ) (key : Credentials) → key_of_line line ≡ Some key → is_some (position is_space line) ≡ true
unfolding key_of_line
said_has_space line key e = has_space line (position is_space line) key e

-- where a line has a space behind those that say keys, the first line has one
room_asked : (keys : List Credentials) (lines rest all : List (List ℕ)) (line : List ℕ) → map line_of_key keys ++ lines ≡ all → SayKeys (map line_of_key keys) keys → lines ≡ line ∷ rest → is_some (position is_space line) ≡ true → AsksRoom all
room_asked [] lines rest all line before says next has = subst AsksRoom (sym next ∙ before) has
room_asked (key ∷ keys) lines rest all line before says next has =
    let said = says.said in
    let first : key_of_line (line_of_key key) ≡ Some key = cc in
    subst AsksRoom before (said_has_space (line_of_key key) key first)

-- a call that answers out of memory says why the file gives no keys
memory_told : {A : Type 0} (result : Result A Fault) (text : List ℕ) → AsksRoom (lines_of text) → IsErrAnd result (λ fault. fault ≡ OutOfMemory) → IfErr result (IsKeysFault text)
memory_told (Ok keys) text asks told = tt
memory_told (Err fault) text asks told = subst (IsKeysFault text) (sym told) asks

-- so it does where there was no room for one key more
pub push_fault : {A : Type 0} (result : Result A Fault) (keys slice : List Credentials) (lines rest : List (List ℕ)) (text line : List ℕ) (key : Credentials) → map line_of_key keys ++ lines ≡ lines_of text → SayKeys (map line_of_key keys) keys → lines ≡ line ∷ rest → new_key slice line ≡ Some key → IsErrAnd result (λ fault. fault ≡ OutOfMemory) → IfErr result (IsKeysFault text)
push_fault result keys slice lines rest text line key before says next new told =
    memory_told result text (room_asked keys lines rest (lines_of text) line before says next (said_has_space line key (new_key-says slice line key new).said)) told

-- why the next line gives no key is why the file gives none
pub key_fault : (keys slice : List Credentials) (lines rest : List (List ℕ)) (text line : List ℕ) (fault : Fault) → map line_of_key keys ++ lines ≡ lines_of text → SayKeys (map line_of_key keys) keys → lines ≡ line ∷ rest → slice ≡ keys → MemoryOr (BadKeysLine (length slice + 1)) (new_key slice line ≡ None) fault → (fault ≡ OutOfMemory → is_some (position is_space line) ≡ true) → IsKeysFault text fault
key_fault keys slice lines rest text line fault before says next same why asks =
    elim why [
      | inl memory ↦ subst (IsKeysFault text) (sym memory) (room_asked keys lines rest (lines_of text) line before says next (asks memory))
      | inr bad ↦
          let new : new_key keys line ≡ None = cc (bad.1) in
          let size : length slice + 1 ≡ length keys + 1 = ap (λ (ks : List Credentials). length ks + 1) same in
          let found : IsFirstBadLine AreKeyLines (lines_of text) (length slice + 1) = bad_line keys lines rest (lines_of text) line (length slice + 1) before says next new size in
          subst (IsKeysFault text) (sym bad.0) found
    ]

pub ruleset keys = (none_said, key_pushed, key_said, all_spelled, all_said, push_fault, key_fault)
