-- What a place counts.
use Rattle.std.proofs.Common.{◌≡◌, ℕ, ◌+◌, ◌<◌, ◌≤◌, Bool, true, false, not, ◌&&◌, ◌||◌, ◌==◌, nat_lt, List, [], ◌∷◌, length, refl, sym, ap, ◌∙◌, arith, eq-eqb, ltb-true, ltb-false, None, if◌then◌else◌}
use Rattle.std.proofs.lemmas.Bool.{false≢true}
use Rattle.std.proofs.lemmas.Option.{none-some}
use Rattle.std.specs.Str.{bytes_eq}
use Rattle.sha2.specs.Sha256.{sha256}
use Rattle.s3_signing.specs.Chain.{linked, next_signature}
use Rattle.s3_aws_chunked.specs.Count.{Count, advanced}
use Rattle.s3_aws_chunked.specs.Phase.{read}
use Rattle.s3_aws_chunked.specs.Verdict.{Terms}
use Rattle.s3_aws_chunked.specs.Decoder.{Progress, fault_at, is_settled, is_closed, is_data, counted, settled, opened, passed, closed, turned, closed_by, data_read, byte_read, stepped, run, started}
use Rattle.s3_aws_chunked.specs.declared.place.Place.{Place}
use Rattle.s3_aws_chunked.specs.declared.phase.Phase.{Phase}
use Rattle.s3_aws_chunked.specs.declared.phase.Phase.TheVariants.{Size, Line, Data, Ending, Over, Refused}
use Rattle.s3_aws_chunked.specs.declared.phase.Event.{Event}
use Rattle.s3_aws_chunked.specs.declared.phase.Event.TheVariants.{Misspelled, Moves, Signs, Opens, Closes}

-- one of two places that count the same
either : (test : Bool) (a b : Place) (count : Count) → a.span ≡ count → b.span ≡ count → (if test then a else b).span ≡ count
either true a b count x y = x
either false a b count x y = y

span_opened : (place : Place) (size : ℕ) → (opened place size).span ≡ place.span
unfolding opened
span_opened place size = either (nat_lt place.left size) _ _ place.span refl refl

span_passed : (place : Place) (last : Bool) → (passed place last).span ≡ place.span
span_passed place last =
    either (not last) _ _ place.span refl
    (either (nat_lt 0 place.left) _ _ place.span refl
    (either (nat_lt place.span.taken place.span.whole) _ _ place.span refl refl))

span_closed : (place : Place) (last : Bool) (hash : List ℕ) → (closed place last hash).span ≡ place.span
unfolding closed
span_closed place last hash =
    either (bytes_eq place.signature (next_signature place.chain hash)) _ _ place.span
    (span_passed (record place { chain = linked place.chain (next_signature place.chain hash) }) last)
    refl

span_turned : (place : Place) (event : Event) (byte : ℕ) → (turned place event byte).span ≡ place.span
unfolding turned
span_turned place Misspelled byte = refl
span_turned place (Moves phase) byte = refl
span_turned place (Signs index size) byte = refl
span_turned place (Opens size) byte = span_opened place size
span_turned place (Closes last) byte = refl

span_closed_by : (place : Place) (event : Event) (hash : List ℕ) → (closed_by place event hash).span ≡ place.span
span_closed_by place Misspelled hash = refl
span_closed_by place (Moves phase) hash = refl
span_closed_by place (Signs index size) hash = refl
span_closed_by place (Opens size) hash = refl
span_closed_by place (Closes last) hash = span_closed place last hash

pub span_settled : (place : Place) → (settled place).span ≡ place.span
unfolding settled
span_settled place = either (not (is_settled place.phase) && place.span.taken == place.span.whole) _ _ place.span refl refl

pub span_turn : (place : Place) (event : Event) (byte : ℕ) (hash : List ℕ) → (closed_by (turned place event byte) event hash).span ≡ place.span
span_turn place event byte hash = span_closed_by (turned place event byte) event hash ∙ span_turned place event byte

pub span_byte : (p : Progress) (byte : ℕ) → (byte_read p byte).place.span ≡ advanced p.place.span 1
unfolding byte_read
span_byte p byte =
    span_settled _
    ∙ span_closed_by (turned (counted p.place 1) (read p.place.phase byte) byte) (read p.place.phase byte) (sha256 p.current)
    ∙ span_turned (counted p.place 1) (read p.place.phase byte) byte

pub span_data : (p : Progress) (bytes : List ℕ) → (data_read p bytes).place.span ≡ advanced p.place.span (length bytes)
unfolding data_read
span_data p bytes = span_settled _

-- a place that is not settled has more bytes to come
pub record Kept (place : Place) : Type 0 where
  pub within : place.span.taken ≤ place.span.whole
  pub full : place.span.taken ≡ place.span.whole → is_settled place.phase ≡ true

full_by : (shut : Bool) (place : Place) → is_settled place.phase ≡ shut → place.span.taken ≡ place.span.whole → is_settled (settled place).phase ≡ true
unfolding settled
full_by true place h full = rw (h, h) refl
full_by false place h full = rw (h, eq-eqb _ _ full) refl

kept_settled : (place : Place) → place.span.taken ≤ place.span.whole → Kept (settled place)
kept_settled place within = record {
  within = rw (span_settled place) within;
  full = λ full.
      full_by (is_settled place.phase) place refl
      (ap (λ (s : Count). s.taken) (sym (span_settled place)) ∙ full ∙ ap (λ (s : Count). s.whole) (span_settled place));
}

-- a byte and data, where there is room for them
kept_byte : (p : Progress) (byte : ℕ) → p.place.span.taken < p.place.span.whole → Kept (byte_read p byte).place
unfolding byte_read
kept_byte p byte room =
    let turned' = turned (counted p.place 1) (read p.place.phase byte) byte in
    let after = closed_by turned' (read p.place.phase byte) (sha256 p.current) in
    let span : after.span ≡ advanced p.place.span 1 =
    span_closed_by turned' (read p.place.phase byte) (sha256 p.current) ∙ span_turned (counted p.place 1) (read p.place.phase byte) byte in
    kept_settled after (rw span (omega (arith, room)))

kept_data : (p : Progress) (bytes : List ℕ) → p.place.span.taken + length bytes ≤ p.place.span.whole → Kept (data_read p bytes).place
unfolding data_read
kept_data p bytes room = kept_settled _ room

-- a place that is not closed has room
pub open_room : (place : Place) → is_closed place ≡ false → (is_settled place.phase ≡ false) × (place.span.taken < place.span.whole)
open_room place still = open_by (is_settled place.phase) (nat_lt place.span.taken place.span.whole) refl refl still
  where
    open_by : (shut room : Bool) → is_settled place.phase ≡ shut → nat_lt place.span.taken place.span.whole ≡ room → (shut || not room) ≡ false → (is_settled place.phase ≡ false) × (place.span.taken < place.span.whole)
    open_by true room h k still' = absurd (false≢true (sym still'))
    open_by false true h k still' = (h, ltb-true _ _ k)
    open_by false false h k still' = absurd (false≢true (sym still'))

kept_step_as : (p : Progress) (byte : ℕ) (shut inside : Bool) → is_closed p.place ≡ shut → is_data p.place.phase ≡ inside → Kept p.place → Kept (stepped p byte).place
unfolding stepped
kept_step_as p byte true inside h k kept = rw h kept
kept_step_as p byte false true h k kept = rw (h, k) (kept_data p (byte ∷ []) (omega (arith, (open_room p.place h).1)))
kept_step_as p byte false false h k kept = rw (h, k) (kept_byte p byte (open_room p.place h).1)

pub kept_run : (p : Progress) (bytes : List ℕ) → Kept p.place → Kept (run p bytes).place
kept_run p [] kept = kept
kept_run p (byte ∷ bytes) kept =
    kept_run (stepped p byte) bytes (kept_step_as p byte (is_closed p.place) (is_data p.place.phase) refl refl kept)

pub kept_started : (terms : Terms) → Kept (started terms).place
kept_started terms = kept_settled _ (omega arith)

-- a kept place that is closed is settled
pub closed_settled : (place : Place) → Kept place → is_closed place ≡ true → is_settled place.phase ≡ true
closed_settled place kept shut = closed_as (is_settled place.phase) (nat_lt place.span.taken place.span.whole) refl refl shut
  where
    closed_as : (is room : Bool) → is_settled place.phase ≡ is → nat_lt place.span.taken place.span.whole ≡ room → (is || not room) ≡ true → is_settled place.phase ≡ true
    closed_as true room h k shut' = h
    closed_as false true h k shut' = absurd (false≢true shut')
    closed_as false false h k shut' = kept.full (omega (arith, kept.within, ltb-false _ _ k))

-- a settled phase without a fault is the end
pub over_from : (phase : Phase) → is_settled phase ≡ true → fault_at phase ≡ None → phase ≡ Over
over_from Over settled' none = refl
over_from (Refused fault) settled' none = absurd (none-some fault (sym none))
over_from (Size digits) settled' none = absurd (false≢true settled')
over_from (Line place size) settled' none = absurd (false≢true settled')
over_from (Data left last) settled' none = absurd (false≢true settled')
over_from (Ending last) settled' none = absurd (false≢true settled')
