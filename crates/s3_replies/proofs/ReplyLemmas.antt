-- What is known of the texts of replies: each is one text, in which a client sees what came.
use Rattle.std.proofs.Common.{◌≡◌, ℕ, Bool, true, false, not, List, ◌++◌, ◌∷◌, [], map, ap, ap₂, refl, sym, ◌∙◌, append_assoc, append-nil, subst, Option, Some, None, codes, length, arith}
use Rattle.std.specs.Prelude.{if◌then◌else◌}
use Rattle.std.specs.List.{flat_map, list_all}
use Rattle.std.specs.Fmt.{digits, decimal}
use Rattle.std.proofs.lemmas.List.{map-append}
use Rattle.std.proofs.lemmas.List.Concat.{flat_map-append}
use Rattle.std.proofs.lemmas.List.Elements.{Contains-append_right}
use Rattle.s3_text.specs.Characters.{crlf}
use Rattle.s3_text.specs.Digits.{number_digits}
use Rattle.s3_terms.specs.Code.{status_of}
use Rattle.s3_terms.specs.declared.code.Code.{Code}
use Rattle.s3_terms.specs.declared.code.Code.TheVariants.{MalformedHead}
use Rattle.s3_terms.specs.declared.dialect.Dialect.TheVariants.{S3}
use Rattle.s3_terms.specs.Status.{tells_size}
use Rattle.s3_terms.specs.declared.status.Status.{Status}
use Rattle.s3_terms.specs.declared.status.Status.TheVariants as statuses
use Rattle.s3_names.specs.declared.ids.VersionId.{VersionId}
use Rattle.s3_versions.specs.Metadata.{Entry}
use Rattle.s3_versions.specs.declared.version.Data.{Data}
use Rattle.s3_machine.specs.Effects.{succeeds as command_succeeds}
use Rattle.s3_conditions.specs.declared.conditions.Selection.TheVariants.{Whole, Part, Unchanged, Outside}
use Rattle.s3_machine.specs.declared.command.Answer.{Answer}
use Rattle.s3_machine.specs.declared.command.Found.{Found}
use Rattle.s3_machine.specs.declared.command.Outcome.{Outcome}
use Rattle.s3_machine.specs.declared.command.Outcome.TheVariants.{BucketFound, Got, Refused}
use Rattle.s3_replies.specs.declared.context.Context.{Context}
use Rattle.s3_replies.specs.declared.head.Opening.{Opening}
use Rattle.s3_replies.specs.Lines.{Line, status_line, print_line, print_lines, flag, optional, metadata_line, is_overridden, entries_left, other_entries, tells_checksum, type_left, quoted}
use Rattle.s3_replies.specs.Date.{IsHttpDate, IsDateShown}
use Rattle.s3_replies.specs.Head.{bare, body_lines, opening_lines, version_lines, print_head, print_with_lines}
use Rattle.s3_replies.specs.Replies.{Reply, alone, beside, behind, front, back, reply_to, shown_at, opening_of, Prints, content_range, found_fields, got_fields, metadata_shown, part, part_fields, sent_body, sized, shown_text, status_in}
use Rattle.s3_replies.specs.Statuses.{reply_status}
use Rattle.s3_replies.specs.Laws.{AreUnbroken, Carries, CarriesPart, IsUnbroken, is_unbroken, is_whole_line, tells_success, SuccessIsShown, ObjectsAreCarried, PartsAreCarried, RegionsAreTold, TellsRegion, HeadsTellOfReplies}
use Rattle.s3_replies.proofs.UnbrokenLemmas.{both_true, joined, lines_joined, decimal_unbroken, number_unbroken, id_unbroken, date_unbroken, range_unbroken}
use Rattle.httpdate.specs.Text.{imf_fixdate}
use Rattle.httpdate.proofs.Theorems.{unix_secs_injective}

-- ---- a reply has one text: its moments have one date each, and nothing else in it is chosen

IsHttpDate_unique : (t : ℕ) (a b : List ℕ) → IsHttpDate t a → IsHttpDate t b → a ≡ b
IsHttpDate_unique t a b h k =
    h.2 ∙ ap imf_fixdate (unix_secs_injective h.0 k.0 (h.1 ∙ sym k.1)) ∙ sym k.2

IsDateShown_unique : (t : Option ℕ) (a b : Option (List ℕ)) → IsDateShown t a → IsDateShown t b → a ≡ b
IsDateShown_unique None a b h k = h ∙ sym k
IsDateShown_unique (Some t) (Some a) (Some b) h k = ap Some (IsHttpDate_unique t a b h k)
IsDateShown_unique (Some t) None b h k = absurd h
IsDateShown_unique (Some t) a None h k = absurd k

-- the printed text
abbrev text_of : Answer → Context → List ℕ → Option (List ℕ) → List ℕ
text_of answer context date modified =
    let reply = reply_to (opening_of answer.number context date answer.outcome) modified answer.outcome in
    front context.head_only reply ++ back context.head_only reply

pub Prints_unique : (answer : Answer) (context : Context) (t u : List ℕ) → Prints answer context t → Prints answer context u → t ≡ u
Prints_unique answer context t u h k =
    h.printed
    ∙ ap₂ (text_of answer context) (IsHttpDate_unique context.moment h.date k.date h.dated k.dated) (IsDateShown_unique (shown_at answer.outcome) h.modified k.modified h.shown k.shown)
    ∙ sym k.printed

-- ---- what a client sees of it

-- the statuses that tell of success
abbrev succeeds : Status → Bool
succeeds statuses.Ok = true
succeeds statuses.NoContent = true
succeeds statuses.PartialContent = true
succeeds other = false

status_shows : (status : Status) (more : List ℕ) → tells_success (status_line status ++ more) ≡ succeeds status
unfolding status_line digits
status_shows statuses.Ok more = refl
status_shows _ more = refl

refusal_fails : (code : Code) → succeeds (status_of code) ≡ false
refusal_fails MalformedHead = refl
refusal_fails _ = refl

-- all of a reply stands behind its status line
behind_status : (status : Status) (lines end body : List ℕ) → status_line status ++ lines ++ end ++ body ≡ status_line status ++ (lines ++ end ++ body)
behind_status status lines end body =
    ap (λ r. r ++ body) (append_assoc (status_line status) lines end) ∙ append_assoc (status_line status) (lines ++ end) body

-- what its status shows, all of a reply shows
reply_shows : (head_only : Bool) (reply : Reply) → tells_success (front head_only reply ++ back head_only reply) ≡ succeeds (status_in reply)
unfolding print_head
reply_shows head_only (alone head) = ap tells_success (behind_status head.status _ crlf []) ∙ status_shows head.status _
reply_shows head_only (beside head text) =
    ap tells_success (append-nil (front head_only (beside head text)) ∙ behind_status head.status _ crlf (sent_body head_only text)) ∙ status_shows head.status _
reply_shows head_only (behind head body) = ap tells_success (behind_status head.status _ crlf (sent_body head_only body)) ∙ status_shows head.status _

-- it is the one that its opening says
opening_shows : (opening : Opening) (modified : Option (List ℕ)) (outcome : Outcome) → status_in (reply_to opening modified outcome) ≡ opening.status
opening_shows opening modified (Got found Whole overrides) = refl
opening_shows opening modified (Got found (Part first last) overrides) = refl
opening_shows opening modified (Got found Unchanged overrides) = refl
opening_shows opening modified (Got found Outside overrides) = refl
opening_shows opening modified _ = refl

-- which tells of success where the command succeeds
status_tells : (outcome : Outcome) → succeeds (reply_status outcome) ≡ command_succeeds outcome
status_tells (Refused code is_delete_marker) = refusal_fails code
status_tells (Got found Whole overrides) = refl
status_tells (Got found (Part first last) overrides) = refl
status_tells (Got found Unchanged overrides) = refl
status_tells (Got found Outside overrides) = refl
status_tells _ = refl

pub success_is_shown : SuccessIsShown
success_is_shown answer context text prints =
    let opening = opening_of answer.number context prints.date answer.outcome in
    ap tells_success prints.printed
    ∙ reply_shows context.head_only (reply_to opening prints.modified answer.outcome)
    ∙ ap succeeds (opening_shows opening prints.modified answer.outcome)
    ∙ status_tells answer.outcome

last_line : (lines : List Line) (line : Line) → print_lines (lines ++ line ∷ []) ≡ print_lines lines ++ print_line line
unfolding print_lines
last_line lines line = flat_map-append print_line lines (line ∷ []) ∙ ap (λ r. flat_map print_line lines ++ r) (append-nil (print_line line))

-- a text that may be absent has no carriage return
abbrev all_unbroken : Option (List ℕ) → Bool
all_unbroken None = true
all_unbroken (Some text) = is_unbroken text

flag_unbroken : (closes : Bool) → list_all is_whole_line (flag (codes "Connection") (codes "close") closes) ≡ true
flag_unbroken true = refl
flag_unbroken false = refl

-- the lines that tell of an object's body, in front of its size
abbrev told : Bool → Data (List ℕ) → List Entry → Option (List ℕ) → List Line
told sums stored overrides range =
    (codes "Accept-Ranges", codes "bytes")
    ∷ (optional (codes "Content-Range") range
    ++ optional (codes "Content-Type") (type_left overrides stored.content_type)
    ++ map metadata_line (metadata_shown sums overrides stored.metadata))

-- all lines in front of its size
abbrev lines_in_front : Bool → Opening → Found (List ℕ) → List Entry → List ℕ → Option (List ℕ) → List Line
lines_in_front sums opening found overrides modified range =
    let head = got_fields sums opening found overrides (Some modified) in opening_lines head ++ version_lines head ++ told sums found.stored overrides range

id_line_unbroken : (shown : Option VersionId) → list_all is_whole_line (optional (codes "x-amz-version-id") (shown_text shown)) ≡ true
id_line_unbroken None = refl
id_line_unbroken (Some id) = rw (id_unbroken id) refl

range_line_unbroken : (range : Option (List ℕ)) → (all_unbroken range) ≡ true → list_all is_whole_line (optional (codes "Content-Range") range) ≡ true
range_line_unbroken None are = refl
range_line_unbroken (Some range) are = rw are refl

-- the lines that tell who answers, and when
opening_unbroken : (opening : Opening) → is_unbroken opening.date ≡ true → list_all is_whole_line (opening_lines (bare opening)) ≡ true
opening_unbroken opening at =
    let first : List Line = (codes "Date", opening.date) ∷ [] in
    let keeps = flag (codes "Connection") (codes "close") opening.closes in
    let id : List Line = (codes "x-amz-request-id", number_digits opening.number) ∷ [] in
    lines_joined (first ++ keeps) id (lines_joined first keeps (rw at refl) (flag_unbroken opening.closes)) (rw (number_unbroken opening.number) refl)

-- the lines that tell of a version
version_unbroken : (sums : Bool) (opening : Opening) (found : Found (List ℕ)) (overrides : List Entry) (modified : List ℕ) → IsUnbroken found.stored → is_unbroken modified ≡ true
    → list_all is_whole_line (version_lines (got_fields sums opening found overrides (Some modified))) ≡ true
version_unbroken sums opening found overrides modified unbroken since =
    let id = optional (codes "x-amz-version-id") (shown_text found.shown) in
    let tag : List Line = (codes "ETag", quoted found.stored.tag) ∷ [] in
    let made : List Line = (codes "Last-Modified", modified) ∷ [] in
    let quotes : is_unbroken (quoted found.stored.tag) ≡ true = joined found.stored.tag (34 ∷ []) unbroken.tag refl in
    let no_source = lines_joined id [] (id_line_unbroken found.shown) refl in
    let no_marker = lines_joined (id ++ []) [] no_source refl in
    let no_region = lines_joined (id ++ [] ++ []) [] no_marker refl in
    let no_place = lines_joined (id ++ [] ++ [] ++ []) [] no_region refl in
    let tagged = lines_joined (id ++ [] ++ [] ++ [] ++ []) tag no_place (rw quotes refl) in
    lines_joined (id ++ [] ++ [] ++ [] ++ [] ++ tag ++ []) made (lines_joined (id ++ [] ++ [] ++ [] ++ [] ++ tag) [] tagged refl) (rw since refl)

-- the line that tells of its type, where it is told
type_unbroken : (overridden : Bool) (kind : List ℕ) → is_unbroken kind ≡ true
    → list_all is_whole_line (optional (codes "Content-Type") (if overridden then None else Some kind)) ≡ true
type_unbroken true kind are = refl
type_unbroken false kind are = rw are refl

left_line : (is : Bool) (entry : Entry) (left : List Entry) → is_whole_line (metadata_line entry) ≡ true
    → list_all is_whole_line (map metadata_line left) ≡ true
    → list_all is_whole_line (map metadata_line (if is then entry ∷ left else left)) ≡ true
left_line true entry left one rest = rw (one, rest) refl
left_line false entry left one rest = rest

left_unbroken : (overrides entries : List Entry) → list_all is_whole_line (map metadata_line entries) ≡ true
    → list_all is_whole_line (map metadata_line (entries_left overrides entries)) ≡ true
left_unbroken overrides [] all = refl
left_unbroken overrides (entry ∷ entries) all =
    let parts = both_true (is_whole_line (metadata_line entry)) (list_all is_whole_line (map metadata_line entries)) all in
    left_line (not (is_overridden overrides entry.name)) entry (entries_left overrides entries) parts.0
    (left_unbroken overrides entries parts.1)

others_unbroken : (entries : List Entry) → list_all is_whole_line (map metadata_line entries) ≡ true
    → list_all is_whole_line (map metadata_line (other_entries entries)) ≡ true
others_unbroken [] all = refl
others_unbroken (entry ∷ entries) all =
    let parts = both_true (is_whole_line (metadata_line entry)) (list_all is_whole_line (map metadata_line entries)) all in
    left_line (not (tells_checksum entry)) entry (other_entries entries) parts.0 (others_unbroken entries parts.1)

entries_joined : (entries more : List Entry) → list_all is_whole_line (map metadata_line entries) ≡ true
    → list_all is_whole_line (map metadata_line more) ≡ true
    → list_all is_whole_line (map metadata_line (entries ++ more)) ≡ true
entries_joined entries more all rest =
    ap (list_all is_whole_line) (map-append metadata_line entries more)
    ∙ lines_joined (map metadata_line entries) (map metadata_line more) all rest

-- those that tell of its metadata, and of what stands in the place of some of that
shown_unbroken : (sums : Bool) (overrides entries : List Entry) → list_all is_whole_line (map metadata_line entries) ≡ true → AreUnbroken overrides
    → list_all is_whole_line (map metadata_line (metadata_shown sums overrides entries)) ≡ true
shown_unbroken true overrides entries all set = entries_joined (entries_left overrides entries) overrides (left_unbroken overrides entries all) set
shown_unbroken false overrides entries all set =
    let left = entries_left overrides entries in
    entries_joined (other_entries left) (other_entries overrides) (others_unbroken left (left_unbroken overrides entries all)) (others_unbroken overrides set)

-- the lines that tell of its body
told_unbroken : (sums : Bool) (stored : Data (List ℕ)) (overrides : List Entry) (range : Option (List ℕ)) → IsUnbroken stored → AreUnbroken overrides
    → all_unbroken range ≡ true → list_all is_whole_line (told sums stored overrides range) ≡ true
told_unbroken sums stored overrides range unbroken set are =
    let ranged = optional (codes "Content-Range") range in
    let kind = optional (codes "Content-Type") (type_left overrides stored.content_type) in
    lines_joined (ranged ++ kind) (map metadata_line (metadata_shown sums overrides stored.metadata))
    (lines_joined ranged kind (range_line_unbroken range are)
    (type_unbroken (is_overridden overrides (codes "content-type")) stored.content_type unbroken.content_type))
    (shown_unbroken sums overrides stored.metadata unbroken.metadata set)

date_is_unbroken : (t : ℕ) (date : List ℕ) → IsHttpDate t date → is_unbroken date ≡ true
date_is_unbroken t date is = ap is_unbroken is.2 ∙ date_unbroken is.0.parts

-- the lines in front of the size
front_unbroken : (sums : Bool) (opening : Opening) (found : Found (List ℕ)) (overrides : List Entry) (modified : List ℕ) (range : Option (List ℕ)) → is_unbroken opening.date ≡ true → is_unbroken modified ≡ true
    → IsUnbroken found.stored → AreUnbroken overrides → all_unbroken range ≡ true → list_all is_whole_line (lines_in_front sums opening found overrides modified range) ≡ true
front_unbroken sums opening found overrides modified range at since unbroken set are =
    let head = got_fields sums opening found overrides (Some modified) in
    lines_joined (opening_lines head ++ version_lines head) (told sums found.stored overrides range)
    (lines_joined (opening_lines head) (version_lines head) (opening_unbroken opening at) (version_unbroken sums opening found overrides modified unbroken since))
    (told_unbroken sums found.stored overrides range unbroken set are)

-- the head of a reply that carries bytes of a version, and these bytes behind it
object_printed : (sums : Bool) (opening : Opening) (found : Found (List ℕ)) (overrides : List Entry) (modified : List ℕ) (range : Option (List ℕ)) (size : ℕ) (body : List ℕ) → tells_size opening.status ≡ true
    → print_head (record (got_fields sums opening found overrides (Some modified)) { content_range = range; size = size }) ++ body
    ≡ status_line opening.status ++ print_lines (lines_in_front sums opening found overrides modified range) ++ print_line (codes "Content-Length", decimal size) ++ crlf ++ body
unfolding print_head
object_printed sums opening found overrides modified range size body tells =
    let head = got_fields sums opening found overrides (Some modified) in
    let told_size : Line = (codes "Content-Length", decimal size) in
    let front = opening_lines head ++ version_lines head in
    let whole = front ++ told sums found.stored overrides range in
    ap (λ b. status_line opening.status ++ print_lines (front ++ (told sums found.stored overrides range ++ flag told_size.0 told_size.1 b)) ++ crlf ++ body) tells
    ∙ ap (λ l. status_line opening.status ++ l ++ crlf ++ body) (ap print_lines (sym (append_assoc front (told sums found.stored overrides range) (told_size ∷ []))) ∙ last_line whole told_size)
    ∙ ap (λ r. r ++ crlf ++ body) (sym (append_assoc (status_line opening.status) (print_lines whole) (print_line told_size)))

-- the date of the version that is shown
modified_of : (t : ℕ) (modified : Option (List ℕ)) → IsDateShown (Some t) modified → (date : List ℕ) × IsHttpDate t date × (modified ≡ Some date)
modified_of t (Some date) is = (date, is, refl)
modified_of t None is = absurd is

got_carries : (opening : Opening) (found : Found (List ℕ)) (overrides : List Entry) (modified text : List ℕ) → opening.status ≡ statuses.Ok → is_unbroken opening.date ≡ true → is_unbroken modified ≡ true → IsUnbroken found.stored
    → AreUnbroken overrides → text ≡ print_head (sized (got_fields opening.tells_checksums opening found overrides (Some modified)) found.stored.body) ++ found.stored.body → Carries found.stored.body text
unfolding status_line digits
got_carries opening found overrides modified text status at since unbroken set is =
    let lines = lines_in_front opening.tells_checksums opening found overrides modified None in
    record {
      lines = lines;
      whole = front_unbroken opening.tells_checksums opening found overrides modified None at since unbroken set refl;
      printed = is
          ∙ object_printed opening.tells_checksums opening found overrides modified None (length found.stored.body) found.stored.body (ap tells_size status)
          ∙ ap (λ s. status_line s ++ print_lines lines ++ print_line (codes "Content-Length", decimal (length found.stored.body)) ++ crlf ++ found.stored.body) status;
    }

part_carries : (opening : Opening) (found : Found (List ℕ)) (overrides : List Entry) (modified : List ℕ) (first last : ℕ) (text : List ℕ) → opening.status ≡ statuses.PartialContent → is_unbroken opening.date ≡ true → is_unbroken modified ≡ true → IsUnbroken found.stored
    → AreUnbroken overrides → text ≡ print_head (sized (part_fields opening found overrides (Some modified) first last) (part first last found.stored.body)) ++ part first last found.stored.body
    → CarriesPart first last found.stored.body text
unfolding status_line digits
part_carries opening found overrides modified first last text status at since unbroken set is =
    let range = content_range first last (length found.stored.body) in
    let head = got_fields false opening found overrides (Some modified) in
    let bytes = part first last found.stored.body in
    let lines = lines_in_front false opening found overrides modified (Some range) in
    record {
      lines = lines;
      whole = front_unbroken false opening found overrides modified (Some range) at since unbroken set (range_unbroken first last (length found.stored.body));
      told = Contains-append_right (opening_lines head ++ version_lines head) (told false found.stored overrides (Some range)) (codes "Content-Range", range) (1, omega arith, refl);
      printed = is
          ∙ object_printed false opening found overrides modified (Some range) (length bytes) bytes (ap tells_size status)
          ∙ ap (λ s. status_line s ++ print_lines lines ++ print_line (codes "Content-Length", decimal (length bytes)) ++ crlf ++ bytes) status;
    }

-- what is printed of an answer that came out so
printed_as : (answer : Answer) (context : Context) (text : List ℕ) (outcome : Outcome) (prints : Prints answer context text) → answer.outcome ≡ outcome
    → Prints (record { number = answer.number; outcome = outcome }) context text
printed_as answer context text outcome prints is = subst (λ o. Prints (record { number = answer.number; outcome = o }) context text) is prints

pub objects_are_carried : ObjectsAreCarried
objects_are_carried answer context text found overrides prints gives unbroken set whole =
    let got = printed_as answer context text (Got found Whole overrides) prints gives in
    let opening = opening_of answer.number context got.date (Got found Whole overrides) in
    let made = modified_of found.moment got.modified got.shown in
    let bytes = found.stored.body in
    let sent : sent_body context.head_only bytes ≡ bytes = rw whole refl in
    got_carries opening found overrides made.0 text refl (date_is_unbroken context.moment got.date got.dated) (date_is_unbroken found.moment made.0 made.1) unbroken set
    (got.printed
    ∙ ap (λ b. print_head (sized (got_fields opening.tells_checksums opening found overrides got.modified) bytes) ++ b) sent
    ∙ ap (λ m. print_head (sized (got_fields opening.tells_checksums opening found overrides m) bytes) ++ bytes) made.2)

pub parts_are_carried : PartsAreCarried
parts_are_carried answer context text found overrides first last prints gives unbroken set whole =
    let got = printed_as answer context text (Got found (Part first last) overrides) prints gives in
    let opening = opening_of answer.number context got.date (Got found (Part first last) overrides) in
    let made = modified_of found.moment got.modified got.shown in
    let bytes = part first last found.stored.body in
    let sent : sent_body context.head_only bytes ≡ bytes = rw whole refl in
    part_carries opening found overrides made.0 first last text refl (date_is_unbroken context.moment got.date got.dated) (date_is_unbroken found.moment made.0 made.1) unbroken set
    (got.printed
    ∙ ap (λ b. print_head (sized (part_fields opening found overrides got.modified first last) bytes) ++ b) sent
    ∙ ap (λ m. print_head (sized (part_fields opening found overrides m first last) bytes) ++ bytes) made.2)

-- ---- who looks for a bucket is told its region

-- the lines that tell it, and that nothing stands behind them
abbrev region_lines : List ℕ → List Line
region_lines region = (codes "x-amz-bucket-region", region) ∷ (codes "Content-Length", decimal 0) ∷ []

-- an opening that says so
abbrev as_found : Opening → Opening
as_found opening = record opening { status = statuses.Ok; dialect = S3 }

is_as_found : (opening : Opening) → opening.status ≡ statuses.Ok → opening.dialect ≡ S3 → opening ≡ as_found opening
is_as_found opening status is =
    ap (λ s. record opening { status = s }) status ∙ ap (λ d. record opening { status = statuses.Ok; dialect = d }) is

lines_there : (opening : Opening) (region : List ℕ)
    → version_lines (found_fields (as_found opening) region) ++ body_lines (found_fields (as_found opening) region) ≡ region_lines region
lines_there opening region = refl

printed_there : (opening : Opening) (region : List ℕ)
    → print_head (found_fields (as_found opening) region)
    ≡ print_with_lines statuses.Ok (opening_lines (bare opening) ++ region_lines region)
unfolding print_head
printed_there opening region =
    let head = found_fields (as_found opening) region in
    ap (print_with_lines statuses.Ok)
    (append_assoc (opening_lines (bare opening)) (version_lines head) (body_lines head)
    ∙ ap (λ (x : List Line). opening_lines (bare opening) ++ x) (lines_there opening region))

found_printed : (opening : Opening) (region : List ℕ) → opening.status ≡ statuses.Ok → opening.dialect ≡ S3
    → print_head (found_fields opening region)
    ≡ status_line statuses.Ok ++ print_lines (opening_lines (bare opening) ++ region_lines region) ++ crlf
found_printed opening region status is =
    ap (λ (o : Opening). print_head (found_fields o region)) (is_as_found opening status is) ∙ printed_there opening region

found_tells : (opening : Opening) (region text : List ℕ) → opening.status ≡ statuses.Ok → opening.dialect ≡ S3
    → is_unbroken opening.date ≡ true → is_unbroken region ≡ true → text ≡ print_head (found_fields opening region) ++ []
    → TellsRegion region text
unfolding status_line digits
found_tells opening region text status is at unbroken printed =
    let first = opening_lines (bare opening) in
    record {
      lines = first ++ region_lines region;
      whole = lines_joined first (region_lines region) (opening_unbroken opening at) (rw (unbroken, decimal_unbroken 0) refl);
      told = Contains-append_right first (region_lines region) (codes "x-amz-bucket-region", region) (0, omega arith, refl);
      printed = printed ∙ append-nil (print_head (found_fields opening region)) ∙ found_printed opening region status is;
    }

pub regions_are_told : RegionsAreTold
regions_are_told answer context text region prints found unbroken is =
    let told = printed_as answer context text (BucketFound region) prints found in
    found_tells (opening_of answer.number context told.date (BucketFound region)) region text refl is
    (date_is_unbroken context.moment told.date told.dated) unbroken told.printed

-- what a HEAD leaves out
abbrev left_out : Reply → List ℕ
left_out (alone head) = []
left_out (beside head text) = text
left_out (behind head body) = body

heads_tell : (reply : Reply) → front false reply ++ back false reply ≡ front true reply ++ back true reply ++ left_out reply
heads_tell (alone head) = simp append-nil
heads_tell (beside head text) = simp append-nil
heads_tell (behind head body) = simp append-nil

pub heads_tell_of_replies : HeadsTellOfReplies
heads_tell_of_replies answer context text prints whole =
    let reply = reply_to (opening_of answer.number context prints.date answer.outcome) prints.modified answer.outcome in
    let asked : Context = record context { head_only = true } in
    let told : Prints answer asked (front true reply ++ back true reply) =
    record { date = prints.date; modified = prints.modified; dated = prints.dated; shown = prints.shown; printed = refl } in
    (front true reply ++ back true reply, left_out reply, told, prints.printed ∙ ap (λ h. front h reply ++ back h reply) whole ∙ heads_tell reply)
