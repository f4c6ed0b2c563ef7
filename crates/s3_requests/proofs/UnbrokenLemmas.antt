-- What a head asks to be stored beside a body has no carriage return in it, and what is ready without a body brings none.
use Rattle.std.proofs.Common.{◌≡◌, inl, inr, ℕ, ◌+◌, Bool, true, false, not, ◌&&◌, List, [], ◌∷◌, map, filter, reverse, refl, sym, ap, subst, ◌∙◌, arith, Option, Some, None, option_map, is_some, Result, Ok, Err, if◌then◌else◌, slice_get}
use Rattle.std.specs.Prelude.{◌==◌, nat_lt, length, not, codes}
use Rattle.std.specs.Char.{to_ascii_lowercase}
use Rattle.std.specs.List.{list_all, cons_option, filter_map, dedup, dedup_from, join_with_byte}
use Rattle.std.specs.Str.{bytes_eq, str_to_ascii_lowercase}
use Rattle.std.specs.declared.cmp.Ordering.{Ordering}
use Rattle.std.specs.Ordering.{is_gt}
use Rattle.std.proofs.lemmas.Bool.{cases_Bool}
use Rattle.std.proofs.lemmas.List.{reverse-append}
use Rattle.std.proofs.lemmas.List.Folds.{list_all-append}
use Rattle.httparse.specs.Grammar.{is_ows, skip_ows, trim_ows}
use Rattle.s3_text.specs.Characters.{comma}
use Rattle.s3_text.specs.Cut.{parts_at}
use Rattle.s3_text.specs.Order.{byte_order}
use Rattle.s3_text.specs.Sorting.{insert_by, sorted_by}
use Rattle.s3_text.proofs.JoinLemmas.{joined_all, split_all}
use Rattle.s3_terms.proofs.FaultLemmas.{test_ok}
use Rattle.s3_terms.specs.Fault.{refuse, ◌>>◌, ◌>>=◌}
use Rattle.s3_terms.specs.declared.code.Code.{Code}
use Rattle.s3_terms.specs.declared.code.Code.TheVariants.{InvalidArgument, InvalidRequest, MetadataTooLarge, NotImplemented}
use Rattle.s3_terms.specs.declared.dialect.Dialect.{Dialect}
use Rattle.s3_terms.specs.declared.dialect.Dialect.TheVariants.{Json, S3}
use Rattle.s3_config.specs.Settings.{Settings}
use Rattle.s3_http_heads.specs.Method.{method_of}
use Rattle.s3_http_heads.specs.Head.{HeadParts, LinesAreWhole, is_named, is_unbroken, is_whole_line, values_of}
use Rattle.s3_http_heads.specs.Target.{TargetParts}
use Rattle.s3_versions.specs.ContentType.{content_type}
use Rattle.s3_versions.specs.Metadata.{Entry, is_allowed, metadata, metadata_limit, metadata_size, user_limit, user_size}
use Rattle.s3_versions.specs.declared.version.Data.{Data}
use Rattle.s3_requests.specs.declared.routing.Plan.{Plan}
use Rattle.s3_requests.specs.declared.routing.Plan.TheVariants as plans
use Rattle.s3_requests.specs.declared.routing.KeyAsked.{KeyAsked}
use Rattle.s3_requests.specs.declared.routing.KeyAsked.TheVariants as key_asked
use Rattle.s3_listings.specs.declared.asked.PartsAsked.{PartsAsked}
use Rattle.s3_machine.specs.declared.command.Command.TheVariants as commands
use Rattle.s3_machine.specs.declared.command.BucketCommand.{BucketCommand}
use Rattle.s3_machine.specs.declared.command.KeyCommand.{KeyCommand}
use Rattle.s3_machine.specs.declared.command.KeyCommand.TheVariants as key_commands
use Rattle.s3_machine.specs.declared.command.UploadCommand.TheVariants as upload_commands
use Rattle.s3_machine.specs.declared.command.Description.{Description}
use Rattle.s3_machine.specs.declared.command.ObjectCopy.{ObjectCopy}
use Rattle.s3_machine.specs.declared.command.PartCopy.{PartCopy}
use Rattle.s3_machine.specs.declared.command.Source.{Source}
use Rattle.s3_machine.specs.declared.command.WriteCondition.{WriteCondition}
use Rattle.s3_machine.specs.Effects.{brings, key_brought, sent, upload_sent}
use Rattle.s3_requests.specs.declared.copies.Directive.{Directive}
use Rattle.s3_requests.specs.declared.copies.Directive.TheVariants as directives
use Rattle.s3_requests.specs.declared.operations.Operation.{Operation}
use Rattle.s3_requests.specs.declared.operations.Operation.TheVariants as operations
use Rattle.s3_names.specs.Names.{object_key}
use Rattle.s3_names.specs.declared.ids.VersionId.{VersionId}
use Rattle.s3_requests.specs.Arguments.{version_argument}
use Rattle.s3_requests.specs.ReadConditions.{conditions_of}
use Rattle.s3_requests.specs.WriteCondition.{condition_of, deletion_said, tags_wanted}
use Rattle.s3_requests.specs.Operations.{service_operation, bucket_operation, key_operation}
use Rattle.s3_requests.specs.Protection.{is_protected}
use Rattle.s3_requests.specs.Addresses.{is_service, address_at}
use Rattle.s3_requests.specs.Copies.{directive_of, description_by, source_for, object_copy_of, part_copy_of}
use Rattle.s3_requests.specs.Description.{type_sent, content_type_of, encoding_kept, encoding_name, is_kept, is_of_transfer, is_said, name_in, names_of, value_kept, value_sent, entry_of, entries_of, metadata_of, description_of}
use Rattle.s3_requests.specs.ListArguments.{parts_asked_of}
use Rattle.s3_requests.specs.UploadArguments.{upload_argument, part_argument}
use Rattle.s3_requests.specs.Overrides.{overrides_asked}
use Rattle.s3_requests.specs.Routing.{served, service_plan_for, service_plan, bucket_named, bucket_command_for, creation_plan, plan_in_bucket, plan_of_bucket, read_command, tags_command, delete_command, key_command_for, put_plan, part_copy_plan, parts_plan, complete_plan, asked_for, key_plan, plan_under, plan_of_key, named_plan, route_of}
use Rattle.s3_requests.specs.Laws.{is_unbroken_entry, AreUnbroken, IsUnbrokenSaid, IsUnbrokenAsk, IsUnbrokenPlan, PlansAreUnbroken, ReadyPlansBringNothing}
use Rattle.s3_requests.proofs.OverrideLemmas.{overrides_unbroken}

both : (a b : Bool) → (a && b) ≡ true → (a ≡ true) × (b ≡ true)
both true b is = (refl, is)
both false b is = absurd (cc)

-- ---- lists of which all pass

module _ {X : Type 0} (p : X → Bool) where
  chosen : (q : X → Bool) (xs : List X) → list_all p xs ≡ true → list_all p (filter q xs) ≡ true
  chosen q [] all = refl
  chosen q (x ∷ xs) all =
      let parts = both (p x) (list_all p xs) all in
      elim (cases_Bool (q x)) [
        | inl taken ↦ rw (taken, parts.0) (chosen q xs parts.1)
        | inr left ↦ rw left (chosen q xs parts.1)
      ]

  placed : (cmp : X → X → Ordering) (x : X) (ys : List X) → p x ≡ true → list_all p ys ≡ true → list_all p (insert_by cmp x ys) ≡ true
  placed cmp x [] here all = rw here refl
  placed cmp x (y ∷ ys) here all =
      let parts = both (p y) (list_all p ys) all in
      elim (cases_Bool (is_gt (cmp x y))) [
        | inl past ↦ rw (past, parts.0) (placed cmp x ys here parts.1)
        | inr first ↦ rw (first, here) all
      ]

  sorted : (cmp : X → X → Ordering) (xs : List X) → list_all p xs ≡ true → list_all p (sorted_by cmp xs) ≡ true
  unfolding sorted_by
  sorted cmp [] all = refl
  sorted cmp (x ∷ xs) all =
      let parts = both (p x) (list_all p xs) all in
      placed cmp x (sorted_by cmp xs) parts.0 (sorted cmp xs parts.1)

  once_from : (same : X → X → Bool) (k : X) (xs : List X) → p k ≡ true → list_all p xs ≡ true → list_all p (dedup_from same k xs) ≡ true
  once_from same k [] here all = rw here refl
  once_from same k (x ∷ xs) here all =
      let parts = both (p x) (list_all p xs) all in
      elim (cases_Bool (same x k)) [
        | inl again ↦ rw again (once_from same k xs here parts.1)
        | inr other ↦ rw (other, here) (once_from same x xs parts.0 parts.1)
      ]

  once : (same : X → X → Bool) (xs : List X) → list_all p xs ≡ true → list_all p (dedup same xs) ≡ true
  once same [] all = refl
  once same (x ∷ xs) all = let parts = both (p x) (list_all p xs) all in once_from same x xs parts.0 parts.1

-- ---- texts

shifted : (b : ℕ) → not (b + 32 == 13) ≡ true
shifted b = grind arith

lower_byte : (b : ℕ) → not (b == 13) ≡ true → not (to_ascii_lowercase b == 13) ≡ true
lower_byte b whole = elim (cases_Bool (nat_lt b 65)) [
  | inl small ↦ rw small whole
  | inr other ↦ elim (cases_Bool (nat_lt b 91)) [
    | inl capital ↦ rw (other, capital) (shifted b)
    | inr beyond ↦ rw (other, beyond) whole
  ]
]

lower_unbroken : (bytes : List ℕ) → is_unbroken bytes ≡ true → is_unbroken (str_to_ascii_lowercase bytes) ≡ true
lower_unbroken [] all = refl
lower_unbroken (b ∷ bytes) all =
    let parts = both (not (b == 13)) (is_unbroken bytes) all in
    rw (lower_byte b parts.0) (lower_unbroken bytes parts.1)

-- joined by commas
joined : (texts : List (List ℕ)) → list_all is_unbroken texts ≡ true → is_unbroken (join_with_byte comma texts) ≡ true
joined = joined_all (λ b. not (b == 13)) comma refl

-- cut at commas
cut : (text : List ℕ) → is_unbroken text ≡ true → list_all is_unbroken (parts_at comma text) ≡ true
cut = split_all (λ b. b == comma) (λ b. not (b == 13)) (λ b. not (b == 13)) (λ b other whole. whole)

-- without the white space at the start, from behind, and without that at both ends
skipped : (bytes : List ℕ) → is_unbroken bytes ≡ true → is_unbroken (skip_ows bytes) ≡ true
skipped [] all = refl
skipped (b ∷ bytes) all = elim (cases_Bool (is_ows b)) [
  | inl white ↦ rw white (skipped bytes (both (not (b == 13)) (is_unbroken bytes) all).1)
  | inr other ↦ rw other all
]

turned : (bytes : List ℕ) → is_unbroken bytes ≡ true → is_unbroken (reverse bytes) ≡ true
turned [] all = refl
turned (b ∷ bytes) all =
    let parts = both (not (b == 13)) (is_unbroken bytes) all in
    ap is_unbroken (reverse-append (b ∷ []) bytes)
    ∙ list_all-append (λ c. not (c == 13)) (reverse bytes) (b ∷ [])
    ∙ rw (turned bytes parts.1, parts.0) refl

trimmed : (bytes : List ℕ) → is_unbroken bytes ≡ true → is_unbroken (trim_ows bytes) ≡ true
unfolding trim_ows
trimmed bytes all = turned (skip_ows (reverse (skip_ows bytes))) (skipped (reverse (skip_ows bytes)) (turned (skip_ows bytes) (skipped bytes all)))

-- what is kept of the value of a name
encoding_unbroken : (value : List ℕ) → is_unbroken value ≡ true → is_unbroken (encoding_kept value) ≡ true
encoding_unbroken value all =
    let stored = λ (coding : List ℕ). not (is_of_transfer coding) in
    let codings = filter stored (parts_at comma value) in
    trimmed (join_with_byte comma codings) (joined codings (chosen is_unbroken stored (parts_at comma value) (cut value all)))

kept_unbroken : (name value : List ℕ) → is_unbroken value ≡ true → is_unbroken (value_kept name value) ≡ true
kept_unbroken name value all = elim (cases_Bool (bytes_eq name encoding_name)) [
  | inl encoding ↦ rw encoding (encoding_unbroken value all)
  | inr other ↦ rw other all
]

-- ---- the lines of a head

values_whole : (lines : List (List ℕ × List ℕ)) → list_all is_whole_line lines ≡ true → list_all is_unbroken (map (λ (line : List ℕ × List ℕ). line.1) lines) ≡ true
values_whole [] all = refl
values_whole (line ∷ lines) all =
    let parts = both (is_whole_line line) (list_all is_whole_line lines) all in
    rw ((both (is_unbroken line.0) (is_unbroken line.1) parts.0).1) (values_whole lines parts.1)

values_unbroken : (name : List ℕ) (head : HeadParts) → list_all is_whole_line head.headers ≡ true → list_all is_unbroken (values_of name head) ≡ true
unfolding values_of
values_unbroken name head all = values_whole (filter (is_named name) head.headers) (chosen is_whole_line (is_named name) head.headers all)

onto : (test : Bool) (name : List ℕ) (names : List (List ℕ)) → is_unbroken name ≡ true → list_all is_unbroken names ≡ true
    → list_all is_unbroken (cons_option (if test then Some name else None) names) ≡ true
onto true name names here all = rw here all
onto false name names here all = all

names_whole : (dialect : Dialect) (lines : List (List ℕ × List ℕ)) → list_all is_whole_line lines ≡ true
    → list_all is_unbroken (filter_map (λ (line : List ℕ × List ℕ). name_in dialect line.0) lines) ≡ true
names_whole dialect [] all = refl
names_whole dialect (line ∷ lines) all =
    let parts = both (is_whole_line line) (list_all is_whole_line lines) all in
    let sent = (both (is_unbroken line.0) (is_unbroken line.1) parts.0).0 in
    onto (is_kept dialect line.0) (str_to_ascii_lowercase line.0) _ (lower_unbroken line.0 sent) (names_whole dialect lines parts.1)

names_unbroken : (dialect : Dialect) (head : HeadParts) → list_all is_whole_line head.headers ≡ true → list_all is_unbroken (names_of dialect head) ≡ true
names_unbroken dialect head all =
    let names = filter_map (λ (line : List ℕ × List ℕ). name_in dialect line.0) head.headers in
    once is_unbroken bytes_eq (sorted_by byte_order names) (sorted is_unbroken byte_order names (names_whole dialect head.headers all))

entries_unbroken : (head : HeadParts) (names : List (List ℕ)) → list_all is_whole_line head.headers ≡ true → list_all is_unbroken names ≡ true
    → list_all is_unbroken_entry (map (entry_of head) names) ≡ true
entries_unbroken head [] lines all = refl
entries_unbroken head (name ∷ names) lines all =
    let parts = both (is_unbroken name) (list_all is_unbroken names) all in
    rw (parts.0, kept_unbroken name (value_sent head name) (joined (values_of name head) (values_unbroken name head lines))) (entries_unbroken head names lines parts.1)

-- ---- what refuses nothing

passed : {A : Type 0} (fault : Bool) (code : Code) (x y : A) → ◌≡◌ {A = Result A Code} (refuse fault code >> Ok x) (Ok y) → x ≡ y
passed true code x y is = absurd (cc)
passed false code x y is = cc

bound : {A B : Type 0} (r : Result A Code) (next : A → Result B Code) (y : B) → (r >>= next) ≡ Ok y → (x : A) × (r ≡ Ok x) × (next x ≡ Ok y)
bound (Ok x) next y is = (x, refl, is)
bound (Err code) next y is = absurd (cc)

either : {A : Type 0} (test : Bool) (x y : Result Plan Code) (plan : Plan) → ◌≡◌ {A = Result Plan Code} (if test then x else y) (Ok plan)
    → (x ≡ Ok plan → A) → (y ≡ Ok plan → A) → A
either true x y plan is first second = first is
either false x y plan is first second = second is

-- what is made of what a rule gives is so where it is of all that the rule gives
made_of : {A B : Type 0} (Is : B → Type 0) (rule : Result A Code) (make : A → B) (made : B)
    → ((a : A) → rule ≡ Ok a → Is (make a)) → (rule >>= (λ (a : A). Ok (make a))) ≡ Ok made → Is made
made_of Is (Ok a) make made all is = let same : make a ≡ made = cc in subst Is same (all a refl)
made_of Is (Err code) make made all is = absurd (cc)

-- metadata is the entries that it was made of
metadata_same : (entries made : List Entry) → metadata entries ≡ Ok made → made ≡ entries
unfolding metadata
metadata_same entries made is =
    let few = test_ok (nat_lt user_limit (user_size entries)) MetadataTooLarge _ made is in
    let allowed = test_ok (not (list_all is_allowed entries)) InvalidArgument _ made few.1 in
    sym (passed (nat_lt metadata_limit (metadata_size entries)) MetadataTooLarge entries made allowed.1)

-- ---- what is said of an object

-- a copy of this source, of which this is said
abbrev copying : Source → Option Description → ObjectCopy
copying source said = record { source = source; description = said }

-- an object with this type and this metadata
abbrev describing : List ℕ → List Entry → Description
describing kind entries = record { content_type = kind; metadata = entries }

type_unbroken : (values : List (List ℕ)) → list_all is_unbroken values ≡ true → is_unbroken (type_sent (slice_get values 0)) ≡ true
type_unbroken [] all = refl
type_unbroken (value ∷ values) all = (both (is_unbroken value) (list_all is_unbroken values) all).0

-- the lines of a head have no carriage return
abbrev AreWhole : HeadParts → Type 0
AreWhole head = list_all is_whole_line head.headers ≡ true

module _ (head : HeadParts) (lines : AreWhole head) where
  content_type_unbroken : (kind : List ℕ) → content_type_of head ≡ Ok kind → is_unbroken kind ≡ true
  unfolding content_type_of content_type
  content_type_unbroken kind is =
      let sent = type_sent (slice_get (values_of (codes "content-type") head) 0) in
      ap is_unbroken (sym (passed (nat_lt 255 (length sent)) _ sent kind is))
      ∙ type_unbroken (values_of (codes "content-type") head) (values_unbroken (codes "content-type") head lines)

  metadata_unbroken : (dialect : Dialect) (entries : List Entry) → metadata_of dialect head ≡ Ok entries → list_all is_unbroken_entry entries ≡ true
  unfolding metadata_of
  metadata_unbroken dialect entries is =
      let all = map (entry_of head) (names_of dialect head) in
      ap (list_all is_unbroken_entry) (metadata_same (entries_of dialect head) entries is)
      ∙ chosen is_unbroken_entry is_said all (entries_unbroken head (names_of dialect head) lines (names_unbroken dialect head lines))

  description_unbroken : (dialect : Dialect) (said : Description) → description_of dialect head ≡ Ok said → AreUnbroken said.content_type said.metadata
  unfolding description_of
  description_unbroken dialect said is =
      let one = bound (content_type_of head) (λ (kind : List ℕ). metadata_of dialect head >>= (λ (entries : List Entry). Ok (describing kind entries))) said is in
      let two = bound (metadata_of dialect head) (λ (entries : List Entry). Ok (describing one.0 entries)) said one.2 in
      let same : describing one.0 two.0 ≡ said = cc in
      subst (λ (s : Description). AreUnbroken s.content_type s.metadata) same (content_type_unbroken one.0 one.1, metadata_unbroken dialect two.0 two.1)

  -- what is said of a copy is what its head says, or nothing
  said_unbroken : (dialect : Dialect) (directive : Directive) (said : Option Description) → description_by dialect directive head ≡ Ok said → IsUnbrokenSaid said
  said_unbroken dialect directives.Keep said is =
      let same : None ≡ said = cc in
      subst IsUnbrokenSaid same tt
  said_unbroken dialect directives.Replace said is =
      let one = bound (description_of dialect head) (λ (new : Description). Ok (Some new)) said is in
      let same : Some one.0 ≡ said = cc in
      subst IsUnbrokenSaid same (description_unbroken dialect one.0 one.1)

  copy_unbroken : (dialect : Dialect) (target : TargetParts) (copy : ObjectCopy) → object_copy_of dialect head target ≡ Ok copy → IsUnbrokenSaid copy.description
  unfolding object_copy_of
  copy_unbroken dialect target copy is =
      let described = λ (directive : Directive) (source : Source). description_by dialect directive head >>= (λ (said : Option Description). Ok (copying source said)) in
      let directive = bound (directive_of dialect head) (λ (directive : Directive). source_for dialect directive head target >>= described directive) copy is in
      let source = bound (source_for dialect directive.0 head target) (described directive.0) copy directive.2 in
      made_of (λ (made : ObjectCopy). IsUnbrokenSaid made.description) (description_by dialect directive.0 head) (copying source.0) copy
      (λ said described. said_unbroken dialect directive.0 said described) source.2

-- ---- what is known of a plan: beside a body it has no carriage return, and ready without a body it brings none

abbrev BringsNone : Plan → Type 0
BringsNone (plans.Ready command) = (brings command ≡ None) × (sent command ≡ None)
BringsNone other = Unit {0}

abbrev IsRight : HeadParts → Plan → Type 0
IsRight head plan = (AreWhole head → IsUnbrokenPlan plan) × BringsNone plan

abbrev IsRightAsk : HeadParts → KeyCommand → Type 0
IsRightAsk head asked = (AreWhole head → IsUnbrokenAsk asked) × (key_brought asked ≡ None)

abbrev IsRightUnder : HeadParts → KeyAsked → Type 0
IsRightUnder head (key_asked.Key asked) = IsRightAsk head asked
IsRightUnder head (key_asked.Upload id asked) = upload_sent asked ≡ None
IsRightUnder head (key_asked.Put said condition) = AreWhole head → AreUnbroken said.content_type said.metadata
IsRightUnder head other = Unit {0}

module _ (head : HeadParts) where
  under : (name key : List ℕ) (asked : KeyAsked) → IsRightUnder head asked → IsRight head (plan_under name key asked)
  under name key (key_asked.Key asked) right =
      (right.0, (ap (option_map (λ (what : Data (List ℕ)). what.body)) right.1, refl))
  under name key (key_asked.Upload id asked) right = ((λ lines. tt), (refl, right))
  under name key (key_asked.Put said condition) right = (right, tt)
  under name key _ right = ((λ lines. tt), tt)

  read_right : (dialect : Dialect) (target : TargetParts) (asked : KeyCommand) → read_command dialect head target ≡ Ok asked → IsRightAsk head asked
  unfolding read_command
  read_right dialect target asked is =
      let version = bound (version_argument (codes "versionId") target)
      (λ (v : Option VersionId). overrides_asked dialect target
      >>= (λ (said : List Entry). Ok (key_commands.Read (record { version = v; conditions = conditions_of head; overrides = said })))) asked is in
      made_of (IsRightAsk head) (overrides_asked dialect target)
      (λ (said : List Entry). key_commands.Read (record { version = version.0; conditions = conditions_of head; overrides = said })) asked
      (λ said made. ((λ lines. overrides_unbroken dialect target said made), refl)) version.2

  tags_right : (target : TargetParts) (asked : KeyCommand) → tags_command target ≡ Ok asked → IsRightAsk head asked
  unfolding tags_command
  tags_right target asked is =
      made_of (IsRightAsk head) (version_argument (codes "versionId") target) (λ (v : Option VersionId). key_commands.ReadTags v) asked (λ v named. ((λ lines. tt), refl)) is

  deletion_right : (version : Option VersionId) (tags : Option (List ℕ)) (asked : KeyCommand) → deletion_said version tags ≡ Ok asked → IsRightAsk head asked
  deletion_right version None asked is =
      let same : key_commands.Delete version ≡ asked = cc in
      subst (IsRightAsk head) same ((λ lines. tt), refl)
  deletion_right version (Some tags) asked is =
      let same = passed (is_some version) NotImplemented (key_commands.DeleteMatching tags) asked is in
      subst (IsRightAsk head) same ((λ lines. tt), refl)

  delete_right : (dialect : Dialect) (target : TargetParts) (asked : KeyCommand) → delete_command dialect head target ≡ Ok asked → IsRightAsk head asked
  unfolding delete_command
  delete_right dialect target asked is =
      let version = bound (version_argument (codes "versionId") target) (λ (v : Option VersionId). deletion_said v (tags_wanted dialect head)) asked is in
      deletion_right version.0 (tags_wanted dialect head) asked version.2

  command_right : (dialect : Dialect) (operation : Operation) (target : TargetParts) (asked : KeyCommand) → key_command_for dialect operation head target ≡ Ok asked → IsRightAsk head asked
  unfolding key_command_for
  command_right dialect operations.CopyObject target asked is =
      made_of (IsRightAsk head) (object_copy_of dialect head target) (λ (copy : ObjectCopy). key_commands.Copy copy) asked
      (λ copy made. ((λ lines. copy_unbroken head lines dialect target copy made), refl)) is
  command_right dialect operations.GetObject target asked is = read_right dialect target asked is
  command_right dialect operations.HeadObject target asked is = read_right dialect target asked is
  command_right dialect operations.GetObjectTagging target asked is = tags_right target asked is
  command_right dialect operations.DeleteObject target asked is = delete_right dialect target asked is
  command_right dialect operations.CreateMultipartUpload target asked is =
      made_of (IsRightAsk head) (description_of dialect head) (λ (said : Description). key_commands.Begin said) asked
      (λ said made. ((λ lines. description_unbroken head lines dialect said made), refl)) is
  command_right dialect _ target asked is = absurd (cc)

  asked_right_for : (dialect : Dialect) (operation : Operation) (target : TargetParts) (asked : KeyAsked) → asked_for dialect operation head target ≡ Ok asked → IsRightUnder head asked
  unfolding put_plan part_copy_plan parts_plan complete_plan
  asked_right_for dialect operations.PutObject target asked is =
      let said = bound (description_of dialect head) (λ (said : Description). condition_of dialect head >>= (λ (condition : WriteCondition). Ok (key_asked.Put said condition))) asked is in
      made_of (IsRightUnder head) (condition_of dialect head) (λ (condition : WriteCondition). key_asked.Put said.0 condition) asked
      (λ condition read lines. description_unbroken head lines dialect said.0 said.1) said.2
  asked_right_for dialect operations.UploadPart target asked is =
      made_of (IsRightUnder head) (part_argument target) (λ (part : ℕ × ℕ). key_asked.PutPart part.0 part.1) asked (λ part read. tt) is
  asked_right_for dialect operations.UploadPartCopy target asked is =
      let part = bound (part_argument target)
      (λ (part : ℕ × ℕ). part_copy_of dialect head >>= (λ (copy : PartCopy). Ok (key_asked.Upload part.0 (upload_commands.CopyPart part.1 copy)))) asked is in
      made_of (IsRightUnder head) (part_copy_of dialect head) (λ (copy : PartCopy). key_asked.Upload part.0.0 (upload_commands.CopyPart part.0.1 copy)) asked (λ copy read. refl) part.2
  asked_right_for dialect operations.ListParts target asked is =
      let listed = bound (parts_asked_of target) (λ (listed : PartsAsked). upload_argument target >>= (λ (id : ℕ). Ok (key_asked.Upload id (upload_commands.ListParts listed)))) asked is in
      made_of (IsRightUnder head) (upload_argument target) (λ (id : ℕ). key_asked.Upload id (upload_commands.ListParts listed.0)) asked (λ id read. refl) listed.2
  asked_right_for dialect operations.CompleteMultipartUpload target asked is =
      let id = bound (upload_argument target) (λ (id : ℕ). condition_of dialect head >>= (λ (condition : WriteCondition). Ok (key_asked.Complete id dialect condition))) asked is in
      made_of (IsRightUnder head) (condition_of dialect head) (λ (condition : WriteCondition). key_asked.Complete id.0 dialect condition) asked (λ condition read. tt) id.2
  asked_right_for dialect operations.AbortMultipartUpload target asked is =
      made_of (IsRightUnder head) (upload_argument target) (λ (id : ℕ). key_asked.Upload id upload_commands.Abort) asked (λ id read. refl) is
  asked_right_for dialect operation target asked is =
      made_of (IsRightUnder head) (key_command_for dialect operation head target) (λ (command : KeyCommand). key_asked.Key command) asked
      (λ command made. command_right dialect operation target command made) is

  asked_right : (dialect : Dialect) (target : TargetParts) (asked : KeyAsked) → key_plan dialect head target ≡ Ok asked → IsRightUnder head asked
  unfolding key_plan
  asked_right dialect target asked is =
      let one = bound (served dialect head (key_operation (method_of head.method) head target)) (λ (operation : Operation). asked_for dialect operation head target) asked is in
      asked_right_for dialect one.0 target asked one.2

  service_right_for : (operation : Operation) (plan : Plan) → service_plan_for operation ≡ Ok plan → IsRight head plan
  service_right_for operations.ListBuckets plan is =
      let same : plans.Ready commands.ListBuckets ≡ plan = cc in
      subst (IsRight head) same ((λ lines. tt), (refl, refl))
  service_right_for _ plan is = absurd (cc)

  service_right : (dialect : Dialect) (plan : Plan) → service_plan dialect head ≡ Ok plan → IsRight head plan
  unfolding service_plan
  service_right dialect plan is =
      let one = bound (served dialect head (service_operation (method_of head.method))) service_plan_for plan is in
      service_right_for one.0 plan one.2

  creation_right : (dialect : Dialect) (name region : List ℕ) → IsRight head (creation_plan dialect name region)
  creation_right Json name region = ((λ lines. tt), (refl, refl))
  creation_right S3 name region = ((λ lines. tt), tt)

  bucket_right_for : (settings : Settings) (name : List ℕ) (operation : Operation) (target : TargetParts) (plan : Plan) → plan_in_bucket settings name operation head target ≡ Ok plan → IsRight head plan
  bucket_right_for settings name operations.CreateBucket target plan is =
      let same : creation_plan settings.dialect name settings.region ≡ plan = cc in
      subst (IsRight head) same (creation_right settings.dialect name settings.region)
  bucket_right_for settings name operations.PutBucketVersioning target plan is =
      let same : plans.PutVersioning name settings.dialect ≡ plan = cc in
      subst (IsRight head) same ((λ lines. tt), tt)
  bucket_right_for settings name operations.DeleteObjects target plan is =
      let same : plans.DeleteObjects name ≡ plan = passed (not (is_protected head)) InvalidRequest (plans.DeleteObjects name) plan is in
      subst (IsRight head) same ((λ lines. tt), tt)
  bucket_right_for settings name operation target plan is =
      made_of (IsRight head) (bucket_command_for settings.dialect operation target) (λ (asked : BucketCommand). plans.Ready (commands.Bucket name asked)) plan
      (λ asked made. ((λ lines. tt), (refl, refl))) is

  bucket_right : (settings : Settings) (name : List ℕ) (target : TargetParts) (plan : Plan) → plan_of_bucket settings name head target ≡ Ok plan → IsRight head plan
  unfolding plan_of_bucket
  bucket_right settings name target plan is =
      let one = bound (served settings.dialect head (bucket_operation (method_of head.method) target)) (λ (operation : Operation). plan_in_bucket settings name operation head target) plan is in
      bucket_right_for settings name one.0 target plan one.2

  key_right : (dialect : Dialect) (name : List ℕ) (target : TargetParts) (plan : Plan) → plan_of_key dialect name head target ≡ Ok plan → IsRight head plan
  key_right dialect name target plan is =
      let key = bound (object_key target.key) (λ (k : List ℕ). key_plan dialect head target >>= (λ (a : KeyAsked). Ok (plan_under name k a))) plan is in
      made_of (IsRight head) (key_plan dialect head target) (plan_under name key.0) plan
      (λ asked made. under name key.0 asked (asked_right dialect target asked made)) key.2

  named_right : (settings : Settings) (target : TargetParts) (plan : Plan) → named_plan settings head target ≡ Ok plan → IsRight head plan
  unfolding named_plan
  named_right settings target plan is =
      let name = bound (bucket_named target) (λ (name : List ℕ). if length target.key == 0 then plan_of_bucket settings name head target else plan_of_key settings.dialect name head target) plan is in
      either (length target.key == 0) (plan_of_bucket settings name.0 head target) (plan_of_key settings.dialect name.0 head target) plan name.2
      (bucket_right settings name.0 target plan) (key_right settings.dialect name.0 target plan)

  route_right : (settings : Settings) (plan : Plan) → route_of settings head ≡ Ok plan → IsRight head plan
  unfolding route_of
  route_right settings plan is =
      let target = bound (address_at settings.dialect head) (λ (t : TargetParts). if is_service t then service_plan settings.dialect head else named_plan settings head t) plan is in
      either (is_service target.0) (service_plan settings.dialect head) (named_plan settings head target.0) plan target.2
      (service_right settings.dialect plan) (named_right settings target.0 plan)

pub plans_are_unbroken : LinesAreWhole → PlansAreUnbroken
plans_are_unbroken whole settings text head plan says is = (route_right head settings plan is).0 (whole text head says)

pub ready_plans_bring_nothing : ReadyPlansBringNothing
ready_plans_bring_nothing settings head command is = (route_right head settings (plans.Ready command) is).1
