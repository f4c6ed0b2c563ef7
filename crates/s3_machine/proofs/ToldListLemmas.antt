-- What is told in lists.
use Rattle.std.proofs.Common.{◌≡◌, ◌↔◌, refl, sym, ap, ap₂, subst, ◌∙◌, arith, Bool, true, false, if◌then◌else◌, IsTrue, ℕ, ◌<◌, ◌≤◌, nat_lt, List, [], ◌∷◌, ◌++◌, append_assoc, length, take, Contains, Option, Some, None, option_map, Ok}
use Rattle.std.proofs.lemmas.Bool.Decides.{nat_tests}
use Rattle.std.proofs.lemmas.List.{take_all}
use Rattle.std.proofs.lemmas.Option.{same_Some}
use Rattle.std.specs.List.{filter_map, last_or}
use Rattle.std.specs.Prelude.{MatchOption, option_and_then}
use Rattle.std.specs.Result.{result_ok}
use Rattle.s3_versions.specs.declared.picking.Facts.{Facts}
use Rattle.s3_versions.specs.Rules.{pick, facts_read}
use Rattle.s3_uploads.specs.declared.part.PartRow.{PartRow}
use Rattle.s3_records.specs.Catalogue.{has_bucket, versions_of}
use Rattle.s3_records.specs.Laws.{KeysRise}
use Rattle.s3_records.specs.OpenUploads.{parts_at}
use Rattle.s3_records.specs.Places.{ChangesAreByPlace}
use Rattle.s3_records.specs.Rows.{key_rows}
use Rattle.s3_records.specs.declared.rows.KeyRow.{KeyRow}
use Rattle.s3_records.specs.declared.rows.UploadRow.{UploadRow}
use Rattle.s3_prefixes.specs.declared.asked.ObjectsAsked.{ObjectsAsked}
use Rattle.s3_prefixes.specs.Items.{Item, Object as Told, CommonPrefix, text_of, rolled, rolled_up, common_prefix, is_asked}
use Rattle.s3_listings.specs.declared.object_page.ListedObject.{ListedObject}
use Rattle.s3_listings.specs.Laws.{IsToldOf, ItemsAreOfKeys, ListedAreKeys, behind, PagesJoin, PlainUploadsAreRows}
use Rattle.s3_listings.specs.Objects.{ObjectsTold, object_in, objects_asked, objects_page, objects_told}
use Rattle.s3_listings.specs.Pages.{Page, page_of, last_of, next_of}
use Rattle.s3_listings.specs.Parts.{parts_asked, parts_page}
use Rattle.s3_listings.specs.Rolled.{RowsTold, plainly}
use Rattle.s3_listings.specs.Uploads.{upload_rows_asked, uploads_told}
use Rattle.s3_listings.specs.declared.row_page.RowItem.TheVariants.{Row}
use Rattle.s3_documents.specs.Document as documents
use Rattle.s3_machine.specs.declared.command.Command.{Command}
use Rattle.s3_machine.specs.declared.command.Command.TheVariants as commands
use Rattle.s3_machine.specs.declared.command.KeyCommand.TheVariants as key_commands
use Rattle.s3_machine.specs.declared.command.Outcome.{Outcome}
use Rattle.s3_machine.specs.declared.command.Outcome.TheVariants as outcomes
use Rattle.s3_machine.specs.declared.rules.Rules.{Rules}
use Rattle.s3_machine.specs.Bases.{EverySoundHistory}
use Rattle.s3_machine.specs.Effects.{Address, Read, writes, whole, read_at, reads, given_whole, facts_found, succeeds}
use Rattle.s3_machine.specs.History.{Legal, after, after_entry}
use Rattle.s3_machine.specs.Kept.{EveryHistory}
use Rattle.s3_machine.specs.Laws.{all_keys}
use Rattle.s3_machine.specs.Step.{State, key_done, done, step}
use Rattle.s3_machine.specs.ToldLists.{IsWanted, ObjectsAreToldAsRead, UploadsAreToldWhileOpen, PartsAreToldWhileStanding}
use Rattle.s3_machine.specs.UploadsKept.{all_uploads, all_parts, UploadsAreListedWhileOpen, PartsAreListedWhileStanding}
use Rattle.s3_machine.proofs.ContainsLemmas.{nothing_in, contains_made, made_of}
use Rattle.s3_machine.proofs.EffectLemmas.{FollowRules, versions_at}
use Rattle.s3_machine.proofs.HistoryLemmas.{Legal-append, parts_of}
use Rattle.s3_machine.proofs.KeptLemmas.{outcome_is, picked, got, versions_left, key_left}
use Rattle.s3_machine.proofs.ListLemmas.{ListedIsCurrent, facts_picked, facts_given, picked_facts, in_bucket, ok_facts, objects_step, command_outcome}
use Rattle.s3_machine.proofs.TellingLemmas.{uploads_step, parts_step, begins_empty}

-- ---- pages that have all

within : (size : ℕ) → nat_lt 1000 size ≡ false → size ≤ 1000
within size is = grind (arith, nat_tests)

-- a page of which nothing is left has all items
pub none_left : {A : Type 0} (items : List A) → (page_of 1000 items).is_truncated ≡ false → take 1000 items ≡ items
none_left items is = take_all 1000 items (within (length items) is)

-- so has one that tells its rows alone, and of which none is the one behind which a next page goes on
last_some : {A : Type 0} (item : A) (items : List A) → last_or (Some item) items ≡ None → ⊥
last_some item [] is = absurd (cc)
last_some item (next ∷ items) is = last_some next items is

last_there : {A : Type 0} (item : A) (items : List A) → last_of (take 1000 (item ∷ items)) ≡ None → ⊥
last_there item items is = last_some item (take 999 items) is

no_row : {A : Type 0} (last : Option A) → option_map Row last ≡ None → last ≡ None
no_row None none = refl
no_row (Some row) none = absurd (cc)

none_next : {A : Type 0} (is_truncated : Bool) (items : List A) → (page_of 1000 items).is_truncated ≡ is_truncated
    → option_map Row (if is_truncated then last_of (take 1000 items) else None) ≡ None → take 1000 items ≡ items
none_next is_truncated [] is none = refl
none_next false (item ∷ items) is none = none_left (item ∷ items) is
none_next true (item ∷ items) is none = absurd (last_there item items (no_row (last_of (take 1000 (item ∷ items))) none))

pub rows_left : {A : Type 0} (items : List A) → (plainly (page_of 1000 items)).next ≡ None → take 1000 items ≡ items
rows_left items none = none_next (page_of 1000 items).is_truncated items refl none

no_text : (last : Option Item) → option_map text_of last ≡ None → last ≡ None
no_text None is = refl
no_text (Some item) is = absurd (cc)

-- so the objects of a page that tells of no next one are those of all items
all_told : PagesJoin → KeysRise (List ℕ) → (s : State) (name : List ℕ) (asked : ObjectsAsked) → 0 < asked.max_keys
    → (objects_told asked (key_rows s name)).next ≡ None
    → (objects_told asked (key_rows s name)).contents ≡ filter_map object_in (objects_asked asked (key_rows s name))
unfolding objects_told
all_told join rise s name asked some is =
    let rows = key_rows s name in
    let page = objects_page asked rows in
    let joins = (join asked rows (rise s name) some).0 in
    ap (filter_map object_in)
    (subst (λ (last : Option Item). MatchOption last (page.given ≡ objects_asked asked rows)
    (λ item. page.given ++ objects_asked (behind asked item) rows ≡ objects_asked asked rows)) (no_text (next_of page) is) joins)

-- an item that is told as an object is one
told_item : (item : Item) (key : List ℕ) (facts : Facts) → object_in item ≡ Some (record { key = key; facts = facts }) → item ≡ Told key facts
told_item (Told k f) key facts is =
    let same = same_Some {A = ListedObject} (record { key = k; facts = f }) (record { key = key; facts = facts }) is in
    ap (λ (o : ListedObject). Told o.key o.facts) same
told_item (CommonPrefix prefix) key facts is = absurd (cc)

told_items : (items : List Item) (key : List ℕ) (facts : Facts)
    → Contains (filter_map object_in items) (record { key = key; facts = facts }) ↔ Contains items (Told key facts)
told_items items key facts = (
  λ within.
      let made = made_of object_in items (record { key = key; facts = facts }) within in
      subst (Contains items) (told_item made.0 key facts made.2) made.1,
  λ within. contains_made object_in items (Told key facts) (record { key = key; facts = facts }) within refl,
)

-- a row that is told as an object, where nothing is rolled up, is of a key that is asked for, and has its facts
item_told : (k : List ℕ) (found : Option Facts) (wanted : Bool) (common : Option (List ℕ)) (key : List ℕ) (facts : Facts) → common ≡ None
    → (if wanted then option_map (rolled common k) found else None) ≡ Some (Told key facts)
    → (wanted ≡ true) × (k ≡ key) × (found ≡ Some facts)
item_told k (Some f) true None key facts none is =
    let same = told_item (Told k f) key facts (ap (option_and_then object_in) is) in
    (refl, ap text_of same, ap (λ (o : Option ListedObject). option_map (λ (l : ListedObject). l.facts) o) (ap object_in same))
item_told k (Some f) true (Some prefix) key facts none is = absurd (cc)
item_told k None true common key facts none is = absurd (cc)
item_told k found false common key facts none is = absurd (cc)

no_common : (asked : ObjectsAsked) (key : List ℕ) → asked.delimiter ≡ [] → common_prefix asked key ≡ None
no_common asked key none = ap (λ (d : List ℕ). rolled_up asked.prefix d key) none

-- a row of a key with these facts
abbrev row_with : List ℕ → Facts → KeyRow
row_with key facts = record { key = key; facts = Some facts }

told_rows : (asked : ObjectsAsked) (rows : List KeyRow) (key : List ℕ) (facts : Facts) → asked.delimiter ≡ []
    → IsToldOf asked rows (Told key facts) ↔ (Contains rows (row_with key facts) × IsTrue (is_asked asked key))
told_rows asked rows key facts none = (
  λ (row, within, is).
      let told = item_told row.key row.facts (is_asked asked row.key) (common_prefix asked row.key) key facts (no_common asked row.key none) is in
      let built : List ℕ → Option Facts → KeyRow = λ k f. record { key = k; facts = f } in
      let same : row ≡ row_with key facts = ap₂ built told.1 told.2 in
      (subst (Contains rows) same within, sym (ap (is_asked asked) told.1) ∙ told.0),
  λ (within, wanted). (
    row_with key facts,
    within,
    ap (λ (b : Bool). if b then option_map (rolled (common_prefix asked key) key) (Some facts) else None) wanted
        ∙ ap (λ (c : Option (List ℕ)). Some (rolled c key facts)) (no_common asked key none),
  ),
)

-- ---- objects

-- what a plain read is given has the facts of what it picks
reads_facts : (rules : Rules) (s : State) (n t : ℕ) (command : Command) (a : Address) → reads command ≡ Some (whole a None)
    → facts_given (step rules s n t command) ≡ facts_picked (versions_at s a)
unfolding done key_done
reads_facts rules s n t (commands.Key name key (key_commands.Read asked)) a is =
    let same = same_Some (read_at (record { bucket = name; key = key }) asked) (whole a None) is in
    let vs = versions_of s name key in
    subst (λ (b : Address). facts_given (step rules s n t (commands.Key name key (key_commands.Read asked))) ≡ facts_picked (versions_at s b))
    (ap (λ (q : Read). q.address) same)
    (in_bucket s name key (has_bucket s name) (key_done s n t name key (key_commands.Read asked)) refl
    (ap (λ (o : Outcome). option_map facts_found (given_whole o)) (got s name asked.conditions asked.overrides (pick asked.version vs))
    ∙ ap (λ (q : Read). option_map facts_found (given_whole (picked s name q.conditions asked.overrides (pick q.version vs)))) same
    ∙ picked_facts s name asked.overrides (pick None vs)))
reads_facts rules s n t _ a is = absurd (cc)

-- a document that is told of a page has that page
same_objects : (name : List ℕ) (asked : ObjectsAsked) (page told : ObjectsTold)
    → outcomes.Told (documents.objects name asked page) ≡ outcomes.Told (documents.objects name asked told) → page ≡ told
same_objects name asked page told is = cc

same_uploads : (name : List ℕ) (page told : RowsTold UploadRow)
    → outcomes.Told (documents.uploads name all_uploads page) ≡ outcomes.Told (documents.uploads name all_uploads told) → page ≡ told
same_uploads name page told is = cc

same_parts : (name key : List ℕ) (id : ℕ) (page told : Page PartRow)
    → outcomes.Told (documents.parts name key id all_parts page) ≡ outcomes.Told (documents.parts name key id all_parts told) → page ≡ told
same_parts name key id page told is = cc

-- the laws of lists that the one of told lists stands on
pub record LawsOfItems : Type 0 where
  pub current : ListedIsCurrent
  pub keys : ListedAreKeys
  pub items : ItemsAreOfKeys
  pub join : PagesJoin
  pub rise : KeysRise (List ℕ)

module _ (laws : LawsOfItems) where
  -- a row tells of what a read picks
  row_current : (s : State) (name key : List ℕ) (facts : Facts)
      → Contains (key_rows s name) (row_with key facts) ↔ (facts_read (pick None (versions_of s name key)) ≡ Ok facts)
  row_current s name key facts =
      let keys = laws.keys all_keys (key_rows s name) key facts (laws.rise s name) (record { delimiter = refl; start_after = refl; token = refl }) in
      let current = laws.current s name key facts in (
        λ within. current.0 (keys.1 (within, begins_empty key)),
        λ is. (keys.0 (current.1 is)).0,
      )

  -- so an object is among the items of a list exactly where it is what a read picks, and asked for
  item_current : (s : State) (name : List ℕ) (asked : ObjectsAsked) (key : List ℕ) (facts : Facts) → asked.delimiter ≡ []
      → Contains (objects_asked asked (key_rows s name)) (Told key facts)
      ↔ ((facts_picked (versions_of s name key) ≡ Some facts) × IsWanted asked key facts)
  item_current s name asked key facts none =
      let items = laws.items asked (key_rows s name) (Told key facts) (laws.rise s name) in
      let told = told_rows asked (key_rows s name) key facts none in
      let row = row_current s name key facts in (
        λ within.
            let both = items.0 within in
            let wanted = told.0 both.0 in
            (ap result_ok (row.0 wanted.0), (wanted.1, both.1)),
        λ (is, (wanted, behind_it)).
            items.1 (told.1 (row.1 (ok_facts (facts_read (pick None (versions_of s name key))) facts is), wanted), behind_it),
      )

module _ (laws : LawsOfItems) (places : ChangesAreByPlace (List ℕ)) (follow : FollowRules) where
  pub objects_are_told_as_read : EveryHistory ObjectsAreToldAsRead
  objects_are_told_as_read rules s n entries legal before between later list read address asked page facts parts lists leaves reading =
      let at = parts_of rules s n entries before between later list read legal parts in
      let here = after rules s before in
      let next = after_entry rules here list in
      let there = after rules next between in
      let rows = key_rows here address.bucket in
      let outcome = command_outcome rules s n entries before (between ++ read ∷ later) list _ legal
      (parts ∙ append_assoc before (list ∷ between) (read ∷ later)) lists.asks in
      let step_told = objects_step rules here list.answer.number list.moment address.bucket asked
      (sym (ap succeeds outcome) ∙ ap succeeds lists.told) in
      let same = same_objects address.bucket asked page (objects_told asked rows) (sym lists.told ∙ outcome ∙ step_told) in
      let contents = ap (λ (p : ObjectsTold). p.contents) same
      ∙ all_told laws.join laws.rise here address.bucket asked lists.some (sym (ap (λ (p : ObjectsTold). p.next) same) ∙ lists.is_last) in
      let items = told_items (objects_asked asked rows) address.key facts in
      let current = item_current laws here address.bucket asked address.key facts lists.delimiter in
      let row : ListedObject = record { key = address.key; facts = facts } in
      let kept : versions_at there address ≡ versions_at here address =
      key_left places follow rules next at.k between address at.legal leaves
      ∙ versions_left places follow rules here at.m list address at.right
      (λ written. absurd (nothing_in (writes list.command) address (ap writes lists.asks) written)) in
      let given : option_map facts_found (given_whole read.answer.outcome) ≡ facts_picked (versions_at here address) =
      ap (λ (o : Outcome). option_map facts_found (given_whole o)) (outcome_is rules there at.j read at.right_last)
      ∙ reads_facts rules there read.answer.number read.moment read.command address reading ∙ ap facts_picked kept in (
        λ within.
            let both = current.0 (items.0 (subst (λ (xs : List ListedObject). Contains xs row) contents within)) in
            (given ∙ both.0, both.1),
        λ (gives, wanted).
            subst (λ (xs : List ListedObject). Contains xs row) (sym contents) (items.1 (current.1 (sym given ∙ gives, wanted))),
      )

-- ---- uploads and parts

pub uploads_are_told_while_open : PlainUploadsAreRows (List ℕ) → EverySoundHistory UploadsAreListedWhileOpen → EverySoundHistory UploadsAreToldWhileOpen
uploads_are_told_while_open plain law rules s n entries sound legal before later list upload page t parts lists some =
    let here = after rules s before in
    let cut = Legal-append rules s n before (list ∷ later) (subst (Legal rules s n) parts legal) in
    let outcome = command_outcome rules s n entries before later list _ legal parts lists.asks in
    let step_told = uploads_step rules here list.answer.number list.moment upload.address.bucket all_uploads
    (sym (ap succeeds outcome) ∙ ap succeeds lists.told) in
    let same = same_uploads upload.address.bucket page (uploads_told all_uploads here upload.address.bucket) (sym lists.told ∙ outcome ∙ step_told)
    ∙ plain all_uploads here upload.address.bucket refl in
    let given = ap (λ (p : RowsTold UploadRow). p.rows) same
    ∙ rows_left (upload_rows_asked all_uploads here upload.address.bucket) (sym (ap (λ (p : RowsTold UploadRow). p.next) same) ∙ lists.is_last) in
    let row : UploadRow = record { key = upload.address.key; id = upload.id; moment = t } in
    let listed = law rules s n before sound cut.0 upload t some in (
      λ within. listed.0 (subst (λ (xs : List UploadRow). Contains xs row) given within),
      λ begun. subst (λ (xs : List UploadRow). Contains xs row) (sym given) (listed.1 begun),
    )

pub parts_are_told_while_standing : EverySoundHistory PartsAreListedWhileStanding → EverySoundHistory PartsAreToldWhileStanding
unfolding parts_page
parts_are_told_while_standing law rules s n entries sound legal before later list upload page row parts lists above =
    let here = after rules s before in
    let name = upload.address.bucket in
    let key = upload.address.key in
    let cut = Legal-append rules s n before (list ∷ later) (subst (Legal rules s n) parts legal) in
    let outcome = command_outcome rules s n entries before later list _ legal parts lists.asks in
    let step_told = parts_step rules here list.answer.number list.moment name key upload.id all_parts
    (sym (ap succeeds outcome) ∙ ap succeeds lists.told) in
    let sent = parts_at here name key upload.id in
    let same = same_parts name key upload.id page (parts_page all_parts sent) (sym lists.told ∙ outcome ∙ step_told) in
    let given = ap (λ (p : Page PartRow). p.given) same
    ∙ none_left (parts_asked all_parts sent) (sym (ap (λ (p : Page PartRow). p.is_truncated) same) ∙ lists.is_last) in
    let listed = law rules s n before sound cut.0 upload row above in (
      λ within. listed.0 (subst (λ (xs : List PartRow). Contains xs row) given within),
      λ stands. subst (λ (xs : List PartRow). Contains xs row) (sym given) (listed.1 stands),
    )
