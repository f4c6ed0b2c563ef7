-- What is told in lists of versions.
use Rattle.std.proofs.Common.{◌≡◌, ◌≢◌, ◌↔◌, refl, sym, ap, subst, ◌∙◌, arith, ⊎_elim, Bool, true, false, not, cond, IsTrue, ℕ, ◌≤◌, List, [], ◌∷◌, ◌++◌, append_assoc, length, map as each, filter, Contains, Option, Some, None, option_map, Result}
use Rattle.std.proofs.lemmas.Bool.{false≢true}
use Rattle.std.proofs.lemmas.List.Elements.{Contains-append_left, Contains-append_right, Contains-append_cases}
use Rattle.std.proofs.lemmas.Option.{same_Some}
use Rattle.std.specs.FinMap as map
use Rattle.std.specs.List.{flat_map}
use Rattle.std.specs.Prelude.{find}
use Rattle.std.specs.Result.{result_ok}
use Rattle.s3_terms.specs.declared.code.Code.TheVariants.{NoSuchBucket}
use Rattle.s3_terms.specs.Fault.{◌>>◌}
use Rattle.s3_names.specs.declared.ids.VersionId.{VersionId}
use Rattle.s3_versions.specs.declared.picking.Facts.{Facts}
use Rattle.s3_versions.specs.declared.picking.Refusal.{Refusal}
use Rattle.s3_versions.specs.declared.version.Content.{Content}
use Rattle.s3_versions.specs.declared.version.Content.TheVariants.{Stored, DeleteMarker}
use Rattle.s3_versions.specs.declared.version.Data.{Data}
use Rattle.s3_versions.specs.declared.version.Version.{Version}
use Rattle.s3_versions.specs.Laws.{OneUnderEachId, IdsAreTold}
use Rattle.s3_versions.specs.Rules.{is_under, are_versions, stored, stored_in, judged, read_as, pick, facts_of, facts_read}
use Rattle.s3_records.specs.Catalogue.{Bucket, has_bucket, found_versions, versions_in, versions_of}
use Rattle.s3_records.specs.Laws.{HeldIsGot}
use Rattle.s3_records.specs.Places.{version_at, ChangesAreByPlace}
use Rattle.s3_records.specs.Rows.{Held, held_in, held_of, is_from, version_row, rows_under, rows_of, rows_at, version_rows}
use Rattle.s3_records.specs.declared.rows.Start.TheVariants.{Behind}
use Rattle.s3_records.specs.declared.rows.VersionRow.{VersionRow}
use Rattle.s3_records.specs.declared.rows.VersionStart.TheVariants.{At}
use Rattle.s3_listings.specs.Laws.{PlainVersionsAreRows}
use Rattle.s3_listings.specs.Rolled.{RowsTold}
use Rattle.s3_listings.specs.Versions.{is_asked, version_rows_asked, versions_told}
use Rattle.s3_documents.specs.Document as documents
use Rattle.s3_machine.specs.declared.command.BucketCommand.TheVariants as bucket_commands
use Rattle.s3_machine.specs.declared.command.Command.{Command}
use Rattle.s3_machine.specs.declared.command.Command.TheVariants as commands
use Rattle.s3_machine.specs.declared.command.KeyCommand.TheVariants as key_commands
use Rattle.s3_machine.specs.declared.command.Outcome.{Outcome}
use Rattle.s3_machine.specs.declared.command.Outcome.TheVariants as outcomes
use Rattle.s3_machine.specs.declared.rules.Rules.{Rules}
use Rattle.s3_machine.specs.Bases.{EverySoundHistory, HistoriesLeaveSound}
use Rattle.s3_machine.specs.Effects.{Address, Read, writes, whole, read_at, reads, given_whole, facts_found, succeeds}
use Rattle.s3_machine.specs.Fault.{refuse}
use Rattle.s3_machine.specs.History.{Legal, after, after_entry}
use Rattle.s3_machine.specs.Step.{State, Stepped, bucket_done, key_done, done, stepped, step}
use Rattle.s3_machine.specs.ToldLists.{all_versions, told_row, VersionsAreToldAsRead}
use Rattle.s3_machine.proofs.ContainsLemmas.{nothing_in, first_or_later, contains_first, contains_later}
use Rattle.s3_machine.proofs.EffectLemmas.{FollowRules, versions_at}
use Rattle.s3_machine.proofs.HistoryLemmas.{Legal-append, parts_of}
use Rattle.s3_machine.proofs.KeptLemmas.{outcome_is, picked, got, version_left, version_spared}
use Rattle.s3_machine.proofs.ListLemmas.{facts_given, picked_facts, none_there, page_told, command_outcome}
use Rattle.s3_machine.proofs.TellingLemmas.{kept_by, was_there, begins_empty, behind_none}
use Rattle.s3_machine.proofs.ToldListLemmas.{rows_left}

-- ---- lists

-- what alone passes a test is found by it
found_first : {X : Type 0} (p : X → Bool) (y : X) (ys : List X) (x : X) (b : Bool) → p y ≡ b → length (filter p (y ∷ ys)) ≤ 1
    → Contains (y ∷ ys) x → p x ≡ true → (length (filter p ys) ≤ 1 → Contains ys x → find p ys ≡ Some x) → find p (y ∷ ys) ≡ Some x
found_first p y ys x true is few within passes rest =
    let less : length (y ∷ filter p ys) ≤ 1 = subst (λ (b : Bool). length (cond b (y ∷ filter p ys) (filter p ys)) ≤ 1) is few in
    ap (λ (b : Bool). cond b (Some y) (find p ys)) is
    ∙ ⊎_elim (λ same. ap (λ z. Some z) same)
    (λ later. let kept = kept_by p ys x passes later in let inside = kept.1 in absurd (omega arith))
    (first_or_later y x ys within)
found_first p y ys x false is few within passes rest =
    let less : length (filter p ys) ≤ 1 = subst (λ (b : Bool). length (cond b (y ∷ filter p ys) (filter p ys)) ≤ 1) is few in
    ap (λ (b : Bool). cond b (Some y) (find p ys)) is
    ∙ ⊎_elim (λ same. absurd (false≢true (sym is ∙ ap p same ∙ passes))) (λ later. rest less later) (first_or_later y x ys within)

find_only : {X : Type 0} (p : X → Bool) (xs : List X) (x : X) → length (filter p xs) ≤ 1 → Contains xs x → p x ≡ true → find p xs ≡ Some x
find_only p [] x few within passes = absurd (nothing_in [] x refl within)
find_only p (y ∷ ys) x few within passes =
    found_first p y ys x (p y) refl few within passes (λ less later. find_only p ys x less later passes)

-- what is found is there, and passes
first_in : {X : Type 0} (p : X → Bool) (y : X) (ys : List X) (x : X) (b : Bool) → p y ≡ b → cond b (Some y) (find p ys) ≡ Some x
    → (find p ys ≡ Some x → Contains ys x × (p x ≡ true)) → Contains (y ∷ ys) x × (p x ≡ true)
first_in p y ys x true is found rest =
    let same = same_Some y x found in (contains_first y x ys same, ap p (sym same) ∙ is)
first_in p y ys x false is found rest =
    let later = rest found in (contains_later y x ys later.0, later.1)

find_in : {X : Type 0} (p : X → Bool) (xs : List X) (x : X) → find p xs ≡ Some x → Contains xs x × (p x ≡ true)
find_in p [] x is = absurd (cc)
find_in p (y ∷ ys) x is = first_in p y ys x (p y) refl is (find_in p ys x)

-- what is in one of the lists that are joined is in all of them, and the other way round
in_joined : {X Y : Type 0} (f : X → List Y) (xs : List X) (x : X) (y : Y) → Contains xs x → Contains (f x) y → Contains (flat_map f xs) y
in_joined f [] x y within inside = absurd (nothing_in [] x refl within)
in_joined f (z ∷ zs) x y within inside =
    ⊎_elim (λ same. Contains-append_left (f z) (flat_map f zs) y (subst (λ w. Contains (f w) y) (sym same) inside))
    (λ later. Contains-append_right (f z) (flat_map f zs) y (in_joined f zs x y later inside))
    (first_or_later z x zs within)

of_joined : {X Y : Type 0} (f : X → List Y) (xs : List X) (y : Y) → Contains (flat_map f xs) y → (x : X) × Contains xs x × Contains (f x) y
of_joined f [] y within = absurd (nothing_in [] y refl within)
of_joined f (z ∷ zs) y within =
    ⊎_elim (λ here. (z, contains_first z z zs refl, here))
    (λ later. let rest = of_joined f zs y later in (rest.0, contains_later z rest.0 zs rest.1, rest.2))
    (Contains-append_cases (f z) (flat_map f zs) y within)

in_each : {X Y : Type 0} (f : X → Y) (xs : List X) (x : X) → Contains xs x → Contains (each f xs) (f x)
in_each f [] x within = absurd (nothing_in [] x refl within)
in_each f (z ∷ zs) x within =
    ⊎_elim (λ same. contains_first (f z) (f x) (each f zs) (ap f same)) (λ later. contains_later (f z) (f x) (each f zs) (in_each f zs x later))
    (first_or_later z x zs within)

of_each : {X Y : Type 0} (f : X → Y) (xs : List X) (y : Y) → Contains (each f xs) y → (x : X) × Contains xs x × (f x ≡ y)
of_each f [] y within = absurd (nothing_in [] y refl within)
of_each f (z ∷ zs) y within =
    ⊎_elim (λ same. (z, contains_first z z zs refl, same))
    (λ later. let rest = of_each f zs y later in (rest.0, contains_later z rest.0 zs rest.1, rest.2))
    (first_or_later (f z) y (each f zs) within)

-- ---- rows

-- each row of a key is of one of its versions
of_version : (key : List ℕ) (vs : List (Version (List ℕ))) (row : VersionRow) → Contains (rows_under key vs) row
    → (v : Version (List ℕ)) × (is_latest : Bool) × Contains vs v × (version_row key is_latest v ≡ row)
of_version key [] row within = absurd (nothing_in [] row refl within)
of_version key (v ∷ vs) row within =
    ⊎_elim (λ same. (v, true, contains_first v v vs refl, same))
    (λ later. let rest = of_each (version_row key false) vs row later in (rest.0, false, contains_later v rest.0 vs rest.1, rest.2))
    (first_or_later (version_row key true v) row (each (version_row key false) vs) within)

-- and each version has one
has_row : (key : List ℕ) (vs : List (Version (List ℕ))) (v : Version (List ℕ)) → Contains vs v
    → (is_latest : Bool) × Contains (rows_under key vs) (version_row key is_latest v)
has_row key [] v within = absurd (nothing_in [] v refl within)
has_row key (first ∷ vs) v within =
    ⊎_elim (λ same. (
      true,
      contains_first (version_row key true first) (version_row key true v) (each (version_row key false) vs) (ap (version_row key true) same),
    ))
    (λ later. (
      false,
      contains_later (version_row key true first) (version_row key false v) (each (version_row key false) vs)
          (in_each (version_row key false) vs v later),
    ))
    (first_or_later first v vs within)

-- what is known of what a read of an id is given
abbrev facts_under : VersionId → List (Version (List ℕ)) → Option Facts
facts_under id vs = result_ok (facts_read (pick (Some id) vs))

-- what is known of a version
abbrev facts_in : Version (List ℕ) → Option (Data (List ℕ)) → Option Facts
facts_in v found = option_map (λ (what : Data (List ℕ)). facts_of (v, what)) found

abbrev facts_judged : VersionId → Option (Version (List ℕ)) → Option Facts
facts_judged id found = result_ok (facts_read (judged (Some id) found))

facts_as : (refusal : Refusal) (v : Version (List ℕ)) (content : Content (List ℕ))
    → result_ok (facts_read (read_as refusal v content)) ≡ facts_in v (stored_in content)
facts_as refusal v DeleteMarker = refl
facts_as refusal v (Stored what) = refl

moment_known : (v : Version (List ℕ)) (found : Option (Data (List ℕ))) (facts : Facts) → facts_in v found ≡ Some facts → v.moment ≡ facts.moment
moment_known v None facts is = absurd (cc)
moment_known v (Some what) facts is = ap (λ (f : Facts). f.moment) (same_Some (facts_of (v, what)) facts is)

-- a row tells of an object of this id, with these facts
abbrev IsTold : List VersionRow → List ℕ → VersionId → Facts → Type 0
IsTold told key id facts = (is_latest : Bool) × Contains told (told_row key id is_latest facts)

module _ (one : OneUnderEachId (List ℕ)) (ids : IdsAreTold (List ℕ)) where
  told_from : (key : List ℕ) (vs : List (Version (List ℕ))) (id : VersionId) (facts : Facts) → IsTrue (are_versions vs)
      → IsTold (rows_under key vs) key id facts → facts_under id vs ≡ Some facts
  told_from key vs id facts ordered (is_latest, within) =
      let of = of_version key vs (told_row key id is_latest facts) within in
      let v = of.0 in
      let under = subst (λ (i : VersionId). is_under i v ≡ true) (ap (λ (row : VersionRow). row.id) of.3) (ids.0 v) in
      ap (facts_judged id) (find_only (is_under id) vs v (one vs id ordered) of.2 under)
      ∙ facts_as _ v v.content ∙ ap (λ (row : VersionRow). row.facts) of.3

  told_of_found : (key : List ℕ) (vs : List (Version (List ℕ))) (id : VersionId) (facts : Facts) (found : Option (Version (List ℕ)))
      → find (is_under id) vs ≡ found → facts_judged id found ≡ Some facts → IsTold (rows_under key vs) key id facts
  told_of_found key vs id facts None is known = absurd (cc)
  told_of_found key vs id facts (Some v) is known =
      let there = find_in (is_under id) vs v is in
      let holds : facts_in v (stored v) ≡ Some facts = sym (facts_as _ v v.content) ∙ known in
      let row = has_row key vs v there.0 in
      let built : VersionId → ℕ → Option Facts → VersionRow =
      λ i m f. record { key = key; id = i; is_latest = row.0; moment = m; facts = f } in (
        row.0,
        subst (Contains (rows_under key vs))
            (ap (λ (i : VersionId). built i v.moment (facts_in v (stored v))) (ids.1 id v there.1)
            ∙ ap (λ (m : ℕ). built id m (facts_in v (stored v))) (moment_known v (stored v) facts holds)
            ∙ ap (λ (f : Option Facts). built id facts.moment f) holds)
            row.1,
      )

  told_there : (key : List ℕ) (vs : List (Version (List ℕ))) (id : VersionId) (facts : Facts) → IsTrue (are_versions vs)
      → IsTold (rows_under key vs) key id facts ↔ (facts_under id vs ≡ Some facts)
  told_there key vs id facts ordered = (
    told_from key vs id facts ordered,
    told_of_found key vs id facts (find (is_under id) vs) refl,
  )

-- the rows of a bucket are those of its keys
row_key : (e : Held (List ℕ)) (row : VersionRow) → Contains (rows_of e) row → e.0 ≡ row.key
row_key e row within = ap (λ (r : VersionRow). r.key) (of_version e.0 e.1 row within).3

module _ (held : HeldIsGot (List ℕ)) where
  got_there : (b : Bucket (List ℕ)) (row : VersionRow) (found : Option (List (Version (List ℕ)))) → map.get b.keys row.key ≡ found
      → Contains (rows_under row.key (found_versions found)) row → Contains (flat_map rows_of (held_in (Some b))) row
  got_there b row None is within = absurd (nothing_in [] row refl within)
  got_there b row (Some vs) is within = in_joined rows_of (held_in (Some b)) (row.key, vs) row ((held b row.key vs).0 is) within

  rows_there : (found : Option (Bucket (List ℕ))) (row : VersionRow)
      → Contains (flat_map rows_of (held_in found)) row ↔ Contains (rows_under row.key (versions_in found row.key)) row
  rows_there None row = (λ within. within, λ within. within)
  rows_there (Some b) row = (
    λ within.
        let of = of_joined rows_of (held_in (Some b)) row within in
        let key = row_key of.0 row of.2 in
        let is = ap (map.get b.keys) (sym key) ∙ (held b of.0.0 of.0.1).1 of.1 in
        subst (λ (vs : List (Version (List ℕ))). Contains (rows_under row.key vs) row) (sym (ap found_versions is))
        (subst (λ (k : List ℕ). Contains (rows_under k of.0.1) row) key of.2),
    λ within. got_there b row (map.get b.keys row.key) refl within,
  )

-- the list of all has all rows
at_any : (e : Held (List ℕ)) (row : VersionRow) (b : Bool) → Contains (cond b (rows_of e) []) row → Contains (rows_of e) row
at_any e row true within = within
at_any e row false within = absurd (nothing_in [] row refl within)

all_rows : (s : State) (name : List ℕ) (row : VersionRow) → row.key ≢ []
    → Contains (version_rows_asked all_versions s name) row ↔ Contains (version_rows s name) row
all_rows s name row some =
    let from = rows_at {B = List ℕ} (At (Behind [])) in (
      λ within.
          let of = of_joined from (held_of s name) row (was_there (is_asked all_versions) (flat_map from (held_of s name)) row within) in
          in_joined rows_of (held_of s name) of.0 row of.1 (at_any of.0 row (is_from (Behind []) of.0.0) of.2),
      λ within.
          let of = of_joined rows_of (held_of s name) row within in
          let behind : is_from (Behind []) of.0.0 ≡ true = behind_none of.0.0 (λ none. some (sym (row_key of.0 row of.2) ∙ none)) in
          kept_by (is_asked all_versions) (flat_map from (held_of s name)) row (begins_empty row.key)
          (in_joined from (held_of s name) of.0 row of.1
          (subst (λ (b : Bool). Contains (cond b (rows_of of.0) []) row) (sym behind) of.2)),
    )

-- ---- reads

in_bucket_by : (s : State) (name key : List ℕ) (id : VersionId) (there : Bool) (next : Result Stepped Refusal) → has_bucket s name ≡ there
    → facts_given (stepped s next) ≡ facts_under id (versions_of s name key)
    → facts_given (stepped s (refuse (not there) NoSuchBucket >> next)) ≡ facts_under id (versions_of s name key)
in_bucket_by s name key id true next is goes = goes
in_bucket_by s name key id false next is goes = sym (ap (facts_under id) (none_there (map.get s name) key is))

reads_facts : (rules : Rules) (s : State) (n t : ℕ) (command : Command) (a : Address) (id : VersionId) → reads command ≡ Some (whole a (Some id))
    → facts_given (step rules s n t command) ≡ facts_under id (versions_at s a)
unfolding done key_done
reads_facts rules s n t (commands.Key name key (key_commands.Read asked)) a id is =
    let same = same_Some (read_at (record { bucket = name; key = key }) asked) (whole a (Some id)) is in
    let vs = versions_of s name key in
    subst (λ (b : Address). facts_given (step rules s n t (commands.Key name key (key_commands.Read asked))) ≡ facts_under id (versions_at s b))
    (ap (λ (q : Read). q.address) same)
    (in_bucket_by s name key id (has_bucket s name) (key_done s n t name key (key_commands.Read asked)) refl
    (ap (λ (o : Outcome). option_map facts_found (given_whole o)) (got s name asked.conditions asked.overrides (pick asked.version vs))
    ∙ ap (λ (q : Read). option_map facts_found (given_whole (picked s name q.conditions asked.overrides (pick q.version vs)))) same
    ∙ picked_facts s name asked.overrides (pick (Some id) vs)))
reads_facts rules s n t _ a id is = absurd (cc)

versions_step : (rules : Rules) (s : State) (n t : ℕ) (name : List ℕ)
    → succeeds (step rules s n t (commands.Bucket name (bucket_commands.ListVersions all_versions))).1 ≡ true
    → (step rules s n t (commands.Bucket name (bucket_commands.ListVersions all_versions))).1
    ≡ outcomes.Told (documents.versions name all_versions (versions_told all_versions s name))
unfolding done bucket_done
versions_step rules s n t name success = page_told s (not (has_bucket s name)) _ success

same_versions : (name : List ℕ) (page told : RowsTold VersionRow)
    → outcomes.Told (documents.versions name all_versions page) ≡ outcomes.Told (documents.versions name all_versions told) → page ≡ told
same_versions name page told is = cc

-- ---- histories

-- what the law stands on
pub record LawsOfVersions : Type 0 where
  pub one : OneUnderEachId (List ℕ)
  pub ids : IdsAreTold (List ℕ)
  pub held : HeldIsGot (List ℕ)
  pub leaves : HistoriesLeaveSound
  pub plain : PlainVersionsAreRows (List ℕ)

module _ (laws : LawsOfVersions) (places : ChangesAreByPlace (List ℕ)) (follow : FollowRules) where
  pub versions_are_told_as_read : EverySoundHistory VersionsAreToldAsRead
  versions_are_told_as_read rules s n entries sound legal before between later list read address id page facts parts lists some spares reading =
      let at = parts_of rules s n entries before between later list read legal parts in
      let split = parts ∙ append_assoc before (list ∷ between) (read ∷ later) in
      let cut = Legal-append rules s n before (list ∷ (between ++ read ∷ later)) (subst (Legal rules s n) split legal) in
      let here = after rules s before in
      let next = after_entry rules here list in
      let there = after rules next between in
      let name = address.bucket in
      let key = address.key in
      let outcome = command_outcome rules s n entries before (between ++ read ∷ later) list _ legal split lists.asks in
      let step_told = versions_step rules here list.answer.number list.moment name (sym (ap succeeds outcome) ∙ ap succeeds lists.told) in
      let same = same_versions name page (versions_told all_versions here name) (sym lists.told ∙ outcome ∙ step_told) ∙ laws.plain all_versions here name refl in
      let given = ap (λ (p : RowsTold VersionRow). p.rows) same
      ∙ rows_left (version_rows_asked all_versions here name) (sym (ap (λ (p : RowsTold VersionRow). p.next) same) ∙ lists.is_last) in
      let ordered = (laws.leaves rules s n before sound cut.0).ordered name key in
      let told = told_there laws.one laws.ids key (versions_at here address) id facts ordered in
      let kept : version_at there name key id ≡ version_at here name key id =
      version_spared places follow rules next at.k between address id at.legal spares
      ∙ version_left places follow rules here at.m list address id at.right
      (λ written accepted touches. nothing_in (writes list.command) address (ap writes lists.asks) written) in
      let is : option_map facts_found (given_whole read.answer.outcome) ≡ facts_under id (versions_at here address) =
      ap (λ (o : Outcome). option_map facts_found (given_whole o)) (outcome_is rules there at.j read at.right_last)
      ∙ reads_facts rules there read.answer.number read.moment read.command address id reading ∙ ap (facts_judged id) kept in (
        λ (is_latest, within).
            let row = told_row key id is_latest facts in
            is ∙ told.0 (
              is_latest,
              (rows_there laws.held (map.get here name) row).0
                  ((all_rows here name row some).0 (subst (λ (xs : List VersionRow). Contains xs row) given within)),
            ),
        λ gives.
            let back = told.1 (sym is ∙ gives) in
            let row = told_row key id back.0 facts in (
              back.0,
              subst (λ (xs : List VersionRow). Contains xs row) (sym given)
                  ((all_rows here name row some).1 ((rows_there laws.held (map.get here name) row).1 back.1)),
            ),
      )
