-- The list of an upload's parts tells each part that stands, and nothing else.
use Rattle.std.proofs.Common.{◌≡◌, refl, sym, ap, subst, ◌∙◌, arith, true, false, cond, ◌==◌, nat_lt, ◌⊎◌, ⊎_elim, inl, inr, ℕ, zero, suc, ◌<◌, IsTrue, List, [], ◌∷◌, Contains, Option, Some, None}
use Rattle.std.proofs.lemmas.Bool.{and_parts}
use Rattle.std.proofs.lemmas.Bool.Decides.{nat_tests}
use Rattle.std.proofs.lemmas.Option.{same_Some}
use Rattle.std.specs.List.{list_all}
use Rattle.s3_uploads.specs.Laws.{PutsAreUnderOneNumber, PutsKeepTheOrder}
use Rattle.s3_uploads.specs.Parts.{PartList, rises, numbers_of, part_at, part_row, part_rows}
use Rattle.s3_uploads.specs.declared.part.Part.{Part}
use Rattle.s3_uploads.specs.declared.part.PartRow.{PartRow}
use Rattle.s3_uploads.specs.declared.upload.Upload.{Upload}
use Rattle.s3_records.specs.OpenUploads.{parts_sent}
use Rattle.s3_records.specs.Places.{ChangesAreByUpload}
use Rattle.s3_machine.specs.Bases.{PartsRise, EverySoundHistory}
use Rattle.s3_machine.specs.Effects.{UploadPlace, open_at, part_in}
use Rattle.s3_machine.specs.History.{Entry, after, after_entry}
use Rattle.s3_machine.specs.Kept.{EveryHistory}
use Rattle.s3_machine.specs.Step.{State, upload_begun}
use Rattle.s3_machine.specs.Uploads.{WasSent, StayedPart}
use Rattle.s3_machine.specs.UploadsKept.{IsPartListed, TellsOfSent, TellsOfStayed, PartsAreKept, OnlySentStands, PartsAreListedWhileStanding}
use Rattle.s3_machine.proofs.CourseLemmas.{part_of, fate_of}
use Rattle.s3_machine.proofs.PartLemmas.{part_sized}
use Rattle.s3_machine.proofs.ContainsLemmas.{contains_later}
use Rattle.s3_machine.proofs.TellingLemmas.{kept_by, was_there}
use Rattle.s3_machine.proofs.UploadLemmas.{Left, Begun, Sent, Ended}
use Rattle.s3_machine.specs.declared.rules.Rules.{Rules}

-- ---- where numbers rise

-- a row of a list is one of a part of it
row_there : (parts : PartList (List ℕ)) (row : PartRow) → Contains (part_rows parts) row
    → (e : ℕ × Part (List ℕ)) × Contains parts e × (part_row e ≡ row)
row_there [] row (k, within, is) = absurd (omega arith)
row_there (e ∷ es) row (zero, within, is) = (e, (0, omega arith, refl), is)
row_there (e ∷ es) row (suc k, within, is) =
    let rest = row_there es row (k, omega arith, is) in
    (rest.0, contains_later e rest.0 es rest.1, rest.2)

row_of : (parts : PartList (List ℕ)) (e : ℕ × Part (List ℕ)) → Contains parts e → Contains (part_rows parts) (part_row e)
row_of [] e (k, within, is) = absurd (omega arith)
row_of (f ∷ es) e (zero, within, is) = (0, omega arith, ap part_row is)
row_of (f ∷ es) e (suc k, within, is) = contains_later (part_row f) (part_row e) (part_rows es) (row_of es e (k, omega arith, is))

-- what is at a number is in the list
is_in : (parts : PartList (List ℕ)) (n : ℕ) (p : Part (List ℕ)) → part_at n parts ≡ Some p → Contains parts (n, p)
is_in [] n p is = absurd (cc)
is_in ((m, q) ∷ es) n p is =
    elim (m == n) as (λ b. (m == n) ≡ b → cond b (Some q) (part_at n es) ≡ Some p → Contains ((m, q) ∷ es) (n, p)) [
      | true ↦ λ same here.
          let number : m ≡ n = grind (arith, nat_tests) in
          (0, omega arith, ap (λ (k : ℕ). (k, q)) number ∙ ap (λ (x : Part (List ℕ)). (n, x)) (same_Some q p here))
      | false ↦ λ other there. contains_later (m, q) (n, p) es (is_in es n p there)
    ] refl is

-- a number that is below all isn't among them
below_all : (m n : ℕ) (p : Part (List ℕ)) (es : PartList (List ℕ)) → list_all (nat_lt m) (numbers_of es) ≡ true → Contains es (n, p) → m < n
below_all m n p [] all (k, within, is) = absurd (omega arith)
below_all m n p (e ∷ es) all (zero, within, is) =
    let both = and_parts (nat_lt m e.0) (list_all (nat_lt m) (numbers_of es)) all in
    let same : e.0 ≡ n = ap (λ (x : ℕ × Part (List ℕ)). x.0) is in
    let below : nat_lt m e.0 ≡ true = both.0 in
    grind (arith, nat_tests)
below_all m n p (e ∷ es) all (suc k, within, is) =
    let both = and_parts (nat_lt m e.0) (list_all (nat_lt m) (numbers_of es)) all in
    below_all m n p es both.1 (k, omega arith, is)

-- so what is in the list is at its number, where the numbers rise
is_at : (parts : PartList (List ℕ)) (n : ℕ) (p : Part (List ℕ)) → IsTrue (rises (numbers_of parts)) → Contains parts (n, p) → part_at n parts ≡ Some p
unfolding rises
is_at [] n p rise (k, within, is) = absurd (omega arith)
is_at (e ∷ es) n p rise (zero, within, is) =
    let same : e.0 ≡ n = ap (λ (x : ℕ × Part (List ℕ)). x.0) is in
    let test : (e.0 == n) ≡ true = grind (arith, nat_tests) in
    ap (λ b. cond b (Some e.1) (part_at n es)) test ∙ ap (λ (x : ℕ × Part (List ℕ)). Some x.1) is
is_at (e ∷ es) n p rise (suc k, within, is) =
    let both = and_parts (list_all (nat_lt e.0) (numbers_of es)) (rises (numbers_of es)) rise in
    let rest : Contains es (n, p) = (k, omega arith, is) in
    let below = below_all e.0 n p es both.0 rest in
    let test : (e.0 == n) ≡ false = grind (arith, nat_tests) in
    ap (λ b. cond b (Some e.1) (part_at n es)) test ∙ is_at es n p both.1 rest

-- rows with the same parts are the same
same_row : (x y : PartRow) → x.number ≡ y.number → x.moment ≡ y.moment → x.tag ≡ y.tag → x.size ≡ y.size → x ≡ y
same_row x y number moment tag size =
    let built = λ (n t : ℕ) (g : List ℕ) (z : ℕ). ◌≡◌ {A = PartRow} (record { number = n; moment = t; tag = g; size = z }) y in
    subst (λ (n : ℕ). built n x.moment x.tag x.size) (sym number)
    (subst (λ (t : ℕ). built y.number t x.tag x.size) (sym moment)
    (subst (λ (g : List ℕ). built y.number y.moment g x.size) (sym tag)
    (subst (λ (z : ℕ). built y.number y.moment y.tag z) (sym size) refl)))

-- ---- they rise

-- in each upload that is open the numbers of the parts rise
abbrev pub AllRise : State → Type 0
AllRise s = (upload : UploadPlace) (u : Upload (List ℕ)) → open_at s upload ≡ Some u → IsTrue (rises (numbers_of u.parts))

pub none_rises : IsTrue (rises (numbers_of {B = List ℕ} []))
unfolding rises
none_rises = refl

-- the parts of an upload that is open or not
pub parts_rise : (found : Option (Upload (List ℕ))) → ((u : Upload (List ℕ)) → found ≡ Some u → IsTrue (rises (numbers_of u.parts)))
    → IsTrue (rises (numbers_of (parts_sent found)))
parts_rise None all = none_rises
parts_rise (Some u) all = all u refl

-- the numbers of each upload's parts rise where those of all places do
pub rise_all : (s : State) → PartsRise s → AllRise s
rise_all s rise upload u is =
    subst (λ (found : Option (Upload (List ℕ))). IsTrue (rises (numbers_of (parts_sent found)))) is
    (rise upload.address.bucket upload.address.key upload.id)

module _ (law : ChangesAreByUpload (List ℕ)) (puts : PutsAreUnderOneNumber (List ℕ)) (order : PutsKeepTheOrder (List ℕ)) where
  rise_step : (rules : Rules) (s : State) (e : Entry) → AllRise s → AllRise (after_entry rules s e)
  rise_step rules s e rise upload u is =
      elim (fate_of law puts rules s e upload) [
        | Left left ↦ rise upload u (sym left.same ∙ is)
        | Begun begun ↦
            subst (λ (x : Upload (List ℕ)). IsTrue (rises (numbers_of x.parts))) (same_Some (upload_begun e.moment begun.asked) u (sym begun.now ∙ is))
            none_rises
        | Sent send ↦
            subst (λ (x : Upload (List ℕ)). IsTrue (rises (numbers_of x.parts))) (same_Some _ u (sym send.now ∙ is))
            (order send.number send.part send.found.parts (rise upload send.found send.there))
        | Ended ended ↦ let none = ended.now in absurd (cc)
      ]

  pub rise_after : (rules : Rules) (s : State) (es : List Entry) → AllRise s → AllRise (after rules s es)
  rise_after rules s [] rise = rise
  rise_after rules s (e ∷ es) rise = rise_after rules (after_entry rules s e) es (rise_step rules s e rise)

  -- a row of a part that stands is one of those of its upload
  row_stands : (s : State) (upload : UploadPlace) (row : PartRow) (what : Part (List ℕ)) → part_in s (part_of upload row.number) ≡ Some what
      → part_row (row.number, what) ≡ row → Contains (part_rows (parts_sent (open_at s upload))) row
  row_stands s upload row what stands same =
      let parts = parts_sent (open_at s upload) in
      subst (Contains (part_rows parts)) same (row_of parts (row.number, what) (is_in parts row.number what stands))

  pub parts_are_listed_while_standing : EverySoundHistory PartsAreKept → EveryHistory OnlySentStands → EverySoundHistory PartsAreListedWhileStanding
  parts_are_listed_while_standing kept only rules s n entries sound legal upload row above =
      let there = after rules s entries in
      let parts = parts_sent (open_at there upload) in
      let rise = parts_rise (open_at there upload) (rise_after rules s entries (rise_all s sound.parts) upload) in
      let passes : nat_lt 0 row.number ≡ true = grind (arith, nat_tests) in (
        λ (shown : IsPartListed there upload row).
            let found = row_there parts row (was_there (λ (r : PartRow). nat_lt 0 r.number) (part_rows parts) row shown) in
            let number : found.0.0 ≡ row.number = ap (λ (r : PartRow). r.number) found.2 in
            let stands = is_at parts found.0.0 found.0.1 rise found.1 in
            let place = part_of upload found.0.0 in
            subst (λ (r : PartRow). TellsOfSent rules s entries upload r ⊎ TellsOfStayed s entries upload r) found.2
            (⊎_elim (λ (was : WasSent rules s entries place found.0.1). inl (record {
              what = found.0.1;
              was = was;
              moment = refl;
              tag = refl;
              size = part_sized (after rules s was.before) was.send.moment was.send.command found.0.1 was.sends.puts;
            })) (λ (stayed : StayedPart s entries place found.0.1). inr (record { what = found.0.1; stayed = stayed; is = refl }))
            (only rules s n entries legal place found.0.1 stands)),
        λ (tells : TellsOfSent rules s entries upload row ⊎ TellsOfStayed s entries upload row).
            kept_by (λ (r : PartRow). nat_lt 0 r.number) (part_rows parts) row passes
            (⊎_elim (λ (tells : TellsOfSent rules s entries upload row).
            let stands = kept rules s n entries sound legal (part_of upload row.number) tells.what (inl tells.was) in
            let entry : ℕ × Part (List ℕ) = (row.number, tells.what) in
            let sized = part_sized (after rules s tells.was.before) tells.was.send.moment tells.was.send.command tells.what tells.was.sends.puts in
            let same : part_row entry ≡ row = same_row (part_row entry) row refl (sym tells.moment) (sym tells.tag) (sized ∙ sym tells.size) in
            row_stands there upload row tells.what stands same)
            (λ (tells : TellsOfStayed s entries upload row).
            row_stands there upload row tells.what
            (kept rules s n entries sound legal (part_of upload row.number) tells.what (inr tells.stayed)) (sym tells.is)) tells),
      )
