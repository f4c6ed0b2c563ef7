-- A database that was found in empty files shows nothing.
use Rattle.std.proofs.Common.{◌≡◌, refl, ap, subst, ◌∙◌, inl, inr, List, [], ◌∷◌, length, arith}
use Rattle.std.specs.List.{AllZip}
use Rattle.sqlite_wal.specs.Recovery.{Image}
use Rattle.sqlite_trees.specs.Tree.{Trees}
use Rattle.sqlite_trees.specs.Objects.{catalog_tree}
use Rattle.sqlite_value.specs.Order.{Row}
use Rattle.sqlite_schema.specs.declared.schema.Table.{Table}
use Rattle.sqlite_schema.specs.declared.schema.View.{View}
use Rattle.sqlite_schema.specs.declared.schema.Index.{Index}
use Rattle.sqlite_schema.specs.declared.schema.Schema.{Schema}
use Rattle.sqlite_catalog.specs.Listing.{AreListed, IsIndexRow, IsSound, IsTableRow, IsViewRow}
use Rattle.sqlite.specs.Effect.{Database}
use Rattle.sqlite.specs.State.{State, Opens, IsLive}
use Rattle.sqlite.specs.Steps.{IsEmpty}
use Rattle.sqlite.specs.Files.{AreFoundIn, IsEmpty as HasNoRows}

-- an empty file holds no database, so none was found in it
pub found_nothing : (image : Image) (db : Trees) → length image.db ≡ 0 → AreFoundIn image db → HasNoRows db
found_nothing image db none (inl found) = absurd (omega (arith, found.3.found.present))
found_nothing image db none (inr nothing) = nothing.1

nothing_beside : {A B : Type 0} (R : A → B → Type 0) (ys : List B) → AllZip R [] ys → ys ≡ []
nothing_beside R [] h = refl
nothing_beside R (y ∷ ys) h = absurd h

same_schema : (tables : List Table) (indexes : List Index) (views : List View) → tables ≡ [] → indexes ≡ [] → views ≡ []
    → (λ (schema : Schema). schema ≡ record { tables = []; indexes = []; views = [] }) (record { tables = tables; indexes = indexes; views = views })
same_schema tables indexes views no_tables no_indexes no_views =
    let made : List Table → List Index → List View → Schema = λ a b c. record { tables = a; indexes = b; views = c } in
    ap (λ (a : List Table). made a indexes views) no_tables ∙ ap (λ (b : List Index). made [] b views) no_indexes ∙ ap (λ (c : List View). made [] [] c) no_views

-- what no row lists has nothing
pub lists_nothing : (schema : Schema) (db : Trees) → db catalog_tree ≡ [] → IsSound schema db → schema ≡ record { tables = []; indexes = []; views = [] }
lists_nothing schema db none sound =
    let listed : AreListed [] schema = subst (λ (objects : List Row). AreListed objects schema) none sound.lists.listed in
    same_schema schema.tables schema.indexes schema.views (nothing_beside IsTableRow _ listed.tables) (nothing_beside (IsIndexRow schema.tables) _ listed.indexes) (nothing_beside IsViewRow _ listed.views)

pub shows_nothing : (s : State) → Opens s → IsLive s → HasNoRows s.committed.trees → IsEmpty s
shows_nothing s opens live none =
    let sound = (live opens.is_open).1 in
    (opens, live, ap (λ (db : Database). db.schema) opens.clean ∙ lists_nothing s.committed.schema s.committed.trees none.1 sound)
