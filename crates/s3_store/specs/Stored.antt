-- What a store is seen as.
use Rattle.std.specs.Prelude.{◌≡◌, ◌⊎◌, refl, ℕ}
use Rattle.std.specs.Coded.{Coded, code_by, coded×, coded_ℕ}
use Rattle.s3_store.specs.Steps.{Standing, coded_standing}

-- where a store stands, the records that it has, and the number behind the last entry that changed something
pub record Stored (R : Type 0) : Type 0 where
  pub standing : Standing
  pub records : R
  pub changed : ℕ

-- how std numbers it
abbrev pub coded_stored : {R : Type 0} → Coded R → Coded (Stored R)
coded_stored {R} records =
    code_by (Standing × (R × ℕ)) (coded× coded_standing (coded× records coded_ℕ))
    (λ stored. (stored.standing, (stored.records, stored.changed)))
    (λ p. record { standing = p.0; records = p.1.0; changed = p.1.1 })
    (λ _. refl)

-- an entry changed nothing, or its number is counted
abbrev pub IsCounted : {R : Type 0} → Stored R → Stored R → Type 0
IsCounted old new = (new.changed ≡ new.standing.number) ⊎ ((new.standing.state ≡ old.standing.state) × (new.changed ≡ old.changed))
