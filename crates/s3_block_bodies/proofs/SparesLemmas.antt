-- What writes leave of a file, one after another.
use Rattle.std.proofs.Common.{refl, ap, subst, sym, ◌∙◌, ◌≡◌, ℕ, List, Bool}
use Rattle.s3_block_file.specs.declared.block_file.BlockFile.{BlockFile}
use Rattle.s3_block_file.specs.declared.extent.Extent.{Extent}
use Rattle.s3_block_file.specs.Extent.{granules_for, AreApart, Stores}
use Rattle.s3_block_file.specs.Uses.{AreTaken}
use Rattle.s3_block_file.specs.BlockFile.{disk_of, uses_of, IsLive, Survives}
use Rattle.s3_block_bodies.specs.Spares.{Spares, SparesLive}

module _ {D : Type 0} {seen : D → List ℕ} {may_leave : D → List ℕ → Type 0} {is_clean : D → Bool} where
  pub spares_same : (e : Extent) (file : BlockFile D) → Spares seen may_leave is_clean e file file
  spares_same e file = record {
    stay = λ x bytes apart has. has;
    survive = λ x bytes apart leaves. leaves;
    uses = refl;
    clean = refl;
  }

  pub spares_both : (e : Extent) (old mid new : BlockFile D) → Spares seen may_leave is_clean e old mid → Spares seen may_leave is_clean e mid new → Spares seen may_leave is_clean e old new
  spares_both e old mid new first second = record {
    stay = λ x bytes apart has. second.stay x bytes apart (first.stay x bytes apart has);
    survive = λ x bytes apart leaves. second.survive x bytes apart (first.survive x bytes apart leaves);
    uses = second.uses ∙ first.uses;
    clean = second.clean ∙ first.clean;
  }

  pub spares_synced : (e : Extent) (old new : BlockFile D) → seen (disk_of new) ≡ seen (disk_of old) → ((x : Extent) (bytes : List ℕ) → Survives may_leave old x bytes → Survives may_leave new x bytes)
      → uses_of new ≡ uses_of old → is_clean (disk_of new) ≡ is_clean (disk_of old) → Spares seen may_leave is_clean e old new
  spares_synced e old new same survive uses clean = record {
    stay = λ x bytes apart has. subst (λ file. Stores file x bytes) (sym same) has;
    survive = λ x bytes apart. survive x bytes;
    uses = uses;
    clean = clean;
  }

  -- room was taken that is apart from what is live, and written to
  pub spares_room : (e : Extent) (old room new : BlockFile D) → ((x : Extent) → IsLive old x → AreApart x e) → ((x : Extent) → IsLive old x → IsLive room x)
      → disk_of room ≡ disk_of old → Spares seen may_leave is_clean e room new → SparesLive seen may_leave is_clean old new
  spares_room e old room new apart keeps same spares = record {
    stay = λ x bytes live has. spares.stay x bytes (apart x live) (subst (λ disk. Stores (seen disk) x bytes) (sym same) has);
    survive = λ x bytes live leaves. spares.survive x bytes (apart x live) (subst (λ disk. (left : List ℕ) → may_leave disk left → Stores left x bytes) (sym same) leaves);
    live = λ x live. subst (λ uses. AreTaken uses x.first (granules_for x.size)) (sym spares.uses) (keeps x live);
    clean = spares.clean ∙ ap is_clean same;
  }

  pub spares_none : (old new : BlockFile D) → ((x : Extent) → IsLive old x → IsLive new x) → disk_of new ≡ disk_of old → SparesLive seen may_leave is_clean old new
  spares_none old new keeps same = record {
    stay = λ x bytes live has. subst (λ disk. Stores (seen disk) x bytes) (sym same) has;
    survive = λ x bytes live leaves. subst (λ disk. (left : List ℕ) → may_leave disk left → Stores left x bytes) (sym same) leaves;
    live = keeps;
    clean = ap is_clean same;
  }

  -- and given back
  pub spares_back : (e : Extent) (old mid new : BlockFile D) → ((x : Extent) → IsLive old x → AreApart x e) → ((x : Extent) → AreApart x e → IsLive mid x → IsLive new x)
      → disk_of new ≡ disk_of mid → SparesLive seen may_leave is_clean old mid → SparesLive seen may_leave is_clean old new
  spares_back e old mid new apart keeps same spares = record {
    stay = λ x bytes live has. subst (λ disk. Stores (seen disk) x bytes) (sym same) (spares.stay x bytes live has);
    survive = λ x bytes live leaves. subst (λ disk. (left : List ℕ) → may_leave disk left → Stores left x bytes) (sym same) (spares.survive x bytes live leaves);
    live = λ x live. keeps x (apart x live) (spares.live x live);
    clean = ap is_clean same ∙ spares.clean;
  }
