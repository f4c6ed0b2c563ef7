-- Bodies come and go, and the disk has them.
use Rattle.std.proofs.Common.{◌≡◌, ◌≢◌, inl, inr, ◌∙◌, sym, ap, subst, refl, ℕ, ◌+◌, ◌<◌, ◌≤◌, Bool, true, false, IsTrue, List, [], ◌∷◌, ◌++◌, length, slice_index, Some, arith}
use Rattle.std.specs.FinMap as map
use Rattle.std.specs.Prelude.{count_by, if◌then◌else◌}
use Rattle.std.specs.List.{All, Contains}
use Rattle.std.proofs.lemmas.Bool.{cases_lt}
use Rattle.std.proofs.lemmas.List.Elements.{All-contains, Contains-push, Contains-append_left}
use Rattle.sqlite_disk.specs.Disk.{Only}
use Rattle.s3_stored_bodies.specs.Numbers.{Contents, bytes_under, KeepsNamed}
use Rattle.s3_stored_bodies.specs.Held.{Held, contents_of, uses_of}
use Rattle.s3_block_file.specs.declared.block_file.BlockFile.{BlockFile}
use Rattle.s3_block_file.specs.declared.extent.Extent.{Extent}
use Rattle.s3_block_file.specs.Extent.{granules_for, lies_in, IsAddressable, AreApart, AreDisjoint, Stores}
use Rattle.s3_block_file.specs.Uses.{AreFree, AreTaken, OneMore}
use Rattle.s3_block_file.specs.BlockFile.{disk_of, uses_of as granules_of, IsLive}
use Rattle.s3_block_bodies.specs.Header.{stored}
use Rattle.s3_block_bodies.specs.Stored.{extent_of, IsStored, AreStored, AreHoused, NoneWaits, IsWaiting, IsSettled, IsSound}
use Rattle.s3_block_bodies.specs.Spares.{SparesLive}
use Rattle.s3_block_bodies.specs.Loading.{AreListed}
use Rattle.s3_block_bodies.proofs.ListLemmas.{listed_apart, lies, lies_not_in_front, lies_not_behind, ones, ones_one, ones_none, count_push}
use Rattle.s3_block_bodies.proofs.MapLemmas.{in_either, named_has, has_named, unnamed_where, was_there}

-- an extent by its parts
pub extent_is : (e : Extent) (size : ℕ) → e.size ≡ size + 32 → e ≡ extent_of e.first size
extent_is e size is = ap (λ s. record { first = e.first; size = s }) is

turned : (a b : Extent) → AreApart a b → AreApart b a
turned a b apart = λ k low_b high_b low_a high_a. apart k low_a high_a low_b high_b

pub housed_more : (contents : Contents) (granules : List ℕ) (number : ℕ) (bytes : List ℕ)
    → IsAddressable (extent_of number (length bytes)) → AreTaken granules number (granules_for (length bytes + 32))
    → ((n : ℕ) (b : List ℕ) → map.get contents n ≡ Some b → AreApart (extent_of n (length b)) (extent_of number (length bytes)))
    → AreHoused contents granules → AreHoused (map.insert contents number bytes) granules
housed_more contents granules number bytes addressable taken apart housed = record {
  addressable = in_either (λ n b. IsAddressable (extent_of n (length b))) contents number bytes addressable housed.addressable;
  taken = in_either (λ n b. AreTaken granules n (granules_for (length b + 32))) contents number bytes taken housed.taken;
  apart = λ m n a b m_is n_is differ.
      in_either (λ m a. m ≢ n → AreApart (extent_of m (length a)) (extent_of n (length b))) contents number bytes
      (in_either (λ n b. number ≢ n → AreApart (extent_of number (length bytes)) (extent_of n (length b))) contents number bytes
      (λ differ. absurd (differ refl))
      (λ n b there differ. turned (extent_of n (length b)) (extent_of number (length bytes)) (apart n b there)) n b n_is)
      (λ m a there. in_either (λ n b. m ≢ n → AreApart (extent_of m (length a)) (extent_of n (length b))) contents number bytes
      (λ differ. apart m a there)
      (λ n b n_there differ. housed.apart m n a b there n_there differ) n b n_is)
      m a m_is differ;
}

-- one that was given a place that was free stands under no name yet
pub fresh_unnamed : (held : Held) (granules : List ℕ) (e : Extent) → 0 < e.size → AreFree granules e.first (granules_for e.size) → AreHoused (contents_of held) granules → uses_of held e.first ≡ 0
fresh_unnamed held granules e some free housed = unnamed_where held e.first (λ b there.
    let taken : 0 < slice_index granules e.first = housed.taken e.first b there e.first (omega arith) (omega arith) in
    let none : slice_index granules e.first ≡ 0 = free e.first (omega arith) (omega arith) in
    omega (arith, taken, none))

-- nothing waits
none_waits : (contents : Contents) (granules : List ℕ) → IsWaiting contents [] granules
none_waits contents granules = record {
  counted = λ k. let none : count_by (lies_in k) [] ≡ 0 = refl in omega (arith, none);
  apart = λ n b there k from to. refl;
}

-- granules that count no less than before still count what waits
pub waits_grown : (contents : Contents) (waiting : List Extent) (old new : List ℕ) → ((k : ℕ) → slice_index old k ≤ slice_index new k) → IsWaiting contents waiting old → IsWaiting contents waiting new
waits_grown contents waiting old new more waits = record { counted = λ k. omega (arith, more k, waits.counted k); apart = waits.apart }

pub one_more : (first count : ℕ) (old new : List ℕ) → OneMore first count old new → (k : ℕ) → slice_index old k ≤ slice_index new k
one_more first count old new more k =
    elim (cases_lt k first) [
      | inl front ↦ omega (arith, more.in_front k front)
      | inr from ↦
          elim (cases_lt k (first + count)) [
            | inl inside ↦ omega (arith, more.these k from inside)
            | inr behind ↦ omega (arith, more.behind k behind)
          ]
    ]

-- nothing that waits lies where all was free
pub none_where_free : (contents : Contents) (waiting : List Extent) (granules : List ℕ) (e : Extent) → AreFree granules e.first (granules_for e.size) → IsWaiting contents waiting granules → NoneWaits waiting e
none_where_free contents waiting granules e free waits k from to = omega (arith, free k from to, waits.counted k)

-- room that was given back, of which nothing waited
waits_freed : (contents : Contents) (waiting : List Extent) (old new : List ℕ) (e : Extent) → NoneWaits waiting e → OneMore e.first (granules_for e.size) new old → IsWaiting contents waiting old → IsWaiting contents waiting new
waits_freed contents waiting old new e none less waits = record {
  counted = λ k.
      elim (cases_lt k e.first) [
        | inl front ↦ omega (arith, less.in_front k front, waits.counted k)
        | inr from ↦
            elim (cases_lt k (e.first + granules_for e.size)) [
              | inl inside ↦ omega (arith, none k from inside)
              | inr behind ↦ omega (arith, less.behind k behind, waits.counted k)
            ]
      ];
  apart = waits.apart;
}

-- fewer bodies
pub waits_less : (old new : Contents) (waiting : List Extent) (granules : List ℕ) → ((n : ℕ) (b : List ℕ) → map.get new n ≡ Some b → map.get old n ≡ Some b) → IsWaiting old waiting granules → IsWaiting new waiting granules
waits_less old new waiting granules was waits = record { counted = waits.counted; apart = λ n b there. waits.apart n b (was n b there) }

-- one extent more that waits, which is taken, and in which nothing waited
pub waits_more : (contents : Contents) (old new : List Extent) (granules : List ℕ) (e : Extent) → new ≡ old ++ e ∷ [] → NoneWaits old e → AreTaken granules e.first (granules_for e.size)
    → ((n : ℕ) (b : List ℕ) → map.get contents n ≡ Some b → AreApart (extent_of n (length b)) e) → IsWaiting contents old granules → IsWaiting contents new granules
waits_more contents old new granules e is none taken apart waits =
    let counts : (k : ℕ) → count_by (lies_in k) new ≡ count_by (lies_in k) old + ones k e = λ k. ap (count_by (lies_in k)) is ∙ count_push k old e in
    record {
      counted = λ k.
          elim (cases_lt k e.first) [
            | inl front ↦ omega (arith, counts k, ones_none k e (lies_not_in_front k e front), waits.counted k)
            | inr from ↦
                elim (cases_lt k (e.first + granules_for e.size)) [
                  | inl inside ↦ omega (arith, counts k, ones_one k e (lies k e from inside), none k from inside, taken k from inside)
                  | inr behind ↦ omega (arith, counts k, ones_none k e (lies_not_behind k e behind), waits.counted k)
                ]
          ];
      apart = λ n b there k from to.
          elim (cases_lt k e.first) [
            | inl front ↦ omega (arith, counts k, ones_none k e (lies_not_in_front k e front), waits.apart n b there k from to)
            | inr low ↦
                elim (cases_lt k (e.first + granules_for e.size)) [
                  | inl inside ↦ absurd (apart n b there k from to low inside)
                  | inr behind ↦ omega (arith, counts k, ones_none k e (lies_not_behind k e behind), waits.apart n b there k from to)
                ]
          ];
    }

-- or one for which there was no memory
pub waits_pushed : (contents : Contents) (old new : List Extent) (granules : List ℕ) (e : Extent) (is_ok : Bool) → new ≡ (if is_ok then old ++ e ∷ [] else old) → NoneWaits old e → AreTaken granules e.first (granules_for e.size)
    → ((n : ℕ) (b : List ℕ) → map.get contents n ≡ Some b → AreApart (extent_of n (length b)) e) → IsWaiting contents old granules → IsWaiting contents new granules
waits_pushed contents old new granules e true is none taken apart waits = waits_more contents old new granules e is none taken apart waits
waits_pushed contents old new granules e false is none taken apart waits = subst (λ waiting. IsWaiting contents waiting granules) (sym is) waits

module _ {D : Type 0} {may_leave : D → List ℕ → Type 0} {is_clean : D → Bool} where
  -- what was settled stays so where room is given back that lies apart
  pub settled_freed : (old new : BlockFile D) (e : Extent) (n : ℕ) (b : List ℕ) → ((x : Extent) → AreApart x e → IsLive old x → IsLive new x) → disk_of new ≡ disk_of old → AreApart (extent_of n (length b)) e
      → IsSettled may_leave is_clean (disk_of old) (granules_of old) n b → IsSettled may_leave is_clean (disk_of new) (granules_of new) n b
  settled_freed old new e n b keeps same apart settled = record {
    addressable = settled.addressable;
    taken = keeps (extent_of n (length b)) apart settled.taken;
    later = subst (λ disk. IsTrue (is_clean disk) → (left : List ℕ) → may_leave disk left → IsStored left n b) (sym same) settled.later;
  }

  -- or where the file is asked to sync
  pub settled_asked : (old new : BlockFile D) → ((left : List ℕ) → may_leave (disk_of new) left → may_leave (disk_of old) left)
      → is_clean (disk_of new) ≡ is_clean (disk_of old) → granules_of new ≡ granules_of old → (n : ℕ) (b : List ℕ)
      → IsSettled may_leave is_clean (disk_of old) (granules_of old) n b → IsSettled may_leave is_clean (disk_of new) (granules_of new) n b
  settled_asked old new fewer clean_is uses_is n b settled = record {
    addressable = settled.addressable;
    taken = subst (λ uses. AreTaken uses n (granules_for (length b + 32))) (sym uses_is) settled.taken;
    later = λ clean left may. settled.later (subst IsTrue clean_is clean) left (fewer left may);
  }

  -- or where what no row names is let go
  pub settled_let_go : (contents : Contents) (old new : D) (before after : List ℕ) → AreHoused contents after → new ≡ old → (n : ℕ) (b : List ℕ) → map.get contents n ≡ Some b
      → IsSettled may_leave is_clean old before n b → IsSettled may_leave is_clean new after n b
  settled_let_go contents old new before after housed same n b there settled = record {
    addressable = settled.addressable;
    taken = housed.taken n b there;
    later = subst (λ disk. IsTrue (is_clean disk) → (left : List ℕ) → may_leave disk left → IsStored left n b) (sym same) settled.later;
  }

module _ {D : Type 0} {seen : D → List ℕ} {may_leave : D → List ℕ → Type 0} {is_clean : D → Bool} where
  -- nothing is said of a crash where a body may come that isn't synced
  pub sound_unsynced : (contents : Contents) (waiting : List Extent) (is_synced : Bool) (disk : D) (granules : List ℕ)
      → IsSound seen may_leave is_clean contents waiting is_synced disk granules → IsSound seen may_leave is_clean contents waiting false disk granules
  sound_unsynced contents waiting is_synced disk granules sound = record { housed = sound.housed; waits = sound.waits; now = sound.now; later = λ never. absurd cc }

  -- what is live stayed
  pub sound_spared : (contents : Contents) (waiting : List Extent) (old new : BlockFile D) → SparesLive seen may_leave is_clean old new → ((k : ℕ) → slice_index (granules_of old) k ≤ slice_index (granules_of new) k)
      → IsSound seen may_leave is_clean contents waiting false (disk_of old) (granules_of old) → IsSound seen may_leave is_clean contents waiting false (disk_of new) (granules_of new)
  sound_spared contents waiting old new spares more sound = record {
    housed = record {
      addressable = sound.housed.addressable;
      taken = λ n b there. spares.live (extent_of n (length b)) (sound.housed.taken n b there);
      apart = sound.housed.apart;
    };
    waits = waits_grown contents waiting (granules_of old) (granules_of new) more sound.waits;
    now = λ clean n b there. spares.stay (extent_of n (length b)) (stored b) (sound.housed.taken n b there) (sound.now (subst IsTrue spares.clean clean) n b there);
    later = λ never. absurd cc;
  }

  -- and what was settled
  pub settled_spared : (old new : BlockFile D) → SparesLive seen may_leave is_clean old new → (n : ℕ) (b : List ℕ)
      → IsSettled may_leave is_clean (disk_of old) (granules_of old) n b → IsSettled may_leave is_clean (disk_of new) (granules_of new) n b
  settled_spared old new spares n b settled = record {
    addressable = settled.addressable;
    taken = spares.live (extent_of n (length b)) settled.taken;
    later = λ clean. spares.survive (extent_of n (length b)) (stored b) settled.taken (settled.later (subst IsTrue spares.clean clean));
  }

  -- a body more, in an extent that is apart from the others
  pub sound_more : (contents : Contents) (waiting : List Extent) (file : BlockFile D) (e : Extent) (bytes : List ℕ) → e.size ≡ length bytes + 32 → IsAddressable e → IsLive file e
      → ((n : ℕ) (b : List ℕ) → map.get contents n ≡ Some b → AreApart (extent_of n (length b)) e) → NoneWaits waiting e
      → Stores (seen (disk_of file)) e (stored bytes)
      → IsSound seen may_leave is_clean contents waiting false (disk_of file) (granules_of file)
      → IsSound seen may_leave is_clean (map.insert contents e.first bytes) waiting false (disk_of file) (granules_of file)
  sound_more contents waiting file e bytes size addressable live apart none has sound =
      let is = extent_is e (length bytes) size in
      record {
        housed = housed_more contents (granules_of file) e.first bytes (subst IsAddressable is addressable) (subst (IsLive file) is live) (λ n b there. subst (AreApart (extent_of n (length b))) is (apart n b there)) sound.housed;
        waits = record {
          counted = sound.waits.counted;
          apart = in_either (λ n b. NoneWaits waiting (extent_of n (length b))) contents e.first bytes (subst (NoneWaits waiting) is none) sound.waits.apart;
        };
        now = λ clean. in_either (IsStored (seen (disk_of file))) contents e.first bytes (subst (λ x. Stores (seen (disk_of file)) x (stored bytes)) is has) (sound.now clean);
        later = λ never. absurd cc;
      }

  -- a body less
  pub sound_less : (old new : Contents) (before after : List Extent) (is_synced : Bool) (disk : D) (granules : List ℕ) → ((n : ℕ) (b : List ℕ) → map.get new n ≡ Some b → map.get old n ≡ Some b)
      → IsWaiting new after granules → IsSound seen may_leave is_clean old before is_synced disk granules → IsSound seen may_leave is_clean new after is_synced disk granules
  sound_less old new before after is_synced disk granules was waits sound = record {
    housed = record {
      addressable = λ n b there. sound.housed.addressable n b (was n b there);
      taken = λ n b there. sound.housed.taken n b (was n b there);
      apart = λ m n a b m_there n_there. sound.housed.apart m n a b (was m a m_there) (was n b n_there);
    };
    waits = waits;
    now = λ clean n b there. sound.now clean n b (was n b there);
    later = λ synced clean left may n b there. sound.later synced clean left may n b (was n b there);
  }

  -- whose room was given back at once
  pub sound_freed : (contents : Contents) (waiting : List Extent) (old new : BlockFile D) (e : Extent) → ((n : ℕ) (b : List ℕ) → map.get contents n ≡ Some b → AreApart (extent_of n (length b)) e) → NoneWaits waiting e
      → ((x : Extent) → AreApart x e → IsLive old x → IsLive new x) → OneMore e.first (granules_for e.size) (granules_of new) (granules_of old) → disk_of new ≡ disk_of old
      → IsSound seen may_leave is_clean contents waiting false (disk_of old) (granules_of old) → IsSound seen may_leave is_clean contents waiting false (disk_of new) (granules_of new)
  sound_freed contents waiting old new e apart none keeps less same sound =
      let freed : IsSound seen may_leave is_clean contents waiting false (disk_of old) (granules_of new) =
      record {
        housed = record {
          addressable = sound.housed.addressable;
          taken = λ n b there. keeps (extent_of n (length b)) (apart n b there) (sound.housed.taken n b there);
          apart = sound.housed.apart;
        };
        waits = waits_freed contents waiting (granules_of old) (granules_of new) e none less sound.waits;
        now = sound.now;
        later = λ never. absurd cc;
      } in
      subst (λ disk. IsSound seen may_leave is_clean contents waiting false disk (granules_of new)) (sym same) freed

  -- bodies that were read, each of which is in the list of extents
  pub sound_opened : (contents : Contents) (extents : List Extent) (file : BlockFile D) (bytes : List ℕ) → AreListed contents extents
      → All (IsLive file) extents → AreDisjoint extents → All IsAddressable extents
      → seen (disk_of file) ≡ bytes → Only bytes (may_leave (disk_of file)) → (IsTrue (is_clean (disk_of file)) → AreStored contents bytes)
      → IsSound seen may_leave is_clean contents [] true (disk_of file) (granules_of file)
  sound_opened contents extents file bytes listed live disjoint addressable same only has = record {
    housed = record {
      addressable = λ n b there. All-contains IsAddressable extents (extent_of n (length b)) addressable (listed n b there);
      taken = λ n b there. All-contains (IsLive file) extents (extent_of n (length b)) live (listed n b there);
      apart = λ m n a b m_there n_there. listed_apart extents (extent_of m (length a)) (extent_of n (length b)) disjoint (listed m a m_there) (listed n b n_there);
    };
    waits = none_waits contents (granules_of file);
    now = λ clean. subst (AreStored contents) (sym same) (has clean);
    later = λ synced clean left may. subst (AreStored contents) (sym (only left may)) (has clean);
  }

  -- all was synced
  pub sound_synced : (contents : Contents) (waiting : List Extent) (is_synced : Bool) (old new : BlockFile D) → seen (disk_of new) ≡ seen (disk_of old) → Only (seen (disk_of old)) (may_leave (disk_of new))
      → is_clean (disk_of new) ≡ is_clean (disk_of old) → granules_of new ≡ granules_of old
      → IsSound seen may_leave is_clean contents waiting is_synced (disk_of old) (granules_of old) → IsSound seen may_leave is_clean contents waiting true (disk_of new) (granules_of new)
  sound_synced contents waiting is_synced old new same only clean_is uses_is sound =
      subst (IsSound seen may_leave is_clean contents waiting true (disk_of new)) (sym uses_is)
      (record {
        housed = sound.housed;
        waits = sound.waits;
        now = λ clean. subst (AreStored contents) (sym same) (sound.now (subst IsTrue clean_is clean));
        later = λ synced clean left may. subst (AreStored contents) (sym (only left may)) (sound.now (subst IsTrue clean_is clean));
      })

  -- or a sync failed
  pub sound_asked : (contents : Contents) (waiting : List Extent) (is_synced : Bool) (old new : BlockFile D) → seen (disk_of new) ≡ seen (disk_of old) → ((left : List ℕ) → may_leave (disk_of new) left → may_leave (disk_of old) left)
      → is_clean (disk_of new) ≡ is_clean (disk_of old) → granules_of new ≡ granules_of old
      → IsSound seen may_leave is_clean contents waiting is_synced (disk_of old) (granules_of old) → IsSound seen may_leave is_clean contents waiting is_synced (disk_of new) (granules_of new)
  sound_asked contents waiting is_synced old new same fewer clean_is uses_is sound =
      subst (IsSound seen may_leave is_clean contents waiting is_synced (disk_of new)) (sym uses_is)
      (record {
        housed = sound.housed;
        waits = sound.waits;
        now = λ clean. subst (AreStored contents) (sym same) (sound.now (subst IsTrue clean_is clean));
        later = λ synced clean left may. sound.later synced (subst IsTrue clean_is clean) left (fewer left may);
      })

  -- where all was synced each body is settled
  pub all_settled : (contents : Contents) (waiting : List Extent) (disk : D) (granules : List ℕ) → IsSound seen may_leave is_clean contents waiting true disk granules
      → (n : ℕ) (b : List ℕ) → map.get contents n ≡ Some b → IsSettled may_leave is_clean disk granules n b
  all_settled contents waiting disk granules sound n b there =
      let synced : IsTrue true = cc in
      record {
        addressable = sound.housed.addressable n b there;
        taken = sound.housed.taken n b there;
        later = λ clean left may. sound.later synced clean left may n b there;
      }

  -- what waited is free
  pub sound_let_go : (contents : Contents) (waiting : List Extent) (is_synced : Bool) (old new : BlockFile D) → ((k : ℕ) → slice_index (granules_of new) k + count_by (lies_in k) waiting ≡ slice_index (granules_of old) k) → disk_of new ≡ disk_of old
      → IsSound seen may_leave is_clean contents waiting is_synced (disk_of old) (granules_of old) → IsSound seen may_leave is_clean contents [] is_synced (disk_of new) (granules_of new)
  sound_let_go contents waiting is_synced old new gives same sound =
      subst (λ disk. IsSound seen may_leave is_clean contents [] is_synced disk (granules_of new)) (sym same)
      (record {
        housed = record {
          addressable = sound.housed.addressable;
          taken = λ n b there k from to. omega (arith, gives k, sound.waits.apart n b there k from to, sound.housed.taken n b there k from to);
          apart = sound.housed.apart;
        };
        waits = none_waits contents (granules_of new);
        now = sound.now;
        later = sound.later;
      })

-- a body that went lay apart from those that stay
pub apart_from_gone : (old new : Held) (granules : List ℕ) (number size : ℕ) → KeepsNamed (uses_of new) (contents_of old) (contents_of new) → 0 < uses_of old number
    → uses_of new number ≡ 0 → size ≡ length (bytes_under (contents_of old) number) → AreHoused (contents_of old) granules
    → (n : ℕ) (b : List ℕ) → map.get (contents_of new) n ≡ Some b → AreApart (extent_of n (length b)) (extent_of number size)
apart_from_gone old new granules number size keeps named gone size_is housed n b there =
    let other : n ≢ number = λ same. (let still : 0 < uses_of new number = subst (λ q. 0 < uses_of new q) same (has_named new n b there) in omega (arith, still, gone)) in
    subst (λ s. AreApart (extent_of n (length b)) (extent_of number s)) (sym size_is)
    (housed.apart n number b (bytes_under (contents_of old) number) (was_there old new keeps n b there) (named_has old number named) other)

-- where it is, from what is named
pub taken_where : (held : Held) (granules : List ℕ) (number size : ℕ) → 0 < uses_of held number → size ≡ length (bytes_under (contents_of held) number) → AreHoused (contents_of held) granules
    → AreTaken granules number (granules_for (size + 32)) × IsAddressable (extent_of number size)
taken_where held granules number size named size_is housed =
    let there = named_has held number named in (
      subst (λ s. AreTaken granules number (granules_for (s + 32))) (sym size_is) (housed.taken number (bytes_under (contents_of held) number) there),
      subst (λ s. IsAddressable (extent_of number s)) (sym size_is) (housed.addressable number (bytes_under (contents_of held) number) there),
    )

-- one more that was read
pub listed_more : (contents : Contents) (old new : List Extent) (number size : ℕ) (bytes : List ℕ) → size ≡ length bytes → new ≡ old ++ extent_of number size ∷ []
    → AreListed contents old → AreListed (map.insert contents number bytes) new
listed_more contents old new number size bytes size_is new_is listed =
    subst (AreListed (map.insert contents number bytes)) (sym new_is)
    (in_either (λ n b. Contains (old ++ extent_of number size ∷ []) (extent_of n (length b))) contents number bytes
    (subst (λ s. Contains (old ++ extent_of number size ∷ []) (extent_of number s)) size_is (Contains-push old (extent_of number size)))
    (λ n b there. Contains-append_left old (extent_of number size ∷ []) (extent_of n (length b)) (listed n b there)))

pub stored_more : (contents : Contents) (file : List ℕ) (number : ℕ) (bytes : List ℕ) → IsStored file number bytes → AreStored contents file → AreStored (map.insert contents number bytes) file
stored_more contents file number bytes is others = in_either (IsStored file) contents number bytes is others

-- where nothing waits, from what is named
pub none_waits_where : (held : Held) (waiting : List Extent) (granules : List ℕ) (number size : ℕ) → 0 < uses_of held number → size ≡ length (bytes_under (contents_of held) number) → IsWaiting (contents_of held) waiting granules
    → NoneWaits waiting (extent_of number size)
none_waits_where held waiting granules number size named size_is waits =
    subst (λ s. NoneWaits waiting (extent_of number s)) (sym size_is) (waits.apart number (bytes_under (contents_of held) number) (named_has held number named))
