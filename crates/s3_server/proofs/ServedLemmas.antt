-- What a shared store leaves is what its round has done.
use Rattle.std.proofs.Common.{◌≡◌, ◌+◌, ℕ, List, [], ◌∷◌, ◌++◌, append_assoc, Result, Ok, Err, length, ap, ◌∙◌, refl, sym, subst, arith, append-nil}
use Rattle.std.specs.Prelude.{IfOk, OnOk}
use Rattle.s3_config.specs.Settings.{Settings}
use Rattle.s3_machine.specs.Rules.{rules_of}
use Rattle.s3_store.specs.Steps.{Standing}
use Rattle.s3_journal.specs.Noted.{front_of}
use Rattle.s3_journal.specs.RecordedStore.{Journal}
use Rattle.s3_journal.specs.SharedStore.{Base}
use Rattle.s3_journal.specs.Gone.{Gone, AreWhole, IsClosed}
use Rattle.s3_journal.specs.Roster.{AreBack, AreNew, NobodyIsOut, Rostered, all_gone}
use Rattle.s3_devices.specs.Device.{Traffic}
use Rattle.s3_driver.specs.Account.{Account, Fits}
use Rattle.s3_sockets.specs.Door.{AreNamed, HasPassed, Passed, numbers_of, one_if, times, traffic_told}
use Rattle.s3_sockets.specs.Network.{AllAreClosed, NetworkState, all_back, all_handed}
use Rattle.s3_server.specs.Served.{AllHavePassed, AreFresh, HasLeft, HasWorked, HaveClosed, ServerRun}

-- what a shared store left
pub has_left : (settings : Settings) (base : Base) (left : Journal) (gone : List (Gone Account)) (earlier later : List ServerRun)
    → IsClosed (Fits base.settings) base left gone → base.settings ≡ settings → later ≡ earlier ++ record { history = left.entries; committed = front_of left.committed; gone = gone } ∷ []
    → HasLeft settings base.store gone earlier later left
has_left settings base left gone earlier later closed same told = record {
  reported = told;
  rules = closed.continues.rules ∙ ap rules_of same;
  from = closed.continues.store;
  keeps = closed.keeps;
  committed = closed.committed;
  apart = closed.apart;
  each = subst (λ (s : Settings). AreWhole (Fits s) left.entries (front_of left.committed) gone) same closed.each;
  count = closed.count;
}

-- ---- doors

times_join : (n : ℕ) (some more : List ℕ) → times n (some ++ more) ≡ times n some + times n more
times_join n [] more = omega arith
times_join n (m ∷ some) more = let rest = times_join n some more in omega (arith, rest)

numbers_join : (some more : List (Gone Account)) → numbers_of (some ++ more) ≡ numbers_of some ++ numbers_of more
numbers_join [] more = refl
numbers_join (g ∷ some) more = ap (λ (ns : List ℕ). g.number ∷ ns) (numbers_join some more)

told_join : (some more : List (Gone Account)) → traffic_told (some ++ more) ≡ traffic_told some ++ traffic_told more
told_join [] more = refl
told_join (g ∷ some) more = ap (λ (ts : List Traffic). g.report.traffic ∷ ts) (told_join some more)

named_join : (some more : List (Gone Account)) → AreNamed some → AreNamed more → AreNamed (some ++ more)
named_join [] more one two = two
named_join (g ∷ some) more one two = (one.0, named_join some more one.1 two)

-- where nobody is out, the sockets that doors handed out are those of the accounts
all_counted : (index : ℕ) (doors : List Passed) (rosters : List (Rostered Account)) → AllHavePassed doors rosters → AreBack index rosters
    → (n : ℕ) → times n (all_handed doors) ≡ times n (numbers_of (all_gone rosters))
all_counted index [] [] passed back n = refl
all_counted index [] (roster ∷ rosters) passed back n = absurd passed
all_counted index (door ∷ doors) [] passed back n = absurd passed
all_counted index (door ∷ doors) (roster ∷ rosters) passed back n =
    let here = passed.0.each n in
    let none = ap one_if (back.1 n) in
    let rest = all_counted (index + 1) doors rosters passed.1 back.2 n in
    let handed = times_join n door.handed (all_handed doors) in
    let gone = ap (times n) (numbers_join roster.gone (all_gone rosters)) ∙ times_join n (numbers_of roster.gone) (numbers_of (all_gone rosters)) in
    omega (arith, here, none, rest, handed, gone)

all_told : (doors : List Passed) (rosters : List (Rostered Account)) → AllHavePassed doors rosters → all_back doors ≡ traffic_told (all_gone rosters)
all_told [] [] passed = refl
all_told [] (roster ∷ rosters) passed = absurd passed
all_told (door ∷ doors) [] passed = absurd passed
all_told (door ∷ doors) (roster ∷ rosters) passed =
    ap (λ (ts : List Traffic). ts ++ all_back doors) passed.0.back ∙ ap (λ (ts : List Traffic). traffic_told roster.gone ++ ts) (all_told doors rosters passed.1)
    ∙ sym (told_join roster.gone (all_gone rosters))

all_named : (doors : List Passed) (rosters : List (Rostered Account)) → AllHavePassed doors rosters → AreNamed (all_gone rosters)
all_named [] [] passed = tt
all_named [] (roster ∷ rosters) passed = absurd passed
all_named (door ∷ doors) [] passed = absurd passed
all_named (door ∷ doors) (roster ∷ rosters) passed = named_join roster.gone (all_gone rosters) passed.0.named (all_named doors rosters passed.1)

-- as many doors as rosters
same_length : (doors : List Passed) (rosters : List (Rostered Account)) → AllHavePassed doors rosters → length doors ≡ length rosters
same_length [] [] passed = refl
same_length [] (roster ∷ rosters) passed = absurd passed
same_length (door ∷ doors) [] passed = absurd passed
same_length (door ∷ doors) (roster ∷ rosters) passed = let rest = same_length doors rosters passed.1 in omega (arith, rest)

has_worked : (settings : Settings) (base : Standing) (workers : ℕ) (before after : NetworkState) (earlier later : List ServerRun) (rosters : List (Rostered Account)) (left : Journal)
    → length rosters ≡ workers → HasLeft settings base (all_gone rosters) earlier later left → HaveClosed before after rosters → AreBack 0 rosters → AllAreClosed after
    → HasWorked settings base workers before after earlier later left
has_worked settings base workers before after earlier later rosters left len was have back closed = record {
  round = record { doors = have.doors; run = record { history = left.entries; committed = front_of left.committed; gone = all_gone rosters } };
  is = record {
    each_worker = same_length have.doors rosters have.each ∙ len;
    handed = all_counted 0 have.doors rosters have.each back;
    back = all_told have.doors rosters have.each;
    named = all_named have.doors rosters have.each;
    apart = was.apart;
    committed = was.committed;
    each = was.each;
    count = was.count;
  };
  passed = have.passed;
  closed = closed;
  asked = have.asked;
  reported = was.reported;
  rules = was.rules;
  from = was.from;
  keeps = was.keeps;
  entries = refl;
}

-- where it hands out what is left
pub worked_so : {E : Type 0} (r : Result Journal E) (settings : Settings) (base : Standing) (workers : ℕ) (before after : NetworkState) (earlier later : List ServerRun)
    (rosters : List (Rostered Account)) → length rosters ≡ workers → IfOk r (HasLeft settings base (all_gone rosters) earlier later) → OnOk r (AreBack 0 rosters) → HaveClosed before after rosters → AllAreClosed after
    → IfOk r (HasWorked settings base workers before after earlier later)
worked_so (Ok left) settings base workers before after earlier later rosters len was back have closed =
    has_worked settings base workers before after earlier later rosters left len was have back closed
worked_so (Err e) settings base workers before after earlier later rosters len was back have closed = tt

-- doors are closed one after another
passed_push : (doors : List Passed) (rosters : List (Rostered Account)) (door : Passed) (roster : Rostered Account) → AllHavePassed doors rosters → HasPassed door roster
    → AllHavePassed (doors ++ door ∷ []) (rosters ++ roster ∷ [])
passed_push [] [] door roster have is = (is, tt)
passed_push [] (first ∷ rosters) door roster have is = absurd have
passed_push (first ∷ doors) [] door roster have is = absurd have
passed_push (first ∷ doors) (other ∷ rosters) door roster have is = (have.0, passed_push doors rosters door roster have.1 is)

pub closed_none : (network : NetworkState) (rosters : List (Rostered Account)) → rosters ≡ [] → HaveClosed network network rosters
closed_none network rosters none = record {
  doors = [];
  passed = sym (append-nil network.closed);
  each = subst (AllHavePassed []) (sym none) tt;
  asked = refl;
}

pub closed_more : (before between after : NetworkState) (some more : List (Rostered Account)) (door : Passed) (roster : Rostered Account) → HaveClosed before between some
    → after.closed ≡ between.closed ++ door ∷ [] → after.asked ≡ between.asked → HasPassed door roster → more ≡ some ++ roster ∷ [] → HaveClosed before after more
closed_more before between after some more door roster have noted asked is added = record {
  doors = have.doors ++ door ∷ [];
  passed = noted ∙ ap (λ (ps : List Passed). ps ++ door ∷ []) have.passed ∙ append_assoc before.closed have.doors (door ∷ []);
  each = subst (AllHavePassed (have.doors ++ door ∷ [])) (sym added) (passed_push have.doors some door roster have.each is);
  asked = asked ∙ have.asked;
}

-- ---- rosters to which nobody has come

pub fresh_from : (index : ℕ) (rosters : List (Rostered Account)) → AreNew index rosters → AreFresh rosters
fresh_from index [] are = tt
fresh_from index (roster ∷ rosters) are = (are.0.nobody, are.0.nobody_left, fresh_from (index + 1) rosters are.1)

pub fresh_last : (rosters : List (Rostered Account)) (roster : Rostered Account) → AreFresh (rosters ++ roster ∷ [])
    → NobodyIsOut roster × (roster.gone ≡ []) × AreFresh rosters
fresh_last [] roster are = (are.0, are.1, tt)
fresh_last (first ∷ rosters) roster are =
    let rest = fresh_last rosters roster are.2 in
    (rest.0, rest.1, (are.0, are.1, rest.2))
