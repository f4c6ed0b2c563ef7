use Rattle.std.proofs.Common.{ap, sym, subst, ◌∙◌, ◌∷◌, [], take, get_or, arith}
use Rattle.std.proofs.lemmas.List.{take_more, take_all}
use Rattle.s3_stored_bodies.specs.Numbers.{named_more}
use Rattle.s3_stored_bodies.specs.Held.{contents_of}
use Rattle.s3_block_bodies.specs.Stored.{AreStored}
use Rattle.s3_block_bodies.proofs.MapLemmas.{named_more-append, named_from_none, named_none, nothing_there}
use Rattle.s3_block_bodies.proofs.loading.load_all.Goals as goal

pub loop-number-init : goal.loop-number-init
loop-number-init g c = record {
  uses = c.new.ensures.uses ∙ named_none (λ _. 0);
  listed = λ n b there. absurd (nothing_there (contents_of c.new.result) c.new.ensures.contents n b there);
  stored = λ clean n b there. absurd (nothing_there (contents_of c.new.result) c.new.ensures.contents n b there);
  size = λ clean. c.in_ok-file_size.ensures.size clean;
  seen = c.size_of.ensures.seen;
  usable = c.size_of.ensures.usable;
  clean = λ clean. c.size_of.ensures.clean clean;
}

pub returns-clause-uses : goal.returns-clause-uses
returns-clause-uses g c =
    c.loop-number.invariant.uses ∙ ap (λ front. named_more front (λ _. 0)) (take_all c.loop-number.number-index c.args.numbers.now (omega arith)) ∙ named_from_none c.args.numbers.now

pub loop-number-preserved : goal.loop-number-preserved
loop-number-preserved g c =
    let i = c.loop-number.number-index in
    let xs = c.args.numbers.now in
    let number = get_or xs i 0 in
    let was = c.loop-number.invariant in
    record {
      uses = c.in_ok-load.ensures.uses ∙ ap (named_more (number ∷ [])) was.uses ∙ named_more-append (take i xs) (number ∷ []) (λ _. 0)
          ∙ ap (λ front. named_more front (λ _. 0)) (sym (take_more xs i 0 c.loop-number-test.true));
      listed = c.in_ok-load.ensures.listed was.listed;
      stored = λ clean. subst (AreStored (contents_of c.load.new.loaded.memory)) was.seen
          (c.in_ok-load.ensures.stored clean (subst (AreStored (contents_of c.loop-number.loaded.memory)) (sym was.seen) (was.stored (c.load.ensures.clean clean))));
      size = λ clean. was.size (c.load.ensures.clean clean);
      seen = c.load.ensures.seen ∙ was.seen;
      usable = c.load.ensures.usable;
      clean = λ clean. was.clean (c.load.ensures.clean clean);
    }
