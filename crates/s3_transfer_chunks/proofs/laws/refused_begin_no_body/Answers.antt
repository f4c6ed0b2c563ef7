use Rattle.s3_terms.specs.declared.code.Code.TheVariants.{EntityTooLarge}
use Rattle.s3_transfer_chunks.proofs.AcceptLemmas.{large_size, refused_reason}
use Rattle.s3_transfer_chunks.proofs.WholeLemmas.{misspelled_none, refused_large}
use Rattle.s3_transfer_chunks.proofs.laws.refused_begin_no_body.Goals as goal

pub returns : goal.returns
returns c = record {
  misspelled = misspelled_none;
  sizes = large_size;
  large = λ limit bytes place is rest held body. refused_large limit bytes place EntityTooLarge is rest held body;
  reasons = refused_reason;
}
