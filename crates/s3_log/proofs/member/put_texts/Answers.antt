use Rattle.std.proofs.Common.{refl}
use Rattle.s3_log.proofs.RoomLemmas.{keeps_all, kept_behind, ok_behind, whatever_kept}
use Rattle.s3_log.proofs.member.put_texts.Goals as goal

pub returns : goal.returns
returns c = record {
  put = ok_behind c.put_text-2.result _ c.put_text-2.new.room c.in_ok-behind.ensures.put refl c.put_text-2.ensures.put;
  kept = kept_behind c.put_text-2.result c.put_text-2.new.room c.in_ok-behind.ensures.put c.put_text-2.ensures.same;
}

pub returns-in_err-behind-clause-kept : goal.returns-in_err-behind-clause-kept
returns-in_err-behind-clause-kept c = whatever_kept c.from_residual.result (keeps_all c.in_err-behind.ensures.same)
