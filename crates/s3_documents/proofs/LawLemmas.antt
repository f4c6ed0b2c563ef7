-- A moment has one text.
use Rattle.std.proofs.Common.{refl}
use Rattle.s3_calendar.specs.Moment.{OneStampForEachMoment, stamp_seconds}
use Rattle.s3_documents.specs.Laws.{TimestampsSpellStamps}
use Rattle.s3_documents.proofs.CalendarLemmas.{timestamp_is}

pub timestamps_spell : OneStampForEachMoment → TimestampsSpellStamps
timestamps_spell one stamp valid bound = timestamp_is one (stamp_seconds stamp) stamp bound valid refl
