-- What is answered of a head that was admitted up to its routing.
use Rattle.std.proofs.Common.{◌≡◌, ℕ, Result, Ok, Err, IsOk, IsErrAnd, inl, inr, refl, sym, subst}
use Rattle.s3_config.specs.Settings.{Settings}
use Rattle.s3_terms.specs.declared.code.Code.{Code}
use Rattle.s3_terms.proofs.FaultLemmas.{stage_ok}
use Rattle.s3_http_heads.specs.Head.{HeadParts}
use Rattle.s3_http_heads.specs.BodyLength.{framing_of}
use Rattle.s3_http_heads.specs.declared.body_length.BodyFraming.{BodyFraming}
use Rattle.s3_signing.specs.Verdict.{Checked, Proved, checked_head, head_verdict}
use Rattle.s3_framed_bodies.specs.Framed.{framed_body}
use Rattle.s3_framed_bodies.specs.Reader.{Begins}
use Rattle.s3_framed_bodies.specs.declared.reader.BodyReader.{BodyReader}
use Rattle.s3_requests.specs.declared.routing.Plan.{Plan}
use Rattle.s3_requests.specs.Memory.{FollowsWhere, RouteTakes}
use Rattle.s3_requests.specs.Routing.{route_of}
use Rattle.s3_session.specs.declared.admission.Admission.{Admission}
use Rattle.s3_session.specs.Admission.{Asked, admission_of}
use Rattle.s3_session.specs.Admitting.{Admits, early_admission}
use Rattle.s3_session.proofs.SoundLemmas.{announced_framing}

-- a rule that gives a value refuses nothing
pub given_ok : {A : Type 0} (rule : Result A Code) (value : A) → rule ≡ Ok value → IsOk rule
given_ok rule value is = rw is refl

-- what is answered with a code is so where that is handed on
pub admits_code : (early : Result Checked Code) (rule : Result Asked Code) (result : Result Admission Code) (code : Code)
    → IsErrAnd result (λ e. e ≡ code) → Admits early (Err code) rule → Admits early result rule
admits_code early rule (Ok admission) code never told = absurd never
admits_code early rule (Err e) code same told = subst (λ c. Admits early (Err c) rule) (sym same) told

module _ (settings : Settings) (head : HeadParts) (moment : ℕ) (framing : BodyFraming) (proved : Proved)
    (framed : framing_of settings.dialect head settings.body_limit ≡ Ok framing) (verified : head_verdict settings head moment ≡ Ok proved) where
  early_ok : IsOk (early_admission settings head moment)
  unfolding early_admission head_verdict
  early_ok = let checked = stage_ok (checked_head settings head moment) _ proved verified in rw framed (given_ok _ checked.0 checked.1)

  -- it is routed too
  pub admits_asked : (reader : BodyReader) (plan : Plan) → Begins (framed_body settings head framing proved) (Ok reader) → route_of settings head ≡ Ok plan
      → Admits (early_admission settings head moment) (Ok (record { framing = framing; reader = reader; plan = plan })) (admission_of settings head moment)
  unfolding admission_of
  admits_asked reader plan (announced, at, stands) routed =
      (early_ok, rw (framed, verified, at, routed) (stands, refl, sym (announced_framing settings head framing proved announced at)))

  -- or its routing refuses it
  pub admits_unrouted : (reader : BodyReader) (code : Code) → Begins (framed_body settings head framing proved) (Ok reader)
      → FollowsWhere {A = Plan} (RouteTakes settings.dialect head) (Err code) (route_of settings head) → Admits (early_admission settings head moment) (Err code) (admission_of settings head moment)
  unfolding admission_of
  admits_unrouted reader code (announced, at, stands) (inl lost) = inl (lost.0, early_ok)
  admits_unrouted reader code (announced, at, stands) (inr refused) = inr (rw (framed, verified, at, refused) refl)
