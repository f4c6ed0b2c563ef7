-- What a head that carries its signer's authorization proves to a server (AWS Signature Version 4,
-- "Add the signature to the request").
use Rattle.std.specs.Prelude.{◌≡◌, ℕ, true, false, not, List, [], ◌∷◌, filter, length, codes, Some, Ok}
use Rattle.std.specs.List.{list_all}
use Rattle.httparse.specs.Grammar.{is_token}
use Rattle.s3_config.specs.Settings.{Settings, are_settings, secret_of}
use Rattle.s3_calendar.specs.Moment.{stamp_seconds, stamp_date}
use Rattle.s3_http_heads.specs.Head.{HeadParts, is_named, is_sent, values_of}
use Rattle.s3_http_heads.specs.Target.{is_unreadable, target_parts}
use Rattle.s3_signing.specs.Key.{signing_key}
use Rattle.s3_signing.specs.Authorize.{signature_to_write}
use Rattle.s3_signing.specs.Cover.{sent_names}
use Rattle.s3_signing.specs.Presigned.{is_presigned}
use Rattle.s3_signing.specs.Verdict.{Proved, is_near, is_word, sent_stamp, sent_word, word_lines, head_verdict}

-- a server of these settings has this access key, and stands in this region
pub record Knows (settings : Settings) (id secret region : List ℕ) : Type 0 where
  pub limits : are_settings settings ≡ true
  pub key : secret_of settings.keys id ≡ Some secret
  pub place : settings.region ≡ region

-- all but the signature's own line is as it has to be: names of the grammar, a target that can be read
-- and carries no signature, one line with this stamp, one with a word for the body, and a host
pub record IsReady (head : HeadParts) (stamp : List ℕ) : Type 0 where
  pub names : list_all is_token (sent_names head) ≡ true
  pub readable : is_unreadable head.target ≡ false
  pub unsigned_query : is_presigned (target_parts head.target) ≡ false
  pub stamped : sent_stamp head ≡ Some stamp
  pub one_word : length (word_lines head) ≡ 1
  pub word : is_word (sent_word head) ≡ true
  pub host : is_sent (codes "host") head ≡ true

-- the header lines but those of Authorization
abbrev pub other_lines : HeadParts → List (List ℕ × List ℕ)
other_lines head = filter (λ line. not (is_named (codes "authorization") line)) head.headers

-- a head with the method, the target and the other lines of another one, and with one Authorization
-- line, of this value
pub record Carries (head : HeadParts) (value : List ℕ) (signed : HeadParts) : Type 0 where
  pub method : signed.method ≡ head.method
  pub target : signed.target ≡ head.target
  pub lines : other_lines signed ≡ other_lines head
  pub own : values_of (codes "authorization") signed ≡ value ∷ []

-- what it proves: the stamp, the region, the key of the day, the signature, and the word for its body
abbrev pub proved_by : List ℕ → List ℕ → HeadParts → List ℕ → Proved
proved_by secret region head stamp = record {
  stamp = stamp;
  region = region;
  key = signing_key secret (stamp_date stamp) region;
  seed = signature_to_write secret region head stamp;
  word = sent_word head;
}

-- a head with this value, sent within the limits of the clock to a server that knows the signer, is
-- verified
abbrev pub IsVerifiedWith : List ℕ → List ℕ → List ℕ → HeadParts → List ℕ → List ℕ → Type 0
IsVerifiedWith id secret region head stamp value =
    (settings : Settings) (moment : ℕ) (signed : HeadParts)
    → Knows settings id secret region → IsReady head stamp → is_near (stamp_seconds stamp) moment ≡ true
    → Carries head value signed
    → head_verdict settings signed moment ≡ Ok (proved_by secret region head stamp)
