-- What `verify` answers.
use Rattle.std.specs.Prelude.{◌≡◌, ◌⊎◌, ℕ, List, codes}
use Rattle.toml_tree.specs.declared.profile.Profile.{Profile}
use Rattle.toml_edits.specs.EditList.{IsEditList}
use Rattle.toml_edits.specs.Edits.{Change}
use Rattle.toml_units.specs.Certificates.{IsCertificate}
use Rattle.toml_checker.specs.Demands.{Certified, IsVerdict}
use Rattle.toml_checker.specs.Headline.{Headline}
use Rattle.toml_checker.specs.declared.verdict.Reason.{Reason}
use Rattle.toml_checker.specs.declared.verdict.Reason.TheVariants.{BeforeRefused, AfterRefused, EditsRefused, OtherData, BadPair, Lost, Unasked, NewComment, NotTheSame}
use Rattle.toml_checker.specs.declared.verdict.Verdict.TheVariants.{No}
use Rattle.toml_commands.specs.EditLists.{IsListRefusal}
use Rattle.toml_delivery.specs.Outcomes.{Prints, Tells}
use Rattle.toml_delivery.specs.declared.outcome.Outcome.{Outcome}
use Rattle.toml_delivery.specs.declared.refusal.Refusal.{Refusal}

-- the bytes are an edit list and a certificate, and this certifies that the one text is what the edits make of the other
pub record IsVerified (profile : Profile) (before edits after cert : List ℕ) : Type 0 where
  pub changes : List Change
  pub listed : IsEditList edits changes
  pub pairs : List (ℕ × ℕ)
  pub certificate : IsCertificate cert pairs
  pub certified : Certified profile before changes after pairs

-- 330: no certificate
abbrev pub IsCertificateRefusal : List ℕ → Refusal → Type 0
IsCertificateRefusal cert r = (r.code ≡ 330) × (r.place ≡ 0) × ((pairs : List (ℕ × ℕ)) → ¬ IsCertificate cert pairs)

-- 401 to 409: the first demand that fails
abbrev pub reason_code : Reason → ℕ
reason_code BeforeRefused = 401
reason_code AfterRefused = 402
reason_code EditsRefused = 403
reason_code OtherData = 404
reason_code BadPair = 405
reason_code Lost = 406
reason_code Unasked = 407
reason_code NewComment = 408
reason_code NotTheSame = 409

abbrev pub IsReasonRefusal : Reason → Refusal → Type 0
IsReasonRefusal reason r = (r.code ≡ reason_code reason) × (r.place ≡ 0)

-- both are there, and a demand fails
pub record FailsDemand (profile : Profile) (before edits after cert : List ℕ) (r : Refusal) : Type 0 where
  pub changes : List Change
  pub listed : IsEditList edits changes
  pub pairs : List (ℕ × ℕ)
  pub certificate : IsCertificate cert pairs
  pub reason : Reason
  pub first : IsVerdict profile before changes after pairs (No reason)
  pub told : IsReasonRefusal reason r

-- the edit list is judged first, then the certificate, and then the demands
abbrev pub IsUnverified : Profile → List ℕ → List ℕ → List ℕ → List ℕ → Refusal → Type 0
IsUnverified profile before edits after cert r = IsListRefusal edits r ⊎ (((changes : List Change) × IsEditList edits changes × IsCertificateRefusal cert r) ⊎ FailsDemand profile before edits after cert r)

-- `yes` and LF exactly for what is verified, and else the refusal
abbrev pub Verifies : Profile → List ℕ → List ℕ → List ℕ → List ℕ → Outcome → Type 0
Verifies profile before edits after cert o =
    (IsVerified profile before edits after cert × Prints (codes "yes\n") o) ⊎ ((¬ IsVerified profile before edits after cert) × (r : Refusal) × IsUnverified profile before edits after cert r × Tells r o)

-- the bytes are an edit list, and the headline holds of the two texts, for its edits and for pairs that are told
pub record HasHeadline (profile : Profile) (before edits after : List ℕ) (AreTold : List (ℕ × ℕ) → Type 0) : Type 0 where
  pub changes : List Change
  pub listed : IsEditList edits changes
  pub pairs : List (ℕ × ℕ)
  pub told : AreTold pairs
  pub headline : Headline profile before changes after pairs

-- what `yes` of `verify` means: the headline, with the pairs of the certificate
abbrev pub VerifiedMeans : Profile → List ℕ → List ℕ → List ℕ → List ℕ → Outcome → Type 0
VerifiedMeans profile before edits after cert o = o.status ≡ 0 → HasHeadline profile before edits after (IsCertificate cert)
