-- What `certify` answers.
use Rattle.std.specs.Prelude.{◌≡◌, ◌⊎◌, ◌<◌, ◌^◌, ℕ, List, [], ◌∷◌, codes, length}
use Rattle.toml_tree.specs.declared.profile.Profile.{Profile}
use Rattle.toml_edits.specs.EditList.{IsEditList}
use Rattle.toml_edits.specs.Edits.{Change}
use Rattle.toml_units.specs.Certificates.{certificate_of}
use Rattle.toml_checker.specs.Findings.{IsCertificate, IsFirstUnmet}
use Rattle.toml_checker.specs.declared.verdict.Reason.{Reason}
use Rattle.toml_layout.specs.declared.layout.Layout.TheVariants.{Plain}
use Rattle.toml_commands.specs.Edit.{AreEdited}
use Rattle.toml_commands.specs.EditLists.{IsListRefusal}
use Rattle.toml_delivery.specs.Outcomes.{Gives, Tells, texts_of}
use Rattle.toml_commands.specs.Verify.{HasHeadline, IsReasonRefusal}
use Rattle.toml_delivery.specs.declared.outcome.Answer.{Answer}
use Rattle.toml_delivery.specs.declared.outcome.Outcome.{Outcome}
use Rattle.toml_delivery.specs.declared.refusal.Refusal.{Refusal}

-- the bytes are the list of some edits, and the certificate shows that the one text is what these make of the other: the first numbers
-- of its pairs are those of the units that no edit takes away or changes and that lie in no other such unit, and no others
pub record IsCertified (profile : Profile) (before edits after certificate : List ℕ) : Type 0 where
  pub changes : List Change
  pub listed : IsEditList edits changes
  pub pairs : List (ℕ × ℕ)
  pub shown : IsCertificate profile before changes after pairs
  pub written : certificate ≡ certificate_of pairs

-- the bytes are the list of some edits, and the reason's demand is the first that no certificate of units that these edits leave
-- meets with those before it
pub record LacksCertificate (profile : Profile) (before edits after : List ℕ) (r : Refusal) : Type 0 where
  pub changes : List Change
  pub listed : IsEditList edits changes
  pub reason : Reason
  pub first : IsFirstUnmet profile before changes after reason
  pub told : IsReasonRefusal reason r

-- the edit list is judged first, and then the demands
abbrev pub IsUncertified : Profile → List ℕ → List ℕ → List ℕ → Refusal → Type 0
IsUncertified profile before edits after r = IsListRefusal edits r ⊎ LacksCertificate profile before edits after r

-- the answer is `yes` and LF, and a certificate as the one file
abbrev pub IsCertifying : Profile → List ℕ → List ℕ → List ℕ → Answer → Type 0
IsCertifying profile before edits after a =
    (a.out.items ≡ codes "yes\n") × (certificate : List ℕ) × (texts_of a.files.items ≡ certificate ∷ [])
    × IsCertified profile before edits after certificate

-- `yes` and LF, and a certificate as the one file, exactly where there is one; else the refusal, and no file
abbrev pub Certifies : Profile → List ℕ → List ℕ → List ℕ → Outcome → Type 0
Certifies profile before edits after o =
    ((certificate : List ℕ) × IsCertified profile before edits after certificate × Gives (codes "yes\n") (certificate ∷ []) o)
    ⊎ (((certificate : List ℕ) → ¬ IsCertified profile before edits after certificate) × (r : Refusal) × IsUncertified profile before edits after r × Tells r o)

-- what an answer with a certificate means: the headline, with the pairs of its one file
abbrev pub FoundMeans : Profile → List ℕ → List ℕ → List ℕ → Answer → Type 0
FoundMeans profile before edits after a = HasHeadline profile before edits after (λ pairs. texts_of a.files.items ≡ certificate_of pairs ∷ [])

-- and what `yes` of `certify` means
abbrev pub CertifiedMeans : Profile → List ℕ → List ℕ → List ℕ → Outcome → Type 0
CertifiedMeans profile before edits after o = o.status ≡ 0 → HasHeadline profile before edits after (λ pairs. texts_of o.files.items ≡ certificate_of pairs ∷ [])

-- Law: of what `edit` writes the answer is `yes`, and the file is the certificate that `edit` writes beside it. A list has fewer
-- edits than a machine can count.
abbrev pub EditedIsCertified : Type 0
EditedIsCertified = (profile : Profile) (before edits text certificate : List ℕ) → ((cs : List Change) → IsEditList edits cs → length cs < 2 ^ 63)
    → AreEdited Plain profile before edits text certificate → (o : Outcome) → Certifies profile before edits text o → Gives (codes "yes\n") (certificate ∷ []) o
