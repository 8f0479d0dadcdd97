-- What the search for a certificate answers.
use Rattle.std.specs.Prelude.{◌≡◌, ℕ, List}
use Rattle.toml_tree.specs.declared.profile.Profile.{Profile}
use Rattle.toml_edits.specs.Edits.{Change}
use Rattle.toml_units.specs.declared.certificate.Certificate.{Certificate}
use Rattle.toml_checker.specs.declared.finding.Finding.{Finding}
use Rattle.toml_checker.specs.declared.finding.Finding.TheVariants as findings
use Rattle.toml_checker.specs.Demands.{Certified}
use Rattle.toml_checker.specs.Findings.{IsCertificate, IsFirstUnmet}
use Rattle.toml_checker.specs.Headline.{Headline}
use Rattle.toml_checker.specs.Search.{AreOfProtectedIn}

-- a certificate of the outermost protected units, or the first demand that no pairs of protected units meet with those before it
abbrev pub IsAnswer : Profile → List ℕ → List Change → List ℕ → Finding → Type 0
IsAnswer profile before cs after (findings.Found certificate) = IsCertificate profile before cs after certificate.pairs.items
IsAnswer profile before cs after (findings.No r) = IsFirstUnmet profile before cs after r

-- a certificate that is found means the headline; a reason says nothing here
abbrev pub FoundMeans : Profile → List ℕ → List Change → List ℕ → Finding → Type 0
FoundMeans profile before cs after (findings.Found certificate) = Headline profile before cs after certificate.pairs.items
FoundMeans profile before cs after (findings.No r) = Unit {0}

-- Law: where any pairs of protected units certify, the answer is a certificate.
abbrev pub CertifiedIsFound : Type 0
CertifiedIsFound = (profile : Profile) (before after : List ℕ) (cs : List Change) (ps : List (ℕ × ℕ)) (finding : Finding) → AreOfProtectedIn before cs ps → Certified profile before cs after ps → IsAnswer profile before cs after finding
    → (c : Certificate) × (finding ≡ findings.Found c)
