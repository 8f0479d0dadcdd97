-- The text of a certificate of kept units.
use Rattle.std.specs.Prelude.{◌≡◌, ◌<◌, ◌^◌, ℕ, List, [], ◌∷◌, ◌++◌, codes}
use Rattle.toml_tree.specs.Spells.{EachIs}
use Rattle.toml_units.specs.declared.fault.CertificateFault.{CertificateFault}
use Rattle.toml_units.specs.declared.fault.CertificateFault.TheVariants as faults
use Rattle.toml_units.specs.Decimals.{number_text}

-- the place of a unit and that of its partner, in a line of their own
abbrev pub pair_text : (ℕ × ℕ) → List ℕ
pair_text p = number_text p.0 ++ (0x20 ∷ (number_text p.1 ++ (0x0A ∷ [])))

abbrev pub pairs_text : List (ℕ × ℕ) → List ℕ
pairs_text [] = []
pairs_text (p ∷ ps) = pair_text p ++ pairs_text ps

abbrev pub first_line : List ℕ
first_line = codes "kept 1" ++ (0x0A ∷ [])

-- `kept 1`, and then each pair in its line
abbrev pub certificate_of : List (ℕ × ℕ) → List ℕ
certificate_of ps = first_line ++ pairs_text ps

-- numbers that the code can hold
abbrev pub IsSmall : (ℕ × ℕ) → Type 0
IsSmall p = (p.0 < 2 ^ 64) × (p.1 < 2 ^ 64)

abbrev pub AreSmall : List (ℕ × ℕ) → Type 0
AreSmall = EachIs IsSmall

-- the bytes are the text of these pairs, whose numbers have at most 64 bits
abbrev pub IsCertificate : List ℕ → List (ℕ × ℕ) → Type 0
IsCertificate bytes ps = AreSmall ps × (bytes ≡ certificate_of ps)

-- a refusal says that the bytes are no text of a certificate; want of memory says nothing of them
abbrev pub RefusesCertificate : List ℕ → CertificateFault → Type 0
RefusesCertificate bytes faults.BadCertificate = (ps : List (ℕ × ℕ)) → ¬ IsCertificate bytes ps
RefusesCertificate bytes faults.NoMemory = Unit {0}

-- no line of a pair is at the front whose numbers the code can hold
abbrev pub BeginsWithNoPair : List ℕ → Type 0
BeginsWithNoPair bytes = (p : ℕ × ℕ) (rest : List ℕ) → p.0 < 2 ^ 64 → p.1 < 2 ^ 64 → ¬ (bytes ≡ pair_text p ++ rest)

-- Law: two certificates have two texts, whatever their numbers.
abbrev pub OneCertificate : Type 0
OneCertificate = (ps qs : List (ℕ × ℕ)) → certificate_of ps ≡ certificate_of qs → ps ≡ qs
