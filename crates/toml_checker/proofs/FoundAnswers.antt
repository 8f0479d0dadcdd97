-- Where there is a certificate it is found.
use Rattle.std.proofs.Common.{refl}
use Rattle.toml_checker.specs.declared.finding.Finding.TheVariants as answers
use Rattle.toml_checker.specs.Answers.{CertifiedIsFound}
use Rattle.toml_checker.proofs.FindingLaws.{unmet_is_none}

pub certified_is_found : CertifiedIsFound
certified_is_found profile before after cs ps (answers.Found c) of_protected certified h = (c, refl)
certified_is_found profile before after cs ps (answers.No r) of_protected certified h = absurd (unmet_is_none profile before after cs r ps h of_protected certified)
