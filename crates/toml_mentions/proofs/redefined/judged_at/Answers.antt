use Rattle.toml_text.specs.Source.{text_of}
use Rattle.std.proofs.Common.{None}
use Rattle.toml_mentions.proofs.Judged.{good_is_not_redefined, told_at}
use Rattle.toml_mentions.proofs.redefined.judged_at.Goals as goal

pub returns-in-Ok : goal.returns-in-Ok
returns-in-Ok c = λ lines number at are h. absurd (good_is_not_redefined c.args.profile (text_of c.args.source) c.in-Ok.ensures.good lines number at are h)

pub returns-in-Err : goal.returns-in-Err
returns-in-Err c = told_at c.args.profile (text_of c.args.source) c.in-Err.fault c.in-Err.ensures.refused c.address_told.result c.address_told.ensures.says c.address_told.ensures.address
