use Rattle.std.proofs.Common.{inl, refl}
use Rattle.toml_text.specs.Source.{text_of}
use Rattle.toml_names.proofs.Proved.{refused_text}
use Rattle.toml_checker.proofs.judging.refuse.Goals as goal

pub returns-in_ok-told-in-Err : goal.returns-in_ok-told-in-Err
returns-in_ok-told-in-Err c = inl (refl, refused_text c.args.profile (text_of c.args.source) c.in-Err.fault c.in_ok-told-in-Err.ensures.says c.in-Err.ensures.refused)
