-- Of which text a reason of the judge is told.
use Rattle.toml_checker.specs.declared.verdict.Reason.{Reason}
use Rattle.toml_checker.specs.declared.verdict.Reason.TheVariants.{BeforeRefused, AfterRefused, EditsRefused, OtherData, BadPair, Lost, Unasked, NewComment, NotTheSame}
use Rattle.toml_explain.specs.declared.input.Input.{Input}

-- of the text before, where that or an edit of it is refused, or something of it is lost; else of the text after
abbrev pub told_of : Input → Input → Reason → Input
told_of before after BeforeRefused = before
told_of before after EditsRefused = before
told_of before after Lost = before
told_of before after AfterRefused = after
told_of before after OtherData = after
told_of before after BadPair = after
told_of before after Unasked = after
told_of before after NewComment = after
told_of before after NotTheSame = after
