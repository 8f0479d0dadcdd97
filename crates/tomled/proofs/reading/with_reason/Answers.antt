use Rattle.tomled.proofs.Reasons.{reason_is}
use Rattle.tomled.proofs.reading.with_reason.Goals as goal

pub returns : goal.returns
returns c = reason_is _ _ _ _ _ _ c.in_ok-push_str.ensures.bytes c.in_ok-push_str-2.ensures.bytes c.in_ok-push_str-3.ensures.bytes
