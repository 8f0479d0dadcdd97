-- What the first byte tells.
use Rattle.std.proofs.Common.{[], ◌∷◌, refl}
use Rattle.std.proofs.lemmas.Bool.{false≢true}
use Rattle.toml_text.specs.Laws.{BeginsApart, BeginsWider}

pub begins_other : BeginsApart
begins_other p q [] h e = refl
begins_other p q (b ∷ bs) h e = h b e

pub begins_more : BeginsWider
begins_more p q [] h e = absurd (false≢true e)
begins_more p q (b ∷ bs) h e = h b e
