-- Known bytes that grow by one part of a text after another.
use Rattle.std.proofs.Common.{◌+◌, ◌-◌, ℕ, List, ◌++◌, length, take, drop, Option, None, Some}
use Rattle.std.proofs.Common.{ap, ◌∙◌, append_assoc}
use Rattle.std.proofs.Math.Seq.{take-add}
use Rattle.std.proofs.lemmas.List.{take_rest}
use Rattle.std.specs.Io.KnownBytes.{Appends}

-- one part, and then another
pub Appends-append : (old mid new : Option (List ℕ)) (xs ys : List ℕ) → Appends old mid xs
    → Appends mid new ys → Appends old new (xs ++ ys)
Appends-append None mid new xs ys first second = tt
Appends-append (Some os) None new xs ys first second = absurd first
Appends-append (Some os) (Some ms) None xs ys first second = absurd second
Appends-append (Some os) (Some ms) (Some ns) xs ys first second =
    second ∙ (ap (λ zs. zs ++ ys) first ∙ append_assoc os xs ys)

-- the first `written` bytes, and then the first `taken` of the rest
pub Appends-take : (old mid new : Option (List ℕ)) (bytes : List ℕ) (written taken : ℕ)
    → Appends old mid (take written bytes)
    → Appends mid new (take taken (take (length bytes - written) (drop written bytes)))
    → Appends old new (take (written + taken) bytes)
Appends-take old mid new bytes written taken first second =
    rw take-add (Appends-append old mid new _ _ first (rw (take_rest bytes written) at second))
