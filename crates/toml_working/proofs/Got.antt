-- What `get` finds in the items of a vector.
use Rattle.std.proofs.Common.{◌≡◌, ◌∙◌, ℕ, List, Option, ap, sym}
use Rattle.std.specs.Borrow.{Bor}
use Rattle.std.specs.Option.{option_copied}
use Rattle.std.specs.Prelude.{slice_get}
use Rattle.std.specs.Slice.{IsGetResult}
use Rattle.toml_working.proofs.OpenedBody.{item_got}

pub item_found : {X : Type 0} (xs items : List X) (i : ℕ) (r o : Option (Bor X)) → xs ≡ items → IsGetResult xs i i r → r ≡ o
    → slice_get items i ≡ option_copied o
item_found xs items i r o same got is = sym (item_got xs i r got ∙ ap (λ ys. slice_get ys i) same) ∙ ap option_copied is
