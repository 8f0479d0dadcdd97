-- Lists of edits carry no two things to one address.
use Rattle.std.proofs.Common.{◌≡◌, [], ◌∷◌, Option, Some, None, refl, sym, ap, ◌∙◌, List}
use Rattle.std.proofs.lemmas.Option.{same_Some, none-some}
use Rattle.std.specs.Prelude.{option_and_then}
use Rattle.toml_names.specs.model.Addresses.{Address}
use Rattle.toml_edits.specs.Carry.{carry}
use Rattle.toml_edits.specs.Edits.{Change}
use Rattle.toml_edits.specs.ListLaws.{ListsCarryApart}
use Rattle.toml_edits.specs.Lists.{carried}
use Rattle.toml_edits.proofs.Apart.{carried_apart}
use Rattle.toml_edits.proofs.Standing.{carried_stands}
use Rattle.toml_edits.proofs.StaysClosed.{stays_closed}

-- what is carried through a list is carried by its first edit, and from there by the others
pub through : (cs : List Change) (o : Option Address) (to : Address) → option_and_then (carried cs) o ≡ Some to → (b : Address) × (o ≡ Some b) × (carried cs b ≡ Some to)
through cs None to e = absurd (none-some to e)
through cs (Some b) to e = (b, refl, e)

pub lists_carry_apart : ListsCarryApart
lists_carry_apart profile [] old new closed lead a b to h k e f = same_Some a b (e ∙ sym f)
lists_carry_apart profile (c ∷ cs) old new closed (fault, mid, after, lead) a b to h k e f =
    let x = through cs (carry c a) to e in
    let y = through cs (carry c b) to f in
    let same : x.0 ≡ y.0 =
    lists_carry_apart profile cs mid new (stays_closed profile c old mid closed fault after) lead x.0 y.0 to (carried_stands profile c old mid fault after a x.0 x.1 h) (carried_stands profile c old mid fault after b y.0 y.1 k) x.2 y.2 in
    carried_apart profile c old closed fault a b x.0 h k x.1 (y.1 ∙ ap Some (sym same))
