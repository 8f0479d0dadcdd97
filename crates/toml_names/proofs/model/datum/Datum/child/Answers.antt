use Rattle.toml_names.proofs.Common.{◌≡◌, Option, option_copied, sym, ap, ◌∙◌, slice_get, get_by_text, kind_in, Datum}
use Rattle.toml_names.proofs.lemmas.model.Levels.{array-item, table-member, item_got}
use Rattle.toml_names.proofs.model.datum.Datum.child.Goals as goal

pub returns-in-Array-Index : goal.returns-in-Array-Index
returns-in-Array-Index c = λ rest.
    let got : option_copied c.get.result ≡ slice_get c.in-Array-Index.items.items c.in-Array-Index.index = item_got _ _ _ c.get.ensures.lookup ∙ ap (λ ds. slice_get ds c.in-Array-Index.index) c.deref.ensures.value in
    rw (c.in-Array-Index.is-0, c.in-Array-Index.is-1) (ap (λ (o : Option Datum). kind_in o rest) got ∙ sym (array-item _ _ rest))

pub returns-in-Table-Name : goal.returns-in-Table-Name
returns-in-Table-Name c = λ rest.
    let got : option_copied c.get-in-Table-Name.result ≡ get_by_text c.in-Table-Name.members c.in-Table-Name.name = c.get-in-Table-Name.ensures.value ∙ ap (get_by_text c.in-Table-Name.members) c.as_str.ensures in
    rw (c.in-Table-Name.is-0, c.in-Table-Name.is-1) (ap (λ (o : Option Datum). kind_in o rest) got ∙ sym (table-member _ _ rest))
