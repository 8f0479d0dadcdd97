-- Words of the code that makes new tables.
use Rattle.std.specs.Prelude.{◌≡◌}
use Rattle.toml_names.specs.model.Addresses.{Address, child}
use Rattle.toml_edits.specs.declared.making.ElementPlace.{ElementPlace}
use Rattle.toml_edits.specs.Faults.{IsElementOf}

-- the address is that of the element, and its array's is the one of the name
pub record IsPlaceOf (at : Address) (p : ElementPlace) : Type 0 where
  pub whole : IsElementOf at p.above.now p.name.now p.index
  pub array : p.array.now ≡ child p.above.now p.name.now
