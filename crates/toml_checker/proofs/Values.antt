-- Edits without a fault have values that are not refused.
use Rattle.toml_tree.specs.declared.profile.Profile.{Profile}
use Rattle.toml_names.specs.model.Data.{Kinds}
use Rattle.toml_edits.specs.declared.fault.EditFault.TheVariants.{BadValue}
use Rattle.toml_edits.specs.Edits.{Change, set, insert, rename, remove, new_section, new_element}
use Rattle.toml_edits.specs.Faults.{IsFault}
use Rattle.toml_edits.specs.Lists.{Lead}
use Rattle.std.proofs.Common.{List, [], ◌∷◌, None}
use Rattle.toml_checker.specs.WrittenComments.{HasValue, HaveValues}

value_of : (profile : Profile) (c : Change) (old : Kinds) → IsFault profile c old None → HasValue profile c
value_of profile (set at value) old h = h BadValue
value_of profile (insert at value) old h = h BadValue
value_of profile (rename at to) old h = tt
value_of profile (remove at) old h = tt
value_of profile (new_section at) old h = tt
value_of profile (new_element at) old h = tt

pub values_of : (profile : Profile) (cs : List Change) (old new : Kinds) → Lead profile cs old new → HaveValues profile cs
values_of profile [] old new h = tt
values_of profile (c ∷ cs) old new (fine, mid, is, rest) = (value_of profile c old fine, values_of profile cs mid new rest)
