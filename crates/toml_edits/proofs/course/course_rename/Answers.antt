use Rattle.std.proofs.Common.{refl}
use Rattle.toml_names.specs.declared.model.address.Step.TheVariants.{Name, Index}
use Rattle.toml_edits.proofs.Ways.{parted_of}
use Rattle.toml_edits.proofs.course.course_rename.Goals as goal

pub returns-in-Name : goal.returns-in-Name
returns-in-Name c = rw (parted_of c.args.place.now c.in-Some.parent.now c.in-Some.last.now (Name c.in-Name.name) c.in-Some.ensures.cases.0 c.in-Name.is) c.course_name.ensures

pub returns-in-Index : goal.returns-in-Index
returns-in-Index c = rw (parted_of c.args.place.now c.in-Some.parent.now c.in-Some.last.now (Index c.in-Index.field-0) c.in-Some.ensures.cases.0 c.in-Index.is) refl
