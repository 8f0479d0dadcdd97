use Rattle.std.proofs.Common.{Bool, sym, ◌∙◌, subst}
use Rattle.std.specs.Prelude.{IsTrue, ◌↔◌}
use Rattle.toml_names.specs.reader.Parts.{part_kinds}
use Rattle.toml_one.specs.Wishes.{IsNewMember, PutsIn}
use Rattle.toml_one.proofs.Members.{member_puts}
use Rattle.toml_one.proofs.Standing.{if_ok}
use Rattle.toml_one.proofs.wish.puts_in.Goals as goal

pub returns-in-Some : goal.returns-in-Some
returns-in-Some c =
    let kinds = part_kinds c.args.names.now 0 in
    let place = c.args.place.now in
    let other = sym c.ends_behind.ensures ∙ c.if-ends_behind.false in
    if_ok (λ (r : Bool). IsTrue r ↔ IsNewMember kinds c.steps.result.now) (λ (r : Bool). IsTrue r ↔ PutsIn kinds place c.args.found.now) c.is_new_member.result
    (λ r member. member_puts kinds place c.args.found.now c.in-Some.at r c.in-Some.is other (subst (λ a. IsTrue r ↔ IsNewMember kinds a) c.steps.ensures member)) c.is_new_member.ensures
