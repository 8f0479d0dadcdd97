use Rattle.std.proofs.Common.{◌≡◌, ◌∙◌, ◌∷◌, ◌++◌, ℕ, Bool, List, [], ap, arith, refl, sym, subst, true≢false}
use Rattle.std.specs.Prelude.{is_some}
use Rattle.std.specs.List.{list_any}
use Rattle.std.proofs.lemmas.Option.{same_Some}
use Rattle.std.proofs.lemmas.Result.{on_ok_weaker}
use Rattle.toml_names.specs.declared.model.address.Step.{Step}
use Rattle.toml_names.specs.declared.model.address.Step.TheVariants.{Name}
use Rattle.toml_names.specs.model.Addresses.{Address}
use Rattle.toml_layout.specs.OpenOutlines.{value}
use Rattle.toml_working.specs.Headers.{element_of}
use Rattle.toml_working.specs.HeldLines.{RefusesElement}
use Rattle.toml_working.specs.Putting.{manner}
use Rattle.toml_working.specs.Seeing.{IsHeaderPlace, IsTableLine, is_sought_line}
use Rattle.toml_working.specs.Starting.{read_of}
use Rattle.toml_working.specs.TablePlaces.{IsImpliedPlace}
use Rattle.toml_working.specs.declared.lines.Sought.TheVariants.{Dotted, Header, HeaderBelow}
use Rattle.toml_working.proofs.Answered.{if_ok_always}
use Rattle.toml_working.proofs.DottedPut.{puts_dotted}
use Rattle.toml_working.proofs.HeaderSteps.{ends_in_name}
use Rattle.toml_working.proofs.Sectioned.{puts_below}
use Rattle.toml_working.proofs.working.Tree.insert_line.Goals as goal

pub returns-in-Some-Header-clause-below : goal.returns-in-Some-Header-clause-below
returns-in-Some-Header-clause-below c =
    let it = c.args.insertion in
    let tree = c.args.self.now in
    let read = read_of c.args.before in
    let header = c.in-Some-Header.header in
    on_ok_weaker c.insert_in_section.result
    (puts_below c.args.parent.now c.in-Some.above.now c.in-Some.last.now it.at.now _ it.spelled.now (value it.new) (manner tree) tree.texts read
    header c.next.result c.unwrap_or.result tree.slots.items c.insert_in_section.new.self.slots.items c.last_of_section-last.result
    (sym c.steps.ensures ∙ c.in-Some.ensures.cases.0) refl
    c.next.ensures.slot c.next.ensures.index
    (λ headed.
    let (place, is, low) = c.in-Some-Header.ensures.header read.lines headed in (
      subst (IsTableLine c.args.parent.now read tree.slots.items) c.in-Some-Header.field-0-is (c.in-Some-Header.ensures.finds read.lines),
      subst IsHeaderPlace (sym (same_Some _ _ is) ∙ c.in-Some-Header.field-0-is) low,
    ))
    (c.last_of_section-last.ensures read.lines) c.unwrap_or.ensures)
    c.insert_in_section.ensures.put

pub returns-in-Some-Dotted-clause-dotted : goal.returns-in-Some-Dotted-clause-dotted
returns-in-Some-Dotted-clause-dotted c =
    let it = c.args.insertion in
    let tree = c.args.self.now in
    let q = c.args.parent.now in
    let read = read_of c.args.before in
    on_ok_weaker c.insert_in_section-in-Some-Dotted.result
    (puts_dotted q it.at.now it.spelled.now (value it.new) read c.in-Some-Dotted.line c.table_end-behind.result tree c.insert_in_section-in-Some-Dotted.new.self
    c.in-Some.above.now c.split_at.result.0.now c.in-Some.last.now c.base-base.result c.min.result
    (sym c.steps.ensures ∙ c.in-Some.ensures.cases.0)
    (c.base-base.ensures read.lines)
    (λ low. omega (arith, low, c.min.ensures))
    c.split_at.ensures.front
    (λ no_header dotted.
    let (place, is, low) = c.in-Some-Dotted.ensures.dotted read.lines no_header dotted in
    subst (IsTableLine q read tree.slots.items) c.in-Some-Dotted.field-0-is (c.in-Some-Dotted.ensures.finds read.lines))
    (c.table_end-behind.ensures read.lines))
    c.insert_in_section-in-Some-Dotted.ensures.put

pub returns-in-Some-Implicit-clause-implied : goal.returns-in-Some-Implicit-clause-implied
returns-in-Some-Implicit-clause-implied c =
    let tree = c.args.self.now in
    let q = c.args.parent.now in
    let read = read_of c.args.before in
    on_ok_weaker c.insert_ahead.result
    (λ puts not_root name at_is spellings ss stands ordered implied.
    let (place, is, first) = c.in-Some-Implicit.ensures.implied read.lines
    (ap (list_any (is_sought_line Header q)) stands.are ∙ implied.no_header) (ap (list_any (is_sought_line Dotted q)) stands.are ∙ implied.no_dotted)
    (ap (list_any (is_sought_line HeaderBelow q)) stands.are ∙ implied.below) in
    puts name at_is spellings ss stands
    (subst (IsTableLine q read tree.slots.items) c.in-Some-Implicit.field-0-is (c.in-Some-Implicit.ensures.finds read.lines))
    (subst (IsImpliedPlace q read tree.slots.items) (sym (same_Some _ _ is) ∙ c.in-Some-Implicit.field-0-is) first))
    c.insert_ahead.ensures.put

-- what ends in a name is no element
no_element : (at above : Address) (last : Step) (n : List ℕ) → at ≡ above ++ last ∷ [] → last ≡ Name n → (done : Bool) → RefusesElement at done
no_element at above last n is named done element =
    absurd (true≢false (sym element ∙ ap (λ a. is_some (element_of a)) (is ∙ ap (λ s. above ++ s ∷ []) named) ∙ ap is_some (ends_in_name above n)))

pub returns-in-Some-Header-clause-element : goal.returns-in-Some-Header-clause-element
returns-in-Some-Header-clause-element c =
    if_ok_always _ c.insert_in_section.result
    (no_element c.args.insertion.at.now c.in-Some.above.now c.in-Some.last.now _ (sym c.steps.ensures ∙ c.in-Some.ensures.cases.0) c.in-Name.is)

pub returns-in-Some-Dotted-clause-element : goal.returns-in-Some-Dotted-clause-element
returns-in-Some-Dotted-clause-element c =
    if_ok_always _ c.insert_in_section-in-Some-Dotted.result
    (no_element c.args.insertion.at.now c.in-Some.above.now c.in-Some.last.now _ (sym c.steps.ensures ∙ c.in-Some.ensures.cases.0) c.in-Name.is)

pub returns-in-Some-Implicit-clause-element : goal.returns-in-Some-Implicit-clause-element
returns-in-Some-Implicit-clause-element c =
    if_ok_always _ c.insert_ahead.result
    (no_element c.args.insertion.at.now c.in-Some.above.now c.in-Some.last.now _ (sym c.steps.ensures ∙ c.in-Some.ensures.cases.0) c.in-Name.is)
