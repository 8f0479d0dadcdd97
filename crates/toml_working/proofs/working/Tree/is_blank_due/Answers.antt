use Rattle.std.proofs.Common.{◌≡◌, ◌&&◌, ◌∙◌, [], not, true, refl, ap, ap₂, sym, subst}
use Rattle.toml_text.specs.Source.{text_of}
use Rattle.toml_working.specs.Following.{may_write_blank}
use Rattle.toml_working.specs.FollowingHeaders.{is_close}
use Rattle.toml_working.specs.Placing.{lines_before}
use Rattle.toml_working.specs.PuttingHeaders.{FindsEnd}
use Rattle.toml_working.specs.Starting.{read_of}
use Rattle.toml_working.proofs.FollowedEnd.{no_parting, parting}
use Rattle.toml_working.proofs.working.Tree.is_blank_due.Goals as goal

pub returns-then-not-has_no_bytes : goal.returns-then-not-has_no_bytes
returns-then-not-has_no_bytes c ss stands =
    let read = read_of c.args.before in
    let tree = c.args.self.now in
    no_parting (text_of tree.texts.source) read tree.slots.items c.in-Some.last c.has_no_bytes.result
    (subst (FindsEnd tree.slots.items) c.in-Some.is c.last_line.ensures read) c.has_no_bytes.ensures (may_write_blank tree) ss stands c.if-not-has_no_bytes.true

pub returns-then-not-branch : goal.returns-then-not-branch
returns-then-not-branch c ss stands =
    let read = read_of c.args.before in
    let tree = c.args.self.now in
    let last = c.in-Some.last in
    let may : may_write_blank tree ≡ true = sym c.may_write_blank.ensures ∙ c.if-not-may_write_blank.false in
    let close = is_close [] (lines_before read tree.slots.items last.slot last.index) in
    sym (parting (text_of tree.texts.source) read tree.slots.items last c.has_no_bytes.result (subst (FindsEnd tree.slots.items) c.in-Some.is c.last_line.ensures read)
    c.has_no_bytes.ensures (may_write_blank tree) ss stands c.in_ok-ends_filled.field-0 close c.in_ok-ends_filled.ensures refl
    ∙ ap₂ (λ m x. m && (x && (c.in_ok-ends_filled.field-0 && not close))) may c.if-not-has_no_bytes.false
    ∙ ap (λ f. f && not close) c.if-not-branch.true)

pub returns : goal.returns
returns c ss stands =
    let read = read_of c.args.before in
    let tree = c.args.self.now in
    let last = c.in-Some.last in
    let may : may_write_blank tree ≡ true = sym c.may_write_blank.ensures ∙ c.if-not-may_write_blank.false in
    let close = c.in_ok-is_close.field-0 in
    sym (parting (text_of tree.texts.source) read tree.slots.items last c.has_no_bytes.result (subst (FindsEnd tree.slots.items) c.in-Some.is c.last_line.ensures read)
    c.has_no_bytes.ensures (may_write_blank tree) ss stands c.in_ok-ends_filled.field-0 close c.in_ok-ends_filled.ensures c.in_ok-is_close.ensures
    ∙ ap₂ (λ m x. m && (x && (c.in_ok-ends_filled.field-0 && not close))) may c.if-not-has_no_bytes.false
    ∙ ap (λ f. f && not close) c.if-not-branch.false)
