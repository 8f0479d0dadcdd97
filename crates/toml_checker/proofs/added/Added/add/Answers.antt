use Rattle.std.proofs.Common.{◌≡◌, ◌↔◌, ◌&&◌, not, true, refl, sym, ap, subst, ◌∙◌}
use Rattle.toml_checker.specs.Added.{IsLineAsked, is_new, met_of}
use Rattle.toml_checker.specs.Comments.{is_comment}
use Rattle.toml_checker.specs.Marks.{reaches}
use Rattle.toml_checker.proofs.AddedOne.{new_one, old_one}
use Rattle.toml_checker.proofs.added.Added.add.Goals as goal

pub returns-in_ok-add_comment : goal.returns-in_ok-add_comment
returns-in_ok-add_comment c = λ ms h.
    let u = c.args.unit.now in
    let m = met_of u c.args.newline.now c.args.paired in
    let old = c.args.self.now in
    let is : is_new old.reach m ≡ true = sym (c.is_unmarked.ensures ∙ ap (λ b. is_comment u.kind && not b) (c.reaches.ensures ∙ ap (λ r. reaches r u.span.end) c.reach_with-self.ensures)) ∙ c.if-is_unmarked.true in
    new_one c.args.asked.now c.args.text.now ms m old c.add_comment.new.self h
    (subst (λ b. (b ≡ true) ↔ ((old.lines ≡ true) × IsLineAsked c.args.asked.now m)) (sym c.add_comment.ensures.lines) c.are_asked_with-self.ensures)
    (c.add_comment.ensures.reach ∙ c.reach_with-self.ensures) is c.add_comment.ensures.allowed c.in_ok-add_comment.ensures.texts

pub returns-else-is_unmarked : goal.returns-else-is_unmarked
returns-else-is_unmarked c = λ ms h.
    let u = c.args.unit.now in
    let m = met_of u c.args.newline.now c.args.paired in
    let old = c.args.self.now in
    let is = sym (c.is_unmarked.ensures ∙ ap (λ b. is_comment u.kind && not b) (c.reaches.ensures ∙ ap (λ r. reaches r u.span.end) c.reach_with-self.ensures)) ∙ c.if-is_unmarked.false in
    old_one c.args.asked.now c.args.text.now ms m old (record { lines = c.are_asked_with-self.result; reach = c.reach_with-self.result; allowed = old.allowed; texts = old.texts }) h
    c.are_asked_with-self.ensures c.reach_with-self.ensures is refl refl
