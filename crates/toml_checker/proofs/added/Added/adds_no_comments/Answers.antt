use Rattle.std.proofs.Common.{◌↔◌, ◌≤◌, ℕ, List, ap, ◌∙◌}
use Rattle.std.specs.List.{flat_map}
use Rattle.std.proofs.lemmas.Result.{IfOk-weaker}
use Rattle.toml_checker.specs.declared.written.Written.{Written}
use Rattle.toml_checker.specs.Comments.{times}
use Rattle.toml_checker.specs.Counts.{Text, plain, seen}
use Rattle.toml_checker.proofs.AddedComments.{counts_are}
use Rattle.toml_checker.proofs.added.Added.adds_no_comments.Goals as goal

pub returns : goal.returns
returns c =
    let ws : List Written = c.args.asked.now.written.items in
    let allowed = plain c.args.self.texts.items in
    let given = flat_map (λ (w : Written). plain w.texts.items) ws in
    let counts : (t : List ℕ) → (seen t c.deref-2.result.now ≤ seen t c.deref-3.result.now) ↔ (times t allowed ≤ times t given) =
    λ t. counts_are t c.deref-2.result.now c.deref-3.result.now allowed given (ap (λ (xs : List Text). plain xs) c.deref-2.ensures.value)
    (ap (λ (xs : List Text). plain xs) c.deref-3.ensures.value ∙ c.in_ok-given.ensures ∙ ap (λ (xs : List Written). flat_map (λ (w : Written). plain w.texts.items) xs) c.deref.ensures.value) in
    IfOk-weaker c.no_more.result _ _ (λ holds h. ((λ y. (c.if-not-self.false, λ t. (counts t).0 (h.0 y t))), (λ w. h.1 (λ t. (counts t).1 (w.1 t))))) c.no_more.ensures
