use Rattle.std.proofs.Common.{◌≡◌, ◌+◌, Some, length, sym, ap, ◌∙◌, subst, [], ◌∷◌, arith}
use Rattle.std.proofs.lemmas.Result.{on_ok_weaker}
use Rattle.toml_text.specs.declared.span.Span.{Span}
use Rattle.toml_tree.specs.View.{piece}
use Rattle.toml_mentions.specs.Sought.{Sees, Sight, part_at, role_of, seen_of, sight_of, span_of, way_to}
use Rattle.toml_mentions.proofs.Sights.{same_span, sees_none, sights_apart, sights_here}
use Rattle.toml_mentions.proofs.Ways.{is_here, not_here, off_apart}
use Rattle.toml_mentions.proofs.seeker.Seeker.mention.Goals as goal

pub returns-in_default : goal.returns-in_default
returns-in_default c = λ at h.
    let s = c.args.self.now in
    let p = part_at (role_of c.args.role) at (piece c.args.part) in
    subst (Sees s s) (sym (sights_apart s.target.now p (off_apart s.target.now at (sym c.in_default.is ∙ h)))) (sees_none s)

pub returns-then-depth-self : goal.returns-then-depth-self
returns-then-depth-self c = λ at h.
    let s = c.args.self.now in
    let t = s.target.now in
    let p = part_at (role_of c.args.role) at (piece c.args.part) in
    let other : ¬ (Some (length t) ≡ way_to t at) =
    λ (e : Some (length t) ≡ way_to t at).
    let same : Some (length t) ≡ Some c.in-Some.depth = e ∙ (sym h ∙ c.in-Some.is) in
    c.if-depth-self.true (sym cc) in
    subst (Sees s s) (sym (sights_apart t p (not_here t at other))) (sees_none s)

pub returns : goal.returns
returns c = λ at h.
    let s = c.args.self.now in
    let t = s.target.now in
    let p = part_at (role_of c.args.role) at (piece c.args.part) in
    let here : Some (length t) ≡ way_to t at = ap (λ n. Some n) (sym c.if-depth-self.false) ∙ (sym c.in-Some.is ∙ h) in
    let span : c.span-span.result ≡ span_of (piece c.args.part) = same_span c.span-span.result c.args.part.start (c.args.part.start + length c.args.part.text.now) c.span-span.ensures.start c.span-span.ensures.end in
    let sight : seen_of (record { role = c.args.role; span = c.span-span.result }) ≡ sight_of p = ap (λ (x : Span). let r : Sight = record { role = role_of c.args.role; span = x } in r) span in
    on_ok_weaker c.see.result (subst (λ l. Sees s c.see.new.self l) (ap (λ x. x ∷ []) sight ∙ sym (sights_here t p (is_here t at here)))) c.see.ensures
