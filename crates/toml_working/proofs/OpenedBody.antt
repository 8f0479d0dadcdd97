-- What stands on a line is opened, by the lines of the document.
use Rattle.std.proofs.Common.{◌≡◌, ◌∙◌, ℕ, List, Option, Some, None, refl, ap, sym, subst, rules, Bor}
use Rattle.std.specs.Global.{Box}
use Rattle.std.specs.Option.{option_copied}
use Rattle.std.specs.Slice.{IsGetResult}
use Rattle.std.specs.Prelude.{option_map, slice_get, MatchOption}
use Rattle.std.proofs.lemmas.Option.{slice_get-map, slice_get_past, slice_get-get_or}
use Rattle.toml_text.specs.Source.{text_of}
use Rattle.toml_layout.specs.KnownLines.{known_line, lines_known}
use Rattle.toml_layout.specs.declared.known.KnownLine.{KnownLine}
use Rattle.toml_working.specs.declared.lines.Body.{Body}
use Rattle.toml_working.specs.declared.lines.Body.TheVariants as bodies
use Rattle.toml_working.specs.declared.lines.Kept.{Kept}
use Rattle.toml_layout.specs.declared.texts.Texts.{Texts}
use Rattle.toml_layout.specs.declared.tree.OpenLine.{OpenLine}
use Rattle.toml_layout.specs.Opening.{LineStands}
use Rattle.toml_working.specs.OpeningLines.{OpensBody, IsOpened}
use Rattle.toml_layout.specs.OpenOutlines.{line}
use Rattle.toml_layout.specs.TreeOutlines.{line_outline}

-- what `get` of a slice answers
pub item_got : {X : Type 0} (xs : List X) (i : ℕ) (r : Option (Bor X)) → IsGetResult xs i i r → option_copied r ≡ slice_get xs i
item_got xs i r h = search (rules, slice_get_past, slice_get-get_or)

-- the document has the line
pub body_opened : (texts : Texts) (known : List KnownLine) (old : Body) (kept : Kept) (k : KnownLine) (opened : OpenLine) (b : Box OpenLine)
    → old ≡ bodies.Kept kept → Some k ≡ slice_get known kept.line → b.value ≡ opened
    → (LineStands (text_of texts.source) (known_line k) → line opened ≡ line_outline (known_line k)) → OpensBody texts (lines_known known) old (bodies.Open b)
body_opened texts known old kept k opened b is found made opens =
    let all = lines_known known in
    let there : Some (known_line k) ≡ slice_get all kept.line = ap (option_map known_line) found ∙ sym (slice_get-map known_line known kept.line) in
    let some : IsOpened texts (known_line k) (bodies.Open b) =
    (b, refl, λ lies. ap line made ∙ opens lies) in
    subst (λ body. OpensBody texts all body (bodies.Open b)) (sym is)
    (subst (λ o. MatchOption o (bodies.Open b ≡ bodies.Kept kept) (λ x. IsOpened texts x (bodies.Open b))) there some)

-- it has none
pub body_stays : (texts : Texts) (known : List KnownLine) (old : Body) (kept : Kept) → old ≡ bodies.Kept kept → None ≡ slice_get known kept.line
    → OpensBody texts (lines_known known) old old
body_stays texts known old kept is none =
    let all = lines_known known in
    let lacks : None ≡ slice_get all kept.line = ap (option_map known_line) none ∙ sym (slice_get-map known_line known kept.line) in
    subst (λ body. OpensBody texts all body body) (sym is)
    (subst (λ o. MatchOption o (bodies.Kept kept ≡ bodies.Kept kept) (λ x. IsOpened texts x (bodies.Kept kept))) lacks refl)
