-- The lines after a new header line are in the forms, and of the profile of which they were.
use Rattle.std.proofs.Common.{◌≡◌, ℕ, inl, inr, List, [], ◌∷◌, ◌++◌, map, refl, sym, subst}
use Rattle.toml_text.specs.Forms.{IsNewline, IsWs}
use Rattle.toml_scalar.proofs.Proved.{spelled_names}
use Rattle.toml_tree.specs.Profiles.{AreLinesOfProfile, ExprHasPlainTables}
use Rattle.toml_tree.specs.Spells.{EachIs, IsDotted, IsExpr, IsKey, AreLines}
use Rattle.toml_tree.specs.Tree.{Line}
use Rattle.toml_tree.specs.declared.profile.Profile.{Profile}
use Rattle.toml_tree.specs.declared.profile.Profile.TheVariants.{One, Two}
use Rattle.toml_names.specs.mentions.Keys.{Key}
use Rattle.toml_names.specs.mentions.Mentions.{named}
use Rattle.toml_names.specs.model.Addresses.{Address}
use Rattle.toml_layout.specs.declared.tree.Brackets.{Brackets}
use Rattle.toml_layout.specs.declared.tree.Brackets.TheVariants as brackets
use Rattle.toml_working.specs.FreshKeys.{dotted_name, key_named}
use Rattle.toml_working.specs.Heading.{header_expr, header_line}
use Rattle.toml_working.specs.Headers.{names_of}
use Rattle.toml_working.specs.Removing.{empty_line}
use Rattle.toml_editor.proofs.Each.{each_append, each_front, each_back}
use Rattle.toml_editor.proofs.written.Formed.{line_before}
use Rattle.toml_editor.proofs.written.FreshKeys.{HasNames}
use Rattle.toml_editor.proofs.written.HeaderNamed.{header_names_some}
use Rattle.toml_editor.proofs.written.HeaderPut.{IsHeaderPut, ended}
use Rattle.toml_editor.proofs.written.InsertSpaced.{first_formed}

-- ---- forms

parts_formed : (ns : Key) → EachIs IsDotted (map dotted_name ns)
parts_formed [] = tt
parts_formed (n ∷ ns) = ((tt, tt, (n, spelled_names n)), parts_formed ns)

pub key_formed : (names : Key) → HasNames names → IsKey (key_named names)
key_formed names (n, ns, is) = subst (λ k. IsKey (key_named k)) (sym is) ((n, spelled_names n), parts_formed ns)

expr_formed : (b : Brackets) (p : Address) (ws : List ℕ) → IsWs ws → IsKey (key_named (names_of p)) → IsExpr (header_expr b p ws)
expr_formed brackets.One p ws spaced key = (spaced, (tt, key, tt), (tt, tt))
expr_formed brackets.Two p ws spaced key = (spaced, (tt, key, tt), (tt, tt))

module _ (b : Brackets) (p : Address) (style ws : List ℕ) (formed : IsExpr (header_expr b p ws)) (newline : IsNewline style) where
  -- before some lines
  before_formed : (front back : List Line) → ¬ (back ≡ []) → AreLines (front ++ back) → AreLines (front ++ header_line b p ws style ∷ back)
  before_formed [] back some is = line_before (header_line b p ws style) back formed newline is
  before_formed (m ∷ front) [] some is = absurd (some refl)
  before_formed (m ∷ front) (l ∷ back) some is =
      let (own, ends, rest) = first_formed m front back l is in
      line_before m (front ++ header_line b p ws style ∷ l ∷ back) own ends (before_formed front (l ∷ back) some rest)

  -- behind the last one, which gets a newline
  last_formed : (before : List Line) (last : Line) (new : List Line) → AreLines new → AreLines (before ++ last ∷ []) → AreLines (before ++ ended style last ∷ new)
  last_formed [] last new are is = line_before (ended style last) new is.0 newline are
  last_formed (m ∷ before) last new are is =
      let (own, ends, rest) = first_formed m before [] last is in
      line_before m (before ++ ended style last ∷ new) own ends (last_formed before last new are rest)

-- The new lines are in the forms.
pub header_forms : (b : Brackets) (p : Address) (style : List ℕ) (old new : List Line) → IsHeaderPut b p style old new → AreLines old → IsNewline style → AreLines new
header_forms b p style old new put is newline =
    let names = header_names_some b p put.ws (named put.front) put.leads in
    let formed = expr_formed b p put.ws (put.spaced is) (key_formed (names_of p) names.0) in
    elim put.put [
      | inl at ↦ subst AreLines (sym at.is) (before_formed b p style put.ws formed newline put.front put.back at.some (subst AreLines at.was is))
      | inr (inl at) ↦
          subst AreLines (sym at.is)
          (last_formed b p style put.ws formed newline at.before at.last (header_line b p put.ws [] ∷ []) (formed, refl) (subst AreLines at.was is))
      | inr (inr at) ↦
          subst AreLines (sym at.is)
          (last_formed b p style put.ws formed newline at.before at.last (header_line b p put.ws style ∷ empty_line ∷ []) (formed, newline, ((tt, tt), refl))
          (subst AreLines at.was is))
    ]

-- ---- profiles

abbrev IsPlain : Line → Type 0
IsPlain l = ExprHasPlainTables l.expr

pub header_plain : (b : Brackets) (p : Address) (style : List ℕ) (old new : List Line) → IsHeaderPut b p style old new → EachIs IsPlain old → EachIs IsPlain new
header_plain b p style old new put is = elim put.put [
  | inl at ↦
      let parts = subst (EachIs IsPlain) at.was is in
      subst (EachIs IsPlain) (sym at.is)
      (each_append IsPlain put.front _ (each_front IsPlain put.front put.back parts) (header b, each_back IsPlain put.front put.back parts))
  | inr (inl at) ↦ subst (EachIs IsPlain) (sym at.is) (behind at.before at.last (header_line b p put.ws [] ∷ []) (header b, tt) (subst (EachIs IsPlain) at.was is))
  | inr (inr at) ↦
      subst (EachIs IsPlain) (sym at.is)
      (behind at.before at.last (header_line b p put.ws style ∷ empty_line ∷ []) (header b, (tt, tt)) (subst (EachIs IsPlain) at.was is))
]
  where
    header : (b : Brackets) → ExprHasPlainTables (header_expr b p put.ws)
    header brackets.One = tt
    header brackets.Two = tt

    behind : (before : List Line) (last : Line) (rest : List Line) → EachIs IsPlain rest → EachIs IsPlain (before ++ last ∷ [])
        → EachIs IsPlain (before ++ ended style last ∷ rest)
    behind before last rest are parts =
        each_append IsPlain before (ended style last ∷ rest) (each_front IsPlain before (last ∷ []) parts) ((each_back IsPlain before (last ∷ []) parts).0, are)

-- The new lines are of each profile of which the old ones are.
pub header_of_profile : (profile : Profile) (b : Brackets) (p : Address) (style : List ℕ) (old new : List Line) → IsHeaderPut b p style old new
    → AreLinesOfProfile profile old → AreLinesOfProfile profile new
header_of_profile One b p style old new put is = header_plain b p style old new put is
header_of_profile Two b p style old new put is = tt
