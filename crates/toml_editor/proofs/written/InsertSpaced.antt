-- The whitespace of a new line is whitespace.
use Rattle.std.proofs.Common.{◌≡◌, ℕ, ◌+◌, ◌&&◌, Bool, true, false, cond, Option, Some, None, List, [], ◌∷◌, ◌++◌, refl, sym, subst}
use Rattle.std.specs.Str.{bytes_eq}
use Rattle.toml_text.specs.Forms.{IsNewline, IsWs}
use Rattle.toml_tree.specs.Spells.{EachIs, IsExpr, AreLines}
use Rattle.toml_tree.specs.Tree.{Expr, BlankLine, KeyValLine, TableLine, ArrayTableLine, Line}
use Rattle.toml_names.specs.mentions.Mentions.{Named, named, named_by, root}
use Rattle.toml_layout.specs.declared.layout.Layout.{Layout}
use Rattle.toml_layout.specs.declared.layout.Layout.TheVariants as layouts
use Rattle.toml_layout.specs.Spacings.{Spacing, is_narrow, laid_out, plain_spacing, spaced_as}
use Rattle.toml_working.specs.FirstKeys.{like_before, fits_behind, found_behind, last_like, spacing_after, spacing_like, spacing_put}
use Rattle.toml_working.specs.InsertStanding as stands
use Rattle.toml_working.specs.Inserting.{spacing_of}
use Rattle.toml_working.specs.Manners.{Manner}
use Rattle.toml_working.specs.Standing.{Standing, line_stands, standing, standing_from}

-- ---- whitespace

abbrev pub IsSpacing : Spacing → Type 0
IsSpacing s = IsWs s.ws × IsWs s.before_equals × IsWs s.after_equals

pub plain_spaced : IsSpacing plain_spacing
plain_spaced = (tt, (refl, tt), (refl, tt))

as_spaced : (ws before after : List ℕ) → IsWs ws → IsWs before → IsWs after → IsSpacing (spaced_as ws before after)
as_spaced ws before after w b a = by (is_narrow before && is_narrow after)
  where
    by : (t : Bool)
        → IsSpacing (cond t (record { ws = ws; before_equals = before; after_equals = after }) (record { ws = ws; before_equals = 0x20 ∷ []; after_equals = 0x20 ∷ [] }))
    by true = (w, b, a)
    by false = (w, (refl, tt), (refl, tt))

pub of_spaced : (e : Expr) → IsExpr e → IsSpacing (spacing_of e)
of_spaced (BlankLine b) is = plain_spaced
of_spaced (KeyValLine ws pair tail) is = as_spaced ws.text pair.assign.before_equals.text pair.assign.after_equals.text is.0 is.1.0.1 is.1.0.2
of_spaced (TableLine ws header tail) is = plain_spaced
of_spaced (ArrayTableLine ws header tail) is = plain_spaced

pub laid_spaced : (layout : Layout) (s : Spacing) → IsSpacing s → IsSpacing (laid_out layout s)
laid_spaced layouts.Plain s is = plain_spaced
laid_spaced layouts.Follow s is = is

-- ---- lines

-- a line in front of lines
pub first_formed : (m : Line) (front back : List Line) (l : Line) → AreLines (m ∷ (front ++ l ∷ back)) → IsExpr m.expr × IsNewline m.newline.text × AreLines (front ++ l ∷ back)
first_formed m [] back l is = is
first_formed m (k ∷ front) back l is = is

-- a line among lines is in its form
pub line_formed : (front back : List Line) (l : Line) → AreLines (front ++ l ∷ back) → IsExpr l.expr
line_formed [] [] l is = is.0
line_formed [] (m ∷ back) l is = is.0
line_formed (m ∷ front) back l is = line_formed front back l (first_formed m front back l is).2

-- behind a keyval line of the root
pub behind_spaced : (layout : Layout) (front back : List Line) (l : Line) → AreLines (front ++ l ∷ back) → IsSpacing (laid_out layout (spacing_of l.expr))
behind_spaced layout front back l forms = laid_spaced layout (spacing_of l.expr) (of_spaced l.expr (line_formed front back l forms))

-- ---- behind a header

-- what a line takes of another that stands so
abbrev IsSpaced : Standing → Type 0
IsSpaced s = IsSpacing (stands.spacing_of s.base s.outline)

line_spaced : (xs : List Named) (l : Line) → IsExpr l.expr → IsSpaced (line_stands xs l)
line_spaced xs l form = by l.expr refl form
  where
    by : (e : Expr) → l.expr ≡ e → IsExpr e → IsSpaced (line_stands xs l)
    by (BlankLine b) is h = subst (λ x. IsSpaced (line_stands xs (record { expr = x; newline = l.newline }))) (sym is) plain_spaced
    by (KeyValLine ws pair tail) is h =
        subst (λ x. IsSpaced (line_stands xs (record { expr = x; newline = l.newline }))) (sym is)
        (as_spaced ws.text pair.assign.before_equals.text pair.assign.after_equals.text h.0 h.1.0.1 h.1.0.2)
    by (TableLine ws header tail) is h = subst (λ x. IsSpaced (line_stands xs (record { expr = x; newline = l.newline }))) (sym is) plain_spaced
    by (ArrayTableLine ws header tail) is h = subst (λ x. IsSpaced (line_stands xs (record { expr = x; newline = l.newline }))) (sym is) plain_spaced

each_spaced : (ls : List Line) (xs : List Named) (n : ℕ) → EachIs (λ (l : Line). IsExpr l.expr) ls → EachIs IsSpaced (standing_from xs n ls)
each_spaced [] xs n forms = tt
each_spaced (l ∷ ls) xs n forms = (line_spaced xs l forms.0, each_spaced ls (xs ++ named_by xs n l.expr) (n + 1) forms.1)

-- the one that is found
abbrev IsSpacedIf : Option Standing → Type 0
IsSpacedIf None = Unit {0}
IsSpacedIf (Some s) = IsSpaced s

alike_spaced : (ws : List ℕ) (ss : List Standing) (fits : Bool) (found : Option Standing) → EachIs IsSpaced ss → IsSpacedIf found → IsSpacedIf (last_like ws fits found ss)
alike_spaced ws [] fits found each so_far = so_far
alike_spaced ws (s ∷ ss) fits found each so_far =
    alike_spaced ws ss (fits_behind fits (bytes_eq s.outline.ws ws) s.base s.address) (found_behind fits found s s.base) each.1 (by s.base fits)
  where
    by : (base : Option ℕ) (b : Bool) → IsSpacedIf (found_behind b found s base)
    by None b = so_far
    by (Some n) true = each.0
    by (Some n) false = so_far

like_spaced : (ws : List ℕ) (found : Option Standing) → IsWs ws → IsSpacedIf found → IsSpacing (spacing_like ws found)
like_spaced ws None is h = (is, (refl, tt), (refl, tt))
like_spaced ws (Some s) is h = h

formed_front : (front back : List Line) (l : Line) → AreLines (front ++ l ∷ back) → EachIs (λ (m : Line). IsExpr m.expr) front
formed_front [] back l forms = tt
formed_front (m ∷ front) back l forms =
    let (own, ends, rest) = first_formed m front back l forms in (own, formed_front front back l rest)

-- that of the first line in a section
pub front_spaced : (front back : List Line) (l : Line) (ws : List ℕ) → AreLines (front ++ l ∷ back) → IsWs ws
    → IsSpacing (spacing_like ws (like_before ws (standing front)))
front_spaced front back l ws forms is = like_spaced ws _ is (alike_spaced ws (standing front) _ None (each_spaced front (root ∷ []) 0 (formed_front front back l forms)) tt)

pub put_spaced : (manner : Manner) (front back : List Line) (l : Line) → AreLines (front ++ l ∷ back)
    → IsSpacing (spacing_put manner (standing front) (line_stands (named front) l))
put_spaced manner front back l forms = laid_spaced manner.layout _ (by l.expr refl (line_formed front back l forms))
  where
    alike : (ws : List ℕ) → IsWs ws → IsSpacing (spacing_like ws (like_before ws (standing front)))
    alike ws is = front_spaced front back l ws forms is

    Goal : Line → Type 0
    Goal m = IsSpacing (spacing_after (standing front) (line_stands (named front) m).base (line_stands (named front) m).address (line_stands (named front) m).outline)

    by : (e : Expr) → l.expr ≡ e → IsExpr e → Goal l
    by (BlankLine b) is h = subst (λ x. Goal (record { expr = x; newline = l.newline })) (sym is) plain_spaced
    by (KeyValLine ws pair tail) is h =
        subst (λ x. Goal (record { expr = x; newline = l.newline })) (sym is)
        (as_spaced ws.text pair.assign.before_equals.text pair.assign.after_equals.text h.0 h.1.0.1 h.1.0.2)
    by (TableLine ws header tail) is h = subst (λ x. Goal (record { expr = x; newline = l.newline })) (sym is) (alike ws.text h.0)
    by (ArrayTableLine ws header tail) is h = subst (λ x. Goal (record { expr = x; newline = l.newline })) (sym is) (alike ws.text h.0)
