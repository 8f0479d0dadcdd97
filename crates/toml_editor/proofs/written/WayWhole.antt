-- From a way between lines to pairs between texts.
use Rattle.std.proofs.Common.{◌≡◌, ◌≤◌, ℕ, ◌+◌, Option, None, List, [], ◌∷◌, map, refl, sym, ap, ◌∙◌, subst, arith}
use Rattle.std.specs.Prelude.{◌↔◌}
use Rattle.std.specs.List.{flat_map}
use Rattle.toml_tree.specs.Bare.{bare_lines}
use Rattle.toml_tree.specs.Tree.{Line, Doc}
use Rattle.toml_edits.specs.Edits.{Change}
use Rattle.toml_units.specs.Units.{TextUnit, units}
use Rattle.toml_checker.specs.Comments.{texts, times, AreWritten}
use Rattle.toml_checker.specs.Pairs.{IsFirst}
use Rattle.toml_checker.specs.Plain.{Site, site, next_line}
use Rattle.toml_checker.specs.Protected.{IsProtected}
use Rattle.toml_checker.proofs.Proved.{flags_tell}
use Rattle.toml_units.specs.Bares.{bare_unit}
use Rattle.toml_editor.specs.CarriedUnits.{ArePartners}
use Rattle.toml_units.proofs.Proved.{units_of_bares}
use Rattle.toml_editor.proofs.written.Way.{Step, both, old, new, olds, news, seen, pairs, NoneLost, first_of, of_first, Stands, whole, one_line}
use Rattle.toml_editor.proofs.written.WayComments.{added, comments, no_comments_added}
use Rattle.toml_editor.proofs.written.WayFits.{Fits, newlines, Place, pairs_fit, no_lines_added, unit_kind, seen_kind}
use Rattle.toml_editor.proofs.written.WayKeeps.{KeepsIf, keeps_weaker}

-- A way from the units of the lines to those of the edited lines. `Firm` tells when a last line of no bytes stays the last.
pub record HasWayIf (Firm : Type 0) (cs : List Change) (written : List (List (List ℕ))) (lines edited : List Line) : Type 0 where
  pub way : List Step
  pub olds_are : olds way ≡ units lines
  pub news_are : news way ≡ units edited
  pub fits : Fits cs written (newlines lines) (newlines edited) None 0 0 way
  pub keeps : KeepsIf Firm cs (newlines lines) (newlines edited) None None 0 0 way
  pub comments_few : (t : List ℕ) → times t (texts (comments (added way))) ≤ times t (flat_map (λ ts. ts) written)

-- where it always does
abbrev pub HasWay : List Change → List (List (List ℕ)) → List Line → List Line → Type 0
HasWay = HasWayIf (Unit {0})

-- and where it does under these conditions too
pub way_weaker : {Firm : Type 0} (Other : Type 0) (cs : List Change) (written : List (List (List ℕ))) (lines edited : List Line) → (Other → Firm)
    → HasWayIf Firm cs written lines edited → HasWayIf Other cs written lines edited
way_weaker {Firm} Other cs written lines edited firm h = record {
  way = h.way;
  olds_are = h.olds_are;
  news_are = h.news_are;
  fits = h.fits;
  keeps = keeps_weaker Firm Other firm cs (newlines lines) (newlines edited) h.way None None 0 0 h.keeps;
  comments_few = h.comments_few;
}

none_lost : (cs : List Change) (written : List (List (List ℕ))) (before after : List (List ℕ)) (s : List Step) (line : Option Site) (a b : ℕ) → Fits cs written before after line a b s → NoneLost cs line s
none_lost cs written before after [] line a b fit = tt
none_lost cs written before after (both u w ∷ s) line a b fit = none_lost cs written before after s (next_line line (site u)) (a + one_line u.kind) (b + one_line w.kind) fit.1
none_lost cs written before after (old u ∷ s) line a b fit = (fit.0, none_lost cs written before after s (next_line line (site u)) (a + one_line u.kind) b fit.1)
none_lost cs written before after (new w ∷ s) line a b fit = none_lost cs written before after s line a (b + one_line w.kind) fit.1

module _ {Firm : Type 0} (cs : List Change) (written : List (List (List ℕ))) (d e : Doc) (edited : List Line) (h : HasWayIf Firm cs written d.lines edited) where
  abbrev ps : List (ℕ × ℕ)
  ps = pairs cs None 0 0 h.way

  first_is : (i : ℕ) → IsFirst ps i ↔ IsProtected cs (units d.lines) i
  first_is i =
      let none = none_lost cs written (newlines d.lines) (newlines edited) h.way None 0 0 h.fits in
      subst (λ us. IsFirst ps i ↔ IsProtected cs us i) h.olds_are (
        (λ first. let f = of_first cs h.way None 0 0 i first in
            let at : i ≡ f.0 = f.1 ∙ (let z : 0 + f.0 ≡ f.0 = omega arith in z) in
            subst (IsProtected cs (olds h.way)) (sym at) (((flags_tell cs (olds h.way)).1 f.0).0 f.2)),
        (λ protected. subst (IsFirst ps) (let z : 0 + i ≡ i = omega arith in z) (first_of cs h.way None 0 0 i none (((flags_tell cs (olds h.way)).1 i).1 protected))),
      )

  pub partners : AreWritten cs written → map seen (units e.lines) ≡ map seen (units edited) → newlines e.lines ≡ newlines edited → (ps : List (ℕ × ℕ)) × ArePartners cs d e ps
  partners are same ends =
      let fit = subst (λ ns. Fits cs written (newlines d.lines) ns None 0 0 h.way) (sym ends) h.fits in
      let is : map seen (units e.lines) ≡ map seen (news h.way) = same ∙ ap (map seen) (sym h.news_are) in
      let place : Place cs written d e 0 0 0 0 h.way = record {
        old = subst (Stands unit_kind (units d.lines) 0 0) (sym h.olds_are) (whole unit_kind (units d.lines));
        new = subst (Stands seen_kind (map seen (units e.lines)) 0 0) is (whole seen_kind (map seen (units e.lines)));
      } in (
        ps,
        record {
          named = first_is;
          fit = pairs_fit cs written d e h.way place fit;
          lines = no_lines_added cs written d e h.way place is fit;
          comments = no_comments_added cs written (newlines d.lines) (newlines e.lines) e h.way are fit is h.comments_few;
        },
      )

-- what is the same is not more
pub as_many : (t : List ℕ) (xs ys : List (List ℕ)) → xs ≡ ys → times t xs ≤ times t ys
as_many t xs ys is = let e = ap (times t) is in omega (arith, e)

-- ---- the tree of the text

seen_bare : (us : List TextUnit) → map seen (map bare_unit us) ≡ map seen us
seen_bare [] = refl
seen_bare (u ∷ us) = ap (λ l. seen u ∷ l) (seen_bare us)

newlines_bare : (ls : List Line) → newlines (bare_lines ls) ≡ newlines ls
newlines_bare [] = refl
newlines_bare (l ∷ ls) = ap (λ r. l.newline.text ∷ r) (newlines_bare ls)

-- lines that are the same without their places
pub same_seen : (ls ms : List Line) → bare_lines ls ≡ bare_lines ms → map seen (units ls) ≡ map seen (units ms)
same_seen ls ms same = sym (seen_bare (units ls)) ∙ ap (map seen) (sym (units_of_bares ls) ∙ ap units same ∙ units_of_bares ms) ∙ seen_bare (units ms)

pub same_newlines : (ls ms : List Line) → bare_lines ls ≡ bare_lines ms → newlines ls ≡ newlines ms
same_newlines ls ms same = sym (newlines_bare ls) ∙ ap newlines same ∙ newlines_bare ms
