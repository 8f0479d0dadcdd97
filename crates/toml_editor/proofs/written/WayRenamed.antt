-- The way of a `rename`.
use Rattle.std.proofs.Common.{◌≡◌, inl, inr, ◌+◌, ℕ, Bool, true, false, cond, Option, None, List, [], ◌∷◌, ◌++◌, refl, sym, ap, ap₂, ◌∙◌, subst}
use Rattle.std.specs.Prelude.{slice_get, option_map, option_and_then}
use Rattle.std.proofs.lemmas.Bool.{cond-true}
use Rattle.toml_tree.specs.Spells.{AreLines}
use Rattle.toml_tree.specs.Tree.{Line}
use Rattle.toml_names.specs.declared.model.address.Step.{Step as AddressStep}
use Rattle.toml_names.specs.declared.model.address.Step.TheVariants.{Name}
use Rattle.toml_names.specs.mentions.Mentions.{Named, named, named_by, root}
use Rattle.toml_names.specs.mentions.Rules.{KeepsRules}
use Rattle.toml_names.specs.model.Addresses.{Address, IsAbove, child, same_step}
use Rattle.toml_names.proofs.Proved.{same_step-self}
use Rattle.toml_names.specs.model.Places.{IsNamed}
use Rattle.toml_edits.specs.Carry.{carry}
use Rattle.toml_edits.specs.Edits.{Change, rename}
use Rattle.toml_edits.proofs.Proved.{parted_at_last}
use Rattle.toml_units.specs.declared.unit.UnitKind.TheVariants as kinds
use Rattle.toml_units.specs.Units.{TextUnit, units}
use Rattle.toml_checker.specs.CarriedTo.{IsAtOrAbove, At}
use Rattle.toml_checker.specs.Comments.{texts, is_comment}
use Rattle.toml_checker.specs.Owed.{IsOwed}
use Rattle.toml_checker.specs.Plain.{Site}
use Rattle.toml_working.specs.Lines.{lines_from}
use Rattle.toml_editor.specs.RenameLaws.{moved}
use Rattle.toml_editor.specs.RenamedUnits.{IsCarried}
use Rattle.toml_working.specs.Renaming.{rename_line, rename_lines}
use Rattle.toml_editor.proofs.written.Moved.{moved_root}
use Rattle.toml_editor.proofs.written.RenameKept.{renamed_moved}
use Rattle.toml_editor.proofs.written.WayComments.{added, comments}
use Rattle.toml_editor.proofs.written.WayFits.{Matches, SameNewline, newlines}
use Rattle.toml_editor.proofs.written.WayKept.{HeaderIsOwed, renamed_header, zip_keeps}
use Rattle.toml_editor.proofs.written.WayOwed.{IsOwedBelow}
use Rattle.toml_editor.proofs.written.WayWhole.{HasWay, as_many}
use Rattle.toml_editor.proofs.written.WayZip.{unchanged, IsNear, lost_line, no_comment_lost, carried_to, zip, zip_olds, zip_news, zip_fits}
use Rattle.toml_editor.proofs.written.UnitsRenamed.{rename_units}

rename_newlines : (p : Address) (to : List ℕ) (ls : List Line) (xs : List Named) (n : ℕ) → newlines (lines_from (rename_line p to) xs n ls) ≡ newlines ls
rename_newlines p to [] xs n = refl
rename_newlines p to (l ∷ ls) xs n = ap (λ r. l.newline.text ∷ r) (rename_newlines p to ls (xs ++ named_by xs n l.expr) (n + 1))

-- a way on which all go together adds nothing
pub zip_adds : (us ws : List TextUnit) → added (zip us ws) ≡ []
zip_adds [] ws = refl
zip_adds (u ∷ us) [] = refl
zip_adds (u ∷ us) (w ∷ ws) = zip_adds us ws

module _ (q : Address) (n to : List ℕ) where
  abbrev p : Address
  p = child q n

  abbrev c : Change
  c = rename p to

  -- what is below goes along, and what is above stays
  moved_below : (q : Address) (rest : Address) → moved q n to (child q n ++ rest) ≡ child q to ++ rest
  moved_below [] rest = cond-true _ _ _ (same_step-self (Name n))
  moved_below (s ∷ q) rest = cond-true _ _ _ (same_step-self s) ∙ ap (λ a. s ∷ a) (moved_below q rest)

  moved_above : (q a : Address) → IsAbove a (child q n) → moved q n to a ≡ a
  moved_above q [] above = moved_root n to q
  moved_above [] (t ∷ []) (s, rest, is) = cc
  moved_above [] (t ∷ u ∷ a) (s, rest, is) = cc
  moved_above (r ∷ q) (t ∷ a) (s, rest, is) =
      let head : r ≡ t = cc in
      let tail : child q n ≡ a ++ s ∷ rest = cc in
      by (same_step t r) (moved_above q a (s, rest, tail))
    where
      by : (b : Bool) → moved q n to a ≡ a → cond b (t ∷ moved q n to a) (t ∷ a) ≡ t ∷ a
      by true more = ap (λ x. t ∷ x) more
      by false more = refl

  -- it is above the new name too
  above_new : (q a : Address) → IsAbove a (child q n) → IsAtOrAbove a (child q to)
  above_new q [] above = (child q to, refl)
  above_new [] (t ∷ []) (s, rest, is) = cc
  above_new [] (t ∷ u ∷ a) (s, rest, is) = cc
  above_new (r ∷ q) (t ∷ a) (s, rest, is) =
      let head : r ≡ t = cc in
      let tail : child q n ≡ a ++ s ∷ rest = cc in
      let more = above_new q a (s, rest, tail) in
      (more.0, ap₂ (λ x y. x ∷ y) head more.1)

  owed : (a : Address) → IsNear p a → IsOwed (c ∷ []) (moved q n to a)
  owed a (inl (rest, is)) =
      inl (child q to, child q to, ap (option_map (λ (w : Address × AddressStep). child w.0 to)) (parted_at_last q (Name n)), refl, inr (rest, ap (moved q n to) is ∙ moved_below q rest))
  owed a (inr above) =
      inl (
        child q to,
        child q to,
        ap (option_map (λ (w : Address × AddressStep). child w.0 to)) (parted_at_last q (Name n)),
        refl,
        inl (subst (λ x. IsAtOrAbove x (child q to)) (sym (moved_above q a above)) (above_new q a above)),
      )

  header : (u w : TextUnit) → IsCarried c u w → HeaderIsOwed c u w
  header u w is line none at gone =
      let h = renamed_header p to at u line none gone in
      subst (λ o. At o (IsOwedBelow (c ∷ []))) (sym (is.address ∙ ap (option_and_then (carry c)) h.1 ∙ renamed_moved q n to h.0))
      (inl (
        child q to,
        child q to,
        ap (option_map (λ (w : Address × AddressStep). child w.0 to))
            (parted_at_last q (Name n)),
        refl,
        (h.2.0, ap (moved q n to) h.2.1 ∙ moved_below q h.2.0),
      ))

  matches : (before after : List (List ℕ)) (line : Option Site) (a b : ℕ) (u w : TextUnit) → IsCarried c u w → (u.kind ≡ kinds.Line → SameNewline (c ∷ []) ([] ∷ []) before after a b)
      → Matches (c ∷ []) ([] ∷ []) before after line a b u w
  matches before after line a b u w is same = record {
    kind = is.kind;
    kept = λ here. record {
      text = is.text None (unchanged c line u None here);
      address = carried_to c u.address w.address is.address (λ x at. (moved q n to x, renamed_moved q n to x));
      newline = same;
    };
    lost = λ gone. (
      (λ is_line.
          let l = lost_line c tt line u (sym is.kind ∙ is_line) gone in
          subst (λ o. At o (IsOwed (c ∷ []))) (sym (is.address ∙ ap (option_and_then (carry c)) l.1 ∙ renamed_moved q n to l.0)) (owed l.0 l.2)),
      ap is_comment is.kind ∙ no_comment_lost c tt line u gone,
    );
  }

  pub rename_way : (lines : List Line) → AreLines lines → ¬ IsNamed (named lines) (child q to) → KeepsRules (named lines)
      → HasWay (c ∷ []) ([] ∷ []) lines (rename_lines p to lines)
  rename_way lines is free keeps =
      let us = units lines in
      let ws = units (rename_lines p to lines) in
      let together = rename_units q n to lines is free keeps in
      let ends = rename_newlines p to lines (root ∷ []) 0 in
      record {
        way = zip us ws;
        olds_are = zip_olds (IsCarried c) us ws together;
        news_are = zip_news (IsCarried c) us ws together;
        fits = zip_fits (c ∷ []) ([] ∷ []) (newlines lines) (newlines (rename_lines p to lines)) (IsCarried c) (matches (newlines lines) (newlines (rename_lines p to lines))) us ws together None 0 0
            (λ x low. inl (ap (λ ns. slice_get ns (0 + x)) (sym ends)));
        keeps = zip_keeps c (newlines lines) (newlines (rename_lines p to lines)) (sym ends) header us ws together None None refl 0;
        comments_few = λ t. as_many t (texts (comments (added (zip us ws)))) [] (ap (λ xs. texts (comments xs)) (zip_adds us ws));
      }
