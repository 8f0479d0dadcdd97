-- The working tree after a `rename` stands for the text that the edit writes.
use Rattle.std.proofs.Common.{◌≡◌, ◌⊎◌, inl, inr, ℕ, List, [], ◌∷◌, ◌++◌, map, None, refl, sym, subst, subst₂}
use Rattle.toml_scalar.specs.Spelling.{spelled}
use Rattle.toml_text.specs.Source.{text_of}
use Rattle.toml_tree.specs.Tree.{Line}
use Rattle.toml_tree.specs.declared.profile.Profile.{Profile}
use Rattle.toml_names.specs.declared.model.address.Step.{Step}
use Rattle.toml_names.specs.declared.model.address.Step.TheVariants.{Name, Index}
use Rattle.toml_names.specs.mentions.Mentions.{named}
use Rattle.toml_names.specs.model.Addresses.{Address, child}
use Rattle.toml_names.specs.model.Data.{Kinds}
use Rattle.toml_names.specs.model.Places.{IsNamed}
use Rattle.toml_edits.specs.declared.fault.EditFault.TheVariants.{AlreadyThere, NotAName, RootNamed}
use Rattle.toml_edits.specs.After.{IsAfter}
use Rattle.toml_edits.specs.Edits.{rename}
use Rattle.toml_edits.specs.Faults.{IsFault}
use Rattle.toml_layout.specs.declared.texts.Texts.{Texts}
use Rattle.toml_working.specs.declared.working.Tree.{Tree}
use Rattle.toml_editor.specs.Exact.{Follows, IsAt, WritesRename}
use Rattle.toml_working.specs.RenameStanding.{rename_standing}
use Rattle.toml_working.specs.Renaming.{rename_lines}
use Rattle.toml_working.specs.Standing.{Read, standing}
use Rattle.toml_working.specs.Stands.{Stands}
use Rattle.toml_editor.proofs.written.Fitting.{last_step, unnamed}
use Rattle.toml_editor.proofs.written.Follow.{follows}
use Rattle.toml_editor.proofs.written.RenameStanding.{rename_stands}
use Rattle.toml_editor.proofs.written.StandingOrder.{rules_order}

module _ (profile : Profile) (read : Read) (old new : Tree) (p : Address) (to text : List ℕ) (kinds now : Kinds)
    (at : IsAt profile read old text kinds) (none : IsFault profile (rename p to) kinds None) (is_after : IsAfter profile (rename p to) kinds now)
    (writes : WritesRename read p to old new) where
  abbrev lines : List Line
  lines = at.good.tree.lines

  renamed : standing (rename_lines p to lines) ≡ map (rename_standing p to (spelled to)) (standing lines)
  renamed = by (last_step p)
    where
      by : (p ≡ []) ⊎ ((q : Address) × (s : Step) × (p ≡ q ++ s ∷ [])) → standing (rename_lines p to lines) ≡ map (rename_standing p to (spelled to)) (standing lines)
      by (inl root) = absurd (none RootNamed root)
      by (inr (q, Index i, is)) = absurd (none NotAName (q, i, is))
      by (inr (q, Name n, is)) =
          let free : ¬ IsNamed (named lines) (child q to) = unnamed lines kinds (child q to) at.good.facts (λ some. none AlreadyThere (q, n, is, some)) in
          subst (λ x. standing (rename_lines x to lines) ≡ map (rename_standing x to (spelled to)) (standing lines)) (sym is)
          (rename_stands q n to lines at.good.spelled.0.lines.forms free at.good.good.0)

  pub rename_follows : Follows profile read (rename p to) old new text now
  rename_follows =
      let made = writes.lines (none RootNamed) (standing lines) at.stands (rules_order lines at.good.good.0) in
      let stands : Stands (text_of new.texts.source) read new.slots.items (standing (rename_lines p to lines)) =
      subst₂ (λ (s : Texts) ls. Stands (text_of s.source) read new.slots.items ls) (sym writes.source.texts) (sym renamed) made in
      follows profile read (rename p to) old new text kinds now (rename_lines p to lines) at.newline at.good none is_after refl stands writes.whole writes.source.texts writes.source.mannered
