-- What is kept by a new section: the table rules, the bound on addresses, the data.
use Rattle.std.proofs.Common.{◌≡◌, inl, inr, ◌≤◌, ℕ, false, Some, None, List, [], ◌∷◌, ◌++◌, length, refl, sym, ap, ◌∙◌, subst, append-nil}
use Rattle.std.specs.List.{list_any}
use Rattle.std.proofs.lemmas.Option.{same_Some}
use Rattle.toml_tree.specs.Tree.{Line}
use Rattle.toml_tree.specs.declared.profile.Profile.{Profile}
use Rattle.toml_names.specs.declared.model.address.Step.TheVariants.{Name}
use Rattle.toml_names.specs.declared.mentions.mention.Role.TheVariants.{Header}
use Rattle.toml_names.specs.mentions.Mentions.{Kind, Named, a_table, named, ends_table}
use Rattle.toml_names.specs.mentions.Rules.{KeepsRules, IsShort, max_steps}
use Rattle.toml_names.specs.model.Addresses.{Address, child}
use Rattle.toml_names.specs.model.Data.{Kinds, IsDataOf}
use Rattle.toml_edits.specs.After.{IsAfter, an_empty_table}
use Rattle.toml_edits.specs.Edits.{new_section}
use Rattle.toml_layout.specs.declared.tree.Brackets.TheVariants.{One}
use Rattle.toml_working.specs.Headers.{names_of}
use Rattle.toml_working.specs.Standing.{holds, standing}
use Rattle.toml_editor.specs.Blocks.{section_block}
use Rattle.toml_editor.proofs.written.Counted.{last_or_earlier}
use Rattle.toml_editor.proofs.written.HeaderKept.{IsHeaderBlock, absent_goes, header_block, header_moves, header_rules, header_short}
use Rattle.toml_editor.proofs.written.HeaderNamed.{IsNamedBetween, follows, header_names_some, named_between}
use Rattle.toml_editor.proofs.written.HeaderPut.{IsHeaderPut}
use Rattle.toml_editor.proofs.written.Pairwise.{Has}
use Rattle.toml_editor.proofs.written.SectionLeads.{IsKindAt, fronts_are_tables}
use Rattle.toml_editor.proofs.written.SectionNamed.{section_leads, section_named, section_is_put}

-- the table
abbrev IsTableEnd : Address → Named → Type 0
IsTableEnd p m = (m.address ≡ p) × (m.role ≡ Header) × (m.kind ≡ a_table)

module _ (q : Address) (name style : List ℕ) (old new : List Line) (put : IsHeaderPut One (child q name) style old new) where
  abbrev p : Address
  p = child q name

  block : IsHeaderBlock (IsTableEnd p) (ends_table 0) p (named put.front) (section_block p)
  block =
      let leads = section_leads p style old new put in
      header_block (IsTableEnd p) (ends_table 0) (named put.front) (names_of p) p (section_block p) (header_names_some One p put.ws (named put.front) put.leads).0 leads
      (follows (named put.front) (ends_table 0) p [] leads) ((refl, refl, refl), tt) (tt, tt) (λ m is. ([], is.0 ∙ sym (append-nil p)))

  there : IsNamedBetween (section_block p) put.front put.back old new
  there = subst (λ ms. IsNamedBetween ms put.front put.back old new) (section_named p style old new put) (named_between One p style old new put)

-- The table rules are kept, where the table is there, has no such name, and no line's value stands at it or above it.
pub section_rules : (q : Address) (name style : List ℕ) (old new : List Line) (kinds : Kinds) → IsHeaderPut One (child q name) style old new
    → KeepsRules (named old) → IsDataOf (named old) kinds → kinds q ≡ Some a_table → kinds (child q name) ≡ None
    → list_any (holds q) (standing old) ≡ false → KeepsRules (named new)
section_rules q name style old new kinds put keeps is table none alone =
    let p = child q name in
    header_rules (IsTableEnd p) (ends_table 0) p (section_block p) old new put.front put.back kinds q (block q name style old new put)
    (there q name style old new put) keeps is alone (fronts_are_tables old kinds keeps is q name table) over
    (λ m at. absent_goes kinds q (named put.front) m (ap kinds at.0 ∙ none))
  where
    -- what a name follows on the way is the table, or above it
    over : (r rest : Address) (n : List ℕ) → child q name ≡ r ++ Name n ∷ rest → (s : Address) × (q ≡ r ++ s)
    over r rest n at = elim (last_or_earlier q r (Name name) (Name n) rest at) [
      | inl same ↦ ([], same.0 ∙ sym (append-nil r))
      | inr more ↦ (Name n ∷ more.0, more.1)
    ]

-- the bound on addresses is kept, where the section's address keeps it
pub section_short : (q : Address) (name style : List ℕ) (old new : List Line) → IsHeaderPut One (child q name) style old new
    → IsShort (named old) → length (child q name) ≤ max_steps → IsShort (named new)
section_short q name style old new put is low =
    let p = child q name in
    header_short (IsTableEnd p) (ends_table 0) p (named put.front) (section_block p) old new (block q name style old new put)
    (section_is_put q name style old new put) is low (λ m at. subst (λ a. length a ≤ max_steps) (sym at.0) low)

-- the new lines have the data that the edit makes of those of the old
pub section_data : (profile : Profile) (q : Address) (name style : List ℕ) (old new : List Line) (kinds after : Kinds) → IsHeaderPut One (child q name) style old new
    → KeepsRules (named old) → IsDataOf (named old) kinds → kinds q ≡ Some a_table → kinds (child q name) ≡ None
    → IsDataOf (named new) after → IsAfter profile (new_section (child q name)) kinds after
section_data profile q name style old new kinds after put keeps is table none is' =
    let p = child q name in
    header_moves (IsTableEnd p) (ends_table 0) p (named put.front) (section_block p) old new p an_empty_table kinds after (block q name style old new put)
    (section_is_put q name style old new put) is is' (fronts_are_tables old kinds keeps is q name table)
    (λ m at. inr ([], at.0 ∙ sym (append-nil p), ap Some (sym at.2))) placed
  where
    placed : (r : Address) (k : Kind) → an_empty_table r ≡ Some k → Has (IsKindAt (child q name ++ r) k) (ends_table 0 (child q name))
    placed [] k have = inl (sym (append-nil (child q name)), same_Some a_table k have)
    placed (s ∷ r) k have = cc
