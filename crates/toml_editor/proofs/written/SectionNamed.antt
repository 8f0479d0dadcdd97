-- What is named after a new section.
use Rattle.std.proofs.Common.{◌≡◌, ℕ, List, [], sym, ap, ◌∙◌}
use Rattle.std.proofs.lemmas.Option.{same_Some}
use Rattle.toml_tree.specs.Tree.{Line}
use Rattle.toml_names.specs.mentions.Keys.{key_names}
use Rattle.toml_names.specs.mentions.Mentions.{ends_table, followed, named}
use Rattle.toml_names.specs.model.Addresses.{Address, child}
use Rattle.toml_names.specs.reader.Names.{header_end}
use Rattle.toml_names.proofs.Proved.{alike_name_the_same}
use Rattle.toml_layout.specs.declared.tree.Brackets.TheVariants.{One}
use Rattle.toml_working.specs.FreshKeys.{key_named}
use Rattle.toml_working.specs.Heading.{header_expr}
use Rattle.toml_working.specs.Headers.{names_of}
use Rattle.toml_editor.specs.Blocks.{IsPut, named_plain, section_block}
use Rattle.toml_editor.proofs.written.HeaderNamed.{follows, header_names_some, put_block, put_names}
use Rattle.toml_editor.proofs.written.HeaderPut.{IsHeaderPut}
use Rattle.toml_editor.proofs.written.Plain.{plain_alike}

module _ (p : Address) (style : List ℕ) (old new : List Line) (put : IsHeaderPut One p style old new) where
  -- the new header's key leads to the address
  pub section_leads : header_end (named put.front) [] (names_of p) ≡ p
  section_leads =
      ap (header_end (named put.front) []) (sym (header_names_some One p put.ws (named put.front) put.leads).1)
      ∙ same_Some (header_end (named put.front) [] (key_names (key_named (names_of p)))) p put.leads

  -- and it names what the address passes, and the table
  pub section_named : put_block One p style old new put ≡ section_block p
  section_named =
      sym (alike_name_the_same (named put.front) (named_plain put.front) (plain_alike (named put.front)) 0 (header_expr One p put.ws))
      ∙ ap (followed 0 (named put.front) (ends_table 0) []) (header_names_some One p put.ws (named put.front) put.leads).1
      ∙ follows (named put.front) (ends_table 0) p [] section_leads

-- The new lines name what the old ones did, and in one place what the new header names.
pub section_is_put : (q : Address) (name style : List ℕ) (old new : List Line) → IsHeaderPut One (child q name) style old new
    → IsPut (named_plain old) (section_block (child q name)) (named_plain new)
section_is_put q name style old new put =
    put_names One (child q name) style old new put (section_block (child q name)) (section_named (child q name) style old new put)
