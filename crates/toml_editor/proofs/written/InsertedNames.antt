-- What is named first after an `insert`, in any table.
use Rattle.std.proofs.Common.{inl, inr, ℕ, List}
use Rattle.toml_tree.specs.Tree.{Value, Line}
use Rattle.toml_names.specs.model.Addresses.{Address, child}
use Rattle.toml_working.specs.InsertingInTables.{insert_in}
use Rattle.toml_working.specs.Manners.{Manner}
use Rattle.toml_working.specs.Premises.{HasSection, HasTable}
use Rattle.toml_editor.specs.Blocks.{IsPut, named_plain, value_block}
use Rattle.toml_editor.proofs.written.AheadNamed.{ahead_named}
use Rattle.toml_editor.proofs.written.InsertedTables.{insert_in_place, no_section}
use Rattle.toml_editor.proofs.written.TablesAgain.{AreNamedFirst, place_named, place_put}

pub insert_named : (q : Address) (name : List ℕ) (v : Value) (manner : Manner) (lines : List Line) → HasTable lines q
    → AreNamedFirst q (named_plain lines) (value_block (child q name) v) (named_plain (insert_in q name v manner lines))
insert_named q name v manner lines there = elim (insert_in_place q name v manner lines there) [
  | inl place ↦ place_named q name v manner lines (insert_in q name v manner lines) place
  | inr (implied, put) ↦ ahead_named q name v manner lines (insert_in q name v manner lines) implied put
]

-- where the table is the root or has a header, nothing but the value
pub section_put : (q : Address) (name : List ℕ) (v : Value) (manner : Manner) (lines : List Line) → HasSection lines q
    → IsPut (named_plain lines) (value_block (child q name) v) (named_plain (insert_in q name v manner lines))
section_put q name v manner lines has = elim (insert_in_place q name v manner lines (inl has)) [
  | inl place ↦ place_put q name v manner lines (insert_in q name v manner lines) place has
  | inr (implied, put) ↦ absurd (no_section q lines put.not_root implied.no_header has)
]
