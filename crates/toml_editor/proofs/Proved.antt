-- The proofs of the laws of src/laws.rt, for the crates above.
pub use Rattle.toml_editor.proofs.written.SetNamed.{set_names}
pub use Rattle.toml_editor.proofs.written.SetKept.{set_rules, set_short, set_data}
pub use Rattle.toml_editor.proofs.written.SetFormed.{set_forms}
pub use Rattle.toml_editor.proofs.written.InsertKept.{insert_names, insert_rules, insert_short, insert_data}
pub use Rattle.toml_editor.proofs.written.InsertFormed.{insert_forms}
pub use Rattle.toml_editor.proofs.written.HeaderLaws.{section_names, element_names, section_is_laid_out, element_is_laid_out, section_units, element_units}
pub use Rattle.toml_editor.proofs.written.InTurn.{documents_are_ready}
pub use Rattle.toml_editor.proofs.written.ValuesPlaced.{value_is_place}
pub use Rattle.toml_editor.proofs.written.RemovedEither.{empty_names, empty_units, remove_data, remove_good, remove_keeps_lines, remove_names, remove_units}
pub use Rattle.toml_editor.proofs.written.RemoveKept.{remove_forms}
pub use Rattle.toml_editor.proofs.written.RenameNamed.{rename_names}
pub use Rattle.toml_editor.proofs.written.RenameKept.{rename_good, rename_data}
pub use Rattle.toml_editor.proofs.written.RenameFormed.{rename_forms}
pub use Rattle.toml_editor.proofs.written.Profiled.{set_of_profile, insert_of_profile, remove_of_profile, rename_of_profile}
pub use Rattle.toml_editor.proofs.written.Elsewhere.{set_within_kept, set_elsewhere, style_is_newline}
pub use Rattle.toml_editor.proofs.written.Untouched.{set_keeps_line, rename_keeps_line, insert_keeps_lines}
pub use Rattle.toml_editor.proofs.written.Unplaced.{set_bares, insert_bares, remove_bares, rename_bares}
pub use Rattle.toml_editor.proofs.written.Steps.{good_texts_are_documents, plain_is_written, plain_step, plain_steps, one_written, one_list_written}
pub use Rattle.toml_editor.proofs.written.UnitsInserted.{insert_units}
pub use Rattle.toml_editor.proofs.written.UnitsRenamed.{rename_units}
pub use Rattle.toml_editor.proofs.written.UnitsSet.{set_units}
pub use Rattle.toml_editor.proofs.written.UnitsCarried.{plain_is_carried}
pub use Rattle.toml_editor.proofs.SourceKept.{first_blank_needs_newline}
pub use Rattle.toml_editor.proofs.written.UnitsListed.{list_is_carried}
pub use Rattle.toml_editor.proofs.written.Certify.{partners_certify, outer_partners_certify, plain_list_is_certified}
pub use Rattle.toml_editor.proofs.written.OuterPairs.{outer_are_named}
pub use Rattle.toml_editor.proofs.written.HeadersRenamed.{rename_along_header, rename_along_element}
pub use Rattle.toml_editor.proofs.PlainAnswers.{plain_is_answered, long_is_answered, first_fault_is_answered, first_refused_is_answered}
pub use Rattle.toml_editor.proofs.OneChanged.{one_change}
