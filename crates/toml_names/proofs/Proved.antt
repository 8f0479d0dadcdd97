-- The proofs of the laws, for the crates above.
pub use Rattle.toml_names.proofs.lemmas.model.Alike.{scalars_alike, arrays_alike, tables_same}
pub use Rattle.toml_names.proofs.lemmas.mentions.NextLine.{alike_name_the_same, alike_stay_alike, pairs_leave_alike}
pub use Rattle.toml_names.proofs.lemmas.mentions.AllLines.{lines_join, lines_have_data}
pub use Rattle.toml_names.proofs.lemmas.model.Changes.{array-within, table-has, has_part, step_there, hole_there}
pub use Rattle.toml_names.proofs.lemmas.mentions.BelowValues.{section_is_clear, headers_are_clear}
pub use Rattle.toml_names.proofs.lemmas.mentions.Clear.{not_above_next, clear_of_root, not_named_is_clear}
pub use Rattle.toml_names.proofs.lemmas.mentions.Clear.{one_data, lines_are_closed, values_are_closed}
pub use Rattle.toml_names.proofs.lemmas.model.Equal.{same_step-equal, same_step-self, same_address-decides}
pub use Rattle.toml_names.proofs.lemmas.mentions.Offences.{rules_are_of_mentions}
pub use Rattle.toml_names.proofs.lemmas.mentions.FirstMentioned.{first_mentions_are_these}
pub use Rattle.toml_names.proofs.lemmas.mentions.FirstNamed.{values_join}
pub use Rattle.toml_names.proofs.lemmas.model.Indices.{indices_are_low, value_indices_are_low}
pub use Rattle.toml_names.proofs.lemmas.mentions.InsideMoves.{inside_moves}
pub use Rattle.toml_names.proofs.lemmas.model.Levels.{kind_at-scalar, kind_at-array, kind_at-table, datum_is, has_kind, array-here, array-item, array-name, table-here, table-member, table-index, scalar-below}
pub use Rattle.toml_names.proofs.lemmas.mentions.LineAddresses.{named_has_line, line_addresses, no_line_address}
pub use Rattle.toml_names.proofs.lemmas.mentions.Local.{last_role_decides}
pub use Rattle.toml_names.proofs.lemmas.mentions.NextLine.{section_from-append, header_is_section}
pub use Rattle.toml_names.proofs.lemmas.mentions.Within.{count-append}
pub use Rattle.toml_names.proofs.lemmas.mentions.Offences.{no_misfit, misfit_is_first}
pub use Rattle.toml_names.proofs.lemmas.mentions.OfOneKind.{one_kind, first_is_data, values_stand_alone}
pub use Rattle.toml_names.proofs.lemmas.mentions.FirstMentioned.{one_list_of_first_mentions}
pub use Rattle.toml_names.proofs.lemmas.mentions.OneRefusal.{one_refusal}
pub use Rattle.toml_names.proofs.lemmas.mentions.LineAddresses.{line_is_named, themselves_differ, own_addresses_differ, own_address_is_named, own_address_has_fact}
pub use Rattle.toml_names.proofs.lemmas.mentions.PlaceFound.{below_is_of_its_line, place_is_found}
pub use Rattle.toml_names.proofs.lemmas.mentions.PlacesFound.{above_is_above, places_are_found}
pub use Rattle.toml_names.proofs.lemmas.mentions.PlacesNone.{inside_is_below, no_place}
pub use Rattle.toml_names.proofs.lemmas.mentions.Placeless.{key_places_are_not_named, line_places_are_not_named, places_are_not_named, value_places_are_not_named}
pub use Rattle.toml_names.proofs.lemmas.mentions.RulesKept.{some_keep_rules, more_keep_rules, moved_keep_rules, value_keeps_rules}
pub use Rattle.toml_names.proofs.lemmas.mentions.OneRefusal.{refused_are_bad}
pub use Rattle.toml_names.proofs.lemmas.mentions.AllLines.{lines_have_one_kind, line_values_stand_alone, values_have_one_kind, inner_values_stand_alone}
pub use Rattle.toml_names.proofs.lemmas.reader.OneMoreLine.{taken_are_good, fronts_are_good}
pub use Rattle.toml_names.proofs.lemmas.model.Hidden.{ways_are_near, fronts_are_near, elements_are_near}
pub use Rattle.toml_names.proofs.lemmas.reader.RefusedTexts.{refused_text}
pub use Rattle.toml_names.proofs.lemmas.reader.Passed.{less_is_left}
pub use Rattle.toml_names.proofs.lemmas.model.Reached.{reached_are_not_hidden}
