-- The words that most proofs cite, passed on from one place: the library's, the text's and the tree's, and this crate's. It declares nothing.
pub use Rattle.std.proofs.Common.{◌≡◌, zero, suc, ◌⊎◌, inl, inr, List, [], ◌∷◌, ◌++◌, All, Any, AllPairs, refl, sym, subst, arith, ◌+◌, Some, string_cmp, string_bytes, cond, bytes_eq, ap, ◌∙◌, ℕ, ◌<◌, slice_get, None, is_some, below_more, true≢false, drop, Option, option_copied, IsSome, rules, take, length, length-append, ◌↔◌, ◌≤◌, Bool, true, false, IsTrue, String, Vec, Global, nat_cmp, is_eq, ⊎_elim, map, BTreeMap, Bor, append-nil, ◌-◌, ◌==◌, ◌&&◌, append_assoc, set, get_or, Box, slice_index_or, Result, Ok, Err, IfOk, filter, add-one, option_map, slice_set, MatchOption, OnErr, IfSome, IfNone, ltb, ◌||◌, ap₂, not, le_refl, Contains, option_and_then, MatchBool, tests, vec_len, ◌*◌}
pub use Rattle.std.proofs.lemmas.Bool.{cases_lt, eqb-true, eq-eqb, false_from_ne_true, cases_eq, cond-false, false≢true, cond-true, ne_eqb, cases_order}
pub use Rattle.std.proofs.lemmas.Bool.Decides.{nat_tests, Decides-ltb}
pub use Rattle.std.proofs.lemmas.Grind.{common_steps}
pub use Rattle.std.proofs.lemmas.List.{same_from_push, length-drop, drop_all, take_more, take_all, map-append, at_drop_more, get_or_append_left, get_or_at, length_push, get_or-set_same, get_or-set_other, get_or_default, length-set, drop_more, get_or_read, take-append-drop, length-map, take-map, reverse-append, take_at, set-set, set-get_or, get_or-map, append_cancel_left, take-take, length-take-le, get_or-drop}
pub use Rattle.std.proofs.lemmas.List.Elements.{All-head, All-tail, filter-append, All-nil, All-cons, All-push, All-get_or, All-from_get_or, Contains-get_or, Contains-append_right, All-weaker, Contains-append_left, Contains-push, Contains-push_cases, All-append}
pub use Rattle.std.proofs.lemmas.List.Quantifiers.{all_pairs_push}
pub use Rattle.std.proofs.lemmas.List.Sums.{AllPass-from_list_all, list_all-from_AllPass, sum_by-cons, sum_by_push, sum_by-append}
pub use Rattle.std.proofs.lemmas.Map.Text.{btree_map_updates_text, is_eq-slice_cmp}
pub use Rattle.std.proofs.lemmas.Map.Views.{All-turn}
pub use Rattle.std.proofs.lemmas.Option.{slice_get_read, slice_get_past, slice_get_within, slice_get-get_or, get_or_from_slice_get, none-some, same_Some, slice_get-map}
pub use Rattle.std.proofs.lemmas.Result.{IfOk-weaker, err_from_is_err_and}
pub use Rattle.std.proofs.lemmas.Slice.Eq.{bytes_eq-Decides}
pub use Rattle.std.specs.BTreeMap.{get, get_by_text, is_at, btree_map_len, IsOrdered}
pub use Rattle.std.specs.Bool.{Decides, nat_eq}
pub use Rattle.std.specs.Cmp.Lexicographic.{slice_cmp, nat_list_eq_equiv, pointwise_decides}
pub use Rattle.std.specs.Cow.{cow_str_bytes}
pub use Rattle.std.specs.List.{AllByRecursion, list_any, list_all, HoldsAt, AllWithin}
pub use Rattle.std.specs.Map.{lookup, keys_of}
pub use Rattle.std.specs.Map.Iter.{deref_pair}
pub use Rattle.std.specs.Option.{unwrap_or}
pub use Rattle.std.specs.Ordering.{eq_by_cmp}
pub use Rattle.std.specs.Prelude.{if◌then◌else◌}
pub use Rattle.std.specs.declared.borrow.CowStr.{CowStr}
pub use Rattle.toml_scalar.specs.Values.{scalar_value, ScalarValue, scalar_of}
pub use Rattle.toml_tree.proofs.Proved.{sizes_add, keyval_is, value_array, value_inline}
pub use Rattle.toml_tree.specs.Lines.{line}
pub use Rattle.toml_tree.specs.ReadingValues.{Member, before_end, pairs_before_end}
pub use Rattle.toml_tree.specs.Spells.{EachIs, Part, joined, value_parts, items_parts, pairs_parts, gap_parts, assign_parts, blank_parts, header_parts, array_header_parts, expr_parts, lines_parts, line_parts, symbol}
pub use Rattle.toml_tree.specs.Tree.{Piece, Blank, Assign, Value, Scalar, Array, Inline, Items, Close, Last, More, Pairs, ClosePairs, LastPair, MorePairs, Expr, BlankLine, KeyValLine, TableLine, ArrayTableLine, Line, KeyVal}
pub use Rattle.toml_tree.specs.View.{piece, gap, value, keyval, member, value_step, array_step, inline_step, item_step, keyval_step, pair_step, dotted, key, array_items, last_ends, table_pairs, last_pairs, blank, header, expr, assign}
pub use Rattle.toml_tree.specs.declared.piece.Gap.{Gap}
pub use Rattle.toml_tree.specs.declared.tree.InlineTable.{InlineTable}
pub use Rattle.toml_tree.specs.declared.tree.Value.TheViews.{out-Array, out-InlineTable, out-Item, out-Pair}
pub use mathlib.Core.List.{reverse}
pub use Rattle.toml_names.specs.declared.fault.NameFault.{NameFault}
pub use Rattle.toml_names.specs.declared.mentions.mention.Role.{Role}
pub use Rattle.toml_names.specs.declared.mentions.mention.Role.TheVariants.{Passed, Header, Tables, Element, Valued, Bare, Dotted}
pub use Rattle.toml_names.specs.declared.model.address.Step.{Step}
pub use Rattle.toml_names.specs.declared.model.address.Step.TheVariants.{Name, Index}
pub use Rattle.toml_names.specs.declared.model.datum.Datum.{Datum, Table, the_lemmas}
pub use Rattle.toml_names.specs.declared.model.datum.Datum.TheOpen.{Datum-F}
pub use Rattle.toml_names.specs.declared.model.datum.Datum.TheVariants.{rolls-Scalar, rolls-Array, rolls-Table}
pub use Rattle.toml_names.specs.declared.model.datum.Datum.TheViews.{roll-Datum}
pub use Rattle.toml_names.specs.declared.model.place.Place.{Place}
pub use Rattle.toml_names.specs.declared.tree.name_tree.Change.{Change}
pub use Rattle.toml_names.specs.declared.tree.name_tree.Found.TheVariants.{New}
pub use Rattle.toml_names.specs.mentions.Alike.{CountsAdd, AreAlike, AlikeNameTheSame, AlikeStayAlike, PairsLeaveAlike, SectionGoesOn}
pub use Rattle.toml_names.specs.mentions.Clear.{AreClear, AreValuesAt, ClearOfRoot, HasNoPair, HeadersAreClear, IsClear, NotAboveNext, NotNamedIsClear, SectionIsClear}
pub use Rattle.toml_names.specs.mentions.FirstMentions.{first_named, first_mentions, is_named, IsMentioned, ComesFirst, IsFirstMentions, OneListOfFirstMentions, FirstMentionsAreThese}
pub use Rattle.toml_names.specs.mentions.Inside.{InsideIsBelow, shifted, InsideMoves, BelowIsOfItsLine}
pub use Rattle.toml_names.specs.mentions.Joining.{JoinAll, Joined, is_lone, Joins, IsFree, IsAgain, ValuesJoin, OneKind, FirstIsData, ValuesStandAlone, LinesJoin}
pub use Rattle.toml_names.specs.mentions.KeyParts.{value_key_parts, keyval_key_parts, item_key_parts, pair_key_parts, expr_key_parts, all_key_parts}
pub use Rattle.toml_names.specs.mentions.Keys.{Key, key_names, part_name, rest_names}
pub use Rattle.toml_names.specs.mentions.Local.{role_after, mark_after, mark_of, allows, mark_from, LastRoleDecides}
pub use Rattle.toml_names.specs.mentions.Mentions.{Kind, a_scalar, a_table, an_array, Named, root, named_by, named_from, table_at, value_named, inside, elements, members, fronts, pair_named, section, section_from, is_section, is_tables_at, count_tables, entered, followed, ends_table, ends_tables, named, value_facts, kind_of, is_tables, is_mentioned, is_mention, value_or_empty}
pub use Rattle.toml_names.specs.mentions.OwnAddresses.{is_itself, LineIsNamed, ThemselvesDiffer, OwnAddressesDiffer, OwnAddressIsNamed, OwnAddressHasFact, IsHeaderLine, HeaderIsSection, NamedHasLine}
pub use Rattle.toml_names.specs.mentions.Rules.{may_follow, fits, misfit, max_steps, IsShort, KeepsRules, IsFirstOffence, NoMisfit, MisfitIsFirst, RulesAreOfMentions}
pub use Rattle.toml_names.specs.mentions.View.{kind}
pub use Rattle.toml_names.specs.model.Addresses.{Address, is_above, same_address, child, element, same_step, SameStepIsEqual, StepIsSame, below, IsAbove, AboveIsAbove}
pub use Rattle.toml_names.specs.model.Building.{with_child, IsOnly, BeginsAtRoot}
pub use Rattle.toml_names.specs.model.Data.{kind_at, kind_in, Kinds, within, IsDataOf, IsClosed, fact_at, in_array, in_table, IsFact}
pub use Rattle.toml_names.specs.model.DataLaws.{OneData, LinesAreClosed, ValuesAreClosed, LinesHaveOneKind, LineValuesStandAlone, ValuesHaveOneKind, InnerValuesStandAlone}
pub use Rattle.toml_names.specs.model.Levels.{Members, Elements, ScalarLevel, ArrayLevel, TableLevel, DatumIsOneOfThree, DatumHasRoot, ArrayAtRoot, ArrayAtIndex, ArrayAtName, TableAtRoot, TableAtName, TableAtIndex, NothingBelowScalar, IndexIsWithin, NameHasMember}
pub use Rattle.toml_names.specs.model.Places.{first_line, same_role, line_above, in_value, place, IsNamed, IsNotIn, IsOutside, NoPlace, or_else, outside, IsFirstIn, IsInside, IsPlace, PlacesAreFound, PlaceIsFound}
pub use Rattle.toml_names.specs.model.SameData.{AreMembersOf, AreSame, AreSameElements, AreSameIn, AreSameMembers, HasAllNames, SameScalars, SameArrays, SameTables}
pub use Rattle.toml_names.specs.reader.Names.{header_end, own_address, AreOwnAddresses, is_own, line_address, AreGood, IsRedefined, RefusedAreBad, LineAddresses, NoLineAddress, IsLong, OneRefusal, RefusesNames}
pub use Rattle.toml_names.specs.reader.Reading.{IsReader, AreNames, ranked, rank_in, ReaderState, lines_of, RefusesLine, StaysShort, RefusesEntry, Known}
pub use Rattle.toml_names.specs.tree.EnteringHeaders.{PassedFronts, table_names, tables_names, next_table, EntersHeader, AddsTable}
pub use Rattle.toml_names.specs.tree.EnteringLines.{EntersLine, IsWithin}
pub use Rattle.toml_names.specs.tree.Headers.{header_fronts}
pub use Rattle.toml_names.specs.tree.Held.{Holds, below_node, below_in, node_kind}
pub use Rattle.toml_names.specs.tree.LongKeys.{CanEnterHeaders, CanEnter, CanEnterHeader, IsLongKey, IsLongEntry, key_named, FollowedFronts, CanEnterKey}
pub use Rattle.toml_names.specs.tree.NameMaps.{AreDistinct, children_of, same_name, children_behind}
pub use Rattle.toml_names.specs.tree.NameTree.{IsTree, Enters, EntersInside, Clashes, KeepsOthers, AreNested, KeepsAddresses, KeepsElements, IsFound, EntersTo, LeadsTo, name_at, IsTreeOf, table_count, IsAbsent, ClashesAfter, Passes}
pub use Rattle.toml_names.specs.tree.Nodes.{Spot, address_at, grown, nowhere, linked, addresses, marked, noted, address_under, place_of, leaf, remarked, without_name, without_element, reverted, undone, addresses_from, AreSteps}
pub use Rattle.toml_names.specs.tree.Placing.{first_of, value_line, value_there, value_along, IsWalked, own_place, place_of_mark}
pub use Rattle.toml_names.specs.tree.Steps.{Grows, IsBarred, IsNode, IsNoted, GoesOn, Steps}
