-- The proofs of the laws, for the crates above.
pub use Rattle.toml_edits.proofs.Along.{carried_along}
pub use Rattle.toml_edits.proofs.Apart.{carried_apart, data_are_closed}
pub use Rattle.toml_edits.proofs.Emptied.{set_carries}
pub use Rattle.toml_edits.proofs.Fronts.{carried_front}
pub use Rattle.toml_edits.proofs.LastStep.{parted_at_last}
pub use Rattle.toml_edits.proofs.LowIndices.{indices_are_low}
pub use Rattle.toml_edits.proofs.Living.{living}
pub use Rattle.toml_edits.proofs.Once.{one_after}
pub use Rattle.toml_edits.proofs.OneList.{one_edit_list, bad_list_is_none}
pub use Rattle.toml_edits.proofs.OnLists.{carried_on, one_lead, fault_or_lead, one_first_fault}
pub use Rattle.toml_edits.proofs.Standing.{carried_stands}
pub use Rattle.toml_edits.proofs.ListFronts.{lists_carry_fronts, carried_keep_order, fronts_stand}
pub use Rattle.toml_edits.proofs.ListsApart.{lists_carry_apart}
pub use Rattle.toml_edits.proofs.Possible.{some_after}
pub use Rattle.toml_edits.proofs.PutValues.{values_stand, values_are_new}
pub use Rattle.toml_edits.proofs.StaysClosed.{stays_closed, leads_stay_closed}
pub use Rattle.toml_edits.proofs.NearLists.{leads_beside, leads_near, hidden_stays, faults_near, fault_beside}
pub use Rattle.toml_edits.proofs.Sides.{sides_are_right}
pub use Rattle.toml_edits.proofs.StaysLow.{stays_low}
pub use Rattle.toml_edits.proofs.WalkSeen.{seen_is_carried}
