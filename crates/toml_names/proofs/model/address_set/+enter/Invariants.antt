use Rattle.toml_names.proofs.Common.{◌+◌, ◌*◌, length}
use Rattle.toml_names.specs.model.AddressSets.{last_step}
use Rattle.toml_names.proofs.model.address_set.+enter.Given as goal

-- three calls for each step that is left
abbrev pub decreases-enter : goal.decreases-enter
decreases-enter l = 3 * (length l.way.now + length (last_step l.last)) + 1

abbrev pub decreases-enter_last : goal.decreases-enter_last
decreases-enter_last l = 3 * length (last_step l.last)

abbrev pub decreases-enter_name : goal.decreases-enter_name
decreases-enter_name l = 3 * (length l.rest.now + length (last_step l.last)) + 2

abbrev pub decreases-enter_element : goal.decreases-enter_element
decreases-enter_element l = 3 * (length l.rest.now + length (last_step l.last)) + 2
