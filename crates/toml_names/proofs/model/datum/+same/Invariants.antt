use Rattle.toml_names.proofs.Common.{ℕ, ◌<◌, slice_get, AreSameIn}
use Rattle.toml_names.proofs.lemmas.model.Alike.{HasLikeEach}
use Rattle.toml_names.proofs.model.datum.+same.Given as goal

abbrev pub invariant-same_items-loop-index : goal.invariant-same_items-loop-index
invariant-same_items-loop-index l = (i : ℕ) → i < l.index → AreSameIn (slice_get l.one i) (slice_get l.other i)

abbrev pub invariant-same_members-loop-name : goal.invariant-same_members-loop-name
invariant-same_members-loop-name l = HasLikeEach l.other l.name-iterator → HasLikeEach l.other l.one.entries
