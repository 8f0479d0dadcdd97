-- What it is to make edits, and to refuse one, by what was read of the document: on the data and on the working tree together.
use Rattle.std.specs.Prelude.{ℕ, List}
use Rattle.toml_edits.specs.declared.draft.Draft.{Draft}
use Rattle.toml_edits.specs.Drafts.{drafted}
use Rattle.toml_edits.specs.Edits.{Change}
use Rattle.toml_edits.specs.Lists.{Lead}
use Rattle.toml_editor.specs.declared.fault.EditorFault.{EditorFault}
use Rattle.toml_editor.specs.declared.making.Read.{Read}
use Rattle.toml_working.specs.declared.working.Tree.{Tree}
use Rattle.toml_editor.specs.Exact.{DoneAll, DoneOne, IsNeitherOn, OfNoPlaceAt, Stops}
use Rattle.toml_editor.specs.Making.{IsMade, TellsAny, TellsOne}
use Rattle.toml_working.specs.Starting.{read_of}

-- the edit is made on the data, and where it is plain, or makes one change, on the working tree; it is not refused (`IsRefusedIn`)
pub record MakesEdit (read : Read) (c : Change) (old new : Draft) (before after : Tree) : Type 0 where
  pub applied : IsMade read.profile c old new
  pub done : DoneOne read.profile (read_of read.before) (drafted old) c before after

-- the edit with this number has the fault on the data; where that is of its place, or of a last element, the edit is neither plain nor held
pub record RefusesEdit (read : Read) (index : ℕ) (c : Change) (old : Draft) (tree : Tree) (fault : EditorFault) : Type 0 where
  pub told : TellsOne read.profile index c (drafted old) fault
  pub neither : OfNoPlaceAt (λ at. IsNeitherOn read.profile (read_of read.before) c tree) fault

-- the edits are made one after the other: they lead from the one data to the other, and where they are plain so they do on the working
-- tree; none whose forerunners are plain is refused
pub record MakesEdits (read : Read) (cs : List Change) (old new : Draft) (before after : Tree) : Type 0 where
  pub lead : Lead read.profile cs (drafted old) (drafted new)
  pub done : DoneAll read.profile (read_of read.before) (drafted old) cs before after

-- Some edit has the fault on the data to which those before it lead. Where these are plain, they are not refused, and where the fault is of its
-- place, or of a last element, the edit is neither plain nor held.
pub record RefusesEdits (read : Read) (cs : List Change) (old : Draft) (tree : Tree) (fault : EditorFault) : Type 0 where
  pub told : TellsAny read.profile cs (drafted old) fault
  pub stops : Stops read.profile (read_of read.before) cs (drafted old) tree fault
