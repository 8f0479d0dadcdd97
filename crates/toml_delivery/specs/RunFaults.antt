-- Why a run of the program has no outcome, and what it then tells.
use Rattle.std.specs.Prelude.{ℕ, List, ◌∷◌, ◌++◌, [], codes}
use Rattle.std.specs.declared.io.ErrorKind.{ErrorKind}
use Rattle.std.specs.declared.io.ErrorKind.TheVariants.{OutOfMemory}
use Rattle.toml_delivery.specs.declared.fault.RunFault.{RunFault}
use Rattle.toml_delivery.specs.declared.input.TakeFault.{TakeFault}
use Rattle.toml_delivery.specs.declared.input.TakeFault.TheVariants.{Device, NoMemory}
use Rattle.toml_delivery.specs.declared.fault.RunFault.TheVariants.{Words, File, Memory}

-- what a file that could not be opened, or words that could not be had, come to, by the kind of the error
abbrev pub fault_of_kind : ErrorKind → RunFault
fault_of_kind OutOfMemory = Memory
fault_of_kind _ = File

-- what an input that was not read comes to
abbrev pub fault_of_take : TakeFault → RunFault
fault_of_take Device = File
fault_of_take NoMemory = Memory

-- the exit status
abbrev pub status_of : RunFault → ℕ
status_of Words = 2
status_of File = 3
status_of Memory = 4

-- the line on standard error
abbrev pub told : RunFault → List ℕ
told Words = codes "bad words" ++ 10 ∷ []
told File = codes "file fault" ++ 10 ∷ []
told Memory = codes "no memory" ++ 10 ∷ []
