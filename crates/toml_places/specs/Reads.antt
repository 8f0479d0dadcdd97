-- What the code that reads places answers.
use Rattle.std.specs.Prelude.{◌≡◌, ◌<◌, ◌≤◌, ◌⊎◌, ℕ, List, length, drop, Result, Ok, Err}
use Rattle.std.specs.Str.{IsUtf8, IsValidUpTo}
use Rattle.toml_text.specs.Limit.{IsText, max_len}
use Rattle.toml_text.specs.Source.{text_of}
use Rattle.toml_places.specs.declared.fault.PlaceFault.{PlaceFault}
use Rattle.toml_places.specs.declared.fault.PlaceFault.TheVariants.{BadPlace, NoMemory}
use Rattle.toml_places.specs.declared.place.PlaceStep.{PlaceStep}
use Rattle.toml_places.specs.declared.reader.Reader.{Reader}
use Rattle.toml_places.specs.Places.{SpellsPlace}
use Rattle.toml_places.specs.Reading.{Cursor, Reading, read_steps}

-- where a reader stands
abbrev pub cursor : Reader → Cursor
cursor r = record { at = r.at; rest = drop r.at (text_of r.source) }

-- What a reader returned, seen by the view, is what the plain reader reads, and so is where it then stands; want of memory
-- says nothing.
abbrev pub Reads : {X Y : Type 0} → (X → Y) → Cursor → Result X PlaceFault → Reading Y → Type 0
Reads view new (Ok x) read = read ≡ Ok (view x, new)
Reads view new (Err (BadPlace at)) read = read ≡ Err at
Reads view new (Err NoMemory) read = Unit {0}

-- the same of what is read up to the end
abbrev pub Tells : {X Y : Type 0} → (X → Y) → Result X PlaceFault → Result Y ℕ → Type 0
Tells view (Ok x) read = read ≡ Ok (view x)
Tells view (Err (BadPlace at)) read = read ≡ Err at
Tells view (Err NoMemory) read = Unit {0}

-- the byte at which the bytes are refused: where they are no UTF-8, the length of the longest front that is; where they are
-- too long, the limit; else where the plain reader can't go on
abbrev pub IsRefusedAt : List ℕ → ℕ → Type 0
IsRefusedAt bytes at =
    ((¬ IsUtf8 bytes) × IsValidUpTo bytes at)
    ⊎ ((IsUtf8 bytes × (max_len < length bytes) × (at ≡ max_len)) ⊎ (IsText bytes × (read_steps bytes ≡ Err at)))

-- the bytes are a place, with these steps
abbrev pub IsPlace : List ℕ → List PlaceStep → Type 0
IsPlace bytes steps = IsText bytes × SpellsPlace steps bytes

-- no place, refused at a byte of them or at their end; want of memory says nothing
pub record IsNoPlace (bytes : List ℕ) (at : ℕ) : Type 0 where
  pub none : (steps : List PlaceStep) → ¬ IsPlace bytes steps
  pub within : at ≤ length bytes
  pub refused : IsRefusedAt bytes at

abbrev pub RefusesPlace : List ℕ → PlaceFault → Type 0
RefusesPlace bytes (BadPlace at) = IsNoPlace bytes at
RefusesPlace bytes NoMemory = Unit {0}
