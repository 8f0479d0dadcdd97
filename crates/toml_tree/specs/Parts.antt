-- How many bytes parts have, and where some of them stand.
use Rattle.std.specs.Prelude.{◌≡◌, ℕ, ◌+◌, List, ◌++◌, length}
use Rattle.toml_tree.specs.Spells.{Part, joined, Placed}

-- how many bytes parts have
abbrev pub size : List Part → ℕ
size ps = length (joined ps)

-- the text of parts and of more parts is the one text and then the other
abbrev pub PartsJoin : Type 0
PartsJoin = (ps qs : List Part) → joined (ps ++ qs) ≡ joined ps ++ joined qs

abbrev pub SizesAdd : Type 0
SizesAdd = (ps qs : List Part) → size (ps ++ qs) ≡ size ps + size qs

-- of parts that stand at a place the first ones stand there
abbrev pub FrontIsPlaced : Type 0
FrontIsPlaced = (ps qs : List Part) (at : ℕ) → Placed at (ps ++ qs) → Placed at ps

-- the others stand behind the first ones
abbrev pub BackIsPlaced : Type 0
BackIsPlaced = (ps qs : List Part) (at : ℕ) → Placed at (ps ++ qs) → Placed (at + size ps) qs

-- parts at a place, and others behind them, stand there together
abbrev pub BothArePlaced : Type 0
BothArePlaced = (ps qs : List Part) (at : ℕ) → Placed at ps → Placed (at + size ps) qs → Placed at (ps ++ qs)
