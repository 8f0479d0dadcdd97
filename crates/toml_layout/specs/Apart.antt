-- Keys that are apart: no pair of an inline table stands at another's value or in it, as the table rules have it.
use Rattle.std.specs.Prelude.{◌≡◌, Bool, false, List, [], ◌∷◌, Some, None, All}
use Rattle.std.specs.Str.{bytes_eq}
use Rattle.toml_names.specs.mentions.Keys.{Key}
use Rattle.toml_layout.specs.Beginnings.{begins_by}
use Rattle.toml_layout.specs.Outlines.{ValueOutline, Token, Listed, Braced, EntriesOutline, End, Entry}
use Rattle.toml_layout.specs.SetOutlines.{outlined_names}

-- whether the first key is a beginning of the second, or all of it
abbrev pub begins_key : Key → Key → Bool
begins_key = begins_by bytes_eq

-- the keys of pairs
abbrev pub keys_of : EntriesOutline → List Key
keys_of (End gap) = []
keys_of (Entry before None v after es) = keys_of es
keys_of (Entry before (Some a) v after es) = outlined_names a ∷ keys_of es

-- none is a beginning of another
abbrev pub KeysApart : List Key → Type 0
KeysApart [] = Unit {0}
KeysApart (k ∷ ks) = All (λ l. (begins_key k l ≡ false) × (begins_key l k ≡ false)) ks × KeysApart ks

-- so it is in each inline table that stands in the value
abbrev mutual
  pub HasKeysApart : ValueOutline → Type 0
  HasKeysApart (Token text) = Unit {0}
  HasKeysApart (Listed opening es) = EachApart es
  HasKeysApart (Braced opening es) = KeysApart (keys_of es) × EachApart es

  pub EachApart : EntriesOutline → Type 0
  EachApart (End gap) = Unit {0}
  EachApart (Entry before a v after es) = HasKeysApart v × EachApart es
