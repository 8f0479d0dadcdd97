-- `rename` on outlines. The parts get the text in which the new name is spelled.
use Rattle.std.specs.Prelude.{◌≡◌, ℕ, false, ◌+◌, List, [], ◌∷◌, Some, None, if◌then◌else◌}
use Rattle.toml_names.specs.mentions.Keys.{spelled_name}
use Rattle.toml_names.specs.model.Addresses.{Address, same_address, is_above, child, element, below}
use Rattle.toml_layout.specs.Outlines.{DottedOutline, AssignOutline, ValueOutline, Token, Listed, Braced, EntriesOutline, End, Entry}
use Rattle.toml_layout.specs.SetOutlines.{outlined_names}

-- a part that stands for `here`
abbrev pub rename_text : Address → List ℕ → Address → List ℕ → List ℕ
rename_text p text here part = if same_address here p then text else part

-- the parts behind one that led to `here`
abbrev pub rename_dotted : Address → List ℕ → Address → List DottedOutline → List DottedOutline
rename_dotted p text here [] = []
rename_dotted p text here (d ∷ ds) =
    let next = child here (spelled_name d.part) in
    record { before_dot = d.before_dot; after_dot = d.after_dot; part = rename_text p text next d.part } ∷ rename_dotted p text next ds

-- the key of a pair in the table at `at`
abbrev pub rename_outlined : Address → List ℕ → Address → AssignOutline → AssignOutline
rename_outlined p text at a =
    let here = child at (spelled_name a.first) in
    record {
      first = rename_text p text here a.first;
      rest = rename_dotted p text here a.rest;
      before_equals = a.before_equals;
      after_equals = a.after_equals;
    }

abbrev mutual
  pub rename_outline : Address → List ℕ → Address → ValueOutline → ValueOutline
  rename_outline p text at (Token token) = Token token
  rename_outline p text at (Listed opening es) = Listed opening (rename_listed p text at 0 es)
  rename_outline p text at (Braced opening es) = Braced opening (rename_braced p text at es)

  -- elements, from the index on
  pub rename_listed : Address → List ℕ → Address → ℕ → EntriesOutline → EntriesOutline
  rename_listed p text at i (End gap) = End gap
  rename_listed p text at i (Entry before a v after es) =
      Entry before a (rename_outline p text (element at i) v) after (rename_listed p text at (i + 1) es)

  -- pairs
  pub rename_braced : Address → List ℕ → Address → EntriesOutline → EntriesOutline
  rename_braced p text at (End gap) = End gap
  rename_braced p text at (Entry before None v after es) = Entry before None v after (rename_braced p text at es)
  rename_braced p text at (Entry before (Some a) v after es) =
      Entry before (Some (rename_outlined p text at a)) (rename_outline p text (below at (outlined_names a)) v) after
      (rename_braced p text at es)

-- Law: a value that is not strictly above the address stays as it is.
abbrev pub RenameStaysAside : Type 0
RenameStaysAside = (p : Address) (text : List ℕ) (at : Address) (v : ValueOutline) → is_above at p ≡ false → rename_outline p text at v ≡ v
