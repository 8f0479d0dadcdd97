-- What a reader of the code answers, against the plain reader.
use Rattle.std.specs.Prelude.{◌≡◌, ◌≤◌, ◌<◌, ℕ, ◌+◌, List, [], ◌∷◌, ◌++◌, length, drop, Option, Some, None, Result, Ok, Err, IfSome}
use Rattle.toml_text.specs.Source.{text_of}
use Rattle.toml_scalar.specs.Faults.{place_of}
use Rattle.toml_scalar.specs.declared.fault.SyntaxFault.{SyntaxFault}
use Rattle.toml_tree.specs.declared.reader.Reader.{Reader}
use Rattle.toml_tree.specs.declared.step.Step.{Step}
use Rattle.toml_tree.specs.declared.step.Step.TheVariants.{Next, Done}
use Rattle.toml_tree.specs.Reading.{Cursor, ◌>>=◌}

-- where a reader stands
abbrev pub cursor : Reader → Cursor
cursor r = record { at = r.at; rest = drop r.at (text_of r.source) }

-- where its text ends
abbrev pub end : Cursor → ℕ
end c = c.at + length c.rest

-- the new place is no earlier, and the text has the same end
pub record Onward (old new : Cursor) : Type 0 where
  pub total : end new ≡ end old
  pub onward : old.at ≤ new.at

-- a step of a loop moves on
abbrev pub Moves : {A B : Type 0} → Cursor → Cursor → Step A B → Type 0
Moves old new (Next a) = old.at < new.at
Moves old new (Done b) = Unit {0}

abbrev pub step : {A B X Y : Type 0} → (A → X) → (B → Y) → Step A B → Step X Y
step f g (Next a) = Next (f a)
step f g (Done b) = Done (g b)

-- a step behind what was read before: that and one more, or all with the end
abbrev pub behind : {A B : Type 0} → (List A → B → B) → List A → Option (Step A B × Cursor) → Option (Step (List A) B × Cursor)
behind end front read = read >>= λ r. Some (step (λ a. front ++ a ∷ []) (end front) r.0, r.1)

-- what was read to the end, and where it ends
abbrev pub joined : {A B : Type 0} → (List A → B → B) → List A × B × Cursor → B × Cursor
joined end r = (end r.0 r.1, r.2)

-- a refusal says that there is nothing to read, and its place is no further than the end
abbrev pub Fails : {Y : Type 0} → ℕ → SyntaxFault → Option Y → Type 0
Fails last fault read = IfSome (place_of fault) (λ at. (at ≤ last) × (read ≡ None))

-- What a reader returned, seen by the view, is what the plain reader reads, unless memory ran out.
abbrev pub Reads : {X Y : Type 0} → (X → Y) → Cursor → Cursor → Result X SyntaxFault → Option (Y × Cursor) → Type 0
Reads view old new (Ok x) read = (read ≡ Some (view x, new)) × Onward old new
Reads view old new (Err e) read = Fails (end old) e read

-- the same of a plain reader that begins where the reader stood
abbrev pub ReadsAs : {X Y : Type 0} → (X → Y) → Reader → Reader → Result X SyntaxFault → (Cursor → Option (Y × Cursor)) → Type 0
ReadsAs view old new result plain = Reads view (cursor old) (cursor new) result (plain (cursor old))
