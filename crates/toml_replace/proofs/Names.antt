-- The paths of new files.
use Rattle.std.proofs.Common.{◌≡◌, ◌≢◌, ◌+◌, ◌<◌, ℕ, ◌≤◌, suc, length, get_or, take, drop, Some, None, subst}
use Rattle.std.proofs.Common.{take-append-drop, List, [], ◌∷◌, ◌++◌, inl, inr, refl, sym, ap, ◌∙◌, append_assoc, arith, length-append}
use Rattle.std.specs.List.{AllByRecursion}
use Rattle.std.specs.Str.Pattern.{RFindsChar}
use Rattle.std.proofs.lemmas.Str.Pattern.{NoCharPasses-char, drop_at_char}
use Rattle.toml_replace.specs.Beside.{IsBeside, suffix}

-- no byte is this one
abbrev pub Lacks : ℕ → List ℕ → Type 0
Lacks c bytes = (i : ℕ) → i < length bytes → get_or bytes i 0 ≢ c

lacks_each : (bytes : List ℕ) → Lacks 47 bytes → AllByRecursion (λ byte. byte ≢ 47) bytes
lacks_each [] lacks = tt
lacks_each (b ∷ bytes) lacks = (lacks 0 (omega arith), lacks_each bytes (λ i l e. lacks (suc i) (omega arith) e))

longer : (folder name rest file new : List ℕ) → file ≡ folder ++ name → new ≡ folder ++ 46 ∷ (name ++ rest) → new ≢ file
longer folder name rest file new file_is new_is = λ same.
    let lengths : length (folder ++ 46 ∷ (name ++ rest)) ≡ length (folder ++ name) = ap length (sym new_is ∙ same ∙ file_is) in
    omega (arith, lengths, length-append folder (46 ∷ (name ++ rest)), length-append folder name, length-append name rest)

-- a path and its parts at the last slash
pub split_at_slash : (file folder name : List ℕ)
    → ((i : ℕ) × (j : ℕ) × RFindsChar 47 file (Some (i, j)) × (folder ≡ take i file) × (name ≡ drop j file) × (i ≤ j) × (length folder ≡ i) ×
    (length name + j ≡ length file))
    → (file ≡ folder ++ 47 ∷ name) × Lacks 47 name
split_at_slash file folder name h = (
  sym (take-append-drop h.0 file) ∙ ap (λ l. take h.0 file ++ l) (drop_at_char 47 file h.0 h.1 h.2.1 (omega arith))
      ∙ ap (λ l. l ++ 47 ∷ drop h.1 file) (sym h.3) ∙ ap (λ l. folder ++ 47 ∷ l) (sym h.4),
  subst (Lacks 47) (sym h.4) (λ i low. NoCharPasses-char 47 (drop h.1 file) i h.2.0 (omega arith) low),
)

pub no_slash : (file : List ℕ) → RFindsChar 47 file None → Lacks 47 file
no_slash file h = λ i low. NoCharPasses-char 47 file i h (omega arith) low

-- the path in the folder before the slash
abbrev pub in_folder : List ℕ → List ℕ → ℕ → List ℕ
in_folder folder name number = folder ++ 47 ∷ 46 ∷ (name ++ suffix number)

pub beside_in_folder : (file folder name new : List ℕ) (number : ℕ) → file ≡ folder ++ 47 ∷ name → Lacks 47 name → new ≡ in_folder folder name number
    → IsBeside file new
beside_in_folder file folder name new number file_is lacks new_is =
    let slashed = folder ++ 47 ∷ [] in
    let file_parts : file ≡ slashed ++ name = file_is ∙ sym (append_assoc folder (47 ∷ []) name) in
    let new_parts : new ≡ slashed ++ 46 ∷ (name ++ suffix number) = new_is ∙ sym (append_assoc folder (47 ∷ []) (46 ∷ (name ++ suffix number))) in
    record {
      folder = slashed;
      name = name;
      number = number;
      is_folder = inr (folder, refl);
      is_name = lacks_each name lacks;
      file_is = file_parts;
      new_is = new_parts;
      other = longer slashed name (suffix number) file new file_parts new_parts;
    }

-- the path where there is no folder
pub beside_alone : (file new : List ℕ) (number : ℕ) → Lacks 47 file → new ≡ 46 ∷ (file ++ suffix number) → IsBeside file new
beside_alone file new number lacks new_is = record {
  folder = [];
  name = file;
  number = number;
  is_folder = inl refl;
  is_name = lacks_each file lacks;
  file_is = refl;
  new_is = new_is;
  other = longer [] file (suffix number) file new refl new_is;
}
