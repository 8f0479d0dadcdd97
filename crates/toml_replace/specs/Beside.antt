-- The names of new files.
use Rattle.std.specs.Prelude.{◌≡◌, ◌≢◌, ◌⊎◌, ℕ, List, [], ◌∷◌, ◌++◌, codes, decimal}
use Rattle.std.specs.List.{AllByRecursion}

-- no path, or one with the slash at its end
abbrev pub IsFolder : List ℕ → Type 0
IsFolder folder = (folder ≡ []) ⊎ ((path : List ℕ) × (folder ≡ path ++ 0x2F ∷ []))

-- what stands behind the file's name
abbrev pub suffix : ℕ → List ℕ
suffix number = codes ".tomled" ++ decimal number

-- in the file's folder: a dot, the file's name, and a suffix
pub record IsBeside (file new : List ℕ) : Type 0 where
  pub folder : List ℕ
  pub name : List ℕ
  pub number : ℕ
  pub is_folder : IsFolder folder
  pub is_name : AllByRecursion (λ byte. byte ≢ 0x2F) name
  pub file_is : file ≡ folder ++ name
  pub new_is : new ≡ folder ++ 0x2E ∷ (name ++ suffix number)
  pub other : new ≢ file
