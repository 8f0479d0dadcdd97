-- What a request comes to, by its command and by the bytes that were read.
use Rattle.std.proofs.Common.{◌≡◌, ◌≤◌, ◌<◌, ℕ, Bool, List, [], ◌∷◌, Option, Vec, Bor, length, refl, sym, subst, arith}
use Rattle.std.specs.declared.alloc.Global.{Global}
use Rattle.std.proofs.Math.ListN.{get_or}
use Rattle.std.specs.Option.{option_copied}
use Rattle.toml_tree.specs.declared.profile.Profile.{Profile}
use Rattle.toml_layout.specs.declared.layout.Layout as editor
use Rattle.toml_words.specs.Request.{asked_by, asked_edit}
use Rattle.toml_words.specs.declared.request.Destination.{Destination}
use Rattle.toml_words.specs.declared.request.Form.{Form}
use Rattle.toml_words.specs.declared.request.Layout.{Layout}
use Rattle.toml_words.specs.declared.request.OneEdit.{OneEdit}
use Rattle.toml_words.specs.declared.request.Request.{Request}
use Rattle.toml_words.specs.declared.request.Request.TheVariants as requests
use Rattle.toml_commands.specs.Answering.{IsAnswer, IsShown, OfTwo, OfThree, OfFour, get_form, text_layout}
use Rattle.toml_commands.specs.Apply.{Applies}
use Rattle.toml_commands.specs.Certify.{Certifies}
use Rattle.toml_commands.specs.Check.{Checks}
use Rattle.toml_commands.specs.Edit.{Edits}
use Rattle.toml_commands.specs.Get.{Gets}
use Rattle.toml_commands.specs.One.{MakesWish, wished_by}
use Rattle.toml_delivery.specs.Outcomes.{texts_of}
use Rattle.toml_commands.specs.Verify.{Verifies}
use Rattle.toml_commands.specs.declared.get.GetForm.{GetForm}
use Rattle.toml_delivery.specs.declared.outcome.Outcome.{Outcome}

-- a list of so many, by its items
pub two_of : {X : Type 0} (xs : List X) (a b : X) → 2 ≤ length xs → length xs < 3 → a ≡ get_or xs 0 a → b ≡ get_or xs 1 b → xs ≡ a ∷ b ∷ []
two_of [] a b low high p q = absurd (omega arith)
two_of (x ∷ []) a b low high p q = absurd (omega arith)
two_of (x ∷ y ∷ []) a b low high p q = subst (λ c. x ∷ y ∷ [] ≡ c ∷ b ∷ []) (sym p) (subst (λ c. x ∷ y ∷ [] ≡ x ∷ c ∷ []) (sym q) refl)
two_of (x ∷ y ∷ z ∷ xs) a b low high p q = absurd (omega arith)

pub three_of : {X : Type 0} (xs : List X) (a b c : X) → 3 ≤ length xs → length xs < 4 → a ≡ get_or xs 0 a → b ≡ get_or xs 1 b → c ≡ get_or xs 2 c → xs ≡ a ∷ b ∷ c ∷ []
three_of [] a b c low high p q r = absurd (omega arith)
three_of (x ∷ xs) a b c low high p q r = subst (λ d. x ∷ xs ≡ d ∷ b ∷ c ∷ []) (sym p) (subst (λ ys. x ∷ xs ≡ x ∷ ys) (two_of xs b c (omega arith) (omega arith) q r) refl)

pub four_of : {X : Type 0} (xs : List X) (a b c d : X) → 4 ≤ length xs → length xs < 5 → a ≡ get_or xs 0 a → b ≡ get_or xs 1 b → c ≡ get_or xs 2 c → d ≡ get_or xs 3 d → xs ≡ a ∷ b ∷ c ∷ d ∷ []
four_of [] a b c d low high p q r s = absurd (omega arith)
four_of (x ∷ xs) a b c d low high p q r s = subst (λ e. x ∷ xs ≡ e ∷ b ∷ c ∷ d ∷ []) (sym p) (subst (λ ys. x ∷ xs ≡ x ∷ ys) (three_of xs b c d (omega arith) (omega arith) q r s) refl)

-- of one file
module _ (request : Request) (profile : Profile) (bytes : List ℕ) (o : Outcome) where
  pub shows : (file : Bor (List ℕ)) (listed explain : Bool) → request ≡ requests.Show file listed explain profile → IsShown listed profile bytes o → IsAnswer (asked_by request) (bytes ∷ []) o
  shows file listed explain is so = subst (λ r. IsAnswer (asked_by r) (bytes ∷ []) o) (sym is) so

  pub checks : (file : Bor (List ℕ)) (explain : Bool) → request ≡ requests.Check file explain profile → Checks profile bytes o → IsAnswer (asked_by request) (bytes ∷ []) o
  checks file explain is so = subst (λ r. IsAnswer (asked_by r) (bytes ∷ []) o) (sym is) so

  pub gets : (file place : Bor (List ℕ)) (form : Form) (default : Option (Bor (List ℕ))) → request ≡ requests.Get file place form default profile
      → (steps : List ℕ) → steps ≡ place.now → (in_form : GetForm) → in_form ≡ get_form form → (other : Option (Bor (List ℕ))) → option_copied other ≡ option_copied default
      → Gets profile bytes steps in_form (option_copied other) o → IsAnswer (asked_by request) (bytes ∷ []) o
  gets file place form default is steps steps_is in_form form_is other default_is so =
      subst (λ r. IsAnswer (asked_by r) (bytes ∷ []) o) (sym is)
      (subst (λ s. Gets profile bytes s (get_form form) (option_copied default) o) steps_is
      (subst (λ f. Gets profile bytes steps f (option_copied default) o) form_is
      (subst (λ d. Gets profile bytes steps in_form d o) default_is so)))

  pub makes_wish : (file place : Bor (List ℕ)) (e : OneEdit) (destination : Destination) (layout : Layout) → request ≡ requests.One file place e destination layout profile
      → (steps : List ℕ) → steps ≡ place.now → (laid : editor.Layout) → laid ≡ text_layout layout → MakesWish laid profile bytes steps (wished_by (asked_edit e)) o → IsAnswer (asked_by request) (bytes ∷ []) o
  makes_wish file place e destination layout is steps steps_is laid laid_is so =
      subst (λ r. IsAnswer (asked_by r) (bytes ∷ []) o) (sym is)
      (subst (λ s. MakesWish (text_layout layout) profile bytes s (wished_by (asked_edit e)) o) steps_is
      (subst (λ l. MakesWish l profile bytes steps (wished_by (asked_edit e)) o) laid_is so))

-- of more
module _ (request : Request) (xs : List (Vec ℕ Global)) (o : Outcome) (profile : Profile) (first second : List ℕ) where
  pub applies : (file list : Bor (List ℕ)) (destination : Destination) (layout : Layout) → request ≡ requests.Apply file list destination layout profile
      → (laid : editor.Layout) → laid ≡ text_layout layout → (a b : Vec ℕ Global) → xs ≡ a ∷ b ∷ [] → first ≡ a.items → second ≡ b.items → Applies laid profile first second o → IsAnswer (asked_by request) (texts_of xs) o
  applies file list destination layout is laid laid_is a b items p q so =
      subst (λ r. IsAnswer (asked_by r) (texts_of xs) o) (sym is)
      (subst (λ (ys : List (Vec ℕ Global)). OfTwo (λ one two. Applies (text_layout layout) profile one two o) (texts_of ys)) (sym items)
      (subst (λ l. Applies l profile a.items b.items o) laid_is
      (subst (λ t. Applies laid profile a.items t o) q (subst (λ t. Applies laid profile t second o) p so))))

  pub edits : (file list out cert : Bor (List ℕ)) (explain : Bool) → request ≡ requests.Edit file list out cert explain profile
      → (a b : Vec ℕ Global) → xs ≡ a ∷ b ∷ [] → first ≡ a.items → second ≡ b.items → Edits profile first second o → IsAnswer (asked_by request) (texts_of xs) o
  edits file list out cert explain is a b items p q so =
      subst (λ r. IsAnswer (asked_by r) (texts_of xs) o) (sym is)
      (subst (λ (ys : List (Vec ℕ Global)). OfTwo (λ one two. Edits profile one two o) (texts_of ys)) (sym items)
      (subst (λ t. Edits profile a.items t o) q (subst (λ t. Edits profile t second o) p so)))

  module _ (third : List ℕ) where
    pub certifies : (before list after : Bor (List ℕ)) (cert : Option (Bor (List ℕ))) → request ≡ requests.Certify before list after cert profile
        → (a b c : Vec ℕ Global) → xs ≡ a ∷ b ∷ c ∷ [] → first ≡ a.items → second ≡ b.items → third ≡ c.items → Certifies profile first second third o
        → IsAnswer (asked_by request) (texts_of xs) o
    certifies before list after cert is a b c items p q r so =
        subst (λ x. IsAnswer (asked_by x) (texts_of xs) o) (sym is)
        (subst (λ (ys : List (Vec ℕ Global)). OfThree (λ one two three. Certifies profile one two three o) (texts_of ys)) (sym items)
        (subst (λ t. Certifies profile a.items b.items t o) r (subst (λ t. Certifies profile a.items t third o) q (subst (λ t. Certifies profile t second third o) p so))))

    pub verifies : (fourth : List ℕ) (before list after cert : Bor (List ℕ)) (explain : Bool) → request ≡ requests.Verify before list after cert explain profile
        → (a b c d : Vec ℕ Global) → xs ≡ a ∷ b ∷ c ∷ d ∷ [] → first ≡ a.items → second ≡ b.items → third ≡ c.items → fourth ≡ d.items
        → Verifies profile first second third fourth o → IsAnswer (asked_by request) (texts_of xs) o
    verifies fourth before list after cert explain is a b c d items p q r s so =
        subst (λ x. IsAnswer (asked_by x) (texts_of xs) o) (sym is)
        (subst (λ (ys : List (Vec ℕ Global)). OfFour (λ one two three four. Verifies profile one two three four o) (texts_of ys)) (sym items)
        (subst (λ t. Verifies profile a.items b.items c.items t o) s (subst (λ t. Verifies profile a.items b.items t fourth o) r
        (subst (λ t. Verifies profile a.items t third fourth o) q (subst (λ t. Verifies profile t second third fourth o) p so)))))
