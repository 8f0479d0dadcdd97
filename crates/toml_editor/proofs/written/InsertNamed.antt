-- What is named after an `insert`.
use Rattle.std.proofs.Common.{◌≡◌, ℕ, List, [], ◌∷◌, ◌++◌, refl, sym, ap, ap₂, ◌∙◌, append_assoc}
use Rattle.toml_tree.specs.Bare.{fresh}
use Rattle.toml_tree.specs.Tree.{Value, Line}
use Rattle.toml_names.specs.declared.mentions.mention.Role.TheVariants.{Valued}
use Rattle.toml_names.specs.mentions.Keys.{Key}
use Rattle.toml_names.specs.mentions.Mentions.{Named, fronts, named, named_by, root, section, value_named, inside}
use Rattle.toml_names.specs.model.Addresses.{Address, below}
use Rattle.toml_working.specs.Inserting.{new_assign, new_expr, new_line, line_put}
use Rattle.toml_working.specs.Manners.{Manner}
use Rattle.toml_layout.specs.Spacings.{Spacing}
use Rattle.toml_editor.specs.Blocks.{named_plain, value_block}
use Rattle.toml_editor.proofs.written.Alike.{alike_self, alike_pair}
use Rattle.toml_editor.proofs.written.FreshKeys.{key_again}
use Rattle.toml_editor.proofs.written.Plain.{behind, behind_alike, plain_alike, plain_is, plain_parts}

module _ (at : Address) (name : List ℕ) (names : Key) (v : Value) where
  abbrev pub key : Key
  key = name ∷ names

  -- the tables that the key passes, and the value
  abbrev pub key_block : List Named
  key_block = fronts 0 at key ++ value_block (below at key) v

  new_named : (s : Spacing) (xs : List Named) → section xs ≡ at → named_by xs 0 (new_expr s key v) ≡ key_block
  new_named s xs there =
      ap₂ (λ a k. fronts 0 a k ++ (value_named 0 Valued (below a k) v ∷ inside 0 (below a k) v)) there (key_again name names)

  -- so the line names behind others, and they name what they did
  pub next_named : (s : Spacing) (newline : List ℕ) (xs : List Named) (ls : List Line) → section xs ≡ at
      → behind xs (new_line s key v newline ∷ ls) ≡ key_block ++ behind xs ls
  next_named s newline xs ls there =
      ap₂ (λ t u. t ++ u) (new_named s xs there)
      (sym (behind_alike ls xs (xs ++ named_by xs 0 (new_expr s key v)) (alike_pair xs xs (alike_self xs) 0 (section xs) (new_assign s key) v)))

  -- the same behind a line, which may get a newline
  pub line_named : (manner : Manner) (s : Spacing) (front : List Line) (l : Line) (back : List Line) → section (named (front ++ l ∷ [])) ≡ at
      → named_plain (front ++ line_put s key v manner l back) ≡ named_plain (front ++ l ∷ []) ++ (key_block ++ behind (named_plain (front ++ l ∷ [])) back)
  line_named manner s front l back there =
      by back
      ∙ ap (λ r. named_plain (front ++ l ∷ []) ++ r) (next_named s [] (named_plain (front ++ l ∷ [])) back (sym (plain_alike (named (front ++ l ∷ []))).sections ∙ there))
    where
      xs : List Named
      xs = named_plain (front ++ l ∷ [])

      ended_from : (ls : List Line) (ys : List Named) → behind ys (ls ++ record { expr = l.expr; newline = fresh manner.newline } ∷ []) ≡ behind ys (ls ++ l ∷ [])
      ended_from [] ys = refl
      ended_from (k ∷ ls) ys = ap (λ r. named_by ys 0 k.expr ++ r) (ended_from ls (ys ++ named_by ys 0 k.expr))

      ended_plain : (ls : List Line) → named_plain (ls ++ record { expr = l.expr; newline = fresh manner.newline } ∷ []) ≡ named_plain (ls ++ l ∷ [])
      ended_plain ls =
          plain_is (ls ++ record { expr = l.expr; newline = fresh manner.newline } ∷ []) ∙ ap (λ r. root ∷ r) (ended_from ls (root ∷ []))
          ∙ sym (plain_is (ls ++ l ∷ []))

      by : (ls : List Line) → named_plain (front ++ line_put s key v manner l ls) ≡ xs ++ behind xs (new_line s key v [] ∷ ls)
      by [] =
          ap named_plain (sym (append_assoc front (record { expr = l.expr; newline = fresh manner.newline } ∷ []) (new_line s key v [] ∷ [])))
          ∙ plain_parts (front ++ record { expr = l.expr; newline = fresh manner.newline } ∷ []) (new_line s key v [] ∷ [])
          ∙ ap (λ ms. ms ++ behind ms (new_line s key v [] ∷ [])) (ended_plain front)
      by (m ∷ ms) =
          ap named_plain (sym (append_assoc front (l ∷ []) (new_line s key v manner.newline ∷ m ∷ ms)))
          ∙ plain_parts (front ++ l ∷ []) (new_line s key v manner.newline ∷ m ∷ ms)

-- what was named by lines up to one, and behind it
pub named_parts : (front : List Line) (l : Line) (back : List Line)
    → named_plain (front ++ l ∷ back) ≡ named_plain (front ++ l ∷ []) ++ behind (named_plain (front ++ l ∷ [])) back
named_parts front l back = ap named_plain (sym (append_assoc front (l ∷ []) back)) ∙ plain_parts (front ++ l ∷ []) back
