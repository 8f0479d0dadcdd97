-- What is printed of the tokens of a tree.
use Rattle.std.proofs.Common.{◌≡◌, ◌∷◌, ◌++◌, ℕ, Bool, true, false, cond, List, [], refl, sym, ap, ◌∙◌, append_assoc}
use Rattle.std.proofs.lemmas.List.{append-nil}
use Rattle.json.specs.Print.{escape_byte, print, print_from, quoted, token_text, begins, ends}
use Rattle.json.specs.Token.{Token, begin_object, begin_array, end_array, end_object, key, string}
use Rattle.json.specs.Written.{Written}
use Rattle.serde_json.specs.Data as json
use Rattle.serde_json.specs.Written.{comma_if, compact_text}
use Rattle.toml_scalar.specs.Values.{ScalarValue, Text, Integer, Float, Boolean, Moment}
use Rattle.toml_names.specs.model.Data.{Kinds}
use Rattle.toml_print.specs.JsonTexts.{text_with, items_with, members_with, scalar_text, json_scalar, is_json_number}
use Rattle.toml_print.specs.Tagged.{tag_of, text_of, told}
use Rattle.toml_print.specs.Tokens.{tree_tokens, items_tokens, members_tokens, scalar_tokens, json_token, float_token, told_tokens, WritesTree}
use Rattle.toml_print.specs.Trees.{Tree, scalar, array, table, Items, no_items, item, Members, no_members, member}
use Rattle.toml_print.specs.Writing.{Writes}
use Rattle.toml_print.specs.declared.style.Style.{Style}
use Rattle.toml_print.specs.declared.style.Style.TheVariants as styles

-- the tokens are those of one value, whose text is this: whatever follows them
abbrev AreValue : List Token → List ℕ → Type 0
AreValue ts text = (after : Bool) (rest : List Token) → print_from after (ts ++ rest) ≡ comma_if after ++ (text ++ print_from true rest)

-- a token that is a value
abbrev IsValue : Token → Type 0
IsValue t = (begins t ≡ true) × (ends t ≡ true)

one_token : (t : Token) → IsValue t → AreValue (t ∷ []) (token_text t)
unfolding print_from
one_token t is true rest = rw (is.0, is.1) refl
one_token t is false rest = rw (is.1) refl

float_is_value : (number_it : Bool) (v : List ℕ) → IsValue (cond number_it (Token.number v) (Token.string v)) × (token_text (cond number_it (Token.number v) (Token.string v)) ≡ cond number_it v (quoted v))
float_is_value true v = ((refl, refl), refl)
float_is_value false v = ((refl, refl), refl)

json_value : (v : ScalarValue) → AreValue (json_token v ∷ []) (json_scalar v)
json_value (Text v) = one_token (string v) (refl, refl)
json_value (Integer n) = one_token (json_token (Integer n)) (refl, refl)
json_value (Float v) =
    let f = float_is_value (is_json_number v) v in
    λ after rest. one_token (float_token v) f.0 after rest ∙ ap (λ s. comma_if after ++ (s ++ print_from true rest)) f.1
json_value (Boolean true) = one_token (Token.boolean true) (refl, refl)
json_value (Boolean false) = one_token (Token.boolean false) (refl, refl)
json_value (Moment kind v) = one_token (string v) (refl, refl)

told_value : (tag text : List ℕ) → AreValue (told_tokens tag text) (compact_text (json.object (told tag text)))
unfolding print_from escape_byte
told_value tag text true rest = simp append_assoc refl
told_value tag text false rest = simp append_assoc refl

scalar_value_is : (style : Style) (v : ScalarValue) → AreValue (scalar_tokens style v) (scalar_text style v)
scalar_value_is styles.Plain v = json_value v
scalar_value_is styles.Tagged v = told_value (tag_of v) (text_of v)

-- a bracket opens
opened : (t : Token) (b : ℕ) → begins t ≡ true → ends t ≡ false → token_text t ≡ b ∷ [] → (after : Bool) (rest : List Token) → print_from after (t ∷ rest) ≡ comma_if after ++ (b ∷ print_from false rest)
unfolding print_from
opened t b begin end text true rest = rw (begin, end, text) refl
opened t b begin end text false rest = rw (end, text) refl

-- a bracket closes
closed : (t : Token) (b : ℕ) → begins t ≡ false → ends t ≡ true → token_text t ≡ b ∷ [] → (after : Bool) (rest : List Token) → print_from after (t ∷ rest) ≡ b ∷ print_from true rest
unfolding print_from
closed t b begin end text true rest = rw (begin, end, text) refl
closed t b begin end text false rest = rw (end, text) refl

-- a name and its colon
named : (n : List ℕ) (after : Bool) (rest : List Token) → print_from after (key n ∷ rest) ≡ comma_if after ++ (quoted n ++ 58 ∷ print_from false rest)
unfolding print_from
named n true rest = ap (λ s. 44 ∷ s) (append_assoc (quoted n) (58 ∷ []) (print_from false rest))
named n false rest = append_assoc (quoted n) (58 ∷ []) (print_from false rest)

item_parts : (comma text items rest : List ℕ) → comma ++ (text ++ (items ++ rest)) ≡ (comma ++ (text ++ items)) ++ rest
item_parts comma text items rest = simp append_assoc refl

member_parts : (comma name text members rest : List ℕ) → comma ++ (name ++ 58 ∷ (text ++ (members ++ rest))) ≡ (comma ++ (name ++ 58 ∷ (text ++ members))) ++ rest
member_parts comma name text members rest = simp append_assoc refl

module _ (style : Style) where
  mutual
    tree_value : (t : Tree) → AreValue (tree_tokens style t) (text_with (scalar_text style) t)
    tree_value (scalar v) after rest = scalar_value_is style v after rest
    tree_value (array ts) after rest =
        opened begin_array 91 refl refl refl after (items_tokens style ts ++ rest) ∙ ap (λ s. comma_if after ++ (91 ∷ s)) (items_printed ts false rest)
    tree_value (table ms) after rest =
        opened begin_object 123 refl refl refl after (members_tokens style ms ++ rest) ∙ ap (λ s. comma_if after ++ (123 ∷ s)) (members_printed ms false rest)

    items_printed : (ts : Items) (later : Bool) (rest : List Token) → print_from later (items_tokens style ts ++ rest) ≡ items_with (scalar_text style) later ts ++ print_from true rest
    items_printed no_items later rest = closed end_array 93 refl refl refl later rest
    items_printed (item t ts) later rest =
        let write = scalar_text style in
        ap (print_from later) (append_assoc (tree_tokens style t) (items_tokens style ts) rest)
        ∙ tree_value t later (items_tokens style ts ++ rest)
        ∙ ap (λ s. comma_if later ++ (text_with write t ++ s)) (items_printed ts true rest)
        ∙ item_parts (comma_if later) (text_with write t) (items_with write true ts) (print_from true rest)

    members_printed : (ms : Members) (later : Bool) (rest : List Token) → print_from later (members_tokens style ms ++ rest) ≡ members_with (scalar_text style) later ms ++ print_from true rest
    members_printed no_members later rest = closed end_object 125 refl refl refl later rest
    members_printed (member n t ms) later rest =
        let write = scalar_text style in
        named n later ((tree_tokens style t ++ members_tokens style ms) ++ rest)
        ∙ ap (λ ts. comma_if later ++ (quoted n ++ 58 ∷ print_from false ts)) (append_assoc (tree_tokens style t) (members_tokens style ms) rest)
        ∙ ap (λ s. comma_if later ++ (quoted n ++ 58 ∷ s)) (tree_value t false (members_tokens style ms ++ rest))
        ∙ ap (λ s. comma_if later ++ (quoted n ++ 58 ∷ (text_with write t ++ s))) (members_printed ms true rest)
        ∙ member_parts (comma_if later) (quoted n) (text_with write t) (members_with write true ms) (print_from true rest)

tree_written : (style : Style) (t : Tree) → print (tree_tokens style t) ≡ text_with (scalar_text style) t
unfolding print_from
tree_written style t = ap print (sym (append-nil (tree_tokens style t))) ∙ tree_value style t false [] ∙ append-nil (text_with (scalar_text style) t)

-- what a writer made of the bytes before it gives back in the end
pub json_written : (style : Style) (f : Kinds) (old : List ℕ) (first last : Written) (new : List ℕ) → first.before ≡ old → first.tokens ≡ [] → new ≡ last.before ++ print last.tokens
    → WritesTree style f first last → Writes (scalar_text style) f old new
json_written style f old first last new before none text w =
    let tokens : last.tokens ≡ tree_tokens style w.tree = w.writes.1 ∙ ap (λ ts. ts ++ tree_tokens style w.tree) none in
    record {
      tree = w.tree;
      of_data = w.of_data;
      is = text ∙ ap (λ b. b ++ print last.tokens) (w.writes.0 ∙ before) ∙ ap (λ ts. old ++ print ts) tokens ∙ ap (λ s. old ++ s) (tree_written style w.tree);
    }
