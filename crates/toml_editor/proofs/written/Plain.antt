-- What is named, the numbers of lines aside.
use Rattle.std.proofs.Common.{◌≡◌, ℕ, ◌+◌, List, [], ◌∷◌, ◌++◌, map, refl, sym, ap, ap₂, ◌∙◌, append_assoc, append-nil, arith}
use Rattle.std.proofs.lemmas.List.{map-append}
use Rattle.std.specs.Prelude.{if◌then◌else◌}
use Rattle.toml_tree.specs.Bare.{fresh}
use Rattle.toml_tree.specs.Tree.{Assign, Value, Inline, LastPair, Expr, BlankLine, KeyValLine, TableLine, ArrayTableLine, Line}
use Rattle.toml_names.specs.declared.mentions.mention.Role.TheVariants.{Passed}
use Rattle.toml_names.specs.model.Addresses.{Address, child}
use Rattle.toml_names.specs.mentions.Keys.{Key, key_names}
use Rattle.toml_names.specs.mentions.Mentions.{Named, named_by, named_from, root, followed, entered, table_at, ends_table, ends_tables, section, section_from, is_section, count_tables}
use Rattle.toml_names.specs.mentions.Alike.{AreAlike}
use Rattle.toml_names.proofs.Proved.{alike_name_the_same, alike_stay_alike, inside_moves}
use Rattle.toml_editor.specs.Blocks.{unnumbered, named_plain}
use Rattle.toml_editor.proofs.written.Alike.{count_cons, alike_trans, alike_sym}

plain_section : (ms : List Named) (at : Address) → section_from at ms ≡ section_from at (map unnumbered ms)
plain_section [] at = refl
plain_section (m ∷ ms) at = plain_section ms (if is_section m.role then m.address else at)

plain_count : (ms : List Named) (at : Address) → count_tables ms at ≡ count_tables (map unnumbered ms) at
plain_count [] at = refl
plain_count (m ∷ ms) at = let more = plain_count ms at in omega (arith, more, count_cons m ms at, count_cons (unnumbered m) (map unnumbered ms) at)

pub plain_alike : (ms : List Named) → AreAlike ms (map unnumbered ms)
plain_alike ms = record { sections = plain_section ms []; counts = plain_count ms }

followed_plain : (ms : List Named) (key : Key) (n : ℕ) (e f : Address → List Named) (at : Address) → ((here : Address) → map unnumbered (e here) ≡ f here) → map unnumbered (followed n ms e at key) ≡ followed 0 ms f at key
followed_plain ms [] n e f at same = refl
followed_plain ms (k ∷ []) n e f at same = same (child at k)
followed_plain ms (k ∷ l ∷ more) n e f at same = ap (λ r. table_at 0 Passed (entered ms (child at k)) ∷ r) (followed_plain ms (l ∷ more) n e f (entered ms (child at k)) same)

-- an inline table of one pair, which names what the pair does
abbrev one_pair : Assign → Value → Value
one_pair a v = Inline (fresh []) (LastPair (record { lines = []; ws = fresh [] }) a v (record { lines = []; ws = fresh [] }))

line_plain : (ms : List Named) (n : ℕ) (e : Expr) → map unnumbered (named_by ms n e) ≡ named_by ms 0 e
line_plain ms n (BlankLine b) = refl
line_plain ms n (KeyValLine ws pair tail) = sym (inside_moves 0 n (one_pair pair.assign pair.value) [] (section ms))
line_plain ms n (TableLine ws header tail) = followed_plain ms (key_names header.key) n (ends_table n) (ends_table 0) [] (λ here. refl)
line_plain ms n (ArrayTableLine ws header tail) = followed_plain ms (key_names header.key) n (ends_tables n ms) (ends_tables 0 ms) [] (λ here. refl)

-- what lines name behind what was named before, all as of one line
abbrev pub behind : List Named → List Line → List Named
behind ms [] = []
behind ms (l ∷ ls) = named_by ms 0 l.expr ++ behind (ms ++ named_by ms 0 l.expr) ls

-- behind alike lists the same is named
pub behind_alike : (ls : List Line) (xs ys : List Named) → AreAlike xs ys → behind xs ls ≡ behind ys ls
behind_alike [] xs ys alike = refl
behind_alike (l ∷ ls) xs ys alike =
    let same = alike_name_the_same xs ys alike 0 l.expr in
    ap₂ (λ s t. s ++ t) same
    (behind_alike ls (xs ++ named_by xs 0 l.expr) (ys ++ named_by xs 0 l.expr) (alike_stay_alike xs ys (named_by xs 0 l.expr) alike) ∙ ap (λ r. behind (ys ++ r) ls) same)

plain_from : (ls : List Line) (ms : List Named) (n : ℕ) → map unnumbered (named_from ms n ls) ≡ map unnumbered ms ++ behind (map unnumbered ms) ls
plain_from [] ms n = sym (Rattle.std.proofs.Common.append-nil (map unnumbered ms))
plain_from (l ∷ ls) ms n =
    let new : map unnumbered (named_by ms n l.expr) ≡ named_by (map unnumbered ms) 0 l.expr = line_plain ms n l.expr ∙ alike_name_the_same ms (map unnumbered ms) (plain_alike ms) 0 l.expr in
    plain_from ls (ms ++ named_by ms n l.expr) (n + 1)
    ∙ ap (λ r. r ++ behind r ls) (map-append unnumbered ms (named_by ms n l.expr) ∙ ap (λ r. map unnumbered ms ++ r) new)
    ∙ Rattle.std.proofs.Common.append_assoc (map unnumbered ms) (named_by (map unnumbered ms) 0 l.expr) (behind (map unnumbered ms ++ named_by (map unnumbered ms) 0 l.expr) ls)

pub plain_is : (lines : List Line) → named_plain lines ≡ root ∷ behind (root ∷ []) lines
plain_is lines = plain_from lines (root ∷ []) 0

-- what lines name, and lines behind them
pub behind_parts : (a b : List Line) (ys : List Named) → behind ys (a ++ b) ≡ behind ys a ++ behind (ys ++ behind ys a) b
behind_parts [] b ys = ap (λ r. behind r b) (sym (append-nil ys))
behind_parts (l ∷ a) b ys =
    let new = named_by ys 0 l.expr in
    ap (λ r. new ++ r) (behind_parts a b (ys ++ new))
    ∙ sym (append_assoc new (behind (ys ++ new) a) (behind ((ys ++ new) ++ behind (ys ++ new) a) b))
    ∙ ap (λ r. (new ++ behind (ys ++ new) a) ++ behind r b) (append_assoc ys new (behind (ys ++ new) a))

pub plain_parts : (a b : List Line) → named_plain (a ++ b) ≡ named_plain a ++ behind (named_plain a) b
plain_parts a b =
    plain_is (a ++ b) ∙ ap (λ r. root ∷ r) (behind_parts a b (root ∷ [])) ∙ ap (λ r. r ++ behind r b) (sym (plain_is a))

-- one line more behind alike lists, in one of them as of line 0
pub next_alike : (xs ys : List Named) (n : ℕ) (e : Expr) → AreAlike xs ys → AreAlike (xs ++ named_by xs n e) (ys ++ named_by ys 0 e)
next_alike xs ys n e alike =
    let new = named_by xs n e in
    let same : map unnumbered new ≡ named_by ys 0 e = line_plain xs n e ∙ alike_name_the_same xs ys alike 0 e in
    alike_trans (xs ++ new) (map unnumbered xs ++ map unnumbered new) (ys ++ named_by ys 0 e)
    (Rattle.std.proofs.Common.subst (λ r. AreAlike (xs ++ new) r) (map-append unnumbered xs new) (plain_alike (xs ++ new)))
    (Rattle.std.proofs.Common.subst (λ r. AreAlike (map unnumbered xs ++ map unnumbered new) (ys ++ r)) same
    (alike_stay_alike (map unnumbered xs) ys (map unnumbered new) (alike_trans (map unnumbered xs) xs ys (alike_sym xs (map unnumbered xs) (plain_alike xs)) alike)))
