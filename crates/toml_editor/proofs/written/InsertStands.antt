-- The lines after an `insert` at the root, by what finds them.
use Rattle.std.proofs.Common.{◌≡◌, ℕ, ◌+◌, Bool, true, false, ◌||◌, ◌&&◌, not, cond, Option, Some, None, List, [], ◌∷◌, ◌++◌, length, refl, sym, ap, ap₂, ◌∙◌, true≢false, append-nil}
use Rattle.std.specs.List.{list_any}
use Rattle.std.specs.Prelude.{is_some, option_map}
use Rattle.toml_tree.specs.Spells.{EachIs, AreLines}
use Rattle.toml_tree.specs.Tree as tree
use Rattle.toml_tree.specs.Tree.{Piece, Value, Expr, BlankLine, KeyValLine, TableLine, ArrayTableLine, Line}
use Rattle.toml_names.specs.model.Addresses.{Address, child, element, below}
use Rattle.toml_names.specs.mentions.Keys.{Key, key_names, part_name, rest_names}
use Rattle.toml_names.specs.mentions.Mentions.{Named, named_by, root, section, section_from, followed, entered, ends_table, ends_tables}
use Rattle.toml_names.specs.reader.Names.{own_address}
use Rattle.toml_units.specs.Units.{line_base}
use Rattle.toml_working.specs.Inserting as lines
use Rattle.toml_layout.specs.declared.layout.Layout.{Layout}
use Rattle.toml_layout.specs.declared.layout.Layout.TheVariants as layouts
use Rattle.toml_working.specs.InsertStanding.{LeavesRoot, line_put, RootIsFirst, comments_end, goes_below, has_comment, has_pair, insert_behind, insert_first, is_blank, is_comment, line_behind, new_standing, pair_or, spacing_behind, spacing_of}
use Rattle.toml_working.specs.Manners.{Manner}
use Rattle.toml_layout.specs.Spacings.{laid_out, plain_spacing}
use Rattle.toml_working.specs.Standing.{Standing, holds, leads_to, line_stands, standing_from, standing}
use Rattle.toml_editor.specs.StandingLaws.{InsertStands, RootComesFirst}
use Rattle.toml_layout.specs.TreeOutlines.{line_outline, value_outline}
use Rattle.toml_editor.proofs.written.Alike.{section_pair}
use Rattle.toml_editor.proofs.written.InsertPlace.{IsHeadless, below_has, comment_heads, pair_heads}
use Rattle.toml_editor.proofs.written.PutStands.{new_first, put_stands}

-- what is no header leaves the root
stays : (xs : List Named) (n : ℕ) (e : Expr) → section xs ≡ [] → IsHeadless e → section (xs ++ named_by xs n e) ≡ []
stays xs n (BlankLine t) at_root head = ap section (append-nil xs) ∙ at_root
stays xs n (KeyValLine ws pair tail) at_root head = section_pair xs n (section xs) pair.assign pair.value ∙ at_root
stays xs n (TableLine ws header tail) at_root head = absurd head
stays xs n (ArrayTableLine ws header tail) at_root head = absurd head

-- a line with a key and a value, by its tree
pair_same : (xs : List Named) (e : Expr) (b : Bool) → pair_or (line_base xs e) (own_address xs e) b
    ≡ elim e [ BlankLine t ↦ b | KeyValLine ws pair tail ↦ true | TableLine ws header tail ↦ false | ArrayTableLine ws header tail ↦ false ]
pair_same xs (BlankLine t) b = refl
pair_same xs (KeyValLine ws pair tail) b = refl
pair_same xs (TableLine ws header tail) b = refl
pair_same xs (ArrayTableLine ws header tail) b = refl

pub has_same : (ls : List Line) (xs : List Named) (n : ℕ) → has_pair (standing_from xs n ls) ≡ lines.has_pair ls
has_same [] xs n = refl
has_same (l ∷ ls) xs n =
    ap (pair_or (line_base xs l.expr) (own_address xs l.expr)) (has_same ls (xs ++ named_by xs n l.expr) (n + 1)) ∙ pair_same xs l.expr (lines.has_pair ls)

-- a comment line, and one on which nothing stands
some_same : (c : Option Piece) → is_some (option_map (λ (p : Piece). p.text) c) ≡ is_some c
some_same None = refl
some_same (Some p) = refl

comment_same : (xs : List Named) (l : Line) → is_comment (line_stands xs l) ≡ lines.is_comment l.expr
comment_same xs l = by l.expr
  where
    by : (e : Expr) → is_comment (line_stands xs (record { expr = e; newline = l.newline })) ≡ lines.is_comment e
    by (BlankLine t) = some_same t.comment
    by (KeyValLine ws pair tail) = refl
    by (TableLine ws header tail) = refl
    by (ArrayTableLine ws header tail) = refl

blank_same : (xs : List Named) (l : Line) → is_blank (line_stands xs l) ≡ lines.is_blank l.expr
blank_same xs l = by l.expr
  where
    by : (e : Expr) → is_blank (line_stands xs (record { expr = e; newline = l.newline })) ≡ lines.is_blank e
    by (BlankLine t) = ap not (some_same t.comment)
    by (KeyValLine ws pair tail) = refl
    by (TableLine ws header tail) = refl
    by (ArrayTableLine ws header tail) = refl

comments_same : (ls : List Line) (xs : List Named) (n : ℕ) → has_comment (standing_from xs n ls) ≡ lines.has_comment ls
comments_same [] xs n = refl
comments_same (l ∷ ls) xs n = comment_same xs l

end_same : (ls : List Line) (xs : List Named) (n : ℕ) → comments_end (standing_from xs n ls) ≡ lines.comments_end ls
end_same [] xs n = refl
end_same (l ∷ ls) xs n =
    ap₂ (λ c b. cond c (comments_end (standing_from (xs ++ named_by xs n l.expr) (n + 1) ls)) b) (comment_same xs l) (blank_same xs l)
    ∙ ap (λ e. cond (lines.is_comment l.expr) e (lines.is_blank l.expr)) (end_same ls (xs ++ named_by xs n l.expr) (n + 1))

below_same : (layout : Layout) (ls : List Line) → goes_below layout (standing ls) ≡ lines.goes_below layout ls
below_same layouts.Plain ls = refl
below_same layouts.Follow ls = ap₂ (λ a b. a && b) (comments_same ls (root ∷ []) 0) (end_same ls (root ∷ []) 0)

-- the whitespace of a line behind one
spacing_same : (manner : Manner) (xs : List Named) (l : Line) → spacing_behind manner (line_stands xs l) ≡ lines.spacing_behind manner l
spacing_same manner xs l = ap (laid_out manner.layout) (by l.expr)
  where
    by : (e : Expr) → spacing_of (line_base xs e) (line_outline (record { expr = e; newline = l.newline })) ≡ lines.spacing_of e
    by (BlankLine t) = refl
    by (KeyValLine ws pair tail) = refl
    by (TableLine ws header tail) = refl
    by (ArrayTableLine ws header tail) = refl

module _ (name : List ℕ) (v : Value) where
  module _ (manner : Manner) where
    line_stood : (xs : List Named) (n : ℕ) (l : Line) (ls : List Line) → AreLines (l ∷ ls) → section (xs ++ named_by xs n l.expr) ≡ []
        → standing_from xs n (lines.line_behind name v manner l ls)
        ≡ line_behind name (value_outline v) manner (line_stands xs l) (line_outline l).newline ++ standing_from (xs ++ named_by xs n l.expr) (n + 1) ls
    line_stood xs n l ls are at_root =
        put_stands [] name [] v manner (lines.spacing_behind manner l) xs n l ls are at_root
        ∙ ap (λ s. line_put [] s (name ∷ []) (value_outline v) manner (line_stands xs l) (line_outline l).newline ++ standing_from (xs ++ named_by xs n l.expr) (n + 1) ls)
        (sym (spacing_same manner xs l))

    -- behind the last of some lines
    module _ (more : List Line → Bool) (more_so : List Standing → Bool) (same : (ls : List Line) (xs : List Named) (n : ℕ) → more_so (standing_from xs n ls) ≡ more ls)
        (none : more [] ≡ false) (heads : (l : Line) (ls : List Line) → more (l ∷ ls) ≡ true → IsHeadless l.expr) where
      more_lines : (l : Line) (ls : List Line) → AreLines (l ∷ ls) → more ls ≡ true → AreLines ls
      more_lines l [] are has = absurd (true≢false (sym has ∙ none))
      more_lines l (m ∷ ms) are has = are.2

      last_put : (ls : List Line) (xs : List Named) (n : ℕ) → section xs ≡ [] → more ls ≡ true → AreLines ls
          → standing_from xs n (lines.insert_behind more name v manner ls) ≡ insert_behind more_so name (value_outline v) manner (standing_from xs n ls)
      last_put [] xs n at_root has are = refl
      last_put (l ∷ ls) xs n at_root has are =
          by (more ls) refl (λ h. last_put ls (xs ++ named_by xs n l.expr) (n + 1) here h (more_lines l ls are h))
          ∙ ap (λ b. cond b (line_stands xs l ∷ insert_behind more_so name (value_outline v) manner rest) (line_behind name (value_outline v) manner (line_stands xs l) (line_outline l).newline ++ rest))
          (sym (same ls (xs ++ named_by xs n l.expr) (n + 1)))
        where
          here : section (xs ++ named_by xs n l.expr) ≡ []
          here = stays xs n l.expr at_root (heads l ls has)

          rest : List Standing
          rest = standing_from (xs ++ named_by xs n l.expr) (n + 1) ls

          by : (b : Bool) → more ls ≡ b
              → (more ls ≡ true → standing_from (xs ++ named_by xs n l.expr) (n + 1) (lines.insert_behind more name v manner ls) ≡ insert_behind more_so name (value_outline v) manner (standing_from (xs ++ named_by xs n l.expr) (n + 1) ls))
              → standing_from xs n (cond b (l ∷ lines.insert_behind more name v manner ls) (lines.line_behind name v manner l ls))
              ≡ cond b (line_stands xs l ∷ insert_behind more_so name (value_outline v) manner (standing_from (xs ++ named_by xs n l.expr) (n + 1) ls)) (line_behind name (value_outline v) manner (line_stands xs l) (line_outline l).newline ++ standing_from (xs ++ named_by xs n l.expr) (n + 1) ls)
          by true is others = ap (λ t. line_stands xs l ∷ t) (others is)
          by false is others = line_stood xs n l ls are here

    first_stands : (ls : List Line) → AreLines ls → standing (lines.insert_first name v manner ls) ≡ insert_first name (value_outline v) manner (standing ls)
    first_stands ls are =
        by (lines.goes_below manner.layout ls) refl
        ∙ ap (λ b. cond b (insert_behind has_comment name (value_outline v) manner (standing ls)) (new_standing plain_spacing name (value_outline v) manner.newline ∷ standing ls))
        (sym (below_same manner.layout ls))
      where
        by : (b : Bool) → lines.goes_below manner.layout ls ≡ b
            → standing (cond b (lines.insert_behind lines.has_comment name v manner ls) (lines.new_line plain_spacing (name ∷ []) v manner.newline ∷ ls))
            ≡ cond b (insert_behind has_comment name (value_outline v) manner (standing ls)) (new_standing plain_spacing name (value_outline v) manner.newline ∷ standing ls)
        by true is = last_put lines.has_comment has_comment comments_same refl comment_heads ls (root ∷ []) 0 refl (below_has manner.layout ls is) are
        by false is = new_first [] name [] v manner plain_spacing (root ∷ []) 0 0 manner.newline ls refl

pub insert_stands : InsertStands
insert_stands name v manner ls are =
    by (lines.has_pair ls) refl
    ∙ ap (λ b. cond b (insert_behind has_pair name (value_outline v) manner (standing ls)) (insert_first name (value_outline v) manner (standing ls))) (sym (has_same ls (root ∷ []) 0))
  where
    by : (b : Bool) → lines.has_pair ls ≡ b
        → standing (cond b (lines.insert_behind lines.has_pair name v manner ls) (lines.insert_first name v manner ls))
        ≡ cond b (insert_behind has_pair name (value_outline v) manner (standing ls)) (insert_first name (value_outline v) manner (standing ls))
    by true is = last_put name v manner lines.has_pair has_pair has_same refl pair_heads ls (root ∷ []) 0 refl is are
    by false is = first_stands name v manner ls are

-- ---- lines of the root come first

pub section_append : (at : Address) (xs ys : List Named) → section_from at (xs ++ ys) ≡ section_from (section_from at xs) ys
section_append at [] ys = refl
section_append at (x ∷ xs) ys = section_append _ xs ys

-- an address of a step more
child_some : (at : Address) (n : List ℕ) → ¬ (child at n ≡ [])
child_some [] n is = cc
child_some (s ∷ at) n is = cc

element_some : (at : Address) (i : ℕ) → ¬ (element at i ≡ [])
element_some [] i is = cc
element_some (s ∷ at) i is = cc

below_some : (at : Address) (n : List ℕ) (ns : List (List ℕ)) → ¬ (below at (n ∷ ns) ≡ [])
below_some [] n ns is = cc
below_some (s ∷ at) n ns is = cc

-- a header leaves the root
table_leaves : (xs : List Named) (line : ℕ) (key : Key) (n : List ℕ) (before at : Address) → ¬ (section_from before (followed line xs (ends_table line) at (n ∷ key)) ≡ [])
table_leaves xs line [] n before at = child_some at n
table_leaves xs line (m ∷ more) n before at = table_leaves xs line more m before (entered xs (child at n))

tables_leave : (xs : List Named) (line : ℕ) (key : Key) (n : List ℕ) (before at : Address) → ¬ (section_from before (followed line xs (ends_tables line xs) at (n ∷ key)) ≡ [])
tables_leave xs line [] n before at = element_some (child at n) _
tables_leave xs line (m ∷ more) n before at = tables_leave xs line more m before (entered xs (child at n))

-- so it is behind each header
table_behind : (xs : List Named) (n : ℕ) (key : tree.Key) → ¬ (section (xs ++ followed n xs (ends_table n) [] (key_names key)) ≡ [])
table_behind xs n key is = table_leaves xs n (rest_names key.rest) (part_name key.first) (section xs) [] (sym (section_append [] xs (followed n xs (ends_table n) [] (key_names key))) ∙ is)

tables_behind : (xs : List Named) (n : ℕ) (key : tree.Key) → ¬ (section (xs ++ followed n xs (ends_tables n xs) [] (key_names key)) ≡ [])
tables_behind xs n key is = tables_leave xs n (rest_names key.rest) (part_name key.first) (section xs) [] (sym (section_append [] xs (followed n xs (ends_tables n xs) [] (key_names key))) ∙ is)

-- and no line goes back to it
away : (xs : List Named) (n : ℕ) (e : Expr) → ¬ (section xs ≡ []) → ¬ (section (xs ++ named_by xs n e) ≡ [])
away xs n (BlankLine t) left is = left (sym (ap section (append-nil xs)) ∙ is)
away xs n (KeyValLine ws pair tail) left is = left (sym (section_pair xs n (section xs) pair.assign pair.value) ∙ is)
away xs n (TableLine ws header tail) left is = table_behind xs n header.key is
away xs n (ArrayTableLine ws header tail) left is = tables_behind xs n header.key is

none_long : (at : Address) → length at ≡ 0 → at ≡ []
none_long [] is = refl
none_long (s ∷ at) is = cc

not_of_root : (xs : List Named) (e : Expr) → ¬ (section xs ≡ []) → ¬ (line_base xs e ≡ Some 0)
not_of_root xs (BlankLine t) left is = cc
not_of_root xs (KeyValLine ws pair tail) left is = left (none_long (section xs) cc)
not_of_root xs (TableLine ws header tail) left is = cc
not_of_root xs (ArrayTableLine ws header tail) left is = cc

all_away : (ls : List Line) (xs : List Named) (n : ℕ) → ¬ (section xs ≡ []) → EachIs (λ (t : Standing). ¬ (t.base ≡ Some 0)) (standing_from xs n ls)
all_away [] xs n left = tt
all_away (l ∷ ls) xs n left = (not_of_root xs l.expr left, all_away ls (xs ++ named_by xs n l.expr) (n + 1) (away xs n l.expr left))

leaves : (xs : List Named) (n : ℕ) (e : Expr) (ls : List Line) → LeavesRoot (line_base xs e) (own_address xs e) (standing_from (xs ++ named_by xs n e) (n + 1) ls)
leaves xs n (BlankLine t) ls = tt
leaves xs n (KeyValLine ws pair tail) ls = tt
leaves xs n (TableLine ws header tail) ls = all_away ls (xs ++ named_by xs n (TableLine ws header tail)) (n + 1) (table_behind xs n header.key)
leaves xs n (ArrayTableLine ws header tail) ls = all_away ls (xs ++ named_by xs n (ArrayTableLine ws header tail)) (n + 1) (tables_behind xs n header.key)

root_first : (ls : List Line) (xs : List Named) (n : ℕ) → RootIsFirst (standing_from xs n ls)
root_first [] xs n = tt
root_first (l ∷ ls) xs n = (leaves xs n l.expr ls, root_first ls (xs ++ named_by xs n l.expr) (n + 1))

none_leads : (n : ℕ) (at : Address) → ¬ (at ≡ []) → leads_to [] (Some n) (Some at) ≡ false
none_leads n [] some = absurd (some refl)
none_leads n (s ∷ at) some = refl

holds_no_root : (xs : List Named) (l : Line) → leads_to [] (line_base xs l.expr) (own_address xs l.expr) ≡ false
holds_no_root xs l = by l.expr
  where
    by : (e : Expr) → leads_to [] (line_base xs e) (own_address xs e) ≡ false
    by (BlankLine t) = refl
    by (KeyValLine ws pair tail) = none_leads (length (section xs)) _ (below_some (section xs) _ _)
    by (TableLine ws header tail) = refl
    by (ArrayTableLine ws header tail) = refl

none_hold : (ls : List Line) (xs : List Named) (n : ℕ) → list_any (holds []) (standing_from xs n ls) ≡ false
none_hold [] xs n = refl
none_hold (l ∷ ls) xs n = ap₂ (λ a b. a || b) (holds_no_root xs l) (none_hold ls (xs ++ named_by xs n l.expr) (n + 1))

some_stand : (ls : List Line) → AreLines ls → ¬ (standing ls ≡ [])
some_stand [] are is = absurd are
some_stand (l ∷ ls) are is = cc

pub root_comes_first : RootComesFirst
root_comes_first ls are = record { some = some_stand ls are; first = root_first ls (root ∷ []) 0; none = none_hold ls (root ∷ []) 0 }
