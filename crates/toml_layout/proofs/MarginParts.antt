-- The gaps around an item that is put in on a line of its own.
use Rattle.std.proofs.Common.{◌≡◌, ◌∙◌, ℕ, ◌+◌, ◌<◌, Bool, true, false, ◌&&◌, ◌||◌, List, [], ◌∷◌, ◌++◌, length, map, take, get_or, Some, None, refl, ap, ap₂, sym}
use Rattle.std.proofs.Math.Bool.{and-false}
use Rattle.std.proofs.lemmas.List.{take_more}
use Rattle.toml_layout.specs.declared.tree.GapPart.{GapPart}
use Rattle.toml_layout.specs.Gaps.{begins_line, is_comment, is_newline}
use Rattle.toml_layout.specs.Margins.{has_comment, has_own_comment, last_of, one_space, parting}
use Rattle.toml_layout.specs.PartOutlines.{outlined, part}
use Rattle.toml_layout.specs.Items.{gap_parts, item, items_of}
use Rattle.toml_layout.specs.Rooms.{behind_comma}
use Rattle.toml_layout.specs.declared.tree.Entries.{Entries}
use Rattle.toml_layout.specs.declared.tree.Entry.{Entry}
use Rattle.toml_layout.specs.declared.tree.Value.TheViews.{out-Entries, out-Entry}
use Rattle.toml_lists.specs.Gaps.{items}
use Rattle.std.proofs.lemmas.Option.{none-some, same_Some}
use Rattle.std.specs.Prelude.{slice_get}

-- ---- comments on lines of their own

comment_more : (ps : List GapPart) (p : GapPart) → has_comment (ps ++ p ∷ []) ≡ (has_comment ps || is_comment p)
comment_more [] p = by (is_comment p)
  where
    by : (b : Bool) → (b || false) ≡ (false || b)
    by true = refl
    by false = refl
comment_more (q ∷ ps) p = ap (λ b. is_comment q || b) (comment_more ps p) ∙ by (is_comment q) (has_comment ps) (is_comment p)
  where
    by : (a b c : Bool) → (a || (b || c)) ≡ ((a || b) || c)
    by true b c = refl
    by false b c = refl

own_more : (ps : List GapPart) (p : GapPart) → has_own_comment (ps ++ p ∷ []) ≡ (has_own_comment ps || (begins_line ps && is_comment p))
own_more [] p = by (is_newline p)
  where
    by : (b : Bool) → ((b && false) || false) ≡ false
    by true = refl
    by false = refl
own_more (q ∷ ps) p =
    ap₂ (λ a b. (is_newline q && a) || b) (comment_more ps p) (own_more ps p)
    ∙ by (is_newline q) (has_comment ps) (is_comment p) (has_own_comment ps) (begins_line ps)
  where
    by : (n h c o b : Bool) → ((n && (h || c)) || (o || (b && c))) ≡ (((n && h) || o) || ((n || b) && c))
    by true true c o b = refl
    by true false true true b = refl
    by true false true false b = refl
    by true false false true true = refl
    by true false false true false = refl
    by true false false false true = refl
    by true false false false false = refl
    by false h c o b = refl

own_on : (ps : List GapPart) (i : ℕ) (d : GapPart) → i < length ps → (begins_line (take i ps) && is_comment (get_or ps i d)) ≡ false
    → has_own_comment (take i ps) ≡ false → has_own_comment (take (i + 1) ps) ≡ false
own_on ps i d low no_comment so_far = ap has_own_comment (take_more ps i d low) ∙ own_more (take i ps) (get_or ps i d) ∙ ap₂ ◌||◌ so_far no_comment

-- no comment stands there,
pub own_no_comment : (ps : List GapPart) (i : ℕ) (d : GapPart) → i < length ps → is_comment (get_or ps i d) ≡ false
    → has_own_comment (take i ps) ≡ false → has_own_comment (take (i + 1) ps) ≡ false
own_no_comment ps i d low none so_far = own_on ps i d low (ap (λ b. begins_line (take i ps) && b) none ∙ and-false (begins_line (take i ps))) so_far

-- or it stands on the first line
pub own_no_line : (ps : List GapPart) (i : ℕ) (d : GapPart) (front : List GapPart) → i < length ps → front ≡ take i ps → begins_line front ≡ false
    → has_own_comment (take i ps) ≡ false → has_own_comment (take (i + 1) ps) ≡ false
own_no_line ps i d front low is none so_far =
    own_on ps i d low (ap (λ b. b && is_comment (get_or ps i d)) (ap begins_line (sym is) ∙ none)) so_far

-- ---- tabs

-- ---- the last part

pub last_is : (ps : List GapPart) (p : GapPart) → last_of (ps ++ p ∷ []) ≡ p ∷ []
last_is [] p = refl
last_is (q ∷ []) p = refl
last_is (q ∷ r ∷ ps) p = last_is (r ∷ ps) p

pub last_outlined : (ps rest : List GapPart) (p : GapPart) (made : List GapPart) (q : GapPart) → ps ≡ rest ++ p ∷ [] → made ≡ q ∷ [] → part q ≡ part p
    → outlined made ≡ outlined (last_of ps)
last_outlined ps rest p made q is made_is same =
    ap outlined made_is ∙ ap (λ o. o ∷ []) same ∙ sym (ap outlined (ap last_of is ∙ last_is rest p))

-- ---- behind the first comma

pub second_parts : (e : Entries) (x : Entry) → Some x ≡ slice_get (items (out-Entries e).list) 1
    → parting (gap_parts (out-Entry x).before) ≡ behind_comma (items_of e).list
second_parts e x is = by (items (out-Entries e).list) is
  where
    by : (es : List Entry) → Some x ≡ slice_get es 1 → parting (gap_parts (out-Entry x).before) ≡ behind_comma (map item es)
    by [] is = absurd (none-some x (sym is))
    by (a ∷ []) is = absurd (none-some x (sym is))
    by (a ∷ b ∷ es) is = ap (λ o. parting (gap_parts (out-Entry o).before)) (same_Some x b is)

pub no_second : (e : Entries) → None ≡ slice_get (items (out-Entries e).list) 1 → one_space ≡ behind_comma (items_of e).list
no_second e is = by (items (out-Entries e).list) is
  where
    by : (es : List Entry) → None ≡ slice_get es 1 → one_space ≡ behind_comma (map item es)
    by [] is = refl
    by (a ∷ []) is = refl
    by (a ∷ b ∷ es) is = absurd (none-some b is)
