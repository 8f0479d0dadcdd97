-- The comment lines with which lines begin.
use Rattle.std.proofs.Common.{◌≡◌, ◌∙◌, ℕ, ◌+◌, ◌^◌, ◌<◌, Bool, true, false, ◌&&◌, cond, not, List, [], ◌∷◌, ◌++◌, Option, Some, None, refl, ap, ap₂, sym, subst, append_assoc}
use Rattle.std.specs.Prelude.{is_some, option_map, slice_get}
use Rattle.toml_tree.specs.Spells.{EachIs}
use Rattle.toml_layout.specs.declared.layout.Layout.{Layout}
use Rattle.toml_layout.specs.declared.layout.Layout.TheVariants as layouts
use Rattle.toml_working.specs.declared.lines.Seen.{Seen}
use Rattle.toml_working.specs.declared.lines.Slot.{Slot}
use Rattle.toml_layout.specs.declared.looks.Look.{Look}
use Rattle.toml_working.specs.declared.working.Position.{Position}
use Rattle.toml_working.specs.InsertStanding.{comments_end, goes_below, has_comment, is_bare, is_blank, is_comment}
use Rattle.toml_working.specs.Looking.{SlotLooks}
use Rattle.toml_working.specs.OpeningComments.{CommentsPassed, FindsAbove, FindsComments, FindsCommentsOf, IsComment, IsLastComment}
use Rattle.toml_working.specs.Placing.{lines_from}
use Rattle.toml_working.specs.Seeing.{found, line_at, seen}
use Rattle.toml_working.specs.Standing.{Standing, Read, slot_standing, slots_standing}
use Rattle.toml_working.proofs.AtPlace.{line_in}
use Rattle.toml_working.proofs.Each.{each_append}
use Rattle.toml_working.proofs.Placed.{IsSeen, one_seen}

-- ---- lists of lines

-- behind comment lines the same follows
comments_end_behind : (front rest : List Standing) → EachIs IsComment front → comments_end (front ++ rest) ≡ comments_end rest
comments_end_behind [] rest are = refl
comments_end_behind (x ∷ front) rest are =
    ap (λ b. cond b (comments_end (front ++ rest)) (is_blank x)) are.0 ∙ comments_end_behind front rest are.1

has_comment_first : (front : List Standing) (s : Standing) (rest : List Standing) → EachIs IsComment front → IsComment s → has_comment (front ++ s ∷ rest) ≡ true
has_comment_first [] s rest are is = is
has_comment_first (x ∷ front) s rest are is = are.0

pub found_below : (s : Standing) (rest : List Standing) → IsComment s → comments_end rest ≡ true → (front : List Standing) → EachIs IsComment front
    → goes_below layouts.Follow (front ++ s ∷ rest) ≡ true
found_below s rest is ends front are =
    ap₂ (λ a b. a && b) (has_comment_first front s rest are is)
    (comments_end_behind front (s ∷ rest) are ∙ ap (λ b. cond b (comments_end rest) (is_blank s)) is ∙ ends)

and_false : (b : Bool) → (b && false) ≡ false
and_false true = refl
and_false false = refl

module _ (read : Read) (slots : List Slot) (all rest : List Standing) where
  -- one comment line more is passed
  comment_next : (s : Standing) (at : Position) (last : Option Position) → CommentsPassed read slots all (s ∷ rest) last → line_at read slots at ≡ Some s
      → at.index + 1 < 2 ^ 64 → lines_from read slots at.slot at.index ≡ s ∷ rest → IsComment s → IsLastComment read slots all rest at
  comment_next s at None passed there next from is =
      record { front = []; line = s; is = passed; comments = tt; comment = is; there = there; next = next; from = from }
  comment_next s at (Some place) passed there next from is = record {
    front = passed.front ++ passed.line ∷ [];
    line = s;
    is = passed.is ∙ sym (append_assoc passed.front (passed.line ∷ []) (s ∷ rest));
    comments = each_append IsComment passed.front (passed.line ∷ []) passed.comments (passed.comment, tt);
    comment = is;
    there = there;
    next = next;
    from = from;
  }

  -- a blank line follows them, or none
  pub comments_ended : (last : Option Position) → CommentsPassed read slots all rest last → has_comment rest ≡ false → comments_end rest ≡ true
      → FindsCommentsOf read slots all last
  comments_ended None passed none ends = ap (goes_below layouts.Follow) passed ∙ ap (λ b. b && comments_end rest) none
  comments_ended (Some at) passed none ends = record { rest = rest; last = passed; none = none; ends = ends }

  -- something else does
  pub comments_stopped : (last : Option Position) → CommentsPassed read slots all rest last → has_comment rest ≡ false → comments_end rest ≡ false
      → FindsCommentsOf read slots all None
  comments_stopped None passed none ends = ap (goes_below layouts.Follow) passed ∙ ap (λ b. b && comments_end rest) none
  comments_stopped (Some at) passed none ends =
      let all_end : comments_end all ≡ false =
      ap comments_end passed.is ∙ comments_end_behind passed.front (passed.line ∷ rest) passed.comments
      ∙ ap (λ b. cond b (comments_end rest) (is_blank passed.line)) passed.comment ∙ ends in
      ap (λ b. has_comment all && b) all_end ∙ and_false (has_comment all)

-- no line is left
pub comments_all : (read : Read) (slots : List Slot) (all rest : List Standing) (last : Option Position) → CommentsPassed read slots all rest last → rest ≡ []
    → FindsCommentsOf read slots all last
comments_all read slots all rest last passed none = comments_ended read slots all rest last passed (ap has_comment none) (ap comments_end none)

-- ---- what is seen of a line

module _ (read : Read) (slots : List Slot) (k : ℕ) (slot : Slot) (there : slice_get slots k ≡ Some slot) (i : ℕ) (r : Option Seen) (x : Seen)
    (same : option_map seen r ≡ option_map found (slice_get (slot_standing read slot) i)) (is : r ≡ Some x) (all : List Standing) (last : Option Position)
    (passed : CommentsPassed read slots all (lines_from read slots k i) last) where
  it : IsSeen read slots k slot there i (seen x).base (seen x).address
  it = one_seen read slots k slot there i r x same is

  abbrev s : Standing
  s = it.line

  abbrev behind : List Standing
  behind = lines_from read slots k (i + 1)

  bare_is : (b : Bool) → is_bare (seen x).base (seen x).address ≡ b → is_bare s.base s.address ≡ b
  bare_is b h = ap₂ is_bare it.base_is it.own_is ∙ h

  passed_here : CommentsPassed read slots all (s ∷ behind) last
  passed_here = subst (λ ls. CommentsPassed read slots all ls last) it.from passed

  -- no comment line is
  no_comment : is_comment s ≡ false → (b : Bool) → is_blank s ≡ b → (has_comment (s ∷ behind) ≡ false) × (comments_end (s ∷ behind) ≡ b)
  no_comment h b blank = (h, ap (λ c. cond c (comments_end behind) (is_blank s)) h ∙ blank)

  -- a line with a key or a header is
  pub other_seen : is_bare (seen x).base (seen x).address ≡ false → FindsCommentsOf read slots all None
  other_seen h =
      let bare = bare_is false h in
      let (none, ends) = no_comment (ap (λ b. b && is_some s.outline.comment) bare) false (ap (λ b. b && not (is_some s.outline.comment)) bare) in
      comments_stopped read slots all (s ∷ behind) last passed_here none ends

  module _ (look : Look) (looks : SlotLooks read.lines slot i look) (bare : is_bare (seen x).base (seen x).address ≡ true) where
    comment_is : look.has_comment ≡ is_some s.outline.comment
    comment_is = (looks read.units s (line_in read slots (record { slot = k; index = i }) slot s there it.stands)).comment

    -- a blank line is
    pub blank_seen : look.has_comment ≡ false → FindsCommentsOf read slots all last
    blank_seen h =
        let comment : is_some s.outline.comment ≡ false = sym comment_is ∙ h in
        let (none, ends) =
        no_comment (ap₂ (λ a b. a && b) (bare_is true bare) comment) true (ap₂ (λ a b. a && not b) (bare_is true bare) comment) in
        comments_ended read slots all (s ∷ behind) last passed_here none ends

    -- a comment line is
    pub comment_seen : look.has_comment ≡ true → i + 1 < 2 ^ 64 → CommentsPassed read slots all behind (Some (record { slot = k; index = i }))
    comment_seen h next =
        comment_next read slots all behind s (record { slot = k; index = i }) last passed_here it.stands next it.from
        (ap₂ (λ a b. a && b) (bare_is true bare) (sym comment_is ∙ h))

-- ---- in a layout

pub plain_above : (layout : Layout) (read : Read) (slots : List Slot) → layout ≡ layouts.Plain → FindsAbove layout read slots None
plain_above layout read slots is = ap (λ l. goes_below l (slots_standing read slots)) is

pub follow_above : (layout : Layout) (read : Read) (slots : List Slot) (result : Option Position) → layout ≡ layouts.Follow → FindsComments read slots result
    → FindsAbove layout read slots result
follow_above layout read slots None is found = ap (λ l. goes_below l (slots_standing read slots)) is ∙ found
follow_above layout read slots (Some at) is found = (is, found)
