-- The lines of a text by their numbers, and where their expressions end.
use Rattle.std.proofs.Common.{◌≡◌, ◌⊎◌, inl, inr, ℕ, zero, suc, ◌+◌, ◌≤◌, List, [], ◌∷◌, ◌++◌, length, drop, Some, refl, sym, ap, ◌∙◌, subst, arith}
use Rattle.std.specs.Prelude.{slice_get}
use Rattle.std.proofs.lemmas.Option.{none-some}
use Rattle.std.proofs.lemmas.Str.{IsUtf8-from_is_utf8}
use Rattle.toml_text.specs.Limit.{IsText}
use Rattle.toml_text.specs.Source.{IsFaultOf}
use Rattle.toml_text.specs.declared.fault.TextFault.{TextFault}
use Rattle.toml_text.specs.declared.fault.TextFault.TheVariants.{NotUtf8, TooLong}
use Rattle.toml_scalar.specs.declared.fault.SyntaxFault.{SyntaxFault}
use Rattle.toml_scalar.specs.declared.fault.SyntaxFault.TheVariants.{BadCharacter, Expected, BadString, BadNumber, IntegerRange, BadDate, TooDeep, NoMemory}
use Rattle.toml_tree.specs.Document.{Refuses}
use Rattle.toml_tree.specs.HandedOut.{AreLinesIn, tree_of}
use Rattle.toml_tree.specs.Inner.{ExprSpellsItself}
use Rattle.toml_tree.specs.Pieces.{expr_start}
use Rattle.toml_tree.specs.Profiles.{SpelledByNone}
use Rattle.toml_tree.specs.Spells.{EachIs, expr_parts, joined, mark_of}
use Rattle.toml_tree.specs.Tree.{Doc, Line, Piece}
use Rattle.toml_tree.specs.declared.profile.Profile.{Profile}
use Rattle.toml_tree.proofs.Proved.{lines_inside, one_tree_in}
use Rattle.toml_units.specs.Ends.{expr_end}
use Rattle.toml_units.proofs.Proved.{line_ends}
use Rattle.toml_mentions.specs.Mentioned.{mention_pieces}
use Rattle.toml_explain.proofs.Held.{part_within}
use Rattle.toml_explain.specs.Documents.{AreSpansOf, Finds, HasLine}
use Rattle.toml_explain.specs.declared.spans.LineSpans.{LineSpans}

-- behind one line more
pub get_here : {A : Type 0} (xs : List A) (x : A) → slice_get (xs ++ x ∷ []) (length xs) ≡ Some x
get_here [] x = refl
get_here (y ∷ xs) x = get_here xs x

pub get_other : {A : Type 0} (xs : List A) (x : A) (n : ℕ) → ¬ (length xs ≡ n) → slice_get (xs ++ x ∷ []) n ≡ slice_get xs n
get_other [] x zero other = absurd (other refl)
get_other [] x (suc n) other = refl
get_other (y ∷ xs) x zero other = refl
get_other (y ∷ xs) x (suc n) other = get_other xs x n (λ e. other (ap suc e))

-- a text has one list of lines
pub same_lines : (profile : Profile) (text : List ℕ) (some others : List Line) → AreLinesIn profile text some → AreLinesIn profile text others → some ≡ others
same_lines profile text some others are also =
    ap (λ (d : Doc). d.lines) (one_tree_in profile (tree_of text some) (tree_of text others) text are.spelled also.spelled)

-- and none, where it is refused for more than want of memory
pub none_spells : (profile : Profile) (text : List ℕ) (fault : SyntaxFault) → ¬ (fault ≡ NoMemory) → Refuses profile text fault → SpelledByNone profile text
none_spells profile text (BadCharacter at) more refused = refused.1
none_spells profile text (Expected at) more refused = refused.1
none_spells profile text (BadString at) more refused = refused.1
none_spells profile text (BadNumber at) more refused = refused.1
none_spells profile text (IntegerRange at) more refused = refused.1
none_spells profile text (BadDate at) more refused = refused.1
none_spells profile text (TooDeep at) more refused = refused.1
none_spells profile text NoMemory more refused = absurd (more refl)

each_at : (P : Line → Type 0) (ls : List Line) (n : ℕ) (l : Line) → EachIs P ls → slice_get ls n ≡ Some l → P l
each_at P [] n l h is = absurd (none-some l is)
each_at P (m ∷ ls) zero l h is = let same : m ≡ l = cc in subst P same h.0
each_at P (m ∷ ls) (suc n) l h is = each_at P ls n l h.1 is

-- the expression of a line spells itself
spells_itself : (profile : Profile) (bytes : List ℕ) (n : ℕ) (l : Line) → HasLine profile bytes n l → ExprSpellsItself l.expr
spells_itself profile bytes n l has =
    let each : EachIs (λ m. ExprSpellsItself m.expr) has.lines =
    lines_inside has.lines (length (mark_of bytes)) (drop (length (mark_of bytes)) bytes) has.are.spelled.0.lines in
    each_at (λ m. ExprSpellsItself m.expr) has.lines n l each has.here

-- and its key parts stand in it
pub part_held : (profile : Profile) (bytes : List ℕ) (n : ℕ) (l : Line) → HasLine profile bytes n l → (k : ℕ) (p : Piece) → slice_get (mention_pieces l.expr) k ≡ Some p
    → (expr_start l.expr ≤ p.start) × (p.start ≤ expr_end l.expr)
part_held profile bytes n l has k p is = part_within l.expr (spells_itself profile bytes n l has) k p is

-- an expression ends behind its start
pub ends_behind : (profile : Profile) (bytes : List ℕ) (n : ℕ) (l : Line) → HasLine profile bytes n l → expr_start l.expr ≤ expr_end l.expr
ends_behind profile bytes n l has =
    let itself = spells_itself profile bytes n l has in
    let ends : expr_start l.expr + length (joined (expr_parts l.expr)) ≡ expr_end l.expr =
    line_ends l.expr (expr_start l.expr) (joined (expr_parts l.expr)) [] itself in
    omega arith

-- bytes that are refused are no text
pub no_text : (bytes : List ℕ) (fault : TextFault) → IsFaultOf bytes fault → ¬ IsText bytes
no_text bytes (NotUtf8 at) refused = λ text. refused.0 (IsUtf8-from_is_utf8 bytes text.utf8)
no_text bytes TooLong refused = λ text. let fits = text.fits in omega (arith, fits, refused.1)

same_or_not : (a b : ℕ) → (a ≡ b) ⊎ (¬ (a ≡ b))
same_or_not zero zero = inl refl
same_or_not zero (suc b) = inr (λ (e : zero ≡ suc b). cc)
same_or_not (suc a) zero = inr (λ (e : suc a ≡ zero). cc)
same_or_not (suc a) (suc b) = elim (same_or_not a b) [ inl e ↦ inl (ap suc e) | inr other ↦ inr (λ (e : suc a ≡ suc b). other (omega arith)) ]

-- behind one line more the spans are found of a line that has the number
module _ (front : List Line) (l : Line) (count number : ℕ) (s found new : LineSpans) (counted : count ≡ length front) (are : AreSpansOf l.expr s) (before : Finds front number found)
    (here : count ≡ number → new ≡ s) (other : ¬ (count ≡ number) → new ≡ found) where
  is_here : count ≡ number → Finds (front ++ l ∷ []) number new
  is_here same m is =
      let at : length front ≡ number = sym counted ∙ same in
      let this : Some l ≡ Some m = sym (get_here front l) ∙ (ap (slice_get (front ++ l ∷ [])) at ∙ is) in
      let one : l ≡ m = cc in
      subst (λ (x : Line). AreSpansOf x.expr new) one (subst (AreSpansOf l.expr) (sym (here same)) are)

  is_before : ¬ (count ≡ number) → Finds (front ++ l ∷ []) number new
  is_before differ m is =
      let past : ¬ (length front ≡ number) = λ e. differ (counted ∙ e) in
      subst (AreSpansOf m.expr) (sym (other differ)) (before m (sym (get_other front l number past) ∙ is))

  pub found_more : Finds (front ++ l ∷ []) number new
  found_more = elim (same_or_not count number) [ inl same ↦ is_here same | inr differ ↦ is_before differ ]
