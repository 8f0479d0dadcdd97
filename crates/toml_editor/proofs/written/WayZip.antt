-- Ways on which units go together, and what the flags of single units tell.
use Rattle.std.proofs.Common.{◌≡◌, ◌⊎◌, inl, inr, ◌<◌, ◌+◌, ℕ, true, false, Option, Some, None, option_and_then, List, [], ◌∷◌, refl, sym, ap, ap₂, ◌∙◌, subst, subst₂, true≢false, arith, append-nil}
use Rattle.std.specs.Prelude.{◌&&◌, not}
use Rattle.toml_tree.specs.Tree.{Piece}
use Rattle.toml_names.specs.model.Addresses.{Address, IsAbove}
use Rattle.toml_edits.specs.Carry.{carry}
use Rattle.toml_edits.specs.Edits.{Change, set, insert, rename, remove, new_section, new_element, place}
use Rattle.toml_edits.specs.Lists.{carried}
use Rattle.toml_units.specs.declared.unit.UnitKind.{UnitKind}
use Rattle.toml_units.specs.declared.unit.UnitKind.TheVariants as kinds
use Rattle.toml_units.specs.Places.{is_line, line_of}
use Rattle.toml_units.specs.Units.{TextUnit}
use Rattle.toml_edits.specs.declared.side.Side.{Side}
use Rattle.toml_edits.specs.declared.side.Side.TheVariants as sides
use Rattle.toml_checker.specs.CarriedTo.{IsAtOrAbove, IsCarriedTo}
use Rattle.toml_checker.specs.Comments.{is_comment}
use Rattle.toml_checker.specs.GoneAndChanged.{IsChanged}
use Rattle.toml_checker.specs.declared.tables.Part.TheVariants as parts
use Rattle.toml_checker.specs.Plain.{Site, site, next_line, stands, is_named, is_kept, home_stands}
use Rattle.toml_checker.specs.Protected.{standing}
use Rattle.toml_edits.specs.Sides.{side}
use Rattle.toml_edits.proofs.Proved.{sides_are_right}
use Rattle.toml_checker.proofs.Proved.{flags_tell}
use Rattle.toml_working.specs.Together.{GoTogether}
use Rattle.toml_editor.proofs.written.Way.{Step, both, olds, news, one_line, is_here}
use Rattle.toml_editor.proofs.written.WayFits.{SameNewline, Matches, Fits}

-- ---- flags

-- what is protected is not changed
pub unchanged : (c : Change) (line : Option Site) (u : TextUnit) (l : Option TextUnit) → is_here (c ∷ []) line u ≡ true → ¬ IsChanged u.kind c (standing u l)
unchanged c line u l = by u.kind u.piece u.address u.base
  where
    protected : (x : TextUnit) → is_here (c ∷ []) None x ≡ true → (y : TextUnit) × (x ≡ y) × (m : Option TextUnit) × (¬ IsChanged y.kind c (standing y m))
    protected x is =
        let p = ((flags_tell (c ∷ []) (x ∷ [])).1 0).0 (ap Some is) in
        (p.0, (let e : ◌≡◌ {A = Option TextUnit} (Some x) (Some p.0) = p.1 in cc), line_of (x ∷ []) 0, p.2.1)

    by : (kind : UnitKind) (piece : Piece) (a : Option Address) (base : Option ℕ) → is_here (c ∷ []) line (record { kind = kind; piece = piece; address = a; base = base }) ≡ true
        → ¬ IsChanged kind c (standing (record { kind = kind; piece = piece; address = a; base = base }) l)
    by kinds.TailComment piece a base is changed = changed
    by kinds.InnerComment piece a base is changed = changed
    by kinds.Line piece a base is changed =
        let p = protected (record { kind = kinds.Line; piece = piece; address = a; base = base }) is in
        subst (λ (y : TextUnit). ¬ IsChanged y.kind c (standing y p.2)) (sym p.1) p.3 changed
    by kinds.Pair piece a base is changed =
        let p = protected (record { kind = kinds.Pair; piece = piece; address = a; base = base }) is in
        subst (λ (y : TextUnit). ¬ IsChanged y.kind c (standing y p.2)) (sym p.1) p.3 changed
    by kinds.Element piece a base is changed =
        let p = protected (record { kind = kinds.Element; piece = piece; address = a; base = base }) is in
        subst (λ (y : TextUnit). ¬ IsChanged y.kind c (standing y p.2)) (sym p.1) p.3 changed

-- the one address is at or above the other, or below it
abbrev pub IsNear : Address → Address → Type 0
IsNear p a = IsAtOrAbove p a ⊎ IsAbove a p

near : (p a : Address) → ¬ (side p a ≡ sides.Apart) → IsNear p a
near p a not = by (side p a) refl
  where
    by : (s : Side) → side p a ≡ s → IsNear p a
    by sides.Apart is = absurd (not is)
    by sides.Above is = let above = (sides_are_right p a).above.0 is in inl (above.0 ∷ above.1, above.2)
    by sides.At is = inl ([], sym ((sides_are_right p a).at.0 is) ∙ sym (append-nil p))
    by sides.Below is = inr ((sides_are_right p a).below.0 is)

-- an edit that is plain
abbrev pub IsOfPlain : Change → Type 0
IsOfPlain (set p text) = Unit {0}
IsOfPlain (insert p text) = Unit {0}
IsOfPlain (rename p to) = Unit {0}
IsOfPlain (remove p) = Unit {0}
IsOfPlain _ = ⊥

-- a line apart from the edit's place is protected
apart : (c : Change) → IsOfPlain c → (a : Address) (base : Option ℕ) → side (place c) a ≡ sides.Apart → stands parts.Line (c ∷ []) (Some a) base ≡ true
apart (set p text) plain a None is = ap (λ s. not (is_named parts.Line (set p text) None s) && true) is
apart (set p text) plain a (Some n) is = ap (λ s. not (is_named parts.Line (set p text) (Some n) s) && true) is
apart (insert p text) plain a None is = ap (λ s. not (is_named parts.Line (insert p text) None s) && true) is
apart (insert p text) plain a (Some n) is = ap (λ s. not (is_named parts.Line (insert p text) (Some n) s) && true) is
apart (rename p to) plain a None is = ap (λ s. not (is_named parts.Line (rename p to) None s) && true) is
apart (rename p to) plain a (Some n) is = ap (λ s. not (is_named parts.Line (rename p to) (Some n) s) && true) is
apart (remove p) plain a None is = ap (λ s. not (is_named parts.Line (remove p) None s) && true) is
apart (remove p) plain a (Some n) is = ap (λ s. not (is_named parts.Line (remove p) (Some n) s) && true) is
apart (new_section p) plain a base is = absurd plain
apart (new_element p) plain a base is = absurd plain

-- so one that is not has an address, near the edit's
pub lost_line : (c : Change) → IsOfPlain c → (line : Option Site) (u : TextUnit) → u.kind ≡ kinds.Line → is_here (c ∷ []) line u ≡ false → (a : Address) × (u.address ≡ Some a) × IsNear (place c) a
lost_line c plain line u is_line lost = by u.kind is_line u.address refl lost
  where
    by : (kind : UnitKind) → kind ≡ kinds.Line → (o : Option Address) → u.address ≡ o → is_kept kind (c ∷ []) (next_line line (record { kind = kind; address = o; base = u.base })) (record { kind = kind; address = o; base = u.base }) ≡ false
        → (a : Address) × (u.address ≡ Some a) × IsNear (place c) a
    by kinds.Line e None at lost = absurd (true≢false lost)
    by kinds.Line e (Some a) at lost = (a, at, near (place c) a (λ far. true≢false (sym (apart c plain a u.base far) ∙ lost)))
    by kinds.Pair e o at lost = cc
    by kinds.Element e o at lost = cc
    by kinds.TailComment e o at lost = cc
    by kinds.InnerComment e o at lost = cc

-- where an edit leaves each line protected as the home of comments, and each comment as such, it takes none away
pub comments_stay : (c : Change) → ((line : Option Site) → home_stands (c ∷ []) line ≡ true)
    → ((a : Option Address) (base : Option ℕ) → stands parts.Comment (c ∷ []) a base ≡ true)
    → (line : Option Site) (u : TextUnit) → is_here (c ∷ []) line u ≡ false → is_comment u.kind ≡ false
comments_stay c homes self line u lost = by u.kind u.address u.base lost
  where
    by : (kind : UnitKind) (a : Option Address) (base : Option ℕ)
        → is_kept kind (c ∷ []) (next_line line (record { kind = kind; address = a; base = base })) (record { kind = kind; address = a; base = base }) ≡ false
        → is_comment kind ≡ false
    by kinds.Line a base lost = refl
    by kinds.Pair a base lost = refl
    by kinds.Element a base lost = refl
    by kinds.TailComment a base lost = absurd (true≢false (sym (homes line) ∙ lost))
    by kinds.InnerComment a base lost = absurd (true≢false (sym (ap₂ (λ x y. x && y) (homes line) (self a base)) ∙ lost))

-- an edit that takes no unit away
abbrev pub TakesNone : Change → Type 0
TakesNone (insert p text) = Unit {0}
TakesNone (rename p to) = Unit {0}
TakesNone _ = ⊥

-- leaves every comment protected
home_here : (c : Change) → TakesNone c → (l : Site) → stands parts.Home (c ∷ []) l.address l.base ≡ true
home_here c none l = by c none l.address l.base
  where
    by : (c : Change) → TakesNone c → (a : Option Address) (base : Option ℕ) → stands parts.Home (c ∷ []) a base ≡ true
    by c none None base = refl
    by (insert p text) none (Some a) None = refl
    by (insert p text) none (Some a) (Some n) = refl
    by (rename p to) none (Some a) None = refl
    by (rename p to) none (Some a) (Some n) = refl
    by (set p text) none (Some a) base = absurd none
    by (remove p) none (Some a) base = absurd none
    by (new_section p) none (Some a) base = absurd none
    by (new_element p) none (Some a) base = absurd none

self_here : (c : Change) → TakesNone c → (a : Option Address) (base : Option ℕ) → stands parts.Comment (c ∷ []) a base ≡ true
self_here c none None base = refl
self_here (insert p text) none (Some a) base = refl
self_here (rename p to) none (Some a) base = refl
self_here (set p text) none (Some a) base = absurd none
self_here (remove p) none (Some a) base = absurd none
self_here (new_section p) none (Some a) base = absurd none
self_here (new_element p) none (Some a) base = absurd none

homes_here : (c : Change) → TakesNone c → (line : Option Site) → home_stands (c ∷ []) line ≡ true
homes_here c none None = refl
homes_here c none (Some l) = home_here c none l

pub no_comment_lost : (c : Change) → TakesNone c → (line : Option Site) (u : TextUnit) → is_here (c ∷ []) line u ≡ false → is_comment u.kind ≡ false
no_comment_lost c none = comments_stay c (homes_here c none) (self_here c none)

-- an address and where it is carried
pub carried_to : (c : Change) (a w : Option Address) → w ≡ option_and_then (carry c) a → ((x : Address) → a ≡ Some x → (b : Address) × (carry c x ≡ Some b)) → IsCarriedTo (c ∷ []) a w
carried_to c None w is some = subst (IsCarriedTo (c ∷ []) None) (sym is) tt
carried_to c (Some x) w is some =
    let b = some x refl in
    subst (IsCarriedTo (c ∷ []) (Some x)) (sym (is ∙ b.1)) (ap (option_and_then (carried [])) b.1)

-- ---- ways on which all units go together

abbrev pub zip : List TextUnit → List TextUnit → List Step
zip (u ∷ us) (w ∷ ws) = both u w ∷ zip us ws
zip _ _ = []

abbrev pub lines_in : List TextUnit → ℕ
lines_in [] = 0
lines_in (u ∷ us) = one_line u.kind + lines_in us

pub zip_olds : (P : TextUnit → TextUnit → Type 0) (us ws : List TextUnit) → GoTogether P us ws → olds (zip us ws) ≡ us
zip_olds P [] [] h = refl
zip_olds P [] (w ∷ ws) h = absurd h
zip_olds P (u ∷ us) [] h = absurd h
zip_olds P (u ∷ us) (w ∷ ws) h = ap (λ l. u ∷ l) (zip_olds P us ws h.1)

pub zip_news : (P : TextUnit → TextUnit → Type 0) (us ws : List TextUnit) → GoTogether P us ws → news (zip us ws) ≡ ws
zip_news P [] [] h = refl
zip_news P [] (w ∷ ws) h = absurd h
zip_news P (u ∷ us) [] h = absurd h
zip_news P (u ∷ us) (w ∷ ws) h = ap (λ l. w ∷ l) (zip_news P us ws h.1)

module _ (cs : List Change) (written : List (List (List ℕ))) (before after : List (List ℕ)) where
  abbrev Same : ℕ → ℕ → Type 0
  Same = SameNewline cs written before after

  pub zip_fits : (P : TextUnit → TextUnit → Type 0) → ((line : Option Site) (a b : ℕ) (u w : TextUnit) → P u w → (u.kind ≡ kinds.Line → Same a b) → Matches cs written before after line a b u w)
      → (us ws : List TextUnit) → GoTogether P us ws → (line : Option Site) (a b : ℕ) → ((x : ℕ) → x < lines_in us → Same (a + x) (b + x)) → Fits cs written before after line a b (zip us ws)
  zip_fits P f [] ws h line a b same = tt
  zip_fits P f (u ∷ us) [] h line a b same = tt
  zip_fits P f (u ∷ us) (w ∷ ws) h line a b same =
      let m = f line a b u w h.0 (λ is. subst₂ Same (let e : a + 0 ≡ a = omega arith in e) (let e : b + 0 ≡ b = omega arith in e) (same 0 (some_line u is))) in (
        m,
        zip_fits P f us ws h.1 (next_line line (site u)) (a + one_line u.kind) (b + one_line w.kind)
            (λ x low. subst₂ Same (let e : a + (one_line u.kind + x) ≡ (a + one_line u.kind) + x = omega arith in e)
            ((let e : b + (one_line u.kind + x) ≡ (b + one_line u.kind) + x = omega arith in e) ∙ ap (λ k. (b + one_line k) + x) (sym m.kind))
            (same (one_line u.kind + x) (omega (arith, low)))),
      )
    where
      some_line : (u : TextUnit) → u.kind ≡ kinds.Line → 0 < one_line u.kind + lines_in us
      some_line u is = let e : one_line u.kind ≡ 1 = ap one_line is in omega (arith, e)
