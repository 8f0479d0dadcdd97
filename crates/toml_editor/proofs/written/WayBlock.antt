-- The units of a new value on a way.
use Rattle.std.proofs.Common.{◌≡◌, ◌⊎◌, inl, inr, ◌+◌, ℕ, Bool, true, false, cond, Option, Some, None, List, [], ◌∷◌, ◌++◌, map, refl, sym, ap, ◌∙◌, subst, subst₂, true≢false, arith, append-nil}
use Rattle.std.specs.Prelude.{Contains}
use Rattle.std.proofs.lemmas.List.Elements.{All-contains_itself}
use Rattle.toml_tree.specs.Spells.{EachIs}
use Rattle.toml_tree.specs.Tree.{Value}
use Rattle.toml_names.specs.model.Addresses.{Address, IsAbove}
use Rattle.toml_edits.specs.Edits.{Change, place}
use Rattle.toml_units.specs.Relative.{under}
use Rattle.toml_units.specs.Units.{TextUnit, inside}
use Rattle.toml_units.specs.declared.unit.UnitKind.{UnitKind}
use Rattle.toml_units.specs.declared.unit.UnitKind.TheVariants as kinds
use Rattle.toml_units.proofs.Proved.{inside_is_under}
use Rattle.toml_checker.specs.CarriedTo.{IsAtOrAbove, At}
use Rattle.toml_checker.specs.Comments.{is_comment, texts}
use Rattle.toml_checker.specs.Plain.{Site, site, next_line}
use Rattle.toml_editor.specs.ChangedUnits.{is_inner, LiesInValue}
use Rattle.toml_editor.proofs.written.Pairwise.{each_of_all}
use Rattle.toml_editor.proofs.written.UnitsGone.{inner_line, value_in}
use Rattle.toml_editor.proofs.written.Way.{Step, both, old, new, olds, news, one_line}
use Rattle.toml_editor.proofs.written.WayComments.{added, comments}
use Rattle.toml_editor.proofs.written.WayFits.{IsAsked, Fits}
use Rattle.toml_editor.proofs.written.WayZip.{lines_in}

-- ---- ways one behind the other

abbrev pub line_after : Option Site → List Step → Option Site
line_after line [] = line
line_after line (both u w ∷ s) = line_after (next_line line (site u)) s
line_after line (old u ∷ s) = line_after (next_line line (site u)) s
line_after line (new w ∷ s) = line_after line s

pub olds_append : (s t : List Step) → olds (s ++ t) ≡ olds s ++ olds t
olds_append [] t = refl
olds_append (both u w ∷ s) t = ap (λ l. u ∷ l) (olds_append s t)
olds_append (old u ∷ s) t = ap (λ l. u ∷ l) (olds_append s t)
olds_append (new w ∷ s) t = olds_append s t

pub news_append : (s t : List Step) → news (s ++ t) ≡ news s ++ news t
news_append [] t = refl
news_append (both u w ∷ s) t = ap (λ l. w ∷ l) (news_append s t)
news_append (old u ∷ s) t = news_append s t
news_append (new w ∷ s) t = ap (λ l. w ∷ l) (news_append s t)

pub added_append : (s t : List Step) → added (s ++ t) ≡ added s ++ added t
added_append [] t = refl
added_append (both u w ∷ s) t = added_append s t
added_append (old u ∷ s) t = added_append s t
added_append (new w ∷ s) t = ap (λ l. w ∷ l) (added_append s t)

module _ (cs : List Change) (written : List (List (List ℕ))) (before after : List (List ℕ)) where
  abbrev Fit : Option Site → ℕ → ℕ → List Step → Type 0
  Fit = Fits cs written before after

  pub fits_append : (s t : List Step) (line : Option Site) (a b : ℕ) → Fit line a b s → Fit (line_after line s) (a + lines_in (olds s)) (b + lines_in (news s)) t → Fit line a b (s ++ t)
  fits_append [] t line a b h k = subst₂ (λ x y. Fit line x y t) (let e : a + 0 ≡ a = omega arith in e) (let e : b + 0 ≡ b = omega arith in e) k
  fits_append (both u w ∷ s) t line a b h k = (
    h.0,
    fits_append s t (next_line line (site u)) (a + one_line u.kind) (b + one_line w.kind) h.1
        (subst₂ (λ x y. Fit (line_after (next_line line (site u)) s) x y t) (let e : a + (one_line u.kind + lines_in (olds s)) ≡ (a + one_line u.kind) + lines_in (olds s) = omega arith in e)
        (let e : b + (one_line w.kind + lines_in (news s)) ≡ (b + one_line w.kind) + lines_in (news s) = omega arith in e) k),
  )
  fits_append (old u ∷ s) t line a b h k = (
    h.0,
    fits_append s t (next_line line (site u)) (a + one_line u.kind) b h.1
        (subst (λ x. Fit (line_after (next_line line (site u)) s) x (b + lines_in (news s)) t) (let e : a + (one_line u.kind + lines_in (olds s)) ≡ (a + one_line u.kind) + lines_in (olds s) = omega arith in e) k),
  )
  fits_append (new w ∷ s) t line a b h k = (
    h.0,
    fits_append s t line a (b + one_line w.kind) h.1
        (subst (λ y. Fit (line_after line s) (a + lines_in (olds s)) y t) (let e : b + (one_line w.kind + lines_in (news s)) ≡ (b + one_line w.kind) + lines_in (news s) = omega arith in e) k),
  )

  -- units that come, each asked wherever it stands
  pub new_fits : (ws : List TextUnit) (line : Option Site) (a b : ℕ) → EachIs (λ w. (k : ℕ) → IsAsked cs written before after k w) ws → Fit line a b (map new ws)
  new_fits [] line a b h = tt
  new_fits (w ∷ ws) line a b h = (h.0 b, new_fits ws line a (b + one_line w.kind) h.1)

pub new_olds : (ws : List TextUnit) → olds (map new ws) ≡ []
new_olds [] = refl
new_olds (w ∷ ws) = new_olds ws

pub new_news : (ws : List TextUnit) → news (map new ws) ≡ ws
new_news [] = refl
new_news (w ∷ ws) = ap (λ l. w ∷ l) (new_news ws)

pub new_adds : (ws : List TextUnit) → added (map new ws) ≡ ws
new_adds [] = refl
new_adds (w ∷ ws) = ap (λ l. w ∷ l) (new_adds ws)

-- units that go
pub old_olds : (us : List TextUnit) → olds (map old us) ≡ us
old_olds [] = refl
old_olds (u ∷ us) = ap (λ l. u ∷ l) (old_olds us)

pub old_news : (us : List TextUnit) → news (map old us) ≡ []
old_news [] = refl
old_news (u ∷ us) = old_news us

pub old_adds : (us : List TextUnit) → added (map old us) ≡ []
old_adds [] = refl
old_adds (u ∷ us) = old_adds us

pub lines_append : (us vs : List TextUnit) → lines_in (us ++ vs) ≡ lines_in us + lines_in vs
lines_append [] vs = omega arith
lines_append (u ∷ us) vs = let more = lines_append us vs in omega (arith, more)

-- ---- what lies in a value

pub inner_lines : (p : Address) (us : List TextUnit) → EachIs (LiesInValue p) us → lines_in us ≡ 0
inner_lines p [] h = refl
inner_lines p (u ∷ us) h = let more = inner_lines p us h.1 in let none : ◌≡◌ {A = ℕ} (one_line u.kind) 0 = ap (λ b. cond {A = ℕ} b 1 0) (inner_line u.kind h.0.0) in omega (arith, more, none)

pub inside_lines : (at : Address) (v : Value) → lines_in (inside at v) ≡ 0
inside_lines at v = inner_lines at (inside at v) (value_in at v at (inr refl))

texts_under : (at : Option Address) (us : List TextUnit) → texts (comments (map (under at) us)) ≡ texts (comments us)
texts_under at [] = refl
texts_under at (u ∷ us) = by (is_comment u.kind) (texts_under at us)
  where
    by : (b : Bool) → texts (comments (map (under at) us)) ≡ texts (comments us)
        → texts (cond b (under at u ∷ comments (map (under at) us)) (comments (map (under at) us))) ≡ texts (cond b (u ∷ comments us) (comments us))
    by true more = ap (λ l. u.piece.text ∷ l) more
    by false more = more

-- the comments in a value are the same wherever it stands
pub same_comments : (at : Address) (v : Value) → texts (comments (inside at v)) ≡ texts (comments (inside [] v))
same_comments at v = ap (λ (a : Address). texts (comments (inside a v))) (sym (append-nil at)) ∙ ap (λ us. texts (comments us)) (inside_is_under v at []) ∙ texts_under (Some at) (inside [] v)

comment_texts : (P : List ℕ → Type 0) (us : List TextUnit) → EachIs P (texts (comments us)) → EachIs (λ (u : TextUnit). is_comment u.kind ≡ true → P u.piece.text) us
comment_texts P [] h = tt
comment_texts P (u ∷ us) h = by (is_comment u.kind) refl h (λ k. comment_texts P us k)
  where
    by : (b : Bool) → is_comment u.kind ≡ b → EachIs P (texts (cond b (u ∷ comments us) (comments us))) → (EachIs P (texts (comments us)) → EachIs (λ (w : TextUnit). is_comment w.kind ≡ true → P w.piece.text) us)
        → EachIs (λ (w : TextUnit). is_comment w.kind ≡ true → P w.piece.text) (u ∷ us)
    by true is h more = ((λ e. h.0), more h.1)
    by false is h more = ((λ e. absurd (true≢false (sym e ∙ is))), more h)

-- each unit in a new value is asked for
module _ (c : Change) (v : Value) (before after : List (List ℕ)) where
  abbrev p : Address
  p = place c

  abbrev ts : List (List ℕ)
  ts = texts (comments (inside [] v))

  asked : (w : TextUnit) → LiesInValue p w → (is_comment w.kind ≡ true → Contains ts w.piece.text) → (k : ℕ) → IsAsked (c ∷ []) (ts ∷ []) before after k w
  asked w lies there k = record {
    line = λ is. absurd (true≢false (sym lies.0 ∙ ap is_inner is));
    comment = λ is. (inner w.kind lies.0 is, inl (there is, p, refl, near w.address lies.1));
  }
    where
      inner : (kind : UnitKind) → is_inner kind ≡ true → is_comment kind ≡ true → kind ≡ kinds.InnerComment
      inner kinds.Line a b = absurd (true≢false (sym a))
      inner kinds.TailComment a b = absurd (true≢false (sym a))
      inner kinds.InnerComment a b = refl
      inner kinds.Element a b = absurd (true≢false (sym b))
      inner kinds.Pair a b = absurd (true≢false (sym b))

      near : (o : Option Address) → At o (λ a. IsAbove p a ⊎ ((a ≡ p) × (w.kind ≡ kinds.InnerComment))) → At o (IsAtOrAbove p)
      near None h = absurd h
      near (Some a) (inl above) = (above.0 ∷ above.1, above.2)
      near (Some a) (inr is) = ([], is.0 ∙ sym (append-nil p))

  both_hold : (us : List TextUnit) → EachIs (LiesInValue p) us → EachIs (λ (w : TextUnit). is_comment w.kind ≡ true → Contains ts w.piece.text) us → EachIs (λ w. (k : ℕ) → IsAsked (c ∷ []) (ts ∷ []) before after k w) us
  both_hold [] h g = tt
  both_hold (w ∷ us) h g = (asked w h.0 g.0, both_hold us h.1 g.1)

  pub inside_asked : EachIs (λ w. (k : ℕ) → IsAsked (c ∷ []) (ts ∷ []) before after k w) (inside p v)
  inside_asked =
      both_hold (inside p v) (value_in p v p (inr refl))
      (comment_texts (Contains ts) (inside p v) (subst (EachIs (Contains ts)) (sym (same_comments p v)) (each_of_all (Contains ts) ts (All-contains_itself ts))))
