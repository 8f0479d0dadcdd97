-- What a way keeps besides what its pairs need, so that it can go on: of each unit what decides whether it is protected, of a comment
-- its line, and of a line how it ends.
use Rattle.std.proofs.Common.{◌≡◌, ◌⊎◌, inl, inr, ◌+◌, ℕ, Bool, true, false, cond, ◌&&◌, Option, Some, None, option_map, option_and_then, List, [], ◌∷◌, length, refl, sym, ap, ap₂, ◌∙◌, true≢false}
use Rattle.std.specs.Prelude.{slice_get, not}
use Rattle.toml_names.specs.model.Addresses.{Address}
use Rattle.toml_edits.specs.Carry.{carry}
use Rattle.toml_edits.specs.Edits.{Change, place}
use Rattle.toml_edits.specs.Lists.{carried}
use Rattle.toml_edits.proofs.Proved.{carried_on}
use Rattle.toml_units.specs.declared.unit.UnitKind.{UnitKind}
use Rattle.toml_units.specs.declared.unit.UnitKind.TheVariants as kinds
use Rattle.toml_units.specs.Places.{is_line}
use Rattle.toml_units.specs.Units.{TextUnit}
use Rattle.toml_checker.specs.declared.tables.Part.{Part}
use Rattle.toml_checker.specs.declared.tables.Part.TheVariants as parts
use Rattle.toml_checker.specs.CarriedTo.{At, IsCarriedTo}
use Rattle.toml_checker.specs.Comments.{is_comment}
use Rattle.toml_checker.specs.Plain.{Site, site, next_line, stands, is_named, is_kept, home_stands}
use Rattle.toml_edits.specs.Sides.{side}
use Rattle.toml_editor.proofs.written.Way.{Step, both, old, new, one_line, is_here}
use Rattle.toml_editor.proofs.written.WayHome.{IsOwedHeader}
use Rattle.toml_editor.proofs.written.WayOwed.{IsOwedBelow}

-- a site where the edits carry it
abbrev pub moved_site : List Change → Site → Site
moved_site cs s = record { kind = s.kind; address = option_and_then (carried cs) s.address; base = s.base }

module _ (cs : List Change) (before after : List (List ℕ)) where
  -- of two lines that go together
  pub record Ends (a b : ℕ) : Type 0 where
    pub newline : (slice_get before a ≡ slice_get after b) ⊎ (a + 1 ≡ length before)
    pub last : b + 1 ≡ length after → a + 1 ≡ length before

  -- a line that comes and has no key is blank, or a header's at or below what the edits put there, or right above a name that they put there
  abbrev pub ComesOwed : TextUnit → Type 0
  ComesOwed w = w.kind ≡ kinds.Line → w.base ≡ None → (w.address ≡ None) ⊎ At w.address (IsOwedHeader cs)

-- `Firm` tells when a last line of no bytes stays the last.
module _ (Firm : Type 0) (cs : List Change) (before after : List (List ℕ)) where
  -- of two units that go together, behind these lines
  pub record StaysIf (line next : Option Site) (a b : ℕ) (u w : TextUnit) : Type 0 where
    pub goes : site w ≡ moved_site cs (site u)
    pub home : is_comment u.kind ≡ true → next ≡ option_map (moved_site cs) line
    pub ends : u.kind ≡ kinds.Line → Ends cs before after a b
    pub empty : Firm → u.kind ≡ kinds.Line → is_here cs line u ≡ true → u.piece.text ≡ [] → a + 1 ≡ length before → b + 1 ≡ length after
    pub header : u.kind ≡ kinds.Line → u.base ≡ None → is_here cs line u ≡ false → At w.address (IsOwedBelow cs)

  abbrev pub KeepsIf : Option Site → Option Site → ℕ → ℕ → List Step → Type 0
  KeepsIf line next a b [] = Unit {0}
  KeepsIf line next a b (both u w ∷ s) =
      StaysIf line next a b u w × KeepsIf (next_line line (site u)) (next_line next (site w)) (a + one_line u.kind) (b + one_line w.kind) s
  KeepsIf line next a b (old u ∷ s) = KeepsIf (next_line line (site u)) next (a + one_line u.kind) b s
  KeepsIf line next a b (new w ∷ s) = ComesOwed cs before after w × KeepsIf line (next_line next (site w)) a (b + one_line w.kind) s

-- where it always does
abbrev pub Stays : List Change → List (List ℕ) → List (List ℕ) → Option Site → Option Site → ℕ → ℕ → TextUnit → TextUnit → Type 0
Stays = StaysIf (Unit {0})

abbrev pub Keeps : List Change → List (List ℕ) → List (List ℕ) → Option Site → Option Site → ℕ → ℕ → List Step → Type 0
Keeps = KeepsIf (Unit {0})

module _ (Firm Other : Type 0) (firm : Other → Firm) (cs : List Change) (before after : List (List ℕ)) where
  pub keeps_weaker : (s : List Step) (line next : Option Site) (a b : ℕ) → KeepsIf Firm cs before after line next a b s
      → KeepsIf Other cs before after line next a b s
  keeps_weaker [] line next a b keeps = tt
  keeps_weaker (both u w ∷ s) line next a b keeps =
      let stays = keeps.0 in (
        record { goes = stays.goes; home = stays.home; ends = stays.ends; empty = λ other. stays.empty (firm other); header = stays.header },
        keeps_weaker s (next_line line (site u)) (next_line next (site w)) (a + one_line u.kind) (b + one_line w.kind) keeps.1,
      )
  keeps_weaker (old u ∷ s) line next a b keeps = keeps_weaker s (next_line line (site u)) next (a + one_line u.kind) b keeps
  keeps_weaker (new w ∷ s) line next a b keeps = (keeps.0, keeps_weaker s line (next_line next (site w)) a (b + one_line w.kind) keeps.1)

-- ---- what is protected under an edit and those that follow

pub no_more : (o : Option Address) → option_and_then (carried []) o ≡ o
no_more None = refl
no_more (Some a) = refl

pub nowhere_stands : (part : Part) (cs : List Change) (base : Option ℕ) → stands part cs None base ≡ true
nowhere_stands part [] base = refl
nowhere_stands part (c ∷ cs) base = refl

stands_on : (part : Part) (c : Change) (cs : List Change) (o : Option Address) (base : Option ℕ)
    → stands part (c ∷ cs) o base ≡ (stands part (c ∷ []) o base && stands part cs (option_and_then (carried (c ∷ [])) o) base)
stands_on part c cs None base = sym (nowhere_stands part cs base)
stands_on part c cs (Some a) base = by (not (is_named part c base (side (place c) a)))
  where
    by : (t : Bool) → (t && stands part cs (carry c a) base) ≡
        ((t && true) && stands part cs (option_and_then (carried []) (carry c a)) base)
    by true = ap (λ o. stands part cs o base) (sym (no_more (carry c a)))
    by false = refl

home_on : (c : Change) (cs : List Change) (line : Option Site)
    → home_stands (c ∷ cs) line ≡ (home_stands (c ∷ []) line && home_stands cs (option_map (moved_site (c ∷ [])) line))
home_on c cs None = refl
home_on c cs (Some l) = stands_on parts.Home c cs l.address l.base

shuffled : (a b x y : Bool) → ((a && b) && (x && y)) ≡ ((a && x) && (b && y))
shuffled false b x y = refl
shuffled true false false y = refl
shuffled true false true y = refl
shuffled true true x y = refl

-- a unit is protected under all where it is under the first, and under the others where the first has carried it
pub kept_on : (c : Change) (cs : List Change) (line next : Option Site) (u w : TextUnit) → site w ≡ moved_site (c ∷ []) (site u)
    → (is_comment u.kind ≡ true → next ≡ option_map (moved_site (c ∷ [])) line)
    → is_here (c ∷ cs) line u ≡ (is_here (c ∷ []) line u && is_here cs next w)
kept_on c cs line next u w goes home =
    by u.kind u.address u.base home ∙ ap (λ (s : Site). is_here (c ∷ []) line u && is_kept s.kind cs (next_line next s) s) (sym goes)
  where
    by : (kind : UnitKind) (o : Option Address) (base : Option ℕ) → (is_comment kind ≡ true → next ≡ option_map (moved_site (c ∷ [])) line)
        → is_kept kind (c ∷ cs) (next_line line (record { kind = kind; address = o; base = base }))
        (record { kind = kind; address = o; base = base })
        ≡ (is_kept kind (c ∷ []) (next_line line (record { kind = kind; address = o; base = base }))
        (record { kind = kind; address = o; base = base })
        && is_kept kind cs (next_line next (record { kind = kind; address = option_and_then (carried (c ∷ [])) o; base = base }))
        (record { kind = kind; address = option_and_then (carried (c ∷ [])) o; base = base }))
    by kinds.Line o base home = stands_on parts.Line c cs o base
    by kinds.Pair o base home = stands_on parts.Line c cs o base
    by kinds.Element o base home = stands_on parts.Element c cs o base
    by kinds.TailComment o base home = home_on c cs line ∙ ap (λ l. home_stands (c ∷ []) line && home_stands cs l) (sym (home refl))
    by kinds.InnerComment o base home =
        ap₂ (λ x y. x && y) (home_on c cs line ∙ ap (λ l. home_stands (c ∷ []) line && home_stands cs l) (sym (home refl)))
        (stands_on parts.Comment c cs o base)
        ∙ shuffled (home_stands (c ∷ []) line) (home_stands cs next) (stands parts.Comment (c ∷ []) o base)
        (stands parts.Comment cs (option_and_then (carried (c ∷ [])) o) base)

-- what goes by the first edit
pub lost_on : (c : Change) (cs : List Change) (line : Option Site) (u : TextUnit) → is_here (c ∷ []) line u ≡ false
    → is_here (c ∷ cs) line u ≡ false
lost_on c cs line u lost =
    let w : TextUnit = record { kind = u.kind; piece = u.piece; address = option_and_then (carried (c ∷ [])) u.address; base = u.base } in
    let next = option_map (moved_site (c ∷ [])) line in
    kept_on c cs line next u w refl (λ is. refl) ∙ ap (λ x. x && is_here cs next w) lost

-- ---- where it is carried

moved_address : (c : Change) (cs : List Change) (o : Option Address)
    → option_and_then (carried cs) (option_and_then (carried (c ∷ [])) o) ≡ option_and_then (carried (c ∷ cs)) o
moved_address c cs None = refl
moved_address c cs (Some a) = sym (carried_on (c ∷ []) cs a)

pub moved_on : (c : Change) (cs : List Change) (s : Site) → moved_site cs (moved_site (c ∷ []) s) ≡ moved_site (c ∷ cs) s
moved_on c cs s = ap (λ o. record { kind = s.kind; address = o; base = s.base }) (moved_address c cs s.address)

pub line_moved_on : (c : Change) (cs : List Change) (line : Option Site)
    → option_map (moved_site cs) (option_map (moved_site (c ∷ [])) line) ≡ option_map (moved_site (c ∷ cs)) line
line_moved_on c cs None = refl
line_moved_on c cs (Some l) = ap Some (moved_on c cs l)

-- ---- lines

-- whether a unit of a kind is protected, a line among them
pub kind_is : (cs : List Change) (line : Option Site) (u : TextUnit) (kind : UnitKind) → u.kind ≡ kind
    → is_here cs line u ≡ is_kept kind cs (next_line line (record { kind = kind; address = u.address; base = u.base }))
    (record { kind = kind; address = u.address; base = u.base })
kind_is cs line u kind is = ap
    (λ k. is_kept k cs (next_line line (record { kind = k; address = u.address; base = u.base }))
    (record { kind = k; address = u.address; base = u.base })) is

pub line_is : (cs : List Change) (line : Option Site) (u : TextUnit) → u.kind ≡ kinds.Line
    → is_here cs line u ≡ stands parts.Line cs u.address u.base
line_is cs line u is = kind_is cs line u kinds.Line is

-- the line goes along
pub line_goes : (cs : List Change) (line next : Option Site) (u w : TextUnit) → site w ≡ moved_site cs (site u)
    → (next ≡ option_map (moved_site cs) line) ⊎ (u.kind ≡ kinds.Line)
    → next_line next (site w) ≡ option_map (moved_site cs) (next_line line (site u))
line_goes cs line next u w goes home = ap (next_line next) goes ∙ by (is_line u.kind) refl home
  where
    by : (b : Bool) → is_line u.kind ≡ b → (next ≡ option_map (moved_site cs) line) ⊎ (u.kind ≡ kinds.Line)
        → cond b (Some (moved_site cs (site u))) next ≡ option_map (moved_site cs) (cond b (Some (site u)) line)
    by true is home = refl
    by false is (inl home) = home
    by false is (inr line) = absurd (true≢false (sym (ap is_line line) ∙ is))

-- ---- where one edit carries a unit

one_carrier : (c : Change) (o : Option Address) → option_and_then (carry c) o ≡ option_and_then (carried (c ∷ [])) o
one_carrier c None = refl
one_carrier c (Some a) = sym (no_more (carry c a))

-- where it carries it, and the others on
pub one_carried : (c : Change) (cs : List Change) (o x y : Option Address) → IsCarriedTo (c ∷ []) o x → IsCarriedTo cs x y → IsCarriedTo (c ∷ cs) o y
one_carried c cs None None None h k = tt
one_carried c cs None None (Some b) h k = absurd k
one_carried c cs None (Some x) y h k = absurd h
one_carried c cs (Some a) None y h k = absurd h
one_carried c cs (Some a) (Some x) None h k = absurd k
one_carried c cs (Some a) (Some x) (Some b) h k = ap (option_and_then (carried cs)) (sym (no_more (carry c a)) ∙ h) ∙ k

pub site_goes : (c : Change) (u w : TextUnit) → w.kind ≡ u.kind → w.address ≡ option_and_then (carry c) u.address → w.base ≡ u.base
    → site w ≡ moved_site (c ∷ []) (site u)
site_goes c u w kind address base =
    ap (λ k. record { kind = k; address = w.address; base = w.base }) kind
    ∙ ap (λ o. record { kind = u.kind; address = o; base = w.base }) (address ∙ one_carrier c u.address)
    ∙ ap (λ n. record { kind = u.kind; address = option_and_then (carried (c ∷ [])) u.address; base = n }) base

-- lines whose newlines stay
pub same_ends : (cs : List Change) (before after : List (List ℕ)) → before ≡ after → (a : ℕ) → Ends cs before after a a
same_ends cs before after is a = record { newline = inl (ap (λ ns. slice_get ns a) is); last = λ h. h ∙ sym (ap length is) }

-- ---- ways one behind the other

abbrev pub next_after : Option Site → List Step → Option Site
next_after next [] = next
next_after next (both u w ∷ s) = next_after (next_line next (site w)) s
next_after next (old u ∷ s) = next_after next s
next_after next (new w ∷ s) = next_after (next_line next (site w)) s
