-- What the ways of single edits keep.
use Rattle.std.proofs.Common.{◌≡◌, ◌⊎◌, inl, inr, ◌<◌, ◌≤◌, ◌+◌, ℕ, Bool, true, false, cond, ◌&&◌, Option, Some, None, option_map, option_and_then, List, [], ◌∷◌, ◌++◌, map, length, refl, sym, ap, ◌∙◌, subst, subst₂, true≢false, arith, append-nil}
use Rattle.std.specs.Prelude.{not}
use Rattle.toml_tree.specs.Spells.{EachIs}
use Rattle.toml_tree.specs.Tree.{Line}
use Rattle.toml_names.specs.mentions.Mentions.{Named, named_by}
use Rattle.toml_names.specs.model.Addresses.{Address}
use Rattle.toml_edits.specs.Carry.{carry}
use Rattle.toml_edits.specs.Edits.{Change, insert, rename, place}
use Rattle.toml_units.specs.declared.unit.UnitKind.TheVariants as kinds
use Rattle.toml_units.specs.Units.{TextUnit, line_units, units_from}
use Rattle.toml_edits.specs.declared.side.Side.{Side}
use Rattle.toml_edits.specs.declared.side.Side.TheVariants as sides
use Rattle.toml_checker.specs.declared.tables.Part.TheVariants as parts
use Rattle.toml_checker.specs.CarriedTo.{IsAtOrAbove, At}
use Rattle.toml_checker.specs.Comments.{is_comment}
use Rattle.toml_checker.specs.Plain.{Site, site, next_line, stands, is_named}
use Rattle.toml_edits.specs.Sides.{side}
use Rattle.toml_edits.proofs.Proved.{sides_are_right}
use Rattle.toml_editor.specs.ChangedUnits.{LiesInValue}
use Rattle.toml_editor.specs.RenamedUnits.{IsCarried}
use Rattle.toml_working.specs.Together.{GoTogether}
use Rattle.toml_editor.specs.UnitBlocks.{BeginWithLine}
use Rattle.toml_editor.proofs.written.LastLines.{LastIsFull, inner_is_no_line}
use Rattle.toml_editor.proofs.written.UnitsPut.{line_lines}
use Rattle.toml_editor.proofs.written.UnitsGone.{inner_line}
use Rattle.toml_editor.proofs.written.Way.{Step, both, old, new, olds, news, one_line, is_here}
use Rattle.toml_editor.proofs.written.WayBlock.{line_after, lines_append}
use Rattle.toml_editor.proofs.written.WayComments.{added}
use Rattle.toml_editor.proofs.written.WayFits.{newlines}
use Rattle.toml_editor.proofs.written.WayKeeps.{moved_site, Ends, Stays, ComesOwed, Keeps, KeepsIf, line_is, line_goes, site_goes, same_ends, next_after}
use Rattle.toml_editor.proofs.written.WayOwed.{IsOwedBelow}
use Rattle.toml_editor.proofs.written.WayZip.{zip, lines_in}

-- a line of a header that an edit names
abbrev pub HeaderIsOwed : Change → TextUnit → TextUnit → Type 0
HeaderIsOwed c u w =
    u.kind ≡ kinds.Line → u.base ≡ None → (line : Option Site) → is_here (c ∷ []) line u ≡ false → At w.address (IsOwedBelow (c ∷ []))

-- it has an address, and the edit names it where its place lies so
pub header_named : (c : Change) (line : Option Site) (u : TextUnit) → u.kind ≡ kinds.Line → u.base ≡ None → is_here (c ∷ []) line u ≡ false
    → (a : Address) × (u.address ≡ Some a) × (is_named parts.Line c None (side (place c) a) ≡ true)
header_named c line u is none gone =
    by u.address refl (ap (stands parts.Line (c ∷ []) u.address) (sym none) ∙ sym (line_is (c ∷ []) line u is) ∙ gone)
  where
    named : (b : Bool) → (not b && true) ≡ false → b ≡ true
    named true h = refl
    named false h = absurd (true≢false h)

    by : (o : Option Address) → u.address ≡ o → stands parts.Line (c ∷ []) o None ≡ false → (a : Address) × (u.address ≡ Some a)
        × (is_named parts.Line c None (side (place c) a) ≡ true)
    by None at h = absurd (true≢false h)
    by (Some a) at h = (a, at, named (is_named parts.Line c None (side (place c) a)) h)

-- an `insert` names none, a `rename` those at its place and below
pub insert_header : (p : Address) (text : List ℕ) (u w : TextUnit) → HeaderIsOwed (insert p text) u w
insert_header p text u w is none line gone = let h = header_named (insert p text) line u is none gone in absurd (true≢false (sym h.2))

pub renamed_header : (p : Address) (to : List ℕ) (line : Option Site) (u : TextUnit) → u.kind ≡ kinds.Line → u.base ≡ None
    → is_here (rename p to ∷ []) line u ≡ false → (a : Address) × (u.address ≡ Some a) × IsAtOrAbove p a
renamed_header p to line u is none gone = let h = header_named (rename p to) line u is none gone in (h.0, h.1, by (side p h.0) refl h.2)
  where
    by : {a : Address} (s : Side) → side p a ≡ s → is_named parts.Line (rename p to) None s ≡ true → IsAtOrAbove p a
    by {a} sides.Above at is = let above = (sides_are_right p a).above.0 at in (above.0 ∷ above.1, above.2)
    by {a} sides.At at is = ([], sym ((sides_are_right p a).at.0 at) ∙ sym (append-nil p))
    by sides.Apart at is = absurd (true≢false (sym is))
    by sides.Below at is = absurd (true≢false (sym is))

-- ---- where each unit goes along and the newlines stay

module _ (c : Change) (before after : List (List ℕ)) (ends : before ≡ after) where
  pub carried_stays : (line next : Option Site) (a : ℕ) (u w : TextUnit) → site w ≡ moved_site (c ∷ []) (site u)
      → next ≡ option_map (moved_site (c ∷ [])) line → HeaderIsOwed c u w → Stays (c ∷ []) before after line next a a u w
  carried_stays line next a u w goes home header = record {
    goes = goes;
    home = λ is. home;
    ends = λ is. same_ends (c ∷ []) before after ends a;
    empty = λ firm is here none last. last ∙ ap length ends;
    header = λ is none gone. header is none line gone;
  }

  pub zip_keeps : ((u w : TextUnit) → IsCarried c u w → HeaderIsOwed c u w) → (us ws : List TextUnit) → GoTogether (IsCarried c) us ws
      → (line next : Option Site) → next ≡ option_map (moved_site (c ∷ [])) line → (a : ℕ)
      → Keeps (c ∷ []) before after line next a a (zip us ws)
  zip_keeps header [] ws h line next home a = tt
  zip_keeps header (u ∷ us) [] h line next home a = tt
  zip_keeps header (u ∷ us) (w ∷ ws) h line next home a =
      let goes = site_goes c u w h.0.kind h.0.address h.0.base in (
        carried_stays line next a u w goes home (header u w h.0),
        subst (λ k. Keeps (c ∷ []) before after (next_line line (site u)) (next_line next (site w)) (a + one_line u.kind) (a + one_line k)
            (zip us ws)) (sym h.0.kind)
            (zip_keeps header us ws h.1 (next_line line (site u)) (next_line next (site w))
            (line_goes (c ∷ []) line next u w goes (inl home)) (a + one_line u.kind)),
      )

-- ---- where units stay as they are

abbrev pub same_way : List TextUnit → List Step
same_way = map (λ u. both u u)

pub same_olds : (us : List TextUnit) → olds (same_way us) ≡ us
same_olds [] = refl
same_olds (u ∷ us) = ap (λ l. u ∷ l) (same_olds us)

pub same_news : (us : List TextUnit) → news (same_way us) ≡ us
same_news [] = refl
same_news (u ∷ us) = ap (λ l. u ∷ l) (same_news us)

pub same_adds : (us : List TextUnit) → added (same_way us) ≡ []
same_adds [] = refl
same_adds (u ∷ us) = same_adds us

abbrev pub IsFixed : Change → TextUnit → Type 0
IsFixed c u = (u.address ≡ option_and_then (carry c) u.address) × HeaderIsOwed c u u

-- lines, of which the last stays the last, or has a byte
abbrev LastStays : List (List ℕ) → List (List ℕ) → List TextUnit → ℕ → ℕ → Type 0
LastStays before after us a b = ((x : ℕ) → x < lines_in us → (a + x) + 1 ≡ length before → (b + x) + 1 ≡ length after)
    ⊎ (LastIsFull us × (a + lines_in us ≤ length before))

module _ (Firm : Type 0) (c : Change) (before after : List (List ℕ)) where
  abbrev KeepIf : Option Site → Option Site → ℕ → ℕ → List Step → Type 0
  KeepIf = KeepsIf Firm (c ∷ []) before after

  pub same_keeps_if : (us : List TextUnit) → EachIs (IsFixed c) us → (line next : Option Site) → (next ≡ option_map (moved_site (c ∷ [])) line)
      ⊎ BeginWithLine us → (a b : ℕ)
      → ((x : ℕ) → x < lines_in us → Ends (c ∷ []) before after (a + x) (b + x)) → (Firm → LastStays before after us a b)
      → KeepIf line next a b (same_way us)
  same_keeps_if [] fixed line next home a b ends last = tt
  same_keeps_if (u ∷ us) fixed line next home a b ends last =
      let goes = site_goes c u u refl fixed.0.0 refl in (
        record {
          goes = goes;
          home = λ is. elim home [ inl is ↦ is | inr line ↦ absurd (true≢false (sym is ∙ ap is_comment line)) ];
          ends = λ is. subst₂ (Ends (c ∷ []) before after) (let e : a + 0 ≡ a = omega arith in e) (let e : b + 0 ≡ b = omega arith in e)
              (ends 0 (some is));
          empty = λ firm is here none at_end. elim (last firm) [
            | inl stays ↦ (let e : b + 1 ≡ (b + 0) + 1 = omega arith in e)
                ∙ stays 0 (some is) ((let e : (a + 0) + 1 ≡ a + 1 = omega arith in e) ∙ at_end)
            | inr (full, low) ↦ let one : one_line u.kind ≡ 1 = ap one_line is in absurd (full.0 is (omega (arith, low, one, at_end)) none)
          ];
          header = λ is none gone. fixed.0.1 is none line gone;
        },
        same_keeps_if us fixed.1 (next_line line (site u)) (next_line next (site u)) (inl (line_goes (c ∷ []) line next u u goes home))
            (a + one_line u.kind) (b + one_line u.kind)
            (λ x low. subst₂ (Ends (c ∷ []) before after) (let e : a + (one_line u.kind + x) ≡ (a + one_line u.kind) + x = omega arith in e)
            (let e : b + (one_line u.kind + x) ≡ (b + one_line u.kind) + x = omega arith in e)
            (ends (one_line u.kind + x) (omega (arith, low))))
            (λ firm. elim (last firm) [
              | inl stays ↦ inl (λ x low at_end.
                  (let e : ((b + one_line u.kind) + x) + 1 ≡ (b + (one_line u.kind + x)) + 1 = omega arith in e)
                  ∙ stays (one_line u.kind + x) (omega (arith, low))
                  ((let e : (a + (one_line u.kind + x)) + 1 ≡ ((a + one_line u.kind) + x) + 1 = omega arith in e) ∙ at_end))
              | inr (full, low) ↦ inr (full.1, omega (arith, low))
            ]),
      )
    where
      some : u.kind ≡ kinds.Line → 0 < one_line u.kind + lines_in us
      some is = let e : one_line u.kind ≡ 1 = ap one_line is in omega (arith, e)

  -- ---- units that come

  pub new_keeps_if : (ws : List TextUnit) → EachIs (ComesOwed (c ∷ []) before after) ws → (line next : Option Site) (a b : ℕ)
      → KeepIf line next a b (map new ws)
  new_keeps_if [] h line next a b = tt
  new_keeps_if (w ∷ ws) h line next a b = (h.0, new_keeps_if ws h.1 line (next_line next (site w)) a (b + one_line w.kind))

  pub keeps_append_if : (s t : List Step) (line next : Option Site) (a b : ℕ) → KeepIf line next a b s
      → KeepIf (line_after line s) (next_after next s) (a + lines_in (olds s)) (b + lines_in (news s)) t → KeepIf line next a b (s ++ t)
  keeps_append_if [] t line next a b h k =
      subst₂ (λ x y. KeepIf line next x y t) (let e : a + 0 ≡ a = omega arith in e) (let e : b + 0 ≡ b = omega arith in e) k
  keeps_append_if (both u w ∷ s) t line next a b h k = (
    h.0,
    keeps_append_if s t (next_line line (site u)) (next_line next (site w)) (a + one_line u.kind) (b + one_line w.kind) h.1
        (subst₂ (λ x y. KeepIf (line_after (next_line line (site u)) s) (next_after (next_line next (site w)) s) x y t)
        (let e : a + (one_line u.kind + lines_in (olds s)) ≡ (a + one_line u.kind) + lines_in (olds s) = omega arith in e)
        (let e : b + (one_line w.kind + lines_in (news s)) ≡ (b + one_line w.kind) + lines_in (news s) = omega arith in e) k),
  )
  keeps_append_if (old u ∷ s) t line next a b h k =
      keeps_append_if s t (next_line line (site u)) next (a + one_line u.kind) b h
      (subst (λ x. KeepIf (line_after (next_line line (site u)) s) (next_after next s) x (b + lines_in (news s)) t)
      (let e : a + (one_line u.kind + lines_in (olds s)) ≡ (a + one_line u.kind) + lines_in (olds s) = omega arith in e) k)
  keeps_append_if (new w ∷ s) t line next a b h k = (
    h.0,
    keeps_append_if s t line (next_line next (site w)) a (b + one_line w.kind) h.1
        (subst (λ y. KeepIf (line_after line s) (next_after (next_line next (site w)) s) (a + lines_in (olds s)) y t)
        (let e : b + (one_line w.kind + lines_in (news s)) ≡ (b + one_line w.kind) + lines_in (news s) = omega arith in e) k),
  )

-- where a last line of no bytes always stays the last
module _ (c : Change) (before after : List (List ℕ)) where
  abbrev Keep : Option Site → Option Site → ℕ → ℕ → List Step → Type 0
  Keep = Keeps (c ∷ []) before after

  pub same_keeps : (us : List TextUnit) → EachIs (IsFixed c) us → (line next : Option Site) → (next ≡ option_map (moved_site (c ∷ [])) line)
      ⊎ BeginWithLine us → (a b : ℕ)
      → ((x : ℕ) → x < lines_in us → Ends (c ∷ []) before after (a + x) (b + x)) → LastStays before after us a b → Keep line next a b (same_way us)
  same_keeps us fixed line next home a b ends last = same_keeps_if (Unit {0}) c before after us fixed line next home a b ends (λ firm. last)

  pub new_keeps : (ws : List TextUnit) → EachIs (ComesOwed (c ∷ []) before after) ws → (line next : Option Site) (a b : ℕ)
      → Keep line next a b (map new ws)
  new_keeps = new_keeps_if (Unit {0}) c before after

  pub keeps_append : (s t : List Step) (line next : Option Site) (a b : ℕ) → Keep line next a b s
      → Keep (line_after line s) (next_after next s) (a + lines_in (olds s)) (b + lines_in (news s)) t → Keep line next a b (s ++ t)
  keeps_append = keeps_append_if (Unit {0}) c before after

  pub inner_blank : (p : Address) (us : List TextUnit) → EachIs (LiesInValue p) us → EachIs (ComesOwed (c ∷ []) before after) us
  inner_blank p [] h = tt
  inner_blank p (u ∷ us) h = ((λ is none. absurd (inner_is_no_line u.kind h.0.0 is)), inner_blank p us h.1)

  pub old_keeps : (us : List TextUnit) (line next : Option Site) (a b : ℕ) → Keep line next a b (map old us)
  old_keeps [] line next a b = tt
  old_keeps (u ∷ us) line next a b = old_keeps us (next_line line (site u)) next (a + one_line u.kind) b

-- what is in a value has no line
pub inner_next : (p : Address) (us : List TextUnit) → EachIs (LiesInValue p) us → (next : Option Site) → next_after next (map new us) ≡ next
inner_next p [] h next = refl
inner_next p (u ∷ us) h next =
    ap (λ b. next_after (cond b (Some (site u)) next) (map new us)) (inner_line u.kind h.0.0) ∙ inner_next p us h.1 next

-- as many units are lines as there are lines
pub count_lines : (ls : List Line) (xs : List Named) (n : ℕ) → lines_in (units_from xs n ls) ≡ length (newlines ls)
count_lines [] xs n = refl
count_lines (l ∷ ls) xs n =
    let one = line_lines xs l.expr in
    let more = count_lines ls (xs ++ named_by xs n l.expr) (n + 1) in
    let both = lines_append (line_units xs l.expr) (units_from (xs ++ named_by xs n l.expr) (n + 1) ls) in
    omega (arith, one, more, both)
