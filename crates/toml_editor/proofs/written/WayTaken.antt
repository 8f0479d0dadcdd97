-- The way of the `remove` of a line.
use Rattle.std.proofs.Common.{◌≡◌, ◌⊎◌, inl, inr, ◌<◌, ◌+◌, ℕ, suc, Bool, true, false, cond, ◌&&◌, Option, Some, None, List, [], ◌∷◌, ◌++◌, map, length, refl, sym, ap, ap₂, ◌∙◌, subst, subst₂, true≢false, arith, append-nil}
use Rattle.std.proofs.lemmas.List.{map-append}
use Rattle.std.specs.Prelude.{slice_get, option_and_then, option_map, not}
use Rattle.toml_tree.specs.Spells.{EachIs, AreLines}
use Rattle.toml_tree.specs.Tree.{Piece, Line}
use Rattle.toml_names.specs.declared.model.address.Step.{Step as AddressStep}
use Rattle.toml_names.specs.declared.model.address.Step.TheVariants.{Name}
use Rattle.toml_names.specs.mentions.Clear.{IsClear}
use Rattle.toml_names.specs.mentions.Mentions.{named, root}
use Rattle.toml_names.specs.mentions.Rules.{KeepsRules}
use Rattle.toml_names.specs.model.Addresses.{Address, IsAbove, child}
use Rattle.toml_edits.specs.Carry.{carry}
use Rattle.toml_edits.specs.Edits.{Change, remove}
use Rattle.toml_units.specs.declared.unit.UnitKind.{UnitKind}
use Rattle.toml_units.specs.declared.unit.UnitKind.TheVariants as kinds
use Rattle.toml_units.specs.Places.{is_line}
use Rattle.toml_units.specs.Units.{TextUnit, comment_units, inside, units}
use Rattle.toml_edits.specs.declared.side.Side.{Side}
use Rattle.toml_edits.specs.declared.side.Side.TheVariants as sides
use Rattle.toml_checker.specs.declared.tables.Part.TheVariants as parts
use Rattle.toml_checker.specs.CarriedTo.{At}
use Rattle.toml_checker.specs.Comments.{texts, is_comment}
use Rattle.toml_checker.specs.Owed.{IsOwed}
use Rattle.toml_checker.specs.Plain.{Site, site, next_line, stands, is_named, is_kept, home_stands, part_is_gone}
use Rattle.toml_edits.specs.Sides.{side}
use Rattle.toml_edits.proofs.Proved.{parted_at_last, sides_are_right}
use Rattle.toml_editor.specs.ChangedUnits.{is_inner, LiesInValue}
use Rattle.toml_editor.proofs.written.RemoveNamed.{taken_lines}
use Rattle.toml_editor.specs.UnitBlocks.{pair_line_units, left_of, BeginWithLine}
use Rattle.toml_working.specs.Premises.{HasLine}
use Rattle.toml_editor.proofs.Each.{each_front, each_back}
use Rattle.toml_editor.proofs.written.Members.{above_member}
use Rattle.toml_editor.proofs.written.RemoveKept.{removed_below}
use Rattle.toml_editor.proofs.written.SetKept.{clear_carried}
use Rattle.toml_editor.proofs.written.UnitsGone.{inner_line, value_in}
use Rattle.toml_editor.proofs.written.UnitsTaken.{AreTaken, lines_taken}
use Rattle.toml_editor.proofs.written.Way.{Step, old, new, olds, news, one_line, is_here}
use Rattle.toml_editor.proofs.written.WayBlock.{old_olds, old_news, old_adds, line_after, olds_append, news_append, added_append, fits_append, new_olds, new_news, new_adds, lines_append, inside_lines}
use Rattle.toml_editor.proofs.written.WayComments.{added, comments}
use Rattle.toml_editor.proofs.written.WayFits.{Matches, Fits, SameNewline, newlines}
use Rattle.toml_editor.proofs.written.WayKeeps.{ComesOwed, Keeps, next_after}
use Rattle.toml_editor.proofs.written.WayKept.{HeaderIsOwed, header_named, IsFixed, same_way, same_olds, same_news, same_adds, same_keeps, new_keeps, old_keeps, keeps_append, count_lines}
use Rattle.toml_editor.proofs.written.WayWhole.{HasWay, as_many}
use Rattle.toml_editor.proofs.written.WayZip.{IsNear, lost_line, carried_to, lines_in}

-- ---- units that stay

module _ (table : Address) (name : List ℕ) (before after : List (List ℕ)) where
  abbrev p : Address
  p = child table name

  abbrev c : Change
  c = remove p

  abbrev Fit : Option Site → ℕ → ℕ → List Step → Type 0
  Fit = Fits (c ∷ []) ([] ∷ []) before after

  abbrev IsHome : Option Site → Type 0
  IsHome line = home_stands (c ∷ []) line ≡ true

  -- a unit that is not at the name or below it
  abbrev pub IsFar : TextUnit → Type 0
  IsFar u = (a : Address) → u.address ≡ Some a → IsClear p a

  pub owed : (a : Address) → IsClear p a → IsNear p a → IsOwed (c ∷ []) a
  owed a clear (inl ([], is)) = absurd (clear.apart (sym (append-nil p) ∙ sym is))
  owed a clear (inl (s ∷ rest, is)) = absurd (clear.not_above (s, rest, is))
  owed a clear (inr above) =
      inl (table, table, ap (option_map (λ (w : Address × AddressStep). w.0)) (parted_at_last table (Name name)), refl, above_member table name a above)

  home_side : (a : Address) (base : Option ℕ) → IsClear p a → (t : Side) → side p a ≡ t → not (is_named parts.Home c base t) && true ≡ true
  home_side a base clear sides.Above is = absurd (clear.not_above ((sides_are_right p a).above.0 is))
  home_side a base clear sides.At is = absurd (clear.apart ((sides_are_right p a).at.0 is))
  home_side a None clear sides.Apart is = refl
  home_side a (Some n) clear sides.Apart is = refl
  home_side a None clear sides.Below is = refl
  home_side a (Some n) clear sides.Below is = refl

  line_home : (u : TextUnit) → IsFar u → IsHome (Some (site u))
  line_home u far = by u.address u.base far
    where
      by : (o : Option Address) (base : Option ℕ) → ((a : Address) → o ≡ Some a → IsClear p a) → stands parts.Home (c ∷ []) o base ≡ true
      by None base far = refl
      by (Some a) base far = home_side a base (far a refl) (side p a) refl

  next_home : (line : Option Site) (u : TextUnit) → IsFar u → IsHome line ⊎ (u.kind ≡ kinds.Line) → IsHome (next_line line (site u))
  next_home line u far home = by (is_line u.kind) refl home
    where
      by : (b : Bool) → is_line u.kind ≡ b → IsHome line ⊎ (u.kind ≡ kinds.Line) → IsHome (cond b (Some (site u)) line)
      by true is h = line_home u far
      by false is (inl h) = h
      by false is (inr e) = absurd (true≢false (sym (ap is_line e) ∙ is))

  comment_kept : (line : Option Site) (u : TextUnit) → IsFar u → IsHome line ⊎ (u.kind ≡ kinds.Line) → is_here (c ∷ []) line u ≡ false → is_comment u.kind ≡ false
  comment_kept line u far home lost = by u.kind u.address u.base far home lost
    where
      self_side : (a : Address) → IsClear p a → (t : Side) → side p a ≡ t → not (part_is_gone c t) && true ≡ true
      self_side a clear sides.Above is = absurd (clear.not_above ((sides_are_right p a).above.0 is))
      self_side a clear sides.At is = absurd (clear.apart ((sides_are_right p a).at.0 is))
      self_side a clear sides.Apart is = refl
      self_side a clear sides.Below is = refl

      by : (kind : UnitKind) (o : Option Address) (base : Option ℕ) → ((a : Address) → o ≡ Some a → IsClear p a) → IsHome line ⊎ (kind ≡ kinds.Line)
          → is_kept kind (c ∷ []) (next_line line (record { kind = kind; address = o; base = base })) (record { kind = kind; address = o; base = base }) ≡ false → is_comment kind ≡ false
      by kinds.Line o base far home lost = refl
      by kinds.Pair o base far home lost = refl
      by kinds.Element o base far home lost = refl
      by kinds.TailComment o base far (inl home) lost = absurd (true≢false (sym home ∙ lost))
      by kinds.TailComment o base far (inr e) lost = cc
      by kinds.InnerComment None base far (inl home) lost = absurd (true≢false (sym (ap (λ b. b && true) home) ∙ lost))
      by kinds.InnerComment (Some a) base far (inl home) lost = absurd (true≢false (sym (ap₂ (λ x y. x && y) home (self_side a (far a refl) (side p a) refl)) ∙ lost))
      by kinds.InnerComment o base far (inr e) lost = cc

  carried_on : (a : Address) → IsClear p a → carry c a ≡ Some a
  carried_on a clear = removed_below table name a ∙ clear_carried p a clear

  stays : (o : Option Address) → ((a : Address) → o ≡ Some a → IsClear p a) → o ≡ option_and_then (carry c) o
  stays None far = refl
  stays (Some x) far = sym (carried_on x (far x refl))

  matches : (line : Option Site) (a b : ℕ) (u : TextUnit) → IsFar u → IsHome line ⊎ (u.kind ≡ kinds.Line) → (u.kind ≡ kinds.Line → SameNewline (c ∷ []) ([] ∷ []) before after a b) → Matches (c ∷ []) ([] ∷ []) before after line a b u u
  matches line a b u far home same = record {
    kind = refl;
    kept = λ here. record { text = refl; address = carried_to c u.address u.address (stays u.address far) (λ x at. (x, carried_on x (far x at))); newline = same };
    lost = λ gone. (
      (λ is_line. let l = lost_line c tt line u is_line gone in subst (λ o. At o (IsOwed (c ∷ []))) (sym l.1) (owed l.0 (far l.0 l.1) l.2)),
      comment_kept line u far home gone,
    );
  }

  pub same_fits : (us : List TextUnit) → EachIs IsFar us → (line : Option Site) (a b : ℕ) → IsHome line ⊎ BeginWithLine us → ((x : ℕ) → x < lines_in us → SameNewline (c ∷ []) ([] ∷ []) before after (a + x) (b + x)) → Fit line a b (same_way us)
  same_fits [] far line a b home same = tt
  same_fits (u ∷ us) far line a b home same = (
    matches line a b u far.0 home
        (λ is. subst₂ (SameNewline (c ∷ []) ([] ∷ []) before after) (let e : a + 0 ≡ a = omega arith in e) (let e : b + 0 ≡ b = omega arith in e)
        (same 0 (let e : one_line u.kind ≡ 1 = ap one_line is in omega (arith, e)))),
    same_fits us far.1 (next_line line (site u)) (a + one_line u.kind) (b + one_line u.kind) (inl (next_home line u far.0 home))
        (λ x low. subst₂ (SameNewline (c ∷ []) ([] ∷ []) before after) (let e : a + (one_line u.kind + x) ≡ (a + one_line u.kind) + x = omega arith in e)
        (let e : b + (one_line u.kind + x) ≡ (b + one_line u.kind) + x = omega arith in e) (same (one_line u.kind + x) (omega (arith, low)))),
  )

  -- a line of a header stays
  far_header : (u : TextUnit) → IsFar u → HeaderIsOwed c u u
  far_header u far is none line gone = let h = header_named c line u is none gone in absurd (by (far h.0 h.1) (side p h.0) refl h.2)
    where
      by : {a : Address} → IsClear p a → (s : Side) → side p a ≡ s → is_named parts.Line c None s ≡ true → ⊥
      by {a} clear sides.Above at is = clear.not_above ((sides_are_right p a).above.0 at)
      by {a} clear sides.At at is = clear.apart ((sides_are_right p a).at.0 at)
      by clear sides.Apart at is = true≢false (sym is)
      by clear sides.Below at is = true≢false (sym is)

  pub far_fixed : (us : List TextUnit) → EachIs IsFar us → EachIs (IsFixed c) us
  far_fixed [] far = tt
  far_fixed (u ∷ us) far = ((stays u.address far.0, far_header u far.0), far_fixed us far.1)

  -- ---- the line that goes

  -- to the table in which it stood led so many steps
  abbrev pub Gone : ℕ → Site
  Gone own = record { kind = kinds.Line; address = Some p; base = Some own }

  at_it : side p p ≡ sides.At
  at_it = (sides_are_right p p).at.1 refl

  and_left : {a : Bool} (b : Bool) → a ≡ false → (a && b) ≡ false
  and_left b is = ap (λ x. x && b) is

  home_gone : (own : ℕ) → home_stands (c ∷ []) (Some (Gone own)) ≡ false
  home_gone own = ap (λ s. not (is_named parts.Home c (Some own) s) && true) at_it

  pub inner_lost : (own : ℕ) (us : List TextUnit) → EachIs (LiesInValue p) us → (a b : ℕ) → Fit (Some (Gone own)) a b (map old us)
  inner_lost own [] lies a b = tt
  inner_lost own (u ∷ us) lies a b =
      by u.kind u.address u.base lies.0.0 lies.0.1 (λ x. inner_lost own us lies.1 x b)
    where
      above : (a : Address) → IsAbove p a → side p a ≡ sides.Above
      above a h = (sides_are_right p a).above.1 h

      Goal : UnitKind → Option Address → Option ℕ → Type 0
      Goal kind o base =
          (is_kept kind (c ∷ []) (next_line (Some (Gone own)) (record { kind = kind; address = o; base = base })) (record { kind = kind; address = o; base = base }) ≡ false)
          × Fit (next_line (Some (Gone own)) (record { kind = kind; address = o; base = base })) (a + one_line kind) b (map old us)

      by : (kind : UnitKind) (o : Option Address) (base : Option ℕ) → is_inner kind ≡ true → At o (λ a. IsAbove p a ⊎ ((a ≡ p) × (kind ≡ kinds.InnerComment))) → ((x : ℕ) → Fit (Some (Gone own)) x b (map old us)) → Goal kind o base
      by kinds.Line o base inner lies more = absurd (true≢false (sym inner))
      by kinds.TailComment o base inner lies more = absurd (true≢false (sym inner))
      by kind None base inner lies more = absurd lies
      by kinds.Element (Some x) base inner (inl h) more = (ap (λ s. not (is_named parts.Element c base s) && true) (above x h), more (a + 0))
      by kinds.Element (Some x) base inner (inr h) more = let e = h.1 in cc
      by kinds.Pair (Some x) None inner (inl h) more = (ap (λ s. not (is_named parts.Line c None s) && true) (above x h), more (a + 0))
      by kinds.Pair (Some x) (Some n) inner (inl h) more = (ap (λ s. not (is_named parts.Line c (Some n) s) && true) (above x h), more (a + 0))
      by kinds.Pair (Some x) base inner (inr h) more = let e = h.1 in cc
      by kinds.InnerComment (Some x) base inner h more = (and_left (stands parts.Comment (c ∷ []) (Some x) base) (home_gone own), more (a + 0))

  pub line_gone : (own : ℕ) → stands parts.Line (c ∷ []) (Some p) (Some own) ≡ false
  line_gone own = ap (λ s. not (is_named parts.Line c (Some own) s) && true) at_it

  pub tail_lost : (own : ℕ) (o : Option Piece) (a b : ℕ) → Fit (Some (Gone own)) a b (map old (comment_units kinds.TailComment (Some p) o))
  tail_lost own None a b = tt
  tail_lost own (Some piece) a b = (home_gone own, tt)

  -- what is left of the last line
  left_asked : (back : List TextUnit) (k : ℕ) → k + lines_in (left_of back ++ back) ≡ length after → (line : Option Site) (a : ℕ) → Fit line a k (map new (left_of back))
  left_asked [] k count line a =
      (record { line = λ is. inr (omega (arith, count), refl, (λ none. cc)); comment = λ is. absurd (true≢false (sym is)) }, tt)
  left_asked (u ∷ us) k count line a = tt

-- behind the block come all lines but what is left
module _ (table : Address) (name : List ℕ) (lines : List Line) where
  abbrev gone : Address
  gone = child table name

  abbrev edited : List Line
  edited = taken_lines gone lines

  abbrev Fitting : Option Site → ℕ → ℕ → List Step → Type 0
  Fitting = Fits (remove gone ∷ []) ([] ∷ []) (newlines lines) (newlines edited)

  left_lines : (back : List TextUnit) → BeginWithLine back → 0 < lines_in (left_of back ++ back)
  left_lines [] line = omega arith
  left_lines (u ∷ us) line = let e : one_line u.kind ≡ 1 = ap one_line line in omega (arith, e)

  left_blank : (back : List TextUnit) → EachIs (ComesOwed (remove gone ∷ []) (newlines lines) (newlines edited)) (left_of back)
  left_blank [] = ((λ is none. inl refl), tt)
  left_blank (u ∷ us) = tt

  abbrev Keep : Option Site → Option Site → ℕ → ℕ → List Step → Type 0
  Keep = Keeps (remove gone ∷ []) (newlines lines) (newlines edited)

  taken_keeps : (h : AreTaken gone (units lines) (units edited) (newlines lines) (newlines edited))
      → EachIs (IsFar table name (newlines lines) (newlines edited)) h.taken.front
      → EachIs (IsFar table name (newlines lines) (newlines edited)) h.taken.back
      → lines_in (pair_line_units h.piece gone h.base h.value h.comment) ≡ 1
      → lines_in h.taken.front + (1 + lines_in h.taken.back) ≡ length (newlines lines)
      → lines_in h.taken.front + lines_in (left_of h.taken.back ++ h.taken.back) ≡ length (newlines edited)
      → Keep None None 0 0 (same_way h.taken.front ++
      (map old (pair_line_units h.piece gone h.base h.value h.comment) ++ (map new (left_of h.taken.back) ++ same_way h.taken.back)))
  taken_keeps h front_far back_far block_lines old_total new_total =
      let c = remove gone in
      let before = newlines lines in
      let after = newlines edited in
      let front = h.taken.front in
      let back = h.taken.back in
      let left = left_of back in
      let block = pair_line_units h.piece gone h.base h.value h.comment in
      let n = lines_in front in
      let some = left_lines back h.taken.next in
      let line = line_after None (same_way front) in
      let next = next_after None (same_way front) in
      let behind = line_after line (map old block) in
      let mid = next_after next (map old block) in
      let olds_head = ap lines_in (same_olds front) in
      let news_head = ap lines_in (same_news front) in
      let olds_block = ap lines_in (old_olds block) in
      let news_block = ap lines_in (old_news block) in
      keeps_append c before after (same_way front) (map old block ++ (map new left ++ same_way back)) None None 0 0
      (same_keeps c before after front (far_fixed table name before after front front_far) None None (inl refl) 0 0
      (λ x low. record {
        newline = let e : x ≡ 0 + x = omega arith in inl (subst (λ k. slice_get before k ≡ slice_get after k) e (h.front_ends x low));
        last = λ at. let f : ⊥ = omega (arith, low, some, at, new_total) in absurd f;
      })
      (inl (λ x low at. let f : ⊥ = omega (arith, low, at, old_total) in absurd f)))
      (subst₂ (λ a b. Keep line next a b (map old block ++ (map new left ++ same_way back)))
      (let e : n ≡ 0 + lines_in (olds (same_way front)) = omega (arith, olds_head) in e)
      (let e : n ≡ 0 + lines_in (news (same_way front)) = omega (arith, news_head) in e)
      (keeps_append c before after (map old block) (map new left ++ same_way back) line next n n
      (old_keeps c before after block line next n n)
      (subst₂ (λ a b. Keep behind mid a b (map new left ++ same_way back))
      (let e : n + 1 ≡ n + lines_in (olds (map old block)) = omega (arith, olds_block, block_lines) in e)
      (let e : n ≡ n + lines_in (news (map old block)) = omega (arith, news_block) in e)
      (keeps_append c before after (map new left) (same_way back) behind mid (n + 1) n
      (new_keeps c before after left (left_blank back) behind mid (n + 1) n)
      (back_keeps h back back_far refl (line_after behind (map new left)) (next_after mid (map new left)) old_total new_total)))))
    where
      back_keeps : (h : AreTaken gone (units lines) (units edited) (newlines lines) (newlines edited)) (back : List TextUnit)
          → EachIs (IsFar table name (newlines lines) (newlines edited)) back → back ≡ h.taken.back → (line next : Option Site)
          → lines_in h.taken.front + (1 + lines_in h.taken.back) ≡ length (newlines lines)
          → lines_in h.taken.front + lines_in (left_of h.taken.back ++ h.taken.back) ≡ length (newlines edited)
          → Keep line next ((lines_in h.taken.front + 1) + lines_in (olds (map new (left_of h.taken.back))))
          (lines_in h.taken.front + lines_in (news (map new (left_of h.taken.back)))) (same_way back)
      back_keeps h [] far is line next old_total new_total = tt
      back_keeps h (u ∷ us) far is line next old_total new_total =
          let n = lines_in h.taken.front in
          let zero_old = ap (λ r. lines_in (olds (map new (left_of r)))) (sym is) in
          let zero_new = ap (λ r. lines_in (news (map new (left_of r)))) (sym is) in
          let first : n + (1 + lines_in (u ∷ us)) ≡ length (newlines lines) = ap (λ r. n + (1 + lines_in r)) is ∙ old_total in
          let second : n + lines_in (u ∷ us) ≡ length (newlines edited) = ap (λ r. n + lines_in (left_of r ++ r)) is ∙ new_total in
          subst₂ (λ a b. Keep line next a b (same_way (u ∷ us)))
          (let e : n + 1 ≡ (n + 1) + lines_in (olds (map new (left_of h.taken.back))) = omega (arith, zero_old) in e)
          (let e : n ≡ n + lines_in (news (map new (left_of h.taken.back))) = omega (arith, zero_new) in e)
          (same_keeps (remove gone) (newlines lines) (newlines edited) (u ∷ us)
          (far_fixed table name (newlines lines) (newlines edited) (u ∷ us) far) line next (inr (subst BeginWithLine (sym is) h.taken.next))
          (n + 1) n
          (λ x low. record {
            newline =
                inl (ap (slice_get (newlines lines)) (let e : (n + 1) + x ≡ n + suc x = omega arith in e)
                ∙ h.back_ends x (subst (λ l. x < lines_in l) is low));
            last = λ at. omega (arith, at, first, second);
          })
          (inl (λ x low at. omega (arith, at, first, second))))

  way_by : (h : AreTaken gone (units lines) (units edited) (newlines lines) (newlines edited))
      → EachIs (IsFar table name (newlines lines) (newlines edited)) (units edited) → HasWay (remove gone ∷ []) ([] ∷ []) lines edited
  way_by h far =
      let front = h.taken.front in
      let back = h.taken.back in
      let left = left_of back in
      let inner = inside gone h.value in
      let tail = comment_units kinds.TailComment (Some gone) h.comment in
      let block = pair_line_units h.piece gone h.base h.value h.comment in
      let all_far = subst (EachIs (IsFar table name (newlines lines) (newlines edited))) h.taken.after far in
      let front_far = each_front _ front (left ++ back) all_far in
      let back_far = each_back _ left back (each_back _ front (left ++ back) all_far) in
      let head = same_way front in
      let last = map new left ++ same_way back in
      let goes = map old block ++ last in
      let n = lines_in front in
      let block_lines : lines_in block ≡ 1 = (let a = lines_append inner tail in let b = inside_lines gone h.value in let c = tail_lines h.comment in omega (arith, a, b, c)) in
      let total : n + lines_in (left ++ back) ≡ length (newlines edited) = sym (lines_append front (left ++ back)) ∙ ap lines_in (sym h.taken.after) ∙ count_lines edited (root ∷ []) 0 in
      let old_total : n + (1 + lines_in back) ≡ length (newlines lines) =
      (let a = lines_append front
      (block ++ back) in let b = lines_append block back in let d = ap lines_in h.taken.before in let e = count_lines lines
      (root ∷ []) 0 in omega (arith, a, b, d, e, block_lines)) in
      record {
        way = head ++ goes;
        olds_are =
            olds_append head goes ∙ ap₂ (λ x y. x ++ y) (same_olds front) (olds_append (map old block) last ∙ ap₂ (λ x y. x ++ y) (old_olds block) (olds_append (map new left) (same_way back) ∙ ap₂ (λ x y. x ++ y) (new_olds left) (same_olds back)))
            ∙ sym h.taken.before;
        news_are =
            news_append head goes ∙ ap₂ (λ x y. x ++ y) (same_news front) (news_append (map old block) last ∙ ap₂ (λ x y. x ++ y) (old_news block) (news_append (map new left) (same_way back) ∙ ap₂ (λ x y. x ++ y) (new_news left) (same_news back)))
            ∙ sym h.taken.after;
        fits =
            fits_append (remove gone ∷ []) ([] ∷ []) (newlines lines) (newlines edited) head goes None 0 0
            (same_fits table name (newlines lines) (newlines edited) front front_far None 0 0 (inl refl) (λ x low. inl (let e : x ≡ 0 + x = omega arith in subst (λ k. slice_get (newlines lines) k ≡ slice_get (newlines edited) k) e (h.front_ends x low))))
            (subst₂ (λ a b. Fitting (line_after None head) a b goes) (let e = ap lines_in (same_olds front) in let f : n ≡ 0 + lines_in (olds head) = omega (arith, e) in f) (let e = ap lines_in (same_news front) in let f : n ≡ 0 + lines_in (news head) = omega (arith, e) in f)
            (fits_append (remove gone ∷ []) ([] ∷ []) (newlines lines) (newlines edited) (map old block) last (line_after None head) n n
            (block_goes h (line_after None head) n)
            (subst₂ (λ a b. Fitting (line_after (line_after None head) (map old block)) a b last) (let e = ap lines_in (old_olds block) in let f : n + 1 ≡ n + lines_in (olds (map old block)) = omega (arith, e, block_lines) in f)
            (let e = ap lines_in (old_news block) in let f : n ≡ n + lines_in (news (map old block)) = omega (arith, e) in f)
            (fits_append (remove gone ∷ []) ([] ∷ []) (newlines lines) (newlines edited) (map new left) (same_way back) (line_after (line_after None head) (map old block)) (n + 1) n
            (left_asked table name (newlines lines) (newlines edited) back n total (line_after (line_after None head) (map old block)) (n + 1))
            (back_stays h (line_after (line_after (line_after None head) (map old block)) (map new left)) back back_far refl)))));
        keeps = taken_keeps h front_far back_far block_lines old_total total;
        comments_few = λ t. as_many t (texts (comments (added (head ++ goes)))) []
            (ap (λ us. texts (comments us)) (added_append head goes ∙ ap₂ (λ x y. x ++ y) (same_adds front) (added_append (map old block) last ∙ ap₂ (λ x y. x ++ y) (old_adds block) (added_append (map new left) (same_way back) ∙ ap₂ (λ x y. x ++ y) (new_adds left) (same_adds back))))
            ∙ ap (λ us. texts (comments us)) (append-nil left) ∙ left_silent back);
      }
    where
      tail_lines : (o : Option Piece) → lines_in (comment_units kinds.TailComment (Some gone) o) ≡ 0
      tail_lines None = refl
      tail_lines (Some piece) = refl

      left_silent : (back : List TextUnit) → texts (comments (left_of back)) ≡ []
      left_silent [] = refl
      left_silent (u ∷ us) = refl

      after_inner : (own : ℕ) (xs : List TextUnit) → EachIs (LiesInValue gone) xs → line_after (Some (Gone table name (newlines lines) (newlines edited) own)) (map old xs) ≡ Some (Gone table name (newlines lines) (newlines edited) own)
      after_inner own [] lies = refl
      after_inner own (x ∷ xs) lies = ap (λ b. line_after (cond b (Some (site x)) (Some (Gone table name (newlines lines) (newlines edited) own))) (map old xs)) (inner_line x.kind lies.0.0) ∙ after_inner own xs lies.1

      block_goes : (h : AreTaken gone (units lines) (units edited) (newlines lines) (newlines edited)) (line : Option Site) (n : ℕ) → Fitting line n n (map old (pair_line_units h.piece gone h.base h.value h.comment))
      block_goes h line n =
          let own = h.base in
          let inner = inside gone h.value in
          let tail = comment_units kinds.TailComment (Some gone) h.comment in
          let lies = value_in gone h.value gone (inr refl) in (
            line_gone table name (newlines lines) (newlines edited) own,
            subst (Fitting (Some (Gone table name (newlines lines) (newlines edited) own)) (n + 1) n) (sym (map-append old inner tail))
                (fits_append (remove gone ∷ []) ([] ∷ []) (newlines lines) (newlines edited) (map old inner) (map old tail) (Some (Gone table name (newlines lines) (newlines edited) own)) (n + 1) n
                (inner_lost table name (newlines lines) (newlines edited) own inner lies (n + 1) n)
                (subst (λ l. Fitting l ((n + 1) + lines_in (olds (map old inner))) (n + lines_in (news (map old inner))) (map old tail)) (sym (after_inner own inner lies))
                (tail_lost table name (newlines lines) (newlines edited) own h.comment ((n + 1) + lines_in (olds (map old inner))) (n + lines_in (news (map old inner)))))),
          )

      back_stays : (h : AreTaken gone (units lines) (units edited) (newlines lines) (newlines edited)) (line : Option Site) (back : List TextUnit) → EachIs (IsFar table name (newlines lines) (newlines edited)) back → back ≡ h.taken.back
          → Fitting line ((lines_in h.taken.front + 1) + lines_in (olds (map new (left_of h.taken.back)))) (lines_in h.taken.front + lines_in (news (map new (left_of h.taken.back)))) (same_way back)
      back_stays h line [] far is = tt
      back_stays h line (u ∷ us) far is =
          let n = lines_in h.taken.front in
          let none : left_of h.taken.back ≡ [] = ap left_of (sym is) in
          let zero_old = ap (λ l. lines_in (olds (map new l))) none in
          let zero_new = ap (λ l. lines_in (news (map new l))) none in
          subst₂ (λ a b. Fitting line a b (same_way (u ∷ us))) (let e : n + 1 ≡ (n + 1) + lines_in (olds (map new (left_of h.taken.back))) = omega (arith, zero_old) in e) (let e : n ≡ n + lines_in (news (map new (left_of h.taken.back))) = omega (arith, zero_new) in e)
          (same_fits table name (newlines lines) (newlines edited) (u ∷ us) far line (n + 1) n (inr (subst BeginWithLine (sym is) h.taken.next))
          (λ x low. inl (ap (slice_get (newlines lines)) (let e : (n + 1) + x ≡ n + suc x = omega arith in e) ∙ h.back_ends x (subst (λ l. x < lines_in l) is low))))

  pub taken_way : AreLines lines → HasLine lines gone → KeepsRules (named lines)
      → EachIs (IsFar table name (newlines lines) (newlines edited)) (units edited) → HasWay (remove gone ∷ []) ([] ∷ []) lines edited
  taken_way is there keeps far = way_by (lines_taken gone lines is there keeps) far
