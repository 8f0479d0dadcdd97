-- What lies in a protected unit that is paired has its partner in the unit's partner.
use Rattle.std.proofs.Common.{◌≡◌, ◌⊎◌, inl, inr, ◌<◌, ◌≤◌, ◌+◌, ◌-◌, ℕ, zero, suc, true, Option, Some, None, IsSome, option_map, List, [], ◌∷◌, ◌++◌, map, refl, sym, ap, ◌∙◌, subst, true≢false, arith, append-nil}
use Rattle.std.specs.Prelude.{slice_get}
use Rattle.std.proofs.lemmas.Option.{same_Some}
use Rattle.toml_tree.specs.Spells.{Spells}
use Rattle.toml_tree.specs.Tree.{Doc}
use Rattle.toml_names.specs.mentions.Mentions.{named}
use Rattle.toml_names.specs.mentions.Rules.{KeepsRules}
use Rattle.toml_names.specs.model.Addresses.{Address}
use Rattle.toml_edits.specs.Edits.{Change}
use Rattle.toml_edits.specs.Lists.{carried}
use Rattle.toml_units.specs.declared.unit.UnitKind.TheVariants as kinds
use Rattle.toml_units.specs.Alike.{unit_in}
use Rattle.toml_units.specs.Apart.{AreComments}
use Rattle.toml_units.specs.Bases.{IsBased}
use Rattle.toml_units.specs.Blocks.{LiesIn}
use Rattle.toml_units.specs.OfLines.{IsOfLine}
use Rattle.toml_units.specs.Places.{LiesInside, size, line_of}
use Rattle.toml_units.specs.Twins.{Twin}
use Rattle.toml_units.specs.Units.{TextUnit, units}
use Rattle.toml_units.proofs.Proved.{units_are_apart, units_are_based, units_are_of_lines, units_are_sized, units_are_twins, units_have_addresses, holders_are_no_comments, tails_end_lines}
use Rattle.toml_checker.specs.declared.tables.Part.TheVariants as parts
use Rattle.toml_checker.specs.CarriedTo.{IsCarriedTo, At}
use Rattle.toml_checker.specs.Lines.{IsEmptyEnd}
use Rattle.toml_checker.specs.Owed.{IsOwed}
use Rattle.toml_checker.specs.Pairs.{StandsAs, IsSecond}
use Rattle.toml_checker.specs.Plain.{Site, site, next_line, flags_from, stands}
use Rattle.toml_checker.specs.Protected.{IsProtected}
use Rattle.toml_checker.proofs.Proved.{flags_tell}
use Rattle.toml_editor.specs.CarriedUnits.{ArePartners}
use Rattle.toml_editor.proofs.Each.{each_get}
use Rattle.toml_editor.proofs.written.EmptyLines.{empty_ends, behind_empty}
use Rattle.toml_editor.proofs.written.Nested.{IsIn, of_second, fits, seconds_rise, firsts_rise, before_at, member_at, two_at, no_line_inside, next_at, tail_next, NearLine, NoLine, nearest}
use Rattle.toml_editor.proofs.written.Way.{is_here}
use Rattle.toml_editor.proofs.written.WayComments.{le_or}
use Rattle.toml_editor.proofs.written.WayKeeps.{kind_is}
use Rattle.toml_editor.proofs.written.WayOwed.{along}

-- ---- what goes along with a protected unit

flag_at : (cs : List Change) (us : List TextUnit) (line : Option Site) (j : ℕ) (u : TextUnit) → slice_get us j ≡ Some u → (l : Option Site)
    × (slice_get (flags_from cs line (map site us)) j ≡ Some (is_here cs l u))
flag_at cs [] line j u is = cc
flag_at cs (x ∷ us) line zero u is = (line, ap (λ (y : TextUnit). Some (is_here cs line y)) (same_Some x u is))
flag_at cs (x ∷ us) line (suc j) u is = flag_at cs us (next_line line (site x)) j u is

protected_here : (cs : List Change) (us : List TextUnit) (j : ℕ) (u : TextUnit) → IsProtected cs us j → slice_get us j ≡ Some u
    → (l : Option Site) × (is_here cs l u ≡ true)
protected_here cs us j u protected is =
    let f = flag_at cs us None j u is in
    (f.0, same_Some (is_here cs f.0 u) true (sym f.1 ∙ ((flags_tell cs us).1 j).1 protected))

-- a unit with a value, or an element
abbrev HasValue : TextUnit → Type 0
HasValue u = (u.kind ≡ kinds.Element) ⊎ (IsSome u.base × ((u.kind ≡ kinds.Line) ⊎ (u.kind ≡ kinds.Pair)))

value_along : (cs : List Change) (line : Option Site) (u : TextUnit) (a rest : Address) → u.address ≡ Some a → is_here cs line u ≡ true
    → HasValue u → carried cs (a ++ rest) ≡ option_map (λ b. b ++ rest) (carried cs a)
value_along cs line u a rest at here (inl element) =
    along parts.Element u.base tt cs a rest
    (ap (λ o. stands parts.Element cs o u.base) (sym at) ∙ sym (kind_is cs line u kinds.Element element) ∙ here)
value_along cs line u a rest at here (inr (some, is)) = by u.base refl some is
  where
    stands_so : (u.kind ≡ kinds.Line) ⊎ (u.kind ≡ kinds.Pair) → stands parts.Line cs u.address u.base ≡ true
    stands_so (inl is) = sym (kind_is cs line u kinds.Line is) ∙ here
    stands_so (inr is) = sym (kind_is cs line u kinds.Pair is) ∙ here

    by : (base : Option ℕ) → u.base ≡ base → IsSome base → (u.kind ≡ kinds.Line) ⊎ (u.kind ≡ kinds.Pair)
        → carried cs (a ++ rest) ≡ option_map (λ b. b ++ rest) (carried cs a)
    by None is some kind = absurd (true≢false (sym some))
    by (Some n) is some kind = along parts.Line (Some n) tt cs a rest
        (ap (λ o. stands parts.Line cs o (Some n)) (sym at) ∙ ap (stands parts.Line cs u.address) (sym is) ∙ stands_so kind)

self_along : (cs : List Change) (a rest : Address) → rest ≡ [] → carried cs (a ++ rest) ≡ option_map (λ b. b ++ rest) (carried cs a)
self_along cs a rest none =
    ap (λ r. carried cs (a ++ r)) none ∙ ap (carried cs) (append-nil a) ∙ sym (same (carried cs a))
    ∙ ap (λ r. option_map (λ b. b ++ r) (carried cs a)) (sym none)
  where
    same : (o : Option Address) → option_map (λ b. b ++ []) o ≡ o
    same None = refl
    same (Some b) = ap Some (append-nil b)

-- ---- a line's comment

module _ (d : Doc) (text : List ℕ) (spells : Spells d text) where
  abbrev vs : List TextUnit
  vs = units d.lines

  own_line : (j : ℕ) (u : TextUnit) → slice_get vs j ≡ Some u → u.kind ≡ kinds.Line → line_of vs j ≡ Some u
  own_line j u is line = elim (units_are_of_lines d.lines j u is) [ inl own ↦ own.1 | inr other ↦ absurd (other.2.inner line) ]

  -- what lies in a line is of the line
  of_line : (i j : ℕ) (u w : TextUnit) (l : LiesInside vs j i) → slice_get vs j ≡ Some u → u.kind ≡ kinds.Line → slice_get vs i ≡ Some w
      → IsOfLine u w
  of_line i j u w l is line are = elim (units_are_of_lines d.lines i w are) [
    | inl own ↦ absurd (no_line_inside d text spells j i l
        (ap (λ (y : TextUnit). y.kind) (same_Some l.inner w (sym l.inner_is ∙ are)) ∙ own.0))
    | inr other ↦
        let same : other.0 ≡ u = same_Some other.0 u (sym other.1 ∙ sym ((units_are_sized d text spells).2 j i l) ∙ own_line j u is line) in
        subst (λ y. IsOfLine y w) same other.2
  ]

  based : (j : ℕ) (u : TextUnit) → slice_get vs j ≡ Some u → IsBased u
  based j u is = each_get IsBased vs j u (units_are_based d.lines) is

  -- without an address a unit that has others in it is a blank line
  blank_line : (i j : ℕ) (u : TextUnit) (l : LiesInside vs j i) → slice_get vs j ≡ Some u → u.address ≡ None → (u.kind ≡ kinds.Line)
      × (u.base ≡ None)
  blank_line i j u l is none = (
    kind (each_get (λ (y : TextUnit). y.address ≡ None → (y.kind ≡ kinds.Line) ⊎ (y.kind ≡ kinds.TailComment)) vs j u
        (units_have_addresses d text spells) is none),
    base u.base refl,
  )
    where
      same : l.outer ≡ u
      same = same_Some l.outer u (sym l.outer_is ∙ is)

      no_tail : u.kind ≡ kinds.TailComment → ⊥
      no_tail tail = elim (holders_are_no_comments d text spells j i l) [
        | inl line ↦ let e : kinds.Line ≡ kinds.TailComment = sym line ∙ ap (λ (y : TextUnit). y.kind) same ∙ tail in cc
        | inr (inl element) ↦ let e : kinds.Element ≡ kinds.TailComment = sym element ∙ ap (λ (y : TextUnit). y.kind) same ∙ tail in cc
        | inr (inr pair) ↦ let e : kinds.Pair ≡ kinds.TailComment = sym pair ∙ ap (λ (y : TextUnit). y.kind) same ∙ tail in cc
      ]

      kind : (u.kind ≡ kinds.Line) ⊎ (u.kind ≡ kinds.TailComment) → u.kind ≡ kinds.Line
      kind (inl line) = line
      kind (inr tail) = absurd (no_tail tail)

      base : (o : Option ℕ) → u.base ≡ o → u.base ≡ None
      base None is = is
      base (Some n) has = let at = ((based j u is).front n has).address in cc

  -- what lies in a protected unit goes along with it
  pub inner_along : (cs : List Change) (i j : ℕ) (u w : TextUnit) (l : LiesInside vs j i) → slice_get vs j ≡ Some u
      → slice_get vs i ≡ Some w → IsProtected cs vs j → (a rest : Address) → u.address ≡ Some a → w.address ≡ Some (a ++ rest)
      → carried cs (a ++ rest) ≡ option_map (λ b. b ++ rest) (carried cs a)
  inner_along cs i j u w l is are protected a rest at under = by (holders_are_no_comments d text spells j i l)
    where
      same : l.outer ≡ u
      same = same_Some l.outer u (sym l.outer_is ∙ is)

      here : (s : Option Site) × (is_here cs s u ≡ true)
      here = protected_here cs vs j u protected is

      cancel : (a r : Address) → a ++ r ≡ a → r ≡ []
      cancel [] r e = e
      cancel (t ∷ a) r e = cancel a r cc

      of_header : u.kind ≡ kinds.Line → u.base ≡ None → carried cs (a ++ rest) ≡ option_map (λ b. b ++ rest) (carried cs a)
      of_header line none =
          let of = of_line i j u w l is line are in
          self_along cs a rest (cancel a rest (same_Some (a ++ rest) a (sym under ∙ (of.tail (of.only_tail none)).0 ∙ at)))

      line_by : u.kind ≡ kinds.Line → (o : Option ℕ) → u.base ≡ o → carried cs (a ++ rest) ≡ option_map (λ b. b ++ rest) (carried cs a)
      line_by line None none = of_header line none
      line_by line (Some n) some = value_along cs here.0 u a rest at here.1 (inr (subst IsSome (sym some) refl, inl line))

      by : (l.outer.kind ≡ kinds.Line) ⊎ (l.outer.kind ≡ kinds.Element) ⊎ (l.outer.kind ≡ kinds.Pair)
          → carried cs (a ++ rest) ≡ option_map (λ b. b ++ rest) (carried cs a)
      by (inl line) = line_by (ap (λ (y : TextUnit). y.kind) (sym same) ∙ line) u.base refl
      by (inr (inl element)) = value_along cs here.0 u a rest at here.1 (inl (ap (λ (y : TextUnit). y.kind) (sym same) ∙ element))
      by (inr (inr pair)) = let kind = ap (λ (y : TextUnit). y.kind) (sym same)
          ∙ pair in value_along cs here.0 u a rest at here.1 (inr ((based j u is).pair kind, inr kind))

-- ---- pairs of what lies in paired units

module _ (cs : List Change) (d e : Doc) (text other : List ℕ) (spells : Spells d text) (spelled : Spells e other)
    (keeps : KeepsRules (named e.lines)) (ps : List (ℕ × ℕ)) (are : ArePartners cs d e ps) where
  abbrev us : List TextUnit
  us = units d.lines

  abbrev ws : List TextUnit
  ws = units e.lines

  -- no comment of a blank line goes further
  no_further : (i k j l t : ℕ) → IsIn (i, k) ps → IsIn (j, l) ps → LiesInside us j i → l < t → t < k → (x w : TextUnit)
      → slice_get ws t ≡ Some x → slice_get ws k ≡ Some w → x.kind ≡ kinds.TailComment → w.kind ≡ kinds.TailComment → w.address ≡ None → ⊥
  no_further i k j l t first second lies low high x w x_is w_is x_tail w_tail none = by (nearest ws None k w w_is w_no_line)
    where
      w_no_line : ¬ (w.kind ≡ kinds.Line)
      w_no_line is = let e : kinds.TailComment ≡ kinds.Line = sym w_tail ∙ is in cc

      next : (v : TextUnit) × (slice_get ws (suc t) ≡ Some v)
      next = next_at ws t k w w_is high

      next_line_is : next.0.kind ≡ kinds.Line
      next_line_is = tail_next ws t x next.0 (tails_end_lines e.lines) x_is x_tail next.1

      far : (n : NearLine ws None k) → (n.place ≤ t) ⊎ (t < n.place) → t < n.place
      far n (inr is) = is
      far n (inl is) = absurd (n.none (suc t) next.0 (omega (arith, is)) (omega (arith, high)) next.1 next_line_is)

      blank : (n : NearLine ws None k) → n.unit.address ≡ None
      blank n = elim (units_are_of_lines e.lines k w w_is) [
        | inl own ↦ absurd (w_no_line own.0)
        | inr of ↦ let same : of.0 ≡ n.unit =
            same_Some of.0 n.unit (sym of.1 ∙ n.of) in ap (λ (y : TextUnit). y.address) (sym same) ∙ sym (of.2.tail w_tail).0 ∙ none
      ]

      paired : (n : NearLine ws None k) → t < n.place → IsSecond ps n.place → ⊥
      paired n after is =
          let m = of_second ps n.place is in
          let s = fits cs d e ps (m.0, n.place) are.fit.1 m.1 in
          let later = firsts_rise ps j l m.0 n.place are.fit.0 second m.1 (omega (arith, low, after)) in
          let sooner = firsts_rise ps m.0 n.place i k are.fit.0 m.1 first n.low in
          let sized = ((units_are_sized d text spells).0 j i).0 lies in
          let inside = ((units_are_sized d text spells).0 j m.0).1 (later, omega (arith, sooner, sized.1)) in
          no_line_inside d text spells j m.0 inside
          (ap (λ (y : TextUnit). y.kind) (same_Some inside.inner s.first (sym inside.inner_is ∙ s.first_is)) ∙ s.kind
          ∙ ap (λ (y : TextUnit). y.kind) (same_Some s.second n.unit (sym s.second_is ∙ n.there)) ∙ n.kind_is)

      asked : (n : NearLine ws None k) → t < n.place → IsSecond ps n.place ⊎ At n.unit.address (IsOwed cs) ⊎ IsEmptyEnd cs e n.place n.unit
          → ⊥
      asked n after (inl is) = paired n after is
      asked n after (inr (inl owed)) = subst (λ o. At o (IsOwed cs)) (blank n) owed
      asked n after (inr (inr empty)) =
          let v = next_at ws n.place k w w_is n.low in
          n.none (suc n.place) v.0 (omega arith) (omega (arith, n.low)) v.1
          (behind_empty ws n.place n.unit v.0 (empty_ends e.lines spelled.lines.forms) n.there n.kind_is empty.1 v.1)

      by : NearLine ws None k ⊎ (NoLine ws k × (line_of ws k ≡ None)) → ⊥
      by (inl n) = let after = far n (le_or n.place t) in asked n after (are.lines n.place n.unit n.there n.kind_is)
      by (inr (none, of)) = none (suc t) next.0 (omega (arith, high)) next.1 next_line_is

  pub stays_inside : (i k j l : ℕ) → IsIn (i, k) ps → IsIn (j, l) ps → LiesInside us j i → IsProtected cs us j → LiesInside ws l k
  stays_inside i k j l first second lies protected = by (le_or k (l + size ws l))
    where
      s : StandsAs cs d e i k
      s = fits cs d e ps (i, k) are.fit.1 first

      o : StandsAs cs d e j l
      o = fits cs d e ps (j, l) are.fit.1 second

      sized : (j < i) × (i ≤ j + size us j)
      sized = ((units_are_sized d text spells).0 j i).0 lies

      later : l < k
      later = seconds_rise ps j l i k are.fit.0 second first lies.later

      m : ℕ
      m = i - suc j

      place : j + suc m ≡ i
      place = omega (arith, sized.0)

      twins : (size us j ≡ size ws l) × ((n : ℕ) → n < size us j → Twin us ws j l n o.first o.second)
      twins = units_are_twins d e text other spells spelled j l o.first o.second o.first_is o.second_is o.kind o.text

      low : m < size us j
      low = omega (arith, sized.1, place)

      t : Twin us ws j l m o.first o.second
      t = twins.1 m low

      in_it : LiesInside ws l (l + suc m)
      in_it = ((units_are_sized e other spelled).0 l (l + suc m)).1 (omega arith, omega (arith, low, twins.0))

      is_first : s.first ≡ unit_in o.first t.relative
      is_first = same_Some s.first (unit_in o.first t.relative) (sym s.first_is ∙ ap (slice_get us) (sym place) ∙ t.first)

      kind : t.relative.kind ≡ s.second.kind
      kind = ap (λ (y : TextUnit). y.kind) (sym is_first) ∙ s.kind

      -- at one address they are comments of one array
      of_one : (b : Address) → l + suc m < k → option_map (λ a. a ++ t.relative.address) o.second.address ≡ Some b
          → s.second.address ≡ Some b → LiesInside ws l k
      of_one b before one two =
          let apart = units_are_apart e other spelled keeps in
          let comment = two_at AreComments ws (l + suc m) k
          (unit_in o.second t.relative) s.second apart.0 before t.second s.second_is kind b one two in
          let inner : in_it.inner ≡ unit_in o.second t.relative =
          same_Some in_it.inner (unit_in o.second t.relative) (sym in_it.inner_is ∙ t.second) in
          let outer : in_it.outer ≡ o.second = same_Some in_it.outer o.second (sym in_it.outer_is ∙ o.second_is) in
          let within : LiesIn o.second (unit_in o.second t.relative) = subst
          (λ (y : TextUnit). LiesIn y (unit_in o.second t.relative)) outer
          (subst (λ (y : TextUnit). LiesIn in_it.outer y) inner in_it.lies) in
          let held =
          apart.1 o.second (unit_in o.second t.relative) s.second
          (record {
            before = before_at ws l (l + suc m) o.second (unit_in o.second t.relative)
                (omega arith) o.second_is t.second;
            lies = within;
          })
          (member_at ws k s.second s.second_is) (record { first = comment; second = sym kind ∙ comment; address = one ∙ sym two }) in
          record { later = later; outer = o.second; outer_is = o.second_is; inner = s.second; inner_is = s.second_is; lies = held.lies }

      at_address : (a b c : Address) → l + suc m < k → o.first.address ≡ Some a → o.second.address ≡ Some b → s.second.address ≡ Some c
          → carried cs a ≡ Some b → carried cs (a ++ t.relative.address) ≡ Some c → LiesInside ws l k
      at_address a b c before at to end goes reach =
          let under : s.first.address ≡ Some (a ++ t.relative.address) =
          ap (λ (y : TextUnit). y.address) is_first ∙ ap (option_map (λ x. x ++ t.relative.address)) at in
          let on = inner_along d text spells cs i j o.first s.first lies o.first_is s.first_is protected a t.relative.address at under in
          let same : c ≡ b ++ t.relative.address =
          same_Some c (b ++ t.relative.address) (sym reach ∙ on ∙ ap (option_map (λ x. x ++ t.relative.address)) goes) in
          of_one c before (ap (option_map (λ x. x ++ t.relative.address)) to ∙ ap Some (sym same)) end

      no_address : l + suc m < k → o.first.address ≡ None → o.second.address ≡ None → s.second.address ≡ None → LiesInside ws l k
      no_address before none to end =
          let blank = blank_line d text spells i j o.first lies o.first_is none in
          let of = of_line d text spells i j o.first s.first lies o.first_is blank.0 s.first_is in
          let tail : s.second.kind ≡ kinds.TailComment = sym s.kind ∙ of.only_tail blank.1 in
          absurd (no_further i k j l (l + suc m) first second lies (omega arith) before
          (unit_in o.second t.relative) s.second t.second s.second_is (kind ∙ tail) tail end)

      by_address : l + suc m < k → (x : Option Address) → o.first.address ≡ x → (y : Option Address) → o.second.address ≡ y
          → IsCarriedTo cs x y → (z : Option Address) → s.second.address ≡ z
          → IsCarriedTo cs (option_map (λ a. a ++ t.relative.address) x) z → LiesInside ws l k
      by_address before None at None to goes None end reach = no_address before at to end
      by_address before None at None to goes (Some c) end reach = absurd reach
      by_address before None at (Some b) to goes z end reach = absurd goes
      by_address before (Some a) at None to goes z end reach = absurd goes
      by_address before (Some a) at (Some b) to goes None end reach = absurd reach
      by_address before (Some a) at (Some b) to goes (Some c) end reach = at_address a b c before at to end goes reach

      by : (k ≤ l + size ws l) ⊎ (l + size ws l < k) → LiesInside ws l k
      by (inl within) = ((units_are_sized e other spelled).0 l k).1 (later, within)
      by (inr beyond) =
          by_address (omega (arith, beyond, low, twins.0)) o.first.address refl o.second.address refl o.address s.second.address refl
          (subst (λ (y : TextUnit). IsCarriedTo cs y.address s.second.address) is_first s.address)
