-- An element of an array of tables that stands in no value has a header line, or one below it does.
use Rattle.std.proofs.Common.{◌≡◌, ℕ, ◌+◌, Bool, true, false, ◌||◌, Option, Some, None, IsSome, List, [], ◌∷◌, ◌++◌, length, refl, sym, ap, ◌∙◌, subst, true≢false, append_assoc, arith, length-append}
use Rattle.std.specs.Bool.{nat_lt}
use Rattle.std.specs.List.{list_any}
use Rattle.std.proofs.lemmas.Bool.{and_parts}
use Rattle.toml_tree.specs.Spells.{EachIs}
use Rattle.toml_tree.specs.Tree.{Expr, BlankLine, KeyValLine, TableLine, ArrayTableLine, Line}
use Rattle.toml_names.specs.declared.model.address.Step.{Step}
use Rattle.toml_names.specs.declared.model.address.Step.TheVariants.{Index, Name}
use Rattle.toml_names.specs.mentions.Keys.{key_names}
use Rattle.toml_names.specs.mentions.Mentions.{Kind, Named, a_table, named, named_by, root, section}
use Rattle.toml_names.specs.mentions.Rules.{KeepsRules}
use Rattle.toml_names.specs.model.Addresses.{Address, below, is_above}
use Rattle.toml_names.specs.model.Data.{IsDataOf, Kinds}
use Rattle.toml_names.specs.reader.Names.{own_address}
use Rattle.toml_names.proofs.Proved.{above_is_above, lines_are_closed}
use Rattle.toml_edits.proofs.Proved.{fronts_stand}
use Rattle.toml_units.specs.Units.{line_base}
use Rattle.toml_layout.specs.Beginnings.{begins}
use Rattle.toml_working.specs.declared.lines.Sought.TheVariants as sought
use Rattle.toml_working.specs.Headers.{has_below, inner_of, innermost}
use Rattle.toml_working.specs.Seeing.{heads_below, is_dotted, is_sought_line}
use Rattle.toml_working.specs.Standing.{Standing, holds, leads_to, standing, standing_from}
use Rattle.toml_editor.proofs.written.Alike.{alike_self}
use Rattle.toml_editor.proofs.written.Closed.{no_end}
use Rattle.toml_editor.proofs.written.Counted.{names_last}
use Rattle.toml_editor.proofs.written.DocumentSections.{begins_longer}
use Rattle.toml_editor.proofs.written.EmptyAlone.{IsAway, NotThere, lines_away, not_any}
use Rattle.toml_editor.proofs.written.HeadersAlone.{is_less}
use Rattle.toml_editor.proofs.written.Pairwise.{Has, from_has, has_of_any, has_weaker}
use Rattle.toml_editor.proofs.written.Plain.{behind, plain_is}
use Rattle.toml_editor.proofs.written.TablesStay.{begins_under}
use Rattle.toml_editor.proofs.written.Unplain.{has_plain}

-- ---- what is named

-- what no line makes or holds is not named
pub away_unnamed : (e : Address) → ¬ ([] ≡ e) → (lines : List Line) → EachIs (IsAway e) (standing lines) → ¬ Has (λ m. m.address ≡ e) (named lines)
away_unnamed e not_root lines each there =
    from_has (NotThere e) (λ m. m.address ≡ e) ⊥ (λ m away here. away here) (root ∷ behind (root ∷ []) lines)
    (not_root, lines_away e lines (root ∷ []) (root ∷ []) 0 (alike_self (root ∷ [])) each)
    (subst (Has (λ m. m.address ≡ e)) (plain_is lines) (has_plain lines (λ m. m.address ≡ e) there))

-- what the data have is named
pub some_named : (lines : List Line) (kinds : Kinds) → IsDataOf (named lines) kinds → (e : Address) → IsSome (kinds e) → Has (λ m. m.address ≡ e) (named lines)
some_named lines kinds facts e = by (kinds e) refl
  where
    by : (o : Option Kind) → kinds e ≡ o → IsSome o → Has (λ m. m.address ≡ e) (named lines)
    by None is some = absurd (true≢false (sym some))
    by (Some k) is some = has_weaker (λ m. (m.address ≡ e) × (m.kind ≡ k)) (λ m. m.address ≡ e) (λ m h. h.0) (named lines) (has_of_any _ (named lines) ((facts e k).0 is))

-- ---- the innermost element

-- what the innermost element of an address is: its front up to an index
pub record IsInner (q e : Address) : Type 0 where
  pub array : Address
  pub index : ℕ
  pub is : e ≡ array ++ Index index ∷ []
  pub rest : Address
  pub front : q ≡ e ++ rest

-- the innermost element of an address, if it has one
pub inner_is : (q e : Address) → innermost q ≡ Some e → IsInner q e
inner_is [] e is = cc
inner_is (s ∷ q) e is = by (innermost q) refl s (λ f found. inner_is q f found) is
  where
    by : (o : Option Address) → innermost q ≡ o → (t : Step) → ((f : Address) → innermost q ≡ Some f → IsInner q f)
        → inner_of (innermost q) t ≡ Some e → IsInner (t ∷ q) e
    by None none (Name n) more h = (let x : ◌≡◌ {A = Option Address} None (Some e) = sym (ap (λ o. inner_of o (Name n)) none) ∙ h in cc)
    by None none (Index i) more h =
        let same : Index i ∷ [] ≡ e = (let x : ◌≡◌ {A = Option Address} (Some (Index i ∷ [])) (Some e) = sym (ap (λ o. inner_of o (Index i)) none) ∙ h in cc) in
        record { array = []; index = i; is = sym same; rest = q; front = ap (λ x. x ++ q) same }
    by (Some f) found t more h =
        let same : t ∷ f ≡ e = (let x : ◌≡◌ {A = Option Address} (Some (t ∷ f)) (Some e) = sym (ap (λ o. inner_of o t) found) ∙ h in cc) in
        let it = more f found in
        record {
          array = t ∷ it.array;
          index = it.index;
          is = sym same ∙ ap (λ x. t ∷ x) it.is;
          rest = it.rest;
          front = ap (λ x. t ∷ x) it.front ∙ ap (λ x. x ++ it.rest) same;
        }

-- ---- no key names it

module _ (e array : Address) (i : ℕ) (ends : e ≡ array ++ Index i ∷ []) where
  not_dotted : (xs : List Named) (x : Expr) → is_dotted e (line_base xs x) (own_address xs x) ≡ false
  not_dotted xs (BlankLine b) = refl
  not_dotted xs (TableLine ws header tail) = refl
  not_dotted xs (ArrayTableLine ws header tail) = refl
  not_dotted xs (KeyValLine ws pair tail) = by (is_dotted e (Some (length (section xs))) (Some (below (section xs) (key_names pair.assign.key)))) refl
    where
      by : (b : Bool) → is_dotted e (Some (length (section xs))) (Some (below (section xs) (key_names pair.assign.key))) ≡ b
          → is_dotted e (Some (length (section xs))) (Some (below (section xs) (key_names pair.assign.key))) ≡ false
      by false is = is
      by true is =
          let (low, above) = and_parts (nat_lt (length (section xs)) (length e)) (is_above e (below (section xs) (key_names pair.assign.key))) is in
          let (t, rest, split) = (above_is_above e (below (section xs) (key_names pair.assign.key))).0 above in
          let (more, below_array) = names_last (key_names pair.assign.key) (section xs) array (t ∷ rest) i
          (split ∙ ap (λ x. x ++ t ∷ rest) ends ∙ append_assoc array (Index i ∷ []) (t ∷ rest)) in
          let shorter = is_less (length (section xs)) (length e) low in
          let inner = ap length below_array ∙ length-append array (Index i ∷ more) in
          let outer = ap length ends ∙ length-append array (Index i ∷ []) in
          absurd (omega (arith, shorter, inner, outer))

  all_away : (ls : List Line) (xs : List Named) (n : ℕ) → EachIs (λ s. holds e s ≡ false) (standing_from xs n ls)
      → EachIs (λ s. is_sought_line sought.HeaderBelow e s ≡ false) (standing_from xs n ls) → EachIs (IsAway e) (standing_from xs n ls)
  all_away [] xs n none unheaded = tt
  all_away (l ∷ ls) xs n none unheaded = (
    record {
      makes_none = ap (λ b. b || heads_below e (line_base xs l.expr) (own_address xs l.expr)) (not_dotted xs l.expr) ∙ unheaded.0;
      holds_none = none.0;
    },
    all_away ls (xs ++ named_by xs n l.expr) (n + 1) none.1 unheaded.1,
  )

  not_root : ¬ ([] ≡ e)
  not_root is = no_end array (Index i) [] (is ∙ ends)

  -- where no line's value holds it, and no header is there or below, it is not named
  pub unheaded_unnamed : (lines : List Line) → list_any (holds e) (standing lines) ≡ false → has_below e (standing lines) ≡ false
      → ¬ Has (λ m. m.address ≡ e) (named lines)
  unheaded_unnamed lines none unheaded =
      away_unnamed e not_root lines
      (all_away lines (root ∷ []) 0 (not_any (holds e) (standing lines) none) (not_any (is_sought_line sought.HeaderBelow e) (standing lines) unheaded))

-- what holds an element holds what stands in it
holds_on : (e rest : Address) (s : Standing) → holds (e ++ rest) s ≡ false → holds e s ≡ false
holds_on e rest s none = by s.base s.address none
  where
    by : (base : Option ℕ) (own : Option Address) → leads_to (e ++ rest) base own ≡ false → leads_to e base own ≡ false
    by None own h = refl
    by (Some n) None h = refl
    by (Some n) (Some a) h = no (begins a e) refl
      where
        no : (b : Bool) → begins a e ≡ b → begins a e ≡ false
        no false is = is
        no true is =
            let (r, at) = begins_under e a e is in
            absurd (true≢false (sym (begins_longer a (r ++ rest)) ∙ ap (begins a) (sym (append_assoc a r rest) ∙ ap (λ x. x ++ rest) (sym at)) ∙ h))

-- so where none holds this, none holds the element
pub none_holds : (e rest : Address) (ss : List Standing) → list_any (holds (e ++ rest)) ss ≡ false → list_any (holds e) ss ≡ false
none_holds e rest ss none = all ss (not_any (holds (e ++ rest)) ss none)
  where
    all : (ts : List Standing) → EachIs (λ t. holds (e ++ rest) t ≡ false) ts → list_any (holds e) ts ≡ false
    all [] h = refl
    all (t ∷ ts) h = ap (λ b. b || list_any (holds e) ts) (holds_on e rest t h.0) ∙ all ts h.1

-- So a header line stands at the innermost element of a table that stands in no value, or below it.
pub element_headed : (lines : List Line) (q : Address) (kinds : Kinds) → KeepsRules (named lines) → IsDataOf (named lines) kinds → kinds q ≡ Some a_table
    → list_any (holds q) (standing lines) ≡ false → (e : Address) → innermost q ≡ Some e → has_below e (standing lines) ≡ true
element_headed lines q kinds keeps facts table outside e inner = by (has_below e (standing lines)) refl
  where
    it : IsInner q e
    it = inner_is q e inner

    there : IsSome (kinds e)
    there = fronts_stand kinds (lines_are_closed lines kinds keeps facts) e it.rest (subst (λ x. IsSome (kinds x)) it.front (subst IsSome (sym table) refl))

    by : (b : Bool) → has_below e (standing lines) ≡ b → has_below e (standing lines) ≡ true
    by true is = is
    by false is =
        absurd (unheaded_unnamed e it.array it.index it.is lines
        (none_holds e it.rest (standing lines) (subst (λ x. list_any (holds x) (standing lines) ≡ false) it.front outside)) is (some_named lines kinds facts e there))
