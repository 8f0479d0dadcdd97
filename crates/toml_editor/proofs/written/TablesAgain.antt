-- Tables that are named once more before a value is put in: what was named, in between these tables, and then the value.
use Rattle.std.proofs.Common.{◌≡◌, inl, inr, ℕ, true, List, [], ◌∷◌, ◌++◌, map, Any, refl, sym, ap, ◌∙◌, subst, subst₂, append_assoc, append-nil}
use Rattle.toml_tree.specs.Spells.{EachIs}
use Rattle.toml_tree.specs.Tree.{Value, Line}
use Rattle.toml_names.specs.declared.model.address.Step.TheVariants.{Name}
use Rattle.toml_names.specs.declared.mentions.mention.Role.{Role}
use Rattle.toml_names.specs.declared.mentions.mention.Role.TheVariants.{Passed, Header, Dotted, Valued, Tables, Element, Bare}
use Rattle.toml_names.specs.mentions.Keys.{Key}
use Rattle.toml_names.specs.mentions.Mentions.{Named, a_table, fronts, root}
use Rattle.toml_names.specs.mentions.Rules.{KeepsRules, may_follow}
use Rattle.toml_names.specs.model.Addresses.{Address, below, child}
use Rattle.toml_editor.specs.Blocks.{AreTablesAgain, IsPut, named_plain, value_block}
use Rattle.toml_editor.proofs.Each.{each_append, each_back, each_front, each_weaker}
use Rattle.toml_layout.specs.Spacings.{plain_spacing}
use Rattle.toml_working.specs.Inserting.{new_line}
use Rattle.toml_working.specs.Manners.{Manner}
use Rattle.toml_editor.proofs.written.Clear.{below-cons}
use Rattle.toml_editor.proofs.written.InsertNamed.{line_named, named_parts, next_named}
use Rattle.toml_working.specs.Premises.{HasSection}
use Rattle.toml_editor.proofs.written.InsertPlaces.{IsDottedAgain, IsPlace, IsPutAt, fronts_dotted, key_parts}
use Rattle.toml_editor.proofs.written.Plain.{behind, plain_is}
use Rattle.toml_editor.proofs.written.Roles.{IsUnpassed}
use Rattle.toml_editor.proofs.written.Pairwise.{Goes, Has, PairsAre, all_of_pairs, any_of_has, has_append_left, has_append_right, pairs_append, pairs_back, pairs_between, pairs_front, pairs_of_all}

-- The tables stand behind what was named in front, and the value's block is put in behind them. They are tables that were named, at the address
-- or above it, and keep the rules.
pub record AreNamedFirst (q : Address) (old block new : List Named) : Type 0 where
  pub tables : List Named
  pub mid : List Named
  pub again : AreTablesAgain q old tables
  pub first : IsPut old tables mid
  pub second : IsPut mid block new
  pub rules : KeepsRules old → KeepsRules mid

-- a block put in between goes with what is named in front and behind
pub block_between : (xs block ys : List Named) → KeepsRules (xs ++ ys) → PairsAre Goes block → EachIs (λ e. EachIs (Goes e) block) xs
    → EachIs (λ b. EachIs (Goes b) ys) block → KeepsRules (xs ++ (block ++ ys))
block_between xs block ys keeps own before after =
    let pairs = pairs_of_all Goes (xs ++ ys) keeps in
    all_of_pairs Goes (xs ++ (block ++ ys))
    (pairs_append Goes xs (block ++ ys) (pairs_front Goes xs ys pairs) (pairs_append Goes block ys own (pairs_back Goes xs ys pairs) after)
    (both xs before (pairs_between Goes xs ys pairs)))
  where
    both : (es : List Named) → EachIs (λ e. EachIs (Goes e) block) es → EachIs (λ e. EachIs (Goes e) ys) es → EachIs (λ e. EachIs (Goes e) (block ++ ys)) es
    both [] h k = tt
    both (e ∷ es) h k = (each_append (Goes e) block ys h.0 k.0, both es h.1 k.1)

-- one after the other
pub put_twice : (q : Address) (tables block xs ys : List Named) → AreTablesAgain q (xs ++ ys) tables → (KeepsRules (xs ++ ys) → KeepsRules (xs ++ (tables ++ ys)))
    → AreNamedFirst q (xs ++ ys) block (xs ++ ((tables ++ block) ++ ys))
put_twice q tables block xs ys again rules = record {
  tables = tables;
  mid = xs ++ (tables ++ ys);
  again = again;
  first = record { front = xs; back = ys; before = refl; after = refl };
  second = record {
    front = xs ++ tables;
    back = ys;
    before = sym (append_assoc xs tables ys);
    after = ap (λ r. xs ++ r) (append_assoc tables block ys) ∙ sym (append_assoc xs tables (block ++ ys));
  };
  rules = rules;
}

-- ---- tables of dotted keys

-- a dotted key may make again what goes with it, but what a header passed
dotted_first : (r : Role) → may_follow Dotted r ≡ true → ¬ (r ≡ Passed) → may_follow r Dotted ≡ true
dotted_first Dotted goes not = refl
dotted_first Bare goes not = refl
dotted_first Passed goes not = absurd (not refl)
dotted_first Header goes not = cc
dotted_first Valued goes not = cc
dotted_first Tables goes not = cc
dotted_first Element goes not = cc

module _ (xs ys : List Named) (keeps : KeepsRules (xs ++ ys)) (t : Named) (role : t.role ≡ Dotted) (again : IsDottedAgain xs t) where
  abbrev twin : Named
  twin = again.twin

  whole : PairsAre Goes (again.before ++ twin ∷ (again.after ++ ys))
  whole =
      subst (PairsAre Goes) (ap (λ r. r ++ ys) again.is ∙ append_assoc again.before (twin ∷ again.after) ys) (pairs_of_all Goes (xs ++ ys) keeps)

  behind_twin : EachIs (Goes twin) (again.after ++ ys)
  behind_twin = (pairs_back Goes again.before (twin ∷ (again.after ++ ys)) whole).0

  -- what goes with the twin goes with the table
  as_twin : (e : Named) → Goes e twin → Goes e t
  as_twin e goes same = subst (λ r. may_follow e.role r ≡ true) (again.role ∙ sym role) (goes (same ∙ sym again.address))

  twin_goes : (l : Named) → Goes twin l → Goes t l
  twin_goes l goes same = subst (λ r. may_follow r l.role ≡ true) (again.role ∙ sym role) (goes (again.address ∙ same))

  after_goes : (e : Named) → Goes twin e → ¬ (e.role ≡ Passed) → Goes e t
  after_goes e goes not same =
      subst (λ r. may_follow e.role r ≡ true) (sym role)
      (dotted_first e.role (subst (λ r. may_follow r e.role ≡ true) again.role (goes (again.address ∙ sym same))) not)

  each_after : (es : List Named) → EachIs (Goes twin) es → EachIs (λ m. ¬ (m.role ≡ Passed)) es → EachIs (λ e. Goes e t) es
  each_after [] goes not = tt
  each_after (e ∷ es) goes not = (after_goes e goes.0 not.0, each_after es goes.1 not.1)

  before_twin : (es rest : List Named) → PairsAre Goes (es ++ twin ∷ rest) → EachIs (λ e. Goes e t) es
  before_twin [] rest pairs = tt
  before_twin (e ∷ es) rest pairs = (as_twin e (each_back (Goes e) es (twin ∷ rest) pairs.0).0, before_twin es rest pairs.1)

  pub dotted_behind : EachIs (λ e. Goes e t) xs
  dotted_behind =
      subst (EachIs (λ e. Goes e t)) (sym again.is)
      (each_append (λ e. Goes e t) again.before (twin ∷ again.after) (before_twin again.before (again.after ++ ys) whole) (
        (λ same. subst₂ (λ r s. may_follow r s ≡ true) (sym again.role) (sym role) refl),
        each_after again.after (each_front (Goes twin) again.after ys behind_twin) again.none,
      ))

  pub dotted_before : EachIs (Goes t) ys
  dotted_before = each_weaker (Goes twin) (Goes t) twin_goes ys (each_back (Goes twin) again.after ys behind_twin)

-- ---- the tables of a key

-- the other way round
pub each_other : (R : Named → Named → Type 0) (ts xs : List Named) → EachIs (λ t. EachIs (λ e. R e t) xs) ts → EachIs (λ e. EachIs (R e) ts) xs
each_other R ts [] h = tt
each_other R ts (x ∷ xs) h = (firsts ts h, each_other R ts xs (others ts h))
  where
    firsts : (us : List Named) → EachIs (λ t. EachIs (λ e. R e t) (x ∷ xs)) us → EachIs (R x) us
    firsts [] k = tt
    firsts (u ∷ us) k = (k.0.0, firsts us k.1)

    others : (us : List Named) → EachIs (λ t. EachIs (λ e. R e t) (x ∷ xs)) us → EachIs (λ t. EachIs (λ e. R e t) xs) us
    others [] k = tt
    others (u ∷ us) k = (k.0.1, others us k.1)

dotted_pairs : (ts : List Named) → EachIs (λ t. (t.role ≡ Dotted) × (t.kind ≡ a_table) × IsUnpassed t) ts → PairsAre Goes ts
dotted_pairs [] are = tt
dotted_pairs (t ∷ ts) are = (each_weaker _ (Goes t) (λ u h same. subst₂ (λ r s. may_follow r s ≡ true) (sym are.0.0) (sym h.0) refl) ts are.1, dotted_pairs ts are.1)

-- the tables that the key of a name in a table passes behind a section are the table, or above it
fronts_above : (at : Address) (ns : Key) (n : List ℕ) → EachIs (λ t. (rest : Address) × (below at ns ≡ t.address ++ rest)) (fronts 0 at (ns ++ n ∷ []))
fronts_above at [] n = tt
fronts_above at (k ∷ []) n = (([], sym (append-nil (child at k))), tt)
fronts_above at (k ∷ l ∷ ns) n = (
  (map Name (l ∷ ns), sym (below-cons at k (l ∷ ns))),
  subst (λ a. EachIs (λ t. (rest : Address) × (a ≡ t.address ++ rest)) (fronts 0 (child at k) ((l ∷ ns) ++ n ∷ []))) (below-cons at k (l ∷ ns))
      (fronts_above (child at k) (l ∷ ns) n),
)

-- such a table is named
again_any : (xs ys : List Named) (t : Named) → IsDottedAgain xs t → Any (λ m. (m.address ≡ t.address) × (m.kind ≡ a_table)) (xs ++ ys)
again_any xs ys t again =
    any_of_has _ (xs ++ ys)
    (has_append_left _ xs ys
    (subst (Has (λ m. (m.address ≡ t.address) × (m.kind ≡ a_table))) (sym again.is) (has_append_right _ again.before (again.twin ∷ again.after) (inl (again.address, again.kind)))))

-- ---- where the new line stands

first_made : (q : Address) (name : List ℕ) (v : Value) (manner : Manner) (lines new : List Line) → q ≡ []
    → new ≡ new_line plain_spacing (name ∷ []) v manner.newline ∷ lines
    → named_plain new ≡ root ∷ (value_block (child q name) v ++ behind (root ∷ []) lines)
first_made q name v manner lines new at_root first =
    ap named_plain first ∙ plain_is (new_line plain_spacing (name ∷ []) v manner.newline ∷ lines)
    ∙ ap (λ r. root ∷ r) (next_named [] name [] v plain_spacing manner.newline (root ∷ []) lines refl)
    ∙ ap (λ a. root ∷ (value_block (child a name) v ++ behind (root ∷ []) lines)) (sym at_root)

module _ (q : Address) (name : List ℕ) (v : Value) (manner : Manner) (lines new : List Line) (put : IsPutAt q name v manner lines new) where
  -- what is named up to the line in front
  abbrev in_front : List Named
  in_front = named_plain (put.front ++ put.line ∷ [])

  abbrev behind_it : List Named
  behind_it = behind in_front put.back

  was_named : named_plain lines ≡ in_front ++ behind_it
  was_named = ap named_plain put.was ∙ named_parts put.front put.line put.back

  line_made : named_plain new ≡ in_front ++ ((fronts 0 put.section_at (put.first ∷ put.rest) ++ value_block (child q name) v) ++ behind_it)
  line_made =
      ap named_plain put.is ∙ line_named put.section_at put.first put.rest v manner put.spacing put.front put.line put.back put.section_is
      ∙ ap (λ a. in_front ++ ((fronts 0 put.section_at (put.first ∷ put.rest) ++ value_block a v) ++ behind_it)) (sym put.same)

-- In the root, or in a table that has a header, nothing is named but the value.
pub place_put : (q : Address) (name : List ℕ) (v : Value) (manner : Manner) (lines new : List Line) → IsPlace q name v manner lines new → HasSection lines q
    → IsPut (named_plain lines) (value_block (child q name) v) (named_plain new)
place_put q name v manner lines new (inl (at_root, first)) has = record {
  front = root ∷ [];
  back = behind (root ∷ []) lines;
  before = plain_is lines;
  after = first_made q name v manner lines new at_root first;
}
place_put q name v manner lines new (inr put) has = record {
  front = in_front q name v manner lines new put;
  back = behind_it q name v manner lines new put;
  before = was_named q name v manner lines new put;
  after =
      line_made q name v manner lines new put
      ∙ ap (λ k. in_front q name v manner lines new put ++ ((fronts 0 put.section_at (put.first ∷ k) ++ value_block (child q name) v) ++ behind_it q name v manner lines new put))
      (put.own has);
}

-- In any table, tables are named once more, and then the value.
pub place_named : (q : Address) (name : List ℕ) (v : Value) (manner : Manner) (lines new : List Line) → IsPlace q name v manner lines new
    → AreNamedFirst q (named_plain lines) (value_block (child q name) v) (named_plain new)
place_named q name v manner lines new (inl (at_root, first)) =
    subst₂ (λ old now. AreNamedFirst q old (value_block (child q name) v) now) (sym (plain_is lines))
    (sym (first_made q name v manner lines new at_root first))
    (put_twice q [] (value_block (child q name) v) (root ∷ []) (behind (root ∷ []) lines) tt (λ keeps. keeps))
place_named q name v manner lines new (inr put) =
    subst₂ (λ old now. AreNamedFirst q old (value_block (child q name) v) now) (sym (was_named q name v manner lines new put))
    (sym (line_made q name v manner lines new put))
    (put_twice q tables (value_block (child q name) v) xs ys again rules)
  where
    key : Key
    key = put.first ∷ put.rest

    xs : List Named
    xs = in_front q name v manner lines new put

    ys : List Named
    ys = behind_it q name v manner lines new put

    tables : List Named
    tables = fronts 0 put.section_at key

    outer : (ns : Key) × (key ≡ ns ++ name ∷ []) × (q ≡ below put.section_at ns)
    outer = key_parts q put.section_at name put.first put.rest put.same

    dotted : EachIs (λ t. (t.role ≡ Dotted) × (t.kind ≡ a_table) × IsUnpassed t) tables
    dotted = fronts_dotted put.section_at key

    above : EachIs (λ t. (rest : Address) × (q ≡ t.address ++ rest)) tables
    above =
        subst₂ (λ a k. EachIs (λ t. (rest : Address) × (a ≡ t.address ++ rest)) (fronts 0 put.section_at k)) (sym outer.2) (sym outer.1)
        (fronts_above put.section_at outer.0 name)

    again : AreTablesAgain q (xs ++ ys) tables
    again = all tables dotted above put.again
      where
        all : (ts : List Named) → EachIs (λ t. (t.role ≡ Dotted) × (t.kind ≡ a_table) × IsUnpassed t) ts → EachIs (λ t. (rest : Address) × (q ≡ t.address ++ rest)) ts
            → EachIs (IsDottedAgain xs) ts → AreTablesAgain q (xs ++ ys) ts
        all [] d a g = tt
        all (t ∷ ts) d a g = ((d.0.1, a.0, again_any xs ys t g.0), all ts d.1 a.1 g.1)

    rules : KeepsRules (xs ++ ys) → KeepsRules (xs ++ (tables ++ ys))
    rules keeps = block_between xs tables ys keeps (dotted_pairs tables dotted) (each_other Goes tables xs (behind_all tables dotted put.again)) (before_all tables dotted put.again)
      where
        behind_all : (ts : List Named) → EachIs (λ t. (t.role ≡ Dotted) × (t.kind ≡ a_table) × IsUnpassed t) ts → EachIs (IsDottedAgain xs) ts
            → EachIs (λ t. EachIs (λ e. Goes e t) xs) ts
        behind_all [] d g = tt
        behind_all (t ∷ ts) d g = (dotted_behind xs ys keeps t d.0.0 g.0, behind_all ts d.1 g.1)

        before_all : (ts : List Named) → EachIs (λ t. (t.role ≡ Dotted) × (t.kind ≡ a_table) × IsUnpassed t) ts → EachIs (IsDottedAgain xs) ts
            → EachIs (λ b. EachIs (Goes b) ys) ts
        before_all [] d g = tt
        before_all (t ∷ ts) d g = (dotted_before xs ys keeps t d.0.0 g.0, before_all ts d.1 g.1)
