-- What is kept by an `insert`: the table rules, the bound on addresses, the data.
use Rattle.std.proofs.Common.{◌≡◌, ◌≤◌, ◌+◌, ℕ, List, inl, inr, Some, [], ◌∷◌, ◌++◌, All, length, length-append, sym, ap, ◌∙◌, subst, append-nil, arith, refl}
use Rattle.toml_tree.specs.Spells.{EachIs}
use Rattle.toml_tree.specs.Profiles.{IsValueIn}
use Rattle.toml_tree.specs.Tree.{Value, Line}
use Rattle.toml_tree.specs.declared.profile.Profile.{Profile}
use Rattle.toml_tree.proofs.Proved.{one_value}
use Rattle.toml_names.specs.declared.model.address.Step.TheVariants.{Name}
use Rattle.toml_names.specs.declared.mentions.mention.Role.TheVariants.{Valued}
use Rattle.toml_names.specs.model.Addresses.{Address, IsAbove, child}
use Rattle.toml_names.specs.model.Data.{Kinds, IsDataOf}
use Rattle.toml_names.specs.model.Places.{IsNamed}
use Rattle.toml_names.specs.mentions.Mentions.{Kind, Named, a_table, named, value_facts, inside}
use Rattle.toml_names.specs.mentions.Clear.{IsClear}
use Rattle.toml_names.proofs.Proved.{inside_is_below, not_named_is_clear, more_keep_rules, value_keeps_rules}
use Rattle.toml_names.specs.mentions.Rules.{IsShort, KeepsRules, max_steps}
use Rattle.toml_working.specs.InsertingInTables.{insert_in}
use Rattle.toml_working.specs.Manners.{Manner}
use Rattle.toml_working.specs.Premises.{HasSection, HasTable}
use Rattle.toml_edits.specs.After.{IsAfter}
use Rattle.toml_edits.specs.Carry.{carry, inserting}
use Rattle.toml_edits.specs.Edits.{insert}
use Rattle.toml_edits.specs.ValueTexts.{IsGoodValue}
use Rattle.toml_edits.proofs.Proved.{parted_at_last}
use Rattle.std.proofs.lemmas.Option.{same_Some}
use Rattle.toml_editor.specs.Blocks.{AreTablesAgain, IsPut, value_block, named_plain}
use Rattle.toml_editor.specs.InsertLaws.{InsertNames, InsertRules, InsertShort, InsertData}
use Rattle.toml_editor.proofs.written.BlockFacts.{each_put, has_old, has_block, has_new}
use Rattle.toml_editor.proofs.written.Clear.{IsUnder}
use Rattle.toml_editor.proofs.Each.{each_weaker}
use Rattle.toml_editor.proofs.written.InsertedNames.{insert_named, section_put}
use Rattle.toml_editor.proofs.written.InsertedTables.{no_section}
use Rattle.toml_editor.proofs.written.Pairwise.{each_of_all, Has, has_of_any, any_of_has, from_has, has_weaker}
use Rattle.toml_editor.proofs.written.SetKept.{F, block, clear_under, block_short, in_block, of_block}
use Rattle.toml_editor.proofs.written.TablesAgain.{AreNamedFirst}
use Rattle.toml_editor.proofs.written.Unplain.{rules_plain, short_plain, plain_short, each_plain, has_plain, plain_has}

pub block_under : (p : Address) (new : Value) (line : ℕ) → EachIs (λ m. IsUnder p m.address) (block p new line Valued)
block_under p new line = (([], sym (append-nil p)), each_weaker (λ m. IsAbove p m.address) (λ m. IsUnder p m.address) (λ m above. (above.0 ∷ above.1, above.2)) (inside line p new) (inside_is_below line new p))

-- at other addresses than the value and what is in it
abbrev IsBeside : Address → Value → Named → Type 0
IsBeside p v m = EachIs (λ b. ¬ (m.address ≡ b.address)) (value_block p v)

-- an `insert` of a name carries each address to itself
pub inserted_on : (q : Address) (name text : List ℕ) (a : Address) → carry (insert (child q name) text) a ≡ Some a
inserted_on q name text a = ap (λ o. inserting o a) (parted_at_last q (Name name))

-- ---- of any lines that name tables once more, and then the value

module _ (q : Address) (name : List ℕ) (v : Value) (lines new : List Line) (put : AreNamedFirst q (named_plain lines) (value_block (child q name) v) (named_plain new)) where
  abbrev p : Address
  p = child q name

  abbrev old : List Named
  old = named_plain lines

  abbrev tables : List Named
  tables = put.tables

  -- the name is neither the table nor what is above it
  too_long : (a rest below : Address) → q ≡ a ++ rest → a ≡ p ++ below → ⊥
  too_long a rest below at is =
      let e : length a ≡ length p + length below = ap length is ∙ length-append p below in
      let f : length q ≡ length a + length rest = ap length at ∙ length-append a rest in
      let g : length p ≡ length q + 1 = length-append q (Name name ∷ []) in
      omega (arith, e, f, g)

  tables_clear : EachIs (λ m. IsClear p m.address) tables
  tables_clear =
      each_weaker _ (λ m. IsClear p m.address)
      (λ m h. record {
        apart = λ is. too_long m.address h.1.0 [] h.1.1 (sym is ∙ sym (append-nil p));
        not_above = λ above. too_long m.address h.1.0 (above.0 ∷ above.1) h.1.1 above.2;
      })
      tables put.again

  pub named_rules : ¬ IsNamed (named lines) p → KeepsRules (named lines) → KeepsRules (value_facts v) → KeepsRules (named new)
  named_rules free keeps good =
      let second = put.second in
      let clear = each_put old tables put.mid put.first (λ m. IsClear p m.address)
      (each_plain lines (λ m. IsClear p m.address) (not_named_is_clear lines p keeps free)) tables_clear in
      let beside : (m : Named) → IsClear p m.address → IsBeside p v m =
      λ m c. each_weaker (λ b. IsUnder p b.address) (λ b. ¬ (m.address ≡ b.address)) (λ b under same. clear_under p m.address c (subst (IsUnder p) (sym same) under)) (value_block p v) (block_under p v 0) in
      (rules_plain new).1
      (subst KeepsRules (sym second.after)
      (more_keep_rules second.front (value_block p v) second.back (subst KeepsRules second.before (put.rules ((rules_plain lines).0 keeps))) (value_keeps_rules 0 Valued p v good)
      (subst (EachIs (IsBeside p v)) second.before (each_weaker (λ m. IsClear p m.address) (IsBeside p v) beside put.mid clear))))

  -- what is so of one thing that is named at a table's address, and is a table, is so of the table
  of_table : (P : Named → Type 0) → ((m t : Named) → (m.address ≡ t.address) × (m.kind ≡ t.kind) → P m → P t) → EachIs P old → EachIs P tables
  of_table P same each =
      each_weaker _ P
      (λ t h. from_has P (λ m. (m.address ≡ t.address) × (m.kind ≡ a_table)) (P t) (λ m is at. same m t (at.0, at.1 ∙ sym h.0) is) old each
      (has_of_any _ old h.2))
      tables put.again

  pub named_short : IsShort (named lines) → All (λ m. length p + length m.address ≤ max_steps) (value_facts v) → IsShort (named new)
  named_short short low =
      let was = short_plain lines short in
      plain_short new
      (each_put put.mid (value_block p v) (named_plain new) put.second _
      (each_put old tables put.mid put.first _ was (of_table _ (λ m t at h. subst (λ a. length a ≤ max_steps) at.0 h) was))
      (block_short p v 0 Valued (each_of_all _ (value_facts v) low)))

  -- what is named as a table once more is named
  table_is_old : (a : Address) (k : Kind) → Has (F p v a k) tables → Has (F p v a k) old
  table_is_old a k there =
      from_has _ (F p v a k) (Has (F p v a k) old)
      (λ t h at. has_weaker (λ m. (m.address ≡ t.address) × (m.kind ≡ a_table)) (F p v a k) (λ m is. (is.0 ∙ at.0, is.1 ∙ sym h.0 ∙ at.1)) old (has_of_any _ old h.2))
      tables put.again there

  pub named_data : (profile : Profile) (text : List ℕ) (kinds now after : Kinds) → IsValueIn profile v text → IsGoodValue profile text kinds
      → IsDataOf (named lines) now → IsDataOf (named new) after → IsAfter profile (insert p text) now after
  named_data profile text kinds now after value good is is' =
      let made = named_plain new in
      let same : good.value.tree ≡ v = one_value good.value.tree v 0 text good.value.is_value.0 value.0 in
      let facts : IsDataOf (value_facts v) kinds = subst (λ t. IsDataOf (value_facts t) kinds) same good.facts in
      let shown : (a : Address) (k : Kind) → Has (F p v a k) made → after a ≡ Some k =
      λ a k h. (is' a k).1 (any_of_has _ (named new) (plain_has new (F p v a k) h)) in (
        kinds,
        good,
        record {
          carried = λ a b k have to.
              let e : b ≡ a = same_Some b a (sym (inserted_on q name text b) ∙ to) in
              shown a k
              (has_old put.mid (value_block p v) made put.second (F p v a k)
              (has_old old tables put.mid put.first (F p v a k) (has_plain lines (F p v a k) (has_of_any _ (named lines) ((is a k).0 (ap now (sym e) ∙ have))))));
          placed = λ r k have.
              shown (p ++ r) k
              (has_block put.mid (value_block p v) made put.second (F p v (p ++ r) k) (in_block p v 0 Valued r k (has_of_any _ (value_facts v) ((facts r k).0 have))));
          no_other = λ a k have.
              let here : Has (F p v a k) old → now a ≡ Some k = λ w. (is a k).1 (any_of_has _ (named lines) (plain_has lines (F p v a k) w)) in
              elim (has_new put.mid (value_block p v) made put.second (F p v a k) (has_plain new (F p v a k) (has_of_any _ (named new) ((is' a k).0 have)))) [
                | inl m ↦ elim (has_new old tables put.mid put.first (F p v a k) m) [
                  | inl w ↦ inl (a, here w, inserted_on q name text a)
                  | inr t ↦ inl (a, here (table_is_old a k t), inserted_on q name text a)
                ]
                | inr w ↦ let b = of_block p v 0 Valued a k w in inr (b.0, b.1, (facts b.0 k).1 (any_of_has _ (value_facts v) b.2))
              ];
        },
      )

-- ---- of an `insert`

-- what the law of names says of one
abbrev NamesThere : Address → List ℕ → Value → Manner → List Line → Type 0
NamesThere q name v manner lines =
    (tables mid : List Named) × AreTablesAgain q (named_plain lines) tables × IsPut (named_plain lines) tables mid
    × IsPut mid (value_block (child q name) v) (named_plain (insert_in q name v manner lines)) × (HasSection lines q → tables ≡ [])

of_section : (q : Address) (name : List ℕ) (v : Value) (manner : Manner) (lines : List Line) → HasSection lines q → NamesThere q name v manner lines
of_section q name v manner lines has = (
  [],
  named_plain lines,
  tt,
  record { front = []; back = named_plain lines; before = refl; after = refl },
  section_put q name v manner lines has,
  λ again. refl,
)

of_others : (q : Address) (name : List ℕ) (v : Value) (manner : Manner) (lines : List Line) → HasTable lines q → ¬ HasSection lines q
    → NamesThere q name v manner lines
of_others q name v manner lines there unheaded =
    let put = insert_named q name v manner lines there in (put.tables, put.mid, put.again, put.first, put.second, λ has. absurd (unheaded has))

pub insert_names : InsertNames
insert_names [] name v manner lines there = of_section [] name v manner lines (inl refl)
insert_names (s ∷ q) name v manner lines (inl has) = of_section (s ∷ q) name v manner lines has
insert_names (s ∷ q) name v manner lines (inr (inl dotted)) =
    of_others (s ∷ q) name v manner lines (inr (inl dotted)) (no_section (s ∷ q) lines (λ is. cc) dotted.no_header)
insert_names (s ∷ q) name v manner lines (inr (inr implied)) =
    of_others (s ∷ q) name v manner lines (inr (inr implied)) (no_section (s ∷ q) lines (λ is. cc) implied.no_header)

pub insert_rules : InsertRules
insert_rules q name v manner lines there = named_rules q name v lines (insert_in q name v manner lines) (insert_named q name v manner lines there)

pub insert_short : InsertShort
insert_short q name v manner lines there = named_short q name v lines (insert_in q name v manner lines) (insert_named q name v manner lines there)

pub insert_data : InsertData
insert_data profile q name text new manner lines v old after there =
    named_data q name new lines (insert_in q name new manner lines) (insert_named q name new manner lines there) profile text v old after
