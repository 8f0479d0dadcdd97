-- What is named where the line of a value comes to stand for the table right above it.
use Rattle.std.proofs.Common.{◌≡◌, ◌∙◌, ℕ, ◌+◌, false, List, [], ◌∷◌, ◌++◌, length, refl, sym, ap, ap₂, subst, subst₂, append_assoc}
use Rattle.std.specs.List.{list_any}
use Rattle.toml_tree.specs.Spells.{EachIs}
use Rattle.toml_tree.specs.Tree.{Piece, Blank, KeyVal, Value, Line}
use Rattle.toml_names.specs.declared.model.address.Step.TheVariants.{Name}
use Rattle.toml_names.specs.declared.mentions.mention.Role.TheVariants.{Dotted, Valued}
use Rattle.toml_names.specs.model.Addresses.{Address, IsAbove, below, child, same_address}
use Rattle.toml_names.specs.mentions.Alike.{AreAlike}
use Rattle.toml_names.specs.mentions.Keys.{Key, key_names}
use Rattle.toml_names.specs.mentions.Mentions.{Named, a_table, fronts, named, named_by, pair_named, root, section, table_at, value_named}
use Rattle.toml_names.specs.mentions.Rules.{KeepsRules}
use Rattle.toml_names.proofs.Proved.{pairs_leave_alike}
use Rattle.toml_editor.specs.Blocks.{named_plain, value_block}
use Rattle.toml_working.specs.Removing.{empty_table, lines_left}
use Rattle.toml_working.specs.RemoveStanding.{is_undotted_pair, leaves_parent, makes_beside}
use Rattle.toml_layout.specs.Holders.{parent_of}
use Rattle.toml_working.specs.Standing.{AreOrdered, Standing, line_stands, standing, standing_from}
use Rattle.toml_editor.proofs.Each.{each_append, each_weaker}
use Rattle.toml_editor.proofs.written.Alike.{alike_self, alike_trans}
use Rattle.toml_editor.proofs.written.BelowPlace.{standing_behind}
use Rattle.toml_editor.proofs.written.Clear.{above_apart, below-cons, self}
use Rattle.toml_editor.proofs.written.EmptiedLine.{IsEmptying, below_last, either_false, pair_line, right_above}
use Rattle.toml_editor.proofs.written.EmptyAlone.{IsAway, NotThere, lines_away, others_away}
use Rattle.toml_editor.proofs.written.Plain.{behind, behind_alike, behind_parts, plain_alike, plain_is}
use Rattle.toml_editor.proofs.written.StandingOrder.{rules_order}
use Rattle.toml_editor.proofs.written.TablesStay.{fronts_above}

-- the table of the last front of a key comes last
fronts_last : (s : Address) (a : List ℕ) (k : Key) (n : List ℕ) → fronts 0 s ((a ∷ k) ++ n ∷ []) ≡ fronts 0 s (a ∷ k) ++ table_at 0 Dotted (below s (a ∷ k)) ∷ []
fronts_last s a [] n = refl
fronts_last s a (b ∷ k) n =
    ap (λ r. table_at 0 Dotted (child s a) ∷ r)
    (fronts_last (child s a) b k n ∙ ap (λ to. fronts 0 (child s a) (b ∷ k) ++ table_at 0 Dotted to ∷ []) (below-cons s a (b ∷ k)))

-- what lines name before a line
abbrev pub before : List Line → List Named
before front = root ∷ behind (root ∷ []) front

same_section : (front : List Line) → section (before front) ≡ section (named front)
same_section front = sym ((plain_alike (named front)).sections ∙ ap section (plain_is front))

-- what they name with a line of a pair
named_with : (front back : List Line) (ws : Piece) (pair : KeyVal) (tail : Blank) (newline : Piece) → named_plain (front ++ pair_line ws pair tail newline ∷ back)
    ≡ before front ++ (pair_named 0 (section (named front)) pair.assign pair.value ++ behind (before front) back)
named_with front back ws pair tail newline =
    let l = pair_line ws pair tail newline in
    let ys = before front in
    let new = pair_named 0 (section ys) pair.assign pair.value in
    plain_is (front ++ l ∷ back)
    ∙ ap (λ r. root ∷ r) (behind_parts front (l ∷ back) (root ∷ []))
    ∙ ap (λ r. ys ++ (new ++ r)) (behind_alike back (ys ++ new) ys (pairs_leave_alike ys 0 (section ys) pair.assign pair.value))
    ∙ ap (λ s. ys ++ (pair_named 0 s pair.assign pair.value ++ behind ys back)) (same_section front)

-- The old lines name this table by the key and the value below it, the new ones the table as a value, and else the same, and no other
-- thing at the table.
pub record IsEmptied (q : Address) (p : Address) (old new : List Named) : Type 0 where
  pub value : Value
  pub front : List Named
  pub back : List Named
  pub before : old ≡ front ++ ((table_at 0 Dotted q ∷ value_block p value) ++ back)
  pub after : new ≡ front ++ (value_named 0 Valued q empty_table ∷ back)
  pub alone : EachIs (NotThere q) (front ++ back)

grouped : (ys fs : List Named) (t : Named) (vs back : List Named) → ys ++ (((fs ++ t ∷ []) ++ vs) ++ back) ≡ (ys ++ fs) ++ ((t ∷ vs) ++ back)
grouped ys fs t vs back = simp append_assoc

grouped_new : (ys fs : List Named) (t : Named) (back : List Named) → ys ++ ((fs ++ t ∷ []) ++ back) ≡ (ys ++ fs) ++ (t ∷ back)
grouped_new ys fs t back = simp append_assoc

module _ (p : Address) (lines : List Line) (e : IsEmptying p lines) (gone : leaves_parent p (standing lines) ≡ false) (keeps : KeepsRules (named lines)) where
  abbrev s : Address
  s = section (named e.front)

  abbrev key : Key
  key = e.cut.first ∷ e.cut.rest

  abbrev q : Address
  q = below s key

  abbrev xs : List Named
  xs = named e.front

  abbrev l : Line
  l = pair_line e.ws e.pair e.tail e.newline

  abbrev over : List Named
  over = xs ++ named_by xs (length e.front) l.expr

  abbrev rest_stands : List Standing
  rest_stands = standing_from over (length e.front + 1) e.back

  to : below s (key_names e.pair.assign.key) ≡ p
  to = ap (below s) e.cut.whole ∙ below_last s key e.cut.last ∙ sym e.at

  stands : standing lines ≡ standing e.front ++ line_stands xs l ∷ rest_stands
  stands = ap standing e.was ∙ standing_behind e.front (l ∷ e.back) []

  others : EachIs (IsAway q) (standing e.front) × EachIs (IsAway q) rest_stands
  others =
      let none = (either_false (list_any (is_undotted_pair p) (standing lines)) (list_any (makes_beside (parent_of p) p) (standing lines)) gone).1 in
      others_away p q (Name e.cut.last ∷ [], e.at) (line_stands xs l) (ap (λ a. same_address a p) to ∙ self p) (standing e.front) rest_stands
      (subst AreOrdered stands (rules_order lines keeps))
      (subst₂ (λ a ss. list_any (makes_beside a p) ss ≡ false) (right_above p lines e) stands none)

  named_alike : AreAlike over (before e.front)
  named_alike =
      alike_trans over xs (before e.front) (pairs_leave_alike xs (length e.front) s e.pair.assign e.pair.value)
      (subst (AreAlike xs) (plain_is e.front) (plain_alike xs))

  not_root : ¬ ([] ≡ q)
  not_root is = by s is
    where
      by : (a : Address) → [] ≡ below a key → ⊥
      by [] is = cc
      by (t ∷ a) is = cc

  none_there : EachIs (NotThere q) ((before e.front ++ fronts 0 s key) ++ behind (before e.front) e.back)
  none_there =
      each_append (NotThere q) (before e.front ++ fronts 0 s key) (behind (before e.front) e.back)
      (each_append (NotThere q) (before e.front) (fronts 0 s key)
      (not_root, lines_away q e.front (root ∷ []) (root ∷ []) 0 (alike_self (root ∷ [])) others.0)
      (each_weaker (λ m. IsAbove m.address q × (m.kind ≡ a_table)) (NotThere q) (λ m h here. above_apart m.address q h.0 (sym here)) (fronts 0 s key) (fronts_above s key)))
      (lines_away q e.back over (before e.front) (length e.front + 1) named_alike others.1)

  pub empty_named : IsEmptied q p (named_plain lines) (named_plain (lines_left p false lines))
  empty_named =
      let ys = before e.front in
      let rest = behind ys e.back in
      let fs = fronts 0 s key in
      let v = e.pair.value in
      record {
        value = v;
        front = ys ++ fs;
        back = rest;
        before =
            ap named_plain e.was ∙ named_with e.front e.back e.ws e.pair e.tail e.newline
            ∙ ap (λ k. ys ++ ((fronts 0 s k ++ value_block (below s k) v) ++ rest)) e.cut.whole
            ∙ ap₂ (λ f a. ys ++ ((f ++ value_block a v) ++ rest)) (fronts_last s e.cut.first e.cut.rest e.cut.last) (below_last s key e.cut.last ∙ sym e.at)
            ∙ grouped ys fs (table_at 0 Dotted q) (value_block p v) rest;
        after =
            ap named_plain e.now ∙ named_with e.front e.back e.ws _ _ e.newline
            ∙ ap (λ k. ys ++ ((fronts 0 s k ++ value_named 0 Valued (below s k) empty_table ∷ []) ++ rest)) e.cut.front
            ∙ grouped_new ys fs (value_named 0 Valued q empty_table) rest;
        alone = none_there;
      }
