-- What is kept by the `remove` of a line: the forms, the rules, the data.
use Rattle.std.proofs.Common.{◌≡◌, ℕ, ◌+◌, ◌-◌, ◌==◌, ◌⊎◌, Bool, true, false, cond, inl, inr, List, [], ◌∷◌, ◌++◌, length, Some, option_map, refl, sym, ap, ◌∙◌, subst, subst₂, append_assoc, true≢false, arith}
use Rattle.toml_text.specs.Forms.{IsNewline}
use Rattle.toml_tree.specs.Spells.{EachIs, AreLines, IsDotted, IsExpr}
use Rattle.toml_tree.specs.Tree.{Value, Expr, BlankLine, KeyValLine, TableLine, ArrayTableLine, Line}
use Rattle.toml_names.specs.declared.model.address.Step.TheVariants.{Name}
use Rattle.toml_names.specs.declared.mentions.mention.Role.TheVariants.{Valued}
use Rattle.toml_names.specs.model.Addresses.{Address, IsAbove, child, same_address, same_step, below}
use Rattle.toml_names.specs.mentions.Keys.{Key, key_names}
use Rattle.toml_names.specs.mentions.Mentions.{Kind, Named, a_table, fronts, inside, named, named_by, root, section, value_named}
use Rattle.toml_names.specs.mentions.Rules.{KeepsRules}
use Rattle.toml_names.specs.model.Data.{IsDataOf, IsFact, Kinds}
use Rattle.toml_names.specs.reader.Names.{AreGood}
use Rattle.toml_names.specs.model.Places.{IsNamed}
use Rattle.toml_names.specs.mentions.Clear.{IsClear}
use Rattle.toml_names.proofs.Proved.{line_values_stand_alone, lines_have_one_kind, not_named_is_clear, some_keep_rules}
use Rattle.toml_tree.specs.declared.profile.Profile.{Profile}
use Rattle.toml_edits.specs.After.{IsAfter}
use Rattle.toml_edits.specs.Carry.{Carrier, carry, carry_below, nowhere, removing}
use Rattle.toml_edits.specs.Edits.{remove}
use Rattle.toml_edits.proofs.Proved.{parted_at_last}
use Rattle.toml_editor.specs.Blocks.{IsPut, value_block, named_plain}
use Rattle.toml_editor.specs.RemoveLaws.{LeavesTable, RemoveForms}
use Rattle.toml_working.specs.Lines.{lines_from}
use Rattle.toml_working.specs.Removing.{emptied_expr, emptied_line, empty_line, left_of_line, remove_line}
use Rattle.toml_working.specs.RemoveStanding.{leaves_parent}
use Rattle.toml_layout.specs.Holders.{parent_of}
use Rattle.toml_working.specs.Standing.{standing}
use Rattle.toml_working.specs.Premises.{HasLine}
use Rattle.toml_editor.proofs.written.BlockFacts.{each_old, has_old, has_new}
use Rattle.toml_editor.proofs.written.Clear.{IsUnder}
use Rattle.toml_editor.proofs.Each.{each_append, each_back, each_taken, each_weaker}
use Rattle.toml_editor.proofs.written.InsertSpaced.{plain_spaced}
use Rattle.toml_editor.proofs.written.Formed.{newline_some, line_before}
use Rattle.toml_editor.proofs.written.InsertKept.{block_under}
use Rattle.toml_editor.proofs.written.Pairwise.{PairsAre, pairs_back, pairs_between, Alone, pairs_of_all, Has, has_of_any, has_parts, any_of_has, from_has}
use Rattle.toml_editor.proofs.written.RemoveNamed.{line_block, line_parts, taken_lines, taken_names}
use Rattle.toml_editor.proofs.written.SetKept.{F, clear_under, carried_clear, clear_carried}
use Rattle.toml_editor.proofs.written.TablesStay.{above_stays, fronts_above}
use Rattle.toml_editor.proofs.written.Unplain.{pairs_plain, rules_plain, short_plain, plain_short, each_plain, has_plain, plain_has}

-- ---- forms

-- the line with less of its key and an empty table is in the form
emptied_formed : (parts : ℕ) (e : Expr) → IsExpr e → IsExpr (emptied_expr parts e)
emptied_formed parts (BlankLine b) is = is
emptied_formed parts (TableLine ws header tail) is = is
emptied_formed parts (ArrayTableLine ws header tail) is = is
emptied_formed parts (KeyValLine ws pair tail) (spaced, ((key, before, behind), value, deep), blank) =
    (spaced, (((key.0, each_taken IsDotted (parts - 1) pair.assign.key.rest key.1), plain_spaced.1, plain_spaced.2), (refl, (tt, tt)), omega arith), (tt, tt))

module _ (p : Address) (b : Bool) where
  -- a line stays, or leaves what is left of it
  pub two_ways : (xs : List Named) (l : Line) → (remove_line p b xs l ≡ l ∷ []) ⊎ (remove_line p b xs l ≡ left_of_line p b (length (section xs)) l)
  two_ways xs l = by l.expr refl
    where
      by : (e : Expr) → l.expr ≡ e → (remove_line p b xs l ≡ l ∷ []) ⊎ (remove_line p b xs l ≡ left_of_line p b (length (section xs)) l)
      by (BlankLine _) is = inl (rw is refl)
      by (TableLine ws header tail) is = inl (rw is refl)
      by (ArrayTableLine ws header tail) is = inl (rw is refl)
      by (KeyValLine ws pair tail) is = at_test (same_address (below (section xs) (key_names pair.assign.key)) p) refl
        where
          its : List Line
          its = left_of_line p b (length (section xs)) l

          removed : remove_line p b xs l ≡ cond (same_address (below (section xs) (key_names pair.assign.key)) p) its (l ∷ [])
          removed = rw is refl

          at_test : (t : Bool) → same_address (below (section xs) (key_names pair.assign.key)) p ≡ t → (remove_line p b xs l ≡ l ∷ []) ⊎ (remove_line p b xs l ≡ its)
          at_test true same = inr (removed ∙ ap (λ t. cond t its (l ∷ [])) same)
          at_test false other = inl (removed ∙ ap (λ t. cond t its (l ∷ [])) other)

-- what is left of the last line, and of one before others
last_formed : (p : Address) (b : Bool) (n : ℕ) (l : Line) → AreLines (l ∷ []) → AreLines (left_of_line p b n l ++ [])
last_formed p true n l is = subst (λ t. AreLines (cond t (empty_line ∷ []) [] ++ [])) (sym (ap (λ bs. length bs == 0) is.1)) ((tt, tt), refl)
last_formed p false n l is = (emptied_formed (length (parent_of p) - n) l.expr is.0, is.1)

left_formed : (p : Address) (b : Bool) (n : ℕ) (l : Line) (ls : List Line) → IsExpr l.expr → IsNewline l.newline.text → AreLines ls → AreLines (left_of_line p b n l ++ ls)
left_formed p true n l ls e newline rest = subst (λ t. AreLines (cond t (empty_line ∷ []) [] ++ ls)) (sym (newline_some l.newline.text newline)) rest
left_formed p false n l ls e newline rest = line_before (emptied_line (length (parent_of p) - n) l) ls (emptied_formed (length (parent_of p) - n) l.expr e) newline rest

module _ (p : Address) (b : Bool) where
  lines_formed : (ls : List Line) (xs : List Named) (n : ℕ) → AreLines ls → AreLines (lines_from (remove_line p b) xs n ls)
  lines_formed [] xs n is = is
  lines_formed (l ∷ []) xs n is =
      elim (two_ways p b xs l) [
        | inl stays ↦ subst (λ r. AreLines (r ++ [])) (sym stays) is
        | inr goes ↦ subst (λ r. AreLines (r ++ [])) (sym goes) (last_formed p b (length (section xs)) l is)
      ]
  lines_formed (l ∷ m ∷ ms) xs n is =
      let rest = lines_formed (m ∷ ms) (xs ++ named_by xs n l.expr) (n + 1) is.2 in
      let kept = lines_from (remove_line p b) (xs ++ named_by xs n l.expr) (n + 1) (m ∷ ms) in
      elim (two_ways p b xs l) [
        | inl stays ↦ subst (λ r. AreLines (r ++ kept)) (sym stays) (line_before l kept is.0 is.1 rest)
        | inr goes ↦ subst (λ r. AreLines (r ++ kept)) (sym goes) (left_formed p b (length (section xs)) l kept is.0 is.1 rest)
      ]

pub remove_forms : RemoveForms
remove_forms p lines is = lines_formed p (leaves_parent p (standing lines)) lines (root ∷ []) 0 is

-- ---- rules

taken_rules : (p : Address) (lines : List Line) → HasLine lines p → KeepsRules (named lines) → KeepsRules (named (taken_lines p lines))
taken_rules p lines there keeps =
    let (s, key, v, at, put) = taken_names p lines there keeps in
    (rules_plain (taken_lines p lines)).1
    (subst KeepsRules (sym put.before) (some_keep_rules put.front (line_block p s key v) put.back (subst KeepsRules put.after ((rules_plain lines).0 keeps))))

pub taken_good : (p : Address) (lines : List Line) → HasLine lines p → AreGood lines → AreGood (taken_lines p lines)
taken_good p lines there good =
    let (s, key, v, at, put) = taken_names p lines there good.0 in
    let lines' = taken_lines p lines in (
      taken_rules p lines there good.0,
      plain_short lines' (each_old (named_plain lines') (line_block p s key v) (named_plain lines) put _ (short_plain lines good.1)),
    )

-- ---- data

abbrev pub Apart : Address → Named → Type 0
Apart p m = ¬ (m.address ≡ p)

-- beside the pair nothing is at its address
pub apart_beside : (p : Address) (v : Value) (front mid back : List Named) → PairsAre Alone (front ++ (mid ++ (value_block p v ++ back)))
    → EachIs (Apart p) (front ++ back)
apart_beside p v front mid back alone =
    let behind = (pairs_back Alone mid (value_block p v ++ back) (pairs_back Alone front (mid ++ (value_block p v ++ back)) alone)).0 in
    let between = each_weaker (λ x. EachIs (Alone x) (mid ++ (value_block p v ++ back))) (λ x. EachIs (Alone x) (value_block p v ++ back))
    (λ x h. each_back (Alone x) mid (value_block p v ++ back) h) front (pairs_between Alone front (mid ++ (value_block p v ++ back)) alone) in
    each_append (Apart p) front back
    (each_weaker (λ x. EachIs (Alone x) (value_block p v ++ back)) (Apart p) (λ x h here. true≢false ((h.0 here).1)) front between)
    (each_weaker (Alone (value_named 0 Valued p v)) (Apart p) (λ x h here. true≢false ((h (sym here)).0)) back (each_back (Alone (value_named 0 Valued p v)) (inside 0 p v) back behind))

apart_rest : (p s : Address) (key : Key) (v : Value) (old new : List Named) → IsPut old (line_block p s key v) new → PairsAre Alone new → EachIs (Apart p) old
apart_rest p s key v old new put alone =
    let is = put.after ∙ ap (λ r. put.front ++ r) (append_assoc (fronts 0 s key) (value_block p v) put.back) in
    subst (EachIs (Apart p)) (sym put.before) (apart_beside p v put.front (fronts 0 s key) put.back (subst (PairsAre Alone) is alone))

-- so nothing that is left is named at it or below it
pub taken_clear : (p : Address) (lines : List Line) → HasLine lines p → KeepsRules (named lines) → EachIs (λ m. IsClear p m.address) (named (taken_lines p lines))
taken_clear p lines there keeps =
    let lines' = taken_lines p lines in
    let (s, key, v, at, put) = taken_names p lines there keeps in
    let alone : PairsAre Alone (named_plain lines) = pairs_plain lines Alone (λ x y h. h) (pairs_of_all Alone (named lines) (line_values_stand_alone lines keeps)) in
    let apart = apart_rest p s key v (named_plain lines') (named_plain lines) put alone in
    let free : ¬ IsNamed (named lines') p = λ named_there. from_has (Apart p) (λ m. m.address ≡ p) ⊥ (λ m a here. a here) (named_plain lines') apart (has_plain lines' (λ m. m.address ≡ p) (has_of_any _ (named lines') named_there)) in
    not_named_is_clear lines' p (taken_rules p lines there keeps) free

-- what is below a step of a step
carried_below : (q r a : Address) (c : Carrier) → carry_below q (carry_below r c) a ≡ carry_below (q ++ r) c a
carried_below [] r a c = refl
carried_below (s ∷ q) r [] c = refl
carried_below (s ∷ q) r (t ∷ a) c = ap (λ o. cond (same_step s t) (option_map (λ x. t ∷ x) o) (Some (t ∷ a))) (carried_below q r a c)

-- where the `remove` of a name carries an address
pub removed_below : (table : Address) (name : List ℕ) (a : Address) → carry (remove (child table name)) a ≡ carry_below (child table name) nowhere a
removed_below table name a = ap (λ o. removing o a) (parted_at_last table (Name name)) ∙ carried_below table (Name name ∷ []) a nowhere

-- what the line names above its value is there without it
tables_stay : (table : Address) (name : List ℕ) (lines : List Line) (after : Kinds) → LeavesTable lines (child table name)
    → (keeps : KeepsRules (named lines)) → IsDataOf (named (taken_lines (child table name) lines)) after
    → (b : Address) (k : Kind) → (IsFact (named lines) b k) → IsAbove b (child table name) → after b ≡ Some k
tables_stay table name lines after there keeps is' b k fact above =
    let p = child table name in
    let lines' = taken_lines p lines in
    let (s, key, v, at, put) = taken_names p lines there.0 keeps in
    let (other, stays) = above_stays table name lines after there (taken_rules p lines there.0 keeps) is' b above in
    let again : Has (F p v b other) (named_plain lines) =
    has_old (named_plain lines') (line_block p s key v) (named_plain lines) put (F p v b other)
    (has_plain lines' (F p v b other) (has_of_any _ (named lines') ((is' b other).0 stays))) in
    stays ∙ ap Some (lines_have_one_kind lines keeps b other k (any_of_has _ (named lines) (plain_has lines (F p v b other) again)) fact)

data_removed : (profile : Profile) (table : Address) (name : List ℕ) (lines : List Line) (old after : Kinds) → LeavesTable lines (child table name)
    → KeepsRules (named lines) → IsDataOf (named lines) old → IsDataOf (named (taken_lines (child table name) lines)) after
    → IsAfter profile (remove (child table name)) old after
data_removed profile table name lines old after there keeps is is' =
    let p = child table name in
    let lines' = taken_lines p lines in
    let (s, key, v, at, put) = taken_names p lines there.0 keeps in
    let clear = each_plain lines' (λ m. IsClear p m.address) (taken_clear p lines there.0 keeps) in
    record {
      carried = λ a b k have to.
          let go = carried_clear p b a (sym (removed_below table name b) ∙ to) in
          let fact : Has (F p v b k) (named_plain lines) = has_plain lines (F p v b k) (has_of_any _ (named lines) ((is b k).0 have)) in
          ap after go.0 ∙ elim (has_new (named_plain lines') (line_block p s key v) (named_plain lines) put (F p v b k) fact) [
            | inl w ↦ (is' b k).1 (any_of_has _ (named lines') (plain_has lines' (F p v b k) w))
            | inr w ↦ elim (has_parts (F p v b k) (fronts 0 s key) (value_block p v) w) [
              | inl f ↦ tables_stay table name lines after there keeps is' b k ((is b k).0 have)
                  (from_has (λ m. IsAbove m.address (below s key) × (m.kind ≡ a_table)) (F p v b k) (IsAbove b p)
                  (λ m above here. subst₂ IsAbove here.0 (sym at) above.0) (fronts 0 s key) (fronts_above s key) f)
              | inr x ↦ absurd (from_has (λ m. IsUnder p m.address) (F p v b k) ⊥ (λ m under f. clear_under p b go.1 (subst (IsUnder p) f.0 under)) (value_block p v) (block_under p v 0) x)
            ]
          ];
      placed = λ r k have. cc;
      no_other = λ a k have.
          let fact : Has (F p v a k) (named_plain lines') = has_plain lines' (F p v a k) (has_of_any _ (named lines') ((is' a k).0 have)) in
          let cleared : IsClear p a = from_has (λ m. IsClear p m.address) (F p v a k) (IsClear p a) (λ m c f. subst (IsClear p) f.0 c) (named_plain lines') clear fact in
          inl (
            a,
            (is a k).1 (any_of_has _ (named lines) (plain_has lines (F p v a k) (has_old (named_plain lines') (line_block p s key v) (named_plain lines) put (F p v a k) fact))),
            removed_below table name a ∙ clear_carried p a cleared,
          );
    }

pub taken_data : (profile : Profile) (p : Address) (lines : List Line) (old after : Kinds) → LeavesTable lines p → KeepsRules (named lines)
    → IsDataOf (named lines) old → IsDataOf (named (taken_lines p lines)) after → IsAfter profile (remove p) old after
taken_data profile p lines old after there keeps is is' =
    let (table, name, at) = line_parts p lines there.0 in
    subst (λ q. IsAfter profile (remove q) old after) (sym at)
    (data_removed profile table name lines old after (subst (LeavesTable lines) at there) keeps is (subst (λ q. IsDataOf (named (taken_lines q lines)) after) at is'))
