-- The way of an edit that puts a line in, and so of an `insert`.
use Rattle.std.proofs.Common.{◌≡◌, ◌⊎◌, inl, inr, ◌<◌, ◌+◌, ℕ, false, Option, Some, None, List, [], ◌∷◌, ◌++◌, map, length, refl, sym, ap, ap₂, ◌∙◌, subst, subst₂, true≢false, arith, append-nil}
use Rattle.std.specs.Prelude.{slice_get, option_and_then}
use Rattle.toml_tree.specs.Spells.{AreLines, EachIs}
use Rattle.toml_tree.specs.Bare.{fresh}
use Rattle.toml_tree.specs.Tree.{Piece, Value, Line}
use Rattle.toml_names.specs.declared.model.address.Step.TheVariants.{Name}
use Rattle.toml_names.specs.model.Addresses.{Address, child}
use Rattle.toml_edits.specs.Carry.{carry}
use Rattle.toml_edits.specs.Edits.{Change, insert}
use Rattle.toml_units.specs.declared.unit.UnitKind.TheVariants as kinds
use Rattle.toml_units.specs.Units.{TextUnit, inside, units}
use Rattle.toml_checker.specs.CarriedTo.{At}
use Rattle.toml_checker.specs.Comments.{is_comment, texts}
use Rattle.toml_checker.specs.Owed.{IsOwed}
use Rattle.toml_checker.specs.Plain.{Site}
use Rattle.toml_working.specs.InsertingInTables.{insert_in}
use Rattle.toml_working.specs.Manners.{Manner}
use Rattle.toml_working.specs.Premises.{HasTable}
use Rattle.toml_working.specs.Together.{GoTogether}
use Rattle.toml_layout.specs.declared.tree.Brackets.TheVariants.{One}
use Rattle.toml_editor.specs.UnitBlocks.{BeginWithLine, header_line_units, header_text, pair_line_units, pair_text}
use Rattle.toml_editor.proofs.Each.{each_append}
use Rattle.toml_editor.proofs.written.InsertKept.{inserted_on}
use Rattle.toml_editor.proofs.written.Way.{Step, both, new, olds, news, one_line, is_here}
use Rattle.toml_editor.proofs.written.WayBlock.{line_after, olds_append, news_append, added_append, fits_append, new_fits, new_olds, new_news, new_adds, lines_append, same_comments, inside_asked}
use Rattle.toml_editor.proofs.written.WayComments.{added, comments}
use Rattle.toml_editor.proofs.written.WayFits.{Fits, Matches, IsAsked, SameNewline, newlines}
use Rattle.toml_editor.proofs.written.WayRenamed.{zip_adds}
use Rattle.toml_editor.proofs.written.WayKeeps.{ComesOwed, KeepsIf, next_after}
use Rattle.toml_editor.proofs.written.WayKept.{HeaderIsOwed, IsFixed, insert_header, same_way, same_keeps_if, same_olds, same_news, new_keeps_if, inner_blank, keeps_append_if, count_lines}
use Rattle.toml_editor.proofs.written.UnitsGone.{value_in}
use Rattle.toml_names.specs.mentions.Mentions.{root}
use Rattle.toml_editor.proofs.written.WayWhole.{HasWay, HasWayIf, as_many}
use Rattle.toml_editor.proofs.written.WayZip.{IsNear, lost_line, no_comment_lost, carried_to, zip, lines_in, zip_olds, zip_news, zip_fits}
use Rattle.toml_editor.proofs.written.UnitsInserted.{IsPutIn, PutBoth, PutLine, puts_lines}
use Rattle.toml_editor.proofs.written.UnitsPut.{IsPutWell, formed_well}

all_same : (us : List TextUnit) → GoTogether (λ u w. u ≡ w) us us
all_same [] = tt
all_same (u ∷ us) = (refl, all_same us)

-- ---- of any edit that puts lines in, with what lies in them, and carries all others to themselves

-- what such an edit has
pub record PutsLines (c : Change) (ts : List (List ℕ)) (block : List TextUnit) : Type 0 where
  pub stays : (a : Address) → carry c a ≡ Some a
  pub lost : (line : Option Site) (u : TextUnit) → is_here (c ∷ []) line u ≡ false
      → (u.kind ≡ kinds.Line → At u.address (IsOwed (c ∷ []))) × (is_comment u.kind ≡ false)
  pub header : (u : TextUnit) → HeaderIsOwed c u u
  pub some : 0 < lines_in block
  pub texts_are : texts (comments block) ≡ ts

module _ (c : Change) (ts : List (List ℕ)) (block : List TextUnit) (puts : PutsLines c ts block) where
  stays_at : (o : Option Address) → o ≡ option_and_then (carry c) o
  stays_at None = refl
  stays_at (Some x) = sym (puts.stays x)

  matches : (before after : List (List ℕ)) (line : Option Site) (a b : ℕ) (u w : TextUnit) → u ≡ w → (u.kind ≡ kinds.Line → SameNewline (c ∷ []) (ts ∷ []) before after a b)
      → Matches (c ∷ []) (ts ∷ []) before after line a b u w
  matches before after line a b u w is same = subst (Matches (c ∷ []) (ts ∷ []) before after line a b u) is (record {
    kind = refl;
    kept = λ here. record {
      text = refl;
      address = carried_to c u.address u.address (stays_at u.address) (λ x at. (x, puts.stays x));
      newline = same;
    };
    lost = puts.lost line u;
  })

  all_fixed : (us : List TextUnit) → EachIs (IsFixed c) us
  all_fixed [] = tt
  all_fixed (u ∷ us) = ((stays_at u.address, puts.header u), all_fixed us)

  -- the block comes, all else goes along
  abbrev put_steps : {Formed : Type 0} {us ws : List TextUnit} {before after : List (List ℕ)} → IsPutWell Formed us block ws before after → List Step
  put_steps well = zip well.put.front well.put.front ++ (map new block ++ zip well.put.back well.put.back)

  some_lines : (us : List TextUnit) → BeginWithLine us → (us ≡ []) ⊎ (0 < lines_in us)
  some_lines [] line = inl refl
  some_lines (u ∷ us) line = let e : one_line u.kind ≡ 1 = ap one_line line in inr (omega (arith, e))

  put_keeps : {Formed : Type 0} {before after : List (List ℕ)} {us ws : List TextUnit} (well : IsPutWell Formed us block ws before after)
      → EachIs (ComesOwed (c ∷ []) before after) block → lines_in us ≡ length before → lines_in ws ≡ length after
      → KeepsIf Formed (c ∷ []) before after None None 0 0 (put_steps well)
  put_keeps {Formed} {before} {after} well comes old_count new_count =
      let front = well.put.front in
      let back = well.put.back in
      let n = lines_in front in
      let olds_head = ap lines_in (same_olds front) in
      let news_head = ap lines_in (same_news front) in
      let olds_block = ap lines_in (new_olds block) in
      let news_block = ap lines_in (new_news block) in
      let old_total : n + lines_in back ≡ length before = sym (lines_append front back) ∙ ap lines_in (sym well.put.before) ∙ old_count in
      let new_total : n + (lines_in block + lines_in back) ≡ length after =
      (let a = lines_append front (block ++ back) in let b = lines_append block back in let d = ap lines_in well.put.after in omega
      (arith, a, b, d, new_count)) in
      subst₂ (λ x y. KeepsIf Formed (c ∷ []) before after None None 0 0 (x ++ (map new block ++ y))) (sym (zip_same front)) (sym (zip_same back))
      (keeps_append_if Formed c before after (same_way front) (map new block ++ same_way back) None None 0 0
      (same_keeps_if Formed c before after front (all_fixed front) None None (inl refl) 0 0
      (λ x low. record {
        newline = let e : x ≡ 0 + x = omega arith in subst (λ k. (slice_get before k ≡ slice_get after k) ⊎ (k + 1 ≡ length before)) e
            (well.front_ends x low);
        last = λ h. let f : ⊥ = omega (arith, low, h, new_total, puts.some) in absurd f;
      })
      (λ formed. elim (some_lines back well.put.next) [
        | inl none ↦ inr (well.full formed none, omega (arith, old_total))
        | inr some ↦ inl (λ x low h. let f : ⊥ = omega (arith, some, low, h, old_total) in absurd f)
      ]))
      (keeps_append_if Formed c before after (map new block) (same_way back) (line_after None (same_way front)) (next_after None (same_way front))
      (0 + lines_in (olds (same_way front))) (0 + lines_in (news (same_way front)))
      (new_keeps_if Formed c before after block comes (line_after None (same_way front)) (next_after None (same_way front))
      (0 + lines_in (olds (same_way front))) (0 + lines_in (news (same_way front))))
      (subst₂ (λ x y. KeepsIf Formed (c ∷ []) before after (line_after (line_after None (same_way front)) (map new block))
      (next_after (next_after None (same_way front)) (map new block)) x y (same_way back))
      (let e : n ≡ (0 + lines_in (olds (same_way front))) + lines_in (olds (map new block)) = omega (arith, olds_head, olds_block) in e)
      (let e : n + lines_in block ≡ (0 + lines_in (news (same_way front))) + lines_in (news (map new block)) = omega
      (arith, news_head, news_block) in e)
      (same_keeps_if Formed c before after back (all_fixed back) (line_after (line_after None (same_way front)) (map new block))
      (next_after (next_after None (same_way front)) (map new block)) (inr well.put.next) n (n + lines_in block)
      (λ x low. record {
        newline = inl (well.back_ends x ∙ ap (slice_get after) (let e : n + (lines_in block + x) ≡ (n + lines_in block) + x = omega arith in e));
        last = λ h. omega (arith, h, old_total, new_total);
      })
      (λ formed. inl (λ x low h. omega (arith, h, old_total, new_total)))))))
    where
      zip_same : (us : List TextUnit) → zip us us ≡ same_way us
      zip_same [] = refl
      zip_same (u ∷ us) = ap (λ l. both u u ∷ l) (zip_same us)

  -- from where each is asked for so the others stand
  pub put_way_if : {Firm : Type 0} (lines edited : List Line) → EachIs (ComesOwed (c ∷ []) (newlines lines) (newlines edited)) block
      → (well : IsPutWell Firm (units lines) block (units edited) (newlines lines) (newlines edited))
      → ((line : Option Site) (a : ℕ) → Fits (c ∷ []) (ts ∷ []) (newlines lines) (newlines edited) line a (lines_in well.put.front) (map new block))
      → HasWayIf Firm (c ∷ []) (ts ∷ []) lines edited
  put_way_if lines edited comes well asks =
      let front = well.put.front in
      let back = well.put.back in
      let before = newlines lines in
      let after = newlines edited in
      let head = zip front front in
      let tail = zip back back in
      let olds_head = zip_olds (λ u w. u ≡ w) front front (all_same front) in
      let news_head = zip_news (λ u w. u ≡ w) front front (all_same front) in
      let olds_tail = zip_olds (λ u w. u ≡ w) back back (all_same back) in
      let news_tail = zip_news (λ u w. u ≡ w) back back (all_same back) in
      record {
        way = put_steps well;
        olds_are = olds_append head (map new block ++ tail) ∙ ap₂ (λ x y. x ++ y) olds_head (olds_append (map new block) tail ∙ ap₂ (λ x y. x ++ y) (new_olds block) olds_tail) ∙ sym well.put.before;
        news_are = news_append head (map new block ++ tail) ∙ ap₂ (λ x y. x ++ y) news_head (news_append (map new block) tail ∙ ap₂ (λ x y. x ++ y) (new_news block) news_tail) ∙ sym well.put.after;
        fits =
            fits_append (c ∷ []) (ts ∷ []) before after head (map new block ++ tail) None 0 0
            (zip_fits (c ∷ []) (ts ∷ []) before after (λ u w. u ≡ w) (matches before after) front front (all_same front) None 0 0 (λ x low. front_same well x low))
            (fits_append (c ∷ []) (ts ∷ []) before after (map new block) tail (line_after None head) (0 + lines_in (olds head)) (0 + lines_in (news head))
            (subst (λ k. Fits (c ∷ []) (ts ∷ []) before after (line_after None head) (0 + lines_in (olds head)) k (map new block))
            (let e = ap lines_in news_head in let f : lines_in front ≡ 0 + lines_in (news head) = omega (arith, e) in f)
            (asks (line_after None head) (0 + lines_in (olds head))))
            (zip_fits (c ∷ []) (ts ∷ []) before after (λ u w. u ≡ w) (matches before after) back back (all_same back) (line_after (line_after None head) (map new block))
            ((0 + lines_in (olds head)) + lines_in (olds (map new block))) ((0 + lines_in (news head)) + lines_in (news (map new block)))
            (λ x low. inl (
            ap (slice_get before) (let e = ap lines_in olds_head in let f = ap lines_in (new_olds block) in let g : ((0 + lines_in (olds head)) + lines_in (olds (map new block))) + x ≡ lines_in front + x = omega (arith, e, f) in g)
            ∙ well.back_ends x
            ∙ ap (slice_get after) (let e = ap lines_in news_head in let f = ap lines_in (new_news block) in
            let g : lines_in front + (lines_in block + x) ≡ ((0 + lines_in (news head)) + lines_in (news (map new block))) + x = omega (arith, e, f) in g)))));
        keeps = put_keeps well comes (count_lines lines (root ∷ []) 0) (count_lines edited (root ∷ []) 0);
        comments_few = λ t. as_many t (texts (comments (added (head ++ (map new block ++ tail))))) (ts ++ []) (
            ap (λ us. texts (comments us)) (added_append head (map new block ++ tail) ∙ ap₂ (λ x y. x ++ y) (zip_adds front front) (added_append (map new block) tail ∙ ap₂ (λ x y. x ++ y) (new_adds block) (zip_adds back back)) ∙ append-nil block)
            ∙ puts.texts_are ∙ sym (append-nil ts));
      }
    where
      front_same : {Formed : Type 0} {before after : List (List ℕ)} {us ws : List TextUnit} (well : IsPutWell Formed us block ws before after) (x : ℕ) → x < lines_in well.put.front → SameNewline (c ∷ []) (ts ∷ []) before after (0 + x) (0 + x)
      front_same {Formed} {before} {after} well x low =
          let e : x ≡ 0 + x = omega arith in
          subst (λ n. SameNewline (c ∷ []) (ts ∷ []) before after n n) e (elim (well.front_ends x low) [ inl is ↦ inl is | inr last ↦ inr (inl last) ])

  -- each is asked for wherever it stands
  abbrev AreAsked : Type 0
  AreAsked = (before after : List (List ℕ)) → EachIs (λ w. (k : ℕ) → IsAsked (c ∷ []) (ts ∷ []) before after k w) block

  put_way : (lines edited : List Line) → AreLines lines → EachIs (ComesOwed (c ∷ []) (newlines lines) (newlines edited)) block → AreAsked
      → IsPutWell (AreLines lines) (units lines) block (units edited) (newlines lines) (newlines edited) → HasWay (c ∷ []) (ts ∷ []) lines edited
  put_way lines edited formed comes asked well =
      let before = newlines lines in
      let after = newlines edited in
      let here = formed_well (AreLines lines) (Unit {0}) (units lines) (units edited) block before after (λ any. formed) well in
      put_way_if lines edited comes here (λ line a. new_fits (c ∷ []) (ts ∷ []) before after block line a (lines_in here.put.front) (asked before after))

-- ---- of an `insert`

module _ (q : Address) (name text : List ℕ) (v : Value) (piece : Piece) (base : ℕ) where
  abbrev p : Address
  p = child q name

  abbrev c : Change
  c = insert p text

  abbrev ts : List (List ℕ)
  ts = texts (comments (inside [] v))

  owed : (a : Address) → IsNear p a → IsOwed (c ∷ []) a
  owed a (inl below) = inl (p, p, refl, refl, inr below)
  owed a (inr (s, rest, is)) = inl (p, p, refl, refl, inl (s ∷ rest, is))

  abbrev line_block : List TextUnit
  line_block = pair_line_units piece p base v None

  line_asked : (before after : List (List ℕ)) → EachIs (λ w. (k : ℕ) → IsAsked (c ∷ []) (ts ∷ []) before after k w) line_block
  line_asked before after = (
    (λ k. record { line = λ is. inl (owed p (inl ([], sym (append-nil p)))); comment = λ is. absurd (true≢false (sym is)) }),
    each_append _ (inside p v) [] (inside_asked c v before after) tt,
  )

  line_comes : (before after : List (List ℕ)) → EachIs (ComesOwed (c ∷ []) before after) line_block
  line_comes before after = (
    (λ is none. let e : ⊥ = cc in absurd e),
    each_append _ (inside p v) [] (inner_blank c before after p (inside p v) (value_in p v p (inr refl))) tt,
  )

  -- whatever the block is, if it has the comments of the value
  insert_puts : (block : List TextUnit) → 0 < lines_in block → texts (comments block) ≡ ts → PutsLines c ts block
  insert_puts block some texts_are = record {
    stays = inserted_on q name text;
    lost = λ line u gone. (
      (λ is_line. let l = lost_line c tt line u is_line gone in subst (λ o. At o (IsOwed (c ∷ []))) (sym l.1) (owed l.0 l.2)),
      no_comment_lost c tt line u gone,
    );
    header = λ u. insert_header p text u u;
    some = some;
    texts_are = texts_are;
  }

  line_texts : texts (comments line_block) ≡ ts
  line_texts = ap (λ us. texts (comments us)) (append-nil (inside p v)) ∙ same_comments p v

  line_way : (lines edited : List Line) → AreLines lines → IsPutWell (AreLines lines) (units lines) line_block (units edited) (newlines lines) (newlines edited)
      → HasWay (c ∷ []) (ts ∷ []) lines edited
  line_way lines edited formed =
      put_way c ts line_block (insert_puts line_block (omega arith) line_texts) lines edited formed (line_comes (newlines lines) (newlines edited)) line_asked

  -- with a new header of the table, which is owed right above it
  abbrev header_and_line : Piece → List TextUnit
  header_and_line header = header_line_units header q ++ line_block

  both_way : (header : Piece) (lines edited : List Line) → AreLines lines
      → IsPutWell (AreLines lines) (units lines) (header_and_line header) (units edited) (newlines lines) (newlines edited) → HasWay (c ∷ []) (ts ∷ []) lines edited
  both_way header lines edited formed =
      put_way c ts (header_and_line header) (insert_puts (header_and_line header) (omega arith) line_texts) lines edited formed
      ((λ is none. inr (inr (inl (p, p, refl, refl, (name, refl))))), line_comes (newlines lines) (newlines edited))
      (λ before after. (
        (λ k. record { line = λ is. inl (owed q (inr (Name name, [], refl))); comment = λ is. absurd (true≢false (sym is)) }),
        line_asked before after,
      ))

pub insert_way : (q : Address) (name text : List ℕ) (v : Value) (manner : Manner) (lines : List Line) → HasTable lines q → AreLines lines
    → HasWay (insert (child q name) text ∷ []) (texts (comments (inside [] v)) ∷ []) lines (insert_in q name v manner lines)
insert_way q name text v manner lines there formed = by (puts_lines q name v manner lines there)
  where
    edited : List Line
    edited = insert_in q name v manner lines

    by : IsPutIn q name v manner lines edited → HasWay (insert (child q name) text ∷ []) (texts (comments (inside [] v)) ∷ []) lines edited
    by (PutLine at first rest same s plain well) =
        line_way q name text v (fresh (pair_text s (first ∷ rest) v)) (length at) lines edited formed
        (subst (λ a. IsPutWell (AreLines lines) (units lines) (pair_line_units (fresh (pair_text s (first ∷ rest) v)) a (length at) v None) (units edited) (newlines lines) (newlines edited))
        (sym same) well)
    by (PutBoth not_root implied ws s plain well) =
        both_way q name text v (fresh (pair_text s (name ∷ []) v)) (length q) (fresh (header_text One ws q)) lines edited formed well
