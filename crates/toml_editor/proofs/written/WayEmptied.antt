-- The way of a `remove` by which the line of a value comes to stand for the table right above it.
use Rattle.std.proofs.Common.{◌≡◌, ◌∙◌, inl, inr, ◌+◌, ℕ, cond, Option, Some, None, List, [], ◌∷◌, ◌++◌, map, length, refl, sym, ap, ap₂, subst, subst₂, true≢false, arith}
use Rattle.std.proofs.lemmas.List.{map-append}
use Rattle.std.specs.Prelude.{slice_get}
use Rattle.toml_tree.specs.Spells.{EachIs}
use Rattle.toml_tree.specs.Tree.{Piece, Line}
use Rattle.toml_names.specs.declared.model.address.Step.TheVariants.{Name}
use Rattle.toml_names.specs.mentions.Mentions.{root}
use Rattle.toml_names.specs.model.Addresses.{Address, child}
use Rattle.toml_edits.specs.Edits.{remove}
use Rattle.toml_units.specs.declared.unit.UnitKind.TheVariants as kinds
use Rattle.toml_units.specs.Units.{TextUnit, comment_units, inside, units}
use Rattle.toml_checker.specs.Comments.{texts}
use Rattle.toml_checker.specs.Plain.{Site, site}
use Rattle.toml_editor.specs.ChangedUnits.{LiesInValue}
use Rattle.toml_editor.specs.UnitBlocks.{pair_line_units}
use Rattle.toml_editor.proofs.Each.{each_back, each_front}
use Rattle.toml_editor.proofs.written.EmptyStands.{AreEmptied}
use Rattle.toml_editor.proofs.written.UnitsGone.{inner_line, value_in}
use Rattle.toml_editor.proofs.written.Way.{Step, old, new, olds, news}
use Rattle.toml_editor.proofs.written.WayBlock.{fits_append, inside_lines, line_after, lines_append, news_append, old_adds, old_news, old_olds, olds_append, added_append}
use Rattle.toml_editor.proofs.written.WayComments.{added, comments}
use Rattle.toml_editor.proofs.written.WayFits.{Fits, newlines}
use Rattle.toml_editor.proofs.written.WayKeeps.{Keeps, next_after}
use Rattle.toml_editor.proofs.written.WayKept.{count_lines, keeps_append, new_keeps, old_keeps, same_adds, same_keeps, same_news, same_olds, same_way}
use Rattle.toml_editor.proofs.written.WayTaken.{Gone, IsFar, far_fixed, inner_lost, line_gone, owed, same_fits, tail_lost}
use Rattle.toml_editor.proofs.written.WayWhole.{HasWay, as_many}
use Rattle.toml_editor.proofs.written.WayZip.{lines_in}

tail_lines : (at : Address) (o : Option Piece) → lines_in (comment_units kinds.TailComment (Some at) o) ≡ 0
tail_lines at None = refl
tail_lines at (Some piece) = refl

module _ (table : Address) (name : List ℕ) (lines edited : List Line) (same : newlines edited ≡ newlines lines) where
  abbrev p : Address
  p = child table name

  abbrev before : List (List ℕ)
  before = newlines lines

  abbrev after : List (List ℕ)
  after = newlines edited

  abbrev Fit : Option Site → ℕ → ℕ → List Step → Type 0
  Fit = Fits (remove p ∷ []) ([] ∷ []) before after

  abbrev Keep : Option Site → Option Site → ℕ → ℕ → List Step → Type 0
  Keep = Keeps (remove p ∷ []) before after

  abbrev Far : TextUnit → Type 0
  Far = IsFar table name before after

  same_at : (k : ℕ) → slice_get before k ≡ slice_get after k
  same_at k = ap (λ ns. slice_get ns k) (sym same)

  -- what was in the value is behind the line that goes
  after_inner : (own : ℕ) (us : List TextUnit) → EachIs (LiesInValue p) us
      → line_after (Some (Gone table name before after own)) (map old us) ≡ Some (Gone table name before after own)
  after_inner own [] lies = refl
  after_inner own (x ∷ xs) lies =
      ap (λ b. line_after (cond b (Some (site x)) (Some (Gone table name before after own))) (map old xs)) (inner_line x.kind lies.0.0) ∙ after_inner own xs lies.1

  module _ (h : AreEmptied table p (units lines) (units edited)) (far : EachIs Far (units edited)) where
    abbrev its : TextUnit
    its = record { kind = kinds.Line; piece = h.next; address = Some table; base = Some h.base }

    abbrev inner : List TextUnit
    inner = inside p h.value

    abbrev tail : List TextUnit
    tail = comment_units kinds.TailComment (Some p) h.comment

    abbrev block : List TextUnit
    block = pair_line_units h.piece p h.base h.value h.comment

    abbrev n : ℕ
    n = lines_in h.front

    far_all : EachIs Far (h.front ++ its ∷ h.back)
    far_all = subst (EachIs Far) h.after far

    front_far : EachIs Far h.front
    front_far = each_front Far h.front (its ∷ h.back) far_all

    its_far : Far its
    its_far = (each_back Far h.front (its ∷ h.back) far_all).0

    back_far : EachIs Far h.back
    back_far = (each_back Far h.front (its ∷ h.back) far_all).1

    block_lines : lines_in block ≡ 1
    block_lines = let a = lines_append inner tail in let b = inside_lines p h.value in let c = tail_lines p h.comment in omega (arith, a, b, c)

    old_total : n + (1 + lines_in h.back) ≡ length before
    old_total =
        let a = lines_append h.front (block ++ h.back) in
        let b = lines_append block h.back in
        let d = ap lines_in h.before in
        let e = count_lines lines (root ∷ []) 0 in omega (arith, a, b, d, e, block_lines)

    new_total : n + (1 + lines_in h.back) ≡ length after
    new_total =
        let a = lines_append h.front (its ∷ h.back) in
        let d = ap lines_in h.after in
        let e = count_lines edited (root ∷ []) 0 in omega (arith, a, d, e)

    -- the line, what is in its value, and its comment are lost
    block_goes : (line : Option Site) (a b : ℕ) → Fit line a b (map old block)
    block_goes line a b =
        let lies = value_in p h.value p (inr refl) in (
          line_gone table name before after h.base,
          subst (Fit (Some (Gone table name before after h.base)) (a + 1) b) (sym (map-append old inner tail))
              (fits_append (remove p ∷ []) ([] ∷ []) before after (map old inner) (map old tail) (Some (Gone table name before after h.base)) (a + 1) b
              (inner_lost table name before after h.base inner lies (a + 1) b)
              (subst (λ l. Fit l ((a + 1) + lines_in (olds (map old inner))) (b + lines_in (news (map old inner))) (map old tail)) (sym (after_inner h.base inner lies))
              (tail_lost table name before after h.base h.comment ((a + 1) + lines_in (olds (map old inner))) (b + lines_in (news (map old inner)))))),
        )

    -- what it comes to is owed
    its_asked : (line : Option Site) (a b : ℕ) → Fit line a b (new its ∷ [])
    its_asked line a b = (
      record {
        line = λ is. inl (owed table name before after table (its_far table refl) (inr (Name name, [], refl)));
        comment = λ is. absurd (true≢false (sym is));
      },
      tt,
    )

    abbrev head : List Step
    head = same_way h.front

    abbrev last : List Step
    last = new its ∷ same_way h.back

    abbrev goes : List Step
    goes = map old block ++ last

    olds_head : lines_in (olds head) ≡ n
    olds_head = ap lines_in (same_olds h.front)

    news_head : lines_in (news head) ≡ n
    news_head = ap lines_in (same_news h.front)

    olds_block : lines_in (olds (map old block)) ≡ 1
    olds_block = ap lines_in (old_olds block) ∙ block_lines

    news_block : lines_in (news (map old block)) ≡ 0
    news_block = ap lines_in (old_news block)

    way_fits : Fit None 0 0 (head ++ goes)
    way_fits =
        fits_append (remove p ∷ []) ([] ∷ []) before after head goes None 0 0
        (same_fits table name before after h.front front_far None 0 0 (inl refl) (λ x low. inl (same_at (0 + x))))
        (fits_append (remove p ∷ []) ([] ∷ []) before after (map old block) last (line_after None head) (0 + lines_in (olds head)) (0 + lines_in (news head))
        (block_goes (line_after None head) (0 + lines_in (olds head)) (0 + lines_in (news head)))
        (fits_append (remove p ∷ []) ([] ∷ []) before after (new its ∷ []) (same_way h.back) (line_after (line_after None head) (map old block))
        ((0 + lines_in (olds head)) + lines_in (olds (map old block))) ((0 + lines_in (news head)) + lines_in (news (map old block)))
        (its_asked (line_after (line_after None head) (map old block)) ((0 + lines_in (olds head)) + lines_in (olds (map old block))) ((0 + lines_in (news head)) + lines_in (news (map old block))))
        (subst₂ (λ a b. Fit (line_after (line_after None head) (map old block)) a b (same_way h.back))
        (let e : n + 1 ≡ ((0 + lines_in (olds head)) + lines_in (olds (map old block))) + 0 = omega (arith, olds_head, olds_block) in e)
        (let e : n + 1 ≡ ((0 + lines_in (news head)) + lines_in (news (map old block))) + 1 = omega (arith, news_head, news_block) in e)
        (same_fits table name before after h.back back_far (line_after (line_after None head) (map old block)) (n + 1) (n + 1) (inr h.begins)
        (λ x low. inl (same_at ((n + 1) + x)))))))

    way_keeps : Keep None None 0 0 (head ++ goes)
    way_keeps =
        let c = remove p in
        let line = line_after None head in
        let next = next_after None head in
        let behind = line_after line (map old block) in
        let mid = next_after next (map old block) in
        keeps_append c before after head goes None None 0 0
        (same_keeps c before after h.front (far_fixed table name before after h.front front_far) None None (inl refl) 0 0
        (λ x low. record { newline = inl (same_at (0 + x)); last = λ at. let f : ⊥ = omega (arith, low, at, new_total) in absurd f })
        (inl (λ x low at. let f : ⊥ = omega (arith, low, at, old_total) in absurd f)))
        (keeps_append c before after (map old block) last line next (0 + lines_in (olds head)) (0 + lines_in (news head))
        (old_keeps c before after block line next (0 + lines_in (olds head)) (0 + lines_in (news head)))
        (keeps_append c before after (new its ∷ []) (same_way h.back) behind mid
        ((0 + lines_in (olds head)) + lines_in (olds (map old block))) ((0 + lines_in (news head)) + lines_in (news (map old block)))
        (new_keeps c before after (its ∷ []) ((λ is none. cc), tt) behind mid ((0 + lines_in (olds head)) + lines_in (olds (map old block))) ((0 + lines_in (news head)) + lines_in (news (map old block))))
        (subst₂ (λ a b. Keep (line_after behind (new its ∷ [])) (next_after mid (new its ∷ [])) a b (same_way h.back))
        (let e : n + 1 ≡ ((0 + lines_in (olds head)) + lines_in (olds (map old block))) + 0 = omega (arith, olds_head, olds_block) in e)
        (let e : n + 1 ≡ ((0 + lines_in (news head)) + lines_in (news (map old block))) + 1 = omega (arith, news_head, news_block) in e)
        (same_keeps c before after h.back (far_fixed table name before after h.back back_far) (line_after behind (new its ∷ [])) (next_after mid (new its ∷ []))
        (inr h.begins) (n + 1) (n + 1)
        (λ x low. record { newline = inl (same_at ((n + 1) + x)); last = λ at. omega (arith, at, old_total, new_total) })
        (inl (λ x low at. omega (arith, at, old_total, new_total)))))))

    pub emptied_way : HasWay (remove p ∷ []) ([] ∷ []) lines edited
    emptied_way = record {
      way = head ++ goes;
      olds_are =
          olds_append head goes ∙ ap₂ (λ x y. x ++ y) (same_olds h.front) (olds_append (map old block) last ∙ ap₂ (λ x y. x ++ y) (old_olds block) (same_olds h.back))
          ∙ sym h.before;
      news_are =
          news_append head goes ∙ ap₂ (λ x y. x ++ y) (same_news h.front) (news_append (map old block) last ∙ ap₂ (λ x y. x ++ (its ∷ y)) (old_news block) (same_news h.back))
          ∙ sym h.after;
      fits = way_fits;
      keeps = way_keeps;
      comments_few = λ t. as_many t (texts (comments (added (head ++ goes)))) []
          (ap (λ us. texts (comments us))
          (added_append head goes ∙ ap₂ (λ x y. x ++ y) (same_adds h.front) (added_append (map old block) last ∙ ap₂ (λ x y. x ++ (its ∷ y)) (old_adds block) (same_adds h.back))));
    }
