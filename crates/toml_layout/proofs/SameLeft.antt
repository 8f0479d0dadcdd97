-- What is left where an item goes by layout `Follow`: beside gaps of the same parts it is of the same parts.
use Rattle.std.proofs.Common.{◌≡◌, ◌∙◌, ◌-◌, Bool, true, false, cond, not, ◌&&◌, ◌||◌, List, [], ◌∷◌, ◌++◌, Option, Some, None, length, take, refl, ap, ap₂, sym}
use Rattle.std.proofs.lemmas.List.{length-map, map-append, take-map}
use Rattle.std.proofs.lemmas.Option.{none-some, same_Some}
use Rattle.std.specs.Prelude.{option_map, unwrap_or}
use Rattle.toml_layout.specs.declared.tree.GapPart.{GapPart}
use Rattle.toml_layout.specs.declared.tree.GapPart.TheVariants as parts
use Rattle.toml_layout.specs.Gaps.{Beside, are_blank, are_ws, begins_line, comes_next, ends_container, ends_line, gives_way, goes_with_comma, if_any, is_alone, is_newline, is_none, is_ws, left_by, left_of_line, trimmed, without_ws}
use Rattle.toml_layout.specs.Leaving.{Remains, closed_by, ends_in_comment, left_of_last_line, left_with, left_with_comma, lines_of, own_left, what_is_left, without_last}
use Rattle.toml_layout.specs.PartOutlines.{outlined, part}
use Rattle.toml_layout.specs.Parts.{PartOutline}
use Rattle.toml_layout.proofs.LeftParts.{without_last_cut}
use Rattle.toml_layout.proofs.SameParts.{all_blank_same, all_ws_same, begins_same, comment_same, newline_same, none_one, same_cond, same_head, same_tail, ws_same}

-- ---- lists of parts

pub joined_same : (ps qs rs ss : List GapPart) → outlined ps ≡ outlined qs → outlined rs ≡ outlined ss → outlined (ps ++ rs) ≡ outlined (qs ++ ss)
joined_same ps qs rs ss one other = map-append part ps rs ∙ ap₂ ◌++◌ one other ∙ sym (map-append part qs ss)

without_ws_same : (ps qs : List GapPart) → outlined ps ≡ outlined qs → outlined (without_ws ps) ≡ outlined (without_ws qs)
without_ws_same [] [] same = refl
without_ws_same [] (q ∷ qs) same = absurd (none_one (part q) (outlined qs) same)
without_ws_same (p ∷ ps) [] same = absurd (none_one (part p) (outlined ps) (sym same))
without_ws_same (p ∷ ps) (q ∷ qs) same =
    same_cond outlined (is_ws p) (is_ws q) (without_ws ps) (without_ws qs) (p ∷ ps) (q ∷ qs)
    (ws_same p q (same_head (part p) (part q) (outlined ps) (outlined qs) same))
    (without_ws_same ps qs (same_tail (part p) (part q) (outlined ps) (outlined qs) same)) same

trimmed_same : (ps qs : List GapPart) → outlined ps ≡ outlined qs → outlined (trimmed ps) ≡ outlined (trimmed qs)
trimmed_same [] [] same = refl
trimmed_same [] (q ∷ qs) same = absurd (none_one (part q) (outlined qs) same)
trimmed_same (p ∷ ps) [] same = absurd (none_one (part p) (outlined ps) (sym same))
trimmed_same (p ∷ ps) (q ∷ qs) same =
    same_cond outlined (are_ws (p ∷ ps)) (are_ws (q ∷ qs)) [] [] (p ∷ trimmed ps) (q ∷ trimmed qs) (all_ws_same (p ∷ ps) (q ∷ qs) same) refl
    (ap₂ ◌∷◌ (same_head (part p) (part q) (outlined ps) (outlined qs) same)
    (trimmed_same ps qs (same_tail (part p) (part q) (outlined ps) (outlined qs) same)))

pub lines_same : (ps qs : List GapPart) → outlined ps ≡ outlined qs → outlined (lines_of ps) ≡ outlined (lines_of qs)
lines_same [] [] same = refl
lines_same [] (q ∷ qs) same = absurd (none_one (part q) (outlined qs) same)
lines_same (p ∷ ps) [] same = absurd (none_one (part p) (outlined ps) (sym same))
lines_same (p ∷ ps) (q ∷ qs) same =
    same_cond outlined (begins_line (p ∷ ps)) (begins_line (q ∷ qs)) (p ∷ lines_of ps) (q ∷ lines_of qs) [] [] (begins_same (p ∷ ps) (q ∷ qs) same)
    (ap₂ ◌∷◌ (same_head (part p) (part q) (outlined ps) (outlined qs) same)
    (lines_same ps qs (same_tail (part p) (part q) (outlined ps) (outlined qs) same))) refl

-- the first so many parts
pub cut_same : (ps qs : List GapPart) → outlined ps ≡ outlined qs → outlined (without_last ps) ≡ outlined (without_last qs)
cut_same ps qs same = cut ps ∙ ap₂ take (ap (λ n. n - 1) many) same ∙ sym (cut qs)
  where
    many : length ps ≡ length qs
    many = sym (length-map ps part) ∙ ap length same ∙ length-map qs part

    cut : (rs : List GapPart) → outlined (without_last rs) ≡ take (length rs - 1) (outlined rs)
    cut rs = ap outlined (sym (without_last_cut rs)) ∙ sym (take-map part (length rs - 1) rs)

ends_same : (ps qs : List GapPart) → outlined ps ≡ outlined qs → ends_in_comment ps ≡ ends_in_comment qs
ends_same [] [] same = refl
ends_same [] (q ∷ qs) same = absurd (none_one (part q) (outlined qs) same)
ends_same (p ∷ ps) [] same = absurd (none_one (part p) (outlined ps) (sym same))
ends_same (p ∷ []) (q ∷ []) same = comment_same p q (same_head (part p) (part q) [] [] same)
ends_same (p ∷ []) (q ∷ r ∷ qs) same = absurd (none_one (part r) (outlined qs) (same_tail (part p) (part q) [] (outlined (r ∷ qs)) same))
ends_same (p ∷ r ∷ ps) (q ∷ []) same = absurd (none_one (part r) (outlined ps) (sym (same_tail (part p) (part q) (outlined (r ∷ ps)) [] same)))
ends_same (p ∷ r ∷ ps) (q ∷ s ∷ qs) same = ends_same (r ∷ ps) (s ∷ qs) (same_tail (part p) (part q) (outlined (r ∷ ps)) (outlined (s ∷ qs)) same)

-- ---- a piece that goes

line_so : (before : List GapPart) (p : GapPart) (ps : List GapPart) → left_of_line before (p ∷ ps) ≡ cond (is_newline p) (trimmed before ++ ps) (before ++ p ∷ ps)
line_so before (parts.Ws ws) ps = refl
line_so before (parts.Comment comment) ps = refl
line_so before (parts.Newline newline) ps = refl
line_so before (parts.Lines lines) ps = refl

line_same : (b c ps qs : List GapPart) → outlined b ≡ outlined c → outlined ps ≡ outlined qs → outlined (left_of_line b ps) ≡ outlined (left_of_line c qs)
line_same b c [] [] one same = joined_same b c [] [] one refl
line_same b c [] (q ∷ qs) one same = absurd (none_one (part q) (outlined qs) same)
line_same b c (p ∷ ps) [] one same = absurd (none_one (part p) (outlined ps) (sym same))
line_same b c (p ∷ ps) (q ∷ qs) one same =
    let tails = same_tail (part p) (part q) (outlined ps) (outlined qs) same in
    ap outlined (line_so b p ps)
    ∙ same_cond outlined (is_newline p) (is_newline q) (trimmed b ++ ps) (trimmed c ++ qs) (b ++ p ∷ ps) (c ++ q ∷ qs)
    (newline_same p q (same_head (part p) (part q) (outlined ps) (outlined qs) same))
    (joined_same (trimmed b) (trimmed c) ps qs (trimmed_same b c one) tails) (joined_same b c (p ∷ ps) (q ∷ qs) one same)
    ∙ sym (ap outlined (line_so c q qs))

by_same : (b c ps qs : List GapPart) (k l : Bool) → outlined b ≡ outlined c → outlined ps ≡ outlined qs → k ≡ l → outlined (left_by b ps k) ≡ outlined (left_by c qs l)
by_same b c ps qs k l one same closed =
    same_cond outlined (begins_line b) (begins_line c) (left_of_line b (without_ws ps)) (left_of_line c (without_ws qs))
    (cond (k || not (are_ws ps)) (trimmed b ++ ps) (b ++ without_ws ps)) (cond (l || not (are_ws qs)) (trimmed c ++ qs) (c ++ without_ws qs))
    (begins_same b c one) (line_same b c (without_ws ps) (without_ws qs) one (without_ws_same ps qs same))
    (same_cond outlined (k || not (are_ws ps)) (l || not (are_ws qs)) (trimmed b ++ ps) (trimmed c ++ qs) (b ++ without_ws ps) (c ++ without_ws qs)
    (ap₂ ◌||◌ closed (ap not (all_ws_same ps qs same)))
    (joined_same (trimmed b) (trimmed c) ps qs (trimmed_same b c one) same)
    (joined_same b c (without_ws ps) (without_ws qs) one (without_ws_same ps qs same)))

-- ---- beside an item

pub record SameBeside (b c : Beside) : Type 0 where
  pub above : option_map outlined b.above ≡ option_map outlined c.above
  pub before : outlined b.before ≡ outlined c.before
  pub after : outlined b.after ≡ outlined c.after
  pub behind : option_map outlined b.behind ≡ option_map outlined c.behind
  pub is_last : b.is_last ≡ c.is_last

any_same_if : (test : List GapPart → Bool) → ((ps qs : List GapPart) → outlined ps ≡ outlined qs → test ps ≡ test qs)
    → (o p : Option (List GapPart)) → option_map outlined o ≡ option_map outlined p → if_any test o ≡ if_any test p
any_same_if test each None None same = refl
any_same_if test each None (Some q) same = absurd (none-some (outlined q) same)
any_same_if test each (Some p) None same = absurd (none-some (outlined p) (sym same))
any_same_if test each (Some p) (Some q) same = each p q (same_Some (outlined p) (outlined q) same)

none_same : (o p : Option (List GapPart)) → option_map outlined o ≡ option_map outlined p → is_none o ≡ is_none p
none_same None None same = refl
none_same None (Some q) same = absurd (none-some (outlined q) same)
none_same (Some p) None same = absurd (none-some (outlined p) (sym same))
none_same (Some p) (Some q) same = refl

unwrapped_same : (o p : Option (List GapPart)) (d e : List GapPart) → option_map outlined o ≡ option_map outlined p → outlined d ≡ outlined e
    → outlined (unwrap_or o d) ≡ outlined (unwrap_or p e)
unwrapped_same None None d e same other = other
unwrapped_same None (Some q) d e same other = absurd (none-some (outlined q) same)
unwrapped_same (Some p) None d e same other = absurd (none-some (outlined p) (sym same))
unwrapped_same (Some p) (Some q) d e same other = same_Some (outlined p) (outlined q) same

with_same : (b c ps qs : List GapPart) (o p : Option (List GapPart)) (k l : Bool) → outlined b ≡ outlined c → outlined ps ≡ outlined qs
    → option_map outlined o ≡ option_map outlined p → k ≡ l → outlined (left_with b ps o k) ≡ outlined (left_with c qs p l)
with_same b c ps qs None None k l one same behind closed = by_same b c ps qs k l one same closed
with_same b c ps qs None (Some q) k l one same behind closed = absurd (none-some (outlined q) behind)
with_same b c ps qs (Some p) None k l one same behind closed = absurd (none-some (outlined p) (sym behind))
with_same b c ps qs (Some p) (Some q) k l one same behind closed =
    let other = same_Some (outlined p) (outlined q) behind in
    same_cond outlined (are_ws ps) (are_ws qs) (left_by b p k) (left_by c q l) (left_by (left_by b ps false) p k) (left_by (left_by c qs false) q l)
    (all_ws_same ps qs same) (by_same b c p q k l one other closed)
    (by_same (left_by b ps false) (left_by c qs false) p q k l (by_same b c ps qs false false one same refl) other closed)

-- what is left, by its texts
abbrev pub left_outline : Remains → Option (List PartOutline) × Option (List PartOutline)
left_outline r = (option_map outlined r.above, option_map outlined r.behind)

remains_same : (a b c d : Option (List GapPart)) → option_map outlined a ≡ option_map outlined c → option_map outlined b ≡ option_map outlined d
    → left_outline (record { above = a; behind = b }) ≡ left_outline (record { above = c; behind = d })
remains_same a b c d one other =
    ap₂ {C = Option (List PartOutline) × Option (List PartOutline)} (λ (x y : Option (List PartOutline)). (x, y)) one other

closed_same : (o p a b : Option (List GapPart)) (own other : List GapPart) → option_map outlined o ≡ option_map outlined p → option_map outlined a ≡ option_map outlined b
    → outlined own ≡ outlined other → left_outline (closed_by o a own) ≡ left_outline (closed_by p b other)
closed_same None None None None own other behind above same = remains_same None (Some own) None (Some other) refl (ap Some same)
closed_same None None (Some x) (Some y) own other behind above same =
    remains_same (Some (left_by x own true)) None (Some (left_by y other true)) None
    (ap Some (by_same x y own other true true (same_Some (outlined x) (outlined y) above) same refl)) refl
closed_same None None None (Some y) own other behind above same = absurd (none-some (outlined y) above)
closed_same None None (Some x) None own other behind above same = absurd (none-some (outlined x) (sym above))
closed_same None (Some q) a b own other behind above same = absurd (none-some (outlined q) behind)
closed_same (Some p) None a b own other behind above same = absurd (none-some (outlined p) (sym behind))
closed_same (Some p) (Some q) a b own other behind above same = remains_same None (Some own) None (Some other) refl (ap Some same)

next_same : (a b : List GapPart) (o p : Option (List GapPart)) → outlined a ≡ outlined b → option_map outlined o ≡ option_map outlined p → comes_next a o ≡ comes_next b p
next_same a b None None after behind = ap not (all_ws_same a b after)
next_same a b (Some x) (Some y) after behind =
    ap₂ ◌&&◌ (all_ws_same a b after) (ap not (all_ws_same x y (same_Some (outlined x) (outlined y) behind)))
next_same a b None (Some y) after behind = absurd (none-some (outlined y) behind)
next_same a b (Some x) None after behind = absurd (none-some (outlined x) (sym behind))

module _ (b c : Beside) (same : SameBeside b c) where
  line_ended : ends_line b ≡ ends_line c
  line_ended = next_same b.after c.after b.behind c.behind same.after same.behind

  container_ended : ends_container b ≡ ends_container c
  container_ended =
      ap₂ ◌&&◌ same.is_last (ap₂ ◌&&◌ (all_ws_same b.after c.after same.after) (any_same_if are_ws all_ws_same b.behind c.behind same.behind))

  alone : is_alone b ≡ is_alone c
  alone =
      ap₂ ◌&&◌ (none_same b.above c.above same.above)
      (ap₂ ◌&&◌ same.is_last (ap₂ ◌&&◌ (all_blank_same b.before c.before same.before)
      (ap₂ ◌&&◌ (all_blank_same b.after c.after same.after) (any_same_if are_blank all_blank_same b.behind c.behind same.behind))))

  way_given : gives_way b ≡ gives_way c
  way_given =
      ap₂ ◌&&◌ (ap not same.is_last)
      (ap₂ ◌&&◌ (ap₂ ◌||◌ (ap not line_ended)
      (ap₂ ◌&&◌ (none_same b.above c.above same.above) (ap not (begins_same b.before c.before same.before))))
      (ap₂ ◌&&◌ (all_blank_same b.after c.after same.after) (any_same_if are_blank all_blank_same b.behind c.behind same.behind)))

  with_comma : goes_with_comma b ≡ goes_with_comma c
  with_comma =
      ap₂ ◌&&◌ (ap not (begins_same b.before c.before same.before))
      (ap₂ ◌&&◌ same.is_last (ap₂ ◌&&◌ (ap not (none_same b.above c.above same.above))
      (ap₂ ◌&&◌ (any_same_if are_blank all_blank_same b.above c.above same.above) (all_blank_same b.before c.before same.before))))

  last_line : (ps qs : List GapPart) → outlined ps ≡ outlined qs → outlined (left_of_last_line ps b) ≡ outlined (left_of_last_line qs c)
  last_line ps qs lines =
      same_cond outlined (ends_in_comment (without_last ps)) (ends_in_comment (without_last qs)) ps qs (without_last ps ++ unwrap_or b.behind b.after)
      (without_last qs ++ unwrap_or c.behind c.after) (ends_same (without_last ps) (without_last qs) (cut_same ps qs lines)) lines
      (joined_same (without_last ps) (without_last qs) (unwrap_or b.behind b.after) (unwrap_or c.behind c.after) (cut_same ps qs lines)
      (unwrapped_same b.behind c.behind b.after c.after same.behind same.after))

  own : outlined (own_left b) ≡ outlined (own_left c)
  own =
      same_cond outlined (begins_line b.before && ends_container b) (begins_line c.before && ends_container c) (left_of_last_line (lines_of b.before) b)
      (left_of_last_line (lines_of c.before) c) (left_with_comma b) (left_with_comma c)
      (ap₂ ◌&&◌ (begins_same b.before c.before same.before) container_ended)
      (last_line (lines_of b.before) (lines_of c.before) (lines_same b.before c.before same.before))
      (with_same b.before c.before b.after c.after b.behind c.behind b.is_last c.is_last same.before same.after same.behind same.is_last)

  pub left_same : left_outline (what_is_left b) ≡ left_outline (what_is_left c)
  left_same =
      same_cond left_outline (is_alone b) (is_alone c) (record { above = None; behind = Some [] }) (record { above = None; behind = Some [] }) _ _ alone refl
      (same_cond left_outline (gives_way b) (gives_way c) (record { above = None; behind = Some b.before }) (record { above = None; behind = Some c.before }) _ _ way_given
      (remains_same None (Some b.before) None (Some c.before) refl (ap Some same.before))
      (same_cond left_outline (goes_with_comma b) (goes_with_comma c) (record { above = Some b.after; behind = b.behind }) (record { above = Some c.after; behind = c.behind }) _ _
      with_comma (remains_same (Some b.after) b.behind (Some c.after) c.behind (ap Some same.after) same.behind)
      (closed_same b.behind c.behind b.above c.above (own_left b) (own_left c) same.behind same.above own)))
