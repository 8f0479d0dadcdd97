-- The last line, where it has no bytes, along the way of an edit under which it stays the last: it does, and no other line comes there.
use Rattle.std.proofs.Common.{◌≡◌, inl, inr, ◌<◌, ◌+◌, ℕ, true, Option, Some, None, List, [], ◌∷◌, ◌++◌, length, refl, sym, ap, ◌∙◌, subst, true≢false, arith}
use Rattle.toml_names.specs.model.Addresses.{Address}
use Rattle.toml_edits.specs.Edits.{Change}
use Rattle.toml_units.specs.declared.unit.UnitKind.TheVariants as kinds
use Rattle.toml_units.specs.Units.{TextUnit}
use Rattle.toml_checker.specs.CarriedTo.{IsCarriedTo}
use Rattle.toml_checker.specs.Plain.{Site, site, next_line, stands}
use Rattle.toml_checker.specs.declared.tables.Part.TheVariants as parts
use Rattle.toml_editor.proofs.written.Way.{Step, both, old, new, olds, news, one_line, is_here}
use Rattle.toml_editor.proofs.written.WayFits.{Fits}
use Rattle.toml_editor.proofs.written.WayKeeps.{KeepsIf, line_is, nowhere_stands}
use Rattle.toml_editor.proofs.written.WayOn.{IsSure}
use Rattle.toml_editor.proofs.written.WayZip.{lines_in}

-- the last of the units that are lines has no bytes, and no address
pub record LastIsBare (us : List TextUnit) : Type 0 where
  pub front : List TextUnit
  pub last : TextUnit
  pub back : List TextUnit
  pub is : us ≡ front ++ last ∷ back
  pub line : last.kind ≡ kinds.Line
  pub bare : last.piece.text ≡ []
  pub nowhere : last.address ≡ None
  pub none : lines_in back ≡ 0

-- so it is behind one more unit
pub bare_behind : (w : TextUnit) (us : List TextUnit) → LastIsBare us → LastIsBare (w ∷ us)
bare_behind w us it = record {
  front = w ∷ it.front;
  last = it.last;
  back = it.back;
  is = ap (λ r. w ∷ r) it.is;
  line = it.line;
  bare = it.bare;
  nowhere = it.nowhere;
  none = it.none;
}

-- it is a line among them
bare_counts : (us : List TextUnit) → LastIsBare us → 0 < lines_in us
bare_counts us it = subst (λ x. 0 < lines_in x) (sym it.is) (some it.front it.last it.back it.line)
  where
    some : (front : List TextUnit) (u : TextUnit) (back : List TextUnit) → u.kind ≡ kinds.Line → 0 < lines_in (front ++ u ∷ back)
    some [] u back line = let e : one_line u.kind ≡ 1 = ap one_line line in omega (arith, e)
    some (x ∷ front) u back line = let more = some front u back line in omega (arith, more)

module _ (Firm Later : Type 0) (firm : Firm) (c : Change) (written : List (List (List ℕ))) (before after : List (List ℕ)) where
  abbrev Fit : Option Site → ℕ → ℕ → List Step → Type 0
  Fit = Fits (c ∷ []) written before after

  abbrev Keep : Option Site → Option Site → ℕ → ℕ → List Step → Type 0
  Keep = KeepsIf Firm (c ∷ []) before after

  -- what has no address is protected
  bare_here : (line : Option Site) (u : TextUnit) → u.kind ≡ kinds.Line → u.address ≡ None → is_here (c ∷ []) line u ≡ true
  bare_here line u is none = line_is (c ∷ []) line u is ∙ by u.address none
    where
      by : (o : Option Address) → o ≡ None → stands parts.Line (c ∷ []) o u.base ≡ true
      by None e = nowhere_stands parts.Line (c ∷ []) u.base
      by (Some a) e = cc

  carried_nowhere : (o x : Option Address) → o ≡ None → IsCarriedTo (c ∷ []) o x → x ≡ None
  carried_nowhere None None is goes = refl
  carried_nowhere None (Some b) is goes = absurd goes
  carried_nowhere (Some a) x is goes = cc

  -- where no line is left, none comes
  none_left : (s : List Step) → lines_in (news s) ≡ 0 → IsSure Later c s
  none_left [] none = tt
  none_left (both u w ∷ s) none = none_left s (omega (arith, none))
  none_left (old u ∷ s) none = none_left s none
  none_left (new w ∷ s) none = (
    inr (λ line. (let e : one_line w.kind ≡ 1 = ap one_line line in let f : ⊥ = omega (arith, e, none) in absurd f)),
    none_left s (omega (arith, none)),
  )

  -- each line that comes is owed, and the last line, of no bytes, stays the last
  pub record LastStays (s : List Step) : Type 0 where
    pub sure : IsSure Later c s
    pub bare : LastIsBare (news s)

  pub last_stays : (s : List Step) (line next : Option Site) (a b : ℕ) → Fit line a b s → Keep line next a b s → LastIsBare (olds s)
      → a + lines_in (olds s) ≡ length before → b + lines_in (news s) ≡ length after → LastStays s
  last_stays [] line next a b fit keep it old_count new_count = absurd (nothing it.front it.is)
    where
      nothing : (front : List TextUnit) → ¬ ([] ≡ front ++ it.last ∷ it.back)
      nothing [] is = cc
      nothing (x ∷ front) is = cc
  last_stays (new w ∷ s) line next a b fit keep it old_count new_count =
      let more = last_stays s line (next_line next (site w)) a (b + one_line w.kind) fit.1 keep.1 it old_count (omega (arith, new_count)) in
      let rest = bare_counts (news s) more.bare in
      record {
        sure = (
          inr (λ is. elim (fit.0.line is) [
            | inl owed ↦ owed
            | inr last ↦ (let e : one_line w.kind ≡ 1 = ap one_line is in let end = last.0 in let f : ⊥ = omega (arith, e, end, new_count, rest) in absurd f)
          ]),
          more.sure,
        );
        bare = bare_behind w (news s) more.bare;
      }
  last_stays (old u ∷ s) line next a b fit keep it old_count new_count =
      by it.front it.is (λ bare. last_stays s (next_line line (site u)) next (a + one_line u.kind) b fit.1 keep bare (omega (arith, old_count)) new_count)
    where
      by : (front : List TextUnit) → u ∷ olds s ≡ front ++ it.last ∷ it.back → (LastIsBare (olds s) → LastStays s) → LastStays (old u ∷ s)
      by [] is go =
          let same : u ≡ it.last = cc in
          absurd (true≢false (sym (bare_here line u (ap (λ (x : TextUnit). x.kind) same ∙ it.line) (ap (λ (x : TextUnit). x.address) same ∙ it.nowhere)) ∙ fit.0))
      by (x ∷ front) is go =
          let rest : olds s ≡ front ++ it.last ∷ it.back = cc in
          let more = go (record { front = front; last = it.last; back = it.back; is = rest; line = it.line; bare = it.bare; nowhere = it.nowhere; none = it.none }) in
          record { sure = more.sure; bare = more.bare }
  last_stays (both u w ∷ s) line next a b fit keep it old_count new_count =
      by it.front it.is
      (λ bare. last_stays s (next_line line (site u)) (next_line next (site w)) (a + one_line u.kind) (b + one_line w.kind) fit.1 keep.1 bare
      (omega (arith, old_count)) (omega (arith, new_count)))
    where
      by : (front : List TextUnit) → u ∷ olds s ≡ front ++ it.last ∷ it.back → (LastIsBare (olds s) → LastStays s) → LastStays (both u w ∷ s)
      by [] is go =
          let same : u ≡ it.last = cc in
          let rest : olds s ≡ it.back = cc in
          let is_line : u.kind ≡ kinds.Line = ap (λ (x : TextUnit). x.kind) same ∙ it.line in
          let nowhere : u.address ≡ None = ap (λ (x : TextUnit). x.address) same ∙ it.nowhere in
          let bare : u.piece.text ≡ [] = ap (λ (x : TextUnit). x.piece.text) same ∙ it.bare in
          let here = bare_here line u is_line nowhere in
          let kept = fit.0.kept here in
          let one : one_line u.kind ≡ 1 = ap one_line is_line in
          let other : one_line w.kind ≡ 1 = ap one_line (fit.0.kind ∙ is_line) in
          let left : lines_in (olds s) ≡ 0 = ap lines_in rest ∙ it.none in
          let end : b + 1 ≡ length after = keep.0.empty firm is_line here bare (omega (arith, old_count, one, left)) in
          let last : lines_in (news s) ≡ 0 = omega (arith, new_count, other, end) in
          record {
            sure = none_left s last;
            bare = record {
              front = [];
              last = w;
              back = news s;
              is = refl;
              line = fit.0.kind ∙ is_line;
              bare = kept.text ∙ bare;
              nowhere = carried_nowhere u.address w.address nowhere kept.address;
              none = last;
            };
          }
      by (x ∷ front) is go =
          let rest : olds s ≡ front ++ it.last ∷ it.back = cc in
          let more = go (record { front = front; last = it.last; back = it.back; is = rest; line = it.line; bare = it.bare; nowhere = it.nowhere; none = it.none }) in
          record { sure = more.sure; bare = bare_behind w (news s) more.bare }

-- where a last line of no bytes always stays the last, nothing is to be shown of lines that come
pub all_sure : (Later : Type 0) → Later → (c : Change) (s : List Step) → IsSure Later c s
all_sure Later firm c [] = tt
all_sure Later firm c (both u w ∷ s) = all_sure Later firm c s
all_sure Later firm c (old u ∷ s) = all_sure Later firm c s
all_sure Later firm c (new w ∷ s) = (inl firm, all_sure Later firm c s)
