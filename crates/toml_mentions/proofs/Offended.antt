-- A key part stands for the mention that breaks the table rules.
use Rattle.std.proofs.Common.{◌≡◌, ◌<◌, ◌+◌, ℕ, zero, suc, true, List, [], ◌∷◌, ◌++◌, map, length, take, Some, refl, sym, ap, ◌∙◌, arith}
use Rattle.std.specs.Prelude.{cond, filter, slice_get}
use Rattle.std.proofs.lemmas.List.{append_cancel_left, length-append, length-map}
use Rattle.toml_tree.specs.Tree.{Piece, Line}
use Rattle.toml_names.specs.model.Addresses.{Address}
use Rattle.toml_names.specs.mentions.Mentions.{is_mention, is_mentioned, named, named_by, root}
use Rattle.toml_names.specs.reader.Names.{IsRedefined}
use Rattle.toml_mentions.specs.Mentioned.{mention_pieces}
use Rattle.toml_mentions.specs.Redefined.{OffenceClashes, OffenceStands}
use Rattle.toml_mentions.specs.Sought.{Part, parts_by}
use Rattle.toml_mentions.proofs.Clashes.{is_a_mention, offence_is_clash, take_get}
use Rattle.toml_mentions.proofs.Parted.{at_named, at_part, ats, ats-append, line_is, line_pieces, named_more, part_ats, pieces}

-- what a list has at an index below its length
there : {A : Type 0} (xs : List A) (i : ℕ) → i < length xs → (x : A) × (slice_get xs i ≡ Some x)
there [] i low = absurd (omega (arith, low))
there (y ∷ xs) zero low = (y, refl)
there (y ∷ xs) (suc i) low = there xs i (omega (arith, low))

module _ (lines : List Line) (number : ℕ) (at : Address) (bad : IsRedefined lines number at) where
  line_there : (l : Line) × (slice_get lines number ≡ Some l)
  line_there = there lines number bad.there

  piece_there : (l : Line) → slice_get lines number ≡ Some l
      → (x : Piece) × (slice_get (mention_pieces l.expr) (length (filter is_mention bad.offence.before)) ≡ Some x)
  piece_there l here =
      let front = take number lines in
      let earlier = named front in
      let n = 0 + length front in
      let off = bad.offence in
      let m = off.mention in
      let next : number + 1 ≡ suc number = omega arith in
      let new_is : bad.new ≡ named_by earlier n l.expr =
      append_cancel_left earlier bad.new (named_by earlier n l.expr)
      (sym bad.is ∙ (ap (λ k. named (take k lines)) next ∙ (ap named (take_get lines number l here) ∙ named_more (root ∷ []) 0 front l))) in
      let ps = parts_by earlier l.expr in
      let mention : is_mentioned m.role ≡ true = is_a_mention (earlier ++ off.before) m off.good off.offends in
      let cut : ats (m ∷ off.behind) ≡ at_named m ∷ ats off.behind =
      ap (λ b. map at_named (cond b (m ∷ filter is_mention off.behind) (filter is_mention off.behind))) mention in
      let all : part_ats ps ≡ ats off.before ++ at_named m ∷ ats off.behind =
      sym (line_is earlier n l.expr)
      ∙ (ap ats (sym new_is ∙ off.is) ∙ (ats-append off.before (m ∷ off.behind) ∙ ap (λ r. ats off.before ++ r) cut)) in
      let front_count : length (ats off.before) ≡ length (filter is_mention off.before) = length-map (filter is_mention off.before) at_named in
      let count : length (mention_pieces l.expr) ≡ length (ats off.before ++ at_named m ∷ ats off.behind) =
      ap length (sym (line_pieces earlier l.expr)) ∙ (length-map ps (λ (p : Part). p.piece) ∙ (sym (length-map ps at_part) ∙ ap length all)) in
      let both = length-append (ats off.before) (at_named m ∷ ats off.behind) in
      let more : length (at_named m ∷ ats off.behind) ≡ suc (length (ats off.behind)) = refl in
      there (mention_pieces l.expr) (length (filter is_mention off.before)) (omega (arith, front_count, count, both, more))

pub offence_stands : OffenceStands
offence_stands profile bytes lines number at text are bad =
    let (l, here) = line_there lines number at bad in
    let (x, stands) = piece_there lines number at bad l here in
    (x, record { text = text; lines = lines; are = are; at = at; redefined = bad; line = l; here = here; stands = stands })

pub offence_clashes : OffenceClashes
offence_clashes profile bytes lines number at text are bad =
    let (l, here) = line_there lines number at bad in
    let (x, stands) = piece_there lines number at bad l here in
    let (first, again, clash, start) = offence_is_clash lines number at bad l here x stands in
    (first, again, record { text = text; lines = lines; are = are; at = at; redefined = bad; clash = clash })
