-- A reader that takes one more line, or refuses it.
use Rattle.toml_names.proofs.Common.{common_steps, ◌≡◌, ℕ, suc, ◌+◌, ◌<◌, List, [], ◌∷◌, ◌++◌, length, take, drop, Option, Some, None, option_map, slice_index_or, map, Bor, refl, sym, ap, subst, ◌∙◌, arith, rules, length_push, get_or_at, take_at, take_all, length-take-le, append_assoc, length-map, line as tree_line, Line, NameFault, Address, IsWithin, EntersLine, Named, named, named_by, AreGood, KeepsRules, get_or_append_left, length-append, IsRedefined, IsLong, own_address, line_address, Spot, address_at, IsReader, RefusesLine, StaysShort, RefusesEntry, IsShort, misfit}
use Rattle.toml_tree.specs.declared.line.Line.{Line as TreeLine}
use Rattle.toml_names.specs.declared.tree.headers.Entered.{Entered}
use Rattle.toml_names.specs.reader.LineNames.{TakenAreGood}
use Rattle.toml_names.specs.reader.Names.{FrontsAreGood}
use Rattle.toml_names.proofs.lemmas.mentions.LineAddresses.{line_addresses}
use Rattle.toml_names.proofs.lemmas.mentions.NextLine.{named-more, AreGood-more, IsRedefined-at, IsLong-at, IsShort-append, IsShort-behind}
use Rattle.toml_names.proofs.lemmas.mentions.Offences.{no_misfit}

module _ (lines : List Line) (l : Line) where
  abbrev full : List Line
  full = lines ++ l ∷ []

  abbrev n : ℕ
  n = length lines

  abbrev new : List Named
  new = named_by (named lines) n l.expr

  low : n < length full
  low = omega (arith, length_push lines l)

  front : take n full ≡ lines
  front = take_at lines (l ∷ []) n refl

  whole : take (n + 1) full ≡ full
  whole = take_all (n + 1) full (omega (arith, length_push lines l))

  last : slice_index_or full n l ≡ l
  last = get_or_at lines l [] l n refl

  new_is : named_by (named (take n full)) n (slice_index_or full n l).expr ≡ new
  new_is = ap (λ ls. named_by (named ls) n (slice_index_or full n l).expr) front ∙ ap (λ (k : Line). named_by (named lines) n k.expr) last

  pub named-push : named full ≡ named lines ++ new
  named-push = ap named (sym whole) ∙ named-more full n l low ∙ ap (λ ms. ms ++ named_by (named (take n full)) n (slice_index_or full n l).expr) (ap named front) ∙ ap (λ ms. named lines ++ ms) new_is

  module _ (good : AreGood lines) where
    good_front : AreGood (take n full)
    good_front = subst AreGood (sym front) good

    -- a misfit, as the lemmas of the next line have it
    at_front : misfit (named (take n full)) (named_by (named (take n full)) n (slice_index_or full n l).expr) ≡ misfit (named lines) new
    at_front = ap (λ ms. misfit (named (take n full)) ms) new_is ∙ ap (λ ls. misfit (named ls) new) front

    pub good-push : misfit (named lines) new ≡ None → IsShort (named lines ++ new) → AreGood full
    good-push none short =
        subst AreGood whole (AreGood-more full n l low good_front (at_front ∙ none) (subst IsShort (sym new_is) (IsShort-behind (named lines) new short)))

    pub redefined-push : (at : Address) → misfit (named lines) new ≡ Some at → IsRedefined full n at
    redefined-push at some = IsRedefined-at full n l low good_front at (at_front ∙ some)

    pub long-push : misfit (named lines) new ≡ None → ¬ IsShort (named lines ++ new) → IsLong full n
    long-push none long =
        IsLong-at full n l low good_front (at_front ∙ none) (λ short. long (IsShort-append (named lines) new good.1 (subst IsShort new_is short)))

  -- a line's own address stays, and that of the new line is the one of its expression
  pub own_address-last : line_address (named full) n ≡ own_address (named lines) l.expr
  own_address-last = line_addresses lines [] l

-- a list parted at one of its elements
parted : (ls : List Line) (i : ℕ) (d : Line) → i < length ls → ls ≡ take i ls ++ slice_index_or ls i d ∷ drop (suc i) ls
parted ls i d there = grind (arith, common_steps)

module _ (lines : List Line) (l : Line) (i : ℕ) (below : i < length lines) where
  pub own_address-kept : line_address (named (lines ++ l ∷ [])) i ≡ line_address (named lines) i
  own_address-kept =
      let before : List Line = take i lines in
      let here : Line = slice_index_or lines i l in
      let behind : List Line = drop (suc i) lines in
      let at : length before ≡ i = length-take-le i lines (omega arith) in
      let one : lines ≡ before ++ here ∷ behind = parted lines i l below in
      let more : lines ++ l ∷ [] ≡ before ++ here ∷ (behind ++ l ∷ []) = ap (λ ls. ls ++ l ∷ []) one ∙ append_assoc before (here ∷ behind) (l ∷ []) in
      let old : line_address (named (before ++ here ∷ behind)) i ≡ own_address (named before) here.expr = ap (line_address (named (before ++ here ∷ behind))) (sym at) ∙ line_addresses before behind here in
      let new : line_address (named (before ++ here ∷ (behind ++ l ∷ []))) i ≡ own_address (named before) here.expr = ap (line_address (named (before ++ here ∷ (behind ++ l ∷ [])))) (sym at) ∙ line_addresses before (behind ++ l ∷ []) here in
      ap (λ ls. line_address (named ls) i) more ∙ new ∙ sym old ∙ ap (λ ls. line_address (named ls) i) (sym one)

-- what a reader has taken is good
pub reader_good : {nodes : List Spot} {lines : List Line} {own : List (Option ℕ)} {at : ℕ} → IsReader nodes lines own at → AreGood lines
reader_good {lines = lines} reads = ((no_misfit (named lines)).0 reads.stands.good, reads.short)

-- a list of which each pair, or each member, is so, with its front
keeps_front : (xs ys : List Named) → KeepsRules (xs ++ ys) → KeepsRules xs
keeps_front xs ys keeps i j d low high =
    let both = keeps i j d low (omega (arith, high, length-append xs ys)) in
    rw (get_or_append_left xs ys d i (omega (arith, low, high)), get_or_append_left xs ys d j high) at both

short_front : (xs ys : List Named) → IsShort (xs ++ ys) → IsShort xs
short_front xs ys short k d low =
    let one = short k d (omega (arith, low, length-append xs ys)) in
    rw (get_or_append_left xs ys d k low) at one

pub fronts_are_good : FrontsAreGood
fronts_are_good lines l good =
    let new = named_by (named lines) (length lines) l.expr in
    let all = subst (λ ms. KeepsRules ms × IsShort ms) (named-push lines l) good in
    (keeps_front (named lines) new all.0, short_front (named lines) new all.1)

pub taken_are_good : TakenAreGood
taken_are_good names lines h = reader_good h.keeps.reads

module _ (old new : List Spot) (lines : List Line) (own : List (Option ℕ)) (at : ℕ) (l : Line) (e : Entered)
    (reads : IsReader old lines own at) (enters : EntersLine old new at (length lines) l.expr e) (short : StaysShort old at (length lines) l.expr) where
  names : named (lines ++ l ∷ []) ≡ named lines ++ named_by (named lines) (length lines) l.expr
  names = named-push lines l

  pub line-good : AreGood (lines ++ l ∷ [])
  line-good = good-push lines l (reader_good reads) (enters.goes (named lines) reads.stands reads.table) (short (named lines) reads.stands reads.table reads.short)

  own_count : length (own ++ e.own ∷ []) ≡ length (lines ++ l ∷ [])
  own_count = omega (arith, length_push own e.own, length_push lines l, reads.own_count)

  own_within : (i : ℕ) (d : Option ℕ) → i < length (own ++ e.own ∷ []) → IsWithin (slice_index_or (own ++ e.own ∷ []) i d) new
  own_within i d low = grind (arith, common_steps)

  owns : (i : ℕ) (d : Option ℕ) → i < length (own ++ e.own ∷ []) → option_map (address_at new) (slice_index_or (own ++ e.own ∷ []) i d) ≡ line_address (named (lines ++ l ∷ [])) i
  owns i d low = grind (arith, common_steps, low, own_within, own_address-kept, own_count, own_address-last)

  pub reads-more : IsReader new (lines ++ l ∷ []) (own ++ e.own ∷ []) e.section
  reads-more = search (rules, names, own_count, own_within, owns)

-- a line that is not entered is refused
pub refuses-line : (nodes : List Spot) (lines : List Line) (own : List (Option ℕ)) (at : ℕ) (l : Line) (fault : NameFault)
    → IsReader nodes lines own at → RefusesEntry nodes at (length lines) l.expr fault → RefusesLine lines l fault
refuses-line nodes lines own at l fault reads refused = search (rules, redefined-push, reader_good, long-push)

-- the same, as the code has it: `lines'` and `own'` are what it has after the line, whose number it counted
module _ (old new : List Spot) (lines lines' : List Line) (own own' : List (Option ℕ)) (at number : ℕ) (l : Line) (e : Entered)
    (reads : IsReader old lines own at) (counted : number ≡ length lines)
    (enters : EntersLine old new at number l.expr e) (short : StaysShort old at number l.expr) (taken : lines' ≡ lines ++ l ∷ []) where
  entered : EntersLine old new at (length lines) l.expr e
  entered = subst (λ n. EntersLine old new at n l.expr e) counted enters

  stays : StaysShort old at (length lines) l.expr
  stays = subst (λ n. StaysShort old at n l.expr) counted short

  pub took_good : AreGood lines'
  took_good = subst AreGood (sym taken) (line-good old new lines own at l e reads entered stays)

  pub took : own' ≡ own ++ e.own ∷ [] → IsReader new lines' own' e.section
  took noted = subst (λ ls. IsReader new ls own' e.section) (sym taken) (subst (λ o. IsReader new (lines ++ l ∷ []) o e.section) (sym noted) (reads-more old new lines own at l e reads entered stays))

-- the lines, with one more
pub lines-push : (items items' : List (Bor TreeLine)) (l : Bor TreeLine) → items' ≡ items ++ l ∷ [] → map tree_line (map (λ l. l.now) items') ≡ map tree_line (map (λ l. l.now) items) ++ tree_line l.now ∷ []
lines-push items items' l is = grind (arith, common_steps)

pub count-lines : (items : List (Bor TreeLine)) → length (map tree_line (map (λ l. l.now) items)) ≡ length items
count-lines items = length-map (map (λ (l : Bor TreeLine). l.now) items) tree_line ∙ length-map items (λ (l : Bor TreeLine). l.now)
