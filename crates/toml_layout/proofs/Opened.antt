-- What stands in an array or an inline table: where its parts stand in the text, those of each element stand there too, in their forms.
use Rattle.std.proofs.Common.{◌≡◌, ◌<◌, ◌+◌, ℕ, List, [], ◌∷◌, ◌++◌, map, Option, Some, None, refl, ap, sym, subst, arith, append_assoc}
use Rattle.std.specs.Prelude.{option_map}
use Rattle.toml_tree.specs.declared.piece.Gap.{Gap as CodeGap}
use Rattle.toml_tree.specs.Parts.{size}
use Rattle.toml_tree.specs.ReadingValues.{Element, Member, before_end, pairs_before_end}
use Rattle.toml_tree.specs.Spells.{Part, symbol, begin, AreItems, ArePairs, EachIs, IsGap, IsValue, assign_parts, gap_parts, value_parts, items_parts, pairs_parts, keyval_parts}
use Rattle.toml_tree.specs.Tree.{Piece, Gap, Array, Inline, Close, ClosePairs}
use Rattle.toml_tree.specs.View.{gap, array_items, last_ends, table_pairs, last_pairs}
use Rattle.toml_layout.proofs.Lying.{lie_front, lie_back, lie_next}
use Rattle.toml_layout.specs.Opening.{GapStands, Lie, LieAt, PairStands, ValueStands}
use Rattle.toml_layout.specs.OpenOutlines.{EntryOutline, entries_of}
use Rattle.toml_layout.specs.Outlines as outline
use Rattle.toml_layout.specs.TreeOutlines.{gap_outline, assign_outline, value_outline, items_outline, pairs_outline}

abbrev pub element_outline : Element → EntryOutline
element_outline e = record { before = gap_outline e.before; assign = None; value = value_outline e.value; after = gap_outline e.after }

abbrev pub member_outline : Member → EntryOutline
member_outline m =
    record { before = gap_outline m.before; assign = Some (assign_outline m.pair.assign); value = value_outline m.pair.value; after = gap_outline m.after }

-- three runs of parts before others stand in the text, and so do the others
around : (text : List ℕ) (at : ℕ) (g ps h rest : List Part) → LieAt text at (g ++ (ps ++ (h ++ rest))) → Lie text g × Lie text ps × Lie text h × Lie text rest
around text at g ps h rest l =
    let behind = lie_back text at g (ps ++ (h ++ rest)) l in
    let later = lie_back text (at + size g) ps (h ++ rest) behind in
    let last = lie_back text ((at + size g) + size ps) h rest later in (
      (at, lie_front text at g (ps ++ (h ++ rest)) l),
      (at + size g, lie_front text (at + size g) ps (h ++ rest) behind),
      ((at + size g) + size ps, lie_front text ((at + size g) + size ps) h rest later),
      (((at + size g) + size ps) + size h, last),
    )

-- a gap, what stands behind it, and a gap behind that
abbrev LieAround : List ℕ → Gap → List Part → Gap → Type 0
LieAround text g ps h = Lie text (gap_parts g) × Lie text ps × Lie text (gap_parts h)

abbrev ElementLies : List ℕ → Element → Type 0
ElementLies text e = LieAround text e.before (value_parts e.value) e.after

abbrev MemberLies : List ℕ → Member → Type 0
MemberLies text m = LieAround text m.before (keyval_parts m.pair) m.after

abbrev EndLies : List ℕ → Option CodeGap → Type 0
EndLies text None = Unit {0}
EndLies text (Some g) = Lie text (gap_parts (gap g))

-- a pair between its gaps, and others behind
member_lies : (text : List ℕ) (at : ℕ) (m : Member) (rest : List Part) → LieAt text at (gap_parts m.before ++ (assign_parts m.pair.assign ++ (value_parts m.pair.value ++ (gap_parts m.after ++ rest))))
    → MemberLies text m × Lie text rest
member_lies text at m rest l =
    let a = assign_parts m.pair.assign in
    let v = value_parts m.pair.value in
    let whole = subst (λ ps. LieAt text at (gap_parts m.before ++ ps)) (sym (append_assoc a v (gap_parts m.after ++ rest))) l in
    let (before, pair, after, behind) = around text at (gap_parts m.before) (a ++ v) (gap_parts m.after) rest whole in
    ((before, pair, after), behind)

elements_lie : (text : List ℕ) (at : ℕ) (es : List Element) (g : Gap) → LieAt text at (items_parts (before_end es (Close g))) → EachIs (ElementLies text) es × Lie text (gap_parts g)
elements_lie text at [] g l = (tt, (at, lie_front text at (gap_parts g) (symbol (0x5D ∷ []) ∷ []) l))
elements_lie text at (e ∷ es) g l =
    let rest = items_parts (before_end es (Close g)) in
    let (before, value, after, behind) = around text at (gap_parts e.before) (value_parts e.value) (gap_parts e.after) (symbol (0x2C ∷ []) ∷ rest) l in
    let (each, end) = elements_lie text (behind.0 + size (symbol (0x2C ∷ []) ∷ [])) es g (lie_next text behind.0 (symbol (0x2C ∷ [])) rest behind.1) in
    (((before, value, after), each), end)

last_elements_lie : (text : List ℕ) (at : ℕ) (e : Element) (es : List Element) → LieAt text at (items_parts (last_ends (e ∷ es))) → EachIs (ElementLies text) (e ∷ es)
last_elements_lie text at e [] l =
    let (before, value, after, behind) = around text at (gap_parts e.before) (value_parts e.value) (gap_parts e.after) (symbol (0x5D ∷ []) ∷ []) l in
    ((before, value, after), tt)
last_elements_lie text at e (f ∷ es) l =
    let rest = items_parts (last_ends (f ∷ es)) in
    let (before, value, after, behind) = around text at (gap_parts e.before) (value_parts e.value) (gap_parts e.after) (symbol (0x2C ∷ []) ∷ rest) l in
    ((before, value, after), last_elements_lie text (behind.0 + size (symbol (0x2C ∷ []) ∷ [])) f es (lie_next text behind.0 (symbol (0x2C ∷ [])) rest behind.1))

elements_outlined : (es : List Element) (g : Gap) → items_outline (before_end es (Close g)) ≡ entries_of (map element_outline es) (Some (gap_outline g))
elements_outlined [] g = refl
elements_outlined (e ∷ es) g = ap (outline.Entry (gap_outline e.before) None (value_outline e.value) (gap_outline e.after)) (elements_outlined es g)

last_elements_outlined : (e : Element) (es : List Element) → items_outline (last_ends (e ∷ es)) ≡ entries_of (map element_outline (e ∷ es)) None
last_elements_outlined e [] = refl
last_elements_outlined e (f ∷ es) = ap (outline.Entry (gap_outline e.before) None (value_outline e.value) (gap_outline e.after)) (last_elements_outlined f es)

-- An array that stands in the text, by its elements. With neither an element nor a gap it stands in none: the gap's place is 0 there, but `[` stands before it.
array_lies : (text : List ℕ) (whole : Piece) (es : List Element) (end : Option CodeGap) → Lie text (value_parts (Array whole (array_items es end)))
    → EachIs (ElementLies text) es × EndLies text end × (items_outline (array_items es end) ≡ entries_of (map element_outline es) (option_map (λ g. gap_outline (gap g)) end))
array_lies text whole es end (at, l) =
    let bracket = symbol (0x5B ∷ []) in
    let items = items_parts (array_items es end) in
    inside es end _ (lie_next text _ bracket items (lie_next text at (begin whole) (bracket ∷ items) l)) (let e : 0 < (at + size (begin whole ∷ [])) + size (bracket ∷ []) = omega arith in e)
  where
    inside : (es : List Element) (end : Option CodeGap) (at : ℕ) → LieAt text at (items_parts (array_items es end)) → 0 < at
        → EachIs (ElementLies text) es × EndLies text end × (items_outline (array_items es end) ≡ entries_of (map element_outline es) (option_map (λ g. gap_outline (gap g)) end))
    inside es (Some g) at l low = let (each, last) = elements_lie text at es (gap g) l in (each, last, elements_outlined es (gap g))
    inside [] None at l low = absurd (let e : ⊥ = omega (arith, low, l.placed.0) in e)
    inside (e ∷ es) None at l low = (last_elements_lie text at e es l, tt, last_elements_outlined e es)

members_lie : (text : List ℕ) (at : ℕ) (ms : List Member) (g : Gap) → LieAt text at (pairs_parts (pairs_before_end ms (ClosePairs g))) → EachIs (MemberLies text) ms × Lie text (gap_parts g)
members_lie text at [] g l = (tt, (at, lie_front text at (gap_parts g) (symbol (0x7D ∷ []) ∷ []) l))
members_lie text at (m ∷ ms) g l =
    let rest = pairs_parts (pairs_before_end ms (ClosePairs g)) in
    let (here, behind) = member_lies text at m (symbol (0x2C ∷ []) ∷ rest) l in
    let (each, end) = members_lie text (behind.0 + size (symbol (0x2C ∷ []) ∷ [])) ms g (lie_next text behind.0 (symbol (0x2C ∷ [])) rest behind.1) in
    ((here, each), end)

last_members_lie : (text : List ℕ) (at : ℕ) (m : Member) (ms : List Member) → LieAt text at (pairs_parts (last_pairs (m ∷ ms))) → EachIs (MemberLies text) (m ∷ ms)
last_members_lie text at m [] l = ((member_lies text at m (symbol (0x7D ∷ []) ∷ []) l).0, tt)
last_members_lie text at m (n ∷ ms) l =
    let rest = pairs_parts (last_pairs (n ∷ ms)) in
    let (here, behind) = member_lies text at m (symbol (0x2C ∷ []) ∷ rest) l in
    (here, last_members_lie text (behind.0 + size (symbol (0x2C ∷ []) ∷ [])) n ms (lie_next text behind.0 (symbol (0x2C ∷ [])) rest behind.1))

members_outlined : (ms : List Member) (g : Gap) → pairs_outline (pairs_before_end ms (ClosePairs g)) ≡ entries_of (map member_outline ms) (Some (gap_outline g))
members_outlined [] g = refl
members_outlined (m ∷ ms) g =
    ap (outline.Entry (gap_outline m.before) (Some (assign_outline m.pair.assign)) (value_outline m.pair.value) (gap_outline m.after)) (members_outlined ms g)

last_members_outlined : (m : Member) (ms : List Member) → pairs_outline (last_pairs (m ∷ ms)) ≡ entries_of (map member_outline (m ∷ ms)) None
last_members_outlined m [] = refl
last_members_outlined m (n ∷ ms) =
    ap (outline.Entry (gap_outline m.before) (Some (assign_outline m.pair.assign)) (value_outline m.pair.value) (gap_outline m.after)) (last_members_outlined n ms)

-- the same of an inline table
inline_lies : (text : List ℕ) (whole : Piece) (ms : List Member) (end : Option CodeGap) → Lie text (value_parts (Inline whole (table_pairs ms end)))
    → EachIs (MemberLies text) ms × EndLies text end × (pairs_outline (table_pairs ms end) ≡ entries_of (map member_outline ms) (option_map (λ g. gap_outline (gap g)) end))
inline_lies text whole ms end (at, l) =
    let brace = symbol (0x7B ∷ []) in
    let pairs = pairs_parts (table_pairs ms end) in
    inside ms end _ (lie_next text _ brace pairs (lie_next text at (begin whole) (brace ∷ pairs) l)) (let e : 0 < (at + size (begin whole ∷ [])) + size (brace ∷ []) = omega arith in e)
  where
    inside : (ms : List Member) (end : Option CodeGap) (at : ℕ) → LieAt text at (pairs_parts (table_pairs ms end)) → 0 < at
        → EachIs (MemberLies text) ms × EndLies text end × (pairs_outline (table_pairs ms end) ≡ entries_of (map member_outline ms) (option_map (λ g. gap_outline (gap g)) end))
    inside ms (Some g) at l low = let (each, last) = members_lie text at ms (gap g) l in (each, last, members_outlined ms (gap g))
    inside [] None at l low = absurd (let e : ⊥ = omega (arith, low, l.placed.0) in e)
    inside (m ∷ ms) None at l low = (last_members_lie text at m ms l, tt, last_members_outlined m ms)

-- ---- forms

-- what is so in two ways is so in both
both : {A : Type 0} (P Q R : A → Type 0) → ((x : A) → P x → Q x → R x) → (xs : List A) → EachIs P xs → EachIs Q xs → EachIs R xs
both P Q R f [] p q = tt
both P Q R f (x ∷ xs) p q = (f x p.0 q.0, both P Q R f xs p.1 q.1)

abbrev ElementFormed : Element → Type 0
ElementFormed e = IsGap e.before × IsValue e.value × IsGap e.after

abbrev MemberFormed : Member → Type 0
MemberFormed m = IsGap m.before × IsValue m.pair.value × IsGap m.after

abbrev EndFormed : Option CodeGap → Type 0
EndFormed None = Unit {0}
EndFormed (Some g) = IsGap (gap g)

-- an element, a pair and what stands behind the last comma stand in the text in their forms
abbrev pub ElementStands : List ℕ → Element → Type 0
ElementStands text e = GapStands text e.before × ValueStands text e.value × GapStands text e.after

abbrev pub MemberStands : List ℕ → Member → Type 0
MemberStands text m = GapStands text m.before × PairStands text m.pair × GapStands text m.after

abbrev pub EndStands : List ℕ → Option CodeGap → Type 0
EndStands text None = Unit {0}
EndStands text (Some g) = GapStands text (gap g)

end_both : (text : List ℕ) (end : Option CodeGap) → EndFormed end → EndLies text end → EndStands text end
end_both text None formed lies = tt
end_both text (Some g) formed lies = (formed, lies)

elements_formed : (es : List Element) (g : Gap) → AreItems (before_end es (Close g)) → EachIs ElementFormed es × IsGap g
elements_formed [] g form = (tt, form)
elements_formed (e ∷ es) g (before, value, after, more) = let (each, end) = elements_formed es g more in (((before, value, after), each), end)

last_elements_formed : (es : List Element) → AreItems (last_ends es) → EachIs ElementFormed es
last_elements_formed [] form = tt
last_elements_formed (e ∷ []) form = (form, tt)
last_elements_formed (e ∷ f ∷ es) (before, value, after, more) = ((before, value, after), last_elements_formed (f ∷ es) more)

array_formed : (es : List Element) (end : Option CodeGap) → AreItems (array_items es end) → EachIs ElementFormed es × EndFormed end
array_formed es (Some g) form = elements_formed es (gap g) form
array_formed es None form = (last_elements_formed es form, tt)

pub array_stands : (text : List ℕ) (whole : Piece) (es : List Element) (end : Option CodeGap) → ValueStands text (Array whole (array_items es end))
    → EachIs (ElementStands text) es × EndStands text end × (items_outline (array_items es end) ≡ entries_of (map element_outline es) (option_map (λ g. gap_outline (gap g)) end))
array_stands text whole es end (form, lies) =
    let (each, last, is) = array_lies text whole es end lies in
    let (formed, end_formed) = array_formed es end form.1 in (
      both ElementFormed (ElementLies text) (ElementStands text) (λ e f l. ((f.0, l.0), (f.1, l.1), (f.2, l.2))) es formed each,
      end_both text end end_formed last,
      is,
    )

members_formed : (ms : List Member) (g : Gap) → ArePairs (pairs_before_end ms (ClosePairs g)) → EachIs MemberFormed ms × IsGap g
members_formed [] g form = (tt, form)
members_formed (m ∷ ms) g (before, key, value, after, more) = let (each, end) = members_formed ms g more in (((before, value, after), each), end)

last_members_formed : (ms : List Member) → ArePairs (last_pairs ms) → EachIs MemberFormed ms
last_members_formed [] form = tt
last_members_formed (m ∷ []) (before, key, value, after) = ((before, value, after), tt)
last_members_formed (m ∷ n ∷ ms) (before, key, value, after, more) = ((before, value, after), last_members_formed (n ∷ ms) more)

inline_formed : (ms : List Member) (end : Option CodeGap) → ArePairs (table_pairs ms end) → EachIs MemberFormed ms × EndFormed end
inline_formed ms (Some g) form = members_formed ms (gap g) form
inline_formed ms None form = (last_members_formed ms form, tt)

pub inline_stands : (text : List ℕ) (whole : Piece) (ms : List Member) (end : Option CodeGap) → ValueStands text (Inline whole (table_pairs ms end))
    → EachIs (MemberStands text) ms × EndStands text end × (pairs_outline (table_pairs ms end) ≡ entries_of (map member_outline ms) (option_map (λ g. gap_outline (gap g)) end))
inline_stands text whole ms end (form, lies) =
    let (each, last, is) = inline_lies text whole ms end lies in
    let (formed, end_formed) = inline_formed ms end form.1 in (
      both MemberFormed (MemberLies text) (MemberStands text) (λ e f l. ((f.0, l.0), (f.1, l.1), (f.2, l.2))) ms formed each,
      end_both text end end_formed last,
      is,
    )
