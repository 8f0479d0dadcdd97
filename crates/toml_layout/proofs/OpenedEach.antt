-- The loops that open elements and pairs one by one.
use Rattle.std.proofs.Common.{◌≡◌, ◌∙◌, ◌+◌, ◌<◌, ◌≤◌, ℕ, List, [], ◌∷◌, ◌++◌, map, length, drop, get_or, Option, Some, None, refl, ap, ap₂, sym, subst, append_assoc, append-nil}
use Rattle.std.proofs.lemmas.List.{drop_all, map-append}
use Rattle.std.specs.Global.{Box}
use Rattle.std.specs.Prelude.{option_map}
use Rattle.toml_tree.proofs.Proved.{keyval_is}
use Rattle.toml_tree.specs.declared.piece.Gap.{Gap as CodeGap}
use Rattle.toml_tree.specs.declared.tree.Item.{Item}
use Rattle.toml_tree.specs.declared.tree.KeyVal.{KeyVal}
use Rattle.toml_tree.specs.declared.tree.Pair.{Pair}
use Rattle.toml_tree.specs.declared.tree.Value.TheFolds.{fold_out-Item, fold_out-Pair}
use Rattle.toml_tree.specs.declared.tree.Value.TheViews.{out-Item, out-KeyVal, out-Pair}
use Rattle.toml_tree.specs.ReadingValues.{Element, Member}
use Rattle.toml_tree.specs.Spells.{EachIs, assign_parts, value_parts}
use Rattle.toml_tree.specs.Tree as tree
use Rattle.toml_tree.specs.Tree.{Piece, Array, Inline}
use Rattle.toml_tree.specs.View as view
use Rattle.toml_tree.specs.View.{gap, element, member, array_items, table_pairs, value_step, array_step, inline_step, item_step, keyval_step, pair_step}
use Rattle.toml_layout.proofs.Lying.{lie_back}
use Rattle.toml_layout.proofs.Small.{dropped}
use Rattle.toml_layout.proofs.Opened.{ElementStands, MemberStands, EndStands, array_stands, inline_stands, element_outline, member_outline}
use Rattle.toml_layout.proofs.Outlined.{entry_made}
use Rattle.toml_layout.specs.declared.tree.Assign.{Assign}
use Rattle.toml_layout.specs.declared.tree.Entry.{Entry}
use Rattle.toml_layout.specs.declared.tree.Gap.{Gap}
use Rattle.toml_layout.specs.declared.tree.Value.{Value}
use Rattle.toml_layout.specs.declared.tree.Value.TheViews.{roll-Entry}
use Rattle.toml_layout.specs.Opening.{GapStands, PairStands, ValueStands}
use Rattle.toml_layout.specs.Parts.{PartOutline}
use Rattle.toml_layout.specs.OpenOutlines.{EntryOutline, entries_of, gap_read, assign, entry, value}
use Rattle.toml_layout.specs.Outlines as outline
use Rattle.toml_layout.specs.Outlines.{AssignOutline, ValueOutline}
use Rattle.toml_layout.specs.TreeOutlines.{gap_outline, assign_outline, value_outline}

-- so far these are opened, and each of those that are left stands in the text
abbrev pub OpenedSoFar : {A : Type 0} → (A → Type 0) → (A → EntryOutline) → List A → List A → List EntryOutline → Type 0
OpenedSoFar Lies outlined all left so_far = EachIs Lies left × (so_far ++ map outlined left ≡ map outlined all)

-- one more is opened
opened_on : {A : Type 0} (Lies : A → Type 0) (outlined : A → EntryOutline) (all left rest : List A) (x : A) (so_far : List EntryOutline) (e : EntryOutline) → left ≡ x ∷ rest
    → (Lies x → e ≡ outlined x) → OpenedSoFar Lies outlined all left so_far → OpenedSoFar Lies outlined all rest (so_far ++ e ∷ [])
opened_on Lies outlined all left rest x so_far e is opens (lie, are) =
    let each = subst (EachIs Lies) is lie in (
      each.1,
      append_assoc so_far (e ∷ []) (map outlined rest) ∙ ap (λ y. so_far ++ (y ∷ map outlined rest)) (opens each.0)
          ∙ ap (λ xs. so_far ++ map outlined xs) (sym is) ∙ are,
    )

-- all are opened
opened_all : {A : Type 0} (Lies : A → Type 0) (outlined : A → EntryOutline) (all left : List A) (so_far : List EntryOutline) → left ≡ [] → OpenedSoFar Lies outlined all left so_far → so_far ≡ map outlined all
opened_all Lies outlined all left so_far none (lie, are) = sym (append-nil so_far) ∙ ap (λ xs. so_far ++ map outlined xs) (sym none) ∙ are

-- so it is of a list that is walked from its beginning: before the first,
pub none_opened : {A : Type 0} (Lies : A → Type 0) (outlined : A → EntryOutline) (all : List A) (list : List Entry) → list ≡ [] → EachIs Lies all
    → OpenedSoFar Lies outlined all all (map entry list)
none_opened Lies outlined all list none lie = (lie, ap (λ es. map entry es ++ map outlined all) none)

-- with one more,
pub one_opened : {A X : Type 0} (Lies : A → Type 0) (outlined : A → EntryOutline) (of : X → A) (items : List X) (i : ℕ) (x : X) → i < length items → x ≡ get_or items i x
    → (list new : List Entry) (e : Entry) → new ≡ list ++ e ∷ [] → (Lies (of x) → entry e ≡ outlined (of x))
    → OpenedSoFar Lies outlined (map of items) (map of (drop i items)) (map entry list)
    → OpenedSoFar Lies outlined (map of items) (map of (drop (i + 1) items)) (map entry new)
one_opened Lies outlined of items i x low there list new e is opens so_far =
    subst (OpenedSoFar Lies outlined (map of items) (map of (drop (i + 1) items))) (sym (ap (map entry) is ∙ map-append entry list (e ∷ [])))
    (opened_on Lies outlined (map of items) _ _ (of x) (map entry list) (entry e) (ap (map of) (dropped items i x low there)) opens so_far)

-- and behind the last
pub all_opened : {A X : Type 0} (Lies : A → Type 0) (outlined : A → EntryOutline) (of : X → A) (items own : List X) (i : ℕ) → length items ≤ i → items ≡ own
    → (list new : List Entry) → new ≡ list → OpenedSoFar Lies outlined (map of items) (map of (drop i items)) (map entry list)
    → map entry new ≡ map outlined (map of own)
all_opened Lies outlined of items own i past is list new same so_far =
    ap (map entry) same ∙ opened_all Lies outlined (map of items) _ (map entry list) (ap (map of) (drop_all i items past)) so_far
    ∙ ap (λ xs. map outlined (map of xs)) is

-- an item's element, and a pair's member
item_is : (x : Item) → element x ≡ record { before = gap (out-Item x).before; value = view.value (out-Item x).value; after = gap (out-Item x).after }
item_is = fold_out-Item tree.Value tree.Value tree.Value Element tree.KeyVal Member value_step array_step inline_step item_step keyval_step pair_step

pair_is : (x : Pair) → member x ≡ record { before = gap (out-Pair x).before; pair = view.keyval (out-Pair x).keyval; after = gap (out-Pair x).after }
pair_is = fold_out-Pair tree.Value tree.Value tree.Value Element tree.KeyVal Member value_step array_step inline_step item_step keyval_step pair_step

-- an entry of these
abbrev entry_of : List PartOutline → Option AssignOutline → ValueOutline → List PartOutline → EntryOutline
entry_of before a v after = record { before = before; assign = a; value = v; after = after }

same_entry : (before before' after after' : List PartOutline) (a a' : Option AssignOutline) (v v' : ValueOutline) → before ≡ before' → a ≡ a' → v ≡ v' → after ≡ after'
    → entry_of before a v after ≡ entry_of before' a' v' after'
same_entry before before' after after' a a' v v' before_is a_is v_is after_is =
    ap₂ (λ b t. entry_of b t v after) before_is a_is ∙ ap₂ (λ w t. entry_of before' a' w t) v_is after_is

-- an element is opened
pub element_opened : (text : List ℕ) (x : Item) (before after : Gap) (v : Value)
    → (GapStands text (gap (out-Item x).before) → gap_read before ≡ gap_outline (gap (out-Item x).before))
    → (ValueStands text (view.value (out-Item x).value) → value v ≡ value_outline (view.value (out-Item x).value))
    → (GapStands text (gap (out-Item x).after) → gap_read after ≡ gap_outline (gap (out-Item x).after))
    → ElementStands text (element x) → entry (roll-Entry (record { before = before; assign = None; value = v; after = after })) ≡ element_outline (element x)
element_opened text x before after v opens_before opens_value opens_after lies =
    let here = subst (ElementStands text) (item_is x) lies in
    entry_made (record { before = before; assign = None; value = v; after = after })
    ∙ same_entry _ _ _ _ None None _ _ (opens_before here.0) refl (opens_value here.1) (opens_after here.2) ∙ sym (ap element_outline (item_is x))

-- a pair is opened
pub member_opened : (text : List ℕ) (x : Pair) (before after : Gap) (own : Assign) (b : Box Assign) (v : Value) → b.value ≡ own
    → (GapStands text (gap (out-Pair x).before) → gap_read before ≡ gap_outline (gap (out-Pair x).before))
    → (PairStands text (view.keyval (out-Pair x).keyval)
    → ◌≡◌ {A = AssignOutline × ValueOutline} (assign own, value v) (assign_outline (view.keyval (out-Pair x).keyval).assign, value_outline (view.keyval (out-Pair x).keyval).value))
    → (GapStands text (gap (out-Pair x).after) → gap_read after ≡ gap_outline (gap (out-Pair x).after))
    → MemberStands text (member x) → entry (roll-Entry (record { before = before; assign = Some b; value = v; after = after })) ≡ member_outline (member x)
member_opened text x before after own b v is opens_before opens_pair opens_after lies =
    let here = subst (MemberStands text) (pair_is x) lies in
    let pair = opens_pair here.1 in
    entry_made (record { before = before; assign = Some b; value = v; after = after })
    ∙ same_entry _ _ _ _ _ _ _ _ (opens_before here.0) (ap (λ a. Some (assign a)) is ∙ ap (λ p. Some p.0) pair) (ap (λ p. p.1) pair) (opens_after here.2)
    ∙ sym (ap member_outline (pair_is x))

-- what stands behind the last comma is opened
pub end_opened : (text : List ℕ) (end : Option CodeGap) (g : CodeGap) (last : Option Gap) (opened : Gap) → end ≡ Some g → last ≡ Some opened
    → (GapStands text (gap g) → gap_read opened ≡ gap_outline (gap g)) → EndStands text end → option_map gap_read last ≡ option_map (λ g. gap_outline (gap g)) end
end_opened text end g last opened is last_is opens lies =
    ap (option_map gap_read) last_is ∙ ap Some (opens (subst (EndStands text) is lies)) ∙ ap (option_map (λ g. gap_outline (gap g))) (sym is)

-- all of an array is opened
pub array_opened : (text : List ℕ) (whole : Piece) (es : List Element) (end : Option CodeGap) (opening : List ℕ) (opened : List Entry) (last : Option Gap) → opening ≡ 0x5B ∷ []
    → map entry opened ≡ map element_outline es → (EndStands text end → option_map gap_read last ≡ option_map (λ g. gap_outline (gap g)) end)
    → ValueStands text (Array whole (array_items es end))
    → outline.Listed opening (entries_of (map entry opened) (option_map gap_read last)) ≡ value_outline (Array whole (array_items es end))
array_opened text whole es end opening opened last bracket are closes lies =
    let inside = array_stands text whole es end lies in
    ap₂ outline.Listed bracket (ap₂ entries_of are (closes inside.1) ∙ sym inside.2)

-- all of an inline table is opened
pub inline_opened : (text : List ℕ) (whole : Piece) (ms : List Member) (end : Option CodeGap) (opening : List ℕ) (opened : List Entry) (last : Option Gap) → opening ≡ 0x7B ∷ []
    → map entry opened ≡ map member_outline ms → (EndStands text end → option_map gap_read last ≡ option_map (λ g. gap_outline (gap g)) end)
    → ValueStands text (Inline whole (table_pairs ms end))
    → outline.Braced opening (entries_of (map entry opened) (option_map gap_read last)) ≡ value_outline (Inline whole (table_pairs ms end))
inline_opened text whole ms end opening opened last brace are closes lies =
    let inside = inline_stands text whole ms end lies in
    ap₂ outline.Braced brace (ap₂ entries_of are (closes inside.1) ∙ sym inside.2)

-- a key and a value are opened
pub keyval_opened : (text : List ℕ) (k : KeyVal) (own : AssignOutline) (v : ValueOutline) → own ≡ assign_outline (view.assign (out-KeyVal k).assign)
    → (ValueStands text (view.value (out-KeyVal k).value) → v ≡ value_outline (view.value (out-KeyVal k).value)) → PairStands text (view.keyval k)
    → ◌≡◌ {A = AssignOutline × ValueOutline} (own, v) (assign_outline (view.keyval k).assign, value_outline (view.keyval k).value)
keyval_opened text k own v own_is opens lies =
    let (form, here) = subst (PairStands text) (keyval_is k) lies in
    let own_parts = assign_parts (view.assign (out-KeyVal k).assign) in
    let behind = lie_back text here.0 own_parts (value_parts (view.value (out-KeyVal k).value)) here.1 in
    ap₂ both own_is (opens (form, (_, behind))) ∙ ap (λ p. both (assign_outline p.assign) (value_outline p.value)) (sym (keyval_is k))
  where
    both : AssignOutline → ValueOutline → AssignOutline × ValueOutline
    both a w = (a, w)
