-- A `rename` below a value: of what stands in it only key parts that stand for its address change.
use Rattle.std.proofs.Common.{◌≡◌, ℕ, zero, suc, ◌+◌, ◌-◌, ◌≤◌, ◌==◌, Bool, true, false, cond, ◌&&◌, Option, Some, None, List, [], ◌∷◌, ◌++◌, map, length, drop, refl, sym, ap, ap₂, subst, ◌∙◌, arith, append_assoc, append-nil}
use Rattle.std.proofs.lemmas.Bool.{and_from, and_parts, and_right, false≢true, true≢false}
use Rattle.std.proofs.lemmas.Bool.Decides.{nat_tests}
use Rattle.std.proofs.lemmas.Option.{none-some, same_Some}
use Rattle.std.specs.Str.{bytes_eq}
use Rattle.toml_tree.specs.Spells.{EachIs}
use Rattle.toml_names.specs.declared.model.address.Step.{Step}
use Rattle.toml_names.specs.declared.model.address.Step.TheVariants.{Name, Index}
use Rattle.toml_names.specs.mentions.Keys.{Key, spelled_name}
use Rattle.toml_names.specs.model.Addresses.{Address, same_step, same_address, is_above, child, element, below}
use Rattle.toml_names.proofs.Proved.{same_step-equal, same_step-self}
use Rattle.toml_layout.specs.Apart.{KeysApart, begins_key, keys_of}
use Rattle.toml_layout.specs.Leading.{LeadsOn, first_index, key_in, leads, led_by, value_in, with_value}
use Rattle.toml_layout.specs.OpenOutlines.{Enclosed}
use Rattle.toml_layout.specs.Outlines.{DottedOutline, AssignOutline, ValueOutline, Token, Listed, Braced, EntriesOutline, End, Entry}
use Rattle.toml_layout.specs.RenameOutlines.{RenameStaysAside, rename_text, rename_dotted, rename_outlined, rename_outline, rename_listed, rename_braced}
use Rattle.toml_layout.specs.RenamingIn.{reaches, dotted_with, part_with, key_with, pairs_with, KeysRenamed, RenamesIn, RenamesEntry}
use Rattle.toml_layout.specs.SetOutlines.{outlined_names}
use Rattle.toml_layout.specs.Beginnings.{begins}
use Rattle.toml_layout.proofs.Small.{still_off, each_weaker, each_of_all}
use Rattle.toml_layout.proofs.SetInside.{apart_in, has_value, index_on, key_each, led_at, led_on, not_both, not_led}
use Rattle.toml_layout.proofs.Clear.{above_true, differ}

-- ---- addresses and keys

nothing_above : (a : Address) → is_above a [] ≡ false
nothing_above [] = refl
nothing_above (s ∷ a) = refl

pub above_more : (a b p : Address) → is_above a p ≡ false → is_above (a ++ b) p ≡ false
above_more [] b [] off = nothing_above b
above_more [] b (t ∷ p) off = absurd (true≢false off)
above_more (s ∷ a) b [] off = refl
above_more (s ∷ a) b (t ∷ p) off = still_off (same_step s t) (is_above a p) (is_above (a ++ b) p) (above_more a b p) off

-- what follows the same steps
pub above_behind : (at a b : Address) → is_above (at ++ a) (at ++ b) ≡ is_above a b
above_behind [] a b = refl
above_behind (s ∷ at) a b = ap (λ c. c && is_above (at ++ a) (at ++ b)) (same_step-self s) ∙ above_behind at a b

pub same_behind : (at a b : Address) → same_address (at ++ a) (at ++ b) ≡ same_address a b
same_behind [] a b = refl
same_behind (s ∷ at) a b = ap (λ c. c && same_address (at ++ a) (at ++ b)) (same_step-self s) ∙ same_behind at a b

-- above the steps are those that lead to all but the last
above_parent : (a parent : Address) (last : Step) → is_above a (parent ++ last ∷ []) ≡ begins a parent
above_parent [] [] last = refl
above_parent [] (t ∷ parent) last = refl
above_parent (s ∷ a) [] last = and_right (same_step s last) (is_above a []) (nothing_above a)
above_parent (s ∷ a) (t ∷ parent) last = ap (λ b. same_step s t && b) (above_parent a parent last)

-- a key that leads to all but the last does not reach it,
too_short : (k : Key) (parent : Address) (last : Step) → leads k parent ≡ true → reaches k (parent ++ last ∷ []) ≡ false
too_short [] [] last led = refl
too_short [] (t ∷ parent) last led = refl
too_short (n ∷ k) [] last led = absurd (false≢true led)
too_short (n ∷ k) (t ∷ parent) last led =
    let (here, behind) = and_parts (same_step (Name n) t) (leads k parent) led in
    and_right (same_step (Name n) t) (reaches k (parent ++ last ∷ [])) (too_short k parent last behind)

-- and neither does one that is apart from it
not_reached : (k l : Key) (parent : Address) (last : Step) → leads k parent ≡ true → begins_key k l ≡ false → reaches l (parent ++ last ∷ []) ≡ false
not_reached [] l parent last led off = absurd (true≢false off)
not_reached (n ∷ k) l [] last led off = absurd (false≢true led)
not_reached (n ∷ k) [] (t ∷ parent) last led off = refl
not_reached (n ∷ k) (m ∷ l) (t ∷ parent) last led off =
    let (here, behind) = and_parts (same_step (Name n) t) (leads k parent) led in
    let is : Name n ≡ t = same_step-equal (Name n) t here in
    by is (not_reached k l parent last behind) (same_step (Name m) t) refl
  where
    by : Name n ≡ t → (begins_key k l ≡ false → reaches l (parent ++ last ∷ []) ≡ false) → (c : Bool) → same_step (Name m) t ≡ c → (c && reaches l (parent ++ last ∷ [])) ≡ false
    by is later false same = refl
    by is later true same =
        let both : Name n ≡ Name m = is ∙ sym (same_step-equal (Name m) t same) in
        let one : bytes_eq n m ≡ true = subst (λ u. same_step (Name n) u ≡ true) both (same_step-self (Name n)) in
        later (sym (ap (λ c. c && begins_key k l) one) ∙ off)

-- ---- the parts of a key

abbrev names_of : List DottedOutline → Key
names_of ds = map (λ (d : DottedOutline). spelled_name d.part) ds

abbrev part_of : DottedOutline → List ℕ → DottedOutline
part_of d text = record { before_dot = d.before_dot; after_dot = d.after_dot; part = text }

module _ (p : Address) (text : List ℕ) where
  pub child_apart : (at : Address) (n : List ℕ) → is_above at p ≡ false → same_address (child at n) p ≡ false
  child_apart at n off = differ (child at n) p (λ is. true≢false (sym (above_true at (child at n) (Name n, [], refl)) ∙ ap (is_above at) is ∙ off))

  pub part_kept : (here : Address) (part : List ℕ) → same_address here p ≡ false → rename_text p text here part ≡ part
  part_kept here part other = ap (λ b. cond b text part) other

  pub dotted_kept : (ds : List DottedOutline) (here : Address) → is_above here p ≡ false → rename_dotted p text here ds ≡ ds
  dotted_kept [] here off = refl
  dotted_kept (d ∷ ds) here off =
      let n = spelled_name d.part in
      ap₂ (λ t r. part_of d t ∷ r) (part_kept (child here n) d.part (child_apart here n off)) (dotted_kept ds (child here n) (above_more here (Name n ∷ []) p off))

  pub key_kept : (a : AssignOutline) (at : Address) → is_above at p ≡ false → rename_outlined p text at a ≡ a
  key_kept a at off =
      let n = spelled_name a.first in
      ap₂ (λ (t : List ℕ) (r : List DottedOutline). record { first = t; rest = r; before_equals = a.before_equals; after_equals = a.after_equals })
      (part_kept (child at n) a.first (child_apart at n off)) (dotted_kept a.rest (child at n) (above_more at (Name n ∷ []) p off))

  -- ---- what stands where the address does not lead

  mutual
    pub value_kept : (v : ValueOutline) (at : Address) → is_above at p ≡ false → rename_outline p text at v ≡ v
    value_kept (Token token) at off = refl
    value_kept (Listed opening es) at off = ap (Listed opening) (listed_kept es at 0 off)
    value_kept (Braced opening es) at off = ap (Braced opening) (braced_kept es at off)

    listed_kept : (es : EntriesOutline) (at : Address) (i : ℕ) → is_above at p ≡ false → rename_listed p text at i es ≡ es
    listed_kept (End gap) at i off = refl
    listed_kept (Entry before a v after es) at i off =
        ap₂ (λ w fs. Entry before a w after fs) (value_kept v (element at i) (above_more at (Index i ∷ []) p off)) (listed_kept es at (i + 1) off)

    braced_kept : (es : EntriesOutline) (at : Address) → is_above at p ≡ false → rename_braced p text at es ≡ es
    braced_kept (End gap) at off = refl
    braced_kept (Entry before None v after es) at off = ap (Entry before None v after) (braced_kept es at off)
    braced_kept (Entry before (Some a) v after es) at off =
        ap₂ (λ b fs. Entry before (Some b) (rename_outline p text (below at (outlined_names a)) v) after fs) (key_kept a at off) (braced_kept es at off)
        ∙ ap (λ w. Entry before (Some a) w after es) (value_kept v (below at (outlined_names a)) (above_more at (map Name (outlined_names a)) p off))

  -- ---- elements

  elements_kept : (es : EntriesOutline) (at : Address) (i : ℕ) → ((j : ℕ) → i ≤ j → is_above (element at j) p ≡ false) → rename_listed p text at i es ≡ es
  elements_kept (End gap) at i off = refl
  elements_kept (Entry before a v after es) at i off =
      ap₂ (λ w fs. Entry before a w after fs) (value_kept v (element at i) (off i (omega arith))) (elements_kept es at (i + 1) (λ j low. off j (omega (arith, low))))

  module _ (at rest : Address) (m : ℕ) (is : p ≡ at ++ Index m ∷ rest) where
    other_element : (i : ℕ) → ¬ (i ≡ m) → is_above (element at i) p ≡ false
    other_element i other =
        let differs : (i == m) ≡ false = grind (arith, nat_tests) in
        ap (is_above (element at i)) is ∙ above_behind at (Index i ∷ []) (Index m ∷ rest) ∙ ap (λ b. b && is_above [] rest) differs

    element_renamed : (es : EntriesOutline) (i k : ℕ) (v w : ValueOutline) → m ≡ i + k → value_in es k ≡ Some v
        → w ≡ rename_outline p text (element at m) v → rename_listed p text at i es ≡ with_value es k w
    element_renamed (End gap) i k v w sum has made = absurd (none-some v has)
    element_renamed (Entry before a u after es) i zero v w sum has made =
        let same : m ≡ i = omega (arith, sum) in
        let own = ap (rename_outline p text (element at i)) (same_Some u v has) ∙ sym (made ∙ ap (λ j. rename_outline p text (element at j) v) same) in
        ap₂ (λ x fs. Entry before a x after fs) own (elements_kept es at (i + 1) (λ j low. other_element j (λ e. absurd (omega (arith, low, e, sum)))))
    element_renamed (Entry before a u after es) i (suc k) v w sum has made =
        ap₂ (λ x fs. Entry before a x after fs) (value_kept u (element at i) (other_element i (λ e. absurd (omega (arith, e, sum)))))
        (element_renamed es (i + 1) k v w (omega (arith, sum)) has made)

    element_missing : (es : EntriesOutline) (i k : ℕ) → m ≡ i + k → value_in es k ≡ None → rename_listed p text at i es ≡ es
    element_missing (End gap) i k sum none = refl
    element_missing (Entry before a u after es) i zero sum none = absurd (none-some u (sym none))
    element_missing (Entry before a u after es) i (suc k) sum none =
        ap₂ (λ x fs. Entry before a x after fs) (value_kept u (element at i) (other_element i (λ e. absurd (omega (arith, e, sum)))))
        (element_missing es (i + 1) k (omega (arith, sum)) none)

-- ---- the parts that stand for the address

dotted_renamed : (text : List ℕ) (ds : List DottedOutline) (here : Address) (s : Step) (steps : Address)
    → rename_dotted (here ++ s ∷ steps) text here ds ≡ cond (reaches (names_of ds) (s ∷ steps)) (dotted_with (length steps) text ds) ds
dotted_renamed text [] here s steps = refl
dotted_renamed text (d ∷ ds) here s [] =
    let n = spelled_name d.part in
    let next = child here n in
    let p = here ++ s ∷ [] in
    let off = above_behind here (Name n ∷ []) (s ∷ []) ∙ and_right (same_step (Name n) s) false refl in
    ap₂ (λ t r. part_of d t ∷ r) (ap (λ b. cond b text d.part) (same_behind here (Name n ∷ []) (s ∷ []))) (dotted_kept p text ds next off)
    ∙ either (same_step (Name n) s)
  where
    either : (c : Bool) → part_of d (cond (c && true) text d.part) ∷ ds ≡ cond (c && true) (part_of d text ∷ ds) (d ∷ ds)
    either true = refl
    either false = refl
dotted_renamed text (d ∷ ds) here s (t ∷ r) =
    let n = spelled_name d.part in
    let next = child here n in
    let p = here ++ s ∷ t ∷ r in
    let apart = same_behind here (Name n ∷ []) (s ∷ t ∷ r) ∙ and_right (same_step (Name n) s) false refl in
    ap₂ (λ x l. part_of d x ∷ l) (part_kept p text next d.part apart) (behind (same_step (Name n) s) refl (dotted_renamed text ds next t r))
    ∙ either (same_step (Name n) s && reaches (names_of ds) (t ∷ r))
  where
    way : Name (spelled_name d.part) ≡ s → child here (spelled_name d.part) ++ t ∷ r ≡ here ++ s ∷ t ∷ r
    way is = append_assoc here (Name (spelled_name d.part) ∷ []) (t ∷ r) ∙ ap (λ x. here ++ x ∷ t ∷ r) is

    behind : (c : Bool) → same_step (Name (spelled_name d.part)) s ≡ c
        → rename_dotted (child here (spelled_name d.part) ++ t ∷ r) text (child here (spelled_name d.part)) ds ≡ cond (reaches (names_of ds) (t ∷ r)) (dotted_with (length r) text ds) ds
        → rename_dotted (here ++ s ∷ t ∷ r) text (child here (spelled_name d.part)) ds ≡ cond (c && reaches (names_of ds) (t ∷ r)) (dotted_with (length r) text ds) ds
    behind true same later =
        subst (λ q. rename_dotted q text (child here (spelled_name d.part)) ds ≡ cond (reaches (names_of ds) (t ∷ r)) (dotted_with (length r) text ds) ds)
        (way (same_step-equal (Name (spelled_name d.part)) s same)) later
    behind false same later =
        dotted_kept (here ++ s ∷ t ∷ r) text ds (child here (spelled_name d.part))
        (above_behind here (Name (spelled_name d.part) ∷ []) (s ∷ t ∷ r) ∙ ap (λ b. b && is_above [] (t ∷ r)) same)

    either : (c : Bool) → d ∷ cond c (dotted_with (length r) text ds) ds ≡ cond c (d ∷ dotted_with (length r) text ds) (d ∷ ds)
    either true = refl
    either false = refl

-- a key as a list of parts
abbrev parts_of : AssignOutline → List DottedOutline
parts_of a = record { before_dot = []; after_dot = []; part = a.first } ∷ a.rest

abbrev of_parts : AssignOutline → List DottedOutline → AssignOutline
of_parts a [] = a
of_parts a (d ∷ ds) = record { first = d.part; rest = ds; before_equals = a.before_equals; after_equals = a.after_equals }

pub key_renamed : (text : List ℕ) (a : AssignOutline) (at steps : Address) → ¬ (steps ≡ []) → rename_outlined (at ++ steps) text at a ≡ key_with steps text a
key_renamed text a at [] some = absurd (some refl)
key_renamed text a at (s ∷ steps) some = ap (of_parts a) (dotted_renamed text (parts_of a) at s steps) ∙ either (reaches (outlined_names a) (s ∷ steps))
  where
    whole : (i : ℕ) → of_parts a (dotted_with i text (parts_of a)) ≡ part_with i text a
    whole zero = refl
    whole (suc i) = refl

    either : (c : Bool) → of_parts a (cond c (dotted_with (length steps) text (parts_of a)) (parts_of a)) ≡ cond c (part_with (length (s ∷ steps) - 1) text a) a
    either true = whole (length steps) ∙ ap (λ i. part_with i text a) (let e : length steps ≡ suc (length steps) - 1 = omega arith in e)
    either false = refl

-- ---- pairs

pub not_none : (parent : Address) (last : Step) → ¬ (parent ++ last ∷ [] ≡ [])
not_none [] last e = cc
not_none (s ∷ parent) last e = cc

module _ (text : List ℕ) (at parent : Address) (last : Step) where
  abbrev steps : Address
  steps = parent ++ last ∷ []

  abbrev p : Address
  p = at ++ steps

  pair_value_kept : (l : Key) (v : ValueOutline) → leads l parent ≡ false → rename_outline p text (below at l) v ≡ v
  pair_value_kept l v off = value_kept p text v (below at l) (above_behind at (map Name l) steps ∙ above_parent (map Name l) parent last ∙ off)

  pair_key_kept : (a : AssignOutline) → reaches (outlined_names a) steps ≡ false → rename_outlined p text at a ≡ a
  pair_key_kept a off = key_renamed text a at steps (not_none parent last) ∙ ap (λ b. cond b (part_with (length steps - 1) text a) a) off

  pairs_renamed : (es : EntriesOutline) → ((i : ℕ) (k : Key) → key_in es i ≡ Some k → leads k parent ≡ false) → rename_braced p text at es ≡ pairs_with steps text es
  pairs_renamed (End gap) off = refl
  pairs_renamed (Entry before None v after es) off = ap (Entry before None v after) (pairs_renamed es (λ i. off (suc i)))
  pairs_renamed (Entry before (Some a) v after es) off =
      ap₂ (λ b fs. Entry before (Some b) (rename_outline p text (below at (outlined_names a)) v) after fs)
      (key_renamed text a at steps (not_none parent last)) (pairs_renamed es (λ i. off (suc i)))
      ∙ ap (λ w. Entry before (Some (key_with steps text a)) w after (pairs_with steps text es)) (pair_value_kept (outlined_names a) v (off zero (outlined_names a) refl))

  -- where one pair leads to the parent
  module _ (k : Key) (led : leads k parent ≡ true) where
    abbrev Apart : Key → Type 0
    Apart l = (leads l parent ≡ false) × (reaches l steps ≡ false)

    apart : (l : Key) → begins_key k l ≡ false → begins_key l k ≡ false → Apart l
    apart l one two = (not_both k l parent led one two, not_reached k l parent last led one)

    pairs_kept : (es : EntriesOutline) → EachIs Apart (keys_of es) → rename_braced p text at es ≡ es
    pairs_kept (End gap) off = refl
    pairs_kept (Entry before None v after es) off = ap (Entry before None v after) (pairs_kept es off)
    pairs_kept (Entry before (Some a) v after es) off =
        ap₂ (λ b fs. Entry before (Some b) (rename_outline p text (below at (outlined_names a)) v) after fs) (pair_key_kept a off.0.1) (pairs_kept es off.1)
        ∙ ap (λ w. Entry before (Some a) w after es) (pair_value_kept (outlined_names a) v off.0.0)

    pair_renamed : (es : EntriesOutline) (i : ℕ) (v w : ValueOutline) → KeysApart (keys_of es) → key_in es i ≡ Some k → value_in es i ≡ Some v
        → w ≡ rename_outline p text (below at k) v → rename_braced p text at es ≡ with_value es i w
    pair_renamed (End gap) i v w alone key has made = absurd (none-some v has)
    pair_renamed (Entry before None u after es) zero v w alone key has made = absurd (none-some k key)
    pair_renamed (Entry before None u after es) (suc i) v w alone key has made = ap (Entry before None u after) (pair_renamed es i v w alone key has made)
    pair_renamed (Entry before (Some a) u after es) zero v w alone key has made =
        let same = same_Some (outlined_names a) k key in
        let own = pair_key_kept a (subst (λ l. reaches l steps ≡ false) (sym same) (too_short k parent last led)) in
        let inner = ap₂ (λ l x. rename_outline p text (below at l) x) same (same_Some u v has) ∙ sym made in
        let two = λ (l : Key). (begins_key (outlined_names a) l ≡ false) × (begins_key l (outlined_names a) ≡ false) in
        let others = each_weaker two Apart (λ l h. subst (λ x. begins_key x l ≡ false → begins_key l x ≡ false → Apart l) (sym same) (apart l) h.0 h.1)
        (keys_of es) (each_of_all two (keys_of es) alone.0) in
        ap₂ (λ b fs. Entry before (Some b) (rename_outline p text (below at (outlined_names a)) u) after fs) own (pairs_kept es others)
        ∙ ap (λ x. Entry before (Some a) x after es) inner
    pair_renamed (Entry before (Some a) u after es) (suc i) v w alone key has made =
        let two = λ (l : Key). (begins_key (outlined_names a) l ≡ false) × (begins_key l (outlined_names a) ≡ false) in
        let here = key_each two es i k (each_of_all two (keys_of es) alone.0) key in
        let off = apart (outlined_names a) here.1 here.0 in
        ap₂ (λ b fs. Entry before (Some b) (rename_outline p text (below at (outlined_names a)) u) after fs) (pair_key_kept a off.1)
        (pair_renamed es i v w alone.1 key has made)
        ∙ ap (λ x. Entry before (Some a) x after (with_value es i w)) (pair_value_kept (outlined_names a) u off.0)

-- ---- whole values

pub no_step : (steps : Address) → length steps ≡ 0 → steps ≡ []
no_step [] is = refl
no_step (s ∷ steps) is = absurd (omega (arith, is))

pub no_step_renamed : (text : List ℕ) (v : ValueOutline) → RenamesIn [] text v v
no_step_renamed text v apart at =
    sym (value_kept (at ++ []) text v at (ap (λ a. is_above a (at ++ [])) (sym (append-nil at)) ∙ above_behind at [] []))

pub list_kept : (steps : Address) (text opening : List ℕ) (es : EntriesOutline) → first_index steps ≡ None → RenamesIn steps text (Listed opening es) (Listed opening es)
list_kept steps text opening es none apart at =
    sym (ap (Listed opening) (elements_kept (at ++ steps) text es at 0 (λ j low. above_behind at (Index j ∷ []) steps ∙ not_first steps j none)))
  where
    not_first : (steps : Address) (j : ℕ) → first_index steps ≡ None → is_above (Index j ∷ []) steps ≡ false
    not_first [] j none = refl
    not_first (Name n ∷ steps) j none = refl
    not_first (Index i ∷ steps) j none = absurd (none-some i (sym none))

pub list_renamed : (steps : Address) (i : ℕ) (text : List ℕ) (old now : Enclosed) → first_index steps ≡ Some i → RenamesEntry i (drop 1 steps) text old now
    → RenamesIn steps text (Listed old.opening old.entries) (Listed now.opening now.entries)
list_renamed steps i text old now first renames apart at = by (value_in old.entries i) refl
  where
    led : steps ≡ Index i ∷ drop 1 steps
    led = index_on steps i first

    is : at ++ steps ≡ at ++ Index i ∷ drop 1 steps
    is = ap (λ s. at ++ s) led

    by : (o : Option ValueOutline) → value_in old.entries i ≡ o → Listed now.opening now.entries ≡ rename_outline (at ++ steps) text at (Listed old.opening old.entries)
    by None none =
        let same = (renames.missing none).0 in
        ap₂ Listed (ap (λ e. e.opening) same) (ap (λ e. e.entries) same ∙ sym (element_missing (at ++ steps) text at (drop 1 steps) i is old.entries 0 i (omega arith) none))
    by (Some v) has =
        let (w, inner, same) = renames.found v has in
        let way : element at i ++ drop 1 steps ≡ at ++ steps = append_assoc at (Index i ∷ []) (drop 1 steps) ∙ sym is in
        let own = inner (apart_in old.entries i v apart has) (element at i) ∙ ap (λ q. rename_outline q text (element at i) v) way in
        ap₂ Listed (ap (λ e. e.opening) same)
        (ap (λ e. e.entries) same ∙ sym (element_renamed (at ++ steps) text at (drop 1 steps) i is old.entries 0 i v w (omega arith) has own))

keys_renamed : (parent : Address) (last : Step) (text : List ℕ) (old now : Enclosed) → LeadsOn old.entries parent None
    → KeysRenamed (parent ++ last ∷ []) text old now
    → RenamesIn (parent ++ last ∷ []) text (Braced old.opening old.entries) (Braced now.opening now.entries)
keys_renamed parent last text old now none same apart at =
    ap₂ Braced (ap (λ e. e.opening) same) (ap (λ e. e.entries) same
    ∙ sym (pairs_renamed text at parent last old.entries (λ i k key. not_led k parent (ap (λ o. led_by o parent) (sym key) ∙ none i))))

pub table_keys_renamed : (whole parent : Address) (last : Step) (text : List ℕ) (old now : Enclosed) → whole ≡ parent ++ last ∷ []
    → LeadsOn old.entries parent None
    → KeysRenamed whole text old now → RenamesIn whole text (Braced old.opening old.entries) (Braced now.opening now.entries)
table_keys_renamed whole parent last text old now split none =
    subst (λ s. KeysRenamed s text old now → RenamesIn s text (Braced old.opening old.entries) (Braced now.opening now.entries)) (sym split)
    (keys_renamed parent last text old now none)

-- what leads to steps leads to longer ones
pub leads_longer : (k : Key) (parent : Address) (last : Step) → leads k parent ≡ true → leads k (parent ++ last ∷ []) ≡ true
leads_longer [] parent last led = refl
leads_longer (n ∷ k) [] last led = absurd (false≢true led)
leads_longer (n ∷ k) (t ∷ parent) last led =
    let (here, behind) = and_parts (same_step (Name n) t) (leads k parent) led in
    and_from (same_step (Name n) t) (leads k (parent ++ last ∷ [])) here (leads_longer k parent last behind)

entry_renamed : (parent : Address) (last : Step) (i used : ℕ) (text : List ℕ) (old now : Enclosed)
    → LeadsOn old.entries parent (Some (i, used))
    → RenamesEntry i (drop used (parent ++ last ∷ [])) text old now → RenamesIn (parent ++ last ∷ []) text (Braced old.opening old.entries) (Braced now.opening now.entries)
entry_renamed parent last i used text old now leading renames apart at =
    let all = parent ++ last ∷ [] in
    let (k, key, long, led) = led_at (key_in old.entries i) parent used leading in
    let (v, has) = has_value old.entries i k key in
    let (w, inner, same) = renames.found v has in
    let behind : map Name k ++ drop used all ≡ all = subst (λ n. map Name k ++ drop n all ≡ all) long (led_on k all (leads_longer k parent last led)) in
    let way : below at k ++ drop used all ≡ at ++ all = append_assoc at (map Name k) (drop used all) ∙ ap (λ s. at ++ s) behind in
    let own = inner (apart_in old.entries i v apart.1 has) (below at k) ∙ ap (λ q. rename_outline q text (below at k) v) way in
    ap₂ Braced (ap (λ e. e.opening) same) (ap (λ e. e.entries) same ∙ sym (pair_renamed text at parent last k led old.entries i v w apart.0 key has own))

pub table_renamed : (whole parent : Address) (last : Step) (i used : ℕ) (text : List ℕ) (old now : Enclosed) → whole ≡ parent ++ last ∷ []
    → LeadsOn old.entries parent (Some (i, used)) → RenamesEntry i (drop used whole) text old now
    → RenamesIn whole text (Braced old.opening old.entries) (Braced now.opening now.entries)
table_renamed whole parent last i used text old now split leading =
    subst (λ s. RenamesEntry i (drop used s) text old now → RenamesIn s text (Braced old.opening old.entries)
    (Braced now.opening now.entries)) (sym split)
    (entry_renamed parent last i used text old now leading)

-- ---- a value to which the address does not lead

pub rename_aside : RenameStaysAside
rename_aside p text at v off = value_kept p text v at off
