-- Pairs of an inline table that read alike: the same of them go, and where one is put in, it is at the same place.
use Rattle.std.proofs.Common.{◌≡◌, ◌∙◌, ℕ, zero, suc, Bool, true, false, not, ◌&&◌, ◌||◌, List, [], ◌∷◌, Option, Some, None, Box, length, map, set, take, inl, inr, refl, ap, ap₂, sym, subst, subst₂, arith}
use Rattle.std.proofs.lemmas.Bool.{cases_lt, false≢true}
use Rattle.std.proofs.lemmas.List.{map-set}
use Rattle.std.proofs.lemmas.Option.{none-some, same_Some}
use Rattle.std.specs.Global.{Global}
use Rattle.std.specs.List.{list_any, remove}
use Rattle.std.specs.Prelude.{option_and_then, option_map, slice_get}
use Rattle.toml_names.specs.model.Addresses.{Address}
use Rattle.toml_layout.specs.declared.layout.Layout.{Layout}
use Rattle.toml_layout.specs.declared.layout.Layout.TheVariants as layouts
use Rattle.toml_layout.specs.declared.tree.Assign.{Assign}
use Rattle.toml_layout.specs.declared.tree.Value.{Value}
use Rattle.toml_layout.specs.Emptying.{assign_cut}
use Rattle.toml_layout.specs.Items.{Item, Items}
use Rattle.toml_layout.specs.Leading.{open_names}
use Rattle.toml_layout.specs.NewKeys.{key_of}
use Rattle.toml_layout.specs.OpenOutlines.{EntryOutline, assign, leaf_text, parts_read}
use Rattle.toml_layout.specs.OpenOutlines as outlines
use Rattle.toml_layout.specs.Outlines.{AssignOutline}
use Rattle.toml_layout.specs.PairPlaces.{IsBehindLast, IsPairPlace, IsPlaceBelow, PutsPair, equals_above, goes_on, goes_on_at, item_equals, item_key, laid_key, spaced_behind}
use Rattle.toml_layout.specs.PairRemovals.{EmptiesIf, IsEmptied, ReplacesFirst, TakesBy, TakesPairs, is_kept, is_left, key_reaches, marks_at}
use Rattle.toml_layout.specs.Rooms.{PutsItem}
use Rattle.toml_layout.specs.SetOutlines.{outlined_names}
use Rattle.toml_layout.specs.Takings.{IsFirstMark, TakesAll, TakesMany, TakesOne, item_above}
use Rattle.toml_layout.proofs.SameEntries.{outlines_same}
use Rattle.toml_layout.proofs.SameItems.{SameItems, above_same, count_same, got_same, in_both, item_outline, taking_same}
use Rattle.toml_layout.proofs.SameParts.{none_one, same_head, same_tail}
use Rattle.toml_layout.proofs.SameRooms.{putting_same}

-- ---- keys

key_so : (o : Option (Box Assign Global)) → option_map (λ a. open_names a.value.key) o ≡ option_map outlined_names (option_map (λ a. assign a.value) o)
key_so None = refl
key_so (Some a) = refl

key_same : (x y : Item) → item_outline x ≡ item_outline y → item_key x ≡ item_key y
key_same x y same = key_so x.assign ∙ ap (λ (e : EntryOutline). option_map outlined_names e.assign) same ∙ sym (key_so y.assign)

-- what is so of each two is so of the lists
in_each : (P : List Item → List Item → Type 0) → P [] [] → ((x y : Item) (xs ys : List Item) → item_outline x ≡ item_outline y → P xs ys → P (x ∷ xs) (y ∷ ys))
    → (xs ys : List Item) → map item_outline xs ≡ map item_outline ys → P xs ys
in_each P none each [] [] same = none
in_each P none each [] (y ∷ ys) same = absurd (none_one (item_outline y) (map item_outline ys) same)
in_each P none each (x ∷ xs) [] same = absurd (none_one (item_outline x) (map item_outline xs) (sym same))
in_each P none each (x ∷ xs) (y ∷ ys) same =
    each x y xs ys (same_head (item_outline x) (item_outline y) (map item_outline xs) (map item_outline ys) same)
    (in_each P none each xs ys (same_tail (item_outline x) (item_outline y) (map item_outline xs) (map item_outline ys) same))

marks_same : (steps : Address) (xs ys : List Item) → map item_outline xs ≡ map item_outline ys → marks_at steps xs ≡ marks_at steps ys
marks_same steps = in_each (λ xs ys. marks_at steps xs ≡ marks_at steps ys) refl
    (λ x y xs ys same rest. ap₂ ◌∷◌ (ap (key_reaches steps) (key_same x y same)) rest)

left_same : (parent steps : Address) (xs ys : List Item) → map item_outline xs ≡ map item_outline ys → is_left parent steps xs ≡ is_left parent steps ys
left_same [] steps xs ys same = refl
left_same (s ∷ parent) steps xs ys same = in_each (λ xs ys. list_any (is_kept (s ∷ parent) steps) xs ≡ list_any (is_kept (s ∷ parent) steps) ys) refl
    (λ x y xs ys same rest. ap₂ ◌||◌
    (ap (λ k. key_reaches (s ∷ parent) k && not (key_reaches steps k)) (key_same x y same)) rest) xs ys same

-- ---- items that go one after the other

some_marked : (marks : List Bool) (i : ℕ) → slice_get marks i ≡ Some true → list_any (λ m. m) marks ≡ false → ⊥
some_marked [] i marked none = none-some true marked
some_marked (true ∷ marks) i marked none = false≢true (sym none)
some_marked (false ∷ marks) zero marked none = false≢true (same_Some false true marked)
some_marked (false ∷ marks) (suc i) marked none = some_marked marks i marked none

one_first : (marks : List Bool) (i j : ℕ) → slice_get marks i ≡ Some true → slice_get marks j ≡ Some true → list_any (λ m. m) (take i marks) ≡ false
    → list_any (λ m. m) (take j marks) ≡ false → i ≡ j
one_first [] i j one other none never = absurd (none-some true one)
one_first (m ∷ marks) zero zero one other none never = refl
one_first (true ∷ marks) zero (suc j) one other none never = absurd (false≢true (sym never))
one_first (true ∷ marks) (suc i) j one other none never = absurd (false≢true (sym none))
one_first (false ∷ marks) zero (suc j) one other none never = absurd (false≢true (same_Some false true one))
one_first (false ∷ marks) (suc i) zero one other none never = absurd (false≢true (same_Some false true other))
one_first (false ∷ marks) (suc i) (suc j) one other none never = ap suc (one_first marks i j one other none never)

first_one : (marks : List Bool) (i j : ℕ) → IsFirstMark marks i → IsFirstMark marks j → i ≡ j
first_one marks i j one other = one_first marks i j one.marked other.marked one.first other.first

taking_many_same : (layout : Layout) (n m : ℕ) (marks : List Bool) (a b c d : Items) → SameItems a b → TakesMany layout n marks a c → TakesMany layout m marks b d → SameItems c d
taking_many_same layout zero zero marks a b c d same (none, is) (never, other) = subst₂ SameItems (sym is) (sym other) same
taking_many_same layout zero (suc m) marks a b c d same (none, is) (left, mid, first, rest) = absurd (some_marked marks first.index first.first.marked none)
taking_many_same layout (suc n) zero marks a b c d same (left, mid, first, rest) (none, is) = absurd (some_marked marks first.index first.first.marked none)
taking_many_same layout (suc n) (suc m) marks a b c d same (left, mid, first, rest) (others, more, second, behind) =
    let at : second.index ≡ first.index = first_one marks second.index first.index second.first first.first in
    let mids : SameItems mid more = taking_same layout first.index a b mid more first.takes (subst (λ i. TakesOne layout i b more) at second.takes) same in
    let lefts : others ≡ left = second.left_are ∙ ap (remove marks) at ∙ sym first.left_are in
    taking_many_same layout n m left mid more c d mids rest (subst (λ l. TakesMany layout m l more d) lefts behind)

taking_all_same : (layout : Layout) (marks : List Bool) (a b c d : Items) → SameItems a b → TakesAll layout marks a c → TakesAll layout marks b d → SameItems c d
taking_all_same layout marks a b c d same (n, many) (m, more) = taking_many_same layout n m marks a b c d same many more

-- ---- a pair that comes to stand for its table

cut_so : (parts : ℕ) (o : Option (Box Assign Global)) → option_map (λ a. assign_cut parts (assign a.value)) o ≡ option_map (assign_cut parts) (option_map (λ a. assign a.value) o)
cut_so parts None = refl
cut_so parts (Some a) = refl

emptied_same : (parts : ℕ) (x y u v : Item) → item_outline x ≡ item_outline y → IsEmptied parts x u → IsEmptied parts y v → item_outline u ≡ item_outline v
emptied_same parts x y u v same one other =
    outlines_same (item_outline u) (item_outline v)
    (ap parts_read one.before ∙ ap (λ (e : EntryOutline). e.before) same ∙ sym (ap parts_read other.before))
    (one.key_is ∙ cut_so parts x.assign ∙ ap (λ (e : EntryOutline). option_map (assign_cut parts) e.assign) same ∙ sym (cut_so parts y.assign) ∙ sym other.key_is)
    (one.value_is ∙ sym other.value_is)
    (ap parts_read one.after ∙ ap (λ (e : EntryOutline). e.after) same ∙ sym (ap parts_read other.after))

got_one : (a b : Items) → SameItems a b → (i : ℕ) (x y : Item) → slice_get a.list i ≡ Some x → slice_get b.list i ≡ Some y → item_outline x ≡ item_outline y
got_one a b same i x y here there =
    same_Some (item_outline x) (item_outline y) (sym (ap (option_map item_outline) here) ∙ got_same a b same i i refl ∙ ap (option_map item_outline) there)

not_one : (a b : Items) → SameItems a b → (i : ℕ) (y : Item) → slice_get a.list i ≡ None → slice_get b.list i ≡ Some y → ⊥
not_one a b same i y none there =
    none-some (item_outline y) (sym (ap (option_map item_outline) none) ∙ got_same a b same i i refl ∙ ap (option_map item_outline) there)

same_back : (a b : Items) → SameItems a b → SameItems b a
same_back a b same = record { opening = sym same.opening; list = sym same.list; end = sym same.end }

emptying_same : (parts i : ℕ) (a b c d : Items) → SameItems a b → EmptiesIf parts i a c → EmptiesIf parts i b d → SameItems c d
emptying_same parts i a b c d same (inl (none, is)) (inl (never, other)) = subst₂ SameItems (sym is) (sym other) same
emptying_same parts i a b c d same (inl (none, is)) (inr other) = absurd (not_one a b same i other.one none other.here)
emptying_same parts i a b c d same (inr one) (inl (none, is)) = absurd (not_one b a (same_back a b same) i one.one none one.here)
emptying_same parts i a b c d same (inr one) (inr other) = subst₂ SameItems (sym one.now_is) (sym other.now_is) (record {
  opening = same.opening;
  list = map-set item_outline a.list i one.other
      ∙ ap₂ (λ l e. set l i e) same.list
      (emptied_same parts one.one other.one one.other other.other (got_one a b same i one.one other.one one.here other.here) one.emptied other.emptied)
      ∙ sym (map-set item_outline b.list i other.other);
  end = same.end;
})

replacing_same : (parts : ℕ) (marks left more : List Bool) (a b c d : Items) → SameItems a b → ReplacesFirst parts marks left a c → ReplacesFirst parts marks more b d
    → (left ≡ more) × SameItems c d
replacing_same parts marks left more a b c d same (inl (none, left_is, is)) (inl (never, more_is, other)) =
    (left_is ∙ sym more_is, subst₂ SameItems (sym is) (sym other) same)
replacing_same parts marks left more a b c d same (inl (none, left_is, is)) (inr (j, first, more_is, other)) = absurd (some_marked marks j first.marked none)
replacing_same parts marks left more a b c d same (inr (i, first, left_is, one)) (inl (none, more_is, other)) = absurd (some_marked marks i first.marked none)
replacing_same parts marks left more a b c d same (inr (i, first, left_is, one)) (inr (j, second, more_is, other)) =
    let at = first_one marks j i second first in
    (left_is ∙ sym (more_is ∙ ap (λ k. set marks k false) at), emptying_same parts i a b c d same one (subst (λ k. EmptiesIf parts k b d) at other))

taking_by_same : (k : Bool) (layout : Layout) (parts : ℕ) (marks : List Bool) (a b c d : Items) → SameItems a b → TakesBy k layout parts marks a c → TakesBy k layout parts marks b d
    → SameItems c d
taking_by_same true layout parts marks a b c d same one other = taking_all_same layout marks a b c d same one other
taking_by_same false layout parts marks a b c d same (left, mid, one, takes) (more, middle, other, taken) =
    let both = replacing_same parts marks left more a b mid middle same one other in
    taking_all_same layout left mid middle c d both.1 takes (subst (λ l. TakesAll layout l middle d) (sym both.0) taken)

pub pairs_taken_same : (layout : Layout) (parent steps : Address) (a b c d : Items) → SameItems a b → TakesPairs layout parent steps a c → TakesPairs layout parent steps b d
    → SameItems c d
pairs_taken_same layout parent steps a b c d same one other =
    taking_by_same (is_left parent steps a.list) layout (length parent) (marks_at steps a.list) a b c d same one
    (subst₂ (λ k marks. TakesBy k layout (length parent) marks b d) (sym (left_same parent steps a.list b.list same.list)) (sym (marks_same steps a.list b.list same.list)) other)

-- ---- where a pair is put in

goes_on_same : (a b : Items) → SameItems a b → (steps : Address) (k : ℕ) → goes_on_at steps a.list k ≡ goes_on_at steps b.list k
goes_on_same a b same steps k =
    in_both item_outline (λ o p. goes_on steps (option_and_then item_key o) ≡ goes_on steps (option_and_then item_key p)) refl
    (λ x y one. ap (goes_on steps) (key_same x y one)) (slice_get a.list k) (slice_get b.list k) (got_same a b same k k refl)

behind_last_one : (test other : ℕ → Bool) → ((k : ℕ) → test k ≡ other k) → (n m i j : ℕ) → n ≡ m → IsBehindLast test n i → IsBehindLast other m j → i ≡ j
behind_last_one test other same n m i j count (inl (k, is, on, off)) (inl (l, too, there, never)) = elim (cases_lt k l) [
  | inl low ↦ absurd (false≢true (sym (off l low) ∙ same l ∙ there))
  | inr high ↦ elim (cases_lt l k) [
    | inl low ↦ absurd (false≢true (sym (never k low) ∙ sym (same k) ∙ on))
    | inr back ↦ omega (arith, is, too, high, back)
  ]
]
behind_last_one test other same n m i j count (inl (k, is, on, off)) (inr (too, never)) = absurd (false≢true (sym (never k) ∙ sym (same k) ∙ on))
behind_last_one test other same n m i j count (inr (is, off)) (inl (l, too, there, never)) = absurd (false≢true (sym (off l) ∙ same l ∙ there))
behind_last_one test other same n m i j count (inr (is, off)) (inr (too, never)) = is ∙ count ∙ sym too

place_below_same : (a b : Items) → SameItems a b → (parent : Address) (i j : ℕ) → IsPlaceBelow parent a.list i → IsPlaceBelow parent b.list j → i ≡ j
place_below_same a b same [] i j one other = one ∙ count_same a b same ∙ sym other
place_below_same a b same (s ∷ parent) i j one other =
    behind_last_one (goes_on_at (s ∷ parent) a.list) (goes_on_at (s ∷ parent) b.list) (goes_on_same a b same (s ∷ parent)) (length a.list) (length b.list) i j
    (count_same a b same) one other

place_same : (layout : Layout) (a b : Items) → SameItems a b → (parent : Address) (i j : ℕ) → IsPairPlace layout parent a.list i → IsPairPlace layout parent b.list j → i ≡ j
place_same layouts.Plain a b same parent i j one other = one ∙ count_same a b same ∙ sym other
place_same layouts.Follow a b same parent i j one other = place_below_same a b same parent i j one other

-- ---- its key

abbrev equals_of : AssignOutline → List ℕ × List ℕ
equals_of a = (a.before_equals, a.after_equals)

equals_so : (o : Option (Box Assign Global))
    → option_map (λ (a : Box Assign Global). (leaf_text a.value.before_equals, leaf_text a.value.after_equals)) o ≡ option_map equals_of (option_map (λ a. assign a.value) o)
equals_so None = refl
equals_so (Some a) = refl

equals_same : (a b : Items) → SameItems a b → (i : ℕ) → equals_above a i ≡ equals_above b i
equals_same a b same i =
    in_both item_outline (λ o p. option_and_then item_equals o ≡ option_and_then item_equals p) refl
    (λ x y one. equals_so x.assign ∙ ap (λ (e : EntryOutline). option_map equals_of e.assign) one ∙ sym (equals_so y.assign))
    (item_above a i) (item_above b i) (above_same a b same i)

laid_same : (layout : Layout) (a b : Items) → SameItems a b → (i : ℕ) (k : AssignOutline) → laid_key layout a i k ≡ laid_key layout b i k
laid_same layouts.Plain a b same i k = refl
laid_same layouts.Follow a b same i k = ap (λ o. spaced_behind o k) (equals_same a b same i)

pub pair_put_same : (layout : Layout) (parts : List (List ℕ)) (v w : Value) (parent : Address) (a b c d : Items) → SameItems a b → outlines.value v ≡ outlines.value w
    → PutsPair layout parts v parent a c → PutsPair layout parts w parent b d → SameItems c d
pair_put_same layout parts v w parent a b c d same new one other =
    let at : other.index ≡ one.index = sym (place_same layout a b same parent one.index other.index one.place other.place) in
    let key : assign one.key.value ≡ assign other.key.value =
    one.spelled ∙ laid_same layout a b same one.index (key_of parts) ∙ sym (other.spelled ∙ ap (λ i. laid_key layout b i (key_of parts)) at) in
    putting_same layout one.index (Some one.key) (Some other.key) v w a b c d one.puts (subst (λ i. PutsItem layout i (Some other.key) w b d) at other.puts) (ap Some key) new same
