-- What the code does along a way, in the words of the tree.
use Rattle.std.proofs.Common.{◌≡◌, ℕ, ◌+◌, ◌-◌, List, [], ◌∷◌, Option, Some, None, Bool, true, false, true≢false, is_some, cond, bytes_eq, string_bytes, refl, sym, ap, subst, ◌∙◌}
use Rattle.std.specs.Prelude.{IfSome, option_map, ◌==◌}
use Rattle.std.specs.BTreeMap.{get, get_by_text, is_at}
use Rattle.std.specs.Cmp.Lexicographic.{bytes_decides, slice_cmp}
use Rattle.std.specs.Ordering.{nat_cmp, is_eq}
use Rattle.std.specs.Cmp.{unsigned_ties}
use Rattle.std.proofs.lemmas.Bool.{eqb-true, eq-eqb}
use Rattle.std.proofs.lemmas.Option.{same_Some}
use Rattle.toml_edits.specs.declared.shifts.Run.{Run}
use Rattle.toml_edits.specs.Runs.{index_in, with_lost, without}
use Rattle.toml_edits.proofs.Indices.{lost_here, lost_high, lost_low, without_high, without_low}
use Rattle.std.specs.Map.{lookup}
use Rattle.toml_names.specs.declared.model.address.Step.{Step}
use Rattle.toml_names.specs.declared.model.address.Step.TheVariants.{Name, Index}
use Rattle.toml_names.specs.model.Addresses.{Address}
use Rattle.toml_names.proofs.Proved.{same_step-self}
use Rattle.toml_edits.specs.declared.moves.Moves.{Moves}
use Rattle.toml_edits.specs.declared.moves.Moves.TheViews.{out-Moves}
use Rattle.toml_edits.specs.declared.moves.Act.{Act}
use Rattle.toml_edits.specs.declared.moves.Act.TheVariants as acts
use Rattle.toml_edits.specs.Fronts.{Goes, Along, IsMarked, with_set, with_below, with_renamed}
use Rattle.toml_edits.specs.Trees.{Told, Down}
use Rattle.toml_edits.specs.Moves.{Elements, Names, Entered, EnteredAt, EnteredElement, element_in, IsElementOpened, IsElementPut, IsFresh, IsKept, IsOpened, IsPut, branch_of, down_of, marks_of, moves, to_of, turn}

pub fresh_down : (to : Told (Option (List ℕ))) (f : Moves) → IsFresh to f → (u : Step) → down_of f u ≡ Some (Some (record { to = u; tree = None }))
fresh_down to f h (Name n) = ap (λ (b : Bool). cond b (Some None) (branch_of n (get_by_text (out-Moves f).names n))) h.3 ∙ ap (branch_of n) (h.2 n)
fresh_down to f h (Index i) =
    ap (λ (b : Bool). cond b (Some None) (element_in (out-Moves f).elements (index_in (out-Moves f).runs i))) h.3 ∙ ap (λ rs. element_in (out-Moves f).elements (index_in rs i)) h.4 ∙ ap (λ (o : Option Moves). Some (Some (record { to = Index i; tree = o }))) (h.5 i)

-- a tree of a thing that no edit touches is as none
pub as_none : (to : Told (Option (List ℕ))) (f t : Moves) → IsFresh to f → (act : Act) (way : Address) → Along moves way (turn act) (Some f) t → Along moves way (turn act) None t
as_none to f t h acts.Set [] e = (e.0 ∙ ap with_set h.1, e.1)
as_none to f t h acts.Stay [] e = (e.0 ∙ ap with_below h.1, λ u. e.1 u ∙ fresh_down to f h u)
as_none to f t h (acts.Lose n) [] e = (e.0 ∙ ap with_below h.1, (λ u x. e.1.0 u x ∙ fresh_down to f h u, e.1.1))
as_none to f t h (acts.Take n m) [] e = (e.0 ∙ ap with_below h.1, (λ u x y. e.1.0 u x y ∙ fresh_down to f h u, subst (λ d. Goes (IsMarked moves) d (down_of t (Name n.now))) (fresh_down to f h (Name m.now)) e.1.1, λ x. subst (λ w. IfSome (down_of t (Name m.now)) (λ d. w ≡ Some d)) (fresh_down to f h (Name m.now)) (e.1.2 x)))
as_none to f t h (acts.LoseAt i) [] e =
    (e.0 ∙ ap with_below h.1, (λ n. e.1.0 n ∙ fresh_down to f h (Name n), λ j l. e.1.1 j l ∙ fresh_down to f h (Index j), e.1.2, λ j l r. e.1.3 j l r ∙ fresh_down to f h (Index (j - 1))))
as_none to f t h (acts.DropAt i) [] e =
    (e.0 ∙ ap with_below h.1, (λ n. e.1.0 n ∙ fresh_down to f h (Name n), λ j l. e.1.1 j l ∙ fresh_down to f h (Index j), λ j l r. e.1.2 j l r ∙ fresh_down to f h (Index (j + 1))))
as_none to f t h acts.Mark [] e = (e.0 ∙ ap with_renamed h.1, λ u. e.1 u ∙ fresh_down to f h u)
as_none to f t h act (s ∷ way) e = (e.0 ∙ ap with_below h.1, λ u x. e.1 u x ∙ fresh_down to f h u, subst (λ d. Goes (Along moves way (turn act)) d (down_of t s)) (fresh_down to f h s) e.2)

-- a tree by what it knows of the name in the end
abbrev named : Moves → Told (Option (List ℕ)) → Down Moves
named t o = option_map (option_map (λ (m : List ℕ). record { to = Name m; tree = Some t })) o

-- behind a name, where a tree was, and where none was
pub child_goes : (act : Act) (way : Address) (n : List ℕ) (old t : Moves) → Entered act way old t → Goes (Along moves way (turn act)) (branch_of n (Some old)) (branch_of n (Some t))
child_goes act way n old t h = by (to_of old) refl
  where
    by : (o : Told (Option (List ℕ))) → to_of old ≡ o → Goes (Along moves way (turn act)) (option_map (option_map (λ m. record { to = Name m; tree = Some old })) o) (branch_of n (Some t))
    by None e = ap (named t) (h.0 ∙ e)
    by (Some None) e = ap (named t) (h.0 ∙ e)
    by (Some (Some m)) e = (t, ap (named t) (h.0 ∙ e), h.1)

pub fresh_goes : (act : Act) (way : Address) (n : List ℕ) (f t : Moves) → IsFresh (Some (Some n)) f → Entered act way f t → Goes (Along moves way (turn act)) (branch_of n None) (branch_of n (Some t))
fresh_goes act way n f t fresh h = (t, ap (named t) (h.0 ∙ fresh.0), as_none (Some (Some n)) f t fresh act way h.1)

-- ---- from the parts to the tree

put_here : (n : List ℕ) (t : Moves) (old new : Names) → IsPut n t old new → get_by_text new n ≡ Some t
put_here n t old new put = put n ∙ ap (λ (b : Bool). cond b (Some t) (get_by_text old n)) (same_step-self (Name n))

-- the tree behind: its fields are those before, but for the mark and these parts
pub record IsBehind (old new : Moves) (names : Names) (runs : List Run) (elements : Elements) : Type 0 where
  pub to : to_of new ≡ to_of old
  pub marks : marks_of new ≡ with_below (marks_of old)
  pub cleared : (out-Moves new).cleared ≡ (out-Moves old).cleared
  pub names_are : (out-Moves new).names ≡ names
  pub runs_are : (out-Moves new).runs ≡ runs
  pub elements_are : (out-Moves new).elements ≡ elements

down_lost : (t : Moves) (u : Step) → (out-Moves t).cleared ≡ true → down_of t u ≡ Some None
down_lost t (Name n) e = ap (λ (b : Bool). cond b (Some None) (branch_of n (get_by_text (out-Moves t).names n))) e
down_lost t (Index i) e = ap (λ (b : Bool). cond b (Some None) (element_in (out-Moves t).elements (index_in (out-Moves t).runs i))) e

-- a name, an index, of which nothing changed
names_same : (old new : Moves) (runs : List Run) (elements : Elements) → IsBehind old new (out-Moves old).names runs elements → (n : List ℕ) → down_of new (Name n) ≡ down_of old (Name n)
names_same old new runs elements b n = ap (λ (x : Bool). cond x (Some None) (branch_of n (get_by_text (out-Moves new).names n))) b.cleared ∙ ap (λ (ns : Names). cond (out-Moves old).cleared (Some None) (branch_of n (get_by_text ns n))) b.names_are

indices_same : (old new : Moves) (names : Names) → IsBehind old new names (out-Moves old).runs (out-Moves old).elements → (i : ℕ) → down_of new (Index i) ≡ down_of old (Index i)
indices_same old new names b i =
    ap (λ (x : Bool). cond x (Some None) (element_in (out-Moves new).elements (index_in (out-Moves new).runs i))) b.cleared
    ∙ ap (λ (es : Elements). cond (out-Moves old).cleared (Some None) (element_in es (index_in (out-Moves new).runs i))) b.elements_are
    ∙ ap (λ (rs : List Run). cond (out-Moves old).cleared (Some None) (element_in (out-Moves old).elements (index_in rs i))) b.runs_are

-- ---- at the end of the way

pub set_there : (old new : Moves) → to_of new ≡ to_of old → marks_of new ≡ with_set (marks_of old) → (out-Moves new).cleared ≡ true → Entered acts.Set [] old new
set_there old new to marks lost = (to, (marks, λ u. down_lost new u lost))

all_same : (old new : Moves) → IsBehind old new (out-Moves old).names (out-Moves old).runs (out-Moves old).elements → (u : Step) → down_of new u ≡ down_of old u
all_same old new b (Name n) = names_same old new (out-Moves old).runs (out-Moves old).elements b n
all_same old new b (Index i) = indices_same old new (out-Moves old).names b i

-- elements shift
shifted : (old new : Moves) (runs : List Run) → IsBehind old new (out-Moves old).names runs (out-Moves old).elements → (j k : ℕ) → index_in runs j ≡ index_in (out-Moves old).runs k → down_of new (Index j) ≡ down_of old (Index k)
shifted old new runs b j k e =
    ap (λ (x : Bool). cond x (Some None) (element_in (out-Moves new).elements (index_in (out-Moves new).runs j))) b.cleared
    ∙ ap (λ (es : Elements). cond (out-Moves old).cleared (Some None) (element_in es (index_in (out-Moves new).runs j))) b.elements_are
    ∙ ap (λ (rs : List Run). cond (out-Moves old).cleared (Some None) (element_in (out-Moves old).elements (index_in rs j))) b.runs_are
    ∙ ap (λ (o : Option ℕ). cond (out-Moves old).cleared (Some None) (element_in (out-Moves old).elements o)) e

pub drop_there : (i : ℕ) (old new : Moves) → IsBehind old new (out-Moves old).names (without i (out-Moves old).runs) (out-Moves old).elements → Entered (acts.DropAt i) [] old new
drop_there i old new b =
    (b.to, (b.marks, (names_same old new _ (out-Moves old).elements b, λ j l. shifted old new _ b j j (without_low i (out-Moves old).runs j l), λ j l r. shifted old new _ b j (j + 1) (without_high i (out-Moves old).runs j l r))))

pub lose_at_there : (i : ℕ) (old new : Moves) → IsBehind old new (out-Moves old).names (with_lost i (out-Moves old).runs) (out-Moves old).elements → Entered (acts.LoseAt i) [] old new
lose_at_there i old new b = (
  b.to,
  (
    b.marks,
    (
      names_same old new _ (out-Moves old).elements b,
      λ j l. shifted old new _ b j j (lost_low i (out-Moves old).runs j l),
      gone,
      λ j l r. shifted old new _ b j (j - 1) (lost_high i (out-Moves old).runs j l r),
    ),
  ),
)
  where
    by : (x : Bool) → cond x (Some None) (element_in (out-Moves old).elements None) ≡ Some None
    by true = refl
    by false = refl

    gone : down_of new (Index i) ≡ Some None
    gone =
        ap (λ (x : Bool). cond x (Some None) (element_in (out-Moves new).elements (index_in (out-Moves new).runs i))) b.cleared
        ∙ ap (λ (es : Elements). cond (out-Moves old).cleared (Some None) (element_in es (index_in (out-Moves new).runs i))) b.elements_are
        ∙ ap (λ (rs : List Run). cond (out-Moves old).cleared (Some None) (element_in (out-Moves old).elements (index_in rs i))) b.runs_are
        ∙ ap (λ (o : Option ℕ). cond (out-Moves old).cleared (Some None) (element_in (out-Moves old).elements o)) (lost_here i (out-Moves old).runs) ∙ by (out-Moves old).cleared

-- ---- the tree that is put under the new name, of what was taken out

-- ---- what the code put in behind a name

pub names_still : (old new : Names) → new.entries ≡ old.entries → (m : List ℕ) → get_by_text new m ≡ get_by_text old m
names_still old new same m = ap (lookup (is_at (λ k. slice_cmp nat_cmp m (string_bytes k)))) same

pub elements_still : (old new : Elements) → new.entries ≡ old.entries → (j : ℕ) → get nat_cmp new j ≡ get nat_cmp old j
elements_still old new same j = ap (lookup (is_at (nat_cmp j))) same

same_index : (i j : ℕ) → is_eq (nat_cmp i j) ≡ (i == j)
same_index i j = sym (unsigned_ties i j)

-- an element was put in, and nothing changed before
pub element_put : (old mid new : Elements) (i : ℕ) (t : Moves) → mid.entries ≡ old.entries → ((j : ℕ) → get nat_cmp new j ≡ cond (is_at (nat_cmp i) j) (Some t) (get nat_cmp mid j))
    → (j : ℕ) → get nat_cmp new j ≡ cond (i == j) (Some t) (get nat_cmp old j)
element_put old mid new i t same more j =
    more j ∙ ap (λ b. cond b (Some t) (get nat_cmp mid j)) (same_index i j) ∙ ap (cond (i == j) (Some t)) (elements_still old mid same j)

-- a tree that is there, put in once more
same_put : (n : List ℕ) (u : Moves) (ns : Names) → get_by_text ns n ≡ Some u → IsPut n u ns ns
same_put n u ns is m = by (bytes_eq n m) refl
  where
    by : (b : Bool) → bytes_eq n m ≡ b → get_by_text ns m ≡ cond b (Some u) (get_by_text ns m)
    by false e = refl
    by true e = ap (get_by_text ns) (sym ((bytes_decides n m).0 e)) ∙ is

same_element_put : (f : ℕ) (u : Moves) (es : Elements) → get nat_cmp es f ≡ Some u → IsElementPut f u es es
same_element_put f u es is g = by (f == g) refl
  where
    by : (b : Bool) → f == g ≡ b → get nat_cmp es g ≡ cond b (Some u) (get nat_cmp es g)
    by false e = refl
    by true e = ap (get nat_cmp es) (sym (eqb-true f g e)) ∙ is

-- a tree put over another at one place
over : (b : Bool) (x y z : Option Moves) → cond b x (cond b y z) ≡ cond b x z
over true x y z = refl
over false x y z = refl

pub name_opened : (n : List ℕ) (old new : Names) (b : Bool) → new.entries ≡ old.entries → b ≡ is_some (get_by_text old n) → b ≡ true → IsOpened n old new
name_opened n old new b same told there = by (get_by_text old n) refl
  where
    by : (o : Option Moves) → get_by_text old n ≡ o → IsOpened n old new
    by None e = absurd (true≢false (sym there ∙ told ∙ ap is_some e))
    by (Some u) e = (u, λ m. names_still old new same m ∙ same_put n u old e m, subst (λ o. IsKept (Some (Some n)) o u) (sym e) refl)

pub element_opened : (f : ℕ) (old new : Elements) (b : Bool) → new.entries ≡ old.entries → b ≡ is_some (get nat_cmp old f) → b ≡ true → IsElementOpened f old new
element_opened f old new b same told there = by (get nat_cmp old f) refl
  where
    by : (o : Option Moves) → get nat_cmp old f ≡ o → IsElementOpened f old new
    by None e = absurd (true≢false (sym there ∙ told ∙ ap is_some e))
    by (Some u) e = (u, λ g. elements_still old new same g ∙ same_element_put f u old e g, subst (λ o. IsKept (Some None) o u) (sym e) refl)

none_there : (o : Option Moves) (b : Bool) → b ≡ is_some o → b ≡ false → o ≡ None
none_there None b told none = refl
none_there (Some u) b told none = absurd (true≢false (sym told ∙ none))

pub name_put : (n : List ℕ) (f : Moves) (old new : Names) (b : Bool) → b ≡ is_some (get_by_text old n) → b ≡ false → IsPut n f old new → IsFresh (Some (Some n)) f → IsOpened n old new
name_put n f old new b told none put fresh = (f, put, subst (λ o. IsKept (Some (Some n)) o f) (sym (none_there (get_by_text old n) b told none)) fresh)

pub element_was_put : (f : ℕ) (t : Moves) (old new : Elements) (b : Bool) → b ≡ is_some (get nat_cmp old f) → b ≡ false → IsElementPut f t old new → IsFresh (Some None) t → IsElementOpened f old new
element_was_put f t old new b told none put fresh = (t, put, subst (λ o. IsKept (Some None) o t) (sym (none_there (get nat_cmp old f) b told none)) fresh)

kept_goes : (act : Act) (way : Address) (n : List ℕ) (o : Option Moves) (u t : Moves) → IsKept (Some (Some n)) o u → Entered act way u t → Goes (Along moves way (turn act)) (branch_of n o) (branch_of n (Some t))
kept_goes act way n None u t fresh e = fresh_goes act way n u t fresh e
kept_goes act way n (Some v) u t same e = child_goes act way n v t (subst (λ x. Entered act way x t) (sym same) e)

kept_along : (act : Act) (way : Address) (o : Option Moves) (u t : Moves) → IsKept (Some None) o u → Entered act way u t → Along moves way (turn act) o t
kept_along act way None u t fresh e = as_none (Some None) u t fresh act way e.1
kept_along act way (Some v) u t same e = subst (λ x. Along moves way (turn act) (Some x) t) (sym same) e.1

-- the tree that is there now is the one that was put in
pub opened_entered : (act : Act) (way : Address) (n : List ℕ) (old mid new : Names) (u t : Moves) → IsOpened n old mid → get_by_text mid n ≡ Some u → IsPut n t mid new → Entered act way u t → EnteredAt act n way old new
opened_entered act way n old mid new u t h at put e = (
  t,
  λ m. put m ∙ ap (cond (bytes_eq n m) (Some t)) (h.1 m) ∙ over (bytes_eq n m) (Some t) (Some h.0) (get_by_text old m),
  kept_goes act way n (get_by_text old n) h.0 t h.2 (subst (λ x. Entered act way x t) (same_Some u h.0 (sym at ∙ put_here n h.0 old mid h.1)) e),
)

pub element_entered : (act : Act) (way : Address) (f : ℕ) (old mid new : Elements) (u t : Moves) → IsElementOpened f old mid → get nat_cmp mid f ≡ Some u → IsElementPut f t mid new → Entered act way u t → EnteredElement act f way old new
element_entered act way f old mid new u t h at put e = (
  t,
  λ g. put g ∙ ap (cond (f == g) (Some t)) (h.1 g) ∙ over (f == g) (Some t) (Some h.0) (get nat_cmp old g),
  kept_along act way (get nat_cmp old f) h.0 t h.2 (subst (λ x. Entered act way x t) (same_Some u h.0 (sym at ∙ h.1 f ∙ ap (λ (b : Bool). cond b (Some h.0) (get nat_cmp old f)) (eq-eqb f f refl))) e),
)

pub lose_at_told : (act : Act) (i : ℕ) (old new : Moves) (runs : List Run) → act ≡ acts.LoseAt i → IsBehind old new (out-Moves old).names runs (out-Moves old).elements → runs ≡ with_lost i (out-Moves old).runs → Entered act [] old new
lose_at_told act i old new runs is behind h = subst (λ x. Entered x [] old new) (sym is) (lose_at_there i old new (subst (λ rs. IsBehind old new (out-Moves old).names rs (out-Moves old).elements) h behind))

pub drop_at_told : (act : Act) (i : ℕ) (old new : Moves) (runs : List Run) → act ≡ acts.DropAt i → IsBehind old new (out-Moves old).names runs (out-Moves old).elements → runs ≡ without i (out-Moves old).runs → Entered act [] old new
drop_at_told act i old new runs is behind h = subst (λ x. Entered x [] old new) (sym is) (drop_there i old new (subst (λ rs. IsBehind old new (out-Moves old).names rs (out-Moves old).elements) h behind))
