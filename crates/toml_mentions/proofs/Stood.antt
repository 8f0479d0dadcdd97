-- The place in the text behind a line more: the table of the last header, and the counts of the arrays of tables.
use Rattle.std.proofs.Common.{◌≡◌, ◌≢◌, eq-eqb, ne_eqb, ◌⊎◌, inl, inr, ◌<◌, ◌≤◌, ◌+◌, ◌-◌, ℕ, zero, suc, Bool, true, false, List, [], ◌∷◌, ◌++◌, length, take, Option, Some, None, Result, Ok, Err, refl, sym, ap, ◌∙◌, subst, arith, append-nil, append_assoc}
use Rattle.std.specs.declared.alloc.AllocError.{AllocError}
use Rattle.std.specs.Prelude.{OnOk, cond, if◌then◌else◌, slice_index, slice_set, ◌&&◌, ◌==◌}
use Rattle.std.proofs.lemmas.List.{get_or-set_same, get_or-set_other, length-set}
use Rattle.std.proofs.lemmas.Option.{none-some}
use Rattle.toml_tree.specs.Tree.{Piece, Blank, KeyVal, Key, BlankLine, KeyValLine}
use Rattle.toml_tree.specs.Tree as tree
use Rattle.toml_names.specs.declared.mentions.mention.Role.TheVariants.{Passed, Header, Tables, Element}
use Rattle.toml_names.specs.declared.model.address.Step.TheVariants.{Index}
use Rattle.toml_names.specs.model.Addresses.{Address, same_address, child, element}
use Rattle.toml_names.specs.mentions.Keys.{key_names, part_name}
use Rattle.toml_names.specs.mentions.Mentions.{Named, an_array, count_tables, ends_table, ends_tables, entered, followed, is_tables_at, pair_named, section, table_at}
use Rattle.toml_names.proofs.Proved.{count-append, pairs_leave_alike, section_from-append}
use Rattle.toml_mentions.specs.Sought.{Counts, IsFrontOf, IsSeen, Part, Sees, Sight, Stands, Takes, TakesElement, TakesExpr, count_at, followed_parts, most_lines, pair_parts, part_at, passes, set_at, sights, table_parts, tables_parts, way_to}
use Rattle.toml_mentions.specs.declared.seeker.Seeker.{Seeker}
use Rattle.toml_mentions.proofs.Sights.{sees_then, sights-append}
use Rattle.toml_mentions.proofs.Ways.{off, take_apart, take_here, way_is_take, way_low}

and_false : (b : Bool) → (b && false) ≡ false
and_false true = refl
and_false false = refl

and_true : (b : Bool) → (b && true) ≡ b
and_true true = refl
and_true false = refl

abbrev one_or_none : Bool → ℕ
one_or_none b = cond b 1 0

count_one : (m : Named) (x : Address) → count_tables (m ∷ []) x ≡ one_or_none (is_tables_at x m)
count_one m x = omega arith

-- what a header passes through counts no table
count_passes : (line : ℕ) (done : List Part) (x : Address) → count_tables (passes line done) x ≡ 0
count_passes line [] x = refl
count_passes line (q ∷ done) x =
    let a = count-append (table_at line Passed q.address ∷ []) (passes line done) x in
    let b = count_one (table_at line Passed q.address) x in
    let c : one_or_none (is_tables_at x (table_at line Passed q.address)) ≡ 0 = ap one_or_none (and_false (same_address q.address x)) in
    let d = count_passes line done x in
    omega (arith, a, b, c, d)

-- the end of a header
count_table : (line : ℕ) (q x : Address) → count_tables (ends_table line q) x ≡ 0
count_table line q x = count_one (table_at line Header q) x ∙ ap one_or_none (and_false (same_address q x))

count_element : (line : ℕ) (earlier : List Named) (q x : Address) → count_tables (ends_tables line earlier q) x ≡ one_or_none (same_address q x)
count_element line earlier q x =
    let first : Named = record { address = q; role = Tables; kind = an_array; line = line } in
    let second = table_at line Element (element q (count_tables earlier q)) in
    let a = count-append (first ∷ []) (second ∷ []) x in
    let b = count_one first x in
    let c = count_one second x in
    let d : one_or_none (is_tables_at x first) ≡ one_or_none (same_address q x) = ap one_or_none (and_true (same_address q x)) in
    let e : one_or_none (is_tables_at x second) ≡ 0 = ap one_or_none (and_false (same_address (element q (count_tables earlier q)) x)) in
    omega (arith, a, b, c, d, e)

-- counts stay where none is added
same_counts : (counts : List ℕ) (t : Address) (earlier more : List Named) → ((x : Address) → count_tables more x ≡ 0) → Counts counts t earlier → Counts counts t (earlier ++ more)
same_counts counts t earlier more none h = record {
  long = h.long;
  each = λ d low.
      let a = h.each d low in
      let b = count-append earlier more (take d t) in
      let c = none (take d t) in
      omega (arith, a, b, c);
}

-- what a step further on a header's way is
pub entered_way : (t : Address) (counts : List ℕ) (earlier : List Named) (at : Address) (d : ℕ) → Some d ≡ way_to t at → Counts counts t earlier → count_at counts (Some d) ≡ count_tables earlier at
entered_way t counts earlier at d h c = c.each d (way_low t at d h) ∙ ap (count_tables earlier) (sym (way_is_take t at d h))

module _ (t : Address) (counts : List ℕ) (earlier : List Named) (at : Address) where
  enters : (n last : ℕ) → n ≡ last + 1 → (if n == 0 then at else element at (n - 1)) ≡ element at last
  enters n last e =
      let some : n ≢ 0 = omega (arith, e) in
      ap (λ b. if b then at else element at (n - 1)) (ne_eqb n 0 some) ∙ ap (element at) (omega (arith, e))

  stays : (n : ℕ) → n ≡ 0 → (if n == 0 then at else element at (n - 1)) ≡ at
  stays n e = ap (λ b. if b then at else element at (n - 1)) (eq-eqb n 0 e)

  pub entered_some : (way : Option ℕ) → way ≡ way_to t at → Counts counts t earlier → (last : ℕ) → count_at counts way ≡ last + 1 → (r : Option ℕ) → r ≡ way_to t (element at last)
      → r ≡ way_to t (entered earlier at)
  entered_some None h c last is r e = absurd (omega (arith, is))
  entered_some (Some d) h c last is r e = e ∙ ap (way_to t) (sym (enters (count_tables earlier at) last (sym (entered_way t counts earlier at d h c) ∙ is)))

  off_entered : None ≡ way_to t at → (b : Bool) → None ≡ way_to t (if b then at else element at (count_tables earlier at - 1))
  off_entered h true = h
  off_entered h false = off t at (Index (count_tables earlier at - 1)) h

  pub entered_none : (way : Option ℕ) → way ≡ way_to t at → Counts counts t earlier → count_at counts way ≡ 0 → way ≡ way_to t (entered earlier at)
  entered_none None h c is = off_entered h (count_tables earlier at == 0)
  entered_none (Some d) h c is = h ∙ ap (way_to t) (sym (stays (count_tables earlier at) (sym (entered_way t counts earlier at d h c) ∙ is)))

-- one more element of an array of tables
module _ (t at : Address) (counts : List ℕ) (earlier : List Named) (c : Counts counts t earlier) (line : ℕ) where
  added : (d : ℕ) → count_tables (earlier ++ ends_tables line earlier at) (take d t) ≡ count_tables earlier (take d t) + one_or_none (same_address at (take d t))
  added d = count-append earlier (ends_tables line earlier at) (take d t) ∙ ap (λ n. count_tables earlier (take d t) + n) (count_element line earlier at (take d t))

  unadded : (d : ℕ) → d ≤ length t → same_address at (take d t) ≡ false → slice_index counts d ≡ count_tables (earlier ++ ends_tables line earlier at) (take d t)
  unadded d low apart =
      let a = c.each d low in
      let b = added d in
      let e : one_or_none (same_address at (take d t)) ≡ 0 = ap one_or_none apart in
      omega (arith, a, b, e)

  pub counts_off : None ≡ way_to t at → Counts counts t (earlier ++ ends_tables line earlier at)
  counts_off h = record {
    long = c.long;
    each = λ d low. unadded d low (take_apart t at d low (λ (e : Some d ≡ way_to t at). none-some d (h ∙ sym e)));
  }

  pub counts_on : (k : ℕ) → Some k ≡ way_to t at → Counts (slice_set counts k (count_tables earlier at + 1)) t (earlier ++ ends_tables line earlier at)
  counts_on k h =
      let low_k : k ≤ length t = way_low t at k h in
      let room : k < length counts = omega (arith, low_k, c.long) in
      record {
        long = length-set counts k (count_tables earlier at + 1) ∙ c.long;
        each = λ d low. elim (same_or_not d k) [
          | inl same ↦
              let here : slice_index (slice_set counts k (count_tables earlier at + 1)) k ≡ count_tables earlier at + 1 = get_or-set_same counts k (count_tables earlier at + 1) 0 room in
              let b = added k in
              let e : one_or_none (same_address at (take k t)) ≡ 1 = ap one_or_none (take_here t at k h) in
              let f : count_tables earlier (take k t) ≡ count_tables earlier at = ap (count_tables earlier) (sym (way_is_take t at k h)) in
              let g : slice_index (slice_set counts k (count_tables earlier at + 1)) k ≡ count_tables (earlier ++ ends_tables line earlier at) (take k t) = omega (arith, here, b, e, f) in
              subst (λ j. slice_index (slice_set counts k (count_tables earlier at + 1)) j ≡ count_tables (earlier ++ ends_tables line earlier at) (take j t)) (sym same) g
          | inr other ↦
              get_or-set_other counts k d (count_tables earlier at + 1) 0 other
              ∙ unadded d low (take_apart t at d low (λ (e : Some d ≡ way_to t at). other (let both : Some d ≡ Some k = e ∙ sym h in cc)))
        ];
      }
    where
      same_or_not : (a b : ℕ) → (a ≡ b) ⊎ (¬ (a ≡ b))
      same_or_not zero zero = inl refl
      same_or_not zero (suc b) = inr (λ (e : zero ≡ suc b). cc)
      same_or_not (suc a) zero = inr (λ (e : suc a ≡ zero). cc)
      same_or_not (suc a) (suc b) = elim (same_or_not a b) [ inl e ↦ inl (ap suc e) | inr other ↦ inr (λ (e : suc a ≡ suc b). other (omega arith)) ]

-- an element's way, by the count that was read
pub element_way : (t : Address) (counts : List ℕ) (earlier : List Named) (at : Address) (way : Option ℕ) → way ≡ way_to t at → Counts counts t earlier → (n : ℕ) → n ≡ count_at counts way
    → (r : Option ℕ) → r ≡ way_to t (element at n) → r ≡ way_to t (element at (count_tables earlier at))
element_way t counts earlier at None h c n is r e = e ∙ (sym (off t at (Index n) h) ∙ off t at (Index (count_tables earlier at)) h)
element_way t counts earlier at (Some d) h c n is r e = e ∙ ap (λ m. way_to t (element at m)) (is ∙ entered_way t counts earlier at d h c)

-- the counts behind one more element
pub element_counts : (at : Address) (earlier : List Named) (line : ℕ) → count_tables earlier at < most_lines → (mid set new : Seeker) (way : Option ℕ) → way ≡ way_to mid.target.now at
    → Counts mid.tables.items mid.target.now earlier → (n : ℕ) → n ≡ count_at mid.tables.items way → (m : ℕ) → (n < most_lines → m ≡ n + 1) → set.tables.items ≡ set_at mid.tables.items way m
    → set ≡ record mid { tables = set.tables } → {xs : List Sight} → Sees set new xs → Counts new.tables.items new.target.now (earlier ++ ends_tables line earlier at)
element_counts at earlier line few mid set new None h c n is m more tables_is set_is sees =
    let target_is : new.target ≡ mid.target = sees.target ∙ ap (λ (s : Seeker). s.target) set_is in
    let items_is : new.tables.items ≡ mid.tables.items = ap (λ v. v.items) sees.tables ∙ tables_is in
    subst (λ l. Counts l new.target.now (earlier ++ ends_tables line earlier at)) (sym items_is)
    (subst (λ t. Counts mid.tables.items t.now (earlier ++ ends_tables line earlier at)) (sym target_is) (counts_off mid.target.now at mid.tables.items earlier c line h))
element_counts at earlier line few mid set new (Some d) h c n is m more tables_is set_is sees =
    let target_is : new.target ≡ mid.target = sees.target ∙ ap (λ (s : Seeker). s.target) set_is in
    let count_is : n ≡ count_tables earlier at = is ∙ entered_way mid.target.now mid.tables.items earlier at d h c in
    let m_is : m ≡ count_tables earlier at + 1 = more (omega (arith, few, count_is)) ∙ ap (λ k. k + 1) count_is in
    let items_is : new.tables.items ≡ slice_set mid.tables.items d (count_tables earlier at + 1) = ap (λ v. v.items) sees.tables ∙ (tables_is ∙ ap (slice_set mid.tables.items d) m_is) in
    subst (λ l. Counts l new.target.now (earlier ++ ends_tables line earlier at)) (sym items_is)
    (subst (λ t. Counts (slice_set mid.tables.items d (count_tables earlier at + 1)) t.now (earlier ++ ends_tables line earlier at)) (sym target_is)
    (counts_on mid.target.now at mid.tables.items earlier c line d h))

-- both its mentions were seen
pub element_seen_both : (old mid set new : Seeker) (at : Address) (earlier : List Named) (p : Piece) → Sees old mid (sights old.target.now (part_at Tables at p ∷ [])) → set ≡ record mid { tables = set.tables }
    → Sees set new (sights set.target.now (part_at Element (element at (count_tables earlier at)) p ∷ []))
    → (ss : List Sight) → IsSeen old.firsts.items old.clash ss → IsSeen new.firsts.items new.clash (ss ++ sights old.target.now (tables_parts earlier at p))
element_seen_both old mid set new at earlier p first set_is second ss h =
    let q = part_at Element (element at (count_tables earlier at)) p in
    let t = old.target.now in
    let target_is : set.target ≡ old.target = ap (λ (s : Seeker). s.target) set_is ∙ first.target in
    let here : IsSeen set.firsts.items set.clash (ss ++ sights t (part_at Tables at p ∷ [])) =
    subst (λ (s : Seeker). IsSeen s.firsts.items s.clash (ss ++ sights t (part_at Tables at p ∷ []))) (sym set_is) (first.seen ss h) in
    let after = second.seen (ss ++ sights t (part_at Tables at p ∷ [])) here in
    let there : IsSeen new.firsts.items new.clash ((ss ++ sights t (part_at Tables at p ∷ [])) ++ sights t (q ∷ [])) =
    subst (λ o. IsSeen new.firsts.items new.clash ((ss ++ sights t (part_at Tables at p ∷ [])) ++ sights o.now (q ∷ []))) target_is after in
    subst (IsSeen new.firsts.items new.clash)
    (append_assoc ss (sights t (part_at Tables at p ∷ [])) (sights t (q ∷ [])) ∙ ap (λ l. ss ++ l) (sym (sights-append t (part_at Tables at p ∷ []) (q ∷ [])))) there

-- behind the header of a table
module _ (old mid last new : Seeker) (earlier : List Named) (n line : ℕ) (k : Key) (way : Option ℕ) (p : Piece) (stands : Stands old earlier n) (fronts : IsFrontOf old mid earlier k way p) where
  q : Address
  q = child fronts.at (part_name p)

  pub table_taken : (to : Option ℕ) → to ≡ way_to mid.target.now (child fronts.at (part_name p)) → Sees mid last (sights mid.target.now (part_at Header (child fronts.at (part_name p)) p ∷ []))
      → new ≡ record last { section = to } → Takes old new (earlier ++ followed line earlier (ends_table line) [] (key_names k)) (n + 1) (sights old.target.now (followed_parts earlier table_parts [] k.first k.rest))
  table_taken to is sees new_is =
      let at = child fronts.at (part_name p) in
      let more = passes line fronts.done ++ ends_table line at in
      let names : followed line earlier (ends_table line) [] (key_names k) ≡ more = fronts.names line (ends_table line) in
      let all : Sees old last (sights old.target.now (fronts.done ++ part_at Header at p ∷ [])) = sees_then old mid last fronts.done (part_at Header at p ∷ []) fronts.sees sees in
      let none : (x : Address) → count_tables more x ≡ 0 =
      λ x.
      let a = count-append (passes line fronts.done) (ends_table line at) x in
      let b = count_passes line fronts.done x in
      let c = count_table line at x in
      omega (arith, a, b, c) in
      let section_is : section (earlier ++ more) ≡ at =
      section_from-append earlier more [] ∙ section_from-append (passes line fronts.done) (ends_table line at) (section earlier) in
      let target_is : new.target ≡ old.target = ap (λ (s : Seeker). s.target) new_is ∙ all.target in
      let tables_is : new.tables ≡ old.tables = ap (λ (s : Seeker). s.tables) new_is ∙ all.tables in
      let counts : Counts new.tables.items new.target.now earlier =
      subst (λ ts. Counts ts.items new.target.now earlier) (sym tables_is) (subst (λ t. Counts old.tables.items t.now earlier) (sym target_is) stands.counts) in
      let seen : (ss : List Sight) → IsSeen old.firsts.items old.clash ss → IsSeen new.firsts.items new.clash (ss ++ sights old.target.now (fronts.done ++ part_at Header at p ∷ [])) =
      λ ss h. subst (λ (s : Seeker). IsSeen s.firsts.items s.clash (ss ++ sights old.target.now (fronts.done ++ part_at Header at p ∷ []))) (sym new_is) (all.seen ss h) in
      record {
        target = target_is;
        stands = subst (λ l. Stands new (earlier ++ l) (n + 1)) (sym names) (record {
          counts = same_counts new.tables.items new.target.now earlier more none counts;
          section = ap (λ (s : Seeker). s.section) new_is ∙ (is ∙ (ap (λ t. way_to t.now at) (fronts.sees.target ∙ sym target_is) ∙ ap (way_to new.target.now) (sym section_is)));
          few = λ x.
              let a = none x in
              let b = stands.few x in
              let c = count-append earlier more x in
              omega (arith, a, b, c);
        });
        seen = λ ss h. subst (λ l. IsSeen new.firsts.items new.clash (ss ++ sights old.target.now l)) (sym (fronts.parts table_parts)) (seen ss h);
      }

  pub array_taken : (to : Option ℕ) → TakesElement mid last (child fronts.at (part_name p)) earlier p to → new ≡ record last { section = to }
      → Takes old new (earlier ++ followed line earlier (ends_tables line earlier) [] (key_names k)) (n + 1) (sights old.target.now (followed_parts earlier (tables_parts earlier) [] k.first k.rest))
  array_taken to taken new_is =
      let at = child fronts.at (part_name p) in
      let end = ends_tables line earlier at in
      let more = passes line fronts.done ++ end in
      let names : followed line earlier (ends_tables line earlier) [] (key_names k) ≡ more = fronts.names line (ends_tables line earlier) in
      let target_is : new.target ≡ old.target = ap (λ (s : Seeker). s.target) new_is ∙ (taken.target ∙ fronts.sees.target) in
      let counts_end : Counts new.tables.items new.target.now (earlier ++ end) =
      subst (λ (s : Seeker). Counts s.tables.items s.target.now (earlier ++ end)) (sym new_is) (taken.counts line) in
      let same : (x : Address) → count_tables (earlier ++ more) x ≡ count_tables (earlier ++ end) x =
      λ x.
      let a = count-append earlier more x in
      let b = count-append (passes line fronts.done) end x in
      let c = count_passes line fronts.done x in
      let d = count-append earlier end x in
      omega (arith, a, b, c, d) in
      let section_is : section (earlier ++ more) ≡ element at (count_tables earlier at) =
      section_from-append earlier more [] ∙ section_from-append (passes line fronts.done) end (section earlier) in
      let mid_old : mid.target ≡ old.target = fronts.sees.target in
      let seen : (ss : List Sight) → IsSeen old.firsts.items old.clash ss → IsSeen last.firsts.items last.clash (ss ++ sights old.target.now (fronts.done ++ tables_parts earlier at p)) =
      λ ss h.
      let first = taken.seen (ss ++ sights old.target.now fronts.done) (fronts.sees.seen ss h) in
      let here = subst (λ t. IsSeen last.firsts.items last.clash ((ss ++ sights old.target.now fronts.done) ++ sights t.now (tables_parts earlier at p))) mid_old first in
      subst (IsSeen last.firsts.items last.clash)
      (append_assoc ss (sights old.target.now fronts.done) (sights old.target.now (tables_parts earlier at p)) ∙ ap (λ l. ss ++ l) (sym (sights-append old.target.now fronts.done (tables_parts earlier at p)))) here in
      record {
        target = target_is;
        stands = subst (λ l. Stands new (earlier ++ l) (n + 1)) (sym names) (record {
          counts = record { long = counts_end.long; each = λ d low. counts_end.each d low ∙ sym (same (take d new.target.now)) };
          section = ap (λ (s : Seeker). s.section) new_is
              ∙ (taken.is ∙ (ap (λ t. way_to t.now (element at (count_tables earlier at))) (mid_old ∙ sym target_is) ∙ ap (way_to new.target.now) (sym section_is)));
          few = λ x.
              let a = same x in
              let b = stands.few x in
              let c = count-append earlier end x in
              let d = count_element line earlier at x in
              let e = at_most (same_address at x) in
              omega (arith, a, b, c, d, e);
        });
        seen = λ ss h.
            subst (λ l. IsSeen new.firsts.items new.clash (ss ++ sights old.target.now l)) (sym (fronts.parts (tables_parts earlier)))
            (subst (λ (s : Seeker). IsSeen s.firsts.items s.clash (ss ++ sights old.target.now (fronts.done ++ tables_parts earlier at p))) (sym new_is) (seen ss h));
      }
    where
      at_most : (b : Bool) → one_or_none b ≤ 1
      at_most true = omega arith
      at_most false = omega arith

-- behind a pair
pub pair_taken : (old new : Seeker) (ws : Piece) (k : KeyVal) (tail : Blank) → ((earlier : List Named) (n : ℕ) → Stands old earlier n → Sees old new (sights old.target.now (pair_parts (section earlier) k.assign k.value)))
    → TakesExpr old new (KeyValLine ws k tail)
pair_taken old new ws k tail f earlier n line stands few =
    let sees = f earlier n stands in
    let alike = pairs_leave_alike earlier line (section earlier) k.assign k.value in
    let more = pair_named line (section earlier) k.assign k.value in
    let counts : Counts new.tables.items new.target.now earlier =
    subst (λ ts. Counts ts.items new.target.now earlier) (sym sees.tables) (subst (λ t. Counts old.tables.items t.now earlier) (sym sees.target) stands.counts) in
    record {
      target = sees.target;
      stands = record {
        counts = record { long = counts.long; each = λ d low. counts.each d low ∙ sym (alike.counts (take d new.target.now)) };
        section = sees.section ∙ (stands.section ∙ (ap (λ t. way_to t.now (section earlier)) (sym sees.target) ∙ ap (way_to new.target.now) (sym alike.sections)));
        few = λ x.
            let a = alike.counts x in
            let b = stands.few x in
            omega (arith, a, b);
      };
      seen = sees.seen;
    }

pub keyval_taken : (old new : Seeker) (r : Result (Unit {0}) AllocError) (ws : Piece) (k : KeyVal) (tail : Blank)
    → ((at : Address) → old.section ≡ way_to old.target.now at → OnOk r (Sees old new (sights old.target.now (pair_parts at k.assign k.value)))) → OnOk r (TakesExpr old new (KeyValLine ws k tail))
keyval_taken old new (Ok u) ws k tail f = pair_taken old new ws k tail (λ earlier n stands. f (section earlier) stands.section)
keyval_taken old new (Err e) ws k tail f = tt

-- behind a blank line
pub blank_taken : (s : Seeker) (b : Blank) → TakesExpr s s (BlankLine b)
blank_taken s b earlier n line stands few = record {
  target = refl;
  stands = subst (λ l. Stands s l (n + 1)) (sym (append-nil earlier)) (record {
    counts = stands.counts;
    section = stands.section;
    few = λ x.
        let a = stands.few x in
        omega (arith, a);
  });
  seen = λ ss h. subst (IsSeen s.firsts.items s.clash) (sym (append-nil ss)) h;
}
