-- The first header line behind the last one of an element.
use Rattle.std.proofs.Common.{◌≡◌, ◌∙◌, ◌⊎◌, inl, inr, ℕ, zero, suc, ◌+◌, ◌<◌, Bool, true, false, ◌||◌, cond, List, [], ◌∷◌, ◌++◌, length, take, Option, Some, None, refl, ap, ap₂, sym, subst, append_assoc, append-nil, true≢false}
use Rattle.std.specs.Prelude.{option_map, slice_get}
use Rattle.std.proofs.lemmas.List.{append_cancel_right}
use Rattle.std.proofs.lemmas.List.Folds.{list_any-append}
use Rattle.std.proofs.lemmas.Option.{slice_get_within}
use Rattle.toml_names.specs.model.Addresses.{Address}
use Rattle.toml_tree.specs.Spells.{EachIs}
use Rattle.toml_working.specs.declared.lines.Seen.{Seen}
use Rattle.toml_working.specs.declared.lines.Slot.{Slot}
use Rattle.toml_working.specs.declared.lines.Sought.TheVariants as sought
use Rattle.toml_working.specs.declared.sections.Walk.{Walk}
use Rattle.toml_working.specs.declared.sections.Walk.TheVariants as walks
use Rattle.toml_working.specs.declared.working.Position.{Position}
use Rattle.toml_working.specs.Headers.{StandInTurn, before_header, before_next, begins_later, has_below}
use Rattle.toml_working.specs.NextHeaders.{IsNext, Walked, WalksPast}
use Rattle.toml_working.specs.Placing.{IsNoHeader, is_header, lines_before, lines_from}
use Rattle.toml_working.specs.Seeing.{IsSoughtAt, found, heads_below, is_sought_line, line_at, seen}
use Rattle.toml_working.specs.Standing.{Standing, Read, lies_below, slot_standing, slots_standing}
use Rattle.toml_working.proofs.AtPlace.{slot_of}
use Rattle.toml_working.proofs.Each.{each_append}
use Rattle.toml_working.proofs.LookedUp.{before_first}
use Rattle.toml_working.proofs.Placed.{from_line, one_seen, split_at}
use Rattle.toml_working.proofs.Sectioned.{header_here}

-- ---- lists of lines

module _ (e : Address) where
  -- what is no header is none at the element or below it
  pub no_header_below : (s : Standing) → IsNoHeader s → is_sought_line sought.HeaderBelow e s ≡ false
  no_header_below s not = by s.base s.address not
    where
      by : (base : Option ℕ) (own : Option Address) → is_header base own ≡ false → heads_below e base own ≡ false
      by (Some n) own h = refl
      by None None h = refl
      by None (Some a) h = cc

  pub has_both : (xs ys : List Standing) → has_below e (xs ++ ys) ≡ (has_below e xs || has_below e ys)
  has_both xs ys = list_any-append (is_sought_line sought.HeaderBelow e) xs ys

  none_of_both : (xs ys : List Standing) → has_below e xs ≡ false → has_below e ys ≡ false → has_below e (xs ++ ys) ≡ false
  none_of_both xs ys h k = has_both xs ys ∙ ap (λ b. b || has_below e ys) h ∙ k

  pub none_in_heads : (xs : List Standing) → EachIs IsNoHeader xs → has_below e xs ≡ false
  none_in_heads [] h = refl
  none_in_heads (x ∷ xs) h = ap (λ b. b || has_below e xs) (no_header_below x h.0) ∙ none_in_heads xs h.1

  or_true : (b : Bool) → (b || true) ≡ true
  or_true true = refl
  or_true false = refl

  has_there : (front : List Standing) (h : Standing) (back : List Standing) → is_sought_line sought.HeaderBelow e h ≡ true → has_below e (front ++ h ∷ back) ≡ true
  has_there front h back is = has_both front (h ∷ back) ∙ ap (λ b. has_below e front || (b || has_below e back)) is ∙ or_true (has_below e front)

  front_none : (xs ys : List Standing) → has_below e (xs ++ ys) ≡ false → (has_below e xs ≡ false) × (has_below e ys ≡ false)
  front_none xs ys h = by (has_below e xs) (has_below e ys) (sym (has_both xs ys) ∙ h)
    where
      by : (a b : Bool) → (a || b) ≡ false → (a ≡ false) × (b ≡ false)
      by true b h = absurd (true≢false h)
      by false b h = (refl, h)

  -- the new line goes before the header
  before_this : (new : Standing) (between : List Standing) (line : Standing) (tail : List Standing) → EachIs IsNoHeader between → is_header line.base line.address ≡ true
      → before_header new (between ++ line ∷ tail) ≡ Some (between ++ new ∷ line ∷ tail)
  before_this new [] line tail heads is = ap (λ b. cond b (Some (new ∷ line ∷ tail)) (option_map (λ r. line ∷ r) (before_header new tail))) is
  before_this new (x ∷ between) line tail heads is =
      ap (λ b. cond b (Some (new ∷ x ∷ (between ++ line ∷ tail))) (option_map (λ r. x ∷ r) (before_header new (between ++ line ∷ tail)))) heads.0
      ∙ ap (option_map (λ r. x ∷ r)) (before_this new between line tail heads.1 is)

  before_none : (new : Standing) (between : List Standing) → EachIs IsNoHeader between → before_header new between ≡ None
  before_none new [] heads = refl
  before_none new (x ∷ between) heads =
      ap (λ b. cond b (Some (new ∷ x ∷ between)) (option_map (λ r. x ∷ r) (before_header new between))) heads.0
      ∙ ap (option_map (λ r. x ∷ r)) (before_none new between heads.1)

  -- one step of what is looked for
  abbrev step : Standing → Standing → List Standing → Bool → Bool → Option (List Standing)
  step new s ss more here = option_map (λ r. s ∷ r) (cond more (before_next e new ss) (cond here (before_header new ss) None))

  at_last : (new head : Standing) (ss : List Standing) → has_below e ss ≡ false → is_sought_line sought.HeaderBelow e head ≡ true
      → before_next e new (head ∷ ss) ≡ option_map (λ r. head ∷ r) (before_header new ss)
  at_last new head ss none here =
      ap (λ b. step new head ss b (is_sought_line sought.HeaderBelow e head)) none ∙ ap (λ b. step new head ss false b) here

  go_on : (new s : Standing) (ss : List Standing) → has_below e ss ≡ true → before_next e new (s ∷ ss) ≡ option_map (λ r. s ∷ r) (before_next e new ss)
  go_on new s ss more = ap (λ b. step new s ss b (is_sought_line sought.HeaderBelow e s)) more

  -- before the first header behind the last one of the element
  pub next_in : (new : Standing) (front : List Standing) (head : Standing) (between : List Standing) (line : Standing) (tail : List Standing)
      → is_sought_line sought.HeaderBelow e head ≡ true → EachIs IsNoHeader between → is_header line.base line.address ≡ true → has_below e (line ∷ tail) ≡ false
      → before_next e new (front ++ head ∷ (between ++ line ∷ tail)) ≡ Some (front ++ head ∷ (between ++ new ∷ line ∷ tail))
  next_in new [] head between line tail below heads is none =
      at_last new head (between ++ line ∷ tail) (none_of_both between (line ∷ tail) (none_in_heads between heads) none) below
      ∙ ap (option_map (λ r. head ∷ r)) (before_this new between line tail heads is)
  next_in new (x ∷ front) head between line tail below heads is none =
      go_on new x (front ++ head ∷ (between ++ line ∷ tail)) (has_there front head (between ++ line ∷ tail) below)
      ∙ ap (option_map (λ r. x ∷ r)) (next_in new front head between line tail below heads is none)

  -- where no header follows, or none of the element stands there
  pub next_none : (new : Standing) (front : List Standing) (head : Standing) (between : List Standing)
      → is_sought_line sought.HeaderBelow e head ≡ true → EachIs IsNoHeader between → before_next e new (front ++ head ∷ between) ≡ None
  next_none new [] head between below heads =
      at_last new head between (none_in_heads between heads) below ∙ ap (option_map (λ r. head ∷ r)) (before_none new between heads)
  next_none new (x ∷ front) head between below heads =
      go_on new x (front ++ head ∷ between) (has_there front head between below)
      ∙ ap (option_map (λ r. x ∷ r)) (next_none new front head between below heads)

  alone_none : (s : Standing) → has_below e (s ∷ []) ≡ false → is_sought_line sought.HeaderBelow e s ≡ false
  alone_none s h = by (is_sought_line sought.HeaderBelow e s) h
    where
      by : (b : Bool) → (b || false) ≡ false → b ≡ false
      by true h = absurd (true≢false h)
      by false h = refl

  pub never_next : (new : Standing) (ss : List Standing) → has_below e ss ≡ false → before_next e new ss ≡ None
  never_next new [] none = refl
  never_next new (s ∷ ss) none =
      let parts = front_none (s ∷ []) ss none in
      let here : is_sought_line sought.HeaderBelow e s ≡ false = alone_none s parts.0 in
      ap (λ b. step new s ss b (is_sought_line sought.HeaderBelow e s)) parts.1 ∙ ap (λ b. step new s ss false b) here

-- ---- a walk

module _ (e : Address) (read : Read) (slots : List Slot) (all : List Standing) where
  -- past one that is none of the element
  more_behind : (s : Standing) (rest : List Standing) (next : Position) → is_sought_line sought.HeaderBelow e s ≡ false → IsNext e read slots all (s ∷ rest) next
      → IsNext e read slots all rest next
  more_behind s rest next not h = record {
    front = h.front;
    head = h.head;
    between = h.between;
    line = h.line;
    more = h.more ++ s ∷ [];
    is = h.is ∙ ap (λ r. h.front ++ h.head ∷ (h.between ++ h.line ∷ r)) (sym (append_assoc h.more (s ∷ []) rest));
    below = h.below;
    heads = h.heads;
    header = h.header;
    none = none_of_both e (h.line ∷ h.more) (s ∷ []) h.none (ap (λ b. b || false) not);
    there = h.there;
    from = h.from ∙ ap (λ r. h.line ∷ r) (sym (append_assoc h.more (s ∷ []) rest));
  }

  -- what was passed, where a header was met behind those of the element
  next_passed : (rest : List Standing) (next : Position) → IsNext e read slots all rest next → (front : List Standing) × (all ≡ front ++ rest)
  next_passed rest next h = (
    h.front ++ h.head ∷ (h.between ++ h.line ∷ h.more),
    h.is ∙ ap (λ r. h.front ++ h.head ∷ r) (sym (append_assoc h.between (h.line ∷ h.more) rest))
        ∙ sym (append_assoc h.front (h.head ∷ (h.between ++ h.line ∷ h.more)) rest),
  )

  -- past a line that is no header
  pub past_other : (s : Standing) (rest : List Standing) → IsNoHeader s → (walk : Walk) → Walked e read slots all (s ∷ rest) walk → Walked e read slots all rest walk
  past_other s rest not walks.Before h = record {
    passed = h.passed ++ s ∷ [];
    is = h.is ∙ sym (append_assoc h.passed (s ∷ []) rest);
    none = none_of_both e h.passed (s ∷ []) h.none (none_in_heads e (s ∷ []) (not, tt));
  }
  past_other s rest not walks.Within h = record {
    front = h.front;
    head = h.head;
    between = h.between ++ s ∷ [];
    is = h.is ∙ ap (λ r. h.front ++ h.head ∷ r) (sym (append_assoc h.between (s ∷ []) rest));
    below = h.below;
    heads = each_append IsNoHeader h.between (s ∷ []) h.heads (not, tt);
  }
  past_other s rest not (walks.Behind next) h = more_behind s rest next (no_header_below e s not) h
  past_other s rest not (walks.Ended next) h =
      (more_behind s rest next (no_header_below e s not) h.0, (front_none e (s ∷ []) rest h.1).1)

  -- past one, once the walk has ended
  pub past_ended : (s : Standing) (rest : List Standing) (next : Position) → Walked e read slots all (s ∷ rest) (walks.Ended next)
      → Walked e read slots all rest (walks.Ended next)
  past_ended s rest next h =
      let parts = front_none e (s ∷ []) rest h.1 in
      (more_behind s rest next (alone_none e s parts.0) h.0, parts.1)

  -- what was passed
  passed_so : (rest : List Standing) (walk : Walk) → Walked e read slots all rest walk → (front : List Standing) × (all ≡ front ++ rest)
  passed_so rest walks.Before h = (h.passed, h.is)
  passed_so rest walks.Within h =
      (h.front ++ h.head ∷ h.between, h.is ∙ sym (append_assoc h.front (h.head ∷ h.between) rest))
  passed_so rest (walks.Behind next) h = next_passed rest next h
  passed_so rest (walks.Ended next) h = next_passed rest next h.0

  -- a header of the element
  header_below : (s : Standing) → is_header s.base s.address ≡ true → lies_below e s.address ≡ true → is_sought_line sought.HeaderBelow e s ≡ true
  header_below s header below = by s.base s.address header below
    where
      by : (base : Option ℕ) (own : Option Address) → is_header base own ≡ true → lies_below e own ≡ true → heads_below e base own ≡ true
      by (Some n) own h k = cc
      by None own h k = k

  header_other : (s : Standing) → lies_below e s.address ≡ false → is_sought_line sought.HeaderBelow e s ≡ false
  header_other s other = by s.base
    where
      by : (base : Option ℕ) → heads_below e base s.address ≡ false
      by (Some n) = refl
      by None = other

  pub past_below : (s : Standing) (rest : List Standing) → is_header s.base s.address ≡ true → lies_below e s.address ≡ true → (walk : Walk)
      → Walked e read slots all (s ∷ rest) walk → Walked e read slots all rest walks.Within
  past_below s rest header below walk h =
      let (front, is) = passed_so (s ∷ rest) walk h in
      record { front = front; head = s; between = []; is = is; below = header_below s header below; heads = tt }

  -- another header before those of the element
  pub past_before : (s : Standing) (rest : List Standing) → lies_below e s.address ≡ false → Walked e read slots all (s ∷ rest) walks.Before
      → Walked e read slots all rest walks.Before
  past_before s rest other h = record {
    passed = h.passed ++ s ∷ [];
    is = h.is ∙ sym (append_assoc h.passed (s ∷ []) rest);
    none = none_of_both e h.passed (s ∷ []) h.none (ap (λ b. b || false) (header_other s other));
  }

  -- and behind them
  met : (s : Standing) (rest : List Standing) (next : Position) (ends : Bool) (walk : Walk) → begins_later e s.base s.address ≡ ends → StandInTurn e all
      → (front : List Standing) → all ≡ front ++ s ∷ rest → IsNext e read slots all rest next
      → (ends ≡ true → walk ≡ walks.Ended next) → (ends ≡ false → walk ≡ walks.Behind next) → Walked e read slots all rest walk
  met s rest next true walk later together front is found ended behind =
      subst (Walked e read slots all rest) (sym (ended refl)) (found, together.last front s rest is later)
  met s rest next false walk later together front is found ended behind = subst (Walked e read slots all rest) (sym (behind refl)) found

  pub past_within : (s : Standing) (rest : List Standing) (at : Position) (ends : Bool) (walk : Walk) → is_header s.base s.address ≡ true
      → lies_below e s.address ≡ false → begins_later e s.base s.address ≡ ends → StandInTurn e all → line_at read slots at ≡ Some s
      → lines_from read slots at.slot at.index ≡ s ∷ rest → Walked e read slots all (s ∷ rest) walks.Within
      → (ends ≡ true → walk ≡ walks.Ended at) → (ends ≡ false → walk ≡ walks.Behind at) → Walked e read slots all rest walk
  past_within s rest at ends walk header other later together there from h ended behind =
      let (front, is) = passed_so (s ∷ rest) walks.Within h in
      met s rest at ends walk later together front is (record {
        front = h.front;
        head = h.head;
        between = h.between;
        line = s;
        more = [];
        is = h.is;
        below = h.below;
        heads = h.heads;
        header = header;
        none = ap (λ b. b || false) (header_other s other);
        there = there;
        from = from;
      }) ended behind

  pub past_behind : (s : Standing) (rest : List Standing) (next : Position) (ends : Bool) (walk : Walk) → lies_below e s.address ≡ false
      → begins_later e s.base s.address ≡ ends → StandInTurn e all → Walked e read slots all (s ∷ rest) (walks.Behind next)
      → (ends ≡ true → walk ≡ walks.Ended next) → (ends ≡ false → walk ≡ walks.Behind next) → Walked e read slots all rest walk
  past_behind s rest next ends walk other later together h ended behind =
      let (front, is) = passed_so (s ∷ rest) (walks.Behind next) h in
      met s rest next ends walk later together front is (more_behind s rest next (header_other s other) h) ended behind

-- ---- what is found

module _ (e : Address) (read : Read) (slots : List Slot) where
  abbrev all : List Standing
  all = slots_standing read slots

  -- before the slot from which the walk begins
  pub walk_begins : (k : ℕ) → has_below e (lines_before read slots k 0) ≡ false → Walked e read slots all (lines_from read slots k 0) walks.Before
  walk_begins k none = record { passed = lines_before read slots k 0; is = split_at read slots k 0; none = none }

  -- the line goes before the one at the place
  pub next_put : (rest : List Standing) (next : Position) → IsNext e read slots all rest next → has_below e rest ≡ false → (next.slot < length slots)
      × ((new : Standing) → before_next e new all ≡ Some (lines_before read slots next.slot next.index ++ new ∷ lines_from read slots next.slot next.index))
  next_put rest next h none =
      let tail = h.more ++ rest in
      let (slot, slot_is, own) = slot_of read slots next h.line h.there in
      let after : has_below e (h.line ∷ tail) ≡ false = none_of_both e (h.line ∷ h.more) rest h.none none in
      let split : all ≡ lines_before read slots next.slot next.index ++ h.line ∷ tail =
      split_at read slots next.slot next.index ∙ ap (λ r. lines_before read slots next.slot next.index ++ r) h.from in
      let front : lines_before read slots next.slot next.index ≡ h.front ++ h.head ∷ h.between =
      append_cancel_right _ _ (h.line ∷ tail) (sym split ∙ h.is ∙ sym (append_assoc h.front (h.head ∷ h.between) (h.line ∷ tail))) in (
        slice_get_within slots next.slot slot slot_is,
        λ new.
            ap (before_next e new) h.is ∙ next_in e new h.front h.head h.between h.line tail h.below h.heads h.header after
            ∙ ap Some (sym (append_assoc h.front (h.head ∷ h.between) (new ∷ h.line ∷ tail)) ∙ ap₂ (λ f r. f ++ new ∷ r) (sym front) (sym h.from)),
      )

  -- or there is none, where no line is left
  none_before : (rest : List Standing) → rest ≡ [] → Walked e read slots all rest walks.Before → (new : Standing) → before_next e new all ≡ None
  none_before rest left h new =
      never_next e new all (ap (has_below e) (h.is ∙ ap (λ r. h.passed ++ r) left) ∙ has_both e h.passed [] ∙ ap (λ b. b || false) h.none)

  none_within : (rest : List Standing) → rest ≡ [] → Walked e read slots all rest walks.Within → (new : Standing) → before_next e new all ≡ None
  none_within rest left h new =
      ap (before_next e new) (h.is ∙ ap (λ r. h.front ++ h.head ∷ (h.between ++ r)) left ∙ ap (λ r. h.front ++ h.head ∷ r) (append-nil h.between))
      ∙ next_none e new h.front h.head h.between h.below h.heads

  pub none_left : (rest : List Standing) (walk : Walk) → rest ≡ [] → Walked e read slots all rest walk → (walk ≡ walks.Before) ⊎ (walk ≡ walks.Within)
      → (new : Standing) → before_next e new all ≡ None
  none_left rest walk left walked (inl is) = none_before rest left (subst (Walked e read slots all rest) is walked)
  none_left rest walk left walked (inr is) = none_within rest left (subst (Walked e read slots all rest) is walked)

  pub one_left : (rest : List Standing) (walk : Walk) (next : Position) → rest ≡ [] → Walked e read slots all rest walk
      → (walk ≡ walks.Behind next) ⊎ (walk ≡ walks.Ended next) → (next.slot < length slots)
      × ((new : Standing) → before_next e new all ≡ Some (lines_before read slots next.slot next.index ++ new ∷ lines_from read slots next.slot next.index))
  one_left rest walk next left walked (inl is) = next_put rest next (subst (Walked e read slots all rest) is walked) (ap (has_below e) left)
  one_left rest walk next left walked (inr is) = let ended = subst (Walked e read slots all rest) is walked in next_put rest next ended.0 ended.1

-- ---- where a walk begins

-- the lines before a slot are the first ones of those before a line of it
slot_first : (read : Read) (slots : List Slot) (k i : ℕ) → (more : List Standing) × (lines_before read slots k i ≡ lines_before read slots k 0 ++ more)
slot_first read [] k i = ([], refl)
slot_first read (s ∷ ss) zero i = (take i (slot_standing read s), refl)
slot_first read (s ∷ ss) (suc k) i =
    let (more, is) = slot_first read ss k i in
    (more, ap (λ r. slot_standing read s ++ r) is ∙ sym (append_assoc (slot_standing read s) (lines_before read ss k 0) more))

module _ (e : Address) (read : Read) (slots : List Slot) where
  pub first_none : has_below e (lines_before read slots 0 0) ≡ false
  first_none = ap (has_below e) (before_first read slots)

  pub first_at : (at : Position) → IsSoughtAt sought.Header e read slots at → StandInTurn e (slots_standing read slots)
      → has_below e (lines_before read slots at.slot 0) ≡ false
  first_at at found together =
      let (h, there, heads) = header_here e read slots at found in
      let (slot, slot_is, own) = slot_of read slots at h there in
      let split = split_at read slots at.slot at.index
      ∙ ap (λ r. lines_before read slots at.slot at.index ++ r) (from_line read slots at.slot at.index slot h slot_is own) in
      let (more, is) = slot_first read slots at.slot at.index in
      let none = together.first (lines_before read slots at.slot at.index) h (lines_from read slots at.slot (at.index + 1)) split heads in
      (front_none e (lines_before read slots at.slot 0) more (sym (ap (has_below e) is) ∙ none)).0

-- ---- a line of a slot

module _ (e : Address) (read : Read) (slots : List Slot) (k : ℕ) (slot : Slot) (there : slice_get slots k ≡ Some slot) (i : ℕ) (r : Option Seen) (x : Seen)
    (same : option_map seen r ≡ option_map found (slice_get (slot_standing read slot) i)) (is : r ≡ Some x) (all : List Standing) where
  -- a header is passed
  pub header_passed : (walk next : Walk) → is_header (seen x).base (seen x).address ≡ true → StandInTurn e all
      → WalksPast e x (record { slot = k; index = i }) walk next → Walked e read slots all (lines_from read slots k i) walk
      → Walked e read slots all (lines_from read slots k (i + 1)) next
  header_passed walk next header together past walked =
      let s = one_seen read slots k slot there i r x same is in
      past read slots all (lines_from read slots k (i + 1)) s.line
      (ap₂ (λ b a. record { address = a; base = b }) (sym s.base_is) (sym s.own_is))
      (ap₂ is_header s.base_is s.own_is ∙ header) s.stands s.from together (subst (λ ls. Walked e read slots all ls walk) s.from walked)

  -- and another line
  pub other_passed : (walk : Walk) → is_header (seen x).base (seen x).address ≡ false → Walked e read slots all (lines_from read slots k i) walk
      → Walked e read slots all (lines_from read slots k (i + 1)) walk
  other_passed walk other walked =
      let s = one_seen read slots k slot there i r x same is in
      past_other e read slots all s.line (lines_from read slots k (i + 1)) (ap₂ is_header s.base_is s.own_is ∙ other) walk
      (subst (λ ls. Walked e read slots all ls walk) s.from walked)
